use Rattle.crack_store.proofs.RunLemmas.{IsRun}
use Rattle.crack_store.proofs.store.Store.insert_each.Given as goal

-- the rows before this index were inserted
abbrev pub invariant-rows : goal.invariant-rows
invariant-rows l = IsRun l.first.0 l.keys l.payloads l.initial.self l.i l.self
