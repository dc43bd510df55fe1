use Rattle.crack_store.proofs.FillLemmas.{IsFilling}
use Rattle.crack_store.proofs.filling.put_fillers.Given as goal

-- those that came in are before the place, and the others are left
abbrev pub invariant-fillers : goal.invariant-fillers
invariant-fillers l = IsFilling l.arena.cells l.fillers l.place l.count l.initial.column l.initial.rows l.i l.at l.column l.rows
