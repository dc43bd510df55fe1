use Rattle.crack_store.proofs.ExchangeLemmas.{IsOnWay}
use Rattle.crack_store.proofs.evicting.put_rows.Given as goal

-- those that were passed are from the place on, and those that were there are after the list's last
abbrev pub invariant-handles : goal.invariant-handles
invariant-handles l = IsOnWay l.arena.cells l.from l.handles l.initial.column l.initial.rows l.i l.column l.rows
