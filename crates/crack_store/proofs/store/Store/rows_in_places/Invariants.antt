use Rattle.std.proofs.Common.{◌≡◌, ◌+◌, ◌≤◌, length}
use Rattle.std.specs.Prelude.{vec_capacity}
use Rattle.crack_state.specs.Stretch.{rows_within}
use Rattle.crack_store.proofs.store.Store.rows_in_places.Given as goal

abbrev pub invariant-places : goal.invariant-places
invariant-places l = (l.rows.items ≡ rows_within l.self l.from l.place) × (length l.rows.items + l.from ≡ l.place) × (l.to ≤ vec_capacity l.rows + l.from)
