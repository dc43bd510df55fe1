use Rattle.std.specs.Prelude.{◌≡◌, ℕ, List, ◌++◌, length, take}
use Rattle.crack_row.specs.declared.Row.{Row}
use Rattle.crack_core.specs.Listing.{AreInLists}
use Rattle.crack_core.specs.Inside.{of_part}
use Rattle.crack_core.proofs.listing.list_rows.Given as goal

abbrev pub invariant-rows : goal.invariant-rows
invariant-rows l =
    (before : List (ℕ × Row)) → length before ≡ l.from → AreInLists before l.initial.parts l.initial.serials l.initial.keys l.initial.payloads
    → AreInLists (before ++ of_part l.part (take l.i l.rows)) l.parts l.serials l.keys l.payloads
