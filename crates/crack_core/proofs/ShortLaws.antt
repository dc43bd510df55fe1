-- Where a partition may lack a cell.
use Rattle.std.specs.Prelude.{◌≡◌, ◌≤◌, ◌&&◌, ◌==◌, not, Bool, true, false, Some, is_some, length, nat_le}
use Rattle.std.proofs.Common.{arith, refl}
use Rattle.std.proofs.lemmas.Bool.{and_parts, leb-true}
use Rattle.crack_row.specs.Commands.{change_of, key_of}
use Rattle.crack_row.specs.declared.command.Command.{Command}
use Rattle.crack_row.specs.declared.command.Command.TheVariants.{Insert, Delete, Update, Count, Sum, Select}
use Rattle.crack_state.specs.State.{State}
use Rattle.crack_part.specs.Parts.{Part, IsSound, table_of}
use Rattle.crack_part.specs.Cells.{takes_cell, lacks_cell, may_clear, is_without_cell}
use Rattle.crack_part.specs.Upkeep.{is_automatic}
use Rattle.crack_part.proofs.ClearLaws.{full-of-rows}
use Rattle.crack_core.specs.Steps.{bounds_from, taken_where_full, MayLackCell}

-- a command that takes a cell has a key
brings-key : (s : State) (command : Command) → takes_cell s (change_of command) ≡ true → is_some (key_of command) ≡ true
brings-key s (Insert key payload) takes = refl
brings-key s (Delete serial) takes = cc takes
brings-key s (Update serial key payload) takes = refl
brings-key s (Count range) takes = cc takes
brings-key s (Sum range) takes = cc takes
brings-key s (Select range) takes = cc takes

-- a partition that is without one has as many cells taken as may be
many-taken : (p : Part) (command : Command) → IsSound p → is_without_cell p.limits p.store (change_of command) ≡ true → nat_le p.limits.cells (length p.store.cells) ≡ true → p.limits.cells ≤ taken_where_full p.limits (table_of p)
many-taken p command sound without many = by_test (is_automatic p.limits.upkeep) refl
  where
    by_test : (b : Bool) → is_automatic p.limits.upkeep ≡ b → p.limits.cells ≤ taken_where_full p.limits (table_of p)
    by_test true is = rw is (full-of-rows p (change_of command) sound is without)
    by_test false is = rw is (omega (arith, leb-true p.limits.cells (length p.store.cells) many, sound.few_cells))

pub may-lack : (p : Part) (command : Command) → IsSound p → is_without_cell p.limits p.store (change_of command) ≡ true → MayLackCell (bounds_from p.limits) (Some (table_of p)) command
may-lack p command sound without =
    let lacks = (and_parts (lacks_cell p.limits.cells p.store (change_of command)) (not (may_clear p.limits p.store)) without).0 in
    let takes = takes_cell p.store (change_of command) in
    let many = and_parts (nat_le p.limits.cells (length p.store.cells)) ((length p.store.free == 0) && takes) lacks in
    let none = and_parts (length p.store.free == 0) takes many.1 in
    (brings-key p.store command none.1, many-taken p command sound without many.0)
