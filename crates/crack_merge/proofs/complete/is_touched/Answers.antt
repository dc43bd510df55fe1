use Rattle.std.proofs.Common.{◌≡◌, ℕ, List, Option, Some, None, refl, sym, ◌∙◌}
use Rattle.std.specs.Prelude.{is_some}
use Rattle.std.specs.List.{list_any}
use Rattle.crack_row.specs.Ranges.{Range, is_in}
use Rattle.crack_row.specs.declared.Row.{Row}
use Rattle.crack_arena.specs.Arena.{Cell, Handle}
use Rattle.crack_arena.specs.Rows.{key_at, keys_at}
use Rattle.crack_pending.specs.Pending.{Finds}
use Rattle.crack_pending.proofs.Searches.{list_any-found, list_any-missed}
use Rattle.crack_merge.proofs.complete.is_touched.Goals as goal

-- a search of the whole list says whether any row of it has its key in the range
found_any : (cells : List (Cell Row)) (r : Range) (hs : List Handle) (found : Option ℕ) → Finds r (keys_at cells hs) 0 found → is_some found ≡ list_any (λ h. is_in r (key_at cells h)) hs
found_any cells r hs None finds = sym (list_any-missed r cells hs finds)
found_any cells r hs (Some place) finds = sym (list_any-found r cells hs 0 place finds)

pub returns-then-is_some : goal.returns-then-is_some
returns-then-is_some c =
    let some = sym (found_any c.args.store.now.cells c.args.range c.args.store.now.pending_in c.first_in.result c.first_in.ensures) ∙ sym c.is_some.ensures ∙ c.if-is_some.true in
    rw (c.if-is_some.true, some) refl

pub returns-else-is_some : goal.returns-else-is_some
returns-else-is_some c =
    let none = sym (found_any c.args.store.now.cells c.args.range c.args.store.now.pending_in c.first_in.result c.first_in.ensures) ∙ sym c.is_some.ensures ∙ c.if-is_some.false in
    rw none (c.is_some-else-is_some.ensures ∙ found_any c.args.store.now.cells c.args.range c.args.store.now.pending_out c.first_out.result c.first_out.ensures)
