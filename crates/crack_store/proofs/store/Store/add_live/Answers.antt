use Rattle.std.proofs.Common.{◌≡◌, ◌+◌, arith, sym, subst}
use Rattle.std.specs.List.Sorted.{IsPermutation}
use Rattle.crack_row.specs.Ranges.{in_range}
use Rattle.crack_arena.specs.Arena.{slots}
use Rattle.crack_state.specs.State.{live_at}
use Rattle.crack_store.specs.Found.{all_of, live_below}
use Rattle.crack_store.proofs.LiveLemmas.{found-next}
use Rattle.crack_store.proofs.store.Store.add_live.Goals as goal

pub cells-init : goal.cells-init
cells-init c =
    let none : c.args.slot + 0 ≡ c.args.slot = omega arith in
    (subst (λ slot. IsPermutation (live_below c.args.range slot c.args.self.now) (all_of c.args.found.now)) (sym none) c.requires.rows, c.requires.order)

pub add-requires : goal.add-requires
add-requires c = record { order = c.cells.invariant.1 }

pub cells-preserved : goal.cells-preserved
cells-preserved c =
    let next : c.args.slot + c.cells.place + 1 ≡ c.args.slot + (c.cells.place + 1) = omega arith in (
      rw next at (found-next (live_at c.args.self.now.cells (slots c.args.self.now.pending_out)) (in_range c.args.range) (c.args.slot + c.cells.place) c.live_in.result _ _ c.live_in.ensures c.cells.invariant.0 c.in_ok-add.ensures.rows),
      c.in_ok-add.ensures.order,
    )
