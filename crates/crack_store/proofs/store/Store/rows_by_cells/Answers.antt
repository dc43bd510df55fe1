use Rattle.std.proofs.Common.{◌≡◌, ◌<◌, [], length, drop, refl, ap, arith, subst}
use Rattle.std.specs.List.Sorted.{IsPermutation}
use Rattle.std.proofs.lemmas.List.Sorted.{IsPermutation-refl}
use Rattle.std.proofs.lemmas.List.{length-take, length-drop}
use Rattle.crack_store.specs.Found.{all_of, live_below}
use Rattle.crack_store.proofs.store.Store.rows_by_cells.Goals as goal

pub runs-init : goal.runs-init
runs-init c = (omega arith, rw c.in_ok-found.ensures.rows (IsPermutation-refl []), c.in_ok-found.ensures.order)

pub add_live-requires-clause-rows : goal.add_live-requires-clause-rows
add_live-requires-clause-rows c = c.runs.invariant.1

pub add_live-requires-clause-order : goal.add_live-requires-clause-order
add_live-requires-clause-order c = c.runs.invariant.2

pub runs-smaller : goal.runs-smaller
runs-smaller c =
    let same : length c.args.self.now.cells ≡ length c.self.inside.inside.arena.cells = rw (← c.self.view_is) refl in
    let here : c.runs.slot < length c.self.inside.inside.arena.cells = omega (arith, c.runs-test.true, c.cells.ensures) in
    omega (arith, same, here, c.len-slot.ensures, c.cells_from-run.ensures.some here)

pub runs-preserved : goal.runs-preserved
runs-preserved c =
    let same : length c.args.self.now.cells ≡ length c.self.inside.inside.arena.cells = rw (← c.self.view_is) refl in
    let here : c.runs.slot < length c.self.inside.inside.arena.cells = omega (arith, c.runs-test.true, c.cells.ensures) in
    let part = ap length c.cells_from-run.ensures.cells in
    let whole = c.self.inside.inside.arena.cells in
    let long = length-take (length c.cells_from-run.result) (drop c.runs.slot whole) in
    let behind = length-drop c.runs.slot whole in (
      omega (arith, same, here, part, long, behind, c.len-slot.ensures),
      rw c.len-slot.ensures c.in_ok-add_live.ensures.rows,
      c.in_ok-add_live.ensures.order,
    )

pub returns-clause-rows : goal.returns-clause-rows
returns-clause-rows c =
    let same : length c.args.self.now.cells ≡ length c.self.inside.inside.arena.cells = rw (← c.self.view_is) refl in
    let all : c.runs.slot ≡ length c.args.self.now.cells = omega (arith, same, c.runs.invariant.0, c.runs-test.false, c.cells.ensures) in
    subst (λ slot. IsPermutation (live_below c.args.range slot c.args.self.now) (all_of c.runs.found)) all c.runs.invariant.1

pub returns-clause-order : goal.returns-clause-order
returns-clause-order c = c.runs.invariant.2
