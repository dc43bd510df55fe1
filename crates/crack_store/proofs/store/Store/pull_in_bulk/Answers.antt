use Rattle.std.proofs.Common.{◌≡◌, [], ap, ◌∙◌, arith}
use Rattle.crack_state.specs.Pulled.{pulled_from, pulled_in_bulk}
use Rattle.crack_state.proofs.AllPulledLaws.{IsDrained-in_bulk}
use Rattle.crack_state.specs.State.{State, live_rows}
use Rattle.crack_state.proofs.LayoutLaws.{cells-intact, pending_out-few}
use Rattle.crack_store.specs.Inside.{lists_of}
use Rattle.crack_store.proofs.DrainLemmas.{handles-of, CanBePulled-in}
use Rattle.crack_store.proofs.store.Store.pull_in_bulk.Goals as goal
use Rattle.crack_store.proofs.store.Store.pull_in_bulk.Goals.{After-pull_rows}

pub doomed_in-requires-clause-few : goal.doomed_in-requires-clause-few
doomed_in-requires-clause-few c = rw c.close_up.ensures.same (omega (arith, pending_out-few (lists_of c.self.inside.inside) c.self.invariant.intact.owned, cells-intact (lists_of c.self.inside.inside) [] c.self.invariant.intact, c.self.invariant.intact.few_cells))

pub pull_rows-requires-clause-doomed : goal.pull_rows-requires-clause-doomed
pull_rows-requires-clause-doomed c =
    let s = lists_of c.self.inside.inside in
    rw c.close_up.ensures.same (CanBePulled-in c.args.range s c.in-Some.doomed.items c.self.invariant.intact (rw c.close_up.ensures.same at c.in-Some.ensures))

-- all were pulled
after : (c : After-pull_rows) → lists_of c.pull_rows.new.inside ≡ pulled_in_bulk c.args.range (lists_of c.self.inside.inside)
after c =
    let s = lists_of c.self.inside.inside in
    let handles = handles-of c.args.range s c.in-Some.doomed.items c.self.invariant.intact (rw c.close_up.ensures.same at c.in-Some.ensures) in
    (rw c.close_up.ensures.same at c.pull_rows.ensures.pulled) ∙ ap (λ hs. pulled_from hs s) handles

pub returns-clause-pulled : goal.returns-clause-pulled
returns-clause-pulled c = λ _. rw (← c.self.view_is) (after (goal.at.returns-clause-pulled c).After-pull_rows)

pub returns-clause-left : goal.returns-clause-left
returns-clause-left c = λ _.
    let s = lists_of c.self.inside.inside in
    rw (← c.self.view_is) (ap (λ (x : State). x.pending_out) (after (goal.at.returns-clause-left c).After-pull_rows) ∙ (IsDrained-in_bulk c.args.range s c.self.invariant.intact).pending_out)

pub returns-clause-live : goal.returns-clause-live
returns-clause-live c =
    let s = lists_of c.self.inside.inside in
    rw (← c.self.view_is) (ap live_rows (after (goal.at.returns-clause-live c).After-pull_rows) ∙ (IsDrained-in_bulk c.args.range s c.self.invariant.intact).live)
