use Rattle.std.proofs.Common.{◌≡◌, Some, None, sym, ◌∙◌, ap, arith, rules, to_z, of_z}
use Rattle.std.specs.Int.{w128}
use Rattle.std.proofs.lemmas.Int.{to_z-of_z}
use Rattle.crack_index.specs.declared.sums.TheConstants.{UNKNOWN}
use Rattle.crack_index.specs.Sums.{IsKnown}
use Rattle.crack_index.specs.Cuts.{StartsRise, span}
use Rattle.crack_index.specs.SumKeeps.{IsTotal, inside, unknown_from}
use Rattle.crack_index.proofs.Walking.{walk-whole, walk-unknown, walk-none, walk-beyond}
use Rattle.crack_index.proofs.sums.PieceSums.walk.Goals as goal
use Rattle.crack_index.proofs.sums.PieceSums.walk.Goals.{After-total_between-total}

is_total : (c : After-total_between-total) → IsTotal (inside (span c.args.first c.args.last) c.args.self.now) c.total_between-total.result
is_total c = rw c.self.view_is at c.total_between-total.ensures

rises : (c : After-total_between-total) → StartsRise c.args.self.now
rises c = rw c.self.view_is at c.self.invariant.rises

pub returns-then-total : goal.returns-then-total
returns-then-total c =
    let at = (goal.at.returns-then-total c).After-total_between-total in
    let known : IsKnown c.total_between-total.result = λ is. c.if-total.true (ap (of_z w128) is) in
    rw (to_z-of_z w128 c.total_between-total.result (search rules)) (walk-whole c.args.first c.args.last c.args.self.now c.total_between-total.result (rises at) (is_total at) known)

pub returns-in_default : goal.returns-in_default
returns-in_default c =
    let at = (goal.at.returns-in_default c).After-total_between-total in
    let unknown : c.total_between-total.result ≡ UNKNOWN = sym (to_z-of_z w128 c.total_between-total.result (search rules)) ∙ ap (to_z w128) c.if-total.false in
    let none : None ≡ unknown_from c.args.first c.args.self.now = rw c.self.view_is at (sym c.in_default.is ∙ c.first_unknown.ensures) in
    walk-none c.args.first c.args.last c.args.self.now c.total_between-total.result (is_total at) unknown none

pub returns-then-last-start : goal.returns-then-last-start
returns-then-last-start c =
    let at = (goal.at.returns-then-last-start c).After-total_between-total in
    let unknown : c.total_between-total.result ≡ UNKNOWN = sym (to_z-of_z w128 c.total_between-total.result (search rules)) ∙ ap (to_z w128) c.if-total.false in
    let found : Some c.in-Some.start ≡ unknown_from c.args.first c.args.self.now = rw c.self.view_is at (sym c.in-Some.is ∙ c.first_unknown.ensures) in
    walk-beyond c.args.first c.args.last c.in-Some.start c.args.self.now c.total_between-total.result (rises at) (is_total at) unknown found c.if-last-start.true

pub returns : goal.returns
returns c =
    let found : Some c.in-Some.start ≡ unknown_from c.args.first c.args.self.now = rw c.self.view_is at (sym c.in-Some.is ∙ c.first_unknown.ensures) in
    walk-unknown c.args.first c.args.last c.in-Some.start c.args.self.now found (omega (arith, c.if-last-start.false))
