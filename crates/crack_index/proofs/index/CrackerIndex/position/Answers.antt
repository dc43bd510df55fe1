use Rattle.std.proofs.Common.{◌≡◌, ◌≢◌, ◌∙◌, sym, refl, ap, rules}
use Rattle.crack_row.specs.declared.InnerBound.{InnerBound}
use Rattle.crack_index.specs.Marks.{HasBound}
use Rattle.crack_index.specs.Trees.{marks_in_tree}
use Rattle.crack_index.proofs.MarkLemmas.{position-found, position-apart, position-none}
use Rattle.crack_index.proofs.index.CrackerIndex.position.Goals as goal

pub returns-in-Some-clause-found : goal.returns-in-Some-clause-found
returns-in-Some-clause-found c =
    let same : c.in-Some.mark.bound ≡ c.args.bound = search rules in
    let found = position-found c.args.bound.0 (marks_in_tree c.self.inside.root) c.in-Some.mark c.self.invariant.rising (rw c.number.ensures at (sym c.last_at.ensures ∙ c.in-Some.is)) (ap (λ (b : InnerBound). b.0) same) in
    let there : HasBound c.args.self.now.marks c.args.bound.0 = rw (← c.self.view_is) found.0 in
    (λ h. there, λ h. refl)

pub returns-in-Some-clause-place : goal.returns-in-Some-clause-place
returns-in-Some-clause-place c =
    let same : c.in-Some.mark.bound ≡ c.args.bound = search rules in
    let found = position-found c.args.bound.0 (marks_in_tree c.self.inside.root) c.in-Some.mark c.self.invariant.rising (rw c.number.ensures at (sym c.last_at.ensures ∙ c.in-Some.is)) (ap (λ (b : InnerBound). b.0) same) in
    rw (← c.self.view_is) found.1

pub returns-in_default-clause-found : goal.returns-in_default-clause-found
returns-in_default-clause-found c =
    let apart : c.in-Some.mark.bound.0 ≢ c.args.bound.0 = search rules in (
      λ h. absurd (cc),
      λ there. absurd (position-apart c.args.bound.0 (marks_in_tree c.self.inside.root) c.in-Some.mark c.self.invariant.rising (rw c.number.ensures at (sym c.last_at.ensures ∙ c.in-Some.is)) apart (rw (← c.self.view_is) at there)),
    )

pub returns-in_default-2-clause-found : goal.returns-in_default-2-clause-found
returns-in_default-2-clause-found c = (
  λ h. absurd (cc),
  λ there. absurd (position-none c.args.bound.0 (marks_in_tree c.self.inside.root) c.self.invariant.rising (rw c.number.ensures at (sym c.last_at.ensures ∙ c.in_default.is)) (rw (← c.self.view_is) at there)),
)
