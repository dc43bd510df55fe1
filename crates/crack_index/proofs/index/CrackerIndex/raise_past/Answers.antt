use Rattle.std.proofs.Common.{map, sym, ◌∙◌}
use Rattle.std.specs.Prelude.{Contains}
use Rattle.crack_index.specs.Marks.{raised}
use Rattle.crack_index.specs.Trees.{marks_in_tree}
use Rattle.crack_index.proofs.MarkLaws.{Rising-raised, first_after-kept}
use Rattle.crack_index.proofs.MarkLemmas.{if_found}
use Rattle.crack_index.proofs.Sides.{IsKept-moved}
use Rattle.crack_index.proofs.index.CrackerIndex.raise_past.Goals as goal

pub invariant_of-self : goal.invariant_of-self
invariant_of-self c = IsKept-moved (raised c.args.mark.bound.0 c.args.mark.position) (marks_in_tree c.self.inside.root) (marks_in_tree c.raise.new.link) _ _ (rw c.number.ensures at c.raise.ensures.marks) (Rising-raised c.args.mark.bound.0 c.args.mark.position (marks_in_tree c.self.inside.root) c.self.invariant.rising) c.self.invariant

pub returns-clause-there : goal.returns-clause-there
returns-clause-there c =
    let old = (marks_in_tree c.self.inside.root) in
    let mark = c.args.mark in
    rw (c.raise.ensures.marks, c.number.ensures) (if_found (λ m. Contains (map (raised mark.bound.0 mark.position) old) m) c.first_after-next.result (λ m is. first_after-kept mark.bound.0 mark.position old m (sym c.first_after-next.ensures ∙ is)))

pub returns-clause-rising : goal.returns-clause-rising
returns-clause-rising c = rw (c.raise.ensures.marks, c.number.ensures) (Rising-raised c.args.mark.bound.0 c.args.mark.position (marks_in_tree c.self.inside.root) c.self.invariant.rising)
