use Rattle.std.proofs.Common.{◌≡◌, [], inl, inr, refl, sym, ◌∙◌, append-nil}
use Rattle.crack_index.specs.Finds.{found_or}
use Rattle.crack_index.specs.Passes.{next_few}
use Rattle.crack_index.specs.Trees.{marks_in_tree}
use Rattle.crack_index.proofs.PassLemmas.{nothing_halts, few_halt, many_pass}
use Rattle.crack_index.proofs.pass.Pass.next_few.Goals as goal
use Rattle.crack_index.proofs.pass.Pass.next_few.Goals.{then-has_halted-via-then-has_halted, then-has_halted-via-else-has_halted+then-are_few}

pub returns-in_default : goal.returns-in_default
returns-in_default c =
    let met : next_few c.args.len c.args.self.now (marks_in_tree c.args.link.now) ≡ found_or c.meet_all-has_halted.result c.args.len c.meet_all-has_halted.new.last c.meet_all-has_halted.new.pass [] = rw append-nil at (c.meet_all-has_halted.ensures.found c.args.len [] tt) in
    sym (met ∙ rw c.in_default.is (nothing_halts c.meet_all-has_halted.result c.args.len c.meet_all-has_halted.new.pass))

pub returns-then-has_halted : goal.returns-then-has_halted
returns-then-has_halted c =
    let met : next_few c.args.len c.args.self.now (marks_in_tree c.args.link.now) ≡ found_or c.meet_all-has_halted.result c.args.len c.meet_all-has_halted.new.last c.meet_all-has_halted.new.pass [] = rw append-nil at (c.meet_all-has_halted.ensures.found c.args.len [] tt) in
    sym (met ∙ rw c.in-Some.is (few_halt c.meet_all-has_halted.result c.args.len c.in-Some.mark c.meet_all-has_halted.new.pass (elim c.then-has_halted.branch [
      | then-has_halted-via-then-has_halted x ↦ inl x.if-has_halted.true
      | then-has_halted-via-else-has_halted+then-are_few x ↦ inr (x.if-are_few.ensures.0 refl)
    ])))

pub returns : goal.returns
returns c =
    let met : next_few c.args.len c.args.self.now (marks_in_tree c.args.link.now) ≡ found_or c.meet_all-has_halted.result c.args.len c.meet_all-has_halted.new.last c.meet_all-has_halted.new.pass [] = rw append-nil at (c.meet_all-has_halted.ensures.found c.args.len [] tt) in
    sym (met ∙ rw (c.in-Some.is, c.if-has_halted.false) (many_pass c.args.len c.in-Some.mark c.meet_all-has_halted.new.pass c.if-are_few.ensures.1 ∙ rw (← c.self.view_is) refl))
