use Rattle.std.proofs.Common.{◌≡◌, ◌<◌, ◌∷◌, ◌++◌, refl, sym, ap, ◌∙◌, append_assoc, arith}
use Rattle.crack_index.specs.Trees.{Grown, marks_in_tree}
use Rattle.crack_index.specs.Finds.{AreAhead, found_from}
use Rattle.crack_index.proofs.PassLemmas.{left_below, left_ahead, here_ahead, behind_ahead, right_ahead, not_before, found_from-passed}
use Rattle.crack_index.proofs.WalkLemmas.{All-left, All-here, All-right}
use Rattle.crack_index.proofs.pass.+meet_all.Goals as goal
use Rattle.crack_index.proofs.pass.+meet_all.Goals.{then-is_before+else-meet_all+else-meet, else-is_before}

pub returns-then-meet_all-clause-found : goal.returns-then-meet_all-clause-found
returns-then-meet_all-clause-found t c = λ len ms ahead.
    let node = c.deref-2.inside in
    let whole : marks_in_tree node.left ++ node.mark ∷ marks_in_tree node.right ≡ marks_in_tree c.args.link.now = ap (λ (g : Grown). g.marks) (c.deref-2.view_is ∙ c.deref.ensures) ∙ sym (ap marks_in_tree c.in-Some.is) in
    rw (← whole, append_assoc (marks_in_tree node.left) (node.mark ∷ marks_in_tree node.right) ms)
    (c.if-meet_all.ensures.found len (node.mark ∷ (marks_in_tree node.right ++ ms)) (left_ahead c.args.last.now c.args.pass.now (marks_in_tree node.left) node.mark (marks_in_tree node.right) (rw (← whole) at ahead)))

pub returns-then-meet_all-clause-after : goal.returns-then-meet_all-clause-after
returns-then-meet_all-clause-after t c = λ bound after within.
    let node = c.deref-2.inside in
    let whole : marks_in_tree node.left ++ node.mark ∷ marks_in_tree node.right ≡ marks_in_tree c.args.link.now = ap (λ (g : Grown). g.marks) (c.deref-2.view_is ∙ c.deref.ensures) ∙ sym (ap marks_in_tree c.in-Some.is) in
    c.if-meet_all.ensures.after bound after (All-left (λ m. m.bound.0 < bound) node.left node.mark node.right (marks_in_tree c.args.link.now) whole within)

pub meet-requires : goal.meet-requires
meet-requires t c =
    let node = c.deref-2.inside in
    c.if-meet_all.ensures.after node.mark.bound.0 (c.if-is_before.ensures.0 refl) (left_below (marks_in_tree node.left) node.mark (marks_in_tree node.right) c.deref-2.invariant.rising)

pub returns-then-meet-clause-found : goal.returns-then-meet-clause-found
returns-then-meet-clause-found t c = λ len ms ahead.
    let node = c.deref-2.inside in
    let whole : marks_in_tree node.left ++ node.mark ∷ marks_in_tree node.right ≡ marks_in_tree c.args.link.now = ap (λ (g : Grown). g.marks) (c.deref-2.view_is ∙ c.deref.ensures) ∙ sym (ap marks_in_tree c.in-Some.is) in
    rw (← whole, append_assoc (marks_in_tree node.left) (node.mark ∷ marks_in_tree node.right) ms)
    (c.if-meet_all.ensures.found len (node.mark ∷ (marks_in_tree node.right ++ ms)) (left_ahead c.args.last.now c.args.pass.now (marks_in_tree node.left) node.mark (marks_in_tree node.right) (rw (← whole) at ahead))
    ∙ c.if-meet.ensures.found len (marks_in_tree node.right ++ ms))

pub returns-then-meet-clause-after : goal.returns-then-meet-clause-after
returns-then-meet-clause-after t c = λ bound after within.
    let node = c.deref-2.inside in
    let whole : marks_in_tree node.left ++ node.mark ∷ marks_in_tree node.right ≡ marks_in_tree c.args.link.now = ap (λ (g : Grown). g.marks) (c.deref-2.view_is ∙ c.deref.ensures) ∙ sym (ap marks_in_tree c.in-Some.is) in
    let upto = c.meet.ensures.after in
    let here : node.mark.bound.0 < bound = All-here (λ m. m.bound.0 < bound) node.left node.mark node.right (marks_in_tree c.args.link.now) whole within in
    omega arith

pub returns-clause-found : goal.returns-clause-found
returns-clause-found t c = λ len ms ahead.
    let node = c.deref-2.inside in
    let whole : marks_in_tree node.left ++ node.mark ∷ marks_in_tree node.right ≡ marks_in_tree c.args.link.now = ap (λ (g : Grown). g.marks) (c.deref-2.view_is ∙ c.deref.ensures) ∙ sym (ap marks_in_tree c.in-Some.is) in
    let within : AreAhead c.args.last.now c.args.pass.now (marks_in_tree node.left ++ node.mark ∷ marks_in_tree node.right) = rw (← whole) at ahead in
    let rising = c.deref-2.invariant.rising in
    let ahead_of : AreAhead c.if-is_before.last c.if-is_before.pass (marks_in_tree node.right) = elim c.if-is_before.branch [
      | then-is_before+else-meet_all+else-meet x ↦ right_ahead c.if-is_before.last c.if-is_before.pass (marks_in_tree node.left) node.mark (marks_in_tree node.right) rising (rw x.pass-is x.meet.ensures.after)
      | else-is_before x ↦ rw (x.pass-is, x.last-is) (behind_ahead c.args.last.now c.args.pass.now (marks_in_tree node.left) node.mark (marks_in_tree node.right) within)
    ] in
    let so_far : found_from len c.args.last.now c.args.pass.now (marks_in_tree node.left ++ node.mark ∷ (marks_in_tree node.right ++ ms)) ≡ found_from len c.if-is_before.last c.if-is_before.pass (marks_in_tree node.right ++ ms) = elim c.if-is_before.branch [
      | then-is_before+else-meet_all+else-meet x ↦ rw (x.pass-is, x.last-is)
          (x.if-meet_all.ensures.found len (node.mark ∷ (marks_in_tree node.right ++ ms)) (left_ahead c.args.last.now c.args.pass.now (marks_in_tree node.left) node.mark (marks_in_tree node.right) within)
          ∙ x.if-meet.ensures.found len (marks_in_tree node.right ++ ms))
      | else-is_before x ↦ rw (x.pass-is, x.last-is)
          (found_from-passed len c.args.last.now c.args.pass.now (marks_in_tree node.left) node.mark (marks_in_tree node.right) ms rising (not_before _ _ x.if-is_before.ensures.1) (here_ahead c.args.last.now c.args.pass.now (marks_in_tree node.left) node.mark (marks_in_tree node.right) within))
    ] in
    rw (← whole, append_assoc (marks_in_tree node.left) (node.mark ∷ marks_in_tree node.right) ms) (so_far ∙ c.meet_all-2.ensures.found len ms ahead_of)

pub returns-clause-after : goal.returns-clause-after
returns-clause-after t c = λ bound after within.
    let node = c.deref-2.inside in
    let whole : marks_in_tree node.left ++ node.mark ∷ marks_in_tree node.right ≡ marks_in_tree c.args.link.now = ap (λ (g : Grown). g.marks) (c.deref-2.view_is ∙ c.deref.ensures) ∙ sym (ap marks_in_tree c.in-Some.is) in
    let here : node.mark.bound.0 < bound = All-here (λ m. m.bound.0 < bound) node.left node.mark node.right (marks_in_tree c.args.link.now) whole within in
    let met : c.if-is_before.pass.after < bound = elim c.if-is_before.branch [
      | then-is_before+else-meet_all+else-meet x ↦ rw x.pass-is (let upto = x.meet.ensures.after in omega arith)
      | else-is_before x ↦ rw x.pass-is after
    ] in
    c.meet_all-2.ensures.after bound met (All-right (λ m. m.bound.0 < bound) node.left node.mark node.right (marks_in_tree c.args.link.now) whole within)
