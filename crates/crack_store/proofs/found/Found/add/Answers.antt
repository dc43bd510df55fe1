use Rattle.std.proofs.Common.{[], ◌∷◌}
use Rattle.std.specs.List.Sorted.{IsPermutation}
use Rattle.std.proofs.lemmas.List.{append-nil}
use Rattle.std.proofs.lemmas.List.Sorted.{IsPermutation-refl, IsPermutation-trans, IsPermutation-append_left}
use Rattle.crack_store.specs.Found.{all_of}
use Rattle.crack_store.proofs.LiveLemmas.{row-between}
use Rattle.crack_store.proofs.found.Found.add.Goals as goal
use Rattle.crack_store.proofs.found.Found.add.Goals.{else-row-self-via-then-row-self+in_ok-puts_aside+else-branch, else-row-self-via-else-row-self}

pub returns-clause-rows : goal.returns-clause-rows
returns-clause-rows c =
    let found = c.else-row-self.self in
    let before : IsPermutation (all_of c.args.self.now) (all_of found) = elim c.else-row-self.branch [
      | else-row-self-via-then-row-self+in_ok-puts_aside+else-branch w ↦ rw w.self-is (rw (w.if-branch.false, append-nil (all_of c.args.self.now)) at w.in_ok-puts_aside.ensures.rows)
      | else-row-self-via-else-row-self w ↦ rw w.self-is (IsPermutation-refl _)
    ] in
    rw (c.in-Some.is, c.in_ok-push.ensures.items) (IsPermutation-trans _ _ _ (IsPermutation-append_left (c.in-Some.row ∷ []) _ _ before) (row-between found.rows.items found.aside.items c.in-Some.row))
