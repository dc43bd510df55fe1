use Rattle.std.proofs.Common.{sym, ◌∙◌, ap, subst, ◌≡◌, refl, ◌+◌, arith, ℕ}
use Rattle.crack_witness.specs.declared.event.Event.{Event}
use Rattle.crack_witness.specs.Rules.{row}
use Rattle.crack_witness.specs.Keeps.{HasWord}
use Rattle.crack_witness.proofs.Lists.{among_prefix}
use Rattle.crack_witness.proofs.Moving.{row_has}
use Rattle.crack_witness.proofs.opening.next_owner.Goals as goal

pub open-requires : goal.open-requires
open-requires c =
    let made = c.tracked-word.ensures.0 in
    let pen = c.take-pen.ensures.pen in
    let next = c.args.pens.now.next in
    let key : c.tracked-word.result.key ≡ next = ap (λ w. w.key) made ∙ ap (λ n. n.key) pen.1 in
    let has : HasWord next c.args.seen.now.log = among_prefix (λ (e : Event). e.word ≡ next) (row (next + c.args.pens.now.left)) c.args.seen.now.log c.requires.2 (row_has (next + c.args.pens.now.left) next (omega (arith, c.requires.0))) in (
      ap (λ w. w.tracked) made,
      sym (ap (λ w. w.book) made ∙ (pen.0 ∙ c.requires.1)),
      subst (λ (k : ℕ). HasWord k c.args.seen.now.log) (sym key) has,
    )
