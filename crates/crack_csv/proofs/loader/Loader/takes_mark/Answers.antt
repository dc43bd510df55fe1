use Rattle.std.proofs.Common.{ℕ, [], ◌∷◌, ◌++◌, sym, subst}
use Rattle.crack_csv.specs.Loaders.{IsHead}
use Rattle.crack_csv.proofs.Texts.{head_step, marked}
use Rattle.crack_csv.proofs.loader.Loader.takes_mark.Goals as goal

pub returns-then-self-lt3-clause-marked : goal.returns-then-self-lt3-clause-marked
returns-then-self-lt3-clause-marked c = λ is before head.
    let mark = c.takes_last_mark.ensures.marked is in
    let text = marked c.args.self.now.head before c.args.byte mark.0 mark.1 head in
    (subst (λ (n : ℕ). IsHead n (before ++ c.args.byte ∷ [])) (sym mark.2) text.0, text.1, text.2)

pub returns-then-self-lt3-clause-plain : goal.returns-then-self-lt3-clause-plain
returns-then-self-lt3-clause-plain c = λ is before head.
    let plain = c.takes_last_mark.ensures.plain is in
    let text = head_step c.args.self.now.head before c.args.byte head plain.1 in
    (subst (λ (n : ℕ). IsHead n (before ++ c.args.byte ∷ [])) (sym plain.0) text.0, text.1)
