-- Texts that are appended one after the other.
use Rattle.std.proofs.Common.{◌≡◌, ℕ, ◌≤◌, List, [], ◌∷◌, ◌++◌, length, refl, sym, ap, ◌∙◌, arith}
use Rattle.crack_row.specs.declared.command.Reply.{Reply}
use Rattle.crack_commands.specs.Texts.{reply_text}
use Rattle.crack_session.specs.declared.answer.Answer.TheVariants.{Replied}
use Rattle.crack_session.specs.Answers.{answer_text}

-- what is appended is the next part of what is left
pub next_part : (out out' left left' : List ℕ) → out' ++ left' ≡ out ++ left → length out ≤ length out' → (added : List ℕ) × (out' ≡ out ++ added) × (left ≡ added ++ left')
next_part [] out' left left' same few = (out', refl, sym same)
next_part (b ∷ out) [] left left' same few = absurd (omega (arith, few))
next_part (b ∷ out) (c ∷ out') left left' same few =
    let firsts : c ≡ b = cc same in
    let rests : out' ++ left' ≡ out ++ left = cc same in
    let more = next_part out out' left left' rests (omega (arith, few)) in
    (more.0, ap (λ z. z ∷ out') firsts ∙ ap (λ t. b ∷ t) more.1, more.2)

-- a partition's reply is told as such
pub reply_output : (part : ℕ) (reply : Reply) → reply_text part reply ≡ answer_text (Replied part reply)
unfolding answer_text
reply_output part reply = refl
