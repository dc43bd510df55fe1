-- Texts of rows that are written a batch at a time.
use Rattle.std.proofs.Common.{◌≡◌, ℕ, Option, List, [], ◌++◌, refl, sym, ap, ◌∙◌, subst, append-nil, append_assoc}
use Rattle.std.proofs.KnownBytes.{Appends-nil}
use Rattle.std.specs.Io.KnownBytes.{Appends}
use Rattle.crack_commands.specs.Texts.{AppendsFront}
use Rattle.crack_commands.proofs.Sending.{Appends-then, front_first, front_then}

-- Of a text all but a rest is written.
pub record Written (out0 out : Option (List ℕ)) (whole rest : List ℕ) : Type 0 where
  pub text : List ℕ
  pub written : Appends out0 out text
  pub split : text ++ rest ≡ whole

pub Written-start : (out : Option (List ℕ)) (whole rest : List ℕ) → rest ≡ whole → Written out out whole rest
Written-start out whole rest same = record { text = []; written = Appends-nil out; split = same }

-- one more batch
pub Written-more : {out0 out : Option (List ℕ)} {whole rest : List ℕ} (out' : Option (List ℕ)) (batch left : List ℕ) → Written out0 out whole rest → batch ++ left ≡ rest → Appends out out' batch → Written out0 out' whole left
Written-more {out0} {out} out' batch left w split sent = record {
  text = w.text ++ batch;
  written = Appends-then out0 out out' w.text batch (w.text ++ batch) w.written sent refl;
  split = append_assoc w.text batch left ∙ ap (λ (z : List ℕ). w.text ++ z) split ∙ w.split;
}

-- all is written
pub written_all : {out0 out : Option (List ℕ)} {whole rest : List ℕ} → Written out0 out whole rest → rest ≡ [] → Appends out0 out whole
written_all {out0} {out} w none = subst (Appends out0 out) (sym (append-nil w.text) ∙ ap (λ (z : List ℕ). w.text ++ z) (sym none) ∙ w.split) w.written

-- the writer fails within a batch
pub written_front : {out0 out : Option (List ℕ)} {whole rest : List ℕ} (out' : Option (List ℕ)) (batch left : List ℕ) → Written out0 out whole rest → batch ++ left ≡ rest → AppendsFront out out' batch → AppendsFront out0 out' whole
written_front {out0} {out} out' batch left w split sent =
    subst (AppendsFront out0 out') (ap (λ (z : List ℕ). w.text ++ z) split ∙ w.split) (front_then out0 out out' w.text (batch ++ left) w.written (front_first out out' batch left sent))
