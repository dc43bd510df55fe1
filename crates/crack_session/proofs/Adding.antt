-- Partitions that are asked for their numbers one after the other, and these added.
use Rattle.std.specs.Prelude.{◌≡◌, ℕ, zero, suc, ◌+◌, ◌<◌, List, [], ◌∷◌, ◌++◌, length, take, Option, Some, Ok, Err, slice_get}
use Rattle.std.proofs.Common.{refl, sym, ap, ◌∙◌, subst, arith, length-append}
use Rattle.crack_row.specs.declared.refusal.Refusal.{Refusal}
use Rattle.crack_row.specs.declared.refusal.Refusal.TheVariants.{NoSuchPartition}
use Rattle.crack_plain.specs.Plain.{PlainView}
use Rattle.crack_plain.specs.Watching.{AreNumbersOf, no_statistics, together}
use Rattle.crack_plain.specs.declared.statistics.Statistics.{Statistics}
use Rattle.crack_core.specs.Steps.{IsStatisticsOutcome}
use Rattle.crack_session.specs.Answers.{AreNumbersOfEach, added_up}
use Rattle.crack_session.specs.Calls.{Call, Calls, Measured, measured_from}
use Rattle.crack_session.proofs.Calling.{Calls-push}

-- one more partition's numbers are added
added_up-push : (sum : Statistics) (each : List Statistics) (one : Statistics) → added_up sum (each ++ one ∷ []) ≡ together (added_up sum each) one
added_up-push sum [] one = refl
added_up-push sum (s ∷ each) one = added_up-push (together sum s) each one

-- and its call follows the others
measured-push : (part : ℕ) (each : List Statistics) (one : Statistics) → measured_from part (each ++ one ∷ []) ≡ measured_from part each ++ Measured (part + length each) (Ok one) ∷ []
measured-push part [] one =
    let same : part ≡ part + 0 = omega arith in
    ap (λ (n : ℕ). Measured n (Ok one) ∷ []) same
measured-push part (s ∷ each) one =
    let same : part + 1 + length each ≡ part + suc (length each) = omega arith in
    ap (λ (l : List Call). Measured part (Ok s) ∷ l) (measured-push (part + 1) each one ∙ ap (λ (n : ℕ). measured_from (part + 1) each ++ Measured n (Ok one) ∷ []) same)

-- its numbers are right
right-push : (tables : List PlainView) (k : ℕ) (each : List Statistics) (one : Statistics) → AreNumbersOfEach (take k tables) each → IsStatisticsOutcome (slice_get tables k) (Ok one) → AreNumbersOfEach (take (suc k) tables) (each ++ one ∷ [])
right-push [] k each one before is = absurd (let fault : Ok one ≡ Err NoSuchPartition = is in cc)
right-push (t ∷ ts) zero [] one before is = (is, tt)
right-push (t ∷ ts) zero (s ∷ each) one before is = absurd before
right-push (t ∷ ts) (suc k) [] one before is = absurd before
right-push (t ∷ ts) (suc k) (s ∷ each) one before is = (before.0, right-push ts k each one before.1 is)

-- a partition that exists tells them
pub never_refused : {P : Type 0} (tables : List PlainView) (k : ℕ) (e : Refusal) → k < length tables → IsStatisticsOutcome (slice_get tables k) (Err e) → P
never_refused [] k e less is = absurd (omega (arith, less))
never_refused (t ∷ ts) zero e less is = absurd is
never_refused (t ∷ ts) (suc k) e less is = never_refused ts k e (omega (arith, less)) is

-- The partitions before one have reported their numbers, in turn, and these are added.
pub record HaveReported {D : Type 0} (tables : D → Option (List PlainView)) (leads : D → Call → D → Type 0) (desk : D) (part : ℕ) (sum : Statistics) : Type 0 where
  pub each : List Statistics
  pub sum_is : sum ≡ added_up no_statistics each
  pub many : length each ≡ part
  pub were : Calls leads desk (measured_from 0 each) desk
  pub right : (known : List PlainView) → tables desk ≡ Some known → AreNumbersOfEach (take part known) each

pub HaveReported-none : {D : Type 0} (tables : D → Option (List PlainView)) (leads : D → Call → D → Type 0) (desk : D) (sum : Statistics) → sum ≡ no_statistics → HaveReported tables leads desk 0 sum
HaveReported-none tables leads desk sum none = record { each = []; sum_is = none; many = refl; were = refl; right = λ known e. tt }

pub HaveReported-more : {D : Type 0} (tables : D → Option (List PlainView)) (leads : D → Call → D → Type 0) (desk : D) (part : ℕ) (sum one next : Statistics) → HaveReported tables leads desk part sum → next ≡ together sum one → ((known : List PlainView) → tables desk ≡ Some known → IsStatisticsOutcome (slice_get known part) (Ok one)) → leads desk (Measured part (Ok one)) desk → HaveReported tables leads desk (part + 1) next
HaveReported-more {D} tables leads desk part sum one next told next_is outcome led =
    let next_part : suc part ≡ part + 1 = omega arith in
    let at : part ≡ 0 + length told.each = let many = told.many in omega (arith, many) in
    record {
      each = told.each ++ one ∷ [];
      sum_is = next_is ∙ ap (λ (s : Statistics). together s one) told.sum_is ∙ sym (added_up-push no_statistics told.each one);
      many = let many = told.many in let all = length-append told.each (one ∷ []) in omega (arith, many, all);
      were = subst (λ (calls : List Call). Calls leads desk calls desk) (sym (measured-push 0 told.each one))
          (Calls-push leads desk (measured_from 0 told.each) desk (Measured (0 + length told.each) (Ok one)) desk told.were (subst (λ (n : ℕ). leads desk (Measured n (Ok one)) desk) at led));
      right = λ known e. subst (λ (n : ℕ). AreNumbersOfEach (take n known) (told.each ++ one ∷ [])) next_part (right-push known part told.each one (told.right known e) (outcome known e));
    }
