-- The calls of a load, one record after another.
use Rattle.std.proofs.Common.{◌≡◌, ℕ, Option, Some, None, Ok, Err, List, [], ◌∷◌, ◌++◌, sym, subst}
use Rattle.std.specs.List.{AllZip}
use Rattle.crack_row.specs.declared.Bound.{Bound}
use Rattle.crack_row.specs.declared.command.Policy.{Policy}
use Rattle.crack_row.specs.declared.command.Reply.{Reply}
use Rattle.crack_row.specs.declared.refusal.Refusal.{Refusal}
use Rattle.crack_row.specs.declared.refusal.Refusal.TheVariants.{ReadFault}
use Rattle.crack_session.specs.Calls.{Call, Calls}
use Rattle.crack_csv.specs.declared.record.NewRow.{NewRow}
use Rattle.crack_csv.specs.Asked.{insertion, IsLastRefused, IsRefusedBy}
use Rattle.crack_csv.specs.Records.{new_row_of}
use Rattle.crack_csv.proofs.Loading.{Fields}

-- a record is a row, and the partition of its key is asked to insert it, and answers
abbrev pub AsksRow : {D : Type 0} → (D → Call → D → Type 0) → List Bound → Policy → Fields → D → D → Type 0
AsksRow leads splits policy fields old new = (row : NewRow) × (new_row_of fields ≡ Some row) × (reply : Reply) × leads old (insertion splits policy row (Ok reply)) new

-- a record isn't inserted, and only the call that refuses it is asked
abbrev pub AsksNoRow : {D : Type 0} → (D → Call → D → Type 0) → List Bound → Policy → ℕ → Fields → Refusal → D → D → Type 0
AsksNoRow leads splits policy number fields e old new = (calls : List Call) × Calls leads old calls new × IsRefusedBy splits policy number (new_row_of fields) e calls

pub AllZip-add : {A B : Type 0} (R : A → B → Type 0) (xs : List A) (ys : List B) (x : A) (y : B) → AllZip R xs ys → R x y → AllZip R (xs ++ x ∷ []) (ys ++ y ∷ [])
AllZip-add R [] [] x y all one = (one, tt)
AllZip-add R [] (b ∷ ys) x y all one = absurd all
AllZip-add R (a ∷ xs) [] x y all one = absurd all
AllZip-add R (a ∷ xs) (b ∷ ys) x y all one = (all.0, AllZip-add R xs ys x y all.1 one)

abbrev pub IsAnswered : List Bound → Policy → NewRow → Call → Type 0
IsAnswered splits policy row call = (reply : Reply) × (call ≡ insertion splits policy row (Ok reply))

refused_last : {D : Type 0} (leads : D → Call → D → Type 0) (splits splits' : List Bound) (policy : Policy) (number : ℕ) (row : Option NewRow) (e : Refusal) (old new : D) → e ≡ ReadFault → splits' ≡ splits
    → (calls : List Call) × Calls leads old calls new × IsRefusedBy splits' policy number row e calls → IsLastRefused leads splits policy ReadFault new
refused_last leads splits splits' policy number None e old new is same asks = absurd (cc (asks.2.0, is))
refused_last leads splits splits' policy number (Some row) e old new is same asks =
    let here : Calls leads old (insertion splits' policy row (Err e) ∷ []) new = subst (λ (l : List Call). Calls leads old l new) asks.2 asks.1 in
    let led : leads old (insertion splits' policy row (Err e)) new = subst (leads old (insertion splits' policy row (Err e))) (sym here.2) here.1 in
    (row, old, subst (λ (s : List Bound). leads old (insertion s policy row (Err ReadFault)) new) same (subst (λ (x : Refusal). leads old (insertion splits' policy row (Err x)) new) is led))

-- the call by which a desk refuses a record with `ReadFault` is the last
pub is_refused_last : {D : Type 0} (leads : D → Call → D → Type 0) (splits splits' : List Bound) (policy : Policy) (number : ℕ) (fields : Fields) (e : Refusal) (old new : D) → e ≡ ReadFault → splits' ≡ splits → AsksNoRow leads splits' policy number fields e old new → IsLastRefused leads splits policy ReadFault new
is_refused_last leads splits splits' policy number fields e old new is same asks = refused_last leads splits splits' policy number (new_row_of fields) e old new is same asks
