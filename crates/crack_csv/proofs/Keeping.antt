-- What is kept of a record suffices to read it.
use Rattle.std.proofs.Common.{◌≡◌, ℕ, zero, suc, ◌+◌, false, min, eqb, List, [], ◌∷◌, ◌++◌, length, take, refl, sym, ap, arith, length-append}
use Rattle.std.proofs.lemmas.Bool.{ne_eqb}
use Rattle.csv.specs.Machine.{step, fields_after, field_after}
use Rattle.csv.specs.Reading.{default_config}
use Rattle.csv.specs.declared.parser.Action.{Action}
use Rattle.csv.specs.declared.parser.Action.TheVariants as act
use Rattle.csv.specs.declared.parser.State.{State}
use Rattle.crack_csv.specs.Begun.{Begun, first_in, second_in, kept_of_record, with_byte}
use Rattle.crack_csv.specs.Taking.{ended_record, kept_by, kept_with}

-- more bytes behind the first of them
take-take-append : (n : ℕ) (xs ys : List ℕ) → take n (take n xs ++ ys) ≡ take n (xs ++ ys)
take-take-append zero xs ys = refl
take-take-append (suc n) [] ys = refl
take-take-append (suc n) (x ∷ xs) ys = ap (λ z. x ∷ z) (take-take-append n xs ys)

one_more : (fields : List (List ℕ)) (field : List ℕ) → min 3 (length (fields ++ field ∷ [])) ≡ min 3 (min 3 (length fields) + 1)
one_more fields field = let l = length-append fields (field ∷ []) in omega (arith, l)

first_whole : (fields : List (List ℕ)) (field : List ℕ) → first_in (fields ++ field ∷ []) [] ≡ first_in fields field
first_whole [] field = refl
first_whole (f ∷ fields) field = refl

second_whole : (fields : List (List ℕ)) (field : List ℕ) → second_in (fields ++ field ∷ []) [] ≡ second_in fields field
second_whole [] field = refl
second_whole (f ∷ []) field = refl
second_whole (f ∷ g ∷ fields) field = refl

kept_whole : (s : State) (fields : List (List ℕ)) (field : List ℕ) → kept_of_record (record { state = s; fields = fields ++ field ∷ []; field = [] }) ≡ record (kept_of_record (record { state = s; fields = fields; field = field })) { whole = min 3 (min 3 (length fields) + 1) }
kept_whole s fields field = rw (one_more fields field, first_whole fields field, second_whole fields field) refl

kept_copy : (s : State) (fields : List (List ℕ)) (field : List ℕ) (c : ℕ) → kept_of_record (record { state = s; fields = fields; field = field ++ c ∷ [] }) ≡ kept_by act.Copy c (kept_of_record (record { state = s; fields = fields; field = field }))
kept_copy s [] field c = ap (λ (z : List ℕ). record { state = s; whole = 0; first = z; second = [] }) (sym (take-take-append 22 field (c ∷ [])))
kept_copy s (f ∷ []) field c = ap (λ (z : List ℕ). record { state = s; whole = 1; first = take 22 f; second = z }) (sym (take-take-append 22 field (c ∷ [])))
kept_copy s (f ∷ g ∷ fields) field c =
    let not_first : eqb (min 3 (length (f ∷ g ∷ fields))) 0 ≡ false = ne_eqb (min 3 (length (f ∷ g ∷ fields))) 0 (λ is. omega (arith, is)) in
    let not_second : eqb (min 3 (length (f ∷ g ∷ fields))) 1 ≡ false = ne_eqb (min 3 (length (f ∷ g ∷ fields))) 1 (λ is. omega (arith, is)) in
    rw (not_first, not_second) refl

kept_after : (a : Action) (s : State) (fields : List (List ℕ)) (field : List ℕ) (c : ℕ) → kept_of_record (record { state = s; fields = fields_after a fields field; field = field_after a c field }) ≡ kept_by a c (kept_of_record (record { state = s; fields = fields; field = field }))
kept_after act.Skip s fields field c = refl
kept_after act.Copy s fields field c = kept_copy s fields field c
kept_after act.EndField s fields field c = kept_whole s fields field
kept_after act.EndRecord s fields field c = kept_whole s fields field

-- one more byte
pub kept_byte : (b : Begun) (c : ℕ) → kept_of_record (with_byte b c) ≡ kept_with (kept_of_record b) c
kept_byte b c = kept_after (step default_config b.state c).1 (step default_config b.state c).0 b.fields b.field c

-- the end of the input
pub kept_last : (b : Begun) → kept_by act.EndRecord 0 (kept_of_record b) ≡ kept_of_record (ended_record b.state (b.fields ++ b.field ∷ []))
kept_last b = sym (kept_whole b.state b.fields b.field)
