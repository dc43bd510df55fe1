-- From states, strangers and late receipts to a cover, or to the place of its fault.
use Rattle.std.proofs.Common.{◌≡◌, ◌<◌, ◌≤◌, ℕ, List, [], ◌∷◌, ◌++◌, length, Bool, true, false, cond, ◌||◌, not, Option, Some, None, refl, ap, arith, sym, get_or, zero, suc, ◌∙◌, subst, append-nil, inl, inr, ⊎_elim, ◌⊎◌, length-append, append_assoc}
use Rattle.std.specs.Prelude.{All, AllPairs, if◌then◌else◌}
use Rattle.std.specs.List.{list_any}
use Rattle.std.specs.Option.{option_map}
use Rattle.std.proofs.lemmas.List.Elements.{All-nil, All-cons, All-head, All-tail}
use Rattle.std.proofs.lemmas.List.Folds.{Any-from_list_any}
use Rattle.std.proofs.lemmas.List.{get_or_append_left, get_or_at, get_or_default}
use Rattle.std.proofs.lemmas.Bool.Decides.{nat_tests}
use Rattle.std.proofs.lemmas.List.Quantifiers.{all_pairs_push}
use Rattle.crack_row.specs.declared.command.Entry.{Entry}
use Rattle.crack_witness.specs.declared.receipt.Receipt.{Receipt}
use Rattle.crack_table.specs.Cover.{has_place, CoveredBelow, IsCovered, IsGap, first_stranger, first_late, is_late, IsFault, Covers}
use Rattle.crack_table.specs.Coverage.{named_place}

tail_none : (b : Bool) (r : Receipt) (o : Option Receipt) → cond (not b) (Some r) o ≡ None → (b ≡ true) × (o ≡ None)
tail_none true r o is = (refl, is)
tail_none false r o is = cc

pub all_placed : (lists : List (List Entry)) (rs : List Receipt) → first_stranger lists rs ≡ None → All (λ r. has_place lists r ≡ true) rs
all_placed lists [] none = All-nil (λ r. has_place lists r ≡ true)
all_placed lists (r ∷ rs) none =
    let t = tail_none (has_place lists r) r (first_stranger lists rs) none in
    All-cons (λ r. has_place lists r ≡ true) r rs t.0 (all_placed lists rs t.1)

or_parts : (a b : Bool) → (a || b) ≡ false → (a ≡ false) × (b ≡ false)
or_parts true b is = cc
or_parts false b is = (refl, is)

none_at : {X : Type 0} (p : X → Bool) (xs : List X) (k : ℕ) (d : X) → k < length xs → list_any p xs ≡ false → p (get_or xs k d) ≡ false
none_at p [] k d lt none = absurd (omega arith)
none_at p (x ∷ xs) zero d lt none = (or_parts (p x) (list_any p xs) none).0
none_at p (x ∷ xs) (suc k) d lt none = none_at p xs k d (omega arith) (or_parts (p x) (list_any p xs) none).1

-- the second receipt isn't late after the first
abbrev IsPunctual : Receipt → Receipt → Type 0
IsPunctual earlier r = is_late earlier r ≡ false

if_none : (b : Bool) (r : Receipt) (o : Option Receipt) → (if b then Some r else o) ≡ None → (b ≡ false) × (o ≡ None)
if_none true r o is = cc
if_none false r o is = (refl, is)

pub all_rise : (done rs : List Receipt) → first_late done rs ≡ None → AllPairs IsPunctual done → AllPairs IsPunctual (done ++ rs)
all_rise done [] none rises = rw (append-nil done) rises
all_rise done (r ∷ rs) none rises =
    let t = if_none (list_any (λ a. is_late a r) done) r (first_late (done ++ r ∷ []) rs) none in
    let P : List Receipt → Type 0 = λ l. AllPairs IsPunctual l in
    subst P (append_assoc done (r ∷ []) rs) (all_rise (done ++ r ∷ []) rs t.1 (all_pairs_push IsPunctual done r rises (λ k d lt. none_at (λ a. is_late a r) done k d lt t.0)))

pub none_rise : (rs : List Receipt) → first_late [] rs ≡ None → AllPairs IsPunctual rs
none_rise rs none = all_rise [] rs none (λ i j d lt lt2. absurd (omega arith))

from_map : (o : Option Receipt) (place : ℕ × ℕ) → Some place ≡ option_map named_place o → (r : Receipt) × (o ≡ Some r) × (r.part ≡ place.0) × (r.position ≡ place.1)
from_map None place is = cc
from_map (Some r) place is = let e : place ≡ named_place r = cc in (r, refl, sym (ap (λ p. p.0) e), sym (ap (λ p. p.1) e))

pub stranger_fault : (lists : List (List Entry)) (rs : List Receipt) (place : ℕ × ℕ) → CoveredBelow lists rs (length lists) → Some place ≡ option_map named_place (first_stranger lists rs) → IsFault lists rs place.0 place.1
stranger_fault lists rs place met is = inr (inl (met, from_map (first_stranger lists rs) place is))

pub late_fault : (lists : List (List Entry)) (rs : List Receipt) (place : ℕ × ℕ) → CoveredBelow lists rs (length lists) → first_stranger lists rs ≡ None → Some place ≡ option_map named_place (first_late [] rs) → IsFault lists rs place.0 place.1
late_fault lists rs place met none is = inr (inr (met, none, from_map (first_late [] rs) place is))

found_absurd : (b : Bool) (r s : Receipt) (o : Option Receipt) → b ≡ true → cond (not b) (Some s) o ≡ Some r → o ≡ Some r
found_absurd true r s o b_is is = is
found_absurd false r s o b_is is = cc

stranger_absurd : (lists : List (List Entry)) (rs : List Receipt) (r : Receipt) → first_stranger lists rs ≡ Some r → All (λ r. has_place lists r ≡ true) rs → ⊥
stranger_absurd lists [] r is all = cc
stranger_absurd lists (s ∷ ss) r is all =
    stranger_absurd lists ss r (found_absurd (has_place lists s) r s (first_stranger lists ss) (All-head (λ r. has_place lists r ≡ true) s ss all) is) (All-tail (λ r. has_place lists r ≡ true) s ss all)

late_here : (done : List Receipt) (x : Receipt) (rs : List Receipt) → list_any (λ a. is_late a x) done ≡ true → AllPairs IsPunctual (done ++ x ∷ rs) → ⊥
late_here done x rs late rises =
    let some = Any-from_list_any (λ a. is_late a x) done late in
    let k = some.0 in
    let pair : IsPunctual (get_or (done ++ x ∷ rs) k x) (get_or (done ++ x ∷ rs) (length done) x) = rises k (length done) x some.2 (rw length-append (omega arith)) in
    let first : get_or (done ++ x ∷ rs) k x ≡ get_or done k x = get_or_append_left done (x ∷ rs) x k some.2 in
    let second : get_or (done ++ x ∷ rs) (length done) x ≡ x = get_or_at done x rs x (length done) refl in
    let default : get_or done k x ≡ some.1 = get_or_default done k x some.1 some.2 ∙ some.3 in
    let punctual : is_late some.1 x ≡ false = rw (first, second, default) at pair in
    cc (some.4, punctual)

if_some : (b : Bool) (r x : Receipt) (o : Option Receipt) → (if b then Some x else o) ≡ Some r → (b ≡ true) ⊎ (o ≡ Some r)
if_some true r x o is = inl refl
if_some false r x o is = inr is

late_absurd : (done rs : List Receipt) (r : Receipt) → first_late done rs ≡ Some r → AllPairs IsPunctual (done ++ rs) → ⊥
late_absurd done [] r is rises = cc
late_absurd done (x ∷ rs) r is rises =
    let P : List Receipt → Type 0 = λ l. AllPairs IsPunctual l in
    ⊎_elim
    (λ here. late_here done x rs here rises)
    (λ later. late_absurd (done ++ x ∷ []) rs r later (subst P (sym (append_assoc done (x ∷ []) rs)) rises))
    (if_some (list_any (λ a. is_late a x) done) r x (first_late (done ++ x ∷ []) rs) is)

gap_absurd : (rs : List Receipt) (p : ℕ) (list : List Entry) (n : ℕ) → IsGap rs p list n → IsCovered rs p list → ⊥
gap_absurd rs p list n gap covered = gap.2 (covered n gap.0 gap.1)

-- receipts of one worker in one partition name rising places exactly if none is late
abbrev RisesTo : Receipt → Receipt → Type 0
RisesTo earlier r = earlier.worker ≡ r.worker → earlier.part ≡ r.part → earlier.position < r.position

rises_to : (earlier r : Receipt) → IsPunctual earlier r → RisesTo earlier r
rises_to earlier r punctual worker part = grind (arith, nat_tests)

punctual_to : (earlier r : Receipt) → RisesTo earlier r → (b : Bool) → is_late earlier r ≡ b → IsPunctual earlier r
punctual_to earlier r rises false is = is
punctual_to earlier r rises true is =
    let worker : earlier.worker ≡ r.worker = grind (arith, nat_tests) in
    let part : earlier.part ≡ r.part = grind (arith, nat_tests) in
    let late : r.position ≤ earlier.position = grind (arith, nat_tests) in
    absurd (omega (arith, rises worker part, late))

pub rising : (rs : List Receipt) → AllPairs IsPunctual rs → AllPairs RisesTo rs
rising rs all i j d before within = rises_to (get_or rs i d) (get_or rs j d) (all i j d before within)

all_punctual : (rs : List Receipt) → AllPairs RisesTo rs → AllPairs IsPunctual rs
all_punctual rs all i j d before within = punctual_to (get_or rs i d) (get_or rs j d) (all i j d before within) (is_late (get_or rs i d) (get_or rs j d)) refl

-- if a place is at fault the receipts aren't a cover
pub fault_uncovered : (lists : List (List Entry)) (rs : List Receipt) (p n : ℕ) → IsFault lists rs p n → Covers lists rs → ⊥
fault_uncovered lists rs p n fault covers =
    ⊎_elim
    (λ first. gap_absurd rs p first.0 n first.2 (covers.covered p first.0 first.1))
    (λ other. ⊎_elim
    (λ strange. stranger_absurd lists rs strange.1.0 strange.1.1 covers.placed)
    (λ late. late_absurd [] rs late.2.0 late.2.1 (all_punctual rs covers.rising))
    other)
    fault
