-- Late receipts.
use Rattle.std.proofs.Common.{◌≡◌, ◌<◌, ℕ, List, [], ◌∷◌, ◌++◌, length, Bool, true, false, cond, ◌==◌, ◌&&◌, ◌||◌, nat_le, Option, Some, None, refl, ap, arith, sym, get_or, take, drop, ◌+◌, ◌∙◌, append_assoc, subst}
use Rattle.std.specs.List.{list_any, flat_map}
use Rattle.std.specs.Option.{option_map, option_or}
use Rattle.std.specs.Ordering.{nat_cmp, is_eq}
use Rattle.std.specs.Cmp.{tied_then, unsigned_tied}
use Rattle.std.proofs.lemmas.Bool.Decides.{nat_tests}
use Rattle.std.proofs.lemmas.List.{append-nil, drop_more, take-append-drop}
use Rattle.std.proofs.lemmas.List.Concat.{flat_map-append}
use denote.Ref.{Bor}
use Rattle.std.specs.Prelude.{if◌then◌else◌, is_some}
use Rattle.crack_table.proofs.StateLaws.{flat_read}
use Rattle.std.proofs.lemmas.List.Folds.{list_any-append}
use Rattle.crack_witness.specs.declared.receipt.Receipt.{Receipt}
use Rattle.crack_table.specs.Cover.{is_late, first_late}
use Rattle.crack_table.specs.Coverage.{named_place, is_late_at, pair_cmp, Tracks}

same_nat : (x y : ℕ) → is_eq (nat_cmp x y) ≡ (x == y)
same_nat x y = unsigned_tied x y

same_pair : (x y : ℕ × ℕ) → is_eq (pair_cmp x y) ≡ ((x.0 == y.0) && (x.1 == y.1))
same_pair x y = sym (tied_then (nat_cmp x.0 y.0) (nat_cmp x.1 y.1)) ∙ rw (same_nat x.0 y.0, same_nat x.1 y.1) refl

or_false : (b : Bool) → (b || false) ≡ b
or_false true = refl
or_false false = refl

-- by cases on whether the keys are the same
late_by : (s : Option ℕ) (b t : Bool) (x n : ℕ) → (b ≡ true → is_late_at s x ≡ false) → t ≡ (b && nat_le n x) → (is_late_at s n || t) ≡ is_late_at (cond b (Some x) s) n
late_by None true t x n fresh is = is
late_by (Some v) true t x n fresh is = let f : nat_le x v ≡ false = fresh refl in grind (arith, nat_tests, is)
late_by s false t x n fresh is = rw is (or_false (is_late_at s n))

still_fresh : (f : ℕ × ℕ → Option ℕ) (x r : Receipt) → is_late_at (f (x.worker, x.part)) x.position ≡ false → ((x.worker == r.worker) && (x.part == r.part)) ≡ true → is_late_at (f (r.worker, r.part)) x.position ≡ false
still_fresh f x r fresh same =
    let a : x.worker ≡ r.worker = grind (arith, nat_tests) in
    let b : x.part ≡ r.part = grind (arith, nat_tests) in
    let P : ℕ → Type 0 = λ w. is_late_at (f (w, x.part)) x.position ≡ false in
    let Q : ℕ → Type 0 = λ p. is_late_at (f (r.worker, p)) x.position ≡ false in
    subst Q b (subst P a fresh)

pub track_more : (f g : ℕ × ℕ → Option ℕ) (done : List Receipt) (x : Receipt) → Tracks f done → is_late_at (f (x.worker, x.part)) x.position ≡ false
    → ((q : ℕ × ℕ) → g q ≡ cond (is_eq (pair_cmp (x.worker, x.part) q)) (Some x.position) (f q)) → Tracks g (done ++ x ∷ [])
track_more f g done x tracks fresh says r =
    list_any-append (λ a. is_late a r) done (x ∷ [])
    ∙ rw (tracks r, says (r.worker, r.part), same_pair (x.worker, x.part) (r.worker, r.part))
    (late_by (f (r.worker, r.part)) ((x.worker == r.worker) && (x.part == r.part)) (is_late x r || false) x.position r.position (still_fresh f x r fresh) (or_false (is_late x r)))

pub first_late_append : (done xs ys : List Receipt) → first_late done (xs ++ ys) ≡ option_or (first_late done xs) (first_late (done ++ xs) ys)
first_late_append done [] ys = rw (append-nil done) refl
first_late_append done (x ∷ xs) ys =
    let more = rw (append_assoc done (x ∷ []) xs) at (first_late_append (done ++ x ∷ []) xs ys) in
    elim (list_any (λ a. is_late a x) done)
    as (λ b. (if b then Some x else first_late (done ++ x ∷ []) (xs ++ ys)) ≡ option_or (if b then Some x else first_late (done ++ x ∷ []) xs) (first_late (done ++ x ∷ xs) ys))
    [ true ↦ refl | false ↦ more ]

-- a receipt that isn't late
pub late_step : (done list : List Receipt) (i : ℕ) (r : Receipt) → i < length list → r ≡ get_or list i r → list_any (λ a. is_late a r) done ≡ false → first_late done (drop i list) ≡ first_late (done ++ r ∷ []) (drop (i + 1) list)
late_step done list i r lt read fresh = rw (drop_more list i r lt, ← read, fresh) refl

-- a receipt that is late
pub late_now : (done list : List Receipt) (i : ℕ) (r : Receipt) → i < length list → r ≡ get_or list i r → list_any (λ a. is_late a r) done ≡ true → first_late done (drop i list) ≡ Some r
late_now done list i r lt read late = rw (drop_more list i r lt, ← read, late) refl

pub map_none : (o : Option Receipt) → None ≡ option_map named_place o → o ≡ None
map_none None is = refl
map_none (Some r) is = cc

late_in : (a b : Option Receipt) (o : Option (ℕ × ℕ)) → o ≡ option_map named_place a → is_some o ≡ true → o ≡ option_map named_place (option_or a b)
late_in None b o is some = cc
late_in (Some r) b o is some = is

pub late_found : (before xs after : List Receipt) (o : Option (ℕ × ℕ)) → first_late [] before ≡ None → o ≡ option_map named_place (first_late before xs) → is_some o ≡ true → o ≡ option_map named_place (first_late [] ((before ++ xs) ++ after))
late_found before xs after o none is some =
    rw (first_late_append [] (before ++ xs) after, first_late_append [] before xs, none) (late_in (first_late before xs) (first_late (before ++ xs) after) o is some)

pub flat_split : (xss : List (Bor (List Receipt))) (i : ℕ) (x : Bor (List Receipt)) → i < length xss → x ≡ get_or xss i x → flat_map (λ r. r.now) xss ≡ (flat_map (λ r. r.now) (take i xss) ++ x.now) ++ flat_map (λ r. r.now) (drop (i + 1) xss)
flat_split xss i x lt read =
    ap (λ l. flat_map (λ r. r.now) l) (sym (take-append-drop (i + 1) xss)) ∙ (flat_map-append (λ r. r.now) (take (i + 1) xss) (drop (i + 1) xss) ∙ ap (λ l. l ++ flat_map (λ r. r.now) (drop (i + 1) xss)) (flat_read xss i x lt read))

pub none_from_test : {X : Type 0} (o : Option X) → false ≡ is_some o → o ≡ None
none_from_test None is = refl
none_from_test (Some x) is = cc

pub none_more : (before xs : List Receipt) (o : Option (ℕ × ℕ)) → first_late [] before ≡ None → o ≡ None → o ≡ option_map named_place (first_late before xs) → first_late [] (before ++ xs) ≡ None
none_more before xs o none o_none is = first_late_append [] before xs ∙ rw none (map_none (first_late before xs) (sym o_none ∙ is))
