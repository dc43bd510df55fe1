-- Laws of the rows of a range that are taken out at their spots.
use Rattle.std.proofs.Common.{◌≡◌, ◌≢◌, ℕ, zero, suc, ◌+◌, ◌<◌, Bool, true, false, not, List, [], ◌∷◌, ◌++◌, drop, filter, length, get_or, set, refl, sym, ap, ◌∙◌, inl, inr, arith}
use Rattle.std.proofs.lemmas.Bool.{cases_Bool, cases_eq, true≢false}
use Rattle.std.proofs.lemmas.List.{get_or-set_same, get_or-set_other}
use Rattle.crack_arena.specs.Arena.{Handle, times, slots}
use Rattle.crack_arena.proofs.Times.{times-nil, times-cons}
use Rattle.crack_arena.specs.Memories.{Memory}
use Rattle.crack_pending.specs.Spots.{kept}
use Rattle.crack_pending.specs.Keeps.{place_at, HasRow, IsSoundList}
use Rattle.crack_pending.proofs.Kept.{Stands-within}

-- a row that is in the list once another is removed was in it before, at another place
pub stood : (bs : List Bool) (spot other : ℕ) → HasRow bs spot → HasRow (set bs spot false) other → (other ≢ spot) × HasRow bs other
stood bs spot other at there = elim (cases_eq other spot) [
  | inl e ↦ absurd (true≢false (sym there ∙ rw e (get_or-set_same bs spot false false (Stands-within bs spot at))))
  | inr ne ↦ (ne, sym (get_or-set_other bs spot other false false ne) ∙ there)
]

module _ {X : Type 0} (p : X → Bool) where
  -- the first of the wanted rows is removed
  pub inside-hole : (bs : List Bool) (xs : List X) (spot : ℕ) (d : X) → length bs ≡ length xs → HasRow bs spot → p (get_or xs spot d) ≡ true → ((k : ℕ) → k < spot → HasRow bs k → p (get_or xs k d) ≡ false) → filter p (kept bs xs) ≡ get_or xs spot d ∷ filter p (kept (set bs spot false) xs)
  inside-hole [] xs spot d beside at is none = absurd (true≢false (sym at))
  inside-hole (b ∷ bs) [] spot d beside at is none = absurd (omega (arith, beside))
  inside-hole (true ∷ bs) (x ∷ xs) zero d beside at is none =
      let here : p x ≡ true = is in
      rw here refl
  inside-hole (false ∷ bs) (x ∷ xs) zero d beside at is none = absurd (true≢false (sym at))
  inside-hole (true ∷ bs) (x ∷ xs) (suc n) d beside at is none =
      let out : p x ≡ false = none zero (omega arith) refl in
      rw out (inside-hole bs xs n d (omega (arith, beside)) at is (λ k l there. none (suc k) (omega (arith, l)) there))
  inside-hole (false ∷ bs) (x ∷ xs) (suc n) d beside at is none =
      inside-hole bs xs n d (omega (arith, beside)) at is (λ k l there. none (suc k) (omega (arith, l)) there)

  -- the others stay
  pub outside-hole : (bs : List Bool) (xs : List X) (spot : ℕ) (d : X) → length bs ≡ length xs → HasRow bs spot → p (get_or xs spot d) ≡ true → filter (λ x. not (p x)) (kept (set bs spot false) xs) ≡ filter (λ x. not (p x)) (kept bs xs)
  outside-hole [] xs spot d beside at is = absurd (true≢false (sym at))
  outside-hole (b ∷ bs) [] spot d beside at is = absurd (omega (arith, beside))
  outside-hole (true ∷ bs) (x ∷ xs) zero d beside at is =
      let here : p x ≡ true = is in
      rw here refl
  outside-hole (false ∷ bs) (x ∷ xs) zero d beside at is = absurd (true≢false (sym at))
  outside-hole (true ∷ bs) (x ∷ xs) (suc n) d beside at is =
      let rest = outside-hole bs xs n d (omega (arith, beside)) at is in
      elim (cases_Bool (p x)) [
        | inl inside ↦ rw inside rest
        | inr out ↦ rw out (ap (λ ys. x ∷ ys) rest)
      ]
  outside-hole (false ∷ bs) (x ∷ xs) (suc n) d beside at is = outside-hole bs xs n d (omega (arith, beside)) at is

  -- no row is wanted
  pub none-inside : (bs : List Bool) (xs : List X) (d : X) → length bs ≡ length xs → ((k : ℕ) → k < length xs → HasRow bs k → p (get_or xs k d) ≡ false) → (filter p (kept bs xs) ≡ []) × (filter (λ x. not (p x)) (kept bs xs) ≡ kept bs xs)
  none-inside [] [] d beside none = (refl, refl)
  none-inside [] (x ∷ xs) d beside none = absurd (omega (arith, beside))
  none-inside (b ∷ bs) [] d beside none = absurd (omega (arith, beside))
  none-inside (true ∷ bs) (x ∷ xs) d beside none =
      let rest = none-inside bs xs d (omega (arith, beside)) (λ k l there. none (suc k) (omega (arith, l)) there) in
      let out : p x ≡ false = none zero (omega arith) refl in
      (rw out rest.0, rw out (ap (λ ys. x ∷ ys) rest.1))
  none-inside (false ∷ bs) (x ∷ xs) d beside none =
      none-inside bs xs d (omega (arith, beside)) (λ k l there. none (suc k) (omega (arith, l)) there)

-- the elements after a list that is followed by others
pub drop-after : {X : Type 0} (xs ys : List X) → drop (length xs) (xs ++ ys) ≡ ys
drop-after [] ys = refl
drop-after (x ∷ xs) ys = drop-after xs ys

-- each is inside or outside
pub times-parted : (p : Handle → Bool) (n : ℕ) (hs : List Handle) → times n (slots hs) ≡ times n (slots (filter p hs)) + times n (slots (filter (λ h. not (p h)) hs))
times-parted p n [] = omega (arith, times-nil n)
times-parted p n (h ∷ hs) =
    let rest = times-parted p n hs in
    elim (cases_Bool (p h)) [
      | inl is ↦ rw is (omega (arith, rest, times-cons n h.slot (slots hs), times-cons n h.slot (slots (filter p hs))))
      | inr out ↦ rw out (omega (arith, rest, times-cons n h.slot (slots hs), times-cons n h.slot (slots (filter (λ x. not (p x)) hs))))
    ]

module _ {handles : List Handle} {remembered : List Memory} {stands : List Bool} {spots : List ℕ} {rows noted hint_place hint_spot : ℕ} (are : IsSoundList handles remembered stands spots rows noted hint_place hint_spot) where
  -- some rows less, and no hint
  pub kept_taken : (stands' : List Bool) (rows' : ℕ) → length stands' ≡ length stands → ((spot : ℕ) → HasRow stands' spot → HasRow stands spot) → rows' ≡ place_at stands' (length stands') → IsSoundList handles remembered stands' spots rows' noted 0 0
  kept_taken stands' rows' long stood counted = record {
    remembered_beside = are.remembered_beside;
    stands_beside = long ∙ are.stands_beside;
    counted = counted;
    few = are.few;
    covered = λ spot there. are.covered spot (stood spot there);
    apart = λ j k at_j at_k. are.apart j k (stood j at_j) (stood k at_k);
    noted_near = are.noted_near;
    led = λ spot before there. are.led spot before (stood spot there);
    near = omega arith;
    hinted = refl;
  }
