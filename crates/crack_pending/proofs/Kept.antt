-- Laws of the rows at spots that aren't holes.
use Rattle.std.proofs.Common.{◌≡◌, ℕ, zero, suc, ◌+◌, ◌-◌, ◌<◌, ◌≤◌, Bool, true, false, cond, List, [], ◌∷◌, ◌++◌, length, get_or, set, take, drop, zero-add, refl, sym, ap, inl, inr, length-drop, arith}
use Rattle.std.specs.List.{remove}
use Rattle.std.proofs.lemmas.List.{length-take-le}
use mir.Val.{bool_byte}
use Rattle.std.proofs.lemmas.Bool.{true≢false, cases_lt}
use Rattle.crack_pending.specs.Spots.{kept}
use Rattle.crack_pending.specs.Keeps.{place_at, HasRow}

-- one more spot: a row there is one more place
pub place_at-more : (bs : List Bool) (spot : ℕ) → spot < length bs → place_at bs (spot + 1) ≡ place_at bs spot + cond (get_or bs spot false) 1 0
place_at-more [] spot within = absurd (omega (arith, within))
place_at-more (b ∷ bs) zero within = omega arith
place_at-more (b ∷ bs) (suc n) within =
    let one : suc n + 1 ≡ suc (n + 1) = omega arith in
    rw one (omega (arith, place_at-more bs n (omega (arith, within))))

-- the same if what stands at the spot is added as a number
pub place_at-counted : (bs : List Bool) (spot : ℕ) → spot < length bs → place_at bs (spot + 1) ≡ place_at bs spot + bool_byte (get_or bs spot false)
place_at-counted bs spot within = by_case (get_or bs spot false) (place_at-more bs spot within)
  where
    by_case : (b : Bool) → place_at bs (spot + 1) ≡ place_at bs spot + cond b 1 0 → place_at bs (spot + 1) ≡ place_at bs spot + bool_byte b
    by_case true one = one
    by_case false none = none

pub place_at-le : (bs : List Bool) (m n : ℕ) → m ≤ n → place_at bs m ≤ place_at bs n
place_at-le bs zero n order = omega arith
place_at-le [] (suc m) n order = omega arith
place_at-le (b ∷ bs) (suc m) zero order = absurd (omega (arith, order))
place_at-le (b ∷ bs) (suc m) (suc n) order = omega (arith, place_at-le bs m n (omega (arith, order)))

-- no more rows than spots
pub place_at-few : (bs : List Bool) (n : ℕ) → place_at bs n ≤ n
place_at-few bs zero = omega arith
place_at-few [] (suc n) = omega arith
place_at-few (true ∷ bs) (suc n) = omega (arith, place_at-few bs n)
place_at-few (false ∷ bs) (suc n) = omega (arith, place_at-few bs n)

pub place_at-past : (bs : List Bool) (n : ℕ) → length bs ≤ n → place_at bs n ≡ place_at bs (length bs)
place_at-past [] zero past = refl
place_at-past [] (suc n) past = refl
place_at-past (b ∷ bs) zero past = absurd (omega (arith, past))
place_at-past (b ∷ bs) (suc n) past = omega (arith, place_at-past bs n (omega (arith, past)))

pub place_at-take : (bs : List Bool) (m n : ℕ) → n ≤ m → place_at (take m bs) n ≡ place_at bs n
place_at-take bs m zero order = refl
place_at-take bs zero (suc n) order = absurd (omega (arith, order))
place_at-take [] (suc m) (suc n) order = refl
place_at-take (b ∷ bs) (suc m) (suc n) order = omega (arith, place_at-take bs m n (omega (arith, order)))

-- a spot before which no more rows are than at a place that is there
pub spot-there : (bs : List Bool) (spot place : ℕ) → place_at bs spot ≤ place → place < place_at bs (length bs) → spot < length bs
spot-there bs spot place before within = elim (cases_lt spot (length bs)) [
  | inl l ↦ l
  | inr past ↦ absurd (omega (arith, place_at-past bs spot past, before, within))
]

-- a row is at a spot that is there
pub Stands-within : (bs : List Bool) (spot : ℕ) → HasRow bs spot → spot < length bs
Stands-within [] spot stands = absurd (true≢false (sym stands))
Stands-within (b ∷ bs) zero stands = omega arith
Stands-within (b ∷ bs) (suc n) stands = omega (arith, Stands-within bs n stands)

-- after a row the places are higher
pub place_at-before : (bs : List Bool) (spot n : ℕ) → HasRow bs spot → spot < n → place_at bs spot < place_at bs n
place_at-before bs spot n stands before =
    let more = place_at-more bs spot (Stands-within bs spot stands) in
    let one : place_at bs (spot + 1) ≡ place_at bs spot + 1 = rw stands at more in
    omega (arith, one, place_at-le bs (spot + 1) n (omega (arith, before)))

-- one more hole
pub place_at-hole_behind : (bs : List Bool) (spot n : ℕ) → n ≤ spot → place_at (set bs spot false) n ≡ place_at bs n
place_at-hole_behind bs spot zero order = refl
place_at-hole_behind [] spot (suc n) order = refl
place_at-hole_behind (b ∷ bs) zero (suc n) order = absurd (omega (arith, order))
place_at-hole_behind (b ∷ bs) (suc s) (suc n) order = omega (arith, place_at-hole_behind bs s n (omega (arith, order)))

pub place_at-hole_before : (bs : List Bool) (spot n : ℕ) → HasRow bs spot → spot < n → place_at (set bs spot false) n + 1 ≡ place_at bs n
place_at-hole_before [] spot n stands order = absurd (true≢false (sym stands))
place_at-hole_before (b ∷ bs) spot zero stands order = absurd (omega (arith, order))
place_at-hole_before (true ∷ bs) zero (suc n) stands order = omega arith
place_at-hole_before (false ∷ bs) zero (suc n) stands order = absurd (true≢false (sym stands))
place_at-hole_before (b ∷ bs) (suc s) (suc n) stands order = omega (arith, place_at-hole_before bs s n stands (omega (arith, order)))

-- one more spot
pub place_at-push : (bs : List Bool) (b : Bool) (n : ℕ) → n ≤ length bs → place_at (bs ++ b ∷ []) n ≡ place_at bs n
place_at-push bs b zero within = refl
place_at-push [] b (suc n) within = absurd (omega (arith, within))
place_at-push (c ∷ bs) b (suc n) within = omega (arith, place_at-push bs b n (omega (arith, within)))

-- if there are as many rows as spots, no spot is a hole
pub full-Stands : (bs : List Bool) (n : ℕ) → place_at bs (length bs) ≡ length bs → n < length bs → HasRow bs n
full-Stands [] n full within = absurd (omega (arith, within))
full-Stands (true ∷ bs) zero full within = refl
full-Stands (true ∷ bs) (suc n) full within = full-Stands bs n (omega (arith, full)) (omega (arith, within))
full-Stands (false ∷ bs) n full within = absurd (omega (arith, full, place_at-few bs (length bs)))

pub full-place_at : (bs : List Bool) (n : ℕ) → place_at bs (length bs) ≡ length bs → n ≤ length bs → place_at bs n ≡ n
full-place_at bs zero full within = refl
full-place_at [] (suc n) full within = absurd (omega (arith, within))
full-place_at (true ∷ bs) (suc n) full within = omega (arith, full-place_at bs n (omega (arith, full)) (omega (arith, within)))
full-place_at (false ∷ bs) (suc n) full within = absurd (omega (arith, full, place_at-few bs (length bs)))

pub full-from : (bs : List Bool) → ((n : ℕ) → n < length bs → HasRow bs n) → place_at bs (length bs) ≡ length bs
full-from [] all = refl
full-from (true ∷ bs) all = omega (arith, full-from bs (λ n within. all (suc n) (omega (arith, within))))
full-from (false ∷ bs) all = absurd (true≢false (sym (all 0 (omega arith))))

-- the rows at this many spots from one on
pub place_at-between : (bs : List Bool) (from n : ℕ) → from + n ≤ length bs → place_at bs (from + n) ≡ place_at bs from + place_at (take n (drop from bs)) n
place_at-between bs zero n within = rw (zero-add n) (omega (arith, place_at-take bs n n (omega arith)))
place_at-between [] (suc m) n within = absurd (omega (arith, within))
place_at-between (b ∷ bs) (suc m) n within =
    let split : suc m + n ≡ suc (m + n) = omega arith in
    rw split (omega (arith, place_at-between bs m n (omega (arith, within))))

-- the same if they are counted in the slice
pub rows_in_slice : (bs : List Bool) (from to n : ℕ) → from ≤ to → to ≤ length bs → n ≡ place_at (take (to - from) (drop from bs)) (length (take (to - from) (drop from bs))) → place_at bs to ≡ place_at bs from + n
rows_in_slice bs from to n order within counted =
    let size : from + (to - from) ≡ to = omega (arith, order) in
    let long : length (take (to - from) (drop from bs)) ≡ to - from = length-take-le (to - from) (drop from bs) (omega (arith, length-drop from bs, within)) in
    let some : n ≡ place_at (take (to - from) (drop from bs)) (to - from) = rw long at counted in
    let between = place_at-between bs from (to - from) (omega (arith, size, within)) in
    let whole : place_at bs to ≡ place_at bs from + place_at (take (to - from) (drop from bs)) (to - from) = rw size at between in
    omega (arith, whole, some)

module _ {X : Type 0} where
  pub length-kept : (bs : List Bool) (xs : List X) → length bs ≡ length xs → length (kept bs xs) ≡ place_at bs (length bs)
  length-kept [] xs beside = refl
  length-kept (b ∷ bs) [] beside = absurd (omega (arith, beside))
  length-kept (true ∷ bs) (x ∷ xs) beside = omega (arith, length-kept bs xs (omega (arith, beside)))
  length-kept (false ∷ bs) (x ∷ xs) beside = omega (arith, length-kept bs xs (omega (arith, beside)))

  -- the row at a spot is the one at its place
  pub kept-at : (bs : List Bool) (xs : List X) (spot : ℕ) (d : X) → length bs ≡ length xs → HasRow bs spot → get_or (kept bs xs) (place_at bs spot) d ≡ get_or xs spot d
  kept-at [] xs spot d beside stands = absurd (true≢false (sym stands))
  kept-at (b ∷ bs) [] spot d beside stands = absurd (omega (arith, beside))
  kept-at (true ∷ bs) (x ∷ xs) zero d beside stands = refl
  kept-at (false ∷ bs) (x ∷ xs) zero d beside stands = absurd (true≢false (sym stands))
  kept-at (true ∷ bs) (x ∷ xs) (suc n) d beside stands =
      let one : 1 + place_at bs n ≡ suc (place_at bs n) = omega arith in
      rw one (kept-at bs xs n d (omega (arith, beside)) stands)
  kept-at (false ∷ bs) (x ∷ xs) (suc n) d beside stands =
      let none : 0 + place_at bs n ≡ place_at bs n = omega arith in
      rw none (kept-at bs xs n d (omega (arith, beside)) stands)

  -- one more hole removes the row that was there
  pub kept-hole : (bs : List Bool) (xs : List X) (spot : ℕ) → length bs ≡ length xs → HasRow bs spot → kept (set bs spot false) xs ≡ remove (kept bs xs) (place_at bs spot)
  kept-hole [] xs spot beside stands = absurd (true≢false (sym stands))
  kept-hole (b ∷ bs) [] spot beside stands = absurd (omega (arith, beside))
  kept-hole (true ∷ bs) (x ∷ xs) zero beside stands = refl
  kept-hole (false ∷ bs) (x ∷ xs) zero beside stands = absurd (true≢false (sym stands))
  kept-hole (true ∷ bs) (x ∷ xs) (suc n) beside stands =
      let one : 1 + place_at bs n ≡ suc (place_at bs n) = omega arith in
      rw one (ap (λ ys. x ∷ ys) (kept-hole bs xs n (omega (arith, beside)) stands))
  kept-hole (false ∷ bs) (x ∷ xs) (suc n) beside stands =
      let none : 0 + place_at bs n ≡ place_at bs n = omega arith in
      rw none (kept-hole bs xs n (omega (arith, beside)) stands)

  -- another one at a spot
  pub kept-set : (bs : List Bool) (xs : List X) (spot : ℕ) (y : X) → length bs ≡ length xs → HasRow bs spot → kept bs (set xs spot y) ≡ set (kept bs xs) (place_at bs spot) y
  kept-set [] xs spot y beside stands = absurd (true≢false (sym stands))
  kept-set (b ∷ bs) [] spot y beside stands = absurd (omega (arith, beside))
  kept-set (true ∷ bs) (x ∷ xs) zero y beside stands = refl
  kept-set (false ∷ bs) (x ∷ xs) zero y beside stands = absurd (true≢false (sym stands))
  kept-set (true ∷ bs) (x ∷ xs) (suc n) y beside stands =
      let one : 1 + place_at bs n ≡ suc (place_at bs n) = omega arith in
      rw one (ap (λ ys. x ∷ ys) (kept-set bs xs n y (omega (arith, beside)) stands))
  kept-set (false ∷ bs) (x ∷ xs) (suc n) y beside stands =
      let none : 0 + place_at bs n ≡ place_at bs n = omega arith in
      rw none (kept-set bs xs n y (omega (arith, beside)) stands)

  -- one more after all spots
  pub kept-push : (bs : List Bool) (xs : List X) (y : X) → length bs ≡ length xs → kept (bs ++ true ∷ []) (xs ++ y ∷ []) ≡ kept bs xs ++ y ∷ []
  kept-push [] [] y beside = refl
  kept-push [] (x ∷ xs) y beside = absurd (omega (arith, beside))
  kept-push (b ∷ bs) [] y beside = absurd (omega (arith, beside))
  kept-push (true ∷ bs) (x ∷ xs) y beside = ap (λ ys. x ∷ ys) (kept-push bs xs y (omega (arith, beside)))
  kept-push (false ∷ bs) (x ∷ xs) y beside = kept-push bs xs y (omega (arith, beside))

  -- without holes the list is kept whole
  pub kept-full : (bs : List Bool) (xs : List X) → length bs ≡ length xs → place_at bs (length bs) ≡ length bs → kept bs xs ≡ xs
  kept-full [] [] beside full = refl
  kept-full [] (x ∷ xs) beside full = absurd (omega (arith, beside))
  kept-full (b ∷ bs) [] beside full = absurd (omega (arith, beside))
  kept-full (true ∷ bs) (x ∷ xs) beside full = ap (λ ys. x ∷ ys) (kept-full bs xs (omega (arith, beside)) (omega (arith, full)))
  kept-full (false ∷ bs) (x ∷ xs) beside full = absurd (omega (arith, full, place_at-few bs (length bs)))

-- the spot of the row at a place
pub record IsSpotOf (bs : List Bool) (place : ℕ) : Type 0 where
  pub spot : ℕ
  pub stands : HasRow bs spot
  pub is : place_at bs spot ≡ place

pub spot_of : (bs : List Bool) (place : ℕ) → place < place_at bs (length bs) → IsSpotOf bs place
spot_of [] place within = absurd (omega (arith, within))
spot_of (true ∷ bs) zero within = record { spot = 0; stands = refl; is = refl }
spot_of (true ∷ bs) (suc p) within =
    let rest = spot_of bs p (omega (arith, within)) in
    record { spot = suc rest.spot; stands = rest.stands; is = omega (arith, rest.is) }
spot_of (false ∷ bs) place within =
    let rest = spot_of bs place (omega (arith, within)) in
    record { spot = suc rest.spot; stands = rest.stands; is = omega (arith, rest.is) }

-- no two rows are at one place
pub spot-once : (bs : List Bool) (s t : ℕ) → HasRow bs s → HasRow bs t → place_at bs s ≡ place_at bs t → s ≡ t
spot-once bs s t at_s at_t same = elim (cases_lt s t) [
  | inl l ↦ absurd (omega (arith, place_at-before bs s t at_s l, same))
  | inr l ↦ elim (cases_lt t s) [
    | inl m ↦ absurd (omega (arith, place_at-before bs t s at_t m, same))
    | inr m ↦ omega (arith, l, m)
  ]
]

module _ {X : Type 0} where
  -- the row at a place is at its spot
  pub kept-at_place : (bs : List Bool) (xs : List X) (place : ℕ) (d : X) → length bs ≡ length xs → (s : IsSpotOf bs place) → get_or (kept bs xs) place d ≡ get_or xs s.spot d
  kept-at_place bs xs place d beside s = rw (s.is) at (kept-at bs xs s.spot d beside s.stands)
