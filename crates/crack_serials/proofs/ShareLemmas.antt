-- How many of consecutive serials are in a map.
use Rattle.std.proofs.Common.{◌≡◌, ℕ, zero, suc, ◌+◌, ◌-◌, ◌*◌, ◌/◌, ◌%◌, ◌<◌, ◌≤◌, refl, sym, ap, ◌∙◌, inl, inr, arith, nat_eq, add-one, zero-add, List, [], ◌∷◌, length, get_or}
use Rattle.std.specs.Prelude.{if◌then◌else◌}
use Rattle.std.proofs.lemmas.Bool.{cases_eq, cases_lt, ne_eqb, eq-eqb}
use Rattle.crack_serials.specs.Serials.{Serials, map_of, shares, HasRoom}
use Rattle.crack_serials.specs.Keeps.{HaveShares}
use Rattle.crack_serials.specs.Shares.{below}

-- one more serial
below-next : (map n : ℕ) → map < 64 → below map (n + 1) ≡ below map n + (if nat_eq (map_of n) map then 1 else 0)
below-next map n within = elim (cases_eq (map_of n) map) [
  | inl e ↦ rw (eq-eqb (map_of n) map e) (omega arith)
  | inr ne ↦ rw (ne_eqb (map_of n) map ne) (omega arith)
]

-- sums over a first serial and the others
with_first : (own others first second last end : ℕ) → others + second ≡ last → second ≡ first + own → last ≡ end → own + others + first ≡ end
with_first own others first second last end rest step same = omega arith

shares-below : (map first count : ℕ) → map < 64 → shares map first count + below map first ≡ below map (first + count)
shares-below map first zero within =
    let same : first ≡ first + 0 = omega arith in
    zero-add (below map first) ∙ ap (below map) same
shares-below map first (suc count) within =
    let same : suc first + count ≡ first + suc count = omega arith in
    with_first (if nat_eq (map_of first) map then 1 else 0) (shares map (suc first) count) (below map first) (below map (suc first)) (below map (suc first + count)) (below map (first + suc count))
    (shares-below map (suc first) count within)
    (ap (below map) (sym (add-one first)) ∙ below-next map first within)
    (ap (below map) same)

-- the shares of whole rounds are equal
below-round : (map rounds n : ℕ) → below map (2048 * rounds + n) ≡ 32 * rounds + below map n
below-round map rounds n = omega arith

-- sums over rounds and their rests
with_rounds : (share before after rounds more rest : ℕ) → share + (32 * rounds + before) ≡ 32 * (rounds + more) + after → share ≡ more * 32 + after - before
with_rounds share before after rounds more rest same = omega arith

pub shares-is : (map first count : ℕ) → map < 64 → count / 2048 * 32 + below map (first % 2048 + count % 2048) - below map (first % 2048) ≡ shares map first count
shares-is map first count within =
    let start : first ≡ 2048 * (first / 2048) + first % 2048 = omega arith in
    let end : first + count ≡ 2048 * (first / 2048 + count / 2048) + (first % 2048 + count % 2048) = omega arith in
    let low = ap (below map) start ∙ below-round map (first / 2048) (first % 2048) in
    let high = ap (below map) end ∙ below-round map (first / 2048 + count / 2048) (first % 2048 + count % 2048) in
    sym (with_rounds (shares map first count) (below map (first % 2048)) (below map (first % 2048 + count % 2048)) (first / 2048) (count / 2048) 0 (ap (λ n. shares map first count + n) (sym low) ∙ shares-below map first count within ∙ high))

-- no serial is in another map than these
pub shares-none : (map first count : ℕ) → 64 ≤ map → shares map first count ≡ 0
shares-none map first zero far = refl
shares-none map first (suc count) far = rw (ne_eqb (map_of first) map (λ same. absurd (omega (arith, same)))) (omega (arith, shares-none map (suc first) count far))

-- each map has room for its share, if the 64 have
pub HasRoom-all : (s : Serials) (first count : ℕ) → HaveShares 64 first count s.room → HasRoom s first count
HasRoom-all s first count shares map = elim (cases_lt map 64) [
  | inl near ↦ shares map near
  | inr far ↦ omega (arith, shares-none map first count far)
]

-- there are maps if there is room
pub some_room : (s : Serials) (first count : ℕ) → 0 < count → HasRoom s first count → 0 < length s.room
some_room s first zero some room = absurd (omega (arith, some))
some_room s first (suc count) some room = by_list s.room (rw (eq-eqb (map_of first) (map_of first) refl) at (room (map_of first)))
  where
    by_list : (rooms : List ℕ) → 1 + shares (map_of first) (suc first) count ≤ get_or rooms (map_of first) 0 → 0 < length rooms
    by_list [] less = absurd (omega (arith, less))
    by_list (r ∷ rooms) less = omega arith
