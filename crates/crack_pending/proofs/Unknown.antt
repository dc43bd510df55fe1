-- Laws of how many rows' keys aren't known.
use Rattle.std.proofs.Common.{◌≡◌, ℕ, ◌+◌, ◌-◌, ◌<◌, ◌≤◌, Bool, true, false, cond, eqb, List, [], ◌∷◌, ◌++◌, length, get_or, set, refl, sym, ap, ◌∙◌, arith}
use Rattle.std.proofs.lemmas.List.{map-set, get_or-map, length-map}
use mir.Val.{bool_byte}
use Rattle.crack_arena.specs.Arena.{times}
use Rattle.crack_arena.specs.Rows.{unknown}
use Rattle.crack_arena.proofs.Times.{times-nil, times_one, times_head, times-map-append, times-set, times-map-remove, times-le-length}
use Rattle.crack_arena.specs.Memories.{Memory, nothing}
use Rattle.crack_pending.specs.Spots.{kept}
use Rattle.crack_pending.specs.Keeps.{place_at, HasRow, keys_of}
use Rattle.crack_pending.specs.Inside.{KeysAreKnown}
use Rattle.crack_pending.proofs.Kept.{length-kept, kept-at, kept-hole, kept-set, kept-push, place_at-few, place_at-before, Stands-within}

-- one more key, counted
pub counted_one : (key : ℕ) → bool_byte (eqb key unknown) ≡ times unknown (key ∷ [])
counted_one key = byte (eqb key unknown) ∙ sym (times_one unknown key)
  where
    byte : (b : Bool) → bool_byte b ≡ cond b 1 0
    byte true = refl
    byte false = refl

pub byte_few : (b : Bool) → bool_byte b ≤ 1
byte_few true = omega arith
byte_few false = omega arith

module _ (remembered : List Memory) (stands : List Bool) (beside : length stands ≡ length remembered) where
  pub counted_push : (m : Memory) → times unknown (keys_of (kept (stands ++ true ∷ []) (remembered ++ m ∷ []))) ≡ times unknown (keys_of (kept stands remembered)) + times unknown (m.key ∷ [])
  counted_push m =
      ap (λ (ms : List Memory). times unknown (keys_of ms)) (kept-push stands remembered m beside) ∙ times-map-append unknown (λ (x : Memory). x.key) (kept stands remembered) (m ∷ [])

  place_within : (spot : ℕ) → HasRow stands spot → place_at stands spot < length (kept stands remembered)
  place_within spot at =
      omega (arith, length-kept stands remembered beside, place_at-before stands spot (length stands) at (Stands-within stands spot at))

  pub counted_hole : (spot : ℕ) → HasRow stands spot → times unknown (keys_of (kept (set stands spot false) remembered)) + times unknown ((get_or remembered spot nothing).key ∷ []) ≡ times unknown (keys_of (kept stands remembered))
  counted_hole spot at =
      let less = times-map-remove unknown (λ (m : Memory). m.key) (kept stands remembered) (place_at stands spot) nothing (place_within spot at) in
      rw (kept-hole stands remembered spot beside at, ← kept-at stands remembered spot nothing beside at) less

  pub counted_set : (spot : ℕ) (m : Memory) → HasRow stands spot → times unknown (keys_of (kept stands (set remembered spot m))) + times unknown ((get_or remembered spot nothing).key ∷ []) ≡ times unknown (keys_of (kept stands remembered)) + times unknown (m.key ∷ [])
  counted_set spot m at =
      let place = place_at stands spot in
      let all = kept stands remembered in
      let within = place_within spot at in
      let key : get_or (keys_of all) place 0 ≡ (get_or all place nothing).key = get_or-map (λ (x : Memory). x.key) all place nothing 0 within in
      let long = length-map all (λ (x : Memory). x.key) in
      let less = rw key at (times-set unknown (keys_of all) place m.key 0 (omega (arith, within, long))) in
      rw (kept-set stands remembered spot m beside at, ← kept-at stands remembered spot nothing beside at, map-set (λ (x : Memory). x.key) all place m) less

  -- if one isn't known, some are counted
  pub counted_some : (spot : ℕ) → HasRow stands spot → (get_or remembered spot nothing).key ≡ unknown → 0 < times unknown (keys_of (kept stands remembered))
  counted_some spot at is =
      let hole = rw is at (counted_hole spot at) in
      omega (arith, hole, times_head unknown [])

  pub counted_none : times unknown (keys_of (kept stands remembered)) ≡ 0 → KeysAreKnown remembered stands
  counted_none none spot at is = absurd (omega (arith, none, counted_some spot at is))

  pub counted_few : times unknown (keys_of (kept stands remembered)) ≤ length remembered
  counted_few =
      omega (arith, times-le-length unknown (keys_of (kept stands remembered)), length-map (kept stands remembered) (λ (m : Memory). m.key), length-kept stands remembered beside, place_at-few stands (length stands), beside)

-- the row at a spot goes: if its key isn't known there is one less
pub one_less : (unknowns key : ℕ) → key ≡ unknown → 0 < unknowns → unknowns - 1 + times unknown (key ∷ []) ≡ unknowns
one_less unknowns key is some = rw is (omega (arith, some, times_head unknown [], times-nil unknown))
