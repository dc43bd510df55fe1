-- Laws of codes: what they say about keys, and how each step keeps them.
use Rattle.std.proofs.Common.{◌≡◌, ◌≢◌, ℕ, zero, suc, ◌+◌, ◌-◌, ◌/◌, ◌^◌, ◌<◌, ◌≤◌, Bool, true, false, Option, None, Some, List, [], ◌∷◌, ◌++◌, length, get_or, set, take, drop, refl, sym, ap, ◌∙◌, inl, inr, arith, length-set, length-append}
use Rattle.std.specs.Prelude.{MatchOption}
use Rattle.std.proofs.lemmas.Bool.{cases_eq, cases_lt, true≢false}
use Rattle.std.proofs.lemmas.Nat.{le-div}
use Rattle.std.proofs.Math.Nat.{mul-div-le, mul_comm}
use Rattle.std.proofs.lemmas.List.{get_or-set_same, get_or-set_other, get_or_append_left, get_or_push, get_or-take, get_or-drop}
use Rattle.crack_row.specs.Ranges.{Range, IsIn}
use Rattle.crack_row.specs.declared.Row.{Row}
use Rattle.crack_arena.specs.Arena.{Cell, Handle, no_handle}
use Rattle.crack_arena.specs.Rows.{key_at, unknown}
use Rattle.crack_arena.specs.Memories.{Memory, nothing}
use Rattle.crack_pending.specs.Codes.{Coding, key_code, AreCoded, IsWindow}
use Rattle.crack_pending.specs.Keeps.{HasRow}
use Rattle.crack_pending.specs.Inside.{KnowRows, KeysAreKnown, Lies, IsMissed, IsHit}
use Rattle.crack_pending.proofs.Kept.{Stands-within}

div-le : (a b k : ℕ) → 0 < k → a ≤ b → a / k ≤ b / k
div-le a b k some l = le-div (a / k) b k some (omega (arith, rw (mul_comm k (a / k)) at (mul-div-le a k), l))

pow_some : (n : ℕ) → 0 < 2 ^ n
pow_some zero = omega arith
pow_some (suc n) = omega (arith, pow_some n)

-- codes rise with the keys
pub code_of-le : (base shift a b : ℕ) → a ≤ b → key_code base shift a ≤ key_code base shift b
code_of-le base shift a b l =
    let below : (a - base) / 2 ^ shift ≤ (b - base) / 2 ^ shift = div-le (a - base) (b - base) (2 ^ shift) (pow_some shift) (omega (arith, l)) in
    omega (arith, below)

-- so a key with a lower code is lower
pub code_of-lt : (base shift a b : ℕ) → key_code base shift a < key_code base shift b → a < b
code_of-lt base shift a b l = elim (cases_lt a b) [
  | inl m ↦ m
  | inr m ↦ absurd (omega (arith, l, code_of-le base shift b a m))
]

pub code_of-small : (base shift key : ℕ) → key_code base shift key < 65535
code_of-small base shift key = omega arith

-- the window's ends are in order, and none is that of a hole
pub window_order : (base shift : ℕ) (range : Range) (first last beyond : ℕ) → IsWindow base shift range first last beyond → first ≤ last
window_order base shift range first last beyond w =
    rw (w.first_is, w.last_is) (code_of-le base shift range.low (range.high - 1) (omega (arith, w.some)))

pub window_last : (base shift : ℕ) (range : Range) (first last beyond : ℕ) → IsWindow base shift range first last beyond → last < 65535
window_last base shift range first last beyond w = rw (w.last_is) (code_of-small base shift (range.high - 1))

pub window_beyond : (base shift : ℕ) (range : Range) (first last beyond : ℕ) → IsWindow base shift range first last beyond → beyond < 65535
window_beyond base shift range first last beyond w = rw (w.beyond_is) (code_of-small base shift unknown)

-- if there is no code, all are right
pub coded_none : (remembered : List Memory) (stands : List Bool) (coding : Coding) → coding.codes ≡ [] → AreCoded remembered stands coding
coded_none remembered stands coding none = record {
  few = omega (arith, ap length none);
  right = λ spot within. absurd (omega (arith, within, ap length none));
  holes = λ spot within. absurd (omega (arith, within, ap length none));
}

module _ (remembered : List Memory) (stands : List Bool) (coding : Coding) (coded : AreCoded remembered stands coding) where
  -- the next spot is coded
  pub coded_more : (code : ℕ) → length coding.codes < length remembered → (HasRow stands (length coding.codes) → code ≡ key_code coding.base coding.shift ((get_or remembered (length coding.codes) nothing).key)) → (get_or stands (length coding.codes) false ≡ false → code ≡ 65535) → AreCoded remembered stands (record coding { codes = coding.codes ++ code ∷ [] })
  coded_more code within row hole =
      let long = length-append coding.codes (code ∷ []) in
      let here : (spot : ℕ) → spot ≡ length coding.codes → get_or (coding.codes ++ code ∷ []) spot 0 ≡ code = λ spot e. get_or_push coding.codes code 0 spot (sym e) in
      let before : (spot : ℕ) → spot < length coding.codes → get_or (coding.codes ++ code ∷ []) spot 0 ≡ get_or coding.codes spot 0 = λ spot l. get_or_append_left coding.codes (code ∷ []) 0 spot l in
      record {
        few = omega (arith, long, within);
        right = λ spot inside at. elim (cases_eq spot (length coding.codes)) [
          | inl e ↦ here spot e ∙ (rw e (row (rw e at at)))
          | inr ne ↦
              let l : spot < length coding.codes = omega (arith, inside, long, ne) in
              before spot l ∙ coded.right spot l at
        ];
        holes = λ spot inside none. elim (cases_eq spot (length coding.codes)) [
          | inl e ↦ here spot e ∙ hole (rw e at none)
          | inr ne ↦
              let l : spot < length coding.codes = omega (arith, inside, long, ne) in
              before spot l ∙ coded.holes spot l none
        ];
      }

  -- a row goes
  pub coded_hole : (spot : ℕ) → HasRow stands spot → AreCoded remembered (set stands spot false) (record coding { codes = set coding.codes spot 65535 })
  coded_hole spot at =
      let long = length-set coding.codes spot 65535 in
      let gone = get_or-set_same stands spot false false (Stands-within stands spot at) in
      record {
        few = omega (arith, long, coded.few);
        right = λ other inside there. elim (cases_eq other spot) [
          | inl e ↦ absurd (true≢false (sym there ∙ rw e gone))
          | inr ne ↦
              get_or-set_other coding.codes spot other 65535 0 ne ∙ coded.right other (omega (arith, inside, long)) (sym (get_or-set_other stands spot other false false ne) ∙ there)
        ];
        holes = λ other inside none. elim (cases_eq other spot) [
          | inl e ↦ rw e (get_or-set_same coding.codes spot 65535 0 (omega (arith, inside, long, e)))
          | inr ne ↦
              get_or-set_other coding.codes spot other 65535 0 ne ∙ coded.holes other (omega (arith, inside, long)) (sym (get_or-set_other stands spot other false false ne) ∙ none)
        ];
      }

  -- a row has another key
  pub coded_key : (spot : ℕ) (m : Memory) → HasRow stands spot → AreCoded (set remembered spot m) stands (record coding { codes = set coding.codes spot (key_code coding.base coding.shift m.key) })
  coded_key spot m at =
      let code = key_code coding.base coding.shift m.key in
      let long = length-set coding.codes spot code in
      record {
        few = omega (arith, long, coded.few, length-set remembered spot m);
        right = λ other inside there. elim (cases_eq other spot) [
          | inl e ↦
              let within : spot < length coding.codes = omega (arith, inside, long, e) in
              let read : get_or (set remembered spot m) spot nothing ≡ m = get_or-set_same remembered spot m nothing (omega (arith, within, coded.few)) in
              rw (e, read) (get_or-set_same coding.codes spot code 0 within)
          | inr ne ↦
              rw (get_or-set_other remembered spot other m nothing ne) (get_or-set_other coding.codes spot other code 0 ne ∙ coded.right other (omega (arith, inside, long)) there)
        ];
        holes = λ other inside none. elim (cases_eq other spot) [
          | inl e ↦ absurd (true≢false (sym at ∙ rw e at none))
          | inr ne ↦ get_or-set_other coding.codes spot other code 0 ne ∙ coded.holes other (omega (arith, inside, long)) none
        ];
      }

  -- a row comes, without a code
  pub coded_push : (m : Memory) → length stands ≡ length remembered → AreCoded (remembered ++ m ∷ []) (stands ++ true ∷ []) coding
  coded_push m beside =
      let old : (spot : ℕ) → spot < length coding.codes → get_or (stands ++ true ∷ []) spot false ≡ get_or stands spot false = λ spot l.
      get_or_append_left stands (true ∷ []) false spot (omega (arith, l, coded.few, beside)) in
      record {
        few = omega (arith, coded.few, length-append remembered (m ∷ []));
        right = λ spot l there.
            rw (get_or_append_left remembered (m ∷ []) nothing spot (omega (arith, l, coded.few))) (coded.right spot l (sym (old spot l) ∙ there));
        holes = λ spot l none. coded.holes spot l (sym (old spot l) ∙ none);
      }

  -- a spot whose code is below that of a hole has a row
  pub coded_row : (spot : ℕ) → spot < length coding.codes → get_or coding.codes spot 0 < 65535 → HasRow stands spot
  coded_row spot within small = by_case (get_or stands spot false) refl
    where
      by_case : (b : Bool) → get_or stands spot false ≡ b → HasRow stands spot
      by_case true e = e
      by_case false e = absurd (omega (arith, small, coded.holes spot within e))

  module _ (range : Range) (cells : List (Cell Row)) (handles : List Handle) (first last beyond : ℕ) (w : IsWindow coding.base coding.shift range first last beyond) (known : KnowRows cells handles remembered stands) where
    -- a row whose code is none that is looked for has its key outside of the range
    pub missed_code : (some_unknown : Bool) → (some_unknown ≡ false → KeysAreKnown remembered stands) → (spot : ℕ) → spot < length coding.codes → HasRow stands spot → ¬ Lies first last (get_or coding.codes spot 0) → (some_unknown ≡ true → ¬ Lies beyond beyond (get_or coding.codes spot 0)) → ¬ IsIn range (key_at cells (get_or handles spot no_handle))
    missed_code some_unknown all_known spot within at apart elsewhere inside =
        let code = coded.right spot within at in
        let not_unknown : (get_or remembered spot nothing).key ≢ unknown = λ e. by_flag some_unknown (λ none. all_known none spot at e) (λ some.
        let is : get_or coding.codes spot 0 ≡ beyond = code ∙ ap (key_code coding.base coding.shift) e ∙ sym w.beyond_is in
        elsewhere some (omega (arith, is), omega (arith, is))) in
        elim (known spot at) [
          | inl e ↦ not_unknown e
          | inr e ↦
              let key = ap (λ (m : Memory). m.key) e in
              let low = code_of-le coding.base coding.shift range.low (get_or remembered spot nothing).key (omega (arith, key, inside.0)) in
              let high = code_of-le coding.base coding.shift (get_or remembered spot nothing).key (range.high - 1) (omega (arith, key, inside.1)) in
              apart (rw (w.first_is, code) low, rw (w.last_is, code) high)
        ]
      where
        by_flag : (b : Bool) → (b ≡ false → ⊥) → (b ≡ true → ⊥) → ⊥
        by_flag false none some = none refl
        by_flag true none some = some refl

    -- a row whose code lies between those of the ends has its key in the range
    pub hit_code : (spot : ℕ) → spot < length coding.codes → first < get_or coding.codes spot 0 → get_or coding.codes spot 0 < last → IsIn range (key_at cells (get_or handles spot no_handle))
    hit_code spot within low high =
        let at = coded_row spot within (omega (arith, high, window_last coding.base coding.shift range first last beyond w)) in
        let code = coded.right spot within at in
        let above : range.low < (get_or remembered spot nothing).key = code_of-lt coding.base coding.shift range.low ((get_or remembered spot nothing).key) (rw (← w.first_is, ← code) low) in
        let below : (get_or remembered spot nothing).key < range.high - 1 = code_of-lt coding.base coding.shift ((get_or remembered spot nothing).key) (range.high - 1) (rw (← w.last_is, ← code) high) in
        elim (known spot at) [
          | inl e ↦ absurd (omega (arith, e, below, w.fits))
          | inr e ↦ (let key = ap (λ (m : Memory). m.key) e in (omega (arith, key, above), omega (arith, key, below)))
        ]

    -- if no code of a block is looked for, none of its rows has its key in the range
    pub missed_codes : (some_unknown : Bool) → (some_unknown ≡ false → KeysAreKnown remembered stands) → (many from : ℕ) → from + many ≤ length coding.codes → ((k : ℕ) → k < many → ¬ Lies first last (get_or (take (from + many - from) (drop from coding.codes)) k 0)) → (some_unknown ≡ true → (k : ℕ) → k < many → ¬ Lies beyond beyond (get_or (take (from + many - from) (drop from coding.codes)) k 0)) → IsMissed range cells handles stands from (from + many)
    missed_codes some_unknown all_known many from short apart elsewhere spot after before at =
        let k = spot - from in
        let within : k < many = omega (arith, after, before) in
        let place : from + k ≡ spot = omega (arith, after) in
        let same : get_or (take (from + many - from) (drop from coding.codes)) k 0 ≡ get_or coding.codes spot 0 =
        get_or-take (from + many - from) (drop from coding.codes) k 0 (omega (arith, within)) ∙ get_or-drop from coding.codes k 0 ∙ ap (λ n. get_or coding.codes n 0) place in
        missed_code some_unknown all_known spot (omega (arith, before, short)) at (rw same at (apart k within)) (λ e. rw same at (elsewhere e k within))

-- what was missed up to one spot, and from there up to another
pub missed_both : (range : Range) (cells : List (Cell Row)) (handles : List Handle) (stands : List Bool) (from middle to : ℕ) → IsMissed range cells handles stands from middle → IsMissed range cells handles stands middle to → IsMissed range cells handles stands from to
missed_both range cells handles stands from middle to one other spot after before at = elim (cases_lt spot middle) [
  | inl l ↦ one spot after l at
  | inr m ↦ other spot m before at
]

-- a hit before a spot is one before a later spot
pub hit_before : (range : Range) (cells : List (Cell Row)) (handles : List Handle) (stands : List Bool) (from middle to spot : ℕ) → middle ≤ to → IsHit range cells handles stands from middle spot → IsHit range cells handles stands from to spot
hit_before range cells handles stands from middle to spot l hit = record {
  after = hit.after;
  within = omega (arith, hit.within, l);
  stands_there = hit.stands_there;
  holds = hit.holds;
  before = hit.before;
}

-- a hit after spots that were missed is one from the first of these
pub hit_after : (range : Range) (cells : List (Cell Row)) (handles : List Handle) (stands : List Bool) (from middle to spot : ℕ) → from ≤ middle → IsMissed range cells handles stands from middle → IsHit range cells handles stands middle to spot → IsHit range cells handles stands from to spot
hit_after range cells handles stands from middle to spot l missed hit = record {
  after = omega (arith, hit.after, l);
  within = hit.within;
  stands_there = hit.stands_there;
  holds = hit.holds;
  before = missed_both range cells handles stands from middle spot missed hit.before;
}

-- what is found from a spot on is what is found from an earlier one on, where nothing is between
pub found_after : (range : Range) (cells : List (Cell Row)) (handles : List Handle) (stands : List Bool) (from middle to : ℕ) (found : Option ℕ) → from ≤ middle → IsMissed range cells handles stands from middle → MatchOption found (IsMissed range cells handles stands middle to) (λ spot. IsHit range cells handles stands middle to spot) → MatchOption found (IsMissed range cells handles stands from to) (λ spot. IsHit range cells handles stands from to spot)
found_after range cells handles stands from middle to None l missed rest = missed_both range cells handles stands from middle to missed rest
found_after range cells handles stands from middle to (Some spot) l missed hit = hit_after range cells handles stands from middle to spot l missed hit
