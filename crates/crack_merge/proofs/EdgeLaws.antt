-- Where the ends of a range are, and what stays in its place, while rows of the range are put in.
use Rattle.std.proofs.Common.{◌≡◌, ◌⊎◌, ℕ, ◌+◌, ◌<◌, ◌≤◌, List, length, get_or, set, Option, Some, None, refl, ap, inl, inr, arith, ◌-◌, [], ◌∷◌, ◌++◌, take, drop, sym, ◌∙◌, length-append, length-set}
use Rattle.std.proofs.lemmas.Bool.{cases_lt, lt-leb, le-leb}
use Rattle.std.proofs.lemmas.List.{length-map, map-set, map-append, get_or-map, get_or-drop, take-append-le, take-set-le, drop-set-lt, drop-drop, drop_all}
use Rattle.std.specs.Prelude.{max}
use Rattle.std.proofs.Math.Nat.{max-eq_left, max-eq_right}
use Rattle.crack_row.specs.Ranges.{Range}
use Rattle.crack_arena.specs.Arena.{Handle}
use Rattle.crack_arena.specs.Rows.{key_at}
use Rattle.crack_index.specs.declared.mark.Mark.{Mark}
use Rattle.crack_index.specs.Marks.{next_mark, end_of, position_of}
use Rattle.crack_index.proofs.MarkLaws.{next_mark-is, HasBound-contains, place_of-mark}
use Rattle.crack_column.specs.Column.{IsDividedAt}
use Rattle.crack_column.proofs.Divisions.{IsDividedAt-order, IsDividedAt-set_below, IsDividedAt-set_above, IsDividedAt-raised, IsDividedAt-append_above, IsDividedAt-append_below}
use Rattle.crack_state.specs.State.{State, IsIntact, Carried}
use Rattle.crack_state.proofs.Words.{column_keys}
use Rattle.crack_state.specs.Steps.{piece_end, hand_key, pushed_on, appended}
use Rattle.crack_state.specs.Merge.{Follows, IsCracked, edge}
use Rattle.crack_state.proofs.MergeLaws.{IsCracked-follows}
use Rattle.crack_state.proofs.PieceLaws.{Divides-listed, piece_end-le, piece_end-before}
use Rattle.crack_state.proofs.SettledLaws.{edge-divides}
use Rattle.crack_state.proofs.FollowLaws.{Follows-pushed_on, Follows-appended}
use Rattle.crack_state.proofs.StepLaws.{IsIntact-pushed_on, IsIntact-appended}

-- the range lies in the store's keys, isn't empty, and both of its ends are in the index or lie outside
pub record IsRangeOf (s : State) (r : Range) : Type 0 where
  pub some : r.low < r.high
  pub low : s.keys.low ≤ r.low
  pub high : r.high ≤ s.keys.high
  pub cracked : IsCracked s r

pub IsRangeOf-follows : (s t : State) (r : Range) → Follows s t → IsRangeOf s r → IsRangeOf t r
IsRangeOf-follows s t r follows of = record {
  some = of.some;
  low = omega (arith, of.low, ap (λ (x : Range). x.low) follows.keys);
  high = omega (arith, of.high, ap (λ (x : Range). x.high) follows.keys);
  cracked = IsCracked-follows s t r follows of.cracked;
}

-- both ends divide the column at their places
pub low_divides : (s : State) (hand : List Handle) (r : Range) → IsRangeOf s r → IsIntact s hand → IsDividedAt r.low (column_keys s) (edge s r.low)
low_divides s hand r of intact = edge-divides s hand r.low intact of.low (omega (arith, of.some, of.high)) of.cracked.0

pub high_divides : (s : State) (hand : List Handle) (r : Range) → IsRangeOf s r → IsIntact s hand → IsDividedAt r.high (column_keys s) (edge s r.high)
high_divides s hand r of intact = edge-divides s hand r.high intact (omega (arith, of.some, of.low)) of.high of.cracked.1

-- both are in the column, or at its end
pub low_within : (s : State) (hand : List Handle) (r : Range) → IsRangeOf s r → IsIntact s hand → edge s r.low ≤ length s.column
low_within s hand r of intact = omega (arith, (low_divides s hand r of intact).within, length-map s.column (key_at s.cells))

pub high_within : (s : State) (hand : List Handle) (r : Range) → IsRangeOf s r → IsIntact s hand → edge s r.high ≤ length s.column
high_within s hand r of intact = omega (arith, (high_divides s hand r of intact).within, length-map s.column (key_at s.cells))

-- a bound divides keys at one place
pub divided_once : (bound : ℕ) (keys : List ℕ) (p q : ℕ) → IsDividedAt bound keys p → IsDividedAt bound keys q → p ≡ q
divided_once bound keys p q one other = omega (arith, IsDividedAt-order bound bound keys p q (omega arith) one other, IsDividedAt-order bound bound keys q p (omega arith) other one)

-- the piece of a key at or above the low end ends at or after its place
pub low-piece_end : (s : State) (hand : List Handle) (r : Range) (key : ℕ) → IsRangeOf s r → IsIntact s hand → r.low ≤ key → edge s r.low ≤ piece_end s key
low-piece_end s hand r key of intact above = by_next (next_mark key s.marks) refl
  where
    by_next : (next : Option Mark) → next_mark key s.marks ≡ next → edge s r.low ≤ end_of (length s.column) next
    by_next None found = low_within s hand r of intact
    by_next (Some m) found =
        let is_next = next_mark-is key s.marks m intact.rising found in
        IsDividedAt-order r.low m.bound.0 (column_keys s) (edge s r.low) m.position (omega (arith, above, is_next.above)) (low_divides s hand r of intact) (Divides-listed (column_keys s) s.marks m intact.obeyed is_next.listed)

-- the piece of a key below the high end ends at or before its place
pub piece_end-high : (s : State) (hand : List Handle) (r : Range) (key : ℕ) → IsRangeOf s r → IsIntact s hand → key < r.high → piece_end s key ≤ edge s r.high
piece_end-high s hand r key of intact below =
    let above : s.keys.low < r.high = omega (arith, of.low, of.some) in
    elim (cases_lt r.high s.keys.high) [
      | inl l ↦
          let at = HasBound-contains s.marks r.high (of.cracked.1 above l) in
          let place : position_of r.high s.marks ≡ at.0.position = rw at.2 at (place_of-mark s.marks at.0 intact.rising at.1) in
          let found : get_or s.marks at.1.0 at.0 ≡ at.0 = at.1.2 in
          let ends : piece_end s key ≤ (get_or s.marks at.1.0 at.0).position = piece_end-before s key at.1.0 at.0 intact.rising intact.obeyed at.1.1 (rw (found, at.2) below) in
          rw (lt-leb r.high s.keys.low above, lt-leb s.keys.high r.high l, place) (rw found at ends)
      | inr h ↦ rw (lt-leb r.high s.keys.low above, le-leb s.keys.high r.high h) (piece_end-le s key intact.rising intact.obeyed)
    ]

-- keys in which one, at or after the low end and at or before the high end, was set to a key of the range
pub record SetBetween (e e' f f' p : ℕ) : Type 0 where
  pub low : e' ≡ e
  pub high : ((p < f) × (f' ≡ f)) ⊎ ((p ≡ f) × (f' ≡ f + 1))

pub set_between : (low high : ℕ) (keys : List ℕ) (e e' f f' p x : ℕ) → p < length keys → low ≤ x → x < high → e ≤ p → p ≤ f → IsDividedAt low keys e → IsDividedAt high keys f → IsDividedAt low (set keys p x) e' → IsDividedAt high (set keys p x) f' → SetBetween e e' f f' p
set_between low high keys e e' f f' p x within above below behind before low_was high_was low_is high_is = record {
  low = divided_once low (set keys p x) e' e low_is (IsDividedAt-set_above low keys e p x behind above low_was);
  high = elim (cases_lt p f) [
    | inl l ↦ inl (l, divided_once high (set keys p x) f' f high_is (IsDividedAt-set_below high keys f p x l below high_was))
    | inr l ↦
        let same : p ≡ f = omega (arith, l, before) in
        inr (same, divided_once high (set keys p x) f' (f + 1) high_is (rw same (IsDividedAt-raised high keys f x (rw same at within) below high_was)))
  ];
}

-- the column is the same before the place of the range's low end, which stays, and from that of its high end on, which doesn't fall; it
-- grows only if the range ends it
pub record StaysOutside (s t : State) (r : Range) : Type 0 where
  pub low : edge t r.low ≡ edge s r.low
  pub rises : edge s r.high ≤ edge t r.high
  pub within : edge t r.high ≤ length t.column
  pub grows : length s.column ≤ length t.column
  pub long : edge t r.high < length t.column → length t.column ≡ length s.column
  pub before : take (edge s r.low) t.column ≡ take (edge s r.low) s.column
  pub behind : drop (edge t r.high) t.column ≡ drop (edge t r.high) s.column

-- if keys, column and marks are the same
pub StaysOutside-same : (s t : State) (r : Range) → t ≡ record t { keys = s.keys; column = s.column; marks = s.marks } → edge s r.high ≤ length s.column → StaysOutside s t r
StaysOutside-same s t r same within = rw same (record { low = refl; rises = omega arith; within = within; grows = omega arith; long = λ _. refl; before = refl; behind = refl })

-- what is the same from a place on is the same from a later place on
drop_later : (xs ys : List Handle) (p q : ℕ) → p ≤ q → drop p xs ≡ drop p ys → drop q xs ≡ drop q ys
drop_later xs ys p q order same =
    let there : p + (q - p) ≡ q = omega arith in
    rw (← there) (sym (drop-drop (q - p) p xs) ∙ ap (drop (q - p)) same ∙ drop-drop (q - p) p ys)

pub StaysOutside-trans : (s t u : State) (r : Range) → StaysOutside s t r → StaysOutside t u r → StaysOutside s u r
StaysOutside-trans s t u r a b = record {
  low = b.low ∙ a.low;
  rises = omega (arith, a.rises, b.rises);
  within = b.within;
  grows = omega (arith, a.grows, b.grows);
  long = λ less. let same = b.long less in same ∙ a.long (omega (arith, less, same, b.rises));
  before = rw a.low at b.before ∙ a.before;
  behind = b.behind ∙ drop_later t.column s.column (edge t r.high) (edge u r.high) b.rises a.behind;
}

-- a `push_on` puts the hand inside the range, and if it replaces a row after the range, the range's end moves up
pub record PushesInside (c : Carried) (r : Range) : Type 0 where
  pub stays : StaysOutside c.store (pushed_on c).store r
  pub same : hand_key (pushed_on c) < r.high → edge (pushed_on c).store r.high ≡ edge c.store r.high
  pub met : r.high ≤ hand_key (pushed_on c) → (piece_end c.store (hand_key c) ≡ edge c.store r.high) × (edge (pushed_on c).store r.high ≡ edge c.store r.high + 1)

module _ (c : Carried) (r : Range) (of : IsRangeOf c.store r) (intact : IsIntact c.store (c.hand ∷ [])) (above : r.low ≤ hand_key c) (below : hand_key c < r.high) where
  pub PushesInside-pushed_on : piece_end c.store (hand_key c) < length c.store.column → PushesInside c r
  PushesInside-pushed_on ends =
      let s = c.store in
      let p = piece_end s (hand_key c) in
      let t = (pushed_on c).store in
      let after = IsIntact-pushed_on c ends intact in
      let of_after = IsRangeOf-follows s t r (Follows-pushed_on c) of in
      let keys : column_keys t ≡ set (column_keys s) p (hand_key c) = map-set (key_at s.cells) s.column p c.hand in
      let long : length (column_keys s) ≡ length s.column = length-map s.column (key_at s.cells) in
      let same : length t.column ≡ length s.column = length-set s.column p c.hand in
      let from = low-piece_end s (c.hand ∷ []) r (hand_key c) of intact above in
      let high = high_divides s (c.hand ∷ []) r of intact in
      let moved = set_between r.low r.high (column_keys s) (edge s r.low) (edge t r.low) (edge s r.high) (edge t r.high) p (hand_key c) (omega (arith, ends, long)) above below from (piece_end-high s (c.hand ∷ []) r (hand_key c) of intact below) (low_divides s (c.hand ∷ []) r of intact) high (rw keys at (low_divides t ((pushed_on c).hand ∷ []) r of_after after)) (rw keys at (high_divides t ((pushed_on c).hand ∷ []) r of_after after)) in
      let there : get_or (column_keys s) p 0 ≡ hand_key (pushed_on c) = get_or-map (key_at s.cells) s.column p c.hand 0 ends in
      record {
        stays = record {
          low = moved.low;
          rises = elim moved.high [ inl is ↦ omega (arith, is.1) | inr is ↦ omega (arith, is.1) ];
          within = high_within t ((pushed_on c).hand ∷ []) r of_after after;
          grows = omega (arith, same);
          long = λ _. same;
          before = take-set-le (edge s r.low) s.column p c.hand from;
          behind = drop-set-lt (edge t r.high) s.column p c.hand (elim moved.high [ inl is ↦ omega (arith, is.0, is.1) | inr is ↦ omega (arith, is.0, is.1) ]);
        };
        same = λ less. elim moved.high [ inl is ↦ is.1 | inr is ↦ absurd (omega (arith, less, there, high.above p (omega (arith, is.0)) (omega (arith, ends, long)))) ];
        met = λ more. elim moved.high [ inl is ↦ absurd (omega (arith, more, there, high.below p is.0)) | inr is ↦ (is.0, is.1) ];
      }

  -- `append` is called if the range ends the column, and its end moves up
  pub StaysOutside-appended : piece_end c.store (hand_key c) ≡ length c.store.column → StaysOutside c.store (appended c) r
  StaysOutside-appended ends =
      let s = c.store in
      let t = appended c in
      let after = IsIntact-appended c ends intact in
      let of_after = IsRangeOf-follows s t r (Follows-appended c) of in
      let keys : column_keys t ≡ column_keys s ++ hand_key c ∷ [] = map-append (key_at s.cells) s.column (c.hand ∷ []) in
      let long : length (column_keys s) ≡ length s.column = length-map s.column (key_at s.cells) in
      let more : length t.column ≡ length s.column + 1 = length-append s.column (c.hand ∷ []) in
      let low = low_divides s (c.hand ∷ []) r of intact in
      let high = high_divides s (c.hand ∷ []) r of intact in
      let was : edge s r.high ≡ length s.column = omega (arith, piece_end-high s (c.hand ∷ []) r (hand_key c) of intact below, ends, high.within, long) in
      let whole : edge s r.high ≡ length (column_keys s) = omega (arith, was, long) in
      let is : edge t r.high ≡ length (column_keys s) + 1 = divided_once r.high (column_keys s ++ hand_key c ∷ []) (edge t r.high) (length (column_keys s) + 1) (rw keys at (high_divides t [] r of_after after)) (IsDividedAt-append_below r.high (column_keys s) (hand_key c) below (rw whole at high)) in
      record {
        low = divided_once r.low (column_keys s ++ hand_key c ∷ []) (edge t r.low) (edge s r.low) (rw keys at (low_divides t [] r of_after after)) (IsDividedAt-append_above r.low (column_keys s) (edge s r.low) (hand_key c) above low);
        rises = omega (arith, whole, is);
        within = omega (arith, is, long, more);
        grows = omega (arith, more);
        long = λ less. absurd (omega (arith, less, is, long, more));
        before = take-append-le (edge s r.low) s.column (c.hand ∷ []) (omega (arith, low.within, long));
        behind = drop_all (edge t r.high) t.column (omega (arith, is, long, more)) ∙ sym (drop_all (edge t r.high) s.column (omega (arith, is, long)));
      }

-- the column is as long as it was, or as the place of the range's end
pub length-StaysOutside : (s t : State) (r : Range) → StaysOutside s t r → length t.column ≡ max (length s.column) (edge t r.high)
length-StaysOutside s t r stays = elim (cases_lt (edge t r.high) (length t.column)) [
  | inl l ↦ let same = stays.long l in same ∙ sym (max-eq_left (omega (arith, stays.within, same)))
  | inr l ↦ omega (arith, l, stays.within) ∙ sym (max-eq_right (omega (arith, l, stays.within, stays.grows)))
]

-- the row at the place of the range's end was there before
pub row_at_end : (s t : State) (r : Range) (d : Handle) → StaysOutside s t r → get_or t.column (edge t r.high) d ≡ get_or s.column (edge t r.high) d
row_at_end s t r d stays = first_of t.column (edge t r.high) ∙ ap (λ hs. get_or hs 0 d) stays.behind ∙ sym (first_of s.column (edge t r.high))
  where
    first_of : (xs : List Handle) (n : ℕ) → get_or xs n d ≡ get_or (drop n xs) 0 d
    first_of xs n = let here : n + 0 ≡ n = omega arith in sym (get_or-drop n xs 0 d ∙ ap (λ k. get_or xs k d) here)
