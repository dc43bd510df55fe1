-- A crack in three is one crack after the other, and what a crack at the missing ends of a range leaves.
use Rattle.std.proofs.Common.{◌≡◌, ◌≢◌, ◌⊎◌, ℕ, ◌+◌, ◌-◌, ◌<◌, ◌≤◌, List, [], ◌∷◌, ◌++◌, map, length, get_or, take, drop, Option, Some, None, refl, sym, ap, subst, ◌∙◌, inl, inr, arith}
use Rattle.std.specs.Option.{option_map}
use Rattle.std.specs.List.{All, Contains, between}
use Rattle.std.proofs.lemmas.Bool.{cases_lt, cases_eq, lt-ltb, le-ltb, lt-leb, le-leb}
use Rattle.std.proofs.lemmas.List.{length-map, get_or-map, ext_get_or}
use Rattle.std.proofs.lemmas.List.Elements.{All-head, All-tail, All-contains}
use Rattle.std.proofs.lemmas.List.Edits.{length-between, get_or-between}
use Rattle.std.proofs.lemmas.List.Sorted.{IsPermutation-refl, length_permutation}
use Rattle.crack_row.specs.Ranges.{Range}
use Rattle.crack_row.specs.declared.InnerBound.{InnerBound}
use Rattle.crack_row.specs.declared.Row.{Row}
use Rattle.crack_arena.specs.Arena.{Cell, Handle, no_handle}
use Rattle.crack_arena.specs.Rows.{key_at}
use Rattle.crack_index.specs.declared.index.Piece.{Piece}
use Rattle.crack_index.specs.declared.mark.Mark.{Mark}
use Rattle.crack_index.specs.Marks.{Rising, HasBound, with_mark, next_mark, last_mark, start_of, end_of, Fits}
use Rattle.crack_index.proofs.MarkLaws.{next_mark-is, next_mark-none, last_mark-is, last_mark-none, HasBound-mark, HasBound-contains, HasBound-added, Fits-piece}
use Rattle.crack_arena.specs.Memories.{Memory, nothing, memory_at}
use Rattle.crack_column.specs.Column.{Cracks}
use Rattle.crack_column.proofs.Cracking.{Replaced, replaced, length-Cracks}
use Rattle.crack_state.specs.State.{State, IsIntact}
use Rattle.crack_state.specs.Steps.{piece_start, piece_end}
use Rattle.crack_state.specs.Merge.{IsInner, Refines, bound_or, bound_above}
use Rattle.crack_state.specs.Inside.{RefinesAt}
use Rattle.crack_state.proofs.CrackLaws.{keys-refined, CracksAt, cracked_at, IsIntact-cracked, RefinesAt-cracked, Refines-both}
use Rattle.crack_store.specs.declared.cracking.Gap.{Gap}
use Rattle.crack_store.specs.Further.{IsMissing, bound_or_end}
use Rattle.crack_store.specs.Gaps.{MissesIn, FallTogether}

-- A bound among the marks

-- if the last bound up to a bound equals it, it is there
pub listed_bound : (bound low : InnerBound) (marks : List Mark) → Rising marks → option_map (λ (m : Mark). m.bound) (last_mark bound.0 marks) ≡ Some low → low.0 ≡ bound.0 → HasBound marks bound.0
listed_bound bound low marks rising is same = by_last (last_mark bound.0 marks) refl is
  where
    by_last : (o : Option Mark) → o ≡ last_mark bound.0 marks → option_map (λ (m : Mark). m.bound) o ≡ Some low → HasBound marks bound.0
    by_last None e is = absurd (cc)
    by_last (Some m) e is =
        let is_low : m.bound ≡ low = cc in
        rw (ap (λ (b : InnerBound). b.0) is_low ∙ same) at (HasBound-mark marks m (last_mark-is bound.0 marks m rising (sym e)).listed)

-- if it is another, or there is none, it isn't
pub absent_bound : (bound : InnerBound) (marks : List Mark) → Rising marks → ((low : InnerBound) → option_map (λ (m : Mark). m.bound) (last_mark bound.0 marks) ≡ Some low → low.0 ≢ bound.0) → HasBound marks bound.0 → ⊥
absent_bound bound marks rising other there =
    let at = HasBound-contains marks bound.0 there in
    by_last at.0 at.1 at.2 (last_mark bound.0 marks) refl other
  where
    by_last : (m : Mark) → Contains marks m → m.bound.0 ≡ bound.0 → (o : Option Mark) → o ≡ last_mark bound.0 marks → ((low : InnerBound) → option_map (λ (n : Mark). n.bound) o ≡ Some low → low.0 ≢ bound.0) → ⊥
    by_last m listed is None e apart = absurd (let above = All-contains (λ n. bound.0 < n.bound.0) marks m (last_mark-none bound.0 marks rising (sym e)) listed in omega (arith, above, is))
    by_last m listed is (Some n) e apart =
        let last = last_mark-is bound.0 marks n rising (sym e) in
        let most = All-contains (λ x. x.bound.0 ≤ bound.0 → x.bound.0 ≤ n.bound.0) marks m last.greatest listed (omega (arith, is)) in
        apart n.bound refl (omega (arith, most, is, last.below))

-- a bound that is added above a number leaves the last mark up to it
last_mark-added_above : (number : ℕ) (m : Mark) (marks : List Mark) → number < m.bound.0 → last_mark number (with_mark m marks) ≡ last_mark number marks
last_mark-added_above number m [] above = rw (lt-leb m.bound.0 number above) refl
last_mark-added_above number m (n ∷ ns) above = elim (cases_lt m.bound.0 n.bound.0) [
  | inl l ↦ rw (lt-ltb m.bound.0 n.bound.0 l, lt-leb m.bound.0 number above, lt-leb n.bound.0 number (omega arith)) refl
  | inr l ↦ rw (le-ltb m.bound.0 n.bound.0 l, last_mark-added_above number m ns above) refl
]

-- the next mark is above
next_above : (number : ℕ) (marks : List Mark) (x : Mark) → next_mark number marks ≡ Some x → number < x.bound.0
next_above number [] x found = absurd (cc)
next_above number (n ∷ ns) x found = elim (cases_lt number n.bound.0) [
  | inl l ↦
      let one : Some n ≡ Some x = rw (lt-ltb number n.bound.0 l) at found in
      let same : n ≡ x = cc in
      rw (← same) l
  | inr l ↦ next_above number ns x (rw (le-ltb number n.bound.0 l) at found)
]

-- and is the next mark, if that isn't above it
next_mark-added_behind : (number : ℕ) (m : Mark) (marks : List Mark) (x : Mark) → next_mark number marks ≡ Some x → x.bound.0 ≤ m.bound.0 → next_mark number (with_mark m marks) ≡ Some x
next_mark-added_behind number m [] x found below = absurd (cc)
next_mark-added_behind number m (n ∷ ns) x found below = elim (cases_lt number n.bound.0) [
  | inl l ↦
      let one : Some n ≡ Some x = rw (lt-ltb number n.bound.0 l) at found in
      let same : n ≡ x = cc in
      let order : n.bound.0 ≤ m.bound.0 = rw same below in
      rw (le-ltb m.bound.0 n.bound.0 order, lt-ltb number n.bound.0 l) one
  | inr l ↦
      let rest : next_mark number ns ≡ Some x = rw (le-ltb number n.bound.0 l) at found in
      elim (cases_lt m.bound.0 n.bound.0) [
        | inl k ↦
            let above : number < x.bound.0 = next_above number ns x rest in
            absurd (omega (arith, above, below, l, k))
        | inr k ↦ rw (le-ltb m.bound.0 n.bound.0 k, le-ltb number n.bound.0 l) (next_mark-added_behind number m ns x rest below)
      ]
]

-- a number between a bound that is added and the next one has that bound below it, and the same one above
next_mark-added_within : (number : ℕ) (m : Mark) (marks : List Mark) → m.bound.0 ≤ number → All (λ n. m.bound.0 < n.bound.0 → number < n.bound.0) marks → next_mark number (with_mark m marks) ≡ next_mark m.bound.0 marks
next_mark-added_within number m [] order behind = rw (le-ltb number m.bound.0 order) refl
next_mark-added_within number m (n ∷ ns) order behind = elim (cases_lt m.bound.0 n.bound.0) [
  | inl l ↦
      let above : number < n.bound.0 = All-head (λ x. m.bound.0 < x.bound.0 → number < x.bound.0) n ns behind l in
      rw (lt-ltb m.bound.0 n.bound.0 l, le-ltb number m.bound.0 order, lt-ltb number n.bound.0 above) refl
  | inr l ↦
      let rest = next_mark-added_within number m ns order (All-tail (λ x. m.bound.0 < x.bound.0 → number < x.bound.0) n ns behind) in
      rw (le-ltb m.bound.0 n.bound.0 l, le-ltb number n.bound.0 (omega arith)) rest
]

last_mark-added_within : (number : ℕ) (m : Mark) (marks : List Mark) → m.bound.0 ≤ number → All (λ n. m.bound.0 < n.bound.0 → number < n.bound.0) marks → last_mark number (with_mark m marks) ≡ Some m
last_mark-added_within number m [] order behind = rw (le-leb m.bound.0 number order) refl
last_mark-added_within number m (n ∷ ns) order behind = elim (cases_lt m.bound.0 n.bound.0) [
  | inl l ↦
      let above : number < n.bound.0 = All-head (λ x. m.bound.0 < x.bound.0 → number < x.bound.0) n ns behind l in
      rw (lt-ltb m.bound.0 n.bound.0 l, le-leb m.bound.0 number order, lt-leb n.bound.0 number above) refl
  | inr l ↦
      let rest = last_mark-added_within number m ns order (All-tail (λ x. m.bound.0 < x.bound.0 → number < x.bound.0) n ns behind) in
      rw (le-ltb m.bound.0 n.bound.0 l, le-leb n.bound.0 number (omega arith), rest) refl
]

-- Two ends in one piece

-- every bound above the low one is above the high one
pub behind_both : (s : State) (hand : List Handle) (low high : ℕ) → IsIntact s hand → high < bound_above s low → All (λ (n : Mark). low < n.bound.0 → high < n.bound.0) s.marks
behind_both s hand low high intact below = by_next (next_mark low s.marks) refl below
  where
    by_next : (o : Option Mark) → o ≡ next_mark low s.marks → high < bound_or s.keys.high o → All (λ (n : Mark). low < n.bound.0 → high < n.bound.0) s.marks
    by_next None is h = λ k d l above. absurd (let none = next_mark-none low s.marks (sym is) k d l in omega (arith, none, above))
    by_next (Some m) is h = λ k d l above. omega (arith, h, (next_mark-is low s.marks m intact.rising (sym is)).least k d l above)

-- so the high end is also missing
pub high_missing : (s : State) (hand : List Handle) (low high : ℕ) → IsIntact s hand → IsMissing s low → low < high → high < bound_above s low → IsMissing s high
high_missing s hand low high intact missing order below = record {
  low = omega (arith, missing.low);
  high = by_next (next_mark low s.marks) refl below;
  apart = λ there.
      let at = HasBound-contains s.marks high there in
      let above = All-contains (λ (n : Mark). low < n.bound.0 → high < n.bound.0) s.marks at.0 (behind_both s hand low high intact below) at.1 in
      absurd (omega (arith, at.2, above (omega (arith, at.2))));
}
  where
    by_next : (o : Option Mark) → o ≡ next_mark low s.marks → high < bound_or s.keys.high o → high < s.keys.high
    by_next None is h = h
    by_next (Some m) is h =
        let inner = All-contains (λ (x : Mark). (s.keys.low < x.bound.0) × (x.bound.0 < s.keys.high)) s.marks m intact.inside (next_mark-is low s.marks m intact.rising (sym is)).listed in
        omega (arith, h, inner.1)

-- if the high end isn't below the next bound above the low one, that bound is at or below it
pub next_behind : (s : State) (low high : ℕ) → bound_above s low ≤ high → high < s.keys.high → (m : Mark) × (next_mark low s.marks ≡ Some m) × (m.bound.0 ≤ high)
next_behind s low high order within = by_next (next_mark low s.marks) refl order
  where
    by_next : (o : Option Mark) → o ≡ next_mark low s.marks → bound_or s.keys.high o ≤ high → (m : Mark) × (next_mark low s.marks ≡ Some m) × (m.bound.0 ≤ high)
    by_next None is h = absurd (omega arith)
    by_next (Some m) is h = (m, sym is, h)

-- the low end is still missing, in the same piece
pub missing_after : (s u : State) (high : Mark) (low : ℕ) (piece : Piece) → MissesIn s low piece → IsMissing s high.bound.0 → bound_above s low ≤ high.bound.0 → RefinesAt s u high.bound.0 → u.marks ≡ with_mark high s.marks → MissesIn u low piece
missing_after s u high low piece misses missing order refined marks =
    let keys = keys-refined (λ b. (b ≡ high.bound.0) × (s.keys.low < b) × (b < s.keys.high)) s u refined in
    let next = next_behind s low high.bound.0 order missing.high in
    let above : low < high.bound.0 = let over = next_above low s.marks next.0 next.1 in omega (arith, over, next.2) in
    let last_is : last_mark low u.marks ≡ last_mark low s.marks = ap (last_mark low) marks ∙ last_mark-added_above low high s.marks above in
    let next_is : next_mark low u.marks ≡ next_mark low s.marks = ap (next_mark low) marks ∙ next_mark-added_behind low high s.marks next.0 next.1 next.2 ∙ sym next.1 in
    record {
      missing = record {
        low = omega (arith, ap (λ (x : Range). x.low) keys, misses.missing.low);
        high = omega (arith, ap (λ (x : Range). x.high) keys, misses.missing.high);
        apart = λ there. elim ((HasBound-added high s.marks low).0 (rw marks at there)) [
          | inl e ↦ absurd (omega (arith, e, above))
          | inr before ↦ misses.missing.apart before
        ];
      };
      piece_is = rw (last_is, next_is, refined.long) misses.piece_is;
    }

-- A list, part by part

parts : {X : Type 0} (xs : List X) (a b : ℕ) (d : X) → a ≤ b → b ≤ length xs → xs ≡ take a xs ++ between a b xs ++ drop b xs
parts xs a b d order within =
    let new = take a xs ++ between a b xs ++ drop b xs in
    let long = length-between xs a b within in
    let placed : Replaced a b xs (between a b xs) new = replaced a b xs (between a b xs) new order within long refl in
    ext_get_or d xs new (sym placed.len) (λ k h. elim (cases_lt k a) [
      | inl l ↦ sym (placed.before k d l)
      | inr g ↦ elim (cases_lt k b) [
        | inl l ↦
            let shift : a + (k - a) ≡ k = omega arith in
            sym (placed.inside k d g l ∙ get_or-between xs a b (k - a) d (omega arith) ∙ ap (λ (n : ℕ). get_or xs n d) shift)
        | inr m ↦ sym (placed.behind k d m)
      ]
    ])

-- A crack in three as two cracks

module _ (cells : List (Cell Row)) (low high from to : ℕ) (handles : List Handle) (remembered : List Memory) (handles' : List Handle) (remembered' : List Memory) (a b : ℕ) (c : Cracks cells low from to handles remembered handles' remembered' a) (d : Cracks cells high from to handles remembered handles' remembered' b) (beside : length remembered ≡ length handles) where
  long : length handles' ≡ length handles
  long = length-Cracks cells low from to handles remembered handles' remembered' a c

  order : from ≤ to
  order = omega (arith, c.low, c.high)

  piece_long : length d.piece ≡ to - from
  piece_long = length_permutation (between from to handles) d.piece d.kept ∙ length-between handles from to d.within

  placed : Replaced from to handles d.piece handles'
  placed = replaced from to handles d.piece handles' order d.within piece_long d.handles_are

  recalled : Replaced from to remembered (map (memory_at cells) d.piece) remembered'
  recalled = replaced from to remembered (map (memory_at cells) d.piece) remembered' order (omega (arith, d.within, beside)) (length-map d.piece (memory_at cells) ∙ piece_long) d.remembered_are

  -- each row of the stretch is remembered
  recalled_at : (k : ℕ) → from ≤ k → k < to → get_or remembered' k nothing ≡ memory_at cells (get_or handles' k no_handle)
  recalled_at k g l =
      recalled.inside k nothing g l ∙ get_or-map (memory_at cells) d.piece (k - from) no_handle nothing (omega (arith, piece_long)) ∙ ap (memory_at cells) (sym (placed.inside k no_handle g l))

  recalled_stretch : map (memory_at cells) (between a to handles') ≡ between a to remembered'
  recalled_stretch =
      let f = memory_at cells in
      let within : to ≤ length handles' = omega (arith, long, c.within) in
      let stretch_long = length-between handles' a to within in
      let recalled_long = length-between remembered' a to (omega (arith, recalled.len, beside, c.within)) in
      let mapped = length-map (between a to handles') f in
      ext_get_or nothing (map f (between a to handles')) (between a to remembered') (omega (arith, stretch_long, recalled_long, mapped)) (λ k h.
      let inside : a + k < to = omega (arith, stretch_long, mapped) in
      rw (get_or-map f (between a to handles') k no_handle nothing (omega (arith, mapped)), get_or-between handles' a to k no_handle inside, get_or-between remembered' a to k nothing inside) (sym (recalled_at (a + k) (omega (arith, c.low)) inside)))

  key_within : (k : ℕ) → from ≤ k → k < to → get_or (map (key_at cells) d.piece) (k - from) 0 ≡ key_at cells (get_or handles' k no_handle)
  key_within k g l =
      get_or-map (key_at cells) d.piece (k - from) no_handle 0 (omega (arith, piece_long)) ∙ ap (key_at cells) (sym (placed.inside k no_handle g l))

  -- the rows at or above the low bound are divided by the high one already
  pub Cracks-again : a ≤ b → Cracks cells high a to handles' remembered' handles' remembered' b
  Cracks-again rises =
      let within : to ≤ length handles' = omega (arith, long, c.within) in
      let stretch_long = length-between handles' a to within in
      let f = key_at cells in
      let mapped = length-map (between a to handles') f in
      let read : (k : ℕ) → k < to - a → get_or (map f (between a to handles')) k 0 ≡ get_or (map f d.piece) (a + k - from) 0 = λ k h.
      get_or-map f (between a to handles') k no_handle 0 (omega (arith, stretch_long)) ∙ ap f (get_or-between handles' a to k no_handle (omega arith)) ∙ sym (key_within (a + k) (omega (arith, c.low)) (omega arith)) in
      record {
        within = within;
        piece = between a to handles';
        kept = IsPermutation-refl (between a to handles');
        handles_are = parts handles' a to no_handle (omega (arith, c.high)) within;
        remembered_are = rw recalled_stretch (parts remembered' a to nothing (omega (arith, c.high)) (omega (arith, recalled.len, beside, c.within)));
        low = rises;
        high = d.high;
        divided = record {
          within = omega (arith, stretch_long, mapped, d.high);
          below = λ k h. rw (read k (omega (arith, d.high))) (d.divided.below (a + k - from) (omega (arith, c.low)));
          above = λ k h g. rw (read k (omega (arith, stretch_long, mapped))) (d.divided.above (a + k - from) (omega (arith, c.low)) (omega (arith, c.low, stretch_long, mapped, piece_long, length-map d.piece f)));
        };
      }

-- Both ends at once

module _ (s u : State) (low high : InnerBound) (handles : List Handle) (known known' : List Memory) (a b : ℕ) (intact : IsIntact s []) (missing : IsMissing s low.0) (order : low.0 < high.0) (below : high.0 < bound_above s low.0) (c : Cracks s.cells low.0 (piece_start s low.0) (piece_end s low.0) s.column known handles known' a) (d : Cracks s.cells high.0 (piece_start s low.0) (piece_end s low.0) s.column known handles known' b) (rises : a ≤ b) (beside : length known ≡ length s.column) (after : u ≡ cracked_at high b handles (cracked_at low a handles s)) where
  abbrev low_mark : Mark
  low_mark = record { bound = low; position = a }

  -- once the low end was added
  abbrev halfway : State
  halfway = cracked_at low a handles s

  first : CracksAt s halfway low
  first = record { place = a; missing = missing.apart; low = missing.low; high = missing.high; known = known; known' = known'; cracks = c; after = refl }

  behind : All (λ (n : Mark). low.0 < n.bound.0 → high.0 < n.bound.0) s.marks
  behind = behind_both s [] low.0 high.0 intact below

  starts : piece_start halfway high.0 ≡ a
  starts = ap start_of (last_mark-added_within high.0 low_mark s.marks (omega arith) behind)

  stops : piece_end halfway high.0 ≡ piece_end s low.0
  stops = ap (λ (o : Option Mark). end_of (length handles) o) (next_mark-added_within high.0 low_mark s.marks (omega arith) behind) ∙ ap (λ (n : ℕ). end_of n (next_mark low.0 s.marks)) (length-Cracks s.cells low.0 (piece_start s low.0) (piece_end s low.0) s.column known handles known' a c)

  cracks : Cracks s.cells high.0 (piece_start halfway high.0) (piece_end halfway high.0) handles known' handles known' b
  cracks =
      let again = Cracks-again s.cells low.0 high.0 (piece_start s low.0) (piece_end s low.0) s.column known handles known' a b c d beside rises in
      subst (λ (n : ℕ). Cracks s.cells high.0 n (piece_end halfway high.0) handles known' handles known' b) (sym starts) (subst (λ (n : ℕ). Cracks s.cells high.0 a n handles known' handles known' b) (sym stops) again)

  second : CracksAt halfway u high
  second =
      let high_is = high_missing s [] low.0 high.0 intact missing order below in
      record {
        place = b;
        missing = λ there. elim ((HasBound-added low_mark s.marks high.0).0 there) [
          | inl e ↦ absurd (omega (arith, e))
          | inr before ↦ high_is.apart before
        ];
        low = high_is.low;
        high = high_is.high;
        known = known';
        known' = known';
        cracks = rw after cracks;
        after = after ∙ ap (λ (x : State). cracked_at high b x.column halfway) (sym after);
      }

  halfway_intact : IsIntact halfway []
  halfway_intact = IsIntact-cracked s halfway [] low first intact

  -- a crack in three keeps a store intact
  IsIntact-three : IsIntact u []
  IsIntact-three = IsIntact-cracked halfway u [] high second halfway_intact

  -- and refines it by the range
  Refines-three : (r : Range) → low.0 ≡ r.low → high.0 ≡ r.high → Refines s u r
  Refines-three r is_low is_high =
      Refines-both s halfway u r low.0 high.0 (inl (is_low, is_high)) (RefinesAt-cracked s halfway [] low first intact) (RefinesAt-cracked halfway u [] high second halfway_intact)

  -- the high end may be added where it is, after the low one
  second_fits : Fits (record { bound = high; position = b }) (with_mark low_mark s.marks)
  second_fits = Fits-piece (record { bound = high; position = b }) (length handles) (with_mark low_mark s.marks) halfway_intact.rising (omega (arith, starts, rises)) (omega (arith, stops, d.high))

  second_absent : HasBound (with_mark low_mark s.marks) high.0 → ⊥
  second_absent = second.missing

-- the store after a crack in three of the piece into which two bounds fall, and what holds while they are added
pub record IsThree (s u : State) (gap : Gap) (high : InnerBound) (a b : ℕ) : Type 0 where
  pub intact : IsIntact u []
  pub refined : Refines s u (record { low = gap.bound.0; high = high.0 })
  pub fits : Fits (record { bound = high; position = b }) (with_mark (record { bound = gap.bound; position = a }) s.marks)
  pub absent : HasBound (with_mark (record { bound = gap.bound; position = a }) s.marks) high.0 → ⊥

pub three : (s u : State) (gap : Gap) (high : InnerBound) (handles : List Handle) (known known' : List Memory) (a b : ℕ) → IsIntact s [] → FallTogether s gap high
    → Cracks s.cells gap.bound.0 gap.piece.from gap.piece.to s.column known handles known' a → Cracks s.cells high.0 gap.piece.from gap.piece.to s.column known handles known' b → a ≤ b → length known ≡ length s.column → u ≡ cracked_at high b handles (cracked_at gap.bound a handles s)
    → IsThree s u gap high a b
three s u gap high handles known known' a b intact told c d rises beside after =
    let low = gap.bound in
    let missing = told.low.missing in
    let c_at : Cracks s.cells low.0 (piece_start s low.0) (piece_end s low.0) s.column known handles known' a = rw told.low.piece_is at c in
    let d_at : Cracks s.cells high.0 (piece_start s low.0) (piece_end s low.0) s.column known handles known' b = rw told.low.piece_is at d in
    record {
      intact = IsIntact-three s u low high handles known known' a b intact missing told.order told.below c_at d_at rises beside after;
      refined = Refines-three s u low high handles known known' a b intact missing told.order told.below c_at d_at rises beside after (record { low = low.0; high = high.0 }) refl refl;
      fits = second_fits s u low high handles known known' a b intact missing told.order told.below c_at d_at rises beside after;
      absent = second_absent s u low high handles known known' a b intact missing told.order told.below c_at d_at rises beside after;
    }

-- One end alone

-- refined at the one bound that was missing of a range
pub Refines-one : (s u : State) (r : Range) (bound : ℕ) → RefinesAt s u bound → IsMissing s bound → (bound ≡ r.low) ⊎ (bound ≡ r.high) → ((b : ℕ) → IsInner s.keys r b → b ≢ bound → HasBound s.marks b) → Refines s u r
Refines-one s u r bound refined missing end others = record {
  same = refined.same;
  long = refined.long;
  pieces = refined.pieces;
  kept = refined.kept;
  added = λ b inner. elim (cases_eq b bound) [
    | inl e ↦ refined.added b (e, inner.1, inner.2)
    | inr ne ↦
        let at = HasBound-contains s.marks b (others b inner ne) in
        rw at.2 at (HasBound-mark u.marks at.0 (refined.kept at.0 at.1))
  ];
  only = λ b has. elim (refined.only b has) [
    | inl before ↦ inl before
    | inr new ↦ inr (elim end [ inl e ↦ inl (new.0 ∙ e) | inr e ↦ inr (new.0 ∙ e) ], new.1, new.2)
  ];
}

-- where a bound's own piece ends
pub bound_or_end-piece : (end : ℕ) (o : Option Mark) → bound_or_end end (option_map (λ (m : Mark). m.bound) o) ≡ bound_or end o
bound_or_end-piece end None = refl
bound_or_end-piece end (Some m) = refl

-- no bound of an intact store is above its keys' high end
pub none_above : (s : State) (hand : List Handle) (number : ℕ) → IsIntact s hand → s.keys.high ≤ number → s.keys.high ≡ bound_above s number
none_above s hand number intact past = by_next (next_mark number s.marks) refl
  where
    by_next : (o : Option Mark) → o ≡ next_mark number s.marks → s.keys.high ≡ bound_or s.keys.high o
    by_next None is = refl
    by_next (Some m) is =
        let next = next_mark-is number s.marks m intact.rising (sym is) in
        let inner = All-contains (λ (x : Mark). (s.keys.low < x.bound.0) × (x.bound.0 < s.keys.high)) s.marks m intact.inside next.listed in
        absurd (omega (arith, next.above, inner.1, past))
