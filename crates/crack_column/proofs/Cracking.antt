-- Laws of a crack: the places of the handles after it, and how it divides them.
use Rattle.std.proofs.Common.{◌≡◌, ℕ, ◌+◌, ◌-◌, ◌<◌, ◌≤◌, ◌⊎◌, List, ◌++◌, length, map, get_or, take, drop, refl, sym, ap, ◌∙◌, inl, inr, arith, length-append}
use Rattle.std.specs.List.{All, between}
use Rattle.std.specs.List.Sorted.{IsPermutation}
use Rattle.std.proofs.lemmas.List.{length-map, get_or-map, get_or_append_left, get_or-append_right, get_or-take, get_or-drop, length-take-le, length-drop, ext_get_or, take_all}
use Rattle.std.proofs.lemmas.List.Edits.{length-between, get_or-between}
use Rattle.std.proofs.lemmas.List.Sorted.{IsPermutation-append_right, IsPermutation-append_left, All-permutation, length_permutation}
use Rattle.std.proofs.lemmas.Slice.{between_from_start}
use Rattle.std.proofs.lemmas.Bool.{cases_lt}
use Rattle.crack_arena.specs.Arena.{Cell, Handle, no_handle}
use Rattle.crack_row.specs.declared.Row.{Row}
use Rattle.crack_arena.specs.Rows.{key_at}
use Rattle.crack_arena.specs.Memories.{Memory, nothing, memory_at, Remembers}
use Rattle.crack_column.specs.Column.{IsDividedAt, Cracks}

-- what is at each place of a list whose middle was replaced
pub record Replaced {X : Type 0} (from to : ℕ) (old piece new : List X) : Type 0 where
  pub len : length new ≡ length old
  pub before : (k : ℕ) (d : X) → k < from → get_or new k d ≡ get_or old k d
  pub inside : (k : ℕ) (d : X) → from ≤ k → k < to → get_or new k d ≡ get_or piece (k - from) d
  pub behind : (k : ℕ) (d : X) → to ≤ k → get_or new k d ≡ get_or old k d

pub replaced : {X : Type 0} (from to : ℕ) (old piece new : List X) → from ≤ to → to ≤ length old → length piece ≡ to - from → new ≡ take from old ++ piece ++ drop to old → Replaced from to old piece new
replaced from to old piece new order within long is =
    let front_len : length (take from old) ≡ from = length-take-le from old (omega arith) in
    let back_len : length (drop to old) ≡ length old - to = length-drop to old in
    let both_len : length (take from old ++ piece) ≡ to = omega (arith, length-append (take from old) piece) in
    record {
      len = rw is (omega (arith, length-append (take from old ++ piece) (drop to old)));
      before = λ k d h. rw (is, get_or_append_left (take from old ++ piece) (drop to old) d k (omega arith), get_or_append_left (take from old) piece d k (omega arith), get_or-take from old k d h) refl;
      inside = λ k d h g. rw (is, get_or_append_left (take from old ++ piece) (drop to old) d k (omega arith), get_or-append_right (take from old) piece from k d front_len h) refl;
      behind = λ k d h.
          let shift : to + (k - to) ≡ k = omega arith in
          rw (is, get_or-append_right (take from old ++ piece) (drop to old) to k d both_len h, get_or-drop to old (k - to) d, shift) refl;
    }

between_parts : (xs : List Handle) (a m b : ℕ) → a ≤ m → m ≤ b → b ≤ length xs → between a b xs ≡ between a m xs ++ between m b xs
between_parts xs a m b first last within =
    let whole_len = length-between xs a b within in
    let left_len = length-between xs a m (omega arith) in
    let right_len = length-between xs m b within in
    ext_get_or no_handle (between a b xs) (between a m xs ++ between m b xs) (omega (arith, length-append (between a m xs) (between m b xs))) (λ k h.
    rw (get_or-between xs a b k no_handle (omega arith)) (elim (cases_lt k (m - a)) [
      | inl l ↦ rw (get_or_append_left (between a m xs) (between m b xs) no_handle k (omega arith), get_or-between xs a m k no_handle (omega arith)) refl
      | inr g ↦
          let shift : m + (k - (m - a)) ≡ a + k = omega arith in
          rw (get_or-append_right (between a m xs) (between m b xs) (m - a) k no_handle left_len g, get_or-between xs m b (k - (m - a)) no_handle (omega arith), shift) refl
    ]))

whole : (xs : List Handle) → between 0 (length xs) xs ≡ xs
whole xs = between_from_start xs (length xs) ∙ take_all (length xs) xs (omega arith)

module _ (cells : List (Cell Row)) (bound from to : ℕ) (handles : List Handle) (remembered : List Memory) (handles' : List Handle) (remembered' : List Memory) (place : ℕ) where
  order : Cracks cells bound from to handles remembered handles' remembered' place → from ≤ to
  order c = omega (arith, c.low, c.high)

  length_piece : (c : Cracks cells bound from to handles remembered handles' remembered' place) → length c.piece ≡ to - from
  length_piece c = length_permutation (between from to handles) c.piece c.kept ∙ length-between handles from to c.within

  -- the handles, by place
  placed : (c : Cracks cells bound from to handles remembered handles' remembered' place) → Replaced from to handles c.piece handles'
  placed c = replaced from to handles c.piece handles' (order c) c.within (length_piece c) c.handles_are

  -- the same number of handles
  pub length-Cracks : Cracks cells bound from to handles remembered handles' remembered' place → length handles' ≡ length handles
  length-Cracks c = (placed c).len

  -- a place outside the stretch holds what it held
  pub Cracks-outside : Cracks cells bound from to handles remembered handles' remembered' place → (k : ℕ) (d : Handle) → (k < from) ⊎ (to ≤ k) → get_or handles' k d ≡ get_or handles k d
  Cracks-outside c k d outside = elim outside [ inl l ↦ (placed c).before k d l | inr g ↦ (placed c).behind k d g ]

  -- and so does each stretch that lies apart
  pub Cracks-apart : Cracks cells bound from to handles remembered handles' remembered' place → (a b : ℕ) → b ≤ length handles → (b ≤ from) ⊎ (to ≤ a) → between a b handles' ≡ between a b handles
  Cracks-apart c a b within apart =
      let long = length-Cracks c in
      let new_len = length-between handles' a b (omega (arith, long)) in
      let old_len = length-between handles a b within in
      ext_get_or no_handle (between a b handles') (between a b handles) (new_len ∙ sym old_len) (λ k h.
      let inside : a + k < b = omega (arith, new_len) in
      rw (get_or-between handles' a b k no_handle inside, get_or-between handles a b k no_handle inside) (Cracks-outside c (a + k) no_handle (elim apart [ inl l ↦ inl (omega arith) | inr g ↦ inr (omega arith) ])))

  -- the stretch after the crack
  piece_now : (c : Cracks cells bound from to handles remembered handles' remembered' place) → between from to handles' ≡ c.piece
  piece_now c =
      let long = length-Cracks c in
      let new_len = length-between handles' from to (omega (arith, long, c.within)) in
      ext_get_or no_handle (between from to handles') c.piece (new_len ∙ sym (length_piece c)) (λ k h.
      let inside : from + k < to = omega (arith, new_len) in
      let back : from + k - from ≡ k = omega arith in
      rw (get_or-between handles' from to k no_handle inside, (placed c).inside (from + k) no_handle (omega arith) inside, back) refl)

  -- the stretch has the same handles
  pub Cracks-own : Cracks cells bound from to handles remembered handles' remembered' place → IsPermutation (between from to handles) (between from to handles')
  Cracks-own c = rw (piece_now c) c.kept

  -- and so has each stretch that contains it
  pub Cracks-around : Cracks cells bound from to handles remembered handles' remembered' place → (a b : ℕ) → a ≤ from → to ≤ b → b ≤ length handles → IsPermutation (between a b handles) (between a b handles')
  Cracks-around c a b first last within =
      let long = length-Cracks c in
      let old : between a b handles ≡ between a from handles ++ (between from to handles ++ between to b handles) = between_parts handles a from b first (omega (arith, order c)) within ∙ ap (λ ys. between a from handles ++ ys) (between_parts handles from to b (order c) last within) in
      let new : between a b handles' ≡ between a from handles' ++ (between from to handles' ++ between to b handles') = between_parts handles' a from b first (omega (arith, order c)) (omega (arith, long)) ∙ ap (λ ys. between a from handles' ++ ys) (between_parts handles' from to b (order c) last (omega (arith, long))) in
      rw (old, new, Cracks-apart c a from (omega (arith, order c, c.within)) (inl (omega arith)), Cracks-apart c to b within (inr (omega arith))) (IsPermutation-append_right (between a from handles) (between from to handles ++ between to b handles) (between from to handles' ++ between to b handles) (IsPermutation-append_left (between to b handles) (between from to handles) (between from to handles') (Cracks-own c)))

  -- and the whole column
  pub Cracks-whole : Cracks cells bound from to handles remembered handles' remembered' place → IsPermutation handles handles'
  Cracks-whole c =
      let around = Cracks-around c 0 (length handles) (omega arith) c.within (omega arith) in
      let new : between 0 (length handles) handles' ≡ handles' = ap (λ n. between 0 n handles') (sym (length-Cracks c)) ∙ whole handles' in
      rw (whole handles, new) at around

  -- the whole column is divided at the place, if the stretch lies between two lesser and greater bounds
  pub Cracks-divides : Cracks cells bound from to handles remembered handles' remembered' place → (low high : ℕ) → low ≤ bound → bound ≤ high → IsDividedAt low (map (key_at cells) handles) from → IsDividedAt high (map (key_at cells) handles) to → IsDividedAt bound (map (key_at cells) handles') place
  Cracks-divides c low high below above d e =
      let at = placed c in
      let f = key_at cells in
      let long = length_piece c in
      let old_len = length-map handles f in
      let new_len = length-map handles' f in
      let piece_len = length-map c.piece f in
      let read_old : (k : ℕ) → k < length handles → get_or (map f handles) k 0 ≡ f (get_or handles k no_handle) = λ k h. get_or-map f handles k no_handle 0 h in
      let read_piece : (k : ℕ) → k < length c.piece → get_or (map f c.piece) k 0 ≡ f (get_or c.piece k no_handle) = λ k h. get_or-map f c.piece k no_handle 0 h in
      record {
        within = omega (arith, c.high, c.within, at.len);
        below = λ k h.
            rw (get_or-map f handles' k no_handle 0 (omega (arith, c.high, c.within, at.len))) (elim (cases_lt k from) [
              | inl l ↦ rw (at.before k no_handle l, ← read_old k (omega (arith, c.within, c.low, c.high))) (omega (arith, d.below k l))
              | inr g ↦ rw (at.inside k no_handle g (omega (arith, c.high)), ← read_piece (k - from) (omega (arith, c.high))) (c.divided.below (k - from) (omega arith))
            ]);
        above = λ k h g.
            rw (get_or-map f handles' k no_handle 0 (omega arith)) (elim (cases_lt k to) [
              | inl l ↦ rw (at.inside k no_handle (omega (arith, c.low)) l, ← read_piece (k - from) (omega (arith, c.low))) (c.divided.above (k - from) (omega (arith, c.low)) (omega (arith, c.low)))
              | inr m ↦ rw (at.behind k no_handle m, ← read_old k (omega (arith, at.len))) (omega (arith, e.above k m (omega (arith, at.len))))
            ]);
      }

  -- each other bound that divides the column at an end of the stretch or outside it still does
  pub Cracks-keeps : Cracks cells bound from to handles remembered handles' remembered' place → (other at : ℕ) → (at ≤ from) ⊎ (to ≤ at) → IsDividedAt other (map (key_at cells) handles) at → IsDividedAt other (map (key_at cells) handles') at
  Cracks-keeps c other at outside d =
      let now = placed c in
      let f = key_at cells in
      let long = length_piece c in
      let stretch_len = length-between handles from to c.within in
      let old_len = length-map handles f in
      let new_len = length-map handles' f in
      let low : (k : ℕ) (x : Handle) → k < at → f (get_or handles k x) < other = λ k x h. rw (← get_or-map f handles k x 0 (omega (arith, d.within))) (d.below k h) in
      let high : (k : ℕ) (x : Handle) → at ≤ k → k < length handles → other ≤ f (get_or handles k x) = λ k x h g. rw (← get_or-map f handles k x 0 g) (d.above k h (omega arith)) in
      let piece_low : to ≤ at → All (λ h. f h < other) c.piece = λ o. All-permutation (λ h. f h < other) (between from to handles) c.piece c.kept (λ k x h. rw (get_or-between handles from to k x (omega arith)) (low (from + k) x (omega arith))) in
      let piece_high : at ≤ from → All (λ h. other ≤ f h) c.piece = λ o. All-permutation (λ h. other ≤ f h) (between from to handles) c.piece c.kept (λ k x h. rw (get_or-between handles from to k x (omega arith)) (high (from + k) x (omega arith) (omega (arith, c.within)))) in
      record {
        within = omega (arith, d.within, now.len);
        below = λ k h.
            rw (get_or-map f handles' k no_handle 0 (omega (arith, d.within, now.len))) (elim (cases_lt k from) [
              | inl l ↦ rw (now.before k no_handle l) (low k no_handle h)
              | inr g ↦ elim (cases_lt k to) [
                | inl l ↦ rw (now.inside k no_handle g l) (elim outside [ inl o ↦ absurd (omega arith) | inr o ↦ piece_low o (k - from) no_handle (omega arith) ])
                | inr m ↦ rw (now.behind k no_handle m) (low k no_handle h)
              ]
            ]);
        above = λ k h j.
            rw (get_or-map f handles' k no_handle 0 (omega arith)) (elim (cases_lt k from) [
              | inl l ↦ rw (now.before k no_handle l) (high k no_handle h (omega (arith, now.len)))
              | inr g ↦ elim (cases_lt k to) [
                | inl l ↦ rw (now.inside k no_handle g l) (elim outside [ inl o ↦ piece_high o (k - from) no_handle (omega arith) | inr o ↦ absurd (omega arith) ])
                | inr m ↦ rw (now.behind k no_handle m) (high k no_handle h (omega (arith, now.len)))
              ]
            ]);
      }

  -- all rows of the stretch are remembered, and all others that were remembered still are
  pub Cracks-remembers : Cracks cells bound from to handles remembered handles' remembered' place → Remembers cells handles remembered → Remembers cells handles' remembered'
  Cracks-remembers c r =
      let now = placed c in
      let f = memory_at cells in
      let long = length_piece c in
      let beside = replaced from to remembered (map f c.piece) remembered' (order c) (omega (arith, c.within, r.beside)) (length-map c.piece f ∙ long) c.remembered_are in
      record {
        beside = beside.len ∙ r.beside ∙ sym now.len;
        right = λ k d h. elim (cases_lt k from) [
          | inl l ↦ rw (now.before k d l, beside.before k nothing l) (r.right k d (omega (arith, now.len)))
          | inr g ↦ elim (cases_lt k to) [
            | inl l ↦ inr (rw (now.inside k d g l, beside.inside k nothing g l) (get_or-map f c.piece (k - from) d nothing (omega arith)))
            | inr m ↦ rw (now.behind k d m, beside.behind k nothing m) (r.right k d (omega (arith, now.len)))
          ]
        ];
      }
