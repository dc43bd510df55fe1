-- An intact store after the pull of a pending deletion by a filler.
use Rattle.std.proofs.Common.{◌≡◌, ℕ, suc, ◌+◌, ◌-◌, ◌<◌, ◌≤◌, min, List, [], ◌∷◌, ◌++◌, map, length, take, drop, reverse, get_or, refl, sym, ap, subst, ◌∙◌, inl, inr, arith}
use Rattle.std.specs.List.{All, remove}
use Rattle.std.proofs.Math.Nat.{min-eq_left}
use Rattle.std.proofs.lemmas.Bool.{cases_lt, lt-ltb}
use Rattle.std.proofs.lemmas.List.{append_assoc, length-append, length-map, length-reverse, length-take-le, length_push, get_or-map, get_or_at, get_or-append-add, get_or_append_left, get_or_push, get_or-take, get_or-reverse, take_at, drop_at, take-append-drop, map-append, reverse-append}
use Rattle.std.proofs.lemmas.List.Elements.{All-push}
use Rattle.crack_arena.specs.Arena.{Handle, no_handle, times, slots, place_in}
use Rattle.crack_arena.specs.Rows.{key_at}
use Rattle.crack_arena.proofs.Times.{times_map_at}
use Rattle.crack_index.specs.declared.mark.Mark.{Mark}
use Rattle.crack_index.specs.Marks.{InOrder, Rising, lowered_at}
use Rattle.crack_column.specs.Column.{IsDividedAt}
use Rattle.crack_state.specs.State.{State, Carried, IsIntact, greatest}
use Rattle.crack_state.specs.Steps.{lifted, buried}
use Rattle.crack_state.proofs.OwnedLaws.{times-places, once-most}
use Rattle.crack_state.specs.Pieces.{Pieces, column_of, marks_of}
use Rattle.crack_state.specs.Pulled.{pulled, all_drawn, itself}
use Rattle.crack_state.specs.Filled.{pieces_under, filled_from}
use Rattle.crack_state.proofs.Divided.{AreDivided}
use Rattle.crack_state.proofs.CutLaws.{column_of-cut, marks_of-cut, AreDivided-cut}
use Rattle.crack_state.proofs.Draws.{Draws, drawn_with, fallen, upward, pulled_down, drawn_down}
use Rattle.crack_state.proofs.DrawDownLaws.{IsOnlyAt, Divides, AreBetween, leads-same, draws-down, lowered_at-before}
use Rattle.crack_state.proofs.DoomedPullLaws.{IsOnlyAt-doomed, upward-reverse}
use Rattle.crack_state.proofs.PulledLaws.{pulled_down-is, marks_of-pulled}
use Rattle.crack_state.proofs.StepsDown.{AreFrom}

-- the mark of an intact store before which fillers come in
module _ (s : State) (low : List Mark) (edge : Mark) (high : List Mark) (marks_are : s.marks ≡ low ++ edge ∷ high) (intact : IsIntact s []) where
  abbrev key : Handle → ℕ
  key = key_at s.cells

  -- the rows below the mark
  abbrev front : List Handle
  front = take edge.position s.column

  abbrev back : List Handle
  back = drop edge.position s.column

  rising : Rising (low ++ edge ∷ high)
  rising = rw marks_are at intact.rising

  pub low-are : All (λ m. InOrder m edge) low
  low-are = λ k e h.
      rw (get_or_append_left low (edge ∷ high) e k h, get_or_at low edge high e (length low) refl) at (rising k (length low) e h (omega (arith, length-append low (edge ∷ high))))

  pub high-are : All (λ m. InOrder edge m) high
  high-are = λ k e h.
      rw (get_or_at low edge high e (length low) refl, get_or-append-add low (edge ∷ high) (suc k) e) at (rising (length low) (length low + suc k) e (omega arith) (omega (arith, h, length-append low (edge ∷ high))))

  low-rising : Rising (low ++ edge ∷ [])
  low-rising = λ i j e h k.
      let long = length_push low edge in
      let less : j < length (low ++ edge ∷ high) = omega (arith, k, long, length-append low (edge ∷ high)) in
      rw (in-front i e (omega (arith, h, k, long)), in-front j e (omega (arith, k, long))) at (rising i j e h less)
    where
      in-front : (k : ℕ) (e : Mark) → k < length low + 1 → get_or (low ++ edge ∷ high) k e ≡ get_or (low ++ edge ∷ []) k e
      in-front k e h = elim (cases_lt k (length low)) [
        | inl l ↦ get_or_append_left low (edge ∷ high) e k l ∙ sym (get_or_append_left low (edge ∷ []) e k l)
        | inr l ↦
            let is : k ≡ length low = omega (arith, l, h) in
            get_or_at low edge high e k (sym is) ∙ sym (get_or_push low edge e k (sym is))
      ]

  just-low : Rising low
  just-low = λ i j e h k.
      let long = length_push low edge in
      rw (get_or_append_left low (edge ∷ []) e i (omega (arith, h, k)), get_or_append_left low (edge ∷ []) e j k) at (low-rising i j e h (omega (arith, k, long)))

  same-long : length (map key s.column) ≡ length s.column
  same-long = length-map s.column key

  obeyed : All (λ m. IsDividedAt m.bound.0 (map key s.column) m.position) (low ++ edge ∷ high)
  obeyed = rw marks_are at intact.obeyed

  edge-obeyed : IsDividedAt edge.bound.0 (map key s.column) edge.position
  edge-obeyed = rw (get_or_at low edge high edge (length low) refl) at (obeyed (length low) edge (omega (arith, length-append low (edge ∷ high))))

  pub edge-within : edge.position ≤ length s.column
  edge-within = omega (arith, edge-obeyed.within, same-long)

  pub front-long : length front ≡ edge.position
  front-long = length-take-le edge.position s.column edge-within

  -- a bound up to the mark divides the rows
  each-obeyed : (k : ℕ) (e : Mark) → k < length low + 1 → IsDividedAt (get_or (low ++ edge ∷ []) k e).bound.0 (map key s.column) (get_or (low ++ edge ∷ []) k e).position
  each-obeyed k e h = elim (cases_lt k (length low)) [
    | inl l ↦ rw (get_or_append_left low (edge ∷ high) e k l, ← (get_or_append_left low (edge ∷ []) e k l)) at (obeyed k e (omega (arith, l, length-append low (edge ∷ high))))
    | inr l ↦ rw (get_or_push low edge e k (omega (arith, l, h))) edge-obeyed
  ]

  up-to-edge : (k : ℕ) (e : Mark) → k < length low + 1 → ((get_or (low ++ edge ∷ []) k e).bound.0 ≤ edge.bound.0) × ((get_or (low ++ edge ∷ []) k e).position ≤ edge.position)
  up-to-edge k e h = elim (cases_lt k (length low)) [
    | inl l ↦ let one = low-are k e l in rw (get_or_append_left low (edge ∷ []) e k l) (omega (arith, one.bounds), one.positions)
    | inr l ↦ rw (get_or_push low edge e k (omega (arith, l, h))) (omega arith, omega arith)
  ]

  key-read : (k : ℕ) → k < length s.column → get_or (map key s.column) k 0 ≡ key (get_or s.column k no_handle)
  key-read k h = get_or-map key s.column k no_handle 0 h

  -- the pieces below the mark
  pub marks-under : marks_of 0 (pieces_under s low edge) ≡ low
  marks-under =
      marks_of-cut 0 low front just-low (λ k e h. omega arith) (λ k e h. let one = low-are k e h in omega (arith, one.positions, front-long))

  pub divided-under : AreDivided key 0 (pieces_under s low edge)
  divided-under = AreDivided-cut key 0 0 low front just-low (λ k e h. omega arith) (λ k e h. omega arith) (λ k e h.
      let long = front-long in
      let one : IsDividedAt (get_or low k e).bound.0 (map key s.column) (get_or low k e).position = rw (get_or_append_left low (edge ∷ []) e k h) at (each-obeyed k e (omega (arith, h))) in
      let there = low-are k e h in
      record {
        from = omega arith;
        to = omega (arith, there.positions, long);
        before = λ j x within less. rw (get_or-take edge.position s.column j x (omega (arith, within, long)), ← (get_or-map key s.column j x 0 (omega (arith, within, long, edge-within)))) (one.below j (omega (arith, less)));
        behind = λ j x within more. rw (get_or-take edge.position s.column j x (omega (arith, within, long)), ← (get_or-map key s.column j x 0 (omega (arith, within, long, edge-within)))) (one.above j (omega (arith, more)) (omega (arith, within, long, edge-within, same-long)));
      })

  -- a filler, whose key is at or above the mark's bound and below the next one's
  module _ (next : ℕ) (within_in : next < length s.pending_in) where
    abbrev f : Handle
    f = get_or s.pending_in next no_handle

    abbrev all : List Handle
    all = front ++ f ∷ []

    all-long : length all ≡ edge.position + 1
    all-long = omega (arith, length_push front f, front-long)

    at-front : (k : ℕ) → k < edge.position → get_or all k no_handle ≡ get_or s.column k no_handle
    at-front k h = get_or_append_left front (f ∷ []) no_handle k (omega (arith, h, front-long)) ∙ get_or-take edge.position s.column k no_handle h

    at-last : (k : ℕ) → k ≡ edge.position → get_or all k no_handle ≡ f
    at-last k is = get_or_push front f no_handle k (omega (arith, is, front-long))

    module _ (from : edge.bound.0 ≤ key f) (before : All (λ m. key f < m.bound.0) high) where
      divides-all : (m : Mark) → IsDividedAt m.bound.0 (map key s.column) m.position → m.bound.0 ≤ edge.bound.0 → m.position ≤ edge.position → Divides key all m
      divides-all m one bounds positions = record {
        within = omega (arith, positions, all-long);
        before = λ k less. rw (at-front k (omega (arith, less, positions)), ← (key-read k (omega (arith, less, positions, edge-within)))) (one.below k less);
        behind = λ k more to. elim (cases_lt k edge.position) [
          | inl l ↦ rw (at-front k l, ← (key-read k (omega (arith, l, edge-within)))) (one.above k more (omega (arith, l, edge-within, same-long)))
          | inr l ↦ rw (at-last k (omega (arith, l, to, all-long))) (omega (arith, bounds, from))
        ];
      }

      key-below : (k : ℕ) → k < edge.position → key (get_or s.column k no_handle) < edge.bound.0
      key-below k h = rw (← (key-read k (omega (arith, h, edge-within)))) (edge-obeyed.below k h)

      are-between : AreBetween key (reverse (low ++ edge ∷ [])) high all
      are-between =
          let far = length-reverse (low ++ edge ∷ []) in
          let long = length_push low edge in
          record {
            divides = λ k e h.
                let j : ℕ = length (low ++ edge ∷ []) - 1 - k in
                let less : j < length low + 1 = omega (arith, h, far, long) in
                let upto = up-to-edge j e less in
                rw (get_or-reverse (low ++ edge ∷ []) k e (omega (arith, h, far))) (divides-all (get_or (low ++ edge ∷ []) j e) (each-obeyed j e less) upto.0 upto.1);
            falls = λ i j e less h.
                let both = low-rising (length (low ++ edge ∷ []) - 1 - j) (length (low ++ edge ∷ []) - 1 - i) e (omega (arith, less, h, far)) (omega (arith, less, h, far)) in
                rw (get_or-reverse (low ++ edge ∷ []) i e (omega (arith, less, h, far)), get_or-reverse (low ++ edge ∷ []) j e (omega (arith, h, far))) (omega (arith, both.bounds), both.positions);
            over = λ k e h.
                let one = high-are k e h in
                record {
                  place = omega (arith, one.positions, all-long);
                  keys = λ j l. elim (cases_lt j edge.position) [
                    | inl less ↦ rw (at-front j less) (omega (arith, key-below j less, one.bounds))
                    | inr more ↦ rw (at-last j (omega (arith, more, l, all-long))) (before k e h)
                  ];
                };
          }

      -- a pending deletion, whose key is below the mark's bound
      module _ (place : ℕ) (within : place < length s.pending_out) where
        abbrev d : Handle
        d = get_or s.pending_out place no_handle

        abbrev i : ℕ
        i = place_in s.column d.slot

        at : IsOnlyAt d s.column i
        at = IsOnlyAt-doomed place s within intact

        module _ (under : key d < edge.bound.0) where
          pub inside : i < edge.position
          inside = elim (cases_lt i edge.position) [
            | inl l ↦ l
            | inr l ↦
                let over = edge-obeyed.above i l (omega (arith, at.within, same-long)) in
                absurd (omega (arith, over, key-read i at.within, ap key at.is, under))
          ]

          apart : f.slot ≡ d.slot → ⊥
          apart same =
              let owned = intact.owned in
              let most = once-most s.cells s.free s.column s.pending_in s.pending_out [] d.slot owned in
              let parts = times-places d.slot s.column s.pending_in s.free [] in
              let here : 0 < times d.slot (slots s.column) = times_map_at d.slot (λ (x : Handle). x.slot) s.column i no_handle at.within (ap (λ (x : Handle). x.slot) at.is) in
              let there : 0 < times d.slot (slots s.pending_in) = times_map_at d.slot (λ (x : Handle). x.slot) s.pending_in next no_handle within_in same in
              omega (arith, most, parts, here, there)

          only-here : IsOnlyAt d all i
          only-here = record {
            within = omega (arith, inside, all-long);
            is = at-front i inside ∙ at.is;
            only = λ k h same. elim (cases_lt k edge.position) [
              | inl l ↦ at.only k (omega (arith, l, edge-within)) (rw (at-front k l) at same)
              | inr l ↦ absurd (apart (rw (at-last k (omega (arith, l, h, all-long))) at same))
            ];
          }

          abbrev P0 : Pieces Handle
          P0 = pieces_under s low edge

          pub marks-one : marks_of 0 (pulled key itself 0 (d ∷ []) P0) ≡ map (fallen (key d)) low
          marks-one =
              let cut : column_of P0 ≡ front = column_of-cut 0 low front in
              let shorter : i < length (column_of P0) = omega (arith, ap length cut, inside, front-long) in
              let read : get_or (column_of P0) i no_handle ≡ d = ap (λ hs. get_or hs i no_handle) cut ∙ get_or-take edge.position s.column i no_handle inside ∙ at.is in
              marks_of-pulled key d 0 0 i P0 (omega arith) shorter (ap key read) divided-under ∙ ap (map (fallen (key d))) marks-under

          -- the filler is lifted, and this is the store after the pull of the pending deletion
          pub Draws-filled : Draws d (lifted next s) (filled_from low edge high (d ∷ []) (f ∷ []) (remove s.pending_in next) s)
          Draws-filled =
              let b : State = (lifted next s).store in
              let falling : List Mark = edge ∷ reverse low in
              let turned : reverse (low ++ edge ∷ []) ≡ falling = reverse-append low (edge ∷ []) in
              let are : AreBetween key falling high all = rw turned at are-between in
              let led = draws-down b d falling front back high f 0 i are only-here in
              let up : upward falling ≡ low ++ edge ∷ [] = ap (λ ms. ms ++ edge ∷ []) (upward-reverse low) in
              let split : (low ++ edge ∷ []) ++ high ≡ s.marks = append_assoc low (edge ∷ []) high ∙ sym marks_are in
              let whole : front ++ back ≡ s.column = take-append-drop edge.position s.column in
              let still : map (lowered_at (length front + 1)) (upward falling) ++ high ≡ s.marks = ap (λ ms. map (lowered_at (length front + 1)) ms ++ high) up ∙ ap (λ ms. ms ++ high) (lowered_at-before (length front + 1) (low ++ edge ∷ []) (All-push (λ x. x.position < length front + 1) low edge (λ j e h. let one = low-are j e h in omega (arith, one.positions, front-long)) (omega (arith, front-long)))) ∙ split in
              let none : min (s.tally.pulled + 0) greatest ≡ s.tally.pulled = min-eq_left (omega (arith, intact.counted.pulled)) ∙ omega arith in
              let begun : drawn_with b (front ++ back) (map (lowered_at (length front + 1)) (upward falling) ++ high) 0 f ≡ lifted next s = rw (whole, still, none) refl in
              let first : take edge.position all ≡ front = take_at front (f ∷ []) edge.position front-long in
              let rest : drop edge.position all ≡ f ∷ [] = drop_at front (f ∷ []) edge.position front-long in
              let from_low : AreFrom key 0 (upward (reverse low)) = rw (upward-reverse low) (record { pairs = just-low; behind = λ k e h. omega arith }) in
              let down = rw (upward-reverse low) at (pulled_down-is key d (reverse low) front from_low) in
              let column_to : List Handle = column_of (pulled key itself 0 (d ∷ []) P0) ++ (f ∷ back) in
              let marks_to : List Mark = marks_of 0 (pulled key itself 0 (d ∷ []) P0) ++ record edge { position = edge.position - 1 } ∷ high in
              let count_to : ℕ = all_drawn key itself 0 (d ∷ []) P0 + 1 in
              let lower : pulled_down key d falling all ≡ pulled_down key d (reverse low) front ++ f ∷ [] = rw (lt-ltb (key d) edge.bound.0 under, first, rest) refl in
              let column : pulled_down key d falling all ++ back ≡ column_to = ap (λ hs. hs ++ back) (lower ∙ ap (λ hs. hs ++ f ∷ []) down.0) ∙ append_assoc (column_of (pulled key itself 0 (d ∷ []) P0)) (f ∷ []) back in
              let edge_falls : fallen (key d) edge ≡ record edge { position = edge.position - 1 } = rw (lt-ltb (key d) edge.bound.0 under) refl in
              let marks : map (fallen (key d)) (upward falling) ++ high ≡ marks_to = ap (λ ms. map (fallen (key d)) ms ++ high) up ∙ ap (λ ms. ms ++ high) (map-append (fallen (key d)) low (edge ∷ [])) ∙ append_assoc (map (fallen (key d)) low) (fallen (key d) edge ∷ []) high ∙ rw (edge_falls, marks-one) refl in
              let counted : drawn_down key d falling all ≡ drawn_down key d (reverse low) front + 1 = rw (lt-ltb (key d) edge.bound.0 under, first, rest) refl in
              let count : 0 + drawn_down key d falling all ≡ count_to = omega (arith, counted, down.1) in
              let done = leads-same b d (lifted next s) (pulled_down key d falling all ++ back) column_to (map (fallen (key d)) (upward falling) ++ high) marks_to (0 + drawn_down key d falling all) count_to column marks count in
              done (subst (λ (c : Carried). Draws d c (buried (drawn_with b (pulled_down key d falling all ++ back) (map (fallen (key d)) (upward falling) ++ high) (0 + drawn_down key d falling all) d))) begun led)
