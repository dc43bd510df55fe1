-- A store whose column is in pieces, after a carry.
use Rattle.std.proofs.Common.{◌≡◌, ℕ, ◌+◌, ◌-◌, ◌<◌, ◌≤◌, Bool, true, false, cond, min, suc, List, [], ◌∷◌, ◌++◌, map, length, Option, Some, None, refl, sym, ap, ◌∙◌, inl, inr, arith}
use Rattle.std.specs.List.{All}
use Rattle.std.proofs.Math.Nat.{min-eq_left, min-eq_right}
use Rattle.std.proofs.lemmas.Bool.{cases_lt, cases_Bool, lt-ltb, le-ltb, ltb-true, leb-true, leb-false, or_parts, false≢true}
use Rattle.std.proofs.lemmas.List.{append-nil, append_assoc, length-append, length_push, map-append, get_or_at, set_at}
use Rattle.std.proofs.lemmas.List.Elements.{All-nil, All-head, All-push, All-weaker, All-map}
use Rattle.crack_row.specs.declared.InnerBound.{InnerBound}
use Rattle.crack_arena.specs.Arena.{Handle, times, slots}
use Rattle.crack_arena.specs.Rows.{key_at}
use Rattle.crack_index.specs.declared.mark.Mark.{Mark}
use Rattle.crack_index.specs.Marks.{next_mark, raised, end_of}
use Rattle.crack_state.specs.State.{State, Carried, greatest}
use Rattle.crack_state.specs.Steps.{raise_next, more, IsBelow, pushed_on, appended, buried, returned}
use Rattle.crack_state.specs.Pieces.{Pieces, last, below, column_of, marks_of}
use Rattle.crack_state.proofs.Divided.{AreDivided}
use Rattle.crack_state.specs.Queues.{CarryState, comes, turns, stopped}
use Rattle.crack_state.proofs.OneByOne.{reached, outcome}
use Rattle.crack_state.specs.Carried.{is_over, is_doomed, ends_with, moved_by, carried_with}
use Rattle.crack_state.proofs.Carried.{Leads, buries, evicts, ends, goes_on}
use Rattle.crack_state.proofs.BulkLaws.{reached-stopped, outcome-stopped}
use Rattle.crack_state.proofs.PieceMarkLaws.{mark_at, next_mark-skips, raised-here, raised-lower, raised-behind_first}

-- the store after a carry has ended in this way, with this column and these marks
abbrev pub landed : State → List Handle → List Mark → CarryState Handle → State
landed s column marks (comes x) = record s { column = column; marks = marks }
landed s column marks (turns moved) =
    record s {
      column = column;
      marks = marks;
      tally = moved_by moved s.tally;
      column_room = s.column_room - 1;
    }
landed s column marks (stopped moved hand) =
    let c = carried_with s column marks moved hand in
    cond (is_doomed s hand) (buried c) (returned c)

-- a counter raised by this many, and by one more
more-min : (n k : ℕ) → more (min (n + k) greatest) ≡ min (n + suc k) greatest
more-min n k = elim (cases_lt (n + k) greatest) [
  | inl l ↦
      let one : min (n + k) greatest ≡ n + k = min-eq_left (omega (arith, l)) in
      ap (λ m. min m greatest) (omega (arith, one))
  | inr l ↦
      let full : min (n + k) greatest ≡ greatest = min-eq_right l in
      min-eq_right (omega (arith, full)) ∙ sym (min-eq_right (omega (arith, l)))
]

-- the tests of a hand
not_doomed : (s : State) (h : Handle) → is_doomed s h ≡ false → ¬ (0 < times h.slot (slots s.pending_out))
not_doomed s h no_more doomed = false≢true (sym no_more ∙ lt-ltb 0 (times h.slot (slots s.pending_out)) doomed)

is_below : (ceiling : Option ℕ) (key : ℕ) → is_over ceiling key ≡ false → IsBelow ceiling key
is_below None key under = tt
is_below (Some bound) key under = leb-false bound key under

is_above : (ceiling : Option ℕ) (key : ℕ) → is_over ceiling key ≡ true → ¬ IsBelow ceiling key
is_above None key over = absurd (false≢true over)
is_above (Some bound) key over = λ under. let above : bound ≤ key = leb-true bound key over in absurd (omega (arith, above, under))

module _ (s : State) (ceiling : Option ℕ) where
  abbrev key : Handle → ℕ
  key h = key_at s.cells h

  abbrev stops : Handle → Bool
  stops h = ends_with ceiling s h

  -- a hand that ends a carry
  stops_here : (column : List Handle) (marks : List Mark) (n : ℕ) (y : Handle) → stops y ≡ true → Leads ceiling (carried_with s column marks n y) (landed s column marks (stopped n y))
  stops_here column marks n y stop = elim (cases_Bool (is_doomed s y)) [
    | inl doomed ↦ rw doomed (buries (carried_with s column marks n y) (ltb-true 0 (times y.slot (slots s.pending_out)) doomed))
    | inr lasting ↦
        let over : is_over ceiling (key y) ≡ true = rw lasting at stop in
        rw lasting (evicts (carried_with s column marks n y) (not_doomed s y lasting) (is_above ceiling (key y) over))
  ]

  -- a hand that doesn't end one becomes the last row where its own piece ends at the column's end
  ends_here : (column : List Handle) (marks : List Mark) (n : ℕ) (y : Handle) (o : Option Mark) → stops y ≡ false → next_mark (key y) marks ≡ o → end_of (length column) o ≡ length column → Leads ceiling (carried_with s column marks n y) (landed s (column ++ y ∷ []) (raise_next o marks) (turns n))
  ends_here column marks n y o goes next at_end =
      let parts = or_parts (is_doomed s y) (is_over ceiling (key y)) goes in
      let c = carried_with s column marks n y in
      let done : Leads ceiling c (appended c) = ends c (not_doomed s y parts.0) (is_below ceiling (key y) parts.1) (rw next at_end) in
      rw next at done

  -- it takes the place of the row where its own piece ends
  pushes_here : (prefix : List Handle) (place : ℕ) (ms rest : List Mark) (b : InnerBound) (h y : Handle) (zs : List Handle) (n : ℕ) (t : State) → length prefix ≡ place → next_mark (key h) (ms ++ rest) ≡ Some (mark_at b place) → stops h ≡ false → map (raised b.0 place) rest ≡ rest → Leads ceiling (carried_with s (prefix ++ h ∷ zs) (map (raised b.0 place) ms ++ rest) (suc n) y) t → Leads ceiling (carried_with s (prefix ++ y ∷ zs) (ms ++ rest) n h) t
  pushes_here prefix place ms rest b h y zs n t at next goes same others =
      let parts = or_parts (is_doomed s h) (is_over ceiling (key h)) goes in
      let c = carried_with s (prefix ++ y ∷ zs) (ms ++ rest) n h in
      let before : place < length (prefix ++ y ∷ zs) = omega (arith, at, length-append prefix (y ∷ zs)) in
      let marks : map (raised b.0 place) (ms ++ rest) ≡ map (raised b.0 place) ms ++ rest = map-append (raised b.0 place) ms rest ∙ ap (λ ns. map (raised b.0 place) ms ++ ns) same in
      let pushed : pushed_on c ≡ carried_with s (prefix ++ h ∷ zs) (map (raised b.0 place) ms ++ rest) (suc n) y = rw (next, set_at prefix y zs h place at, get_or_at prefix y zs h place at, marks, more-min s.tally.moved n) refl in
      goes_on c t (not_doomed s h parts.0) (is_below ceiling (key h) parts.1) (rw next before) (rw pushed others)

  -- the marks before a place, once those at it moved up, are still at or below this bound
  low_still : (low place top : ℕ) (ms : List Mark) → All (λ m. m.bound.0 ≤ top) ms → All (λ m. m.bound.0 ≤ top) (map (raised low place) ms)
  low_still low place top ms low_ms = All-map (λ m. m.bound.0 ≤ top) (raised low place) ms low_ms

  -- a hand whose own piece ends at a place, at which a bound is that is the next above its key, goes on through the pieces above
  turns-leads : (pieces : Pieces Handle) (prefix : List Handle) (place : ℕ) (ms : List Mark) (b : InnerBound) (h : Handle) (n top : ℕ) → length prefix ≡ place → ((rest : List Mark) → next_mark (key h) (ms ++ rest) ≡ Some (mark_at b place)) → All (λ m. m.bound.0 ≤ top) ms → b.0 ≤ top → AreDivided key top pieces → stops h ≡ false → Leads ceiling (carried_with s (prefix ++ column_of pieces) (ms ++ marks_of place pieces) n h) (landed s (prefix ++ h ∷ column_of (reached key stops (turns n) pieces)) (map (raised b.0 place) ms ++ marks_of ((place + 1)) (reached key stops (turns n) pieces)) (outcome key stops (turns n) pieces))
  turns-leads (last []) prefix place ms b h n top at next low order divided goes =
      let done = ends_here (prefix ++ []) (ms ++ []) n h (Some (mark_at b place)) goes (next []) (omega (arith, at, ap length (append-nil prefix))) in
      rw (append-nil prefix, append-nil ms, append-nil (map (raised b.0 place) ms)) (rw (append-nil prefix, append-nil ms) at done)
  turns-leads (last (y ∷ ys)) prefix place ms b h n top at next low order divided goes =
      let on : List Mark = map (raised b.0 place) ms in
      elim (cases_Bool (stops y)) [
        | inl stop ↦ rw stop (pushes_here prefix place ms [] b h y ys n (landed s (prefix ++ h ∷ ys) (on ++ []) (stopped (suc n) y)) at (next []) goes refl (stops_here (prefix ++ h ∷ ys) (on ++ []) (suc n) y stop))
        | inr lasts ↦
            let above : top ≤ key y = All-head (λ x. top ≤ key x) y ys divided in
            let none : next_mark (key y) (on ++ []) ≡ None = next_mark-skips (key y) on [] (low_still b.0 place (key y) ms (All-weaker (λ m. m.bound.0 ≤ top) (λ m. m.bound.0 ≤ key y) (λ m l. omega (arith, l, above)) ms low)) in
            let done = ends_here (prefix ++ h ∷ ys) (on ++ []) (suc n) y None lasts none refl in
            rw lasts (pushes_here prefix place ms [] b h y ys n (landed s (prefix ++ h ∷ (ys ++ y ∷ [])) (on ++ []) (turns (suc n))) at (next []) goes refl (rw (append_assoc prefix (h ∷ ys) (y ∷ [])) at done))
      ]
  turns-leads (below [] c pieces) prefix place ms b h n top at next low order divided goes =
      let here : place + 0 ≡ place = omega arith in
      let higher : (place + 1) + 0 ≡ (place + 1) = omega arith in
      let one : List Mark = mark_at c place ∷ [] in
      let next_too : (rest : List Mark) → next_mark (key h) ((ms ++ one) ++ rest) ≡ Some (mark_at b place) = λ rest. rw (append_assoc ms one rest) (next (one ++ rest)) in
      let low_too : All (λ m. m.bound.0 ≤ c.0) (ms ++ one) = All-push (λ m. m.bound.0 ≤ c.0) ms (mark_at c place) (All-weaker (λ m. m.bound.0 ≤ top) (λ m. m.bound.0 ≤ c.0) (λ m l. omega (arith, l, divided.1)) ms low) (omega arith) in
      let above = turns-leads pieces prefix place (ms ++ one) b h n c.0 at next_too low_too (omega (arith, order, divided.1)) divided.2 goes in
      let up : map (raised b.0 place) (ms ++ one) ≡ map (raised b.0 place) ms ++ mark_at c (place + 1) ∷ [] = map-append (raised b.0 place) ms one ∙ ap (λ m. map (raised b.0 place) ms ++ m ∷ []) (raised-here b.0 place c (omega (arith, order, divided.1))) in
      let Q = reached key stops (turns n) pieces in
      let before : (ms ++ one) ++ marks_of place pieces ≡ ms ++ mark_at c place ∷ marks_of place pieces = append_assoc ms one (marks_of place pieces) in
      let after : map (raised b.0 place) (ms ++ one) ++ marks_of ((place + 1)) Q ≡ map (raised b.0 place) ms ++ mark_at c ((place + 1)) ∷ marks_of ((place + 1)) Q =
      rw up (append_assoc (map (raised b.0 place) ms) (mark_at c (place + 1) ∷ []) (marks_of ((place + 1)) Q)) in
      rw (here, higher) (rw (before, after) at above)
  turns-leads (below (y ∷ ys) c pieces) prefix place ms b h n top at next low order divided goes =
      let on : List Mark = map (raised b.0 place) ms in
      let rest : List Mark = marks_of place (below (y ∷ ys) c pieces) in
      let zs : List Handle = ys ++ column_of pieces in
      let stay : map (raised b.0 place) rest ≡ rest = raised-behind_first b.0 place y ys c pieces in
      let between = All-head (λ x. (top ≤ key x) × (key x < c.0)) y ys divided.0 in
      elim (cases_Bool (stops y)) [
        | inl stop ↦
            let size : (place + 1) + length ys ≡ place + suc (length ys) = omega arith in
            rw (stop, reached-stopped key stops (suc n) y pieces, outcome-stopped key stops (suc n) y pieces, size) (pushes_here prefix place ms rest b h y zs n (landed s (prefix ++ h ∷ zs) (on ++ rest) (stopped (suc n) y)) at (next rest) goes stay (stops_here (prefix ++ h ∷ zs) (on ++ rest) (suc n) y stop))
        | inr lasts ↦
            let size : (place + 1) + length (ys ++ y ∷ []) ≡ (place + suc (length ys)) + 1 = omega (arith, length_push ys y) in
            let on_it : Leads ceiling (carried_with s (prefix ++ h ∷ zs) (on ++ rest) (suc n) y) (landed s (prefix ++ h ∷ ((ys ++ y ∷ []) ++ column_of (reached key stops (turns (suc n)) pieces))) (on ++ mark_at c ((place + suc (length ys)) + 1) ∷ marks_of ((place + suc (length ys)) + 1) (reached key stops (turns (suc n)) pieces)) (outcome key stops (turns (suc n)) pieces)) =
            let prefix' : List Handle = prefix ++ h ∷ ys in
            let place' : ℕ = place + suc (length ys) in
            let one : List Mark = mark_at c place' ∷ [] in
            let Q = reached key stops (turns (suc n)) pieces in
            let low_on : All (λ m. m.bound.0 ≤ top) on = low_still b.0 place top ms low in
            let next' : (r : List Mark) → next_mark (key y) ((on ++ one) ++ r) ≡ Some (mark_at c place') = λ r. rw (append_assoc on one r, next_mark-skips (key y) on (one ++ r) (All-weaker (λ m. m.bound.0 ≤ top) (λ m. m.bound.0 ≤ key y) (λ m l. omega (arith, l, between.0)) on low_on), lt-ltb (key y) c.0 between.1) refl in
            let low' : All (λ m. m.bound.0 ≤ c.0) (on ++ one) = All-push (λ m. m.bound.0 ≤ c.0) on (mark_at c place') (All-weaker (λ m. m.bound.0 ≤ top) (λ m. m.bound.0 ≤ c.0) (λ m l. omega (arith, l, divided.1)) on low_on) (omega arith) in
            let above = turns-leads pieces prefix' place' (on ++ one) c y (suc n) c.0 (omega (arith, at, length-append prefix (h ∷ ys))) next' low' (omega arith) divided.2 lasts in
            let raised_on : map (raised c.0 place') on ≡ on = raised-lower c.0 place' on (All-weaker (λ m. m.bound.0 ≤ top) (λ m. m.bound.0 < c.0) (λ m l. omega (arith, l, between.0, between.1)) on low_on) in
            let up : map (raised c.0 place') (on ++ one) ≡ on ++ mark_at c (place' + 1) ∷ [] = map-append (raised c.0 place') on one ∙ rw (raised_on, raised-here c.0 place' c (omega arith)) refl in
            let column_before : prefix' ++ column_of pieces ≡ prefix ++ h ∷ zs = append_assoc prefix (h ∷ ys) (column_of pieces) in
            let marks_before : (on ++ one) ++ marks_of place' pieces ≡ on ++ rest = append_assoc on one (marks_of place' pieces) in
            let column_after : prefix' ++ y ∷ column_of Q ≡ prefix ++ h ∷ ((ys ++ y ∷ []) ++ column_of Q) = append_assoc prefix (h ∷ ys) (y ∷ column_of Q) ∙ ap (λ others. prefix ++ h ∷ others) (sym (append_assoc ys (y ∷ []) (column_of Q))) in
            let marks_after : map (raised c.0 place') (on ++ one) ++ marks_of (place' + 1) Q ≡ on ++ mark_at c (place' + 1) ∷ marks_of (place' + 1) Q = rw up (append_assoc on (mark_at c (place' + 1) ∷ []) (marks_of (place' + 1) Q)) in
            rw (column_before, marks_before, column_after, marks_after) at above in
            rw (lasts, size) (pushes_here prefix place ms rest b h y zs n (landed s (prefix ++ h ∷ ((ys ++ y ∷ []) ++ column_of (reached key stops (turns (suc n)) pieces))) (on ++ mark_at c ((place + suc (length ys)) + 1) ∷ marks_of ((place + suc (length ys)) + 1) (reached key stops (turns (suc n)) pieces)) (outcome key stops (turns (suc n)) pieces)) at (next rest) goes stay on_it)
      ]

  -- a row comes in whose own piece isn't before a place
  comes-leads : (pieces : Pieces Handle) (prefix : List Handle) (place : ℕ) (ms : List Mark) (h : Handle) (low : ℕ) → length prefix ≡ place → All (λ m. m.bound.0 ≤ key h) ms → AreDivided key low pieces → stops h ≡ false → Leads ceiling (carried_with s (prefix ++ column_of pieces) (ms ++ marks_of place pieces) 0 h) (landed s (prefix ++ column_of (reached key stops (comes h) pieces)) (ms ++ marks_of place (reached key stops (comes h) pieces)) (outcome key stops (comes h) pieces))
  comes-leads (last rows) prefix place ms h low at before divided goes =
      let none : next_mark (key h) (ms ++ []) ≡ None = next_mark-skips (key h) ms [] before in
      rw (append_assoc prefix rows (h ∷ [])) at (ends_here (prefix ++ rows) (ms ++ []) 0 h None goes none refl)
  comes-leads (below rows c pieces) prefix place ms h low at before divided goes =
      let prefix' : List Handle = prefix ++ rows in
      let place' : ℕ = place + length rows in
      let at' : length prefix' ≡ place' = omega (arith, at, length-append prefix rows) in
      let one : List Mark = mark_at c place' ∷ [] in
      elim (cases_lt (key h) c.0) [
        | inl own ↦
            let Q = reached key stops (turns 0) pieces in
            let next : (r : List Mark) → next_mark (key h) ((ms ++ one) ++ r) ≡ Some (mark_at c place') = λ r. rw (append_assoc ms one r, next_mark-skips (key h) ms (one ++ r) before, lt-ltb (key h) c.0 own) refl in
            let low' : All (λ m. m.bound.0 ≤ c.0) (ms ++ one) = All-push (λ m. m.bound.0 ≤ c.0) ms (mark_at c place') (All-weaker (λ m. m.bound.0 ≤ key h) (λ m. m.bound.0 ≤ c.0) (λ m l. omega (arith, l, own)) ms before) (omega arith) in
            let above = turns-leads pieces prefix' place' (ms ++ one) c h 0 c.0 at' next low' (omega arith) divided.2 goes in
            let raised_before : map (raised c.0 place') ms ≡ ms = raised-lower c.0 place' ms (All-weaker (λ m. m.bound.0 ≤ key h) (λ m. m.bound.0 < c.0) (λ m l. omega (arith, l, own)) ms before) in
            let up : map (raised c.0 place') (ms ++ one) ≡ ms ++ mark_at c (place' + 1) ∷ [] = map-append (raised c.0 place') ms one ∙ rw (raised_before, raised-here c.0 place' c (omega arith)) refl in
            let size : place + length (rows ++ h ∷ []) ≡ place' + 1 = omega (arith, length_push rows h) in
            let column_after : prefix' ++ h ∷ column_of Q ≡ prefix ++ ((rows ++ h ∷ []) ++ column_of Q) = append_assoc prefix rows (h ∷ column_of Q) ∙ ap (λ others. prefix ++ others) (sym (append_assoc rows (h ∷ []) (column_of Q))) in
            let marks_after : map (raised c.0 place') (ms ++ one) ++ marks_of (place' + 1) Q ≡ ms ++ mark_at c (place' + 1) ∷ marks_of (place' + 1) Q = rw up (append_assoc ms (mark_at c (place' + 1) ∷ []) (marks_of (place' + 1) Q)) in
            rw (lt-ltb (key h) c.0 own, size) (rw (append_assoc prefix rows (column_of pieces), append_assoc ms one (marks_of place' pieces), column_after, marks_after) at above)
        | inr beyond ↦
            let Q = reached key stops (comes h) pieces in
            let before' : All (λ m. m.bound.0 ≤ key h) (ms ++ one) = All-push (λ m. m.bound.0 ≤ key h) ms (mark_at c place') before beyond in
            let above = comes-leads pieces prefix' place' (ms ++ one) h c.0 at' before' divided.2 goes in
            rw (le-ltb (key h) c.0 beyond) (rw (append_assoc prefix rows (column_of pieces), append_assoc prefix rows (column_of Q), append_assoc ms one (marks_of place' pieces), append_assoc ms one (marks_of place' Q)) at above)
      ]

-- a row that is carried into the pieces of a column has the effect of its event on the pieces that it reaches, and ends in the same way
pub Leads-reached : (ceiling : Option ℕ) (c : Carried) (pieces : Pieces Handle) (low : ℕ) → c.store.column ≡ column_of pieces → c.store.marks ≡ marks_of 0 pieces → c.store.tally.moved ≤ greatest → AreDivided (key_at c.store.cells) low pieces → ends_with ceiling c.store c.hand ≡ false → Leads ceiling c (landed c.store (column_of (reached (key_at c.store.cells) (ends_with ceiling c.store) (comes c.hand) pieces)) (marks_of 0 (reached (key_at c.store.cells) (ends_with ceiling c.store) (comes c.hand) pieces)) (outcome (key_at c.store.cells) (ends_with ceiling c.store) (comes c.hand) pieces))
Leads-reached ceiling c pieces low column marks counted divided goes =
    let s = c.store in
    let none : min (s.tally.moved + 0) greatest ≡ s.tally.moved = min-eq_left (omega (arith, counted)) ∙ omega arith in
    let same : carried_with s (column_of pieces) (marks_of 0 pieces) 0 c.hand ≡ c = rw (← column, ← marks, none) refl in
    rw same at (comes-leads s ceiling pieces [] 0 [] c.hand low refl (All-nil (λ m. m.bound.0 ≤ key_at s.cells c.hand)) divided goes)
