-- Rows that came in after the column's last row and turn the pieces from the lowest up have the result of all carries.
use Rattle.std.proofs.Common.{◌≤◌, ◌≡◌, ◌⊎◌, ℕ, suc, ◌+◌, Bool, true, false, not, ◌&&◌, cond, List, [], ◌∷◌, ◌++◌, map, length, refl, sym, ap, ◌∙◌, inl, inr, arith}
use Rattle.std.specs.List.{All, filter, sum_by}
use Rattle.std.specs.Prelude.{count_by}
use Rattle.std.proofs.lemmas.Bool.{cases_Bool, lt-ltb, le-ltb, ltb-true, true≢false}
use Rattle.std.proofs.lemmas.List.{append-nil, append_assoc, length-append, length_push}
use Rattle.std.proofs.lemmas.List.Elements.{All-nil, All-cons, All-head, All-tail, All-push, All-append}
use Rattle.std.proofs.lemmas.List.Sums.{sum_by-cons, sum_by_push, sum_by-append}
use Rattle.crack_row.specs.declared.InnerBound.{InnerBound}
use Rattle.crack_state.specs.Pieces.{Pieces, last, below, column_of, marks_of}
use Rattle.crack_state.specs.Queues.{CarryState, comes, turns, stopped, is_below, any_row, after_event, onward, after_turn, left_after, passed, in_bulk, bulk_outcomes}
use Rattle.crack_state.specs.Sweeps.{Swept, Round, goes_on, round, swept, is_lower, any_lower, swept_by}
use Rattle.crack_state.proofs.SweptUp.{swept_up, swept_marks}
use Rattle.crack_state.proofs.Divided.{AreDivided}
use Rattle.crack_state.proofs.SiftLaws.{moved_of}
use Rattle.crack_state.proofs.AllCarriedLaws.{All-left, All-right}
use Rattle.crack_state.proofs.EndLaws.{HasCome, hands_of}
use Rattle.crack_state.proofs.TurnLaws.{arriving, marks_up, marks_of-in_bulk}

module _ {X : Type 0} (key : X → ℕ) (stops : X → Bool) where
  abbrev Goes : X → Type 0
  Goes x = stops x ≡ false

  -- how far a carry has come, by the row that represents it after the column's last: `under` says which rows turn the next piece
  abbrev Is : (X → Bool) → CarryState X → X → Type 0
  Is under (comes x) t = (t ≡ x) × (under x ≡ false) × (stops x ≡ false)
  Is under (turns moved) t = goes_on stops under t ≡ true
  Is under (stopped moved y) t = (t ≡ y) × (stops y ≡ true)

  abbrev pub Are : (X → Bool) → List (CarryState X) → List X → Type 0
  Are under [] [] = Unit {0}
  Are under [] (t ∷ ts) = ⊥
  Are under (e ∷ es) [] = ⊥
  Are under (e ∷ es) (t ∷ ts) = Is under e t × Are under es ts

  and-left : (a b : Bool) → a && b ≡ true → a ≡ true
  and-left a b both = elim (cases_Bool a) [
    | inl is ↦ is
    | inr isnt ↦ absurd (true≢false (sym both ∙ rw isnt refl))
  ]

  goes-own : (own : X → Bool) (t : X) → goes_on stops own t ≡ true → own t ≡ true
  goes-own own t goes = and-left (own t) (not (stops t)) goes

  goes-on : (own : X → Bool) (t : X) → own t ≡ true → stops t ≡ false → goes_on stops own t ≡ true
  goes-on own t is goes = rw (is, goes) refl

  goes-past : (own : X → Bool) (t : X) → own t ≡ false → goes_on stops own t ≡ false
  goes-past own t isnt = rw isnt refl

  goes-ended : (own : X → Bool) (t : X) → stops t ≡ true → goes_on stops own t ≡ false
  goes-ended own t stop = elim (cases_Bool (own t)) [
    | inl is ↦ rw (is, stop) refl
    | inr isnt ↦ rw isnt refl
  ]

  goes-lasts : (own : X → Bool) (t : X) → goes_on stops own t ≡ true → stops t ≡ false
  goes-lasts own t goes = elim (cases_Bool (stops t)) [
    | inl stop ↦ absurd (true≢false (sym goes ∙ goes-ended own t stop))
    | inr lasts ↦ lasts
  ]

  filter-push : (p : X → Bool) (xs : List X) (x : X) → filter p (xs ++ x ∷ []) ≡ filter p xs ++ cond (p x) (x ∷ []) []
  filter-push p [] x = elim (cases_Bool (p x)) [
    | inl is ↦ rw is refl
    | inr isnt ↦ rw isnt refl
  ]
  filter-push p (y ∷ ys) x = elim (cases_Bool (p y)) [
    | inl is ↦ rw is (ap (λ zs. y ∷ zs) (filter-push p ys x))
    | inr isnt ↦ rw isnt (filter-push p ys x)
  ]

  filter-append : (p : X → Bool) (xs ys : List X) → filter p (xs ++ ys) ≡ filter p xs ++ filter p ys
  filter-append p [] ys = refl
  filter-append p (x ∷ xs) ys = elim (cases_Bool (p x)) [
    | inl is ↦ rw is (ap (λ zs. x ∷ zs) (filter-append p xs ys))
    | inr isnt ↦ rw isnt (filter-append p xs ys)
  ]

  -- one more of each
  Are-push : (own : X → Bool) (es : List (CarryState X)) (ts : List X) (e : CarryState X) (t : X) → Are own es ts → Is own e t → Are own (es ++ e ∷ []) (ts ++ t ∷ [])
  Are-push own [] [] e t are one = (one, tt)
  Are-push own [] (u ∷ us) e t are one = absurd are
  Are-push own (f ∷ fs) [] e t are one = absurd are
  Are-push own (f ∷ fs) (u ∷ us) e t are one = (are.0, Are-push own fs us e t are.1 one)

  -- another row that goes on is at the place of one that does
  Are-put : (own : X → Bool) (es : List (CarryState X)) (before after_event : List X) (q t : X) → goes_on stops own q ≡ true → goes_on stops own t ≡ true → Are own es (before ++ q ∷ after_event) → Are own es (before ++ t ∷ after_event)
  Are-put own [] [] after_event q t was is are = absurd are
  Are-put own [] (u ∷ us) after_event q t was is are = absurd are
  Are-put own (comes x ∷ es) [] after_event q t was is are =
      absurd (true≢false (sym (goes-own own q was) ∙ ap own are.0.0 ∙ are.0.1))
  Are-put own (turns moved ∷ es) [] after_event q t was is are = (is, are.1)
  Are-put own (stopped moved y ∷ es) [] after_event q t was is are =
      absurd (true≢false (sym are.0.1 ∙ ap stops (sym are.0.0) ∙ goes-lasts own q was))
  Are-put own (e ∷ es) (u ∷ us) after_event q t was is are = (are.0, Are-put own es us after_event q t was is are.1)

  -- the queue turned once, from the places that were passed
  record Turned (own : X → Bool) (t : X) (done queue : List X) (pre : List (CarryState X)) (moved : ℕ) : Type 0 where
    done_is : filter (goes_on stops own) (round stops own t done queue).done ≡ filter (goes_on stops own) done ++ t ∷ []
    queue_is : filter (goes_on stops own) (round stops own t done queue).queue ≡ after_turn key stops (filter (goes_on stops own) queue)
    event : onward key stops moved (filter (goes_on stops own) queue) ≡ turns (moved + (round stops own t done queue).made)
    are : (more : CarryState X) → (n : ℕ) → more ≡ turns n → Are own (pre ++ more ∷ []) ((round stops own t done queue).done ++ (round stops own t done queue).queue)

  turn : (own : X → Bool) (t : X) (done queue : List X) (pre : List (CarryState X)) (moved : ℕ) → own t ≡ true → stops t ≡ false → Are own pre (done ++ queue) → Turned own t done queue pre moved
  turn own t done [] pre moved is lasts are =
      let goes = goes-on own t is lasts in
      let none : moved + 0 ≡ moved = omega arith in
      record {
        done_is = filter-push (goes_on stops own) done t ∙ rw goes refl;
        queue_is = refl;
        event = ap turns (sym none);
        are = λ more n same.
            let shape : (done ++ t ∷ []) ++ [] ≡ done ++ t ∷ [] = append-nil (done ++ t ∷ []) in
            rw (same, shape) (Are-push own pre done (turns n) t (rw (append-nil done) at are) goes);
      }
  turn own t done (q ∷ qs) pre moved is lasts are =
      let goes = goes-on own t is lasts in
      elim (cases_Bool (goes_on stops own q)) [
        | inl on ↦
            let ends : stops q ≡ false = goes-lasts own q on in
            let one : moved + 1 ≡ suc moved = omega arith in
            record {
              done_is = rw on (filter-push (goes_on stops own) done t ∙ rw goes refl);
              queue_is = rw (on, ends) (filter-push (goes_on stops own) qs q ∙ rw on refl);
              event = rw (on, ends) (ap turns (sym one));
              are = λ more n same.
                  let put : Are own pre (done ++ t ∷ qs) = Are-put own pre done qs q t on goes are in
                  let shape : (done ++ t ∷ []) ++ (qs ++ q ∷ []) ≡ (done ++ t ∷ qs) ++ q ∷ [] =
                  append_assoc done (t ∷ []) (qs ++ q ∷ []) ∙ sym (append_assoc done (t ∷ qs) (q ∷ [])) in
                  rw (on, same, shape) (Are-push own pre (done ++ t ∷ qs) (turns n) q put on);
            }
        | inr off ↦
            let shape : done ++ q ∷ qs ≡ (done ++ q ∷ []) ++ qs = sym (append_assoc done (q ∷ []) qs) in
            let rest = turn own t (done ++ q ∷ []) qs pre moved is lasts (rw shape at are) in
            let same : filter (goes_on stops own) (done ++ q ∷ []) ≡ filter (goes_on stops own) done = filter-push (goes_on stops own) done q ∙ rw off (append-nil (filter (goes_on stops own) done)) in
            record {
              done_is = rw off (rest.done_is ∙ ap (λ zs. zs ++ t ∷ []) same);
              queue_is = rw off rest.queue_is;
              event = rw off rest.event;
              are = λ more n is_it. rw off (rest.are more n is_it);
            }
      ]

  -- a piece afterwards, and how far the carries have come
  record Leaves (under own : X → Bool) (es : List (CarryState X)) (ts front rows done queue : List X) (pre : List (CarryState X)) : Type 0 where
    flat : (front ++ filter (goes_on stops own) done) ++ (filter (goes_on stops under) ts ++ left_after key stops own es (rows ++ filter (goes_on stops own) queue)) ≡ (swept stops under own ts front rows done queue).piece ++ filter (goes_on stops own) (swept stops under own ts front rows done queue).tail
    are : Are own (pre ++ passed key stops own es (rows ++ filter (goes_on stops own) queue)) (swept stops under own ts front rows done queue).tail
    made : sum_by moved_of (passed key stops own es (rows ++ filter (goes_on stops own) queue)) ≡ sum_by moved_of es + (swept stops under own ts front rows done queue).made

  -- no place is finished as long as a row of the piece is left
  abbrev Begins : List X → List X → Type 0
  Begins rows done = (rows ≡ []) ⊎ (done ≡ [])

  ends : (under own : X → Bool) (front rows done queue : List X) (pre : List (CarryState X)) → Begins rows done → Are own pre (done ++ queue) → Leaves under own [] [] front rows done queue pre
  ends under own front rows done queue pre begins are =
      let g = goes_on stops own in
      record {
        flat = elim begins [
          | inl none ↦ rw none (rw (append-nil front, filter-append g done queue) (append_assoc front (filter g done) (filter g queue)))
          | inr none ↦ rw none (rw (append-nil front) (sym (append_assoc front rows (filter g queue))))
        ];
        are = rw (append-nil pre) are;
        made = omega arith;
      }

  pub by-step : (under own : X → Bool) (t : X) (ts front rows done queue : List X) → goes_on stops under t ≡ false → swept stops under own (t ∷ ts) front rows done queue ≡ swept stops under own ts front rows done (queue ++ t ∷ [])
  by-step under own t ts front [] done queue off = rw off refl
  by-step under own t ts front (y ∷ ys) done queue off = rw off refl

  -- a row that doesn't turn the piece is passed
  aside : (under own : X → Bool) (e f : CarryState X) (es : List (CarryState X)) (t : X) (ts front rows done queue : List X) (pre : List (CarryState X)) → goes_on stops under t ≡ false → left_after key stops own (e ∷ es) (rows ++ filter (goes_on stops own) queue) ≡ left_after key stops own es (rows ++ filter (goes_on stops own) (queue ++ t ∷ [])) → passed key stops own (e ∷ es) (rows ++ filter (goes_on stops own) queue) ≡ f ∷ passed key stops own es (rows ++ filter (goes_on stops own) (queue ++ t ∷ [])) → moved_of f ≡ moved_of e → Leaves under own es ts front rows done (queue ++ t ∷ []) (pre ++ f ∷ []) → Leaves under own (e ∷ es) (t ∷ ts) front rows done queue pre
  aside under own e f es t ts front rows done queue pre off lefts ons same rest =
      let step = by-step under own t ts front rows done queue off in
      let on : List (CarryState X) = passed key stops own es (rows ++ filter (goes_on stops own) (queue ++ t ∷ [])) in
      record {
        flat = rw (off, lefts, step) rest.flat;
        are = rw (ons, step) (rw (append_assoc pre (f ∷ []) on) at rest.are);
        made = rw (ons, step) (omega (arith, rest.made, same, sum_by-cons moved_of f on, sum_by-cons moved_of e es));
      }

  leaves : (under own : X → Bool) → ((x : X) → under x ≡ true → own x ≡ true) → (es : List (CarryState X)) (ts front rows done queue : List X) (pre : List (CarryState X)) → All (λ y. own y ≡ true) rows → Begins rows done → Are under es ts → Are own pre (done ++ queue) → Leaves under own es ts front rows done queue pre
  leaves under own sub [] [] front rows done queue pre mine begins are before = ends under own front rows done queue pre begins before
  leaves under own sub [] (t ∷ ts) front rows done queue pre mine begins are before = absurd are
  leaves under own sub (e ∷ es) [] front rows done queue pre mine begins are before = absurd are
  leaves under own sub (comes x ∷ es) (t ∷ ts) front rows done queue pre mine begins are before =
      let g = goes_on stops own in
      let off : goes_on stops under t ≡ false = goes-past under t (ap under are.0.0 ∙ are.0.1) in
      let lasts : stops t ≡ false = ap stops are.0.0 ∙ are.0.2 in
      elim (cases_Bool (own x)) [
        | inl is ↦
            let on : g t ≡ true = goes-on own t (ap own are.0.0 ∙ is) lasts in
            let before_on : Are own (pre ++ turns 0 ∷ []) (done ++ (queue ++ t ∷ [])) = rw (append_assoc done queue (t ∷ [])) at (Are-push own pre (done ++ queue) (turns 0) t before on) in
            let rest = leaves under own sub es ts front rows done (queue ++ t ∷ []) (pre ++ turns 0 ∷ []) mine begins are.1 before_on in
            let shape : (rows ++ filter g queue) ++ x ∷ [] ≡ rows ++ filter g (queue ++ t ∷ []) = append_assoc rows (filter g queue) (x ∷ []) ∙ rw (filter-push g queue t, on, are.0.0) refl in
            aside under own (comes x) (turns 0) es t ts front rows done queue pre off (rw (is, shape) refl) (rw (is, shape) refl) refl rest
        | inr beyond ↦
            let isnt : g t ≡ false = goes-past own t (ap own are.0.0 ∙ beyond) in
            let before_on : Are own (pre ++ comes x ∷ []) (done ++ (queue ++ t ∷ [])) = rw (append_assoc done queue (t ∷ [])) at (Are-push own pre (done ++ queue) (comes x) t before (are.0.0, beyond, are.0.2)) in
            let rest = leaves under own sub es ts front rows done (queue ++ t ∷ []) (pre ++ comes x ∷ []) mine begins are.1 before_on in
            let shape : rows ++ filter g queue ≡ rows ++ filter g (queue ++ t ∷ []) = rw (filter-push g queue t, isnt, append-nil (filter g queue)) refl in
            aside under own (comes x) (comes x) es t ts front rows done queue pre off (rw (beyond, ← shape) refl) (rw (beyond, ← shape) refl) refl rest
      ]
  leaves under own sub (stopped moved y ∷ es) (t ∷ ts) front rows done queue pre mine begins are before =
      let g = goes_on stops own in
      let stop : stops t ≡ true = ap stops are.0.0 ∙ are.0.1 in
      let off : goes_on stops under t ≡ false = goes-ended under t stop in
      let isnt : g t ≡ false = goes-ended own t stop in
      let before_on : Are own (pre ++ stopped moved y ∷ []) (done ++ (queue ++ t ∷ [])) = rw (append_assoc done queue (t ∷ [])) at (Are-push own pre (done ++ queue) (stopped moved y) t before are.0) in
      let rest = leaves under own sub es ts front rows done (queue ++ t ∷ []) (pre ++ stopped moved y ∷ []) mine begins are.1 before_on in
      let shape : rows ++ filter g queue ≡ rows ++ filter g (queue ++ t ∷ []) = rw (filter-push g queue t, isnt, append-nil (filter g queue)) refl in
      aside under own (stopped moved y) (stopped moved y) es t ts front rows done queue pre off (ap (left_after key stops own es) shape) (ap (λ zs. stopped moved y ∷ passed key stops own es zs) shape) refl rest
  leaves under own sub (turns moved ∷ es) (t ∷ ts) front [] done queue pre mine begins are before =
      let g = goes_on stops own in
      let is : own t ≡ true = sub t (goes-own under t are.0) in
      let lasts : stops t ≡ false = goes-lasts under t are.0 in
      let once = turn own t done queue pre moved is lasts before in
      let r : Round X = round stops own t done queue in
      let rest = leaves under own sub es ts front [] r.done r.queue (pre ++ turns (moved + r.made) ∷ []) mine (inl refl) are.1 (once.are (turns (moved + r.made)) (moved + r.made) refl) in
      let on : List (CarryState X) = passed key stops own es (filter g r.queue) in
      let shape : (front ++ filter g done) ++ t ∷ (filter (goes_on stops under) ts ++ left_after key stops own es (filter g r.queue)) ≡ (front ++ filter g r.done) ++ (filter (goes_on stops under) ts ++ left_after key stops own es (filter g r.queue)) =
      sym (append_assoc (front ++ filter g done) (t ∷ []) (filter (goes_on stops under) ts ++ left_after key stops own es (filter g r.queue))) ∙ ap (λ zs. zs ++ (filter (goes_on stops under) ts ++ left_after key stops own es (filter g r.queue))) (append_assoc front (filter g done) (t ∷ []) ∙ ap (λ zs. front ++ zs) (sym once.done_is)) in
      record {
        flat = rw (are.0, ← once.queue_is) (shape ∙ rest.flat);
        are = rw (are.0, once.event, ← once.queue_is) (rw (append_assoc pre (turns (moved + r.made) ∷ []) on) at rest.are);
        made = rw (are.0, once.event, ← once.queue_is) (omega (arith, rest.made, sum_by-cons moved_of (turns (moved + r.made)) on, sum_by-cons moved_of (turns moved) es));
      }
  leaves under own sub (turns moved ∷ es) (t ∷ ts) front (y ∷ ys) done queue pre mine begins are before =
      let g = goes_on stops own in
      let none : done ≡ [] = elim begins [
        | inl some ↦ absurd (omega (arith, ap length some))
        | inr empty ↦ empty
      ] in
      let owns = All-head (λ z. own z ≡ true) y ys mine in
      let others = All-tail (λ z. own z ≡ true) y ys mine in
      elim (cases_Bool (stops y)) [
        | inl stop ↦
            let off : g y ≡ false = goes-ended own y stop in
            let before_on : Are own (pre ++ stopped (suc moved) y ∷ []) (done ++ (queue ++ y ∷ [])) = rw (append_assoc done queue (y ∷ [])) at (Are-push own pre (done ++ queue) (stopped (suc moved) y) y before (refl, stop)) in
            let rest = leaves under own sub es ts (front ++ t ∷ []) ys done (queue ++ y ∷ []) (pre ++ stopped (suc moved) y ∷ []) others (inr none) are.1 before_on in
            let shape : ys ++ filter g queue ≡ ys ++ filter g (queue ++ y ∷ []) = rw (filter-push g queue y, off, append-nil (filter g queue)) refl in
            let on : List (CarryState X) = passed key stops own es (ys ++ filter g (queue ++ y ∷ [])) in
            let flat_on : ((front ++ filter g done) ++ t ∷ (filter (goes_on stops under) ts ++ left_after key stops own es (ys ++ filter g (queue ++ y ∷ [])))) ≡ ((front ++ t ∷ []) ++ filter g done) ++ (filter (goes_on stops under) ts ++ left_after key stops own es (ys ++ filter g (queue ++ y ∷ []))) = rw (none, append-nil front, append-nil (front ++ t ∷ [])) (sym (append_assoc front (t ∷ []) (filter (goes_on stops under) ts ++ left_after key stops own es (ys ++ filter g (queue ++ y ∷ []))))) in
            record {
              flat = rw (are.0, stop, shape) (flat_on ∙ rest.flat);
              are = rw (are.0, stop, shape) (rw (append_assoc pre (stopped (suc moved) y ∷ []) on) at rest.are);
              made = rw (are.0, stop, shape) (omega (arith, rest.made, sum_by-cons moved_of (stopped (suc moved) y) on, sum_by-cons moved_of (turns moved) es));
            }
        | inr lasts ↦
            let on_it : g y ≡ true = goes-on own y owns lasts in
            let before_on : Are own (pre ++ turns (suc moved) ∷ []) (done ++ (queue ++ y ∷ [])) = rw (append_assoc done queue (y ∷ [])) at (Are-push own pre (done ++ queue) (turns (suc moved)) y before on_it) in
            let rest = leaves under own sub es ts (front ++ t ∷ []) ys done (queue ++ y ∷ []) (pre ++ turns (suc moved) ∷ []) others (inr none) are.1 before_on in
            let shape : (ys ++ filter g queue) ++ y ∷ [] ≡ ys ++ filter g (queue ++ y ∷ []) = append_assoc ys (filter g queue) (y ∷ []) ∙ rw (filter-push g queue y, on_it) refl in
            let on : List (CarryState X) = passed key stops own es (ys ++ filter g (queue ++ y ∷ [])) in
            let flat_on : ((front ++ filter g done) ++ t ∷ (filter (goes_on stops under) ts ++ left_after key stops own es (ys ++ filter g (queue ++ y ∷ [])))) ≡ ((front ++ t ∷ []) ++ filter g done) ++ (filter (goes_on stops under) ts ++ left_after key stops own es (ys ++ filter g (queue ++ y ∷ []))) = rw (none, append-nil front, append-nil (front ++ t ∷ [])) (sym (append_assoc front (t ∷ []) (filter (goes_on stops under) ts ++ left_after key stops own es (ys ++ filter g (queue ++ y ∷ []))))) in
            record {
              flat = rw (are.0, lasts, shape) (flat_on ∙ rest.flat);
              are = rw (are.0, lasts, shape) (rw (append_assoc pre (turns (suc moved) ∷ []) on) at rest.are);
              made = rw (are.0, lasts, shape) (omega (arith, rest.made, sum_by-cons moved_of (turns (suc moved)) on, sum_by-cons moved_of (turns moved) es));
            }
      ]

  -- as many arrive at the next piece as go on from this one
  count-arriving : (own : X → Bool) (es : List (CarryState X)) (ts : List X) → Are own es ts → arriving es ≡ count_by (goes_on stops own) ts
  count-arriving own [] [] are = refl
  count-arriving own [] (t ∷ ts) are = absurd are
  count-arriving own (e ∷ es) [] are = absurd are
  count-arriving own (comes x ∷ es) (t ∷ ts) are =
      let off : goes_on stops own t ≡ false = goes-past own t (ap own are.0.0 ∙ are.0.1) in
      count-arriving own es ts are.1 ∙ sym (none own t ts off)
    where
      none : (own : X → Bool) (t : X) (ts : List X) → goes_on stops own t ≡ false → count_by (goes_on stops own) (t ∷ ts) ≡ count_by (goes_on stops own) ts
      none own t ts off = sum_by-cons (λ y. cond {A = ℕ} (goes_on stops own y) 1 0) t ts ∙ rw off (omega arith)
  count-arriving own (turns moved ∷ es) (t ∷ ts) are =
      let one : count_by (goes_on stops own) (t ∷ ts) ≡ suc (count_by (goes_on stops own) ts) = sum_by-cons (λ y. cond {A = ℕ} (goes_on stops own y) 1 0) t ts ∙ rw are.0 (omega arith) in
      omega (arith, one, count-arriving own es ts are.1)
  count-arriving own (stopped moved y ∷ es) (t ∷ ts) are =
      let off : goes_on stops own t ≡ false = goes-ended own t (ap stops are.0.0 ∙ are.0.1) in
      count-arriving own es ts are.1 ∙ sym (sum_by-cons (λ z. cond {A = ℕ} (goes_on stops own z) 1 0) t ts ∙ rw off (omega arith))

  -- all pieces afterwards, and the rows that came in
  pub record AreSwept (low : ℕ) (es : List (CarryState X)) (ts : List X) (pieces : Pieces X) : Type 0 where
    pub flat : filter (goes_on stops (is_lower key stops low)) ts ++ column_of (in_bulk key stops es pieces) ≡ (swept_up key stops low ts pieces).piece ++ filter (goes_on stops (any_row key stops)) (swept_up key stops low ts pieces).tail
    pub are : Are (any_row key stops) (bulk_outcomes key stops es pieces) (swept_up key stops low ts pieces).tail
    pub made : sum_by moved_of (bulk_outcomes key stops es pieces) ≡ sum_by moved_of es + (swept_up key stops low ts pieces).made
    pub marks : (place : ℕ) → marks_up key stops place es pieces ≡ swept_marks key stops place low ts pieces

  pub AreSwept-of : (low : ℕ) (es : List (CarryState X)) (ts : List X) (pieces : Pieces X) → AreDivided key low pieces → Are (is_lower key stops low) es ts → AreSwept low es ts pieces
  AreSwept-of low es ts (last rows) divided are =
      let own = any_row key stops in
      let one = leaves (is_lower key stops low) own (λ x under. refl) es ts [] rows [] [] [] (λ k d h. refl) (inr refl) are tt in
      let same = append-nil rows in
      record {
        flat = rw same at one.flat;
        are = rw same at one.are;
        made = rw same at one.made;
        marks = λ place. refl;
      }
  AreSwept-of low es ts (below rows bound pieces) divided are =
      let own = is_below key stops bound in
      let sub : (x : X) → is_lower key stops low x ≡ true → own x ≡ true = λ x under. lt-ltb (key x) bound.0 (omega (arith, ltb-true (key x) low under, divided.1)) in
      let one = leaves (is_lower key stops low) own sub es ts [] rows [] [] [] (λ k d h. lt-ltb (key _) bound.0 (divided.0 k d h).1) (inr refl) are tt in
      let same = append-nil rows in
      let here : Swept X = swept_by key stops low own ts rows in
      let on : List (CarryState X) = passed key stops own es rows in
      let are_on : Are own on here.tail = rw same at one.are in
      let flat_on : filter (goes_on stops (is_lower key stops low)) ts ++ left_after key stops own es rows ≡ here.piece ++ filter (goes_on stops own) here.tail = rw same at one.flat in
      let made_on : sum_by moved_of on ≡ sum_by moved_of es + here.made = rw same at one.made in
      let rest = AreSwept-of bound.0 on here.tail pieces divided.2 are_on in
      let above : Swept X = swept_up key stops bound.0 here.tail pieces in
      let higher : List X = column_of (in_bulk key stops on pieces) in
      record {
        flat = sym (append_assoc (filter (goes_on stops (is_lower key stops low)) ts) (left_after key stops own es rows) higher) ∙ ap (λ zs. zs ++ higher) flat_on ∙ append_assoc here.piece (filter (goes_on stops own) here.tail) higher ∙ ap (λ zs. here.piece ++ zs) rest.flat ∙ sym (append_assoc here.piece above.piece (filter (goes_on stops (any_row key stops)) above.tail));
        are = rest.are;
        made = omega (arith, rest.made, made_on);
        marks = λ place. rw (← (count-arriving own on here.tail are_on), rest.marks (place + length rows)) refl;
      }

  Are-coming : (xs : List X) → All Goes xs → Are (is_lower key stops 0) (map comes xs) xs
  Are-coming [] all = tt
  Are-coming (x ∷ xs) all = ((refl, le-ltb (key x) 0 (omega arith), All-head Goes x xs all), Are-coming xs (All-tail Goes x xs all))

  none-lower : (xs : List X) → filter (goes_on stops (is_lower key stops 0)) xs ≡ []
  none-lower [] = refl
  none-lower (x ∷ xs) =
      let off : goes_on stops (is_lower key stops 0) x ≡ false = goes-past (is_lower key stops 0) x (le-ltb (key x) 0 (omega arith)) in
      rw off (none-lower xs)

  -- at the end each carry has reached its piece, and if it has ended with a row in hand, that row represents it
  all_come : (es : List (CarryState X)) (ts : List X) → Are (any_row key stops) es ts → All HasCome es × (hands_of es ≡ filter stops ts)
  all_come [] [] are = (All-nil HasCome, refl)
  all_come [] (t ∷ ts) are = absurd are
  all_come (e ∷ es) [] are = absurd are
  all_come (comes x ∷ es) (t ∷ ts) are = absurd (true≢false are.0.1)
  all_come (turns moved ∷ es) (t ∷ ts) are =
      let rest = all_come es ts are.1 in
      let lasts = goes-lasts (any_row key stops) t are.0 in
      (All-cons HasCome (turns moved) es tt rest.0, rw lasts rest.1)
  all_come (stopped moved y ∷ es) (t ∷ ts) are =
      let rest = all_come es ts are.1 in
      let stop : stops t ≡ true = ap stops are.0.0 ∙ are.0.1 in
      (All-cons HasCome (stopped moved y) es tt rest.0, rw (stop, are.0.0) (ap (λ zs. y ∷ zs) rest.1))

  none-moved : (xs : List X) → sum_by moved_of (map comes xs) ≡ 0
  none-moved [] = refl
  none-moved (x ∷ xs) = omega (arith, none-moved xs, sum_by-cons moved_of (comes x) (map comes xs))

  none-arrive : (xs : List X) → arriving (map comes xs) ≡ 0
  none-arrive [] = refl
  none-arrive (x ∷ xs) = none-arrive xs

  -- all pieces after rows come in, and how their carries end
  pub record AllSwept (xs : List X) (pieces : Pieces X) : Type 0 where
    pub column_is : column_of (in_bulk key stops (map comes xs) pieces) ≡ (swept_up key stops 0 xs pieces).piece ++ filter (goes_on stops (any_row key stops)) (swept_up key stops 0 xs pieces).tail
    pub marks_are : marks_of 0 (in_bulk key stops (map comes xs) pieces) ≡ swept_marks key stops 0 0 xs pieces
    pub made : sum_by moved_of (bulk_outcomes key stops (map comes xs) pieces) ≡ (swept_up key stops 0 xs pieces).made
    pub come : All HasCome (bulk_outcomes key stops (map comes xs) pieces)
    pub hands : hands_of (bulk_outcomes key stops (map comes xs) pieces) ≡ filter stops (swept_up key stops 0 xs pieces).tail

  pub AllSwept-coming : (xs : List X) (pieces : Pieces X) → AreDivided key 0 pieces → All Goes xs → AllSwept xs pieces
  AllSwept-coming xs pieces divided coming =
      let es : List (CarryState X) = map comes xs in
      let all = AreSwept-of 0 es xs pieces divided (Are-coming xs coming) in
      let end = all_come (bulk_outcomes key stops es pieces) (swept_up key stops 0 xs pieces).tail all.are in
      let first : 0 + arriving es ≡ 0 = omega (arith, none-arrive xs) in
      record {
        column_is = rw (none-lower xs) at all.flat;
        marks_are = (rw first at (marks_of-in_bulk key stops 0 es pieces)) ∙ all.marks 0;
        made = omega (arith, all.made, none-moved xs);
        come = end.0;
        hands = end.1;
      }

  -- if none turns the piece, nothing changes
  swept-off : (under own : X → Bool) (ts front rows done queue : List X) → count_by (goes_on stops under) ts ≡ 0 → swept stops under own ts front rows done queue ≡ record { piece = front ++ rows; tail = done ++ (queue ++ ts); made = 0 }
  swept-off under own [] front rows done queue none = rw (append-nil queue) refl
  swept-off under own (t ∷ ts) front rows done queue none =
      let all = sum_by-cons (λ y. cond {A = ℕ} (goes_on stops under y) 1 0) t ts in
      let off : goes_on stops under t ≡ false = elim (cases_Bool (goes_on stops under t)) [
        | inl on ↦
            let one : count_by (goes_on stops under) (t ∷ ts) ≡ suc (count_by (goes_on stops under) ts) = all ∙ rw on (omega arith) in
            absurd (omega (arith, none, one))
        | inr isnt ↦ isnt
      ] in
      let rest = swept-off under own ts front rows done (queue ++ t ∷ []) (omega (arith, none, all)) in
      by-step under own t ts front rows done queue off ∙ rest ∙ rw (append_assoc queue (t ∷ []) ts) refl

  pub swept_by-off : (low : ℕ) (own : X → Bool) (ts rows : List X) → count_by (goes_on stops (is_lower key stops low)) ts ≡ 0 → swept_by key stops low own ts rows ≡ record { piece = rows; tail = ts; made = 0 }
  swept_by-off low own ts rows none = swept-off (is_lower key stops low) own ts [] rows [] [] none

  -- no row is lost, and none occurs twice
  module _ (weight : X → ℕ) where
    abbrev sum : List X → ℕ
    sum xs = sum_by weight xs

    push : (xs : List X) (x : X) → sum (xs ++ x ∷ []) ≡ sum xs + weight x
    push xs x = sum_by_push weight xs x

    weigh-round : (own : X → Bool) (t : X) (done queue : List X) → sum (round stops own t done queue).done + sum (round stops own t done queue).queue ≡ sum done + sum queue + weight t
    weigh-round own t done [] = omega (arith, push done t)
    weigh-round own t done (q ∷ qs) = elim (cases_Bool (goes_on stops own q)) [
      | inl on ↦ rw on (omega (arith, push done t, push qs q, sum_by-cons weight q qs))
      | inr off ↦ rw off (omega (arith, weigh-round own t (done ++ q ∷ []) qs, push done q, sum_by-cons weight q qs))
    ]

    weigh : (under own : X → Bool) (ts front rows done queue : List X) → sum (swept stops under own ts front rows done queue).piece + sum (swept stops under own ts front rows done queue).tail ≡ sum front + sum rows + sum done + sum queue + sum ts
    weigh under own [] front rows done queue = omega (arith, sum_by-append weight front rows, sum_by-append weight done queue)
    weigh under own (t ∷ ts) front [] done queue = elim (cases_Bool (goes_on stops under t)) [
      | inl on ↦
          let r : Round X = round stops own t done queue in
          rw on (omega (arith, weigh under own ts front [] r.done r.queue, weigh-round own t done queue, sum_by-cons weight t ts))
      | inr off ↦ rw off (omega (arith, weigh under own ts front [] done (queue ++ t ∷ []), push queue t, sum_by-cons weight t ts))
    ]
    weigh under own (t ∷ ts) front (y ∷ ys) done queue = elim (cases_Bool (goes_on stops under t)) [
      | inl on ↦ rw on (omega (arith, weigh under own ts (front ++ t ∷ []) ys done (queue ++ y ∷ []), push front t, push queue y, sum_by-cons weight t ts, sum_by-cons weight y ys))
      | inr off ↦ rw off (omega (arith, weigh under own ts front (y ∷ ys) done (queue ++ t ∷ []), push queue t, sum_by-cons weight t ts))
    ]

    pub weigh_up : (low : ℕ) (ts : List X) (pieces : Pieces X) → sum (swept_up key stops low ts pieces).piece + sum (swept_up key stops low ts pieces).tail ≡ sum (column_of pieces) + sum ts
    weigh_up low ts (last rows) = omega (arith, weigh (is_lower key stops low) (any_lower key stops) ts [] rows [] [])
    weigh_up low ts (below rows bound pieces) =
        let here : Swept X = swept_by key stops low (is_lower key stops bound.0) ts rows in
        let above : Swept X = swept_up key stops bound.0 here.tail pieces in
        omega (arith, weigh (is_lower key stops low) (is_lower key stops bound.0) ts [] rows [] [], weigh_up bound.0 here.tail pieces, sum_by-append weight here.piece above.piece, sum_by-append weight rows (column_of pieces))

  -- as many rows are in the piece and after it as before
  length-swept : (under own : X → Bool) (ts front rows done queue : List X) → (length (swept stops under own ts front rows done queue).piece ≡ length front + length rows) × (length (swept stops under own ts front rows done queue).tail ≡ length done + length queue + length ts)
  length-swept under own [] front rows done queue = (length-append front rows, omega (arith, length-append done queue))
  length-swept under own (t ∷ ts) front [] done queue = elim (cases_Bool (goes_on stops under t)) [
    | inl on ↦
        let r : Round X = round stops own t done queue in
        let rest = length-swept under own ts front [] r.done r.queue in
        rw on (rest.0, omega (arith, rest.1, length-round own t done queue))
    | inr off ↦
        let rest = length-swept under own ts front [] done (queue ++ t ∷ []) in
        rw off (rest.0, omega (arith, rest.1, length_push queue t))
  ]
    where
      length-round : (own : X → Bool) (t : X) (done queue : List X) → length (round stops own t done queue).done + length (round stops own t done queue).queue ≡ length done + length queue + 1
      length-round own t done [] = omega (arith, length_push done t)
      length-round own t done (q ∷ qs) = elim (cases_Bool (goes_on stops own q)) [
        | inl on ↦ rw on (omega (arith, length_push done t, length_push qs q))
        | inr off ↦ rw off (omega (arith, length-round own t (done ++ q ∷ []) qs, length_push done q))
      ]
  length-swept under own (t ∷ ts) front (y ∷ ys) done queue = elim (cases_Bool (goes_on stops under t)) [
    | inl on ↦
        let rest = length-swept under own ts (front ++ t ∷ []) ys done (queue ++ y ∷ []) in
        rw on (omega (arith, rest.0, length_push front t), omega (arith, rest.1, length_push queue y))
    | inr off ↦
        let rest = length-swept under own ts front (y ∷ ys) done (queue ++ t ∷ []) in
        rw off (rest.0, omega (arith, rest.1, length_push queue t))
  ]

  pub length-swept_by : (low : ℕ) (own : X → Bool) (ts rows : List X) → (length (swept_by key stops low own ts rows).piece ≡ length rows) × (length (swept_by key stops low own ts rows).tail ≡ length ts)
  length-swept_by low own ts rows =
      let all = length-swept (is_lower key stops low) own ts [] rows [] [] in
      (omega (arith, all.0), omega (arith, all.1))

  pub length-swept_up : (low : ℕ) (ts : List X) (pieces : Pieces X) → length (swept_up key stops low ts pieces).tail ≡ length ts
  length-swept_up low ts (last rows) = (length-swept_by low (any_lower key stops) ts rows).1
  length-swept_up low ts (below rows bound pieces) =
      let here : Swept X = swept_by key stops low (is_lower key stops bound.0) ts rows in
      length-swept_up bound.0 here.tail pieces ∙ (length-swept_by low (is_lower key stops bound.0) ts rows).1

  -- of the rows that turn a piece as many go on as it has fewer rows
  module _ (under own : X → Bool) (sub : (x : X) → under x ≡ true → own x ≡ true) where
    abbrev going : X → ℕ
    going x = cond {A = ℕ} (goes_on stops own x) 1 0

    going-one : (t : X) → goes_on stops under t ≡ true → going t ≡ 1
    going-one t on = rw (goes-on own t (sub t (goes-own under t on)) (goes-lasts under t on)) refl

    few-turn : (ts front rows done queue : List X) → count_by (goes_on stops under) ts + (count_by (goes_on stops own) done + count_by (goes_on stops own) queue) ≤ length rows + count_by (goes_on stops own) (swept stops under own ts front rows done queue).tail
    few-turn [] front rows done queue = omega (arith, sum_by-append going done queue)
    few-turn (t ∷ ts) front [] done queue =
        let all = sum_by-cons (λ y. cond {A = ℕ} (goes_on stops under y) 1 0) t ts in
        elim (cases_Bool (goes_on stops under t)) [
          | inl on ↦
              let r : Round X = round stops own t done queue in
              let one : count_by (goes_on stops under) (t ∷ ts) ≡ suc (count_by (goes_on stops under) ts) = all ∙ rw on (omega arith) in
              let tail_is : (swept stops under own (t ∷ ts) front [] done queue).tail ≡ (swept stops under own ts front [] r.done r.queue).tail = rw on refl in
              omega (arith, few-turn ts front [] r.done r.queue, weigh-round going own t done queue, one, going-one t on, ap (count_by (goes_on stops own)) tail_is)
          | inr off ↦
              let none : count_by (goes_on stops under) (t ∷ ts) ≡ count_by (goes_on stops under) ts = all ∙ rw off (omega arith) in
              let tail_is : (swept stops under own (t ∷ ts) front [] done queue).tail ≡ (swept stops under own ts front [] done (queue ++ t ∷ [])).tail = rw off refl in
              omega (arith, few-turn ts front [] done (queue ++ t ∷ []), sum_by_push going queue t, none, ap (count_by (goes_on stops own)) tail_is)
        ]
    few-turn (t ∷ ts) front (y ∷ ys) done queue =
        let all = sum_by-cons (λ y. cond {A = ℕ} (goes_on stops under y) 1 0) t ts in
        elim (cases_Bool (goes_on stops under t)) [
          | inl on ↦
              let one : count_by (goes_on stops under) (t ∷ ts) ≡ suc (count_by (goes_on stops under) ts) = all ∙ rw on (omega arith) in
              let tail_is : (swept stops under own (t ∷ ts) front (y ∷ ys) done queue).tail ≡ (swept stops under own ts (front ++ t ∷ []) ys done (queue ++ y ∷ [])).tail = rw on refl in
              omega (arith, few-turn ts (front ++ t ∷ []) ys done (queue ++ y ∷ []), sum_by_push going queue y, one, ap (count_by (goes_on stops own)) tail_is)
          | inr off ↦
              let none : count_by (goes_on stops under) (t ∷ ts) ≡ count_by (goes_on stops under) ts = all ∙ rw off (omega arith) in
              let tail_is : (swept stops under own (t ∷ ts) front (y ∷ ys) done queue).tail ≡ (swept stops under own ts front (y ∷ ys) done (queue ++ t ∷ [])).tail = rw off refl in
              omega (arith, few-turn ts front (y ∷ ys) done (queue ++ t ∷ []), sum_by_push going queue t, none, ap (count_by (goes_on stops own)) tail_is)
        ]

  pub few-turn_by : (low : ℕ) (bound : InnerBound) (ts rows : List X) → low ≤ bound.0 → count_by (goes_on stops (is_lower key stops low)) ts ≤ length rows + count_by (goes_on stops (is_lower key stops bound.0)) (swept_by key stops low (is_lower key stops bound.0) ts rows).tail
  few-turn_by low bound ts rows order =
      let all = few-turn (is_lower key stops low) (is_lower key stops bound.0) (λ x under. lt-ltb (key x) bound.0 (omega (arith, ltb-true (key x) low under, order))) ts [] rows [] [] in
      omega (arith, all)

  -- and a property of each row still holds
  module _ (P : X → Type 0) where
    All-round : (own : X → Bool) (t : X) (done queue : List X) → P t → All P done → All P queue → All P (round stops own t done queue).done × All P (round stops own t done queue).queue
    All-round own t done [] one all rest = (All-push P done t all one, All-nil P)
    All-round own t done (q ∷ qs) one all rest = elim (cases_Bool (goes_on stops own q)) [
      | inl on ↦ rw on (All-push P done t all one, All-push P qs q (All-tail P q qs rest) (All-head P q qs rest))
      | inr off ↦ rw off (All-round own t (done ++ q ∷ []) qs one (All-push P done q all (All-head P q qs rest)) (All-tail P q qs rest))
    ]

    All-swept : (under own : X → Bool) (ts front rows done queue : List X) → All P ts → All P front → All P rows → All P done → All P queue → All P (swept stops under own ts front rows done queue).piece × All P (swept stops under own ts front rows done queue).tail
    All-swept under own [] front rows done queue all first second third fourth = (All-append P front rows first second, All-append P done queue third fourth)
    All-swept under own (t ∷ ts) front [] done queue all first second third fourth = elim (cases_Bool (goes_on stops under t)) [
      | inl on ↦
          let r = All-round own t done queue (All-head P t ts all) third fourth in
          rw on (All-swept under own ts front [] (round stops own t done queue).done (round stops own t done queue).queue (All-tail P t ts all) first second r.0 r.1)
      | inr off ↦ rw off (All-swept under own ts front [] done (queue ++ t ∷ []) (All-tail P t ts all) first second third (All-push P queue t fourth (All-head P t ts all)))
    ]
    All-swept under own (t ∷ ts) front (y ∷ ys) done queue all first second third fourth = elim (cases_Bool (goes_on stops under t)) [
      | inl on ↦ rw on (All-swept under own ts (front ++ t ∷ []) ys done (queue ++ y ∷ []) (All-tail P t ts all) (All-push P front t first (All-head P t ts all)) (All-tail P y ys second) third (All-push P queue y fourth (All-head P y ys second)))
      | inr off ↦ rw off (All-swept under own ts front (y ∷ ys) done (queue ++ t ∷ []) (All-tail P t ts all) first second third (All-push P queue t fourth (All-head P t ts all)))
    ]

    pub All-swept_up : (low : ℕ) (ts : List X) (pieces : Pieces X) → All P ts → All P (column_of pieces) → All P (swept_up key stops low ts pieces).piece × All P (swept_up key stops low ts pieces).tail
    All-swept_up low ts (last rows) all each = All-swept (is_lower key stops low) (any_lower key stops) ts [] rows [] [] all (All-nil P) each (All-nil P) (All-nil P)
    All-swept_up low ts (below rows bound pieces) all each =
        let here = All-swept (is_lower key stops low) (is_lower key stops bound.0) ts [] rows [] [] all (All-nil P) (All-left P rows (column_of pieces) each) (All-nil P) (All-nil P) in
        let above = All-swept_up bound.0 (swept_by key stops low (is_lower key stops bound.0) ts rows).tail pieces here.1 (All-right P rows (column_of pieces) each) in
        (All-append P (swept_by key stops low (is_lower key stops bound.0) ts rows).piece (swept_up key stops bound.0 (swept_by key stops low (is_lower key stops bound.0) ts rows).tail pieces).piece here.0 above.0, above.1)
