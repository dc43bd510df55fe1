-- All pulls of a range in bulk are one pull after the other: a relation that each of them extends holds after all of them.
use Rattle.std.proofs.Common.{◌≡◌, ℕ, suc, ◌+◌, ◌<◌, ◌≤◌, Bool, true, false, ltb, min, List, [], ◌∷◌, ◌++◌, length, get_or, Some, None, refl, sym, ap, ◌∙◌, inl, inr, arith}
use Rattle.std.specs.List.{All, remove}
use Rattle.std.proofs.Math.Nat.{min-eq_left}
use Rattle.std.proofs.lemmas.List.{append_assoc, length-append, length-map, length_push, get_or_at}
use Rattle.std.proofs.lemmas.List.Elements.{All-head, All-tail, All-nil, All-filter}
use Rattle.crack_row.specs.Ranges.{Range, IsIn, is_in}
use Rattle.crack_arena.specs.Arena.{Handle, StandsAt, no_handle, times, slots, place_in}
use Rattle.crack_arena.specs.Rows.{key_at, keys_at}
use Rattle.crack_column.specs.Drains.{drained_once, drained, drawn_once, drawn}
use Rattle.crack_pending.specs.Pending.{Finds}
use Rattle.crack_pending.proofs.Searches.{is_in-true, is_in-false, StandsAt-get_or}
use Rattle.crack_state.specs.State.{State, IsIntact, live_rows, greatest}
use Rattle.crack_state.specs.Steps.{lifted_last}
use Rattle.crack_state.specs.Merge.{outside_of}
use Rattle.crack_state.proofs.CellLaws.{AgreeOff-set, key_at-off}
use Rattle.crack_state.proofs.DrawLaws.{place_in-doomed, column_some}
use Rattle.crack_state.proofs.OwnedLaws.{apart_from_times, times-places, times-taken, once-most}
use Rattle.crack_arena.proofs.Times.{times-nil, times-append, times_head}
use Rattle.crack_state.proofs.PullLaws.{IsIntact-lifted_last}
use Rattle.crack_state.specs.Pieces.{Pieces, last, below}
use Rattle.crack_state.specs.Carried.{pieces_of, inside_of}
use Rattle.crack_state.specs.Pulled.{any_doomed, ends_above, pulled, all_drawn, itself, pulled_from, pulled_in_bulk}
use Rattle.crack_state.proofs.AllCarriedLaws.{All-right, remove_at, inside_or, keys_same, IsOutside, NoneFrom, found_next, found_none, none_on}
use Rattle.crack_state.proofs.CutLaws.{cut-joined, IsCut-intact}
use Rattle.crack_state.proofs.Draws.{Draws}
use Rattle.crack_state.proofs.DoomedPullLaws.{IsIntact-Draws, live_rows-Draws, Draws-at}
use Rattle.crack_state.proofs.SiftedLaws.{min_and}

-- One pull, and then the others

module _ (key : Handle → ℕ) where
  pub pulled-cons : (low : ℕ) (d : Handle) (ds : List Handle) (pieces : Pieces Handle) → pulled key itself low ds (pulled key itself low (d ∷ []) pieces) ≡ pulled key itself low (d ∷ ds) pieces
  pulled-cons low d ds (last rows) = refl
  pulled-cons low d ds (below rows bound pieces) = ap (below (drained key itself low (ends_above key itself bound) (d ∷ ds) rows) bound) (pulled-cons bound.0 d ds pieces)

  pub drawn-cons : (low : ℕ) (d : Handle) (ds : List Handle) (pieces : Pieces Handle) → all_drawn key itself low (d ∷ []) pieces + all_drawn key itself low ds (pulled key itself low (d ∷ []) pieces) ≡ all_drawn key itself low (d ∷ ds) pieces
  drawn-cons low d ds (last rows) = omega arith
  drawn-cons low d ds (below rows bound pieces) = omega (arith, drawn-cons bound.0 d ds pieces)

  pub pulled-none : (low : ℕ) (pieces : Pieces Handle) → pulled key itself low [] pieces ≡ pieces
  pulled-none low (last rows) = refl
  pulled-none low (below rows bound pieces) = ap (below rows bound) (pulled-none bound.0 pieces)

  pub drawn-none : (low : ℕ) (pieces : Pieces Handle) → all_drawn key itself low [] pieces ≡ 0
  drawn-none low (last rows) = refl
  drawn-none low (below rows bound pieces) = omega (arith, drawn-none bound.0 pieces)

-- keys that agree on the doomed rows have the same result
module _ (key key' : Handle → ℕ) where
  abbrev pub Same : Handle → Type 0
  Same h = key h ≡ key' h

  drained-agree : (low : ℕ) (own own' : Handle → Bool) (ds : List Handle) (rows : List Handle) → All Same ds → ((h : Handle) → Same h → own h ≡ own' h) → (drained key itself low own ds rows ≡ drained key' itself low own' ds rows) × (drawn key itself low own ds rows ≡ drawn key' itself low own' ds rows)
  drained-agree low own own' [] rows same owns = (refl, refl)
  drained-agree low own own' (d ∷ ds) rows same owns =
      let first = All-head Same d ds same in
      let here = owns d first in
      let left : List Handle = drained_once key' itself low own' d rows in
      let once : drained_once key itself low own d rows ≡ left = rw (first, here) refl in
      let count : drawn_once key itself low own d rows ≡ drawn_once key' itself low own' d rows = rw (first, here) refl in
      let rest = drained-agree low own own' ds left (All-tail Same d ds same) owns in
      (ap (drained key itself low own ds) once ∙ rest.0, rw (count, once) (ap (λ n. drawn_once key' itself low own' d rows + n) rest.1))

  pub pulled-agree : (low : ℕ) (ds : List Handle) (pieces : Pieces Handle) → All Same ds → (pulled key itself low ds pieces ≡ pulled key' itself low ds pieces) × (all_drawn key itself low ds pieces ≡ all_drawn key' itself low ds pieces)
  pulled-agree low ds (last rows) same =
      let here = drained-agree low (any_doomed key itself) (any_doomed key' itself) ds rows same (λ h one. refl) in
      (ap last here.0, here.1)
  pulled-agree low ds (below rows bound pieces) same =
      let here = drained-agree low (ends_above key itself bound) (ends_above key' itself bound) ds rows same (λ h one. ap (λ n. ltb n bound.0) one) in
      let rest = pulled-agree bound.0 ds pieces same in
      (rw (here.0, rest.0) refl, rw (here.1, rest.1) refl)

pub pulled_from-first : (d : Handle) (ds : List Handle) (s : State) → All (λ h. key_at (pulled_from (d ∷ []) s).cells h ≡ key_at s.cells h) ds → pulled_from ds (pulled_from (d ∷ []) s) ≡ pulled_from (d ∷ ds) s
pulled_from-first d ds s same =
    let key = key_at s.cells in
    let t = pulled_from (d ∷ []) s in
    let P = pieces_of s in
    let P1 = pulled key itself 0 (d ∷ []) P in
    let cut : pieces_of t ≡ P1 = cut-joined 0 P1 in
    let agree = pulled-agree (key_at t.cells) key 0 ds (pieces_of t) same in
    let pieces : pulled (key_at t.cells) itself 0 ds (pieces_of t) ≡ pulled key itself 0 (d ∷ ds) P = agree.0 ∙ ap (pulled key itself 0 ds) cut ∙ pulled-cons key 0 d ds P in
    let counts : all_drawn (key_at t.cells) itself 0 ds (pieces_of t) ≡ all_drawn key itself 0 ds P1 = agree.1 ∙ ap (all_drawn key itself 0 ds) cut in
    let n1 : ℕ = all_drawn key itself 0 (d ∷ []) P in
    let n2 : ℕ = all_drawn key itself 0 ds P1 in
    let both : min (min (s.tally.pulled + n1) greatest + n2) greatest ≡ min (s.tally.pulled + all_drawn key itself 0 (d ∷ ds) P) greatest =
    min_and s.tally.pulled n1 n2 ∙ ap (λ n. min (s.tally.pulled + n) greatest) (drawn-cons key 0 d ds P) in
    let room : (s.column_room + 1) + length ds ≡ s.column_room + suc (length ds) = omega arith in
    rw (pieces, counts) (rw (both, room) refl)

pub pulled_from-none : (s : State) → IsIntact s [] → pulled_from [] s ≡ s
pulled_from-none s intact =
    let key = key_at s.cells in
    let cuts = IsCut-intact s [] intact in
    let none : min (s.tally.pulled + 0) greatest ≡ s.tally.pulled = min-eq_left (omega (arith, intact.counted.pulled)) ∙ omega arith in
    let room : s.column_room + 0 ≡ s.column_room = omega arith in
    rw (pulled-none key 0 (pieces_of s), drawn-none key 0 (pieces_of s), ← cuts.column, ← cuts.marks, none, room) refl

-- a relation that the pull of one pending deletion extends, from the place where the search went on: the search finds it, the column's last row is
-- lifted, and it is pulled
abbrev pub DrawsOn : Range → (ℕ → State → Type 0) → Type 0
DrawsOn r On = (from place : ℕ) (t v : State) → On from t → IsIntact t [] → Finds r (keys_at t.cells t.pending_out) from (Some place) → Draws (get_or t.pending_out place no_handle) (lifted_last t) v → On place v

-- if all are pulled, the search finds none from the last place on, and those outside the range are left
pub record ArePulled (r : Range) (On : ℕ → State → Type 0) (left : List Handle) (t : State) : Type 0 where
  pub from : ℕ
  pub on : On from t
  pub intact : IsIntact t []
  pub none : Finds r (keys_at t.cells t.pending_out) from None
  pub left_are : t.pending_out ≡ left

module _ (r : Range) (On : ℕ → State → Type 0) (onward : DrawsOn r On) where
  -- one pull of the first of them
  pub record Step (t : State) (passed : List Handle) (h : Handle) (todo : List Handle) : Type 0 where
    pub intact : IsIntact (pulled_from (h ∷ []) t) []
    pub pending : (pulled_from (h ∷ []) t).pending_out ≡ passed ++ todo
    pub draws : On (length passed) (pulled_from (h ∷ []) t)
    pub same : All (λ g. key_at (pulled_from (h ∷ []) t).cells g ≡ key_at t.cells g) (passed ++ todo)

  pub step : (h : Handle) (todo : List Handle) (t : State) (from : ℕ) (passed : List Handle) → IsIntact t [] → t.pending_out ≡ passed ++ h ∷ todo → from ≤ length passed → NoneFrom r (key_at t.cells) from passed → On from t → IsIn r (key_at t.cells h) → Step t passed h todo
  step h todo t from passed intact pending order none before inside =
      let place : ℕ = length passed in
      let within : place < length t.pending_out = rw pending (omega (arith, length-append passed (h ∷ todo))) in
      let is : get_or t.pending_out place no_handle ≡ h = rw pending (get_or_at passed h todo no_handle place refl) in
      let led : Draws h (lifted_last t) (pulled_from (h ∷ []) t) = rw is at (Draws-at place t within intact) in
      let stands : StandsAt t.pending_out place h = rw is at (StandsAt-get_or t.pending_out place no_handle within) in
      let found : Finds r (keys_at t.cells t.pending_out) from (Some place) = rw pending (found_next r (key_at t.cells) passed todo h from order none inside) in
      let at : place_in t.pending_out h.slot ≡ place = place_in-doomed t [] place h intact stands in
      let lifted = IsIntact-lifted_last t (column_some t (omega (arith, within)) intact) intact in
      let removed : remove t.pending_out place ≡ passed ++ todo = ap (λ hs. remove hs place) pending ∙ remove_at passed h todo in
      let owned = intact.owned in
      let once : times h.slot (slots t.pending_out) ≤ 1 = omega (arith, owned.doomed_once h.slot, times-append h.slot (slots t.column) [], times-nil h.slot, times-places h.slot t.column t.pending_in t.free [], once-most t.cells t.free t.column t.pending_in t.pending_out [] h.slot owned) in
      let taken = times-taken h.slot t.pending_out place h within stands.is in
      let others : times h.slot (slots (passed ++ todo)) ≡ 0 = rw (← removed) (omega (arith, taken, once, times_head h.slot [])) in
      let left : remove t.pending_out (place_in t.pending_out h.slot) ≡ passed ++ todo = ap (remove t.pending_out) at ∙ removed in
      record {
        intact = IsIntact-Draws place h (lifted_last t) (pulled_from (h ∷ []) t) stands lifted led;
        pending = left;
        draws = onward from place t (pulled_from (h ∷ []) t) before intact found (rw is led);
        same = λ k e l.
            let g : Handle = get_or (passed ++ todo) k e in
            key_at-off h.slot t.cells (pulled_from (h ∷ []) t).cells g (AgreeOff-set t.cells h.slot (record { generation = h.generation + 1; value = None })) (apart_from_times (passed ++ todo) h.slot others k e l);
      }

  -- those still to be looked at are after those that were passed by
  pulls_on : (todo : List Handle) (t : State) (from : ℕ) (passed : List Handle) → IsIntact t [] → t.pending_out ≡ passed ++ todo → from ≤ length passed → NoneFrom r (key_at t.cells) from passed → On from t → ArePulled r On (passed ++ outside_of t.cells r todo) (pulled_from (inside_of t.cells r todo) t)
  pulls_on [] t from passed intact pending order none before =
      rw (pulled_from-none t intact) (record {
        from = from;
        on = before;
        intact = intact;
        none = rw pending (found_none r (key_at t.cells) passed [] from none (All-nil (IsOutside r (key_at t.cells))));
        left_are = pending;
      })
  pulls_on (h ∷ todo) t from passed intact pending order none before = elim (inside_or r (key_at t.cells h)) [
    | inl inside ↦
        let is : is_in r (key_at t.cells h) ≡ true = is_in-true r (key_at t.cells h) inside in
        let one = step h todo t from passed intact pending order none before inside in
        let v = pulled_from (h ∷ []) t in
        let same_todo : All (λ g. key_at v.cells g ≡ key_at t.cells g) todo = All-right (λ g. key_at v.cells g ≡ key_at t.cells g) passed todo one.same in
        let kept = keys_same r t.cells v.cells todo same_todo in
        let same_in : All (λ g. key_at v.cells g ≡ key_at t.cells g) (inside_of t.cells r todo) = All-filter (λ g. is_in r (key_at t.cells g)) (λ g. key_at v.cells g ≡ key_at t.cells g) todo same_todo in
        let all = pulls_on todo v (length passed) passed one.intact one.pending (omega arith) (λ k d f l. absurd (omega (arith, f, l))) one.draws in
        rw is (rw (kept.0, kept.1, pulled_from-first h (inside_of t.cells r todo) t same_in) at all)
    | inr beyond ↦
        let not_in : is_in r (key_at t.cells h) ≡ false = is_in-false r (key_at t.cells h) beyond in
        let assoc : (hs : List Handle) → (passed ++ h ∷ []) ++ hs ≡ passed ++ h ∷ hs = λ hs. append_assoc passed (h ∷ []) hs in
        let all = pulls_on todo t from (passed ++ h ∷ []) intact (pending ∙ sym (assoc todo)) (omega (arith, order, length_push passed h)) (none_on r (key_at t.cells) passed h from none beyond) before in
        rw not_in (rw (assoc (outside_of t.cells r todo)) at all)
  ]

  -- a relation that each pull extends holds after all pulls in bulk
  pub pulled_in_bulk-through : (s : State) → On 0 s → IsIntact s [] → ArePulled r On (outside_of s.cells r s.pending_out) (pulled_in_bulk r s)
  pulled_in_bulk-through s begins intact =
      pulls_on s.pending_out s 0 [] intact refl (omega arith) (λ k d f l. absurd (omega (arith, f, l))) begins

-- an intact store is left intact, commands see the same rows, and of the pending deletions those outside the range are left
pub record IsDrained (r : Range) (s t : State) : Type 0 where
  pub intact : IsIntact t []
  pub live : live_rows t ≡ live_rows s
  pub pending_out : t.pending_out ≡ outside_of s.cells r s.pending_out

pub IsDrained-in_bulk : (r : Range) (s : State) → IsIntact s [] → IsDrained r s (pulled_in_bulk r s)
IsDrained-in_bulk r s intact =
    let through = pulled_in_bulk-through r (λ from t. live_rows t ≡ live_rows s) one s refl intact in
    record { intact = through.intact; live = through.on; pending_out = through.left_are }
  where
    one : DrawsOn r (λ from t. live_rows t ≡ live_rows s)
    one from place t v before whole finds leads =
        let within : place < length t.pending_out = omega (arith, finds.within, length-map t.pending_out (key_at t.cells)) in
        let stands = StandsAt-get_or t.pending_out place no_handle within in
        let lifted = IsIntact-lifted_last t (column_some t (omega (arith, within)) whole) whole in
        live_rows-Draws place (get_or t.pending_out place no_handle) (lifted_last t) v stands lifted leads ∙ before
