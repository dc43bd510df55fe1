-- What the pulls of a range do if fillers take the places of its rows.
use Rattle.std.proofs.Common.{◌≡◌, ℕ, ◌+◌, ◌-◌, ◌<◌, ◌≤◌, List, [], ◌∷◌, ◌++◌, length, get_or, take, drop, Some, refl, sym, ap, ◌∙◌, inl, inr, arith, length-append}
use Rattle.std.specs.Prelude.{not}
use Rattle.std.proofs.Math.Nat.{min-le_left, min-le_right, le-min}
use Rattle.std.proofs.lemmas.Bool.{cases_lt}
use Rattle.std.proofs.lemmas.List.{get_or-map, get_or-drop, length-map, length-drop, drop-set-lt, take-append-drop}
use Rattle.std.proofs.lemmas.List.Elements.{filter-append}
use Rattle.std.proofs.lemmas.List.Edits.{length-remove}
use Rattle.crack_row.specs.Ranges.{Range, is_in}
use Rattle.crack_row.specs.declared.command.Policy.TheVariants.{Ripple}
use Rattle.crack_arena.specs.Arena.{Handle, StandsAt, no_handle}
use Rattle.crack_arena.specs.Rows.{key_of_row, key_at, keys_at}
use Rattle.crack_index.specs.declared.mark.Mark.{Mark}
use Rattle.crack_pending.specs.Pending.{Finds}
use Rattle.crack_pending.proofs.Searches.{StandsAt-get_or}
use Rattle.crack_state.specs.State.{State, Carried, IsIntact}
use Rattle.crack_state.proofs.Words.{column_keys}
use Rattle.crack_state.specs.Steps.{hand_key, piece_start, lifted, lifted_last, pulled_back}
use Rattle.crack_state.specs.Merge.{Follows, StillReads, LosesFirst, bound_above, beyond, edge, outside_of, count_inside}
use Rattle.crack_state.proofs.AdvanceLaws.{keys_still}
use Rattle.crack_state.proofs.BeyondLaws.{bound_above-least, beyond-follows}
use Rattle.crack_state.proofs.DrawLaws.{piece_start-most, MetAt-pulled_back, column_some}
use Rattle.crack_state.proofs.OutsideLaws.{length-outside}
use Rattle.crack_state.proofs.PullLaws.{IsIntact-pulled_back}
use Rattle.crack_state.proofs.StepLaws.{IsIntact-lifted}
use Rattle.crack_merge.specs.Merges.{BeginsPull, fills, takes_last, Pulls, reaches, exchanges, draws, PullsOut, begins, pulls}
use Rattle.crack_merge.proofs.PullLaws.{TakesInside, TakesInside-PullsOut, BeginsAt-Begins, PullsAt-Pulls, found_key}
use Rattle.crack_merge.proofs.RangeLaws.{LacksFirst-missed}
use Rattle.crack_merge.specs.Near.{fillers_of}
use Rattle.crack_merge.proofs.EdgeLaws.{IsRangeOf, high_divides}

module _ (s : State) (r : Range) (of : IsRangeOf s r) (intact : IsIntact s []) where
  -- the column from the place of the range's high end on is as it was
  record StaysBehind (t : State) : Type 0 where
    reads : StillReads s.cells t.cells
    same : drop (edge s r.high) t.column ≡ drop (edge s r.high) s.column

  -- no row there has a key below that end
  keys_there : (t : State) (hand : List Handle) → IsIntact t hand → StaysBehind t → (k : ℕ) (d : Handle) → edge s r.high ≤ k → k < length t.column → r.high ≤ key_at t.cells (get_or t.column k d)
  keys_there t hand now stays k d from within =
      let e = edge s r.high in
      let at : e + (k - e) ≡ k = omega (arith, from) in
      let less : k < length s.column = omega (arith, from, within, ap length stays.same, length-drop e t.column, length-drop e s.column) in
      let there : get_or t.column k d ≡ get_or s.column k d = ap (λ n. get_or t.column n d) (sym at) ∙ sym (get_or-drop e t.column (k - e) d) ∙ ap (λ hs. get_or hs (k - e) d) stays.same ∙ get_or-drop e s.column (k - e) d ∙ ap (λ n. get_or s.column n d) at in
      let key : key_at t.cells (get_or t.column k d) ≡ key_at s.cells (get_or t.column k d) = ap key_of_row (stays.reads (get_or t.column k d) (now.owned.column_reads k d within)) in
      let high = (high_divides s [] r of intact).above k from (omega (arith, less, length-map s.column (key_at s.cells))) in
      let was : get_or (column_keys s) k 0 ≡ key_at s.cells (get_or s.column k d) = get_or-map (key_at s.cells) s.column k d 0 less in
      omega (arith, high, was, key, ap (key_at s.cells) there)

  -- a bound at or below the key of a filler is at that place or before it
  stands_before : (t : State) → IsIntact t [] → Follows s t → StaysBehind t → (key : ℕ) → key < bound_above s r.high → (k : ℕ) (d : Mark) → k < length t.marks → (get_or t.marks k d).bound.0 ≤ key → (get_or t.marks k d).position ≤ edge s r.high
  stands_before t now follows stays key below k d listed at_or_below =
      let m = get_or t.marks k d in
      let e = edge s r.high in
      let same : bound_above t r.high ≡ bound_above s r.high = ap (λ (x : Range). x.high) (beyond-follows s t r follows) in
      let end : m.bound.0 ≤ r.high = elim (cases_lt r.high m.bound.0) [
        | inl l ↦ absurd (omega (arith, bound_above-least t r.high now.rising k d listed l, same, below, at_or_below))
        | inr l ↦ l
      ] in
      elim (cases_lt e m.position) [
        | inl l ↦
            let within : e < length t.column = omega (arith, l, (now.obeyed k d listed).within, length-map t.column (key_at t.cells)) in
            let low = (now.obeyed k d listed).below e l in
            let is : get_or (column_keys t) e 0 ≡ key_at t.cells (get_or t.column e no_handle) = get_or-map (key_at t.cells) t.column e no_handle 0 within in
            absurd (omega (arith, low, is, end, keys_there t [] now stays e no_handle (omega arith) within))
        | inr l ↦ l
      ]

  -- so its piece begins there or before
  begins_before : (t : State) → IsIntact t [] → Follows s t → StaysBehind t → (key : ℕ) → key < bound_above s r.high → piece_start t key ≤ edge s r.high
  begins_before t now follows stays key below = piece_start-most t key (edge s r.high) now.rising (stands_before t now follows stays key below)

  -- a pull whose hand has its piece begin there or before, of a row of the range
  filled_from : (doomed : Handle) (c : Carried) (t : State) → key_at c.store.cells doomed < r.high → piece_start c.store (hand_key c) ≤ edge s r.high → StaysBehind c.store → IsIntact c.store (c.hand ∷ []) → Pulls doomed c t → drop (edge s r.high) t.column ≡ drop (edge s r.high) s.column
  filled_from doomed c t low start stays now (reaches d is) = stays.same
  filled_from doomed c t low start stays now (exchanges d j other at from to) =
      let before : j < edge s r.high = elim (cases_lt j (edge s r.high)) [
        | inl l ↦ l
        | inr l ↦ absurd (omega (arith, low, keys_there d.store (d.hand ∷ []) now stays j doomed l at.within, ap (key_at d.store.cells) at.is))
      ] in
      drop-set-lt (edge s r.high) d.store.column j d.hand before ∙ stays.same
  filled_from doomed c t low start stays now (draws d j u other at before rest) =
      let some : 0 < piece_start d.store (hand_key d) = omega (arith, before) in
      let last = piece_start d.store (hand_key d) - 1 in
      let after = IsIntact-pulled_back d some now in
      let met = MetAt-pulled_back d some now after in
      let same = drop-set-lt (edge s r.high) d.store.column last d.hand (omega (arith, some, start)) ∙ stays.same in
      filled_from doomed (pulled_back d) u low (omega (arith, met.start, start)) (record { reads = stays.reads; same = same }) after rest

  -- up to this store, each pull had a filler
  abbrev HadEach : State → Type 0
  HadEach t = length s.pending_in + length t.pending_out ≡ length t.pending_in + length s.pending_out

  pulled_behind : (u v : State) (c : Carried) (before place at next : ℕ) (doomed : Handle) → TakesInside Ripple r (beyond s r) s u before at → (HadEach u → drop (edge s r.high) u.column ≡ drop (edge s r.high) s.column) → Finds r (keys_at u.cells u.pending_out) before (Some place) → StandsAt u.pending_out place doomed → BeginsPull (beyond s r) u at next c → Pulls doomed c v → HadEach v → drop (edge s r.high) v.column ≡ drop (edge s r.high) s.column
  pulled_behind u v c before place at next doomed was go finds stands (takes_last none) pulled each =
      let begin = BeginsAt-Begins (beyond s r) u at next (lifted_last u) was.intact (column_some u (omega (arith, stands.within)) was.intact) (takes_last none) in
      let one = PullsAt-Pulls (lifted_last u) place doomed begin.intact stands v pulled in
      absurd (omega (arith, each, was.first.few, one.fewer, ap length one.pending_in))
  pulled_behind u v c before place at next doomed was go finds stands (fills i found) pulled each =
      let within : i < length u.pending_in = omega (arith, found.within, length-map u.pending_in (key_at u.cells)) in
      let now = IsIntact-lifted i u within was.intact in
      let one = PullsAt-Pulls (lifted i u) place doomed now stands v pulled in
      let same = go (omega (arith, each, one.fewer, ap length one.pending_in, length-remove u.pending_in i within)) in
      let stays : StaysBehind u = record { reads = was.advances.reads; same = same } in
      let filler = found_key (beyond s r) u u.pending_in at i (lifted i u).hand found (StandsAt-get_or u.pending_in i no_handle within) in
      let low = found_key r u u.pending_out before place doomed finds stands in
      filled_from doomed (lifted i u) v low.1 (begins_before u was.intact was.advances.follows stays (hand_key (lifted i u)) filler.1) (record { reads = stays.reads; same = same }) now pulled

  pub StaysBehind-PullsOut : (from seen : ℕ) (t : State) → PullsOut r (beyond s r) s from seen t → HadEach t → drop (edge s r.high) t.column ≡ drop (edge s r.high) s.column
  StaysBehind-PullsOut from seen t (begins at within none) each = refl
  StaysBehind-PullsOut from seen t (pulls before place at next doomed u v c rest finds stands begun pulled) each =
      pulled_behind u v c before place at next doomed (TakesInside-PullsOut Ripple r (beyond s r) s before at u intact rest) (StaysBehind-PullsOut before at u rest) finds stands begun pulled each

  -- once none of the range is left, as many fillers are gone as there were
  module _ (from seen : ℕ) (t : State) (was : TakesInside Ripple r (beyond s r) s t from seen) (all : t.pending_out ≡ outside_of s.cells r s.pending_out) where
    abbrev gone : ℕ
    gone = count_inside s.cells (beyond s r) (take was.first.lacks.passed s.pending_in)

    gone_are : gone + length t.pending_in ≡ length s.pending_in
    gone_are =
        let front = take was.first.lacks.passed s.pending_in in
        let back = drop was.first.lacks.passed s.pending_in in
        omega (arith, length-outside s.cells (beyond s r) front, ap length was.first.lacks.left_are, length-append (outside_of s.cells (beyond s r) front) back, length-append front back, ap length (take-append-drop was.first.lacks.passed s.pending_in))

    gone_few : gone ≤ count_inside s.cells (beyond s r) s.pending_in
    gone_few =
        let front = take was.first.lacks.passed s.pending_in in
        let back = drop was.first.lacks.passed s.pending_in in
        let out = outside_of s.cells (beyond s r) in
        let split : out s.pending_in ≡ out front ++ out back = ap out (sym (take-append-drop was.first.lacks.passed s.pending_in)) ∙ filter-append (λ h. not (is_in (beyond s r) (key_at s.cells h))) front back in
        omega (arith, ap length split, length-append (out front) (out back), length-outside s.cells (beyond s r) s.pending_in, length-outside s.cells (beyond s r) front, length-outside s.cells (beyond s r) back, length-append front back, ap length (take-append-drop was.first.lacks.passed s.pending_in))

    pulled : count_inside s.cells r s.pending_out + length t.pending_out ≡ length s.pending_out
    pulled = omega (arith, length-outside s.cells r s.pending_out, ap length all)

    gone_is : gone ≡ fillers_of s r
    gone_is =
        let a = count_inside s.cells (beyond s r) s.pending_in in
        let b = count_inside s.cells r s.pending_out in
        let least : gone ≤ fillers_of s r = le-min gone_few (omega (arith, gone_are, pulled, was.first.few)) in
        elim was.first.each [
          | inl each ↦ omega (arith, least, min-le_right a b, gone_are, pulled, each)
          | inr none ↦
              let reads = keys_still s.cells t.cells t.pending_in was.advances.reads was.intact.owned.pending_reads in
              let left = LacksFirst-missed s.cells (beyond s r) s.pending_in t.pending_in seen was.first.lacks (rw reads at none) in
              omega (arith, least, min-le_left a b, gone_are, ap length left, length-outside s.cells (beyond s r) s.pending_in)
        ]

    pub LosesFirst-pulled : LosesFirst s.cells (beyond s r) (fillers_of s r) s.pending_in t.pending_in
    LosesFirst-pulled = record { passed = was.first.lacks.passed; left_are = was.first.lacks.left_are; count_is = gone_is }

    pub long-pulled : length t.column + length s.pending_out ≡ length s.column + length t.pending_out + fillers_of s r
    long-pulled = omega (arith, was.long, gone_are, gone_is)

    pub HadEach-pulled : fillers_of s r ≡ count_inside s.cells r s.pending_out → HadEach t
    HadEach-pulled each = omega (arith, each, gone_is, gone_are, pulled)
