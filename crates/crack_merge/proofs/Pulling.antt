-- The pulls of a range without moving the store: the invariant while a hand is on its way, and how the next pull begins.
use Rattle.std.proofs.Common.{◌≡◌, ℕ, ◌+◌, ◌-◌, ◌<◌, ◌≤◌, List, ◌∷◌, [], length, Some, None, refl, ap, sym, ◌∙◌, arith}
use Rattle.std.specs.Prelude.{slice_index}
use Rattle.std.specs.List.{Contains, remove}
use Rattle.std.proofs.lemmas.List.{get_or-map, length-map}
use Rattle.std.proofs.lemmas.List.Edits.{get_or-remove_above}
use Rattle.crack_row.specs.Ranges.{Range}
use Rattle.crack_arena.specs.Arena.{Handle, StandsAt, no_handle}
use Rattle.crack_arena.specs.Rows.{key_at, keys_at}
use Rattle.crack_pending.specs.Pending.{Finds}
use Rattle.crack_state.specs.State.{State, Carried, IsIntact}
use Rattle.crack_state.specs.Steps.{hand_key, piece_end, buried, IsDoomed}
use Rattle.crack_state.proofs.AdvanceLaws.{StillReads-buried, keys_still}
use Rattle.crack_state.proofs.BuryLaws.{IsIntact-buried}
use Rattle.crack_state.proofs.DrawLaws.{IsDoomed-listed, column_some}
use Rattle.crack_merge.specs.Merges.{BeginsPull, Pulls, reaches, PullsOut, pulls}
use Rattle.crack_merge.proofs.PullLaws.{PullsAt, PullsAt-Pulls, BeginsAt, BeginsAt-Begins, ahead_of_begun}

-- a burial leaves the keys of pending insertions as they were
pub keys_in-buried : (c : Carried) → IsIntact c.store (c.hand ∷ []) → IsDoomed c → keys_at (buried c).cells (buried c).pending_in ≡ keys_at c.store.cells c.store.pending_in
keys_in-buried c intact doomed =
    keys_still c.store.cells (buried c).cells c.store.pending_in (StillReads-buried c intact) (IsIntact-buried c doomed intact).owned.pending_reads

-- the doomed row of a pull is one of the pending deletions
pub contained_stands : (hs : List Handle) (h : Handle) → (is : Contains hs h) → StandsAt hs is.0 h
contained_stands hs h is = record { within = is.1; is = sym is.2 }

-- in hand, it is to be buried
pub hand_doomed : (c : Carried) (doomed : Handle) → Contains c.store.pending_out doomed → c.hand ≡ doomed → IsDoomed c
hand_doomed c doomed pending is = IsDoomed-listed c pending.0 doomed (contained_stands c.store.pending_out doomed pending) is

-- the pulls before the one of the doomed row at this place are done, and that one has begun; the next search for fillers goes on from `seen`
pub record IsPulling (r fillers : Range) (s : State) (from seen : ℕ) (c : Carried) : Type 0 where
  pub before : ℕ
  pub at : ℕ
  pub store : State
  pub intact : IsIntact store []
  pub pulls : PullsOut r fillers s before at store
  pub finds : Finds r (keys_at store.cells store.pending_out) before (Some from)
  pub begun : BeginsPull fillers store at seen c

module _ (r fillers : Range) (s : State) (from seen : ℕ) (c : Carried) (on : IsPulling r fillers s from seen c) where
  within_store : from < length on.store.pending_out
  within_store = omega (arith, on.finds.within, length-map on.store.pending_out (key_at on.store.cells))

  begun_at : BeginsAt on.store c
  begun_at = BeginsAt-Begins fillers on.store on.at seen c on.intact (column_some on.store (omega (arith, within_store)) on.intact) on.begun

  -- the doomed row is one of the pending deletions
  pub pulling_within : from < length c.store.pending_out
  pulling_within = omega (arith, within_store, ap length begun_at.pending_out)

  module _ (doomed : Handle) (stands : StandsAt c.store.pending_out from doomed) where
    stands_before : StandsAt on.store.pending_out from doomed
    stands_before = rw begun_at.pending_out at stands

    -- it is before the end of the own piece of the hand
    pub pulling_ahead : (fillers.low < fillers.high → r.high ≤ fillers.low) → (place : ℕ) → StandsAt c.store.column place doomed → place < piece_end c.store (hand_key c)
    pulling_ahead behind = ahead_of_begun r fillers on.store on.before from on.at seen doomed c behind on.intact on.finds stands_before on.begun

    -- once it is in hand
    module _ (d : Carried) (pulled : Pulls doomed c (buried d)) (hand : d.hand ≡ doomed) (out : d.store.pending_out ≡ c.store.pending_out) (intact : IsIntact d.store (d.hand ∷ [])) where
      in_hand : StandsAt d.store.pending_out from d.hand
      in_hand = rw (out, hand) stands

      pulling_doomed : IsDoomed d
      pulling_doomed = IsDoomed-listed d from d.hand in_hand refl

      -- its burial is the end of its pull
      pulling_done : PullsOut r fillers s from seen (buried d)
      pulling_done = pulls on.before from on.at seen doomed on.store (buried d) c on.pulls on.finds stands_before on.begun pulled

      one : PullsAt d (buried d) from
      one = PullsAt-Pulls d from d.hand intact in_hand (buried d) (reaches d refl)

      pulling_fewer : length (buried d).pending_out + 1 ≡ length c.store.pending_out
      pulling_fewer = omega (arith, one.fewer, ap length out)

      keys_out : keys_at (buried d).cells (buried d).pending_out ≡ keys_at d.store.cells (remove d.store.pending_out from)
      keys_out =
          keys_still d.store.cells (buried d).cells (buried d).pending_out (StillReads-buried d intact) one.intact.owned.doomed_reads ∙ ap (keys_at d.store.cells) one.pending_out

      -- each that was after it is one place before
      key_behind : (k : ℕ) → from ≤ k → k + 1 < length d.store.pending_out → slice_index (keys_at (buried d).cells (buried d).pending_out) k ≡ slice_index (keys_at d.store.cells d.store.pending_out) (k + 1)
      key_behind k after within =
          let less : k < length (remove d.store.pending_out from) = omega (arith, within, one.fewer, ap length one.pending_out) in
          rw keys_out (
          get_or-map (key_at d.store.cells) (remove d.store.pending_out from) k no_handle 0 less
          ∙ ap (key_at d.store.cells) (get_or-remove_above d.store.pending_out from no_handle k after in_hand.within)
          ∙ sym (get_or-map (key_at d.store.cells) d.store.pending_out (k + 1) no_handle 0 within)
          )

      long : length (keys_at (buried d).cells (buried d).pending_out) + 1 ≡ length d.store.pending_out
      long = omega (arith, length-map (buried d).pending_out (key_at (buried d).cells), one.fewer)

      -- so a search from its place on after the burial finds the row that a search after its place finds, one place earlier
      pulling_next : (place : ℕ) → Finds r (keys_at d.store.cells d.store.pending_out) (from + 1) (Some place) → Finds r (keys_at (buried d).cells (buried d).pending_out) from (Some (place - 1))
      pulling_next place first =
          let within : place < length d.store.pending_out = omega (arith, first.within, length-map d.store.pending_out (key_at d.store.cells)) in
          let back : place - 1 + 1 ≡ place = omega (arith, first.after) in
          record {
            after = omega (arith, first.after);
            within = omega (arith, first.after, within, long);
            holds = rw (key_behind (place - 1) (omega (arith, first.after)) (omega (arith, first.after, within)), back) first.holds;
            before = λ k from_on up_to. rw (key_behind k from_on (omega (arith, up_to, within))) (first.before (k + 1) (omega (arith, from_on)) (omega (arith, up_to)));
          }

      pulling_none : Finds r (keys_at d.store.cells d.store.pending_out) (from + 1) None → Finds r (keys_at (buried d).cells (buried d).pending_out) from None
      pulling_none none = λ k from_on up_to.
          let within : k + 1 < length d.store.pending_out = omega (arith, up_to, long) in
          rw (key_behind k from_on within) (none (k + 1) (omega (arith, from_on)) (omega (arith, within, length-map d.store.pending_out (key_at d.store.cells))))

      -- the column has rows for the next pull
      pulling_some : (place : ℕ) → Finds r (keys_at d.store.cells d.store.pending_out) (from + 1) (Some place) → 0 < length d.store.column
      pulling_some place first = column_some (buried d) (omega (arith, (pulling_next place first).after, (pulling_next place first).within, long, one.fewer)) one.intact

      pulling_on : (place next : ℕ) (e : Carried) → Finds r (keys_at d.store.cells d.store.pending_out) (from + 1) (Some place) → BeginsPull fillers (buried d) seen next e → IsPulling r fillers s (place - 1) next e
      pulling_on place next e first begun = record { before = from; at = seen; store = buried d; intact = one.intact; pulls = pulling_done; finds = pulling_next place first; begun = begun }

      -- fewer are left
      pulling_smaller : (place next : ℕ) (e : Carried) → Finds r (keys_at d.store.cells d.store.pending_out) (from + 1) (Some place) → BeginsPull fillers (buried d) seen next e → length e.store.pending_out < length c.store.pending_out
      pulling_smaller place next e first begun =
          let begin = BeginsAt-Begins fillers (buried d) seen next e one.intact (pulling_some place first) begun in
          omega (arith, ap length begin.pending_out, pulling_fewer)

-- the doomed row at this place has come into hand: its burial ends its pull, and the next goes on from there
pub record IsDrawn (r fillers : Range) (s : State) (from seen : ℕ) (c d : Carried) : Type 0 where
  pub doomed : IsDoomed d
  pub done : PullsOut r fillers s from seen (buried d)
  pub none : Finds r (keys_at d.store.cells d.store.pending_out) (from + 1) None → Finds r (keys_at (buried d).cells (buried d).pending_out) from None
  pub some : (place : ℕ) → Finds r (keys_at d.store.cells d.store.pending_out) (from + 1) (Some place) → 0 < length d.store.column
  pub on : (place next : ℕ) (e : Carried) → Finds r (keys_at d.store.cells d.store.pending_out) (from + 1) (Some place) → BeginsPull fillers (buried d) seen next e → IsPulling r fillers s (place - 1) next e
  pub smaller : (place next : ℕ) (e : Carried) → Finds r (keys_at d.store.cells d.store.pending_out) (from + 1) (Some place) → BeginsPull fillers (buried d) seen next e → length e.store.pending_out < length c.store.pending_out

pub IsDrawn-Pulls : (r fillers : Range) (s : State) (from seen : ℕ) (c : Carried) → IsPulling r fillers s from seen c → (doomed : Handle) → StandsAt c.store.pending_out from doomed → (d : Carried) → Pulls doomed c (buried d) → d.hand ≡ doomed → d.store.pending_out ≡ c.store.pending_out → IsIntact d.store (d.hand ∷ []) → IsDrawn r fillers s from seen c d
IsDrawn-Pulls r fillers s from seen c on doomed stands d pulled hand out intact = record {
  doomed = pulling_doomed r fillers s from seen c on doomed stands d pulled hand out intact;
  done = pulling_done r fillers s from seen c on doomed stands d pulled hand out intact;
  none = pulling_none r fillers s from seen c on doomed stands d pulled hand out intact;
  some = pulling_some r fillers s from seen c on doomed stands d pulled hand out intact;
  on = pulling_on r fillers s from seen c on doomed stands d pulled hand out intact;
  smaller = pulling_smaller r fillers s from seen c on doomed stands d pulled hand out intact;
}
