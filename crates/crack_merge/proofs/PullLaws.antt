-- The effect of the pull of a pending deletion, wherever its hand came from, and the invariant of the pulls of a merge.
use Rattle.std.proofs.Common.{◌≡◌, ◌⊎◌, ℕ, ◌+◌, ◌-◌, ◌<◌, ◌≤◌, List, [], ◌∷◌, length, Some, None, refl, ap, sym, ◌∙◌, inl, inr, arith}
use Rattle.std.specs.List.{remove}
use Rattle.std.proofs.lemmas.List.{get_or_default, length-map, length-take-le}
use Rattle.std.proofs.lemmas.List.Edits.{length-remove}
use Rattle.crack_row.specs.declared.command.Policy.{Policy}
use Rattle.crack_row.specs.Ranges.{Range, IsIn}
use Rattle.crack_arena.specs.Arena.{Handle, StandsAt, no_handle, place_in}
use Rattle.crack_arena.specs.Rows.{key_at, keys_at}
use Rattle.crack_pending.specs.Pending.{Finds}
use Rattle.crack_pending.proofs.Searches.{StandsAt-get_or, keys_at-StandsAt}
use Rattle.crack_state.specs.State.{State, Carried, IsIntact}
use Rattle.crack_state.specs.Steps.{hand_key, lifted, lifted_last, pulled_back, exchanged, buried, piece_end}
use Rattle.crack_state.specs.Inside.{Advances}
use Rattle.crack_state.proofs.AdvanceLaws.{Draws, Draws-refl, Draws-pulled_back, Drawn, Drawn-reached, Drawn-exchanged, TakenOut-buried, Advances-refl, Advances-trans, Advances-lifted, Advances-lifted_last, keys_still}
use Rattle.crack_state.proofs.BuryLaws.{IsIntact-buried}
use Rattle.crack_state.proofs.DrawLaws.{IsDoomed-listed, place_in-doomed, column_some, piece_end-lifted_last, piece_end-behind}
use Rattle.crack_state.proofs.PullLaws.{IsIntact-lifted_last, IsIntact-pulled_back, IsIntact-exchanged}
use Rattle.crack_state.proofs.StepLaws.{IsIntact-lifted}
use Rattle.crack_state.proofs.OutsideLaws.{LacksFirst, LacksFirst-none}
use Rattle.crack_merge.specs.Loops.{TakesOut}
use Rattle.crack_merge.specs.Merges.{BeginsPull, fills, takes_last, Pulls, reaches, exchanges, draws, PullsOut, begins, pulls}
use Rattle.crack_merge.proofs.RangeLaws.{LacksFirst-found, LacksFirst-missed, LacksFirst-begins, LacksFirst-ends}

-- a pull, from the hand with which it began: the pending deletion at a place was taken out of the column, and no row was put in or moved
pub record PullsAt (c : Carried) (t : State) (place : ℕ) : Type 0 where
  pub advances : (policy : Policy) → Advances policy c.store t
  pub intact : IsIntact t []
  pub pending_in : t.pending_in ≡ c.store.pending_in
  pub pending_out : t.pending_out ≡ remove c.store.pending_out place
  pub fewer : length t.pending_out + 1 ≡ length c.store.pending_out
  pub long : length t.column ≡ length c.store.column
  pub column_room : t.column_room ≡ c.store.column_room
  pub moved : t.tally.moved ≡ c.store.tally.moved

-- the row at a place of the column comes into hand by an exchange
pub exchanged_hand : (c : Carried) (place : ℕ) (h : Handle) → StandsAt c.store.column place h → (exchanged place c).hand ≡ h
exchanged_hand c place h stands = get_or_default c.store.column place c.hand h stands.within ∙ sym stands.is

module _ (b : Carried) (place : ℕ) (doomed : Handle) (intact : IsIntact b.store (b.hand ∷ [])) (stands : StandsAt b.store.pending_out place doomed) where
  -- the handle of the doomed row is in hand, and is buried
  taken_at : (e : Carried) → Drawn b.store e → e.hand ≡ doomed → IsIntact e.store (e.hand ∷ []) → PullsAt b (buried e) place
  taken_at e drawn is now =
      let at : place_in b.store.pending_out e.hand.slot ≡ place = rw is (place_in-doomed b.store (b.hand ∷ []) place doomed intact stands) in
      let listed : StandsAt e.store.pending_out place doomed = rw (ap (λ (x : State). x.pending_out) drawn.same) stands in
      let in_hand = IsDoomed-listed e place doomed listed is in
      let taken = TakenOut-buried b.store e drawn (rw at stands.within) in_hand now in
      let pending_out : (buried e).pending_out ≡ remove b.store.pending_out place = taken.pending_out ∙ ap (remove b.store.pending_out) at in
      let gone = length-remove b.store.pending_out place stands.within in
      record {
        advances = taken.advances;
        intact = IsIntact-buried e in_hand now;
        pending_in = taken.pending_in;
        pending_out = pending_out;
        fewer = omega (arith, ap length pending_out, gone);
        long = drawn.long;
        column_room = ap (λ (x : State). x.column_room) drawn.same;
        moved = ap (λ (x : State). x.tally.moved) drawn.same;
      }

  -- a pull that goes on from where steps have led
  taken_from : (c : Carried) (t : State) → Draws b.store c → IsIntact c.store (c.hand ∷ []) → Pulls doomed c t → PullsAt b t place
  taken_from c t drawn now (reaches e is) = taken_at e (Drawn-reached b.store e drawn) is now
  taken_from c t drawn now (exchanges d j other at from to) =
      taken_at (exchanged j d) (Drawn-exchanged b.store d j now drawn) (exchanged_hand d j doomed at) (IsIntact-exchanged j d from to now)
  taken_from c t drawn now (draws d j u other at before rest) =
      taken_from (pulled_back d) u (Draws-pulled_back b.store d (omega arith) now drawn) (IsIntact-pulled_back d (omega arith) now) rest

  pub PullsAt-Pulls : (t : State) → Pulls doomed b t → PullsAt b t place
  PullsAt-Pulls t pulling = taken_from b t (Draws-refl b) intact pulling

-- complete: the pending deletion at a place was pulled by the column's last row
pub record TakesAt (s t : State) : Type 0 where
  pub takes : (policy : Policy) → TakesOut policy s t
  pub fewer : length t.pending_out < length s.pending_out

pub TakesAt-Pulls : (s : State) (place : ℕ) (doomed : Handle) → IsIntact s [] → StandsAt s.pending_out place doomed → (t : State) → Pulls doomed (lifted_last s) t → TakesAt s t
TakesAt-Pulls s place doomed intact stands t pulling =
    let some = column_some s (omega (arith, stands.within)) intact in
    let one = PullsAt-Pulls (lifted_last s) place doomed (IsIntact-lifted_last s some intact) stands t pulling in
    record {
      takes = λ policy. record { advances = Advances-trans policy s (lifted_last s).store t (Advances-lifted_last policy s) (one.advances policy); pending_in = one.pending_in };
      fewer = omega (arith, one.fewer);
    }

pub TakesOut-none : (policy : Policy) (s : State) → TakesOut policy s s
TakesOut-none policy s = record { advances = Advances-refl policy s; pending_in = refl }

pub TakesOut-trans : (policy : Policy) (s t u : State) → TakesOut policy s t → TakesOut policy t u → TakesOut policy s u
TakesOut-trans policy s t u a b = record { advances = Advances-trans policy s t u a.advances b.advances; pending_in = b.pending_in ∙ a.pending_in }

-- a pull began, with a filler or with the column's last row
pub record BeginsAt (s : State) (c : Carried) : Type 0 where
  pub advances : (policy : Policy) → Advances policy s c.store
  pub intact : IsIntact c.store (c.hand ∷ [])
  pub pending_out : c.store.pending_out ≡ s.pending_out
  pub long : length c.store.column + length c.store.pending_in + 1 ≡ length s.column + length s.pending_in
  pub moved : c.store.tally.moved ≡ s.tally.moved

-- a search finds a pending row
found_within : (fillers : Range) (s : State) (seen place : ℕ) → Finds fillers (keys_at s.cells s.pending_in) seen (Some place) → place < length s.pending_in
found_within fillers s seen place found = omega (arith, found.within, length-map s.pending_in (key_at s.cells))

pub BeginsAt-Begins : (fillers : Range) (s : State) (seen next : ℕ) (c : Carried) → IsIntact s [] → 0 < length s.column → BeginsPull fillers s seen next c → BeginsAt s c
BeginsAt-Begins fillers s seen next c intact some (fills place found) =
    let within = found_within fillers s seen place found in
    record {
      advances = λ policy. Advances-lifted policy place s within intact;
      intact = IsIntact-lifted place s within intact;
      pending_out = refl;
      long = omega (arith, length-remove s.pending_in place within);
      moved = refl;
    }
BeginsAt-Begins fillers s seen next c intact some (takes_last none) = record {
  advances = λ policy. Advances-lifted_last policy s;
  intact = IsIntact-lifted_last s some intact;
  pending_out = refl;
  long = omega (arith, some, length-take-le (length s.column - 1) s.column (omega arith));
  moved = refl;
}

-- which fillers are gone: the first ones, one for each pull, as long as some were left
pub record FillsFirst (fillers : Range) (s t : State) (seen : ℕ) : Type 0 where
  pub lacks : LacksFirst s.cells fillers s.pending_in t.pending_in seen
  pub few : length s.pending_in + length t.pending_out ≤ length t.pending_in + length s.pending_out
  pub each : (length s.pending_in + length t.pending_out ≡ length t.pending_in + length s.pending_out) ⊎ Finds fillers (keys_at t.cells t.pending_in) seen None

-- pending deletions of a range up to some place were taken out, and the search goes on from `from`; no row was moved, and the column is shorter by one for
-- each that had no filler
pub record TakesInside (policy : Policy) (r fillers : Range) (s t : State) (from seen : ℕ) : Type 0 where
  pub advances : Advances policy s t
  pub intact : IsIntact t []
  pub long : length t.column + length t.pending_in + length s.pending_out ≡ length s.column + length s.pending_in + length t.pending_out
  pub moved : t.tally.moved ≡ s.tally.moved
  pub lacks : LacksFirst s.cells r s.pending_out t.pending_out from
  pub first : FillsFirst fillers s t seen

-- one more pull
module _ (fillers : Range) (s u v : State) (reads : keys_at u.cells u.pending_in ≡ keys_at s.cells u.pending_in) (fewer : length v.pending_out + 1 ≡ length u.pending_out) where
  pub FillsFirst-Begins : (seen next : ℕ) (c : Carried) → FillsFirst fillers s u seen → BeginsPull fillers u seen next c → v.pending_in ≡ c.store.pending_in → FillsFirst fillers s v next
  FillsFirst-Begins seen next c was (fills place found) same =
      let on = LacksFirst-found s.cells fillers s.pending_in u.pending_in seen was.lacks place (rw reads at found) in
      let gone = length-remove u.pending_in place on.0 in
      record {
        lacks = rw same on.1;
        few = omega (arith, was.few, fewer, ap length same, gone);
        each = elim was.each [
          | inl each ↦ inl (omega (arith, each, fewer, ap length same, gone))
          | inr none ↦ absurd (none place found.after found.within found.holds)
        ];
      }
  FillsFirst-Begins seen next c was (takes_last none) same =
      let all = LacksFirst-missed s.cells fillers s.pending_in u.pending_in seen was.lacks (rw reads at none) in
      record {
        lacks = rw same (LacksFirst-ends s.cells fillers s.pending_in u.pending_in all);
        few = omega (arith, was.few, fewer, ap length same);
        each = inr (λ k from up_to. absurd (omega (arith, from, up_to, length-map v.pending_in (key_at v.cells), ap length same)));
      }

-- as many as the search found were taken out
pub TakesInside-PullsOut : (policy : Policy) (r fillers : Range) (s : State) (from seen : ℕ) (t : State) → IsIntact s [] → PullsOut r fillers s from seen t → TakesInside policy r fillers s t from seen
TakesInside-PullsOut policy r fillers s from seen t intact (begins at within none) = record {
  advances = Advances-refl policy s;
  intact = intact;
  long = refl;
  moved = refl;
  lacks = LacksFirst-none s.cells r s.pending_out;
  first = record { lacks = LacksFirst-begins s.cells fillers s.pending_in at within none; few = omega arith; each = inl refl };
}
TakesInside-PullsOut policy r fillers s from seen t intact (pulls before place at next doomed u v c rest finds stands begun pulled) =
    let was = TakesInside-PullsOut policy r fillers s before at u intact rest in
    let found = LacksFirst-found s.cells r s.pending_out u.pending_out before was.lacks place (rw (keys_still s.cells u.cells u.pending_out was.advances.reads was.intact.owned.doomed_reads) at finds) in
    let begin = BeginsAt-Begins fillers u at next c was.intact (column_some u (omega (arith, stands.within)) was.intact) begun in
    let one = PullsAt-Pulls c place doomed begin.intact (rw begin.pending_out stands) v pulled in
    let fewer : length v.pending_out + 1 ≡ length u.pending_out = omega (arith, one.fewer, ap length begin.pending_out) in
    record {
      advances = Advances-trans policy s u v was.advances (Advances-trans policy u c.store v (begin.advances policy) (one.advances policy));
      intact = one.intact;
      long = omega (arith, was.long, begin.long, one.long, ap length one.pending_in, fewer);
      moved = one.moved ∙ begin.moved ∙ was.moved;
      lacks = rw (one.pending_out, begin.pending_out) found.1;
      first = FillsFirst-Begins fillers s u v (keys_still s.cells u.cells u.pending_in was.advances.reads was.intact.owned.pending_reads) fewer at next c was.first begun one.pending_in;
    }

-- a doomed row is before the end of the own piece of the column's last row, once that is in hand
pub ahead_of_last : (t : State) (k : ℕ) (doomed : Handle) → IsIntact t [] → StandsAt t.pending_out k doomed → (place : ℕ) → StandsAt (lifted_last t).store.column place doomed → place < piece_end (lifted_last t).store (hand_key (lifted_last t))
ahead_of_last t k doomed intact pending place stands =
    let some = column_some t (omega (arith, pending.within)) intact in
    omega (arith, stands.within, piece_end-lifted_last t some intact (IsIntact-lifted_last t some intact))

-- the key of the row that a search finds is in the range
pub found_key : (r : Range) (s : State) (hs : List Handle) (from place : ℕ) (h : Handle) → Finds r (keys_at s.cells hs) from (Some place) → StandsAt hs place h → IsIn r (key_at s.cells h)
found_key r s hs from place h found stands = rw (keys_at-StandsAt s.cells hs place h stands) at found.holds

-- a doomed row of the range is before the end of the own piece of the hand with which its pull begins
pub ahead_of_begun : (r fillers : Range) (t : State) (from k seen next : ℕ) (doomed : Handle) (c : Carried) → (fillers.low < fillers.high → r.high ≤ fillers.low) → IsIntact t [] → Finds r (keys_at t.cells t.pending_out) from (Some k) → StandsAt t.pending_out k doomed → BeginsPull fillers t seen next c → (place : ℕ) → StandsAt c.store.column place doomed → place < piece_end c.store (hand_key c)
ahead_of_begun r fillers t from k seen next doomed c behind intact finds pending (takes_last none) place stands = ahead_of_last t k doomed intact pending place stands
ahead_of_begun r fillers t from k seen next doomed c behind intact finds pending (fills i found) place stands =
    let within = found_within fillers t seen i found in
    let below = found_key r t t.pending_out from k doomed finds pending in
    let above : IsIn fillers (hand_key (lifted i t)) = found_key fillers t t.pending_in seen i (lifted i t).hand found (StandsAt-get_or t.pending_in i no_handle within) in
    piece_end-behind (lifted i t).store ((lifted i t).hand ∷ []) (hand_key (lifted i t)) place doomed (IsIntact-lifted i t within intact) stands.within stands.is (omega (arith, below.1, above.0, behind (omega (arith, above.0, above.1))))

-- there is room for fillers, or none is left
abbrev pub HasRoomFor : State → ℕ → Type 0
HasRoomFor s seen = (length s.pending_in ≤ seen) ⊎ (0 < s.column_room)

pub HasRoomFor-Begins : (fillers : Range) (t u : State) (seen next place : ℕ) (c : Carried) → BeginsPull fillers t seen next c → PullsAt c u place → HasRoomFor t seen → HasRoomFor u next
HasRoomFor-Begins fillers t u seen next place c (fills i found) one room = elim room [
  | inl none ↦ absurd (omega (arith, none, found.after, found_within fillers t seen i found))
  | inr some ↦ inr (rw one.column_room some)
]
HasRoomFor-Begins fillers t u seen next place c (takes_last none) one room = inl (omega (arith, ap length one.pending_in))
