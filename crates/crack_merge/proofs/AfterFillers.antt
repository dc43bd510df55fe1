-- The first pulls of a range in bulk, each by a filler, and then the others: the same as one pull after another.
use Rattle.std.proofs.Common.{◌≡◌, ◌⊎◌, ℕ, ◌<◌, ◌≤◌, List, [], ◌∷◌, length, get_or, None, refl, sym, ap, subst, ◌∙◌, inl, inr, arith}
use Rattle.std.proofs.lemmas.Bool.{cases_lt}
use Rattle.std.proofs.lemmas.List.{length-map}
use Rattle.crack_row.specs.Ranges.{Range}
use Rattle.crack_arena.specs.Arena.{Handle, no_handle}
use Rattle.crack_arena.specs.Rows.{key_at, keys_at}
use Rattle.crack_pending.specs.Pending.{Finds, NoneIn, IsFirstIn}
use Rattle.crack_pending.proofs.Searches.{StandsAt-get_or}
use Rattle.crack_state.specs.State.{State, Carried, IsIntact}
use Rattle.crack_state.specs.Steps.{lifted}
use Rattle.crack_state.specs.Pulled.{buried_all}
use Rattle.crack_state.specs.Filled.{IsFilled}
use Rattle.crack_state.proofs.FilledLaws.{FillsOn, AreFilled, doomed_first, filled_by, fills-on}
use Rattle.crack_merge.specs.Merges.{BeginsPull, fills, takes_last, PullsOut, PullsAll, begins, pulls}
use Rattle.crack_merge.proofs.PulledInBulk.{Pulls-Draws}

-- a search from a place on finds the same as one from an earlier place, if no row of the range is between them
pub found-later : (r : Range) (keys : List ℕ) (at from place : ℕ) → NoneIn r keys 0 at → NoneIn r keys 0 from → IsFirstIn r keys at place → IsFirstIn r keys from place
found-later r keys at from place none_at none first = record {
  after = elim (cases_lt place from) [ inl l ↦ absurd (none place (omega arith) l first.holds) | inr l ↦ l ];
  within = first.within;
  holds = first.holds;
  before = λ k from_on up_to. elim (cases_lt k at) [ inl l ↦ none_at k (omega arith) l | inr l ↦ first.before k l up_to ];
}

none-later : (r : Range) (keys : List ℕ) (at from : ℕ) → NoneIn r keys 0 at → Finds r keys at None → Finds r keys from None
none-later r keys at from none_at none = λ k from_on up_to. elim (cases_lt k at) [ inl l ↦ none_at k (omega arith) l | inr l ↦ none k l up_to ]

begins-later : (fillers : Range) (t : State) (at seen next : ℕ) (c : Carried) → NoneIn fillers (keys_at t.cells t.pending_in) 0 at → NoneIn fillers (keys_at t.cells t.pending_in) 0 seen → BeginsPull fillers t at next c → BeginsPull fillers t seen next c
begins-later fillers t at seen next c none_at none (fills place found) = fills place (found-later fillers (keys_at t.cells t.pending_in) at seen place none_at none found)
begins-later fillers t at seen next c none_at none (takes_last left) = takes_last (none-later fillers (keys_at t.cells t.pending_in) at seen none_at left)

-- some pulls, and then all others
module _ (r fillers : Range) (s t : State) (from seen : ℕ) (out : PullsOut r fillers s from seen t) (none_out : NoneIn r (keys_at t.cells t.pending_out) 0 from) (none_in : NoneIn fillers (keys_at t.cells t.pending_in) 0 seen) where
  -- none of the others yet, or some
  abbrev IsOn : ℕ → ℕ → State → Type 0
  IsOn from' seen' u = ((u ≡ t) × (from' ≡ 0) × NoneIn fillers (keys_at t.cells t.pending_in) 0 seen') ⊎ PullsOut r fillers s from' seen' u

  on-PullsOut : (from' seen' : ℕ) (u : State) → PullsOut r fillers t from' seen' u → IsOn from' seen' u
  on-PullsOut from' seen' u (begins at within none) = inl (refl, refl, none)
  on-PullsOut from' seen' u (pulls before place at next doomed v w c rest finds stands begun pulled) = elim (on-PullsOut before at v rest) [
    | inr was ↦ inr (pulls before place at next doomed v w c was finds stands begun pulled)
    | inl is ↦
        let first : IsFirstIn r (keys_at t.cells t.pending_out) 0 place = rw (is.0, is.1) at finds in
        let found = found-later r (keys_at t.cells t.pending_out) 0 from place (λ k f l. absurd (omega (arith, f, l))) none_out first in
        let begun_here = begins-later fillers t at seen next c is.2 none_in (rw is.0 at begun) in
        inr (pulls from place seen next doomed v w c (rw is.0 out) (rw is.0 found) stands (rw is.0 begun_here) pulled)
  ]

  pub PullsAll-on : (u : State) → PullsAll r fillers t u → PullsAll r fillers s u
  PullsAll-on u all = elim (on-PullsOut all.from all.seen u all.pulls) [
    | inr was ↦ record { from = all.from; seen = all.seen; pulls = was; none = all.none }
    | inl is ↦ record {
      from = from;
      seen = seen;
      pulls = rw is.0 out;
      none = λ k f l. all.none k (omega (arith, is.1)) l;
    }
  ]

-- the first pulls, each by a filler, are pulls
module _ (r fillers : Range) (s t : State) (intact : IsIntact s []) (behind : r.high ≤ fillers.low) (filled : IsFilled r fillers s t) where
  onward : FillsOn r fillers (PullsOut r fillers s)
  onward from place at next u v before whole finds found leads =
      let within : place < length u.pending_out = omega (arith, finds.within, length-map u.pending_out (key_at u.cells)) in
      let d : Handle = get_or u.pending_out place no_handle in
      pulls from place at next d u v (lifted next u) before finds (StandsAt-get_or u.pending_out place no_handle within) (fills next found) (Pulls-Draws d (lifted next u) v leads)

  module _ (seen : ℕ) (within : seen ≤ length s.pending_in) (none : NoneIn fillers (keys_at s.cells s.pending_in) 0 seen) where
    all-filled : AreFilled r fillers (PullsOut r fillers s) filled.count filled.low filled.edge (doomed_first r fillers filled.count s) s (filled_by r fillers filled.count filled.low filled.edge filled.high s)
    all-filled =
        fills-on r fillers (PullsOut r fillers s) onward filled.count filled.low filled.edge filled.high s 0 seen (record { intact = intact; marks_are = filled.marks_are; edge_is = filled.edge_is; beyond = filled.beyond; behind = behind }) (omega (arith, filled.count_is)) (omega (arith, filled.count_is)) (begins seen within none) (λ k f l. absurd (omega (arith, f, l))) none

    -- all others follow
    pub PullsAll-filled : (u : State) → PullsAll r fillers t u → PullsAll r fillers s u
    PullsAll-filled u all =
        let so = all-filled in
        let is : filled_by r fillers filled.count filled.low filled.edge filled.high s ≡ t = sym filled.after in
        PullsAll-on r fillers s t so.from so.seen (subst (λ (x : State). PullsOut r fillers s so.from so.seen x) is so.on) (subst (λ (x : State). NoneIn r (keys_at x.cells x.pending_out) 0 so.from) is so.none_out) (subst (λ (x : State). NoneIn fillers (keys_at x.cells x.pending_in) 0 so.seen) is so.none_in) u all

  room-buried : (hs : List Handle) (x : State) → (buried_all hs x).column_room ≡ x.column_room
  room-buried [] x = refl
  room-buried (h ∷ hs) x = room-buried hs _

  pub room-filled : t.column_room ≡ s.column_room
  room-filled = ap (λ (x : State). x.column_room) filled.after ∙ room-buried (doomed_first r fillers filled.count s) _
