-- All pending deletions of a range in bulk: the same as one pull after another.
use Rattle.std.proofs.Common.{◌≡◌, ℕ, ◌<◌, ◌≤◌, [], length, get_or, None, refl, ap, arith}
use Rattle.std.proofs.lemmas.List.{length-map}
use Rattle.crack_row.specs.Ranges.{Range}
use Rattle.crack_arena.specs.Arena.{Handle, no_handle}
use Rattle.crack_arena.specs.Rows.{key_at, keys_at}
use Rattle.crack_pending.specs.Pending.{Finds, NoneIn}
use Rattle.crack_pending.proofs.Searches.{StandsAt-get_or}
use Rattle.crack_state.specs.State.{State, Carried, IsIntact}
use Rattle.crack_state.specs.Steps.{lifted_last, pulled_back}
use Rattle.crack_state.specs.Pulled.{pulled_in_bulk}
use Rattle.crack_state.proofs.AllPulledLaws.{DrawsOn, pulled_in_bulk-through}
use Rattle.crack_state.proofs.Draws.{Draws}
use Rattle.crack_merge.specs.Merges.{takes_last, Pulls, reaches, exchanges, draws, PullsOut, PullsAll, begins, pulls}

-- if a pull leads to a store, it leads there by its rules
pub Pulls-Draws : (d : Handle) (c : Carried) (t : State) → Draws d c t → Pulls d c t
Pulls-Draws d c t (Draws.reaches e is) = reaches e is
Pulls-Draws d c t (Draws.exchanges e j other at from to) = exchanges e j other at from to
Pulls-Draws d c t (Draws.draws e j u other at before rest) = draws e j u other at before (Pulls-Draws d (pulled_back e) u rest)

-- and leaves the pending insertions unchanged
pending-Draws : (d : Handle) (c : Carried) (t : State) → Draws d c t → t.pending_in ≡ c.store.pending_in
pending-Draws d c t (Draws.reaches e is) = refl
pending-Draws d c t (Draws.exchanges e j other at from to) = refl
pending-Draws d c t (Draws.draws e j u other at before rest) = pending-Draws d (pulled_back e) u rest

module _ (r fillers : Range) (s : State) where
  -- this many were pulled, and no filler is found from the place on
  record ArePulledOut (from : ℕ) (t : State) : Type 0 where
    seen : ℕ
    out : PullsOut r fillers s from seen t
    none : Finds fillers (keys_at t.cells t.pending_in) seen None

  onward : DrawsOn r ArePulledOut
  onward from place t v before whole finds leads =
      let within : place < length t.pending_out = omega (arith, finds.within, length-map t.pending_out (key_at t.cells)) in
      let d : Handle = get_or t.pending_out place no_handle in
      let same : v.pending_in ≡ t.pending_in = pending-Draws d (lifted_last t) v leads in
      record {
        seen = length t.pending_in;
        out = pulls from place before.seen (length t.pending_in) d t v (lifted_last t) before.out finds (StandsAt-get_or t.pending_out place no_handle within) (takes_last before.none) (Pulls-Draws d (lifted_last t) v leads);
        none = λ k from_on up_to. absurd (omega (arith, from_on, up_to, length-map v.pending_in (key_at v.cells), ap length same));
      }

  pub PullsAll-in_bulk : (seen : ℕ) → IsIntact s [] → seen ≤ length s.pending_in → NoneIn fillers (keys_at s.cells s.pending_in) 0 seen → Finds fillers (keys_at s.cells s.pending_in) seen None → PullsAll r fillers s (pulled_in_bulk r s)
  PullsAll-in_bulk seen intact within passed none =
      let all = pulled_in_bulk-through r ArePulledOut onward s (record { seen = seen; out = begins seen within passed; none = none }) intact in
      record { from = all.from; seen = all.on.seen; pulls = all.on.out; none = all.none }
