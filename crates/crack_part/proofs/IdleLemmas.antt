-- A merge if no row is pending: there is nothing to do.
use Rattle.std.proofs.Common.{◌≡◌, ◌≤◌, false, [], refl, sym, arith}
use Rattle.std.proofs.Math.Nat.{max-eq_left}
use Rattle.crack_row.specs.Ranges.{Range}
use Rattle.crack_row.specs.declared.command.Policy.{Policy}
use Rattle.crack_row.specs.declared.command.Policy.TheVariants.{Complete, Gradual, Ripple, Auto}
use Rattle.crack_state.specs.State.{State, IsIntact}
use Rattle.crack_state.specs.Merge.{IsCracked, IsSettled, Leaves, LeavesOutside, Evicts, is_touched}
use Rattle.crack_state.specs.Merge.SomeOf.{nothing}
use Rattle.crack_state.proofs.FollowLaws.{Follows-refl, Tallies-room}
use Rattle.crack_state.proofs.MergeLaws.{Merges-untouched}
use Rattle.crack_state.proofs.OutsideLaws.{SomeOf-none, SomeOf-refl}
use Rattle.crack_merge.specs.Near.{MergesNear, fillers_of}
use Rattle.crack_part.specs.Parts.{LeavesNear, read_by, CracksBy, CracksAndMerges}
use Rattle.crack_part.proofs.KeepLemmas.{Keeps-cracked}

LeavesOutside-idle : (s : State) (r : Range) → s.pending_in ≡ [] → s.pending_out ≡ [] → LeavesOutside s s r
LeavesOutside-idle s r no_in no_out = record { some = rw no_out nothing; few = rw no_out (omega arith) }

Evicts-idle : (s : State) (r : Range) → s.pending_in ≡ [] → Evicts s r s.pending_in
Evicts-idle s r no_in = record { evicted = []; pending_in = rw no_in refl; some = SomeOf-none _; few = omega arith }

Ripples-idle : (s : State) (r : Range) → s.pending_in ≡ [] → s.pending_out ≡ [] → Leaves Ripple s s r
Ripples-idle s r no_in no_out = (
  s.pending_in,
  Evicts-idle s r no_in,
  record { count = 0; few = omega arith; loses = record { passed = 0; left_are = refl; count_is = refl } },
  LeavesOutside-idle s r no_in no_out,
)

Leaves-idle : (policy : Policy) (s : State) (r : Range) → s.pending_in ≡ [] → s.pending_out ≡ [] → is_touched s r ≡ false → Leaves (read_by policy) s s r
Leaves-idle Complete s r no_in no_out untouched = (rw untouched refl, rw untouched refl)
Leaves-idle Gradual s r no_in no_out untouched = (rw no_in refl, LeavesOutside-idle s r no_in no_out)
Leaves-idle Ripple s r no_in no_out untouched = Ripples-idle s r no_in no_out
Leaves-idle Auto s r no_in no_out untouched = Ripples-idle s r no_in no_out

MergesNear-idle : (s : State) (r : Range) → IsIntact s [] → IsSettled s r → s.pending_in ≡ [] → s.pending_out ≡ [] → MergesNear s s r
MergesNear-idle s r intact settled no_in no_out =
    let none : fillers_of s r ≡ 0 = rw (no_in, no_out) refl in
    record {
      filled = s;
      puts_in = record {
        follows = Follows-refl s;
        intact = intact;
        evicts = Evicts-idle s r no_in;
        pending_out = SomeOf-refl s.pending_out;
        few = omega arith;
        reads = λ h reads. refl;
        before = refl;
        behind = refl;
        long = sym (max-eq_left settled.within);
      };
      takes_out = record {
        follows = Follows-refl s;
        intact = intact;
        pending_in = record { passed = 0; left_are = refl; count_is = sym none };
        pending_out = rw no_out refl;
        reads = λ h reads. refl;
        long = omega (arith, none);
        behind = λ each. refl;
      };
    }

LeavesNear-idle : (policy : Policy) (s : State) (r : Range) → IsIntact s [] → IsSettled s r → s.pending_in ≡ [] → s.pending_out ≡ [] → LeavesNear policy s s r
LeavesNear-idle Complete s r intact settled no_in no_out = tt
LeavesNear-idle Gradual s r intact settled no_in no_out = tt
LeavesNear-idle Ripple s r intact settled no_in no_out = MergesNear-idle s r intact settled no_in no_out
LeavesNear-idle Auto s r intact settled no_in no_out = tt

-- a store that was cracked and has no pending row is merged
pub CracksAndMerges-idle : (policy : Policy) (s u : State) (r : Range) → r.low ≤ r.high → s.keys.low ≤ r.low → r.high ≤ s.keys.high → CracksBy policy s u r → IsCracked u r → IsIntact u [] → u.pending_in ≡ [] → u.pending_out ≡ [] → CracksAndMerges policy s u r
CracksAndMerges-idle policy s u r order low high cracks cracked intact no_in no_out =
    let untouched : is_touched u r ≡ false = rw (no_in, no_out) refl in
    let keys : u.keys ≡ s.keys = (Keeps-cracked policy s u r cracks).ends in
    let complete = Merges-untouched u r order (rw keys low) (rw keys high) cracked untouched intact in
    record {
      cracked = u;
      cracks = cracks;
      intact = intact;
      does = (
        record { follows = complete.follows; intact = intact; settled = complete.settled; leaves = Leaves-idle policy u r no_in no_out untouched },
        LeavesNear-idle (read_by policy) u r intact complete.settled no_in no_out,
        Tallies-room (read_by policy) u u (record { same = refl }),
      );
    }
