-- The effect of a whole ripple merge.
use Rattle.std.proofs.Common.{◌≡◌, ℕ, ◌+◌, ◌*◌, ◌<◌, ◌≤◌, cond, List, [], ◌++◌, length, get_or, take, drop, Some, ap, ◌∙◌, inl, inr, arith, mul-le-mul_right}
use Rattle.std.proofs.Math.Nat.{min-le_right, le-min}
use Rattle.std.specs.List.{All}
use Rattle.std.proofs.lemmas.List.{length-map, take_all, drop_all, append-nil}
use Rattle.std.proofs.lemmas.List.Sums.{sum_by-remove}
use Rattle.std.proofs.lemmas.List.Elements.{All-append, All-take}
use Rattle.crack_row.specs.Ranges.{Range, IsIn, is_in}
use Rattle.crack_row.specs.declared.command.Policy.TheVariants.{Ripple}
use Rattle.crack_arena.specs.Arena.{Handle, no_handle}
use Rattle.crack_arena.specs.Rows.{key_at, keys_at}
use Rattle.crack_pending.specs.Pending.{Finds}
use Rattle.crack_pending.proofs.Searches.{StandsAt-get_or, is_in-true, is_in-false}
use Rattle.crack_state.specs.State.{State, Reads, IsIntact}
use Rattle.crack_state.specs.Steps.{SameButRoom}
use Rattle.crack_state.specs.Merge.{ReadsOutside, Merges, Tallies, SomeOf, LosesFirst, Fills, beyond, outside_of, count_inside}
use Rattle.crack_state.proofs.AdvanceLaws.{StillReads-trans, keys_still, outside_of-still}
use Rattle.crack_state.proofs.BeyondLaws.{beyond-follows}
use Rattle.crack_state.proofs.FollowLaws.{Follows-trans, Follows-room, Tallies-trans, Tallies-room, length_marks-Follows}
use Rattle.crack_state.proofs.GradualLaws.{reads_outside, LeavesOutside-both}
use Rattle.crack_state.proofs.OutsideLaws.{All-outside, outside_of-all, length-outside, length-SomeOf_outside}
use Rattle.crack_state.proofs.SettledLaws.{IsSettled-of}
use Rattle.crack_state.proofs.StepLaws.{IsIntact-room}
use Rattle.crack_merge.specs.Merges.{CarriesAll, CarriesSome, PullsAll, BuriesFew, EvictsFirst}
use Rattle.crack_merge.proofs.PullLaws.{TakesInside-PullsOut, found_key}
use Rattle.crack_merge.proofs.RangeLaws.{LacksFirst-missed}
use Rattle.crack_merge.specs.Near.{PutsInNear, TakesOutNear, MovesNear, fillers_of, piece_count}
use Rattle.crack_merge.proofs.EdgeLaws.{IsRangeOf, IsRangeOf-follows}
use Rattle.crack_merge.proofs.Filling.{LosesFirst-pulled, long-pulled, HadEach-pulled, StaysBehind-PullsOut}
use Rattle.crack_merge.proofs.Putting.{StopsIn, StopsIn-PutsNear, Fills-none, SomeOf-without, All-SomeOf, behind_range, PutsNear-CarriesIn, PutsNear-room, PutsInNear-all}

-- the whole contract of a call that puts rows in
pub record PutIn (s t : State) (r : Range) : Type 0 where
  pub near : PutsInNear s t r
  pub tallies : Tallies Ripple s t
  pub moves : MovesNear s t r
  pub few : BuriesFew s t

pub PutIn-carried : (s t : State) (r : Range) → IsRangeOf s r → IsIntact s [] → CarriesAll (Some r.high) r s t → PutIn s t r
PutIn-carried s t r of intact all =
    let was = PutsNear-CarriesIn s r of intact all.from t all.carries in
    record { near = PutsInNear-all s r of intact all.from t was all.none; tallies = was.puts.advances.tallies; moves = was.moves; few = was.puts.few }

-- its contract if it is refused
pub StopsIn-carried : (s t : State) (r : Range) → IsRangeOf s r → IsIntact s [] → CarriesSome (Some r.high) r s t → StopsIn s t r
StopsIn-carried s t r of intact part =
    let was = PutsNear-CarriesIn s r of intact part.from part.last part.carries in
    let now = PutsNear-room s part.last t r part.from part.room was in
    StopsIn-PutsNear s r of intact part.from t now

-- the contract of the merge if no memory is found for a filler: the rows put in stay
pub StopsIn-filled : (s m t : State) (r : Range) → PutIn s m r → SameButRoom m t → StopsIn s t r
StopsIn-filled s m t r was room =
    let puts = was.near in
    let evicts = puts.evicts in
    let same_in : t.pending_in ≡ m.pending_in = ap (λ (x : State). x.pending_in) room.same in
    let same_out : t.pending_out ≡ m.pending_out = ap (λ (x : State). x.pending_out) room.same in
    let all = take_all (length s.pending_in) s.pending_in (omega arith) in
    let behind = drop_all (length s.pending_in) s.pending_in (omega arith) in
    let first : EvictsFirst s r t.pending_in = record {
      passed = length s.pending_in;
      within = omega arith;
      evicted = evicts.evicted;
      pending_in = same_in ∙ rw (all, behind, append-nil (outside_of s.cells r s.pending_in)) evicts.pending_in;
      some = evicts.some;
      few = rw all evicts.few;
    } in
    record {
      stops = record {
        follows = Follows-trans s m t puts.follows (Follows-room m t room);
        intact = IsIntact-room m t [] room puts.intact;
        tallies = Tallies-trans Ripple s m t (length_marks-Follows s m puts.follows) was.tallies (Tallies-room Ripple m t room);
        taken = (t.pending_in, first, Fills-none s t r);
        pending_out = rw same_out puts.pending_out;
      };
      unfilled = first;
      few = omega (arith, was.few, ap length same_in, ap length same_out);
    }

-- the whole contract of a call that takes rows out
pub record TakenOut (s t : State) (r : Range) : Type 0 where
  pub near : TakesOutNear s t r
  pub tallies : Tallies Ripple s t
  pub moves : MovesNear s t r

-- no row is moved, and no counter of those put in falls
moves_none : (moved before insertions after q : ℕ) → moved ≡ before → insertions ≤ after → moved + insertions * q ≤ before + after * q
moves_none moved before insertions after q same rises = omega (arith, same, mul-le-mul_right q rises)

pub TakenOut-pulled : (s t : State) (r : Range) → IsRangeOf s r → IsIntact s [] → PullsAll r (beyond s r) s t → TakenOut s t r
TakenOut-pulled s t r of intact all =
    let was = TakesInside-PullsOut Ripple r (beyond s r) s all.from all.seen t intact all.pulls in
    let out = LacksFirst-missed s.cells r s.pending_out t.pending_out all.from was.lacks (rw (keys_still s.cells t.cells t.pending_out was.advances.reads was.intact.owned.doomed_reads) at all.none) in
    record {
      near = record {
        follows = was.advances.follows;
        intact = was.intact;
        pending_in = LosesFirst-pulled s r of intact all.from all.seen t was out;
        pending_out = out;
        reads = was.advances.reads;
        long = long-pulled s r of intact all.from all.seen t was out;
        behind = λ each. StaysBehind-PullsOut s r of intact all.from all.seen t all.pulls (HadEach-pulled s r of intact all.from all.seen t was out each);
      };
      tallies = was.advances.tallies;
      moves = λ exact. moves_none t.tally.moved s.tally.moved s.tally.insertions t.tally.insertions (piece_count s r) was.moved was.advances.tallies.rises.insertions;
    }

-- room was made before
pub TakenOut-room : (s v t : State) (r : Range) → SameButRoom s v → TakenOut v t r → TakenOut s t r
TakenOut-room s v t r room was =
    let made = rw room.same at was in
    let near = made.near in
    record {
      near = record {
        follows = Follows-trans s v t (Follows-room s v room) was.near.follows;
        intact = near.intact;
        pending_in = record { passed = near.pending_in.passed; left_are = near.pending_in.left_are; count_is = near.pending_in.count_is };
        pending_out = near.pending_out;
        reads = near.reads;
        long = near.long;
        behind = near.behind;
      };
      tallies = Tallies-trans Ripple s v t (length_marks-Follows s v (Follows-room s v room)) (Tallies-room Ripple s v room) was.tallies;
      moves = made.moves;
    }

-- room was made before the first pull
pub TakenOut-made : (s v t : State) (r : Range) → IsRangeOf s r → IsIntact s [] → SameButRoom s v → PullsAll r (beyond s r) v t → TakenOut s t r
TakenOut-made s v t r of intact room all =
    let follows = Follows-room s v room in
    TakenOut-room s v t r room (TakenOut-pulled v t r (IsRangeOf-follows s v r follows of) (IsIntact-room s v [] room intact) (rw (beyond-follows s v r follows) all))

-- if a search finds a row of the range, not all are outside it, and some are in it
module _ (s : State) (r : Range) (hs : List Handle) (from place : ℕ) (found : Finds r (keys_at s.cells hs) from (Some place)) where
  found_there : place < length hs
  found_there = omega (arith, found.within, length-map hs (key_at s.cells))

  found_inside : IsIn r (key_at s.cells (get_or hs place no_handle))
  found_inside = found_key r s hs from place (get_or hs place no_handle) found (StandsAt-get_or hs place no_handle found_there)

  pub not_outside : All (ReadsOutside s.cells r) hs → ⊥
  not_outside outside = elim (outside place no_handle found_there) [
    | inl below ↦ omega (arith, found_inside.0, below)
    | inr above ↦ omega (arith, found_inside.1, above)
  ]

  pub some_inside : 0 < count_inside s.cells r hs
  some_inside =
      let inside = is_in-true r (key_at s.cells (get_or hs place no_handle)) found_inside in
      let less = rw inside at (sum_by-remove (λ (h : Handle). cond (is_in r (key_at s.cells h)) 1 0) hs place no_handle found_there) in
      omega (arith, less)

-- there is a filler
pub fillers_some : (s : State) (r : Range) (k n : ℕ) → Finds r (keys_at s.cells s.pending_out) 0 (Some k) → Finds (beyond s r) (keys_at s.cells s.pending_in) 0 (Some n) → 0 < fillers_of s r
fillers_some s r k n doomed filler = le-min (some_inside s (beyond s r) s.pending_in 0 n filler) (some_inside s r s.pending_out 0 k doomed)

-- no row of the range is doomed
pub fillers_none : (s : State) (r : Range) → All (ReadsOutside s.cells r) s.pending_out → fillers_of s r ≡ 0
fillers_none s r outside =
    let all : outside_of s.cells r s.pending_out ≡ s.pending_out = outside_of-all s.cells r s.pending_out (λ k d within. is_in-false r (key_at s.cells (get_or s.pending_out k d)) (λ inside. elim (outside k d within) [
      | inl below ↦ omega (arith, inside.0, below)
      | inr above ↦ omega (arith, inside.1, above)
    ])) in
    omega (arith, min-le_right (count_inside s.cells (beyond s r) s.pending_in) (count_inside s.cells r s.pending_out), length-outside s.cells r s.pending_out, ap length all)

-- both parts
module _ (s m t : State) (r : Range) (of : IsRangeOf s r) (intact : IsIntact s []) (puts : PutsInNear s m r) (takes : TakesOutNear m t r) where
  evicted_outside : All (ReadsOutside s.cells r) puts.evicts.evicted
  evicted_outside = let behind = behind_range s r puts.evicts.evicted of intact puts.evicts.some in λ k d within. inr (behind k d within)

  pending_outside : All (ReadsOutside s.cells r) m.pending_in
  pending_outside = rw puts.evicts.pending_in (All-append (ReadsOutside s.cells r) (outside_of s.cells r s.pending_in) puts.evicts.evicted (All-outside s.cells r s.pending_in) evicted_outside)

  -- pending deletions of the range are no more than before
  fewer_doomed : count_inside m.cells r m.pending_out ≤ count_inside s.cells r s.pending_out
  fewer_doomed =
      let still = outside_of-still s.cells m.cells r m.pending_out puts.reads puts.intact.owned.doomed_reads in
      omega (arith, ap length still, length-outside m.cells r m.pending_out, length-outside s.cells r m.pending_out, length-outside s.cells r s.pending_out, length-SomeOf_outside s.cells r m.pending_out s.pending_out puts.pending_out)

  Fills-near : Fills s t r m.pending_in
  Fills-near =
      let loses : LosesFirst m.cells (beyond s r) (fillers_of m r) m.pending_in t.pending_in = rw (beyond-follows s m r puts.follows) at takes.pending_in in
      let front = take loses.passed m.pending_in in
      let still = outside_of-still s.cells m.cells (beyond s r) front puts.reads (All-take (Reads m.cells) loses.passed m.pending_in puts.intact.owned.pending_reads) in
      record {
        count = fillers_of m r;
        few = omega (arith, min-le_right (count_inside m.cells (beyond m r) m.pending_in) (count_inside m.cells r m.pending_out), fewer_doomed);
        loses = record {
          passed = loses.passed;
          left_are = loses.left_are ∙ ap (λ hs. hs ++ drop loses.passed m.pending_in) still;
          count_is = omega (arith, loses.count_is, ap length still, length-outside m.cells (beyond s r) front, length-outside s.cells (beyond s r) front);
        };
      }

  pub Merges-near : Merges Ripple s t r
  Merges-near =
      let follows = Follows-trans s m t puts.follows takes.follows in
      let of_now = IsRangeOf-follows s t r follows of in
      let some : SomeOf t.pending_in m.pending_in = rw takes.pending_in.left_are (SomeOf-without m.cells (beyond m r) takes.pending_in.passed m.pending_in) in
      let pending = reads_outside s.cells t.cells r t.pending_in (StillReads-trans s.cells m.cells t.cells puts.reads takes.reads) takes.intact.owned.pending_reads (All-SomeOf (ReadsOutside s.cells r) t.pending_in m.pending_in some pending_outside) in
      let doomed = reads_outside m.cells t.cells r t.pending_out takes.reads takes.intact.owned.doomed_reads (rw takes.pending_out (All-outside m.cells r m.pending_out)) in
      record {
        follows = follows;
        intact = takes.intact;
        settled = IsSettled-of t r (omega (arith, of.some)) of_now.low of_now.high of_now.cracked pending doomed takes.intact;
        leaves = (m.pending_in, puts.evicts, Fills-near, LeavesOutside-both s m t r puts.pending_out puts.reads puts.intact puts.few takes.pending_out);
      }
