-- What one carry does under ripple.
use Rattle.std.proofs.Common.{◌≡◌, ◌⊎◌, ℕ, ◌+◌, ◌*◌, ◌<◌, ◌≤◌, [], ◌∷◌, ◌++◌, length, get_or, Some, refl, ap, ◌∙◌, inl, inr, arith, length-append}
use Rattle.std.specs.List.{remove}
use Rattle.std.specs.Option.{unwrap_or}
use Rattle.std.proofs.lemmas.List.Edits.{length-remove}
use Rattle.crack_row.specs.Ranges.{Range}
use Rattle.crack_row.specs.declared.command.Policy.TheVariants.{Ripple}
use Rattle.crack_arena.specs.Arena.{Handle, times, slots}
use Rattle.crack_index.specs.Marks.{bounds_of}
use Rattle.crack_state.specs.State.{State, Carried, IsIntact, greatest}
use Rattle.crack_state.specs.Steps.{hand_key, IsDoomed, lifted, pushed_on, appended, buried, returned}
use Rattle.crack_state.specs.Merge.{Follows, Tallies, Counts, IsExact, edge}
use Rattle.crack_state.proofs.AdvanceLaws.{CarriedIn, CarriedIn-appended, CarriedIn-buried, StillReads-refl}
use Rattle.crack_state.proofs.BuryLaws.{IsIntact-buried}
use Rattle.crack_state.proofs.Counters.{raised_counter}
use Rattle.crack_state.proofs.FollowLaws.{Pushes, Follows-trans, Follows-lifted, Follows-Pushes}
use Rattle.crack_state.proofs.OutsideLaws.{SomeOf-refl}
use Rattle.crack_state.proofs.PullLaws.{IsIntact-returned, Follows-returned}
use Rattle.crack_state.proofs.StepLaws.{IsIntact-lifted, IsIntact-pushed_on, IsIntact-appended}
use Rattle.crack_merge.specs.Loops.{PutsIn}
use Rattle.crack_merge.specs.Merges.{Carries, buries, evicts, ends, goes_on}
use Rattle.crack_merge.specs.Near.{piece_count, MovesNear}
use Rattle.crack_merge.proofs.EdgeLaws.{IsRangeOf, IsRangeOf-follows, high_within, StaysOutside, StaysOutside-same, StaysOutside-trans, StaysOutside-appended}
use Rattle.crack_merge.proofs.Rippling.{pieces_ahead-few, Ripples, Ripples-refl, Ripples-pushed_on}

-- the row that was first after the range was evicted, and the range's end has moved up
pub record EvictsOne (s t : State) (r : Range) (i : ℕ) : Type 0 where
  pub evicted : Handle
  pub pending_in : t.pending_in ≡ remove s.pending_in i ++ evicted ∷ []
  pub within : edge s r.high < length s.column
  pub up : edge s r.high < edge t r.high
  pub is : (d : Handle) → get_or s.column (edge s r.high) d ≡ evicted

-- the i-th pending insertion, one of the range, was carried
pub record CarriesNear (s t : State) (r : Range) (i : ℕ) : Type 0 where
  pub puts : PutsIn Ripple s t
  pub intact : IsIntact t []
  pub stays : StaysOutside s t r
  pub moves : MovesNear s t r
  pub left : (t.pending_in ≡ remove s.pending_in i) ⊎ EvictsOne s t r i

-- a carry that ends at a row to be evicted counts what one counts that ends at the column's end, and that row
tallies_evicted : (s : State) (i : ℕ) (c : Carried) → i < length s.pending_in → IsIntact s [] → IsIntact c.store (c.hand ∷ []) → Pushes (lifted i s) c → Tallies Ripple s (returned c)
tallies_evicted s i c inside intact now pushes =
    let ended = ((CarriedIn-appended s i c inside intact pushes).advances Ripple).tallies in
    let counter = raised_counter c.store.tally.evicted in
    let evicted = ap (λ (x : State). x.tally.evicted) pushes.same in
    let gone = length-remove s.pending_in i inside in
    let left = ap (λ (x : State). length x.pending_in) pushes.same in
    let more = length-append c.store.pending_in (c.hand ∷ []) in
    let counts : IsExact (returned c).tally → Counts s (appended c) (length s.marks + 1) = λ exact.
    ended.counts (record { insertions = exact.insertions; deletions = exact.deletions; evicted = omega (arith, exact.evicted, counter.rises now.counted.evicted); moved = exact.moved; pulled = exact.pulled }) in
    record {
      rises = record { insertions = ended.rises.insertions; deletions = ended.rises.deletions; evicted = omega (arith, evicted, counter.rises now.counted.evicted); moved = ended.rises.moved; pulled = ended.rises.pulled };
      counts = λ exact. let was = counts exact in record { insertions = omega (arith, was.insertions, counter.exact exact.evicted, more); deletions = was.deletions; moved = was.moved; pulled = was.pulled };
      evicts = λ exact. omega (arith, (counts exact).insertions, counter.exact exact.evicted, evicted, gone, left);
    }

-- it moved at most as many rows as the range has pieces
moved_few : (s : State) (r : Range) (i : ℕ) (c : Carried) → IsIntact s [] → r.low ≤ hand_key (lifted i s) → Ripples r (lifted i s) c → c.store.tally.insertions < greatest → c.store.tally.moved + s.tally.insertions * piece_count s r ≤ s.tally.moved + c.store.tally.insertions * piece_count s r
moved_few s r i c intact above ripples exact =
    let counter = raised_counter s.tally.insertions in
    let same = ap (λ (x : State). x.tally.insertions) ripples.pushes.same in
    let one : c.store.tally.insertions ≡ s.tally.insertions + 1 = same ∙ counter.exact (omega (arith, exact, same)) in
    let few = pieces_ahead-few r.low (hand_key (lifted i s)) r.high (bounds_of s.marks) above in
    more_moved c.store.tally.moved s.tally.moved s.tally.insertions c.store.tally.insertions (piece_count s r) one (omega (arith, ripples.moved, few))
  where
    more_moved : (moved before insertions after q : ℕ) → after ≡ insertions + 1 → moved ≤ before + q → moved + insertions * q ≤ before + after * q
    more_moved moved before insertions after q one few = rw one (grind arith)

module _ (s : State) (r : Range) (i : ℕ) (of : IsRangeOf s r) (inside : i < length s.pending_in) (intact : IsIntact s []) (above : r.low ≤ hand_key (lifted i s)) where
  follows_pushed : (c : Carried) → Ripples r (lifted i s) c → Follows s c.store
  follows_pushed c ripples = Follows-trans s (lifted i s).store c.store (Follows-lifted i s) (Follows-Pushes (lifted i s) c ripples.pushes)

  of_pushed : (c : Carried) → Ripples r (lifted i s) c → IsRangeOf c.store r
  of_pushed c ripples = IsRangeOf-follows s c.store r (follows_pushed c ripples) of

  -- where the carry has ended
  CarriesNear-ended : (c : Carried) (t : State) → Ripples r (lifted i s) c → PutsIn Ripple s t → IsIntact t [] → StaysOutside c.store t r → t.tally.insertions ≡ c.store.tally.insertions → t.tally.moved ≡ c.store.tally.moved → (t.pending_in ≡ remove s.pending_in i) ⊎ EvictsOne s t r i → CarriesNear s t r i
  CarriesNear-ended c t ripples puts now stays insertions moved left =
      let lifts : StaysOutside s (lifted i s).store r = StaysOutside-same s (lifted i s).store r refl (high_within s [] r of intact) in
      record {
        puts = puts;
        intact = now;
        stays = StaysOutside-trans s c.store t r (StaysOutside-trans s (lifted i s).store c.store r lifts ripples.stays) stays;
        moves = λ exact. rw (insertions, moved) (moved_few s r i c intact above ripples (rw insertions at exact.insertions));
        left = left;
      }

  CarriesNear-carried : (c : Carried) (t : State) → Ripples r (lifted i s) c → CarriedIn s t i → IsIntact t [] → StaysOutside c.store t r → t.tally.insertions ≡ c.store.tally.insertions → t.tally.moved ≡ c.store.tally.moved → CarriesNear s t r i
  CarriesNear-carried c t ripples carried now stays insertions moved =
      CarriesNear-ended c t ripples (record { advances = carried.advances Ripple; few = omega (arith, carried.few, ap length carried.pending_in, length-remove s.pending_in i inside) }) now stays insertions moved (inl carried.pending_in)

  CarriesNear-returned : (c : Carried) → Ripples r (lifted i s) c → ¬ IsDoomed c → r.high ≤ hand_key c → IsIntact c.store (c.hand ∷ []) → CarriesNear s (returned c) r i
  CarriesNear-returned c ripples kept behind now =
      let same = ripples.pushes.same in
      let pending_in = ap (λ (x : State). x.pending_in) same in
      let pending_out = ap (λ (x : State). x.pending_out) same in
      let met = ripples.met behind in
      let none : times c.hand.slot (slots c.store.pending_out) ≡ 0 = omega (arith, kept) in
      let puts : PutsIn Ripple s (returned c) = record {
        advances = record {
          follows = Follows-trans s c.store (returned c) (follows_pushed c ripples) (Follows-returned c);
          tallies = tallies_evicted s i c inside intact now ripples.pushes;
          reads = rw (ap (λ (x : State). x.cells) same) (StillReads-refl s.cells);
          pending_out = rw pending_out (SomeOf-refl s.pending_out);
        };
        few = omega (arith, ap length pending_out, ap length pending_in, length-append c.store.pending_in (c.hand ∷ []), length-remove s.pending_in i inside);
      } in
      CarriesNear-ended c (returned c) ripples puts (IsIntact-returned c none now) (StaysOutside-same c.store (returned c) r refl ripples.stays.within) refl refl (inr (record { evicted = c.hand; pending_in = ap (λ hs. hs ++ c.hand ∷ []) pending_in; within = met.within; up = met.up; is = met.is }))

  -- a carry that goes on from where pushes have led
  carried_from : (c : Carried) (t : State) → Ripples r (lifted i s) c → IsIntact c.store (c.hand ∷ []) → Carries (Some r.high) c t → CarriesNear s t r i
  carried_from c t ripples now (buries d doomed) =
      CarriesNear-carried d (buried d) ripples (CarriedIn-buried s i d inside intact ripples.pushes doomed now) (IsIntact-buried d doomed now) (StaysOutside-same d.store (buried d) r refl ripples.stays.within) refl refl
  carried_from c t ripples now (evicts d bound kept is behind) =
      let same : r.high ≡ bound = ap (λ o. unwrap_or o 0) is in
      CarriesNear-returned d ripples kept (omega (arith, same, behind)) now
  carried_from c t ripples now (ends d kept below at_end) =
      let stays = StaysOutside-appended d r (of_pushed d ripples) now ripples.above below at_end in
      CarriesNear-carried d (appended d) ripples (CarriedIn-appended s i d inside intact ripples.pushes) (IsIntact-appended d at_end now) stays refl refl
  carried_from c t ripples now (goes_on d u kept below before rest) =
      carried_from (pushed_on d) u (Ripples-pushed_on r (lifted i s) d (of_pushed d ripples) now below before ripples) (IsIntact-pushed_on d before now) rest

  pub CarriesNear-Carries : (t : State) → hand_key (lifted i s) < r.high → Carries (Some r.high) (lifted i s) t → CarriesNear s t r i
  CarriesNear-Carries t below carries =
      carried_from (lifted i s) t (Ripples-refl r (lifted i s) above below (high_within s [] r of intact)) (IsIntact-lifted i s inside intact) carries
