-- The effect of the carry of a pending insertion, and the invariant of the carries of a merge.
use Rattle.std.proofs.Common.{◌≡◌, ℕ, ◌<◌, ◌∷◌, [], length, None, ap, ◌∙◌, arith, ◌+◌, drop, refl}
use Rattle.std.specs.List.{remove}
use Rattle.std.proofs.lemmas.List.Edits.{length-remove}
use Rattle.std.proofs.lemmas.List.{drop-drop, length-drop}
use Rattle.crack_row.specs.Ranges.{Range}
use Rattle.crack_row.specs.declared.command.Policy.{Policy}
use Rattle.crack_row.specs.declared.command.Policy.TheVariants.{Complete, Gradual}
use Rattle.crack_state.specs.State.{State, Carried, IsIntact}
use Rattle.crack_state.specs.Steps.{lifted, pushed_on, SameButRoom}
use Rattle.crack_state.specs.Inside.{Advances}
use Rattle.crack_state.proofs.AdvanceLaws.{Advances-room, Advances-trans, CarriedIn, CarriedIn-appended, CarriedIn-buried, keys_still}
use Rattle.crack_state.proofs.BuryLaws.{IsIntact-buried}
use Rattle.crack_state.proofs.FollowLaws.{Pushes, Pushes-refl, Pushes-pushed_on}
use Rattle.crack_state.proofs.StepLaws.{IsIntact-lifted, IsIntact-pushed_on, IsIntact-appended, IsIntact-room}
use Rattle.crack_state.proofs.OutsideLaws.{LacksFirst, LacksFirst-none}
use Rattle.crack_merge.specs.Loops.{PutsIn}
use Rattle.crack_merge.specs.Merges.{BuriesFew, Carries, LeavesRest, Stops, buries, evicts, ends, goes_on, CarriesIn, begins, carries}
use Rattle.crack_merge.proofs.Ending.{HasRoom}
use Rattle.crack_merge.proofs.RangeLaws.{LacksFirst-found}

pub PutsIn-room : (policy : Policy) (s t : State) → SameButRoom s t → PutsIn policy s t
PutsIn-room policy s t room = record {
  advances = Advances-room policy s t room;
  few = omega (arith, ap (λ (x : State). length x.pending_in) room.same, ap (λ (x : State). length x.pending_out) room.same);
}

pub PutsIn-trans : (policy : Policy) (s t u : State) → PutsIn policy s t → PutsIn policy t u → PutsIn policy s u
PutsIn-trans policy s t u a b = record { advances = Advances-trans policy s t u a.advances b.advances; few = omega (arith, a.few, b.few) }

-- no memory was found on the way
pub Stops-Advances : (policy : Policy) (s t : State) (r : Range) → Advances policy s t → IsIntact t [] → LeavesRest policy s t r → Stops policy s t r
Stops-Advances policy s t r advances intact left =
    record { follows = advances.follows; intact = intact; tallies = advances.tallies; taken = left; pending_out = advances.pending_out }

-- a carry that goes on from where pushes have led
carried_from : (s : State) (i : ℕ) → i < length s.pending_in → IsIntact s [] → (c : Carried) (t : State) → Pushes (lifted i s) c → IsIntact c.store (c.hand ∷ []) → Carries None c t → CarriedIn s t i × IsIntact t []
carried_from s i inside intact c t pushes now (buries d doomed) = (CarriedIn-buried s i d inside intact pushes doomed now, IsIntact-buried d doomed now)
carried_from s i inside intact c t pushes now (evicts d bound kept is above) = absurd (cc)
carried_from s i inside intact c t pushes now (ends d kept below at_end) = (CarriedIn-appended s i d inside intact pushes, IsIntact-appended d at_end now)
carried_from s i inside intact c t pushes now (goes_on d u kept below before rest) =
    carried_from s i inside intact (pushed_on d) u (Pushes-pushed_on (lifted i s) d before now pushes) (IsIntact-pushed_on d before now) rest

-- the pending insertion at a place was put in
pub record PutsAt (s t : State) (place : ℕ) : Type 0 where
  pub puts : (policy : Policy) → PutsIn policy s t
  pub intact : IsIntact t []
  pub pending_in : t.pending_in ≡ remove s.pending_in place

-- room was made, and it was carried
pub PutsAt-Carries : (s v t : State) (place : ℕ) → SameButRoom s v → place < length s.pending_in → IsIntact s [] → Carries None (lifted place v) t → PutsAt s t place
PutsAt-Carries s v t place room within intact carrying =
    let same : v.pending_in ≡ s.pending_in = ap (λ (x : State). x.pending_in) room.same in
    let inside : place < length v.pending_in = rw same within in
    let made = IsIntact-room s v [] room intact in
    let done = carried_from v place inside made (lifted place v) t (Pushes-refl (lifted place v)) (IsIntact-lifted place v inside made) carrying in
    let few : BuriesFew v t = omega (arith, done.0.few, ap length done.0.pending_in, length-remove v.pending_in place inside) in
    record {
      puts = λ policy. PutsIn-trans policy s v t (PutsIn-room policy s v room) (record { advances = done.0.advances policy; few = few });
      intact = done.1;
      pending_in = done.0.pending_in ∙ ap (λ hs. remove hs place) same;
    }

-- complete: the first k, and no more, were put in
pub record PutsFirst (s t : State) (k : ℕ) : Type 0 where
  pub puts : PutsIn Complete s t
  pub pending_in : t.pending_in ≡ drop k s.pending_in

pub PutsFirst-room : (s t v : State) (k : ℕ) → PutsFirst s t k → SameButRoom t v → PutsFirst s v k
PutsFirst-room s t v k was room = record {
  puts = PutsIn-trans Complete s t v was.puts (PutsIn-room Complete t v room);
  pending_in = ap (λ (x : State). x.pending_in) room.same ∙ was.pending_in;
}

pub PutsFirst-none : (s v : State) → SameButRoom s v → PutsFirst s v 0
PutsFirst-none s v room = PutsFirst-room s s v 0 (record { puts = PutsIn-room Complete s s (record { same = refl }); pending_in = refl }) room

-- a row is on its way: wherever its carry ends, the first k were put in; the others are left, and it has room
pub record IsNext (s : State) (k : ℕ) (c : Carried) : Type 0 where
  pub puts : (t : State) → Carries None c t → PutsFirst s t k
  pub left : c.store.pending_in ≡ drop k s.pending_in
  pub room : HasRoom c.store

pub IsNext-next : (s t v : State) (k : ℕ) → PutsFirst s t k → SameButRoom t v → k < length s.pending_in → IsIntact t [] → HasRoom v → IsNext s (k + 1) (lifted 0 v)
IsNext-next s t v k was room less intact has_room =
    let some : 0 < length t.pending_in = omega (arith, ap length was.pending_in, length-drop k s.pending_in) in
    let rest : remove t.pending_in 0 ≡ drop (k + 1) s.pending_in = ap (λ hs. remove hs 0) was.pending_in ∙ drop-drop 1 k s.pending_in in
    record {
      puts = λ u carried. let one = PutsAt-Carries t v u 0 room some intact carried in record { puts = PutsIn-trans Complete s t u was.puts (one.puts Complete); pending_in = one.pending_in ∙ rest };
      left = ap (λ (x : State). remove x.pending_in 0) room.same ∙ rest;
      room = record { column = has_room.column; pending_in = has_room.pending_in };
    }

-- gradual: those of the range up to some place were put in, and the search goes on from `from`
pub record PutsInside (s t : State) (r : Range) (from : ℕ) : Type 0 where
  pub puts : PutsIn Gradual s t
  pub intact : IsIntact t []
  pub lacks : LacksFirst s.cells r s.pending_in t.pending_in from

-- as many as the search found were put in
pub PutsInside-CarriesIn : (s : State) (r : Range) (from : ℕ) (t : State) → IsIntact s [] → CarriesIn None r s from t → PutsInside s t r from
PutsInside-CarriesIn s r from t intact begins =
    record { puts = PutsIn-room Gradual s s (record { same = refl }); intact = intact; lacks = LacksFirst-none s.cells r s.pending_in }
PutsInside-CarriesIn s r from t intact (carries before place u v w rest finds room carried) =
    let was = PutsInside-CarriesIn s r before u intact rest in
    let found = LacksFirst-found s.cells r s.pending_in u.pending_in before was.lacks place (rw (keys_still s.cells u.cells u.pending_in was.puts.advances.reads was.intact.owned.pending_reads) at finds) in
    let one = PutsAt-Carries u v w place room found.0 was.intact carried in
    record { puts = PutsIn-trans Gradual s u w was.puts (one.puts Gradual); intact = one.intact; lacks = rw one.pending_in found.1 }
