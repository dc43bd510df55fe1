-- What the carries of a range do under ripple.
use Rattle.std.proofs.Common.{◌≡◌, ℕ, zero, suc, ◌+◌, ◌<◌, ◌≤◌, Bool, true, false, cond, filter, List, [], ◌∷◌, ◌++◌, length, get_or, take, drop, arith, Option, ◌-◌, Some, None, refl, sym, ap, ◌∙◌, inl, inr, length-append}
use Rattle.std.specs.Prelude.{not}
use Rattle.std.specs.List.{All, remove}
use Rattle.std.proofs.lemmas.List.{take-take, take_more, get_or-drop, length-map, length-drop, get_or-map, map-append, append-nil, append_assoc, take-append-drop}
use Rattle.std.proofs.lemmas.List.Elements.{All-nil, All-cons, All-head, All-tail, All-map}
use Rattle.std.proofs.lemmas.List.Edits.{remove-append_left}
use Rattle.crack_row.specs.Ranges.{Range, is_in}
use Rattle.crack_row.specs.declared.Row.{Row}
use Rattle.crack_row.specs.declared.command.Policy.TheVariants.{Ripple}
use Rattle.crack_arena.specs.Arena.{Cell, Handle, no_handle}
use Rattle.crack_arena.specs.Rows.{key_at, keys_at}
use Rattle.crack_index.specs.Marks.{bounds_of}
use Rattle.crack_pending.specs.Pending.{Finds}
use Rattle.crack_state.specs.State.{State, IsIntact}
use Rattle.crack_state.specs.Merge.{SomeOf, nothing, left_out, kept, Fills, edge, IsExact, outside_of, without_first}
use Rattle.crack_state.proofs.OutsideLaws.{SomeOf-none, SomeOf-refl, SomeOf-trans, LacksFirst, LacksFirst-none, length-outside}
use Rattle.crack_state.specs.Steps.{SameButRoom}
use Rattle.crack_state.proofs.AdvanceLaws.{keys_still}
use Rattle.crack_state.proofs.FollowLaws.{IsExact-before}
use Rattle.crack_state.proofs.StepLaws.{IsIntact-room}
use Rattle.crack_merge.specs.Loops.{PutsIn}
use Rattle.crack_merge.specs.Merges.{BuriesFew, CarriesIn, begins, carries, EvictsFirst, Stops}
use Rattle.crack_merge.proofs.CarryLaws.{PutsIn-room, PutsIn-trans, Stops-Advances}
use Rattle.crack_merge.proofs.RangeLaws.{LacksFirst-found, LacksFirst-missed, Finds-front}
use Rattle.crack_merge.proofs.EdgeLaws.{IsRangeOf, high_divides, IsRangeOf-follows, high_within, StaysOutside, StaysOutside-same, StaysOutside-trans, row_at_end, length-StaysOutside}
use Rattle.crack_merge.specs.Near.{MovesNear, PutsInNear}
use Rattle.crack_merge.proofs.Carrying.{CarriesNear, CarriesNear-Carries, EvictsOne}

-- some elements of a list's front are some of the list
pub SomeOf-front : (some all : List Handle) (n : ℕ) → SomeOf some (take n all) → SomeOf some all
SomeOf-front some all n of = SomeOf-trans some (take n all) all of (front all n)
  where
    front : (hs : List Handle) (n : ℕ) → SomeOf (take n hs) hs
    front [] zero = nothing
    front [] (suc n) = nothing
    front (h ∷ hs) zero = SomeOf-none (h ∷ hs)
    front (h ∷ hs) (suc n) = kept h (take n hs) hs (front hs n)

SomeOf-append : (some all other more : List Handle) → SomeOf some all → SomeOf other more → SomeOf (some ++ other) (all ++ more)
SomeOf-append some all other more nothing of = of
SomeOf-append some all other more (left_out h one rest first) of = left_out h (one ++ other) (rest ++ more) (SomeOf-append one rest other more first of)
SomeOf-append some all other more (kept h one rest first) of = kept h (one ++ other) (rest ++ more) (SomeOf-append one rest other more first of)

-- some elements of a list's front, and one after it
pub SomeOf-push : (some all : List Handle) (n k : ℕ) (h : Handle) → n ≤ k → k < length all → get_or all k h ≡ h → SomeOf some (take n all) → SomeOf (some ++ h ∷ []) (take (k + 1) all)
SomeOf-push some all n k h order within is of =
    let front = SomeOf-front some (take k all) n (rw (take-take n k all order) of) in
    rw (take_more all k h within, is) (SomeOf-append some (take k all) (h ∷ []) (h ∷ []) front (kept h [] [] nothing))

-- those of the handles that pass a test
SomeOf-filter : (test : Handle → Bool) (hs : List Handle) → SomeOf (filter test hs) hs
SomeOf-filter test [] = nothing
SomeOf-filter test (h ∷ hs) = by_test (test h) (SomeOf-filter test hs)
  where
    by_test : (b : Bool) → SomeOf (filter test hs) hs → SomeOf (cond b (h ∷ filter test hs) (filter test hs)) (h ∷ hs)
    by_test true some = kept h (filter test hs) hs some
    by_test false some = left_out h (filter test hs) hs some

-- without the first ones of a range are some
pub SomeOf-without : (cells : List (Cell Row)) (r : Range) (passed : ℕ) (hs : List Handle) → SomeOf (without_first cells r passed hs) hs
SomeOf-without cells r passed hs =
    let front = take passed hs in
    let back = drop passed hs in
    rw (take-append-drop passed hs) at (SomeOf-append (outside_of cells r front) front back back (SomeOf-filter (λ h. not (is_in r (key_at cells h))) front) (SomeOf-refl back))

-- a property of all elements holds of some of them
pub All-SomeOf : (P : Handle → Type 0) (some all : List Handle) → SomeOf some all → All P all → All P some
All-SomeOf P some all nothing holds = All-nil P
All-SomeOf P some all (left_out h one more of) holds = All-SomeOf P one more of (All-tail P h more holds)
All-SomeOf P some all (kept h one more of) holds = All-cons P h one (All-head P h more holds) (All-SomeOf P one more of (All-tail P h more holds))

-- some are no more than all
pub length-SomeOf : (some all : List Handle) → SomeOf some all → length some ≤ length all
length-SomeOf some all nothing = omega arith
length-SomeOf some all (left_out h one more of) = omega (arith, length-SomeOf one more of)
length-SomeOf some all (kept h one more of) = omega (arith, length-SomeOf one more of)

-- rows after the place of the range's end have their keys at or above it
pub behind_range : (s : State) (r : Range) (some : List Handle) → IsRangeOf s r → IsIntact s [] → SomeOf some (drop (edge s r.high) s.column) → All (λ h. r.high ≤ key_at s.cells h) some
behind_range s r some of intact is =
    let high = high_divides s [] r of intact in
    let place = edge s r.high in
    All-SomeOf (λ h. r.high ≤ key_at s.cells h) some (drop place s.column) is (λ k d within.
    let there : place + k < length s.column = omega (arith, within, length-drop place s.column) in
    rw (get_or-drop place s.column k d, ← get_or-map (key_at s.cells) s.column (place + k) d 0 there) (high.above (place + k) (omega arith) (omega (arith, there, length-map s.column (key_at s.cells)))))

-- the rows that two parts of a merge moved
pub MovesNear-trans : (s t u : State) (r : Range) → bounds_of t.marks ≡ bounds_of s.marks → (IsExact u.tally → IsExact t.tally) → MovesNear s t r → MovesNear t u r → MovesNear s u r
MovesNear-trans s t u r same before a b = λ exact.
    let first = a (before exact) in
    let second = rw same at (b exact) in
    omega arith

-- of the rows that were evicted, which are of those after the range, none is after where the range's end has moved to
pub record EvictsUpTo (s t : State) (r : Range) (evicted : List Handle) : Type 0 where
  pub count : ℕ
  pub before : edge s r.high + count ≤ edge t r.high
  pub some : SomeOf evicted (take count (drop (edge s r.high) s.column))

-- the whole contract of a call that puts rows in, if it is refused
pub record StopsIn (s t : State) (r : Range) : Type 0 where
  pub stops : Stops Ripple s t r
  pub unfilled : EvictsFirst s r t.pending_in
  pub few : BuriesFew s t

-- no filler is gone
pub Fills-none : (s t : State) (r : Range) → Fills s t r t.pending_in
Fills-none s t r = record { count = 0; few = omega arith; loses = record { passed = 0; left_are = refl; count_is = refl } }

-- pending insertions of the range up to some place were carried, and the search goes on from `from`
pub record PutsNear (s t : State) (r : Range) (from : ℕ) : Type 0 where
  pub puts : PutsIn Ripple s t
  pub intact : IsIntact t []
  pub stays : StaysOutside s t r
  pub moves : MovesNear s t r
  pub left : List Handle
  pub evicted : List Handle
  pub pending_in : t.pending_in ≡ left ++ evicted
  pub up_to : EvictsUpTo s t r evicted
  pub lacks : LacksFirst s.cells r s.pending_in left from

pub PutsNear-none : (s : State) (r : Range) → IsRangeOf s r → IsIntact s [] → PutsNear s s r 0
PutsNear-none s r of intact = record {
  puts = PutsIn-room Ripple s s (record { same = refl });
  intact = intact;
  stays = StaysOutside-same s s r refl (high_within s [] r of intact);
  moves = λ _. omega arith;
  left = s.pending_in;
  evicted = [];
  pending_in = sym (append-nil s.pending_in);
  up_to = record { count = 0; before = omega arith; some = nothing };
  lacks = LacksFirst-none s.cells r s.pending_in;
}

-- room for the next was made, or not found
pub PutsNear-room : (s t v : State) (r : Range) (from : ℕ) → SameButRoom t v → PutsNear s t r from → PutsNear s v r from
PutsNear-room s t v r from room was = record {
  puts = PutsIn-trans Ripple s t v was.puts (PutsIn-room Ripple t v room);
  intact = IsIntact-room t v [] room was.intact;
  stays = StaysOutside-trans s t v r was.stays (StaysOutside-same t v r (rw room.same refl) was.stays.within);
  moves = rw room.same was.moves;
  left = was.left;
  evicted = was.evicted;
  pending_in = ap (λ (x : State). x.pending_in) room.same ∙ was.pending_in;
  up_to = record { count = was.up_to.count; before = rw room.same was.up_to.before; some = was.up_to.some };
  lacks = was.lacks;
}

-- a search finds what it finds among those that are left, since the evicted are after the range
finds_left : (s t : State) (r : Range) (from : ℕ) (found : Option ℕ) → IsRangeOf s r → IsIntact s [] → (was : PutsNear s t r from) → Finds r (keys_at t.cells t.pending_in) from found → Finds r (keys_at s.cells was.left) from found
finds_left s t r from found of intact was finds =
    let behind = behind_range s r was.evicted of intact (SomeOf-front was.evicted (drop (edge s r.high) s.column) was.up_to.count was.up_to.some) in
    let same = keys_still s.cells t.cells t.pending_in was.puts.advances.reads was.intact.owned.pending_reads in
    Finds-front r (keys_at s.cells was.left) (keys_at s.cells was.evicted) from found (All-map (λ key. r.high ≤ key) (key_at s.cells) was.evicted behind) (rw (same, was.pending_in, map-append (key_at s.cells) was.left was.evicted) at finds)

-- the search found a row of the range, which was carried
module _ (s t u : State) (r : Range) (from place : ℕ) (was : PutsNear s t r from) (found : (place < length was.left) × LacksFirst s.cells r s.pending_in (remove was.left place) place) (carried : CarriesNear t u r place) where
  removed : remove t.pending_in place ≡ remove was.left place ++ was.evicted
  removed = ap (λ hs. remove hs place) was.pending_in ∙ remove-append_left was.left was.evicted place found.0

  PutsNear-with : (evicted : List Handle) → u.pending_in ≡ remove was.left place ++ evicted → EvictsUpTo s u r evicted → PutsNear s u r place
  PutsNear-with evicted pending_in up_to = record {
    puts = PutsIn-trans Ripple s t u was.puts carried.puts;
    intact = carried.intact;
    stays = StaysOutside-trans s t u r was.stays carried.stays;
    moves = MovesNear-trans s t u r was.puts.advances.follows.bounds (IsExact-before Ripple t u carried.puts.advances.tallies) was.moves carried.moves;
    left = remove was.left place;
    evicted = evicted;
    pending_in = pending_in;
    up_to = up_to;
    lacks = found.1;
  }

  EvictsUpTo-one : (one : EvictsOne t u r place) → EvictsUpTo s u r (was.evicted ++ one.evicted ∷ [])
  EvictsUpTo-one one =
      let behind = drop (edge s r.high) s.column in
      let gone = edge t r.high - edge s r.high in
      let at : edge s r.high + gone ≡ edge t r.high = omega (arith, was.stays.rises) in
      let is : get_or behind gone one.evicted ≡ one.evicted = get_or-drop (edge s r.high) s.column gone one.evicted ∙ ap (λ n. get_or s.column n one.evicted) at ∙ sym (row_at_end s t r one.evicted was.stays) ∙ one.is one.evicted in
      let within : gone < length behind = omega (arith, at, one.within, was.stays.long one.within, length-drop (edge s r.high) s.column) in
      record {
        count = gone + 1;
        before = omega (arith, at, one.up);
        some = SomeOf-push was.evicted behind was.up_to.count gone one.evicted (omega (arith, was.up_to.before, at)) within is was.up_to.some;
      }

  PutsNear-carried : PutsNear s u r place
  PutsNear-carried = elim carried.left [
    | inl same ↦
        PutsNear-with was.evicted (same ∙ removed) (record { count = was.up_to.count; before = omega (arith, was.up_to.before, carried.stays.rises); some = was.up_to.some })
    | inr one ↦
        let pending_in = one.pending_in ∙ ap (λ hs. hs ++ one.evicted ∷ []) removed ∙ append_assoc (remove was.left place) was.evicted (one.evicted ∷ []) in
        PutsNear-with (was.evicted ++ one.evicted ∷ []) pending_in (EvictsUpTo-one one)
  ]

module _ (s : State) (r : Range) (of : IsRangeOf s r) (intact : IsIntact s []) where
  pub PutsNear-CarriesIn : (from : ℕ) (t : State) → CarriesIn (Some r.high) r s from t → PutsNear s t r from
  PutsNear-CarriesIn from t begins = PutsNear-none s r of intact
  PutsNear-CarriesIn from t (carries last place before v u rest finds room carrying) =
      let cells : v.cells ≡ before.cells = ap (λ (x : State). x.cells) room.same in
      let pending_in : v.pending_in ≡ before.pending_in = ap (λ (x : State). x.pending_in) room.same in
      let was = PutsNear-room s before v r last room (PutsNear-CarriesIn last before rest) in
      let first : Finds r (keys_at v.cells v.pending_in) last (Some place) = rw (cells, pending_in) finds in
      let found = LacksFirst-found s.cells r s.pending_in was.left last was.lacks place (finds_left s v r last (Some place) of intact was first) in
      let within : place < length v.pending_in = omega (arith, first.within, length-map v.pending_in (key_at v.cells)) in
      let inside = rw (get_or-map (key_at v.cells) v.pending_in place no_handle 0 within) at first.holds in
      PutsNear-carried s v u r last place was found (CarriesNear-Carries v r place (IsRangeOf-follows s v r was.puts.advances.follows of) within was.intact inside.0 u inside.1 carrying)

  module _ (from : ℕ) (t : State) (was : PutsNear s t r from) where
    evicted_some : SomeOf was.evicted (drop (edge s r.high) s.column)
    evicted_some = SomeOf-front was.evicted (drop (edge s r.high) s.column) was.up_to.count was.up_to.some

    fewer_out : length t.pending_out ≤ length s.pending_out
    fewer_out = length-SomeOf t.pending_out s.pending_out was.puts.advances.pending_out

    long_in : length t.pending_in ≡ length was.left + length was.evicted
    long_in = ap length was.pending_in ∙ length-append was.left was.evicted

    -- the search finds no other row of the range
    pub PutsInNear-all : Finds r (keys_at t.cells t.pending_in) from None → PutsInNear s t r
    PutsInNear-all finds =
        let all = LacksFirst-missed s.cells r s.pending_in was.left from was.lacks (finds_left s t r from None of intact was finds) in
        let split = length-outside s.cells r s.pending_in in
        record {
          follows = was.puts.advances.follows;
          intact = was.intact;
          evicts = record {
            evicted = was.evicted;
            pending_in = was.pending_in ∙ ap (λ hs. hs ++ was.evicted) all;
            some = evicted_some;
            few = omega (arith, was.puts.few, fewer_out, long_in, ap length all, split);
          };
          pending_out = was.puts.advances.pending_out;
          few = omega (arith, was.puts.few, long_in, ap length all, split);
          reads = was.puts.advances.reads;
          before = was.stays.before;
          behind = was.stays.behind;
          long = length-StaysOutside s t r was.stays;
        }

    -- no memory was found for the next
    EvictsFirst-PutsNear : EvictsFirst s r t.pending_in
    EvictsFirst-PutsNear =
        let passed = was.lacks.passed in
        let front = take passed s.pending_in in
        let back = drop passed s.pending_in in
        let split : length front + length back ≡ length s.pending_in = sym (length-append front back) ∙ ap length (take-append-drop passed s.pending_in) in
        let left : length was.left ≡ length (outside_of s.cells r front) + length back = ap length was.lacks.left_are ∙ length-append (outside_of s.cells r front) back in
        record {
          passed = passed;
          within = was.lacks.within;
          evicted = was.evicted;
          pending_in = was.pending_in ∙ ap (λ hs. hs ++ was.evicted) was.lacks.left_are;
          some = evicted_some;
          few = omega (arith, was.puts.few, fewer_out, long_in, left, split, length-outside s.cells r front);
        }

    pub StopsIn-PutsNear : StopsIn s t r
    StopsIn-PutsNear = record {
      stops = Stops-Advances Ripple s t r was.puts.advances was.intact (t.pending_in, EvictsFirst-PutsNear, Fills-none s t r);
      unfilled = EvictsFirst-PutsNear;
      few = was.puts.few;
    }
