-- If there is no bound, all pending insertions at once: the same as one carry after another.
use Rattle.std.proofs.Common.{◌≡◌, ℕ, ◌+◌, ◌<◌, ◌≤◌, List, [], ◌∷◌, length, get_or, Option, None, Some, refl, sym, ap, ◌∙◌, arith}
use Rattle.std.specs.List.{All}
use Rattle.std.proofs.lemmas.List.{get_or-map, length-map}
use Rattle.std.proofs.lemmas.List.Elements.{All-head, All-tail}
use Rattle.crack_row.specs.Ranges.{Range, IsIn}
use Rattle.crack_row.specs.declared.command.Policy.TheVariants.{Complete}
use Rattle.crack_arena.specs.Arena.{Handle, no_handle}
use Rattle.crack_arena.specs.Rows.{key_at, keys_at}
use Rattle.crack_pending.specs.Pending.{Finds}
use Rattle.crack_pending.proofs.Searches.{is_in-true}
use Rattle.crack_state.specs.State.{State, Reads, IsIntact}
use Rattle.crack_state.specs.Merge.{outside_of}
use Rattle.crack_state.specs.Steps.{lifted, all_appended, hand_key, IsBelow, SameButRoom}
use Rattle.crack_state.proofs.AppendLaws.{first_appended, all-first, all-none, lifted-lasting, IsIntact-first}
use Rattle.crack_state.proofs.CrackLaws.{key_within}
use Rattle.crack_state.proofs.StepLaws.{IsIntact-room}
use Rattle.crack_merge.specs.Loops.{PutsIn}
use Rattle.crack_merge.specs.Merges.{IsCeiling, Carries, ends, CarriesIn, CarriesAll, begins, carries}
use Rattle.crack_merge.proofs.CarryLaws.{PutsIn-room, PutsIn-trans, PutsAt-Carries}

pub SameButRoom-trans : (s t u : State) → SameButRoom s t → SameButRoom t u → SameButRoom s u
SameButRoom-trans s t u a b = record { same = b.same ∙ ap (λ (x : State). record x { column_room = u.column_room; in_room = u.in_room }) a.same }

-- all pending insertions of a store without bounds are of the range, and below the ceiling
pub record HasAll (ceiling : Option ℕ) (r : Range) (t : State) : Type 0 where
  pub high_end : IsCeiling ceiling r
  pub low : r.low ≤ t.keys.low
  pub high : t.keys.high ≤ r.high
  pub uncracked : t.marks ≡ []
  pub intact : IsIntact t []

below : (ceiling : Option ℕ) (r : Range) (key : ℕ) → IsCeiling ceiling r → key < r.high → IsBelow ceiling key
below None r key high less = tt
below (Some bound) r key high less = omega (arith, high, less)

-- room for it was made, this many places and this many more pending insertions are left, and the first was carried
abbrev pub next_of : ℕ → ℕ → State → State
next_of column_room in_room t = first_appended (record t { column_room = column_room + 1; in_room = in_room })

-- if a range has all keys of a store, it has those of its pending insertions
key_inside : (t : State) → IsIntact t [] → 0 < length t.pending_in → IsIn t.keys (key_at t.cells (get_or t.pending_in 0 no_handle))
key_inside t intact some = key_within t.keys t.cells (get_or t.pending_in 0 no_handle) intact.within (intact.owned.pending_reads 0 no_handle some)

pub first_found : (r : Range) (t : State) → r.low ≤ t.keys.low → t.keys.high ≤ r.high → IsIntact t [] → 0 < length t.pending_in → Finds r (keys_at t.cells t.pending_in) 0 (Some 0)
first_found r t low high intact some =
    let inside = key_inside t intact some in
    record {
      after = omega arith;
      within = omega (arith, some, length-map t.pending_in (key_at t.cells));
      holds = rw (get_or-map (key_at t.cells) t.pending_in 0 no_handle 0 some) (omega (arith, inside.0, low), omega (arith, inside.1, high));
      before = λ k from_on up_to. absurd (omega (arith, up_to));
    }

pub none_outside : (r : Range) (t : State) → r.low ≤ t.keys.low → t.keys.high ≤ r.high → IsIntact t [] → outside_of t.cells r t.pending_in ≡ []
none_outside r t low high intact = each t.pending_in intact.owned.pending_reads
  where
    each : (hs : List Handle) → All (Reads t.cells) hs → outside_of t.cells r hs ≡ []
    each [] reads = refl
    each (h ∷ hs) reads =
        let inside = key_within t.keys t.cells h intact.within (All-head (Reads t.cells) h hs reads) in
        let is = is_in-true r (key_at t.cells h) (omega (arith, inside.0, low), omega (arith, inside.1, high)) in
        rw is (each hs (All-tail (Reads t.cells) h hs reads))

module _ (ceiling : Option ℕ) (r : Range) (column_room in_room : ℕ) (t : State) (has : HasAll ceiling r t) (some : 0 < length t.pending_in) where
  carried : Carries ceiling (lifted 0 (record t { column_room = column_room + 1; in_room = in_room })) (next_of column_room in_room t)
  carried =
      let u = record t { column_room = column_room + 1; in_room = in_room } in
      let lasting = lifted-lasting t some has.intact in
      ends (lifted 0 u) (λ doomed. omega (arith, doomed, lasting)) (below ceiling r (hand_key (lifted 0 u)) has.high_end (omega (arith, (key_inside t has.intact some).1, has.high))) (rw has.uncracked refl)

  pub carries_first : (s : State) → CarriesIn ceiling r s 0 t → CarriesIn ceiling r s 0 (next_of column_room in_room t)
  carries_first s before = carries 0 0 t (record t { column_room = column_room + 1; in_room = in_room }) (next_of column_room in_room t) before (first_found r t has.low has.high has.intact some) (record { same = refl }) carried

  pub HasAll-next : HasAll ceiling r (next_of column_room in_room t)
  HasAll-next =
      let u = record t { column_room = column_room + 1; in_room = in_room } in
      let made = IsIntact-room t u [] (record { same = refl }) has.intact in
      record {
        high_end = has.high_end;
        low = has.low;
        high = has.high;
        uncracked = rw has.uncracked refl;
        intact = IsIntact-first u has.uncracked some made;
      }

-- this many are left, and room for them
carries_on : (ceiling : Option ℕ) (r : Range) (s : State) (column_room in_room : ℕ) (hs : List Handle) (t : State) → t.pending_in ≡ hs → t.column_room ≡ column_room → t.in_room ≡ in_room → HasAll ceiling r t → CarriesIn ceiling r s 0 t → CarriesIn ceiling r s 0 (all_appended t)
carries_on ceiling r s column_room in_room [] t none column pending has before = rw (all-none t none has.intact) before
carries_on ceiling r s column_room in_room (h ∷ hs) t first column pending has before =
    let some : 0 < length t.pending_in = omega (arith, ap length first) in
    let next = next_of column_room in_room t in
    let places : next.column_room ≡ column_room = omega arith in
    let rest = carries_on ceiling r s column_room in_room hs next (rw first refl) places refl (HasAll-next ceiling r column_room in_room t has some) (carries_first ceiling r column_room in_room t has some s before) in
    let same : all_appended next ≡ all_appended t = all-first (record t { column_room = column_room + 1; in_room = in_room }) h hs has.uncracked first ∙ rw (places, column, pending) refl in
    rw same at rest

pub CarriesAll-at_once : (ceiling : Option ℕ) (r : Range) (s u : State) (first : ℕ) → HasAll ceiling r s → Finds r (keys_at s.cells s.pending_in) 0 (Some first) → SameButRoom (all_appended s) u → CarriesAll ceiling r s u
CarriesAll-at_once ceiling r s u first has found room = by_first s.pending_in refl
  where
    by_first : (hs : List Handle) → s.pending_in ≡ hs → CarriesAll ceiling r s u
    by_first [] none = absurd (omega (arith, found.within, length-map s.pending_in (key_at s.cells), ap length none))
    by_first (h ∷ hs) is =
        let some : 0 < length s.pending_in = omega (arith, ap length is) in
        let next = next_of u.column_room u.in_room s in
        let places : next.column_room ≡ u.column_room = omega arith in
        let all = carries_on ceiling r s u.column_room u.in_room hs next (rw is refl) places refl (HasAll-next ceiling r u.column_room u.in_room s has some) (carries_first ceiling r u.column_room u.in_room s has some s begins) in
        let same : all_appended next ≡ u = all-first (record s { column_room = u.column_room + 1; in_room = u.in_room }) h hs has.uncracked is ∙ rw places (sym room.same) in
        record { from = 0; carries = rw same at all; none = rw room.same (λ k from_on up_to. absurd (omega (arith, up_to))) }

-- complete: all were put in
put_on : (s : State) (from : ℕ) (t : State) → IsIntact s [] → CarriesIn None s.keys s from t → PutsIn Complete s t × IsIntact t []
put_on s from t intact begins = (PutsIn-room Complete s s (record { same = refl }), intact)
put_on s from t intact (carries before place v u w rest finds room carrying) =
    let was = put_on s before v intact rest in
    let one = PutsAt-Carries v u w place room (omega (arith, finds.within, length-map v.pending_in (key_at v.cells))) was.1 carrying in
    (PutsIn-trans Complete s v w was.0 (one.puts Complete), one.intact)

pub PutsIn-all : (s u : State) → IsIntact s [] → CarriesAll None s.keys s u → PutsIn Complete s u
PutsIn-all s u intact all = (put_on s all.from u intact all.carries).0
