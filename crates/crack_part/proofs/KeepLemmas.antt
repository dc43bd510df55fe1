-- What cracks and merges preserve in a store, and its state if they found no memory.
use Rattle.std.proofs.Common.{◌≡◌, ℕ, ◌+◌, ◌<◌, ◌≤◌, Bool, true, false, cond, not, List, [], ◌∷◌, filter, length, min, max, Option, Some, None, refl, sym, ap, subst, ◌∙◌, inl, inr, arith}
use Rattle.std.proofs.lemmas.Bool.{cases_lt}
use Rattle.std.proofs.lemmas.List.{take_all, drop_all, append-nil}
use Rattle.crack_row.specs.Ranges.{Range, is_in, clipped}
use Rattle.crack_row.specs.declared.command.Policy.{Policy}
use Rattle.crack_row.specs.declared.command.Policy.TheVariants.{Complete, Gradual, Ripple, Auto}
use Rattle.crack_arena.specs.Arena.{Handle}
use Rattle.crack_arena.specs.Rows.{key_at}
use Rattle.crack_state.specs.State.{State, IsIntact, live_rows, freed_of}
use Rattle.crack_state.specs.Steps.{SameButRoom}
use Rattle.crack_state.specs.Merge.{Refines, Follows, Merges, Tallies, Leaves, LeavesOutside, SomeOf, is_touched, outside_of}
use Rattle.crack_state.specs.Merge.SomeOf.{nothing, left_out, kept}
use Rattle.crack_index.specs.declared.mark.Mark.{Mark}
use Rattle.crack_state.proofs.CoarsenLaws.{Coarsens-same, IsIntact-coarse}
use Rattle.crack_state.proofs.OutsideLaws.{SomeOf-none, SomeOf-refl, SomeOf-trans}
use Rattle.crack_state.proofs.StepLaws.{IsIntact-room}
use Rattle.crack_state.proofs.CrackLaws.{keys-refined, live_rows-refined, cells-refined, pending_out-refined}
use Rattle.crack_state.proofs.FollowLaws.{Follows-trans, Follows-room, Tallies-trans, Tallies-room, length_marks-Follows}
use Rattle.crack_store.specs.Further.{CracksBeside, CracksFurther}
use Rattle.crack_merge.specs.Merges.{EvictsFirst, LeavesRest, Stops}
use Rattle.crack_part.specs.Parts.{is_merged_first, read_by, MayCoarsen, CracksBy, CracksAndMerges, Settles, ReadsRange, StopsAt, StopsRead, Prepares, SparesCleared}
use Rattle.crack_part.specs.Inside.{Readies}

-- commands see the same rows, and there are as many cells, and as many of them freed or still to be
pub record Keeps (s t : State) : Type 0 where
  pub ends : t.keys ≡ s.keys
  pub live : live_rows t ≡ live_rows s
  pub cells : length t.cells ≡ length s.cells
  pub freed : freed_of t.cells + length t.pending_out ≡ freed_of s.cells + length s.pending_out

pub Keeps-refl : (s : State) → Keeps s s
Keeps-refl s = record { ends = refl; live = refl; cells = refl; freed = refl }

pub Keeps-trans : (s t u : State) → Keeps s t → Keeps t u → Keeps s u
Keeps-trans s t u a b = record { ends = b.ends ∙ a.ends; live = b.live ∙ a.live; cells = b.cells ∙ a.cells; freed = b.freed ∙ a.freed }

pub Keeps-follows : (s t : State) → Follows s t → Keeps s t
Keeps-follows s t follows = record { ends = follows.keys; live = follows.live; cells = follows.cells; freed = follows.freed }

pub Keeps-room : (s t : State) → SameButRoom s t → Keeps s t
Keeps-room s t same = Keeps-follows s t (Follows-room s t same)

pub Keeps-refined : (s u : State) (r : Range) → Refines s u r → Keeps s u
Keeps-refined s u r refines =
    let cells = cells-refined _ s u refines in
    let doomed = pending_out-refined _ s u refines in
    record {
      ends = keys-refined _ s u refines;
      live = live_rows-refined _ s u refines;
      cells = ap length cells;
      freed = rw (cells, doomed) refl;
    }

-- a crack beside an end of a range, if it is made
Keeps-beside : (s t : State) (r : Range) (end : ℕ) → CracksBeside s t r end → Keeps s t
Keeps-beside s t r end beside = elim beside [
  | inl little ↦ Keeps-refined s t (record { low = min end little.1.0; high = max end little.1.0 }) little.1.2
  | inr none ↦ rw none.1 (Keeps-refl s)
]

Keeps-further : (s t : State) (r : Range) → CracksFurther s t r → Keeps s t
Keeps-further s t r done =
    let beside = Keeps-trans s done.beside_low done.beside_both (Keeps-beside s done.beside_low r r.low done.low) (Keeps-beside done.beside_low done.beside_both r r.high done.high) in
    Keeps-trans s done.beside_both t beside (Keeps-refined done.beside_both t r done.refines)

-- the crack for a range
pub Keeps-cracked : (policy : Policy) (s u : State) (r : Range) → CracksBy policy s u r → Keeps s u
Keeps-cracked Auto s u r cracks = Keeps-further s u r cracks
Keeps-cracked Complete s u r cracks = Keeps-refined s u r cracks
Keeps-cracked Gradual s u r cracks = Keeps-refined s u r cracks
Keeps-cracked Ripple s u r cracks = Keeps-refined s u r cracks

pub Keeps-merged : (policy : Policy) (s t : State) (r : Range) → CracksAndMerges policy s t r → Keeps s t
Keeps-merged policy s t r done = Keeps-trans s done.cracked t (Keeps-cracked policy s done.cracked r done.cracks) (Keeps-follows done.cracked t done.does.0.follows)

-- merging all pending rows first leaves the live rows as they were
pub Keeps-readied : (due : Bool) (s t : State) → Readies due s t → Keeps s t
Keeps-readied due s t readies = elim readies [
  | inl none ↦ rw none.1 (Keeps-refl s)
  | inr first ↦ Keeps-merged Complete s t s.keys first.1
]

IsIntact-readied : (due : Bool) (s t : State) → Readies due s t → IsIntact s [] → IsIntact t []
IsIntact-readied due s t readies intact = elim readies [
  | inl none ↦ rw none.1 intact
  | inr first ↦ first.1.does.0.intact
]

-- forgotten bounds leave the live rows as they were
Keeps-marks : (s : State) (ms : List Mark) → Keeps s (record s { marks = ms })
Keeps-marks s ms = record { ends = refl; live = refl; cells = refl; freed = refl }

pub Keeps-coarse : (policy : Policy) (s t : State) → MayCoarsen policy s t → Keeps s t
Keeps-coarse Auto s t coarse = subst (λ (x : State). Keeps s x) (sym coarse.same) (Keeps-marks s t.marks)
Keeps-coarse Complete s t same = rw same (Keeps-refl s)
Keeps-coarse Gradual s t same = rw same (Keeps-refl s)
Keeps-coarse Ripple s t same = rw same (Keeps-refl s)

pub IsIntact-coarsened : (policy : Policy) (s t : State) → MayCoarsen policy s t → IsIntact s [] → IsIntact t []
IsIntact-coarsened Auto s t coarse intact = IsIntact-coarse s t [] coarse intact
IsIntact-coarsened Complete s t same intact = rw same intact
IsIntact-coarsened Gradual s t same intact = rw same intact
IsIntact-coarsened Ripple s t same intact = rw same intact

pub MayCoarsen-same : (policy : Policy) (s : State) → MayCoarsen policy s s
MayCoarsen-same Auto s = Coarsens-same s
MayCoarsen-same Complete s = refl
MayCoarsen-same Gradual s = refl
MayCoarsen-same Ripple s = refl

Keeps-settled : (policy : Policy) (s t : State) (r : Range) → Settles policy s t r → Keeps s t
Keeps-settled policy s t r done =
    let coarse = done.does.coarse in
    let readied = Keeps-readied (is_merged_first policy s) s done.ready done.readies in
    let coarsened = Keeps-coarse policy done.ready coarse done.does.coarsens in
    Keeps-trans s done.ready t readied (Keeps-trans done.ready coarse t coarsened (Keeps-merged policy coarse t r done.does.does))

-- nothing is read of an empty range
pub ReadsRange-none : (policy : Policy) (s : State) (r : Range) → r.high ≤ r.low → ReadsRange policy s s r
ReadsRange-none policy s r none = record { empty = λ e. refl; settled = λ filled. absurd (omega arith) }

pub ReadsRange-settled : (policy : Policy) (s t : State) (r : Range) → r.low < r.high → Settles policy s t r → ReadsRange policy s t r
ReadsRange-settled policy s t r filled done = record { empty = λ e. absurd (omega arith); settled = λ f. done }

-- a read of a range leaves the live rows as they were
Keeps-reads : (policy : Policy) (s t : State) (r : Range) → ReadsRange policy s t r → Keeps s t
Keeps-reads policy s t r reads = elim (cases_lt r.low r.high) [
  | inl filled ↦ Keeps-settled policy s t r (reads.settled filled)
  | inr empty ↦ rw (reads.empty empty) (Keeps-refl s)
]

IsIntact-reads : (policy : Policy) (s t : State) (r : Range) → ReadsRange policy s t r → IsIntact s [] → IsIntact t []
IsIntact-reads policy s t r reads intact = elim (cases_lt r.low r.high) [
  | inl filled ↦ (reads.settled filled).does.does.does.0.intact
  | inr empty ↦ rw (reads.empty empty) intact
]

-- a store that is prepared has the live rows that it had
pub Keeps-prepared : (policy : Policy) (keys : Range) (range : Option Range) (s t : State) → Prepares policy keys range s t → Keeps s t
Keeps-prepared policy keys None s t same = rw same (Keeps-refl s)
Keeps-prepared policy keys (Some range) s t reads = Keeps-reads policy s t (clipped range keys) reads

pub IsIntact-prepared : (policy : Policy) (keys : Range) (range : Option Range) (s t : State) → Prepares policy keys range s t → IsIntact s [] → IsIntact t []
IsIntact-prepared policy keys None s t same intact = rw same intact
IsIntact-prepared policy keys (Some range) s t reads intact = IsIntact-reads policy s t (clipped range keys) reads intact

pub Keeps-stopped : (policy : Policy) (s t : State) (r : Range) → StopsAt policy s t r → Keeps s t
Keeps-stopped policy s t r read = elim read [
  | inl same ↦ Keeps-room s t same
  | inr cut ↦ let done = cut.1 in Keeps-trans s done.cracked t (Keeps-cracked policy s done.cracked r done.cracks) (Keeps-follows done.cracked t done.does.follows)
]

pub IsIntact-stopped : (policy : Policy) (s t : State) (r : Range) → StopsAt policy s t r → IsIntact s [] → IsIntact t []
IsIntact-stopped policy s t r read intact = elim read [
  | inl same ↦ IsIntact-room s t [] same intact
  | inr cut ↦ cut.1.does.intact
]

Keeps-stops : (policy : Policy) (s t : State) (r : Range) → StopsRead policy s t r → Keeps s t
Keeps-stops policy s t r read = elim read [
  | inl first ↦ Keeps-stopped Complete s t s.keys first.1
  | inr done ↦
      let coarse = done.does.coarse in
      let readied = Keeps-readied (is_merged_first policy s) s done.ready done.readies in
      let coarsened = Keeps-coarse policy done.ready coarse done.does.coarsens in
      Keeps-trans s done.ready t readied (Keeps-trans done.ready coarse t coarsened (Keeps-stopped policy coarse t r done.does.does))
]

-- a command that found no memory leaves the live rows as they were
pub Keeps-spared : (policy : Policy) (keys : Range) (range : Option Range) (s t : State) → SparesCleared policy keys range s t → Keeps s t
Keeps-spared policy keys None s t spared = Keeps-room s t spared
Keeps-spared policy keys (Some range) s t spared = Keeps-stops policy s t (clipped range keys) spared

pub IsIntact-spared : (policy : Policy) (keys : Range) (range : Option Range) (s t : State) → SparesCleared policy keys range s t → IsIntact s [] → IsIntact t []
IsIntact-spared policy keys None s t spared intact = IsIntact-room s t [] spared intact
IsIntact-spared policy keys (Some range) s t spared intact = elim spared [
  | inl first ↦ IsIntact-stopped Complete s t s.keys first.1 intact
  | inr done ↦ IsIntact-stopped policy done.does.coarse t (clipped range keys) done.does.does
      (IsIntact-coarsened policy done.ready done.does.coarse done.does.coarsens (IsIntact-readied (is_merged_first policy s) s done.ready done.readies intact))
]

-- those of the handles that pass a test
SomeOf-filter : (test : Handle → Bool) (hs : List Handle) → SomeOf (filter test hs) hs
SomeOf-filter test [] = nothing
SomeOf-filter test (h ∷ hs) = by_test (test h) (SomeOf-filter test hs)
  where
    by_test : (b : Bool) → SomeOf (filter test hs) hs → SomeOf (cond b (h ∷ filter test hs) (filter test hs)) (h ∷ hs)
    by_test true some = kept h (filter test hs) hs some
    by_test false some = left_out h (filter test hs) hs some

-- a whole merge is a merge that stopped at its end
Leaves-rest : (policy : Policy) (s t : State) (r : Range) → Leaves policy s t r → LeavesRest policy s t r
Leaves-rest Complete s t r leaves = by_test (is_touched s r) leaves.0
  where
    by_test : (b : Bool) → t.pending_in ≡ cond b [] s.pending_in → LeavesRest Complete s t r
    by_test true none = (length s.pending_in, omega arith, rw (drop_all (length s.pending_in) s.pending_in (omega arith)) none)
    by_test false all = (0, omega arith, all)
Leaves-rest Gradual s t r leaves =
    let k : ℕ = length s.pending_in in
    let ahead = ap (outside_of s.cells r) (take_all k s.pending_in (omega arith)) in
    let behind = drop_all k s.pending_in (omega arith) in
    (k, omega arith, rw (ahead, behind, append-nil (outside_of s.cells r s.pending_in)) leaves.0)
Leaves-rest Ripple s t r leaves =
    let k : ℕ = length s.pending_in in
    let evicts = leaves.1 in
    let all = take_all k s.pending_in (omega arith) in
    let behind = drop_all k s.pending_in (omega arith) in
    let first : EvictsFirst s r leaves.0 = record {
      passed = k;
      within = omega arith;
      evicted = evicts.evicted;
      pending_in = rw (all, behind, append-nil (outside_of s.cells r s.pending_in)) evicts.pending_in;
      some = evicts.some;
      few = rw all evicts.few;
    } in
    (leaves.0, first, leaves.2)
Leaves-rest Auto s t r leaves = leaves

SomeOf-left : (s t : State) (r : Range) → LeavesOutside s t r → SomeOf t.pending_out s.pending_out
SomeOf-left s t r left = SomeOf-trans t.pending_out (outside_of s.cells r s.pending_out) s.pending_out left.some (SomeOf-filter (λ h. not (is_in r (key_at s.cells h))) s.pending_out)

Leaves-some : (policy : Policy) (s t : State) (r : Range) → Leaves policy s t r → SomeOf t.pending_out s.pending_out
Leaves-some Complete s t r leaves = by_test (is_touched s r) leaves.1
  where
    by_test : (b : Bool) → t.pending_out ≡ cond b [] s.pending_out → SomeOf t.pending_out s.pending_out
    by_test true gone = rw gone (SomeOf-none s.pending_out)
    by_test false same = rw same (SomeOf-refl s.pending_out)
Leaves-some Gradual s t r leaves = SomeOf-left s t r leaves.1
Leaves-some Ripple s t r leaves = SomeOf-left s t r leaves.3
Leaves-some Auto s t r leaves = absurd leaves

Stops-merged : (policy : Policy) (s t u : State) (r : Range) → Merges policy s t r → Tallies policy s t → SameButRoom t u → Stops policy s u r
Stops-merged policy s t u r merges tallies room =
    let same_in : u.pending_in ≡ t.pending_in = ap (λ (x : State). x.pending_in) room.same in
    let same_out : u.pending_out ≡ t.pending_out = ap (λ (x : State). x.pending_out) room.same in
    record {
      follows = Follows-trans s t u merges.follows (Follows-room t u room);
      intact = IsIntact-room t u [] room merges.intact;
      tallies = Tallies-trans policy s t u (length_marks-Follows s t merges.follows) tallies (Tallies-room policy t u room);
      taken = by_policy policy (Leaves-rest policy s t r merges.leaves) same_in;
      pending_out = rw same_out (Leaves-some policy s t r merges.leaves);
    }
  where
    by_policy : (p : Policy) → LeavesRest p s t r → u.pending_in ≡ t.pending_in → LeavesRest p s u r
    by_policy Complete rest same = (rest.0, rest.1, same ∙ rest.2)
    by_policy Gradual rest same = (rest.0, rest.1, same ∙ rest.2)
    by_policy Ripple rest same =
        let loses = rest.2.loses in
        (rest.0, rest.1, record { count = rest.2.count; few = rest.2.few; loses = record { passed = loses.passed; left_are = same ∙ loses.left_are; count_is = loses.count_is } })
    by_policy Auto rest same = rest

-- nothing changes except the room
StopsRead-room : (policy : Policy) (s t : State) (r : Range) → SameButRoom s t → StopsRead policy s t r
StopsRead-room policy s t r same = by_test (is_merged_first policy s) refl
  where
    by_test : (b : Bool) → is_merged_first policy s ≡ b → StopsRead policy s t r
    by_test true due = inl (due, inl same)
    by_test false undue = inr (record { ready = s; readies = inl (undue, refl); does = record { coarse = s; coarsens = MayCoarsen-same policy s; does = inl same } })

-- nothing was read
pub Spares-same : (policy : Policy) (keys : Range) (range : Option Range) (s : State) → SparesCleared policy keys range s s
Spares-same policy keys None s = record { same = refl }
Spares-same policy keys (Some range) s = StopsRead-room policy s s (clipped range keys) (record { same = refl })

-- a range was read, and no memory was found afterwards
StopsRead-read : (policy : Policy) (s u t : State) (r : Range) → ReadsRange policy s u r → SameButRoom u t → StopsRead policy s t r
StopsRead-read policy s u t r reads room = elim (cases_lt r.low r.high) [
  | inl filled ↦
      let done = reads.settled filled in
      let read = done.does.does in
      let stops = Stops-merged (read_by policy) read.cracked u t r read.does.0 read.does.2 room in
      let stopped = inr (filled, record { cracked = read.cracked; cracks = read.cracks; intact = read.intact; does = stops }) in
      inr (record { ready = done.ready; readies = done.readies; does = record { coarse = done.does.coarse; coarsens = done.does.coarsens; does = stopped } })
  | inr empty ↦ StopsRead-room policy s t r (subst (λ (x : State). SameButRoom x t) (reads.empty empty) room)
]

-- prepared, and then not performed
pub Spares-prepared : (policy : Policy) (keys : Range) (range : Option Range) (s u t : State) → Prepares policy keys range s u → SameButRoom u t → SparesCleared policy keys range s t
Spares-prepared policy keys None s u t prepared same = subst (λ (x : State). SameButRoom x t) prepared same
Spares-prepared policy keys (Some range) s u t prepared same = StopsRead-read policy s u t (clipped range keys) prepared same
