use Rattle.std.proofs.Common.{◌≡◌, ℕ, length, get_or, sym, ap, ◌∙◌, inl, inr, arith, length-set, length-append}
use Rattle.std.proofs.lemmas.Bool.{cases_lt}
use Rattle.crack_arena.specs.Arena.{no_handle}
use Rattle.crack_arena.specs.Memories.{nothing}
use Rattle.crack_pending.specs.Inside.{IsMissed}
use Rattle.crack_pending.specs.Keeps.{HasRow}
use Rattle.crack_pending.specs.Pending.{rows_inside}
use Rattle.crack_pending.specs.Spots.{kept}
use Rattle.crack_pending.proofs.Batches.{missed_ahead, lowest, IsPassed-to, inside_is, IsPassed-taken}
use Rattle.crack_pending.proofs.Kept.{place_at-few}
use Rattle.crack_pending.proofs.Taken.{stood}
use Rattle.crack_pending.proofs.Unknown.{counted_none}
use Rattle.crack_pending.proofs.Views.{KnowRows-kept}
use Rattle.crack_pending.proofs.taking.take_candidates.Goals as goal
use Rattle.crack_pending.proofs.taking.take_candidates.Goals.{In-candidates, then-is_hit, else-is_hit}

pub is_hit-requires-clause-known : goal.is_hit-requires-clause-known
is_hit-requires-clause-known c =
    let a = c.args in
    let i = c.candidates.invariant.passed in
    rw (c.deref.ensures.value) (KnowRows-kept a.arena.now.cells a.tags.now.handles a.tags.now.remembered c.candidates.stands.items (omega (arith, i.long, c.requires.stands)) c.requires.remembered_beside i.known)

pub is_hit-requires-clause-all_known : goal.is_hit-requires-clause-all_known
is_hit-requires-clause-all_known c = λ none.
    let i = c.candidates.invariant.passed in
    rw (c.deref.ensures.value) (counted_none c.args.tags.now.remembered c.candidates.stands.items (omega (arith, i.long, c.requires.stands, c.requires.remembered_beside)) (sym i.unknowns_are))

-- the spot of the candidate, before which no row is in the range
abbrev spot_of : In-candidates → ℕ
spot_of c = get_or c.args.candidates.now c.candidates.k 0

missed : (c : In-candidates) → IsMissed c.args.range c.args.arena.now.cells c.args.tags.now.handles c.candidates.stands.items 0 (spot_of c)
missed c =
    let a = c.args in
    let i = c.candidates.invariant in
    let remembered = a.tags.now.remembered in
    let stands = a.stands.now.items in
    let w = a.window in
    let known = KnowRows-kept a.arena.now.cells a.tags.now.handles remembered stands (omega (arith, c.requires.stands)) c.requires.remembered_beside c.requires.known in
    let all = counted_none remembered stands (omega (arith, c.requires.stands, c.requires.remembered_beside)) c.requires.all_known in
    let inside = c.requires.ahead.inside c.candidates.k (omega arith) c.candidates-test.true in
    missed_ahead remembered stands a.codes.now c.requires.coded a.range a.arena.now.cells a.tags.now.handles w.first w.last w.beyond c.requires.window known all a.from a.to a.candidates.now c.requires.ahead c.requires.missed c.candidates.stands.items i.passed.stood c.candidates.k i.done (spot_of c) (omega (arith, inside.1)) (lowest remembered stands a.codes.now c.requires.coded a.range a.arena.now.cells a.tags.now.handles w.first w.last w.beyond c.requires.window known all a.from a.to a.candidates.now c.requires.ahead c.requires.missed c.candidates.k c.candidates-test.true)

pub is_hit-requires-clause-within : goal.is_hit-requires-clause-within
is_hit-requires-clause-within c =
    let inside = c.requires.ahead.inside c.candidates.k (omega arith) c.candidates-test.true in
    omega (arith, inside.1, c.requires.ahead.within, c.candidates.invariant.long)

pub push_reserved-requires : goal.push_reserved-requires
push_reserved-requires c =
    let now = (goal.at.push_reserved-requires c).In-candidates in
    let a = c.args in
    let i = c.candidates.invariant in
    let at = rw c.deref.ensures.value at (c.is_hit.ensures.stands c.if-is_hit.true) in
    let more = inside_is a.arena.now.cells a.range a.tags.now.handles a.tags.now.remembered a.stands.now.items c.candidates.stands.items c.candidates.codes a.taken.now.items c.candidates.taken.items c.candidates.known.items a.from c.candidates.count (spot_of now) i.passed (omega (arith, c.requires.stands)) c.requires.remembered_beside at (c.is_hit.ensures.holds c.if-is_hit.true) (missed now) in
    omega (arith, ap length more, ap length i.passed.taken_are, length-append c.candidates.taken.items (rows_inside a.arena.now.cells a.range (kept c.candidates.stands.items a.tags.now.handles)), length-append a.taken.now.items (rows_inside a.arena.now.cells a.range (kept a.stands.now.items a.tags.now.handles)), i.room, c.requires.room)

pub push_reserved-requires-then-is_hit : goal.push_reserved-requires-then-is_hit
push_reserved-requires-then-is_hit c =
    let now = (goal.at.push_reserved-requires-then-is_hit c).In-candidates in
    let a = c.args in
    let i = c.candidates.invariant in
    let at = rw c.deref.ensures.value at (c.is_hit.ensures.stands c.if-is_hit.true) in
    let more = inside_is a.arena.now.cells a.range a.tags.now.handles a.tags.now.remembered a.stands.now.items c.candidates.stands.items c.candidates.codes a.taken.now.items c.candidates.taken.items c.candidates.known.items a.from c.candidates.count (spot_of now) i.passed (omega (arith, c.requires.stands)) c.requires.remembered_beside at (c.is_hit.ensures.holds c.if-is_hit.true) (missed now) in
    omega (arith, ap length more, ap length i.passed.taken_are, length-append c.candidates.taken.items (rows_inside a.arena.now.cells a.range (kept c.candidates.stands.items a.tags.now.handles)), length-append a.taken.now.items (rows_inside a.arena.now.cells a.range (kept a.stands.now.items a.tags.now.handles)), i.passed.gone_are.beside, c.requires.remembered.beside, i.known_room, c.requires.known_room)

pub overflow_add-count : goal.overflow_add-count
overflow_add-count c =
    let first = c.args.stands.now.items in
    record { fits = omega (arith, c.candidates.invariant.passed.counted, place_at-few first (length first), c.requires.stands, c.requires.few) }

pub candidates-preserved : goal.candidates-preserved
candidates-preserved c =
    let now = (goal.at.candidates-preserved c).In-candidates in
    let a = c.args in
    let i = c.candidates.invariant in
    let k = c.candidates.k in
    let stands = c.candidates.stands.items in
    elim c.if-is_hit.branch [
      | then-is_hit w ↦
          let at : HasRow stands (spot_of now) = rw c.deref.ensures.value at (c.is_hit.ensures.stands w.if-is_hit.true) in
          let same : get_or a.tags.now.handles (spot_of now) no_handle ≡ w.handle.result = sym w.handle.ensures in
          let memory : get_or a.tags.now.remembered (spot_of now) nothing ≡ w.memory.result = sym w.memory.ensures in
          let taken = IsPassed-taken a.arena.now.cells a.range a.tags.now.handles a.tags.now.remembered a.stands.now.items stands c.candidates.codes a.taken.now.items c.candidates.taken.items c.candidates.known.items a.from c.candidates.count (spot_of now) i.passed (omega (arith, c.requires.stands)) c.requires.remembered_beside at (c.is_hit.ensures.holds w.if-is_hit.true) (missed now) in
          rw (w.stands-is, w.codes-is, w.taken-is, w.known-is, w.count-is, w.leave_hole.ensures) (record {
            passed = rw (w.push_reserved.ensures.items, w.push_reserved-then-is_hit.ensures.items) (rw (same, memory) at taken);
            done = λ j less there.
                let still = stood stands (spot_of now) (get_or a.candidates.now j 0) at there in
                elim (cases_lt j k) [
                  | inl l ↦ i.done j l still.1
                  | inr m ↦
                      let is : j ≡ k = omega (arith, less, m) in
                      absurd (still.0 (ap (λ n. get_or a.candidates.now n 0) is))
                ];
            base = i.base;
            shift = i.shift;
            long = length-set c.candidates.codes.codes (spot_of now) 65535 ∙ i.long;
            capacity = i.capacity;
            room = w.push_reserved.ensures.capacity ∙ i.room;
            known_room = w.push_reserved-then-is_hit.ensures.capacity ∙ i.known_room;
          })
      | else-is_hit w ↦
          let none = rw c.deref.ensures.value at (c.is_hit.ensures.missed w.if-is_hit.false) in
          rw (w.stands-is, w.codes-is, w.taken-is, w.known-is, w.count-is) (record {
            passed = i.passed;
            done = λ j less there. elim (cases_lt j k) [
              | inl l ↦ i.done j l there
              | inr m ↦
                  let is : j ≡ k = omega (arith, less, m) in
                  rw is (none (rw is at there))
            ];
            base = i.base;
            shift = i.shift;
            long = i.long;
            capacity = i.capacity;
            room = i.room;
            known_room = i.known_room;
          })
    ]

pub returns-clause-passed : goal.returns-clause-passed
returns-clause-passed c =
    let a = c.args in
    let i = c.candidates.invariant in
    let remembered = a.tags.now.remembered in
    let stands = a.stands.now.items in
    let w = a.window in
    let known = KnowRows-kept a.arena.now.cells a.tags.now.handles remembered stands (omega (arith, c.requires.stands)) c.requires.remembered_beside c.requires.known in
    let all = counted_none remembered stands (omega (arith, c.requires.stands, c.requires.remembered_beside)) c.requires.all_known in
    let missed = missed_ahead remembered stands a.codes.now c.requires.coded a.range a.arena.now.cells a.tags.now.handles w.first w.last w.beyond c.requires.window known all a.from a.to a.candidates.now c.requires.ahead c.requires.missed c.candidates.stands.items i.passed.stood c.candidates.k i.done a.to (omega arith) (λ j after within. absurd (omega (arith, after, within, c.candidates-test.false))) in
    IsPassed-to a.arena.now.cells a.range a.tags.now.handles remembered stands c.candidates.stands.items c.candidates.codes a.taken.now.items c.candidates.taken.items c.candidates.known.items a.from a.to c.candidates.count 0 i.passed (omega (arith, c.requires.ahead.within, c.requires.coded.few, c.requires.remembered_beside)) missed
