use Rattle.std.proofs.Common.{◌+◌, length, ap, ◌∙◌, arith, length-append}
use Rattle.crack_pending.specs.Passed.{IsPassed}
use Rattle.crack_pending.specs.Pending.{rows_inside}
use Rattle.crack_pending.specs.Spots.{kept}
use Rattle.crack_pending.proofs.Batches.{IsPassed-on}
use Rattle.crack_pending.proofs.Kept.{place_at-few}
use Rattle.crack_pending.proofs.taking.take_blocks.Goals as goal
use Rattle.crack_pending.proofs.taking.take_blocks.Goals.{After-take_candidates-count}

pub take_candidates-count-requires-clause-room : goal.take_candidates-count-requires-clause-room
take_candidates-count-requires-clause-room c =
    let a = c.args in
    let i = c.batches.invariant in
    omega (arith, ap length i.passed.taken_are, length-append c.batches.taken.items (rows_inside a.arena.now.cells a.range (kept c.batches.stands.items a.tags.now.handles)), length-append a.taken.now.items (rows_inside a.arena.now.cells a.range (kept a.stands.now.items a.tags.now.handles)), i.room, c.requires.room)

pub take_candidates-count-requires-clause-known_room : goal.take_candidates-count-requires-clause-known_room
take_candidates-count-requires-clause-known_room c =
    let a = c.args in
    let i = c.batches.invariant in
    omega (arith, ap length i.passed.taken_are, length-append c.batches.taken.items (rows_inside a.arena.now.cells a.range (kept c.batches.stands.items a.tags.now.handles)), length-append a.taken.now.items (rows_inside a.arena.now.cells a.range (kept a.stands.now.items a.tags.now.handles)), i.passed.gone_are.beside, c.requires.remembered.beside, i.known_room, c.requires.known_room)

-- the pass has come one batch further
on : (c : After-take_candidates-count) → IsPassed c.args.arena.now.cells c.args.range c.args.tags.now.handles c.args.tags.now.remembered c.args.stands.now.items c.take_candidates-count.new.stands.items c.take_candidates-count.new.codes c.args.taken.now.items c.take_candidates-count.new.taken.items c.take_candidates-count.new.known.items c.gather-to.result (c.batches.count + c.take_candidates-count.result) 0
on c =
    let a = c.args in
    let taken = c.take_candidates-count in
    IsPassed-on a.arena.now.cells a.range a.tags.now.handles a.tags.now.remembered a.stands.now.items c.batches.stands.items taken.new.stands.items c.batches.codes taken.new.codes a.taken.now.items c.batches.taken.items taken.new.taken.items c.batches.known.items taken.new.known.items c.batches.spot c.gather-to.result c.batches.count taken.result 0 0 c.batches.invariant.passed taken.ensures.passed

pub overflow_add-count : goal.overflow_add-count
overflow_add-count c =
    let first = c.args.stands.now.items in
    let now = on c in
    record { fits = omega (arith, now.counted, place_at-few first (length first), c.requires.stands, c.requires.few) }

pub batches-preserved : goal.batches-preserved
batches-preserved c =
    let i = c.batches.invariant in
    let taken = c.take_candidates-count in
    let within = c.gather-to.ensures.ahead.within in
    record {
      passed = on (goal.at.batches-preserved c).After-take_candidates-count;
      base = taken.ensures.base ∙ i.base;
      shift = taken.ensures.shift ∙ i.shift;
      within = omega (arith, within, ap length c.list.ensures, taken.ensures.long);
      for_candidates = omega (arith, i.for_candidates, c.clear.ensures.capacity, c.gather-to.ensures.capacity);
      capacity = taken.ensures.capacity ∙ i.capacity;
      room = taken.ensures.room ∙ i.room;
      known_room = taken.ensures.known_room ∙ i.known_room;
    }
