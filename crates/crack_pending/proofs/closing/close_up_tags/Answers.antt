use Rattle.std.proofs.Common.{◌≡◌, ◌<◌, length, refl, arith}
use Rattle.std.proofs.lemmas.List.{get_or_default}
use Rattle.crack_arena.specs.Arena.{no_handle}
use Rattle.crack_arena.specs.Memories.{nothing}
use Rattle.crack_pending.proofs.Kept.{place_at-few}
use Rattle.crack_pending.proofs.Moves.{moved_none, moved_row, moved_hole, moved_all}
use Rattle.crack_pending.proofs.closing.close_up_tags.Goals as goal
use Rattle.crack_pending.proofs.closing.close_up_tags.Goals.{then-stands-spot, else-stands-spot}

pub spots-init : goal.spots-init
spots-init c = record {
  handles = moved_none c.args.stands.now c.args.tags.now.handles;
  remembered = moved_none c.args.stands.now c.args.tags.now.remembered;
  capacity = refl;
}

pub move_down-requires-clause-low : goal.move_down-requires-clause-low
move_down-requires-clause-low c =
    let i = c.spots.invariant.handles in
    omega (arith, i.low_is, i.long, place_at-few c.args.stands.now c.spots.spot, c.requires.stands, c.spots-test.true)

pub move_down-requires-clause-spot : goal.move_down-requires-clause-spot
move_down-requires-clause-spot c = omega (arith, c.spots.invariant.handles.long, c.requires.stands, c.spots-test.true)

pub overflow_add-low : goal.overflow_add-low
overflow_add-low c =
    omega (arith, c.spots.invariant.handles.low_is, place_at-few c.args.stands.now c.spots.spot)

pub spots-preserved : goal.spots-preserved
spots-preserved c =
    let stands = c.args.stands.now in
    let old = c.args.tags.now in
    let now = c.spots.tags in
    let i = c.spots.invariant in
    let beside : length stands ≡ length old.handles = c.requires.stands in
    let memories_beside : length stands ≡ length old.remembered = omega (arith, beside, c.requires.remembered) in
    let within : c.spots.spot < length now.handles = omega (arith, i.handles.long, beside, c.spots-test.true) in
    let memory_within : c.spots.spot < length now.remembered = omega (arith, i.remembered.long, memories_beside, c.spots-test.true) in
    elim c.if-stands-spot.branch [
      | then-stands-spot w ↦ rw (w.tags-is, w.low-is, w.move_down.ensures) (record {
        handles = moved_row stands old.handles now.handles c.spots.spot c.spots.low _ beside c.spots-test.true w.if-stands-spot.true (get_or_default now.handles c.spots.spot no_handle _ within) i.handles;
        remembered = moved_row stands old.remembered now.remembered c.spots.spot c.spots.low _ memories_beside c.spots-test.true w.if-stands-spot.true (get_or_default now.remembered c.spots.spot nothing _ memory_within) i.remembered;
        capacity = i.capacity;
      })
      | else-stands-spot w ↦ rw (w.tags-is, w.low-is) (record {
        handles = moved_hole stands old.handles now.handles c.spots.spot c.spots.low c.spots-test.true w.if-stands-spot.false i.handles;
        remembered = moved_hole stands old.remembered now.remembered c.spots.spot c.spots.low c.spots-test.true w.if-stands-spot.false i.remembered;
        capacity = i.capacity;
      })
    ]

pub returns-clause-handles : goal.returns-clause-handles
returns-clause-handles c =
    let stands = c.args.stands.now in
    let end : c.spots.spot ≡ length stands = omega (arith, c.spots-test.false) in
    rw (c.truncate.ensures) (moved_all stands c.args.tags.now.handles c.spots.tags.handles c.spots.low no_handle c.requires.stands (rw end at c.spots.invariant.handles))

pub returns-clause-remembered : goal.returns-clause-remembered
returns-clause-remembered c =
    let stands = c.args.stands.now in
    let end : c.spots.spot ≡ length stands = omega (arith, c.spots-test.false) in
    let beside : length stands ≡ length c.args.tags.now.remembered = omega (arith, c.requires.stands, c.requires.remembered) in
    rw (c.truncate.ensures) (moved_all stands c.args.tags.now.remembered c.spots.tags.remembered c.spots.low nothing beside (rw end at c.spots.invariant.remembered))

pub returns-clause-capacity : goal.returns-clause-capacity
returns-clause-capacity c = rw (c.truncate.ensures) c.spots.invariant.capacity
