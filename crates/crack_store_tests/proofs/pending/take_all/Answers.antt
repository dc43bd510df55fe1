use Rattle.std.proofs.Common.{◌+◌, ◌≤◌, Bool, not, length, vec_len, vec_capacity, refl, arith}
use Rattle.std.proofs.lemmas.List.Filters.{length-filter_both}
use Rattle.crack_row.specs.Ranges.{is_in}
use Rattle.crack_arena.specs.Arena.{Handle}
use Rattle.crack_arena.specs.Rows.{key_at}
use Rattle.crack_pending.specs.Pending.{rows_inside}
use Rattle.crack_pending.proofs.Remembering.{Remembers-none}
use Rattle.crack_store_tests.proofs.pending.take_all.Goals as goal

pub take_in-requires-clause-room : goal.take_in-requires-clause-room
take_in-requires-clause-room g c =
    let cells = c.args.arena.now.cells in
    let range = c.range_from-range.result in
    let rows = c.args.pending.now.handles in
    let test : Handle → Bool = λ h. is_in range (key_at cells h) in
    let few : length (rows_inside cells range rows) ≤ length rows = omega (arith, length-filter_both test (λ h. not (test h)) (λ h. refl) rows) in
    let len = rw c.expect-taken.ensures at c.with_capacity.ensures.len in
    let capacity = rw c.expect-taken.ensures at c.with_capacity.ensures.exact in
    let fits : vec_len c.expect-taken.result + length (rows_inside cells range rows) ≤ vec_capacity c.expect-taken.result = omega (arith, few, c.len-len.ensures, len, capacity) in
    fits

pub take_in-requires-clause-known_room : goal.take_in-requires-clause-known_room
take_in-requires-clause-known_room g c =
    let cells = c.args.arena.now.cells in
    let range = c.range_from-range.result in
    let rows = c.args.pending.now.handles in
    let test : Handle → Bool = λ h. is_in range (key_at cells h) in
    let few : length (rows_inside cells range rows) ≤ length rows = omega (arith, length-filter_both test (λ h. not (test h)) (λ h. refl) rows) in
    let len = rw c.expect-known.ensures at c.with_capacity-2.ensures.len in
    let capacity = rw c.expect-known.ensures at c.with_capacity-2.ensures.exact in
    let fits : vec_len c.expect-known.result + length (rows_inside cells range rows) ≤ vec_capacity c.expect-known.result = omega (arith, few, c.len-len.ensures, len, capacity) in
    fits

pub take_in-requires-clause-known : goal.take_in-requires-clause-known
take_in-requires-clause-known g c =
    let taken = rw c.expect-taken.ensures at c.with_capacity.ensures.items in
    let known = rw c.expect-known.ensures at c.with_capacity-2.ensures.items in
    rw (taken, known) (Remembers-none c.args.arena.now.cells)
