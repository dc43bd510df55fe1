use Rattle.std.proofs.Common.{◌≡◌, get_or, sym, ◌∙◌, arith}
use Rattle.std.proofs.lemmas.List.{get_or_default}
use Rattle.crack_arena.specs.Arena.{no_handle}
use Rattle.crack_arena.specs.Memories.{nothing}
use Rattle.crack_store.proofs.ExchangeLemmas.{begins, within_column, has_column_room, has_in_room, IsOnWay-next, ArePut-ends}
use Rattle.crack_store.proofs.evicting.put_rows.Goals as goal
use Rattle.crack_store.proofs.evicting.put_rows.Goals.{After-index-handles-i}

pub handles-init : goal.handles-init
handles-init c = begins c.args.arena.now.cells c.args.from c.args.handles.now c.args.column.now c.args.rows.now c.requires.within c.requires.remembered c.requires.keys c.requires.apart c.requires.column_room c.requires.in_room

pub overflow_add-from : goal.overflow_add-from
overflow_add-from c = record { fits = omega (arith, c.handles-test.true, c.requires.within, c.requires.few) }

stands : (c : After-index-handles-i) → get_or c.args.handles.now c.handles.i no_handle ≡ c.index-handles-i.result
stands c = get_or_default c.args.handles.now c.handles.i no_handle c.index-handles-i.result c.handles-test.true ∙ sym c.index-handles-i.is

pub put_at-requires-clause-within : goal.put_at-requires-clause-within
put_at-requires-clause-within c = within_column c.args.arena.now.cells c.args.from c.args.handles.now c.args.column.now c.args.rows.now c.handles.i c.handles.column c.handles.rows c.handles.invariant c.requires.within

pub put_at-requires-clause-column_room : goal.put_at-requires-clause-column_room
put_at-requires-clause-column_room c = has_column_room c.args.arena.now.cells c.args.from c.args.handles.now c.args.column.now c.args.rows.now c.handles.i c.handles.column c.handles.rows c.handles.invariant c.requires.within c.handles-test.true

pub put_at-requires-clause-in_room : goal.put_at-requires-clause-in_room
put_at-requires-clause-in_room c = has_in_room c.args.arena.now.cells c.args.from c.args.handles.now c.args.column.now c.args.rows.now c.handles.i c.handles.column c.handles.rows c.handles.invariant c.requires.within c.handles-test.true

pub put_at-requires-clause-known : goal.put_at-requires-clause-known
put_at-requires-clause-known c =
    let known = c.args.known.now in
    let m = c.index-known-i.result in
    let same = stands (goal.at.put_at-requires-clause-known c).After-index-handles-i in
    let memory : get_or known c.handles.i nothing ≡ m = get_or_default known c.handles.i nothing m (omega (arith, c.handles-test.true, c.requires.known.beside)) ∙ sym c.index-known-i.is in
    rw (same, memory) at (c.requires.known.right c.handles.i no_handle c.handles-test.true)

pub put_at-requires-clause-apart : goal.put_at-requires-clause-apart
put_at-requires-clause-apart c = c.handles.invariant.apart

pub handles-preserved : goal.handles-preserved
handles-preserved c = IsOnWay-next c.args.arena.now.cells c.args.from c.args.handles.now c.args.column.now c.args.rows.now c.handles.i c.handles.column c.handles.rows c.handles.invariant c.requires.within c.handles-test.true c.put_at.new.column c.put_at.new.rows (rw (stands (goal.at.handles-preserved c).After-index-handles-i) c.put_at.ensures)

pub returns : goal.returns
returns c = ArePut-ends c.args.arena.now.cells c.args.from c.args.handles.now c.args.column.now c.args.rows.now c.handles.i c.handles.column c.handles.rows c.handles.invariant c.requires.within c.handles-test.false
