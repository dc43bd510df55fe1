use Rattle.std.proofs.Common.{◌≡◌, length, ap, ◌∙◌, arith}
use Rattle.crack_state.specs.Carried.{inside_of}
use Rattle.crack_pending.proofs.Remembering.{Remembers-none}
use Rattle.crack_store.proofs.TakeLemmas.{inside-few}
use Rattle.crack_store.proofs.ExchangeLemmas.{apart-left, IsExchanged-put}
use Rattle.crack_store.proofs.evicting.exchange_rows.Goals as goal
use Rattle.crack_store.proofs.evicting.exchange_rows.Goals.{After-take_in, After-put_rows}

-- those that were taken
taken : (c : After-take_in) → c.take_in.new.taken.items ≡ inside_of c.args.arena.now.cells c.args.range c.args.rows.now.handles
taken c = rw c.requires.empty at c.take_in.ensures.taken

pub put_rows-requires-clause-few : goal.put_rows-requires-clause-few
put_rows-requires-clause-few c =
    let is = taken (goal.at.put_rows-requires-clause-few c).After-take_in in
    omega (arith, ap length (c.deref.ensures.value ∙ is), inside-few c.args.arena.now.cells c.args.range c.args.rows.now.handles, c.requires.few)

pub put_rows-requires-clause-column_room : goal.put_rows-requires-clause-column_room
put_rows-requires-clause-column_room c =
    let is = taken (goal.at.put_rows-requires-clause-column_room c).After-take_in in
    omega (arith, ap length (c.deref.ensures.value ∙ is), c.requires.column_room)

pub put_rows-requires-clause-in_room : goal.put_rows-requires-clause-in_room
put_rows-requires-clause-in_room c =
    let is = taken (goal.at.put_rows-requires-clause-in_room c).After-take_in in
    omega (arith, ap length (c.deref.ensures.value ∙ is), c.requires.in_room, c.take_in.ensures.room)

pub take_in-requires-clause-known : goal.take_in-requires-clause-known
take_in-requires-clause-known c = rw (c.requires.empty, c.requires.none_known) (Remembers-none c.args.arena.now.cells)

pub put_rows-requires-clause-known : goal.put_rows-requires-clause-known
put_rows-requires-clause-known c = rw (c.deref.ensures.value, c.deref-2.ensures.value) c.take_in.ensures.known

pub put_rows-requires-clause-apart : goal.put_rows-requires-clause-apart
put_rows-requires-clause-apart c = rw (c.take_in.ensures.covered, c.take_in.ensures.left) (apart-left c.args.arena.now.cells c.args.range c.args.rows.now.covered _ c.args.rows.now.handles c.requires.apart)

pub returns-clause-exchanged : goal.returns-clause-exchanged
returns-clause-exchanged c =
    let is = taken (goal.at.returns-clause-exchanged c).After-take_in in
    IsExchanged-put c.args.arena.now.cells c.args.range c.args.from c.args.column.now c.args.rows.now c.take_in.new.self _ c.put_rows.new.column c.put_rows.new.rows (c.deref.ensures.value ∙ is) c.take_in.ensures.left c.take_in.ensures.room c.take_in.ensures.covered c.put_rows.ensures
