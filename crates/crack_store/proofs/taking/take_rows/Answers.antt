use Rattle.crack_pending.proofs.Remembering.{Remembers-none}
use Rattle.crack_store.proofs.taking.take_rows.Goals as goal

pub take_in-requires-clause-known : goal.take_in-requires-clause-known
take_in-requires-clause-known c = rw (c.requires.empty, c.requires.none_known) (Remembers-none c.args.arena.now.cells)

pub append_taken-requires-clause-known : goal.append_taken-requires-clause-known
append_taken-requires-clause-known c = rw (c.deref.ensures.value, c.deref-2.ensures.value) c.take_in.ensures.known
