use Rattle.std.proofs.Common.{[], length, refl}
use Rattle.crack_index.proofs.MarkLaws.{piece_order, Fits-piece}
use Rattle.crack_state.proofs.PieceLaws.{piece_end-le}
use Rattle.crack_store.specs.Inside.{lists_of}
use Rattle.crack_store.proofs.EdgeLemmas.{positions_within}
use Rattle.crack_store.proofs.RememberLemmas.{KeepsIntact-column}
use Rattle.crack_store.proofs.CrackLemmas.{IsThree, three}
use Rattle.crack_store.proofs.cracking.crack_together.Goals as goal

pub crack_three-middle-requires-clause-order : goal.crack_three-middle-requires-clause-order
crack_three-middle-requires-clause-order c =
    let s = lists_of c.args.inside.now in
    let intact = c.requires.intact.intact in
    rw c.requires.missing.low.piece_is (piece_order c.args.low.bound.0 _ s.marks intact.rising (positions_within s [] intact))

pub crack_three-middle-requires-clause-within : goal.crack_three-middle-requires-clause-within
crack_three-middle-requires-clause-within c =
    let intact = c.requires.intact.intact in
    rw c.requires.missing.low.piece_is (piece_end-le (lists_of c.args.inside.now) c.args.low.bound.0 intact.rising intact.obeyed)

pub add-requires-clause-order : goal.add-requires-clause-order
add-requires-clause-order c =
    let s = lists_of c.args.inside.now in
    let cracked = rw c.requires.missing.low.piece_is at c.crack_three-middle.ensures.low in
    Fits-piece (record { bound = c.args.low.bound; position = c.crack_three-middle.result.0 }) (length s.column) s.marks c.requires.intact.intact.rising cracked.low cracked.high

pub add-requires-2-clause-absent : goal.add-requires-2-clause-absent
add-requires-2-clause-absent c =
    let p = c.args.inside.now in
    let q = c.crack_three-middle in
    rw c.add.ensures.marks (three (lists_of p) _ c.args.low c.args.high q.new.self.handles p.column.remembered q.new.self.remembered q.result.0 q.result.1 c.requires.intact.intact c.requires.missing q.ensures.low q.ensures.high q.ensures.order c.requires.intact.remembers.beside refl).absent

pub add-requires-2-clause-order : goal.add-requires-2-clause-order
add-requires-2-clause-order c =
    let p = c.args.inside.now in
    let q = c.crack_three-middle in
    rw c.add.ensures.marks (three (lists_of p) _ c.args.low c.args.high q.new.self.handles p.column.remembered q.new.self.remembered q.result.0 q.result.1 c.requires.intact.intact c.requires.missing q.ensures.low q.ensures.high q.ensures.order c.requires.intact.remembers.beside refl).fits

-- both bounds divide their piece
divided : (c : goal.After-add-2) → IsThree (lists_of c.args.inside.now) (lists_of (record c.args.inside.now { column = c.crack_three-middle.new.self; index = c.add-2.new.self })) c.args.low c.args.high c.crack_three-middle.result.0 c.crack_three-middle.result.1
divided c =
    let p = c.args.inside.now in
    let q = c.crack_three-middle in
    three (lists_of p) _ c.args.low c.args.high q.new.self.handles p.column.remembered q.new.self.remembered q.result.0 q.result.1 c.requires.intact.intact c.requires.missing q.ensures.low q.ensures.high q.ensures.order c.requires.intact.remembers.beside (rw (q.ensures.room, c.add-2.ensures.marks, c.add.ensures.marks) refl)

pub returns-clause-intact : goal.returns-clause-intact
returns-clause-intact c =
    KeepsIntact-column c.args.inside.now _ _ _ _ [] [] c.requires.intact (divided c).intact c.crack_three-middle.ensures.remembered

pub returns-clause-refined : goal.returns-clause-refined
returns-clause-refined c = (divided c).refined
