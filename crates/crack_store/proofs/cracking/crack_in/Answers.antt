use Rattle.std.proofs.Common.{[], refl}
use Rattle.crack_index.proofs.MarkLaws.{piece_order, Fits-piece}
use Rattle.crack_state.proofs.PieceLaws.{piece_end-le}
use Rattle.crack_state.proofs.CrackLaws.{CracksAt, IsIntact-cracked, RefinesAt-cracked}
use Rattle.crack_store.specs.Inside.{lists_of}
use Rattle.crack_store.proofs.EdgeLemmas.{positions_within}
use Rattle.crack_store.proofs.RememberLemmas.{KeepsIntact-column}
use Rattle.crack_store.proofs.cracking.crack_in.Goals as goal

pub crack_two-place-requires-clause-order : goal.crack_two-place-requires-clause-order
crack_two-place-requires-clause-order c =
    let s = lists_of c.args.inside.now in
    let intact = c.requires.intact.intact in
    rw c.requires.missing.piece_is (piece_order c.args.gap.bound.0 _ s.marks intact.rising (positions_within s [] intact))

pub crack_two-place-requires-clause-within : goal.crack_two-place-requires-clause-within
crack_two-place-requires-clause-within c =
    let intact = c.requires.intact.intact in
    rw c.requires.missing.piece_is (piece_end-le (lists_of c.args.inside.now) c.args.gap.bound.0 intact.rising intact.obeyed)

pub add-requires-clause-order : goal.add-requires-clause-order
add-requires-clause-order c =
    let s = lists_of c.args.inside.now in
    let cracked = rw c.requires.missing.piece_is at c.crack_two-place.ensures.cracked in
    Fits-piece (record { bound = c.args.gap.bound; position = c.crack_two-place.result }) _ s.marks c.requires.intact.intact.rising cracked.low cracked.high

-- the bound's own piece was cracked by it
cracked : (c : goal.After-add) → CracksAt (lists_of c.args.inside.now) (lists_of (record c.args.inside.now { column = c.crack_two-place.new.self; index = c.add.new.self })) c.args.gap.bound
cracked c =
    let missing = c.requires.missing.missing in
    record {
      place = c.crack_two-place.result;
      missing = missing.apart;
      low = missing.low;
      high = missing.high;
      known = c.args.inside.now.column.remembered;
      known' = c.crack_two-place.new.self.remembered;
      cracks = rw c.requires.missing.piece_is at c.crack_two-place.ensures.cracked;
      after = rw (c.crack_two-place.ensures.room, c.add.ensures.marks) refl;
    }

pub returns-clause-intact : goal.returns-clause-intact
returns-clause-intact c =
    KeepsIntact-column c.args.inside.now _ _ _ _ [] [] c.requires.intact (IsIntact-cracked _ _ [] c.args.gap.bound (cracked c) c.requires.intact.intact) c.crack_two-place.ensures.remembered

pub returns-clause-refined : goal.returns-clause-refined
returns-clause-refined c = RefinesAt-cracked _ _ [] c.args.gap.bound (cracked c) c.requires.intact.intact
