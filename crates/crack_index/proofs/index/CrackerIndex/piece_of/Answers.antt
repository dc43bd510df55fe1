use Rattle.std.proofs.Common.{◌≡◌, rules}
use Rattle.crack_index.specs.Marks.{Rising, last_mark, next_mark, start_of, end_of}
use Rattle.crack_index.proofs.MarkLaws.{piece_order, Fits-piece}
use Rattle.crack_index.proofs.index.CrackerIndex.piece_of.Goals as goal

pub returns-clause-order : goal.returns-clause-order
returns-clause-order c =
    let marks = c.args.self.now.marks in
    let rising : Rising marks = rw (← c.self.view_is) c.self.invariant.rising in
    let from : c.map_or.result ≡ start_of (last_mark c.args.key.0 marks) = search rules in
    let to : c.map_or-2.result ≡ end_of c.args.len (next_mark c.args.key.0 marks) = search rules in
    λ within. rw (from, to) (piece_order c.args.key.0 c.args.len marks rising within)

pub returns-clause-fits : goal.returns-clause-fits
returns-clause-fits c =
    let marks = c.args.self.now.marks in
    let rising : Rising marks = rw (← c.self.view_is) c.self.invariant.rising in
    let from : c.map_or.result ≡ start_of (last_mark c.args.key.0 marks) = search rules in
    let to : c.map_or-2.result ≡ end_of c.args.len (next_mark c.args.key.0 marks) = search rules in
    λ p h k. Fits-piece (record { bound = record { 0 = c.args.key.0 }; position = p }) c.args.len marks rising (rw from at h) (rw to at k)
