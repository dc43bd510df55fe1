use Rattle.std.proofs.Common.{◌≡◌, [], rules}
use Rattle.crack_store.specs.Further.{own_piece}
use Rattle.crack_store.specs.Inside.{lists_of}
use Rattle.crack_store.proofs.FurtherLemmas.{own_piece-order, own_piece-within}
use Rattle.crack_store.proofs.further.large_piece.Goals as goal

pub overflow_sub-piece : goal.overflow_sub-piece
overflow_sub-piece c =
    let own : c.piece-piece.result ≡ own_piece (lists_of c.args.inside.now) c.args.bound.0 = search rules in
    rw own (own_piece-order (lists_of c.args.inside.now) [] c.args.bound.0 c.requires.intact.intact)

pub returns-clause-within : goal.returns-clause-within
returns-clause-within c =
    let own : c.piece-piece.result ≡ own_piece (lists_of c.args.inside.now) c.args.bound.0 = search rules in
    rw own (own_piece-within (lists_of c.args.inside.now) [] c.args.bound.0 c.requires.intact.intact)
