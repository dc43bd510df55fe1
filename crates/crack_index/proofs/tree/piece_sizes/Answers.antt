use Rattle.std.proofs.Common.{[]}
use Rattle.crack_index.specs.Trees.{marks_in_tree}
use Rattle.crack_index.proofs.Sides.{pieces_whole}
use Rattle.crack_index.proofs.tree.piece_sizes.Goals as goal

pub returns-clause-ok : goal.returns-clause-ok
returns-clause-ok c =
    pieces_whole c.in_ok-pieces.pieces.items c.append_pieces.new.pieces.items c.push_reserved.new.self.items c.low.result c.high.result c.args.keys.low c.args.keys.high c.append_pieces.new.last (marks_in_tree c.args.link.now) c.args.len c.piece_between.result
    c.in_ok-pieces.ensures.items c.low.ensures.value c.high.ensures.value (c.append_pieces.ensures.made [] c.high.result c.args.len) c.piece_between.ensures c.push_reserved.ensures.items
