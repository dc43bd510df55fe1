-- Known sums may go to another thread, since this holds of the nodes of their tree: of a node, if it holds of the level below it.
use denote.Model.{View}
use denote.Model.Goals.{send, has_of, part_has}
use denote.Model.Local.{Parts, rows}
use denote.Model.Marks.{tied_send}
use denote.Param.Send.{IsSend, sendable, view_send}
use Rattle.std.proofs.Crossing.{crosses}
use Rattle.crack_index.specs.contracts.sums.PieceSums as PieceSums
use Rattle.crack_index.specs.contracts.sum_tree.PieceNode as PieceNode
use Rattle.crack_index.specs.contracts.sum_tree.PieceNode.TheKnot as knot
use Rattle.crack_index.specs.declared.sum_tree.PieceNode as declared
use Rattle.crack_index.specs.declared.sum_tree.PieceNode.TheDeep as deep
use Rattle.crack_index.specs.declared.sum_tree.PieceNode.TheView as seen

level-send : (p : Parts knot.frame) → IsSend (rows knot.frame p deep.member-PieceNode) → IsSend (knot.at-PieceNode p)
level-send p h = search (sendable, crosses) depth 20

keeps-send : (p : Parts knot.frame) → ((j : deep.the_members) → IsSend (rows knot.frame p j)) → (i : deep.the_members) → IsSend (rows knot.frame (knot.step p) i)
keeps-send p h deep.member-PieceNode =
    let R = View (knot.at-PieceNode p) declared.PieceNode declared.the_code seen.view seen.invariant in
    has_of knot.frame send (knot.step p) deep.member-PieceNode (part_has send R (view_send (knot.at-PieceNode p) declared.PieceNode declared.the_code seen.view seen.invariant (level-send p (h deep.member-PieceNode))))

hole-send : IsSend knot.hole-PieceNode
hole-send = tied_send knot.frame knot.step knot.sizes keeps-send deep.member-PieceNode

node-send : IsSend PieceNode.the_row
node-send = let h = hole-send in search (sendable, crosses) depth 20

pub pieces-send : IsSend PieceSums.the_row
pieces-send = let n = node-send in search (sendable, crosses) depth 20
