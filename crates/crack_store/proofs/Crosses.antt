-- An index may go to another thread, and threads may share one, since this holds of its nodes: of a node, if it holds of the level below it.
use denote.Model.{View}
use denote.Model.Goals.{send, has_of, part_has}
use denote.Model.Local.{Parts, rows}
use denote.Model.Marks.{tied_send}
use denote.Param.Send.{IsSend, sendable, view_send}
use Rattle.std.proofs.Crossing.{crosses}
use Rattle.crack_index.specs.contracts.index.CrackerIndex as CrackerIndex
use Rattle.crack_index.specs.contracts.tree.MarkNode as MarkNode
use Rattle.crack_index.specs.contracts.tree.MarkNode.TheKnot as knot
use Rattle.crack_index.specs.declared.tree.MarkNode as declared
use Rattle.crack_index.specs.declared.tree.MarkNode.TheDeep as deep
use Rattle.crack_index.specs.declared.tree.MarkNode.TheView as seen

level-send : (p : Parts knot.frame) → IsSend (rows knot.frame p deep.member-MarkNode) → IsSend (knot.at-MarkNode p)
level-send p h = search (sendable, crosses) depth 20

keeps-send : (p : Parts knot.frame) → ((j : deep.the_members) → IsSend (rows knot.frame p j)) → (i : deep.the_members) → IsSend (rows knot.frame (knot.step p) i)
keeps-send p h deep.member-MarkNode =
    let R = View (knot.at-MarkNode p) declared.MarkNode declared.the_code seen.view seen.invariant in
    has_of knot.frame send (knot.step p) deep.member-MarkNode (part_has send R (view_send (knot.at-MarkNode p) declared.MarkNode declared.the_code seen.view seen.invariant (level-send p (h deep.member-MarkNode))))

hole-send : IsSend knot.hole-MarkNode
hole-send = tied_send knot.frame knot.step knot.sizes keeps-send deep.member-MarkNode

node-send : IsSend MarkNode.the_row
node-send = let h = hole-send in search (sendable, crosses) depth 20

pub index-send : IsSend CrackerIndex.the_row
index-send = let n = node-send in search (sendable, crosses) depth 20
