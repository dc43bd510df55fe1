use Rattle.std.proofs.Common.{ℕ, ◌≤◌, ◌∙◌, ap, arith, All}
use Rattle.std.specs.Prelude.{sum_by}
use Rattle.std.proofs.lemmas.Result.{IfOk-weaker}
use Rattle.crack_row.specs.declared.layout.PieceSize.{PieceSize}
use Rattle.crack_index.specs.Trees.{marks_in_tree}
use Rattle.crack_index.proofs.MarkLaws.{AreJoined-pieces, sum_of_sizes}
use Rattle.crack_index.proofs.index.CrackerIndex.pieces.Goals as goal

pub returns-clause-joined : goal.returns-clause-joined
returns-clause-joined c = λ between.
    let marks = marks_in_tree c.self.inside.root in
    let within : All (λ m. (c.args.keys.low ≤ m.bound.0) × (m.bound.0 ≤ c.args.keys.high)) marks = rw (← c.self.view_is) at between in
    let joined = AreJoined-pieces (record { 0 = c.args.keys.low }) 0 marks (record { 0 = c.args.keys.high }) c.args.len (omega arith) c.self.invariant.rising within in
    IfOk-weaker c.piece_sizes.result _ _ (λ v is. rw is joined) c.piece_sizes.ensures.ok

pub returns-clause-sizes : goal.returns-clause-sizes
returns-clause-sizes c = λ bounded.
    let marks = marks_in_tree c.self.inside.root in
    let within : All (λ m. m.position ≤ c.args.len) marks = rw (← c.self.view_is) at bounded in
    let size : PieceSize → ℕ = λ p. p.size in
    let sum = sum_of_sizes (record { 0 = c.args.keys.low }) 0 marks (record { 0 = c.args.keys.high }) c.args.len c.self.invariant.rising (λ k d h. omega arith) within (omega arith) in
    IfOk-weaker c.piece_sizes.result _ _ (λ v is. ap (sum_by size) is ∙ (omega (arith, sum))) c.piece_sizes.ensures.ok
