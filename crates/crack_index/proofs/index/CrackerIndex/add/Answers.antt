use Rattle.std.proofs.Common.{◌≡◌, ◌+◌, ◌<◌, vec_len, arith}
use Rattle.crack_index.specs.Marks.{with_mark}
use Rattle.crack_index.specs.Trees.{marks_in_tree}
use Rattle.crack_index.proofs.MarkLaws.{Rising-added}
use Rattle.crack_index.proofs.Sides.{IsKept-added}
use Rattle.crack_index.proofs.index.CrackerIndex.add.Goals as goal

pub insert-requires-clause-rising : goal.insert-requires-clause-rising
insert-requires-clause-rising c = rw c.take-root.ensures.value (Rising-added (record { bound = c.args.bound; position = c.args.position }) (marks_in_tree c.self.inside.root) c.self.invariant.rising (rw (← c.self.view_is) at c.requires.absent) (rw (← c.self.view_is) at c.requires.order))

pub invariant_of-self : goal.invariant_of-self
invariant_of-self c =
    let room : 0 < vec_len c.self.inside.spare = rw (← c.self.view_is) at c.requires.room in
    let one : vec_len c.pop.new.self + 1 ≡ vec_len c.self.inside.spare = omega (arith, room, c.in-Some.ensures.len) in
    let is : c.insert.result.value.marks ≡ with_mark (record { bound = c.args.bound; position = c.args.position }) (marks_in_tree c.self.inside.root) = rw c.take-root.ensures.value at c.insert.ensures.marks in
    IsKept-added (record { bound = c.args.bound; position = c.args.position }) (marks_in_tree c.self.inside.root) c.insert.result.value.marks (vec_len c.self.inside.spare) (vec_len c.pop.new.self) c.self.inside.len is one (Rising-added (record { bound = c.args.bound; position = c.args.position }) (marks_in_tree c.self.inside.root) c.self.invariant.rising (rw (← c.self.view_is) at c.requires.absent) (rw (← c.self.view_is) at c.requires.order)) c.self.invariant

pub returns-clause-rising : goal.returns-clause-rising
returns-clause-rising c =
    let is : c.insert.result.value.marks ≡ with_mark (record { bound = c.args.bound; position = c.args.position }) (marks_in_tree c.self.inside.root) = rw c.take-root.ensures.value at c.insert.ensures.marks in
    rw is (Rising-added (record { bound = c.args.bound; position = c.args.position }) (marks_in_tree c.self.inside.root) c.self.invariant.rising (rw (← c.self.view_is) at c.requires.absent) (rw (← c.self.view_is) at c.requires.order))
