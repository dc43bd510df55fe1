use Rattle.crack_index.specs.Trees.{marks_in_tree}
use Rattle.crack_index.proofs.PassLaws.{next_few-there}
use Rattle.crack_index.proofs.index.CrackerIndex.find_few.Goals as goal

pub returns-clause-there : goal.returns-clause-there
returns-clause-there c = rw (← c.self.view_is) (next_few-there c.args.len c.args.pass.now c.next_few.new.self c.next_few.result (marks_in_tree c.self.inside.root) c.next_few.ensures)
