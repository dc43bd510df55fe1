use Rattle.crack_table.proofs.RepeatLaws.{repeats}
use Rattle.crack_table.proofs.repeating.one_thread_repeats.Goals as goal

pub returns : goal.returns
returns g c = λ splits limits parts. repeats g.J.Naming.owner splits limits c.args.gathered.now.parts.items c.recall_invariant.ensures.whole parts
