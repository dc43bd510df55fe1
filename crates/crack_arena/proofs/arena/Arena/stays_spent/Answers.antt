use Rattle.crack_arena.proofs.Laws.{read_spent_after}
use Rattle.crack_arena.proofs.arena.Arena.stays_spent.Goals as goal

pub returns : goal.returns
returns g c = read_spent_after c.args.self.now c.args.handle c.requires
