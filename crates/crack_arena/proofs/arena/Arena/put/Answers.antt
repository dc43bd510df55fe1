use Rattle.std.proofs.Common.{rules}
use Rattle.crack_arena.proofs.arena.Arena.put.Goals as goal

pub returns-clause-handle : goal.returns-clause-handle
returns-clause-handle g c = search rules

pub returns-clause-after : goal.returns-clause-after
returns-clause-after g c = search rules

pub returns-clause-room : goal.returns-clause-room
returns-clause-room g c = search rules

pub returns-clause-back : goal.returns-clause-back
returns-clause-back g c = search rules

pub returns-clause-full : goal.returns-clause-full
returns-clause-full g c = search rules

pub returns-clause-unchanged : goal.returns-clause-unchanged
returns-clause-unchanged g c = search rules

pub returns-clause-keeps_spent : goal.returns-clause-keeps_spent
returns-clause-keeps_spent g c = search rules
