use Rattle.std.proofs.Common.{rules}
use Rattle.crack_part.proofs.settling.merge.Goals as goal

pub returns-in-Complete-clause-merged : goal.returns-in-Complete-clause-merged
returns-in-Complete-clause-merged c = search rules

pub returns-in-Complete-clause-near : goal.returns-in-Complete-clause-near
returns-in-Complete-clause-near c = search rules

pub returns-in-Complete-clause-tallied : goal.returns-in-Complete-clause-tallied
returns-in-Complete-clause-tallied c = search rules

pub returns-in-Complete-clause-stopped : goal.returns-in-Complete-clause-stopped
returns-in-Complete-clause-stopped c = search rules

pub returns-in-Gradual-clause-merged : goal.returns-in-Gradual-clause-merged
returns-in-Gradual-clause-merged c = search rules

pub returns-in-Gradual-clause-near : goal.returns-in-Gradual-clause-near
returns-in-Gradual-clause-near c = search rules

pub returns-in-Gradual-clause-tallied : goal.returns-in-Gradual-clause-tallied
returns-in-Gradual-clause-tallied c = search rules

pub returns-in-Gradual-clause-stopped : goal.returns-in-Gradual-clause-stopped
returns-in-Gradual-clause-stopped c = search rules

pub returns-in-Ripple-clause-merged : goal.returns-in-Ripple-clause-merged
returns-in-Ripple-clause-merged c = search rules

pub returns-in-Ripple-clause-near : goal.returns-in-Ripple-clause-near
returns-in-Ripple-clause-near c = search rules

pub returns-in-Ripple-clause-tallied : goal.returns-in-Ripple-clause-tallied
returns-in-Ripple-clause-tallied c = search rules

pub returns-in-Ripple-clause-stopped : goal.returns-in-Ripple-clause-stopped
returns-in-Ripple-clause-stopped c = search rules
