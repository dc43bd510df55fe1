use Rattle.std.proofs.Common.{rules}
use Rattle.crack_store.proofs.store.Store.rewrite.Goals as goal

pub returns-clause-after : goal.returns-clause-after
returns-clause-after c = search rules

pub returns-clause-live : goal.returns-clause-live
returns-clause-live c = search rules

pub returns-clause-spare : goal.returns-clause-spare
returns-clause-spare c = search rules

pub returns-clause-same : goal.returns-clause-same
returns-clause-same c = search rules

pub returns-clause-err : goal.returns-clause-err
returns-clause-err c = search rules
