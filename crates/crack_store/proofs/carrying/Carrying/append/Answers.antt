use Rattle.std.proofs.Common.{rules}
use Rattle.crack_store.proofs.carrying.Carrying.append.Goals as goal

pub put_last-requires-clause-above : goal.put_last-requires-clause-above
put_last-requires-clause-above c = search rules
