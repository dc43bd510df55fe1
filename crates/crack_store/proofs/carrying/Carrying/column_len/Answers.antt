use Rattle.std.proofs.Common.{rules}
use Rattle.crack_store.proofs.carrying.Carrying.column_len.Goals as goal

pub returns : goal.returns
returns c = search rules
