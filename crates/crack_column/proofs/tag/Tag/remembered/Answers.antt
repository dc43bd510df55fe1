use Rattle.std.proofs.Common.{rules}
use Rattle.crack_column.proofs.tag.Tag.remembered.Goals as goal

pub returns : goal.returns
returns c = search rules
