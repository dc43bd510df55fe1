use Rattle.std.proofs.Common.{rules}
use Rattle.crack_part.proofs.known.SettledSumSource.prefers_rest.Goals as goal

pub returns : goal.returns
returns c = search rules
