use Rattle.std.proofs.Common.{refl}
use Rattle.crack_part.proofs.replies.copied.Goals as goal

pub returns-clause-ok : goal.returns-clause-ok
returns-clause-ok c = (refl, c.in_ok-receipt.ensures.ok, c.in_ok-kept.ensures.ok)
