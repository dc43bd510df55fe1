use Rattle.crack_core.proofs.AskLaws.{total_rows-fit}
use Rattle.crack_session.proofs.query.joined.Goals as goal

pub total_rows-requires : goal.total_rows-requires
total_rows-requires c = rw c.as_slice.ensures.value (total_rows-fit c.args.replies.items c.requires.small c.requires.few)

pub total_rows-total-requires : goal.total_rows-total-requires
total_rows-total-requires c = rw c.as_slice-in-SelectRows.ensures.value (total_rows-fit c.args.replies.items c.requires.small c.requires.few)
