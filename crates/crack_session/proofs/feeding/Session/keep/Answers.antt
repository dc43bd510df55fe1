use Rattle.std.proofs.Common.{ap, ◌∙◌, arith}
use Rattle.crack_session.proofs.Pieces.{state_with, kept_more}
use Rattle.crack_session.specs.Feeding.{rest_text}
use Rattle.crack_session.proofs.feeding.Session.keep.Goals as goal

pub returns-clause-kept : goal.returns-clause-kept
returns-clause-kept c =
    let count = kept_more c.self.inside.begun.items c.args.bytes.now c.min.result (omega (arith, c.len-room.ensures.fits, c.len-room.ensures.value)) (omega (arith, c.min.ensures, c.len-room.ensures.value)) in
    rw (← c.self.view_is) (ap (state_with c.self.inside.progress (rest_text c.self.inside.rest) c.self.inside.ending) (c.push.ensures ∙ count))
