use Rattle.std.proofs.Common.{◌∙◌, ◌++◌, ap}
use Rattle.crack_session.specs.Feeding.{SessionState}
use Rattle.crack_session.specs.Readings.{reading_of}
use Rattle.crack_session.proofs.Following.{reading_kept}
use Rattle.crack_session.proofs.feeding.Session.finish.Goals as goal

pub returns-clause-reading : goal.returns-clause-reading
returns-clause-reading c =
    let line = c.as_slice.ensures.value ∙ ap (λ (s : SessionState). s.begun) c.self-2.view_is ∙ ap (λ (s : SessionState). s.begun) c.keep.ensures.kept in
    c.read_line-reading.ensures ∙ ap reading_of line ∙ reading_kept (c.args.self.now.begun ++ c.args.rest.now)
