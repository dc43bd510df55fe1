use Rattle.std.proofs.Common.{◌≡◌, sym, ap}
use Rattle.crack_session.specs.declared.session.SessionProgress.{SessionProgress}
use Rattle.crack_session.proofs.serving.serve.Goals as goal

pub serve_reads-requires : goal.serve_reads-requires
serve_reads-requires g c = record {
  begins = record {
    statements_are = ap (λ (p : SessionProgress). p.statements) c.new-session.ensures.progress;
    short_is = ap (λ (p : SessionProgress). p.first_short) c.new-session.ensures.progress;
    begun = c.new-session.ensures.begun;
    unwritten = c.new-session.ensures.unwritten;
    ending = c.new-session.ensures.ending;
  };
}

pub returns-in-Ok-clause-ends : goal.returns-in-Ok-clause-ends
returns-in-Ok-clause-ends g c =
    let policy = ap (λ (p : SessionProgress). p.policy) c.new-session.ensures.progress in
    rw (c.statements.ensures, c.first_short.ensures, sym policy) c.in-Ok.ensures.ends
