use Rattle.std.proofs.Common.{refl}
use Rattle.crack_core.specs.Steps.{tables_of}
use Rattle.crack_session.proofs.Known.{reported_if_known, answered_if_known}
use Rattle.crack_session_tests.proofs.one_core.serve_and_export.Goals as goal

pub returns-in-Ok-export_csv : goal.returns-in-Ok-export_csv
returns-in-Ok-export_csv g c = λ bytes out e h.
    let one = reported_if_known _ _ _ _ _ _ _ _ _ _ _ c.in-Ok.ensures.ends bytes out e h in
    let told = c.in-Ok-export_csv.ensures.exported _ refl in (
      tables_of c.serve.new.desk.parts,
      one.answers,
      answered_if_known _ _ _ _ _ _ _ _ _ _ _ one _ _ refl refl,
      one.short_is,
      rw (c.serve.ensures.bounds, c.serve.ensures.splits, one.written_is) at told,
    )
