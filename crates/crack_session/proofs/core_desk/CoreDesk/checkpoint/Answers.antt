use Rattle.std.proofs.Common.{rules}
use Rattle.std.specs.Prelude.{slice_get}
use Rattle.crack_core.specs.Steps.{IsCheckpointOutcome, tables_of}
use Rattle.crack_core.proofs.JobLaws.{checkpoint-expected}
use Rattle.crack_session.proofs.core_desk.CoreDesk.checkpoint.Goals as goal

pub returns-clause-outcome : goal.returns-clause-outcome
returns-clause-outcome c = checkpoint-expected (slice_get (tables_of c.args.self.now.parts) c.args.part) c.checkpoint.result c.checkpoint.ensures.outcome

pub returns-clause-leads : goal.returns-clause-leads
returns-clause-leads c =
    let outcome : IsCheckpointOutcome (slice_get (tables_of c.args.self.now.parts) c.args.part) c.checkpoint.result = checkpoint-expected (slice_get (tables_of c.args.self.now.parts) c.args.part) c.checkpoint.result c.checkpoint.ensures.outcome in
    search rules
