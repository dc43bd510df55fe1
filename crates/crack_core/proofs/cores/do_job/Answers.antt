use Rattle.std.proofs.Common.{ap, ◌∙◌}
use Rattle.crack_core.specs.declared.step.Done.TheVariants.{CheckpointMade}
use Rattle.crack_core.specs.Steps.{mapped}
use Rattle.crack_core.proofs.cores.do_job.Goals as goal

pub returns-in-Perform-clause-does : goal.returns-in-Perform-clause-does
returns-in-Perform-clause-does c = λ splits limits are.
    let made = c.ask_at.ensures in
    rw c.in-Perform.is (
      c.ask_at.result,
      c.performed.ensures,
      record {
        parts = made.parts splits limits are;
        kept = made.after splits limits are;
        others = made.others;
        store = made.store;
        spared = made.spared;
        same = made.same;
      },
    )

pub returns-in-Checkpoint-clause-does : goal.returns-in-Checkpoint-clause-does
returns-in-Checkpoint-clause-does c = λ splits limits are.
    let made = c.checkpoint_at.ensures in
    rw c.in-Checkpoint.is (
      c.checkpoint_at.result,
      c.checkpoint_done.ensures,
      record {
        parts = made.parts splits limits are;
        checkpoints = made.checkpoints;
        same = made.same;
      },
    )

pub returns-in-Perform-clause-kept : goal.returns-in-Perform-clause-kept
returns-in-Perform-clause-kept c = λ splits limits are. rw (c.in-Perform.is, c.performed.ensures) (c.ask_at.ensures.kept splits limits are)

pub returns-in-Checkpoint-clause-kept : goal.returns-in-Checkpoint-clause-kept
returns-in-Checkpoint-clause-kept c = λ splits limits are. rw (c.in-Checkpoint.is, c.checkpoint_done.ensures) (c.checkpoint_at.ensures.kept limits)

pub returns-in-Checkpoint-clause-outcome : goal.returns-in-Checkpoint-clause-outcome
returns-in-Checkpoint-clause-outcome c = λ splits limits are. rw c.in-Checkpoint.is (c.checkpoint_done.ensures ∙ ap (mapped CheckpointMade) c.checkpoint_at.ensures.outcome)

pub returns-in-Perform-clause-outcome : goal.returns-in-Perform-clause-outcome
returns-in-Perform-clause-outcome c = λ splits limits are. rw c.in-Perform.is (c.ask_at.result, c.performed.ensures, c.ask_at.ensures.outcome splits limits are)
