-- The outcome of a command at a partition.
use Rattle.std.specs.Prelude.{◌≡◌, Option, None, Result, Err, IfOk, IfErr, IfSome, OnOk, OnErr}
use Rattle.crack_row.specs.declared.command.Command.{Command}
use Rattle.crack_row.specs.declared.command.Policy.{Policy}
use Rattle.crack_row.specs.declared.command.Reply.{Reply}
use Rattle.crack_row.specs.declared.refusal.Refusal.{Refusal}
use Rattle.crack_row.specs.declared.refusal.Refusal.TheVariants.{OutOfMemory}
use Rattle.crack_plain.specs.Plain.{IsSmall, reply_to, after}
use Rattle.crack_state.specs.State.{State}
use Rattle.crack_part.specs.Parts.{Part, state_of, table_of, Serves, Spares}
use Rattle.crack_part.specs.Refusals.{refusal_of}
use Rattle.crack_part.specs.Upkeep.{answered}

-- The outcome of a command at a partition that is `old` before it and `new` after it. If there is a `cause`, the
-- command is refused for it, and the partition is unchanged. Otherwise the command is counted, and its reply and its
-- effect on the rows are those of the plain table; or it is refused with `OutOfMemory`, and the plain table is
-- unchanged. `Served` holds of the store after a reply, `Spared` after a refusal. Keys and limits stay.
pub record AppliesBy (command : Command) (cause : Option Refusal) (Served Spared : State → Type 0) (old : Part) (result : Result Reply Refusal) (new : Part) : Type 0 where
  pub reply : IfOk result (λ reply. reply ≡ reply_to (state_of old) command)
  pub small : IfOk result IsSmall
  pub table : OnOk result (table_of new ≡ answered old.limits (table_of old) command)
  pub state : OnOk result (state_of new ≡ after (state_of old) command)
  pub store : OnOk result (Served new.store)
  pub opened : (new.keys ≡ old.keys) × (new.limits ≡ old.limits)
  pub err : OnErr result (table_of new ≡ table_of old)
  pub spared : OnErr result (Spared new.store)
  pub refused : IfSome cause (λ e. (result ≡ Err e) × (new ≡ old))
  pub memory : cause ≡ None → IfErr result (λ e. e ≡ OutOfMemory)

-- the outcome of a command under a policy at a partition that is `old` before it and `new` after it: `AppliesBy`,
-- where `refusal_of` gives the cause, and `Serves` and `Spares` say what becomes of the store
abbrev pub Applies : Policy → Command → Part → Result Reply Refusal → Part → Type 0
Applies policy command old result new = AppliesBy command (refusal_of old command) (Serves policy old command) (Spares policy old command) old result new
