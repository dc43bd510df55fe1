-- The effects of calls at a worker's desk.
use Rattle.std.specs.Prelude.{◌≡◌, ℕ, List, [], ◌∷◌, None, Result, Ok}
use Rattle.crack_row.specs.declared.command.Command.{Command}
use Rattle.crack_row.specs.declared.command.Reply.{Reply}
use Rattle.crack_row.specs.declared.refusal.Refusal.{Refusal}
use Rattle.crack_witness.specs.declared.receipt.Receipt.{Receipt}
use Rattle.crack_session.specs.Calls.{Call, Asked, Checkpointed, Looked, Measured, Surveyed}
use Rattle.crack_table.specs.Tables.{TableState, AnswersAt, LooksAt, MeasuresAt}

-- what a call does to a worker of this table: a command does what `Asks` says. Any other call leaves the worker
-- unchanged: a request for the traffic returns `None`, and the others have an outcome that the table may give.
abbrev pub table_leads : {W : Type 0} → TableState → (ℕ → Command → Result Reply Refusal → W → W → Type 0) → W → Call → W → Type 0
table_leads table Asks old (Asked part command policy outcome) new = Asks part command outcome old new
table_leads table Asks old (Checkpointed part outcome) new = AnswersAt table part (λ e. ⊥) outcome × (new ≡ old)
table_leads table Asks old (Looked part outcome) new = LooksAt table part outcome × (new ≡ old)
table_leads table Asks old (Measured part outcome) new = MeasuresAt table part outcome × (new ≡ old)
table_leads table Asks old (Surveyed traffic) new = (traffic ≡ None) × (new ≡ old)

-- the commands among the calls that were answered, in order, each with its partition and its reply
abbrev pub answers_in : List Call → List (ℕ × Command × Reply)
answers_in [] = []
answers_in (Asked part command policy (Ok reply) ∷ calls) = (part, command, reply) ∷ answers_in calls
answers_in (call ∷ calls) = answers_in calls

-- a receipt's partition, command and reply
abbrev pub receipted : Receipt → ℕ × Command × Reply
receipted r = (r.part, r.command, r.reply)
