-- Runs of rows that are inserted by one call, each as a command of its own would insert it.
use Rattle.std.specs.Prelude.{ℕ, ◌+◌, ℤ, pos, List, Result, Ok, slice_index_or}
use Rattle.crack_row.specs.declared.command.Command.{Command}
use Rattle.crack_row.specs.declared.command.Command.TheVariants.{Insert}
use Rattle.crack_row.specs.declared.command.Policy.TheVariants.{Gradual}
use Rattle.crack_row.specs.declared.command.Reply.{Reply}
use Rattle.crack_row.specs.declared.command.Reply.TheVariants.{Placed}
use Rattle.crack_row.specs.declared.refusal.Refusal.{Refusal}
use Rattle.crack_part.specs.Outcomes.{Applies}
use Rattle.crack_part.specs.Parts.{Part, IsSound}

-- the command that inserts row `k` of a list of keys and a list of payloads; a number is 0 if its list has no row `k`
abbrev pub insertion_at : List ℕ → List ℤ → ℕ → Command
insertion_at keys payloads k = Insert (record { 0 = slice_index_or keys k 0 }) (record { 0 = slice_index_or payloads k (pos 0) })

-- the row at index `k` of the two lists is inserted, with this outcome, as `Partition::apply` inserts it; the
-- partition is `old` before it and `new`, which is sound, after it
pub record InsertsInto (keys : List ℕ) (payloads : List ℤ) (k : ℕ) (outcome : Result Reply Refusal) (old new : Part) : Type 0 where
  pub applies : Applies Gradual (insertion_at keys payloads k) old outcome new
  pub sound : IsSound new

-- this many rows of the two lists, from the first on, were inserted in turn, which led from `old` to this partition
pub data InsertsRun (keys : List ℕ) (payloads : List ℤ) (old : Part) : ℕ → Part → Type 0 where
  no_row : InsertsRun keys payloads old 0 old
  next_row : (done : ℕ) (between new : Part) → InsertsRun keys payloads old done between → InsertsInto keys payloads done (Ok (Placed (record { 0 = between.next }))) between new → InsertsRun keys payloads old (done + 1) new
