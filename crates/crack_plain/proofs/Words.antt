-- Words of laws for parts of a partition's past.
use Rattle.std.specs.Prelude.{List, fold, All, IfSome}
use Rattle.crack_row.specs.Commands.{key_of}
use Rattle.crack_row.specs.Ranges.{Range, IsIn}
use Rattle.crack_row.specs.declared.Key.{Key}
use Rattle.crack_row.specs.declared.Row.{Row}
use Rattle.crack_row.specs.declared.command.Command.{Command}
use Rattle.crack_row.specs.declared.command.Entry.{Entry}
use Rattle.crack_plain.specs.Plain.{PlainState, after}

-- the state after answering the commands of these entries, in order, from a state on
abbrev pub replay_from : PlainState → List Entry → PlainState
replay_from s es = fold (λ (s : PlainState) (e : Entry). after s e.command) s es

-- the key of each row is one of these
abbrev pub StandWithin : Range → List Row → Type 0
StandWithin keys rows = All (λ (row : Row). IsIn keys row.key.0) rows

-- the key that a command has, if any, is one of these
abbrev pub IsWithin : Range → Command → Type 0
IsWithin keys command = IfSome (key_of command) (λ (key : Key). IsIn keys key.0)

-- each key that an entry has is one of these
abbrev pub BringWithin : Range → List Entry → Type 0
BringWithin keys entries = All (λ (e : Entry). IsWithin keys e.command) entries
