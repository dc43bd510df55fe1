-- The effects of a command other than its reply: the change that it makes, and the range that it reads.
use Rattle.std.specs.Prelude.{Option, Some, None, option_and_then}
use Rattle.crack_row.specs.Ranges.{Range}
use Rattle.crack_row.specs.declared.Key.{Key}
use Rattle.crack_row.specs.declared.command.Command.{Command}
use Rattle.crack_row.specs.declared.command.Command.TheVariants.{Insert, Delete, Update, Count, Sum, Select}
use Rattle.crack_row.specs.declared.command.Change.{Change}
use Rattle.crack_row.specs.declared.command.Change.TheVariants.{Place, Remove, Rewrite}

-- the change that a command makes to the rows; none for a count, a sum or a select
abbrev pub change_of : Command → Option Change
change_of (Insert key payload) = Some (Place key payload)
change_of (Delete serial) = Some (Remove serial)
change_of (Update serial key payload) = Some (Rewrite serial key payload)
change_of _ = None

-- the range that a command reads; none for an insert, a delete or an update
abbrev pub range_of : Command → Option Range
range_of (Count range) = Some range
range_of (Sum range) = Some range
range_of (Select range) = Some range
range_of _ = None

-- the key that an insertion or an update gives its row; none if the change deletes a row
abbrev pub brought_key : Change → Option Key
brought_key (Place key payload) = Some key
brought_key (Remove serial) = None
brought_key (Rewrite serial key payload) = Some key

-- the key that an insert or an update gives its row; none for any other command
abbrev pub key_of : Command → Option Key
key_of command = option_and_then brought_key (change_of command)
