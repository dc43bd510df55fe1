-- Which replies can be copied without memory.
use Rattle.crack_row.specs.declared.command.Reply.{Reply}
use Rattle.crack_row.specs.declared.command.Reply.TheVariants.{Rows}

-- the reply has no list, so a copy of the reply takes no memory
abbrev pub IsFlat : Reply → Type 0
IsFlat (Rows rows) = ⊥
IsFlat _ = Unit {0}
