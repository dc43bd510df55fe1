-- The number of insertions and deletions in a history.
use Rattle.std.specs.Prelude.{ℕ, Bool, true, false, List, count_by}
use Rattle.crack_row.specs.declared.command.Reply.{Reply}
use Rattle.crack_row.specs.declared.command.Reply.TheVariants.{Placed, Gone}
use Rattle.crack_row.specs.declared.command.Entry.{Entry}

-- whether the reply is that a row was inserted
abbrev pub is_placed : Reply → Bool
is_placed (Placed serial) = true
is_placed _ = false

-- whether the reply is that a row was deleted
abbrev pub is_gone : Reply → Bool
is_gone (Gone row) = true
is_gone _ = false

-- how many rows the entries' commands inserted
abbrev pub inserted : List Entry → ℕ
inserted es = count_by (λ (e : Entry). is_placed e.reply) es

-- how many rows the entries' commands deleted
abbrev pub deleted : List Entry → ℕ
deleted es = count_by (λ (e : Entry). is_gone e.reply) es
