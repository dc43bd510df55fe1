-- Receipts, their entries and the totals of these.
use Rattle.std.specs.Prelude.{◌≡◌, ℕ, List, length, map}
use Rattle.crack_row.specs.declared.command.Entry.{Entry}
use Rattle.crack_plain.specs.Totals.{inserted, deleted}
use Rattle.crack_witness.specs.declared.receipt.Receipt.{Receipt}

-- the entry that a receipt holds: its worker, command and reply
abbrev pub entry_of : Receipt → Entry
entry_of r = record { worker = r.worker; command = r.command; reply = r.reply }

-- the entries of receipts, in order
abbrev pub entries_of : List Receipt → List Entry
entries_of receipts = map entry_of receipts

-- these counts are the totals of the receipts' entries: how many there are, and how many rows they inserted and deleted
pub record AreShares (receipts : List Receipt) (answers placed gone : ℕ) : Type 0 where
  pub accepted_is : answers ≡ length (entries_of receipts)
  pub inserted_is : placed ≡ inserted (entries_of receipts)
  pub deleted_is : gone ≡ deleted (entries_of receipts)
