use Rattle.std.proofs.Common.{◌≡◌, ◌≤◌}
use Rattle.std.specs.Map.{keys_of}
use Rattle.crack_plain.specs.Plain.{PlainState, IsNumbered}
use Rattle.crack_index.specs.Sums.{AreRight}
use Rattle.crack_part.specs.Parts.{IsFaithful}
use Rattle.crack_part.specs.KnownSums.{sum_before}
use Rattle.crack_part.proofs.known.take_in.Given as goal

abbrev pub invariant-serials : goal.invariant-serials
invariant-serials l = ((plain : PlainState) → IsNumbered plain → IsFaithful l.store l.next plain → l.from ≤ l.next → AreRight (sum_before l.from plain.rows) l.fn.pieces → AreRight (sum_before l.serial plain.rows) l.pieces) × (keys_of l.pieces ≡ keys_of l.fn.pieces) × (l.next ≤ l.from → l.pieces ≡ l.fn.pieces)
