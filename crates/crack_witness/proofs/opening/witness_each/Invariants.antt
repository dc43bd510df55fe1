use Rattle.std.proofs.Common.{[], ◌≡◌, ◌<◌, ◌≤◌, ◌^◌, ◌+◌, length, reverse, All, vec_len, vec_capacity}
use Rattle.crack_part.specs.Parts.{Part, table_of}
use Rattle.crack_witness.specs.Histories.{IsPastOf}
use Rattle.crack_witness.specs.Keeps.{AreOwners}
use Rattle.crack_witness.proofs.Opens.{AreDone}
use Rattle.crack_witness.proofs.opening.witness_each.Given as goal

abbrev pub invariant-partitions : goal.invariant-partitions
invariant-partitions g l = record {
  owners : AreOwners g.J.Naming.book g.J.Naming.owner l.owners.items;
  new : All (λ (p : Part). IsPastOf [] (table_of p)) l.partitions.items;
  count : length l.partitions.items ≡ length l.owners.items;
  few : length l.owners.items < 2 ^ 32;
  room : vec_len l.owners + vec_len l.witnessed ≤ vec_capacity l.witnessed;
  done : AreDone g.J.Naming.owner l.workers l.is_audited l.initial.partitions.items l.partitions.items (reverse l.witnessed.items);
}

abbrev pub decreases-partitions : goal.decreases-partitions
decreases-partitions g l = length l.owners.items
