use Rattle.std.proofs.Common.{◌≡◌, ◌+◌, length, All}
use mathlib.Core.List.{IsPrefix}
use Rattle.crack_witness.specs.Rules.{row, OwnerState}
use Rattle.crack_witness.specs.Keeps.{IsNew, HasOwner}
use Rattle.crack_witness.specs.Witnesses.{AreDistinct}
use Rattle.crack_witness.proofs.Opens.{ids_of}
use Rattle.crack_witness.proofs.opening.Opened.new.Given as goal

abbrev pub invariant-owners : goal.invariant-owners
invariant-owners l = record {
  book : l.pens.book ≡ l.seen.book;
  latest : l.latest.book ≡ l.seen.book;
  row : IsPrefix (row (l.pens.next + l.pens.left)) l.latest.log;
  left : l.number + l.pens.left ≡ l.count;
  count : length l.owners.items ≡ l.number;
  new : All (IsNew l.seen.book) l.owners.items;
  distinct : AreDistinct (ids_of l.owners.items);
  known : All (λ (o : OwnerState). HasOwner o.id l.latest.log) l.owners.items;
}
