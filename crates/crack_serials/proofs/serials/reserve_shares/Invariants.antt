use Rattle.std.proofs.Common.{◌≡◌, length}
use Rattle.crack_serials.specs.Keeps.{KeepsLists, HaveShares}
use Rattle.crack_serials.specs.Views.{rooms_of}
use Rattle.crack_serials.proofs.serials.reserve_shares.Given as goal

abbrev pub invariant-maps : goal.invariant-maps
invariant-maps l = record {
  long : length l.maps.items ≡ 64;
  lists : KeepsLists l.initial.maps.items l.maps.items;
  shares : HaveShares l.number l.first.0 l.count (rooms_of l.maps.items);
}
