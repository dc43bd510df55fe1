use Rattle.std.specs.Prelude.{◌≡◌, ◌≤◌, ◌*◌, ◌^◌, length, take}
use Rattle.crack_core.specs.Listing.{all_listed, AreInLists}
use Rattle.crack_core.proofs.listing.list_all.Given as goal

abbrev pub invariant-replies : goal.invariant-replies
invariant-replies l = record {
  found : l.found ≡ length (all_listed (take l.i l.replies));
  small : l.found ≤ l.i * 2 ^ 32;
  stand : AreInLists (all_listed (take l.i l.replies)) l.parts l.serials l.keys l.payloads;
}
