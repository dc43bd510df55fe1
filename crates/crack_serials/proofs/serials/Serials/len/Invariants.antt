use Rattle.std.proofs.Common.{◌≡◌, ◌-◌, ◌^◌, length, take}
use Rattle.std.specs.Prelude.{min}
use Rattle.crack_serials.specs.Views.{entries_in_maps}
use Rattle.crack_serials.proofs.serials.Serials.len.Given as goal

abbrev pub invariant-maps : goal.invariant-maps
invariant-maps l = l.rows ≡ min (length (entries_in_maps (take l.map l.self-inside.maps.items))) (2 ^ 64 - 1)
