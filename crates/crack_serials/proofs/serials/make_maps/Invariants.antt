use Rattle.std.proofs.Common.{◌+◌, ◌-◌, ◌≤◌, vec_len, vec_capacity}
use Rattle.crack_serials.specs.Keeps.{AreMade}
use Rattle.crack_serials.proofs.serials.make_maps.Given as goal

abbrev pub invariant-maps : goal.invariant-maps
invariant-maps l = record {
  room : vec_len l.maps + (64 - l.counter) ≤ vec_capacity l.maps;
  made : AreMade l.counter l.maps.items;
}
