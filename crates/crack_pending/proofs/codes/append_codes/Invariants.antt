use Rattle.std.proofs.Common.{◌≡◌, ◌≤◌, length, take, vec_capacity}
use Rattle.crack_pending.specs.Codes.{AreCoded}
use Rattle.crack_pending.proofs.codes.append_codes.Given as goal

abbrev pub invariant-spots : goal.invariant-spots
invariant-spots l = record {
  long : length l.codes.items ≡ l.spot;
  capacity : vec_capacity l.codes ≡ vec_capacity l.initial.codes;
  coded : AreCoded l.tags.remembered l.stands (record { codes = l.codes.items; base = l.scale.base; shift = l.scale.shift });
  longer : length l.initial.codes.items ≤ length l.codes.items;
  kept : take (length l.initial.codes.items) l.codes.items ≡ l.initial.codes.items;
}
