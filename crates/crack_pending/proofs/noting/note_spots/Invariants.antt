use Rattle.std.proofs.Common.{◌≡◌, vec_len}
use Rattle.crack_pending.specs.Keeps.{LeadBack}
use Rattle.crack_pending.proofs.noting.note_spots.Given as goal

abbrev pub invariant-spots : goal.invariant-spots
invariant-spots l = record {
  led : LeadBack l.tags.handles l.stands l.spots.items l.spot;
  covered : vec_len l.spots ≡ vec_len l.initial.spots;
}
