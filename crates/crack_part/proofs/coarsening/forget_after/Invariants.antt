use Rattle.std.proofs.Common.{◌≡◌, length}
use Rattle.crack_plain.specs.Plain.{PlainState}
use Rattle.crack_part.specs.KnownSums.{KnowsSums}
use Rattle.crack_part.proofs.ForgetLaws.{IsOnWay, JoinsOnWay}
use Rattle.crack_part.proofs.coarsening.forget_after.Given as goal

abbrev pub invariant-bounds : goal.invariant-bounds
invariant-bounds l = record {
  on : IsOnWay l.fn.key l.fn.store l.pass l.store;
  joins : JoinsOnWay l.fn.key l.fn.store l.pass l.store l.fn.known.pieces l.known.pieces;
  since : l.known.since ≡ l.fn.known.since;
  knows : (plain : PlainState) → KnowsSums l.fn.known plain → KnowsSums l.known plain;
}

abbrev pub decreases-bounds : goal.decreases-bounds
decreases-bounds l = length l.store.marks
