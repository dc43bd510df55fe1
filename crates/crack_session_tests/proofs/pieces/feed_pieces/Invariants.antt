use Rattle.std.proofs.Common.{◌≤◌, length}
use Rattle.crack_session_tests.proofs.pieces.feed_pieces.Given as goal

abbrev pub invariant-pieces : goal.invariant-pieces
invariant-pieces g l = record {
  within : l.taken ≤ length l.bytes;
}
