use Rattle.crackd_c.proofs.PieceLaws.{StandBelow}
use Rattle.crackd_c.proofs.picture.list_pieces.Given as goal

abbrev pub invariant-pieces : goal.invariant-pieces
invariant-pieces l = StandBelow l.i l.pieces l.lows l.sizes
