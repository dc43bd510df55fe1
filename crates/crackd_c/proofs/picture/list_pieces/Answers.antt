use Rattle.std.specs.Prelude.{◌≡◌, length, slice_index_or}
use Rattle.crack_row.specs.declared.layout.PieceSize.{PieceSize}
use Rattle.std.proofs.Common.{arith, refl}
use Rattle.std.proofs.lemmas.Option.{slice_get_within}
use Rattle.crackd_c.proofs.PieceLaws.{stands-more}
use Rattle.crackd_c.proofs.picture.list_pieces.Goals as goal

-- the default past the end of a list of pieces
abbrev no_piece : PieceSize
no_piece = record { low = record { 0 = 0 }; high = record { 0 = 0 }; size = 0 }

pub pieces-preserved : goal.pieces-preserved
pieces-preserved c =
    let long : length c.pieces.sizes ≡ length c.pieces.lows = omega arith in
    stands-more c.args.pieces.now c.pieces.lows c.pieces.sizes c.pieces.i c.least_in.result _ (slice_index_or c.args.pieces.now c.pieces.i no_piece) no_piece long c.pieces-test.true c.if-i-lows.false refl (c.least_in.ensures, refl) c.pieces.invariant

pub returns-then-i-lows : goal.returns-then-i-lows
returns-then-i-lows c k piece at room = c.pieces.invariant k piece at (omega (arith, c.if-i-lows.true, room)) room

pub returns : goal.returns
returns c k piece at room = c.pieces.invariant k piece at (omega (arith, c.pieces-test.false, slice_get_within c.args.pieces.now k piece at)) room
