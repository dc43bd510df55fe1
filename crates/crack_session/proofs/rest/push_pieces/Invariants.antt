use Rattle.std.proofs.Common.{◌≡◌, ◌≤◌, ◌-◌, ◌++◌, drop, length}
use Rattle.std.specs.List.{flat_map}
use Rattle.crack_commands.specs.Texts.{piece_text}
use Rattle.crack_session.proofs.rest.push_pieces.Given as goal

abbrev pub invariant-pieces : goal.invariant-pieces
invariant-pieces l = record {
  text : l.out.items ++ flat_map piece_text (drop l.next l.pieces) ≡ l.fn.out.items ++ flat_map piece_text (drop l.at l.pieces);
  grows : length l.fn.out.items ≤ length l.out.items;
}

abbrev pub decreases-pieces : goal.decreases-pieces
decreases-pieces l = length l.pieces - l.next
