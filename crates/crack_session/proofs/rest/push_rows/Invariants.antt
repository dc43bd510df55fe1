use Rattle.std.proofs.Common.{◌≡◌, ◌≤◌, ◌-◌, ◌++◌, drop, length}
use Rattle.std.specs.List.{flat_map}
use Rattle.crack_commands.specs.Texts.{row_text}
use Rattle.crack_session.proofs.rest.push_rows.Given as goal

abbrev pub invariant-rows : goal.invariant-rows
invariant-rows l = record {
  text : l.out.items ++ flat_map (row_text l.part) (drop l.next l.rows) ≡ l.fn.out.items ++ flat_map (row_text l.part) (drop l.at l.rows);
  grows : length l.fn.out.items ≤ length l.out.items;
}

abbrev pub decreases-rows : goal.decreases-rows
decreases-rows l = length l.rows - l.next
