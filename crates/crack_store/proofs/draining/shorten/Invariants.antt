use Rattle.std.proofs.Common.{◌≡◌, ◌+◌, ◌≤◌, length, take}
use Rattle.crack_store.proofs.draining.shorten.Given as goal

abbrev pub invariant-rows : goal.invariant-rows
invariant-rows l = record {
  counted : l.rows ≡ length l.column.handles;
  least : l.len ≤ length l.column.handles;
  most : length l.column.handles ≤ length l.initial.column.handles;
  handles : l.column.handles ≡ take (length l.column.handles) l.initial.column.handles;
  remembered : l.column.remembered ≡ take (length l.column.handles) l.initial.column.remembered;
  room : l.column.room + length l.column.handles ≡ l.initial.column.room + length l.initial.column.handles;
}

abbrev pub decreases-rows : goal.decreases-rows
decreases-rows l = l.rows
