use Rattle.std.proofs.Common.{◌≡◌, ◌≤◌, ◌-◌, ◌++◌, drop, length}
use Rattle.crack_session.specs.Feeding.{lists_from}
use Rattle.crack_session.proofs.rest.push_lists.Given as goal

abbrev pub invariant-lists : goal.invariant-lists
invariant-lists l = record {
  text : l.out.items ++ lists_from (drop l.list l.lists) l.at ≡ l.fn.out.items ++ lists_from (drop l.fn.list l.lists) l.fn.at;
  grows : length l.fn.out.items ≤ length l.out.items;
}

abbrev pub decreases-lists : goal.decreases-lists
decreases-lists l = length l.lists - l.list
