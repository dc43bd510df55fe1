use Rattle.std.proofs.Common.{◌≡◌, ◌+◌, ◌-◌, ◌≤◌, ◌++◌, [], length, vec_len, vec_capacity}
use Rattle.std.specs.Prelude.{replicate}
use Rattle.crack_arena.proofs.cell_list.push_pages.Given as goal

abbrev pub invariant-pages : goal.invariant-pages
invariant-pages g l = record {
  room : vec_len l.pages + (l.more - l.counter) ≤ vec_capacity l.pages;
  items : l.pages.items ≡ l.initial.pages.items ++ replicate l.counter [];
  before : l.before ≡ length l.initial.pages.items;
}
