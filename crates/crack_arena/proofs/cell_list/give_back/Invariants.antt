use Rattle.std.proofs.Common.{◌≡◌, take}
use Rattle.crack_arena.proofs.PageLemmas.{AreSpare}
use Rattle.crack_arena.proofs.cell_list.give_back.Given as goal

abbrev pub invariant-pages : goal.invariant-pages
invariant-pages g l = record { spare : AreSpare l.pages.items l.kept; same : take l.kept l.pages.items ≡ take l.kept l.initial.pages.items }

abbrev pub decreases-pages : goal.decreases-pages
decreases-pages g l = goal.left-pages g l
