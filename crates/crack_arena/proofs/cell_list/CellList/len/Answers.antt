use Rattle.std.proofs.Common.{sym}
use Rattle.crack_arena.proofs.PageLemmas.{length-joined}
use Rattle.crack_arena.proofs.cell_list.CellList.len.Goals as goal

pub returns : goal.returns
returns g c = rw (← c.self.view_is) (sym (length-joined c.self.inside.pages.items c.self.inside.len c.self.invariant))
