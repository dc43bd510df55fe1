use Rattle.std.proofs.Common.{length, sym, ◌∙◌}
use Rattle.crack_pending.proofs.Kept.{length-kept}
use Rattle.crack_pending.proofs.Moves.{kept-covered}
use Rattle.crack_pending.proofs.Views.{once, memories-beside}
use Rattle.crack_pending.proofs.list.PendingList.recall_invariant.Goals as goal

pub returns-clause-once : goal.returns-clause-once
returns-clause-once g c =
    let a = c.self.invariant.0 in
    rw (← c.self.view_is) (once c.self.inside.tags.handles c.self.inside.stands.items a.stands_beside a.apart)

pub returns-clause-covered : goal.returns-clause-covered
returns-clause-covered g c =
    let a = c.self.invariant.0 in
    rw (← c.self.view_is) (kept-covered c.self.inside.tags.handles c.self.inside.stands.items a.stands_beside (length c.self.inside.spots.items) a.covered)

pub returns-clause-beside : goal.returns-clause-beside
returns-clause-beside g c =
    let a = c.self.invariant.0 in
    rw (← c.self.view_is) (length-kept c.self.inside.stands.items c.self.inside.tags.remembered (memories-beside a) ∙ sym (length-kept c.self.inside.stands.items c.self.inside.tags.handles a.stands_beside))
