use Rattle.std.proofs.Common.{arith}
use Rattle.crack_pending.specs.Spots.{kept}
use Rattle.crack_pending.proofs.Members.{members_longer}
use Rattle.crack_pending.proofs.Views.{kept_covered}
use Rattle.crack_pending.proofs.list.PendingList.make_places.Goals as goal

pub lengthen-requires-clause-covered : goal.lengthen-requires-clause-covered
lengthen-requires-clause-covered g c = omega (arith, c.self.invariant.3.within)

pub invariant_of-self : goal.invariant_of-self
invariant_of-self g c =
    let i = c.self.inside in
    let e = c.lengthen.ensures in (
      kept_covered c.self.invariant.0 c.lengthen.new.spots.items (omega (arith, e.kept)) (λ k within. e.same k (omega (arith, within))),
      c.self.invariant.1,
      c.self.invariant.2,
      members_longer i.members c.lengthen.new.members (kept i.stands.items i.tags.handles) _ c.self.invariant.3 _ (omega (arith, e.covered)) e.members,
    )
