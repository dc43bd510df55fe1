use Rattle.std.proofs.Common.{◌≡◌, ◌-◌, ◌<◌, ◌++◌, Bool, length, drop, ap, ◌∙◌, arith}
use Rattle.crack_row.specs.Ranges.{is_in}
use Rattle.crack_arena.specs.Arena.{Handle, times, slots}
use Rattle.crack_arena.specs.Rows.{key_at}
use Rattle.crack_pending.specs.Pending.{Pending, rows_inside}
use Rattle.crack_pending.specs.Spots.{kept}
use Rattle.crack_pending.proofs.MemberSpots.{members_parted}
use Rattle.crack_pending.proofs.Taken.{drop-after, kept_taken, times-parted}
use Rattle.crack_pending.proofs.Views.{once}
use Rattle.crack_pending.proofs.list.PendingList.take_in.Goals as goal
use Rattle.crack_pending.proofs.list.PendingList.take_in.Goals.{After-deref-2}
use Rattle.crack_pending.proofs.list.PendingList.take_in.Given.{Over}

-- those that are struck are the rows of the range
behind : (g : Over) (c : After-deref-2 g) → drop c.len-from.result c.deref-2.result.now ≡ rows_inside c.args.arena.now.cells c.args.range (kept c.self.inside.stands.items c.self.inside.tags.handles)
behind g c =
    let inside = rows_inside c.args.arena.now.cells c.args.range (kept c.self.inside.stands.items c.self.inside.tags.handles) in
    let taken : c.take_hits-left.new.taken.items ≡ c.args.taken.now.items ++ inside = c.take_hits-left.ensures.taken in
    let from : c.len-from.result ≡ length c.args.taken.now.items = omega (arith, c.len-from.ensures) in
    rw (c.deref-2.ensures.value, taken, from) (drop-after c.args.taken.now.items inside)

pub strike_from-requires : goal.strike_from-requires
strike_from-requires g c = λ slot some.
    let rows = kept c.self.inside.stands.items c.self.inside.tags.handles in
    let test : Handle → Bool = λ h. is_in c.args.range (key_at c.args.arena.now.cells h) in
    let listed : 0 < times slot (slots (rows_inside c.args.arena.now.cells c.args.range rows)) = rw (behind g (goal.at.strike_from-requires g c).After-deref-2) at some in
    (c.self.invariant.3.right slot).1 (omega (arith, listed, times-parted test slot rows))

pub overflow_sub-self : goal.overflow_sub-self
overflow_sub-self g c = omega (arith, c.self.invariant.0.counted, c.take_hits-left.ensures.counted)

pub invariant_of-self : goal.invariant_of-self
invariant_of-self g c =
    let a = c.self.invariant.0 in
    let i = c.self.inside in
    let e = c.take_hits-left.ensures in
    let left = e.left in
    let struck = rw (behind g (goal.at.invariant_of-self g c).After-deref-2) at c.strike_from.ensures.struck in (
      kept_taken a c.take_hits-left.new.stands.items (i.rows - c.take_hits-left.result.taken) e.long e.stood (omega (arith, a.counted, e.counted)),
      e.unknowns,
      e.coded,
      rw left (members_parted c.self.invariant.3 c.strike_from.new.members c.strike_from.ensures.long (λ h. is_in c.args.range (key_at c.args.arena.now.cells h)) (once i.tags.handles i.stands.items a.stands_beside a.apart) struck),
    )

pub returns-clause-taken : goal.returns-clause-taken
returns-clause-taken g c = rw (← c.self.view_is) (c.take_hits-left.ensures.taken)

pub returns-clause-left : goal.returns-clause-left
returns-clause-left g c =
    rw (← c.self.view_is) (ap (λ (p : Pending). p.handles) c.close_up_if_sparse.ensures.same ∙ (c.take_hits-left.ensures.left))

pub returns-clause-keys : goal.returns-clause-keys
returns-clause-keys g c =
    let known = c.take_hits-left.ensures.known in
    rw c.close_up_if_sparse.ensures.same known

pub returns-clause-room : goal.returns-clause-room
returns-clause-room g c =
    rw (← c.self.view_is) (omega (arith, c.close_up_if_sparse.ensures.kept, c.take_hits-left.ensures.capacity))

pub returns-clause-known : goal.returns-clause-known
returns-clause-known g c = c.take_hits-left.ensures.remembered
