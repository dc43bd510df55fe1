use Rattle.crack_pending.proofs.Coded.{missed_code, hit_code}
use Rattle.crack_pending.proofs.code_pass.is_hit.Goals as goal

pub returns-then-not-may_hold-clause-missed : goal.returns-then-not-may_hold-clause-missed
returns-then-not-may_hold-clause-missed c = λ _ at.
    let a = c.args in
    let lies = rw (c.list.ensures) at (c.may_hold.ensures.lies c.if-not-may_hold.true) in
    let none_unknown = rw (c.list.ensures) at (c.may_hold.ensures.none_unknown c.if-not-may_hold.true) in
    missed_code a.tags.now.remembered a.stands.now a.codes.now c.requires.coded a.range a.arena.now.cells a.tags.now.handles a.window.first a.window.last a.window.beyond c.requires.window c.requires.known a.window.some_unknown c.requires.all_known a.spot c.requires.within at lies none_unknown

pub returns-then-is_inside-clause-holds : goal.returns-then-is_inside-clause-holds
returns-then-is_inside-clause-holds c = λ _.
    let a = c.args in
    let inside = rw (c.list.ensures) at (c.is_inside.ensures.0 c.if-is_inside.true) in
    hit_code a.tags.now.remembered a.stands.now a.codes.now c.requires.coded a.range a.arena.now.cells a.tags.now.handles a.window.first a.window.last a.window.beyond c.requires.window c.requires.known a.spot c.requires.within inside.0 inside.1
