use Rattle.std.proofs.lemmas.Bool.{OnFalse_at}
use Rattle.crack_pending.proofs.Coded.{missed_codes}
use Rattle.crack_pending.proofs.code_pass.hit_in_block.Goals as goal

pub returns-then-not-may_hit : goal.returns-then-not-may_hit
returns-then-not-may_hit c =
    let lies = rw (c.list.ensures) at c.may_hit.ensures.lies in
    let none_unknown = rw (c.list.ensures) at c.may_hit.ensures.none_unknown in
    missed_codes c.args.tags.now.remembered c.args.stands.now c.args.codes.now c.requires.coded c.args.range c.args.arena.now.cells c.args.tags.now.handles c.args.window.first c.args.window.last c.args.window.beyond c.requires.window c.requires.known c.args.window.some_unknown c.requires.all_known 32 c.args.from c.requires.within (OnFalse_at c.if-not-may_hit.true lies) (OnFalse_at c.if-not-may_hit.true none_unknown)
