use Rattle.std.proofs.lemmas.Bool.{OnFalse_at}
use Rattle.crack_pending.proofs.Blocks.{missed_block}
use Rattle.crack_pending.proofs.pass.hit_in_block.Goals as goal

pub returns-then-not-may_hit : goal.returns-then-not-may_hit
returns-then-not-may_hit c =
    missed_block c.args.range c.args.arena.now.cells c.args.tags.now.handles c.args.tags.now.remembered c.args.stands.now c.args.from c.args.wanted.low c.args.wanted.last c.args.wanted.some_unknown c.requires.known c.requires.all_known c.requires.low c.requires.last (OnFalse_at c.if-not-may_hit.true c.may_hit.ensures.lies) (OnFalse_at c.if-not-may_hit.true c.may_hit.ensures.none_unknown)
