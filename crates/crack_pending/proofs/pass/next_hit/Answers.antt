use Rattle.std.proofs.Common.{◌≡◌, length, false, ap, sym, arith, true≢false}
use Rattle.crack_pending.specs.Codes.{Coding}
use Rattle.crack_pending.specs.Inside.{IsMissed}
use Rattle.crack_pending.proofs.Coded.{missed_code, found_after}
use Rattle.crack_pending.proofs.pass.next_hit.Goals as goal
use Rattle.crack_pending.proofs.pass.next_hit.Goals.{After-seek-near}

-- no row before the candidate is a hit
missed : (c : After-seek-near) → IsMissed c.args.range c.args.arena.now.cells c.args.tags.now.handles c.args.stands.now c.args.from c.seek-near.result
missed c = λ spot after before at.
    let a = c.args in
    let w = c.of-window.result in
    let next = c.seek-near.ensures.next in
    missed_code a.tags.now.remembered a.stands.now a.codes.now c.requires.coded a.range a.arena.now.cells a.tags.now.handles w.first w.last w.beyond c.of-window.ensures.window c.requires.known false (λ e. c.requires.all_known c.if-some_unknown.false) spot (omega (arith, before, next.within)) at (next.passed spot after before) (λ e. absurd (true≢false (sym e)))

pub returns-then-is_hit-clause-hit : goal.returns-then-is_hit-clause-hit
returns-then-is_hit-clause-hit c =
    let coded : length c.seek-near.new.self.codes ≡ length c.args.codes.now.codes = ap (λ (x : Coding). length x.codes) c.seek-near.ensures.same in
    record {
      after = c.seek-near.ensures.next.after;
      within = omega (arith, c.if-near-len.true, c.len-2.ensures, coded, c.requires.coded.few, c.requires.remembered_beside);
      stands_there = c.is_hit.ensures.stands c.if-is_hit.true;
      holds = c.is_hit.ensures.holds c.if-is_hit.true;
      before = missed (goal.at.returns-then-is_hit-clause-hit c).After-seek-near;
    }

pub returns-clause-hit : goal.returns-clause-hit
returns-clause-hit c =
    let a = c.args in
    found_after a.range a.arena.now.cells a.tags.now.handles a.stands.now a.from c.seek-near.result (length a.tags.now.handles) c.first_hit-2.result c.seek-near.ensures.next.after (missed (goal.at.returns-clause-hit c).After-seek-near) c.first_hit-2.ensures
