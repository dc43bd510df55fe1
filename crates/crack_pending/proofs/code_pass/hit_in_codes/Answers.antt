use Rattle.std.proofs.Common.{rules, ◌≡◌, ◌+◌, ◌≤◌, length, arith}
use Rattle.std.proofs.lemmas.Bool.{OnFalse_at}
use Rattle.crack_pending.proofs.Coded.{missed_codes, missed_both, found_after}
use Rattle.crack_pending.proofs.code_pass.hit_in_codes.Goals as goal

pub far-preserved : goal.far-preserved
far-preserved c = search rules

pub far-preserved-then-not-many_may_hit : goal.far-preserved-then-not-many_may_hit
far-preserved-then-not-many_may_hit c =
    let a = c.args in
    let i = c.far.invariant in
    let w = a.window in
    let lies = rw (c.list.ensures) at c.many_may_hit.ensures.lies in
    let none_unknown = rw (c.list.ensures) at c.many_may_hit.ensures.none_unknown in
    let short : c.far.spot + 128 ≤ length a.codes.now.codes = omega (arith, c.far-test.true, c.len.ensures, i.within) in
    let many = missed_codes a.tags.now.remembered a.stands.now a.codes.now c.requires.coded a.range a.arena.now.cells a.tags.now.handles w.first w.last w.beyond c.requires.window c.requires.known w.some_unknown c.requires.all_known 128 c.far.spot short (OnFalse_at c.if-not-many_may_hit.true lies) (OnFalse_at c.if-not-many_may_hit.true none_unknown) in
    record {
      after = omega (arith, i.after);
      within = short;
      missed = missed_both a.range a.arena.now.cells a.tags.now.handles a.stands.now a.from c.far.spot (c.far.spot + 128) i.missed many;
    }

pub returns : goal.returns
returns c =
    let a = c.args in
    let i = c.far.invariant in
    let all : c.len-2.result ≡ length a.codes.now.codes = c.len-2.ensures in
    found_after a.range a.arena.now.cells a.tags.now.handles a.stands.now a.from c.far.spot (length a.codes.now.codes) c.hit_in_blocks-2.result i.after i.missed (rw all at c.hit_in_blocks-2.ensures)
