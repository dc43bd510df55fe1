use Rattle.std.proofs.Common.{◌≡◌, map, arith}
use Rattle.std.proofs.lemmas.List.Sorted.{IsPermutation-map, All-permutation}
use Rattle.crack_arena.specs.Arena.{times}
use Rattle.crack_arena.proofs.Times.{times-map-IsPermutation}
use Rattle.crack_arena.specs.Rows.{unknown}
use Rattle.crack_column.specs.Keeps.{remembered_key}
use Rattle.crack_column.specs.Inside.{forgotten, Read}
use Rattle.crack_column.specs.Labels.{tags_of}
use Rattle.crack_column.proofs.Passes.{all_read}
use Rattle.crack_column.proofs.tag.crack.Goals as goal

pub returns-then-unread-eq0-clause-kept : goal.returns-then-unread-eq0-clause-kept
returns-then-unread-eq0-clause-kept c = IsPermutation-map forgotten (tags_of c.args.labels.now c.args.payloads.now) (tags_of c.divide.new.labels c.divide.new.payloads) c.divide.ensures.kept

pub returns-then-unread-eq0-clause-read : goal.returns-then-unread-eq0-clause-read
returns-then-unread-eq0-clause-read c =
    let none : times unknown (map remembered_key (tags_of c.args.labels.now c.args.payloads.now)) ≡ 0 = omega (arith, c.requires.unread, c.if-unread-eq0.true) in
    All-permutation (Read c.args.arena.now.cells) (tags_of c.args.labels.now c.args.payloads.now) (tags_of c.divide.new.labels c.divide.new.payloads) c.divide.ensures.kept (all_read c.args.arena.now.cells (tags_of c.args.labels.now c.args.payloads.now) none c.requires.known)

pub returns-then-unread-eq0-clause-fewer : goal.returns-then-unread-eq0-clause-fewer
returns-then-unread-eq0-clause-fewer c =
    omega (arith, times-map-IsPermutation unknown remembered_key (tags_of c.args.labels.now c.args.payloads.now) (tags_of c.divide.new.labels c.divide.new.payloads) c.divide.ensures.kept)

pub returns-clause-kept : goal.returns-clause-kept
returns-clause-kept c =
    rw (← c.learn-learned.ensures.kept) (IsPermutation-map forgotten (tags_of c.learn-learned.new.labels c.learn-learned.new.payloads) (tags_of c.divide-2.new.labels c.divide-2.new.payloads) c.divide-2.ensures.kept)

pub returns-clause-read : goal.returns-clause-read
returns-clause-read c =
    All-permutation (Read c.args.arena.now.cells) (tags_of c.learn-learned.new.labels c.learn-learned.new.payloads) (tags_of c.divide-2.new.labels c.divide-2.new.payloads) c.divide-2.ensures.kept c.learn-learned.ensures.read

pub returns-clause-fewer : goal.returns-clause-fewer
returns-clause-fewer c =
    omega (arith, times-map-IsPermutation unknown remembered_key (tags_of c.learn-learned.new.labels c.learn-learned.new.payloads) (tags_of c.divide-2.new.labels c.divide-2.new.payloads) c.divide-2.ensures.kept, c.learn-learned.ensures.fewer)
