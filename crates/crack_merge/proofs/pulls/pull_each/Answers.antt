use Rattle.std.proofs.Common.{arith}
use Rattle.std.proofs.lemmas.List.{length-map}
use Rattle.crack_arena.specs.Rows.{key_at}
use Rattle.crack_state.proofs.DrawLaws.{column_some}
use Rattle.crack_merge.specs.Merges.{begins}
use Rattle.crack_merge.proofs.Pulling.{pulling_within, pulling_ahead, IsDrawn, IsDrawn-Pulls}
use Rattle.crack_merge.proofs.pulls.pull_each.Goals as goal
use Rattle.crack_merge.proofs.pulls.pull_each.Goals.{After-recall_invariant-in-deletions}

pub returns-in_default : goal.returns-in_default
returns-in_default c = record { from = 0; seen = c.args.seen; pulls = begins c.args.seen c.requires.within c.requires.none; none = c.in_default.ensures }

pub begin-carrying-requires-clause-some : goal.begin-carrying-requires-clause-some
begin-carrying-requires-clause-some c =
    let store = c.args.store in
    rw c.seek_out.ensures (column_some store (omega (arith, c.in-Some.ensures.within, length-map store.pending_out (key_at store.cells))) c.recall_invariant.ensures)

pub deletions-init : goal.deletions-init
deletions-init c = record {
  before = 0;
  at = c.args.seen;
  store = c.args.store;
  intact = c.recall_invariant.ensures;
  pulls = begins c.args.seen c.requires.within c.requires.none;
  finds = c.in-Some.ensures;
  begun = rw c.seek_out.ensures at c.begin-carrying.ensures;
}

pub doomed-doomed-requires : goal.doomed-doomed-requires
doomed-doomed-requires c = pulling_within c.args.range c.args.fillers c.args.store c.deletions.from c.deletions.seen c.deletions.carrying c.deletions.invariant

pub draw-requires-clause-ahead : goal.draw-requires-clause-ahead
draw-requires-clause-ahead c =
    pulling_ahead c.args.range c.args.fillers c.args.store c.deletions.from c.deletions.seen c.deletions.carrying c.deletions.invariant c.doomed-doomed.result c.doomed-doomed.ensures c.requires.behind

-- the doomed row has come into hand
drawn : (c : After-recall_invariant-in-deletions) → IsDrawn c.args.range c.args.fillers c.args.store c.deletions.from c.deletions.seen c.deletions.carrying c.draw.new.carrying
drawn c =
    IsDrawn-Pulls c.args.range c.args.fillers c.args.store c.deletions.from c.deletions.seen c.deletions.carrying c.deletions.invariant c.doomed-doomed.result c.doomed-doomed.ensures c.draw.new.carrying c.draw.ensures.pulls c.draw.ensures.hand c.draw.ensures.pending_out c.recall_invariant-in-deletions.ensures

pub bury-requires : goal.bury-requires
bury-requires c = rw c.seek_out-in-deletions.ensures.same (drawn (goal.at.bury-requires c).After-recall_invariant-in-deletions).doomed

pub returns-in_default-seek_out : goal.returns-in_default-seek_out
returns-in_default-seek_out c =
    let at = drawn (goal.at.returns-in_default-seek_out c).After-recall_invariant-in-deletions in
    rw (c.bury.ensures.after, c.seek_out-in-deletions.ensures.same) (record { from = c.deletions.from; seen = c.deletions.seen; pulls = at.done; none = at.none c.in_default-seek_out.ensures.finds })

pub bury_and_begin-seen-requires-clause-doomed : goal.bury_and_begin-seen-requires-clause-doomed
bury_and_begin-seen-requires-clause-doomed c = rw c.seek_out-in-deletions.ensures.same (drawn (goal.at.bury_and_begin-seen-requires-clause-doomed c).After-recall_invariant-in-deletions).doomed

pub bury_and_begin-seen-requires-clause-some : goal.bury_and_begin-seen-requires-clause-some
bury_and_begin-seen-requires-clause-some c =
    rw c.seek_out-in-deletions.ensures.same ((drawn (goal.at.bury_and_begin-seen-requires-clause-some c).After-recall_invariant-in-deletions).some c.in-Some-seek_out.place c.in-Some-seek_out.ensures.finds)

pub deletions-smaller : goal.deletions-smaller
deletions-smaller c =
    let begun = rw c.seek_out-in-deletions.ensures.same at c.bury_and_begin-seen.ensures in
    (drawn (goal.at.deletions-smaller c).After-recall_invariant-in-deletions).smaller c.in-Some-seek_out.place c.bury_and_begin-seen.result c.bury_and_begin-seen.new.carrying c.in-Some-seek_out.ensures.finds begun

pub deletions-preserved : goal.deletions-preserved
deletions-preserved c =
    let begun = rw c.seek_out-in-deletions.ensures.same at c.bury_and_begin-seen.ensures in
    (drawn (goal.at.deletions-preserved c).After-recall_invariant-in-deletions).on c.in-Some-seek_out.place c.bury_and_begin-seen.result c.bury_and_begin-seen.new.carrying c.in-Some-seek_out.ensures.finds begun
