use Rattle.std.proofs.Common.{◌≡◌, refl, sym}
use Rattle.std.proofs.lemmas.Bool.{true≢false}
use Rattle.crack_row.specs.declared.command.Policy.TheVariants.{Ripple}
use Rattle.crack_state.proofs.FollowLaws.{IsExact-before, Tallies-trans, length_marks-Follows}
use Rattle.crack_state.proofs.MergeLaws.{IsCracked-follows, outside-untouched}
use Rattle.crack_merge.proofs.Merging.{Merges-near, StopsIn-filled, fillers_none}
use Rattle.crack_merge.proofs.Putting.{MovesNear-trans}
use Rattle.crack_merge.proofs.ripple.merge_ripple.Goals as goal

pub ripple_out-requires-clause-cracked : goal.ripple_out-requires-clause-cracked
ripple_out-requires-clause-cracked c = IsCracked-follows c.args.store c.in-Ok.filled c.args.range c.in-Ok.ensures.near.follows c.requires.cracked

pub returns-in-Ok-ripple_out-clause-merges : goal.returns-in-Ok-ripple_out-clause-merges
returns-in-Ok-ripple_out-clause-merges c =
    Merges-near c.args.store c.in-Ok.filled c.in-Ok-ripple_out.merged c.args.range (record { some = c.requires.some; low = c.requires.low; high = c.requires.high; cracked = c.requires.cracked }) c.recall_invariant.ensures c.in-Ok.ensures.near c.in-Ok-ripple_out.ensures.near

pub returns-in-Ok-ripple_out-clause-near : goal.returns-in-Ok-ripple_out-clause-near
returns-in-Ok-ripple_out-clause-near c = record { filled = c.in-Ok.filled; puts_in = c.in-Ok.ensures.near; takes_out = c.in-Ok-ripple_out.ensures.near }

pub returns-in-Ok-ripple_out-clause-tallies : goal.returns-in-Ok-ripple_out-clause-tallies
returns-in-Ok-ripple_out-clause-tallies c =
    Tallies-trans Ripple c.args.store c.in-Ok.filled c.in-Ok-ripple_out.merged (length_marks-Follows c.args.store c.in-Ok.filled c.in-Ok.ensures.near.follows) c.in-Ok.ensures.tallies c.in-Ok-ripple_out.ensures.tallies

pub returns-in-Ok-ripple_out-clause-moves : goal.returns-in-Ok-ripple_out-clause-moves
returns-in-Ok-ripple_out-clause-moves c =
    MovesNear-trans c.args.store c.in-Ok.filled c.in-Ok-ripple_out.merged c.args.range c.in-Ok.ensures.near.follows.bounds (IsExact-before Ripple c.in-Ok.filled c.in-Ok-ripple_out.merged c.in-Ok-ripple_out.ensures.tallies) c.in-Ok.ensures.moves c.in-Ok-ripple_out.ensures.moves

pub returns-in-Ok-ripple_out-clause-untouched : goal.returns-in-Ok-ripple_out-clause-untouched
returns-in-Ok-ripple_out-clause-untouched c = λ untouched.
    let outside = outside-untouched c.args.store c.args.range untouched in
    let filled : c.in-Ok.filled ≡ c.args.store = c.in-Ok.ensures.untouched outside.0 in
    let merged : c.in-Ok-ripple_out.merged ≡ c.in-Ok.filled = c.in-Ok-ripple_out.ensures.untouched (rw filled outside.1) in
    rw (c.counted_between.ensures, c.tally-before.ensures, c.tally-after.ensures, merged, filled) refl

pub returns-in-Err-clause-untouched : goal.returns-in-Err-clause-untouched
returns-in-Err-clause-untouched c = λ untouched. absurd (true≢false (sym (c.in-Err.ensures.spare (outside-untouched c.args.store c.args.range untouched).0)))

pub returns-in-Err-clause-spare : goal.returns-in-Err-clause-spare
returns-in-Err-clause-spare c = λ outside none. absurd (true≢false (sym (c.in-Err.ensures.spare outside)))

-- no memory was found for the fillers
pub returns-in-Err-ripple_out-clause-stops : goal.returns-in-Err-ripple_out-clause-stops
returns-in-Err-ripple_out-clause-stops c =
    (StopsIn-filled c.args.store c.in-Ok.filled c.in-Err-ripple_out.stopped.0 c.args.range (record { near = c.in-Ok.ensures.near; tallies = c.in-Ok.ensures.tallies; moves = c.in-Ok.ensures.moves; few = c.in-Ok.ensures.buries }) c.in-Err-ripple_out.ensures.same).stops

pub returns-in-Err-ripple_out-clause-unfilled : goal.returns-in-Err-ripple_out-clause-unfilled
returns-in-Err-ripple_out-clause-unfilled c =
    (StopsIn-filled c.args.store c.in-Ok.filled c.in-Err-ripple_out.stopped.0 c.args.range (record { near = c.in-Ok.ensures.near; tallies = c.in-Ok.ensures.tallies; moves = c.in-Ok.ensures.moves; few = c.in-Ok.ensures.buries }) c.in-Err-ripple_out.ensures.same).unfilled

pub returns-in-Err-ripple_out-clause-few : goal.returns-in-Err-ripple_out-clause-few
returns-in-Err-ripple_out-clause-few c =
    (StopsIn-filled c.args.store c.in-Ok.filled c.in-Err-ripple_out.stopped.0 c.args.range (record { near = c.in-Ok.ensures.near; tallies = c.in-Ok.ensures.tallies; moves = c.in-Ok.ensures.moves; few = c.in-Ok.ensures.buries }) c.in-Err-ripple_out.ensures.same).few

pub returns-in-Err-ripple_out-clause-still_cracked : goal.returns-in-Err-ripple_out-clause-still_cracked
returns-in-Err-ripple_out-clause-still_cracked c =
    IsCracked-follows c.args.store c.in-Err-ripple_out.stopped.0 c.args.range (StopsIn-filled c.args.store c.in-Ok.filled c.in-Err-ripple_out.stopped.0 c.args.range (record { near = c.in-Ok.ensures.near; tallies = c.in-Ok.ensures.tallies; moves = c.in-Ok.ensures.moves; few = c.in-Ok.ensures.buries }) c.in-Err-ripple_out.ensures.same).stops.follows c.requires.cracked

pub returns-in-Err-ripple_out-clause-spare : goal.returns-in-Err-ripple_out-clause-spare
returns-in-Err-ripple_out-clause-spare c = λ outside none.
    let filled : c.in-Ok.filled ≡ c.args.store = c.in-Ok.ensures.untouched outside in
    absurd (true≢false (sym (c.in-Err-ripple_out.ensures.spare (rw filled none))))

pub returns-in-Err-ripple_out-clause-untouched : goal.returns-in-Err-ripple_out-clause-untouched
returns-in-Err-ripple_out-clause-untouched c = λ untouched.
    let outside = outside-untouched c.args.store c.args.range untouched in
    let filled : c.in-Ok.filled ≡ c.args.store = c.in-Ok.ensures.untouched outside.0 in
    absurd (true≢false (sym (c.in-Err-ripple_out.ensures.spare (rw filled (fillers_none c.args.store c.args.range outside.1)))))
