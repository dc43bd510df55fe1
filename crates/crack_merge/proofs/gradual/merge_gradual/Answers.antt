use Rattle.std.proofs.Common.{◌≡◌, None, refl, [], ap, ◌∙◌, arith}
use Rattle.crack_row.specs.declared.command.Policy.TheVariants.{Gradual}
use Rattle.crack_state.specs.Merge.{Merges, Tallies, without_first}
use Rattle.crack_state.proofs.MergeLaws.{IsCracked-follows, outside-untouched}
use Rattle.crack_state.specs.State.{State}
use Rattle.crack_state.proofs.AdvanceLaws.{Advances-trans, keys_still}
use Rattle.crack_state.proofs.GradualLaws.{Merges-gradual}
use Rattle.crack_state.proofs.StepLaws.{IsIntact-room}
use Rattle.crack_merge.specs.Merges.{BuriesFew, Stops}
use Rattle.crack_merge.proofs.RangeLaws.{CarriesAll-outside, CarriesSome-outside, PullsAll-outside, LacksFirst-missed, LacksFirst-empty}
use Rattle.crack_merge.proofs.gradual.merge_gradual.Goals.{After-pull_range-merged, In-Err}
use Rattle.crack_merge.proofs.CarryLaws.{PutsIn-room, PutsIn-trans, Stops-Advances, PutsInside-CarriesIn}
use Rattle.crack_merge.proofs.PullLaws.{TakesInside-PullsOut}
use Rattle.crack_merge.proofs.gradual.merge_gradual.Goals as goal

-- the pending insertions of the range were put in, and its pending deletions that were left were taken out
merged : (c : After-pull_range-merged) → Merges Gradual c.args.store c.pull_range-merged.result c.args.range × Tallies Gradual c.args.store c.pull_range-merged.result
merged c =
    let s = c.args.store in
    let u = c.in-Ok.filled in
    let t = c.pull_range-merged.result in
    let r = c.args.range in
    let carried = c.in-Ok.ensures.ok in
    let pulled = c.pull_range-merged.ensures in
    let was = PutsInside-CarriesIn s r carried.from u c.recall_invariant.ensures carried.carries in
    let now = TakesInside-PullsOut Gradual r c.default.result u pulled.from pulled.seen t was.intact pulled.pulls in
    let puts = was.puts.advances in
    let takes = now.advances in
    let same_in : t.pending_in ≡ u.pending_in = LacksFirst-empty u.cells c.default.result u.pending_in t.pending_in pulled.seen (omega arith) now.first.lacks in
    let left_in = LacksFirst-missed s.cells r s.pending_in u.pending_in carried.from was.lacks (rw (keys_still s.cells u.cells u.pending_in puts.reads was.intact.owned.pending_reads) at carried.none) in
    let left_out = LacksFirst-missed u.cells r u.pending_out t.pending_out pulled.from now.lacks (rw (keys_still u.cells t.cells t.pending_out takes.reads now.intact.owned.doomed_reads) at pulled.none) in (
      Merges-gradual s u t r (omega (arith, c.requires.some)) c.requires.low c.requires.high c.requires.cracked puts left_in was.puts.few was.intact takes same_in left_out now.intact,
      (Advances-trans Gradual s u t puts takes).tallies,
    )

-- no memory was found for one of them
stopped : (c : In-Err) → Stops Gradual c.args.store c.in-Err.stopped.0 c.args.range × BuriesFew c.args.store c.in-Err.stopped.0
stopped c =
    let s = c.args.store in
    let t = c.in-Err.stopped.0 in
    let r = c.args.range in
    let some = c.in-Err.ensures.stops in
    let was = PutsInside-CarriesIn s r some.from some.last c.recall_invariant.ensures some.carries in
    let puts = PutsIn-trans Gradual s some.last t was.puts (PutsIn-room Gradual some.last t some.room) in
    let left : t.pending_in ≡ without_first s.cells r was.lacks.passed s.pending_in = ap (λ (x : State). x.pending_in) some.room.same ∙ was.lacks.left_are in
    (Stops-Advances Gradual s t r puts.advances (IsIntact-room some.last t [] some.room was.intact) (was.lacks.passed, was.lacks.within, left), puts.few)

pub returns-in-Ok-clause-merges : goal.returns-in-Ok-clause-merges
returns-in-Ok-clause-merges c = (merged (goal.at.returns-in-Ok-clause-merges c).After-pull_range-merged).0

pub returns-in-Ok-clause-tallies : goal.returns-in-Ok-clause-tallies
returns-in-Ok-clause-tallies c = (merged (goal.at.returns-in-Ok-clause-tallies c).After-pull_range-merged).1

pub returns-in-Ok-clause-untouched : goal.returns-in-Ok-clause-untouched
returns-in-Ok-clause-untouched c = λ untouched.
    let outside = outside-untouched c.args.store c.args.range untouched in
    let filled : c.in-Ok.filled ≡ c.args.store = CarriesAll-outside None c.args.range c.args.store c.in-Ok.filled c.in-Ok.ensures.ok outside.0 in
    let merged : c.pull_range-merged.result ≡ c.in-Ok.filled = PullsAll-outside c.args.range c.default.result c.in-Ok.filled c.pull_range-merged.result c.pull_range-merged.ensures (rw filled outside.1) in
    rw (c.counted_between.ensures, c.tally-before.ensures, c.tally-after.ensures, merged, filled) refl

pub returns-in-Err-clause-untouched : goal.returns-in-Err-clause-untouched
returns-in-Err-clause-untouched c = λ untouched.
    absurd (CarriesSome-outside None c.args.range c.args.store c.in-Err.stopped.0 c.in-Err.ensures.stops (outside-untouched c.args.store c.args.range untouched).0)

pub returns-in-Err-clause-spare : goal.returns-in-Err-clause-spare
returns-in-Err-clause-spare c = λ outside. absurd (CarriesSome-outside None c.args.range c.args.store c.in-Err.stopped.0 c.in-Err.ensures.stops outside)

pub returns-in-Err-clause-stops : goal.returns-in-Err-clause-stops
returns-in-Err-clause-stops c = (stopped (goal.at.returns-in-Err-clause-stops c).In-Err).0

pub returns-in-Err-clause-few : goal.returns-in-Err-clause-few
returns-in-Err-clause-few c = (stopped (goal.at.returns-in-Err-clause-few c).In-Err).1

pub returns-in-Err-clause-still_cracked : goal.returns-in-Err-clause-still_cracked
returns-in-Err-clause-still_cracked c = IsCracked-follows c.args.store c.in-Err.stopped.0 c.args.range (stopped (goal.at.returns-in-Err-clause-still_cracked c).In-Err).0.follows c.requires.cracked
