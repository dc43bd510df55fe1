use Rattle.std.proofs.Common.{Some, IfOk, IfErr}
use Rattle.std.proofs.lemmas.Result.{IfOk-weaker, IfErr-weaker}
use Rattle.crack_state.proofs.MergeLaws.{IsCracked-follows}
use Rattle.crack_merge.proofs.RangeLaws.{CarriesAll-outside, carried_spare}
use Rattle.crack_merge.proofs.EdgeLaws.{IsRangeOf}
use Rattle.crack_merge.proofs.Merging.{PutIn, PutIn-carried, StopsIn-carried}
use Rattle.crack_merge.proofs.Putting.{StopsIn}
use Rattle.crack_merge.proofs.ripple.ripple_in.Goals as goal
use Rattle.crack_merge.proofs.ripple.ripple_in.Goals.{After-carry_range}

put : (c : After-carry_range) → IfOk c.carry_range.result (λ t. PutIn c.args.store t c.args.range)
put c =
    let of : IsRangeOf c.args.store c.args.range = record { some = c.requires.some; low = c.requires.low; high = c.requires.high; cracked = c.requires.cracked } in
    IfOk-weaker c.carry_range.result _ _ (λ t all. PutIn-carried c.args.store t c.args.range of c.recall_invariant.ensures (rw c.high.ensures.value at all)) c.carry_range.ensures.ok

stopped : (c : After-carry_range) → IfErr c.carry_range.result (λ e. StopsIn c.args.store e.0 c.args.range)
stopped c =
    let of : IsRangeOf c.args.store c.args.range = record { some = c.requires.some; low = c.requires.low; high = c.requires.high; cracked = c.requires.cracked } in
    IfErr-weaker c.carry_range.result _ _ (λ e part. StopsIn-carried c.args.store e.0 c.args.range of c.recall_invariant.ensures (rw c.high.ensures.value at part)) c.carry_range.ensures.stops

pub returns-clause-near : goal.returns-clause-near
returns-clause-near c = IfOk-weaker c.carry_range.result _ _ (λ t was. was.near) (put c)

pub returns-clause-tallies : goal.returns-clause-tallies
returns-clause-tallies c = IfOk-weaker c.carry_range.result _ _ (λ t was. was.tallies) (put c)

pub returns-clause-moves : goal.returns-clause-moves
returns-clause-moves c = IfOk-weaker c.carry_range.result _ _ (λ t was. was.moves) (put c)

pub returns-clause-stops : goal.returns-clause-stops
returns-clause-stops c = IfErr-weaker c.carry_range.result _ _ (λ e stops. stops.stops) (stopped c)

pub returns-clause-untouched : goal.returns-clause-untouched
returns-clause-untouched c = λ outside. IfOk-weaker c.carry_range.result _ _ (λ t all. CarriesAll-outside (Some c.high.result.0) c.args.range c.args.store t all outside) c.carry_range.ensures.ok

pub returns-clause-spare : goal.returns-clause-spare
returns-clause-spare c = carried_spare (Some c.high.result.0) c.args.range c.args.store c.carry_range.result c.carry_range.ensures.stops

pub returns-clause-few : goal.returns-clause-few
returns-clause-few c = IfErr-weaker c.carry_range.result _ _ (λ e stops. stops.few) (stopped c)

pub returns-clause-still_cracked : goal.returns-clause-still_cracked
returns-clause-still_cracked c = IfErr-weaker c.carry_range.result _ _ (λ e stops. IsCracked-follows c.args.store e.0 c.args.range stops.stops.follows c.requires.cracked) (stopped c)

pub returns-clause-buries : goal.returns-clause-buries
returns-clause-buries c = IfOk-weaker c.carry_range.result _ _ (λ t was. was.few) (put c)

pub returns-clause-unfilled : goal.returns-clause-unfilled
returns-clause-unfilled c = IfErr-weaker c.carry_range.result _ _ (λ e stops. stops.unfilled) (stopped c)
