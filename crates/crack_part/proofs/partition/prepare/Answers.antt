use Rattle.std.proofs.Common.{rules, ◌<◌, ◌≤◌}
use Rattle.crack_part.proofs.ForgetLaws.{Settles-by, StopsRead-by, ReadsBy-none, ReadsBy-settled}
use Rattle.crack_part.proofs.KeepLemmas.{ReadsRange-none, ReadsRange-settled}
use Rattle.crack_part.proofs.PointLemmas.{on_err}
use Rattle.crack_part.proofs.partition.prepare.Goals as goal

pub returns-then-is_empty-clause-prepared : goal.returns-then-is_empty-clause-prepared
returns-then-is_empty-clause-prepared c =
    let empty : c.clip-common.result.high ≤ c.clip-common.result.low = search rules in
    rw c.in-Some.is (ReadsRange-none c.args.policy c.args.store.now _ (rw c.clip-common.ensures.value at empty))

pub returns-then-is_empty-clause-common : goal.returns-then-is_empty-clause-common
returns-then-is_empty-clause-common c =
    let empty : c.clip-common.result.high ≤ c.clip-common.result.low = search rules in
    rw c.in-Some.is (rw c.clip-common.ensures.value at empty)

pub returns-in_ok-settle-in-Some-clause-prepared : goal.returns-in_ok-settle-in-Some-clause-prepared
returns-in_ok-settle-in-Some-clause-prepared c =
    let filled : c.clip-common.result.low < c.clip-common.result.high = search rules in
    let settled = Settles-by _ _ _ _ _ _ (rw c.clip-common.ensures.value at c.in_ok-settle-in-Some.ensures.settled) in
    rw c.in-Some.is (ReadsRange-settled c.args.policy c.args.store.now c.settle.new.store _ (rw c.clip-common.ensures.value at filled) settled)

pub returns-in_ok-settle-in-Some-clause-common : goal.returns-in_ok-settle-in-Some-clause-common
returns-in_ok-settle-in-Some-clause-common c =
    let filled : c.clip-common.result.low < c.clip-common.result.high = search rules in
    rw c.in-Some.is (c.clip-common.ensures.value, filled)

pub returns-in_err-settle-in-Some-clause-spared : goal.returns-in_err-settle-in-Some-clause-spared
returns-in_err-settle-in-Some-clause-spared c =
    let stopped = StopsRead-by _ _ _ _ _ _ (rw c.clip-common.ensures.value at c.in_err-settle-in-Some.ensures.stopped) in
    rw c.in-Some.is (on_err c.from_residual.result stopped)

pub returns-then-is_empty-clause-passed : goal.returns-then-is_empty-clause-passed
returns-then-is_empty-clause-passed c =
    let empty : c.clip-common.result.high ≤ c.clip-common.result.low = search rules in
    rw c.in-Some.is (ReadsBy-none c.args.policy c.args.passes.now c.args.store.now _ (rw c.clip-common.ensures.value at empty))

pub returns-in_ok-settle-in-Some-clause-passed : goal.returns-in_ok-settle-in-Some-clause-passed
returns-in_ok-settle-in-Some-clause-passed c =
    let filled : c.clip-common.result.low < c.clip-common.result.high = search rules in
    let settled = rw c.clip-common.ensures.value at c.in_ok-settle-in-Some.ensures.settled in
    rw c.in-Some.is (ReadsBy-settled c.args.policy c.args.passes.now c.args.store.now c.settle.new.passes c.settle.new.store _ (rw c.clip-common.ensures.value at filled) settled)

pub returns-in_err-settle-in-Some-clause-stopped : goal.returns-in_err-settle-in-Some-clause-stopped
returns-in_err-settle-in-Some-clause-stopped c =
    let stopped = rw c.clip-common.ensures.value at c.in_err-settle-in-Some.ensures.stopped in
    rw c.in-Some.is (on_err c.from_residual.result stopped)
