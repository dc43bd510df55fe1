use Rattle.std.proofs.Common.{◌≤◌, ◌+◌, length, arith}
use Rattle.std.proofs.lemmas.Bool.{OnFalse_at}
use Rattle.crack_pending.proofs.Looks.{gathered_block}
use Rattle.crack_pending.proofs.ahead.gather.Goals as goal
use Rattle.crack_pending.proofs.ahead.gather.Goals.{then-any_lies, else-any_lies}

pub far-preserved : goal.far-preserved
far-preserved c =
    let codes = c.args.codes.now in
    let l = c.far in
    let short : l.spot + 32 ≤ length codes = omega (arith, c.far-test.true, c.len.ensures, l.invariant.gathered.within) in
    elim c.if-any_lies.branch [
      | then-any_lies w ↦ rw (w.candidates-is) (record {
        gathered = w.gather_between.ensures.gathered c.args.from l.invariant.gathered;
        capacity = omega (arith, w.gather_between.ensures.capacity, l.invariant.capacity);
      })
      | else-any_lies w ↦ rw (w.candidates-is) (record {
        gathered = gathered_block codes c.args.first c.args.last c.args.from l.spot l.candidates.items l.invariant.gathered short (OnFalse_at w.if-any_lies.false c.any_lies.ensures);
        capacity = l.invariant.capacity;
      })
    ]

pub returns-clause-ahead : goal.returns-clause-ahead
returns-clause-ahead c = c.gather_between-2.ensures.gathered c.args.from c.far.invariant.gathered
