use Rattle.std.proofs.Common.{◌≤◌, ◌<◌, ◌+◌, [], ◌∷◌, length, take, get_or, refl, ◌∙◌, arith}
use Rattle.std.proofs.lemmas.List.{take_all, take_more}
use Rattle.crack_csv.proofs.Loaders.{Takes-none, Takes-then, StopsBehind-then}
use Rattle.crack_csv.proofs.loader.Loader.feed.Goals as goal

pub bytes-init : goal.bytes-init
bytes-init g c = record {
  takes = Takes-none g.D.Desk.bounds g.D.Desk.splits g.D.Desk.tables g.D.Desk.accepted g.D.Desk.leads c.args.self.now c.args.desk.now;
  policy = refl;
}

pub bytes-preserved : goal.bytes-preserved
bytes-preserved g c =
    let below : c.bytes.at < length c.args.bytes.now = let test = c.bytes-test.true in omega (arith, test) in
    record {
      takes = rw (take_more c.args.bytes.now c.bytes.at 0 below)
          (Takes-then g.D.Desk.bounds g.D.Desk.splits g.D.Desk.tables g.D.Desk.accepted g.D.Desk.leads c.args.self.now c.bytes.self c.take_byte.new.self (take c.bytes.at c.args.bytes.now) (get_or c.args.bytes.now c.bytes.at 0 ∷ [])
          c.args.desk.now c.bytes.desk c.take_byte.new.desk c.bytes.invariant.policy c.bytes.invariant.takes c.in_default.ensures.goes_on);
      policy = c.take_byte.ensures.policy ∙ c.bytes.invariant.policy;
    }

pub returns-in-Err-clause-stops : goal.returns-in-Err-clause-stops
returns-in-Err-clause-stops g c =
    let below : c.bytes.at < length c.args.bytes.now = let test = c.bytes-test.true in omega (arith, test) in (
      c.bytes.at + 1,
      omega (arith, below),
      rw (c.loaded.ensures.value, take_more c.args.bytes.now c.bytes.at 0 below)
          (StopsBehind-then g.D.Desk.bounds g.D.Desk.splits g.D.Desk.tables g.D.Desk.accepted g.D.Desk.leads c.args.self.now c.bytes.self _ (take c.bytes.at c.args.bytes.now) (get_or c.args.bytes.now c.bytes.at 0 ∷ [])
          c.args.desk.now c.bytes.desk c.take_byte.new.desk c.bytes.invariant.policy c.bytes.invariant.takes c.in-Err.ensures.stops),
    )

pub returns-clause-goes_on : goal.returns-clause-goes_on
returns-clause-goes_on g c =
    let all : length c.args.bytes.now ≤ c.bytes.at = let test = c.bytes-test.false in omega (arith, test) in
    rw (take_all c.bytes.at c.args.bytes.now all) at c.bytes.invariant.takes
