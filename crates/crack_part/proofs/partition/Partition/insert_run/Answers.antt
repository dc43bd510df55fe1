use Rattle.std.proofs.Common.{arith}
use Rattle.crack_part.specs.Parts.{Part}
use Rattle.crack_part.specs.Runs.{no_row}
use Rattle.crack_part.proofs.RunLaws.{MayRun, are-insertable, length-taken, next-after, runs}
use Rattle.crack_part.proofs.partition.Partition.insert_run.Goals as goal
use Rattle.crack_part.proofs.partition.Partition.insert_run.Goals.{After-keys_within-count}

-- the partition as it was
abbrev before : (c : After-keys_within-count) → Part
before c = record { keys = c.self.inside.keys; limits = c.self.inside.limits; next = c.self.inside.next; checkpointed = c.self.inside.checkpointed; since = c.self.inside.since; store = c.self.inside.store }

-- the run that it is asked to take
may-run : (c : After-keys_within-count) → MayRun c.args.keys.now c.args.payloads.now (before c) c.keys_within-count.result
may-run c =
    let left = rw (← c.self.view_is) at c.inserts_left-left.ensures in
    let most = c.keys_within-count.ensures.most in
    record {
      in_keys = c.keys_within-count.ensures.few;
      in_payloads = omega (arith, c.keys_within-count.ensures.few, c.requires);
      within = c.keys_within-count.ensures.within;
      may = record { history = omega (arith, left.history, most); life = omega (arith, left.life, most); cells = omega (arith, left.cells, most) };
    }

pub returns-then-count-eq0-clause-inserts : goal.returns-then-count-eq0-clause-inserts
returns-then-count-eq0-clause-inserts c = no_row

pub returns-then-count-eq0-clause-last : goal.returns-then-count-eq0-clause-last
returns-then-count-eq0-clause-last c =
    let sound = c.self.invariant.sound in
    rw (← c.self.view_is) (next-after _ 0 sound (omega (arith, sound.lived)))

pub insert_run-taken-requires-clause-insertable : goal.insert_run-taken-requires-clause-insertable
insert_run-taken-requires-clause-insertable c =
    let run = may-run (goal.at.insert_run-taken-requires-clause-insertable c).After-keys_within-count in
    are-insertable c.args.keys.now c.args.payloads.now _ c.keys_within-count.result c.self.invariant.sound run

pub invariant_of-self-2 : goal.invariant_of-self-2
invariant_of-self-2 c =
    let at = (goal.at.invariant_of-self-2 c).After-keys_within-count in
    (runs c.self.inside.known c.args.keys.now c.args.payloads.now (before at) c.keys_within-count.result c.insert_run-taken.result c.insert_run-taken.new.self (omega arith) (omega (arith, c.insert_run-taken.ensures.few, length-taken c.keys_within-count.result c.args.keys.now)) c.self.invariant (may-run at) c.insert_run-taken.ensures.after).1

pub returns-clause-inserts : goal.returns-clause-inserts
returns-clause-inserts c =
    let at = (goal.at.returns-clause-inserts c).After-keys_within-count in
    rw (← c.self.view_is) (runs c.self.inside.known c.args.keys.now c.args.payloads.now (before at) c.keys_within-count.result c.insert_run-taken.result c.insert_run-taken.new.self (omega arith) (omega (arith, c.insert_run-taken.ensures.few, length-taken c.keys_within-count.result c.args.keys.now)) c.self.invariant (may-run at) c.insert_run-taken.ensures.after).0

pub returns-clause-last : goal.returns-clause-last
returns-clause-last c =
    let at = (goal.at.returns-clause-last c).After-keys_within-count in
    let few = length-taken c.keys_within-count.result c.args.keys.now in
    let last = next-after (before at) c.keys_within-count.result c.self.invariant.sound (may-run at).may.life in
    rw (← c.self.view_is) (omega (arith, last, few, c.insert_run-taken.ensures.few))
