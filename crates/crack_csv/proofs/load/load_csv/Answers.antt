use Rattle.std.proofs.Common.{◌≡◌, ◌∙◌, sym, ap, subst, Result, Ok, Err}
use Rattle.std.specs.Prelude.{IfErr, IfOk}
use Rattle.crack_row.specs.Devices.{has_failed, reads_of}
use Rattle.crack_row.specs.declared.command.Policy.{Policy}
use Rattle.crack_csv.specs.Asked.{IsAskedAll, IsAskedFirst, MayBeUnread}
use Rattle.crack_csv.specs.Loaders.{LoaderState}
use Rattle.crack_csv.specs.Readers.{begun_by}
use Rattle.crack_csv.proofs.load.load_csv.Goals as goal

-- what follows from an outcome holds of it
ok_from : {A E : Type 0} (P Q : A → Type 0) (r : Result A E) → IfOk r P → ((x : A) → P x → Q x) → IfOk r Q
ok_from P Q (Ok x) is follows = follows x is
ok_from P Q (Err e) is follows = tt

err_from : {A E : Type 0} (P Q : E → Type 0) (r : Result A E) → IfErr r P → ((e : E) → P e → Q e) → IfErr r Q
err_from P Q (Ok x) is follows = tt
err_from P Q (Err e) is follows = follows e is

-- and what follows from either holds
either : {A E : Type 0} (P : A → Type 0) (Q : E → Type 0) (R : Type 0) (r : Result A E) → IfOk r P → IfErr r Q → ((x : A) → P x → R) → ((e : E) → Q e → R) → R
either P Q R (Ok x) is not if_ok if_err = if_ok x is
either P Q R (Err e) not is if_ok if_err = if_err e is

-- a loader that begins by a policy begins by its own
own_policy : (s : LoaderState) (policy : Policy) → s ≡ begun_by policy → s ≡ begun_by s.policy
own_policy s policy is = is ∙ ap begun_by (sym (ap (λ (z : LoaderState). z.policy) is))

policy_of : (s : LoaderState) (policy : Policy) → s ≡ begun_by policy → s.policy ≡ policy
policy_of s policy is = ap (λ (z : LoaderState). z.policy) is

pub load_reads-requires : goal.load_reads-requires
load_reads-requires g c = record { begins = own_policy c.new-loader.result c.args.policy c.new-loader.ensures }

pub returns-clause-asks : goal.returns-clause-asks
returns-clause-asks g c = ok_from _ _ c.load_reads.result c.load_reads.ensures.ends (λ count r. (
  r.bytes,
  r.bytes_are,
  subst (λ (p : Policy). IsAskedAll g.D.Desk.leads (g.D.Desk.splits c.args.desk.now) p r.bytes count c.args.desk.now c.load_reads.new.desk) (policy_of c.new-loader.result c.args.policy c.new-loader.ensures) r.ended.asked,
))

pub returns-clause-asks_in_part : goal.returns-clause-asks_in_part
returns-clause-asks_in_part g c = err_from _ _ c.load_reads.result c.load_reads.ensures.stops (λ fault r. (
  r.bytes,
  r.bytes_are,
  subst (λ (p : Policy). IsAskedFirst g.D.Desk.leads (g.D.Desk.splits c.args.desk.now) p r.bytes fault c.args.desk.now c.load_reads.new.desk) (policy_of c.new-loader.result c.args.policy c.new-loader.ensures) r.asked,
))

pub returns-clause-loaded : goal.returns-clause-loaded
returns-clause-loaded g c = ok_from _ _ c.load_reads.result c.load_reads.ensures.ends (λ count r tables e. (r.bytes, r.bytes_are, r.ended.if_known tables e))

pub returns-clause-cut_short : goal.returns-clause-cut_short
returns-clause-cut_short g c = err_from _ _ c.load_reads.result c.load_reads.ensures.stops (λ fault r tables e. (r.bytes, r.bytes_are, r.if_known tables e))

pub returns-clause-causes : goal.returns-clause-causes
returns-clause-causes g c = err_from _ _ c.load_reads.result c.load_reads.ensures.causes (λ fault may.
    subst (λ (p : Policy). MayBeUnread g.D.Desk.leads (g.D.Desk.splits c.args.desk.now) p (has_failed c.load_reads.new.reader) (reads_of c.load_reads.new.reader) fault c.load_reads.new.desk) (policy_of c.new-loader.result c.args.policy c.new-loader.ensures) may)

pub returns-clause-accepted : goal.returns-clause-accepted
returns-clause-accepted g c = ok_from _ _ c.load_reads.result c.load_reads.ensures.ends (λ count r. r.ended.accepted_are)

pub returns-clause-accepted_of_fault : goal.returns-clause-accepted_of_fault
returns-clause-accepted_of_fault g c = err_from _ _ c.load_reads.result c.load_reads.ensures.stops (λ fault r. r.accepted_are)

pub returns-clause-splits : goal.returns-clause-splits
returns-clause-splits g c = either _ _ _ c.load_reads.result c.load_reads.ensures.ends c.load_reads.ensures.stops (λ count r. r.ended.splits_are) (λ fault r. r.splits_are)

pub returns-clause-bounds : goal.returns-clause-bounds
returns-clause-bounds g c = either _ _ _ c.load_reads.result c.load_reads.ensures.ends c.load_reads.ensures.stops (λ count r. r.ended.bounds_are) (λ fault r. r.bounds_are)
