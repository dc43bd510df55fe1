use Rattle.std.proofs.Common.{inr}
use Rattle.crack_index.specs.declared.mark.Mark.{Mark}
use Rattle.crack_state.proofs.CrackLaws.{Refines-both}
use Rattle.crack_store.specs.Inside.{lists_of}
use Rattle.crack_store.proofs.CrackLemmas.{missing_after, Refines-one}
use Rattle.crack_store.proofs.cracking.crack_at_ends.Goals as goal

pub returns-in-One-clause-refined : goal.returns-in-One-clause-refined
returns-in-One-clause-refined c =
    let s = lists_of c.args.inside.now in
    let told = rw c.in-One.is at c.requires.missing in
    Refines-one s (lists_of c.crack_in.new.inside) c.args.range c.in-One.gap.bound.0 c.crack_in.ensures.refined told.0.missing told.1 told.2

pub returns-in-Together-clause-refined : goal.returns-in-Together-clause-refined
returns-in-Together-clause-refined c =
    let told = rw c.in-Together.is at c.requires.missing in
    rw (told.0.0, told.0.1) at c.crack_together.ensures.refined

pub crack_in-requires-in-Apart-2-clause-missing : goal.crack_in-requires-in-Apart-2-clause-missing
crack_in-requires-in-Apart-2-clause-missing c =
    let s = lists_of c.args.inside.now in
    let u = lists_of c.crack_in-in-Apart.new.inside in
    let told = rw c.in-Apart.is at c.requires.missing in
    let high : Mark = record { bound = c.in-Apart.high.bound; position = c.crack_in-in-Apart.result } in
    missing_after s u high c.in-Apart.low.bound.0 c.in-Apart.low.piece told.1.low told.1.high.missing told.1.behind c.crack_in-in-Apart.ensures.refined c.crack_in-in-Apart.ensures.marks

pub returns-in-Apart-clause-refined : goal.returns-in-Apart-clause-refined
returns-in-Apart-clause-refined c =
    let s = lists_of c.args.inside.now in
    let told = rw c.in-Apart.is at c.requires.missing in
    Refines-both s (lists_of c.crack_in-in-Apart.new.inside) (lists_of c.crack_in-in-Apart-2.new.inside) c.args.range c.in-Apart.high.bound.0 c.in-Apart.low.bound.0 (inr (told.0.1, told.0.0)) c.crack_in-in-Apart.ensures.refined c.crack_in-in-Apart-2.ensures.refined
