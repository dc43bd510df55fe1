use Rattle.std.proofs.Common.{◌≡◌, subst, rules}
use Rattle.crack_state.specs.State.{live_rows}
use Rattle.crack_store.specs.declared.inside.Inside.{Inside}
use Rattle.crack_store.specs.Inside.{lists_of}
use Rattle.crack_store.specs.Further.{CracksFurther}
use Rattle.crack_store.specs.Gaps.{bounds_in}
use Rattle.crack_store.proofs.FurtherLemmas.{none-missing, CracksFurther-cracked, live_rows-further}
use Rattle.crack_store.proofs.store.Store.crack_further.Goals as goal

pub returns-then-bounds-eq0-clause-ok : goal.returns-then-bounds-eq0-clause-ok
returns-then-bounds-eq0-clause-ok c =
    let s = lists_of c.code_pending.new.inside in
    let none : bounds_in c.missing_ends.result ≡ 0 = search rules in
    let done = CracksFurther-cracked s c.args.range (none-missing s c.args.range c.missing_ends.result c.missing_ends.ensures none) in
    rw (← c.self.view_is) (subst (λ (p : Inside). CracksFurther (lists_of p) s c.args.range) c.code_pending.ensures done)

pub returns-clause-live : goal.returns-clause-live
returns-clause-live c =
    let u = lists_of c.crack_further.new.inside in
    let same = live_rows-further _ u c.args.range c.crack_further.ensures.further in
    rw (← c.self.view_is) (subst (λ (p : Inside). live_rows u ≡ live_rows (lists_of p)) c.code_pending.ensures same)
