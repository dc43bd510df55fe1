use Rattle.std.proofs.Common.{◌≡◌, sym, ◌∙◌, ap, inr}
use Rattle.crack_witness.specs.Witnesses.{WorkerState}
use Rattle.crack_table.proofs.Missing.{none_missing}
use Rattle.crack_table.proofs.gathering.gather.Goals as goal

pub returns-in-Ok-clause-all : goal.returns-in-Ok-clause-all
returns-in-Ok-clause-all g c =
    let w : c.workers.result ≡ c.table.inside.workers = c.workers.ensures.value ∙ sym (ap (λ t. t.workers) c.table.view_is) in
    let none = rw w at (sym c.missing_workers-missing.ensures ∙ c.if-missing-ne0.false) in
    rw (← c.table.view_is) (none_missing (λ (a : WorkerState). a.worker) c.args.workers.items c.table.inside.workers none)

pub returns-in-Err-clause-causes : goal.returns-in-Err-clause-causes
returns-in-Err-clause-causes g c =
    let w : c.workers.result ≡ c.table.inside.workers = c.workers.ensures.value ∙ sym (ap (λ t. t.workers) c.table.view_is) in
    let none = rw w at (sym c.missing_workers-missing.ensures ∙ c.if-missing-ne0.false) in
    rw (← c.table.view_is) (inr (none, rw c.deref.ensures.value at c.in-Err.ensures.causes))
