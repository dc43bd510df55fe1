use Rattle.std.proofs.Common.{rules, ap, sym, subst, ◌∙◌, ℕ, ◌≡◌, ◌<◌, arith, length, slice_index_or, []}
use Rattle.std.proofs.lemmas.Bool.Decides.{nat_tests}
use mathlib.Core.List.{IsPrefix}
use Rattle.crack_witness.specs.Audits.{listed}
use Rattle.crack_witness.specs.Histories.{history_of, calls_at}
use Rattle.crack_witness.specs.Witnesses.{WorkerState, HasJustItsOwn}
use Rattle.crack_witness.proofs.Lists.{prefix_self}
use Rattle.crack_witness.proofs.Counting.{agree}
use Rattle.crack_witness.proofs.worker.Worker.counts_agree.Goals as goal

pub returns-in-Some-Some-clause-mine : goal.returns-in-Some-Some-clause-mine
returns-in-Some-Some-clause-mine g c = λ yes.
    let same : c.in-Some-Some.mine ≡ c.in-Some-Some.theirs = grind (arith, nat_tests, yes) in
    let at = c.part-number.ensures in
    let mine = c.in-Some-Some.ensures.some in
    let items = c.as_slice.ensures.value in
    let w = c.args.witnessed.now in
    let less : w.part < length c.self.inside.counts.items = search (rules, mine.0, at, items) in
    let is : c.in-Some-Some.mine ≡ slice_index_or c.self.inside.counts.items w.part 0 = search (rules, mine.1, at, items) in
    let covered : IsPrefix (history_of (g.J.Naming.owner w.part) c.self.inside.seen_events) (history_of (g.J.Naming.owner w.part) w.log) = subst (λ (a : WorkerState). IsPrefix (history_of (g.J.Naming.owner w.part) a.seen) (history_of (g.J.Naming.owner w.part) w.log)) (sym c.self.view_is) c.requires.covered in
    let told = agree g.J.Naming.owner c.self.inside.number c.self.inside.seen_events c.self.inside.seen_by_part.items c.self.inside.counts.items (listed c.self.inside.receipts) w.part c.in-Some-Some.mine c.in-Some-Some.theirs c.self.inside.seen_events w.log c.self.invariant less is c.in-Some-Some.ensures'.some.1 same (prefix_self c.self.inside.seen_events) covered in
    subst (λ (a : WorkerState). HasJustItsOwn g.J.Naming.owner a w) c.self.view_is told
