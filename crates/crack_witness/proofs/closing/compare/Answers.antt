use Rattle.std.proofs.Common.{rules, ◌≡◌, ◌∙◌, List, length, ap, sym, subst, arith, get_or, slice_set, All}
use Rattle.std.proofs.lemmas.List.{set-get_or}
use Rattle.std.proofs.lemmas.List.Elements.{All-more}
use Rattle.crack_witness.specs.Witnesses.{WorkerState, WitnessedState, HasSeen}
use Rattle.crack_witness.proofs.Lists.{all_of}
use Rattle.crack_witness.proofs.closing.compare.Goals as goal

pub parts-preserved : goal.parts-preserved
parts-preserved g c =
    let parts = c.parts.parts.items in
    let w = c.index_mut.result.now in
    let old = c.parts.invariant in
    let at : get_or parts c.parts.place w ≡ w = search (rules, c.index_mut.ensures.value) in
    let each : All (λ (a : WorkerState). HasSeen g.J.Naming.owner a w) c.args.workers.now.items = search (rules, c.in_default.ensures.none) in
    let there : get_or c.args.parts.now.items c.parts.place w ≡ w = subst (λ (l : List WitnessedState). get_or l c.parts.place w ≡ w) old.same at in
    record {
      same = ap (slice_set parts c.parts.place) (c.first_difference.ensures.same ∙ sym at) ∙ (set-get_or parts c.parts.place w ∙ old.same);
      agree = All-more (λ (v : WitnessedState). All (λ (a : WorkerState). HasSeen g.J.Naming.owner a v) c.args.workers.now.items) c.args.parts.now.items c.parts.place w (search rules) old.agree (rw there each);
    }

pub returns-clause-agree : goal.returns-clause-agree
returns-clause-agree g c = all_of (λ (v : WitnessedState). All (λ (a : WorkerState). HasSeen g.J.Naming.owner a v) c.args.workers.now.items) c.args.parts.now.items c.parts.place (omega (arith, ap length c.parts.invariant.same)) c.parts.invariant.agree
