use Rattle.std.proofs.Common.{◌≡◌, ◌∙◌, ℕ, arith, ap, refl, replicate}
use Rattle.std.proofs.lemmas.List.{replicate_more}
use Rattle.crack_witness.proofs.Counting.{worker_fresh, none_counted}
use Rattle.crack_witness.proofs.worker.Worker.new.Goals as goal

pub seen_by_part-preserved : goal.seen_by_part-preserved
seen_by_part-preserved g c = rw (c.in_default.ensures.items, c.copy.ensures, c.seen_by_part.invariant) (replicate_more c.seen_by_part.part c.args.seen_events)

pub invariant_of-result : goal.invariant_of-result
invariant_of-result g c =
    let all : c.seen_by_part.part ≡ c.args.parts = omega arith in
    let zeros : c.in_ok-counts.counts.items ≡ replicate c.args.parts 0 = c.in_ok-counts.ensures.items_if_clones_equal (λ y same. same) in
    rw (zeros, c.seen_by_part.invariant, all, c.list_for.ensures) (worker_fresh g.J.Naming.owner c.args.number c.args.seen_events c.args.parts c.args.is_audited c.requires.empty c.requires.few)

pub returns-clause-new : goal.returns-clause-new
returns-clause-new g c =
    let all : c.seen_by_part.part ≡ c.args.parts = omega arith in
    let zeros : c.in_ok-counts.counts.items ≡ replicate c.args.parts 0 = c.in_ok-counts.ensures.items_if_clones_equal (λ y same. same) in
    record {
      worker_is = refl;
      unseen = c.requires.empty;
      seen_by_part_are = c.seen_by_part.invariant ∙ ap (λ (n : ℕ). replicate n c.args.seen_events) all;
      counts_are = zeros;
      receipts_are = c.list_for.ensures;
    }

pub returns-clause-none : goal.returns-clause-none
returns-clause-none g c =
    let zeros : c.in_ok-counts.counts.items ≡ replicate c.args.parts 0 = c.in_ok-counts.ensures.items_if_clones_equal (λ y same. same) in
    rw zeros (none_counted c.args.parts)
