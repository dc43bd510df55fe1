use Rattle.std.proofs.Common.{◌≡◌, ◌+◌, ℕ, length, ap, sym, subst, ◌∙◌, arith, vec_len}
use Rattle.crack_witness.specs.Witnesses.{OwnersDiffer}
use Rattle.crack_table.specs.Tables.{TableState}
use Rattle.crack_table.specs.Opening.{UnnamedState, AreNewWorkers}
use Rattle.crack_table.proofs.Hiring.{witnessed_count}
use Rattle.crack_table.proofs.opening.UnnamedTable.named.Goals as goal

pub make_workers-requires-clause-parts : goal.make_workers-requires-clause-parts
make_workers-requires-clause-parts g c =
    let all : length c.in_ok-seen_events.witnessed.items ≡ length c.in_ok-parts.parts.items = witnessed_count g.J.Naming.owner c.self.inside.workers c.self.inside.is_audited 0 c.in_ok-parts.parts.items c.in_ok-seen_events.witnessed.items c.in_ok-seen_events.ensures.parts in
    let parts : length c.in_ok-parts.parts.items ≡ length c.self.inside.splits.items + 1 = rw c.deref.ensures.value at c.in_ok-parts.ensures.parts.count in
    omega (arith, all, parts, c.self.invariant.rising.few, c.len-2.ensures)

pub invariant_of-table : goal.invariant_of-table
invariant_of-table g c =
    let all : length c.in_ok-seen_events.witnessed.items ≡ length c.in_ok-parts.parts.items = witnessed_count g.J.Naming.owner c.self.inside.workers c.self.inside.is_audited 0 c.in_ok-parts.parts.items c.in_ok-seen_events.witnessed.items c.in_ok-seen_events.ensures.parts in
    let parts : length c.in_ok-parts.parts.items ≡ length c.self.inside.splits.items + 1 = rw c.deref.ensures.value at c.in_ok-parts.ensures.parts.count in
    let locks : vec_len c.lock.new.locks ≡ length c.in_ok-parts.parts.items = omega (arith, all, c.lock.ensures) in record {
      rising = c.self.invariant.rising;
      limited = c.self.invariant.limited;
      few = c.self.invariant.few;
      all = locks ∙ parts;
      apart = subst (OwnersDiffer g.J.Naming.owner) (sym locks) c.in_ok-seen_events.ensures.apart;
    }

pub returns-clause-table : goal.returns-clause-table
returns-clause-table g c =
    let all : length c.in_ok-seen_events.witnessed.items ≡ length c.in_ok-parts.parts.items = witnessed_count g.J.Naming.owner c.self.inside.workers c.self.inside.is_audited 0 c.in_ok-parts.parts.items c.in_ok-seen_events.witnessed.items c.in_ok-seen_events.ensures.parts in
    let parts : length c.in_ok-parts.parts.items ≡ length c.self.inside.splits.items + 1 = rw c.deref.ensures.value at c.in_ok-parts.ensures.parts.count in
    let locks : vec_len c.lock.new.locks ≡ length c.self.inside.splits.items + 1 = omega (arith, all, parts, c.lock.ensures) in
    let with : ℕ → TableState = λ n. record { splits = c.self.inside.splits.items; limits = c.self.inside.limits; workers = c.self.inside.workers; locks = n; audited = c.self.inside.is_audited } in
    subst (λ (t : UnnamedState). with (vec_len c.lock.new.locks) ≡ t.table) c.self.view_is (ap with locks)

pub returns-clause-workers : goal.returns-clause-workers
returns-clause-workers g c =
    let all : length c.in_ok-seen_events.witnessed.items ≡ length c.in_ok-parts.parts.items = witnessed_count g.J.Naming.owner c.self.inside.workers c.self.inside.is_audited 0 c.in_ok-parts.parts.items c.in_ok-seen_events.witnessed.items c.in_ok-seen_events.ensures.parts in
    let parts : length c.in_ok-parts.parts.items ≡ length c.self.inside.splits.items + 1 = rw c.deref.ensures.value at c.in_ok-parts.ensures.parts.count in
    let asked : c.len-2.result ≡ length c.self.inside.splits.items + 1 = omega (arith, all, parts, c.len-2.ensures) in
    let new : AreNewWorkers c.self.inside.workers (length c.self.inside.splits.items + 1) c.self.inside.is_audited c.in_ok-workers.workers.items = subst (λ (n : ℕ). AreNewWorkers c.self.inside.workers n c.self.inside.is_audited c.in_ok-workers.workers.items) asked c.in_ok-workers.ensures in
    subst (λ (t : UnnamedState). AreNewWorkers t.table.workers t.table.locks t.table.audited c.in_ok-workers.workers.items) c.self.view_is new

pub returns-clause-apart : goal.returns-clause-apart
returns-clause-apart g c =
    let parts : length c.in_ok-parts.parts.items ≡ length c.self.inside.splits.items + 1 = rw c.deref.ensures.value at c.in_ok-parts.ensures.parts.count in
    subst (λ (t : UnnamedState). OwnersDiffer g.J.Naming.owner t.table.locks) c.self.view_is (subst (OwnersDiffer g.J.Naming.owner) parts c.in_ok-seen_events.ensures.apart)
