use Rattle.std.proofs.Common.{◌≡◌, ◌+◌, sym, subst, ap, ◌∙◌, arith, ℕ, List, length, length-append, get_or, All, [], ◌∷◌, ◌++◌}
use Rattle.std.proofs.lemmas.List.Elements.{All-push}
use mathlib.Core.List.{IsPrefix}
use Rattle.crack_witness.specs.declared.event.Event.{Event}
use Rattle.crack_witness.specs.Histories.{AreEmpty}
use Rattle.crack_witness.specs.Rules.{row, OwnerState}
use Rattle.crack_witness.specs.Keeps.{IsNew, HasOwner}
use Rattle.crack_witness.specs.Witnesses.{AreDistinct}
use Rattle.crack_witness.proofs.Lists.{among_prefix, prefix_trans}
use Rattle.crack_witness.proofs.Opens.{ids_of, distinct_push}
use Rattle.crack_witness.proofs.Moving.{row_kept, row_history}
use Rattle.crack_witness.proofs.opening.Opened.new.Goals as goal

pub open_row-seen-requires : goal.open_row-seen-requires
open_row-seen-requires c = (row_kept c.args.count, (λ log. tt), c.alone.ensures.1)

pub owners-preserved : goal.owners-preserved
owners-preserved c =
    let o = c.next_owner.result in
    let os = c.owners.owners.items in
    let old = c.owners.invariant in
    let next = c.next_owner.ensures in
    let same : c.owners.pens.next + c.owners.pens.left ≡ c.next_owner.new.pens.next + c.next_owner.new.pens.left = omega (arith, next.rest.1, next.rest.2) in
    rw c.in_ok-push.ensures.items (record {
      book = next.rest.0 ∙ old.book;
      latest = next.book ∙ old.latest;
      row = subst (λ (n : ℕ). IsPrefix (row n) c.next_owner.new.seen.log) same (prefix_trans (row (c.owners.pens.next + c.owners.pens.left)) c.owners.latest.log c.next_owner.new.seen.log old.row next.grows);
      left = omega (arith, old.left, next.rest.2);
      count = omega (arith, old.count, length-append os (o ∷ []));
      new = All-push (IsNew c.open_row-seen.result.0.book) os o old.new (subst (λ b. IsNew b o) old.latest next.owner);
      distinct = distinct_push os o c.owners.latest.log old.distinct old.known next.fresh;
      known = All-push (λ (p : OwnerState). HasOwner p.id c.next_owner.new.seen.log) os o (λ k d less. among_prefix (λ (e : Event). e.owner ≡ (get_or os k d).id) c.owners.latest.log c.next_owner.new.seen.log next.grows (old.known k d less)) next.known;
    })

pub invariant_of-result : goal.invariant_of-result
invariant_of-result c =
    let empty : AreEmpty c.open_row-seen.result.0.log = subst AreEmpty (sym c.open_row-seen.ensures.1) (λ owner. row_history owner c.args.count) in
    (empty, c.owners.invariant.new, c.owners.invariant.distinct, omega (arith, c.owners.invariant.count, c.owners.auto.number-end, c.ranges.count.fits))
