use Rattle.std.proofs.Common.{◌≡◌, Some, None, sym, ap, ◌∙◌, rules}
use Rattle.std.specs.Option.{option_map}
use Rattle.crack_index.specs.declared.index.Piece.{Piece}
use Rattle.crack_index.specs.declared.mark.Mark.{Mark}
use Rattle.crack_index.specs.Marks.{last_mark}
use Rattle.crack_store.proofs.CrackLemmas.{listed_bound, absent_bound}
use Rattle.crack_store.proofs.cracking.gap_at.Goals as goal

pub returns-in-Some-clause-stands : goal.returns-in-Some-clause-stands
returns-in-Some-clause-stands c above below =
    let marks = c.args.inside.now.index.marks in
    let inner = c.in_ok-inner.inner in
    let is = rw c.key.ensures at c.piece_of-piece.ensures.value in
    let is_low = sym (ap (λ (p : Piece). p.low) is) ∙ c.in-Some.is in
    let same : c.in-Some.low.0 ≡ inner.0 = search rules in
    rw c.in_ok-inner.ensures.value at (listed_bound inner c.in-Some.low marks c.piece_of-piece.ensures.rising is_low same)

pub returns-in_default-clause-missing : goal.returns-in_default-clause-missing
returns-in_default-clause-missing c =
    let marks = c.args.inside.now.index.marks in
    let inner = c.in_ok-inner.inner in
    let is = rw c.key.ensures at c.piece_of-piece.ensures.value in
    let is_low : option_map (λ (m : Mark). m.bound) (last_mark inner.0 marks) ≡ Some c.in-Some.low = sym (ap (λ (p : Piece). p.low) is) ∙ c.in-Some.is in
    record {
      missing = record {
        low = search rules;
        high = search rules;
        apart = absent_bound inner marks c.piece_of-piece.ensures.rising (λ low is e. let same : low ≡ c.in-Some.low = cc in c.if-number.false (search rules));
      };
      piece_is = rw c.len.ensures.value at is;
    }

pub returns-in_default-2-clause-missing : goal.returns-in_default-2-clause-missing
returns-in_default-2-clause-missing c =
    let marks = c.args.inside.now.index.marks in
    let inner = c.in_ok-inner.inner in
    let is = rw c.key.ensures at c.piece_of-piece.ensures.value in
    let none : option_map (λ (m : Mark). m.bound) (last_mark inner.0 marks) ≡ None = sym (ap (λ (p : Piece). p.low) is) ∙ c.in_default.is in
    record {
      missing = record {
        low = search rules;
        high = search rules;
        apart = absent_bound inner marks c.piece_of-piece.ensures.rising (λ low is. absurd (cc));
      };
      piece_is = rw c.len.ensures.value at is;
    }
