use Rattle.std.proofs.Common.{◌≡◌, sym, ◌∙◌, inl, inr, arith}
use Rattle.std.proofs.lemmas.Bool.{cases_lt, true≢false}
use Rattle.crack_index.proofs.MarkLaws.{next_mark-is, next_mark-none}
use Rattle.crack_store.proofs.filling.edge_of.Goals as goal

pub returns-else-is_above : goal.returns-else-is_above
returns-else-is_above c =
    let key = c.in_ok-key.key.0 in
    let low : key ≡ c.args.fillers.low = c.in_ok-key.ensures ∙ c.low.ensures.value in
    let next = c.in-Some.next in
    let least = (next_mark-is key c.args.index.now.marks next c.in-Some.ensures.rising (sym c.in-Some.ensures.value)).least in
    record {
      there = c.in_ok-mark.ensures.there;
      same = omega (arith, c.if-number.false, c.number.ensures, c.number-2.ensures, low);
      beyond = λ k e h over. elim (cases_lt next.bound.0 c.args.fillers.high) [
        | inl l ↦ absurd (true≢false (sym (c.is_above.ensures.1 (omega (arith, l, c.key.ensures, c.high.ensures.value))) ∙ c.if-is_above.false))
        | inr l ↦ omega (arith, least k e h (omega (arith, over, low)), l)
      ];
    }

pub returns-in_default : goal.returns-in_default
returns-in_default c =
    let key = c.in_ok-key.key.0 in
    let low : key ≡ c.args.fillers.low = c.in_ok-key.ensures ∙ c.low.ensures.value in
    record {
      there = c.in_ok-mark.ensures.there;
      same = omega (arith, c.if-number.false, c.number.ensures, c.number-2.ensures, low);
      beyond = λ k e h over. absurd (omega (arith, over, low, next_mark-none key c.args.index.now.marks (sym c.bound_above.ensures.value ∙ c.in_default.is) k e h));
    }
