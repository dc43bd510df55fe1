use mir.Val.{bool_byte}
use Rattle.std.proofs.Common.{◌≡◌, ◌<◌, cond, true, nat_lt, inl, inr, refl, sym, ap, ◌∙◌, arith}
use Rattle.std.proofs.lemmas.Bool.{cases_lt, lt-ltb, le-ltb}
use Rattle.crack_column.specs.Column.{Column}
use Rattle.crack_column.specs.Drains.{is_under}
use Rattle.crack_column.proofs.DrainLaws.{turned-piece, one_if-between, taken-piece, taken-one, last-piece, last-one}
use Rattle.crack_column.proofs.column.CrackerColumn.drain_once.Goals as goal

pub returns-then-doomed-low-clause-drains : goal.returns-then-doomed-low-clause-drains
returns-then-doomed-low-clause-drains c = λ some.
    let hs = c.args.self.now.handles in
    let start = c.args.start in
    let end = c.args.end in
    let under = c.if-doomed-low.true in
    let less = some under in
    let key = lt-ltb c.args.doomed.key c.args.low under in
    let counted : bool_byte (nat_lt start end) ≡ cond (nat_lt start end) 1 0 = elim (cases_lt start end) [
      | inl l ↦ rw (lt-ltb start end l) refl
      | inr l ↦ rw (le-ltb start end l) refl
    ] in
    rw (ap (λ (k : Column). k.handles) c.swap.ensures.after) (record {
      piece = rw key (turned-piece hs start end (omega (arith, less)) c.requires.order c.requires.within);
      turned = rw key (omega (arith, less));
      pulled_is = rw key (counted ∙ sym (one_if-between hs start end c.requires.within));
    })

pub returns-in-Some-clause-drains : goal.returns-in-Some-clause-drains
returns-in-Some-clause-drains c = λ some.
    let hs = c.args.self.now.handles in
    let start = c.args.start in
    let end = c.args.end in
    let key = le-ltb c.args.doomed.key c.args.low c.if-doomed-low.false in
    let order : start < end = omega (arith, c.requires.order, c.if-start-end.false) in
    let own : is_under c.args.high c.args.doomed.key ≡ true = sym c.is_below.ensures ∙ c.if-not-is_below.false in
    let from = c.in-Some.ensures.0 in
    let found = c.in-Some.ensures.1 in
    rw (ap (λ (k : Column). k.handles) c.swap-in-Some.ensures.after) (record {
      piece = rw (key, own) (taken-piece hs start end c.args.doomed.handle order c.requires.within c.in-Some.place from found);
      turned = rw key (omega arith);
      pulled_is = rw (key, own) (sym (taken-one hs start end c.args.doomed.handle order c.requires.within c.in-Some.place from found));
    })

pub returns-in-None-clause-drains : goal.returns-in-None-clause-drains
returns-in-None-clause-drains c = λ some.
    let hs = c.args.self.now.handles in
    let start = c.args.start in
    let end = c.args.end in
    let key = le-ltb c.args.doomed.key c.args.low c.if-doomed-low.false in
    let order : start < end = omega (arith, c.requires.order, c.if-start-end.false) in
    let own : is_under c.args.high c.args.doomed.key ≡ true = sym c.is_below.ensures ∙ c.if-not-is_below.false in
    record {
      piece = rw (key, own) (last-piece hs start end c.args.doomed.handle order c.requires.within c.in-None.ensures);
      turned = rw key (omega arith);
      pulled_is = rw (key, own) (sym (last-one hs start end c.args.doomed.handle order c.requires.within c.in-None.ensures));
    }
