use Rattle.std.proofs.Common.{sym, ◌∙◌, ap, subst, ◌≡◌, refl, [], ◌∷◌, ◌++◌, ℕ, List, inl}
use mathlib.Core.List.{IsPrefix}
use Rattle.crack_witness.specs.declared.event.Event.{Event}
use Rattle.crack_witness.specs.Histories.{history_of}
use Rattle.crack_witness.specs.Rules.{NoneOf, opening}
use Rattle.crack_witness.specs.Keeps.{HasWord, HasOwner}
use Rattle.crack_witness.proofs.Lists.{none_before, among_right}
use Rattle.crack_witness.proofs.Moving.{opens_moves, opened_history}
use Rattle.crack_witness.proofs.opening.Owner.open.Goals as goal

pub compare_exchange-requires : goal.compare_exchange-requires
compare_exchange-requires c =
    let token = c.again-token.ensures in
    let offer = c.plain-offer.ensures in
    let pen = c.no_pen-pen.ensures in
    let book = ap (λ s. s.book) token ∙ c.requires.1 in
    let has : HasWord c.args.word.key c.again-token.result.log = subst (λ l. HasWord c.args.word.key l) (sym (ap (λ s. s.log) token)) c.requires.2 in (
      c.requires.0,
      book,
      pen.0 ∙ book,
      offer.0,
      rw (pen.1, offer.3) (opens_moves c.again-token.result.log c.args.word.key c.plain-offer.result.ask has (ap (λ e. e.word) offer.1)),
    )

pub returns-clause-empty : goal.returns-clause-empty
returns-clause-empty c =
    let told = c.compare_exchange.ensures.7.2 in
    let key = ap (λ p. p.key) c.tracked-spare.ensures.2 in
    ap (λ (k : ℕ). history_of k c.compare_exchange.new.seen.log) key ∙ (ap (history_of c.compare_exchange.new.pen.nib.key) told.2 ∙ opened_history told.0 c.compare_exchange.new.pen.nib.key c.plain-offer.result.ask.word told.1)

pub returns-clause-fresh : goal.returns-clause-fresh
returns-clause-fresh c =
    let told = c.compare_exchange.ensures.7.2 in
    let key = ap (λ p. p.key) c.tracked-spare.ensures.2 in
    let k = c.compare_exchange.new.pen.nib.key in
    let none : NoneOf k c.again-token.result.log = none_before k c.again-token.result.log told.0 told.3 told.1 in
    subst (λ (n : ℕ). NoneOf n c.args.seen.now.log) (sym key) (subst (NoneOf k) (ap (λ s. s.log) c.again-token.ensures) none)

pub returns-clause-known : goal.returns-clause-known
returns-clause-known c =
    let told = c.compare_exchange.ensures.7.2 in
    let key = ap (λ p. p.key) c.tracked-spare.ensures.2 in
    let k = c.compare_exchange.new.pen.nib.key in
    let has : HasOwner k c.compare_exchange.new.seen.log = subst (HasOwner k) (sym told.2) (among_right (λ (e : Event). e.owner ≡ k) told.0 (opening k c.plain-offer.result.ask.word ∷ []) (inl refl)) in
    subst (λ (n : ℕ). HasOwner n c.again.result.log) (sym key) (subst (HasOwner k) (sym (ap (λ s. s.log) c.again.ensures)) has)

pub returns-clause-grows : goal.returns-clause-grows
returns-clause-grows c =
    let grows : IsPrefix c.args.seen.now.log c.compare_exchange.new.seen.log = subst (λ (l : List Event). IsPrefix l c.compare_exchange.new.seen.log) (ap (λ s. s.log) c.again-token.ensures) c.compare_exchange.ensures.6 in
    subst (IsPrefix c.args.seen.now.log) (sym (ap (λ s. s.log) c.again.ensures)) grows
