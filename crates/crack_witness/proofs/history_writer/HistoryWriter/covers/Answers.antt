use Rattle.std.proofs.Common.{sym, ◌∙◌, ap, subst, ◌≡◌, refl, List, [], ◌∷◌, ◌++◌, inl, Some, ℕ}
use mathlib.Core.List.{IsPrefix}
use Rattle.logbook.specs.Pages.{step}
use Rattle.crack_row.specs.declared.command.Entry.{Entry}
use Rattle.crack_witness.specs.declared.event.Event.{Event}
use Rattle.crack_witness.specs.Histories.{history_of}
use Rattle.crack_witness.specs.Rules.{HistoryWriterState, IsAlone}
use Rattle.crack_witness.specs.Keeps.{HasWord, IsHistoryWriter}
use Rattle.crack_witness.proofs.Lists.{among_right, among_prefix, prefix_trans, history_rest, history_grows}
use Rattle.crack_witness.proofs.Moving.{looks_moves}
use Rattle.crack_witness.proofs.history_writer.HistoryWriter.covers.Goals as goal

pub compare_exchange-requires : goal.compare_exchange-requires
compare_exchange-requires g c =
    let i = c.self.invariant.0 in
    let book = sym (ap (λ w. w.book) i.word_is) in
    let learn = c.learn.ensures in
    let offer = c.plain-offer.ensures in
    let k = c.self.inside.word.key in
    let b = i.before ++ i.last ∷ [] in
    let begins : IsPrefix b c.learn.new.self.log = subst (λ (l : List Event). IsPrefix l c.learn.new.self.log) (ap (λ s. s.log) c.again-token.ensures ∙ i.log_is) learn.2 in
    let has : HasWord k c.learn.new.self.log = among_prefix (λ (e : Event). e.word ≡ k) b c.learn.new.self.log begins (among_right (λ (e : Event). e.word ≡ k) i.before (i.last ∷ []) (inl i.at_word)) in (
      ap (λ w. w.tracked) i.word_is,
      learn.0 ∙ (ap (λ s. s.book) c.again-token.ensures ∙ (i.seen_is ∙ book)),
      i.pen_is ∙ book,
      offer.0,
      rw offer.3 (looks_moves c.learn.new.self.log k c.self.inside.pen.nib c.plain-offer.result.ask has i.right_is),
    )

pub returns-clause-begins : goal.returns-clause-begins
returns-clause-begins g c =
    let i = c.self.invariant.0 in
    let owner = g.J.Naming.owner c.self.inside.part in
    let v = c.learn.new.self.log in
    let b = i.before ++ i.last ∷ [] in
    let new = c.compare_exchange.new.seen.log in
    let begins : IsPrefix b v = subst (λ (l : List Event). IsPrefix l v) (ap (λ s. s.log) c.again-token.ensures ∙ i.log_is) c.learn.ensures.2 in
    let pre : IsPrefix v new = c.compare_exchange.ensures.6 in
    let lone : IsAlone owner i.last.next new = subst (λ (k : ℕ). IsAlone owner k new) (sym i.next_is) (c.compare_exchange.ensures.7.1 owner) in
    let q : IsPrefix b new = prefix_trans b v new begins pre in
    let none = lone i.before i.last q.0 (sym q.1) i.owner_is refl in
    let same : history_of owner new ≡ history_of owner c.self.inside.seen.log = sym (ap (history_of owner) q.1) ∙ (history_rest owner b q.0 none ∙ ap (history_of owner) (sym i.log_is)) in
    let mine : IsPrefix c.args.seen_events.now new = prefix_trans c.args.seen_events.now v new (subst (λ (l : List Event). IsPrefix l v) c.seen_events.view_is c.learn.ensures.3) pre in
    let here : IsPrefix (history_of owner c.args.seen_events.now) (history_of owner c.self.inside.seen.log) = subst (λ (l : List Entry). IsPrefix (history_of owner c.args.seen_events.now) l) same (history_grows owner c.args.seen_events.now new mine) in
    subst (λ (s : HistoryWriterState). IsPrefix (history_of (g.J.Naming.owner s.part) c.args.seen_events.now) (history_of (g.J.Naming.owner s.part) s.log)) c.self.view_is here
