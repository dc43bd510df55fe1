use Rattle.std.proofs.Common.{sym, ◌∙◌, ap, subst, ◌≡◌, refl, List, [], ◌∷◌, ◌++◌, inl, Some, ℕ}
use mathlib.Core.List.{IsPrefix}
use Rattle.crack_row.specs.declared.command.Entry.{Entry}
use Rattle.crack_witness.specs.declared.event.Event.{Event}
use Rattle.crack_plain.specs.Plain.{AreReplies, no_rows}
use Rattle.crack_witness.specs.Histories.{history_of}
use Rattle.crack_witness.specs.Rules.{HistoryWriterState, Adds, IsAlone}
use Rattle.crack_witness.specs.Keeps.{HasWord, IsHistoryWriter}
use Rattle.logbook.specs.Pages.{step}
use Rattle.crack_witness.proofs.Lists.{among_right, prefix_trans, history_rest, history_grows}
use Rattle.crack_witness.proofs.Moving.{adds_moves, added_history}
use Rattle.crack_witness.proofs.history_writer.HistoryWriter.write.Goals as goal

pub fresh-next-requires : goal.fresh-next-requires
fresh-next-requires g c =
    let i = c.self.invariant.0 in
    let has : HasWord c.self.inside.word.key (i.before ++ i.last ∷ []) = among_right (λ (e : Event). e.word ≡ c.self.inside.word.key) i.before (i.last ∷ []) (inl i.at_word) in
    (ap (λ w. w.tracked) i.word_is, i.seen_is ∙ sym (ap (λ w. w.book) i.word_is), subst (HasWord c.self.inside.word.key) (sym i.log_is) has)

pub compare_exchange-requires : goal.compare_exchange-requires
compare_exchange-requires g c =
    let i = c.self.invariant.0 in
    let book = sym (ap (λ w. w.book) i.word_is) in
    let learn = c.learn.ensures in
    let token = ap (λ s. s.log) c.again-token.ensures in
    let offer = c.plain-offer.ensures in
    let begins : IsPrefix (i.before ++ i.last ∷ []) c.learn.new.self.log = subst (λ (l : List Event). IsPrefix l c.learn.new.self.log) (token ∙ i.log_is) learn.2 in
    let may : AreReplies no_rows (history_of (g.J.Naming.owner c.self.inside.part) (i.before ++ i.last ∷ []) ++ record { worker = c.args.worker; command = c.args.command.now; reply = c.args.reply.now } ∷ []) = subst (λ (l : List Event). AreReplies no_rows (history_of (g.J.Naming.owner c.self.inside.part) l ++ record { worker = c.args.worker; command = c.args.command.now; reply = c.args.reply.now } ∷ [])) i.log_is (subst (λ (s : HistoryWriterState). AreReplies no_rows (history_of (g.J.Naming.owner s.part) s.log ++ record { worker = c.args.worker; command = c.args.command.now; reply = c.args.reply.now } ∷ [])) (sym c.self.view_is) c.requires) in (
      ap (λ w. w.tracked) i.word_is,
      learn.0 ∙ (ap (λ s. s.book) c.again-token.ensures ∙ (i.seen_is ∙ book)),
      i.pen_is ∙ book,
      offer.0,
      rw (offer.1, offer.3) (adds_moves c.learn.new.self.log i.before i.last c.self.inside.word.key c.self.inside.pen.nib (record { owner = g.J.Naming.owner c.self.inside.part; next = c.fresh-next.result.nib.key; word = c.self.inside.word.key; entry = Some (record { worker = c.args.worker; command = c.args.command.now; reply = c.args.reply.now }) }) begins i.owner_is i.next_is i.right_is i.at_word refl may),
    )

pub returns-clause-history : goal.returns-clause-history
returns-clause-history g c =
    let i = c.self.invariant.0 in
    let owner = g.J.Naming.owner c.self.inside.part in
    let x : Entry = record { worker = c.args.worker; command = c.args.command.now; reply = c.args.reply.now } in
    let e : Event = record { owner = owner; next = c.fresh-next.result.nib.key; word = c.self.inside.word.key; entry = Some x } in
    let v = c.learn.new.self.log in
    let b = i.before ++ i.last ∷ [] in
    let new = c.compare_exchange.new.seen.log in
    let begins : IsPrefix b v = subst (λ (l : List Event). IsPrefix l v) (ap (λ s. s.log) c.again-token.ensures ∙ i.log_is) c.learn.ensures.2 in
    let told : Adds (step c.self.inside.word.key 0 0 e) (v, (c.self.inside.pen.nib, c.plain-offer.result.state)) c.compare_exchange.result (new, (c.compare_exchange.new.pen.nib, c.compare_exchange.new.offer.state)) = subst (λ (a : Event). Adds (step c.self.inside.word.key 0 0 a) (v, (c.self.inside.pen.nib, c.plain-offer.result.state)) c.compare_exchange.result (new, (c.compare_exchange.new.pen.nib, c.compare_exchange.new.offer.state))) c.plain-offer.ensures.1 c.compare_exchange.ensures.7 in
    let lone : IsAlone owner i.last.next told.0 = subst (λ (k : ℕ). IsAlone owner k told.0) (sym i.next_is) told.3 in
    let h = added_history i.before i.last v told.0 e x begins told.2 lone i.owner_is refl in
    let here : history_of owner new ≡ history_of owner c.self.inside.seen.log ++ x ∷ [] = ap (history_of owner) told.1 ∙ (h ∙ ap (λ (l : List Event). history_of owner l ++ x ∷ []) (sym i.log_is)) in
    let fresh : history_of owner c.again.result.log ≡ history_of owner c.self.inside.seen.log ++ x ∷ [] = ap (λ s. history_of owner s.log) c.again.ensures ∙ here in
    subst (λ (s : HistoryWriterState). history_of (g.J.Naming.owner s.part) c.again.result.log ≡ history_of (g.J.Naming.owner s.part) s.log ++ x ∷ []) c.self.view_is fresh

pub returns-clause-before : goal.returns-clause-before
returns-clause-before g c =
    let i = c.self.invariant.0 in
    let owner = g.J.Naming.owner c.self.inside.part in
    let x : Entry = record { worker = c.args.worker; command = c.args.command.now; reply = c.args.reply.now } in
    let e : Event = record { owner = owner; next = c.fresh-next.result.nib.key; word = c.self.inside.word.key; entry = Some x } in
    let v = c.learn.new.self.log in
    let b = i.before ++ i.last ∷ [] in
    let new = c.compare_exchange.new.seen.log in
    let begins : IsPrefix b v = subst (λ (l : List Event). IsPrefix l v) (ap (λ s. s.log) c.again-token.ensures ∙ i.log_is) c.learn.ensures.2 in
    let told : Adds (step c.self.inside.word.key 0 0 e) (v, (c.self.inside.pen.nib, c.plain-offer.result.state)) c.compare_exchange.result (new, (c.compare_exchange.new.pen.nib, c.compare_exchange.new.offer.state)) = subst (λ (a : Event). Adds (step c.self.inside.word.key 0 0 a) (v, (c.self.inside.pen.nib, c.plain-offer.result.state)) c.compare_exchange.result (new, (c.compare_exchange.new.pen.nib, c.compare_exchange.new.offer.state))) c.plain-offer.ensures.1 c.compare_exchange.ensures.7 in
    let lone : IsAlone owner i.last.next told.0 = subst (λ (k : ℕ). IsAlone owner k told.0) (sym i.next_is) told.3 in
    let q : IsPrefix b told.0 = prefix_trans b v told.0 begins told.2 in
    let none = lone i.before i.last q.0 (sym q.1) i.owner_is refl in
    let same : history_of owner told.0 ≡ history_of owner c.self.inside.seen.log = sym (ap (history_of owner) q.1) ∙ (history_rest owner b q.0 none ∙ ap (history_of owner) (sym i.log_is)) in
    let mine : IsPrefix c.me.inside.seen.log told.0 = prefix_trans c.me.inside.seen.log v told.0 c.learn.ensures.3 told.2 in
    let here : IsPrefix (history_of owner c.me.inside.seen.log) (history_of owner c.self.inside.seen.log) = subst (λ (l : List Entry). IsPrefix (history_of owner c.me.inside.seen.log) l) same (history_grows owner c.me.inside.seen.log told.0 mine) in
    subst (λ (s : HistoryWriterState). IsPrefix (history_of (g.J.Naming.owner s.part) c.args.me.now) (history_of (g.J.Naming.owner s.part) s.log)) c.self.view_is (subst (λ (l : List Event). IsPrefix (history_of owner l) (history_of owner c.self.inside.seen.log)) c.me.view_is here)
