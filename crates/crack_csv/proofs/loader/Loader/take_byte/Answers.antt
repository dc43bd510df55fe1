use Rattle.std.proofs.Common.{◌≡◌, ℕ, Bool, true, false, List, [], ◌∷◌, ◌++◌, Result, Ok, Err, ap, ◌∙◌, sym, subst}
use Rattle.std.specs.Prelude.{IfErr, OnOk}
use Rattle.csv.specs.Machine.{step, is_end}
use Rattle.csv.specs.Reading.{default_config, strip_bom}
use Rattle.crack_csv.specs.Begun.{KeptRecord}
use Rattle.crack_csv.specs.Loaders.{LoaderState, IsHead}
use Rattle.crack_csv.specs.Taking.{kept_with}
use Rattle.crack_csv.proofs.Loaders.{Takes-marked, Takes-within, Takes-ended, StopsBehind-ended}
use Rattle.crack_csv.proofs.loader.Loader.take_byte.Goals as goal

-- what follows from an outcome holds of it
both-ok : {A E : Type 0} (P Q R : Type 0) (r : Result A E) → OnOk r P → OnOk r Q → (P → Q → R) → OnOk r R
both-ok P Q R (Ok x) p q follows = follows p q
both-ok P Q R (Err e) p q follows = tt

err-from : {A E : Type 0} (P Q : E → Type 0) (r : Result A E) → IfErr r P → ((e : E) → P e → Q e) → IfErr r Q
err-from P Q (Ok x) is follows = tt
err-from P Q (Err e) is follows = follows e is

-- whether a byte ends a record depends on what is kept alone
ended_for : (k l : KeptRecord) (c : ℕ) (is t : Bool) → l ≡ k → is ≡ is_end (step default_config l.state c).1 → is ≡ t → is_end (step default_config k.state c).1 ≡ t
ended_for k l c is t same said tested = ap (λ (z : KeptRecord). is_end (step default_config z.state c).1) (sym same) ∙ sym said ∙ tested

head_for : (s m t : LoaderState) (c : ℕ) → t.head ≡ m.head → ((before : List ℕ) → IsHead s.head before → IsHead m.head (before ++ c ∷ []) × (strip_bom (before ++ c ∷ []) ≡ strip_bom before ++ c ∷ []))
    → (before : List ℕ) → IsHead s.head before → IsHead t.head (before ++ c ∷ []) × (strip_bom (before ++ c ∷ []) ≡ strip_bom before ++ c ∷ [])
head_for s m t c same text before head = (subst (λ (n : ℕ). IsHead n (before ++ c ∷ [])) (sym same) (text before head).0, (text before head).1)

pub returns-then-takes_mark-clause-goes_on : goal.returns-then-takes_mark-clause-goes_on
returns-then-takes_mark-clause-goes_on g c =
    Takes-marked g.D.Desk.bounds g.D.Desk.splits g.D.Desk.tables g.D.Desk.accepted g.D.Desk.leads c.args.self.now c.takes_mark.new.self c.args.byte c.args.desk.now
    (c.takes_mark.ensures.marked c.if-takes_mark.true) (c.takes_mark.ensures.begins c.if-takes_mark.true) c.takes_mark.ensures.policy c.takes_mark.ensures.number c.takes_mark.ensures.loaded

pub returns-then-takes_end-clause-goes_on : goal.returns-then-takes_end-clause-goes_on
returns-then-takes_end-clause-goes_on g c =
    let kept = c.takes_mark.ensures.kept c.if-takes_mark.false in
    let same = c.takes_end.ensures.same in
    both-ok _ _ _ c.finish.result c.finish.ensures.goes_on c.finish.ensures.begins (λ takes begins.
    Takes-ended g.D.Desk.bounds g.D.Desk.splits g.D.Desk.tables g.D.Desk.accepted g.D.Desk.leads c.args.self.now c.takes_end.new.self c.finish.new.self c.args.byte c.args.desk.now c.finish.new.desk
    (ended_for c.args.self.now.kept c.takes_mark.new.self.kept c.args.byte c.takes_end.result true kept c.takes_end.ensures.ends c.if-takes_end.true)
    (head_for c.args.self.now c.takes_mark.new.self c.takes_end.new.self c.args.byte (ap (λ (s : LoaderState). s.head) same) (c.takes_mark.ensures.plain c.if-takes_mark.false))
    (ap (λ (s : LoaderState). s.kept) same ∙ ap (λ (k : KeptRecord). kept_with k c.args.byte) kept)
    (ap (λ (s : LoaderState). s.policy) same ∙ c.takes_mark.ensures.policy) (ap (λ (s : LoaderState). s.number) same ∙ c.takes_mark.ensures.number) (ap (λ (s : LoaderState). s.loaded) same ∙ c.takes_mark.ensures.loaded)
    takes begins c.finish.ensures.policy c.finish.ensures.head)

pub returns-then-takes_end-clause-stops : goal.returns-then-takes_end-clause-stops
returns-then-takes_end-clause-stops g c =
    let kept = c.takes_mark.ensures.kept c.if-takes_mark.false in
    let same = c.takes_end.ensures.same in
    err-from _ _ c.finish.result c.finish.ensures.stops (λ e stops.
    StopsBehind-ended g.D.Desk.bounds g.D.Desk.splits g.D.Desk.tables g.D.Desk.accepted g.D.Desk.leads c.args.self.now c.takes_end.new.self c.args.byte c.args.desk.now c.finish.new.desk (record { refusal = e; loaded = c.finish.new.self.loaded })
    (ended_for c.args.self.now.kept c.takes_mark.new.self.kept c.args.byte c.takes_end.result true kept c.takes_end.ensures.ends c.if-takes_end.true)
    (head_for c.args.self.now c.takes_mark.new.self c.takes_end.new.self c.args.byte (ap (λ (s : LoaderState). s.head) same) (c.takes_mark.ensures.plain c.if-takes_mark.false))
    (ap (λ (s : LoaderState). s.kept) same ∙ ap (λ (k : KeptRecord). kept_with k c.args.byte) kept)
    (ap (λ (s : LoaderState). s.policy) same ∙ c.takes_mark.ensures.policy) (ap (λ (s : LoaderState). s.number) same ∙ c.takes_mark.ensures.number) (ap (λ (s : LoaderState). s.loaded) same ∙ c.takes_mark.ensures.loaded)
    stops)

pub returns-clause-goes_on : goal.returns-clause-goes_on
returns-clause-goes_on g c =
    let kept = c.takes_mark.ensures.kept c.if-takes_mark.false in
    let same = c.takes_end.ensures.same in
    Takes-within g.D.Desk.bounds g.D.Desk.splits g.D.Desk.tables g.D.Desk.accepted g.D.Desk.leads c.args.self.now c.takes_end.new.self c.args.byte c.args.desk.now
    (ended_for c.args.self.now.kept c.takes_mark.new.self.kept c.args.byte c.takes_end.result false kept c.takes_end.ensures.ends c.if-takes_end.false)
    (head_for c.args.self.now c.takes_mark.new.self c.takes_end.new.self c.args.byte (ap (λ (s : LoaderState). s.head) same) (c.takes_mark.ensures.plain c.if-takes_mark.false))
    (ap (λ (s : LoaderState). s.kept) same ∙ ap (λ (k : KeptRecord). kept_with k c.args.byte) kept)
    (ap (λ (s : LoaderState). s.policy) same ∙ c.takes_mark.ensures.policy) (ap (λ (s : LoaderState). s.number) same ∙ c.takes_mark.ensures.number) (ap (λ (s : LoaderState). s.loaded) same ∙ c.takes_mark.ensures.loaded)
