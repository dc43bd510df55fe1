-- A command whose reply finds no memory for its copies: it changed no row.
use Rattle.std.specs.Prelude.{◌≡◌, ℕ, Bool, true, false, Option, None, Some, IfSome, Result, Ok, Err}
use Rattle.std.proofs.Common.{refl, ap, subst, sym, ◌∙◌, inr}
use Rattle.std.proofs.lemmas.Bool.{true≢false}
use Rattle.crack_row.specs.Commands.{change_of, range_of}
use Rattle.crack_row.specs.Replies.{IsFlat}
use Rattle.crack_row.specs.declared.Row.{Row}
use Rattle.crack_row.specs.declared.command.Change.{Change}
use Rattle.crack_row.specs.declared.command.Command.{Command}
use Rattle.crack_row.specs.declared.command.Command.TheVariants.{Insert, Delete, Update, Count, Sum, Select}
use Rattle.crack_row.specs.declared.command.Policy.{Policy}
use Rattle.crack_row.specs.declared.refusal.Refusal.{Refusal}
use Rattle.crack_plain.specs.Inside.{gone, rewritten}
use Rattle.crack_plain.specs.Plain.{PlainState, PlainView, row_in, reply_to, changed, after}
use Rattle.crack_state.specs.State.{State}
use Rattle.crack_state.specs.Steps.{SameButRoom}
use Rattle.crack_part.specs.Cells.{is_cleared_first}
use Rattle.crack_part.specs.KnownSums.{Known, KnowsPart}
use Rattle.crack_part.specs.Parts.{Part, IsSound, state_of, table_of, Performs, Serves, Spares}
use Rattle.crack_part.proofs.KeepLemmas.{Keeps, Keeps-trans, Keeps-readied, Keeps-prepared, Spares-prepared}
use Rattle.crack_part.proofs.SoundLemmas.{IsSound-recounted}

-- only a command that changes no row has a reply with a list
pub change-listed : (s : PlainState) (command : Command) → (IsFlat (reply_to s command) → ⊥) → change_of command ≡ None
change-listed s (Insert key payload) lists = absurd (lists tt)
change-listed s (Delete serial) lists = absurd (by_row (row_in s.rows serial) lists)
  where
    by_row : (o : Option Row) → (IsFlat (gone o) → ⊥) → ⊥
    by_row None lists = lists tt
    by_row (Some row) lists = lists tt
change-listed s (Update serial key payload) lists = absurd (by_row (row_in s.rows serial) lists)
  where
    by_row : (o : Option Row) → (IsFlat (rewritten o) → ⊥) → ⊥
    by_row None lists = lists tt
    by_row (Some row) lists = lists tt
change-listed s (Count range) lists = refl
change-listed s (Sum range) lists = refl
change-listed s (Select range) lists = refl

-- then its store was only read
Performs-none : (next : ℕ) (change : Option Change) (s t : State) → change ≡ None → Performs next change s t → t ≡ s
Performs-none next change s t none performed = rw none at performed

Keeps-served : (policy : Policy) (p : Part) (command : Command) (t : State) → change_of command ≡ None → Serves policy p command t → Keeps p.store t
Keeps-served policy p command t none served =
    let same = Performs-none p.next (change_of command) served.does.ready t none served.does.performed in
    let readied = Keeps-readied (is_cleared_first p.limits p.store (change_of command)) p.store served.ready served.readies in
    let prepared = Keeps-prepared policy p.keys (range_of command) served.ready served.does.ready served.does.prepared in
    subst (λ (x : State). Keeps p.store x) (sym same) (Keeps-trans p.store served.ready served.does.ready readied prepared)

pub Spares-served : (policy : Policy) (p : Part) (command : Command) (t : State) → change_of command ≡ None → Serves policy p command t → Spares policy p command t
Spares-served policy p command t none served =
    let same = Performs-none p.next (change_of command) served.does.ready t none served.does.performed in
    let room : SameButRoom served.does.ready t = subst (λ (x : State). SameButRoom served.does.ready x) (sym same) (record { same = refl }) in
    inr (record {
      ready = served.ready;
      readies = served.readies;
      does = Spares-prepared policy p.keys (range_of command) served.ready served.does.ready t served.does.prepared room;
    })

-- and with the counts that it had, the partition is as before
state-unchanged : (p q : Part) (command : Command) → change_of command ≡ None → state_of q ≡ after (state_of p) command → state_of q ≡ state_of p
state-unchanged p q command none state = state ∙ ap (λ (change : Option Change). changed (state_of p) change) none

pub table-recounted : (p q : Part) (command : Command) → change_of command ≡ None → state_of q ≡ after (state_of p) command → table_of (record q { checkpointed = p.checkpointed; since = p.since }) ≡ table_of p
table-recounted p q command none state =
    let with_counts : PlainState → PlainView = λ s. record { state = s; checkpointed = p.checkpointed; since = p.since } in
    ap with_counts (state-unchanged p q command none state)

pub KnowsPart-recounted : (known : Known) (policy : Policy) (p q old new : Part) (command : Command) → p ≡ old → q ≡ new → change_of command ≡ None → IsSound p → KnowsPart known q → (new.keys ≡ old.keys) × (new.limits ≡ old.limits) → Serves policy old command new.store → state_of new ≡ after (state_of old) command → KnowsPart known (record q { checkpointed = p.checkpointed; since = p.since })
KnowsPart-recounted known policy p q old new command from to none before now opened served state =
    let keys : q.keys ≡ p.keys = ap (λ (x : Part). x.keys) to ∙ opened.0 ∙ sym (ap (λ (x : Part). x.keys) from) in
    let limits : q.limits ≡ p.limits = ap (λ (x : Part). x.limits) to ∙ opened.1 ∙ sym (ap (λ (x : Part). x.limits) from) in
    let next : q.next ≡ p.next = ap (λ (x : Part). x.next) to ∙ ap (λ (s : PlainState). s.next) (state-unchanged old new command none state) ∙ sym (ap (λ (x : Part). x.next) from) in
    let keeps : Keeps p.store q.store = subst (λ (x : Part). Keeps x.store q.store) (sym from) (subst (λ (x : Part). Keeps old.store x.store) (sym to) (Keeps-served policy old command new.store none served)) in
    record { sound = IsSound-recounted p q before now.sound keys limits keeps next; knows = now.knows }

-- the refusal of a command by which a step of its call ends, and none if it was answered
abbrev refusal_in : {T : Type 0} → Refusal → Result T Refusal → Refusal
refusal_in e (Ok x) = e
refusal_in e (Err found) = found

pub refused-on : (T : Type 0) {U : Type 0} (o : Option Refusal) (r : Result U Refusal) (x : Refusal) (P : Type 0) → r ≡ Err x → IfSome o (λ e. ◌≡◌ {A = Result T Refusal} (Err x) (Err e) × P) → IfSome o (λ e. (r ≡ Err e) × P)
refused-on T None r x P is said = tt
refused-on T (Some e) r x P is said = (is ∙ ap Err (ap (refusal_in x) said.0), said.1)

abbrev is_answered : {T : Type 0} → Result T Refusal → Bool
is_answered (Ok x) = true
is_answered (Err e) = false

pub refused-not : {T U : Type 0} (o : Option Refusal) (x : T) (r : Result U Refusal) (P Q : Type 0) → IfSome o (λ e. ◌≡◌ {A = Result T Refusal} (Ok x) (Err e) × P) → IfSome o (λ e. (r ≡ Err e) × Q)
refused-not None x r P Q said = tt
refused-not (Some e) x r P Q said = absurd (true≢false (ap is_answered said.0))
