-- The plain table after a history, and the past into which its checkpoint divides that history.
use Rattle.std.specs.Prelude.{IfSome, take, drop}
use Rattle.std.proofs.Common.{◌≡◌, ◌⊎◌, inl, inr, Option, None, Some, ℕ, ◌+◌, ◌≤◌, ◌==◌, List, [], ◌∷◌, ◌++◌, refl, ap, sym, ◌∙◌, arith, length, length-append, Result, Ok, Err}
use Rattle.std.proofs.lemmas.List.{append-nil, take-append-drop}
use Rattle.std.proofs.Math.Seq.{drop-append_seam, take-append_seam}
use Rattle.std.proofs.lemmas.List.Sums.{length-filter, count_by-le-length}
use Rattle.crack_row.specs.declared.command.Entry.{Entry}
use Rattle.crack_row.specs.declared.command.Reply.{Reply}
use Rattle.crack_row.specs.declared.limit.Limits.{Limits}
use Rattle.crack_row.specs.declared.refusal.Refusal.{Refusal}
use Rattle.crack_row.specs.declared.refusal.Refusal.TheVariants.{OutOfMemory}
use Rattle.crack_plain.specs.Plain.{PlainState, PlainView, no_rows, after, accepted_of, checkpointed_table}
use Rattle.crack_plain.specs.Past.{Base, Past, no_base, state_after, base_after, checkpointed_past}
use Rattle.crack_plain.specs.Totals.{inserted, deleted}
use Rattle.crack_plain.proofs.Words.{replay_from}
use Rattle.crack_plain.proofs.Laws.{replay_from-append, replay_from-push}
use Rattle.crack_plain.proofs.TotalLaws.{inserted-append, deleted-append}
use Rattle.crack_part.specs.Upkeep.{answered}
use Rattle.crack_part.proofs.UpkeepLaws.{accepted-upkept}
use Rattle.crack_witness.specs.Audits.{and_one}
use Rattle.crack_witness.specs.Histories.{IsPastOf, calls_by, past_in}

-- one more command
pub IsPastOf-push : (h : List Entry) (limits : Limits) (table : PlainView) (e : Entry) → IsPastOf h table → IsPastOf (h ++ e ∷ []) (answered limits table e.command)
IsPastOf-push h limits table e k = record {
  rows = ap (λ (s : PlainState). after s e.command) k.rows ∙ sym (replay_from-push no_rows h e);
  all = omega (arith, accepted-upkept limits table, k.all, length-append h (e ∷ []));
}

-- a checkpoint
pub IsPastOf-checkpointed : (h : List Entry) (table : PlainView) → IsPastOf h table → IsPastOf h (checkpointed_table table)
IsPastOf-checkpointed h table k = record { rows = k.rows; all = omega (arith, k.all) }

-- the plain rows are those after the past into which the last checkpoint divides the history
pub state-divided : (h : List Entry) (table : PlainView) → IsPastOf h table → state_after (past_in h table) ≡ table.state
state-divided h table k =
    sym (replay_from-append no_rows (take table.checkpointed h) (drop table.checkpointed h)) ∙ (ap (replay_from no_rows) (take-append-drop table.checkpointed h) ∙ sym k.rows)

abbrev pub base_of : PlainState → ℕ → ℕ → ℕ → Base
base_of state checkpointed placed gone = record { state = state; checkpointed = checkpointed; placed = placed; gone = gone }

pub same_base : (s t : PlainState) (a b c d e f : ℕ) → s ≡ t → a ≡ b → c ≡ d → e ≡ f → base_of s a c e ≡ base_of t b d f
same_base s t a b c d e f p q r u = λ i. base_of (p i) (q i) (r i) (u i)

-- the base after a history that is divided anywhere is the base after all of it
pub base-whole : (first rest : List Entry) → base_after (record { base = no_base; tail = first ++ rest }) ≡ base_after (record { base = base_after (record { base = no_base; tail = first }); tail = rest })
base-whole first rest = same_base
    (replay_from no_rows (first ++ rest))
    (replay_from (replay_from no_rows first) rest)
    (0 + length (first ++ rest))
    (0 + length first + length rest)
    (0 + inserted (first ++ rest))
    (0 + inserted first + inserted rest)
    (0 + deleted (first ++ rest))
    (0 + deleted first + deleted rest)
    (replay_from-append no_rows first rest)
    (omega (arith, length-append first rest))
    (omega (arith, inserted-append first rest))
    (omega (arith, deleted-append first rest))

-- a list is divided at its end
take-whole : (h : List Entry) (n : ℕ) → n ≡ length h → take n h ≡ h
take-whole h n is = ap (λ (k : ℕ). take k h) is ∙ (ap (take (length h)) (sym (append-nil h)) ∙ take-append_seam h [])

drop-whole : (h : List Entry) (n : ℕ) → n ≡ length h → drop n h ≡ []
drop-whole h n is = ap (λ (k : ℕ). drop k h) is ∙ (ap (drop (length h)) (sym (append-nil h)) ∙ drop-append_seam h [])

abbrev pub past_with : Base → List Entry → Past
past_with base tail = record { base = base; tail = tail }

pub same_past : (a b : Base) (xs ys : List Entry) → a ≡ b → xs ≡ ys → past_with a xs ≡ past_with b ys
same_past a b xs ys p q = λ i. past_with (p i) (q i)

-- a checkpoint divides the history at its end: its entries so far are merged into the base
pub past_in-checkpointed : (h : List Entry) (table : PlainView) → IsPastOf h table → past_in h (checkpointed_table table) ≡ checkpointed_past (past_in h table)
past_in-checkpointed h table k =
    let all : accepted_of table ≡ length h = k.all in
    let first = take table.checkpointed h in
    let rest = drop table.checkpointed h in
    let whole : take (accepted_of table) h ≡ first ++ rest = take-whole h (accepted_of table) all ∙ sym (take-append-drop table.checkpointed h) in
    same_past
    (base_after (record { base = no_base; tail = take (accepted_of table) h }))
    (base_after (past_in h table))
    (drop (accepted_of table) h)
    []
    (ap (λ (l : List Entry). base_after (record { base = no_base; tail = l })) whole ∙ base-whole first rest)
    (drop-whole h (accepted_of table) all)

-- no worker has more entries than there are
pub calls-le-accepted : (worker : ℕ) (h : List Entry) (table : PlainView) → IsPastOf h table → length (calls_by worker h) ≤ accepted_of table
calls-le-accepted worker h table k = omega (arith, k.all, length-filter (λ (e : Entry). e.worker == worker) h, count_by-le-length (λ (e : Entry). e.worker == worker) h)

-- a partition that was asked refuses for lack of memory, or as it refuses the command
pub refused-for : (o : Option Refusal) (e : Refusal) (Same : Type 0) → IfSome o (λ x. (◌≡◌ {A = Result Reply Refusal} (Err e) (Err x)) × Same) → (o ≡ None → e ≡ OutOfMemory) → (e ≡ OutOfMemory) ⊎ (o ≡ Some e)
refused-for None e Same refused memory = inl (memory refl)
refused-for (Some x) e Same refused memory = inr (let is : x ≡ e = cc refused.0 in ap Some is)

-- one that replied refuses for no cause
pub replied-for : (o : Option Refusal) (reply : Reply) (Same : Type 0) → IfSome o (λ x. (◌≡◌ {A = Result Reply Refusal} (Ok reply) (Err x)) × Same) → o ≡ None
replied-for None reply Same refused = refl
replied-for (Some x) reply Same refused = absurd (cc refused.0)

-- a list of an audit that was the history is the history with one more entry
pub listed_more : (list list' : Option (List Entry)) (h h' : List Entry) (e : Entry) → IfSome list (λ entries. entries ≡ h) → list' ≡ and_one list e → h' ≡ h ++ e ∷ [] → IfSome list' (λ entries. entries ≡ h')
listed_more None list' h h' e is more new = rw more tt
listed_more (Some entries) list' h h' e is more new = rw more (ap (λ (l : List Entry). l ++ e ∷ []) is ∙ sym new)
