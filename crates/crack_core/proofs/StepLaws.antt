-- What follows from a step, of the plain table that it leaves, and of partitions of which one is replaced.
use Rattle.std.specs.Prelude.{◌≡◌, ◌≢◌, ℕ, ◌+◌, ◌<◌, ◌≤◌, Bool, true, false, cond, List, [], ◌∷◌, ◌++◌, length, take, drop, Option, None, Some, Result, Ok, Err, is_ok, slice_get, IfSome, IfOk, IfErr, OnOk, OnErr, IsOk, ◌⊎◌, if◌then◌else◌}
use Rattle.std.specs.Option.{option_map, option_or}
use Rattle.std.proofs.Common.{zero, suc, get_or, set, arith, ap, refl, sym, subst, ◌∙◌, ⊎_elim, inl, inr, length-set}
use Rattle.std.proofs.lemmas.Bool.{eq-eqb, ne_eqb, cases_eq}
use Rattle.std.proofs.lemmas.Option.{slice_get-map, slice_get-get_or, slice_get_past, slice_get_within}
use Rattle.std.proofs.lemmas.List.{map-set, get_or-map, get_or-set_same, get_or-set_other, length-map, take-append-le, take_all}
use Rattle.std.proofs.lemmas.List.Elements.{All-set}
use Rattle.std.proofs.lemmas.List.Sums.{sum_by-set}
use Rattle.std.proofs.Math.Seq.{map-set_same}
use Rattle.crack_row.specs.Commands.{change_of, key_of}
use Rattle.crack_row.specs.declared.Bound.{Bound}
use Rattle.crack_row.specs.declared.command.Command.{Command}
use Rattle.crack_row.specs.declared.command.Reply.{Reply}
use Rattle.crack_row.specs.declared.refusal.Refusal.{Refusal}
use Rattle.crack_row.specs.declared.refusal.Refusal.TheVariants.{KeyOutside, NoSuchPartition, OutOfMemory, NoCell}
use Rattle.crack_row.specs.declared.limit.Limits.{Limits}
use Rattle.crack_plain.specs.Plain.{PlainView, accepted_of, checkpointed_table, reply_to, after}
use Rattle.crack_part.specs.Parts.{Part, IsSound, state_of, table_of}
use Rattle.crack_core.specs.declared.step.Step.{Step}
use Rattle.crack_core.specs.declared.step.Job.TheVariants.{Perform}
use Rattle.crack_core.specs.declared.step.Done.TheVariants.{Replied}
use Rattle.crack_core.specs.Routes.{keys_of_part}
use Rattle.crack_core.specs.Opening.{AreParts}
use Rattle.crack_part.specs.Cells.{is_without_cell}
use Rattle.crack_part.specs.Refusals.{is_key_in, stopped_by, refusal_of}
use Rattle.crack_part.specs.Upkeep.{is_due, answered}
use Rattle.crack_part.proofs.RefusalLaws.{if_refused}
use Rattle.crack_core.specs.Steps.{Bounds, bounds_from, mapped, unless, MayLackCell, IsOutcome, IsOutcomeAt, fresh_table, table_after, upkept_by, tables_after, tables_of, accepted_by}
use Rattle.crack_core.specs.Jobs.{after_job, after_jobs, KeepsJobs}

-- the outcome of a command that a partition doesn't refuse by itself
replied-or-short : (said : Reply) (r : Result Reply Refusal) → IfOk r (λ (reply : Reply). reply ≡ said) → IfErr r (λ e. e ≡ OutOfMemory) → (r ≡ Ok said) ⊎ (r ≡ Err OutOfMemory)
replied-or-short said (Ok reply) says short = inl (ap Ok says)
replied-or-short said (Err e) says short = inr (ap Err short)

-- the first cause to refuse a command, by what is tested
abbrev cause : Bool → Option Refusal → Bool → Option Refusal
cause is_own stop lacks = if is_own then option_or stop (if lacks then Some NoCell else None) else Some KeyOutside

-- what comes out, by the first cause to refuse it
by_cause : (is_own lacks : Bool) (stop : Option Refusal) (said : Reply) (Lacks : Type 0) (r : Result Reply Refusal) → IfSome (cause is_own stop lacks) (λ e. r ≡ Err e) → (cause is_own stop lacks ≡ None → (r ≡ Ok said) ⊎ (r ≡ Err OutOfMemory)) → (lacks ≡ true → Lacks) → (r ≡ unless (cause is_own stop false) said) ⊎ (IsOk (unless (cause is_own stop false) said) × ((r ≡ Err OutOfMemory) ⊎ ((r ≡ Err NoCell) × Lacks)))
by_cause false lacks stop said Lacks r refused rest lack = inl refused
by_cause true lacks (Some e) said Lacks r refused rest lack = inl refused
by_cause true true None said Lacks r refused rest lack = inr (refl, inr (refused, lack refl))
by_cause true false None said Lacks r refused rest lack = ⊎_elim (λ (is : r ≡ Ok said). inl is) (λ (short : r ≡ Err OutOfMemory). inr (refl, inl short)) (rest refl)

-- what a partition answers is the reply of its plain rows, or the refusal that they call for, or a lack of memory or of a cell in place of a reply
pub outcome-given : (p q : Part) (command : Command) (r : Result Reply Refusal) → IfOk r (λ (reply : Reply). reply ≡ reply_to (state_of p) command) → IfSome (refusal_of p command) (λ e. (r ≡ Err e) × (q ≡ p)) → (refusal_of p command ≡ None → IfErr r (λ e. e ≡ OutOfMemory)) → (is_without_cell p.limits p.store (change_of command) ≡ true → MayLackCell (bounds_from p.limits) (Some (table_of p)) command) → IsOutcome (bounds_from p.limits) p.keys (Some (table_of p)) command r
outcome-given p q command r said refused memory lack =
    by_cause (is_key_in p.keys (key_of command)) (is_without_cell p.limits p.store (change_of command)) (stopped_by p.limits (table_of p)) (reply_to (state_of p) command) (MayLackCell (bounds_from p.limits) (Some (table_of p)) command) r
    (if_refused (refusal_of p command) (λ e. (r ≡ Err e) × (q ≡ p)) (λ e. r ≡ Err e) (λ e is. is.0) refused)
    (λ none. replied-or-short (reply_to (state_of p) command) r said (memory none))
    lack

-- a refusal for another cause than lack of memory leaves a partition as it was
pub same-given : (p q : Part) (o : Option Refusal) (r : Result Reply Refusal) → IfSome o (λ e. (r ≡ Err e) × (q ≡ p)) → (o ≡ None → IfErr r (λ e. e ≡ OutOfMemory)) → IfErr r (λ e. e ≢ OutOfMemory → q ≡ p)
same-given p q o (Ok reply) refused memory = tt
same-given p q None (Err e) refused memory = λ other. absurd (other (memory refl))
same-given p q (Some x) (Err e) refused memory = λ other. refused.1

-- what holds of an answer, from what the partition promises of it
pub ok_given : (r : Result Reply Refusal) {P Q : Type 0} → OnOk r P → (P → Q) → OnOk r Q
ok_given (Ok reply) p f = f p
ok_given (Err e) p f = tt

pub err_given : (r : Result Reply Refusal) {P Q : Type 0} → OnErr r P → (P → Q) → OnErr r Q
err_given (Ok reply) p f = tt
err_given (Err e) p f = f p

-- a plain table after an answered command is the one with one more command, after the checkpoint that is due
answered-is : (limits : Limits) (table : PlainView) (command : Command) → answered limits table command ≡ table_after (upkept_by (bounds_from limits) table) command
answered-is limits table command = by_test (is_due limits table.since)
  where
    by_test : (b : Bool) → record { state = after table.state command; checkpointed = (cond b (checkpointed_table table) table).checkpointed; since = (cond b (checkpointed_table table) table).since + 1 } ≡ table_after (cond b (checkpointed_table table) table) command
    by_test true = refl
    by_test false = refl

-- and counts one command more
accepted-after : (limits : Limits) (table : PlainView) (command : Command) → accepted_of (table_after (upkept_by (bounds_from limits) table) command) ≡ accepted_of table + 1
accepted-after limits table command = by_test (is_due limits table.since)
  where
    by_test : (b : Bool) → accepted_of (table_after (cond b (checkpointed_table table) table) command) ≡ accepted_of table + 1
    by_test true = omega arith
    by_test false = omega arith

-- a partition's plain table after a step: an answered one changes that of its own partition alone
job-own : (limits : Limits) (s : Step) (reply : Reply) (table : PlainView) → after_job limits s.part (Perform s) (Ok (Replied reply)) table ≡ table_after (upkept_by (bounds_from limits) table) s.command
job-own limits s reply table = ap (λ (b : Bool). cond b (table_after (upkept_by (bounds_from limits) table) s.command) table) (eq-eqb s.part s.part refl)

job-other : (limits : Limits) (part : ℕ) (s : Step) (r : Result Reply Refusal) (table : PlainView) → s.part ≢ part → after_job limits part (Perform s) (mapped Replied r) table ≡ table
job-other limits part s (Ok reply) table differs = ap (λ (b : Bool). cond b (table_after (upkept_by (bounds_from limits) table) s.command) table) (ne_eqb s.part part differs)
job-other limits part s (Err e) table differs = refl

-- the plain table is that of a step that was answered
pub table-given : (limits : Limits) (table new : PlainView) (s : Step) (r : Result Reply Refusal) → OnOk r (new ≡ answered limits table s.command) → OnErr r (new ≡ table) → new ≡ after_job limits s.part (Perform s) (mapped Replied r) table
table-given limits table new s (Ok reply) is same = is ∙ answered-is limits table s.command ∙ sym (job-own limits s reply table)
table-given limits table new s (Err e) is same = same

-- the last of a list
pub get-last : {X : Type 0} (xs : List X) (x : X) → slice_get (xs ++ x ∷ []) (length xs) ≡ Some x
get-last [] x = refl
get-last (y ∷ xs) x = get-last xs x

pub get-front : {X : Type 0} (xs : List X) (x : X) (k : ℕ) → k < length xs → slice_get (xs ++ x ∷ []) k ≡ slice_get xs k
get-front [] x k within = absurd (omega (arith, within))
get-front (y ∷ xs) x zero within = refl
get-front (y ∷ xs) x (suc k) within = get-front xs x k (omega (arith, within))

-- what is in a list of which one element was replaced
pub get-set_same : {X : Type 0} (xs : List X) (i : ℕ) (y : X) → i < length xs → slice_get (set xs i y) i ≡ Some y
get-set_same [] i y within = absurd (omega (arith, within))
get-set_same (x ∷ xs) zero y within = refl
get-set_same (x ∷ xs) (suc i) y within = get-set_same xs i y (omega (arith, within))

pub get-set_other : {X : Type 0} (xs : List X) (i k : ℕ) (y : X) → k ≢ i → slice_get (set xs i y) k ≡ slice_get xs k
get-set_other [] i k y differs = refl
get-set_other (x ∷ xs) zero zero y differs = absurd (differs refl)
get-set_other (x ∷ xs) zero (suc k) y differs = refl
get-set_other (x ∷ xs) (suc i) zero y differs = refl
get-set_other (x ∷ xs) (suc i) (suc k) y differs = get-set_other xs i k y (λ e. differs (ap suc e))

-- the partition of a step is replaced by one with its table after it
pub Keeps-set : (limits : Limits) (parts : List Part) (q d : Part) (s : Step) (r : Result Reply Refusal) → s.part < length parts → table_of q ≡ after_job limits s.part (Perform s) (mapped Replied r) (table_of (get_or parts s.part d)) → KeepsJobs limits (tables_of parts) (Perform s ∷ []) (mapped Replied r ∷ []) (tables_of (set parts s.part q))
Keeps-set limits parts q d s r within kept = λ k. ⊎_elim
    (λ (same : k ≡ s.part). subst (λ (n : ℕ). slice_get (tables_of (set parts s.part q)) n ≡ option_map (after_jobs limits n (Perform s ∷ []) (mapped Replied r ∷ [])) (slice_get (tables_of parts) n)) (sym same) own)
    (λ (other : k ≢ s.part).
    slice_get-map (λ (p : Part). table_of p) (set parts s.part q) k
    ∙ ap (option_map (λ (p : Part). table_of p)) (get-set_other parts s.part k q other)
    ∙ sym (slice_get-map (λ (p : Part). table_of p) parts k)
    ∙ same_table k (slice_get (tables_of parts) k) (λ e. other (sym e)))
    (cases_eq k s.part)
  where
    same_table : (k : ℕ) (o : Option PlainView) → s.part ≢ k → o ≡ option_map (after_jobs limits k (Perform s ∷ []) (mapped Replied r ∷ [])) o
    same_table k None differs = refl
    same_table k (Some table) differs = ap Some (sym (job-other limits k s r table differs))

    own : slice_get (tables_of (set parts s.part q)) s.part ≡ option_map (after_jobs limits s.part (Perform s ∷ []) (mapped Replied r ∷ [])) (slice_get (tables_of parts) s.part)
    own =
        slice_get-map (λ (p : Part). table_of p) (set parts s.part q) s.part
        ∙ ap (option_map (λ (p : Part). table_of p)) (get-set_same parts s.part q within)
        ∙ ap Some kept
        ∙ ap (λ (o : Option Part). option_map (after_jobs limits s.part (Perform s ∷ []) (mapped Replied r ∷ [])) (option_map (λ (p : Part). table_of p) o)) (sym (slice_get-get_or parts s.part d within))
        ∙ ap (option_map (after_jobs limits s.part (Perform s ∷ []) (mapped Replied r ∷ []))) (sym (slice_get-map (λ (p : Part). table_of p) parts s.part))

pub tables-set : (limits : Limits) (parts : List Part) (q d : Part) (s : Step) (r : Result Reply Refusal) → s.part < length parts → table_of q ≡ after_job limits s.part (Perform s) (mapped Replied r) (table_of (get_or parts s.part d)) → tables_of (set parts s.part q) ≡ tables_after (bounds_from limits) (tables_of parts) s.part s.command r
tables-set limits parts q d s (Ok reply) within kept =
    let table = λ (p : Part). table_of p in
    let there = sym (get_or-map table parts s.part d fresh_table within) in
    map-set table parts s.part q ∙ ap (set (tables_of parts) s.part) (kept ∙ job-own limits s reply (table_of (get_or parts s.part d)) ∙ ap (λ (t : PlainView). table_after (upkept_by (bounds_from limits) t) s.command) there)
tables-set limits parts q d s (Err e) within kept =
    map-set_same (λ (p : Part). table_of p) parts s.part q d kept

pub accepted-set : (limits : Limits) (parts : List Part) (q d : Part) (s : Step) (r : Result Reply Refusal) → s.part < length parts → table_of q ≡ after_job limits s.part (Perform s) (mapped Replied r) (table_of (get_or parts s.part d)) → accepted_by (set parts s.part q) ≡ (if is_ok r then accepted_by parts + 1 else accepted_by parts)
accepted-set limits parts q d s (Ok reply) within kept =
    let old = get_or parts s.part d in
    let sum = sum_by-set (λ (p : Part). accepted_of (table_of p)) parts s.part q d within in
    let grown : accepted_of (table_of q) ≡ accepted_of (table_of old) + 1 = ap accepted_of (kept ∙ job-own limits s reply (table_of old)) ∙ accepted-after limits (table_of old) s.command in
    omega (arith, sum, grown)
accepted-set limits parts q d s (Err e) within kept =
    let old = get_or parts s.part d in
    let sum = sum_by-set (λ (p : Part). accepted_of (table_of p)) parts s.part q d within in
    let same : accepted_of (table_of q) ≡ accepted_of (table_of old) = ap accepted_of kept in
    omega (arith, sum, same)

pub AreParts-set : (splits : List Bound) (limits : Limits) (parts : List Part) (i : ℕ) (q d : Part) → i < length parts → AreParts splits limits parts → q.keys ≡ (get_or parts i d).keys → q.limits ≡ (get_or parts i d).limits → IsSound q → AreParts splits limits (set parts i q)
AreParts-set splits limits parts i q d within are keys limits_are sound = record {
  count = length-set parts i q ∙ are.count;
  keys = λ k e k_lt. ⊎_elim
      (λ (same : k ≡ i). rw (same, get_or-set_same parts i q e within) (keys ∙ are.keys i d within))
      (λ (other : k ≢ i). rw (get_or-set_other parts i k q e other) (are.keys k e (omega (arith, k_lt, length-set parts i q))))
      (cases_eq k i);
  alike = All-set (λ (p : Part). p.limits ≡ limits) parts i q (limits_are ∙ are.alike i d within) are.alike;
  sound = All-set IsSound parts i q sound are.sound;
}

-- if there is no such partition
pub outcome-nowhere : (splits : List Bound) (bounds : Bounds) (parts : List Part) (s : Step) → length parts ≤ s.part → IsOutcomeAt bounds splits (tables_of parts) s.part s.command (Err NoSuchPartition)
outcome-nowhere splits bounds parts s beyond =
    let none = slice_get_past (tables_of parts) s.part (omega (arith, beyond, length-map parts (λ (p : Part). table_of p))) in
    subst (λ (t : Option PlainView). IsOutcome bounds (keys_of_part splits s.part) t s.command (Err NoSuchPartition)) (sym none) (inl refl)

-- what a partition of these splits is to answer is what the one with this number is to answer
pub outcome-at : (splits : List Bound) (limits : Limits) (parts : List Part) (s : Step) (r : Result Reply Refusal) (d : Part) → AreParts splits limits parts → s.part < length parts → IsOutcome (bounds_from (get_or parts s.part d).limits) (get_or parts s.part d).keys (Some (table_of (get_or parts s.part d))) s.command r → IsOutcomeAt (bounds_from limits) splits (tables_of parts) s.part s.command r
outcome-at splits limits parts s r d are within outcome =
    let table = λ (p : Part). table_of p in
    let there = slice_get-map table parts s.part ∙ ap (option_map table) (slice_get-get_or parts s.part d within) in
    rw (there, ← are.keys s.part d within) (subst (λ (l : Limits). IsOutcome (bounds_from l) (get_or parts s.part d).keys (Some (table_of (get_or parts s.part d))) s.command r) (are.alike s.part d within) outcome)

-- a relation of a partition and the one that replaces it holds of those with its number
pub replaced-at : (R : Part → Part → Type 0) (parts : List Part) (i : ℕ) (q d : Part) → i < length parts → R (get_or parts i d) q → (old new : Part) → slice_get parts i ≡ Some old → slice_get (set parts i q) i ≡ Some new → R old new
replaced-at R parts i q d within related old new at_old at_new =
    let first : get_or parts i d ≡ old = some_is (sym (slice_get-get_or parts i d within) ∙ at_old) in
    let second : q ≡ new = some_is (sym (get-set_same parts i q within) ∙ at_new) in
    rw (← first, ← second) related
  where
    some_is : {x y : Part} → Some x ≡ Some y → x ≡ y
    some_is e = cc

-- any relation holds of a partition that doesn't exist
pub nowhere-at : (R : Part → Part → Type 0) (parts : List Part) (i : ℕ) → length parts ≤ i → (old new : Part) → slice_get parts i ≡ Some old → slice_get parts i ≡ Some new → R old new
nowhere-at R parts i beyond old new at_old at_new = absurd (omega (arith, beyond, slice_get_within parts i old at_old))

-- a vector whose elements were borrowed, once as many were returned
pub come_back : (old new : List Part) (n : ℕ) → length new ≡ n → take n (new ++ drop (length new) old) ≡ new
come_back old new n long = take-append-le n new (drop (length new) old) (omega (arith, long)) ∙ take_all n new (omega (arith, long))
