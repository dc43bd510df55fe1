-- Rows that one call inserts into a partition are inserted one after the other.
use Rattle.std.specs.Prelude.{◌≡◌, ◌≢◌, ℕ, ◌+◌, ◌<◌, ◌≤◌, ℤ, pos, Bool, true, false, List, length, drop, Option, None, Some, Result, Ok, Err, IfSome, IfOk, IfErr, slice_get, slice_index_or, if◌then◌else◌}
use Rattle.std.specs.Option.{option_or}
use Rattle.std.proofs.Common.{get_or, set, arith, ap, refl, sym, subst, ◌∙◌, inl, inr, length-set}
use Rattle.std.proofs.lemmas.Bool.{cases_eq, cases_lt}
use Rattle.std.proofs.lemmas.List.{set-get_or, get_or-drop, get_or-set_other, get_or-set_same, set-set}
use Rattle.crack_row.specs.Commands.{key_of}
use Rattle.crack_row.specs.Ranges.{IsIn}
use Rattle.crack_row.specs.declared.TheConstants.{GREATEST_BOUND}
use Rattle.crack_row.specs.declared.Bound.{Bound}
use Rattle.crack_row.specs.declared.Key.{Key}
use Rattle.crack_row.specs.declared.Payload.{Payload}
use Rattle.crack_row.specs.declared.RowNo.{RowNo}
use Rattle.crack_row.specs.declared.limit.Limits.{Limits}
use Rattle.crack_row.specs.declared.command.Command.{Command}
use Rattle.crack_row.specs.declared.command.Policy.TheVariants.{Gradual}
use Rattle.crack_row.specs.declared.command.Reply.{Reply}
use Rattle.crack_row.specs.declared.command.Reply.TheVariants.{Placed}
use Rattle.crack_row.specs.declared.refusal.Refusal.{Refusal}
use Rattle.crack_row.specs.declared.refusal.Refusal.TheVariants.{KeyOutside, NoCell, OutOfMemory}
use Rattle.crack_plain.specs.Plain.{PlainState, after}
use Rattle.crack_part.specs.Parts.{Part, IsSound, table_of, Serves, Spares}
use Rattle.crack_part.specs.Cells.{is_without_cell}
use Rattle.crack_part.specs.Outcomes.{Applies}
use Rattle.crack_part.specs.Refusals.{is_key_in, stopped_by, refusal_of}
use Rattle.crack_part.specs.Runs.{insertion_at, InsertsInto, InsertsRun, no_row, next_row}
use Rattle.crack_row.specs.Commands.{change_of}
use Rattle.crack_part.proofs.RefusalLaws.{within-true}
use Rattle.crack_core.specs.declared.step.Step.{Step}
use Rattle.crack_core.specs.Asking.{Asks, Inserts, step_at}
use Rattle.crack_core.specs.Bulk.{NumberedCall, Answered, none, one_more, stopped, key_in, payload_in, row_number}
use Rattle.crack_core.specs.Bulk as bulk
use Rattle.crack_core.specs.Inside.{InsertsFrom, IsKeptBelow}
use Rattle.crack_core.specs.Opening.{AreParts}
use Rattle.crack_core.specs.Routes.{AreSplits, keys_of_part, route}
use Rattle.crack_core.specs.Steps.{bounds_from, tables_of, tables_after}
use Rattle.crack_core.proofs.AskLaws.{lasts-by}
use Rattle.crack_core.proofs.BulkLaws.{answered-as}
use Rattle.crack_core.proofs.RouteLaws.{ends-bounded, high-before, low-behind}
use Rattle.crack_core.proofs.ShortLaws.{may-lack}
use Rattle.crack_core.proofs.StepLaws.{outcome-given, table-given, same-given, ok_given, err_given, outcome-at, tables-set, AreParts-set, get-set_other, replaced-at}

if_err : (r : Result Reply Refusal) (P Q : Refusal → Type 0) → ((e : Refusal) → P e → Q e) → IfErr r P → IfErr r Q
if_err (Ok reply) P Q f h = tt
if_err (Err e) P Q f h = f e h

-- a partition that was asked is replaced by the one that it became
pub asks-set : (splits : List Bound) (limits : Limits) (parts : List Part) (s : Step) (r : Result Reply Refusal) (q d : Part) → AreParts splits limits parts → s.part < length parts → Applies s.policy s.command (get_or parts s.part d) r q → IsSound q → Asks limits splits s r parts (set parts s.part q)
asks-set splits limits parts s r q d are within applies sound =
    let p = get_or parts s.part d in
    let own : p.limits ≡ limits = are.alike s.part d within in
    let before : IsSound p = are.sound s.part d within in
    let kept = table-given p.limits (table_of p) (table_of q) s r applies.table applies.err in
    let outcome = outcome-at splits limits parts s r d are within (outcome-given p q s.command r applies.reply applies.refused applies.memory (may-lack p s.command before)) in
    let leaves = subst (λ (l : Limits). tables_of (set parts s.part q) ≡ tables_after (bounds_from l) (tables_of parts) s.part s.command r) own (tables-set p.limits parts q d s r within kept) in
    let same = same-given p q (refusal_of p s.command) r applies.refused applies.memory in
    record {
      comes_out = outcome;
      leaves = leaves;
      makes = record {
        parts = AreParts-set splits limits parts s.part q d within are applies.opened.0 applies.opened.1 sound;
        kept = leaves;
        others = λ k differs. get-set_other parts s.part k q differs;
        store = ok_given r applies.store (λ (serves : Serves s.policy p s.command q.store). replaced-at (λ (x y : Part). Serves s.policy x s.command y.store) parts s.part q d within serves);
        spared = err_given r applies.spared (λ (spares : Spares s.policy p s.command q.store). replaced-at (λ (x y : Part). Spares s.policy x s.command y.store) parts s.part q d within spares);
        same = if_err r (λ e. e ≢ OutOfMemory → q ≡ p) (λ e. e ≢ OutOfMemory → set parts s.part q ≡ parts) (λ e is other. ap (set parts s.part) (is other) ∙ set-get_or parts s.part d) same;
      };
      lasts = λ automatic. lasts-by limits (keys_of_part splits s.part) (slice_get (tables_of parts) s.part) s.command r automatic outcome;
    }

-- a command that was answered was refused for no cause
none-refused : (o : Option Refusal) (reply : Reply) (same : Type 0) → IfSome o (λ e. (Ok reply ≡ Err e) × same) → o ≡ None
none-refused None reply same refused = refl
none-refused (Some e) reply same refused = cc (refused.0)

own-key : (own lacks : Bool) (stop : Option Refusal) → ◌≡◌ {A = Option Refusal} (if own then option_or stop (if lacks then Some NoCell else None) else Some KeyOutside) None → own ≡ true
own-key true lacks stop is = refl
own-key false lacks stop is = cc is

-- so its key is the partition's
key-within : (p : Part) (command : Command) (key : Key) (reply : Reply) (same : Type 0) → key_of command ≡ Some key → IfSome (refusal_of p command) (λ e. (Ok reply ≡ Err e) × same) → IsIn p.keys key.0
key-within p command key reply same is refused =
    let own = own-key (is_key_in p.keys (key_of command)) (is_without_cell p.limits p.store (change_of command)) (stopped_by p.limits (table_of p)) (none-refused (refusal_of p command) reply same refused) in
    within-true p.keys (Some key) (subst (λ (k : Option Key). is_key_in p.keys k ≡ true) is own)

-- and the key falls into the partition whose keys it is among
route-of : (splits : List Bound) (part n : ℕ) → AreSplits splits → part ≤ length splits → n < GREATEST_BOUND → IsIn (keys_of_part splits part) n → part ≡ route splits n
route-of splits part n are within below inside = elim (cases_lt part (route splits n)) [
  | inl before ↦ absurd (omega (arith, inside.1, high-before splits n part are before))
  | inr behind ↦ elim (cases_lt (route splits n) part) [
    | inl after ↦ absurd (omega (arith, inside.0, low-behind splits n part are below after within))
    | inr least ↦ omega (arith, behind, least)
  ]
]

-- the row was inserted into the partition of its key
inserts-set : (splits : List Bound) (limits : Limits) (keys : List ℕ) (payloads : List ℤ) (k part : ℕ) (parts : List Part) (p q d : Part) → AreSplits splits → AreParts splits limits parts → part < length parts → p ≡ get_or parts part d → InsertsInto keys payloads k (Ok (Placed (record { 0 = p.next }))) p q → Inserts limits splits (key_in keys k) (payload_in payloads k) (Ok (row_number part p.next)) parts (set parts part q)
inserts-set splits limits keys payloads k part parts p q d good are within is inserts =
    let command = insertion_at keys payloads k in
    let reply = Placed (record { 0 = p.next }) in
    let inside = key-within p command (key_in keys k) reply (q ≡ p) refl inserts.applies.refused in
    let of_keys : p.keys ≡ keys_of_part splits part = ap (λ (x : Part). x.keys) is ∙ are.keys part d within in
    let own = rw of_keys at inside in
    let below : slice_index_or keys k 0 < GREATEST_BOUND = omega (arith, own.1, ends-bounded splits part good) in
    let there : part ≡ route splits (slice_index_or keys k 0) = route-of splits part (slice_index_or keys k 0) good (omega (arith, within, are.count)) below own in
    let applies = subst (λ (x : Part). Applies Gradual command x (Ok reply) q) is inserts.applies in
    let asks = asks-set splits limits parts (step_at Gradual part command) (Ok reply) q d are within applies inserts.sound in
    record {
      asks = subst (λ (n : ℕ). Asks limits splits (step_at Gradual n command) (Ok reply) parts (set parts part q)) there asks;
      part = there;
    }

-- or it was refused there
pub inserts-refused : (splits : List Bound) (limits : Limits) (keys : List ℕ) (payloads : List ℤ) (k part : ℕ) (e : Refusal) (parts : List Part) (q d : Part) → AreParts splits limits parts → part < length parts → part ≡ route splits (slice_index_or keys k 0) → InsertsInto keys payloads k (Err e) (get_or parts part d) q → Inserts limits splits (key_in keys k) (payload_in payloads k) (Err e) parts (set parts part q)
inserts-refused splits limits keys payloads k part e parts q d are within there inserts =
    let command = insertion_at keys payloads k in
    let asks = asks-set splits limits parts (step_at Gradual part command) (Err e) q d are within inserts.applies inserts.sound in
    record {
      asks = subst (λ (n : ℕ). Asks limits splits (step_at Gradual n command) (Err e) parts (set parts part q)) there asks;
      part = tt;
    }

-- a partition took rows of a list, and replaces the one that it was
pub record TookRows (splits : List Bound) (limits : Limits) (keys : List ℕ) (payloads : List ℤ) (part first : ℕ) (parts : List Part) (n : ℕ) (q : Part) : Type 0 where
  pub answered : Answered (InsertsFrom limits splits keys payloads part first) parts n (set parts part q)
  pub are : AreParts splits limits (set parts part q)
  pub next : q.next ≡ first + n

pub took-rows : (splits : List Bound) (limits : Limits) (keys : List ℕ) (payloads : List ℤ) (part first : ℕ) (parts : List Part) (p d : Part) (n : ℕ) (q : Part) → AreSplits splits → AreParts splits limits parts → part < length parts → p ≡ get_or parts part d → first ≡ p.next → InsertsRun keys payloads p n q → TookRows splits limits keys payloads part first parts n q
took-rows splits limits keys payloads part first parts p d n q good are within is begins no_row =
    let same : set parts part p ≡ parts = ap (set parts part) is ∙ set-get_or parts part d in
    record {
      answered = subst (λ (now : List Part). Answered (InsertsFrom limits splits keys payloads part first) parts 0 now) (sym same) none;
      are = subst (AreParts splits limits) (sym same) are;
      next = omega (arith, begins);
    }
took-rows splits limits keys payloads part first parts p d n q good are within is begins (next_row done between new so_far inserts) =
    let before = took-rows splits limits keys payloads part first parts p d done between good are within is begins so_far in
    let now = set parts part between in
    let long : part < length now = omega (arith, within, length-set parts part between) in
    let at : between ≡ get_or now part d = sym (get_or-set_same parts part between d within) in
    let twice : set now part new ≡ set parts part new = set-set parts part between new in
    let placed = inserts-set splits limits keys payloads done part now between new d good before.are long at inserts in
    let numbered = subst (λ (serial : ℕ). Inserts limits splits (key_in keys done) (payload_in payloads done) (Ok (row_number part serial)) now (set now part new)) before.next placed in
    let opened = inserts.applies.opened in
    let after_all = AreParts-set splits limits now part new d long before.are (opened.0 ∙ ap (λ (x : Part). x.keys) at) (opened.1 ∙ ap (λ (x : Part). x.limits) at) inserts.sound in
    let more : new.next ≡ between.next + 1 = ap (λ (s : PlainState). s.next) inserts.applies.state in
    record {
      answered = subst (λ (last : List Part). Answered (InsertsFrom limits splits keys payloads part first) parts (done + 1) last) twice (one_more done now (set now part new) before.answered numbered);
      are = subst (AreParts splits limits) twice after_all;
      next = omega (arith, more, before.next);
    }

-- the numbers from an index on
from-nat : (xs : List ℕ) (from k : ℕ) → slice_index_or xs (from + k) 0 ≡ slice_index_or (drop from xs) k 0
from-nat xs from k = sym (get_or-drop from xs k 0)

from-int : (xs : List ℤ) (from k : ℕ) → slice_index_or xs (from + k) (pos 0) ≡ slice_index_or (drop from xs) k (pos 0)
from-int xs from k = sym (get_or-drop from xs k (pos 0))

-- a run from an index on, whose row numbers were written
pub run-numbered : (limits : Limits) (splits : List Bound) (keys : List ℕ) (payloads : List ℤ) (parts serials : List ℕ) (from part first count : ℕ) (old new : List Part)
    → ((k : ℕ) → k < count → slice_index_or parts (from + k) 0 ≡ part)
    → ((k : ℕ) → k < count → slice_index_or serials (from + k) 0 ≡ first + k)
    → Answered (InsertsFrom limits splits (drop from keys) (drop from payloads) part first) old count new
    → Answered (λ k. bulk.InsertsAt limits splits keys payloads parts serials (from + k)) old count new
run-numbered limits splits keys payloads parts serials from part first count old new in_parts in_serials run =
    answered-as (InsertsFrom limits splits (drop from keys) (drop from payloads) part first) (λ k. bulk.InsertsAt limits splits keys payloads parts serials (from + k)) old count new
    (λ k before after below was. rw (from-nat keys from k, from-int payloads from k, in_parts k below, in_serials k below) was) run

-- one row at an index, whose row number was written
pub one-numbered : (limits : Limits) (splits : List Bound) (keys : List ℕ) (payloads : List ℤ) (parts serials : List ℕ) (from key : ℕ) (payload : ℤ) (old new : List Part)
    → key ≡ slice_index_or keys from 0 → payload ≡ slice_index_or payloads from (pos 0)
    → Inserts limits splits (record { 0 = key }) (record { 0 = payload }) (Ok (row_number (slice_index_or parts from 0) (slice_index_or serials from 0))) old new
    → Answered (λ k. bulk.InsertsAt limits splits keys payloads parts serials (from + k)) old 1 new
one-numbered limits splits keys payloads parts serials from key payload old new key_is payload_is inserts =
    let at : from ≡ from + 0 = omega arith in
    one_more 0 old new none (subst (λ (n : ℕ). bulk.InsertsAt limits splits keys payloads parts serials n None old new) at (rw (key_is, payload_is) at inserts))

-- calls from an index on come after those before it
pub answered-then : (call : NumberedCall) (old between : List Part) (done n : ℕ) (new : List Part) → Answered call old done between → Answered (λ k. call (done + k)) between n new → Answered call old (done + n) new
answered-then call old between done n new so_far none = subst (λ (i : ℕ). Answered call old i between) (omega arith) so_far
answered-then call old between done n new so_far (one_more k mid last before called) =
    subst (λ (i : ℕ). Answered call old i last) (omega arith) (one_more (done + k) mid last (answered-then call old between done k mid so_far before) called)

-- the rows before an index stay numbered, and those of a run come after them
pub runs-more : (limits : Limits) (splits : List Bound) (keys : List ℕ) (payloads : List ℤ) (parts parts' serials serials' : List ℕ) (done count : ℕ) (old between new : List Part)
    → IsKeptBelow done parts parts' → IsKeptBelow done serials serials'
    → Answered (bulk.InsertsAt limits splits keys payloads parts serials) old done between
    → Answered (λ k. bulk.InsertsAt limits splits keys payloads parts' serials' (done + k)) between count new
    → Answered (bulk.InsertsAt limits splits keys payloads parts' serials') old (done + count) new
runs-more limits splits keys payloads parts parts' serials serials' done count old between new kept_parts kept_serials so_far run =
    let call = bulk.InsertsAt limits splits keys payloads parts' serials' in
    answered-then call old between done count new
    (answered-as (bulk.InsertsAt limits splits keys payloads parts serials) call old done between (λ k before after below was. rw (kept_parts.same k below, kept_serials.same k below) was) so_far)
    run

-- the rows before one that is refused stay numbered
pub runs-stop : (limits : Limits) (splits : List Bound) (keys : List ℕ) (payloads : List ℤ) (parts parts' serials serials' : List ℕ) (done : ℕ) (e : Refusal) (old between new : List Part)
    → done < length keys → IsKeptBelow done parts parts' → IsKeptBelow done serials serials'
    → Answered (bulk.InsertsAt limits splits keys payloads parts serials) old done between
    → Inserts limits splits (key_in keys done) (payload_in payloads done) (Err e) between new
    → bulk.Went (bulk.InsertsAt limits splits keys payloads parts' serials') (length keys) old (record { done = done; refusal = Some e }) new
runs-stop limits splits keys payloads parts parts' serials serials' done e old between new within kept_parts kept_serials so_far refused =
    stopped done e between new within
    (answered-as (bulk.InsertsAt limits splits keys payloads parts serials) (bulk.InsertsAt limits splits keys payloads parts' serials') old done between (λ k before after below was. rw (kept_parts.same k below, kept_serials.same k below) was) so_far)
    refused

-- a list in which one number was written
pub kept-set : (xs : List ℕ) (i x : ℕ) → IsKeptBelow i xs (set xs i x)
kept-set xs i x = record { long = length-set xs i x; same = λ k below. get_or-set_other xs i k x 0 (omega (arith, below)) }

pub kept-set_later : (xs ys : List ℕ) (from k x : ℕ) → IsKeptBelow from xs ys → IsKeptBelow from xs (set ys (from + k) x)
kept-set_later xs ys from k x kept = record {
  long = length-set ys (from + k) x ∙ kept.long;
  same = λ j below. get_or-set_other ys (from + k) j x 0 (omega (arith, below)) ∙ kept.same j below;
}

pub kept-all : (xs : List ℕ) (i : ℕ) → IsKeptBelow i xs xs
kept-all xs i = record { long = refl; same = λ k below. refl }

-- the numbers that were written from an index on, with one more
pub written-more : (xs : List ℕ) (from n : ℕ) (f : ℕ → ℕ) → from + n < length xs → ((k : ℕ) → k < n → slice_index_or xs (from + k) 0 ≡ f k) → (k : ℕ) → k < n + 1 → slice_index_or (set xs (from + n) (f n)) (from + k) 0 ≡ f k
written-more xs from n f within before k below = elim (cases_eq k n) [
  | inl is ↦ rw is (get_or-set_same xs (from + n) (f n) 0 within)
  | inr other ↦ get_or-set_other xs (from + n) (from + k) (f n) 0 (λ e. other (omega (arith, e))) ∙ before k (omega (arith, below, other))
]

-- a row whose row number was written
pub one-inserted : (limits : Limits) (splits : List Bound) (key : ℕ) (payload : ℤ) (k : Key) (p : Payload) (parts serials : List ℕ) (i : ℕ) (row : RowNo) (old new : List Part)
    → k.0 ≡ key → p.0 ≡ payload → i < length parts → i < length serials
    → Inserts limits splits k p (Ok row) old new
    → Inserts limits splits (record { 0 = key }) (record { 0 = payload }) (Ok (row_number (slice_index_or (set parts i row.part) i 0) (slice_index_or (set serials i row.serial.0) i 0))) old new
one-inserted limits splits key payload k p parts serials i row old new key_is payload_is in_parts in_serials inserts =
    rw (get_or-set_same parts i row.part 0 in_parts, get_or-set_same serials i row.serial.0 0 in_serials)
    (subst (λ (n : ℕ). Inserts limits splits (record { 0 = n }) (record { 0 = payload }) (Ok row) old new) key_is
    (subst (λ (n : ℤ). Inserts limits splits k (record { 0 = n }) (Ok row) old new) payload_is inserts))

-- or that was refused
pub one-refused : (limits : Limits) (splits : List Bound) (key : ℕ) (payload : ℤ) (k : Key) (p : Payload) (e : Refusal) (old new : List Part)
    → k.0 ≡ key → p.0 ≡ payload
    → Inserts limits splits k p (Err e) old new
    → Inserts limits splits (record { 0 = key }) (record { 0 = payload }) (Err e) old new
one-refused limits splits key payload k p e old new key_is payload_is inserts =
    subst (λ (n : ℕ). Inserts limits splits (record { 0 = n }) (record { 0 = payload }) (Err e) old new) key_is
    (subst (λ (n : ℤ). Inserts limits splits k (record { 0 = n }) (Err e) old new) payload_is inserts)

-- no call of a list was made
pub answered-none : (call : NumberedCall) (old new : List Part) (n : ℕ) → n ≡ 0 → Answered call old n new → new ≡ old
answered-none call old new n is none = refl
answered-none call old new n is (one_more done between last before called) = absurd (omega (arith, is))

-- a partition that took rows has the keys and the limits that it had
pub run-opened : (keys : List ℕ) (payloads : List ℤ) (p : Part) (n : ℕ) (q : Part) → InsertsRun keys payloads p n q → (q.keys ≡ p.keys) × (q.limits ≡ p.limits)
run-opened keys payloads p n q no_row = (refl, refl)
run-opened keys payloads p n q (next_row done between new so_far inserts) =
    let before = run-opened keys payloads p done between so_far in
    (inserts.applies.opened.0 ∙ before.0, inserts.applies.opened.1 ∙ before.1)

-- one row at an index, on the partitions that a run of no rows left
pub one-answered : (limits : Limits) (splits : List Bound) (keys : List ℕ) (payloads : List ℤ) (parts serials : List ℕ) (from key : ℕ) (payload : ℤ) (old mid new : List Part) (r : Result ℕ Refusal)
    → key ≡ slice_index_or keys from 0 → payload ≡ slice_index_or payloads from (pos 0) → mid ≡ old
    → IfOk r (λ count. count ≡ 1)
    → IfOk r (λ _. Inserts limits splits (record { 0 = key }) (record { 0 = payload }) (Ok (row_number (slice_index_or parts from 0) (slice_index_or serials from 0))) mid new)
    → IfOk r (λ count. Answered (λ k. bulk.InsertsAt limits splits keys payloads parts serials (from + k)) old count new)
one-answered limits splits keys payloads parts serials from key payload old mid new (Err e) key_is payload_is same one inserts = tt
one-answered limits splits keys payloads parts serials from key payload old mid new (Ok count) key_is payload_is same one inserts =
    let placed = subst (λ (now : List Part). Inserts limits splits (record { 0 = key }) (record { 0 = payload }) (Ok (row_number (slice_index_or parts from 0) (slice_index_or serials from 0))) now new) same inserts in
    subst (λ (n : ℕ). Answered (λ k. bulk.InsertsAt limits splits keys payloads parts serials (from + k)) old n new) (sym one) (one-numbered limits splits keys payloads parts serials from key payload old new key_is payload_is placed)

pub one-denied : (limits : Limits) (splits : List Bound) (keys : List ℕ) (payloads : List ℤ) (from key : ℕ) (payload : ℤ) (old mid new : List Part) (r : Result ℕ Refusal)
    → key ≡ slice_index_or keys from 0 → payload ≡ slice_index_or payloads from (pos 0) → mid ≡ old
    → IfErr r (λ e. Inserts limits splits (record { 0 = key }) (record { 0 = payload }) (Err e) mid new)
    → IfErr r (λ e. Inserts limits splits (key_in keys from) (payload_in payloads from) (Err e) old new)
one-denied limits splits keys payloads from key payload old mid new (Ok count) key_is payload_is same inserts = tt
one-denied limits splits keys payloads from key payload old mid new (Err e) key_is payload_is same inserts =
    let refused = subst (λ (now : List Part). Inserts limits splits (record { 0 = key }) (record { 0 = payload }) (Err e) now new) same inserts in
    rw (key_is, payload_is) at refused

-- the first row from an index on is refused
pub refused-at : (limits : Limits) (splits : List Bound) (keys : List ℕ) (payloads : List ℤ) (from : ℕ) (e : Refusal) (old new : List Part)
    → Inserts limits splits (key_in (drop from keys) 0) (payload_in (drop from payloads) 0) (Err e) old new
    → Inserts limits splits (key_in keys from) (payload_in payloads from) (Err e) old new
refused-at limits splits keys payloads from e old new refused =
    let at : from + 0 ≡ from = omega arith in
    let first = subst (λ (n : ℕ). Inserts limits splits (record { 0 = n }) (payload_in (drop from payloads) 0) (Err e) old new) (sym (from-nat keys from 0)) refused in
    let both = subst (λ (n : ℤ). Inserts limits splits (key_in keys (from + 0)) (record { 0 = n }) (Err e) old new) (sym (from-int payloads from 0)) first in
    subst (λ (n : ℕ). Inserts limits splits (key_in keys n) (payload_in payloads n) (Err e) old new) at both
