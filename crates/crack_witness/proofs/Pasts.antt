-- The past into which a checkpoint divides a partition's history: it is legal, and has the partition's totals.
use Rattle.std.specs.Prelude.{take, drop, cond, ◌&&◌}
use Rattle.std.specs.Option.{option_or}
use Rattle.std.proofs.Common.{◌≡◌, Option, None, Some, ℕ, zero, suc, ◌+◌, ◌<◌, ◌≤◌, ◌==◌, Bool, true, false, if◌then◌else◌, List, [], ◌∷◌, ◌++◌, get_or, refl, ap, sym, subst, ◌∙◌, arith, length, length-append}
use Rattle.std.proofs.lemmas.Bool.{lt-leb}
use Rattle.std.proofs.lemmas.List.{take-append-drop, take-append-le, drop-append-le, length-drop}
use Rattle.std.proofs.lemmas.List.Elements.{All-nil, All-push, All-filter, All-map, All-take, All-drop}
use Rattle.std.proofs.Math.Seq.{drop-append_seam, take-append_seam}
use Rattle.crack_row.specs.Commands.{change_of, key_of}
use Rattle.crack_row.specs.Ranges.{Range, IsIn}
use Rattle.crack_row.specs.Rows.{row_with, is_other, replaced}
use Rattle.crack_row.specs.declared.Row.{Row}
use Rattle.crack_row.specs.declared.command.Command.{Command}
use Rattle.crack_row.specs.declared.command.Command.TheVariants.{Insert, Delete, Update, Count, Sum, Select}
use Rattle.crack_row.specs.declared.command.Entry.{Entry}
use Rattle.crack_row.specs.declared.limit.Limits.{Limits}
use Rattle.crack_row.specs.declared.refusal.Refusal.{Refusal}
use Rattle.crack_row.specs.declared.refusal.Refusal.TheVariants.{KeyOutside, NoCell}
use Rattle.crack_plain.specs.Plain.{PlainState, PlainView, no_rows, after, accepted_of, checkpointed_table, AreReplies}
use Rattle.crack_plain.specs.Past.{Base, Past, no_base, no_past, state_after, base_after, inserted_in, checkpointed_past, with_entry, IsLegal}
use Rattle.crack_plain.proofs.Words.{replay_from, StandWithin, IsWithin, BringWithin}
use Rattle.crack_plain.proofs.PastLaws.{IsBase-no_base, IsBase-after, next-after_past, length_rows-after_past}
use Rattle.crack_part.specs.Cells.{is_without_cell}
use Rattle.crack_part.specs.Parts.{Part, state_of, table_of}
use Rattle.crack_part.specs.Refusals.{is_key_in, refusal_of, stopped_by}
use Rattle.crack_part.specs.Upkeep.{is_automatic, is_due, answered}
use Rattle.crack_part.proofs.RefusalLaws.{within-true}
use Rattle.crack_witness.specs.Histories.{IsPastOf, past_in, upkept_past}
use Rattle.crack_witness.specs.Witnesses.{HasTotals}
use Rattle.crack_witness.proofs.Keeping.{state-divided, base-whole, same_past}

-- a command that isn't refused has a key of the partition, if any
pub within-kept : (p : Part) (command : Command) → refusal_of p command ≡ None → IsWithin p.keys command
within-kept p command none =
    within-true p.keys (key_of command) (passed (is_key_in p.keys (key_of command)) (option_or (stopped_by p.limits (table_of p)) (if is_without_cell p.limits p.store (change_of command) then Some NoCell else None)) none)
  where
    passed : (own : Bool) (cause : Option Refusal) → (if own then cause else Some KeyOutside) ≡ None → own ≡ true
    passed true cause is = refl
    passed false cause is = cc is

-- the replies of a history that is divided anywhere
pub replies-divided : (s : PlainState) (first rest : List Entry) → AreReplies s (first ++ rest) → AreReplies s first × AreReplies (replay_from s first) rest
replies-divided s [] rest replies = (tt, replies)
replies-divided s (e ∷ first) rest replies =
    let later = replies-divided (after s e.command) first rest replies.1 in
    ((replies.0, later.0), later.1)

-- a row, or the one that is put in its place
stands-replaced : (keys : Range) (new row : Row) → IsIn keys new.key.0 → IsIn keys row.key.0 → IsIn keys (replaced new row).key.0
stands-replaced keys new row in_new in_old = by_test (row.serial.0 == new.serial.0)
  where
    by_test : (b : Bool) → IsIn keys (if b then new else row).key.0
    by_test true = in_new
    by_test false = in_old

-- the rows after a command have keys of its range, if the rows before it and the command have
stand-after : (keys : Range) (s : PlainState) (command : Command) → StandWithin keys s.rows → IsWithin keys command → StandWithin keys (after s command).rows
stand-after keys s (Insert key payload) stand within = All-push (λ (row : Row). IsIn keys row.key.0) s.rows (record { serial = record { 0 = s.next }; key = key; payload = payload }) stand within
stand-after keys s (Delete serial) stand within = All-filter (is_other serial.0) (λ (row : Row). IsIn keys row.key.0) s.rows stand
stand-after keys s (Update serial key payload) stand within =
    let new = row_with serial key payload in
    All-map (λ (row : Row). IsIn keys row.key.0) (replaced new) s.rows (λ k d less. stands-replaced keys new (get_or s.rows k d) within (stand k d less))
stand-after keys s (Count range) stand within = stand
stand-after keys s (Sum range) stand within = stand
stand-after keys s (Select range) stand within = stand

stand-replayed : (keys : Range) (s : PlainState) (es : List Entry) → StandWithin keys s.rows → BringWithin keys es → StandWithin keys (replay_from s es).rows
stand-replayed keys s [] stand within = stand
stand-replayed keys s (e ∷ es) stand within =
    stand-replayed keys (after s e.command) es (stand-after keys s e.command stand (within 0 e (omega arith))) (λ k d less. within (suc k) d (omega (arith, less)))

-- the entries since the last checkpoint are as many as the partition counts
tail-since : (h : List Entry) (table : PlainView) → IsPastOf h table → length (drop table.checkpointed h) ≡ table.since
tail-since h table k = omega (arith, length-drop table.checkpointed h, k.all)

-- a history is as long as its two parts
parts-all : (h : List Entry) (table : PlainView) → IsPastOf h table → length (take table.checkpointed h) + length (drop table.checkpointed h) ≡ accepted_of table
parts-all h table k = omega (arith, length-append (take table.checkpointed h) (drop table.checkpointed h), ap length (take-append-drop table.checkpointed h), k.all)

-- the past into which the history is divided
pub IsLegal-divided : (keys : Range) (limits : Limits) (h : List Entry) (table : PlainView) → IsPastOf h table → AreReplies no_rows h → BringWithin keys h → table.since ≤ limits.history → accepted_of table ≤ limits.life → IsLegal keys limits (past_in h table)
IsLegal-divided keys limits h table k replies within since lived =
    let first = take table.checkpointed h in
    let rest = drop table.checkpointed h in
    let both = replies-divided no_rows first rest (subst (AreReplies no_rows) (sym (take-append-drop table.checkpointed h)) replies) in
    record {
      base = IsBase-after (record { base = no_base; tail = first }) IsBase-no_base both.0;
      stand = stand-replayed keys no_rows first (All-nil _) (All-take (λ (e : Entry). IsWithin keys e.command) table.checkpointed h within);
      replies = both.1;
      within = All-drop (λ (e : Entry). IsWithin keys e.command) table.checkpointed h within;
      limited = omega (arith, tail-since h table k, since);
      lived = omega (arith, parts-all h table k, lived);
    }

pub HasTotals-divided : (h : List Entry) (held : Part) → IsPastOf h (table_of held) → IsLegal held.keys held.limits (past_in h (table_of held)) → HasTotals (past_in h (table_of held)) held
HasTotals-divided h held k legal =
    let past = past_in h (table_of held) in
    let divided : state_after past ≡ state_of held = state-divided h (table_of held) k in
    let placed : (state_after past).next ≡ inserted_in past = next-after_past past legal.base legal.replies in
    let next : (state_after past).next ≡ held.next = ap (λ (s : PlainState). s.next) divided in
    let left : length (state_after past).rows ≡ length (state_of held).rows = ap (λ (s : PlainState). length s.rows) divided in
    record {
      accepted = omega (arith, parts-all h (table_of held) k);
      inserted = omega (arith, placed, next);
      rows = omega (arith, left, placed, next, length_rows-after_past past legal.base legal.replies);
    }

-- the base that a checkpoint makes of these entries
abbrev base_with : List Entry → Base
base_with es = base_after (record { base = no_base; tail = es })

-- one more entry is added to the past, by whether a checkpoint comes first
divided-tested : (b : Bool) (h : List Entry) (table : PlainView) (state : PlainState) (e : Entry) → IsPastOf h table
    → past_in (h ++ e ∷ []) (record { state = state; checkpointed = (if b then checkpointed_table table else table).checkpointed; since = (if b then checkpointed_table table else table).since + 1 }) ≡ with_entry (if b then checkpointed_past (past_in h table) else past_in h table) e
divided-tested true h table state e k =
    let n = accepted_of table in
    let first = take table.checkpointed h in
    let rest = drop table.checkpointed h in
    let taken : take n (h ++ e ∷ []) ≡ first ++ rest = ap (λ (i : ℕ). take i (h ++ e ∷ [])) k.all ∙ (take-append_seam h (e ∷ []) ∙ sym (take-append-drop table.checkpointed h)) in
    let left : drop n (h ++ e ∷ []) ≡ e ∷ [] = ap (λ (i : ℕ). drop i (h ++ e ∷ [])) k.all ∙ drop-append_seam h (e ∷ []) in
    same_past (base_with (take n (h ++ e ∷ []))) (base_after (past_in h table)) (drop n (h ++ e ∷ [])) (e ∷ []) (ap base_with taken ∙ base-whole first rest) left
divided-tested false h table state e k =
    let n = table.checkpointed in
    let within : n ≤ length h = omega (arith, k.all) in
    same_past (base_with (take n (h ++ e ∷ []))) (base_with (take n h)) (drop n (h ++ e ∷ [])) (drop n h ++ e ∷ []) (ap base_with (take-append-le n h (e ∷ []) within)) (drop-append-le n h (e ∷ []) within)

-- one more entry is added to the past, after a checkpoint if one is due
pub divided-answered : (h : List Entry) (limits : Limits) (table : PlainView) (e : Entry) → IsPastOf h table → past_in (h ++ e ∷ []) (answered limits table e.command) ≡ with_entry (upkept_past limits (past_in h table)) e
divided-answered h limits table e k =
    let past = past_in h table in
    divided-tested (is_due limits table.since) h table (after table.state e.command) e k ∙ ap (λ (n : ℕ). with_entry (if is_due limits n then checkpointed_past past else past) e) (sym (tail-since h table k))

-- if there is room, no checkpoint is due
pub upkept-room : (limits : Limits) (past : Past) → length past.tail < limits.history → upkept_past limits past ≡ past
upkept-room limits past room = ap (λ (b : Bool). cond (b && is_automatic limits.upkeep) (checkpointed_past past) past) (lt-leb limits.history (length past.tail) room)

-- the past of a partition that has answered nothing
pub no_past-divided : (table : PlainView) → past_in [] table ≡ no_past
no_past-divided table = rw (taken table.checkpointed, left table.checkpointed) refl
  where
    taken : (n : ℕ) → ◌≡◌ {A = List Entry} (take n []) []
    taken zero = refl
    taken (suc n) = refl

    left : (n : ℕ) → ◌≡◌ {A = List Entry} (drop n []) []
    left zero = refl
    left (suc n) = refl
