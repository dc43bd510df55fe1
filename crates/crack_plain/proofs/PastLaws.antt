-- What follows from a partition's past, from any base on.
use Rattle.std.specs.Prelude.{◌≡◌, ℕ, ◌+◌, ◌<◌, ◌≤◌, List, [], ◌∷◌, length, if◌then◌else◌, pos, ◌-ℤ◌}
use Rattle.std.proofs.Common.{arith, length-append, ap, refl, sym, ◌∙◌}
use Rattle.std.proofs.Math.IntN.{+ℤ-neg_ℤ_cancel}
use Rattle.std.proofs.lemmas.List.Elements.{All-nil}
use Rattle.crack_row.specs.Ranges.{Range}
use Rattle.crack_row.specs.declared.command.Reply.{Reply}
use Rattle.crack_row.specs.declared.command.Reply.TheVariants.{Placed, Gone, Changed, NoRow, Counted, Summed, Rows}
use Rattle.crack_row.specs.declared.command.Entry.{Entry}
use Rattle.crack_row.specs.declared.limit.Limits.{Limits}
use Rattle.crack_plain.specs.Plain.{IsNumbered, reply_to, after, AreReplies}
use Rattle.crack_plain.proofs.Words.{StandWithin, IsWithin}
use Rattle.crack_plain.specs.Past.{IsBase, no_base, Past, no_past, with_entry, state_after, accepted_in, inserted_in, deleted_in, base_after, checkpointed_past, IsLegal}
use Rattle.crack_plain.specs.Totals.{is_placed, is_gone, inserted, deleted}
use Rattle.crack_plain.proofs.Laws.{replay_from-push, AreReplies-push, BringWithin-push, IsNumbered-no_rows, IsNumbered-replay_from, next-replay_from, length_rows-replay_from}
use Rattle.crack_plain.proofs.TotalLaws.{inserted-cons, deleted-cons, inserted-le-accepted}

pub IsBase-no_base : IsBase no_base
IsBase-no_base = record { numbered = IsNumbered-no_rows; serial = refl; held = refl; few = omega arith }

-- nothing was answered
pub IsLegal-no_past : (keys : Range) (limits : Limits) → IsLegal keys limits no_past
IsLegal-no_past keys limits = record { base = IsBase-no_base; stand = All-nil _; replies = tt; within = All-nil _; limited = omega arith; lived = omega arith }

-- one more entry
pub state_after-push : (past : Past) (e : Entry) → state_after (with_entry past e) ≡ after (state_after past) e.command
state_after-push past e = replay_from-push past.base.state past.tail e

pub accepted_in-push : (past : Past) (e : Entry) → accepted_in (with_entry past e) ≡ accepted_in past + 1
accepted_in-push past e = omega (arith, length-append past.tail (e ∷ []))

pub IsLegal-push : (keys : Range) (limits : Limits) (past : Past) (e : Entry) → IsLegal keys limits past → length past.tail < limits.history → accepted_in past < limits.life → IsWithin keys e.command → e.reply ≡ reply_to (state_after past) e.command → IsLegal keys limits (with_entry past e)
IsLegal-push keys limits past e legal room life within reply = record {
  base = legal.base;
  stand = legal.stand;
  replies = AreReplies-push past.base.state past.tail e legal.replies reply;
  within = BringWithin-push keys past.tail e legal.within within;
  limited = omega (arith, length-append past.tail (e ∷ []));
  lived = omega (arith, accepted_in-push past e);
}

-- the serials of the rows rise, and are below the next serial
pub IsNumbered-after_past : (past : Past) → IsBase past.base → IsNumbered (state_after past)
IsNumbered-after_past past base = IsNumbered-replay_from past.base.state past.tail base.numbered

-- the next serial is the number of rows that were placed
pub next-after_past : (past : Past) → IsBase past.base → AreReplies past.base.state past.tail → (state_after past).next ≡ inserted_in past
next-after_past past base replies = omega (arith, next-replay_from past.base.state past.tail replies, base.serial)

-- the rows are those that were placed, minus those that were removed
pub length_rows-after_past : (past : Past) → IsBase past.base → AreReplies past.base.state past.tail → length (state_after past).rows + deleted_in past ≡ inserted_in past
length_rows-after_past past base replies = omega (arith, length_rows-replay_from past.base.state past.tail base.numbered replies, base.held)

pub held-after_past : (past : Past) → IsBase past.base → AreReplies past.base.state past.tail → pos (length (state_after past).rows) ≡ pos (inserted_in past) -ℤ pos (deleted_in past)
held-after_past past base replies =
    let left : ℕ = length (state_after past).rows in
    let gone : ℕ = deleted_in past in
    sym (ap (λ (n : ℕ). pos n -ℤ pos gone) (sym (length_rows-after_past past base replies)) ∙ +ℤ-neg_ℤ_cancel (pos left) (pos gone))

-- a command doesn't both place a row and remove one
pub changes-le-accepted : (es : List Entry) → inserted es + deleted es ≤ length es
changes-le-accepted [] = omega arith
changes-le-accepted (e ∷ es) = by_reply e.reply (inserted-cons e es) (deleted-cons e es) (changes-le-accepted es)
  where
    by_reply : (reply : Reply) → inserted (e ∷ es) ≡ (if is_placed reply then 1 else 0) + inserted es → deleted (e ∷ es) ≡ (if is_gone reply then 1 else 0) + deleted es → inserted es + deleted es ≤ length es → inserted (e ∷ es) + deleted (e ∷ es) ≤ length (e ∷ es)
    by_reply (Placed serial) placed gone later = omega (arith, placed, gone, later)
    by_reply (Gone row) placed gone later = omega (arith, placed, gone, later)
    by_reply Changed placed gone later = omega (arith, placed, gone, later)
    by_reply NoRow placed gone later = omega (arith, placed, gone, later)
    by_reply (Counted count) placed gone later = omega (arith, placed, gone, later)
    by_reply (Summed sum) placed gone later = omega (arith, placed, gone, later)
    by_reply (Rows rows) placed gone later = omega (arith, placed, gone, later)

-- the plain rows and totals of a past are a base, and the past with this base and an empty history is legal
pub IsBase-after : (past : Past) → IsBase past.base → AreReplies past.base.state past.tail → IsBase (base_after past)
IsBase-after past base replies = record {
  numbered = IsNumbered-after_past past base;
  serial = next-after_past past base replies;
  held = length_rows-after_past past base replies;
  few = omega (arith, base.few, changes-le-accepted past.tail);
}

pub IsLegal-checkpointed : (keys : Range) (limits : Limits) (past : Past) → IsLegal keys limits past → StandWithin keys (state_after past).rows → IsLegal keys limits (checkpointed_past past)
IsLegal-checkpointed keys limits past legal stand = record {
  base = IsBase-after past legal.base legal.replies;
  stand = stand;
  replies = tt;
  within = All-nil _;
  limited = omega arith;
  lived = omega (arith, legal.lived);
}

-- no more rows were placed than commands were accepted
pub inserted_in-le-accepted : (past : Past) → IsBase past.base → inserted_in past ≤ accepted_in past
inserted_in-le-accepted past base = omega (arith, base.few, inserted-le-accepted past.tail)

-- there are no more rows than commands were accepted
pub length_rows-le-accepted : (past : Past) → IsBase past.base → AreReplies past.base.state past.tail → length (state_after past).rows ≤ accepted_in past
length_rows-le-accepted past base replies = omega (arith, length_rows-after_past past base replies, inserted_in-le-accepted past base)

-- the next serial is at most the number of commands that were accepted
pub next-le-accepted : (past : Past) → IsBase past.base → AreReplies past.base.state past.tail → (state_after past).next ≤ accepted_in past
next-le-accepted past base replies = omega (arith, next-after_past past base replies, inserted_in-le-accepted past base)
