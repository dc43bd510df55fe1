-- What follows from a checkpoint that is made when it is due.
use Rattle.std.specs.Prelude.{◌≡◌, ℕ, ◌+◌, ◌≤◌, Bool, true, false, ◌&&◌, not, nat_le, if◌then◌else◌}
use Rattle.std.proofs.Common.{arith, refl}
use Rattle.std.proofs.lemmas.Bool.{leb-false}
use Rattle.crack_row.specs.declared.command.Command.{Command}
use Rattle.crack_row.specs.declared.limit.Limits.{Limits}
use Rattle.crack_plain.specs.Plain.{PlainState, PlainView, accepted_of, after, checkpointed_table}
use Rattle.crack_part.specs.Upkeep.{is_automatic, is_full, is_due, upkept, answered}

-- the counts of a plain table that answers a command
checkpointed-upkept : (limits : Limits) (table : PlainView) → (upkept limits table).checkpointed ≡ (if is_due limits table.since then table.checkpointed + table.since else table.checkpointed)
checkpointed-upkept limits table = by_test (is_due limits table.since)
  where
    by_test : (b : Bool) → (if b then checkpointed_table table else table).checkpointed ≡ (if b then table.checkpointed + table.since else table.checkpointed)
    by_test true = refl
    by_test false = refl

since-upkept : (limits : Limits) (table : PlainView) → (upkept limits table).since ≡ (if is_due limits table.since then 0 else table.since)
since-upkept limits table = by_test (is_due limits table.since)
  where
    by_test : (b : Bool) → (if b then checkpointed_table table else table).since ≡ (if b then 0 else table.since)
    by_test true = refl
    by_test false = refl

-- upkeep changes neither the plain rows nor the number of commands
pub state-upkept : (limits : Limits) (table : PlainView) → (upkept limits table).state ≡ table.state
state-upkept limits table = by_test (is_due limits table.since)
  where
    by_test : (b : Bool) → (if b then checkpointed_table table else table).state ≡ table.state
    by_test true = refl
    by_test false = refl

pub accepted-upkept : (limits : Limits) (table : PlainView) → accepted_of (upkept limits table) ≡ accepted_of table
accepted-upkept limits table = by_test (is_due limits table.since)
  where
    by_test : (b : Bool) → accepted_of (if b then checkpointed_table table else table) ≡ accepted_of table
    by_test true = omega arith
    by_test false = refl

-- the table after a command, by its fields
same_table : (state after : PlainState) (checkpointed kept since more : ℕ) → state ≡ after → checkpointed ≡ kept → since ≡ more → ◌≡◌ {A = PlainView} (record { state = state; checkpointed = checkpointed; since = since }) (record { state = after; checkpointed = kept; since = more })
same_table state after checkpointed kept since more a b c = rw (a, b, c) refl

pub table-answered : (limits : Limits) (table : PlainView) (command : Command) (state : PlainState) (checkpointed since : ℕ) → state ≡ after table.state command → checkpointed ≡ (if is_due limits table.since then table.checkpointed + table.since else table.checkpointed) → since ≡ (if is_due limits table.since then 0 else table.since) + 1 → record { state = state; checkpointed = checkpointed; since = since } ≡ answered limits table command
table-answered limits table command state checkpointed since said counted more =
    same_table state (after table.state command) checkpointed (upkept limits table).checkpointed since ((upkept limits table).since + 1) said (rw (checkpointed-upkept limits table) counted) (rw (since-upkept limits table) more)

-- the counts after one more command: one more, and no more since the last checkpoint than a history may have
pub counts-one : (limits : Limits) (table : PlainView) (checkpointed since : ℕ) → checkpointed ≡ (if is_due limits table.since then table.checkpointed + table.since else table.checkpointed) → since ≡ (if is_due limits table.since then 0 else table.since) + 1 → checkpointed + since ≡ table.checkpointed + table.since + 1
counts-one limits table checkpointed since counted more = by_test (is_due limits table.since) counted more
  where
    by_test : (b : Bool) → checkpointed ≡ (if b then table.checkpointed + table.since else table.checkpointed) → since ≡ (if b then 0 else table.since) + 1 → checkpointed + since ≡ table.checkpointed + table.since + 1
    by_test true a b = omega (arith, a, b)
    by_test false a b = omega (arith, a, b)

-- if no checkpoint is due, and the next command isn't refused, there is room for it
room-left : (full automatic : Bool) → (full && not automatic) ≡ false → (full && automatic) ≡ false → full ≡ false
room-left true true unshut undue = undue
room-left true false unshut undue = unshut
room-left false automatic unshut undue = refl

pub since-le-history : (limits : Limits) (since more : ℕ) → 1 ≤ limits.history → is_full limits since ≡ false → more ≡ (if is_due limits since then 0 else since) + 1 → more ≤ limits.history
since-le-history limits since more some unshut is = by_test (is_due limits since) refl is
  where
    by_test : (b : Bool) → is_due limits since ≡ b → more ≡ (if b then 0 else since) + 1 → more ≤ limits.history
    by_test true due e = omega (arith, e, some)
    by_test false undue e =
        let room = leb-false limits.history since (room-left (nat_le limits.history since) (is_automatic limits.upkeep) unshut undue) in
        omega (arith, e, room)
