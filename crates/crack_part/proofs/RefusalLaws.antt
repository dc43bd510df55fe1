-- What follows if a partition refuses no command, or one for a cause.
use Rattle.std.specs.Prelude.{◌≡◌, ℕ, ◌+◌, ◌<◌, Bool, true, false, Option, None, Some, IfSome, ◌&&◌, not, nat_le, nat_lt, if◌then◌else◌}
use Rattle.std.specs.Option.{option_or}
use Rattle.std.proofs.Common.{refl, ap, ◌∙◌}
use Rattle.std.proofs.lemmas.Bool.{and_parts, leb-true, leb-false, ltb-true}
use Rattle.crack_row.specs.Commands.{change_of, key_of}
use Rattle.crack_row.specs.Ranges.{Range, IsIn}
use Rattle.crack_row.specs.declared.TheConstants.{NO_LIMIT}
use Rattle.crack_row.specs.declared.Key.{Key}
use Rattle.crack_row.specs.declared.command.Command.{Command}
use Rattle.crack_row.specs.declared.refusal.Refusal.{Refusal}
use Rattle.crack_row.specs.declared.refusal.Refusal.TheVariants.{KeyOutside, HistoryFull, NoCell, LifeOver}
use Rattle.crack_plain.proofs.Words.{IsWithin}
use Rattle.crack_part.specs.Parts.{Part, IsSound, table_of}
use Rattle.crack_part.specs.Refusals.{is_key_in, stopped_by, refusal_of}
use Rattle.crack_part.specs.Inside.{early_refusal_of}
use Rattle.crack_part.specs.Cells.{lacks_cell, may_clear, is_without_cell}
use Rattle.crack_part.specs.Upkeep.{is_automatic, is_full, is_due}
use Rattle.crack_part.proofs.SoundLemmas.{never-reached}

-- whether a command has a key of others, by the test
pub within-true : (keys : Range) (key : Option Key) → is_key_in keys key ≡ true → IfSome key (λ (k : Key). IsIn keys k.0)
within-true keys None is = tt
within-true keys (Some key) is =
    let parts = and_parts (nat_le keys.low key.0) (nat_lt key.0 keys.high) is in
    (leb-true keys.low key.0 parts.0, ltb-true key.0 keys.high parts.1)

-- what holds if a partition refuses a command for no cause
pub record MayKeep (p : Part) (command : Command) : Type 0 where
  pub within : IsWithin p.keys command
  pub goes_on : is_full p.limits p.since ≡ false
  pub lives : p.checkpointed + p.since < p.limits.life

pub may-keep : (p : Part) (command : Command) → early_refusal_of p command ≡ None → MayKeep p command
may-keep p command none =
    let own = is_key_in p.keys (key_of command) in
    let full = is_full p.limits p.since in
    let over = nat_le p.limits.life (p.checkpointed + p.since) in
    let tests = passed own full over none in
    record {
      within = within-true p.keys (key_of command) tests.0;
      goes_on = tests.1;
      lives = leb-false p.limits.life (p.checkpointed + p.since) tests.2;
    }
  where
    passed : (own full over : Bool) → ◌≡◌ {A = Option Refusal} (if own then option_or (if full then Some (HistoryFull p.limits.history) else (if over then Some LifeOver else None)) None else Some KeyOutside) None → (own ≡ true) × (full ≡ false) × (over ≡ false)
    passed true false false is = (refl, refl, refl)
    passed true false true is = cc is
    passed true true over is = cc is
    passed false full over is = cc is

-- the first cause, by whether the key is the partition's, what stops it, and whether a cell is missing
abbrev cause : Bool → Option Refusal → Bool → Option Refusal
cause own stop lacks = if own then option_or stop (if lacks then Some NoCell else None) else Some KeyOutside

-- a cause that refuses a command whatever cells there are refuses it
cause-early : (own : Bool) (stop : Option Refusal) (lacks : Bool) (e : Refusal) → cause own stop false ≡ Some e → cause own stop lacks ≡ Some e
cause-early true (Some x) lacks e is = is
cause-early true None lacks e is = cc is
cause-early false stop lacks e is = is

pub refused-early : (p : Part) (command : Command) (e : Refusal) → early_refusal_of p command ≡ Some e → refusal_of p command ≡ Some e
refused-early p command e is = cause-early (is_key_in p.keys (key_of command)) (stopped_by p.limits (table_of p)) (is_without_cell p.limits p.store (change_of command)) e is

-- if nothing else refuses it, it is refused exactly if it lacks a cell
cause-late : (own : Bool) (stop : Option Refusal) (lacks : Bool) → cause own stop false ≡ None → cause own stop lacks ≡ (if lacks then Some NoCell else None)
cause-late true (Some x) lacks none = cc none
cause-late true None lacks none = refl
cause-late false stop lacks none = cc none

pub refused-late-none : (p : Part) (command : Command) → early_refusal_of p command ≡ None → is_without_cell p.limits p.store (change_of command) ≡ false → refusal_of p command ≡ None
refused-late-none p command none has = cause-late (is_key_in p.keys (key_of command)) (stopped_by p.limits (table_of p)) (is_without_cell p.limits p.store (change_of command)) none ∙ ap (λ (b : Bool). if b then Some NoCell else None) has

pub refused-late-cell : (p : Part) (command : Command) → early_refusal_of p command ≡ None → is_without_cell p.limits p.store (change_of command) ≡ true → refusal_of p command ≡ Some NoCell
refused-late-cell p command none lacks = cause-late (is_key_in p.keys (key_of command)) (stopped_by p.limits (table_of p)) (is_without_cell p.limits p.store (change_of command)) none ∙ ap (λ (b : Bool). if b then Some NoCell else None) lacks

-- if no cell is missing, no other cause is tested
pub refused-with_cell : (p : Part) (command : Command) → lacks_cell p.limits.cells p.store (change_of command) ≡ false → refusal_of p command ≡ early_refusal_of p command
refused-with_cell p command has = ap (λ (b : Bool). cause (is_key_in p.keys (key_of command)) (stopped_by p.limits (table_of p)) (b && not (may_clear p.limits p.store))) has

-- what follows from a refusal, if there is one
pub if_refused : (o : Option Refusal) (P Q : Refusal → Type 0) → ((e : Refusal) → P e → Q e) → IfSome o P → IfSome o Q
if_refused None P Q f is = tt
if_refused (Some e) P Q f is = f e is

-- a partition whose history isn't full, whatever its limits, refuses no command as full
not-by-full : (own full over lacks : Bool) (limit length : ℕ) → full ≡ false → cause own (if full then Some (HistoryFull limit) else (if over then Some LifeOver else None)) lacks ≡ Some (HistoryFull length) → ⊥
not-by-full true true over lacks limit length unshut is = cc unshut
not-by-full true false true lacks limit length unshut is = cc is
not-by-full true false false true limit length unshut is = cc is
not-by-full true false false false limit length unshut is = cc is
not-by-full false full over lacks limit length unshut is = cc is

-- if the history has no limit, no command is refused because it is full
pub never-full : (p : Part) (command : Command) (length : ℕ) → IsSound p → p.limits.history ≡ NO_LIMIT → refusal_of p command ≡ Some (HistoryFull length) → ⊥
never-full p command length sound none =
    let unshut : is_full p.limits p.since ≡ false = ap (λ (b : Bool). b && not (is_automatic p.limits.upkeep)) (never-reached p sound none) in
    not-by-full (is_key_in p.keys (key_of command)) (is_full p.limits p.since) (nat_le p.limits.life (p.checkpointed + p.since)) (is_without_cell p.limits p.store (change_of command)) p.limits.history length unshut

-- if the history has no limit, no checkpoint is due
pub never-due : (p : Part) → IsSound p → p.limits.history ≡ NO_LIMIT → is_due p.limits p.since ≡ false
never-due p sound none = ap (λ (b : Bool). b && is_automatic p.limits.upkeep) (never-reached p sound none)
