-- A partition's invariant, and what follows from it.
use Rattle.std.proofs.Common.{◌≡◌, ℕ, ◌+◌, ◌^◌, ◌<◌, ◌≤◌, nat_le, List, [], ◌∷◌, ◌++◌, length, Bool, true, false, Option, Some, None, IfSome, option_and_then, arith, inl, inr, refl, sym, ap, subst, ◌∙◌}
use Rattle.std.specs.List.{All}
use Rattle.std.specs.List.Sorted.{IsPermutation}
use Rattle.std.proofs.lemmas.Bool.{cases_eq, lt-leb}
use Rattle.std.proofs.lemmas.List.Sorted.{IsPermutation-sym, IsPermutation-trans, IsPermutation-cons, IsPermutation-to_front, All-permutation}
use Rattle.crack_row.specs.Commands.{change_of, range_of, brought_key}
use Rattle.crack_row.specs.Ranges.{Range, IsIn}
use Rattle.crack_row.specs.Limits.{IsLimit, AreLimits, of_history}
use Rattle.crack_row.specs.Rows.{row_with}
use Rattle.crack_row.specs.declared.TheConstants.{GREATEST_LIFE, NO_LIMIT}
use Rattle.crack_row.specs.declared.Key.{Key}
use Rattle.crack_row.specs.declared.limit.Limits.{Limits}
use Rattle.crack_row.specs.declared.Payload.{Payload}
use Rattle.crack_row.specs.declared.Row.{Row}
use Rattle.crack_row.specs.declared.command.Change.{Change}
use Rattle.crack_row.specs.declared.command.Change.TheVariants.{Place, Remove, Rewrite}
use Rattle.crack_row.specs.declared.command.Command.{Command}
use Rattle.crack_row.specs.declared.command.Policy.{Policy}
use Rattle.crack_plain.specs.Plain.{PlainState, IsNumbered, by_serial, changed, after}
use Rattle.crack_plain.proofs.Words.{IsWithin}
use Rattle.crack_plain.proofs.Laws.{IsNumbered-no_rows, IsNumbered-after, next-changed-le}
use Rattle.crack_plain.proofs.OrderLaws.{IsPermutation-by_serial}
use Rattle.crack_arena.specs.declared.TheConstants.{MOST_CELLS}
use Rattle.crack_state.specs.State.{State, live_rows, freed_of, IsIntact}
use Rattle.crack_state.specs.Steps.{IsInsertable, SameButRoom, row_inserted}
use Rattle.crack_state.specs.Points.{pending_by, handle_by, MayFree, IsRenewable, IsRewritable, Removes, Rewrites}
use Rattle.crack_state.proofs.KeyedLaws.{handle_of-fresh}
use Rattle.crack_state.proofs.InsertLaws.{live_rows-row_inserted, freed-row_inserted, cells-row_inserted}
use Rattle.crack_state.proofs.PointLaws.{Spends, Spends-cancels, Spends-dooms, Spends-rewrites, found_by, stands1}
use Rattle.crack_store.specs.Inside.{no_cells}
use Rattle.crack_part.specs.Parts.{Part, IsSound, checkpointed_part, IsFaithful, ServesCleared, Prepares, Performs, state_of}
use Rattle.crack_part.specs.Inside.{inserted_row, MayPerform}
use Rattle.crack_part.proofs.CellLemmas.{rows-le-cells}
use Rattle.crack_part.proofs.KeepLemmas.{Keeps, Keeps-room, Keeps-prepared, IsIntact-prepared}
use Rattle.crack_part.proofs.OrderLemmas.{state-faithful}

-- a history that has a limit may have an entry; one that has none may, too
pub some-history : (limits : Limits) → AreLimits limits → 1 ≤ limits.history
some-history limits limited = elim limited.history [
  | inl given ↦ given.0
  | inr none ↦ omega (arith, none)
]

-- it has accepted no more commands than a life may have
pub accepted-le-life : (p : Part) → IsSound p → p.checkpointed + p.since ≤ GREATEST_LIFE
accepted-le-life p sound = omega (arith, sound.lived, sound.limited.life.1)

-- the next serial stays far below the greatest number
pub next-le-life : (p : Part) → IsSound p → p.next ≤ GREATEST_LIFE
next-le-life p sound = omega (arith, sound.few_placed, accepted-le-life p sound)

-- there are far fewer rows than a reply may report
pub few_rows : (p : Part) → IsSound p → length (state_of p).rows < 2 ^ 32
few_rows p sound = omega (arith, rows-le-cells p.store (state_of p).rows (IsPermutation-by_serial (live_rows p.store)), sound.cells, sound.limited.cells.1)

-- the next serial is above those of all live rows
pub next-above : (p : Part) → IsSound p → All (λ (r : Row). r.serial.0 < p.next) (live_rows p.store)
next-above p sound =
    let live = live_rows p.store in
    All-permutation (λ (r : Row). r.serial.0 < p.next) (state_of p).rows live (IsPermutation-sym live (state_of p).rows (IsPermutation-by_serial live)) sound.numbered.below

-- there are fewer cells than there may be
few_cells : (p : Part) → IsSound p → length p.store.cells < MOST_CELLS + length p.store.free
few_cells p sound = omega (arith, sound.cells, sound.limited.cells.1)

-- before a command of its life, one more may be freed
few_freed : (p : Part) → IsSound p → p.checkpointed + p.since < p.limits.life → MayFree p.store
few_freed p sound lives = omega (arith, sound.few_freed, sound.limited.life.1, lives)

-- a row that is placed may be inserted
pub IsInsertable-placed : (p : Part) (key : Key) (payload : Payload) → IsSound p → IsIn p.keys key.0 → IsInsertable (inserted_row p.next key payload) p.store
IsInsertable-placed p key payload sound within = record {
  fresh = handle_of-fresh p.store [] p.next sound.intact (next-above p sound);
  within = rw sound.ends within;
  cell = few_cells p sound;
}

-- the key that a change has, if any, is one of these
abbrev BringsWithin : Range → Option Change → Type 0
BringsWithin keys change = IfSome (option_and_then brought_key change) (λ (key : Key). IsIn keys key.0)

-- a change whose key is the partition's may be made
MayPerform-within : (p : Part) (change : Option Change) → IsSound p → p.checkpointed + p.since < p.limits.life → BringsWithin p.keys change → MayPerform p.next change p.store
MayPerform-within p None sound lives within = tt
MayPerform-within p (Some (Place key payload)) sound lives within = IsInsertable-placed p key payload sound within
MayPerform-within p (Some (Remove serial)) sound lives within = few_freed p sound lives
MayPerform-within p (Some (Rewrite serial key payload)) sound lives within = (rw sound.ends within, record { cell = few_cells p sound; few = few_freed p sound lives })

-- the live rows, and the numbers that the count of commands bounds, are as they were
pub IsSound-kept : (p : Part) (t : State) → IsSound p → Keeps p.store t → IsIntact t [] → IsSound (record p { store = t })
IsSound-kept p t sound keeps intact = record {
  limited = sound.limited;
  numbered = subst (λ (rows : List Row). IsNumbered (record { rows = by_serial rows; next = p.next })) (sym keeps.live) sound.numbered;
  ends = keeps.ends ∙ sound.ends;
  intact = intact;
  cells = omega (arith, keeps.cells, sound.cells);
  few_cells = omega (arith, keeps.cells, sound.few_cells);
  few_freed = omega (arith, keeps.freed, sound.few_freed);
  few_placed = sound.few_placed;
  few_since = sound.few_since;
  lived = sound.lived;
}

-- a partition whose store is prepared
IsSound-prepared : (policy : Policy) (p : Part) (range : Option Range) (u : State) → IsSound p → Prepares policy p.keys range p.store u → IsSound (record p { store = u })
IsSound-prepared policy p range u sound prepared =
    IsSound-kept p u sound (Keeps-prepared policy p.keys range p.store u prepared) (IsIntact-prepared policy p.keys range p.store u prepared sound.intact)

-- one more row among the live rows is one more among the plain rows
IsPermutation-placed : (live now plain : List Row) (row : Row) → IsPermutation live plain → IsPermutation (row ∷ live) now → IsPermutation now (plain ++ row ∷ [])
IsPermutation-placed live now plain row faithful one =
    let front = IsPermutation-cons row live plain faithful in
    let back = IsPermutation-sym (plain ++ row ∷ []) (row ∷ plain) (IsPermutation-to_front plain row) in
    IsPermutation-trans now (row ∷ live) (plain ++ row ∷ []) (IsPermutation-sym (row ∷ live) now one) (IsPermutation-trans (row ∷ live) (row ∷ plain) (plain ++ row ∷ []) front back)

-- a command whose key is the partition's may be performed, however its store was prepared
pub MayPerform-prepared : (policy : Policy) (p : Part) (command : Command) (u : State) → IsSound p → p.checkpointed + p.since < p.limits.life → IsWithin p.keys command → Prepares policy p.keys (range_of command) p.store u → MayPerform p.next (change_of command) u
MayPerform-prepared policy p command u sound lives within prepared =
    MayPerform-within (record p { store = u }) (change_of command) (IsSound-prepared policy p (range_of command) u sound prepared) lives within

-- the live rows are as they were
pub IsFaithful-kept : (s t : State) (next : ℕ) (plain : PlainState) → Keeps s t → IsFaithful s next plain → IsFaithful t next plain
IsFaithful-kept s t next plain keeps faithful = record { rows = rw keeps.live faithful.rows; serial = faithful.serial }

-- a row that is placed is one more of the plain rows
pub IsFaithful-placed : (s t : State) (next : ℕ) (key : Key) (payload : Payload) (plain : PlainState) → IsIntact s [] → SameButRoom (row_inserted (inserted_row next key payload) s) t → IsFaithful s next plain → IsFaithful t (next + 1) (changed plain (Some (Place key payload)))
IsFaithful-placed s t next key payload plain intact inserts faithful =
    let row = inserted_row next key payload in
    let keeps = Keeps-room (row_inserted row s) t inserts in
    let renamed = ap (λ (n : ℕ). inserted_row n key payload) faithful.serial in
    let rows = IsPermutation-placed (live_rows s) (live_rows (row_inserted row s)) plain.rows row faithful.rows (live_rows-row_inserted row s intact) in
    record { rows = rw (keeps.live, ← renamed) rows; serial = omega (arith, faithful.serial) }

Spends-same : (s t : State) → t ≡ s → Spends 1 1 s t
Spends-same s t same = rw same (record { keys = refl; cells = omega arith; freed = omega arith })

Spends-removed : (s t : State) (serial : ℕ) (o : Option Bool) → pending_by s serial ≡ o → IsIntact s [] → Removes o serial s t → Spends 1 1 s t
Spends-removed s t serial None is intact same = Spends-same s t same
Spends-removed s t serial (Some true) is intact cancels =
    let spends = Spends-cancels serial s t is intact cancels in
    record { keys = spends.keys; cells = omega (arith, spends.cells); freed = spends.freed }
Spends-removed s t serial (Some false) is intact dooms =
    let spends = Spends-dooms serial s t dooms in
    record { keys = spends.keys; cells = omega (arith, spends.cells); freed = spends.freed }

-- a row that the store finds may be rewritten
pub IsRewritable-found : (s : State) (row : Row) (pending : Bool) → pending_by s row.serial.0 ≡ Some pending → IsIn s.keys row.key.0 → IsRenewable s → IsRewritable row s
IsRewritable-found s row pending is within renewable = record { there = rw (found_by s row.serial.0 pending is).leads refl; within = within; anew = λ stands. renewable }

Spends-replaced : (s t : State) (row : Row) (o : Option Bool) → pending_by s row.serial.0 ≡ o → IsIntact s [] → IsIn s.keys row.key.0 → IsRenewable s → Rewrites o row s t → Spends 1 1 s t
Spends-replaced s t row None is intact within renewable same = Spends-same s t same
Spends-replaced s t row (Some pending) is intact within renewable rewrites =
    Spends-rewrites (Some pending) row s t is (IsRewritable-found s row pending is within renewable) intact rewrites

-- a command uses at most one cell, and frees at most one, now or later
Spends-performed : (next : ℕ) (change : Option Change) (s t : State) → IsIntact s [] → MayPerform next change s → Performs next change s t → Spends 1 1 s t
Spends-performed next None s t intact may same = Spends-same s t same
Spends-performed next (Some (Place key payload)) s t intact may inserts =
    let row = inserted_row next key payload in
    let keeps = Keeps-room (row_inserted row s) t inserts in
    record { keys = keeps.ends; cells = omega (arith, keeps.cells, cells-row_inserted row s); freed = omega (arith, keeps.freed, freed-row_inserted row s intact) }
Spends-performed next (Some (Remove serial)) s t intact may removes = Spends-removed s t serial.0 (pending_by s serial.0) refl intact removes
Spends-performed next (Some (Rewrite serial key payload)) s t intact may replaces =
    Spends-replaced s t (row_with serial key payload) (pending_by s serial.0) refl intact may.0 may.1 replaces

-- what has no cell has none to free, now or later
abbrev pub SpendsNone : State → State → Type 0
SpendsNone s t = length s.cells ≡ 0 → freed_of t.cells + length t.pending_out ≤ freed_of s.cells + length s.pending_out

-- a row that a serial leads to has a cell
has-cell : (s : State) (serial : ℕ) (pending : Bool) → pending_by s serial ≡ Some pending → IsIntact s [] → length s.cells ≡ 0 → ⊥
has-cell s serial pending is intact empty =
    let known = stands1 s serial (handle_by s serial) (found_by s serial pending is).leads intact in
    omega (arith, known.within, empty)

SpendsNone-same : (s t : State) → t ≡ s → SpendsNone s t
SpendsNone-same s t same empty = rw same (omega arith)

SpendsNone-removed : (s t : State) (serial : ℕ) (o : Option Bool) → pending_by s serial ≡ o → IsIntact s [] → Removes o serial s t → SpendsNone s t
SpendsNone-removed s t serial None is intact same empty = SpendsNone-same s t same empty
SpendsNone-removed s t serial (Some pending) is intact removes empty = absurd (has-cell s serial pending is intact empty)

SpendsNone-replaced : (s t : State) (row : Row) (o : Option Bool) → pending_by s row.serial.0 ≡ o → IsIntact s [] → Rewrites o row s t → SpendsNone s t
SpendsNone-replaced s t row None is intact same empty = SpendsNone-same s t same empty
SpendsNone-replaced s t row (Some pending) is intact rewrites empty = absurd (has-cell s row.serial.0 pending is intact empty)

SpendsNone-performed : (next : ℕ) (change : Option Change) (s t : State) → IsIntact s [] → Performs next change s t → SpendsNone s t
SpendsNone-performed next None s t intact same empty = SpendsNone-same s t same empty
SpendsNone-performed next (Some (Place key payload)) s t intact inserts empty =
    let row = inserted_row next key payload in
    let keeps = Keeps-room (row_inserted row s) t inserts in
    omega (arith, keeps.freed, freed-row_inserted row s intact)
SpendsNone-performed next (Some (Remove serial)) s t intact removes empty = SpendsNone-removed s t serial.0 (pending_by s serial.0) refl intact removes empty
SpendsNone-performed next (Some (Rewrite serial key payload)) s t intact replaces empty =
    SpendsNone-replaced s t (row_with serial key payload) (pending_by s serial.0) refl intact replaces empty

pub Spends-served : (policy : Policy) (p : Part) (command : Command) (t : State) → IsSound p → p.checkpointed + p.since < p.limits.life → IsWithin p.keys command → ServesCleared policy p.keys p.next command p.store t → Spends 1 1 p.store t × SpendsNone p.store t
Spends-served policy p command t sound lives within served =
    let before = IsSound-prepared policy p (range_of command) served.ready sound served.prepared in
    let keeps = Keeps-prepared policy p.keys (range_of command) p.store served.ready served.prepared in
    let may = MayPerform-prepared policy p command served.ready sound lives within served.prepared in
    let spends = Spends-performed p.next (change_of command) served.ready t before.intact may served.performed in (
      record { keys = spends.keys ∙ keeps.ends; cells = omega (arith, spends.cells, keeps.cells); freed = omega (arith, spends.freed, keeps.freed) },
      λ empty. let none = SpendsNone-performed p.next (change_of command) served.ready t before.intact served.performed (omega (arith, empty, keeps.cells)) in omega (arith, none, keeps.freed),
    )

-- a limit of a history, and the greatest of the others
pub AreLimits-of_history : (limit : ℕ) → IsLimit limit → AreLimits (of_history limit)
AreLimits-of_history limit limited = record { history = inl limited; cells = (omega arith, omega arith); life = (omega arith, omega arith) }

-- the start
pub IsSound-opened : (keys : Range) (limits : Limits) (store : State) → store ≡ no_cells keys store.column_room store.in_room → AreLimits limits → IsIntact store [] → IsSound (record { keys = keys; limits = limits; next = 0; checkpointed = 0; since = 0; store = store })
IsSound-opened keys limits store is limited intact = record {
  limited = limited;
  numbered = subst (λ (rows : List Row). IsNumbered (record { rows = by_serial rows; next = 0 })) (sym (ap live_rows is)) IsNumbered-no_rows;
  ends = ap (λ (s : State). s.keys) is;
  intact = intact;
  cells = omega (arith, ap (λ (s : State). length s.cells) is);
  few_cells = omega (arith, ap (λ (s : State). length s.cells) is);
  few_freed = omega (arith, ap (λ (s : State). freed_of s.cells + length s.pending_out) is);
  few_placed = omega arith;
  few_since = omega arith;
  lived = omega arith;
}

-- a history without a limit is never as long as that
pub never-reached : (p : Part) → IsSound p → p.limits.history ≡ NO_LIMIT → nat_le p.limits.history p.since ≡ false
never-reached p sound none = lt-leb p.limits.history p.since (omega (arith, none, accepted-le-life p sound))

-- one more command
pub IsSound-served : (p : Part) (command : Command) (next checkpointed since : ℕ) (t : State) → IsSound p → checkpointed + since ≡ p.checkpointed + p.since + 1 → since ≤ p.limits.history → p.checkpointed + p.since < p.limits.life → length t.cells ≤ p.limits.cells → IsIntact t [] → IsFaithful t next (after (state_of p) command) → Spends 1 1 p.store t × SpendsNone p.store t → IsSound (record p { next = next; checkpointed = checkpointed; since = since; store = t })
IsSound-served p command next checkpointed since t sound one few life fits intact faithful spent =
    let plain = after (state_of p) command in
    let numbered = IsNumbered-after (state_of p) command sound.numbered in
    record {
      limited = sound.limited;
      numbered = subst IsNumbered (sym (state-faithful t next plain faithful numbered)) numbered;
      ends = spent.0.keys ∙ sound.ends;
      intact = intact;
      cells = fits;
      few_cells = omega (arith, one, spent.0.cells, sound.few_cells);
      few_freed = elim (cases_eq (length p.store.cells) 0) [
        | inl empty ↦ omega (arith, one, spent.1 empty, sound.few_freed)
        | inr some ↦ omega (arith, one, some, spent.0.freed, sound.few_freed, sound.few_cells)
      ];
      few_placed = omega (arith, one, faithful.serial, next-changed-le (state_of p) (change_of command), sound.few_placed);
      few_since = few;
      lived = omega (arith, one, life);
    }

-- a partition after a checkpoint
pub IsSound-checkpointed : (p : Part) → IsSound p → IsSound (checkpointed_part p)
IsSound-checkpointed p sound = record {
  limited = sound.limited;
  numbered = sound.numbered;
  ends = sound.ends;
  intact = sound.intact;
  cells = sound.cells;
  few_cells = omega (arith, sound.few_cells);
  few_freed = omega (arith, sound.few_freed);
  few_placed = omega (arith, sound.few_placed);
  few_since = omega arith;
  lived = omega (arith, sound.lived);
}

-- the counts that it had before a command that left its cells as they were
pub IsSound-recounted : (p q : Part) → IsSound p → IsSound q → q.keys ≡ p.keys → q.limits ≡ p.limits → Keeps p.store q.store → q.next ≡ p.next → IsSound (record q { checkpointed = p.checkpointed; since = p.since })
IsSound-recounted p q before sound keys limits keeps next = record {
  limited = sound.limited;
  numbered = sound.numbered;
  ends = sound.ends;
  intact = sound.intact;
  cells = sound.cells;
  few_cells = omega (arith, keeps.cells, before.few_cells);
  few_freed = omega (arith, keeps.freed, before.few_freed);
  few_placed = omega (arith, next, before.few_placed);
  few_since = rw limits before.few_since;
  lived = rw limits before.lived;
}
