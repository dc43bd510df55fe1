-- A partition's invariant, with that of its known sums.
use Rattle.std.specs.Prelude.{◌≡◌, ℕ, ◌+◌, ◌<◌, ◌≤◌, length, List, [], Result, Ok, Err, OnOk, OnErr, false, if◌then◌else◌}
use Rattle.std.proofs.Common.{subst, sym}
use Rattle.crack_row.specs.declared.Row.{Row}
use Rattle.crack_row.specs.declared.command.Command.{Command}
use Rattle.crack_row.specs.declared.command.Policy.TheVariants.{Complete}
use Rattle.crack_row.specs.declared.refusal.Refusal.{Refusal}
use Rattle.crack_plain.specs.Plain.{PlainState, by_serial, after}
use Rattle.crack_plain.proofs.Laws.{IsNumbered-after}
use Rattle.crack_state.specs.State.{State, IsIntact, live_rows}
use Rattle.crack_state.proofs.PointLaws.{Spends}
use Rattle.crack_part.specs.Parts.{Part, IsSound, IsFaithful, state_of, table_of, CracksAndMerges, StopsAt}
use Rattle.crack_part.specs.KnownSums.{Known, KnowsSums, KnowsPart}
use Rattle.crack_part.specs.Upkeep.{is_due, is_full}
use Rattle.crack_part.proofs.ClearLaws.{IsSound-cleared}
use Rattle.crack_part.proofs.KeepLemmas.{Keeps, Keeps-merged, Keeps-stopped}
use Rattle.crack_part.proofs.OrderLemmas.{state-faithful}
use Rattle.crack_part.proofs.SoundLemmas.{SpendsNone, IsSound-kept, IsSound-served, some-history}
use Rattle.crack_part.proofs.UpkeepLaws.{counts-one, since-le-history}

-- the known sums are still those of the live rows, if these are as they were
Knows-kept : (known : Known) (p : Part) (t : State) → Keeps p.store t → KnowsSums known (state_of p) → KnowsSums known (state_of (record p { store = t }))
Knows-kept known p t keeps knows = subst (λ (rows : List Row). KnowsSums known (record { rows = by_serial rows; next = p.next })) (sym keeps.live) knows

pub KnowsPart-kept : (known : Known) (p : Part) (t : State) → IsSound p → Keeps p.store t → IsIntact t [] → KnowsSums known (state_of p) → KnowsPart known (record p { store = t })
KnowsPart-kept known p t sound keeps intact knows = record { sound = IsSound-kept p t sound keeps intact; knows = Knows-kept known p t keeps knows }

pub KnowsPart-cleared : (known : Known) (p : Part) (t : State) (r : Result (Unit {0}) Refusal) → IsSound p → OnOk r (CracksAndMerges Complete p.store t p.keys) → OnErr r (StopsAt Complete p.store t p.keys) → KnowsSums known (state_of p) → KnowsPart known (record p { store = t })
KnowsPart-cleared known p t (Ok x) sound done stopped knows =
    record { sound = IsSound-cleared p t (Ok x) sound done tt; knows = Knows-kept known p t (Keeps-merged Complete p.store t p.keys done) knows }
KnowsPart-cleared known p t (Err e) sound done stopped knows =
    record { sound = IsSound-cleared p t (Err e) sound tt stopped; knows = Knows-kept known p t (Keeps-stopped Complete p.store t p.keys stopped) knows }

-- after one more command the plain rows are those that it leaves
pub state-served : (p : Part) (command : Command) (next : ℕ) (t : State) → IsSound p → IsFaithful t next (after (state_of p) command) → ◌≡◌ {A = PlainState} (record { rows = by_serial (live_rows t); next = next }) (after (state_of p) command)
state-served p command next t sound faithful = state-faithful t next (after (state_of p) command) faithful (IsNumbered-after (state_of p) command sound.numbered)

pub KnowsPart-served : (known : Known) (p : Part) (command : Command) (next checkpointed since : ℕ) (t : State) → IsSound p → checkpointed ≡ (if is_due p.limits p.since then p.checkpointed + p.since else p.checkpointed) → since ≡ (if is_due p.limits p.since then 0 else p.since) + 1 → is_full p.limits p.since ≡ false → p.checkpointed + p.since < p.limits.life → length t.cells ≤ p.limits.cells → IsIntact t [] → IsFaithful t next (after (state_of p) command) → Spends 1 1 p.store t × SpendsNone p.store t → KnowsSums known (after (state_of p) command) → KnowsPart known (record p { next = next; checkpointed = checkpointed; since = since; store = t })
KnowsPart-served known p command next checkpointed since t sound counted more unshut life fits intact faithful spends knows = record {
  sound = IsSound-served p command next checkpointed since t sound (counts-one p.limits (table_of p) checkpointed since counted more) (since-le-history p.limits p.since since (some-history p.limits sound.limited) unshut more) life fits intact faithful spends;
  knows = subst (KnowsSums known) (sym (state-served p command next t sound faithful)) knows;
}
