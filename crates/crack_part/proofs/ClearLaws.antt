-- What follows if doomed rows are taken out for their cells.
use Rattle.std.specs.Prelude.{◌≡◌, ℕ, ◌<◌, ◌≤◌, ◌+◌, Bool, true, false, ◌&&◌, ◌==◌, not, All, List, [], ◌∷◌, length, nat_le, Option, Result, Ok, Err, OnOk, OnErr}
use Rattle.std.proofs.Common.{zero, suc, arith, ap, refl, sym, inl, inr}
use Rattle.std.proofs.lemmas.Bool.{true≢false, and_parts, and_from, ne_eqb, leb-true, eqb-true}
use Rattle.std.proofs.lemmas.List.Sorted.{length_permutation}
use Rattle.std.proofs.lemmas.Result.{on_ok_weaker, on_err_weaker}
use Rattle.crack_row.specs.Commands.{change_of, range_of}
use Rattle.crack_row.specs.declared.command.Change.{Change}
use Rattle.crack_row.specs.declared.command.Command.{Command}
use Rattle.crack_row.specs.declared.command.Policy.{Policy}
use Rattle.crack_row.specs.declared.command.Policy.TheVariants.{Complete}
use Rattle.crack_row.specs.declared.limit.Limits.{Limits}
use Rattle.crack_plain.proofs.OrderLaws.{IsPermutation-by_serial}
use Rattle.crack_arena.specs.Arena.{Handle}
use Rattle.crack_state.specs.State.{State, Reads, IsIntact, live_rows}
use Rattle.crack_state.proofs.Words.{HaveKeysIn}
use Rattle.crack_state.specs.Merge.{ReadsOutside}
use Rattle.crack_state.proofs.CrackLaws.{key_within}
use Rattle.crack_state.proofs.LayoutLaws.{cells-intact, rows-intact}
use Rattle.crack_part.specs.Cells.{takes_cell, lacks_cell, may_clear, is_without_cell, is_cleared_first}
use Rattle.crack_row.specs.declared.refusal.Refusal.{Refusal}
use Rattle.crack_part.specs.Parts.{Part, IsSound, state_of, StopsAt, CracksAndMerges, ServesCleared, Serves, SparesCleared, Spares}
use Rattle.crack_part.specs.Upkeep.{is_automatic}
use Rattle.crack_part.specs.Inside.{early_refusal_of, Readies}
use Rattle.crack_part.proofs.KeepLemmas.{Keeps-merged, Keeps-stopped, IsIntact-stopped, Spares-same}
use Rattle.crack_part.proofs.SoundLemmas.{IsSound-kept}

-- no row is outside of the keys
none-outside : (s : State) (hs : List Handle) → All (Reads s.cells) hs → HaveKeysIn s.keys s.cells → All (ReadsOutside s.cells s.keys) hs → hs ≡ []
none-outside s [] reads within outside = refl
none-outside s (h ∷ hs) reads within outside = absurd (nowhere (outside 0 h (omega arith)))
  where
    nowhere : ReadsOutside s.cells s.keys h → ⊥
    nowhere (inl below) = let inside = key_within s.keys s.cells h within (reads 0 h (omega arith)) in omega (arith, below, inside.0)
    nowhere (inr above) = let inside = key_within s.keys s.cells h within (reads 0 h (omega arith)) in omega (arith, above, inside.1)

-- a merge of all keys leaves none doomed, and each one's cell free
none-doomed : (s t : State) → CracksAndMerges Complete s t s.keys → t.pending_out ≡ []
none-doomed s t done =
    let keys = (Keeps-merged Complete s t s.keys done).ends in
    let intact = done.does.0.intact in
    none-outside t t.pending_out intact.owned.doomed_reads intact.within (rw keys done.does.0.settled.doomed)

frees : (s t : State) → IsIntact s [] → CracksAndMerges Complete s t s.keys → length t.free ≡ length s.free + length s.pending_out
frees s t intact done =
    let keeps = Keeps-merged Complete s t s.keys done in
    let after = done.does.0.intact in
    let none : length t.pending_out ≡ 0 = ap length (none-doomed s t done) in
    omega (arith, ap length keeps.live, keeps.cells, none, cells-intact s [] intact, rows-intact s [] intact, cells-intact t [] after, rows-intact t [] after)

pub has-free : (s t : State) → IsIntact s [] → 0 < length s.pending_out → CracksAndMerges Complete s t s.keys → 0 < length t.free
has-free s t intact waits done = omega (arith, waits, frees s t intact done)

-- so no cell is missing
none-lacks : (full free takes : Bool) → free ≡ false → (full && (free && takes)) ≡ false
none-lacks true free takes some = rw some refl
none-lacks false free takes some = refl

pub has-cell : (most : ℕ) (t : State) (change : Option Change) → 0 < length t.free → lacks_cell most t change ≡ false
has-cell most t change some = none-lacks (nat_le most (length t.cells)) (length t.free == 0) (takes_cell t change) (ne_eqb (length t.free) 0 (λ none. omega (arith, none, some)))

-- rows wait where upkeep may free their cells
some-waits : (n : ℕ) → not (n == 0) ≡ true → 0 < n
some-waits zero is = absurd (true≢false (sym is))
some-waits (suc n) is = omega arith

pub waits : (limits : Limits) (s : State) → may_clear limits s ≡ true → 0 < length s.pending_out
waits limits s may = some-waits (length s.pending_out) (and_parts (is_automatic limits.upkeep) (not (length s.pending_out == 0)) may).1

-- if a cell is missing, one is freed first if that is possible, and otherwise the change lacks one
freed-else : (a b : Bool) → b ≡ true → (a && not b) ≡ false
freed-else true b is = rw is refl
freed-else false b is = refl

without-else : (a b : Bool) → a ≡ true → b ≡ false → (a && not b) ≡ true
without-else a b lacks none = rw (lacks, none) refl

pub cleared-first : (limits : Limits) (s : State) (change : Option Change) → lacks_cell limits.cells s change ≡ true → may_clear limits s ≡ true → is_cleared_first limits s change ≡ true
cleared-first limits s change lacks may = and_from (lacks_cell limits.cells s change) (may_clear limits s) lacks may

pub not-without : (limits : Limits) (s : State) (change : Option Change) → may_clear limits s ≡ true → is_without_cell limits s change ≡ false
not-without limits s change may = freed-else (lacks_cell limits.cells s change) (may_clear limits s) may

pub is-without : (limits : Limits) (s : State) (change : Option Change) → lacks_cell limits.cells s change ≡ true → may_clear limits s ≡ false → is_without_cell limits s change ≡ true
is-without limits s change lacks none = without-else (lacks_cell limits.cells s change) (may_clear limits s) lacks none

-- if no cell is missing, none is freed first
pub uncleared : (limits : Limits) (s : State) (change : Option Change) → lacks_cell limits.cells s change ≡ false → is_cleared_first limits s change ≡ false
uncleared limits s change has = ap (λ (b : Bool). b && may_clear limits s) has

pub Serves-uncleared : (policy : Policy) (p : Part) (command : Command) (t : State) → lacks_cell p.limits.cells p.store (change_of command) ≡ false → ServesCleared policy p.keys p.next command p.store t → Serves policy p command t
Serves-uncleared policy p command t has served = record { ready = p.store; readies = inl (uncleared p.limits p.store (change_of command) has, refl); does = served }

pub Spares-uncleared : (policy : Policy) (p : Part) (command : Command) (t : State) → lacks_cell p.limits.cells p.store (change_of command) ≡ false → SparesCleared policy p.keys (range_of command) p.store t → Spares policy p command t
Spares-uncleared policy p command t has spared = inr (record { ready = p.store; readies = inl (uncleared p.limits p.store (change_of command) has, refl); does = spared })

with-cell : (a b : Bool) → a ≡ false → (a && not b) ≡ false
with-cell a b has = rw has refl

pub not-without-cell : (limits : Limits) (s : State) (change : Option Change) → lacks_cell limits.cells s change ≡ false → is_without_cell limits s change ≡ false
not-without-cell limits s change has = with-cell (lacks_cell limits.cells s change) (may_clear limits s) has

-- the same of a partition whose store alone was cleared
pub served-upkept : {T E : Type 0} (p q : Part) (policy : Policy) (command : Command) (t : State) (r : Result T E) → q ≡ record p { store = q.store } → Readies (is_cleared_first p.limits p.store (change_of command)) p.store q.store → OnOk r (ServesCleared policy q.keys q.next command q.store t) → OnOk r (Serves policy p command t)
served-upkept p q policy command t r same readies done =
    let keys : p.keys ≡ q.keys = sym (ap (λ (x : Part). x.keys) same) in
    let next : p.next ≡ q.next = sym (ap (λ (x : Part). x.next) same) in
    on_ok_weaker r (λ served. record { ready = q.store; readies = readies; does = rw (keys, next) served }) done

pub spared-upkept : {T E : Type 0} (p q : Part) (policy : Policy) (command : Command) (t : State) (r : Result T E) → q ≡ record p { store = q.store } → Readies (is_cleared_first p.limits p.store (change_of command)) p.store q.store → OnErr r (SparesCleared policy q.keys (range_of command) q.store t) → OnErr r (Spares policy p command t)
spared-upkept p q policy command t r same readies done =
    let keys : p.keys ≡ q.keys = sym (ap (λ (x : Part). x.keys) same) in
    on_err_weaker r (λ spared. inr (record { ready = q.store; readies = readies; does = rw keys spared })) done

-- keys, limits and counts alone determine what refuses a command apart from the lack of a cell
pub refused-upkept : (p q : Part) (command : Command) → q ≡ record p { store = q.store } → early_refusal_of q command ≡ early_refusal_of p command
refused-upkept p q command same = ap (λ (x : Part). early_refusal_of x command) same

-- a store that is as it was
pub Spares-unchanged : (policy : Policy) (p : Part) (command : Command) → Spares policy p command p.store
Spares-unchanged policy p command = by_test (is_cleared_first p.limits p.store (change_of command)) refl
  where
    by_test : (b : Bool) → is_cleared_first p.limits p.store (change_of command) ≡ b → Spares policy p command p.store
    by_test true due = inl (due, inl (record { same = refl }))
    by_test false undue = inr (record { ready = p.store; readies = inl (undue, refl); does = Spares-same policy p.keys (range_of command) p.store })

-- a row that waits is between the keys' ends
filled-by : (s : State) (hs : List Handle) → All (Reads s.cells) hs → HaveKeysIn s.keys s.cells → 0 < length hs → s.keys.low < s.keys.high
filled-by s [] reads within some = absurd (omega (arith, some))
filled-by s (h ∷ hs) reads within some = let inside = key_within s.keys s.cells h within (reads 0 h (omega arith)) in omega (arith, inside.0, inside.1)

pub filled : (s : State) → IsIntact s [] → 0 < length s.pending_out → s.keys.low < s.keys.high
filled s intact some = filled-by s s.pending_out intact.owned.doomed_reads intact.within some

-- a partition all of whose pending rows were merged, or of which some were
pub IsSound-cleared : (p : Part) (t : State) (r : Result (Unit {0}) Refusal) → IsSound p → OnOk r (CracksAndMerges Complete p.store t p.keys) → OnErr r (StopsAt Complete p.store t p.keys) → IsSound (record p { store = t })
IsSound-cleared p t (Ok x) sound done stopped = IsSound-kept p t sound (Keeps-merged Complete p.store t p.keys done) done.does.0.intact
IsSound-cleared p t (Err e) sound done stopped = IsSound-kept p t sound (Keeps-stopped Complete p.store t p.keys stopped) (IsIntact-stopped Complete p.store t p.keys stopped sound.intact)

-- if upkeep is automatic, a partition that is without a cell is full of the rows that there are
none-waits : (automatic none : Bool) → automatic ≡ true → not (automatic && not none) ≡ true → none ≡ true
none-waits true true is not = refl
none-waits true false is not = not
none-waits false none is not = absurd (true≢false (sym is))

pub full-of-rows : (p : Part) (change : Option Change) → IsSound p → is_automatic p.limits.upkeep ≡ true → is_without_cell p.limits p.store change ≡ true → p.limits.cells ≤ length (state_of p).rows
full-of-rows p change sound automatic without =
    let s = p.store in
    let takes = takes_cell s change in
    let both = and_parts (lacks_cell p.limits.cells s change) (not (may_clear p.limits s)) without in
    let many = and_parts (nat_le p.limits.cells (length s.cells)) ((length s.free == 0) && takes) both.0 in
    let none = and_parts (length s.free == 0) takes many.1 in
    let free : length s.free ≡ 0 = eqb-true (length s.free) 0 none.0 in
    let waits : length s.pending_out ≡ 0 = eqb-true (length s.pending_out) 0 (none-waits (is_automatic p.limits.upkeep) (length s.pending_out == 0) automatic both.1) in
    let rows : length (live_rows s) ≡ length (state_of p).rows = sym (length_permutation (live_rows s) (state_of p).rows (IsPermutation-by_serial (live_rows s))) in
    omega (arith, leb-true p.limits.cells (length s.cells) many.0, free, waits, rows, cells-intact s [] sound.intact, rows-intact s [] sound.intact)
