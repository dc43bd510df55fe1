-- A run of rows: each is inserted as a command of its own would insert it.
use Rattle.std.proofs.Common.{◌≡◌, ℕ, zero, suc, ◌+◌, ◌-◌, ◌<◌, ◌≤◌, ◌^◌, ◌&&◌, ◌==◌, Bool, true, false, List, [], ◌∷◌, ◌++◌, length, take, drop, Option, Some, None, Ok, Err, arith, refl, sym, ap, subst, ◌∙◌, length-set, nat_le}
use Rattle.std.specs.Prelude.{ℤ, pos, All, slice_index_or, if◌then◌else◌}
use Rattle.std.specs.Option.{option_or}
use Rattle.std.proofs.lemmas.Bool.{lt-leb, le-leb, ne_eqb, and_from}
use Rattle.std.proofs.lemmas.List.{length_push}
use Rattle.crack_row.specs.Ranges.{Range, IsIn, is_in}
use Rattle.crack_row.specs.declared.Key.{Key}
use Rattle.crack_row.specs.declared.Payload.{Payload}
use Rattle.crack_row.specs.declared.Row.{Row}
use Rattle.crack_row.specs.declared.command.Change.TheVariants.{Place}
use Rattle.crack_row.specs.declared.command.Command.TheVariants.{Insert}
use Rattle.crack_row.specs.declared.command.Policy.TheVariants.{Gradual}
use Rattle.crack_row.specs.declared.command.Reply.TheVariants.{Placed}
use Rattle.crack_row.specs.declared.limit.Limits.{Limits}
use Rattle.crack_row.specs.declared.refusal.Refusal.{Refusal}
use Rattle.crack_row.specs.declared.refusal.Refusal.TheVariants.{OutOfMemory, KeyOutside, HistoryFull, LifeOver}
use Rattle.crack_arena.specs.Arena.{Cell, cell_at, cells_with}
use Rattle.crack_state.specs.State.{State}
use Rattle.crack_state.specs.Steps.{SameButRoom, row_inserted}
use Rattle.crack_state.proofs.InsertLaws.{IsIntact-row_inserted}
use Rattle.crack_state.proofs.KeyedLaws.{handle_of-fresh}
use Rattle.crack_state.proofs.StepLaws.{IsIntact-room}
use Rattle.crack_store.specs.Runs.{run_rows, rows_inserted, AreInsertable}
use Rattle.crack_part.specs.Parts.{Part, IsSound, Serves, Spares, ServesCleared, state_of, table_of}
use Rattle.crack_part.specs.Cells.{lacks_cell}
use Rattle.crack_part.specs.Inside.{inserted_row, early_refusal_of}
use Rattle.crack_part.specs.KnownSums.{Known, KnowsPart}
use Rattle.crack_part.specs.Refusals.{refusal_of}
use Rattle.crack_part.specs.Runs.{InsertsInto, InsertsRun, no_row, next_row}
use Rattle.crack_part.specs.Upkeep.{is_automatic, is_due, is_full}
use Rattle.crack_part.proofs.ApplyLaws.{applies-short}
use Rattle.crack_part.proofs.CellLemmas.{fits-served}
use Rattle.crack_part.proofs.ClearLaws.{Serves-uncleared, Spares-uncleared}
use Rattle.crack_part.proofs.KeepLemmas.{Keeps-room}
use Rattle.crack_part.proofs.KnownLemmas.{Knows-placed}
use Rattle.crack_part.proofs.OrderLemmas.{IsFaithful-own, table_of-kept}
use Rattle.crack_part.proofs.PartLaws.{KnowsPart-served, KnowsPart-kept, state-served}
use Rattle.crack_part.proofs.RefusalLaws.{refused-with_cell}
use Rattle.crack_part.proofs.SoundLemmas.{IsInsertable-placed, IsFaithful-placed, Spends-served, next-above}
use Rattle.crack_part.proofs.UpkeepLaws.{table-answered}

-- a partition may take so many more rows without upkeep, as far as its limits go
pub record MayTake (p : Part) (count : ℕ) : Type 0 where
  pub history : p.since + count ≤ p.limits.history
  pub life : p.checkpointed + p.since + count ≤ p.limits.life
  pub cells : length p.store.cells + count ≤ p.limits.cells + length p.store.free

-- a free cell is taken, or one more is made
has-cell : (most : ℕ) (s : State) (key : Key) (payload : Payload) → length s.cells < most + length s.free → lacks_cell most s (Some (Place key payload)) ≡ false
has-cell most s key payload room = by_free (length s.free) refl
  where
    none-full : (full free : Bool) → full ≡ false → (full && (free && true)) ≡ false
    none-full full free is = rw is refl

    some-free : (full free : Bool) → free ≡ false → (full && (free && true)) ≡ false
    some-free true free is = rw is refl
    some-free false free is = refl

    by_free : (n : ℕ) → length s.free ≡ n → (nat_le most (length s.cells) && ((n == 0) && true)) ≡ false
    by_free zero is = none-full (nat_le most (length s.cells)) (0 == 0) (lt-leb most (length s.cells) (omega (arith, room, is)))
    by_free (suc n) is = some-free (nat_le most (length s.cells)) (suc n == 0) (ne_eqb (suc n) 0 (λ e. omega (arith, e)))

cells-left : (row : Row) (cells : List (Cell Row)) (free : List ℕ) (most count : ℕ) → length cells + suc count ≤ most + length free → length (cells_with row cells free) + count ≤ most + length (drop 1 free)
cells-left row cells [] most count room = omega (arith, room, length_push cells (record { generation = 0; value = Some row }))
cells-left row cells (n ∷ ns) most count room = omega (arith, room, length-set cells n (record { generation = (cell_at cells n).generation; value = Some row }))

-- no cause refuses a row whose key is the partition's
early-none : (limits : Limits) (own full over : Bool) → own ≡ true → full ≡ false → over ≡ false → ◌≡◌ {A = Option Refusal} (if own then option_or (if full then Some (HistoryFull limits.history) else (if over then Some LifeOver else None)) None else Some KeyOutside) None
early-none limits own full over a b c = rw (a, b, c) refl

own-key : (keys : Range) (key : ℕ) → IsIn keys key → is_in keys key ≡ true
own-key keys key within = and_from _ _ (le-leb keys.low key within.0) (le-leb (suc key) keys.high (omega (arith, within.1)))

not-at : (limits : Limits) (since : ℕ) → since < limits.history → is_due limits since ≡ false
not-at limits since below = ap (λ (b : Bool). b && is_automatic limits.upkeep) (lt-leb limits.history since below)

not-full : (limits : Limits) (since : ℕ) → since < limits.history → is_full limits since ≡ false
not-full limits since below = rw (lt-leb limits.history since below) refl

pub none-refuses : (p : Part) (key : Key) (payload : Payload) → MayTake p 1 → IsIn p.keys key.0 → early_refusal_of p (Insert key payload) ≡ None
none-refuses p key payload may within =
    early-none p.limits (is_in p.keys key.0) (is_full p.limits p.since) (nat_le p.limits.life (p.checkpointed + p.since)) (own-key p.keys key.0 within) (not-full p.limits p.since (omega (arith, may.history))) (lt-leb p.limits.life (p.checkpointed + p.since) (omega (arith, may.life)))

-- a partition that takes one more row
pub record Takes (known : Known) (keys : List ℕ) (payloads : List ℤ) (k : ℕ) (p q : Part) : Type 0 where
  pub inserts : InsertsInto keys payloads k (Ok (Placed (record { 0 = p.next }))) p q
  pub knows : KnowsPart known q

pub takes : (known : Known) (keys : List ℕ) (payloads : List ℤ) (k : ℕ) (p : Part) (t : State) → KnowsPart known p → MayTake p 1 → IsIn p.keys (slice_index_or keys k 0) → SameButRoom (row_inserted (inserted_row p.next (record { 0 = slice_index_or keys k 0 }) (record { 0 = slice_index_or payloads k (pos 0) })) p.store) t → Takes known keys payloads k p (record p { next = p.next + 1; since = p.since + 1; store = t })
takes known keys payloads k p t is may within same =
    let key : Key = record { 0 = slice_index_or keys k 0 } in
    let payload : Payload = record { 0 = slice_index_or payloads k (pos 0) } in
    let row = inserted_row p.next key payload in
    let command = Insert key payload in
    let sound = is.sound in
    let lacks = has-cell p.limits.cells p.store key payload (omega (arith, may.cells)) in
    let served : ServesCleared Gradual p.keys p.next command p.store t = record { ready = p.store; prepared = refl; performed = same } in
    let lives : p.checkpointed + p.since < p.limits.life = omega (arith, may.life) in
    let below : p.since < p.limits.history = omega (arith, may.history) in
    let undue = not-at p.limits p.since below in
    let counted : p.checkpointed ≡ (if is_due p.limits p.since then p.checkpointed + p.since else p.checkpointed) = rw undue refl in
    let more : p.since + 1 ≡ (if is_due p.limits p.since then 0 else p.since) + 1 = rw undue refl in
    let faithful = IsFaithful-placed p.store t p.next key payload (state_of p) sound.intact same (IsFaithful-own p) in
    let intact = IsIntact-room (row_inserted row p.store) t [] same (IsIntact-row_inserted row p.store (IsInsertable-placed p key payload sound within) sound.intact) in
    let spends = Spends-served Gradual p command t sound lives within served in
    let fits = fits-served Gradual p.keys p.limits.cells p.next command p.store t sound.cells lacks served in
    let knows = Knows-placed known (state_of p) key payload is.knows in
    let now = KnowsPart-served known p command (p.next + 1) p.checkpointed (p.since + 1) t sound counted more (not-full p.limits p.since below) lives fits intact faithful spends knows in
    let state = state-served p command (p.next + 1) t sound faithful in
    let none' = refused-with_cell p command lacks ∙ none-refuses p key payload may within in
    record {
      inserts = record {
        applies = record {
          reply = refl;
          small = tt;
          table = table-answered p.limits (table_of p) command _ _ _ state counted more;
          state = state;
          store = Serves-uncleared Gradual p command t lacks served;
          opened = (refl, refl);
          err = tt;
          spared = tt;
          refused = rw none' tt;
          memory = λ _. tt;
        };
        sound = now.sound;
      };
      knows = now;
    }

-- a partition that finds no memory for the next row
pub takes-none : (known : Known) (keys : List ℕ) (payloads : List ℤ) (k : ℕ) (p : Part) (t : State) → KnowsPart known p → MayTake p 1 → IsIn p.keys (slice_index_or keys k 0) → SameButRoom p.store t → InsertsInto keys payloads k (Err OutOfMemory) p (record p { store = t }) × KnowsPart known (record p { store = t })
takes-none known keys payloads k p t is may within same =
    let key : Key = record { 0 = slice_index_or keys k 0 } in
    let payload : Payload = record { 0 = slice_index_or payloads k (pos 0) } in
    let command = Insert key payload in
    let lacks = has-cell p.limits.cells p.store key payload (omega (arith, may.cells)) in
    let none' = refused-with_cell p command lacks ∙ none-refuses p key payload may within in
    let keeps = Keeps-room p.store t same in
    let now = KnowsPart-kept known p t is.sound keeps (IsIntact-room p.store t [] same is.sound.intact) is.knows in (
      record {
        applies = applies-short (Serves Gradual p command) (Spares Gradual p command) command (refusal_of p command) p (record p { store = t }) (Err OutOfMemory) OutOfMemory refl refl none' refl (table_of-kept p (record p { store = t }) refl keeps.live) (Spares-uncleared Gradual p command t lacks same);
        sound = now.sound;
      },
      now,
    )

-- the rows of a run, up to one
take-rows : (n count first serial : ℕ) (keys : List ℕ) (payloads : List ℤ) → serial ≡ first + n → n < count → n < length keys → n < length payloads → take (suc n) (run_rows first (take count keys) (take count payloads)) ≡ take n (run_rows first (take count keys) (take count payloads)) ++ inserted_row serial (record { 0 = slice_index_or keys n 0 }) (record { 0 = slice_index_or payloads n (pos 0) }) ∷ []
take-rows n count first serial [] payloads is few in_keys in_payloads = absurd (omega (arith, in_keys))
take-rows n count first serial (key ∷ keys) [] is few in_keys in_payloads = absurd (omega (arith, in_payloads))
take-rows n zero first serial (key ∷ keys) (payload ∷ payloads) is few in_keys in_payloads = absurd (omega (arith, few))
take-rows zero (suc count) first serial (key ∷ keys) (payload ∷ payloads) is few in_keys in_payloads =
    let same : first ≡ serial = omega (arith, is) in
    ap (λ (m : ℕ). inserted_row m (record { 0 = key }) (record { 0 = payload }) ∷ []) same
take-rows (suc n) (suc count) first serial (key ∷ keys) (payload ∷ payloads) is few in_keys in_payloads =
    ap (λ (rows : List Row). inserted_row first (record { 0 = key }) (record { 0 = payload }) ∷ rows) (take-rows n count (suc first) serial keys payloads (omega (arith, is)) (omega (arith, few)) (omega (arith, in_keys)) (omega (arith, in_payloads)))

row_inserted-last : (rows : List Row) (row : Row) (s : State) → rows_inserted (rows ++ row ∷ []) s ≡ row_inserted row (rows_inserted rows s)
row_inserted-last [] row s = refl
row_inserted-last (r ∷ rows) row s = row_inserted-last rows row (row_inserted r s)

-- the store after one more row of a run
more-row_inserted : (n count first serial : ℕ) (keys : List ℕ) (payloads : List ℤ) (s : State) → serial ≡ first + n → n < count → n < length keys → n < length payloads → rows_inserted (take (suc n) (run_rows first (take count keys) (take count payloads))) s ≡ row_inserted (inserted_row serial (record { 0 = slice_index_or keys n 0 }) (record { 0 = slice_index_or payloads n (pos 0) })) (rows_inserted (take n (run_rows first (take count keys) (take count payloads))) s)
more-row_inserted n count first serial keys payloads s is few in_keys in_payloads =
    let rows = take n (run_rows first (take count keys) (take count payloads)) in
    let row = inserted_row serial (record { 0 = slice_index_or keys n 0 }) (record { 0 = slice_index_or payloads n (pos 0) }) in
    ap (λ (rs : List Row). rows_inserted rs s) (take-rows n count first serial keys payloads is few in_keys in_payloads) ∙ row_inserted-last rows row s

-- what a run of rows needs: all keys are the partition's, and the limits leave room
pub record MayRun (keys : List ℕ) (payloads : List ℤ) (p : Part) (count : ℕ) : Type 0 where
  pub in_keys : count ≤ length keys
  pub in_payloads : count ≤ length payloads
  pub within : (k : ℕ) → k < count → IsIn p.keys (slice_index_or keys k 0)
  pub may : MayTake p count

-- a partition that took the first rows of a run
record Reaches (known : Known) (keys : List ℕ) (payloads : List ℤ) (p : Part) (count n : ℕ) (q : Part) : Type 0 where
  inserts : InsertsRun keys payloads p n q
  knows : KnowsPart known q
  is : q ≡ record p { next = p.next + n; since = p.since + n; store = q.store }
  store : q.store ≡ rows_inserted (take n (run_rows p.next (take count keys) (take count payloads))) p.store
  cells : length q.store.cells + count ≤ p.limits.cells + length q.store.free + n

part-same : (p : Part) (next since n m : ℕ) (t : State) → next ≡ n → since ≡ m → ◌≡◌ {A = Part} (record p { next = next; since = since; store = t }) (record p { next = n; since = m; store = t })
part-same p next since n m t a b = rw (a, b) refl

-- one row more may be taken
may-more : (known : Known) (keys : List ℕ) (payloads : List ℤ) (p q : Part) (count n : ℕ) → n < count → MayRun keys payloads p count → Reaches known keys payloads p count n q → MayTake q 1
may-more known keys payloads p q count n few run at =
    let since = ap (λ (x : Part). x.since) at.is in
    let checkpointed = ap (λ (x : Part). x.checkpointed) at.is in
    let limits = ap (λ (x : Part). x.limits) at.is in
    record {
      history = rw limits (omega (arith, since, few, run.may.history));
      life = rw limits (omega (arith, since, checkpointed, few, run.may.life));
      cells = rw limits (omega (arith, few, at.cells));
    }

-- and the store after it is that of one more row of the run
takes-more : (known : Known) (keys : List ℕ) (payloads : List ℤ) (p q : Part) (count n : ℕ) (t : State) → n < count → MayRun keys payloads p count → Reaches known keys payloads p count n q → SameButRoom (rows_inserted (take (suc n) (run_rows p.next (take count keys) (take count payloads))) p.store) t → Takes known keys payloads n q (record q { next = q.next + 1; since = q.since + 1; store = t })
takes-more known keys payloads p q count n t few run at same =
    let next = ap (λ (x : Part). x.next) at.is in
    let of_keys = ap (λ (x : Part). x.keys) at.is in
    let more = more-row_inserted n count p.next q.next keys payloads p.store next few (omega (arith, few, run.in_keys)) (omega (arith, few, run.in_payloads)) in
    takes known keys payloads n q t at.knows (may-more known keys payloads p q count n few run at) (rw of_keys (run.within n few)) (rw (at.store, ← more) same)

reaches-none : (known : Known) (keys : List ℕ) (payloads : List ℤ) (p : Part) (count : ℕ) → KnowsPart known p → MayRun keys payloads p count → Reaches known keys payloads p count 0 p
reaches-none known keys payloads p count knows run = record {
  inserts = no_row;
  knows = knows;
  is = part-same p p.next p.since (p.next + 0) (p.since + 0) p.store (omega arith) (omega arith);
  store = refl;
  cells = omega (arith, run.may.cells);
}

reaches-more : (known : Known) (keys : List ℕ) (payloads : List ℤ) (p q : Part) (count n : ℕ) → n < count → MayRun keys payloads p count → Reaches known keys payloads p count n q → (r : Part) × Reaches known keys payloads p count (suc n) r
reaches-more known keys payloads p q count n few run at =
    let t = rows_inserted (take (suc n) (run_rows p.next (take count keys) (take count payloads))) p.store in
    let took = takes-more known keys payloads p q count n t few run at (record { same = refl }) in
    let r : Part = record q { next = q.next + 1; since = q.since + 1; store = t } in
    let next = ap (λ (x : Part). x.next) at.is in
    let row = inserted_row q.next (record { 0 = slice_index_or keys n 0 }) (record { 0 = slice_index_or payloads n (pos 0) }) in
    let more : t ≡ row_inserted row q.store = more-row_inserted n count p.next q.next keys payloads p.store next few (omega (arith, few, run.in_keys)) (omega (arith, few, run.in_payloads)) ∙ ap (row_inserted row) (sym at.store) in
    let left : length (row_inserted row q.store).cells + (count - suc n) ≤ p.limits.cells + length (row_inserted row q.store).free = cells-left row q.store.cells q.store.free p.limits.cells (count - suc n) (omega (arith, few, at.cells)) in (
      r,
      record {
        inserts = subst (λ (i : ℕ). InsertsRun keys payloads p i r) (omega arith) (next_row n q r at.inserts took.inserts);
        knows = took.knows;
        is = part-next p q n t at.is;
        store = refl;
        cells = rw more (omega (arith, few, left));
      },
    )
  where
    part-next : (p q : Part) (n : ℕ) (t : State) → q ≡ record p { next = p.next + n; since = p.since + n; store = q.store } → ◌≡◌ {A = Part} (record q { next = q.next + 1; since = q.since + 1; store = t }) (record p { next = p.next + suc n; since = p.since + suc n; store = t })
    part-next p q n t is = ap (λ (x : Part). record x { next = x.next + 1; since = x.since + 1; store = t }) is ∙ part-same p (p.next + n + 1) (p.since + n + 1) (p.next + suc n) (p.since + suc n) t (omega arith) (omega arith)

reaches : (known : Known) (keys : List ℕ) (payloads : List ℤ) (p : Part) (count n : ℕ) → n ≤ count → KnowsPart known p → MayRun keys payloads p count → (q : Part) × Reaches known keys payloads p count n q
reaches known keys payloads p count zero few knows run = (p, reaches-none known keys payloads p count knows run)
reaches known keys payloads p count (suc n) few knows run =
    let before = reaches known keys payloads p count n (omega (arith, few)) knows run in
    reaches-more known keys payloads p before.0 count n (omega (arith, few)) run before.1

-- a partition whose store has the first rows of a run took them one after the other
pub runs : (known : Known) (keys : List ℕ) (payloads : List ℤ) (p : Part) (count taken : ℕ) (t : State) → 0 < taken → taken ≤ count → KnowsPart known p → MayRun keys payloads p count → SameButRoom (rows_inserted (take taken (run_rows p.next (take count keys) (take count payloads))) p.store) t → InsertsRun keys payloads p taken (record p { next = p.next + taken; since = p.since + taken; store = t }) × KnowsPart known (record p { next = p.next + taken; since = p.since + taken; store = t })
runs known keys payloads p count zero t some few knows run same = absurd (omega (arith, some))
runs known keys payloads p count (suc n) t some few knows run same =
    let before = reaches known keys payloads p count n (omega (arith, few)) knows run in
    let q = before.0 in
    let at = before.1 in
    let took = takes-more known keys payloads p q count n t (omega (arith, few)) run at same in
    let new : Part = record p { next = p.next + suc n; since = p.since + suc n; store = t } in
    let is : record q { next = q.next + 1; since = q.since + 1; store = t } ≡ new = ap (λ (x : Part). record x { next = x.next + 1; since = x.since + 1; store = t }) at.is ∙ part-same p (p.next + n + 1) (p.since + n + 1) (p.next + suc n) (p.since + suc n) t (omega arith) (omega arith) in
    let chain = subst (λ (i : ℕ). InsertsRun keys payloads p i (record q { next = q.next + 1; since = q.since + 1; store = t })) (omega arith) (next_row n q (record q { next = q.next + 1; since = q.since + 1; store = t }) at.inserts took.inserts) in
    (subst (λ (x : Part). InsertsRun keys payloads p (suc n) x) is chain, subst (λ (x : Part). KnowsPart known x) is took.knows)

-- the rows of a run may be inserted to the store
all-taken : (r : Range) (count : ℕ) (keys : List ℕ) → ((k : ℕ) → k < count → IsIn r (slice_index_or keys k 0)) → All (IsIn r) (take count keys)
all-taken r zero keys h k d within = absurd (omega (arith, within))
all-taken r (suc count) [] h k d within = absurd (omega (arith, within))
all-taken r (suc count) (key ∷ keys) h zero d within = h 0 (omega arith)
all-taken r (suc count) (key ∷ keys) h (suc k) d within = all-taken r count keys (λ j below. h (suc j) (omega (arith, below))) k d (omega (arith, within))

pub length-taken : (count : ℕ) (keys : List ℕ) → length (take count keys) ≤ count
length-taken zero keys = omega arith
length-taken (suc count) [] = omega arith
length-taken (suc count) (key ∷ keys) = omega (arith, length-taken count keys)

pub are-insertable : (keys : List ℕ) (payloads : List ℤ) (p : Part) (count : ℕ) → IsSound p → MayRun keys payloads p count → AreInsertable p.next (take count keys) p.store
are-insertable keys payloads p count sound run = record {
  fresh = λ serial from below. handle_of-fresh p.store [] serial sound.intact (λ k d within. let less = next-above p sound k d within in omega (arith, less, from));
  within = rw sound.ends (all-taken p.keys count keys run.within);
  cells = omega (arith, length-taken count keys, run.may.cells, sound.limited.cells.1);
}

-- the last serial of a run is far below the greatest number
pub next-after : (p : Part) (count : ℕ) → IsSound p → p.checkpointed + p.since + count ≤ p.limits.life → p.next + count < 2 ^ 64
next-after p count sound life = omega (arith, sound.few_placed, life, sound.limited.life.1)
