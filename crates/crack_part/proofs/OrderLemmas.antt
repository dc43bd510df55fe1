-- The plain rows of a partition: its live rows, by rising serial.
use Rattle.std.proofs.Common.{◌≡◌, ℕ, ◌<◌, ◌≤◌, ◌+◌, List, [], ◌∷◌, length, refl, arith, ap, ◌∙◌, suc}
use Rattle.std.specs.Prelude.{Result, Ok, Err, IfOk}
use Rattle.std.specs.List.{All}
use Rattle.std.specs.List.Sorted.{IsPermutation, IsNonDecreasingBy}
use Rattle.std.proofs.lemmas.List.Sorted.{IsPermutation-sym, IsPermutation-trans}
use Rattle.crack_row.specs.declared.Row.{Row}
use Rattle.crack_plain.specs.Plain.{PlainState, IsNumbered, by_serial}
use Rattle.crack_plain.proofs.OrderLaws.{IsPermutation-by_serial, AreSorted-by_serial}
use Rattle.crack_state.specs.State.{State, live_rows}
use Rattle.crack_state.specs.Stretch.{serial_of}
use Rattle.crack_state.proofs.StretchLaws.{AreRising, sorted_is}
use Rattle.crack_part.specs.Parts.{Part, IsFaithful, IsSound, state_of, table_of}

-- the list of the same rows whose serials rise
pub by_serial-is : (live rows : List Row) → IsPermutation live rows → AreRising rows → by_serial live ≡ rows
by_serial-is live rows same rising =
    sorted_is (by_serial live) rows (AreSorted-by_serial live) rising (IsPermutation-trans rows live (by_serial live) (IsPermutation-sym live rows same) (IsPermutation-by_serial live))

-- a partition's live rows are its plain rows, in some order
pub IsFaithful-own : (p : Part) → IsFaithful p.store p.next (state_of p)
IsFaithful-own p = record { rows = IsPermutation-by_serial (live_rows p.store); serial = refl }

-- numbered rows that are those of a store are its plain rows
same_state : (rows left : List Row) (next after : ℕ) → rows ≡ left → next ≡ after → ◌≡◌ {A = PlainState} (record { rows = rows; next = next }) (record { rows = left; next = after })
same_state rows left next after a b = rw (a, b) refl

pub state-faithful : (s : State) (next : ℕ) (plain : PlainState) → IsFaithful s next plain → IsNumbered plain → ◌≡◌ {A = PlainState} (record { rows = by_serial (live_rows s); next = next }) plain
state-faithful s next plain faithful numbered =
    same_state (by_serial (live_rows s)) plain.rows next plain.next (by_serial-is (live_rows s) plain.rows faithful.rows numbered.rising) faithful.serial

-- the same of a list of them in order
pub rows-in_order : (p : Part) (rows : List Row) → IsSound p → IsPermutation (live_rows p.store) rows → IsNonDecreasingBy serial_of rows → rows ≡ (state_of p).rows
rows-in_order p rows sound same rising =
    let plain = (state_of p).rows in
    let live = live_rows p.store in
    sorted_is rows plain rising sound.numbered.rising (IsPermutation-trans plain live rows (IsPermutation-sym live plain (IsPermutation-by_serial live)) same)

pub rows-listed : {T E : Type 0} (p : Part) (r : Result T E) (rows : T → List Row) → IsSound p → IfOk r (λ x. IsPermutation (live_rows p.store) (rows x)) → IfOk r (λ x. IsNonDecreasingBy serial_of (rows x)) → IfOk r (λ x. rows x ≡ (state_of p).rows)
rows-listed p (Ok x) rows sound same rising = rows-in_order p (rows x) sound same rising
rows-listed p (Err e) rows sound same rising = tt

-- the plain table stays the same if the live rows do
pub table_of-kept : (p q : Part) → q ≡ record p { store = q.store } → live_rows q.store ≡ live_rows p.store → table_of q ≡ table_of p
table_of-kept p q same live =
    ap table_of same ∙ ap (λ (rows : List Row). record { state = record { rows = by_serial rows; next = p.next }; checkpointed = p.checkpointed; since = p.since }) live

-- as many rows as serials below the next have room for
below-rising : (rows : List Row) (least next : ℕ) → AreRising rows → All (λ (r : Row). least ≤ r.serial.0) rows → All (λ (r : Row). r.serial.0 < next) rows → least ≤ next → length rows + least ≤ next
below-rising [] least next rising above below order = omega (arith, order)
below-rising (r ∷ rows) least next rising above below order =
    let first = below 0 r (omega arith) in
    let last = above 0 r (omega arith) in
    let later : All (λ (x : Row). r.serial.0 + 1 ≤ x.serial.0) rows = λ k d within. let next = rising 0 (suc k) d (omega arith) (omega (arith, within)) in omega (arith, next) in
    let rest = below-rising rows (r.serial.0 + 1) next (λ i j d less within. rising (suc i) (suc j) d (omega (arith, less)) (omega (arith, within))) later (λ k d within. below (suc k) d (omega (arith, within))) (omega (arith, first)) in
    omega (arith, rest, last)

pub rows-le-next : (p : Part) → IsSound p → length (state_of p).rows ≤ p.next
rows-le-next p sound =
    let rest = below-rising (state_of p).rows 0 p.next sound.numbered.rising (λ k d within. omega arith) sound.numbered.below (omega arith) in
    omega (arith, rest)
