-- Witnessed partitions that are the table's.
use Rattle.std.proofs.Common.{Bool, is_some, ◌≡◌, ◌<◌, ◌≤◌, ◌+◌, ◌⊎◌, ℕ, List, [], ◌∷◌, length, get_or, Some, refl, ◌∙◌, arith, ⊎_elim}
use Rattle.std.specs.Prelude.{All}
use Rattle.std.specs.List.{slice_get}
use Rattle.std.proofs.lemmas.List.{length-map, get_or-map, get_or_default}
use Rattle.std.proofs.lemmas.List.Elements.{All-map}
use Rattle.std.proofs.lemmas.Option.{slice_get_read, slice_get_within}
use Rattle.crack_row.specs.declared.Bound.{Bound}
use Rattle.crack_row.specs.declared.limit.Limits.{Limits}
use Rattle.crack_part.specs.Parts.{Part, IsSound}
use Rattle.crack_core.specs.Opening.{AreParts}
use Rattle.crack_witness.specs.Witnesses.{WitnessedState}
use Rattle.crack_table.specs.Gather.{held_by, IsTables, IsTablesAt, IsFirstStrange}
use Rattle.crack_table.specs.Keeps.{AreNumbered}

-- what holds of each partition that is held
pub held_sound : (ws : List WitnessedState) → All (λ (w : WitnessedState). IsSound w.held) ws → All IsSound (held_by ws)
held_sound ws all = All-map IsSound (λ (w : WitnessedState). w.held) ws all

below_or : (q p : ℕ) → q < p + 1 → (q < p) ⊎ (q ≡ p)
below_or q p below = grind arith

-- the first so many partitions are the table's
abbrev pub AreUpTo : List Bound → Limits → ℕ → Bool → List WitnessedState → ℕ → Type 0
AreUpTo splits limits workers audited parts place = (q : ℕ) (w : WitnessedState) → q < place → slice_get parts q ≡ Some w → IsTablesAt splits limits workers audited q w

pub one_more : (splits : List Bound) (limits : Limits) (workers : ℕ) (audited : Bool) (parts : List WitnessedState) (place : ℕ) (w : WitnessedState) → place < length parts → w ≡ get_or parts place w → IsTablesAt splits limits workers audited place w → AreUpTo splits limits workers audited parts place → AreUpTo splits limits workers audited parts (place + 1)
one_more splits limits workers audited parts place w lt read tables before q other below is =
    let here : slice_get parts place ≡ Some w = slice_get_read parts (length parts) place w refl lt read in
    ⊎_elim
    (λ (less : q < place). before q other less is)
    (λ (same : q ≡ place).
    let one : other ≡ w = (let e : slice_get parts place ≡ Some other = rw same at is in cc) in
    rw (same, one) tables)
    (below_or q place below)

at : (splits : List Bound) (limits : Limits) (workers : ℕ) (audited : Bool) (parts : List WitnessedState) (n : ℕ) → length parts ≤ n → AreUpTo splits limits workers audited parts n → (k : ℕ) (w : WitnessedState) → k < length parts → IsTablesAt splits limits workers audited k (get_or parts k w)
at splits limits workers audited parts n long all k w lt =
    let read = get_or_default parts k w (get_or parts k w) lt in
    all k (get_or parts k w) (omega (arith, lt, long)) (slice_get_read parts (length parts) k (get_or parts k w) refl lt read)

first_of : (parts : List WitnessedState) (k : ℕ) → k < length parts → WitnessedState
first_of [] k lt = absurd (omega (arith, lt))
first_of (w ∷ ws) k lt = w

held_tables : (splits : List Bound) (limits : Limits) (workers : ℕ) (audited : Bool) (parts : List WitnessedState) (n : ℕ) → length parts ≤ n → AreUpTo splits limits workers audited parts n → (k : ℕ) (d : Part) → k < length (held_by parts) → IsTables splits limits k (get_or (held_by parts) k d)
held_tables splits limits workers audited parts n long all k d lt =
    let less : k < length parts = omega (arith, lt, length-map parts (λ (w : WitnessedState). w.held)) in
    let w = first_of parts k less in
    rw (get_or-map (λ (v : WitnessedState). v.held) parts k w d less) (at splits limits workers audited parts n long all k w less).tables

-- witnessed partitions that all are the table's
pub are_parts : (splits : List Bound) (limits : Limits) (workers : ℕ) (audited : Bool) (parts : List WitnessedState) (n : ℕ) → length parts ≡ length splits + 1 → All (λ (w : WitnessedState). IsSound w.held) parts → length parts ≤ n → AreUpTo splits limits workers audited parts n → AreParts splits limits (held_by parts)
are_parts splits limits workers audited parts n count sound long all = record {
  count = length-map parts (λ (w : WitnessedState). w.held) ∙ count;
  keys = λ k d lt. (held_tables splits limits workers audited parts n long all k d lt).0;
  alike = λ k d lt. (held_tables splits limits workers audited parts n long all k d lt).1;
  sound = held_sound parts sound;
}

pub are_numbered : (splits : List Bound) (limits : Limits) (workers : ℕ) (audited : Bool) (parts : List WitnessedState) (n : ℕ) → length parts ≤ n → AreUpTo splits limits workers audited parts n → AreNumbered workers parts
are_numbered splits limits workers audited parts n long all k w is = let there = all k w (omega (arith, long, slice_get_within parts k w is)) is in (there.number, there.counts)

pub first_strange : (splits : List Bound) (limits : Limits) (workers : ℕ) (audited : Bool) (parts : List WitnessedState) (place : ℕ) (w : WitnessedState) → place < length parts → w ≡ get_or parts place w → ¬ IsTablesAt splits limits workers audited place w → AreUpTo splits limits workers audited parts place → IsFirstStrange splits limits workers audited parts place
first_strange splits limits workers audited parts place w lt read other before = (w, slice_get_read parts (length parts) place w refl lt read, other, before)

pub are_listed : (splits : List Bound) (limits : Limits) (workers : ℕ) (audited : Bool) (parts : List WitnessedState) (n : ℕ) → length parts ≤ n → AreUpTo splits limits workers audited parts n → All (λ (w : WitnessedState). is_some w.entries ≡ audited) parts
are_listed splits limits workers audited parts n long all k d lt = (at splits limits workers audited parts n long all k d lt).listed
