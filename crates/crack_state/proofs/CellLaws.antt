-- What handles read, as a cell or a place changes.
use Rattle.std.proofs.Common.{◌≡◌, ◌≢◌, ℕ, ◌<◌, List, Option, map, length, get_or, set, eqb, Some, None, IsSome, refl, sym, ap, ◌∙◌, inl, inr}
use Rattle.std.specs.List.{All}
use Rattle.std.proofs.lemmas.List.{get_or-set_other, get_or_past}
use Rattle.std.proofs.lemmas.List.Elements.{All-get_or}
use Rattle.std.proofs.lemmas.Bool.{cases_Bool, cases_lt, true≢false, eqb-true, eq-eqb}
use Rattle.crack_row.proofs.Lists.{map_agree}
use Rattle.crack_row.specs.declared.Row.{Row}
use Rattle.crack_arena.specs.Arena.{Cell, Handle, StandsAt, times, read, cell_at, empty_cell, slots, place_in}
use Rattle.crack_arena.specs.Rows.{key_of_row, key_at}
use Rattle.crack_arena.proofs.Places.{place_in-within, place_in-slot}
use Rattle.crack_state.specs.State.{Reads}
use Rattle.crack_state.proofs.OwnedLaws.{apart_from_times}

-- what is read is a row
pub reads_some : (cells : List (Cell Row)) (h : Handle) (r : Row) → read cells h ≡ Some r → Reads cells h
reads_some cells h r is = rw is refl

-- the row that is read
pub row_read : (cells : List (Cell Row)) (h : Handle) → Reads cells h → (r : Row) × (read cells h ≡ Some r)
row_read cells h reads = by_value (read cells h) refl reads
  where
    by_value : (o : Option Row) → read cells h ≡ o → IsSome o → (r : Row) × (read cells h ≡ Some r)
    by_value None is some = absurd (true≢false (sym some))
    by_value (Some r) is some = (r, is)

-- a cell that a handle reads has the handle's generation
pub generation_of_read : (cells : List (Cell Row)) (h : Handle) → Reads cells h → (cell_at cells h.slot).generation ≡ h.generation
generation_of_read cells h reads = elim (cases_Bool (eqb (cell_at cells h.slot).generation h.generation)) [
  | inl same ↦ eqb-true (cell_at cells h.slot).generation h.generation same
  | inr other ↦ absurd (true≢false (sym (rw other at reads)))
]

-- so what a handle reads is its cell's value
pub read_is_value : (cells : List (Cell Row)) (h : Handle) → Reads cells h → read cells h ≡ (cell_at cells h.slot).value
read_is_value cells h reads = rw (eq-eqb (cell_at cells h.slot).generation h.generation (generation_of_read cells h reads)) refl

pub read-value : (cells : List (Cell Row)) (h : Handle) (r : Row) → read cells h ≡ Some r → (cell_at cells h.slot).value ≡ Some r
read-value cells h r reads = sym (read_is_value cells h (reads_some cells h r reads)) ∙ reads

pub handle_same : (g h : Handle) → g.slot ≡ h.slot → g.generation ≡ h.generation → g ≡ h
handle_same g h slots_same generations = λ i. record { slot = slots_same i; generation = generations i }

-- and two handles that read the same cell are equal
pub one_handle : (cells : List (Cell Row)) (g h : Handle) → Reads cells g → Reads cells h → g.slot ≡ h.slot → g ≡ h
one_handle cells g h g_reads h_reads same =
    handle_same g h same (sym (generation_of_read cells g g_reads) ∙ ap (λ (n : ℕ). (cell_at cells n).generation) same ∙ generation_of_read cells h h_reads)

-- a handle is where its cell is first listed
pub stands_there : (cells : List (Cell Row)) (hs : List Handle) (h : Handle) → Reads cells h → All (Reads cells) hs → 0 < times h.slot (slots hs) → StandsAt hs (place_in hs h.slot) h
stands_there cells hs h reads all listed =
    let place = place_in hs h.slot in
    let within = place_in-within hs h.slot listed in
    record { within = within; is = sym (one_handle cells (get_or hs place h) h (All-get_or (Reads cells) hs place h within all) reads (place_in-slot hs h.slot h within)) }

-- a handle that reads names a cell
pub cell_within : (cells : List (Cell Row)) (h : Handle) (r : Row) → read cells h ≡ Some r → h.slot < length cells
cell_within cells h r reads = elim (cases_lt h.slot (length cells)) [
  | inl l ↦ l
  | inr l ↦
      let value = read-value cells h r reads in
      let empty : (cell_at cells h.slot).value ≡ None = ap (λ (c : Cell Row). c.value) (get_or_past cells h.slot empty_cell l) in
      absurd (cc)
]

-- cells that are the same but for one number
abbrev pub AgreeOff : ℕ → List (Cell Row) → List (Cell Row) → Type 0
AgreeOff n cells after = (m : ℕ) → m ≢ n → cell_at after m ≡ cell_at cells m

pub AgreeOff-set : (cells : List (Cell Row)) (n : ℕ) (c : Cell Row) → AgreeOff n cells (set cells n c)
AgreeOff-set cells n c = λ m ne. get_or-set_other cells n m c empty_cell ne

pub read-off : (n : ℕ) (cells after : List (Cell Row)) (h : Handle) → AgreeOff n cells after → h.slot ≢ n → read after h ≡ read cells h
read-off n cells after h agree ne = rw (agree h.slot ne) refl

pub Reads-off : (n : ℕ) (cells after : List (Cell Row)) (hs : List Handle) → AgreeOff n cells after → times n (slots hs) ≡ 0 → All (Reads cells) hs → All (Reads after) hs
Reads-off n cells after hs agree none reads = λ k d j. rw (read-off n cells after (get_or hs k d) agree (apart_from_times hs n none k d j)) (reads k d j)

pub key_at-off : (n : ℕ) (cells after : List (Cell Row)) (h : Handle) → AgreeOff n cells after → h.slot ≢ n → key_at after h ≡ key_at cells h
key_at-off n cells after h agree ne = ap key_of_row (read-off n cells after h agree ne)

pub keys-off : (n : ℕ) (cells after : List (Cell Row)) (hs : List Handle) → AgreeOff n cells after → times n (slots hs) ≡ 0 → map (key_at after) hs ≡ map (key_at cells) hs
keys-off n cells after hs agree none = map_agree (key_at after) (key_at cells) hs (λ k d h. key_at-off n cells after (get_or hs k d) agree (apart_from_times hs n none k d h))
