-- Bury: the doomed hand's cell is freed. It keeps a store intact, and commands see the same rows.
use Rattle.std.proofs.Common.{◌≡◌, ℕ, ◌+◌, ◌<◌, ◌≤◌, eqb, List, [], ◌∷◌, length, get_or, set, Option, None, refl, sym, ap, ◌∙◌, inl, inr, arith, length-set}
use Rattle.std.specs.Prelude.{IfSome}
use Rattle.std.specs.List.{All, remove, filter_map, range_with_len}
use Rattle.std.proofs.lemmas.List.Edits.{length-remove}
use Rattle.std.proofs.lemmas.List.Sums.{sum_by-set}
use Rattle.std.proofs.lemmas.List.{get_or-set_same, get_or-set_other}
use Rattle.std.proofs.lemmas.List.Elements.{All-nil, All-cons, All-set}
use Rattle.std.proofs.lemmas.Bool.{cases_eq}
use Rattle.crack_row.proofs.Lists.{All-removed}
use Rattle.crack_row.specs.Ranges.{IsIn}
use Rattle.crack_row.specs.declared.Row.{Row}
use Rattle.crack_arena.specs.declared.TheConstants.{MOST_FREED}
use Rattle.crack_arena.specs.Arena.{Cell, Handle, StandsAt, times, read, cell_at, empty_cell, slots, place_in}
use Rattle.crack_arena.proofs.Times.{times-nil, times-cons, times_one, times_other, times_head, times-append}
use Rattle.crack_state.specs.State.{State, Carried, Reads, IsIntact, IsKeyed, freed_of, live_at, live_rows}
use Rattle.crack_state.proofs.Words.{IsCounted, AreEmpty}
use Rattle.crack_state.specs.Steps.{IsDoomed, buried}
use Rattle.crack_state.specs.Merge.{Follows}
use Rattle.crack_state.proofs.OwnedLaws.{times-taken, times-places, once-most, once-within, HandApart, hand_apart}
use Rattle.crack_state.proofs.CellLaws.{AgreeOff-set, Reads-off, keys-off, generation_of_read, stands_there}
use Rattle.crack_state.proofs.Counters.{IsCounted-deletions}
use Rattle.crack_state.proofs.LiveLaws.{none_either, Hides, Hides-emptied, live_at-off}
use Rattle.crack_state.proofs.KeyedLaws.{IsKeyed-less}

-- the hand, which is doomed, is the pending deletion of its cell
pub doomed_stands : (c : Carried) → IsDoomed c → IsIntact c.store (c.hand ∷ []) → StandsAt c.store.pending_out (place_in c.store.pending_out c.hand.slot) c.hand
doomed_stands c doomed intact = stands_there c.store.cells c.store.pending_out c.hand (intact.owned.hand_reads 0 c.hand (omega arith)) intact.owned.doomed_reads doomed

-- what is known of a doomed hand
record DoomedHand (s : State) (hand : Handle) : Type 0 where
  apart : HandApart s.cells s.free s.column s.pending_in hand.slot
  once : times hand.slot (slots s.pending_out) ≡ 1
  place : place_in s.pending_out hand.slot < length s.pending_out
  taken : (n : ℕ) → times n (slots (remove s.pending_out (place_in s.pending_out hand.slot))) + times n (hand.slot ∷ []) ≡ times n (slots s.pending_out)

doomed_hand : (c : Carried) → IsDoomed c → IsIntact c.store (c.hand ∷ []) → DoomedHand c.store c.hand
doomed_hand c doomed intact =
    let s = c.store in
    let apart = hand_apart s.cells s.free s.column s.pending_in s.pending_out c.hand intact.owned in
    let stands = doomed_stands c doomed intact in
    record {
      apart = apart;
      once = omega (arith, doomed, intact.owned.doomed_once c.hand.slot, times-append c.hand.slot (slots s.column) (slots (c.hand ∷ [])), times_head c.hand.slot [], times-nil c.hand.slot, apart.off_column);
      place = stands.within;
      taken = λ n. times-taken n s.pending_out (place_in s.pending_out c.hand.slot) c.hand stands.within stands.is;
    }

-- once it is struck, none of them names its cell
pub off_buried : (c : Carried) → IsDoomed c → IsIntact c.store (c.hand ∷ []) → times c.hand.slot (slots (buried c).pending_out) ≡ 0
off_buried c doomed intact =
    let known = doomed_hand c doomed intact in
    omega (arith, known.taken c.hand.slot, known.once, times_head c.hand.slot [], times-nil c.hand.slot)

-- a cell without a value is read by no handle
pub read-set_none : (cells : List (Cell Row)) (n g : ℕ) (h : Handle) → n < length cells → h.slot ≡ n → read (set cells n (record { generation = g; value = None })) h ≡ None
read-set_none cells n g h within same = rw (same, get_or-set_same cells n (record { generation = g; value = None }) empty_cell within) (none_either (eqb g h.generation))

-- a free cell stays empty, and so is the cell that was freed
pub AreEmpty-freed : (cells : List (Cell Row)) (n g : ℕ) (free : List ℕ) → n < length cells → AreEmpty cells free → AreEmpty (set cells n (record { generation = g; value = None })) (n ∷ free)
AreEmpty-freed cells n g free within empty =
    let c : Cell Row = record { generation = g; value = None } in
    let mine : (cell_at (set cells n c) n).value ≡ None = ap (λ (x : Cell Row). x.value) (get_or-set_same cells n c empty_cell within) in
    All-cons (λ m. (cell_at (set cells n c) m).value ≡ None) n free mine (λ k d h. elim (cases_eq (get_or free k d) n) [
      | inl e ↦ rw e mine
      | inr ne ↦ rw (get_or-set_other cells n (get_or free k d) c empty_cell ne) (empty k d h)
    ])

-- the cells, once that of a handle is emptied, and how often they were freed
abbrev pub emptied : Handle → List (Cell Row) → List (Cell Row)
emptied h cells = set cells h.slot (record { generation = h.generation + 1; value = None })

pub freed_of-emptied : (cells : List (Cell Row)) (h : Handle) → h.slot < length cells → Reads cells h → freed_of (emptied h cells) ≡ freed_of cells + 1
freed_of-emptied cells h within reads =
    omega (arith, sum_by-set (λ (x : Cell Row). x.generation) cells h.slot (record { generation = h.generation + 1; value = None }) empty_cell within, generation_of_read cells h reads)

-- the store after a cell is freed, if the handle was in hand or a pending insertion, and is no longer doomed
pub IsIntact-freed : (s t : State) (h : Handle) (hand : List Handle) → t ≡ record s { cells = emptied h s.cells; free = h.slot ∷ s.free; pending_in = t.pending_in; pending_out = t.pending_out; serials = t.serials; tally = t.tally } → Reads s.cells h → ((n : ℕ) → times n (slots t.pending_in) + times n (h.slot ∷ []) ≡ times n (slots s.pending_in) + times n (slots hand)) → times h.slot (slots t.pending_out) ≡ 0 → ((n : ℕ) → times n (slots t.pending_out) ≤ times n (slots s.column)) → All (Reads s.cells) t.pending_in → All (Reads s.cells) t.pending_out → IsKeyed (emptied h s.cells) (slots t.pending_out) t.serials → freed_of s.cells + length t.pending_out < MOST_FREED → IsCounted t.tally → IsIntact s hand → IsIntact t []
IsIntact-freed s t h hand same reads counts off few pending_reads doomed_reads keyed spare counted intact =
    let owned = intact.owned in
    let c : Cell Row = record { generation = h.generation + 1; value = None } in
    let cells = emptied h s.cells in
    let agree = AgreeOff-set s.cells h.slot c in
    let places_are = times-places h.slot s.column s.pending_in s.free hand in
    let here = times_head h.slot [] in
    let most = once-most s.cells s.free s.column s.pending_in s.pending_out hand h.slot owned in
    let within = once-within s.cells s.free s.column s.pending_in s.pending_out hand h.slot (omega (arith, counts h.slot)) owned in
    let off_column : times h.slot (slots s.column) ≡ 0 = omega (arith, counts h.slot) in
    rw same (record {
      owned = record {
        once = λ n. rw (length-set s.cells h.slot c) (omega (arith, owned.once n, counts n, times-places n s.column s.pending_in s.free hand, times-places n s.column t.pending_in (h.slot ∷ s.free) [], times-nil n, times-cons n h.slot s.free, times_one n h.slot));
        column_reads = Reads-off h.slot s.cells cells s.column agree off_column owned.column_reads;
        pending_reads = Reads-off h.slot s.cells cells t.pending_in agree (omega (arith, counts h.slot)) pending_reads;
        hand_reads = All-nil (Reads cells);
        doomed_reads = Reads-off h.slot s.cells cells t.pending_out agree off doomed_reads;
        doomed_once = λ n. omega (arith, few n, times-append n (slots s.column) []);
      };
      obeyed = rw (keys-off h.slot s.cells cells s.column agree off_column) intact.obeyed;
      rising = intact.rising;
      inside = intact.inside;
      keyed = keyed;
      empty = AreEmpty-freed s.cells h.slot (h.generation + 1) s.free within intact.empty;
      within = All-set (λ (x : Cell Row). IfSome x.value (λ r. IsIn s.keys r.key.0)) s.cells h.slot c tt intact.within;
      few_cells = omega (arith, intact.few_cells, length-set s.cells h.slot c);
      few_freed = omega (arith, spare, freed_of-emptied s.cells h within reads);
      counted = counted;
    })

-- the number of freed cells and doomed rows together is as before
pub freed-buried : (c : Carried) → IsDoomed c → IsIntact c.store (c.hand ∷ []) → freed_of (buried c).cells + length (buried c).pending_out ≡ freed_of c.store.cells + length c.store.pending_out
freed-buried c doomed intact =
    let s = c.store in
    let known = doomed_hand c doomed intact in
    omega (arith, freed_of-emptied s.cells c.hand known.apart.within (intact.owned.hand_reads 0 c.hand (omega arith)), length-remove s.pending_out (place_in s.pending_out c.hand.slot) known.place)

-- a cell that is to be freed once more was freed less often than it may be
pub freed-doomed : (s : State) (hand : List Handle) → 0 < length s.pending_out → IsIntact s hand → freed_of s.cells < MOST_FREED
freed-doomed s hand some intact = omega (arith, intact.few_freed)

-- the hand's cell shows no row, and showed none before
hides_buried : (c : Carried) → IsDoomed c → IsIntact c.store (c.hand ∷ []) → Hides c.store.cells (buried c).cells (slots c.store.pending_out) (slots (buried c).pending_out) c.hand.slot
hides_buried c doomed intact =
    let s = c.store in
    let known = doomed_hand c doomed intact in
    Hides-emptied s.cells (slots s.pending_out) (slots (buried c).pending_out) c.hand.slot (c.hand.generation + 1) known.apart.within (λ n ne. omega (arith, known.taken n, times_other n c.hand.slot (λ e. ne (sym e))))

pub IsIntact-buried : (c : Carried) → IsDoomed c → IsIntact c.store (c.hand ∷ []) → IsIntact (buried c) []
IsIntact-buried c doomed intact =
    let s = c.store in
    let slot = c.hand.slot in
    let owned = intact.owned in
    let known = doomed_hand c doomed intact in
    let off = off_buried c doomed intact in
    IsIntact-freed s (buried c) c.hand (c.hand ∷ []) refl (owned.hand_reads 0 c.hand (omega arith)) (λ n. refl) off
    (λ n. elim (cases_eq slot n) [
      | inl e ↦ rw (← e) (omega (arith, off))
      | inr ne ↦ omega (arith, owned.doomed_once n, known.taken n, times-append n (slots s.column) (slots (c.hand ∷ [])), times_other n slot ne)
    ])
    owned.pending_reads
    (All-removed (Reads s.cells) s.pending_out (place_in s.pending_out slot) owned.doomed_reads)
    (IsKeyed-less s.cells (buried c).cells (slots s.pending_out) (slots (buried c).pending_out) s.serials s.serials slot (hides_buried c doomed intact)
    (λ n g found. (λ e. let kept = (intact.keyed.leads n g found).3 in let once = known.once in absurd (omega (arith, known.once, sym (ap (λ k. times k (slots s.pending_out)) e) ∙ kept)), found))
    (λ n g ne found. found)
    intact.keyed)
    (omega (arith, intact.few_freed, length-remove s.pending_out (place_in s.pending_out slot) known.place))
    (IsCounted-deletions s.tally intact.counted)
    intact

-- commands see the same rows
pub live_rows-buried : (c : Carried) → IsDoomed c → IsIntact c.store (c.hand ∷ []) → live_rows (buried c) ≡ live_rows c.store
live_rows-buried c doomed intact =
    let s = c.store in
    let known = doomed_hand c doomed intact in
    let hides = hides_buried c doomed intact in
    let left = slots (buried c).pending_out in
    let same : (n : ℕ) → live_at (buried c).cells left n ≡ live_at s.cells (slots s.pending_out) n = λ n. elim (cases_eq n c.hand.slot) [
      | inl e ↦ rw e (hides.none ∙ rw known.once refl)
      | inr ne ↦ sym (live_at-off s.cells (buried c).cells (slots s.pending_out) left c.hand.slot n hides ne)
    ] in
    rw (length-set s.cells c.hand.slot (record { generation = c.hand.generation + 1; value = None })) (ap (λ (f : ℕ → Option Row). filter_map f (range_with_len 0 (length s.cells))) (λ i n. same n i))

pub Follows-buried : (c : Carried) → IsDoomed c → IsIntact c.store (c.hand ∷ []) → Follows c.store (buried c)
Follows-buried c doomed intact = record {
  keys = refl;
  live = live_rows-buried c doomed intact;
  bounds = refl;
  cells = length-set c.store.cells c.hand.slot (record { generation = c.hand.generation + 1; value = None });
  freed = freed-buried c doomed intact;
}
