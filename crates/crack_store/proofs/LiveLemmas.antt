-- The rows that commands see in cells, one after the other.
use Rattle.std.proofs.Common.{◌≡◌, ℕ, ◌+◌, ◌-◌, ◌<◌, ◌≤◌, List, [], ◌∷◌, ◌++◌, length, get_or, take, drop, Bool, true, Option, refl, sym, ap, subst, ◌∙◌, inl, inr, arith, add-one, zero-add}
use Rattle.std.specs.List.{cons_option, filter, filter_map, range_with_len}
use Rattle.std.proofs.lemmas.List.{append_assoc, append-nil, take_all, length-drop, take-append-drop, get_or-take, get_or-drop, get_or_append_left, get_or_push, length_push}
use Rattle.std.proofs.lemmas.List.Elements.{filter-append, filter_map-append, All-weaker}
use Rattle.std.proofs.lemmas.List.Sorted.{IsPermutation-trans, IsPermutation-append_left, IsPermutation-append_right, IsPermutation-append_comm}
use Rattle.std.specs.List.Sorted.{IsPermutation}
use Rattle.std.proofs.lemmas.Bool.{cases_lt}
use Rattle.crack_row.proofs.Lists.{range_with_len-more, filter_all}
use Rattle.crack_row.specs.Ranges.{IsIn, in_range}
use Rattle.crack_row.specs.declared.Row.{Row}
use Rattle.crack_arena.specs.Arena.{Cell, cell_at, empty_cell}
use Rattle.crack_pending.proofs.Searches.{is_in-true}
use Rattle.crack_state.specs.State.{State, IsIntact, live_rows}
use Rattle.crack_state.specs.Stretch.{serial_of}
use Rattle.crack_state.proofs.LiveLaws.{live_rows-within}
use Rattle.crack_store.specs.Found.{AreRising}

longer : (n : ℕ) → range_with_len 0 (n + 1) ≡ range_with_len 0 n ++ n ∷ []
longer n = rw add-one (rw (zero-add n) at (range_with_len-more 0 n))

-- one more cell
pub seen-next : (seen : ℕ → Option Row) (test : Row → Bool) (slot : ℕ) (o : Option Row) → cons_option o [] ≡ filter test (cons_option (seen slot) []) → filter test (filter_map seen (range_with_len 0 (slot + 1))) ≡ filter test (filter_map seen (range_with_len 0 slot)) ++ cons_option o []
seen-next seen test slot o shown =
    let earlier = filter_map seen (range_with_len 0 slot) in
    let one : filter_map seen (slot ∷ []) ≡ cons_option (seen slot) [] = refl in
    let more : filter_map seen (range_with_len 0 (slot + 1)) ≡ earlier ++ filter_map seen (slot ∷ []) = ap (filter_map seen) (longer slot) ∙ filter_map-append seen (range_with_len 0 slot) (slot ∷ []) in
    rw (shown, more, one, filter-append test earlier (cons_option (seen slot) [])) refl

-- the rows of the cells before this one and its own are those found, if they were before this one
pub found-next : (seen : ℕ → Option Row) (test : Row → Bool) (slot : ℕ) (o : Option Row) (before after : List Row) → cons_option o [] ≡ filter test (cons_option (seen slot) []) → IsPermutation (filter test (filter_map seen (range_with_len 0 slot))) before → IsPermutation (before ++ cons_option o []) after → IsPermutation (filter test (filter_map seen (range_with_len 0 (slot + 1)))) after
found-next seen test slot o before after shown so_far added =
    subst (λ rows. IsPermutation rows after) (sym (seen-next seen test slot o shown)) (IsPermutation-trans _ _ _ (IsPermutation-append_left (cons_option o []) _ before so_far) added)

-- a row that comes after two lists may as well come after the first
pub row-between : (xs ys : List Row) (row : Row) → IsPermutation ((xs ++ ys) ++ row ∷ []) ((xs ++ row ∷ []) ++ ys)
row-between xs ys row =
    rw (append_assoc xs ys (row ∷ []), append_assoc xs (row ∷ []) ys) (IsPermutation-append_right xs _ _ (IsPermutation-append_comm ys (row ∷ [])))

-- the last rows of the first list may as well come after the second
pub rows-moved : (xs ys : List Row) (kept : ℕ) → IsPermutation ((xs ++ ys) ++ []) (take kept xs ++ (ys ++ take (length xs - kept) (drop kept xs)))
rows-moved xs ys kept =
    let last : take (length xs - kept) (drop kept xs) ≡ drop kept xs = take_all (length xs - kept) (drop kept xs) (omega (arith, length-drop kept xs)) in
    let whole : xs ++ ys ≡ take kept xs ++ (drop kept xs ++ ys) = ap (λ zs. zs ++ ys) (sym (take-append-drop kept xs)) ∙ append_assoc (take kept xs) (drop kept xs) ys in
    rw (last, append-nil (xs ++ ys), whole) (IsPermutation-append_right (take kept xs) _ _ (IsPermutation-append_comm (drop kept xs) ys))

-- every live row's key is one of the partition's
pub live-all : (s : State) → IsIntact s [] → filter (in_range s.keys) (live_rows s) ≡ live_rows s
live-all s intact = filter_all (in_range s.keys) (live_rows s) (All-weaker (λ (row : Row). IsIn s.keys row.key.0) (λ (row : Row). in_range s.keys row ≡ true) (λ row is. is_in-true s.keys row.key.0 is) (live_rows s) (live_rows-within s intact))

-- a place of a run that begins at a cell is a cell after it
pub cell_in-run : (cells part : List (Cell Row)) (slot place : ℕ) → part ≡ take (length part) (drop slot cells) → place < length part → cell_at part place ≡ cell_at cells (slot + place)
cell_in-run cells part slot place is within =
    ap (λ (xs : List (Cell Row)). cell_at xs place) is
    ∙ get_or-take (length part) (drop slot cells) place empty_cell within
    ∙ get_or-drop slot cells place empty_cell

-- the empty list rises
pub rising-none : (last : ℕ) → AreRising [] last
rising-none last = record { rise = λ i j d le within. absurd (omega (arith, within)); most = λ place row within. absurd (omega (arith, within)) }

-- one more row, whose serial isn't below the last
pub rising-next : (rows : List Row) (last : ℕ) (row : Row) → last ≤ serial_of row → AreRising rows last → AreRising (rows ++ row ∷ []) (serial_of row)
rising-next rows last row above rising = record {
  rise = λ i j d le within. elim (cases_lt j (length rows)) [
    | inl near ↦ rw (get_or_append_left rows (row ∷ []) d i (omega (arith, le, near)), get_or_append_left rows (row ∷ []) d j near) (rising.rise i j d le near)
    | inr far ↦
        let end : j ≡ length rows = omega (arith, far, within, length_push rows row) in
        rw (get_or_push rows row d j (sym end)) (most-of i d (omega (arith, le, end)))
  ];
  most = λ place d within. most-of place d (omega (arith, within, length_push rows row));
}
  where
    most-of : (place : ℕ) (d : Row) → place ≤ length rows → serial_of (get_or (rows ++ row ∷ []) place d) ≤ serial_of row
    most-of place d le = elim (cases_lt place (length rows)) [
      | inl near ↦ rw (get_or_append_left rows (row ∷ []) d place near) (omega (arith, above, rising.most place d near))
      | inr far ↦ rw (get_or_push rows row d place (omega (arith, far, le))) (omega arith)
    ]
