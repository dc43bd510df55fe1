-- Each step of a carry keeps a store intact.
use Rattle.std.proofs.Common.{◌≡◌, ℕ, ◌+◌, ◌<◌, ◌≤◌, List, [], ◌∷◌, ◌++◌, map, length, get_or, set, Option, Some, refl, sym, ap, ◌∙◌, arith}
use Rattle.std.specs.List.{All}
use Rattle.std.proofs.lemmas.List.{map-set, map-append, length-map, get_or-map, get_or_default}
use Rattle.std.proofs.lemmas.List.Elements.{All-set, All-push, All-cons, All-nil, All-get_or, All-head}
use Rattle.crack_row.proofs.Lists.{All-removed}
use Rattle.crack_arena.specs.Arena.{Handle, no_handle, times, slots}
use Rattle.crack_arena.specs.Rows.{key_at}
use Rattle.crack_arena.proofs.Times.{times-nil, times-append, times-map-append}
use Rattle.crack_index.specs.declared.mark.Mark.{Mark}
use Rattle.crack_index.specs.Marks.{Rising, raised, next_mark, end_of}
use Rattle.crack_index.proofs.MarkLaws.{next_mark-is, next_mark-none, Rising-raised}
use Rattle.crack_state.specs.declared.MergeReport.{MergeReport}
use Rattle.crack_state.specs.State.{State, Carried, Reads, IsObeyed, IsIntact}
use Rattle.crack_state.proofs.Words.{column_keys, IsCounted}
use Rattle.crack_state.specs.Steps.{hand_key, piece_end, raise_next, more, put_at, lifted, pushed_on, appended, SameButRoom, bounds_above}
use Rattle.crack_state.proofs.Counters.{IsCounted-insertions, IsCounted-moved}
use Rattle.crack_state.proofs.PieceLaws.{cases_Option, Obeyed-raised, Obeyed-push, Obeyed-push_raised, Divides-listed, AreMarks, AreMarks-intact, AreMarks-map, bounds_above-less}
use Rattle.crack_state.proofs.OwnedLaws.{times-exchange, times-taken, times-places}

-- what a step that moves handles leaves unchanged: cells and free numbers, pending deletions and map
pub IsIntact-moved : (s t : State) (hand hand' : List Handle) → t ≡ record s { column = t.column; pending_in = t.pending_in; marks = t.marks; tally = t.tally; column_room = t.column_room; in_room = t.in_room } → ((n : ℕ) → times n (slots t.column) + times n (slots t.pending_in) + times n (slots hand') ≡ times n (slots s.column) + times n (slots s.pending_in) + times n (slots hand)) → ((n : ℕ) → times n (slots s.pending_out) ≤ times n (slots s.column) + times n (slots hand) → times n (slots s.pending_out) ≤ times n (slots t.column) + times n (slots hand')) → All (Reads s.cells) t.column → All (Reads s.cells) t.pending_in → All (Reads s.cells) hand' → AreMarks s.keys (map (key_at s.cells) t.column) t.marks → IsCounted t.tally → IsIntact s hand → IsIntact t hand'
IsIntact-moved s t hand hand' same counts few column_reads pending_reads hand_reads marked counted intact =
    let owned = intact.owned in
    rw same (record {
      owned = record {
        once = λ n. omega (arith, owned.once n, counts n, times-places n s.column s.pending_in s.free hand, times-places n t.column t.pending_in s.free hand');
        column_reads = column_reads;
        pending_reads = pending_reads;
        hand_reads = hand_reads;
        doomed_reads = owned.doomed_reads;
        doomed_once = λ n. omega (arith, few n (omega (arith, owned.doomed_once n, times-append n (slots s.column) (slots hand))), times-append n (slots t.column) (slots hand'));
      };
      obeyed = marked.obeyed;
      rising = marked.rising;
      inside = marked.inside;
      keyed = intact.keyed;
      empty = intact.empty;
      within = intact.within;
      few_cells = intact.few_cells;
      few_freed = intact.few_freed;
      counted = counted;
    })

-- only the room changes
pub IsIntact-room : (s t : State) (hand : List Handle) → SameButRoom s t → IsIntact s hand → IsIntact t hand
IsIntact-room s t hand room intact =
    let owned = intact.owned in
    rw room.same (IsIntact-moved s (record s { column_room = t.column_room; in_room = t.in_room }) hand hand refl (λ n. refl) (λ n few. few) owned.column_reads owned.pending_reads owned.hand_reads (AreMarks-intact s hand intact) intact.counted intact)

-- a pending insertion is taken into the hand
pub IsIntact-lifted : (i : ℕ) (s : State) → i < length s.pending_in → IsIntact s [] → IsIntact (lifted i s).store ((lifted i s).hand ∷ [])
IsIntact-lifted i s within intact =
    let owned = intact.owned in
    let hand = (lifted i s).hand in
    let found = get_or_default s.pending_in i no_handle hand within in
    IsIntact-moved s (lifted i s).store [] (hand ∷ []) refl
    (λ n. omega (arith, times-taken n s.pending_in i hand within found, times-nil n))
    (λ n few. omega (arith, few, times-nil n))
    owned.column_reads
    (All-removed (Reads s.cells) s.pending_in i owned.pending_reads)
    (All-cons (Reads s.cells) hand [] (All-get_or (Reads s.cells) s.pending_in i no_handle within owned.pending_reads) owned.hand_reads)
    (AreMarks-intact s [] intact)
    (IsCounted-insertions s.tally intact.counted)
    intact

-- the hand and the handle at a place of the column change places
pub IsIntact-put_at : (place : ℕ) (marks : List Mark) (tally : MergeReport) (c : Carried) → place < length c.store.column → AreMarks c.store.keys (set (column_keys c.store) place (hand_key c)) marks → IsCounted tally → IsIntact c.store (c.hand ∷ []) → IsIntact (put_at place marks tally c).store ((put_at place marks tally c).hand ∷ [])
IsIntact-put_at place marks tally c within marked counted intact =
    let s = c.store in
    let owned = intact.owned in
    let met = get_or s.column place c.hand in
    let counts : (n : ℕ) → times n (slots (set s.column place c.hand)) + times n (slots (met ∷ [])) ≡ times n (slots s.column) + times n (slots (c.hand ∷ [])) = λ n. times-exchange n s.column place c.hand met within (get_or_default s.column place c.hand met within) in
    IsIntact-moved s (put_at place marks tally c).store (c.hand ∷ []) (met ∷ []) refl
    (λ n. omega (arith, counts n))
    (λ n few. omega (arith, few, counts n))
    (All-set (Reads s.cells) s.column place c.hand (All-head (Reads s.cells) c.hand [] owned.hand_reads) owned.column_reads)
    owned.pending_reads
    (All-cons (Reads s.cells) met [] (All-get_or (Reads s.cells) s.column place c.hand within owned.column_reads) (All-nil (Reads s.cells)))
    (rw (map-set (key_at s.cells) s.column place c.hand) marked)
    counted
    intact

-- the hand is put where its own piece ends
pub IsIntact-pushed_on : (c : Carried) → piece_end c.store (hand_key c) < length c.store.column → IsIntact c.store (c.hand ∷ []) → IsIntact (pushed_on c).store ((pushed_on c).hand ∷ [])
IsIntact-pushed_on c ends intact =
    let s = c.store in
    let After : Option Mark → Type 0 = λ o. end_of (length s.column) o < length s.column → AreMarks s.keys (set (column_keys s) (end_of (length s.column) o) (hand_key c)) (raise_next o s.marks) in
    let marked = cases_Option After (next_mark (hand_key c) s.marks) (λ none within. absurd (omega arith)) (λ m found within.
    let is_next = next_mark-is (hand_key c) s.marks m intact.rising found in
    AreMarks-map s.keys (set (column_keys s) m.position (hand_key c)) (raised m.bound.0 m.position) s.marks (λ x. refl) (Obeyed-raised (column_keys s) s.marks (hand_key c) m (omega (arith, length-map s.column (key_at s.cells))) intact.obeyed is_next.least is_next.above (Divides-listed (column_keys s) s.marks m intact.obeyed is_next.listed)) (Rising-raised m.bound.0 m.position s.marks intact.rising) intact.inside) in
    IsIntact-put_at (piece_end s (hand_key c)) (raise_next (next_mark (hand_key c) s.marks) s.marks) (record s.tally { moved = more s.tally.moved }) c ends (marked ends) (IsCounted-moved s.tally intact.counted) intact

-- the hand becomes the column's last row
pub IsIntact-appended : (c : Carried) → piece_end c.store (hand_key c) ≡ length c.store.column → IsIntact c.store (c.hand ∷ []) → IsIntact (appended c) []
IsIntact-appended c ends intact =
    let s = c.store in
    let owned = intact.owned in
    let counts : (n : ℕ) → times n (slots (s.column ++ c.hand ∷ [])) ≡ times n (slots s.column) + times n (slots (c.hand ∷ [])) = λ n. times-map-append n (λ (h : Handle). h.slot) s.column (c.hand ∷ []) in
    let After : Option Mark → Type 0 = λ o. end_of (length s.column) o ≡ length s.column → AreMarks s.keys (column_keys s ++ hand_key c ∷ []) (raise_next o s.marks) in
    let marked = cases_Option After (next_mark (hand_key c) s.marks) (λ found at_end. record { obeyed = Obeyed-push (column_keys c.store) c.store.marks (hand_key c) intact.obeyed (next_mark-none (hand_key c) c.store.marks found); rising = intact.rising; inside = intact.inside }) (λ m found at_end.
    let is_next = next_mark-is (hand_key c) s.marks m intact.rising found in
    AreMarks-map s.keys (column_keys s ++ hand_key c ∷ []) (raised m.bound.0 m.position) s.marks (λ x. refl) (Obeyed-push_raised (column_keys s) s.marks (hand_key c) m (omega (arith, length-map s.column (key_at s.cells))) intact.obeyed is_next.least is_next.above (Divides-listed (column_keys s) s.marks m intact.obeyed is_next.listed)) (Rising-raised m.bound.0 m.position s.marks intact.rising) intact.inside) in
    IsIntact-moved s (appended c) (c.hand ∷ []) [] refl
    (λ n. omega (arith, counts n, times-nil n))
    (λ n few. omega (arith, few, counts n))
    (All-push (Reads s.cells) s.column c.hand owned.column_reads (All-head (Reads s.cells) c.hand [] owned.hand_reads))
    owned.pending_reads
    (All-nil (Reads s.cells))
    (rw (map-append (key_at s.cells) s.column (c.hand ∷ [])) (marked ends))
    intact.counted
    intact

-- the row that was where a piece ended is at or above the bound there
pub met_key : (s : State) (key : ℕ) (m : Mark) (met : Handle) → Rising s.marks → IsObeyed s.marks (column_keys s) → next_mark key s.marks ≡ Some m → m.position < length s.column → met ≡ get_or s.column m.position met → m.bound.0 ≤ key_at s.cells met
met_key s key m met rising obeyed found inside read =
    let is_next = next_mark-is key s.marks m rising found in
    let divides = Divides-listed (column_keys s) s.marks m obeyed is_next.listed in
    let at : get_or (column_keys s) m.position 0 ≡ key_at s.cells met = get_or-map (key_at s.cells) s.column m.position met 0 inside ∙ ap (key_at s.cells) (sym read) in
    rw (← at) (divides.above m.position (omega arith) (omega (arith, length-map s.column (key_at s.cells))))

-- after a push_on fewer bounds are above the key in hand
pub bounds_above-pushed_on : (c : Carried) → piece_end c.store (hand_key c) < length c.store.column → IsIntact c.store (c.hand ∷ []) → bounds_above (hand_key (pushed_on c)) (pushed_on c).store.marks < bounds_above (hand_key c) c.store.marks
bounds_above-pushed_on c ends intact =
    let s = c.store in
    let Fewer : Option Mark → Type 0 = λ o. end_of (length s.column) o < length s.column → bounds_above (key_at s.cells (get_or s.column (end_of (length s.column) o) c.hand)) (raise_next o s.marks) < bounds_above (hand_key c) s.marks in
    cases_Option Fewer (next_mark (hand_key c) s.marks) (λ none within. absurd (omega arith)) (λ m found within.
    let is_next = next_mark-is (hand_key c) s.marks m intact.rising found in
    let met = get_or s.column m.position c.hand in
    bounds_above-less m.bound.0 m.position (hand_key c) (key_at s.cells met) s.marks m is_next.listed.0 is_next.listed.1 is_next.listed.2 is_next.above (met_key s (hand_key c) m met intact.rising intact.obeyed found within (get_or_default s.column m.position c.hand met within))) ends
