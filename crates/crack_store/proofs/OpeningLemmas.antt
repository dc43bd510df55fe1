-- One step of the pass that opens pieces, from the moves that make it.
use Rattle.std.proofs.Common.{Bor, [], ◌∷◌, reverse, ◌≡◌, ℕ, ◌+◌, ◌-◌, ◌<◌, ◌≤◌, List, ◌++◌, get_or, set, length, map, take, drop, refl, sym, ap, subst, ◌∙◌, arith}
use Rattle.std.specs.List.{All, between}
use Rattle.std.specs.List.Sorted.{IsPermutation}
use Rattle.std.proofs.Math.Seq.{paste, take-add}
use Rattle.std.proofs.lemmas.List.{append_assoc, length-append, length-map, length-set, length-take-le, length-drop, get_or-map, get_or-take, get_or-drop, take_at, drop_at, drop-drop, append-nil, take-append-drop, take_all, map-append, reverse-append, reverse-reverse, length-reverse, get_or-reverse}
use Rattle.std.proofs.lemmas.List.Elements.{All-take, All-drop}
use Rattle.std.proofs.lemmas.List.Edits.{paste_more, length-between}
use Rattle.std.proofs.lemmas.List.Sorted.{IsPermutation-append_left, IsPermutation-sym, IsPermutation-reverse, All-permutation, length_permutation}
use Rattle.crack_arena.specs.Arena.{Handle}
use Rattle.crack_arena.specs.Memories.{Memory}
use Rattle.crack_column.specs.Column.{Column, StillRemembersWith}
use Rattle.crack_arena.specs.Rows.{key_at}
use Rattle.crack_index.specs.declared.mark.Mark.{Mark}
use Rattle.crack_index.specs.Marks.{Index, Rising, bounds_of}
use Rattle.crack_index.specs.Raises.{Raises}
use Rattle.crack_state.specs.State.{greatest}
use Rattle.crack_store.specs.declared.inside.Inside.{Inside}
use Rattle.crack_store.specs.declared.opening.Opening.{Opening}
use Rattle.crack_store.specs.declared.opening.Arrival.{Arrival}
use Rattle.crack_store.proofs.SplitLaws.{Splits, Splits-divided, divided-Splits}
use Rattle.crack_store.proofs.OpenedLaws.{Falling, opened_whole}
use Rattle.crack_store.specs.Blocks.{ChangesSides, KeepsRows}
use Rattle.crack_store.specs.Openings.{arrival_handle, arrival_key, arrival_memory, IsKnown, KeepsPut, IsOpenable, OpensPieces, OpensAt, KeepsOpening, opening_rows, opening_end, opening_moved, opening_left}

-- one more arrival is put in
pub put_one : (xs : List Arrival) (i : ℕ) (d : Arrival) (was c c' : Column) (at n : ℕ) (h : Handle) (m : Memory) → i < length xs → h ≡ (get_or xs i d).handle → m ≡ arrival_memory (get_or xs i d) → n ≡ at + i → at + length xs ≤ length was.handles → c' ≡ record c { handles = set c.handles n h; remembered = set c.remembered n m } → StillRemembersWith h m c c' → c.handles ≡ paste was.handles at (map arrival_handle xs) i → KeepsPut (take i xs) was c → (c'.handles ≡ paste was.handles at (map arrival_handle xs) (i + 1)) × KeepsPut (take (i + 1) xs) was c'
put_one xs i d was c c' at n h m within h_is m_is n_is room puts still handles keeps =
    let mapped : get_or (map arrival_handle xs) i h ≡ h = get_or-map arrival_handle xs i d h within ∙ sym h_is in
    let next : set (paste was.handles at (map arrival_handle xs) i) n h ≡ paste was.handles at (map arrival_handle xs) (i + 1) =
    ap (λ k. set (paste was.handles at (map arrival_handle xs) i) k h) n_is ∙ ap (λ g. set (paste was.handles at (map arrival_handle xs) i) (at + i) g) (sym mapped) ∙ paste_more was.handles at (map arrival_handle xs) i h (omega (arith, within, room)) (omega (arith, within, length-map xs arrival_handle)) in (
      ap (λ (x : Column). x.handles) puts ∙ ap (λ hs. set hs n h) handles ∙ next,
      record {
        long = ap (λ (x : Column). length x.handles) puts ∙ length-set c.handles n h ∙ keeps.long;
        room = ap (λ (x : Column). x.room) puts ∙ keeps.room;
        remembered = λ cells known r.
            let short = length-take-le i xs (omega (arith, within)) in
            let more = length-take-le (i + 1) xs (omega (arith, within)) in
            let first : All (IsKnown cells) (take i xs) = λ k e j.
            rw (get_or-take i xs k e (omega (arith, j, short))) (rw (get_or-take (i + 1) xs k e (omega (arith, j, short))) at (known k e (omega (arith, j, short, more)))) in
            let mine : IsKnown cells (get_or xs i d) = rw (get_or-take (i + 1) xs i d (omega arith)) at (known i d (omega (arith, more))) in
            still cells (keeps.remembered cells first r) (rw (h_is, m_is) mine);
      },
    )

-- the step, without the counts
pub record IsOpenedFor (xs ys : List Arrival) (from end to next low : ℕ) (old new : List Handle) : Type 0 where
  pub hole : List Handle
  pub piece : List Handle
  pub rows_are : new ≡ take from old ++ (hole ++ (piece ++ drop to old))
  pub piece_is : IsPermutation (between from end old ++ map arrival_handle ys) piece
  pub arrived : take (to - end) xs ≡ take next xs ++ ys
  pub came : All (λ (a : Arrival). low ≤ a.key) ys
  pub left : All (λ (a : Arrival). a.key < low) (take next xs)
  pub hole_is : length hole ≡ next

pub opened_for : (xs : List Arrival) (from end to middle next low : ℕ) (old mid new : List Handle) → from ≤ end → end ≤ to → to ≤ length old → to - end ≤ length xs → next ≤ to - end → middle ≡ to - (to - end - next) → ((k : ℕ) (d : Arrival) → k < next → (get_or xs k d).key < low) → ((k : ℕ) (d : Arrival) → next ≤ k → k < to - end → low ≤ (get_or xs k d).key) → ChangesSides from end middle old mid → new ≡ take (to - length (take (to - end - next) (drop next xs))) mid ++ (map arrival_handle (take (to - end - next) (drop next xs)) ++ drop to mid) → IsOpenedFor xs (take (to - end - next) (drop next xs)) from end to next low old new
opened_for xs from end to middle next low old mid new order behind within enough few middle_is below above s puts =
    let count : ℕ = to - end - next in
    let ys = take count (drop next xs) in
    let size : length ys ≡ count = length-take-le count (drop next xs) (omega (arith, enough, few, length-drop next xs)) in
    let front = take from old in
    let front_long : length front ≡ from = length-take-le from old (omega (arith, order, behind, within)) in
    let low_long : length s.low ≡ next = omega (arith, length_permutation (between end middle old) s.low s.low_is, length-between old end middle (omega (arith, middle_is, within)), middle_is, few, behind) in
    let high_long : length s.high ≡ end - from = omega (arith, length_permutation (between from end old) s.high s.high_is, length-between old from end (omega (arith, behind, within))) in
    let middle_at : to - length ys ≡ middle = omega (arith, size, middle_is) in
    let whole : mid ≡ (front ++ (s.low ++ s.high)) ++ drop middle old = s.handles_are ∙ simp append_assoc in
    let both_long : length (front ++ (s.low ++ s.high)) ≡ middle = omega (arith, length-append front (s.low ++ s.high), length-append s.low s.high, front_long, low_long, high_long, middle_is, few, behind, order) in
    let first : take (to - length ys) mid ≡ front ++ (s.low ++ s.high) = ap (λ n. take n mid) middle_at ∙ ap (take middle) whole ∙ take_at (front ++ (s.low ++ s.high)) (drop middle old) middle both_long in
    let far : ℕ = to - middle in
    let far_is : middle + far ≡ to = omega (arith, middle_is) in
    let rest : drop to mid ≡ drop to old = ap (λ n. drop n mid) (sym far_is) ∙ sym (drop-drop far middle mid) ∙ ap (drop far) (ap (drop middle) whole ∙ drop_at (front ++ (s.low ++ s.high)) (drop middle old) middle both_long) ∙ drop-drop far middle old ∙ ap (λ n. drop n old) far_is in
    let next_long : length (take next xs) ≡ next = length-take-le next xs (omega (arith, few, enough)) in
    let sum : next + count ≡ to - end = omega (arith, few) in
    let moved : (front ++ (s.low ++ s.high)) ++ (map arrival_handle ys ++ drop to old) ≡ front ++ (s.low ++ ((s.high ++ map arrival_handle ys) ++ drop to old)) = simp append_assoc in
    record {
      hole = s.low;
      piece = s.high ++ map arrival_handle ys;
      rows_are = puts ∙ ap (λ zs. zs ++ (map arrival_handle ys ++ drop to mid)) first ∙ ap (λ zs. (front ++ (s.low ++ s.high)) ++ (map arrival_handle ys ++ zs)) rest ∙ moved;
      piece_is = IsPermutation-append_left (map arrival_handle ys) (between from end old) s.high s.high_is;
      arrived = ap (λ n. take n xs) (sym sum) ∙ take-add next count xs;
      came = λ k d h. rw (get_or-take count (drop next xs) k d (omega (arith, h, size)), get_or-drop next xs k d) (above (next + k) d (omega arith) (omega (arith, h, size, sum)));
      left = λ k d h. rw (get_or-take next xs k d (omega (arith, h, next_long))) (below k d (omega (arith, h, next_long)));
      hole_is = low_long;
    }

-- rows are moved, and then some of the arrivals are put in
pub KeepsPut-moved : (xs : List Arrival) (n k : ℕ) (a b c : Column) → KeepsRows a b → KeepsPut (take n (drop k xs)) b c → KeepsPut xs a c
KeepsPut-moved xs n k a b c moved put = record {
  long = put.long ∙ moved.long;
  room = put.room ∙ moved.room;
  remembered = λ cells known r. put.remembered cells (All-take (IsKnown cells) n (drop k xs) (All-drop (IsKnown cells) k xs known)) (moved.remembered cells r);
}

KeepsOpening-refl : (v : Opening) → KeepsOpening v v
KeepsOpening-refl v = record { rows = record { long = refl; room = refl; remembered = λ cells known r. r }; arrivals = refl; moved = omega arith }

KeepsOpening-trans : (u v w : Opening) → KeepsOpening u v → KeepsOpening v w → KeepsOpening u w
KeepsOpening-trans u v w one two = record {
  rows = record {
    long = two.rows.long ∙ one.rows.long;
    room = two.rows.room ∙ one.rows.room;
    remembered = λ cells known r. two.rows.remembered cells (subst (λ (b : Bor (List Arrival)). All (IsKnown cells) b.now) (sym one.arrivals) known) (one.rows.remembered cells known r);
  };
  arrivals = two.arrivals ∙ one.arrivals;
  moved = omega (arith, one.moved, two.moved);
}

-- marks with the highest first
All-back : (P : Mark → Type 0) (ms : List Mark) → All P ms → All P (reverse ms)
All-back P ms all = All-permutation P ms (reverse ms) (IsPermutation-reverse ms) all

All-forth : (P : Mark → Type 0) (ms : List Mark) → All P (reverse ms) → All P ms
All-forth P ms all = All-permutation P (reverse ms) ms (IsPermutation-sym ms (reverse ms) (IsPermutation-reverse ms)) all

Falling-reverse : (ms : List Mark) → Rising ms → Falling (reverse ms)
Falling-reverse ms rising = λ i j d i_j j_in.
    let long = length-reverse ms in
    rw (get_or-reverse ms i d (omega (arith, i_j, j_in, long)), get_or-reverse ms j d (omega (arith, j_in, long))) (rising (length ms - 1 - j) (length ms - 1 - i) d (omega (arith, i_j, j_in, long)) (omega (arith, j_in, long)))

bounds-back : (ms : List Mark) → bounds_of (reverse ms) ≡ reverse (bounds_of ms)
bounds-back [] = refl
bounds-back (m ∷ ms) = ap bounds_of (reverse-append (m ∷ []) ms) ∙ map-append (λ (k : Mark). k.bound.0) (reverse ms) (m ∷ []) ∙ ap (λ bs. bs ++ m.bound.0 ∷ []) (bounds-back ms) ∙ sym (reverse-append (m.bound.0 ∷ []) (bounds_of ms))

bounds-same : (ms ns : List Mark) → bounds_of (reverse ms) ≡ bounds_of (reverse ns) → bounds_of ms ≡ bounds_of ns
bounds-same ms ns same = sym (reverse-reverse (bounds_of ms)) ∙ ap reverse (sym (bounds-back ms) ∙ same ∙ bounds-back ns) ∙ reverse-reverse (bounds_of ns)

-- the whole pass
pub opened_pieces : (p : Inside) (index : Index) (arrivals : List Arrival) (v w : Opening) (column : Column) (last : ℕ) → IsOpenable p arrivals → v.column ≡ p.column → v.arrivals.now ≡ arrivals → v.to ≡ length p.column.handles → v.end ≡ length p.column.handles - length arrivals → v.moved ≡ p.tally.moved → Raises OpensAt (length arrivals) (reverse p.index.marks) v (reverse index.marks) w last → Rising index.marks → w.moved ≤ greatest → w.end ≤ w.to → w.to ≤ w.end + length w.arrivals.now → column.handles ≡ take (w.to - length (take (w.to - w.end) w.arrivals.now)) w.column.handles ++ (map arrival_handle (take (w.to - w.end) w.arrivals.now) ++ drop w.to w.column.handles) → KeepsPut (take (w.to - w.end) w.arrivals.now) w.column column → OpensPieces p (record p { column = column; index = index; tally = record p.tally { moved = w.moved } }) arrivals
opened_pieces p index arrivals v w column last can column_is arrivals_is to_is end_is moved_is walk rising small order few puts keeps =
    let key : Handle → ℕ = key_at p.arena.cells in
    let hs = p.column.handles in
    let n : ℕ = length hs - length arrivals in
    let front = take n hs in
    let hole = drop n hs in
    let front_long : length front ≡ n = length-take-le n hs (omega arith) in
    let rows_is : v.column.handles ≡ hs = ap (λ (c : Column). c.handles) column_is in
    let left_is : opening_left v ≡ arrivals = ap (λ xs. take (v.to - v.end) xs) arrivals_is ∙ take_all (v.to - v.end) arrivals (omega (arith, to_is, end_is, can.enough)) in
    let rest_is : map arrival_handle (opening_left v) ≡ map arrival_handle arrivals = ap (map arrival_handle) left_is in
    let rest_long : length (map arrival_handle (opening_left v)) ≡ length arrivals = ap length rest_is ∙ length-map arrivals arrival_handle in
    let keyed : All (λ (a : Arrival). key (arrival_handle a) ≡ arrival_key a) (opening_left v) = subst (λ (xs : List Arrival). All (λ (a : Arrival). key (arrival_handle a) ≡ arrival_key a) xs) (sym left_is) can.keyed in
    let whole : front ++ (hole ++ []) ≡ hs = ap (λ xs. front ++ xs) (append-nil hole) ∙ take-append-drop n hs in
    let obeyed = can.obeyed in
    let inside : All (λ (m : Mark). m.position ≤ length front) p.index.marks = λ k e j. omega (arith, (obeyed k e j).within, length-map front key) in
    let splits : All (λ (m : Mark). Splits key m.bound.0 m.position front) p.index.marks = λ k e j. Splits-divided key (get_or p.index.marks k e).bound.0 (get_or p.index.marks k e).position front (obeyed k e j) in
    let ys = opening_left w in
    let ys_long : length ys ≡ w.to - w.end = length-take-le (w.to - w.end) w.arrivals.now (omega (arith, few)) in
    let rest = length-map ys arrival_handle in
    let rows : column.handles ≡ take w.end w.column.handles ++ (map arrival_handle ys ++ drop (w.end + length (map arrival_handle ys)) w.column.handles) =
    puts ∙ ap (λ k. take k w.column.handles ++ (map arrival_handle ys ++ drop w.to w.column.handles)) (omega (arith, ys_long, order)) ∙ ap (λ k. take w.end w.column.handles ++ (map arrival_handle ys ++ drop k w.column.handles)) (omega (arith, ys_long, rest, order)) in
    let all = opened_whole opening_rows opening_end opening_moved opening_left arrival_handle arrival_key KeepsOpening KeepsOpening-refl KeepsOpening-trans key (reverse p.index.marks) (length arrivals) last (reverse index.marks) v w front hole column.handles (record { rows_are = rows_is ∙ sym whole; gap_is = omega (arith, rest_long, length-drop n hs, can.enough); end_is = omega (arith, end_is, front_long); keyed = keyed }) (sym rest_long) (All-back (λ (m : Mark). m.position ≤ length front) p.index.marks inside) (Falling-reverse p.index.marks can.rising) (All-back (λ (m : Mark). Splits key m.bound.0 m.position front) p.index.marks splits) walk rows in
    let obeyed' = All-forth (λ (m : Mark). Splits key m.bound.0 m.position column.handles) index.marks all.obeyed in
    record {
      same = refl;
      permuted = subst (λ (xs : List Handle). IsPermutation (front ++ xs) column.handles) rest_is all.permuted;
      obeyed = λ k e j. divided-Splits key (get_or index.marks k e).bound.0 (get_or index.marks k e).position column.handles (obeyed' k e j);
      rising = rising;
      bounds = bounds-same index.marks p.index.marks all.bounds;
      keeps = put_after arrivals v.arrivals.now w.arrivals.now (w.to - w.end) p.column v.column w.column column (sym arrivals_is) (ap (λ (b : Bor (List Arrival)). b.now) all.also.arrivals) column_is all.also.rows keeps;
      rises = omega (arith, moved_is, all.also.moved);
      few = rw (length-reverse p.index.marks, rest_long, moved_is) at all.few;
      small = small;
    }
  where
    put_after : (arrivals xs ys : List Arrival) (k : ℕ) (a b c d : Column) → arrivals ≡ xs → ys ≡ xs → b ≡ a → KeepsPut xs b c → KeepsPut (take k ys) c d → KeepsPut arrivals a d
    put_after arrivals xs ys k a b c d same same' column one two =
        rw (same, ← column) (record {
          long = two.long ∙ one.long;
          room = two.room ∙ one.room;
          remembered = λ cells known r. two.remembered cells (All-take (IsKnown cells) k ys (subst (λ (zs : List Arrival). All (IsKnown cells) zs) (sym same') known)) (one.remembered cells known r);
        })
