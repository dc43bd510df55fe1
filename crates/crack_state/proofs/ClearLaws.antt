-- If no pending deletion is among the first rows of its piece, as many as come in, no carry meets one.
use Rattle.std.proofs.Common.{◌≡◌, ℕ, zero, suc, ◌+◌, ◌-◌, ◌<◌, ◌≤◌, false, min, List, [], ◌∷◌, length, map, take, drop, get_or, Option, Some, None, refl, sym, ap, ◌∙◌, inl, inr, arith}
use Rattle.std.specs.Prelude.{unwrap_or}
use Rattle.std.specs.List.{All, between}
use Rattle.std.proofs.lemmas.Bool.{cases_Bool, cases_lt, lt-ltb, le-ltb, lt-leb, le-leb, ltb-true}
use Rattle.std.proofs.lemmas.List.{drop-drop, length-drop, length-take-le, get_or-take, get_or-drop, get_or_default}
use Rattle.std.proofs.lemmas.List.Edits.{length-between, get_or-between}
use Rattle.std.proofs.lemmas.List.Elements.{All-head, All-tail}
use Rattle.crack_arena.specs.Arena.{Handle, IsAbsent, no_handle, times, slots, place_in}
use Rattle.crack_arena.specs.Rows.{key_at}
use Rattle.crack_index.specs.declared.mark.Mark.{Mark}
use Rattle.crack_index.specs.Marks.{Rising, next_mark, last_mark, start_of, end_of}
use Rattle.crack_state.specs.State.{State, IsIntact}
use Rattle.crack_state.specs.Steps.{piece_start, piece_end}
use Rattle.crack_state.proofs.CellLaws.{stands_there}
use Rattle.crack_state.specs.Pieces.{cut}
use Rattle.crack_state.proofs.Divided.{AreDivided}
use Rattle.crack_state.specs.Carried.{is_doomed, ends_with, pieces_of}
use Rattle.crack_state.proofs.Sifts.{count_below, OfMet}
use Rattle.crack_state.proofs.CutLaws.{IsCut-intact}
use Rattle.crack_state.proofs.SiftLaws.{below_count, above_count}

-- no more are below a bound than there are
count-few : (key : Handle → ℕ) (low : ℕ) (xs : List Handle) → count_below key low xs ≤ length xs
count-few key low [] = omega arith
count-few key low (x ∷ xs) = elim (cases_lt (key x) low) [
  | inl under ↦ omega (arith, below_count key (λ h. false) low x xs under, count-few key low xs)
  | inr over ↦ omega (arith, above_count key (λ h. false) low x xs over, count-few key low xs)
]

-- no more are taken than asked for, nor than there are
take-few : (ys : List Handle) (n : ℕ) → length (take n ys) ≤ n
take-few ys zero = omega arith
take-few [] (suc n) = omega arith
take-few (y ∷ ys) (suc n) = omega (arith, take-few ys n)

length-take : (ys : List Handle) (n : ℕ) → length (take n ys) ≤ length ys
length-take ys zero = omega arith
length-take [] (suc n) = omega arith
length-take (y ∷ ys) (suc n) = omega (arith, length-take ys n)

-- where a piece begins that isn't the first: at the mark below it, or where the first of these marks' pieces begins
abbrev start_or : ℕ → Option Mark → ℕ
start_or place None = place
start_or place (Some m) = m.position

first_start : (m : Mark) (ms : List Mark) (k : ℕ) → k < m.bound.0 → last_mark k (m ∷ ms) ≡ None
first_start m ms k less = rw (lt-leb m.bound.0 k less) refl

first_end : (m : Mark) (ms : List Mark) (k : ℕ) → k < m.bound.0 → next_mark k (m ∷ ms) ≡ Some m
first_end m ms k less = rw (lt-ltb k m.bound.0 less) refl

-- the row isn't met: it is elsewhere than among the first rows of its piece
abbrev pub IsClear : ℕ → State → Handle → Type 0
IsClear count s h =
    let from = piece_start s (key_at s.cells h) in
    IsAbsent (between from (min (piece_end s (key_at s.cells h)) (from + count)) s.column) h

module _ (count : ℕ) (s : State) (intact : IsIntact s []) (clear : (k : ℕ) → k < length s.pending_out → IsClear count s (get_or s.pending_out k no_handle)) where
  abbrev key : Handle → ℕ
  key = key_at s.cells

  abbrev Goes : Handle → Type 0
  Goes h = ends_with None s h ≡ false

  -- a row that is among the first of its piece isn't doomed
  lasts : (h : Handle) (place from to : ℕ) → place < length s.column → get_or s.column place no_handle ≡ h → piece_start s (key h) ≡ from → piece_end s (key h) ≡ to → from ≤ place → place < from + count → place < to → to ≤ length s.column → Goes h
  lasts h place from to within here starts ends behind near before whole = elim (cases_Bool (is_doomed s h)) [
    | inr lasting ↦ rw lasting refl
    | inl doomed ↦
        let some : 0 < times h.slot (slots s.pending_out) = ltb-true 0 (times h.slot (slots s.pending_out)) doomed in
        let reads = rw here at (intact.owned.column_reads place no_handle within) in
        let stands = stands_there s.cells s.pending_out h reads intact.owned.doomed_reads some in
        let is : get_or s.pending_out (place_in s.pending_out h.slot) no_handle ≡ h = sym (stands.is ∙ get_or_default s.pending_out (place_in s.pending_out h.slot) h no_handle stands.within) in
        let absent : IsClear count s h = rw is at (clear (place_in s.pending_out h.slot) stands.within) in
        let gone : IsAbsent (between from (min to (from + count)) s.column) h = rw (starts, ends) at absent in
        let long = length-between s.column from (min to (from + count)) (omega (arith, whole)) in
        let shift : from + (place - from) ≡ place = omega (arith, behind) in
        let there : get_or (between from (min to (from + count)) s.column) (place - from) h ≡ h = get_or-between s.column from (min to (from + count)) (place - from) h (omega (arith, behind, near, before)) ∙ ap (λ n. get_or s.column n h) shift ∙ get_or_default s.column place h no_handle within ∙ here in
        absurd (gone (place - from) (record { within = omega (arith, long, behind, near, before); is = sym there }))
  ]

  -- what is known of the remaining marks: for a key at or above a bound, a look-up in them finds the same as in all marks
  record AreLeft (low place : ℕ) (ms : List Mark) : Type 0 where
    starts : (k : ℕ) → low ≤ k → start_of (last_mark k s.marks) ≡ start_or place (last_mark k ms)
    ends : (k : ℕ) → low ≤ k → end_of (length s.column) (next_mark k s.marks) ≡ end_of (length s.column) (next_mark k ms)
    order : All (λ m. place ≤ m.position) ms
    within : All (λ m. m.position ≤ length s.column) ms
    rising : Rising ms

  AreLeft-next : (low place : ℕ) (m : Mark) (ms : List Mark) → low ≤ m.bound.0 → AreLeft low place (m ∷ ms) → AreLeft m.bound.0 m.position ms
  AreLeft-next low place m ms above left = record {
    starts = λ k from. left.starts k (omega (arith, above, from)) ∙ next_start k from;
    ends = λ k from. left.ends k (omega (arith, above, from)) ∙ ap (end_of (length s.column)) (next_end k from);
    order = λ k d h. (left.rising zero (suc k) d (omega arith) (omega (arith, h))).positions;
    within = All-tail (λ n. n.position ≤ length s.column) m ms left.within;
    rising = λ i j d h k. left.rising (suc i) (suc j) d (omega (arith, h)) (omega (arith, k));
  }
    where
      by_last : (o : Option Mark) → start_or place (Some (unwrap_or o m)) ≡ start_or m.position o
      by_last None = refl
      by_last (Some n) = refl

      next_start : (k : ℕ) → m.bound.0 ≤ k → start_or place (last_mark k (m ∷ ms)) ≡ start_or m.position (last_mark k ms)
      next_start k from =
          let found : last_mark k (m ∷ ms) ≡ Some (unwrap_or (last_mark k ms) m) = rw (le-leb m.bound.0 k from) refl in
          ap (start_or place) found ∙ by_last (last_mark k ms)

      next_end : (k : ℕ) → m.bound.0 ≤ k → next_mark k (m ∷ ms) ≡ next_mark k ms
      next_end k from = rw (le-ltb k m.bound.0 from) refl

  of_met : (low place : ℕ) (ms : List Mark) (rows xs : List Handle) → length xs ≤ count → rows ≡ drop place s.column → place ≤ length s.column → AreLeft low place ms → AreDivided key low (cut place ms rows) → OfMet key Goes low xs (cut place ms rows)
  of_met low place [] rows xs few are inside left divided = λ k d h.
      let fits : k < length rows = omega (arith, h, length-take rows (count_below key low xs)) in
      let met : k < count = omega (arith, h, take-few rows (count_below key low xs), count-few key low xs, few) in
      let same : get_or (take (count_below key low xs) rows) k d ≡ get_or rows k d = get_or-take (count_below key low xs) rows k d (omega (arith, h, take-few rows (count_below key low xs))) in
      let row : Handle = get_or rows k d in
      let long : length rows ≡ length s.column - place = ap length are ∙ length-drop place s.column in
      let stands : get_or s.column (place + k) no_handle ≡ row = get_or_default s.column (place + k) no_handle d (omega (arith, fits, long, inside)) ∙ sym (get_or-drop place s.column k d) ∙ ap (λ ys. get_or ys k d) (sym are) in
      let own : low ≤ key row = divided k d fits in
      rw same (lasts row (place + k) place (length s.column) (omega (arith, fits, long, inside)) stands (left.starts (key row) own) (left.ends (key row) own) (omega arith) (omega (arith, met)) (omega (arith, fits, long, inside)) (omega arith))
  of_met low place (m ∷ ms) rows xs few are inside left divided =
      let n : ℕ = m.position - place in
      let high = All-head (λ x. place ≤ x.position) m ms left.order in
      let end = All-head (λ x. x.position ≤ length s.column) m ms left.within in
      let long : length rows ≡ length s.column - place = ap length are ∙ length-drop place s.column in
      let short : length (take n rows) ≡ n = length-take-le n rows (omega (arith, long, high, end)) in
      let here : All Goes (take (count_below key low xs) (take n rows)) = λ k d h.
      let piece : List Handle = take n rows in
      let fits : k < n = omega (arith, h, short, length-take piece (count_below key low xs)) in
      let met : k < count = omega (arith, h, take-few piece (count_below key low xs), count-few key low xs, few) in
      let same : get_or (take (count_below key low xs) piece) k d ≡ get_or rows k d = get_or-take (count_below key low xs) piece k d (omega (arith, h, take-few piece (count_below key low xs))) ∙ get_or-take n rows k d fits in
      let row : Handle = get_or rows k d in
      let stands : get_or s.column (place + k) no_handle ≡ row = get_or_default s.column (place + k) no_handle d (omega (arith, fits, high, end)) ∙ sym (get_or-drop place s.column k d) ∙ ap (λ ys. get_or ys k d) (sym are) in
      let own : (low ≤ key row) × (key row < m.bound.0) = rw (get_or-take n rows k d fits) at (divided.0 k d (omega (arith, fits, short))) in
      let starts : start_of (last_mark (key row) s.marks) ≡ place = left.starts (key row) own.0 ∙ ap (start_or place) (first_start m ms (key row) own.1) in
      let ends : end_of (length s.column) (next_mark (key row) s.marks) ≡ m.position = left.ends (key row) own.0 ∙ ap (end_of (length s.column)) (first_end m ms (key row) own.1) in
      rw same (lasts row (place + k) place m.position (omega (arith, fits, high, end)) stands starts ends (omega arith) (omega (arith, met)) (omega (arith, fits, high)) end) in
      let on : place + n ≡ m.position = omega (arith, high) in
      let rest : drop n rows ≡ drop m.position s.column = ap (drop n) are ∙ drop-drop n place s.column ∙ ap (λ k. drop k s.column) on in
      (here, of_met m.bound.0 m.position ms (drop n rows) xs few rest end (AreLeft-next low place m ms divided.1 left) divided.2)

  pub OfMet-clear : (xs : List Handle) → length xs ≤ count → OfMet key Goes 0 xs (pieces_of s)
  OfMet-clear xs few =
      let cut = IsCut-intact s [] intact in
      of_met 0 0 s.marks s.column xs few refl (omega arith) (record {
        starts = λ k from. by_start (last_mark k s.marks);
        ends = λ k from. refl;
        order = λ k d h. omega arith;
        within = λ k d h. omega (arith, (intact.obeyed k d h).within, length-keys s.column);
        rising = intact.rising;
      }) cut.divided
    where
      by_start : (o : Option Mark) → start_of o ≡ start_or 0 o
      by_start None = refl
      by_start (Some m) = refl

      length-keys : (hs : List Handle) → length (map key hs) ≡ length hs
      length-keys [] = refl
      length-keys (h ∷ hs) = ap suc (length-keys hs)
