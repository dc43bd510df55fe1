-- The steps of a pull, and the step back to the pending insertions, keep a store intact.
use Rattle.std.proofs.Common.{◌≡◌, ℕ, zero, suc, ◌+◌, ◌-◌, ◌<◌, ◌≤◌, List, [], ◌∷◌, ◌++◌, map, length, get_or, set, take, Option, Some, None, refl, sym, ap, ◌∙◌, inl, inr, arith}
use Rattle.std.specs.List.{All, remove}
use Rattle.std.proofs.lemmas.Bool.{cases_eq, cases_lt}
use Rattle.std.proofs.lemmas.Bool.Decides.{nat_tests}
use Rattle.std.proofs.lemmas.List.{length-map, get_or-map, get_or_default, take-map, get_or-take, length-take-le}
use Rattle.std.proofs.lemmas.List.Elements.{All-map, All-push, All-cons, All-nil, All-get_or, All-head, All-take}
use Rattle.crack_arena.specs.Arena.{Handle, no_handle, times, slots}
use Rattle.crack_arena.specs.Rows.{key_at}
use Rattle.crack_arena.proofs.Times.{times-nil, times_other, times-map-append}
use Rattle.crack_index.specs.declared.mark.Mark.{Mark}
use Rattle.crack_index.specs.Marks.{Rising, last_mark, start_of, lowered, lowered_at, bounds_of}
use Rattle.crack_index.proofs.MarkLaws.{last_mark-is, lowered_cases, bounds_of-lowered, bounds_of-lowered_at, Rising-lowered, Rising-lowered_at}
use Rattle.crack_column.proofs.Divisions.{IsDividedAt-set_below, IsDividedAt-set_above, IsDividedAt-lowered, IsDividedAt-take}
use Rattle.crack_state.specs.State.{State, Carried, Reads, IsObeyed, IsIntact}
use Rattle.crack_state.proofs.Words.{Divides, column_keys}
use Rattle.crack_state.specs.Steps.{hand_key, piece_start, piece_end, lower_last, more, lifted_last, pulled_back, exchanged, returned}
use Rattle.crack_state.specs.Merge.{Follows}
use Rattle.crack_state.proofs.Counters.{IsCounted-evicted, IsCounted-pulled}
use Rattle.crack_state.proofs.OwnedLaws.{times-taken}
use Rattle.crack_state.proofs.PieceLaws.{cases_Option, AreMarks, AreMarks-intact, AreMarks-map, Divides-order, Divides-listed, piece_end-le, piece_end-before, piece_start-behind, bounds_up_to, bounds_up_to-less}
use Rattle.crack_state.proofs.StepLaws.{IsIntact-moved, IsIntact-put_at}

Divides-lowered : (keys : List ℕ) (x : ℕ) (low m : Mark) → 0 < low.position → low.bound.0 ≤ x → Divides keys low → Divides keys m → (m.bound.0 ≤ x → m.bound.0 ≤ low.bound.0) → Divides (set keys (low.position - 1) x) (lowered low.bound.0 low.position m)
Divides-lowered keys x low m inside above divides d greatest_below =
    let place = low.position in
    elim (lowered_cases low.bound.0 place m) [
      | inl down ↦ rw (ap (λ (x : Mark). x.position) down.2, ← down.1) (IsDividedAt-lowered m.bound.0 keys m.position x (omega arith) (omega arith) d)
      | inr same ↦ rw (ap (λ (x : Mark). x.position) same.0) (elim (cases_lt x m.bound.0) [
        | inl l ↦ IsDividedAt-set_below m.bound.0 keys m.position (place - 1) x (omega (arith, Divides-order keys low m divides d (omega arith))) l d
        | inr l ↦
            let near : m.position < place = let u = Divides-order keys m low d divides (greatest_below l) in let v = same.1 (greatest_below l) in omega arith in
            IsDividedAt-set_above m.bound.0 keys m.position (place - 1) x (omega arith) l d
      ])
    ]

-- `pull_back`: the hand is put at the last place before its piece, and the bounds at or below its key that were there move down
Obeyed-lowered : (keys : List ℕ) (marks : List Mark) (x : ℕ) (low : Mark) → 0 < low.position → IsObeyed marks keys → All (λ m. m.bound.0 ≤ x → m.bound.0 ≤ low.bound.0) marks → low.bound.0 ≤ x → Divides keys low → IsObeyed (map (lowered low.bound.0 low.position) marks) (set keys (low.position - 1) x)
Obeyed-lowered keys marks x low inside obeyed greatest_below above divides =
    All-map (Divides (set keys (low.position - 1) x)) (lowered low.bound.0 low.position) marks
    (λ k d h. Divides-lowered keys x low (get_or marks k d) inside above divides (obeyed k d h) (greatest_below k d h))

Divides-lowered_at : (keys : List ℕ) (m : Mark) → 0 < length keys → Divides keys m → Divides (take (length keys - 1) keys) (lowered_at (length keys) m)
Divides-lowered_at keys m some d =
    let long : length (take (length keys - 1) keys) ≡ length keys - 1 = length-take-le (length keys - 1) keys (omega arith) in
    elim (cases_eq m.position (length keys)) [
      | inl e ↦
          let down : (lowered_at (length keys) m).position ≡ length keys - 1 = grind (arith, nat_tests) in
          record {
            within = omega arith;
            below = λ k h. rw (get_or-take (length keys - 1) keys k 0 (omega arith)) (d.below k (omega arith));
            above = λ k h j. absurd (omega arith);
          }
      | inr ne ↦
          let stays : (lowered_at (length keys) m).position ≡ m.position = grind (arith, nat_tests) in
          rw stays (IsDividedAt-take m.bound.0 keys m.position (length keys - 1) (omega (arith, d.within)) (omega arith) d)
    ]

-- `lift_last`: the last key is taken, and the bounds that were after it move down
Obeyed-lowered_at : (keys : List ℕ) (marks : List Mark) → 0 < length keys → IsObeyed marks keys → IsObeyed (map (lowered_at (length keys)) marks) (take (length keys - 1) keys)
Obeyed-lowered_at keys marks some obeyed =
    All-map (Divides (take (length keys - 1) keys)) (lowered_at (length keys)) marks (λ k d h. Divides-lowered_at keys (get_or marks k d) some (obeyed k d h))

bounds_of-lower_last : (o : Option Mark) (ms : List Mark) → bounds_of (lower_last o ms) ≡ bounds_of ms
bounds_of-lower_last None ms = refl
bounds_of-lower_last (Some m) ms = bounds_of-lowered m.bound.0 m.position ms

-- the hand, which isn't doomed, goes after the last pending insertion
pub IsIntact-returned : (c : Carried) → times c.hand.slot (slots c.store.pending_out) ≡ 0 → IsIntact c.store (c.hand ∷ []) → IsIntact (returned c) []
IsIntact-returned c kept intact =
    let s = c.store in
    let owned = intact.owned in
    let counts : (n : ℕ) → times n (slots (s.pending_in ++ c.hand ∷ [])) ≡ times n (slots s.pending_in) + times n (slots (c.hand ∷ [])) = λ n. times-map-append n (λ (h : Handle). h.slot) s.pending_in (c.hand ∷ []) in
    IsIntact-moved s (returned c) (c.hand ∷ []) [] refl
    (λ n. omega (arith, counts n, times-nil n))
    (λ n few. elim (cases_eq c.hand.slot n) [
      | inl e ↦ rw (← e) (omega (arith, kept))
      | inr ne ↦ omega (arith, few, times-nil n, times_other n c.hand.slot ne)
    ])
    owned.column_reads
    (All-push (Reads s.cells) s.pending_in c.hand owned.pending_reads (All-head (Reads s.cells) c.hand [] owned.hand_reads))
    (All-nil (Reads s.cells))
    (AreMarks-intact s (c.hand ∷ []) intact)
    (IsCounted-evicted s.tally intact.counted)
    intact

-- the column's last handle is taken into the hand
pub IsIntact-lifted_last : (s : State) → 0 < length s.column → IsIntact s [] → IsIntact (lifted_last s).store ((lifted_last s).hand ∷ [])
IsIntact-lifted_last s some intact =
    let owned = intact.owned in
    let hand = (lifted_last s).hand in
    let last = length s.column - 1 in
    let keys_len : length (column_keys s) ≡ length s.column = length-map s.column (key_at s.cells) in
    let shorter : take last s.column ≡ remove s.column last = rest_of s.column last (omega arith) in
    let counts : (n : ℕ) → times n (slots (take last s.column)) + times n (slots (hand ∷ [])) ≡ times n (slots s.column) = λ n. rw shorter (times-taken n s.column last hand (omega arith) (get_or_default s.column last no_handle hand (omega arith))) in
    IsIntact-moved s (lifted_last s).store [] (hand ∷ []) refl
    (λ n. omega (arith, counts n, times-nil n))
    (λ n few. omega (arith, few, counts n, times-nil n))
    (All-take (Reads s.cells) last s.column owned.column_reads)
    owned.pending_reads
    (All-cons (Reads s.cells) hand [] (All-get_or (Reads s.cells) s.column last no_handle (omega arith) owned.column_reads) (All-nil (Reads s.cells)))
    (AreMarks-map s.keys (map (key_at s.cells) (take last s.column)) (lowered_at (length s.column)) s.marks (λ x. refl) (rw (← take-map (key_at s.cells) last s.column, ← keys_len) (Obeyed-lowered_at (column_keys s) s.marks (omega arith) intact.obeyed)) (Rising-lowered_at (length s.column) s.marks intact.rising) intact.inside)
    intact.counted
    intact
  where
    -- without the last handle
    rest_of : (hs : List Handle) (last : ℕ) → length hs ≤ last + 1 → take last hs ≡ remove hs last
    rest_of [] zero short = refl
    rest_of [] (suc last) short = refl
    rest_of (h ∷ []) zero short = refl
    rest_of (h ∷ g ∷ hs) zero short = absurd (omega arith)
    rest_of (h ∷ hs) (suc last) short = ap (λ gs. h ∷ gs) (rest_of hs last (omega arith))

-- the hand is put at the last place before its own piece
pub IsIntact-pulled_back : (c : Carried) → 0 < piece_start c.store (hand_key c) → IsIntact c.store (c.hand ∷ []) → IsIntact (pulled_back c).store ((pulled_back c).hand ∷ [])
IsIntact-pulled_back c some intact =
    let s = c.store in
    let After : Option Mark → Type 0 = λ o. 0 < start_of o → (start_of o - 1 < length s.column) × AreMarks s.keys (set (column_keys s) (start_of o - 1) (hand_key c)) (lower_last o s.marks) in
    let both = cases_Option After (last_mark (hand_key c) s.marks) (λ none inside. absurd (omega arith)) (λ m found inside.
    let is_last = last_mark-is (hand_key c) s.marks m intact.rising found in
    let divides = Divides-listed (column_keys s) s.marks m intact.obeyed is_last.listed in
    (omega (arith, divides.within, length-map s.column (key_at s.cells)), AreMarks-map s.keys (set (column_keys s) (m.position - 1) (hand_key c)) (lowered m.bound.0 m.position) s.marks (λ x. refl) (Obeyed-lowered (column_keys s) s.marks (hand_key c) m inside intact.obeyed is_last.greatest is_last.below divides) (Rising-lowered m.bound.0 m.position s.marks intact.rising) intact.inside)) some in
    IsIntact-put_at (piece_start s (hand_key c) - 1) (lower_last (last_mark (hand_key c) s.marks) s.marks) (record s.tally { pulled = more s.tally.pulled }) c both.0 both.1 (IsCounted-pulled s.tally intact.counted) intact

-- the row that was before a piece is below the bound there
pub met_below : (s : State) (key : ℕ) (m : Mark) (met : Handle) → Rising s.marks → IsObeyed s.marks (column_keys s) → last_mark key s.marks ≡ Some m → 0 < m.position → met ≡ get_or s.column (m.position - 1) met → key_at s.cells met < m.bound.0
met_below s key m met rising obeyed found some read =
    let is_last = last_mark-is key s.marks m rising found in
    let divides = Divides-listed (column_keys s) s.marks m obeyed is_last.listed in
    let within : m.position - 1 < length s.column = omega (arith, divides.within, length-map s.column (key_at s.cells)) in
    let at : get_or (column_keys s) (m.position - 1) 0 ≡ key_at s.cells met = get_or-map (key_at s.cells) s.column (m.position - 1) met 0 within ∙ ap (key_at s.cells) (sym read) in
    rw (← at) (divides.below (m.position - 1) (omega arith))

-- after a pull_back fewer bounds are at or below the key in hand
pub bounds_up_to-pulled_back : (c : Carried) → 0 < piece_start c.store (hand_key c) → IsIntact c.store (c.hand ∷ []) → bounds_up_to (hand_key (pulled_back c)) (pulled_back c).store.marks < bounds_up_to (hand_key c) c.store.marks
bounds_up_to-pulled_back c some intact =
    let s = c.store in
    let Fewer : Option Mark → Type 0 = λ o. 0 < start_of o → bounds_up_to (key_at s.cells (get_or s.column (start_of o - 1) c.hand)) (lower_last o s.marks) < bounds_up_to (hand_key c) s.marks in
    cases_Option Fewer (last_mark (hand_key c) s.marks) (λ none inside. absurd (omega arith)) (λ m found inside.
    let is_last = last_mark-is (hand_key c) s.marks m intact.rising found in
    let within : m.position - 1 < length s.column = omega (arith, (Divides-listed (column_keys s) s.marks m intact.obeyed is_last.listed).within, length-map s.column (key_at s.cells)) in
    let met = get_or s.column (m.position - 1) c.hand in
    bounds_up_to-less m.bound.0 m.position (hand_key c) (key_at s.cells met) s.marks m is_last.listed.0 is_last.listed.1 is_last.listed.2 is_last.below (met_below s (hand_key c) m met intact.rising intact.obeyed found inside (get_or_default s.column (m.position - 1) c.hand met within))) some

-- the hand and a row of its own piece change places
pub IsIntact-exchanged : (place : ℕ) (c : Carried) → piece_start c.store (hand_key c) ≤ place → place < piece_end c.store (hand_key c) → IsIntact c.store (c.hand ∷ []) → IsIntact (exchanged place c).store ((exchanged place c).hand ∷ [])
IsIntact-exchanged place c above below intact =
    let s = c.store in
    let key = hand_key c in
    let within : place < length s.column = omega (arith, piece_end-le s key intact.rising intact.obeyed) in
    IsIntact-put_at place s.marks (record s.tally { pulled = more s.tally.pulled }) c within
    (record {
      obeyed = λ k d h.
          let m = get_or s.marks k d in
          elim (cases_lt key m.bound.0) [
            | inl l ↦ IsDividedAt-set_below m.bound.0 (column_keys s) m.position place key (omega (arith, piece_end-before s key k d intact.rising intact.obeyed h l)) l (intact.obeyed k d h)
            | inr l ↦ IsDividedAt-set_above m.bound.0 (column_keys s) m.position place key (omega (arith, piece_start-behind s key k d intact.rising intact.obeyed h l)) l (intact.obeyed k d h)
          ];
      rising = intact.rising;
      inside = intact.inside;
    })
    (IsCounted-pulled s.tally intact.counted)
    intact

pub Follows-lifted_last : (s : State) → Follows s (lifted_last s).store
Follows-lifted_last s = record { keys = refl; live = refl; bounds = bounds_of-lowered_at (length s.column) s.marks; cells = refl; freed = refl }

pub Follows-returned : (c : Carried) → Follows c.store (returned c)
Follows-returned c = record { keys = refl; live = refl; bounds = refl; cells = refl; freed = refl }

pub Follows-pulled_back : (c : Carried) → Follows c.store (pulled_back c).store
Follows-pulled_back c = record { keys = refl; live = refl; bounds = bounds_of-lower_last (last_mark (hand_key c) c.store.marks) c.store.marks; cells = refl; freed = refl }
