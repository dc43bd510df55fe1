-- The own piece of a key, what its bounds are among the marks, and how a step of a carry keeps the bounds obeyed.
use Rattle.std.proofs.Common.{◌≡◌, ℕ, ◌<◌, ◌≤◌, List, [], ◌∷◌, ◌++◌, map, length, get_or, set, ap, inl, inr, arith, zero, suc, cond, ltb, leb, Option, Some, None, refl, sym, ◌∙◌}
use Rattle.std.specs.List.{All, Contains, sum_by}
use Rattle.std.specs.Prelude.{count_by, nat_le}
use Rattle.std.proofs.lemmas.Bool.{cases_lt}
use Rattle.std.proofs.lemmas.Bool.Decides.{nat_tests}
use Rattle.std.proofs.lemmas.List.Elements.{All-map}
use Rattle.crack_index.specs.declared.mark.Mark.{Mark}
use Rattle.crack_index.specs.Marks.{raised, Rising, lowered, next_mark, last_mark, start_of, end_of, bounds_of}
use Rattle.crack_index.proofs.MarkLaws.{raised_cases, next_mark-is, next_mark-none, last_mark-is, last_mark-none, bounds_of-raised}
use Rattle.crack_column.proofs.Divisions.{IsDividedAt-order, IsDividedAt-set_below, IsDividedAt-set_above, IsDividedAt-raised, IsDividedAt-append_above, IsDividedAt-append_below}
use Rattle.crack_state.specs.State.{IsObeyed, State, IsIntact}
use Rattle.crack_state.proofs.Words.{Divides, AreInside, column_keys}
use Rattle.std.proofs.lemmas.List.{length-map}
use Rattle.std.proofs.lemmas.List.Sums.{sum_by-cons}
use Rattle.crack_row.specs.Ranges.{Range}
use Rattle.crack_arena.specs.Arena.{Handle}
use Rattle.crack_arena.specs.Rows.{key_at}
use Rattle.crack_state.specs.Steps.{piece_start, piece_end, raise_next, bounds_above}

-- a bound above another is at or after it
pub Divides-order : (keys : List ℕ) (m n : Mark) → Divides keys m → Divides keys n → m.bound.0 ≤ n.bound.0 → m.position ≤ n.position
Divides-order keys m n d e h = IsDividedAt-order m.bound.0 n.bound.0 keys m.position n.position h d e

Divides-raised : (keys : List ℕ) (x : ℕ) (high m : Mark) → high.position < length keys → x < high.bound.0 → Divides keys high → Divides keys m → (x < m.bound.0 → high.bound.0 ≤ m.bound.0) → Divides (set keys high.position x) (raised high.bound.0 high.position m)
Divides-raised keys x high m inside above divides d least =
    let place = high.position in
    elim (raised_cases high.bound.0 place m) [
      | inl up ↦ rw (ap (λ (x : Mark). x.position) up.2, ← up.1) (IsDividedAt-raised m.bound.0 keys m.position x (omega arith) (omega arith) d)
      | inr same ↦ rw (ap (λ (x : Mark). x.position) same.0) (elim (cases_lt x m.bound.0) [
        | inl l ↦
            let far : place < m.position = let u = Divides-order keys high m divides d (least l) in let v = same.1 (least l) in omega arith in
            IsDividedAt-set_below m.bound.0 keys m.position place x far l d
        | inr l ↦ IsDividedAt-set_above m.bound.0 keys m.position place x (Divides-order keys m high d divides (omega arith)) l d
      ])
    ]

-- `push_on`: the hand is put where the piece of its key ends, and the bounds above its key that were there move up
pub Obeyed-raised : (keys : List ℕ) (marks : List Mark) (x : ℕ) (high : Mark) → high.position < length keys → IsObeyed marks keys → All (λ m. x < m.bound.0 → high.bound.0 ≤ m.bound.0) marks → x < high.bound.0 → Divides keys high → IsObeyed (map (raised high.bound.0 high.position) marks) (set keys high.position x)
Obeyed-raised keys marks x high inside obeyed least above divides =
    All-map (Divides (set keys high.position x)) (raised high.bound.0 high.position) marks
    (λ k d h. Divides-raised keys x high (get_or marks k d) inside above divides (obeyed k d h) (least k d h))

Divides-push_raised : (keys : List ℕ) (x : ℕ) (high m : Mark) → high.position ≡ length keys → Divides keys high → Divides keys m → (x < m.bound.0 → high.bound.0 ≤ m.bound.0) → x < high.bound.0 → Divides (keys ++ x ∷ []) (raised high.bound.0 high.position m)
Divides-push_raised keys x high m at_end divides d least above =
    elim (raised_cases high.bound.0 high.position m) [
      | inl up ↦
          let last : m.position ≡ length keys = omega arith in
          rw (ap (λ (x : Mark). x.position) up.2, last) (IsDividedAt-append_below m.bound.0 keys x (omega arith) (rw last at d))
      | inr same ↦ rw (ap (λ (x : Mark). x.position) same.0) (elim (cases_lt x m.bound.0) [
        | inl l ↦ absurd (same.1 (least l) (omega (arith, d.within, Divides-order keys high m divides d (least l))))
        | inr l ↦ IsDividedAt-append_above m.bound.0 keys m.position x l d
      ])
    ]

-- `append` if a bound above the key is at the end
pub Obeyed-push_raised : (keys : List ℕ) (marks : List Mark) (x : ℕ) (high : Mark) → high.position ≡ length keys → IsObeyed marks keys → All (λ m. x < m.bound.0 → high.bound.0 ≤ m.bound.0) marks → x < high.bound.0 → Divides keys high → IsObeyed (map (raised high.bound.0 high.position) marks) (keys ++ x ∷ [])
Obeyed-push_raised keys marks x high at_end obeyed least above divides =
    All-map (Divides (keys ++ x ∷ [])) (raised high.bound.0 high.position) marks
    (λ k d h. Divides-push_raised keys x high (get_or marks k d) at_end divides (obeyed k d h) (least k d h) above)

-- `append` if no bound is above the key
pub Obeyed-push : (keys : List ℕ) (marks : List Mark) (x : ℕ) → IsObeyed marks keys → All (λ m. m.bound.0 ≤ x) marks → IsObeyed marks (keys ++ x ∷ [])
Obeyed-push keys marks x obeyed low = λ k d h. IsDividedAt-append_above (get_or marks k d).bound.0 keys (get_or marks k d).position x (low k d h) (obeyed k d h)

-- a mark that is listed divides the keys
pub Divides-listed : (keys : List ℕ) (marks : List Mark) (m : Mark) → IsObeyed marks keys → Contains marks m → Divides keys m
Divides-listed keys marks m obeyed listed = rw (← listed.2) (obeyed listed.0 m listed.1)

pub bounds_of-raise_next : (o : Option Mark) (ms : List Mark) → bounds_of (raise_next o ms) ≡ bounds_of ms
bounds_of-raise_next None ms = refl
bounds_of-raise_next (Some m) ms = bounds_of-raised m.bound.0 m.position ms

-- marks with the same bounds are as many
pub length-bounds : (ms ns : List Mark) → bounds_of ms ≡ bounds_of ns → length ms ≡ length ns
length-bounds ms ns same = sym (length-map ms (λ (m : Mark). m.bound.0)) ∙ ap length same ∙ length-map ns (λ (m : Mark). m.bound.0)

-- marks that divide the keys of a column, in rising order and inside the partition
pub record AreMarks (keys : Range) (column : List ℕ) (marks : List Mark) : Type 0 where
  pub obeyed : IsObeyed marks column
  pub rising : Rising marks
  pub inside : AreInside keys marks

pub AreMarks-intact : (s : State) (hand : List Handle) → IsIntact s hand → AreMarks s.keys (column_keys s) s.marks
AreMarks-intact s hand intact = record { obeyed = intact.obeyed; rising = intact.rising; inside = intact.inside }

-- marks that moved, with their bounds
pub AreMarks-map : (keys : Range) (column : List ℕ) (f : Mark → Mark) (marks : List Mark) → ((m : Mark) → (f m).bound.0 ≡ m.bound.0) → IsObeyed (map f marks) column → Rising (map f marks) → AreInside keys marks → AreMarks keys column (map f marks)
AreMarks-map keys column f marks same obeyed rising inside =
    record { obeyed = obeyed; rising = rising; inside = All-map (λ (x : Mark). (keys.low < x.bound.0) × (x.bound.0 < keys.high)) f marks (λ k d h. rw (same (get_or marks k d)) (inside k d h)) }

-- what holds of an option, by its cases
pub cases_Option : {X : Type 0} (P : Option X → Type 0) (o : Option X) → (o ≡ None → P None) → ((x : X) → o ≡ Some x → P (Some x)) → P o
cases_Option P None none some = none refl
cases_Option P (Some x) none some = some x refl

-- where a piece ends is a place of the column, or its end
pub piece_end-le : (s : State) (key : ℕ) → Rising s.marks → IsObeyed s.marks (column_keys s) → piece_end s key ≤ length s.column
piece_end-le s key rising obeyed = cases_Option (λ o. end_of (length s.column) o ≤ length s.column) (next_mark key s.marks) (λ none. omega arith) (λ m found.
    omega (arith, (Divides-listed (column_keys s) s.marks m obeyed (next_mark-is key s.marks m rising found).listed).within, length-map s.column (key_at s.cells)))

-- where a piece begins is a place of the column, or its end
pub piece_start-le : (s : State) (key : ℕ) → Rising s.marks → IsObeyed s.marks (column_keys s) → piece_start s key ≤ length s.column
piece_start-le s key rising obeyed = cases_Option (λ o. start_of o ≤ length s.column) (last_mark key s.marks) (λ none. omega arith) (λ m found.
    omega (arith, (Divides-listed (column_keys s) s.marks m obeyed (last_mark-is key s.marks m rising found).listed).within, length-map s.column (key_at s.cells)))

-- where a bound above the key is, the key's piece has ended
pub piece_end-before : (s : State) (key k : ℕ) (d : Mark) → Rising s.marks → IsObeyed s.marks (column_keys s) → k < length s.marks → key < (get_or s.marks k d).bound.0 → piece_end s key ≤ (get_or s.marks k d).position
piece_end-before s key k d rising obeyed within above = cases_Option (λ o. end_of (length s.column) o ≤ (get_or s.marks k d).position) (next_mark key s.marks) (λ none. absurd (omega (arith, next_mark-none key s.marks none k d within))) (λ m found.
    let is_next = next_mark-is key s.marks m rising found in
    Divides-order (column_keys s) m (get_or s.marks k d) (Divides-listed (column_keys s) s.marks m obeyed is_next.listed) (obeyed k d within) (is_next.least k d within above))

-- where a bound at or below the key is, the key's piece hasn't begun
pub piece_start-behind : (s : State) (key k : ℕ) (d : Mark) → Rising s.marks → IsObeyed s.marks (column_keys s) → k < length s.marks → (get_or s.marks k d).bound.0 ≤ key → (get_or s.marks k d).position ≤ piece_start s key
piece_start-behind s key k d rising obeyed within below = cases_Option (λ o. (get_or s.marks k d).position ≤ start_of o) (last_mark key s.marks) (λ none. absurd (omega (arith, last_mark-none key s.marks rising none k d within))) (λ m found.
    let is_last = last_mark-is key s.marks m rising found in
    Divides-order (column_keys s) (get_or s.marks k d) m (obeyed k d within) (Divides-listed (column_keys s) s.marks m obeyed is_last.listed) (is_last.greatest k d within below))

-- a sum over marks falls if no mark counts for more and one counts for less
sum_by-moved_le : (f : Mark → Mark) (after before : Mark → ℕ) → ((m : Mark) → after (f m) ≤ before m) → (marks : List Mark) → sum_by after (map f marks) ≤ sum_by before marks
sum_by-moved_le f after before most [] = omega arith
sum_by-moved_le f after before most (n ∷ ns) = omega (arith, sum_by-cons after (f n) (map f ns), sum_by-cons before n ns, most n, sum_by-moved_le f after before most ns)

sum_by-moved_less : (f : Mark → Mark) (after before : Mark → ℕ) → ((m : Mark) → after (f m) ≤ before m) → (marks : List Mark) (m : Mark) (k : ℕ) → k < length marks → get_or marks k m ≡ m → after (f m) < before m → sum_by after (map f marks) < sum_by before marks
sum_by-moved_less f after before most [] m k h found less = absurd (omega arith)
sum_by-moved_less f after before most (n ∷ ns) m zero h found less =
    let here : after (f n) < before n = rw found less in
    omega (arith, sum_by-cons after (f n) (map f ns), sum_by-cons before n ns, here, sum_by-moved_le f after before most ns)
sum_by-moved_less f after before most (n ∷ ns) m (suc k) h found less =
    omega (arith, sum_by-cons after (f n) (map f ns), sum_by-cons before n ns, most n, sum_by-moved_less f after before most ns m k (omega arith) found less)

-- fewer bounds are above a key that is at or above the next bound
pub bounds_above-less : (low place key next : ℕ) (marks : List Mark) (m : Mark) (k : ℕ) → k < length marks → get_or marks k m ≡ m → key < m.bound.0 → m.bound.0 ≤ next → bounds_above next (map (raised low place) marks) < bounds_above key marks
bounds_above-less low place key next marks m k h found more below =
    sum_by-moved_less (raised low place) (λ (x : Mark). cond (ltb next x.bound.0) 1 0) (λ (x : Mark). cond (ltb key x.bound.0) 1 0) (λ x. grind (arith, nat_tests)) marks m k h found (grind (arith, nat_tests))

-- the number of bounds at or below a key
abbrev pub bounds_up_to : ℕ → List Mark → ℕ
bounds_up_to key marks = count_by (λ (m : Mark). nat_le m.bound.0 key) marks

-- fewer bounds are at or below a key that is below the last of them
pub bounds_up_to-less : (high place key next : ℕ) (marks : List Mark) (m : Mark) (k : ℕ) → k < length marks → get_or marks k m ≡ m → m.bound.0 ≤ key → next < m.bound.0 → bounds_up_to next (map (lowered high place) marks) < bounds_up_to key marks
bounds_up_to-less high place key next marks m k h found below more =
    sum_by-moved_less (lowered high place) (λ (x : Mark). cond (leb x.bound.0 next) 1 0) (λ (x : Mark). cond (leb x.bound.0 key) 1 0) (λ x. grind (arith, nat_tests)) marks m k h found (grind (arith, nat_tests))
