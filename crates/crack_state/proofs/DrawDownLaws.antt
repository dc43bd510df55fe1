-- A column and its marks after the pull of a doomed row, step by step from the highest mark down.
use Rattle.std.proofs.Common.{◌≡◌, ◌≢◌, ℕ, zero, suc, ◌+◌, ◌-◌, ◌<◌, ◌≤◌, min, List, [], ◌∷◌, ◌++◌, map, length, take, drop, get_or, set, Some, None, refl, sym, ap, subst, ◌∙◌, inl, inr, arith}
use Rattle.std.specs.List.{All}
use Rattle.std.proofs.Math.Nat.{min-eq_left, min-eq_right}
use Rattle.std.proofs.lemmas.Bool.{cases_lt, lt-ltb, le-ltb, lt-leb, le-leb, ne_eqb, eq-eqb}
use Rattle.std.proofs.lemmas.List.{append-nil, append_assoc, length-append, length-set, length-drop, length-take-le, length_push, get_or_append_left, get_or_push, get_or_default, get_or-take, get_or-drop, set-append_left, set-append_right, set_at, set_split, take_at, drop_at, take_all, take_more, take-append-drop, take-append-le, drop-append-le, drop_all, map-append}
use Rattle.std.proofs.lemmas.List.Elements.{All-head, All-tail, All-nil, All-cons, All-push}
use Rattle.crack_arena.specs.Arena.{Handle, StandsAt, no_handle, same_handle}
use Rattle.crack_arena.specs.Rows.{key_at}
use Rattle.std.proofs.lemmas.List.Sums.{position_or_len_is}
use Rattle.crack_index.specs.declared.mark.Mark.{Mark}
use Rattle.crack_index.specs.Marks.{next_mark, last_mark, start_of, end_of, lowered, lowered_at}
use Rattle.crack_column.specs.Sifts.{one_if_some}
use Rattle.crack_column.specs.Drains.{place_of, turned_back, without, one_unless_last}
use Rattle.crack_state.specs.State.{State, Carried, greatest}
use Rattle.crack_state.specs.Steps.{more, pulled_back, exchanged, buried}
use Rattle.crack_state.proofs.Draws.{Draws, reaches, exchanges, draws, drawn_with, fallen, upward, pulled_down, drawn_down}
use Rattle.crack_state.proofs.PieceMarkLaws.{next_mark-skips}

-- a counter raised by this many, and by one more
more-min : (n k : ℕ) → more (min (n + k) greatest) ≡ min (n + (k + 1)) greatest
more-min n k = elim (cases_lt (n + k) greatest) [
  | inl l ↦
      let one : min (n + k) greatest ≡ n + k = min-eq_left (omega (arith, l)) in
      ap (λ m. min m greatest) (omega (arith, one))
  | inr l ↦
      let full : min (n + k) greatest ≡ greatest = min-eq_right l in
      min-eq_right (omega (arith, full)) ∙ sym (min-eq_right (omega (arith, l)))
]

-- the row is at a place, and no other handle of its cell is in the column
pub record IsOnlyAt (d : Handle) (hs : List Handle) (i : ℕ) : Type 0 where
  pub within : i < length hs
  pub is : get_or hs i no_handle ≡ d
  pub only : (k : ℕ) → k < length hs → (get_or hs k no_handle).slot ≡ d.slot → k ≡ i

pub place-only : (d : Handle) (hs : List Handle) (i : ℕ) → IsOnlyAt d hs i → place_of d hs ≡ i
place-only d hs i at =
    position_or_len_is (λ h. same_handle h d) hs i no_handle (omega (arith, at.within)) (λ k less. rw (ne_eqb (get_or hs k no_handle).slot d.slot (λ same. let e : k ≡ i = at.only k (omega (arith, less, at.within)) same in absurd (omega (arith, e, less)))) refl) (λ within. rw (at.is, eq-eqb d.slot d.slot refl, eq-eqb d.generation d.generation refl) refl)

-- the list once the last takes the place of a row
without-last : (d : Handle) (rows : List Handle) (z : Handle) (i : ℕ) → IsOnlyAt d (rows ++ z ∷ []) i → without d (rows ++ z ∷ []) ≡ take (length rows) (set (rows ++ z ∷ []) i z)
without-last d rows z i at =
    let short : length (rows ++ z ∷ []) - 1 ≡ length rows = omega (arith, length_push rows z) in
    let same : get_or (rows ++ z ∷ []) (length rows) no_handle ≡ z = get_or_push rows z no_handle (length rows) refl in
    rw (short, same, place-only d (rows ++ z ∷ []) i at) refl

without-before : (d : Handle) (rows : List Handle) (z : Handle) (i : ℕ) → IsOnlyAt d (rows ++ z ∷ []) i → i < length rows → without d (rows ++ z ∷ []) ≡ set rows i z
without-before d rows z i at before =
    without-last d rows z i at ∙ ap (take (length rows)) (set-append_left rows (z ∷ []) i z before) ∙ take_at (set rows i z) (z ∷ []) (length rows) (length-set rows i z)

without-itself : (d : Handle) (rows : List Handle) (z : Handle) (i : ℕ) → IsOnlyAt d (rows ++ z ∷ []) i → i ≡ length rows → without d (rows ++ z ∷ []) ≡ rows
without-itself d rows z i at last =
    without-last d rows z i at ∙ ap (take (length rows)) (set_at rows z [] z i (sym last)) ∙ take_at rows (z ∷ []) (length rows) refl

one-before : (d : Handle) (rows : List Handle) (z : Handle) (i : ℕ) → IsOnlyAt d (rows ++ z ∷ []) i → i < length rows → one_unless_last d (rows ++ z ∷ []) ≡ 1
one-before d rows z i at before = rw (place-only d (rows ++ z ∷ []) i at, lt-ltb (i + 1) (length (rows ++ z ∷ [])) (omega (arith, before, length_push rows z))) refl

one-itself : (d : Handle) (rows : List Handle) (z : Handle) (i : ℕ) → IsOnlyAt d (rows ++ z ∷ []) i → i ≡ length rows → one_unless_last d (rows ++ z ∷ []) ≡ 0
one-itself d rows z i at last = rw (place-only d (rows ++ z ∷ []) i at, le-ltb (i + 1) (length (rows ++ z ∷ [])) (omega (arith, last, length_push rows z))) refl

IsOnlyAt-drop : (d : Handle) (all : List Handle) (i p : ℕ) → p ≤ i → IsOnlyAt d all i → IsOnlyAt d (drop p all) (i - p)
IsOnlyAt-drop d all i p from at =
    let long = length-drop p all in
    let back : p + (i - p) ≡ i = omega (arith, from) in
    record {
      within = omega (arith, long, from, at.within);
      is = get_or-drop p all (i - p) no_handle ∙ ap (λ n. get_or all n no_handle) back ∙ at.is;
      only = λ k within same.
          let there : p + k ≡ i = at.only (p + k) (omega (arith, within, long)) (rw (get_or-drop p all k no_handle) at same) in
          omega (arith, there);
    }

IsOnlyAt-take : (d : Handle) (all : List Handle) (i p : ℕ) → i < p → p ≤ length all → IsOnlyAt d all i → IsOnlyAt d (take p all) i
IsOnlyAt-take d all i p before few at =
    let long = length-take-le p all few in
    record {
      within = omega (arith, long, before);
      is = get_or-take p all i no_handle before ∙ at.is;
      only = λ k within same. at.only k (omega (arith, within, long, few)) (rw (get_or-take p all k no_handle (omega (arith, within, long))) at same);
    }

-- the part of the list from a place on
without-part : (d : Handle) (rows : List Handle) (z : Handle) (i p : ℕ) → p ≤ length rows → p ≤ i → IsOnlyAt d (rows ++ z ∷ []) i → (without d (rows ++ z ∷ []) ≡ take p (rows ++ z ∷ []) ++ without d (drop p (rows ++ z ∷ []))) × (one_unless_last d (rows ++ z ∷ []) ≡ one_unless_last d (drop p (rows ++ z ∷ [])))
without-part d rows z i p few from at =
    let front : take p (rows ++ z ∷ []) ≡ take p rows = take-append-le p rows (z ∷ []) few in
    let back : drop p (rows ++ z ∷ []) ≡ drop p rows ++ z ∷ [] = drop-append-le p rows (z ∷ []) few in
    let part : IsOnlyAt d (drop p rows ++ z ∷ []) (i - p) = rw back at (IsOnlyAt-drop d (rows ++ z ∷ []) i p from at) in
    let long = length-drop p rows in
    let whole = take-append-drop p rows in
    elim (cases_lt i (length rows)) [
      | inl before ↦
          let put : set rows i z ≡ take p rows ++ set (drop p rows) (i - p) z = ap (λ hs. set hs i z) (sym whole) ∙ set-append_right (take p rows) (drop p rows) p i z (length-take-le p rows few) from in (
            without-before d rows z i at before ∙ put ∙ rw (front, back, without-before d (drop p rows) z (i - p) part (omega (arith, long, before, from))) refl,
            one-before d rows z i at before ∙ sym (ap (one_unless_last d) back ∙ one-before d (drop p rows) z (i - p) part (omega (arith, long, before, from))),
          )
      | inr behind ↦
          let last : i ≡ length rows = omega (arith, behind, at.within, length_push rows z) in (
            without-itself d rows z i at last ∙ sym whole ∙ rw (front, back, without-itself d (drop p rows) z (i - p) part (omega (arith, long, last))) refl,
            one-itself d rows z i at last ∙ sym (ap (one_unless_last d) back ∙ one-itself d (drop p rows) z (i - p) part (omega (arith, long, last))),
          )
    ]

-- The marks

-- the last mark at or below a key, before those above it
last_mark-none : (k : ℕ) (upper : List Mark) → All (λ m. k < m.bound.0) upper → last_mark k upper ≡ None
last_mark-none k [] over = refl
last_mark-none k (m ∷ ms) over = rw (lt-leb m.bound.0 k (All-head (λ n. k < n.bound.0) m ms over)) refl

last_mark-at : (k : ℕ) (ms : List Mark) (m : Mark) (upper : List Mark) → All (λ n. n.bound.0 ≤ k) ms → m.bound.0 ≤ k → All (λ n. k < n.bound.0) upper → last_mark k (ms ++ m ∷ upper) ≡ Some m
last_mark-at k [] m upper low here over = rw (le-leb m.bound.0 k here, last_mark-none k upper over) refl
last_mark-at k (n ∷ ns) m upper low here over =
    rw (le-leb n.bound.0 k (All-head (λ x. x.bound.0 ≤ k) n ns low), last_mark-at k ns m upper (All-tail (λ x. x.bound.0 ≤ k) n ns low) here over) refl

ends-behind : (k len least : ℕ) (upper : List Mark) → All (λ m. (least ≤ m.position) × (k < m.bound.0)) upper → least ≤ len → least ≤ end_of len (next_mark k upper)
ends-behind k len least [] over few = few
ends-behind k len least (m ∷ ms) over few =
    let one = All-head (λ n. (least ≤ n.position) × (k < n.bound.0)) m ms over in
    rw (lt-ltb k m.bound.0 one.1) one.0

lowered-low : (high place : ℕ) (ms : List Mark) → All (λ m. m.bound.0 ≤ high) ms → map (lowered high place) ms ≡ map (lowered_at place) ms
lowered-low high place [] low = refl
lowered-low high place (m ∷ ms) low = rw (le-leb m.bound.0 high (All-head (λ n. n.bound.0 ≤ high) m ms low), lowered-low high place ms (All-tail (λ n. n.bound.0 ≤ high) m ms low)) refl

lowered-over : (high place : ℕ) (ms : List Mark) → All (λ m. high < m.bound.0) ms → map (lowered high place) ms ≡ ms
lowered-over high place [] over = refl
lowered-over high place (m ∷ ms) over = rw (lt-leb m.bound.0 high (All-head (λ n. high < n.bound.0) m ms over), lowered-over high place ms (All-tail (λ n. high < n.bound.0) m ms over)) refl

pub lowered_at-before : (place : ℕ) (ms : List Mark) → All (λ m. m.position < place) ms → map (lowered_at place) ms ≡ ms
lowered_at-before place [] before = refl
lowered_at-before place (m ∷ ms) before =
    let first = All-head (λ n. n.position < place) m ms before in
    rw (ne_eqb m.position place (λ e. absurd (omega (arith, e, first))), lowered_at-before place ms (All-tail (λ n. n.position < place) m ms before)) refl

fallen-low : (k : ℕ) (ms : List Mark) → All (λ m. m.bound.0 ≤ k) ms → map (fallen k) ms ≡ ms
fallen-low k [] low = refl
fallen-low k (m ∷ ms) low = rw (le-ltb k m.bound.0 (All-head (λ n. n.bound.0 ≤ k) m ms low), fallen-low k ms (All-tail (λ n. n.bound.0 ≤ k) m ms low)) refl

All-upward : (P : Mark → Type 0) (ms : List Mark) → All P ms → All P (upward ms)
All-upward P [] all = all
All-upward P (m ∷ ms) all = push (upward ms) (All-upward P ms (All-tail P m ms all))
  where
    push : (ns : List Mark) → All P ns → All P (ns ++ m ∷ [])
    push [] none = All-cons P m [] (All-head P m ms all) (All-nil P)
    push (n ∷ ns) some = All-cons P n (ns ++ m ∷ []) (All-head P n ns some) (push ns (All-tail P n ns some))

module _ (key : Handle → ℕ) where
  -- the mark divides these rows
  pub record Divides (all : List Handle) (m : Mark) : Type 0 where
    pub within : m.position ≤ length all
    pub before : (k : ℕ) → k < m.position → key (get_or all k no_handle) < m.bound.0
    pub behind : (k : ℕ) → m.position ≤ k → k < length all → m.bound.0 ≤ key (get_or all k no_handle)

  -- the bound is above all keys of these rows, and is after them, but for the last
  pub record IsOver (all : List Handle) (m : Mark) : Type 0 where
    pub place : length all ≤ m.position + 1
    pub keys : (k : ℕ) → k < length all → key (get_or all k no_handle) < m.bound.0

  -- the marks, of which the highest comes first, divide the rows; those above are above all of them
  pub record AreBetween (ms upper : List Mark) (all : List Handle) : Type 0 where
    pub divides : All (Divides all) ms
    pub falls : (i j : ℕ) (e : Mark) → i < j → j < length ms → ((get_or ms j e).bound.0 ≤ (get_or ms i e).bound.0) × ((get_or ms j e).position ≤ (get_or ms i e).position)
    pub over : All (IsOver all) upper

  falls-head : (m : Mark) (ms upper : List Mark) (all : List Handle) → AreBetween (m ∷ ms) upper all → All (λ n. (n.bound.0 ≤ m.bound.0) × (n.position ≤ m.position)) ms
  falls-head m ms upper all are = λ k e within. are.falls zero (suc k) e (omega arith) (omega (arith, within))

  -- below the highest mark
  AreBetween-tail : (m : Mark) (ms upper upper' : List Mark) (all : List Handle) → AreBetween (m ∷ ms) upper all → All (IsOver (take m.position all)) upper' → AreBetween ms upper' (take m.position all)
  AreBetween-tail m ms upper upper' all are over =
      let first = All-head (Divides all) m ms are.divides in
      let long = length-take-le m.position all first.within in
      record {
        divides = λ k e within.
            let one = All-tail (Divides all) m ms are.divides k e within in
            let lower = falls-head m ms upper all are k e within in
            record {
              within = omega (arith, long, lower.1);
              before = λ j less. rw (get_or-take m.position all j no_handle (omega (arith, less, lower.1))) (one.before j less);
              behind = λ j from to. rw (get_or-take m.position all j no_handle (omega (arith, to, long))) (one.behind j from (omega (arith, to, long, first.within)));
            };
        falls = λ i j e less within. are.falls (suc i) (suc j) e (omega (arith, less)) (omega (arith, within));
        over = over;
      }

module _ (s : State) (d : Handle) where
  abbrev key : Handle → ℕ
  key h = key_at s.cells h

  -- the row is in hand, or is in the own piece of the hand
  here : (rows suf : List Handle) (marks : List Mark) (z : Handle) (n i : ℕ) → IsOnlyAt d (rows ++ z ∷ []) i → start_of (last_mark (key z) marks) ≤ i → length rows ≤ end_of (length (rows ++ suf)) (next_mark (key z) marks) → Draws d (drawn_with s (rows ++ suf) marks n z) (buried (drawn_with s (without d (rows ++ z ∷ []) ++ suf) marks (n + one_unless_last d (rows ++ z ∷ [])) d))
  here rows suf marks z n i at from to = elim (cases_lt i (length rows)) [
    | inl before ↦
        let c = drawn_with s (rows ++ suf) marks n z in
        let last : get_or (rows ++ z ∷ []) (length rows) no_handle ≡ z = get_or_push rows z no_handle (length rows) refl in
        let apart : z ≢ d = λ e. let there : length rows ≡ i = at.only (length rows) (omega (arith, length_push rows z)) (ap (λ (h : Handle). h.slot) (last ∙ e)) in absurd (omega (arith, there, before)) in
        let within : i < length (rows ++ suf) = omega (arith, before, length-append rows suf) in
        let stands_by : (e : Handle) → get_or (rows ++ suf) i e ≡ d = λ e. get_or_append_left rows suf e i before ∙ sym (get_or_append_left rows (z ∷ []) e i before) ∙ get_or_default (rows ++ z ∷ []) i e no_handle at.within ∙ at.is in
        let stands : StandsAt (rows ++ suf) i d = record { within = within; is = sym (stands_by d) } in
        let column : set (rows ++ suf) i z ≡ without d (rows ++ z ∷ []) ++ suf = set-append_left rows suf i z before ∙ ap (λ hs. hs ++ suf) (sym (without-before d rows z i at before)) in
        let one = one-before d rows z i at before in
        let same : exchanged i c ≡ drawn_with s (without d (rows ++ z ∷ []) ++ suf) marks (n + one_unless_last d (rows ++ z ∷ [])) d = rw (stands_by z, column, more-min s.tally.pulled n, one) refl in
        subst (λ (x : Carried). Draws d c (buried x)) same (exchanges c i apart stands from (omega (arith, before, to)))
    | inr behind ↦
        let c = drawn_with s (rows ++ suf) marks n z in
        let last : i ≡ length rows = omega (arith, behind, at.within, length_push rows z) in
        let is : z ≡ d = sym (get_or_push rows z no_handle i (sym last)) ∙ at.is in
        let none : n + 0 ≡ n = omega arith in
        let same : c ≡ drawn_with s (without d (rows ++ z ∷ []) ++ suf) marks (n + one_unless_last d (rows ++ z ∷ [])) d = rw (without-itself d rows z i at last, one-itself d rows z i at last, none, is) refl in
        subst (λ (x : Carried). Draws d c (buried x)) same (reaches c is)
  ]

  -- the pull so far, and its next step
  abbrev pub Leads : List Handle → List Mark → ℕ → Handle → List Handle → List Mark → ℕ → Type 0
  Leads column marks n z column' marks' n' = Draws d (drawn_with s column marks n z) (buried (drawn_with s column' marks' n' d))

  pub leads-same : (c : Carried) (column column' : List Handle) (marks marks' : List Mark) (n n' : ℕ) → column ≡ column' → marks ≡ marks' → n ≡ n' → Draws d c (buried (drawn_with s column marks n d)) → Draws d c (buried (drawn_with s column' marks' n' d))
  leads-same c column column' marks marks' n n' columns marks_same counts leads =
      subst (λ (x : Carried). Draws d c (buried x)) (λ i. drawn_with s (columns i) (marks_same i) (counts i) d) leads

  -- the marks below a place, and one at it
  up-and : (f : Mark → Mark) (ms : List Mark) (m m' : Mark) (upper : List Mark) → f m ≡ m' → map f (upward ms ++ m ∷ []) ++ upper ≡ map f (upward ms) ++ m' ∷ upper
  up-and f ms m m' upper same = rw (map-append f (upward ms) (m ∷ []), same) (append_assoc (map f (upward ms)) (m' ∷ []) upper)

  -- the mark one place before
  abbrev lower : Mark → Mark
  lower m = record m { position = m.position - 1 }

  -- the result of the pull, wherever it meets the highest of these marks
  abbrev pub Down : List Mark → Type 0
  Down ms = (rows suf : List Handle) (upper : List Mark) (z : Handle) (n i : ℕ) → AreBetween key ms upper (rows ++ z ∷ []) → IsOnlyAt d (rows ++ z ∷ []) i → Leads (rows ++ suf) (map (lowered_at (length rows + 1)) (upward ms) ++ upper) n z (pulled_down key d ms (rows ++ z ∷ []) ++ suf) (map (fallen (key d)) (upward ms) ++ upper) (n + drawn_down key d ms (rows ++ z ∷ []))

  over-hand : (ms : List Mark) (rows : List Handle) (upper : List Mark) (z : Handle) → AreBetween key ms upper (rows ++ z ∷ []) → All (λ m. (length rows ≤ m.position) × (key z < m.bound.0)) upper
  over-hand ms rows upper z are = λ k e h.
      let one = are.over k e h in
      let long = length_push rows z in
      (omega (arith, one.place, long), rw (get_or_push rows z no_handle (length rows) refl) at (one.keys (length rows) (omega (arith, long))))

  -- no mark is left below
  draws-lowest : (rows suf : List Handle) (upper : List Mark) (z : Handle) (n i : ℕ) → AreBetween key [] upper (rows ++ z ∷ []) → IsOnlyAt d (rows ++ z ∷ []) i → Leads (rows ++ suf) upper n z (without d (rows ++ z ∷ []) ++ suf) upper (n + one_unless_last d (rows ++ z ∷ []))
  draws-lowest rows suf upper z n i are at =
      let over = over-hand [] rows upper z are in
      here rows suf upper z n i at (rw (last_mark-none (key z) upper (λ k e h. (over k e h).1)) (omega arith)) (ends-behind (key z) (length (rows ++ suf)) (length rows) upper over (omega (arith, length-append rows suf)))

  -- the highest mark is at the end: the piece above it is empty
  draws-empty : (m : Mark) (ms : List Mark) → Down ms → (rows suf : List Handle) (upper : List Mark) (z : Handle) (n i : ℕ) → m.position ≡ length rows + 1 → AreBetween key (m ∷ ms) upper (rows ++ z ∷ []) → IsOnlyAt d (rows ++ z ∷ []) i → Leads (rows ++ suf) (map (lowered_at (length rows + 1)) (upward (m ∷ ms)) ++ upper) n z (pulled_down key d (m ∷ ms) (rows ++ z ∷ []) ++ suf) (map (fallen (key d)) (upward (m ∷ ms)) ++ upper) (n + drawn_down key d (m ∷ ms) (rows ++ z ∷ []))
  draws-empty m ms lower_down rows suf upper z n i end are at =
      let all : List Handle = rows ++ z ∷ [] in
      let long = length_push rows z in
      let first = All-head (Divides key all) m ms are.divides in
      let under : key d < m.bound.0 = rw at.is at (first.before i (omega (arith, end, long, at.within))) in
      let whole : take m.position all ≡ all = take_all m.position all (omega (arith, end, long)) in
      let none : drop m.position all ≡ [] = drop_all m.position all (omega (arith, end, long)) in
      let over : All (IsOver key all) (lower m ∷ upper) = All-cons (IsOver key all) (lower m) upper (record { place = omega (arith, end, long); keys = λ k h. first.before k (omega (arith, h, end, long)) }) are.over in
      let tail = AreBetween-tail key m ms upper (lower m ∷ upper) all are (rw (← whole) at over) in
      let rest = lower_down rows suf (lower m ∷ upper) z n i (rw whole at tail) at in
      let down : lowered_at (length rows + 1) m ≡ lower m = rw (eq-eqb m.position (length rows + 1) end) refl in
      let fell : fallen (key d) m ≡ lower m = rw (lt-ltb (key d) m.bound.0 under) refl in
      let before = up-and (lowered_at (length rows + 1)) ms m (lower m) upper down in
      let after = up-and (fallen (key d)) ms m (lower m) upper fell in
      let column : pulled_down key d ms all ++ suf ≡ pulled_down key d (m ∷ ms) all ++ suf = ap (λ hs. hs ++ suf) (rw (lt-ltb (key d) m.bound.0 under, whole, none) (sym (append-nil (pulled_down key d ms all)))) in
      let count : n + drawn_down key d ms all ≡ n + drawn_down key d (m ∷ ms) all = rw (lt-ltb (key d) m.bound.0 under, whole, none) (omega arith) in
      subst (λ (ns : List Mark). Draws d (drawn_with s (rows ++ suf) ns n z) (buried (drawn_with s (pulled_down key d (m ∷ ms) all ++ suf) (map (fallen (key d)) (upward (m ∷ ms)) ++ upper) (n + drawn_down key d (m ∷ ms) all) d))) (sym before)
      (leads-same (drawn_with s (rows ++ suf) (map (lowered_at (length rows + 1)) (upward ms) ++ lower m ∷ upper) n z) (pulled_down key d ms all ++ suf) (pulled_down key d (m ∷ ms) all ++ suf) (map (fallen (key d)) (upward ms) ++ lower m ∷ upper) (map (fallen (key d)) (upward (m ∷ ms)) ++ upper) (n + drawn_down key d ms all) (n + drawn_down key d (m ∷ ms) all) column (sym after) count rest)

  -- the highest mark is before the hand
  module _ (m : Mark) (ms : List Mark) (rows suf : List Handle) (upper : List Mark) (z : Handle) (n i : ℕ) (front : m.position ≤ length rows) (are : AreBetween key (m ∷ ms) upper (rows ++ z ∷ [])) (at : IsOnlyAt d (rows ++ z ∷ []) i) where
    abbrev all : List Handle
    all = rows ++ z ∷ []

    abbrev M : List Mark
    M = (upward ms ++ m ∷ []) ++ upper

    first : Divides key all m
    first = All-head (Divides key all) m ms are.divides

    above : m.bound.0 ≤ key z
    above = rw (get_or_push rows z no_handle (length rows) refl) at (first.behind (length rows) front (omega (arith, length_push rows z)))

    lows : All (λ x. (x.bound.0 ≤ m.bound.0) × (x.position ≤ m.position)) (upward ms)
    lows = All-upward (λ x. (x.bound.0 ≤ m.bound.0) × (x.position ≤ m.position)) ms (falls-head key m ms upper all are)

    lows-to : (k : ℕ) → m.bound.0 ≤ k → All (λ x. x.bound.0 ≤ k) (upward ms ++ m ∷ [])
    lows-to k from = All-push (λ x. x.bound.0 ≤ k) (upward ms) m (λ j e h. omega (arith, from, (lows j e h).0)) from

    over : All (λ x. (length rows ≤ x.position) × (key z < x.bound.0)) upper
    over = over-hand (m ∷ ms) rows upper z are

    next : last_mark (key z) M ≡ Some m
    next = ap (last_mark (key z)) (append_assoc (upward ms) (m ∷ []) upper) ∙ last_mark-at (key z) (upward ms) m upper (λ j e h. omega (arith, above, (lows j e h).0)) above (λ j e h. (over j e h).1)

    still : map (lowered_at (length rows + 1)) (upward (m ∷ ms)) ++ upper ≡ M
    still = ap (λ ns. ns ++ upper) (lowered_at-before (length rows + 1) (upward ms ++ m ∷ []) (All-push (λ x. x.position < length rows + 1) (upward ms) m (λ j e h. omega (arith, front, (lows j e h).1)) (omega (arith, front))))

    abbrev Done : List Mark → Type 0
    Done ns = Leads (rows ++ suf) ns n z (pulled_down key d (m ∷ ms) all ++ suf) (map (fallen (key d)) (upward (m ∷ ms)) ++ upper) (n + drawn_down key d (m ∷ ms) all)

    -- the row is of its piece
    draws-own : m.position ≤ i → Done M
    draws-own from =
        let c = drawn_with s (rows ++ suf) M n z in
        let low : m.bound.0 ≤ key d = rw at.is at (first.behind i from at.within) in
        let part = without-part d rows z i m.position front from at in
        let ends : length rows ≤ end_of (length (rows ++ suf)) (next_mark (key z) M) = rw (next_mark-skips (key z) (upward ms ++ m ∷ []) upper (lows-to (key z) above)) (ends-behind (key z) (length (rows ++ suf)) (length rows) upper over (omega (arith, length-append rows suf))) in
        let done = here rows suf M z n i at (rw next from) ends in
        let marks : M ≡ map (fallen (key d)) (upward (m ∷ ms)) ++ upper = ap (λ ns. ns ++ upper) (sym (fallen-low (key d) (upward ms ++ m ∷ []) (lows-to (key d) low))) in
        let column : without d all ++ suf ≡ pulled_down key d (m ∷ ms) all ++ suf = ap (λ hs. hs ++ suf) (rw (le-ltb (key d) m.bound.0 low) part.0) in
        let count : n + one_unless_last d all ≡ n + drawn_down key d (m ∷ ms) all = ap (λ k. n + k) (rw (le-ltb (key d) m.bound.0 low) part.1) in
        leads-same c (without d all ++ suf) (pulled_down key d (m ∷ ms) all ++ suf) M (map (fallen (key d)) (upward (m ∷ ms)) ++ upper) (n + one_unless_last d all) (n + drawn_down key d (m ∷ ms) all) column marks count done

    -- it is of a lower one: the hand is put before the piece, and the row that was there is in hand
    draws-on : Down ms → i < m.position → Done M
    draws-on lower_down before =
        let c = drawn_with s (rows ++ suf) M n z in
        let p : ℕ = m.position in
        let rows' : List Handle = take (p - 1) rows in
        let y : Handle = get_or rows (p - 1) no_handle in
        let suf' : List Handle = z ∷ (drop p rows ++ suf) in
        let long : length rows' ≡ p - 1 = length-take-le (p - 1) rows (omega (arith, front)) in
        let size : (p - 1) + 1 ≡ p = omega (arith, before) in
        let next_size : suc (p - 1) ≡ p = omega (arith, before) in
        let under : key d < m.bound.0 = rw at.is at (first.before i before) in
        let all' : rows' ++ y ∷ [] ≡ take p all = sym (take_more rows (p - 1) no_handle (omega (arith, front, before))) ∙ ap (λ k. take k rows) size ∙ sym (take-append-le p rows (z ∷ []) front) in
        let apart : z ≢ d = λ e. let there : length rows ≡ i = at.only (length rows) (omega (arith, length_push rows z)) (ap (λ (h : Handle). h.slot) (get_or_push rows z no_handle (length rows) refl ∙ e)) in absurd (omega (arith, there, before, front)) in
        let within : i < length rows = omega (arith, before, front) in
        let stands : StandsAt (rows ++ suf) i d = record { within = omega (arith, within, length-append rows suf); is = sym (get_or_append_left rows suf d i within ∙ sym (get_or_append_left rows (z ∷ []) d i within) ∙ get_or_default all i d no_handle at.within ∙ at.is) } in
        let column : set (rows ++ suf) (p - 1) z ≡ rows' ++ suf' = set-append_left rows suf (p - 1) z (omega (arith, front, before)) ∙ ap (λ hs. hs ++ suf) (set_split rows (p - 1) z (omega (arith, front, before)) ∙ ap (λ k. rows' ++ z ∷ drop k rows) next_size) ∙ append_assoc rows' (z ∷ drop p rows) suf in
        let hand : get_or (rows ++ suf) (p - 1) z ≡ y = get_or_append_left rows suf z (p - 1) (omega (arith, front, before)) ∙ get_or_default rows (p - 1) z no_handle (omega (arith, front, before)) in
        let m_down : lowered m.bound.0 p m ≡ lower m = rw (le-leb m.bound.0 m.bound.0 (omega arith), eq-eqb p p refl) refl in
        let ms_down : map (lowered m.bound.0 p) (upward ms) ≡ map (lowered_at p) (upward ms) = lowered-low m.bound.0 p (upward ms) (λ j e h. (lows j e h).0) in
        let upper_down : map (lowered m.bound.0 p) upper ≡ upper = lowered-over m.bound.0 p upper (λ j e h. omega (arith, above, (over j e h).1)) in
        let marks : map (lowered m.bound.0 p) M ≡ map (lowered_at (length rows' + 1)) (upward ms) ++ lower m ∷ upper =
        map-append (lowered m.bound.0 p) (upward ms ++ m ∷ []) upper ∙ ap (λ ns. map (lowered m.bound.0 p) (upward ms ++ m ∷ []) ++ ns) upper_down ∙ up-and (lowered m.bound.0 p) ms m (lower m) upper m_down ∙ ap (λ ns. ns ++ lower m ∷ upper) ms_down ∙ ap (λ k. map (lowered_at k) (upward ms) ++ lower m ∷ upper) (sym (omega (arith, long, size))) in
        let pulled : pulled_back c ≡ drawn_with s (rows' ++ suf') (map (lowered_at (length rows' + 1)) (upward ms) ++ lower m ∷ upper) (n + 1) y = rw (next, column, hand, marks, more-min s.tally.pulled n) refl in
        let over_here : All (IsOver key (take p all)) (lower m ∷ upper) = over_part in
        let tail = AreBetween-tail key m ms upper (lower m ∷ upper) all are over_here in
        let at' : IsOnlyAt d (take p all) i = IsOnlyAt-take d all i p before first.within at in
        let rest = lower_down rows' suf' (lower m ∷ upper) y (n + 1) i (rw (← all') at tail) (rw (← all') at at') in
        let fell : fallen (key d) m ≡ lower m = rw (lt-ltb (key d) m.bound.0 under) refl in
        let marks_after : map (fallen (key d)) (upward ms) ++ lower m ∷ upper ≡ map (fallen (key d)) (upward (m ∷ ms)) ++ upper = sym (up-and (fallen (key d)) ms m (lower m) upper fell) in
        let back : drop p all ≡ drop p rows ++ z ∷ [] = drop-append-le p rows (z ∷ []) front in
        let turned : turned_back (drop p all) ≡ z ∷ drop p rows = ap turned_back back ∙ turned-last (drop p rows) z in
        let some : one_if_some (drop p all) ≡ 1 = ap one_if_some back ∙ some-last (drop p rows) z in
        let column_after : pulled_down key d ms (rows' ++ y ∷ []) ++ suf' ≡ pulled_down key d (m ∷ ms) all ++ suf = ap (λ hs. pulled_down key d ms hs ++ suf') all' ∙ rw (lt-ltb (key d) m.bound.0 under, turned) (sym (append_assoc (pulled_down key d ms (take p all)) (z ∷ drop p rows) suf)) in
        let count_after : (n + 1) + drawn_down key d ms (rows' ++ y ∷ []) ≡ n + drawn_down key d (m ∷ ms) all = ap (λ hs. (n + 1) + drawn_down key d ms hs) all' ∙ rw (lt-ltb (key d) m.bound.0 under, some) (omega arith) in
        let T : Carried = drawn_with s (pulled_down key d ms (rows' ++ y ∷ []) ++ suf') (map (fallen (key d)) (upward ms) ++ lower m ∷ upper) ((n + 1) + drawn_down key d ms (rows' ++ y ∷ [])) d in
        let led : Draws d c (buried T) = draws c i (buried T) apart stands (rw next before) (subst (λ (x : Carried). Draws d x (buried T)) (sym pulled) rest) in
        leads-same c (pulled_down key d ms (rows' ++ y ∷ []) ++ suf') (pulled_down key d (m ∷ ms) all ++ suf) (map (fallen (key d)) (upward ms) ++ lower m ∷ upper) (map (fallen (key d)) (upward (m ∷ ms)) ++ upper) ((n + 1) + drawn_down key d ms (rows' ++ y ∷ [])) (n + drawn_down key d (m ∷ ms) all) column_after marks_after count_after led
      where
        -- the bound itself, and those above it, are above what is before its place
        over_part : All (IsOver key (take m.position all)) (lower m ∷ upper)
        over_part =
            let short = length-take-le m.position all first.within in
            All-cons (IsOver key (take m.position all)) (lower m) upper (record {
              place = omega (arith, short, before);
              keys = λ k h. rw (get_or-take m.position all k no_handle (omega (arith, h, short))) (first.before k (omega (arith, h, short)));
            }) (λ j e h. record {
              place = omega (arith, short, (over j e h).0, front);
              keys = λ k l. rw (get_or-take m.position all k no_handle (omega (arith, l, short))) ((are.over j e h).keys k (omega (arith, l, short, first.within)));
            })

        turned-last : (hs : List Handle) (x : Handle) → turned_back (hs ++ x ∷ []) ≡ x ∷ hs
        turned-last hs x =
            let short : length (hs ++ x ∷ []) - 1 ≡ length hs = omega (arith, length_push hs x) in
            rw (short, drop_at hs (x ∷ []) (length hs) refl, take_at hs (x ∷ []) (length hs) refl) refl

        some-last : (hs : List Handle) (x : Handle) → one_if_some (hs ++ x ∷ []) ≡ 1
        some-last [] x = refl
        some-last (h ∷ hs) x = refl

  pub draws-down : (ms : List Mark) → Down ms
  draws-down [] rows suf upper z n i are at = draws-lowest rows suf upper z n i are at
  draws-down (m ∷ ms) rows suf upper z n i are at = elim (cases_lt (length rows) m.position) [
    | inl end ↦
        let first = All-head (Divides key (rows ++ z ∷ [])) m ms are.divides in
        draws-empty m ms (draws-down ms) rows suf upper z n i (omega (arith, end, first.within, length_push rows z)) are at
    | inr front ↦ subst (Done m ms rows suf upper z n i front are at) (sym (still m ms rows suf upper z n i front are at)) (elim (cases_lt i m.position) [
      | inl before ↦ draws-on m ms rows suf upper z n i front are at (draws-down ms) before
      | inr from ↦ draws-own m ms rows suf upper z n i front are at from
    ])
  ]
