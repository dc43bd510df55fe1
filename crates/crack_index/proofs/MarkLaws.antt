-- What the marks of an index keep, whatever is done to them.
use Rattle.std.specs.Prelude.{◌≡◌, ◌≢◌, ◌⊎◌, ◌↔◌, ℕ, ◌+◌, ◌-◌, ◌<◌, ◌≤◌, List, [], ◌∷◌, map, length, All, Contains, Option, Some, None, unwrap_or, sum_by, refl}
use Rattle.std.proofs.Common.{zero, suc, get_or, leb, eqb, sym, ap, ◌∙◌, inl, inr, arith}
use Rattle.std.proofs.lemmas.Bool.{cases_eq, cases_lt, lt-ltb, le-ltb, lt-leb, le-leb, eq-eqb, ne_eqb, and_right}
use Rattle.std.proofs.lemmas.List.{get_or_default, length-map, get_or-map}
use Rattle.std.proofs.lemmas.List.Elements.{All-nil, All-cons, All-head, All-tail, All-contains, Contains-get_or}
use Rattle.std.proofs.lemmas.List.Sums.{sum_by-cons}
use Rattle.crack_row.specs.declared.Bound.{Bound}
use Rattle.crack_row.specs.declared.layout.PieceSize.{PieceSize}
use Rattle.crack_row.specs.Layouts.{AreJoined, LeadTo}
use Rattle.crack_index.specs.declared.mark.Mark.{Mark}
use Rattle.crack_index.specs.Marks.{InOrder, Rising, Fits, bounds_of, HasBound, position_of, next_mark, last_mark, first_after, last_before, start_of, end_of, size_between, pieces_from, with_mark, raised, lowered, lowered_at}
use Rattle.crack_index.specs.Steps.{one_up, one_down}

-- the default beyond the last mark
abbrev pub no_mark : Mark
no_mark = record { bound = record { 0 = 0 }; position = 0 }

-- Rising

pub Rising-tail : (m : Mark) (ms : List Mark) → Rising (m ∷ ms) → Rising ms
Rising-tail m ms rising = λ i j d h k. rising (suc i) (suc j) d (omega arith) (omega arith)

pub Rising-cons : (m : Mark) (ms : List Mark) → All (InOrder m) ms → Rising ms → Rising (m ∷ ms)
Rising-cons m ms above rising zero zero d h k = absurd (omega arith)
Rising-cons m ms above rising zero (suc j) d h k = above j d (omega arith)
Rising-cons m ms above rising (suc i) zero d h k = absurd (omega arith)
Rising-cons m ms above rising (suc i) (suc j) d h k = rising i j d (omega arith) (omega arith)

pub Rising-head : (m : Mark) (ms : List Mark) → Rising (m ∷ ms) → All (InOrder m) ms
Rising-head m ms rising = λ k d h. rising zero (suc k) d (omega arith) (omega arith)

-- of two marks of one index, that of the lower bound is at or before the other
pub Rising-positions : (marks : List Mark) (m n : Mark) → Rising marks → Contains marks m → Contains marks n → m.bound.0 ≤ n.bound.0 → m.position ≤ n.position
Rising-positions marks m n rising is_m is_n h =
    let at_m : get_or marks is_m.0 n ≡ m = get_or_default marks is_m.0 n m is_m.1 ∙ is_m.2 in
    let at_n : get_or marks is_n.0 n ≡ n = is_n.2 in
    elim (cases_lt is_m.0 is_n.0) [
      | inl l ↦ let o = rising is_m.0 is_n.0 n l is_n.1 in rw (at_m, at_n) at o.positions
      | inr l ↦ elim (cases_eq is_m.0 is_n.0) [
        | inl e ↦
            let same : m ≡ n = sym at_m ∙ ap (λ (i : ℕ). get_or marks i n) e ∙ at_n in
            rw same (omega arith)
        | inr ne ↦
            let o = rising is_n.0 is_m.0 n (omega arith) is_m.1 in
            let below : n.bound.0 < m.bound.0 = rw (at_m, at_n) at o.bounds in
            absurd (omega arith)
      ]
    ]

-- Bounds and their places

pub HasBound-mark : (marks : List Mark) (m : Mark) → Contains marks m → HasBound marks m.bound.0
HasBound-mark marks m is =
    let bound : Mark → ℕ = λ n. n.bound.0 in
    (is.0, omega (arith, length-map marks bound, is.1), get_or-map bound marks is.0 m m.bound.0 is.1 ∙ ap bound is.2)

-- a bound that is in the index is in one of the marks
pub HasBound-contains : (marks : List Mark) (b : ℕ) → HasBound marks b → (m : Mark) × Contains marks m × (m.bound.0 ≡ b)
HasBound-contains marks b there =
    let bound : Mark → ℕ = λ n. n.bound.0 in
    let short : there.0 < length marks = omega (arith, there.1, length-map marks bound) in
    (get_or marks there.0 no_mark, Contains-get_or marks there.0 no_mark short, sym (get_or-map bound marks there.0 no_mark b short) ∙ there.2)

-- where a mark's bound is
pub place_of-mark : (marks : List Mark) (m : Mark) → Rising marks → Contains marks m → position_of m.bound.0 marks ≡ m.position
place_of-mark [] m rising is = absurd (let h = is.1 in omega arith)
place_of-mark (n ∷ ns) m rising (zero, h, e) = rw (e, eq-eqb m.bound.0 m.bound.0 refl) refl
place_of-mark (n ∷ ns) m rising (suc i, h, e) =
    let o = rising zero (suc i) m (omega arith) h in
    let below : n.bound.0 < m.bound.0 = rw e at o.bounds in
    rw (ne_eqb n.bound.0 m.bound.0 (λ s. absurd (omega arith))) (place_of-mark ns m (Rising-tail n ns rising) (i, omega arith, e))

-- The neighbours of a number

-- the mark is that of the least bound above the number
pub record IsNext (number : ℕ) (marks : List Mark) (m : Mark) : Type 0 where
  pub above : number < m.bound.0
  pub listed : Contains marks m
  pub least : All (λ n. number < n.bound.0 → m.bound.0 ≤ n.bound.0) marks

-- the mark is that of the greatest bound at or below the number
pub record IsLast (number : ℕ) (marks : List Mark) (m : Mark) : Type 0 where
  pub below : m.bound.0 ≤ number
  pub listed : Contains marks m
  pub greatest : All (λ n. n.bound.0 ≤ number → n.bound.0 ≤ m.bound.0) marks

Contains-behind : (n : Mark) (ns : List Mark) (m : Mark) → Contains ns m → Contains (n ∷ ns) m
Contains-behind n ns m is = (suc is.0, omega (arith, is.1), is.2)

Contains-first : (n : Mark) (ns : List Mark) → Contains (n ∷ ns) n
Contains-first n ns = (zero, omega arith, refl)

pub next_mark-is : (number : ℕ) (marks : List Mark) (m : Mark) → Rising marks → next_mark number marks ≡ Some m → IsNext number marks m
next_mark-is number [] m rising found = absurd (cc)
next_mark-is number (n ∷ ns) m rising found = elim (cases_lt number n.bound.0) [
  | inl l ↦
      let one : Some n ≡ Some m = rw (lt-ltb number n.bound.0 l) at found in
      let same : n ≡ m = cc in
      rw (← same) (record {
        above = l;
        listed = Contains-first n ns;
        least = All-cons (λ x. number < x.bound.0 → n.bound.0 ≤ x.bound.0) n ns (λ h. omega arith) (λ k d h j. omega (arith, (Rising-head n ns rising k d h).bounds));
      })
  | inr l ↦
      let rest = next_mark-is number ns m (Rising-tail n ns rising) (rw (le-ltb number n.bound.0 l) at found) in
      record {
        above = rest.above;
        listed = Contains-behind n ns m rest.listed;
        least = All-cons (λ x. number < x.bound.0 → m.bound.0 ≤ x.bound.0) n ns (λ h. absurd (omega arith)) rest.least;
      }
]

-- if there is no next mark, no bound is above the number
pub next_mark-none : (number : ℕ) (marks : List Mark) → next_mark number marks ≡ None → All (λ m. m.bound.0 ≤ number) marks
next_mark-none number [] found = All-nil (λ m. m.bound.0 ≤ number)
next_mark-none number (n ∷ ns) found = elim (cases_lt number n.bound.0) [
  | inl l ↦ let one : Some n ≡ None = rw (lt-ltb number n.bound.0 l) at found in absurd (cc)
  | inr l ↦ All-cons (λ m. m.bound.0 ≤ number) n ns l (next_mark-none number ns (rw (le-ltb number n.bound.0 l) at found))
]

-- if there is no last mark, every bound is above the number
pub last_mark-none : (number : ℕ) (marks : List Mark) → Rising marks → last_mark number marks ≡ None → All (λ m. number < m.bound.0) marks
last_mark-none number [] rising found = All-nil (λ m. number < m.bound.0)
last_mark-none number (n ∷ ns) rising found = elim (cases_lt number n.bound.0) [
  | inl l ↦ All-cons (λ m. number < m.bound.0) n ns l (λ k d h. omega (arith, (Rising-head n ns rising k d h).bounds))
  | inr l ↦ let one = rw (le-leb n.bound.0 number l) at found in absurd (cc)
]

pub last_mark-is : (number : ℕ) (marks : List Mark) (m : Mark) → Rising marks → last_mark number marks ≡ Some m → IsLast number marks m
last_mark-is number [] m rising found = absurd (cc)
last_mark-is number (n ∷ ns) m rising found = elim (cases_lt number n.bound.0) [
  | inl l ↦ let one = rw (lt-leb n.bound.0 number l) at found in absurd (cc)
  | inr l ↦ by_rest (last_mark number ns) refl (rw (le-leb n.bound.0 number l) at found) l (λ e. last_mark-is number ns m (Rising-tail n ns rising) e)
]
  where
    by_rest : (o : Option Mark) → o ≡ last_mark number ns → Some (unwrap_or o n) ≡ Some m → n.bound.0 ≤ number → (last_mark number ns ≡ Some m → IsLast number ns m) → IsLast number (n ∷ ns) m
    by_rest None is one l _ =
        let same : n ≡ m = cc in
        let above = last_mark-none number ns (Rising-tail n ns rising) (sym is) in
        rw (← same) (record {
          below = l;
          listed = Contains-first n ns;
          greatest = All-cons (λ x. x.bound.0 ≤ number → x.bound.0 ≤ n.bound.0) n ns (λ h. omega arith) (λ k d h j. absurd (omega (arith, above k d h)));
        })
    by_rest (Some x) is one l others =
        let rest = others (sym is ∙ one) in
        record {
          below = rest.below;
          listed = Contains-behind n ns m rest.listed;
          greatest = All-cons (λ y. y.bound.0 ≤ number → y.bound.0 ≤ m.bound.0) n ns (λ h. omega (arith, below_of rest.listed)) rest.greatest;
        }
      where
        below_of : Contains ns m → n.bound.0 < m.bound.0
        below_of at = let o = Rising-head n ns rising at.0 m at.1 in rw at.2 at o.bounds

-- the piece of a number doesn't end before it begins
pub piece_order : (number len : ℕ) (marks : List Mark) → Rising marks → All (λ m. m.position ≤ len) marks → start_of (last_mark number marks) ≤ end_of len (next_mark number marks)
piece_order number len marks rising within = by_marks (last_mark number marks) (next_mark number marks) refl refl
  where
    by_marks : (low high : Option Mark) → low ≡ last_mark number marks → high ≡ next_mark number marks → start_of low ≤ end_of len high
    by_marks None high is_low is_high = omega arith
    by_marks (Some m) None is_low is_high =
        let last = last_mark-is number marks m rising (sym is_low) in
        All-contains (λ x. x.position ≤ len) marks m within last.listed
    by_marks (Some m) (Some n) is_low is_high =
        let last = last_mark-is number marks m rising (sym is_low) in
        let next = next_mark-is number marks n rising (sym is_high) in
        Rising-positions marks m n rising last.listed next.listed (omega (arith, last.below, next.above))

-- a bound that is put into its own piece fits
pub Fits-piece : (m : Mark) (len : ℕ) (marks : List Mark) → Rising marks → start_of (last_mark m.bound.0 marks) ≤ m.position → m.position ≤ end_of len (next_mark m.bound.0 marks) → Fits m marks
Fits-piece m len marks rising from to =
    record {
      behind = λ k d h below. behind (last_mark m.bound.0 marks) refl (get_or marks k d) (Contains-get_or marks k d h) below from;
      before = λ k d h above. before (next_mark m.bound.0 marks) refl (get_or marks k d) (Contains-get_or marks k d h) above to;
    }
  where
    behind : (low : Option Mark) → low ≡ last_mark m.bound.0 marks → (n : Mark) → Contains marks n → n.bound.0 < m.bound.0 → start_of low ≤ m.position → n.position ≤ m.position
    behind None is n listed below at = absurd (let above = All-contains (λ x. m.bound.0 < x.bound.0) marks n (last_mark-none m.bound.0 marks rising (sym is)) listed in omega arith)
    behind (Some l) is n listed below at =
        let last = last_mark-is m.bound.0 marks l rising (sym is) in
        let order = All-contains (λ x. x.bound.0 ≤ m.bound.0 → x.bound.0 ≤ l.bound.0) marks n last.greatest listed (omega arith) in
        omega (arith, at, Rising-positions marks n l rising listed last.listed order)

    before : (high : Option Mark) → high ≡ next_mark m.bound.0 marks → (n : Mark) → Contains marks n → m.bound.0 < n.bound.0 → m.position ≤ end_of len high → m.position ≤ n.position
    before None is n listed above at = absurd (let below = All-contains (λ x. x.bound.0 ≤ m.bound.0) marks n (next_mark-none m.bound.0 marks (sym is)) listed in omega arith)
    before (Some h) is n listed above at =
        let next = next_mark-is m.bound.0 marks h rising (sym is) in
        let order = All-contains (λ x. m.bound.0 < x.bound.0 → h.bound.0 ≤ x.bound.0) marks n next.least listed above in
        omega (arith, at, Rising-positions marks h n rising next.listed listed order)

-- Adding

pub Contains-added : (m : Mark) (marks : List Mark) → Contains (with_mark m marks) m
Contains-added m [] = Contains-first m []
Contains-added m (n ∷ ns) = elim (cases_lt m.bound.0 n.bound.0) [
  | inl l ↦ rw (lt-ltb m.bound.0 n.bound.0 l) (Contains-first m (n ∷ ns))
  | inr l ↦ rw (le-ltb m.bound.0 n.bound.0 l) (Contains-behind n (with_mark m ns) m (Contains-added m ns))
]

-- what holds of the new mark and of all others holds of all
pub All-added : (P : Mark → Type 0) (m : Mark) (marks : List Mark) → P m → All P marks → All P (with_mark m marks)
All-added P m [] one all = All-cons P m [] one all
All-added P m (n ∷ ns) one all = elim (cases_lt m.bound.0 n.bound.0) [
  | inl l ↦ rw (lt-ltb m.bound.0 n.bound.0 l) (All-cons P m (n ∷ ns) one all)
  | inr l ↦ rw (le-ltb m.bound.0 n.bound.0 l) (All-cons P n (with_mark m ns) (All-head P n ns all) (All-added P m ns one (All-tail P n ns all)))
]

-- a mark that was there is still there
pub Contains-kept : (m : Mark) (marks : List Mark) (n : Mark) → Contains marks n → Contains (with_mark m marks) n
Contains-kept m [] n is = absurd (let h = is.1 in omega arith)
Contains-kept m (x ∷ xs) n (zero, h, e) = elim (cases_lt m.bound.0 x.bound.0) [
  | inl l ↦ rw (lt-ltb m.bound.0 x.bound.0 l) (suc zero, omega arith, e)
  | inr l ↦ rw (le-ltb m.bound.0 x.bound.0 l) (zero, omega arith, e)
]
Contains-kept m (x ∷ xs) n (suc i, h, e) = elim (cases_lt m.bound.0 x.bound.0) [
  | inl l ↦ rw (lt-ltb m.bound.0 x.bound.0 l) (suc (suc i), omega arith, e)
  | inr l ↦ rw (le-ltb m.bound.0 x.bound.0 l) (Contains-behind x (with_mark m xs) n (Contains-kept m xs n (i, omega arith, e)))
]

-- a mark that is there is the new one, or was there
pub Contains-added_cases : (m : Mark) (marks : List Mark) (n : Mark) → Contains (with_mark m marks) n → (n ≡ m) ⊎ Contains marks n
Contains-added_cases m marks n is = All-contains (λ x. (x ≡ m) ⊎ Contains marks x) (with_mark m marks) n (All-added (λ x. (x ≡ m) ⊎ Contains marks x) m marks (inl refl) (λ k d h. inr (Contains-get_or marks k d h))) is

pub HasBound-added : (m : Mark) (marks : List Mark) (b : ℕ) → HasBound (with_mark m marks) b ↔ ((b ≡ m.bound.0) ⊎ HasBound marks b)
HasBound-added m marks b = (
  λ there.
      let at = HasBound-contains (with_mark m marks) b there in
      elim (Contains-added_cases m marks at.0 at.1) [
        | inl e ↦ inl (sym at.2 ∙ ap (λ (x : Mark). x.bound.0) e)
        | inr is ↦ inr (rw at.2 at (HasBound-mark marks at.0 is))
      ],
  λ case. elim case [
    | inl e ↦ rw e (HasBound-mark (with_mark m marks) m (Contains-added m marks))
    | inr there ↦
        let at = HasBound-contains marks b there in
        rw at.2 at (HasBound-mark (with_mark m marks) at.0 (Contains-kept m marks at.0 at.1))
  ],
)

-- a mark that fits, and whose bound wasn't there, keeps the order
pub Rising-added : (m : Mark) (marks : List Mark) → Rising marks → (HasBound marks m.bound.0 → ⊥) → Fits m marks → Rising (with_mark m marks)
Rising-added m [] rising absent fits = Rising-cons m [] (All-nil (InOrder m)) rising
Rising-added m (n ∷ ns) rising absent fits = elim (cases_lt m.bound.0 n.bound.0) [
  | inl l ↦
      let above : All (λ x. m.bound.0 < x.bound.0) (n ∷ ns) = All-cons (λ x. m.bound.0 < x.bound.0) n ns l (λ k d h. omega (arith, (Rising-head n ns rising k d h).bounds)) in
      rw (lt-ltb m.bound.0 n.bound.0 l) (Rising-cons m (n ∷ ns) (λ k d h. record { bounds = above k d h; positions = fits.before k d h (above k d h) }) rising)
  | inr l ↦
      let apart : n.bound.0 ≢ m.bound.0 = λ e. absent (rw e at (HasBound-mark (n ∷ ns) n (Contains-first n ns))) in
      let below : n.bound.0 < m.bound.0 = omega (arith, apart) in
      let first : InOrder n m = record { bounds = below; positions = fits.behind zero n (omega arith) below } in
      let rest = Rising-added m ns (Rising-tail n ns rising) (λ there. absent (HasBound-behind there)) (record {
        behind = All-tail (λ x. x.bound.0 < m.bound.0 → x.position ≤ m.position) n ns fits.behind;
        before = All-tail (λ x. m.bound.0 < x.bound.0 → m.position ≤ x.position) n ns fits.before;
      }) in
      rw (le-ltb m.bound.0 n.bound.0 l) (Rising-cons n (with_mark m ns) (All-added (InOrder n) m ns first (Rising-head n ns rising)) rest)
]
  where
    HasBound-behind : HasBound ns m.bound.0 → HasBound (n ∷ ns) m.bound.0
    HasBound-behind there = (suc there.0, omega (arith, there.1), there.2)

-- Moving

-- a bound moves up only where it is at the place and is `low` or above
pub raised_cases : (low place : ℕ) (m : Mark) → ((low ≤ m.bound.0) × (m.position ≡ place) × (raised low place m ≡ one_up m)) ⊎ ((raised low place m ≡ m) × ((low ≤ m.bound.0) → m.position ≡ place → ⊥))
raised_cases low place m =
    elim (cases_lt m.bound.0 low) [
      | inl l ↦ inr (rw (lt-leb low m.bound.0 l) refl, λ h e. omega arith)
      | inr l ↦ elim (cases_eq m.position place) [
        | inl e ↦ inl (l, e, rw (le-leb low m.bound.0 l, eq-eqb m.position place e) refl)
        | inr ne ↦ inr (rw (and_right (leb low m.bound.0) (eqb m.position place) (ne_eqb m.position place ne)) refl, λ h e. ne e)
      ]
    ]

-- a bound moves down only where it is at the place and is `high` or below
pub lowered_cases : (high place : ℕ) (m : Mark) → ((m.bound.0 ≤ high) × (m.position ≡ place) × (lowered high place m ≡ one_down m)) ⊎ ((lowered high place m ≡ m) × ((m.bound.0 ≤ high) → m.position ≡ place → ⊥))
lowered_cases high place m =
    elim (cases_lt high m.bound.0) [
      | inl l ↦ inr (rw (lt-leb m.bound.0 high l) refl, λ h e. omega arith)
      | inr l ↦ elim (cases_eq m.position place) [
        | inl e ↦ inl (l, e, rw (le-leb m.bound.0 high l, eq-eqb m.position place e) refl)
        | inr ne ↦ inr (rw (and_right (leb m.bound.0 high) (eqb m.position place) (ne_eqb m.position place ne)) refl, λ h e. ne e)
      ]
    ]

pub lowered_at_cases : (place : ℕ) (m : Mark) → ((m.position ≡ place) × (lowered_at place m ≡ one_down m)) ⊎ ((m.position ≢ place) × (lowered_at place m ≡ m))
lowered_at_cases place m =
    elim (cases_eq m.position place) [
      | inl e ↦ inl (e, rw (eq-eqb m.position place e) refl)
      | inr ne ↦ inr (ne, rw (ne_eqb m.position place ne) refl)
    ]

-- a change that keeps each bound keeps the list of them
pub bounds_of-map : (f : Mark → Mark) → ((m : Mark) → (f m).bound.0 ≡ m.bound.0) → (marks : List Mark) → bounds_of (map f marks) ≡ bounds_of marks
bounds_of-map f keeps [] = refl
bounds_of-map f keeps (m ∷ ms) = rw (keeps m, bounds_of-map f keeps ms) refl

pub bounds_of-raised : (low place : ℕ) (marks : List Mark) → bounds_of (map (raised low place) marks) ≡ bounds_of marks
bounds_of-raised low place marks = bounds_of-map (raised low place) (λ m. refl) marks

pub bounds_of-lowered : (high place : ℕ) (marks : List Mark) → bounds_of (map (lowered high place) marks) ≡ bounds_of marks
bounds_of-lowered high place marks = bounds_of-map (lowered high place) (λ m. refl) marks

pub bounds_of-lowered_at : (place : ℕ) (marks : List Mark) → bounds_of (map (lowered_at place) marks) ≡ bounds_of marks
bounds_of-lowered_at place marks = bounds_of-map (lowered_at place) (λ m. refl) marks

-- a change that keeps any two marks in order keeps them rising
pub Rising-map : (f : Mark → Mark) → ((m n : Mark) → InOrder m n → InOrder (f m) (f n)) → (marks : List Mark) → Rising marks → Rising (map f marks)
Rising-map f keeps marks rising = λ i j d h k.
    let short : j < length marks = omega (arith, length-map marks f) in
    rw (get_or-map f marks i d d (omega arith), get_or-map f marks j d d short)
    (keeps (get_or marks i d) (get_or marks j d) (rising i j d h short))

InOrder-raised : (low place : ℕ) (m n : Mark) → InOrder m n → InOrder (raised low place m) (raised low place n)
InOrder-raised low place m n o =
    let at : Mark → ℕ = λ x. x.position in
    record {
      bounds = o.bounds;
      positions = elim (raised_cases low place m) [
        | inl up ↦ elim (raised_cases low place n) [
          | inl too ↦ omega (arith, ap at up.2, ap at too.2, o.positions)
          | inr same ↦
              let apart : n.position ≢ place = λ e. same.1 (omega (arith, o.bounds)) e in
              omega (arith, ap at up.2, ap at same.0, o.positions)
        ]
        | inr stays ↦ elim (raised_cases low place n) [
          | inl too ↦ omega (arith, ap at stays.0, ap at too.2, o.positions)
          | inr same ↦ omega (arith, ap at stays.0, ap at same.0, o.positions)
        ]
      ];
    }

InOrder-lowered : (high place : ℕ) (m n : Mark) → InOrder m n → InOrder (lowered high place m) (lowered high place n)
InOrder-lowered high place m n o =
    let at : Mark → ℕ = λ x. x.position in
    record {
      bounds = o.bounds;
      positions = elim (lowered_cases high place m) [
        | inl down ↦ elim (lowered_cases high place n) [
          | inl too ↦ omega (arith, ap at down.2, ap at too.2, o.positions)
          | inr same ↦ omega (arith, ap at down.2, ap at same.0, o.positions)
        ]
        | inr stays ↦ elim (lowered_cases high place n) [
          | inl too ↦
              let apart : m.position ≢ place = λ e. stays.1 (omega (arith, o.bounds)) e in
              omega (arith, ap at stays.0, ap at too.2, o.positions)
          | inr same ↦ omega (arith, ap at stays.0, ap at same.0, o.positions)
        ]
      ];
    }

InOrder-lowered_at : (place : ℕ) (m n : Mark) → InOrder m n → InOrder (lowered_at place m) (lowered_at place n)
InOrder-lowered_at place m n o =
    let at : Mark → ℕ = λ x. x.position in
    record {
      bounds = o.bounds;
      positions = elim (lowered_at_cases place m) [
        | inl down ↦ elim (lowered_at_cases place n) [
          | inl too ↦ omega (arith, ap at down.1, ap at too.1, o.positions)
          | inr same ↦ omega (arith, ap at down.1, ap at same.1, o.positions)
        ]
        | inr stays ↦ elim (lowered_at_cases place n) [
          | inl too ↦ omega (arith, ap at stays.1, ap at too.1, o.positions)
          | inr same ↦ omega (arith, ap at stays.1, ap at same.1, o.positions)
        ]
      ];
    }

pub Rising-raised : (low place : ℕ) (marks : List Mark) → Rising marks → Rising (map (raised low place) marks)
Rising-raised low place marks rising = Rising-map (raised low place) (InOrder-raised low place) marks rising

pub Rising-lowered : (high place : ℕ) (marks : List Mark) → Rising marks → Rising (map (lowered high place) marks)
Rising-lowered high place marks rising = Rising-map (lowered high place) (InOrder-lowered high place) marks rising

pub Rising-lowered_at : (place : ℕ) (marks : List Mark) → Rising marks → Rising (map (lowered_at place) marks)
Rising-lowered_at place marks rising = Rising-map (lowered_at place) (InOrder-lowered_at place) marks rising

-- The neighbours of a number, once the bounds next to it moved past a place

-- a number at or above the bounds up to a place, and below those after it: its next mark is the first after the place, also
-- once bounds at the place moved up
pub next_mark-raised : (low place number : ℕ) (marks : List Mark) → All (λ m. m.position ≤ place → m.bound.0 ≤ number) marks → All (λ m. place < m.position → number < m.bound.0) marks → next_mark number (map (raised low place) marks) ≡ first_after place marks
next_mark-raised low place number [] up_to behind = refl
next_mark-raised low place number (m ∷ ms) up_to behind = elim (cases_lt place m.position) [
  | inl l ↦
      let above : number < m.bound.0 = behind zero m (omega arith) l in
      let stays : raised low place m ≡ m = rw (and_right (leb low m.bound.0) (eqb m.position place) (ne_eqb m.position place (λ e. absurd (omega arith)))) refl in
      rw (lt-ltb place m.position l, lt-ltb number m.bound.0 above) (ap (λ (x : Mark). Some x) stays)
  | inr l ↦
      let below : m.bound.0 ≤ number = up_to zero m (omega arith) l in
      rw (le-ltb place m.position l, le-ltb number m.bound.0 below)
      (next_mark-raised low place number ms (All-tail (λ x. x.position ≤ place → x.bound.0 ≤ number) m ms up_to) (All-tail (λ x. place < x.position → number < x.bound.0) m ms behind))
]

-- a number at or above the bounds before a place, and below those from it on: its last mark is the last before the place, also
-- once bounds at the place moved down
pub last_mark-lowered : (high place number : ℕ) (marks : List Mark) → All (λ m. m.position < place → m.bound.0 ≤ number) marks → All (λ m. place ≤ m.position → number < m.bound.0) marks → last_mark number (map (lowered high place) marks) ≡ last_before place marks
last_mark-lowered high place number [] before from = refl
last_mark-lowered high place number (m ∷ ms) before from = elim (cases_lt m.position place) [
  | inl l ↦
      let below : m.bound.0 ≤ number = before zero m (omega arith) l in
      let stays : lowered high place m ≡ m = rw (and_right (leb m.bound.0 high) (eqb m.position place) (ne_eqb m.position place (λ e. absurd (omega arith)))) refl in
      let rest = last_mark-lowered high place number ms (All-tail (λ x. x.position < place → x.bound.0 ≤ number) m ms before) (All-tail (λ x. place ≤ x.position → number < x.bound.0) m ms from) in
      rw (lt-ltb m.position place l, le-leb m.bound.0 number below, rest) (ap (λ (x : Mark). Some (unwrap_or (last_before place ms) x)) stays)
  | inr l ↦
      let above : number < m.bound.0 = from zero m (omega arith) l in
      rw (le-ltb m.position place l, lt-leb m.bound.0 number above) refl
]

-- the first mark after a place is there, also once bounds at the place moved up
pub first_after-kept : (low place : ℕ) (marks : List Mark) (m : Mark) → first_after place marks ≡ Some m → Contains (map (raised low place) marks) m
first_after-kept low place [] m found = absurd (cc)
first_after-kept low place (n ∷ ns) m found = elim (cases_lt place n.position) [
  | inl l ↦
      let one : Some n ≡ Some m = rw (lt-ltb place n.position l) at found in
      let same : n ≡ m = cc in
      let stays : raised low place n ≡ n = rw (and_right (leb low n.bound.0) (eqb n.position place) (ne_eqb n.position place (λ e. absurd (omega arith)))) refl in
      (zero, omega arith, stays ∙ same)
  | inr l ↦ Contains-behind (raised low place n) (map (raised low place) ns) m (first_after-kept low place ns m (rw (le-ltb place n.position l) at found))
]

-- the last mark before a place is there, also once bounds at the place moved down
pub last_before-kept : (high place : ℕ) (marks : List Mark) (m : Mark) → last_before place marks ≡ Some m → Contains (map (lowered high place) marks) m
last_before-kept high place [] m found = absurd (cc)
last_before-kept high place (n ∷ ns) m found = elim (cases_lt n.position place) [
  | inl l ↦ by_rest (last_before place ns) refl (rw (lt-ltb n.position place l) at found) l (λ e. last_before-kept high place ns m e)
  | inr l ↦ let none : None ≡ Some m = rw (le-ltb n.position place l) at found in absurd (cc)
]
  where
    by_rest : (o : Option Mark) → o ≡ last_before place ns → Some (unwrap_or o n) ≡ Some m → n.position < place → (last_before place ns ≡ Some m → Contains (map (lowered high place) ns) m) → Contains (map (lowered high place) (n ∷ ns)) m
    by_rest None is one l _ =
        let same : n ≡ m = cc in
        let stays : lowered high place n ≡ n = rw (and_right (leb n.bound.0 high) (eqb n.position place) (ne_eqb n.position place (λ e. absurd (omega arith)))) refl in
        (zero, omega arith, stays ∙ same)
    by_rest (Some x) is one l others = Contains-behind (lowered high place n) (map (lowered high place) ns) m (others (sym is ∙ one))

-- The sizes of the pieces

-- bounds that rise and lie between the ends make pieces that lead from one end to the other
LeadTo-pieces : (low : Bound) (from : ℕ) (marks : List Mark) (high : Bound) (to : ℕ) → low.0 ≤ high.0 → Rising marks → All (λ m. (low.0 ≤ m.bound.0) × (m.bound.0 ≤ high.0)) marks → LeadTo low.0 high.0 (pieces_from low from marks high to)
LeadTo-pieces low from [] high to order rising between = (refl, order, refl)
LeadTo-pieces low from (m ∷ ms) high to order rising between =
    let first = All-head (λ n. (low.0 ≤ n.bound.0) × (n.bound.0 ≤ high.0)) m ms between in
    let rest = All-tail (λ n. (low.0 ≤ n.bound.0) × (n.bound.0 ≤ high.0)) m ms between in
    let above = Rising-head m ms rising in
    (refl, first.0, LeadTo-pieces (record { 0 = m.bound.0 }) m.position ms high to first.1 (Rising-tail m ms rising) (λ k d h. (omega (arith, (above k d h).bounds), (rest k d h).1)))

-- and there is one piece at least
pub AreJoined-pieces : (low : Bound) (from : ℕ) (marks : List Mark) (high : Bound) (to : ℕ) → low.0 ≤ high.0 → Rising marks → All (λ m. (low.0 ≤ m.bound.0) × (m.bound.0 ≤ high.0)) marks → AreJoined low.0 high.0 (pieces_from low from marks high to)
AreJoined-pieces low from [] high to order rising between = LeadTo-pieces low from [] high to order rising between
AreJoined-pieces low from (m ∷ ms) high to order rising between = LeadTo-pieces low from (m ∷ ms) high to order rising between

-- the sizes add up to what lies between the ends
pub sum_of_sizes : (low : Bound) (from : ℕ) (marks : List Mark) (high : Bound) (to : ℕ) → Rising marks → All (λ m. from ≤ m.position) marks → All (λ m. m.position ≤ to) marks → from ≤ to → sum_by (λ (p : PieceSize). p.size) (pieces_from low from marks high to) + from ≡ to
sum_of_sizes low from [] high to rising above below h = omega arith
sum_of_sizes low from (m ∷ ms) high to rising above below h =
    let first : from ≤ m.position = above zero m (omega arith) in
    let last : m.position ≤ to = below zero m (omega arith) in
    let rest = sum_of_sizes (record { 0 = m.bound.0 }) m.position ms high to (Rising-tail m ms rising) (λ k d l. (Rising-head m ms rising k d l).positions) (All-tail (λ x. x.position ≤ to) m ms below) last in
    let size : PieceSize → ℕ = λ p. p.size in
    let step : sum_by size (pieces_from low from (m ∷ ms) high to) ≡ (m.position - from) + sum_by size (pieces_from (record { 0 = m.bound.0 }) m.position ms high to) = sum_by-cons size (size_between low from (record { 0 = m.bound.0 }) m.position) (pieces_from (record { 0 = m.bound.0 }) m.position ms high to) in
    omega (arith, rest, step)
