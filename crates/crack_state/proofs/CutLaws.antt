-- The pieces into which the marks of a column cut it.
use Rattle.std.proofs.Common.{◌≡◌, ℕ, ◌+◌, ◌-◌, ◌<◌, ◌≤◌, List, [], ◌∷◌, map, length, take, drop, get_or, refl, sym, arith}
use Rattle.std.specs.List.{All}
use Rattle.std.proofs.lemmas.List.{length-take-le, length-drop, length-map, take-append-drop, take_at, drop_at, get_or-take, get_or-drop, get_or-map}
use Rattle.std.proofs.lemmas.List.Elements.{All-head, All-tail}
use Rattle.crack_arena.specs.Arena.{Handle}
use Rattle.crack_arena.specs.Rows.{key_at}
use Rattle.crack_index.specs.declared.mark.Mark.{Mark}
use Rattle.crack_index.specs.Marks.{Rising}
use Rattle.crack_index.proofs.MarkLaws.{Rising-head, Rising-tail}
use Rattle.crack_state.specs.State.{State, IsIntact}
use Rattle.crack_state.specs.Pieces.{Pieces, last, below, column_of, marks_of, cut}
use Rattle.crack_state.proofs.Divided.{AreDivided}
use Rattle.crack_state.specs.Carried.{pieces_of}

module _ {X : Type 0} where
  pub column_of-cut : (place : ℕ) (marks : List Mark) (rows : List X) → column_of (cut place marks rows) ≡ rows
  column_of-cut place [] rows = refl
  column_of-cut place (m ∷ ms) rows = rw (column_of-cut m.position ms (drop (m.position - place) rows)) (take-append-drop (m.position - place) rows)

  pub marks_of-cut : (place : ℕ) (marks : List Mark) (rows : List X) → Rising marks → All (λ m. place ≤ m.position) marks → All (λ m. m.position ≤ place + length rows) marks → marks_of place (cut place marks rows) ≡ marks
  marks_of-cut place [] rows rising from to = refl
  marks_of-cut place (m ∷ ms) rows rising from to =
      let n : ℕ = m.position - place in
      let low = All-head (λ x. place ≤ x.position) m ms from in
      let high = All-head (λ x. x.position ≤ place + length rows) m ms to in
      let size : place + length (take n rows) ≡ m.position = omega (arith, low, high, length-take-le n rows (omega (arith, low, high))) in
      let above = Rising-head m ms rising in
      let rest : marks_of m.position (cut m.position ms (drop n rows)) ≡ ms = marks_of-cut m.position ms (drop n rows) (Rising-tail m ms rising) (λ k d h. (above k d h).positions) (λ k d h. omega (arith, low, high, All-tail (λ x. x.position ≤ place + length rows) m ms to k d h, length-drop n rows)) in
      rw (size, rest) refl

  -- pieces that are joined are cut into the same
  pub cut-joined : (place : ℕ) (pieces : Pieces X) → cut place (marks_of place pieces) (column_of pieces) ≡ pieces
  cut-joined place (last rows) = refl
  cut-joined place (below rows bound pieces) =
      let size : (place + length rows) - place ≡ length rows = omega arith in
      rw (size, take_at rows (column_of pieces) (length rows) refl, drop_at rows (column_of pieces) (length rows) refl, cut-joined (place + length rows) pieces) refl

  -- the mark divides the rows from a place on
  pub record DividesFrom (key : X → ℕ) (place : ℕ) (rows : List X) (m : Mark) : Type 0 where
    pub from : place ≤ m.position
    pub to : m.position ≤ place + length rows
    pub before : (k : ℕ) (d : X) → k < length rows → place + k < m.position → key (get_or rows k d) < m.bound.0
    pub behind : (k : ℕ) (d : X) → k < length rows → m.position ≤ place + k → m.bound.0 ≤ key (get_or rows k d)

  pub AreDivided-cut : (key : X → ℕ) (low place : ℕ) (marks : List Mark) (rows : List X) → Rising marks → All (λ m. low ≤ m.bound.0) marks → All (λ x. low ≤ key x) rows → All (DividesFrom key place rows) marks → AreDivided key low (cut place marks rows)
  AreDivided-cut key low place [] rows rising bounds above divides = above
  AreDivided-cut key low place (m ∷ ms) rows rising bounds above divides =
      let n : ℕ = m.position - place in
      let first = All-head (DividesFrom key place rows) m ms divides in
      let size : place + n ≡ m.position = omega (arith, first.from) in
      let short : length (take n rows) ≡ n = length-take-le n rows (omega (arith, first.to, size)) in
      let after = Rising-head m ms rising in
      let rest = All-tail (DividesFrom key place rows) m ms divides in
      let here : All (λ x. (low ≤ key x) × (key x < m.bound.0)) (take n rows) = λ k d h.
      rw (get_or-take n rows k d (omega (arith, h, short))) (above k d (omega (arith, h, short, first.to, size)), first.before k d (omega (arith, h, short, first.to, size)) (omega (arith, h, short, size))) in
      let above_it : All (λ x. m.bound.0 ≤ key x) (drop n rows) = λ k d h.
      rw (get_or-drop n rows k d) (first.behind (n + k) d (omega (arith, h, length-drop n rows)) (omega (arith, size))) in
      let divides_rest : All (DividesFrom key m.position (drop n rows)) ms = λ k d h.
      let one = rest k d h in
      record {
        from = (after k d h).positions;
        to = omega (arith, one.to, length-drop n rows, size, first.to);
        before = λ j e within less. rw (get_or-drop n rows j e) (one.before (n + j) e (omega (arith, within, length-drop n rows)) (omega (arith, less, size)));
        behind = λ j e within more. rw (get_or-drop n rows j e) (one.behind (n + j) e (omega (arith, within, length-drop n rows)) (omega (arith, more, size)));
      } in
      (here, All-head (λ x. low ≤ x.bound.0) m ms bounds, AreDivided-cut key m.bound.0 m.position ms (drop n rows) (Rising-tail m ms rising) (λ k d h. omega (arith, (after k d h).bounds)) above_it divides_rest)

-- what an intact store's pieces are
pub record IsCut (s : State) : Type 0 where
  pub column : s.column ≡ column_of (pieces_of s)
  pub marks : s.marks ≡ marks_of 0 (pieces_of s)
  pub divided : AreDivided (key_at s.cells) 0 (pieces_of s)

pub IsCut-intact : (s : State) (hand : List Handle) → IsIntact s hand → IsCut s
IsCut-intact s hand intact =
    let key : Handle → ℕ = key_at s.cells in
    let same : length (map key s.column) ≡ length s.column = length-map s.column key in
    record {
      column = sym (column_of-cut 0 s.marks s.column);
      marks = sym (marks_of-cut 0 s.marks s.column intact.rising (λ k d h. omega arith) (λ k d h. omega (arith, (intact.obeyed k d h).within, same)));
      divided = AreDivided-cut key 0 0 s.marks s.column intact.rising (λ k d h. omega arith) (λ k d h. omega arith) (λ k d h.
          let one = intact.obeyed k d h in
          record {
            from = omega arith;
            to = omega (arith, one.within, same);
            before = λ j e within less. rw (← (get_or-map key s.column j e 0 within)) (one.below j (omega (arith, less)));
            behind = λ j e within more. rw (← (get_or-map key s.column j e 0 within)) (one.above j (omega (arith, more)) (omega (arith, within, same)));
          });
    }
