-- Beyond a ceiling each row ends a carry: the first rows, as many as carries reach them, are evicted, and bounds at their places move to the next row.
use Rattle.std.proofs.Common.{◌≡◌, ℕ, ◌+◌, ◌-◌, ◌<◌, ◌≤◌, Bool, true, max, suc, zero, List, [], ◌∷◌, ◌++◌, map, drop, length, refl, sym, ap, ◌∙◌, inl, inr, arith}
use Rattle.std.specs.List.{All}
use Rattle.std.proofs.lemmas.Bool.{cases_lt}
use Rattle.std.proofs.lemmas.List.{drop-append-le, drop_all, length-drop}
use Rattle.std.proofs.lemmas.List.Elements.{All-head, All-tail, All-cons, All-same}
use Rattle.crack_index.specs.declared.mark.Mark.{Mark}
use Rattle.crack_state.specs.Pieces.{Pieces, last, below, column_of, marks_of}
use Rattle.crack_state.specs.Queues.{CarryState, comes, turns, stopped, is_below, any_row, left_after, passed, in_bulk}
use Rattle.crack_state.proofs.AgreeLaws.{Each}
use Rattle.crack_state.proofs.TurnLaws.{arriving}

-- the bound is at this place or after it
abbrev pub at_least : ℕ → Mark → Mark
at_least place m = record m { position = max m.position place }

-- no row comes in: all stay below
abbrev pub NoneComes : {X : Type 0} → CarryState X → Type 0
NoneComes (comes x) = ⊥
NoneComes (turns moved) = Unit {0}
NoneComes (stopped moved y) = Unit {0}

module _ {X : Type 0} where
  drop-append : (n : ℕ) (xs ys : List X) → drop n (xs ++ ys) ≡ drop n xs ++ drop (n - length xs) ys
  drop-append n xs ys = elim (cases_lt (length xs) n) [
    | inr few ↦
        let none : n - length xs ≡ 0 = omega (arith, few) in
        rw none (drop-append-le n xs ys few)
    | inl many ↦ past xs n many
  ]
    where
      past : (xs : List X) (n : ℕ) → length xs < n → drop n (xs ++ ys) ≡ drop n xs ++ drop (n - length xs) ys
      past [] n many =
          let all : n - 0 ≡ n = omega arith in
          rw (all, drop_all {X = X} n [] (omega arith)) refl
      past (x ∷ xs) zero many = absurd (omega (arith, many))
      past (x ∷ xs) (suc n) many =
          let less : suc n - suc (length xs) ≡ n - length xs = omega arith in
          rw less (past xs n (omega (arith, many)))

module _ {X : Type 0} (key : X → ℕ) (stops : X → Bool) where
  abbrev Ends : X → Type 0
  Ends x = stops x ≡ true

  -- a piece beyond the ceiling after carries, and how many carries go on
  record Taken (own : X → Bool) (es : List (CarryState X)) (rows : List X) : Type 0 where
    left_is : left_after key stops own es rows ≡ drop (arriving es) rows
    on_are : arriving (passed key stops own es rows) ≡ arriving es - length rows
    none : All NoneComes (passed key stops own es rows)

  taken : (own : X → Bool) (es : List (CarryState X)) (rows : List X) → All NoneComes es → All Ends rows → Taken own es rows
  taken own [] rows come all = record { left_is = refl; on_are = omega arith; none = λ k d h. absurd (omega (arith, h)) }
  taken own (comes x ∷ es) rows come all = absurd (All-head NoneComes (comes x) es come)
  taken own (turns moved ∷ es) [] come all =
      let rest = taken own es [] (All-tail NoneComes (turns moved) es come) all in
      record {
        left_is = rest.left_is ∙ drop_all (arriving es) [] (omega arith);
        on_are = omega (arith, rest.on_are);
        none = All-cons NoneComes (turns moved) (passed key stops own es []) tt rest.none;
      }
  taken own (turns moved ∷ es) (y ∷ ys) come all =
      let ends = All-head Ends y ys all in
      let rest = taken own es ys (All-tail NoneComes (turns moved) es come) (All-tail Ends y ys all) in
      record {
        left_is = rw ends rest.left_is;
        on_are = rw ends (omega (arith, rest.on_are));
        none =
            let on : passed key stops own (turns moved ∷ es) (y ∷ ys) ≡ stopped (suc moved) y ∷ passed key stops own es ys = rw ends refl in
            All-same NoneComes (passed key stops own (turns moved ∷ es) (y ∷ ys)) (stopped (suc moved) y ∷ passed key stops own es ys) on (All-cons NoneComes (stopped (suc moved) y) (passed key stops own es ys) tt rest.none);
      }
  taken own (stopped moved y ∷ es) rows come all =
      let rest = taken own es rows (All-tail NoneComes (stopped moved y) es come) all in
      record { left_is = rest.left_is; on_are = rest.on_are; none = All-cons NoneComes (stopped moved y) (passed key stops own es rows) tt rest.none }

  -- the rows of the pieces beyond the ceiling
  pub column_of-beyond : (es : List (CarryState X)) (pieces : Pieces X) → All NoneComes es → Each Ends pieces → column_of (in_bulk key stops es pieces) ≡ drop (arriving es) (column_of pieces)
  column_of-beyond es (last rows) come all = (taken (any_row key stops) es rows come all).left_is
  column_of-beyond es (below rows bound pieces) come all =
      let own = is_below key stops bound in
      let one = taken own es rows come all.0 in
      let rest = column_of-beyond (passed key stops own es rows) pieces one.none all.1 in
      rw (one.left_is, rest, one.on_are) (sym (drop-append (arriving es) rows (column_of pieces)))

  -- where all are after a place
  at_least-higher : (place at : ℕ) (pieces : Pieces X) → map (at_least (max at place)) (marks_of at pieces) ≡ map (at_least place) (marks_of at pieces)
  at_least-higher place at (last rows) = refl
  at_least-higher place at (below rows bound pieces) =
      let here : max (at + length rows) (max at place) ≡ max (at + length rows) place = omega arith in
      let rest = higher place at (at + length rows) pieces (omega arith) in
      rw (here, rest) refl
    where
      higher : (place at from : ℕ) (pieces : Pieces X) → at ≤ from → map (at_least (max at place)) (marks_of from pieces) ≡ map (at_least place) (marks_of from pieces)
      higher place at from (last rows) order = refl
      higher place at from (below rows bound pieces) order =
          let here : max (from + length rows) (max at place) ≡ max (from + length rows) place = omega (arith, order) in
          rw (here, higher place at (from + length rows) pieces (omega (arith, order))) refl

  -- and the marks between them
  pub marks_of-beyond : (place : ℕ) (es : List (CarryState X)) (pieces : Pieces X) → All NoneComes es → Each Ends pieces → marks_of (place + arriving es) (in_bulk key stops es pieces) ≡ map (at_least (place + arriving es)) (marks_of place pieces)
  marks_of-beyond place es (last rows) come all = refl
  marks_of-beyond place es (below rows bound pieces) come all =
      let own = is_below key stops bound in
      let on : List (CarryState X) = passed key stops own es rows in
      let one = taken own es rows come all.0 in
      let top : ℕ = max (place + length rows) (place + arriving es) in
      let here : (place + arriving es) + length (left_after key stops own es rows) ≡ top = omega (arith, ap length one.left_is, length-drop (arriving es) rows) in
      let next : (place + length rows) + arriving on ≡ top = omega (arith, one.on_are) in
      let rest : marks_of top (in_bulk key stops on pieces) ≡ map (at_least top) (marks_of (place + length rows) pieces) = rw next at (marks_of-beyond (place + length rows) on pieces one.none all.1) in
      rw (here, rest, at_least-higher (place + arriving es) (place + length rows) pieces) refl
