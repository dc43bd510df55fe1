-- What follows from pieces that are written into lists.
use Rattle.std.specs.Prelude.{◌≡◌, ◌≢◌, ◌+◌, ◌<◌, ◌≤◌, ℕ, List, Some, length, slice_get, slice_index_or}
use Rattle.std.proofs.Common.{set, arith, ap, sym, subst, ◌∙◌, ⊎_elim}
use Rattle.std.proofs.lemmas.List.{get_or-set_same, get_or-set_other}
use Rattle.std.proofs.lemmas.Option.{slice_get-get_or}
use Rattle.std.proofs.lemmas.Bool.{cases_eq}
use Rattle.crack_row.specs.declared.TheConstants.{GREATEST_KEY}
use Rattle.crack_row.specs.declared.layout.PieceSize.{PieceSize}

-- a piece's least key and size
abbrev pub StandsAt : PieceSize → ℕ → ℕ → Type 0
StandsAt piece low size = (piece.low.0 ≤ GREATEST_KEY → low ≡ piece.low.0) × (size ≡ piece.size)

-- the first pieces, as far as there is room
abbrev pub StandBelow : ℕ → List PieceSize → List ℕ → List ℕ → Type 0
StandBelow i pieces lows sizes = (k : ℕ) (piece : PieceSize) → slice_get pieces k ≡ Some piece → k < i → k < length lows → StandsAt piece (slice_index_or lows k 0) (slice_index_or sizes k 0)

-- one more piece is written
pub stands-more : (pieces : List PieceSize) (lows sizes : List ℕ) (i low size : ℕ) (written d : PieceSize) → length sizes ≡ length lows → i < length pieces → i < length lows → written ≡ slice_index_or pieces i d → StandsAt written low size → StandBelow i pieces lows sizes → StandBelow (i + 1) pieces (set lows i low) (set sizes i size)
stands-more pieces lows sizes i low size written d long there within is here before k piece at below room = ⊎_elim
    (λ (same : k ≡ i). subst (λ (n : ℕ). StandsAt piece (slice_index_or (set lows i low) n 0) (slice_index_or (set sizes i size) n 0)) (sym same) (rw (get_or-set_same lows i low 0 within, get_or-set_same sizes i size 0 (omega arith)) (subst (λ (p : PieceSize). StandsAt p low size) (found same) here)))
    (λ (other : k ≢ i). rw (get_or-set_other lows i k low 0 other, get_or-set_other sizes i k size 0 other) (before k piece at (omega (arith, other)) (omega (arith, other))))
    (cases_eq k i)
  where
    some_is : {x y : PieceSize} → Some x ≡ Some y → x ≡ y
    some_is e = cc

    found : k ≡ i → written ≡ piece
    found same = is ∙ some_is (sym (slice_get-get_or pieces i d there) ∙ ap (slice_get pieces) (sym same) ∙ at)
