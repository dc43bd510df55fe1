-- The pieces after a cut, and after a sum that was asked of the source.
use Rattle.std.proofs.Common.{◌≡◌, ◌≢◌, ℕ, ◌+◌, ◌<◌, List, Some, None, refl, ◌∙◌, arith}
use Rattle.std.specs.Prelude.{ℤ, Bool, true, false, IsTrue}
use Rattle.std.proofs.lemmas.Int.{ints}
use Rattle.crack_row.specs.Ranges.{Range}
use Rattle.crack_row.specs.declared.TheConstants.{GREATEST_BOUND}
use Rattle.crack_index.specs.declared.sums.TheConstants.{UNKNOWN}
use Rattle.crack_index.specs.Sums.{IsKnown, IsAdditive, AreTrue, IsEnd, Extends}
use Rattle.crack_index.specs.Cuts.{StartsRise, IsRest, sum_piece_at, next_at, put, given, span}
use Rattle.crack_index.proofs.Pieces.{end-above, none_below, next_above, piece-is, piece-above, IsEnd-put, IsEnd-given, AreRight-given, AreRight-split, AreRight-begin}

pub by_bool : (b : Bool) (P : Type 0) → (IsTrue b → P) → ((IsTrue b → ⊥) → P) → P
by_bool true P p q = p refl
by_bool false P p q = q (λ h. absurd (cc))

-- a piece that begins at a key has it
pub piece-own : (key : ℕ) (es : List (ℕ × ℤ)) (p : ℕ × ℤ) → StartsRise es → key < GREATEST_BOUND → sum_piece_at key es ≡ Some p → IsEnd key es → p.0 ≡ key
piece-own key es p rises few found is =
    let above = piece-above key key es p rises few found is (omega arith) in
    let below = (piece-is key es p rises few found).below in
    omega arith

-- no piece begins at a key if the piece that has it begins elsewhere
pub end-apart : (key : ℕ) (es : List (ℕ × ℤ)) (p : ℕ × ℤ) → StartsRise es → key < GREATEST_BOUND → sum_piece_at key es ≡ Some p → p.0 ≢ key → IsEnd key es → ⊥
end-apart key es p rises few found apart is = apart (piece-own key es p rises few found is)

pub end-has : (key : ℕ) (es : List (ℕ × ℤ)) → StartsRise es → key < GREATEST_BOUND → sum_piece_at key es ≡ None → IsEnd key es → ⊥
end-has key es rises few none is =
    let below = none_below key es rises few none in
    let above = end-above key es rises is in
    omega arith

module _ (says : ℕ → ℕ → ℤ → Type 0) where
  pub Extends-same : (es : List (ℕ × ℤ)) → Extends says es es
  Extends-same es = record { right = λ m adds told right. right; ends = λ bound is. is }

  pub Extends-chain : (xs ys zs : List (ℕ × ℤ)) → Extends says xs ys → Extends says ys zs → Extends says xs zs
  Extends-chain xs ys zs one two = record {
    right = λ m adds told right. two.right m adds told (one.right m adds told right);
    ends = λ bound is. two.ends bound (one.ends bound is);
  }

  pub Extends-begin : (key : ℕ) (es : List (ℕ × ℤ)) → StartsRise es → key < GREATEST_BOUND → sum_piece_at key es ≡ None → Extends says es (put key UNKNOWN es)
  Extends-begin key es rises few none = record {
    right = λ m adds told right. AreRight-begin m key es (none_below key es rises few none) right;
    ends = λ bound is. IsEnd-put bound key UNKNOWN es is;
  }

  Extends-split : (key : ℕ) (p : ℕ × ℤ) (lower upper : ℤ) (es : List (ℕ × ℤ)) → StartsRise es → key < GREATEST_BOUND → sum_piece_at key es ≡ Some p → p.0 ≢ key
      → ((m : ℕ → ℕ → ℤ) → IsAdditive m → AreTrue says m → (IsKnown p.1 → p.1 ≡ m p.0 (next_at key es)) → (IsKnown lower → lower ≡ m p.0 key) × (IsKnown upper → upper ≡ m key (next_at key es)))
      → Extends says es (given p.0 lower (put key upper es))
  Extends-split key p lower upper es rises few found apart sums =
      let piece = piece-is key es p rises few found in
      record {
        right = λ m adds told right.
            let parts = sums m adds told (piece.right m right) in
            AreRight-split m key p lower upper es rises few found (omega (arith, piece.below)) parts.0 parts.1 right;
        ends = λ bound is. IsEnd-given bound p.0 lower (put key upper es) (IsEnd-put bound key upper es is);
      }

  -- neither part's sum is known
  pub Extends-blind : (key : ℕ) (p : ℕ × ℤ) (es : List (ℕ × ℤ)) → StartsRise es → key < GREATEST_BOUND → sum_piece_at key es ≡ Some p → p.0 ≢ key → Extends says es (given p.0 UNKNOWN (put key UNKNOWN es))
  Extends-blind key p es rises few found apart =
      Extends-split key p UNKNOWN UNKNOWN es rises few found apart (λ m adds told whole. (λ known. absurd (known refl), λ known. absurd (known refl)))

  -- the source was asked for the upper part
  pub Extends-upper : (key : ℕ) (p : ℕ × ℤ) (lower upper : ℤ) (es : List (ℕ × ℤ)) → StartsRise es → key < GREATEST_BOUND → sum_piece_at key es ≡ Some p → p.0 ≢ key
      → (IsKnown upper → says key (next_at key es) upper) → IsRest p.1 upper lower → Extends says es (given p.0 lower (put key upper es))
  Extends-upper key p lower upper es rises few found apart said rest =
      let piece = piece-is key es p rises few found in
      Extends-split key p lower upper es rises few found apart (λ m adds told whole.
      let is_upper : IsKnown upper → upper ≡ m key (next_at key es) = λ known. told key (next_at key es) upper piece.above (said known) in (
        λ known.
            let parts = rest known in
            let one = whole parts.0 in
            let two = is_upper parts.1 in
            let three = parts.2 in
            let four = adds.parts p.0 key (next_at key es) piece.below (omega (arith, piece.above)) in
            omega (arith, ints),
        is_upper,
      ))

  -- the source was asked for the lower part
  pub Extends-lower : (key : ℕ) (p : ℕ × ℤ) (lower upper : ℤ) (es : List (ℕ × ℤ)) → StartsRise es → key < GREATEST_BOUND → sum_piece_at key es ≡ Some p → p.0 ≢ key
      → (IsKnown lower → says p.0 key lower) → IsRest p.1 lower upper → Extends says es (given p.0 lower (put key upper es))
  Extends-lower key p lower upper es rises few found apart said rest =
      let piece = piece-is key es p rises few found in
      Extends-split key p lower upper es rises few found apart (λ m adds told whole.
      let is_lower : IsKnown lower → lower ≡ m p.0 key = λ known. told p.0 key lower (omega (arith, piece.below)) (said known) in (
        is_lower,
        λ known.
            let parts = rest known in
            let one = whole parts.0 in
            let two = is_lower parts.1 in
            let three = parts.2 in
            let four = adds.parts p.0 key (next_at key es) piece.below (omega (arith, piece.above)) in
            omega (arith, ints),
      ))

  -- the source was asked for a piece
  pub Extends-given : (start : ℕ) (sum : ℤ) (es : List (ℕ × ℤ)) → StartsRise es → start < GREATEST_BOUND → (IsKnown sum → says start (next_at start es) sum) → Extends says es (given start sum es)
  Extends-given start sum es rises few said = record {
    right = λ m adds told right. AreRight-given m start sum es rises (λ known. told start (next_at start es) sum (next_above start es few) (said known)) right;
    ends = λ bound there. IsEnd-given bound start sum es there;
  }

-- the keys from the first to the last of a range are the range
pub span-is : (first last key end : ℕ) (range : Range) → first ≡ key → last ≡ end → key ≡ range.low → end + 1 ≡ range.high → span first last ≡ range
span-is first last key end range a b low high =
    let is_low : first ≡ range.low = a ∙ low in
    let is_high : last + 1 ≡ range.high = rw b high in
    rw (is_low, is_high) refl
