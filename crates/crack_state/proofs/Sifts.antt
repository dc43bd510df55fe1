-- If no carry ends with a row in hand, rows that come in are after a piece, and are sifted through it.
use Rattle.std.specs.Prelude.{ℕ, ◌+◌, nat_lt, count_by, List, take}
use Rattle.std.specs.List.{All}
use Rattle.crack_index.specs.declared.mark.Mark.{Mark}
use Rattle.crack_column.specs.Sifts.{below_bound, queued, made_way}
use Rattle.crack_state.specs.Pieces.{Pieces, last, below}

module _ {X : Type 0} (key : X → ℕ) where
  -- the pieces after them, of which the first begins at this bound
  abbrev pub sifted : ℕ → List X → Pieces X → Pieces X
  sifted low xs (last rows) = last (queued key low xs rows)
  sifted low xs (below rows bound pieces) = below (queued key low (below_bound key bound.0 xs) rows) bound (sifted bound.0 xs pieces)

  -- how many rows of all pieces move
  abbrev pub all_made_way : ℕ → List X → Pieces X → ℕ
  all_made_way low xs (last rows) = made_way key low xs rows
  all_made_way low xs (below rows bound pieces) = made_way key low (below_bound key bound.0 xs) rows + all_made_way bound.0 xs pieces

  -- how many of the rows are below a bound
  abbrev pub count_below : ℕ → List X → ℕ
  count_below bound rows = count_by (λ x. nat_lt (key x) bound) rows

  -- the rows of each piece that move once have the property: as many from its first on as rows of lower pieces come in
  abbrev pub OfMet : (X → Type 0) → ℕ → List X → Pieces X → Type 0
  OfMet P low xs (last rows) = All P (take (count_below low xs) rows)
  OfMet P low xs (below rows bound pieces) = All P (take (count_below low xs) rows) × OfMet P bound.0 xs pieces

  -- each bound moves up by as many as rows below it come in
  abbrev pub risen : List X → Mark → Mark
  risen xs m = record m { position = m.position + count_below m.bound.0 xs }
