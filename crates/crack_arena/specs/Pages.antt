-- What contracts see of cells in pages.
use Rattle.std.specs.Prelude.{List, [], ◌∷◌, ◌++◌}

module _ {C : Type 0} where
  -- the cells of the pages in order
  abbrev pub joined_pages : List (List C) → List C
  joined_pages [] = []
  joined_pages (page ∷ pages) = page ++ joined_pages pages
