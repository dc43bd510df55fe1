-- What private clauses alone cite.
-- The code of a list of cells in the logic.
use Rattle.std.specs.Prelude.{ℕ, List, refl}
use Rattle.std.specs.Coded.{Coded, code_by, coded×, coded_ℕ, coded_list}
use Rattle.crack_arena.specs.Listed.{Listed}

-- the code of lists of cells, made from a code of cells: a list is coded as the pair of its cells and its room
abbrev pub listed_code : {C : Type 0} → Coded C → Coded (Listed C)
listed_code {C} code =
    code_by (List C × ℕ) (coded× (coded_list code) coded_ℕ) (λ l. (l.items, l.room)) (λ p. record { items = p.0; room = p.1 }) (λ _. refl)
