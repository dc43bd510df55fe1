-- The rows of a partition have its keys.
use Rattle.std.proofs.Common.{◌≡◌, ℕ, suc, ◌+◌, ◌<◌, ◌&&◌, Bool, true, false, List, [], ◌∷◌, ◌++◌, length, filter, get_or, refl, ap, ◌∙◌, arith}
use Rattle.std.specs.Prelude.{All}
use Rattle.std.specs.List.{list_all, flat_map}
use Rattle.std.proofs.lemmas.Bool.{lt-ltb, le-leb}
use Rattle.std.proofs.lemmas.List.Elements.{All-head, All-tail}
use Rattle.crack_row.specs.Ranges.{Range, IsIn, is_in, in_range}
use Rattle.crack_row.specs.declared.Bound.{Bound}
use Rattle.crack_row.specs.declared.Row.{Row}
use Rattle.crack_plain.specs.Plain.{PlainView}
use Rattle.crack_plain.proofs.Words.{StandWithin}
use Rattle.crack_part.specs.Parts.{Part, IsSound, state_of}
use Rattle.crack_core.proofs.KeyLaws.{rows-within}
use Rattle.crack_core.specs.Routes.{keys_of_part}
use Rattle.crack_core.specs.Steps.{tables_of}
use Rattle.crack_csv.specs.Exports.{rows_from}

abbrev all_rows : List PlainView → List Row
all_rows tables = flat_map (λ (table : PlainView). table.state.rows) tables

both_true : (a b : Bool) → (a && b) ≡ true → (a ≡ true) × (b ≡ true)
both_true true b e = (refl, e)
both_true false b e = absurd (cc e)

-- a filter that all pass leaves nothing out
filter_all : {X : Type 0} (p : X → Bool) (xs : List X) → list_all p xs ≡ true → filter p xs ≡ xs
filter_all p [] e = refl
filter_all p (x ∷ xs) e = let both = both_true (p x) (list_all p xs) e in rw both.0 (ap (λ z. x ∷ z) (filter_all p xs both.1))

is_in_from : (keys : Range) (key : ℕ) → IsIn keys key → is_in keys key ≡ true
is_in_from keys key inside = rw (le-leb keys.low key inside.0, lt-ltb key keys.high inside.1) refl

-- rows whose keys are among these
all_within : (keys : Range) (rows : List Row) → StandWithin keys rows → list_all (in_range keys) rows ≡ true
all_within keys [] stand = refl
all_within keys (row ∷ rows) stand = rw (is_in_from keys row.key.0 (All-head (λ (r : Row). IsIn keys r.key.0) row rows stand), all_within keys rows (All-tail (λ (r : Row). IsIn keys r.key.0) row rows stand)) refl

-- the rows of sound partitions are all of theirs
pub all_rows-sound : (splits : List Bound) (first : ℕ) (parts : List Part) → ((k : ℕ) (d : Part) → k < length parts → (get_or parts k d).keys ≡ keys_of_part splits (first + k)) → All IsSound parts → rows_from splits first (tables_of parts) ≡ all_rows (tables_of parts)
all_rows-sound splits first [] keys sound = refl
all_rows-sound splits first (part ∷ parts) keys sound =
    let here : part.keys ≡ keys_of_part splits first = keys 0 part (omega arith) ∙ ap (keys_of_part splits) (omega arith) in
    let first_sound = All-head IsSound part parts sound in
    let rows = (state_of part).rows in
    let within : list_all (in_range (keys_of_part splits first)) rows ≡ true = rw here at (all_within part.keys rows (rows-within part first_sound)) in
    let rest = all_rows-sound splits (first + 1) parts (λ k d below. keys (suc k) d (omega (arith, below)) ∙ ap (keys_of_part splits) (omega arith)) (All-tail IsSound part parts sound) in
    ap (λ z. z ++ rows_from splits (first + 1) (tables_of parts)) (filter_all (in_range (keys_of_part splits first)) rows within)
    ∙ ap (λ z. rows ++ z) rest
