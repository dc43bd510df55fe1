-- How a load goes on, one record after another.
use Rattle.std.proofs.Common.{◌≡◌, ℕ, ◌+◌, ◌==◌, ◌&&◌, Bool, true, false, cond, fold, Option, Some, List, [], ◌∷◌, ◌++◌, length, map, refl, sym, ap, ◌∙◌, arith, length-append}
use Rattle.std.proofs.lemmas.List.{map-append}
use Rattle.std.proofs.lemmas.Bool.{ne_eqb}
use Rattle.crack_row.specs.declared.Bound.{Bound}
use Rattle.crack_plain.specs.Plain.{PlainView}
use Rattle.crack_csv.specs.declared.record.NewRow.{NewRow}
use Rattle.crack_csv.specs.Records.{is_header, without_header, new_row_of}
use Rattle.crack_csv.specs.Loads.{tables_with_row, AreInserted}
use Rattle.crack_core.specs.Steps.{Bounds}

-- the fields of a record
abbrev pub Fields : Type 0
Fields = List (List ℕ)

-- a record is a row, which is inserted
abbrev pub BringsRow : Bounds → List Bound → List PlainView → Fields → Option (List PlainView) → Type 0
BringsRow bounds splits tables fields left = (row : NewRow) × (new_row_of fields ≡ Some row) × (left ≡ Some (tables_with_row bounds splits tables row))

-- whether a record is a header, after these others
abbrev pub is_header_behind : List Fields → Fields → Bool
is_header_behind [] fields = is_header fields
is_header_behind (first ∷ records) fields = false

-- the partitions after these rows are inserted, in order
abbrev with_rows : Bounds → List Bound → List PlainView → List NewRow → List PlainView
with_rows bounds splits tables rows = fold (tables_with_row bounds splits) tables rows

without_header-more : (header : Bool) (first : Fields) (records : List Fields) (fields : Fields) → cond header (records ++ fields ∷ []) (first ∷ (records ++ fields ∷ [])) ≡ cond header records (first ∷ records) ++ fields ∷ []
without_header-more true first records fields = refl
without_header-more false first records fields = refl

-- after others, a record that isn't a header is to be inserted
pub without_header-push : (records : List Fields) (fields : Fields) → is_header_behind records fields ≡ false → without_header (records ++ fields ∷ []) ≡ without_header records ++ fields ∷ []
without_header-push [] fields e = rw e refl
without_header-push (first ∷ records) fields e = without_header-more (is_header first) first records fields

with_rows-push : (bounds : Bounds) (splits : List Bound) (tables : List PlainView) (rows : List NewRow) (row : NewRow) → with_rows bounds splits tables (rows ++ row ∷ []) ≡ tables_with_row bounds splits (with_rows bounds splits tables rows) row
with_rows-push bounds splits tables [] row = refl
with_rows-push bounds splits tables (first ∷ rows) row = with_rows-push bounds splits (tables_with_row bounds splits tables first) rows row

-- one more row is inserted
pub AreInserted-push : {bounds : Bounds} {splits : List Bound} {tables : List PlainView} {count : ℕ} {left : Option (List PlainView)} (records : List Fields) (fields : Fields) (left' : Option (List PlainView)) (was : AreInserted bounds splits tables records count left) → is_header_behind records fields ≡ false → BringsRow bounds splits (with_rows bounds splits tables was.rows) fields left' → AreInserted bounds splits tables (records ++ fields ∷ []) (count + 1) left'
AreInserted-push {bounds} {splits} {tables} records fields left' was plain brings = record {
  rows = was.rows ++ brings.0 ∷ [];
  are = ap (map new_row_of) (without_header-push records fields plain) ∙ map-append new_row_of (without_header records) (fields ∷ [])
      ∙ ap (λ (z : List (Option NewRow)). z ++ new_row_of fields ∷ []) was.are ∙ ap (λ (o : Option NewRow). map Some was.rows ++ o ∷ []) brings.1
      ∙ sym (map-append Some was.rows (brings.0 ∷ []));
  count_is = let l = length-append was.rows (brings.0 ∷ []) in let c = was.count_is in omega (arith, l, c);
  left_is = brings.2 ∙ ap Some (sym (with_rows-push bounds splits tables was.rows brings.0));
}

-- a header isn't a record that is to be inserted, and comes first
pub first_is_header : (records : List Fields) (fields : Fields) (number : ℕ) → length records + 1 ≡ number → (number == 1 && is_header fields) ≡ true → without_header (records ++ fields ∷ []) ≡ without_header records
first_is_header [] fields number n header = let is : is_header fields ≡ true = rw (← n) at header in rw is refl
first_is_header (first ∷ records) fields number n header = absurd (let other : (number == 1) ≡ false = ne_eqb number 1 (λ one. omega (arith, n, one)) in cc (rw other at header))

-- a header is skipped
pub AreInserted-header : {bounds : Bounds} {splits : List Bound} {tables : List PlainView} {count : ℕ} {left : Option (List PlainView)} (records : List Fields) (fields : Fields) (number : ℕ) → length records + 1 ≡ number → (number == 1 && is_header fields) ≡ true → AreInserted bounds splits tables records count left → AreInserted bounds splits tables (records ++ fields ∷ []) count left
AreInserted-header records fields number n header was = record { rows = was.rows; are = ap (map new_row_of) (first_is_header records fields number n header) ∙ was.are; count_is = was.count_is; left_is = was.left_is }

-- a record isn't a header unless it is the first
pub no_header : (records : List Fields) (fields : Fields) (number : ℕ) → length records + 1 ≡ number → (number == 1 && is_header fields) ≡ false → is_header_behind records fields ≡ false
no_header [] fields number n e = rw (← n) at e
no_header (first ∷ records) fields number n e = refl
