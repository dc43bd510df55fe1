-- How a bound is found, and how one mark is moved.
use Rattle.std.proofs.Common.{◌≡◌, ◌≢◌, ℕ, ◌<◌, ◌≤◌, List, map, length, leb, eqb, Some, None, refl, sym, arith}
use Rattle.std.specs.Prelude.{Option, IfSome}
use Rattle.std.specs.List.{All}
use Rattle.std.proofs.lemmas.Bool.{lt-leb, le-leb, eq-eqb, ne_eqb, and_right}
use Rattle.std.proofs.lemmas.List.{ext_get_or, length-map, get_or-map}
use Rattle.std.proofs.lemmas.List.Elements.{All-contains}
use Rattle.crack_index.specs.declared.mark.Mark.{Mark}
use Rattle.crack_index.proofs.MarkLaws.{no_mark, last_mark-is, last_mark-none, HasBound-mark, HasBound-contains, place_of-mark}
use Rattle.crack_index.specs.Marks.{Rising, HasBound, position_of, raised, lowered, lowered_at, last_mark}
use Rattle.crack_index.specs.Steps.{one_up, one_down}

pub map_same : (f : Mark → Mark) (xs : List Mark) → All (λ x. f x ≡ x) xs → map f xs ≡ xs
map_same f xs same =
    ext_get_or no_mark (map f xs) xs (length-map xs f) (λ k h.
    let short : k < length xs = omega (arith, length-map xs f) in
    rw (get_or-map f xs k no_mark no_mark short) (same k no_mark short))

pub raised_below : (low place : ℕ) (m : Mark) → m.bound.0 < low → raised low place m ≡ m
raised_below low place m h = rw (lt-leb low m.bound.0 h) refl

pub raised_apart : (low place : ℕ) (m : Mark) → m.position ≢ place → raised low place m ≡ m
raised_apart low place m ne = rw (and_right (leb low m.bound.0) (eqb m.position place) (ne_eqb m.position place ne)) refl

pub raised_at : (low place : ℕ) (m : Mark) → low ≤ m.bound.0 → m.position ≡ place → raised low place m ≡ one_up m
raised_at low place m h e = rw (le-leb low m.bound.0 h, eq-eqb m.position place e) refl

pub lowered_above : (high place : ℕ) (m : Mark) → high < m.bound.0 → lowered high place m ≡ m
lowered_above high place m h = rw (lt-leb m.bound.0 high h) refl

pub lowered_apart : (high place : ℕ) (m : Mark) → m.position ≢ place → lowered high place m ≡ m
lowered_apart high place m ne = rw (and_right (leb m.bound.0 high) (eqb m.position place) (ne_eqb m.position place ne)) refl

pub lowered_same : (high place : ℕ) (m : Mark) → m.bound.0 ≤ high → m.position ≡ place → lowered high place m ≡ one_down m
lowered_same high place m h e = rw (le-leb m.bound.0 high h, eq-eqb m.position place e) refl

pub lowered_at_apart : (place : ℕ) (m : Mark) → m.position ≢ place → lowered_at place m ≡ m
lowered_at_apart place m ne = rw (ne_eqb m.position place ne) refl

pub lowered_at_same : (place : ℕ) (m : Mark) → m.position ≡ place → lowered_at place m ≡ one_down m
lowered_at_same place m e = rw (eq-eqb m.position place e) refl

-- a bound that is there is that of the last mark at or below it
pub position-found : (b : ℕ) (marks : List Mark) (m : Mark) → Rising marks → last_mark b marks ≡ Some m → m.bound.0 ≡ b → HasBound marks b × (m.position ≡ position_of b marks)
position-found b marks m rising found same =
    let last = last_mark-is b marks m rising found in
    (rw same at (HasBound-mark marks m last.listed), rw same at (sym (place_of-mark marks m rising last.listed)))

pub position-apart : (b : ℕ) (marks : List Mark) (m : Mark) → Rising marks → last_mark b marks ≡ Some m → m.bound.0 ≢ b → HasBound marks b → ⊥
position-apart b marks m rising found apart there =
    let last = last_mark-is b marks m rising found in
    let at = HasBound-contains marks b there in
    let up = All-contains (λ n. n.bound.0 ≤ b → n.bound.0 ≤ m.bound.0) marks at.0 last.greatest at.1 (omega (arith, at.2)) in
    apart (omega (arith, up, at.2, last.below))

pub position-none : (b : ℕ) (marks : List Mark) → Rising marks → last_mark b marks ≡ None → HasBound marks b → ⊥
position-none b marks rising none there =
    let at = HasBound-contains marks b there in
    let above = All-contains (λ n. b < n.bound.0) marks at.0 (last_mark-none b marks rising none) at.1 in
    omega (arith, above, at.2)

-- what holds of the mark that is found, if one is
pub if_found : (P : Mark → Type 0) (found : Option Mark) → ((m : Mark) → found ≡ Some m → P m) → IfSome found P
if_found P None holds = tt
if_found P (Some m) holds = holds m refl
