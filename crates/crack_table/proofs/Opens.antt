-- Places that no receipt names, and the first gap.
use Rattle.std.proofs.Common.{◌≡◌, ◌≢◌, ◌<◌, ◌≤◌, ℕ, List, [], ◌∷◌, ◌++◌, length, replicate, zero, suc, true, false, Option, Some, None, refl, arith, sym, get_or, ⊎_elim, ◌+◌, ◌⊎◌, ◌∙◌, map, take, subst}
use Rattle.std.specs.Prelude.{is_some, nat_lt, filter}
use Rattle.std.specs.List.{slice_get}
use Rattle.std.proofs.lemmas.Bool.Decides.{nat_tests}
use Rattle.std.proofs.lemmas.Option.{slice_get_read}
use Rattle.std.proofs.lemmas.List.{take_more, length-map, length-append, map-append}
use denote.Ref.{Bor}
use Rattle.crack_row.specs.declared.command.Entry.{Entry}
use Rattle.crack_witness.specs.declared.receipt.Receipt.{Receipt}
use Rattle.crack_table.specs.declared.states.PlaceState.{PlaceState}
use Rattle.crack_table.specs.declared.states.PlaceState.TheVariants.{Unnamed, Met, Failed}
use Rattle.crack_table.specs.Cover.{IsMetBy, IsCovered, CoveredBelow, IsGap}
use Rattle.crack_table.specs.Coverage.{names, IsSole, IsState, IsStateAt, AreStatesOf, IsOpenIn, IsCoverage}
use Rattle.crack_table.proofs.Places.{some_within}

blank_at : (o : Option Entry) (count n : ℕ) → is_some o ≡ nat_lt n count → IsStateAt o (slice_get (replicate count Unnamed) n) []
blank_at None zero n there = tt
blank_at (Some entry) zero n there = absurd (let f : nat_lt n 0 ≡ false = grind (arith, nat_tests) in let w : true ≡ false = there ∙ f in cc)
blank_at None (suc count) zero there = absurd (let f : nat_lt 0 (suc count) ≡ true = grind (arith, nat_tests) in let w : false ≡ true = there ∙ f in cc)
blank_at (Some entry) (suc count) zero there = refl
blank_at o (suc count) (suc n) there = let f : nat_lt (suc n) (suc count) ≡ nat_lt n count = grind (arith, nat_tests) in blank_at o count n (there ∙ f)

blank_more : (lists : List (List Entry)) (ms : List (List PlaceState)) (list : List Entry) → length ms ≡ length lists → AreStatesOf lists ms [] → AreStatesOf (lists ++ list ∷ []) (ms ++ replicate (length list) Unnamed ∷ []) []
blank_more [] [] list long by_place zero n = blank_at (slice_get list n) (length list) n (some_within list n)
blank_more [] [] list long by_place (suc p) n = tt
blank_more [] (y ∷ ys) list long by_place p n = absurd (cc)
blank_more (x ∷ xs) [] list long by_place p n = absurd (cc)
blank_more (x ∷ xs) (y ∷ ys) list long by_place zero n = by_place zero n
blank_more (x ∷ xs) (y ∷ ys) list long by_place (suc p) n = blank_more xs ys list (cc) (λ q m. by_place (suc q) m) p n

-- the states of the places of one more list
pub blank_read : (ls : List (Bor (List Entry))) (ms : List (List PlaceState)) (i : ℕ) (l : Bor (List Entry)) → i < length ls → l ≡ get_or ls i l → IsCoverage (map (λ l. l.now) (take i ls)) ms [] → IsCoverage (map (λ l. l.now) (take (i + 1) ls)) (ms ++ replicate (length l.now) Unnamed ∷ []) []
blank_read ls ms i l lt read coverage =
    rw (take_more ls i l lt, ← read, map-append) (record {
      rows = omega (arith, coverage.rows, length-append ms (replicate (length l.now) Unnamed ∷ []), length-append (map (λ l. l.now) (take i ls)) (l.now ∷ []));
      by_place = blank_more (map (λ l. l.now) (take i ls)) ms l.now coverage.rows coverage.by_place;
    })

-- a place whose state is Met
met_at : (entry : Entry) (o : Option PlaceState) (named : List Receipt) → IsStateAt (Some entry) o named → ((k : PlaceState) → o ≡ Some k → k ≡ Met) → IsSole entry named
met_at entry None named is all = absurd is
met_at entry (Some m) named is all = let P : PlaceState → Type 0 = λ k. IsState k entry named in subst P (all m refl) is

-- the states of the places of one partition
abbrev AreStatesIn : List Entry → List PlaceState → ℕ → List Receipt → Type 0
AreStatesIn list row part receipts = (position : ℕ) → IsStateAt (slice_get list position) (slice_get row position) (filter (names part position) receipts)

met_there : (list : List Entry) (row : List PlaceState) (p : ℕ) (rs : List Receipt) → AreStatesIn list row p rs → (n : ℕ) (entry : Entry) → ((k : PlaceState) → slice_get row n ≡ Some k → k ≡ Met) → slice_get list n ≡ Some entry → IsMetBy rs p n entry
met_there list row p rs states n entry met is = met_at entry (slice_get row n) (filter (names p n) rs) (rw is at (states n)) met

-- a place whose state isn't
unmet_at : (o : Option Entry) (m : PlaceState) (named : List Receipt) → IsStateAt o (Some m) named → m ≢ Met → (entry : Entry) × (o ≡ Some entry) × (¬ IsSole entry named)
unmet_at None m named is ne = absurd is
unmet_at (Some entry) Unnamed named is ne = (entry, refl, λ sole. let e : [] ≡ sole.0 ∷ [] = sym is ∙ sole.1 in cc)
unmet_at (Some entry) Met named is ne = absurd (ne refl)
unmet_at (Some entry) Failed named is ne = (entry, refl, is.1)

-- a partition whose places are all Met, and one in which a place is the first that isn't
covered : (list : List Entry) (row : List PlaceState) (p : ℕ) (rs : List Receipt) → ((n : ℕ) (m : PlaceState) → slice_get row n ≡ Some m → m ≡ Met) → AreStatesIn list row p rs → IsCovered rs p list
covered list row p rs met states n entry is = met_there list row p rs states n entry (met n) is

open_gap : (list : List Entry) (row : List PlaceState) (n p : ℕ) (rs : List Receipt) → IsOpenIn row n → AreStatesIn list row p rs → IsGap rs p list n
open_gap list row n p rs first states =
    let there = unmet_at (slice_get list n) first.0 (filter (names p n) rs) (rw first.1 at (states n)) first.2 in
    (there.0, there.1, there.2, λ m entry lt is. met_there list row p rs states m entry (λ k k_is. first.3 m k lt k_is) is)

-- a partition's row among all, as it was read
module _ (ls : List (Bor (List Entry))) (ms : List (List PlaceState)) (rs : List Receipt) (coverage : IsCoverage (map (λ l. l.now) ls) ms rs) (p : ℕ) (row : List PlaceState) (lt : p < length ls) (row_is : row ≡ get_or ms p row) where
  long : length (map (λ l. l.now) ls) ≡ length ls
  long = simp length-map refl

  within : p < length ms
  within = omega (arith, coverage.rows, long, lt)

  -- the list of this partition
  found : (o : Option (List Entry)) → is_some o ≡ true → (list : List Entry) × (o ≡ Some list)
  found None is = cc
  found (Some list) is = (list, refl)

  pub the_list : (list : List Entry) × (slice_get (map (λ l. l.now) ls) p ≡ Some list)
  the_list = found (slice_get (map (λ l. l.now) ls) p) (some_within (map (λ l. l.now) ls) p ∙ (let here : nat_lt p (length (map (λ l. l.now) ls)) ≡ true = grind (arith, nat_tests, lt, long) in here))

  states_in : AreStatesIn the_list.0 row p rs
  states_in n = rw (the_list.1, slice_get_read ms (length ms) p row refl within row_is) at (coverage.by_place p n)

  pub is_covered : ((n : ℕ) (m : PlaceState) → slice_get row n ≡ Some m → m ≡ Met) → IsCovered rs p the_list.0
  is_covered met = covered the_list.0 row p rs met states_in

  pub is_gap : (n : ℕ) → IsOpenIn row n → IsGap rs p the_list.0 n
  is_gap n first = open_gap the_list.0 row n p rs first states_in

below_or : (q p : ℕ) → q < p + 1 → (q < p) ⊎ (q ≡ p)
below_or q p below = grind arith

-- one more partition is covered
pub covered_more : (lists : List (List Entry)) (rs : List Receipt) (p : ℕ) (list : List Entry) → slice_get lists p ≡ Some list → IsCovered rs p list → CoveredBelow lists rs p → CoveredBelow lists rs (p + 1)
covered_more lists rs p list list_is here before q other lt other_is =
    ⊎_elim
    (λ (less : q < p). before q other less other_is)
    (λ (same : q ≡ p).
    let there : slice_get lists p ≡ Some other = rw same at other_is in
    let one : list ≡ other = cc in
    rw (same, ← one) here)
    (below_or q p lt)

pub all_covered : (lists : List (List Entry)) (rs : List Receipt) (bound : ℕ) → length lists ≤ bound → CoveredBelow lists rs bound → CoveredBelow lists rs (length lists)
all_covered lists rs bound long below q list within is = below q list (omega (arith, within, long)) is
