-- What one more receipt does to the states of places.
use Rattle.std.proofs.Common.{◌≡◌, ◌<◌, ℕ, List, [], ◌∷◌, ◌++◌, length, set, Bool, true, false, Option, Some, None, refl, ap, arith, ◌∙◌, subst, get_or, take, ◌+◌, append_assoc}
use Rattle.std.specs.List.{slice_get, filter, flat_map}
use Rattle.std.specs.Option.{option_map, option_or}
use Rattle.std.proofs.lemmas.List.Folds.{find-append}
use Rattle.std.proofs.lemmas.List.Concat.{flat_map-append}
use denote.Ref.{Bor}
use Rattle.std.specs.Bool.{Decides}
use Rattle.std.proofs.lemmas.Bool.Decides.{nat_tests}
use Rattle.std.proofs.lemmas.Option.{slice_get_within, slice_get_read}
use Rattle.std.proofs.lemmas.List.{append-nil, take_more, length-set}
use Rattle.std.proofs.lemmas.List.Elements.{filter-append}
use Rattle.crack_row.specs.declared.command.Entry.{Entry}
use Rattle.crack_witness.specs.declared.receipt.Receipt.{Receipt}
use Rattle.crack_witness.specs.Receipts.{entry_of}
use Rattle.crack_table.specs.declared.states.PlaceState.{PlaceState}
use Rattle.crack_table.specs.declared.states.PlaceState.TheVariants.{Unnamed, Met, Failed}
use Rattle.crack_table.specs.Cover.{at, first_stranger}
use Rattle.crack_table.specs.Coverage.{names, named_place, next_state, IsSole, IsState, IsStateAt, AreStatesOf, IsCoverage}
use Rattle.crack_table.proofs.Places.{at_set_same, at_set_other, row_of}

two_long : (x r : Receipt) (xs : List Receipt) (entry : Entry) → IsSole entry ((x ∷ xs) ++ r ∷ []) → ⊥
two_long x r [] entry sole = let e : x ∷ r ∷ [] ≡ sole.0 ∷ [] = sole.1 in cc
two_long x r (y ∷ ys) entry sole = let e : x ∷ y ∷ (ys ++ r ∷ []) ≡ sole.0 ∷ [] = sole.1 in cc

no_nil : (r : Receipt) (xs : List Receipt) → xs ++ r ∷ [] ≡ [] → ⊥
no_nil r [] is = cc
no_nil r (y ∷ ys) is = cc

not_right : (entry : Entry) (r : Receipt) → Decides false (entry_of r ≡ entry) → IsSole entry (r ∷ []) → ⊥
not_right entry r right sole =
    let e : r ∷ [] ≡ sole.0 ∷ [] = sole.1 in
    let same : sole.0 ≡ r = cc in
    let P : Receipt → Type 0 = λ x. entry_of x ≡ entry in
    let w : false ≡ true = right.1 (subst P same sole.2) in
    absurd (cc)

pub state_more : (m : PlaceState) (entry : Entry) (named : List Receipt) (r : Receipt) (b : Bool) → Decides b (entry_of r ≡ entry) → IsState m entry named → IsState (next_state m b) entry (named ++ r ∷ [])
state_more Unnamed entry named r true right is = (r, rw is refl, right.0 refl)
state_more Unnamed entry named r false right is = (no_nil r named, rw is (not_right entry r right))
state_more Met entry [] r b right is = absurd (let e : [] ≡ is.0 ∷ [] = is.1 in cc)
state_more Met entry (x ∷ xs) r b right is = (no_nil r (x ∷ xs), two_long x r xs entry)
state_more Failed entry [] r b right is = absurd (is.0 refl)
state_more Failed entry (x ∷ xs) r b right is = (no_nil r (x ∷ xs), two_long x r xs entry)

-- a receipt that names another place
filter_other : (p n : ℕ) (done : List Receipt) (r : Receipt) → names p n r ≡ false → filter (names p n) (done ++ r ∷ []) ≡ filter (names p n) done
filter_other p n done r other = filter-append (names p n) done (r ∷ []) ∙ rw other (append-nil (filter (names p n) done))

filter_same : (p n : ℕ) (done : List Receipt) (r : Receipt) → names p n r ≡ true → filter (names p n) (done ++ r ∷ []) ≡ filter (names p n) done ++ r ∷ []
filter_same p n done r same = filter-append (names p n) done (r ∷ []) ∙ rw same refl

itself : (r : Receipt) → names r.part r.position r ≡ true
itself r = grind (arith, nat_tests)

state_here : (lists : List (List Entry)) (ms : List (List PlaceState)) (done : List Receipt) (r : Receipt) (e : Entry) (row : List PlaceState) (m : PlaceState) (b : Bool)
    → at lists r.part r.position ≡ Some e → slice_get ms r.part ≡ Some row → slice_get row r.position ≡ Some m → Decides b (entry_of r ≡ e)
    → AreStatesOf lists ms done
    → IsStateAt (at lists r.part r.position) (at (set ms r.part (set row r.position (next_state m b))) r.part r.position) (filter (names r.part r.position) (done ++ r ∷ []))
state_here lists ms done r e row m b e_is row_is m_is same by_place =
    let was : IsState m e (filter (names r.part r.position) done) = rw (e_is, row_is, m_is) at (by_place r.part r.position) in
    rw (e_is, at_set_same ms r.part r.position row m (next_state m b) row_is m_is, filter_same r.part r.position done r (itself r)) (state_more m e (filter (names r.part r.position) done) r b same was)

state_at : (lists : List (List Entry)) (ms : List (List PlaceState)) (done : List Receipt) (r : Receipt) (e : Entry) (row : List PlaceState) (m : PlaceState) (b : Bool)
    → at lists r.part r.position ≡ Some e → slice_get ms r.part ≡ Some row → slice_get row r.position ≡ Some m → Decides b (entry_of r ≡ e)
    → AreStatesOf lists ms done → (p n : ℕ) (t : Bool) → names p n r ≡ t
    → IsStateAt (at lists p n) (at (set ms r.part (set row r.position (next_state m b))) p n) (filter (names p n) (done ++ r ∷ []))
state_at lists ms done r e row m b e_is row_is m_is same by_place p n true named =
    let x : r.part ≡ p = grind (arith, nat_tests) in
    let y : r.position ≡ n = grind (arith, nat_tests) in
    let P : ℕ → Type 0 = λ q. IsStateAt (at lists q n) (at (set ms r.part (set row r.position (next_state m b))) q n) (filter (names q n) (done ++ r ∷ [])) in
    let Q : ℕ → Type 0 = λ k. IsStateAt (at lists r.part k) (at (set ms r.part (set row r.position (next_state m b))) r.part k) (filter (names r.part k) (done ++ r ∷ [])) in
    subst P x (subst Q y (state_here lists ms done r e row m b e_is row_is m_is same by_place))
state_at lists ms done r e row m b e_is row_is m_is same by_place p n false other =
    rw (at_set_other ms r.part r.position p n row (next_state m b) row_is other, filter_other p n done r other) (by_place p n)

-- if there is an entry it has a state
state_there : (e : Entry) (o : Option PlaceState) (rs : List Receipt) → IsStateAt (Some e) o rs → (m : PlaceState) × (o ≡ Some m)
state_there e None rs h = absurd h
state_there e (Some m) rs h = (m, refl)

pub state_some : (lists : List (List Entry)) (ms : List (List PlaceState)) (done : List Receipt) (p n : ℕ) (e : Entry) → AreStatesOf lists ms done → at lists p n ≡ Some e → (m : PlaceState) × (at ms p n ≡ Some m)
state_some lists ms done p n e by_place is = state_there e (at ms p n) _ (rw is at (by_place p n))

-- one more receipt, whose entry is or isn't that of its place
pub states_after : (lists : List (List Entry)) (ms : List (List PlaceState)) (done : List Receipt) (r : Receipt) (e : Entry) (row after : List PlaceState) (b : Bool)
    → at lists r.part r.position ≡ Some e → slice_get ms r.part ≡ Some row → ((m : PlaceState) → slice_get row r.position ≡ Some m → after ≡ set row r.position (next_state m b)) → Decides b (entry_of r ≡ e)
    → AreStatesOf lists ms done → AreStatesOf lists (set ms r.part after) (done ++ r ∷ [])
states_after lists ms done r e row after b e_is row_is after_is same by_place p n =
    let there = state_some lists ms done r.part r.position e by_place e_is in
    let m_is : slice_get row r.position ≡ Some there.0 = rw row_is at there.1 in
    rw (after_is there.0 m_is) (state_at lists ms done r e row there.0 b e_is row_is m_is same by_place p n (names p n r) refl)

none_still : (o : Option PlaceState) (rs ss : List Receipt) → IsStateAt None o rs → IsStateAt None o ss
none_still None rs ss h = tt
none_still (Some m) rs ss h = absurd h

state_same_at : (lists : List (List Entry)) (ms : List (List PlaceState)) (done : List Receipt) (r : Receipt)
    → at lists r.part r.position ≡ None → AreStatesOf lists ms done → (p n : ℕ) (t : Bool) → names p n r ≡ t
    → IsStateAt (at lists p n) (at ms p n) (filter (names p n) (done ++ r ∷ []))
state_same_at lists ms done r none by_place p n true named =
    let x : r.part ≡ p = grind (arith, nat_tests) in
    let y : r.position ≡ n = grind (arith, nat_tests) in
    let none_there : at lists p n ≡ None = rw (← x, ← y) none in
    rw none_there (none_still (at ms p n) _ (filter (names p n) (done ++ r ∷ [])) (rw none_there at (by_place p n)))
state_same_at lists ms done r none by_place p n false other = rw (filter_other p n done r other) (by_place p n)

pub states_same : (lists : List (List Entry)) (ms : List (List PlaceState)) (done : List Receipt) (r : Receipt)
    → at lists r.part r.position ≡ None → AreStatesOf lists ms done → AreStatesOf lists ms (done ++ r ∷ [])
states_same lists ms done r none by_place p n = state_same_at lists ms done r none by_place p n (names p n r) refl

pub within_rows : (lists : List (List Entry)) (ms : List (List PlaceState)) (done : List Receipt) (p n : ℕ) (e : Entry) → AreStatesOf lists ms done → at lists p n ≡ Some e → p < length ms
within_rows lists ms done p n e by_place is =
    let h = state_some lists ms done p n e by_place is in
    let row = row_of (slice_get ms p) n h.0 h.1 in
    slice_get_within ms p row.0 row.1

pub within_row : (lists : List (List Entry)) (ms : List (List PlaceState)) (done : List Receipt) (p n : ℕ) (e : Entry) → AreStatesOf lists ms done → at lists p n ≡ Some e → (row : List PlaceState) → slice_get ms p ≡ Some row → n < length row
within_row lists ms done p n e by_place is row row_is =
    let h = state_some lists ms done p n e by_place is in
    let found = row_of (slice_get ms p) n h.0 h.1 in
    let same : row ≡ found.0 = cc in
    rw same (slice_get_within found.0 n h.0 found.2)

pub row_read : (lists : List (List Entry)) (ms : List (List PlaceState)) (done : List Receipt) (p n : ℕ) (e : Entry) (row : List PlaceState) → AreStatesOf lists ms done → at lists p n ≡ Some e → row ≡ get_or ms p row → slice_get ms p ≡ Some row
row_read lists ms done p n e row by_place is read = slice_get_read ms (length ms) p row refl (within_rows lists ms done p n e by_place is) read

pub within_read : (lists : List (List Entry)) (ms : List (List PlaceState)) (done : List Receipt) (p n : ℕ) (e : Entry) (row : List PlaceState) → AreStatesOf lists ms done → at lists p n ≡ Some e → row ≡ get_or ms p row → n < length row
within_read lists ms done p n e row by_place is read = within_row lists ms done p n e by_place is row (row_read lists ms done p n e row by_place is read)

pub take_read : {X : Type 0} (done xs : List X) (i : ℕ) (x : X) → i < length xs → x ≡ get_or xs i x → done ++ take (i + 1) xs ≡ (done ++ take i xs) ++ x ∷ []
take_read done xs i x lt read = rw (take_more xs i x lt, ← read, append_assoc) refl

pub flat_read : {X : Type 0} (xss : List (Bor (List X))) (i : ℕ) (x : Bor (List X)) → i < length xss → x ≡ get_or xss i x → flat_map (λ r. r.now) (take (i + 1) xss) ≡ flat_map (λ r. r.now) (take i xss) ++ x.now
flat_read xss i x lt read = rw (take_more xss i x lt, ← read, flat_map-append) (ap (λ l. flat_map (λ r. r.now) (take i xss) ++ l) (append-nil x.now))

option_map_or : {X Y : Type 0} (f : X → Y) (a b : Option X) → option_map f (option_or a b) ≡ option_or (option_map f a) (option_map f b)
option_map_or f None b = refl
option_map_or f (Some x) b = refl

pub stranger_more : (lists : List (List Entry)) (xs ys : List Receipt) → option_map named_place (first_stranger lists (xs ++ ys)) ≡ option_or (option_map named_place (first_stranger lists xs)) (option_map named_place (first_stranger lists ys))
stranger_more lists xs ys = rw (find-append) (option_map_or named_place (first_stranger lists xs) (first_stranger lists ys))

-- the coverage after one more receipt, whose place is there or isn't
pub coverage_after : (lists : List (List Entry)) (ms : List (List PlaceState)) (done : List Receipt) (r : Receipt) (e : Entry) (row after : List PlaceState) (b : Bool)
    → at lists r.part r.position ≡ Some e → slice_get ms r.part ≡ Some row → ((m : PlaceState) → slice_get row r.position ≡ Some m → after ≡ set row r.position (next_state m b)) → Decides b (entry_of r ≡ e)
    → IsCoverage lists ms done → IsCoverage lists (set ms r.part after) (done ++ r ∷ [])
coverage_after lists ms done r e row after b e_is row_is after_is same coverage = record {
  rows = length-set ms r.part after ∙ coverage.rows;
  by_place = states_after lists ms done r e row after b e_is row_is after_is same coverage.by_place;
}

pub coverage_same : (lists : List (List Entry)) (ms : List (List PlaceState)) (done : List Receipt) (r : Receipt) → at lists r.part r.position ≡ None → IsCoverage lists ms done → IsCoverage lists ms (done ++ r ∷ [])
coverage_same lists ms done r none coverage = record { rows = coverage.rows; by_place = states_same lists ms done r none coverage.by_place }
