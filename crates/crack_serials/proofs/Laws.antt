-- Laws for the crates above: room for consecutive serials, and an entry that is put behind those of its map.
use Rattle.std.proofs.Common.{◌≡◌, ◌≢◌, ℕ, suc, ◌<◌, Bool, true, false, [], ◌∷◌, ◌++◌, filter, Some, None, refl, sym, ap, ◌∙◌, inl, inr, arith}
use Rattle.std.specs.Prelude.{if◌then◌else◌, nat_le, nat_lt}
use Rattle.std.proofs.lemmas.Bool.{cases_eq, cases_lt, ne_eqb, eq-eqb, le-leb, lt-leb, lt-ltb, le-ltb}
use Rattle.crack_arena.specs.Arena.{Handle}
use Rattle.crack_serials.specs.Serials.{Serials, map_of, handle_of, Maps, with_serial, room_for, UsesRoom, HasRoom}
use Rattle.crack_serials.proofs.ListLemmas.{Entries}

-- an entry with another serial is passed over, if it is there
skip : (b : Bool) (p : ℕ) (e : ℕ × Handle) (es : Entries) → p ≢ e.0 → handle_of (if b then e ∷ es else es) p ≡ handle_of es p
skip true p e es apart = rw (ne_eqb p e.0 apart) refl
skip false p e es apart = refl

-- with room for consecutive serials there is room for the first
pub room_for-first : (s : Serials) (first count : ℕ) → HasRoom s first (suc count) → 0 < room_for s first
room_for-first s first count room = omega (arith, rw (eq-eqb (map_of first) (map_of first) refl) at (room (map_of first)))

-- and, once it is inserted, for the others
pub HasRoom-next : (s t : Serials) (first count : ℕ) → UsesRoom first s t → HasRoom s first (suc count) → HasRoom t (suc first) count
HasRoom-next s t first count uses room map = elim (cases_eq (map_of first) map) [
  | inl same ↦ omega (arith, rw (eq-eqb (map_of first) map same) at (room map), rw (eq-eqb (map_of first) map same) at (uses map))
  | inr apart ↦ omega (arith, rw (ne_eqb (map_of first) map apart) at (room map), rw (ne_eqb (map_of first) map apart) at (uses map))
]

-- a look-up in one list and then another
handle_of-after : (p : ℕ) (es fs : Entries) → handle_of es p ≡ None → handle_of (es ++ fs) p ≡ handle_of fs p
handle_of-after p [] fs none = refl
handle_of-after p (e ∷ es) fs none = elim (cases_eq p e.0) [
  | inl same ↦ let some : handle_of (e ∷ es) p ≡ Some e.1 = rw (eq-eqb p e.0 same) refl in absurd (cc)
  | inr apart ↦ rw (ne_eqb p e.0 apart) (handle_of-after p es fs (rw (ne_eqb p e.0 apart) at none))
]

handle_of-before : (p : ℕ) (es fs : Entries) → handle_of fs p ≡ None → handle_of (es ++ fs) p ≡ handle_of es p
handle_of-before p [] fs none = none
handle_of-before p (e ∷ es) fs none = elim (cases_eq p e.0) [
  | inl same ↦ rw (eq-eqb p e.0 same) refl
  | inr apart ↦ rw (ne_eqb p e.0 apart) (handle_of-before p es fs none)
]

-- a look-up among the entries whose serials pass a test, if its serial passes, or doesn't
handle_of-passes : (test : ℕ → Bool) (p : ℕ) (es : Entries) → test p ≡ true → handle_of (filter (λ (e : ℕ × Handle). test e.0) es) p ≡ handle_of es p
handle_of-passes test p [] passes = refl
handle_of-passes test p (e ∷ es) passes = elim (cases_eq p e.0) [
  | inl same ↦ rw (eq-eqb p e.0 same, ap test (sym same) ∙ passes) (rw (eq-eqb p e.0 same) refl)
  | inr apart ↦ rw (ne_eqb p e.0 apart) (skip (test e.0) p e (filter (λ (x : ℕ × Handle). test x.0) es) apart ∙ handle_of-passes test p es passes)
]

handle_of-fails : (test : ℕ → Bool) (p : ℕ) (es : Entries) → test p ≡ false → handle_of (filter (λ (e : ℕ × Handle). test e.0) es) p ≡ None
handle_of-fails test p [] fails = refl
handle_of-fails test p (e ∷ es) fails = elim (cases_eq p e.0) [
  | inl same ↦ rw (ap test (sym same) ∙ fails) (handle_of-fails test p es fails)
  | inr apart ↦ skip (test e.0) p e (filter (λ (x : ℕ × Handle). test x.0) es) apart ∙ handle_of-fails test p es fails
]

-- a serial that isn't in the map is found after it was put there, and every other as before
pub Maps-placed : (serial : ℕ) (h : Handle) (es : Entries) → handle_of es serial ≡ None → Maps serial (Some h) es (with_serial serial h es)
Maps-placed serial h es fresh p =
    let i = map_of serial in
    let first = filter (λ (e : ℕ × Handle). nat_le (map_of e.0) i) es in
    let last = filter (λ (e : ℕ × Handle). nat_lt i (map_of e.0)) es in
    elim (cases_lt i (map_of p)) [
      | inl later ↦
          let none = handle_of-fails (λ n. nat_le (map_of n) i) p es (lt-leb (map_of p) i later) in
          let apart : serial ≢ p = λ same. absurd (omega (arith, ap map_of same, later)) in
          rw (ne_eqb serial p apart) (handle_of-after p first ((serial, h) ∷ last) none ∙ rw (ne_eqb p serial (λ same. apart (sym same))) (handle_of-passes (λ n. nat_lt i (map_of n)) p es (lt-ltb i (map_of p) later)))
      | inr sooner ↦
          let all = handle_of-passes (λ n. nat_le (map_of n) i) p es (le-leb (map_of p) i sooner) in
          let none = handle_of-fails (λ n. nat_lt i (map_of n)) p es (le-ltb i (map_of p) sooner) in
          elim (cases_eq serial p) [
            | inl same ↦ rw (eq-eqb serial p same) (handle_of-after p first ((serial, h) ∷ last) (all ∙ ap (handle_of es) (sym same) ∙ fresh) ∙ rw (eq-eqb p serial (sym same)) refl)
            | inr apart ↦ rw (ne_eqb serial p apart) (handle_of-before p first ((serial, h) ∷ last) (rw (ne_eqb p serial (λ same. apart (sym same))) none) ∙ all)
          ]
    ]
