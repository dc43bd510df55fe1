-- The entries of maps as one list, and the look-ups in it.
use Rattle.std.proofs.Common.{◌≡◌, ◌≢◌, ℕ, zero, suc, ◌+◌, ◌<◌, ◌≤◌, Bool, true, false, List, [], ◌∷◌, length, get_or, set, filter, Option, refl, sym, ap, subst, ◌∙◌, inl, inr, arith, nat_eq, length-append}
use Rattle.std.specs.List.{All, flat_map}
use Rattle.std.proofs.lemmas.Bool.{cases_eq, ne_eqb, eq-eqb}
use Rattle.std.proofs.lemmas.List.{get_or-set_same, get_or-set_other, append-nil}
use Rattle.std.proofs.lemmas.List.Elements.{All-nil, All-head, All-tail, All-append, All-weaker, filter-append}
use Rattle.crack_arena.specs.Arena.{Handle}
use Rattle.crack_serials.specs.Serials.{map_of, handle_of, Maps, sharing}
use Rattle.crack_serials.specs.Keeps.{AreOwn}

-- a list of entries
abbrev pub Entries : Type 0
Entries = List (ℕ × Handle)

-- the entries of all lists
abbrev pub joined : List Entries → Entries
joined lists = flat_map (λ (es : Entries). es) lists

-- all elements pass, or none
pub filter-all : {X : Type 0} (p : X → Bool) (xs : List X) → All (λ x. p x ≡ true) xs → filter p xs ≡ xs
filter-all p [] all = refl
filter-all p (x ∷ xs) all = rw (All-head (λ x. p x ≡ true) x xs all) (ap (λ l. x ∷ l) (filter-all p xs (All-tail (λ x. p x ≡ true) x xs all)))

pub filter-none : {X : Type 0} (p : X → Bool) (xs : List X) → All (λ x. p x ≡ false) xs → filter p xs ≡ []
filter-none p [] all = refl
filter-none p (x ∷ xs) all = rw (All-head (λ x. p x ≡ false) x xs all) (filter-none p xs (All-tail (λ x. p x ≡ false) x xs all))

-- the entries are those of one map
abbrev pub IsOf : ℕ → ℕ × Handle → Type 0
IsOf i e = map_of e.0 ≡ i

-- the first list has the entries of the map k, and so on
abbrev pub OwnFrom : ℕ → List Entries → Type 0
OwnFrom k lists = (n i : ℕ) → i ≡ k + n → All (IsOf i) (get_or lists n [])

pub own_first : (k : ℕ) (es : Entries) (lists : List Entries) → OwnFrom k (es ∷ lists) → All (IsOf k) es
own_first k es lists own = own 0 k (omega arith)

pub own_rest : (k : ℕ) (es : Entries) (lists : List Entries) → OwnFrom k (es ∷ lists) → OwnFrom (suc k) lists
own_rest k es lists own n i at = own (suc n) i (omega arith)

-- all entries are of these maps or later ones
pub from_first : (k : ℕ) (lists : List Entries) → OwnFrom k lists → All (λ e. k ≤ map_of e.0) (joined lists)
from_first k [] own = All-nil (λ e. k ≤ map_of e.0)
from_first k (es ∷ lists) own =
    All-append (λ e. k ≤ map_of e.0) es (joined lists)
    (All-weaker (IsOf k) (λ e. k ≤ map_of e.0) (λ e is. omega (arith, is)) es (own_first k es lists own))
    (All-weaker (λ e. suc k ≤ map_of e.0) (λ e. k ≤ map_of e.0) (λ e later. omega (arith, later)) (joined lists) (from_first (suc k) lists (own_rest k es lists own)))

-- the test that picks the entries of one map
abbrev in_map : ℕ → ℕ × Handle → Bool
in_map i e = nat_eq (map_of e.0) i

-- the entries of one map
of_map : (k n i : ℕ) (lists : List Entries) → i ≡ k + n → OwnFrom k lists → filter (in_map i) (joined lists) ≡ get_or lists n []
of_map k n i [] at own = refl
of_map k zero i (es ∷ lists) at own =
    let mine = filter-all (in_map i) es (All-weaker (IsOf k) (λ e. in_map i e ≡ true) (λ e is. eq-eqb (map_of e.0) i (omega (arith, is, at))) es (own_first k es lists own)) in
    let others = filter-none (in_map i) (joined lists) (All-weaker (λ e. suc k ≤ map_of e.0) (λ e. in_map i e ≡ false) (λ e later. ne_eqb (map_of e.0) i (λ same. absurd (omega (arith, later, same, at)))) (joined lists) (from_first (suc k) lists (own_rest k es lists own))) in
    rw (filter-append (in_map i) es (joined lists), mine, others) (append-nil es)
of_map k (suc n) i (es ∷ lists) at own =
    let before = filter-none (in_map i) es (All-weaker (IsOf k) (λ e. in_map i e ≡ false) (λ e is. ne_eqb (map_of e.0) i (λ same. absurd (omega (arith, is, same, at)))) es (own_first k es lists own)) in
    rw (filter-append (in_map i) es (joined lists), before) (of_map (suc k) n i lists (omega (arith, at)) (own_rest k es lists own))

pub own_all : (lists : List Entries) → AreOwn lists → OwnFrom 0 lists
own_all lists own n i at = subst (λ m. All (IsOf m) (get_or lists n [])) (omega (arith, at)) (own n)

-- the entries of a serial's map
pub sharing-joined : (lists : List Entries) (serial i : ℕ) → i ≡ map_of serial → AreOwn lists → sharing serial (joined lists) ≡ get_or lists i []
sharing-joined lists serial i at own = of_map 0 i (map_of serial) lists (omega (arith, at)) (own_all lists own)

-- a serial is looked up among the entries of its map
handle_of-sharing : (n : ℕ) (es : Entries) → handle_of es n ≡ handle_of (sharing n es) n
handle_of-sharing n [] = refl
handle_of-sharing n (e ∷ es) = elim (cases_eq n e.0) [
  | inl same ↦ rw (eq-eqb n e.0 same, eq-eqb (map_of e.0) (map_of n) (ap map_of (sym same))) (rw (eq-eqb n e.0 same) refl)
  | inr apart ↦ elim (cases_eq (map_of e.0) (map_of n)) [
    | inl near ↦ rw (ne_eqb n e.0 apart, eq-eqb (map_of e.0) (map_of n) near) (rw (ne_eqb n e.0 apart) (handle_of-sharing n es))
    | inr far ↦ rw (ne_eqb n e.0 apart, ne_eqb (map_of e.0) (map_of n) far) (handle_of-sharing n es)
  ]
]

pub handle_of-joined : (lists : List Entries) (serial i : ℕ) → i ≡ map_of serial → AreOwn lists → handle_of (joined lists) serial ≡ handle_of (get_or lists i []) serial
handle_of-joined lists serial i at own = handle_of-sharing serial (joined lists) ∙ ap (λ es. handle_of es serial) (sharing-joined lists serial i at own)

-- one map is written
pub AreOwn-set : (lists : List Entries) (i : ℕ) (es : Entries) → i < length lists → AreOwn lists → All (IsOf i) es → AreOwn (set lists i es)
AreOwn-set lists i es within own all n = elim (cases_eq n i) [
  | inl same ↦ rw same (rw (get_or-set_same lists i es [] within) all)
  | inr apart ↦ rw (get_or-set_other lists i n es [] apart) (own n)
]

pub length-joined_set : (lists : List Entries) (i : ℕ) (es : Entries) → i < length lists → length (joined (set lists i es)) + length (get_or lists i []) ≡ length (joined lists) + length es
length-joined_set [] i es within = absurd (omega (arith, within))
length-joined_set (l ∷ lists) zero es within = omega (arith, length-append l (joined lists), length-append es (joined lists))
length-joined_set (l ∷ lists) (suc i) es within = omega (arith, length-append l (joined lists), length-append l (joined (set lists i es)), length-joined_set lists i es (omega (arith, within)))

-- the look-ups after one map is written, if the serial's map has the look-ups
pub Maps-joined_set : (lists : List Entries) (i serial : ℕ) (es : Entries) (o : Option Handle) → i ≡ map_of serial → i < length lists → AreOwn lists → All (IsOf i) es → Maps serial o (get_or lists i []) es → Maps serial o (joined lists) (joined (set lists i es))
Maps-joined_set lists i serial es o at within own all maps n =
    let after = AreOwn-set lists i es within own all in
    elim (cases_eq (map_of n) i) [
      | inl same ↦ rw (handle_of-joined (set lists i es) n i (sym same) after, get_or-set_same lists i es [] within, handle_of-joined lists n i (sym same) own) (maps n)
      | inr apart ↦
          let other : serial ≢ n = λ same. apart (sym (at ∙ ap map_of same)) in
          rw (handle_of-joined (set lists i es) n (map_of n) refl after, get_or-set_other lists i (map_of n) es [] apart, ne_eqb serial n other) (sym (handle_of-joined lists n (map_of n) refl own))
    ]
