-- An entry that is put behind those of its map.
use Rattle.std.proofs.Common.{◌≡◌, ℕ, zero, suc, ◌+◌, ◌<◌, ◌≤◌, Bool, true, false, List, [], ◌∷◌, ◌++◌, length, get_or, set, filter, sym, ap, ◌∙◌, arith, append_assoc}
use Rattle.std.specs.Prelude.{nat_le, nat_lt}
use Rattle.std.proofs.lemmas.Bool.{le-leb, lt-leb, lt-ltb, le-ltb}
use Rattle.std.proofs.lemmas.List.{append-nil}
use Rattle.std.proofs.lemmas.List.Elements.{All-weaker, filter-append}
use Rattle.crack_arena.specs.Arena.{Handle}
use Rattle.crack_serials.specs.Serials.{map_of, with_serial}
use Rattle.crack_serials.specs.Keeps.{AreOwn}
use Rattle.crack_serials.proofs.ListLemmas.{Entries, joined, IsOf, OwnFrom, own_first, own_rest, own_all, from_first, filter-all, filter-none}

-- the entries of a map and of those before it, and the others
abbrev up_to : ℕ → ℕ × Handle → Bool
up_to i e = nat_le (map_of e.0) i

abbrev after : ℕ → ℕ × Handle → Bool
after i e = nat_lt i (map_of e.0)

joined-placed : (k n i : ℕ) (lists : List Entries) (e : ℕ × Handle) → i ≡ k + n → n < length lists → OwnFrom k lists → joined (set lists n (get_or lists n [] ++ e ∷ [])) ≡ filter (up_to i) (joined lists) ++ e ∷ filter (after i) (joined lists)
joined-placed k n i [] e at within own = absurd (omega (arith, within))
joined-placed k zero i (es ∷ lists) e at within own =
    let own_es = own_first k es lists own in
    let later = from_first (suc k) lists (own_rest k es lists own) in
    let mine = filter-all (up_to i) es (All-weaker (IsOf k) (λ x. up_to i x ≡ true) (λ x is. le-leb (map_of x.0) i (omega (arith, is, at))) es own_es) in
    let none = filter-none (after i) es (All-weaker (IsOf k) (λ x. after i x ≡ false) (λ x is. le-ltb i (map_of x.0) (omega (arith, is, at))) es own_es) in
    let no_others = filter-none (up_to i) (joined lists) (All-weaker (λ x. suc k ≤ map_of x.0) (λ x. up_to i x ≡ false) (λ x is. lt-leb (map_of x.0) i (omega (arith, is, at))) (joined lists) later) in
    let others = filter-all (after i) (joined lists) (All-weaker (λ x. suc k ≤ map_of x.0) (λ x. after i x ≡ true) (λ x is. lt-ltb i (map_of x.0) (omega (arith, is, at))) (joined lists) later) in
    rw (filter-append (up_to i) es (joined lists), filter-append (after i) es (joined lists), mine, none, no_others, others, append-nil es) (append_assoc es (e ∷ []) (joined lists))
joined-placed k (suc n) i (es ∷ lists) e at within own =
    let own_es = own_first k es lists own in
    let mine = filter-all (up_to i) es (All-weaker (IsOf k) (λ x. up_to i x ≡ true) (λ x is. le-leb (map_of x.0) i (omega (arith, is, at))) es own_es) in
    let none = filter-none (after i) es (All-weaker (IsOf k) (λ x. after i x ≡ false) (λ x is. le-ltb i (map_of x.0) (omega (arith, is, at))) es own_es) in
    let rest = joined-placed (suc k) n i lists e (omega (arith, at)) (omega (arith, within)) (own_rest k es lists own) in
    rw (filter-append (up_to i) es (joined lists), filter-append (after i) es (joined lists), mine, none, rest) (sym (append_assoc es (filter (up_to i) (joined lists)) (e ∷ filter (after i) (joined lists))))

-- an entry that is put behind those of its map
pub placed-joined : (lists : List Entries) (i serial : ℕ) (h : Handle) → i ≡ map_of serial → i < length lists → AreOwn lists → joined (set lists i (get_or lists i [] ++ (serial, h) ∷ [])) ≡ with_serial serial h (joined lists)
placed-joined lists i serial h at within own =
    ap (λ m. joined (set lists i (get_or lists i [] ++ (serial, h) ∷ []))) at ∙ rw (← at) (joined-placed 0 i i lists (serial, h) (omega arith) within (own_all lists own))
