-- Owners that are opened.
use Rattle.std.proofs.Common.{◌≡◌, ◌≢◌, Bool, ℕ, ◌+◌, ◌<◌, ◌≤◌, List, [], ◌∷◌, ◌++◌, length, refl, ap, sym, subst, ◌∙◌, arith, length-append, append_assoc, get_or, map, reverse, All, AllPairs}
use Rattle.std.proofs.lemmas.List.{append-nil, get_or_append_left, get_or_push, get_or-map, length-map, map-append, reverse-append}
use Rattle.std.proofs.lemmas.List.Quantifiers.{all_pairs_push}
use mathlib.Core.List.{IsPrefix}
use Rattle.logbook.specs.Pages.{Book}
use Rattle.crack_part.specs.Parts.{Part}
use Rattle.crack_witness.specs.declared.event.Event.{Event}
use Rattle.crack_witness.specs.Rules.{NoneOf, OwnerState}
use Rattle.crack_witness.specs.Keeps.{HasOwner, IsOwnerAt, AreOwners, IsNew}
use Rattle.crack_witness.specs.Witnesses.{OpenedState, WitnessedState, AreDistinct, AreNames, OwnersDiffer, IsNewAt, AreNewFrom}
use Rattle.crack_witness.proofs.Lists.{owners_differ, among_prefix}

abbrev pub ids_of : List OwnerState → List ℕ
ids_of os = map (λ (o : OwnerState). o.id) os

-- owners of which each has an event, and one more that had none
pub distinct_push : (os : List OwnerState) (o : OwnerState) (log : List Event) → AreDistinct (ids_of os) → All (λ (o : OwnerState). HasOwner o.id log) os → NoneOf o.id log → AreDistinct (ids_of (os ++ o ∷ []))
distinct_push os o log distinct has none =
    subst AreDistinct (sym (map-append (λ (o : OwnerState). o.id) os (o ∷ [])))
    (all_pairs_push (λ (one other : ℕ). one ≢ other) (ids_of os) o.id distinct
    (λ k d less.
    let within : k < length os = omega (arith, less, length-map os (λ (o : OwnerState). o.id)) in
    let is : get_or (ids_of os) k d ≡ (get_or os k o).id = get_or-map (λ (o : OwnerState). o.id) os k o d within in
    subst (λ (n : ℕ). n ≢ o.id) (sym is) (owners_differ (get_or os k o).id o.id log (has k o within) none)))

-- owners of the first partitions, and of the last one
pub owners_begin : (b : Book) (own : ℕ → ℕ) (xs ys : List OwnerState) → AreOwners b own (xs ++ ys) → AreOwners b own xs
owners_begin b own xs ys all k d less = subst (IsOwnerAt b own k) (get_or_append_left xs ys d k less) (all k d (omega (arith, less, length-append xs ys)))

pub owner_last : (b : Book) (own : ℕ → ℕ) (xs : List OwnerState) (x : OwnerState) → AreOwners b own (xs ++ x ∷ []) → IsOwnerAt b own (length xs) x
owner_last b own xs x all = subst (IsOwnerAt b own (length xs)) (get_or_push xs x x (length xs) refl) (all (length xs) x (omega (arith, length-append xs (x ∷ []))))

-- partitions by distinct owners have no owner in common
pub names_apart : (b : Book) (own : ℕ → ℕ) (opened : OpenedState) → AreNames b own opened → AreDistinct opened.ids → OwnersDiffer own (length opened.ids)
names_apart b own opened names distinct one other less within = rw (names.owner_is one, names.owner_is other) (distinct one other 0 less within)

-- the remaining partitions, and those that were witnessed, with the numbers after them
abbrev pub AreDone : (ℕ → ℕ) → ℕ → Bool → List Part → List Part → List WitnessedState → Type 0
AreDone own workers audited all left done = (rest : List Part) × (left ++ rest ≡ all) × AreNewFrom own workers audited (length left) rest done

pub done_none : (own : ℕ → ℕ) (workers : ℕ) (audited : Bool) (all : List Part) → AreDone own workers audited all all []
done_none own workers audited all = ([], append-nil all, tt)

pub done_more : (own : ℕ → ℕ) (workers : ℕ) (audited : Bool) (all left : List Part) (p : Part) (w : WitnessedState) (done : List WitnessedState) → IsNewAt own workers audited (length left) p w → AreDone own workers audited all (left ++ p ∷ []) (reverse done) → AreDone own workers audited all left (reverse (done ++ w ∷ []))
done_more own workers audited all left p w done new old =
    let behind : length (left ++ p ∷ []) ≡ length left + 1 = length-append left (p ∷ []) in
    let later : AreNewFrom own workers audited (length left + 1) old.0 (reverse done) = subst (λ (n : ℕ). AreNewFrom own workers audited n old.0 (reverse done)) behind old.2 in
    (p ∷ old.0, sym (append_assoc left (p ∷ []) old.0) ∙ old.1, subst (AreNewFrom own workers audited (length left) (p ∷ old.0)) (sym (reverse-append done (w ∷ []))) (new, later))

pub done_all : (own : ℕ → ℕ) (workers : ℕ) (audited : Bool) (all left : List Part) (done : List WitnessedState) → left ≡ [] → AreDone own workers audited all left done → AreNewFrom own workers audited 0 all done
done_all own workers audited all left done none d =
    let same : d.0 ≡ all = subst (λ (l : List Part). l ++ d.0 ≡ all) none d.1 in
    subst (λ (l : List Part). AreNewFrom own workers audited 0 l done) same (subst (λ (l : List Part). AreNewFrom own workers audited (length l) d.0 done) none d.2)
