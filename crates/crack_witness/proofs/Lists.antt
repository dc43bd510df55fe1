-- Lists of events.
use Rattle.std.proofs.Common.{◌≡◌, ◌⊎◌, ℕ, zero, suc, ◌+◌, ◌≤◌, ◌<◌, ◌==◌, Bool, true, false, List, [], ◌∷◌, ◌++◌, length, Option, Some, None, refl, ap, sym, subst, ◌∙◌, arith, inl, inr, append_assoc, length-append, get_or, take, All, ◌≢◌, if◌then◌else◌}
use Rattle.std.proofs.lemmas.List.{append-nil, get_or_append_left, get_or_push, take_all}
use Rattle.std.proofs.lemmas.Bool.Decides.{nat_tests}
use mathlib.Core.List.{IsPrefix}
use Rattle.std.specs.Prelude.{option_to_list}
use Rattle.crack_row.specs.declared.command.Entry.{Entry}
use Rattle.crack_witness.specs.declared.event.Event.{Event}
use Rattle.crack_witness.specs.Rules.{Every, NoneOf}
use Rattle.crack_witness.specs.Keeps.{Among, HasOwner}
use Rattle.crack_witness.specs.Histories.{history_of}

pub every_append : {X : Type 0} (P : X → Type 0) (xs ys : List X) → Every P xs → Every P ys → Every P (xs ++ ys)
every_append P [] ys a b = b
every_append P (x ∷ xs) ys a b = (a.0, every_append P xs ys a.1 b)

pub every_left : {X : Type 0} (P : X → Type 0) (xs ys : List X) → Every P (xs ++ ys) → Every P xs
every_left P [] ys a = tt
every_left P (x ∷ xs) ys a = (a.0, every_left P xs ys a.1)

pub every_right : {X : Type 0} (P : X → Type 0) (xs ys : List X) → Every P (xs ++ ys) → Every P ys
every_right P [] ys a = a
every_right P (x ∷ xs) ys a = every_right P xs ys a.1

pub every_weaker : {X : Type 0} (P Q : X → Type 0) → ((x : X) → P x → Q x) → (xs : List X) → Every P xs → Every Q xs
every_weaker P Q f [] a = tt
every_weaker P Q f (x ∷ xs) a = (f x a.0, every_weaker P Q f xs a.1)

pub among_left : {X : Type 0} (P : X → Type 0) (xs ys : List X) → Among P xs → Among P (xs ++ ys)
among_left P [] ys a = absurd a
among_left P (x ∷ xs) ys (inl a) = inl a
among_left P (x ∷ xs) ys (inr a) = inr (among_left P xs ys a)

pub among_right : {X : Type 0} (P : X → Type 0) (xs ys : List X) → Among P ys → Among P (xs ++ ys)
among_right P [] ys a = a
among_right P (x ∷ xs) ys a = inr (among_right P xs ys a)

pub among_prefix : {X : Type 0} (P : X → Type 0) (xs ys : List X) → IsPrefix xs ys → Among P xs → Among P ys
among_prefix P xs ys p a = subst (Among P) p.1 (among_left P xs p.0 a)

-- a property of each event holds of any of them
pub among_every : {X : Type 0} (P Q : X → Type 0) (xs : List X) → Every P xs → Among Q xs → (x : X) × Q x × P x
among_every P Q [] a b = absurd b
among_every P Q (x ∷ xs) a (inl b) = (x, b, a.0)
among_every P Q (x ∷ xs) a (inr b) = among_every P Q xs a.1 b

pub history_append : (m : ℕ) (xs ys : List Event) → history_of m (xs ++ ys) ≡ history_of m xs ++ history_of m ys
history_append m [] ys = refl
history_append m (x ∷ xs) ys = rw (history_append m xs ys, append_assoc (if x.owner == m then option_to_list x.entry else []) (history_of m xs) (history_of m ys)) refl

-- by whether the first event is the owner's
pub none_head : (m : ℕ) (x : Event) (xs : List Event) (b : Bool) → (x.owner == m) ≡ b → (x.owner ≡ m → ⊥) → history_of m xs ≡ [] → history_of m (x ∷ xs) ≡ []
none_head m x xs true is a rest = absurd (a (grind (arith, nat_tests)))
none_head m x xs false is a rest = rw is rest

pub history_none : (m : ℕ) (xs : List Event) → NoneOf m xs → history_of m xs ≡ []
history_none m [] a = refl
history_none m (x ∷ xs) a = none_head m x xs (x.owner == m) refl a.0 (history_none m xs a.1)

-- an owner's own event comes last
pub history_own : (xs : List Event) (e : Event) → history_of e.owner (xs ++ e ∷ []) ≡ history_of e.owner xs ++ option_to_list e.entry
history_own xs e = let same : (e.owner == e.owner) ≡ true = grind (arith, nat_tests) in rw (history_append e.owner xs (e ∷ []), same, append-nil (option_to_list e.entry)) refl

pub history_other : (m : ℕ) (xs : List Event) (e : Event) → (e.owner == m) ≡ false → history_of m (xs ++ e ∷ []) ≡ history_of m xs
history_other m xs e other = rw (history_append m xs (e ∷ []), other) (append-nil (history_of m xs))

-- an event with no entry changes no history
pub history_bare : (m : ℕ) (xs : List Event) (e : Event) (b : Bool) → (e.owner == m) ≡ b → e.entry ≡ None → history_of m (xs ++ e ∷ []) ≡ history_of m xs
history_bare m xs e false is bare = history_other m xs e is
history_bare m xs e true is bare = rw (history_append m xs (e ∷ []), is, bare) (append-nil (history_of m xs))

-- later events without the owner don't change its history
pub history_rest : (m : ℕ) (xs ys : List Event) → NoneOf m ys → history_of m (xs ++ ys) ≡ history_of m xs
history_rest m xs ys none = rw (history_append m xs ys, history_none m ys none) (append-nil (history_of m xs))

-- a longer log has a longer history
pub history_grows : (m : ℕ) (xs ys : List Event) → IsPrefix xs ys → IsPrefix (history_of m xs) (history_of m ys)
history_grows m xs ys p = (history_of m p.0, sym (history_append m xs p.0) ∙ ap (history_of m) p.1)

pub prefix_self : {A : Type 0} (xs : List A) → IsPrefix xs xs
prefix_self xs = ([], append-nil xs)

pub prefix_trans : {A : Type 0} (xs ys zs : List A) → IsPrefix xs ys → IsPrefix ys zs → IsPrefix xs zs
prefix_trans xs ys zs p q = (p.0 ++ q.0, sym (append_assoc xs p.0 q.0) ∙ (ap (λ w. w ++ q.0) p.1 ∙ q.1))

-- what holds of no later event holds of no earlier one
pub none_before : (m : ℕ) (xs ys : List Event) → IsPrefix xs ys → NoneOf m ys → NoneOf m xs
none_before m xs ys p none = every_left (λ (e : Event). e.owner ≡ m → ⊥) xs p.0 (subst (NoneOf m) (sym p.1) none)

-- an owner that has an event differs from one that has none
pub owners_differ : (one other : ℕ) (log : List Event) → HasOwner one log → NoneOf other log → one ≢ other
owners_differ one other log has none = λ same. let e = among_every (λ (e : Event). e.owner ≡ other → ⊥) (λ (e : Event). e.owner ≡ one) log none has in e.2 (e.1 ∙ same)

-- of a list with one more, those before and the last
pub all_front : {X : Type 0} (P : X → Type 0) (xs ys : List X) → All P (xs ++ ys) → All P xs
all_front P xs ys all k d less = subst P (get_or_append_left xs ys d k less) (all k d (omega (arith, less, length-append xs ys)))

pub all_last : {X : Type 0} (P : X → Type 0) (xs : List X) (x : X) → All P (xs ++ x ∷ []) → P x
all_last P xs x all = subst P (get_or_push xs x x (length xs) refl) (all (length xs) x (omega (arith, length-append xs (x ∷ []))))

-- what holds of the first so many, where these are all
pub all_of : {X : Type 0} (P : X → Type 0) (xs : List X) (n : ℕ) → length xs ≤ n → All P (take n xs) → All P xs
all_of P xs n long all = rw (take_all n xs long) at all
