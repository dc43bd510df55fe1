-- Cells that are at home, and the chain of cells of each owner.
use Rattle.std.proofs.Common.{◌≡◌, ◌⊎◌, ℕ, zero, suc, ◌+◌, ◌≤◌, ◌<◌, ◌==◌, Bool, true, false, List, [], ◌∷◌, ◌++◌, length, refl, ap, sym, subst, ◌∙◌, arith, inl, inr, slice_set}
use Rattle.std.proofs.lemmas.List.{append-nil}
use mathlib.Core.List.{IsPrefix}
use Rattle.logbook.specs.Pages.{Cell, cell}
use Rattle.crack_witness.specs.declared.event.Event.{Event}
use Rattle.crack_witness.specs.Rules.{Every, NoneOf, Home, Chain}
use Rattle.crack_witness.proofs.Lists.{every_append, every_right, every_left, every_weaker}

pub length_set : (cs : List Cell) (k : ℕ) (c : Cell) → length (slice_set cs k c) ≡ length cs
length_set [] k c = refl
length_set (d ∷ cs) zero c = refl
length_set (d ∷ cs) (suc k) c = ap suc (length_set cs k c)

pub home_set : (cs : List Cell) (k j x : ℕ) → Home cs j → Home (slice_set cs k (x, true)) j
home_set [] k j x h = absurd (omega (arith, h.0))
home_set (c ∷ cs) zero zero x h = (omega arith, refl)
home_set (c ∷ cs) zero (suc j) x h = h
home_set (c ∷ cs) (suc k) zero x h = (omega arith, h.1)
home_set (c ∷ cs) (suc k) (suc j) x h = let r = home_set cs k j x (omega (arith, h.0), h.1) in (omega (arith, r.0), r.1)

pub home_more : (cs : List Cell) (c : Cell) (j : ℕ) → Home cs j → Home (cs ++ c ∷ []) j
home_more [] c j h = absurd (omega (arith, h.0))
home_more (d ∷ cs) c zero h = (omega arith, h.1)
home_more (d ∷ cs) c (suc j) h = let r = home_more cs c j (omega (arith, h.0), h.1) in (omega (arith, r.0), r.1)

pub set_home : (cs : List Cell) (k x : ℕ) → k < length cs → Home (slice_set cs k (x, true)) k
set_home [] k x h = absurd (omega (arith, h))
set_home (c ∷ cs) zero x h = (omega arith, refl)
set_home (c ∷ cs) (suc k) x h = let r = set_home cs k x (omega (arith, h)) in (omega (arith, r.0), r.1)

-- the chain stays if the cells at home stay at home
pub chain_stays : (cs ds : List Cell) → ((k : ℕ) → Home cs k → Home ds k) → (log : List Event) → Chain cs log → Chain ds log
chain_stays cs ds f [] c = tt
chain_stays cs ds f (e ∷ es) c = (every_weaker (λ (d : Event). d.owner ≡ e.owner → Home cs e.next) (λ (d : Event). d.owner ≡ e.owner → Home ds e.next) (λ d h o. f e.next (h o)) es c.0, chain_stays cs ds f es c.1)

-- an event of an owner that had none
pub chain_fresh : (cs : List Cell) (log : List Event) (e : Event) → Chain cs log → NoneOf e.owner log → Chain cs (log ++ e ∷ [])
chain_fresh cs [] e c none = (tt, tt)
chain_fresh cs (d ∷ log) e c none = (every_append (λ (z : Event). z.owner ≡ d.owner → Home cs d.next) log (e ∷ []) c.0 ((λ o. absurd (none.0 (sym o))), tt), chain_fresh cs log e c.1 none.1)

-- an event after those whose cells are at home, as far as they are its owner's
pub chain_push : (cs : List Cell) (log : List Event) (e : Event) → Chain cs log → Every (λ (d : Event). e.owner ≡ d.owner → Home cs d.next) log → Chain cs (log ++ e ∷ [])
chain_push cs [] e c all = (tt, tt)
chain_push cs (d ∷ log) e c all = (every_append (λ (z : Event). z.owner ≡ d.owner → Home cs d.next) log (e ∷ []) c.0 (all.0, tt), chain_push cs log e c.1 all.1)

-- the owner of an event whose cell isn't at home has no later one
pub alone : (cs : List Cell) (xs : List Event) (d : Event) (rest : List Event) → Chain cs (xs ++ d ∷ rest) → (Home cs d.next → ⊥) → NoneOf d.owner rest
alone cs [] d rest c away = every_weaker (λ (z : Event). z.owner ≡ d.owner → Home cs d.next) (λ (z : Event). z.owner ≡ d.owner → ⊥) (λ z h o. away (h o)) rest c.0
alone cs (x ∷ xs) d rest c away = alone cs xs d rest c.1 away

-- its next one brings the cell home
pub chain_adds : (cs ds : List Cell) → ((k : ℕ) → Home cs k → Home ds k) → (xs : List Event) (d : Event) (rest : List Event) (e : Event)
    → e.owner ≡ d.owner → Home ds d.next → NoneOf d.owner rest → Chain cs (xs ++ d ∷ rest) → Chain ds ((xs ++ d ∷ rest) ++ e ∷ [])
chain_adds cs ds f [] d rest e same home none c =
    let all : Every (λ (z : Event). z.owner ≡ d.owner → Home ds d.next) (rest ++ e ∷ []) = every_append (λ (z : Event). z.owner ≡ d.owner → Home ds d.next) rest (e ∷ []) (every_weaker (λ (z : Event). z.owner ≡ d.owner → Home cs d.next) (λ (z : Event). z.owner ≡ d.owner → Home ds d.next) (λ z h o. home) rest c.0) ((λ o. home), tt) in
    (all, chain_fresh ds rest e (chain_stays cs ds f rest c.1) (subst (λ (o : ℕ). NoneOf o rest) (sym same) none))
chain_adds cs ds f (x ∷ xs) d rest e same home none c =
    let tail = chain_adds cs ds f xs d rest e same home none c.1 in
    let here : d.owner ≡ x.owner → Home cs x.next = (every_right (λ (z : Event). z.owner ≡ x.owner → Home cs x.next) xs (d ∷ rest) c.0).0 in
    let stay : Every (λ (z : Event). z.owner ≡ x.owner → Home ds x.next) (xs ++ d ∷ rest) = every_weaker (λ (z : Event). z.owner ≡ x.owner → Home cs x.next) (λ (z : Event). z.owner ≡ x.owner → Home ds x.next) (λ z h o. f x.next (h o)) (xs ++ d ∷ rest) c.0 in
    (every_append (λ (z : Event). z.owner ≡ x.owner → Home ds x.next) (xs ++ d ∷ rest) (e ∷ []) stay ((λ o. f x.next (here (sym same ∙ o))), tt), tail)
