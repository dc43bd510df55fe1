-- The steps keep the rule.
use Rattle.std.proofs.Common.{◌≡◌, ◌⊎◌, ℕ, zero, suc, ◌+◌, ◌≤◌, ◌<◌, ◌==◌, Bool, true, false, List, [], ◌∷◌, ◌++◌, length, refl, ap, sym, subst, ◌∙◌, arith, inl, inr, slice_set, None, Option, length-append}
use Rattle.std.proofs.lemmas.List.{append-nil}
use Rattle.std.specs.Prelude.{option_to_list}
use mathlib.Core.List.{IsPrefix}
use prog.Atomic.{either}
use Rattle.logbook.specs.Pages.{Cell, cell, adds, gives, keeps, no_nib, nib, Nib, step, Moves, Goes, may_make, may_write}
use Rattle.crack_witness.specs.declared.event.Event.{Event}
use Rattle.crack_row.specs.declared.command.Entry.{Entry}
use Rattle.crack_plain.specs.Plain.{AreReplies, no_rows}
use Rattle.crack_witness.specs.Rules.{Every, NoneOf, Home, Chain, IsBookKept, Makes, Opens, Adds, IsAlone, Looks, opening, place, row}
use Rattle.crack_witness.specs.Keeps.{Among, HasWord, HasOwner}
use Rattle.crack_witness.specs.Histories.{history_of, AreHistories, AreEmpty}
use Rattle.crack_witness.proofs.Lists.{among_prefix, among_every, every_weaker, every_append, every_right, every_left, among_right, among_left, prefix_trans, history_bare, history_none, history_own, history_other, history_rest}
use Rattle.crack_witness.proofs.Cells.{length_set, home_set, set_home, home_more, chain_stays, chain_fresh, chain_adds, chain_push, alone}
use Rattle.std.proofs.lemmas.Bool.Decides.{nat_tests}
use Rattle.std.proofs.Common.{append_assoc, Some, replicate, ◌≢◌}

abbrev pub shown : List Event → List Event
shown log = []

abbrev pub moved : List Event → List Event → ℕ → Type 0
moved xs ys n = Unit {0}

-- a word of which an event was seen is at home
pub word_home : (cs : List Cell) (log v : List Event) (k : ℕ) → IsBookKept cs log → IsPrefix v log → HasWord k v → Home cs k
word_home cs log v k kept pre has =
    let a = among_every (λ (e : Event). Home cs e.word) (λ (e : Event). e.word ≡ k) log kept.words (among_prefix (λ (e : Event). e.word ≡ k) v log pre has) in
    subst (Home cs) a.1 a.2

abbrev pub grown : List Cell → ℕ → ℕ → List Cell
grown cs k x = slice_set cs k (x, true) ++ (0, false) ∷ []

pub grown_home : (cs : List Cell) (k x j : ℕ) → Home cs j → Home (grown cs k x) j
grown_home cs k x j h = home_more (slice_set cs k (x, true)) (0, false) j (home_set cs k j x h)

pub grown_length : (cs : List Cell) (k x : ℕ) → length (grown cs k x) ≡ length cs + 1
grown_length cs k x = omega (arith, length-append (slice_set cs k (x, true)) ((0, false) ∷ []), length_set cs k (x, true))

-- the rule stays with one more cell
pub kept_grown : (cs : List Cell) (log : List Event) (k x : ℕ) → IsBookKept cs log → IsBookKept (grown cs k x) log
kept_grown cs log k x kept = record {
  words = every_weaker (λ (e : Event). Home cs e.word) (λ (e : Event). Home (grown cs k x) e.word) (λ e h. grown_home cs k x e.word h) log kept.words;
  owners = every_weaker (λ (e : Event). e.owner < length cs) (λ (e : Event). e.owner < length (grown cs k x)) (λ e h. omega (arith, h, grown_length cs k x)) log kept.owners;
  chain = chain_stays cs (grown cs k x) (grown_home cs k x) log kept.chain;
  legal = kept.legal;
}

pub makes_moves : (v : List Event) (k : ℕ) (ask : Event) → HasWord k v
    → Moves IsBookKept shown moved k (v, (no_nib, None)) (λ n. either (n == 0) 0 n) (Makes (step k 0 0 ask) (v, (no_nib, None)))
makes_moves v k ask has cs log kept pre away =
    let h = word_home cs log v k kept pre has in
    let x = either ((cell cs k).0 == 0) 0 (cell cs k).0 in
    (h.0, h.1, (adds, [], None, tt, subst (IsBookKept (grown cs k x)) (sym (append-nil log)) (kept_grown cs log k x kept), inl (refl, refl), refl))

-- the rule stays with one more cell and the first event of the owner that it names
pub kept_opened : (cs : List Cell) (log : List Event) (k x word : ℕ) → Home cs word → IsBookKept cs log → IsBookKept (grown cs k x) (log ++ opening (length cs) word ∷ [])
kept_opened cs log k x word h kept =
    let g = kept_grown cs log k x kept in
    let e = opening (length cs) word in record {
      words = every_append (λ (e : Event). Home (grown cs k x) e.word) log (e ∷ []) g.words (grown_home cs k x word h, tt);
      owners = every_append (λ (e : Event). e.owner < length (grown cs k x)) log (e ∷ []) g.owners (omega (arith, grown_length cs k x), tt);
      chain = chain_fresh (grown cs k x) log e g.chain (every_weaker (λ (e : Event). e.owner < length cs) (λ (d : Event). d.owner ≡ length cs → ⊥) (λ d less same. omega (arith, less, same)) log kept.owners);
      legal = λ owner. subst (AreReplies no_rows) (sym (history_bare owner log e (length cs == owner) refl refl)) (kept.legal owner);
    }

pub opens_moves : (v : List Event) (k : ℕ) (ask : Event) → HasWord k v → ask.word ≡ k
    → Moves IsBookKept shown moved k (v, (no_nib, None)) (λ n. either (n == 0) 0 n) (Opens (step k 0 0 ask) (v, (no_nib, None)))
opens_moves v k ask has at cs log kept pre away =
    let h = word_home cs log v k kept pre has in
    let x = either ((cell cs k).0 == 0) 0 (cell cs k).0 in
    let none : NoneOf (length cs) log = every_weaker (λ (e : Event). e.owner < length cs) (λ (d : Event). d.owner ≡ length cs → ⊥) (λ d less same. omega (arith, less, same)) log kept.owners in
    let new = kept_opened cs log k x ask.word (subst (Home cs) (sym at) h) kept in
    (h.0, h.1, (adds, opening (length cs) ask.word ∷ [], None, tt, new, inl (refl, refl), (refl, new.legal, (log, none, refl, pre))))

-- the pen's cell comes home
abbrev pub given_home : List Cell → ℕ → ℕ → Nib → List Cell
given_home cs k x p = slice_set (slice_set cs k (x, true)) p.key (p.value, true)

pub given_stays : (cs : List Cell) (k x : ℕ) (p : Nib) (j : ℕ) → Home cs j → Home (given_home cs k x p) j
given_stays cs k x p j h = home_set (slice_set cs k (x, true)) p.key j p.value (home_set cs k j x h)

pub given_length : (cs : List Cell) (k x : ℕ) (p : Nib) → length (given_home cs k x p) ≡ length cs
given_length cs k x p = length_set (slice_set cs k (x, true)) p.key (p.value, true) ∙ length_set cs k (x, true)

-- an owner whose last seen event names the pen's cell has no other after it
pub is_alone : (cs : List Cell) (log : List Event) (owner key : ℕ) → Chain cs log → (Home cs key → ⊥) → IsAlone owner key log
is_alone cs log owner key chain away xs d rest is own named =
    let c : Chain cs (xs ++ d ∷ rest) = subst (Chain cs) (is ∙ append_assoc xs (d ∷ []) rest) chain in
    subst (λ (o : ℕ). NoneOf o rest) own (alone cs xs d rest c (subst (λ (j : ℕ). Home cs j → ⊥) (sym named) away))

pub legal_more : (log : List Event) (e : Event) (b : Bool) (owner : ℕ) → (e.owner == owner) ≡ b → AreReplies no_rows (history_of owner log) → AreReplies no_rows (history_of e.owner log ++ option_to_list e.entry) → AreReplies no_rows (history_of owner (log ++ e ∷ []))
legal_more log e true owner is old new =
    let same : e.owner ≡ owner = grind (arith, nat_tests) in
    subst (λ (o : ℕ). AreReplies no_rows (history_of o (log ++ e ∷ []))) same (subst (AreReplies no_rows) (sym (history_own log e)) new)
legal_more log e false owner is old new = subst (AreReplies no_rows) (sym (history_other owner log e is)) old

pub kept_added : (cs : List Cell) (xs : List Event) (d : Event) (rest : List Event) (k x : ℕ) (p : Nib) (e : Event)
    → d.owner ≡ e.owner → d.next ≡ p.key → p.key < length cs → (Home cs p.key → ⊥) → Home cs e.word
    → AreReplies no_rows (history_of e.owner (xs ++ d ∷ []) ++ option_to_list e.entry)
    → IsBookKept cs ((xs ++ d ∷ []) ++ rest) → IsBookKept (given_home cs k x p) (((xs ++ d ∷ []) ++ rest) ++ e ∷ [])
kept_added cs xs d rest k x p e own at less away h may kept =
    let log = (xs ++ d ∷ []) ++ rest in
    let ds = given_home cs k x p in
    let flat : log ≡ xs ++ d ∷ rest = append_assoc xs (d ∷ []) rest in
    let c : Chain cs (xs ++ d ∷ rest) = subst (Chain cs) flat kept.chain in
    let none : NoneOf d.owner rest = alone cs xs d rest c (subst (λ (j : ℕ). Home cs j → ⊥) (sym at) away) in
    let here : Home ds d.next = subst (Home ds) (sym at) (set_home (slice_set cs k (x, true)) p.key p.value (omega (arith, length_set cs k (x, true), less))) in
    let same : history_of e.owner log ≡ history_of e.owner (xs ++ d ∷ []) = history_rest e.owner (xs ++ d ∷ []) rest (subst (λ (o : ℕ). NoneOf o rest) own none) in record {
      words = every_append (λ (e : Event). Home ds e.word) log (e ∷ []) (every_weaker (λ (e : Event). Home cs e.word) (λ (e : Event). Home ds e.word) (λ e h. given_stays cs k x p e.word h) log kept.words) (given_stays cs k x p e.word h, tt);
      owners = every_append (λ (e : Event). e.owner < length ds) log (e ∷ []) (every_weaker (λ (e : Event). e.owner < length cs) (λ (e : Event). e.owner < length ds) (λ e h. omega (arith, h, given_length cs k x p)) log kept.owners) (let o = every_right (λ (e : Event). e.owner < length cs) xs (d ∷ []) (every_left (λ (e : Event). e.owner < length cs) (xs ++ d ∷ []) rest kept.owners) in omega (arith, o.0, own, given_length cs k x p), tt);
      chain = subst (λ (l : List Event). Chain ds (l ++ e ∷ [])) (sym flat) (chain_adds cs ds (given_stays cs k x p) xs d rest e (sym own) here none c);
      legal = λ owner. legal_more log e (e.owner == owner) owner refl (kept.legal owner) (subst (λ (h : List Entry). AreReplies no_rows (h ++ option_to_list e.entry)) (sym same) may);
    }

pub adds_moves : (v xs : List Event) (d : Event) (k : ℕ) (p : Nib) (e : Event)
    → IsPrefix (xs ++ d ∷ []) v → d.owner ≡ e.owner → d.next ≡ p.key → p.right ≡ may_write → d.word ≡ k → e.word ≡ k
    → AreReplies no_rows (history_of e.owner (xs ++ d ∷ []) ++ option_to_list e.entry)
    → Moves IsBookKept shown moved k (v, (p, None)) (λ n. either (n == 0) 0 n) (Adds (step k 0 0 e) (v, (p, None)))
adds_moves v xs d k p e begins own at right has stands may cs log kept pre away =
    let b = xs ++ d ∷ [] in
    let q : IsPrefix b log = prefix_trans b v log begins pre in
    let h = word_home cs log b k kept q (among_right (λ (e : Event). e.word ≡ k) xs (d ∷ []) (inl has)) in
    let x = either ((cell cs k).0 == 0) 0 (cell cs k).0 in
    let off = away right in
    let not_home : Home cs p.key → ⊥ = λ there. absurd (cc (there.1, off.1)) in
    let kept' : IsBookKept cs (b ++ q.0) = subst (IsBookKept cs) (sym q.1) kept in
    let new : IsBookKept (given_home cs k x p) (log ++ e ∷ []) = subst (λ (l : List Event). IsBookKept (given_home cs k x p) (l ++ e ∷ [])) q.1 (kept_added cs xs d q.0 k x p e own at off.0 not_home (subst (Home cs) (sym stands) h) may kept') in
    (h.0, h.1, (gives, e ∷ [], None, right, new, inl (refl, refl), (log, refl, pre, is_alone cs log e.owner p.key kept.chain not_home, new.legal)))

-- the owner's history has one more entry
pub added_history : (xs : List Event) (d : Event) (v log : List Event) (e : Event) (x : Entry)
    → IsPrefix (xs ++ d ∷ []) v → IsPrefix v log → IsAlone e.owner d.next log → d.owner ≡ e.owner → e.entry ≡ Some x
    → history_of e.owner (log ++ e ∷ []) ≡ history_of e.owner (xs ++ d ∷ []) ++ x ∷ []
added_history xs d v log e x begins pre lone own is =
    let b = xs ++ d ∷ [] in
    let q : IsPrefix b log = prefix_trans b v log begins pre in
    let none : NoneOf e.owner q.0 = lone xs d q.0 (sym q.1) own refl in
    let same : history_of e.owner log ≡ history_of e.owner b = sym (ap (history_of e.owner) q.1) ∙ history_rest e.owner b q.0 none in
    rw (history_own log e, is, same) refl

pub opened_history : (before : List Event) (owner word : ℕ) → NoneOf owner before → history_of owner (before ++ opening owner word ∷ []) ≡ []
opened_history before owner word none = history_bare owner before (opening owner word) (owner == owner) refl refl ∙ history_none owner before none

-- a row of words
pub home_replicate : (n k : ℕ) → k < n → Home (replicate n (0, true)) k
home_replicate zero k less = absurd (omega (arith, less))
home_replicate (suc n) zero less = (omega arith, refl)
home_replicate (suc n) (suc k) less = let r = home_replicate n k (omega (arith, less)) in (omega (arith, r.0), r.1)

pub row_each : (P : Event → Type 0) (n m : ℕ) → n ≤ m → ((k : ℕ) → k < m → P (place k)) → Every P (row n)
row_each P zero m less f = tt
row_each P (suc n) m less f = every_append P (row n) (place n ∷ []) (row_each P n m (omega (arith, less)) f) (f n (omega (arith, less)), tt)

pub row_chain : (n m : ℕ) → n ≤ m → Chain (replicate m (0, true)) (row n)
row_chain zero m less = tt
row_chain (suc n) m less = chain_push (replicate m (0, true)) (row n) (place n) (row_chain n m (omega (arith, less)))
    (row_each (λ (d : Event). (place n).owner ≡ d.owner → Home (replicate m (0, true)) d.next) n m (omega (arith, less)) (λ k l o. home_replicate m 0 (omega (arith, l))))

pub row_history : (owner n : ℕ) → history_of owner (row n) ≡ []
row_history owner zero = refl
row_history owner (suc n) = history_bare owner (row n) (place n) (0 == owner) refl refl ∙ row_history owner n

pub row_kept : (n : ℕ) → IsBookKept (replicate n (0, true)) (row n)
row_kept n = record {
  words = row_each (λ (e : Event). Home (replicate n (0, true)) e.word) n n (omega arith) (λ k l. home_replicate n k l);
  owners = row_each (λ (e : Event). e.owner < length (replicate n (0, true))) n n (omega arith) (λ k l. let h = home_replicate n 0 (omega (arith, l)) in h.0);
  chain = row_chain n n (omega arith);
  legal = λ owner. subst (AreReplies no_rows) (sym (row_history owner n)) tt;
}

pub row_has_last : (n k : ℕ) (b : Bool) → (k == n) ≡ b → k < suc n → (k < n → HasWord k (row n)) → HasWord k (row (suc n))
row_has_last n k true is less rest = among_right (λ (e : Event). e.word ≡ k) (row n) (place n ∷ []) (inl (let s : k ≡ n = grind (arith, nat_tests) in sym s))
row_has_last n k false is less rest = among_left (λ (e : Event). e.word ≡ k) (row n) (place n ∷ []) (rest (let s : k ≢ n = grind (arith, nat_tests) in omega (arith, less, s)))

pub row_has : (n k : ℕ) → k < n → HasWord k (row n)
row_has zero k less = absurd (omega (arith, less))
row_has (suc n) k less = row_has_last n k (k == n) refl less (λ l. row_has n k l)

-- the rule stays where a word at home is written
pub kept_set : (cs : List Cell) (log : List Event) (k x : ℕ) → IsBookKept cs log → IsBookKept (slice_set cs k (x, true)) log
kept_set cs log k x kept = record {
  words = every_weaker (λ (e : Event). Home cs e.word) (λ (e : Event). Home (slice_set cs k (x, true)) e.word) (λ e h. home_set cs k e.word x h) log kept.words;
  owners = every_weaker (λ (e : Event). e.owner < length cs) (λ (e : Event). e.owner < length (slice_set cs k (x, true))) (λ e h. omega (arith, h, length_set cs k (x, true))) log kept.owners;
  chain = chain_stays cs (slice_set cs k (x, true)) (λ j h. home_set cs k j x h) log kept.chain;
  legal = kept.legal;
}

pub looks_moves : (v : List Event) (k : ℕ) (p : Nib) (ask : Event) → HasWord k v → p.right ≡ may_write
    → Moves IsBookKept shown moved k (v, (p, None)) (λ n. either (n == 0) 0 n) (Looks (step k 0 0 ask) (v, (p, None)))
looks_moves v k p ask has right cs log kept pre away =
    let h = word_home cs log v k kept pre has in
    let x = either ((cell cs k).0 == 0) 0 (cell cs k).0 in
    let off = away right in
    let not_home : Home cs p.key → ⊥ = λ there. absurd (cc (there.1, off.1)) in
    let all : log ++ [] ≡ log = append-nil log in
    (h.0, h.1, (keeps, [], None, tt, subst (IsBookKept (slice_set cs k (x, true))) (sym all) (kept_set cs log k x kept), inl (refl, refl), (refl, λ owner. subst (IsAlone owner p.key) (sym all) (is_alone cs log owner p.key kept.chain not_home))))
