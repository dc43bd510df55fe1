-- The rule of a book, and the results of its steps. Beside its events the book has cells, which aren't an arena's,
-- each with a flag. An event names the cell whose flag the next event of its owner sets; a cell whose flag is set is
-- at home. A pen is the right to set the flag of one cell. A word is what a step accesses; its key is a cell's number.
-- `v` and `w` are what a step's caller holds before and after it: the events that it has seen, and a pen. `s` is the
-- step, and `found` the number that it found in its word.
use Rattle.std.specs.Prelude.{ℕ, zero, suc, ◌≡◌, ◌<◌, List, [], ◌∷◌, ◌++◌, length, None, true}
use mathlib.Core.List.{IsPrefix}
use Rattle.logbook.specs.Pages.{Cell, cell, Step, View, Book, may_make}
use Rattle.crack_witness.specs.declared.event.Event.{Event}
use Rattle.crack_witness.specs.Histories.{AreHistories}

-- P holds for each element
abbrev pub Every : {X : Type 0} → (X → Type 0) → List X → Type 0
Every P [] = Unit {0}
Every P (x ∷ xs) = P x × Every P xs

-- no event is this owner's
abbrev pub NoneOf : ℕ → List Event → Type 0
NoneOf owner log = Every (λ (e : Event). e.owner ≡ owner → ⊥) log

-- the cell with the number `k` exists and is at home: its flag is set
abbrev pub Home : List Cell → ℕ → Type 0
Home cs k = (k < length cs) × ((cell cs k).1 ≡ true)

-- for each of these events: if a later one of them has the same owner, the cell that the earlier one names is at home
abbrev pub Chain : List Cell → List Event → Type 0
Chain cs [] = Unit {0}
Chain cs (e ∷ es) = Every (λ (d : Event). d.owner ≡ e.owner → Home cs e.next) es × Chain cs es

-- the rule of the book, which holds between any two steps: each event's word has the key of a cell at home, each owner
-- is the number of a cell, `Chain` holds, and the entries are histories (`AreHistories`)
pub record IsBookKept (cells : List Cell) (log : List Event) : Type 0 where
  pub words : Every (λ (e : Event). Home cells e.word) log
  pub owners : Every (λ (e : Event). e.owner < length cells) log
  pub chain : Chain cells log
  pub legal : AreHistories log

-- the first event at the word with this key. It has no owner yet and no entry: its owner and its cell are given as 0
abbrev pub place : ℕ → Event
place k = record { owner = 0; next = 0; word = k; entry = None }

-- the first events of a new book with this many words: one for each of the keys 0, 1, .. in order
abbrev pub row : ℕ → List Event
row zero = []
row (suc n) = row n ++ place n ∷ []

-- the first event of an owner, at this word: it names the cell with the owner's number, and has no entry
abbrev pub opening : ℕ → ℕ → Event
opening owner word = record { owner = owner; next = owner; word = word; entry = None }

-- after a step its caller has a new pen
abbrev pub Makes : Step Event → View Event ℕ → ℕ → View Event ℕ → Type 0
Makes s v found w = w.1.0.right ≡ may_make

-- after a step its caller has a new pen, and the number of the pen's cell is a new owner. No earlier event is this
-- owner's, and the step added its first one as the last event. The entries are histories.
abbrev pub Opens : Step Event → View Event ℕ → ℕ → View Event ℕ → Type 0
Opens s v found w =
    (w.1.0.right ≡ may_make)
    × AreHistories w.0
    × ((before : List Event) × NoneOf w.1.0.key before × (w.0 ≡ before ++ opening w.1.0.key s.ask.word ∷ []) × IsPrefix v.0 before)

-- if one of these events is this owner's and names the cell `key`, it is the owner's last one
abbrev pub IsAlone : ℕ → ℕ → List Event → Type 0
IsAlone owner key log = (xs : List Event) (d : Event) (rest : List Event) → log ≡ (xs ++ d ∷ []) ++ rest → d.owner ≡ owner → d.next ≡ key → NoneOf owner rest

-- a step adds its event as the last one; if an earlier event of the same owner names the cell of the caller's pen, it
-- was the last one of the owner until then. The entries are histories.
abbrev pub Adds : Step Event → View Event ℕ → ℕ → View Event ℕ → Type 0
Adds s v found w = (log : List Event) × (w.0 ≡ log ++ s.ask ∷ []) × IsPrefix v.0 log × IsAlone s.ask.owner v.1.0.key log × AreHistories w.0

-- a step leaves its caller the pen; each event then seen that names the pen's cell is the last one seen of its owner
abbrev pub Looks : Step Event → View Event ℕ → ℕ → View Event ℕ → Type 0
Looks s v found w = (w.1.0 ≡ v.1.0) × ((owner : ℕ) → IsAlone owner v.1.0.key w.0)

-- what contracts see of a history writer: its partition's number, and the events that it has seen
pub record HistoryWriterState : Type 0 where
  pub part : ℕ
  pub log : List Event

-- what contracts see of an owner: its book, its number there, and the events that it has seen
pub record OwnerState : Type 0 where
  pub book : Book
  pub id : ℕ
  pub log : List Event
