-- What private clauses alone cite.
-- The invariants of history writers, owners and workers. Beside its events a book has cells, which aren't an arena's,
-- each with a flag. A pen is the right to set the flag of one cell. A step accesses a word; its key is a cell's
-- number. `owner` gives each partition's owner, its number in the book.
use Rattle.std.specs.Global.{Vec}
use Rattle.std.specs.Prelude.{ℕ, Option, IfSome, vec_len, vec_capacity, slice_index_or, ◌≡◌, ◌⊎◌, ◌<◌, ◌≤◌, ◌^◌, All, List, [], ◌∷◌, ◌++◌, length, sum_by, true}
use mathlib.Core.List.{IsPrefix}
use Rattle.logbook.specs.Pages.{Book, Named, Right, may_write}
use Rattle.crack_row.specs.Commands.{key_of}
use Rattle.crack_row.specs.Ranges.{Range, IsIn}
use Rattle.crack_row.specs.declared.Key.{Key}
use Rattle.crack_row.specs.declared.command.Entry.{Entry}
use Rattle.crack_witness.specs.declared.event.Event.{Event}
use Rattle.crack_witness.specs.declared.receipt.Receipt.{Receipt}
use Rattle.crack_witness.specs.Histories.{history_of, calls_by, calls_at}
use Rattle.crack_witness.specs.Rules.{OwnerState}

-- if there is a list, it has room for one more item
abbrev pub HasRoomForOne : {X : Type 0} → Option (Vec X) → Type 0
HasRoomForOne list = IfSome list (λ items. vec_len items < vec_capacity items)

-- P holds for at least one element
abbrev pub Among : {X : Type 0} → (X → Type 0) → List X → Type 0
Among P [] = ⊥
Among P (x ∷ xs) = P x ⊎ Among P xs

-- one of the events is this owner's
abbrev pub HasOwner : ℕ → List Event → Type 0
HasOwner owner log = Among (λ (e : Event). e.owner ≡ owner) log

-- one of the events has the word with this key
abbrev pub HasWord : ℕ → List Event → Type 0
HasWord k log = Among (λ (e : Event). e.word ≡ k) log

-- the word with this key in a book
abbrev pub named : Book → ℕ → Named
named b k = record { tracked = true; key = k; book = b }

-- The invariant of a history writer of this owner in the book `b`. `pen` is the book of its pen, and `seen` that of
-- the events `log` that it has seen; both are `b`, and so is the book of its word `word`. The pen's right `right` is
-- to write. The last event is the owner's, has the key of `word`, and names the cell `key`, whose flag the pen sets.
pub record IsHistoryWriter (b : Book) (owner : ℕ) (word : Named) (pen : Book) (key : ℕ) (right : Right) (seen : Book) (log : List Event) : Type 0 where
  pub word_is : word ≡ named b word.key
  pub pen_is : pen ≡ b
  pub right_is : right ≡ may_write
  pub seen_is : seen ≡ b
  pub before : List Event
  pub last : Event
  pub log_is : log ≡ before ++ last ∷ []
  pub owner_is : last.owner ≡ owner
  pub next_is : last.next ≡ key
  pub at_word : last.word ≡ word.key

-- `o` is an owner in the book `b`, and has no entry among the events that it has seen
pub record IsNew (b : Book) (o : OwnerState) : Type 0 where
  pub book_is : o.book ≡ b
  pub empty : history_of o.id o.log ≡ []

-- `o` is the owner of partition `part` in the book `b`, and has no entry among the events that it has seen
pub record IsOwnerAt (b : Book) (owner : ℕ → ℕ) (part : ℕ) (o : OwnerState) : Type 0 where
  pub book_is : o.book ≡ b
  pub id_is : o.id ≡ owner part
  pub empty : history_of (owner part) o.log ≡ []

-- these are the owners of the partitions 0, 1, .. in this book, in order, and none has an entry (`IsOwnerAt`)
abbrev pub AreOwners : Book → (ℕ → ℕ) → List OwnerState → Type 0
AreOwners b owner os = (k : ℕ) (d : OwnerState) → k < length os → IsOwnerAt b owner k (slice_index_or os k d)

-- for each worker whose number is an index of `counts`, the count there is how many of these entries are the worker's
abbrev pub AreCounts : List ℕ → List Entry → Type 0
AreCounts counts es = (worker : ℕ) → worker < length counts → slice_index_or counts worker 0 ≡ length (calls_by worker es)

-- each key in a command of the entries is one of `keys`
abbrev pub AreWithin : Range → List Entry → Type 0
AreWithin keys es = All (λ (e : Entry). IfSome (key_of e.command) (λ (key : Key). IsIn keys key.0)) es

-- The invariant of a worker. `seen` are the events that it has seen. `seen_by_part` has for each partition the events
-- that it had seen after its last reply there, which begin `seen`. `counts` has for each partition the number of the
-- worker's entries there among these latter events. There are at most 64 partitions, and each count is at most 2 ^ 41.
-- With an audit `receipts` has a receipt for each reply.
pub record IsWorker (owner : ℕ → ℕ) (worker : ℕ) (seen : List Event) (seen_by_part : List (List Event)) (counts : List ℕ) (receipts : Option (List Receipt)) : Type 0 where
  pub all : length counts ≡ length seen_by_part
  pub few : length counts ≤ 64
  pub small : All (λ (count : ℕ). count ≤ 2 ^ 41) counts
  pub counted : (part : ℕ) → part < length seen_by_part → slice_index_or counts part 0 ≡ length (calls_at owner part worker (slice_index_or seen_by_part part []))
  pub begins : (part : ℕ) → part < length seen_by_part → IsPrefix (slice_index_or seen_by_part part []) seen
  pub received : IfSome receipts (λ (items : List Receipt). length items ≡ sum_by (λ (n : ℕ). n) counts)
