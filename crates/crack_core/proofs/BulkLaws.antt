-- What follows from lists of calls.
use Rattle.std.specs.Prelude.{◌≡◌, ℕ, ◌+◌, ◌<◌, ◌≤◌, ℤ, pos, List, Option, None, Some, Result, Ok, Err, length, is_some, Bool, true, slice_index_or}
use Rattle.std.proofs.Common.{set, arith, ap, subst, ◌∙◌}
use Rattle.std.proofs.lemmas.List.{get_or-set_same, get_or-set_other}
use Rattle.crack_row.specs.declared.Bound.{Bound}
use Rattle.crack_row.specs.declared.Key.{Key}
use Rattle.crack_row.specs.declared.Payload.{Payload}
use Rattle.crack_row.specs.declared.Row.{Row}
use Rattle.crack_row.specs.declared.RowNo.{RowNo}
use Rattle.crack_row.specs.declared.limit.Limits.{Limits}
use Rattle.crack_row.specs.declared.command.Policy.{Policy}
use Rattle.crack_row.specs.declared.refusal.Refusal.{Refusal}
use Rattle.crack_part.specs.Parts.{Part}
use Rattle.crack_core.specs.Asking.{Inserts, Deletes, Updates, CountsRange, Sums}
use Rattle.crack_core.specs.Bulk.{NumberedCall, Answered, none, one_more, Went, whole, stopped, flag, key_in, payload_in, row_number, InsertsAt, DeletesAt, UpdatesAt, CountsAt, SumsAt, OverKeys, of_halves}

-- the row's number at a place of two lists
abbrev row_at : List ℕ → List ℕ → ℕ → RowNo
row_at parts serials k = row_number (slice_index_or parts k 0) (slice_index_or serials k 0)

-- the calls of a list that were answered stay answered if each call before them does
pub answered-as : (call call' : NumberedCall) (old : List Part) (done : ℕ) (new : List Part) → ((k : ℕ) (before after : List Part) → k < done → call k None before after → call' k None before after) → Answered call old done new → Answered call' old done new
answered-as call call' old done new turns none = none
answered-as call call' old done new turns (one_more begun between new' so_far called) =
    one_more begun between new' (answered-as call call' old begun between (λ k before after below. turns k before after (omega arith)) so_far) (turns begun between new' (omega arith) called)

-- one more call
pub answered-more : (call call' : NumberedCall) (old : List Part) (done : ℕ) (between new : List Part) → ((k : ℕ) (before after : List Part) → k < done → call k None before after → call' k None before after) → Answered call old done between → call' done None between new → Answered call' old (done + 1) new
answered-more call call' old done between new turns so_far called = one_more done between new (answered-as call call' old done between turns so_far) called

-- an item before the one that is written stays
kept-nat : (xs : List ℕ) (i k x : ℕ) → k < i → slice_index_or (set xs i x) k 0 ≡ slice_index_or xs k 0
kept-nat xs i k x below = get_or-set_other xs i k x 0 (omega arith)

kept-int : (xs : List ℤ) (i k : ℕ) (x : ℤ) → k < i → slice_index_or (set xs i x) k (pos 0) ≡ slice_index_or xs k (pos 0)
kept-int xs i k x below = get_or-set_other xs i k x (pos 0) (omega arith)

-- and the one that is written is there
set-nat : (xs : List ℕ) (i x : ℕ) → i < length xs → slice_index_or (set xs i x) i 0 ≡ x
set-nat xs i x below = get_or-set_same xs i x 0 below

set-int : (xs : List ℤ) (i : ℕ) (x : ℤ) → i < length xs → slice_index_or (set xs i x) i (pos 0) ≡ x
set-int xs i x below = get_or-set_same xs i x (pos 0) below

-- all calls of a list were answered
pub went-whole : (call : NumberedCall) (old : List Part) (count i : ℕ) (new : List Part) → count ≤ i → i ≤ count → Answered call old i new → Went call count old (record { done = count; refusal = None }) new
went-whole call old count i new least most so_far = whole new (subst (λ (n : ℕ). Answered call old n new) (omega arith) so_far)

-- a row is placed, or refused, by its key and payload
keyed : (limits : Limits) (splits : List Bound) (keys : List ℕ) (payloads : List ℤ) (i : ℕ) (key : Key) (payload : Payload) (result : Result RowNo Refusal) (between new : List Part)
    → key.0 ≡ slice_index_or keys i 0 → payload.0 ≡ slice_index_or payloads i (pos 0)
    → Inserts limits splits key payload result between new
    → Inserts limits splits (key_in keys i) (payload_in payloads i) result between new
keyed limits splits keys payloads i key payload result between new key_is payload_is inserts =
    subst (λ (n : ℕ). Inserts limits splits (record { 0 = n }) (payload_in payloads i) result between new) key_is
    (subst (λ (n : ℤ). Inserts limits splits key (record { 0 = n }) result between new) payload_is inserts)

pub inserts-more : (limits : Limits) (splits : List Bound) (keys : List ℕ) (payloads : List ℤ) (parts serials : List ℕ) (i : ℕ) (key : Key) (payload : Payload) (row : RowNo) (old between new : List Part)
    → i < length parts → i < length serials → key.0 ≡ slice_index_or keys i 0 → payload.0 ≡ slice_index_or payloads i (pos 0)
    → Answered (InsertsAt limits splits keys payloads parts serials) old i between
    → Inserts limits splits key payload (Ok row) between new
    → Answered (InsertsAt limits splits keys payloads (set parts i row.part) (set serials i row.serial.0)) old (i + 1) new
inserts-more limits splits keys payloads parts serials i key payload row old between new in_parts in_serials key_is payload_is so_far inserts =
    answered-more (InsertsAt limits splits keys payloads parts serials) (InsertsAt limits splits keys payloads (set parts i row.part) (set serials i row.serial.0)) old i between new
    (λ k before after below was. rw (kept-nat parts i k row.part below, kept-nat serials i k row.serial.0 below) was) so_far
    (rw (set-nat parts i row.part in_parts, set-nat serials i row.serial.0 in_serials) (keyed limits splits keys payloads i key payload (Ok row) between new key_is payload_is inserts))

pub inserts-stop : (limits : Limits) (splits : List Bound) (keys : List ℕ) (payloads : List ℤ) (parts serials : List ℕ) (i : ℕ) (key : Key) (payload : Payload) (e : Refusal) (old between new : List Part)
    → i < length keys → key.0 ≡ slice_index_or keys i 0 → payload.0 ≡ slice_index_or payloads i (pos 0)
    → Answered (InsertsAt limits splits keys payloads parts serials) old i between
    → Inserts limits splits key payload (Err e) between new
    → Went (InsertsAt limits splits keys payloads parts serials) (length keys) old (record { done = i; refusal = Some e }) new
inserts-stop limits splits keys payloads parts serials i key payload e old between new below key_is payload_is so_far inserts =
    stopped i e between new below so_far (keyed limits splits keys payloads i key payload (Err e) between new key_is payload_is inserts)

-- a row is removed, or that is refused
pub deletes-more : (limits : Limits) (splits : List Bound) (parts serials gone : List ℕ) (i : ℕ) (row : RowNo) (went : Option Row) (is : Bool) (flagged : ℕ) (old between new : List Part)
    → i < length gone → row ≡ row_at parts serials i → is ≡ is_some went → flagged ≡ flag is
    → Answered (DeletesAt limits splits parts serials gone) old i between
    → Deletes limits splits row (Ok went) between new
    → Answered (DeletesAt limits splits parts serials (set gone i flagged)) old (i + 1) new
deletes-more limits splits parts serials gone i row went is flagged old between new within row_is is_is flag_is so_far deletes =
    answered-more (DeletesAt limits splits parts serials gone) (DeletesAt limits splits parts serials (set gone i flagged)) old i between new
    (λ k before after below was. (was.0, was.1, λ none'. kept-nat gone i k flagged below ∙ was.2 none')) so_far
    (went, rw row_is at deletes, λ none'. set-nat gone i flagged within ∙ flag_is ∙ ap flag is_is)

pub deletes-stop : (limits : Limits) (splits : List Bound) (parts serials gone : List ℕ) (i : ℕ) (row : RowNo) (e : Refusal) (old between new : List Part)
    → i < length parts → row ≡ row_at parts serials i
    → Answered (DeletesAt limits splits parts serials gone) old i between
    → Deletes limits splits row (Err e) between new
    → Went (DeletesAt limits splits parts serials gone) (length parts) old (record { done = i; refusal = Some e }) new
deletes-stop limits splits parts serials gone i row e old between new below row_is so_far deletes =
    stopped i e between new below so_far (None, rw row_is at deletes, λ none'. cc none')

-- a row is updated, or that is refused
updated-by : (limits : Limits) (splits : List Bound) (parts serials keys : List ℕ) (payloads : List ℤ) (i : ℕ) (row : RowNo) (key : Key) (payload : Payload) (result : Result Bool Refusal) (between new : List Part)
    → row ≡ row_at parts serials i → key.0 ≡ slice_index_or keys i 0 → payload.0 ≡ slice_index_or payloads i (pos 0)
    → Updates limits splits row key payload result between new
    → Updates limits splits (row_at parts serials i) (key_in keys i) (payload_in payloads i) result between new
updated-by limits splits parts serials keys payloads i row key payload result between new row_is key_is payload_is updates =
    subst (λ (r : RowNo). Updates limits splits r (key_in keys i) (payload_in payloads i) result between new) row_is
    (subst (λ (n : ℕ). Updates limits splits row (record { 0 = n }) (payload_in payloads i) result between new) key_is
    (subst (λ (n : ℤ). Updates limits splits row key (record { 0 = n }) result between new) payload_is updates))

pub updates-more : (limits : Limits) (splits : List Bound) (parts serials keys : List ℕ) (payloads : List ℤ) (found : List ℕ) (i : ℕ) (row : RowNo) (key : Key) (payload : Payload) (is : Bool) (flagged : ℕ) (old between new : List Part)
    → i < length found → row ≡ row_at parts serials i → key.0 ≡ slice_index_or keys i 0 → payload.0 ≡ slice_index_or payloads i (pos 0) → flagged ≡ flag is
    → Answered (UpdatesAt limits splits parts serials keys payloads found) old i between
    → Updates limits splits row key payload (Ok is) between new
    → Answered (UpdatesAt limits splits parts serials keys payloads (set found i flagged)) old (i + 1) new
updates-more limits splits parts serials keys payloads found i row key payload is flagged old between new within row_is key_is payload_is flag_is so_far updates =
    answered-more (UpdatesAt limits splits parts serials keys payloads found) (UpdatesAt limits splits parts serials keys payloads (set found i flagged)) old i between new
    (λ k before after below was. (was.0, was.1, λ none'. kept-nat found i k flagged below ∙ was.2 none')) so_far
    (is, updated-by limits splits parts serials keys payloads i row key payload (Ok is) between new row_is key_is payload_is updates, λ none'. set-nat found i flagged within ∙ flag_is)

pub updates-stop : (limits : Limits) (splits : List Bound) (parts serials keys : List ℕ) (payloads : List ℤ) (found : List ℕ) (i : ℕ) (row : RowNo) (key : Key) (payload : Payload) (e : Refusal) (old between new : List Part)
    → i < length parts → row ≡ row_at parts serials i → key.0 ≡ slice_index_or keys i 0 → payload.0 ≡ slice_index_or payloads i (pos 0)
    → Answered (UpdatesAt limits splits parts serials keys payloads found) old i between
    → Updates limits splits row key payload (Err e) between new
    → Went (UpdatesAt limits splits parts serials keys payloads found) (length parts) old (record { done = i; refusal = Some e }) new
updates-stop limits splits parts serials keys payloads found i row key payload e old between new below row_is key_is payload_is so_far updates =
    stopped i e between new below so_far
    (true, updated-by limits splits parts serials keys payloads i row key payload (Err e) between new row_is key_is payload_is updates, λ none'. cc none')

-- one more range is counted
pub counts-more : (limits : Limits) (splits : List Bound) (policy : Policy) (firsts lasts counts : List ℕ) (i count : ℕ) (old between new : List Part)
    → i < length counts
    → Answered (CountsAt limits splits policy firsts lasts counts) old i between
    → OverKeys (CountsRange limits splits policy) (slice_index_or firsts i 0) (slice_index_or lasts i 0) (Ok count) between new
    → Answered (CountsAt limits splits policy firsts lasts (set counts i count)) old (i + 1) new
counts-more limits splits policy firsts lasts counts i count old between new within so_far counted =
    answered-more (CountsAt limits splits policy firsts lasts counts) (CountsAt limits splits policy firsts lasts (set counts i count)) old i between new
    (λ k before after below was. rw (kept-nat counts i k count below) was) so_far
    (rw (set-nat counts i count within) counted)

-- one more range is added up
pub sums-more : (limits : Limits) (splits : List Bound) (policy : Policy) (firsts lasts lows : List ℕ) (highs : List ℤ) (i low : ℕ) (high sum : ℤ) (old between new : List Part)
    → i < length lows → i < length highs → sum ≡ of_halves low high
    → Answered (SumsAt limits splits policy firsts lasts lows highs) old i between
    → OverKeys (Sums limits splits policy) (slice_index_or firsts i 0) (slice_index_or lasts i 0) (Ok sum) between new
    → Answered (SumsAt limits splits policy firsts lasts (set lows i low) (set highs i high)) old (i + 1) new
sums-more limits splits policy firsts lasts lows highs i low high sum old between new in_lows in_highs is so_far summed =
    answered-more (SumsAt limits splits policy firsts lasts lows highs) (SumsAt limits splits policy firsts lasts (set lows i low) (set highs i high)) old i between new
    (λ k before after below was. rw (kept-nat lows i k low below, kept-int highs i k high below) was) so_far
    (rw (set-nat lows i low in_lows, set-int highs i high in_highs) (subst (λ (s : ℤ). OverKeys (Sums limits splits policy) (slice_index_or firsts i 0) (slice_index_or lasts i 0) (Ok s) between new) is summed))
