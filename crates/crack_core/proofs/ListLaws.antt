-- What follows from rows that are written into lists.
use Rattle.std.specs.Prelude.{◌≡◌, ◌≢◌, ℕ, ◌+◌, ◌<◌, ◌≤◌, ℤ, pos, List, [], ◌∷◌, ◌++◌, length, take, drop, ◌^◌, Some, slice_get}
use Rattle.std.proofs.Common.{zero, suc, get_or, set, arith, ap, refl, sym, subst, ◌∙◌, ⊎_elim, append_assoc, add-one}
use Rattle.std.proofs.lemmas.List.{get_or-set_same, get_or-set_other, length-append, length-map, length-take-le, take_more, take-append-drop, map-append, append-nil}
use Rattle.std.proofs.lemmas.Bool.{cases_eq}
use Rattle.std.proofs.lemmas.Grind.{flat_map-append}
use Rattle.std.proofs.lemmas.Option.{slice_get_within}
use Rattle.crack_row.specs.declared.Row.{Row}
use Rattle.crack_row.specs.declared.command.Reply.{Reply}
use Rattle.crack_row.specs.declared.command.Reply.TheVariants.{Placed, Gone, Changed, NoRow, Counted, Summed, Rows}
use Rattle.crack_plain.specs.Plain.{IsSmall}
use Rattle.crack_core.proofs.StepLaws.{get-last, get-front}
use Rattle.crack_core.specs.Listing.{rows_listed, all_listed, AreInLists}
use Rattle.crack_core.specs.Inside.{of_part}
use Rattle.crack_core.specs.declared.turns.PartReply.{PartReply}

-- the same row as its numbers
abbrev row_of : ℕ → ℕ → ℕ → ℤ → ℕ × Row
row_of part serial key payload = (part, record { serial = record { 0 = serial }; key = record { 0 = key }; payload = record { 0 = payload } })

-- the row at a place of four lists
abbrev listed_at : List ℕ → List ℕ → List ℕ → List ℤ → ℕ → ℕ × Row
listed_at parts serials keys payloads k = row_of (get_or parts k 0) (get_or serials k 0) (get_or keys k 0) (get_or payloads k (pos 0))

some_is : {X : Type 0} {x y : X} → Some x ≡ Some y → x ≡ y
some_is e = cc

-- what is in a list is there with more after it
slice_get-before : (rows more : List (ℕ × Row)) (k : ℕ) → k < length rows → slice_get (rows ++ more) k ≡ slice_get rows k
slice_get-before [] more k below = absurd (omega (arith, below))
slice_get-before (row ∷ rows) more zero below = refl
slice_get-before (row ∷ rows) more (suc k) below = slice_get-before rows more k (omega (arith, below))

-- rows after those that there is room for are nowhere
pub stand-longer : (rows more : List (ℕ × Row)) (parts serials keys : List ℕ) (payloads : List ℤ) → length parts ≤ length rows → AreInLists rows parts serials keys payloads → AreInLists (rows ++ more) parts serials keys payloads
stand-longer rows more parts serials keys payloads full stand k row is there =
    stand k row (sym (slice_get-before rows more k (omega arith)) ∙ is) there

-- one more row is written after them
pub stand-more : (rows : List (ℕ × Row)) (row : ℕ × Row) (parts serials keys : List ℕ) (payloads : List ℤ) (at : ℕ)
    → length rows ≡ at → at < length parts → length serials ≡ length parts → length keys ≡ length parts → length payloads ≡ length parts
    → AreInLists rows parts serials keys payloads
    → AreInLists (rows ++ row ∷ []) (set parts at row.0) (set serials at row.1.serial.0) (set keys at row.1.key.0) (set payloads at row.1.payload.0)
stand-more rows row parts serials keys payloads at is below s k' p stand k found found_is there = ⊎_elim
    (λ (same : k ≡ at). subst (λ (n : ℕ). listed_at (set parts at row.0) (set serials at row.1.serial.0) (set keys at row.1.key.0) (set payloads at row.1.payload.0) n ≡ found) (sym same) (last ∙ added same))
    (λ (other : k ≢ at). before other)
    (cases_eq k at)
  where
    added : k ≡ at → row ≡ found
    added same = some_is (sym (get-last rows row) ∙ ap (slice_get (rows ++ row ∷ [])) (is ∙ sym same) ∙ found_is)

    last : listed_at (set parts at row.0) (set serials at row.1.serial.0) (set keys at row.1.key.0) (set payloads at row.1.payload.0) at ≡ row
    last =
        let of_part' : get_or (set parts at row.0) at 0 ≡ row.0 = get_or-set_same parts at row.0 0 below in
        let of_serial : get_or (set serials at row.1.serial.0) at 0 ≡ row.1.serial.0 = get_or-set_same serials at row.1.serial.0 0 (omega arith) in
        let of_key : get_or (set keys at row.1.key.0) at 0 ≡ row.1.key.0 = get_or-set_same keys at row.1.key.0 0 (omega arith) in
        let of_payload : get_or (set payloads at row.1.payload.0) at (pos 0) ≡ row.1.payload.0 = get_or-set_same payloads at row.1.payload.0 (pos 0) (omega arith) in
        rw (of_part', of_serial, of_key, of_payload) refl

    before : k ≢ at → listed_at (set parts at row.0) (set serials at row.1.serial.0) (set keys at row.1.key.0) (set payloads at row.1.payload.0) k ≡ found
    before other =
        let long : length (rows ++ row ∷ []) ≡ length rows + 1 = length-append rows (row ∷ []) in
        let within = slice_get_within (rows ++ row ∷ []) k found found_is in
        let front : k < length rows = omega (arith, within, long, is, other) in
        let in_parts : k < length parts = omega arith in
        let of_part' : get_or (set parts at row.0) k 0 ≡ get_or parts k 0 = get_or-set_other parts at k row.0 0 other in
        let of_serial : get_or (set serials at row.1.serial.0) k 0 ≡ get_or serials k 0 = get_or-set_other serials at k row.1.serial.0 0 other in
        let of_key : get_or (set keys at row.1.key.0) k 0 ≡ get_or keys k 0 = get_or-set_other keys at k row.1.key.0 0 other in
        let of_payload : get_or (set payloads at row.1.payload.0) k (pos 0) ≡ get_or payloads k (pos 0) = get_or-set_other payloads at k row.1.payload.0 (pos 0) other in
        rw (of_part', of_serial, of_key, of_payload) (stand k found (sym (get-front rows row k front) ∙ found_is) in_parts)

-- one more row of a partition
pub of_part-more : (part : ℕ) (rows : List Row) (i : ℕ) (d : Row) → i < length rows → of_part part (take (i + 1) rows) ≡ of_part part (take i rows) ++ (part, get_or rows i d) ∷ []
of_part-more part rows i d below = ap (of_part part) (take_more rows i d below) ∙ map-append (λ (row : Row). (part, row)) (take i rows) (get_or rows i d ∷ [])

-- a partition's reply more
pub all_listed-more : (replies : List PartReply) (i : ℕ) (r : PartReply) → i < length replies → r ≡ get_or replies i r → all_listed (take (i + 1) replies) ≡ all_listed (take i replies) ++ of_part r.part (rows_listed r.reply)
all_listed-more replies i r below is =
    let rows : PartReply → List (ℕ × Row) = λ p. of_part p.part (rows_listed p.reply) in
    ap all_listed (take_more replies i r below) ∙ flat_map-append rows (take i replies) (get_or replies i r ∷ []) ∙ ap (λ (more : List (ℕ × Row)). all_listed (take i replies) ++ more) (append-nil (rows (get_or replies i r)) ∙ ap rows (sym is))

-- how many rows are written once this many of a partition are
pub long-so-far : (before : List (ℕ × Row)) (part : ℕ) (rows : List Row) (i from : ℕ) → length before ≡ from → i ≤ length rows → length (before ++ of_part part (take i rows)) ≡ from + i
long-so-far before part rows i from is within =
    let with_part : Row → ℕ × Row = λ r. (part, r) in
    length-append before (of_part part (take i rows)) ∙ ap (λ (n : ℕ). length before + n) (length-map (take i rows) with_part ∙ length-take-le i rows within) ∙ ap (λ (n : ℕ). n + i) is

-- if the lists are full, all rows of the partition are in them as far as there is room
pub rest-behind : (before : List (ℕ × Row)) (part : ℕ) (rows : List Row) (i : ℕ) (parts serials keys : List ℕ) (payloads : List ℤ) → length parts ≤ length (before ++ of_part part (take i rows)) → AreInLists (before ++ of_part part (take i rows)) parts serials keys payloads → AreInLists (before ++ of_part part rows) parts serials keys payloads
rest-behind before part rows i parts serials keys payloads full stand =
    let row : Row → ℕ × Row = λ r. (part, r) in
    let cut : (before ++ of_part part (take i rows)) ++ of_part part (drop i rows) ≡ before ++ of_part part rows =
    append_assoc before (of_part part (take i rows)) (of_part part (drop i rows)) ∙ ap (λ (more : List (ℕ × Row)). before ++ more) (sym (map-append row (take i rows) (drop i rows)) ∙ ap (of_part part) (take-append-drop i rows)) in
    subst (λ (all : List (ℕ × Row)). AreInLists all parts serials keys payloads) cut (stand-longer (before ++ of_part part (take i rows)) (of_part part (drop i rows)) parts serials keys payloads full stand)

-- how many rows are listed with a partition's more
pub all_listed-long : (part : ℕ) (so_far : List (ℕ × Row)) (rows : List Row) → length (so_far ++ of_part part rows) ≡ length so_far + length rows
all_listed-long part so_far rows =
    let with_part : Row → ℕ × Row = λ r. (part, r) in
    length-append so_far (of_part part rows) ∙ ap (λ (n : ℕ). length so_far + n) (length-map rows with_part)

-- a small reply lists few rows
pub rows-small : (reply : Reply) → IsSmall reply → length (rows_listed reply) < 2 ^ 32
rows-small (Rows rows) small = small
rows-small (Placed serial) small = omega arith
rows-small (Gone row) small = omega arith
rows-small Changed small = omega arith
rows-small NoRow small = omega arith
rows-small (Counted count) small = omega arith
rows-small (Summed sum) small = omega arith
