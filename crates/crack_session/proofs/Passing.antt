-- An insert that is read before its line feed is searched for.
use Rattle.std.proofs.Common.{◌≡◌, ℕ, ◌+◌, ◌-◌, ◌<◌, true, false, eqb, leb, ltb, Some, Ok, List, [], ◌∷◌, ◌++◌, length, take, drop, get_or, refl, sym, ap, ◌∙◌, arith, ⊎_elim, length-append, suc, zero}
use Rattle.std.proofs.lemmas.List.{take_at, get_or-append-add}
use Rattle.std.proofs.lemmas.Bool.{and_parts, leb-true, ne_eqb, le-ltb}
use Rattle.std.specs.List.{list_all}
use Rattle.crack_row.specs.declared.Key.{Key}
use Rattle.crack_row.specs.declared.Payload.{Payload}
use Rattle.crack_commands.specs.declared.statement.Statement.TheVariants.{Insert}
use Rattle.crack_commands.specs.LeadingInsert.{BeginsWithInsert}
use Rattle.crack_session.specs.Input.{first_line, after_line, has_feed}
use Rattle.crack_session.specs.Lines.{without_return}
use Rattle.crack_session.specs.Readings.{reading_of}
use Rattle.crack_session.proofs.Feeds.{first_line_at, after_line_at, has_feed_at, has_feed-append}

-- a printed byte is no control character
printed_not : (b c : ℕ) → leb 32 b ≡ true → c < 32 → eqb b c ≡ false
printed_not b c printed below = ne_eqb b c (λ same. let low = leb-true 32 b printed in omega (arith, same, low, below))

-- printed bytes have no line feed, and no carriage return anywhere
no_feed_printed : (xs : List ℕ) → list_all (leb 32) xs ≡ true → has_feed xs ≡ false
no_feed_printed [] h = refl
no_feed_printed (b ∷ bs) h =
    let each = and_parts (leb 32 b) (list_all (leb 32) bs) h in
    let other = printed_not b 10 each.0 (omega arith) in
    rw (other, no_feed_printed bs each.1) refl

no_return_printed : (xs : List ℕ) (k : ℕ) → list_all (leb 32) xs ≡ true → eqb (get_or xs k 0) 13 ≡ false
no_return_printed [] k h = refl
no_return_printed (b ∷ bs) zero h = printed_not b 13 (and_parts (leb 32 b) (list_all (leb 32) bs) h).0 (omega arith)
no_return_printed (b ∷ bs) (suc k) h = no_return_printed bs k (and_parts (leb 32 b) (list_all (leb 32) bs) h).1

-- a carriage return at the end is dropped
return_dropped : (xs : List ℕ) → without_return (xs ++ 13 ∷ []) ≡ xs
return_dropped xs =
    let long : length xs + 0 ≡ length (xs ++ 13 ∷ []) - 1 = let whole = length-append xs (13 ∷ []) in omega (arith, whole) in
    let last : get_or (xs ++ 13 ∷ []) (length (xs ++ 13 ∷ []) - 1) 0 ≡ 13 = ap (λ k. get_or (xs ++ 13 ∷ []) k 0) (sym long) ∙ get_or-append-add xs (13 ∷ []) 0 0 in
    rw last (take_at xs (13 ∷ []) (length (xs ++ 13 ∷ []) - 1) (omega (arith, long)))

-- it is the first line, up to the first line feed
pub insert_found : {key : Key} {payload : Payload} (bytes : List ℕ) (n : ℕ) → BeginsWithInsert bytes n key payload → (has_feed bytes ≡ true) × (first_line bytes ≡ take n bytes) × (after_line bytes ≡ drop (n + 1) bytes)
insert_found bytes n begins =
    let printed = no_feed_printed begins.text begins.printed in
    let none : has_feed (take n bytes) ≡ false = ⊎_elim
    (λ (e : take n bytes ≡ begins.text). ap has_feed e ∙ printed)
    (λ (e : take n bytes ≡ begins.text ++ 13 ∷ []). ap has_feed e ∙ has_feed-append begins.text (13 ∷ []) printed)
    begins.line in
    (has_feed_at bytes n begins.within none begins.feed, first_line_at bytes n begins.within none begins.feed, after_line_at bytes n begins.within none begins.feed)

-- and it is read as an insert
pub insert_read : {key : Key} {payload : Payload} (bytes : List ℕ) (n : ℕ) → BeginsWithInsert bytes n key payload → reading_of (take n bytes) ≡ Some (Ok (Insert key payload))
unfolding reading_of
insert_read bytes n begins =
    let text = begins.text in
    let same : without_return (take n bytes) ≡ text = ⊎_elim
    (λ (e : take n bytes ≡ text). ap without_return e ∙ (let none = no_return_printed text (length text - 1) begins.printed in rw none refl))
    (λ (e : take n bytes ≡ text ++ 13 ∷ []). ap without_return e ∙ return_dropped text)
    begins.line in
    let short : ltb 200 (length text) ≡ false = le-ltb _ _ (omega (arith, begins.short)) in
    rw (same, short, begins.some, begins.says) refl
