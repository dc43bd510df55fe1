-- How far a refused export has come.
use Rattle.std.proofs.Common.{◌≡◌, ℕ, zero, suc, ◌+◌, ◌<◌, ◌⊎◌, Bool, true, Option, Some, Ok, Err, inl, inr, List, [], ◌∷◌, ◌++◌, length, map, refl, sym, ap, ◌∙◌, arith, length-append, append_assoc, subst}
use Rattle.std.specs.Prelude.{slice_get, slice_set}
use Rattle.std.specs.List.{concat, flat_map}
use Rattle.std.specs.Io.KnownBytes.{Appends, Keeps}
use Rattle.std.proofs.lemmas.List.{map-append}
use Rattle.std.proofs.lemmas.List.Folds.{concat-append}
use Rattle.crack_row.specs.Ranges.{Range}
use Rattle.crack_row.specs.declared.Bound.{Bound}
use Rattle.crack_row.specs.declared.command.Command.TheVariants.{Select}
use Rattle.crack_row.specs.declared.command.Reply.{Reply}
use Rattle.crack_row.specs.declared.refusal.Refusal.{Refusal}
use Rattle.crack_row.specs.declared.refusal.Refusal.TheVariants.{WriteFault}
use Rattle.crack_plain.specs.Plain.{PlainView, rows_in}
use Rattle.crack_core.specs.Routes.{keys_of_part}
use Rattle.crack_core.specs.Steps.{Bounds, IsOutcome, IsOutcomeAt, tables_after, table_after, upkept_by, fresh_table}
use Rattle.crack_core.specs.Listing.{rows_listed}
use Rattle.crack_commands.specs.Texts.{AppendsFront}
use Rattle.crack_commands.proofs.Sending.{front_first, front_then}
use Rattle.crack_csv.specs.Exports.{header_text, record_text, rows_from, after_listing, lines_of, AreUnsent, IsExportCut}
use Rattle.crack_csv.specs.Inside.{rows_at, IsUnlisted, IsUnwritten, IsPartCut}
use Rattle.crack_csv.proofs.Exporting.{Exporting, keeps_appends, kept_written, replied_rows, index_there, asked-after, next_is, next_is_there, next_asked, next_rows}

pub concat_map : {X : Type 0} (f : X → List ℕ) (xs : List X) → concat (map f xs) ≡ flat_map f xs
concat_map f [] = refl
concat_map f (x ∷ xs) = ap (λ z. f x ++ z) (concat_map f xs)

-- whole texts are written, and those after them aren't
pub unsent_behind : (xs ys : List (List ℕ)) (e : Refusal) (failed' : Bool) (a b c : Option (List ℕ)) → Appends a b (concat xs) → AreUnsent ys e failed' b c → AreUnsent (xs ++ ys) e failed' a c
unsent_behind xs ys e failed' a b c sent (cut, is, front) = (cut, is, subst (AppendsFront a c) (sym (concat-append xs ys)) (front_then a b c (concat xs) (concat ys) sent front))

-- the texts of items, and one text alone
pub texts_unsent : {X : Type 0} (f : X → List ℕ) (xs : List X) (e : Refusal) (failed' : Bool) (a b : Option (List ℕ)) → e ≡ WriteFault → failed' ≡ true → AppendsFront a b (flat_map f xs) → AreUnsent (map f xs) e failed' a b
texts_unsent f xs e failed' a b cut is front = (cut, is, subst (AppendsFront a b) (sym (concat_map f xs)) front)

pub one_unsent : (text : List ℕ) (e : Refusal) (failed' : Bool) (a b : Option (List ℕ)) → e ≡ WriteFault → failed' ≡ true → AppendsFront a b text → AreUnsent (text ∷ []) e failed' a b
one_unsent text e failed' a b cut is front = (cut, is, front_first a b text [] front)

get_there : {X : Type 0} (xs : List X) (i : ℕ) → i < length xs → (x : X) × (slice_get xs i ≡ Some x)
get_there [] i below = absurd (omega (arith, below))
get_there (x ∷ xs) zero below = (x, refl)
get_there (x ∷ xs) (suc i) below = get_there xs i (omega (arith, below))

refuses_list : (bounds : Bounds) (splits : List Bound) (part : ℕ) (keys : Range) (there : Option PlainView) (table : PlainView) (e : Refusal) → keys ≡ keys_of_part splits part → there ≡ Some table
    → IsOutcome bounds (keys_of_part splits part) there (Select keys) (Err e) → IsOutcome bounds (keys_of_part splits part) (Some table) (Select (keys_of_part splits part)) (Err e)
refuses_list bounds splits part keys there table e all is outcome =
    subst (λ (k : Range). IsOutcome bounds (keys_of_part splits part) (Some table) (Select k) (Err e)) all
    (subst (λ (o : Option PlainView). IsOutcome bounds (keys_of_part splits part) o (Select keys) (Err e)) is outcome)

-- a partition refuses the list of the rows of all its keys
pub part_unlisted : (bounds : Bounds) (splits : List Bound) (tables : List PlainView) (part : ℕ) (keys : Range) (e : Refusal) (accepted accepted' : ℕ) (failed : Bool) (left : Option (List PlainView)) (out : Option (List ℕ)) → keys ≡ keys_of_part splits part → part < length tables
    → IsOutcomeAt bounds splits tables part (Select keys) (Err e) → left ≡ Some tables → accepted' ≡ accepted → Keeps out out → IsPartCut bounds splits tables part e accepted accepted' failed failed left out out
part_unlisted bounds splits tables part keys e accepted accepted' failed left out all within outcome after none kept =
    let found = get_there tables part within in
    record {
      table = found.0;
      there = found.1;
      how = inl (record { cause = refuses_list bounds splits part keys (slice_get tables part) found.0 e all found.1 outcome; left_is = after; accepted_are = none; unfailed = refl; unwritten = kept });
    }

-- a partition lists the rows of all its keys, and their records aren't all written
pub part_unwritten : (bounds : Bounds) (splits : List Bound) (tables : List PlainView) (part : ℕ) (keys : Range) (reply : Reply) (e : Refusal) (accepted accepted' : ℕ) (failed failed' : Bool) (left : Option (List PlainView)) (out out' : Option (List ℕ)) → keys ≡ keys_of_part splits part
    → IsOutcomeAt bounds splits tables part (Select keys) (Ok reply) → left ≡ Some (tables_after bounds tables part (Select keys) (Ok reply)) → accepted' ≡ accepted + 1
    → AreUnsent (map record_text (rows_listed reply)) e failed' out out' → IsPartCut bounds splits tables part e accepted accepted' failed failed' left out out'
part_unwritten bounds splits tables part keys reply e accepted accepted' failed failed' left out out' all outcome after one unsent =
    let replied = replied_rows bounds (keys_of_part splits part) (slice_get tables part) keys reply outcome in
    let rows : rows_listed reply ≡ rows_at splits part replied.0 = ap rows_listed replied.2 ∙ ap (λ (k : Range). rows_in k replied.0.state.rows) all in
    record {
      table = replied.0;
      there = replied.1;
      how = inr (record {
        cause = subst (λ rows. AreUnsent (map record_text rows) e failed' out out') rows unsent;
        left_is = after ∙ ap (λ (t : PlainView). Some (slice_set tables part t)) (ap (λ (t : PlainView). table_after (upkept_by bounds t) (Select keys)) (index_there tables part replied.0 fresh_table replied.1) ∙ asked-after bounds replied.0 keys);
        accepted_are = one;
      });
    }

-- the header isn't written
pub header_unsent : (bounds : Bounds) (splits : List Bound) (tables : List PlainView) (e : Refusal) (accepted : ℕ) (failed failed' : Bool) (left : Option (List PlainView)) (out out' : Option (List ℕ)) → left ≡ Some tables → e ≡ WriteFault → failed' ≡ true → AppendsFront out out' header_text
    → IsExportCut bounds splits tables e accepted accepted failed failed' left out out'
header_unsent bounds splits tables e accepted failed failed' left out out' known cut is front = record {
  done = [];
  rest = tables;
  split = refl;
  left_is = known;
  accepted_are = omega arith;
  cause = inl (one_unsent header_text e failed' out out' cut is front);
}

lines_text : (splits : List Bound) (done : List PlainView) (out out' : Option (List ℕ)) → Appends out out' (header_text ++ flat_map record_text (rows_from splits 0 done)) → Appends out out' (concat (lines_of splits done))
lines_text splits done out out' written = subst (Appends out out') (ap (λ z. header_text ++ z) (sym (concat_map record_text (rows_from splits 0 done)))) written

-- the next partition refuses the list of its rows
unlisted_next : (bounds : Bounds) (splits : List Bound) (tables : List PlainView) (part : ℕ) (table : PlainView) (e : Refusal) (accepted now accepted' : ℕ) (failed failed' : Bool) (left : Option (List PlainView)) (out out' out'' : Option (List ℕ)) (done rest : List PlainView)
    → tables ≡ done ++ rest → length done ≡ part → now ≡ accepted + part → Appends out out' (header_text ++ flat_map record_text (rows_from splits 0 done)) → slice_get (map (after_listing bounds) done ++ rest) part ≡ Some table
    → IsUnlisted bounds splits (map (after_listing bounds) done ++ rest) part table e now accepted' failed failed' left out' out'' → IsExportCut bounds splits tables e accepted accepted' failed failed' left out out''
unlisted_next bounds splits tables part table e accepted now accepted' failed failed' left out out' out'' done [] split reached so_far written there next = absurd (next_is_there bounds done part table reached there)
unlisted_next bounds splits tables part table e accepted now accepted' failed failed' left out out' out'' done (t ∷ rest) split reached so_far written there next =
    let same : table ≡ t = next_is bounds done t rest part table reached there in
    let here : IsOutcome bounds (keys_of_part splits part) (Some t) (Select (keys_of_part splits part)) (Err e) = subst (λ (x : PlainView). IsOutcome bounds (keys_of_part splits part) (Some x) (Select (keys_of_part splits part)) (Err e)) same next.cause in
    record {
      done = done;
      rest = t ∷ rest;
      split = split;
      left_is = next.left_is;
      accepted_are = let none = next.accepted_are in omega (arith, none, so_far, reached);
      cause = inr (inl (
        t,
        refl,
        subst (λ n. IsOutcome bounds (keys_of_part splits n) (Some t) (Select (keys_of_part splits n)) (Err e)) (sym reached) here,
        next.unfailed,
        lines_text splits done out out'' (kept_written out out' out'' _ written (keeps_appends out' out'' next.unwritten)),
      ));
    }

-- the records of the next partition aren't all written
unwritten_next : (bounds : Bounds) (splits : List Bound) (tables : List PlainView) (part : ℕ) (table : PlainView) (e : Refusal) (accepted now accepted' : ℕ) (failed failed' : Bool) (left : Option (List PlainView)) (out out' out'' : Option (List ℕ)) (done rest : List PlainView)
    → tables ≡ done ++ rest → length done ≡ part → now ≡ accepted + part → Appends out out' (header_text ++ flat_map record_text (rows_from splits 0 done)) → slice_get (map (after_listing bounds) done ++ rest) part ≡ Some table
    → IsUnwritten bounds splits (map (after_listing bounds) done ++ rest) part table e now accepted' failed' left out' out'' → IsExportCut bounds splits tables e accepted accepted' failed failed' left out out''
unwritten_next bounds splits tables part table e accepted now accepted' failed failed' left out out' out'' done [] split reached so_far written there next = absurd (next_is_there bounds done part table reached there)
unwritten_next bounds splits tables part table e accepted now accepted' failed failed' left out out' out'' done (t ∷ rest) split reached so_far written there next =
    let same : table ≡ t = next_is bounds done t rest part table reached there in
    let rows = next_rows splits done t part table reached same in
    let lines : lines_of splits (done ++ t ∷ []) ≡ lines_of splits done ++ map record_text (rows_at splits part table) =
    ap (λ z. header_text ∷ map record_text z) rows ∙ ap (λ z. header_text ∷ z) (map-append record_text (rows_from splits 0 done) (rows_at splits part table)) in
    record {
      done = done ++ t ∷ [];
      rest = rest;
      split = split ∙ sym (append_assoc done (t ∷ []) rest);
      left_is = next.left_is ∙ ap Some (next_asked bounds done t rest part table reached same);
      accepted_are = let one = next.accepted_are in let l = length-append done (t ∷ []) in omega (arith, one, so_far, reached, l);
      cause = inl (subst (λ z. AreUnsent z e failed' out out'') (sym lines) (unsent_behind (lines_of splits done) (map record_text (rows_at splits part table)) e failed' out out' out'' (lines_text splits done out out' written) next.cause));
    }

how_next : (bounds : Bounds) (splits : List Bound) (tables : List PlainView) (part : ℕ) (table : PlainView) (e : Refusal) (accepted now accepted' : ℕ) (failed failed' : Bool) (left : Option (List PlainView)) (out out' out'' : Option (List ℕ)) (done rest : List PlainView)
    → tables ≡ done ++ rest → length done ≡ part → now ≡ accepted + part → Appends out out' (header_text ++ flat_map record_text (rows_from splits 0 done)) → slice_get (map (after_listing bounds) done ++ rest) part ≡ Some table
    → IsUnlisted bounds splits (map (after_listing bounds) done ++ rest) part table e now accepted' failed failed' left out' out'' ⊎ IsUnwritten bounds splits (map (after_listing bounds) done ++ rest) part table e now accepted' failed' left out' out''
    → IsExportCut bounds splits tables e accepted accepted' failed failed' left out out''
how_next bounds splits tables part table e accepted now accepted' failed failed' left out out' out'' done rest split reached so_far written there (inl next) =
    unlisted_next bounds splits tables part table e accepted now accepted' failed failed' left out out' out'' done rest split reached so_far written there next
how_next bounds splits tables part table e accepted now accepted' failed failed' left out out' out'' done rest split reached so_far written there (inr next) =
    unwritten_next bounds splits tables part table e accepted now accepted' failed failed' left out out' out'' done rest split reached so_far written there next

-- the export of the next partition is refused
pub Exporting-cut : {bounds : Bounds} {splits : List Bound} {tables : List PlainView} {part count : ℕ} {left : Option (List PlainView)} {out out' : Option (List ℕ)} (e : Refusal) (accepted now accepted' : ℕ) (failed failed' : Bool) (left' : Option (List PlainView)) (out'' : Option (List ℕ)) → Exporting bounds splits tables part count left out out' → now ≡ accepted + part
    → ((known : List PlainView) → left ≡ Some known → IsPartCut bounds splits known part e now accepted' failed failed' left' out' out'') → IsExportCut bounds splits tables e accepted accepted' failed failed' left' out out''
Exporting-cut {bounds} {splits} {tables} {part} {out = out} {out' = out'} e accepted now accepted' failed failed' left' out'' was so_far cut =
    let next = cut _ was.left_is in
    how_next bounds splits tables part next.table e accepted now accepted' failed failed' left' out out' out'' was.done was.rest was.split was.reached so_far was.written next.there next.how

no_rest : {X : Type 0} (xs done rest : List X) → xs ≡ done ++ rest → length done ≡ length xs → rest ≡ []
no_rest xs done [] split all = refl
no_rest xs done (x ∷ rest) split all = absurd (let l = length-append done (x ∷ rest) in let n = ap length split in omega (arith, l, n, all))

-- the output can't be flushed
pub Exporting-kept : {bounds : Bounds} {splits : List Bound} {tables : List PlainView} {part count : ℕ} {left : Option (List PlainView)} {out out' : Option (List ℕ)} (accepted accepted' : ℕ) (failed failed' : Bool) (out'' : Option (List ℕ)) → Exporting bounds splits tables part count left out out' → accepted' ≡ accepted + part → part ≡ length tables → failed' ≡ true
    → Keeps out' out'' → IsExportCut bounds splits tables WriteFault accepted accepted' failed failed' left out out''
Exporting-kept {bounds} {splits} {tables} {out = out} {out' = out'} accepted accepted' failed failed' out'' was so_far all is kept = record {
  done = was.done;
  rest = was.rest;
  split = was.split;
  left_is = was.left_is;
  accepted_are = let reached = was.reached in omega (arith, so_far, reached);
  cause = inr (inr (
    refl,
    is,
    no_rest tables was.done was.rest was.split (was.reached ∙ all),
    lines_text splits was.done out out'' (kept_written out out' out'' _ was.written (keeps_appends out' out'' kept)),
  ));
}
