-- How an export goes on, one partition after another.
use Rattle.std.proofs.Common.{◌≡◌, ℕ, zero, suc, ◌+◌, Option, Some, None, Result, Ok, Err, ◌⊎◌, inl, inr, List, [], ◌∷◌, ◌++◌, length, map, refl, sym, ap, ◌∙◌, arith, append_assoc, append-nil, length-append}
use Rattle.std.specs.Prelude.{IsOk, Bool, true, false, cond, slice_get, slice_set, slice_index_or}
use Rattle.std.proofs.lemmas.List.{map-append}
use Rattle.std.proofs.lemmas.Grind.{flat_map-append}
use Rattle.std.specs.List.{flat_map}
use Rattle.std.specs.Io.KnownBytes.{Appends, Keeps}
use Rattle.crack_row.specs.Ranges.{Range}
use Rattle.crack_row.specs.declared.Bound.{Bound}
use Rattle.crack_row.specs.declared.command.Command.TheVariants.{Select}
use Rattle.crack_row.specs.declared.command.Reply.{Reply}
use Rattle.crack_row.specs.declared.command.Reply.TheVariants.{Rows}
use Rattle.crack_row.specs.declared.refusal.Refusal.{Refusal}
use Rattle.crack_row.specs.declared.refusal.Refusal.TheVariants.{OutOfMemory, NoCell}
use Rattle.crack_plain.specs.Plain.{PlainView, checkpointed_table, rows_in}
use Rattle.crack_core.specs.Routes.{keys_of_part}
use Rattle.crack_part.specs.Refusals.{first_cause}
use Rattle.crack_core.specs.Steps.{Bounds, unless, MayLackCell, IsOutcome, IsOutcomeAt, tables_after, table_after, upkept_by, fresh_table}
use Rattle.crack_core.specs.Listing.{rows_listed}
use Rattle.crack_commands.proofs.Sending.{Appends-then}
use Rattle.crack_csv.specs.Exports.{header_text, record_text, rows_from, after_listing, IsExported}
use Rattle.crack_csv.specs.Inside.{rows_at, IsPartExported}

-- the place after a list is the first of what follows
get_behind : {X : Type 0} (xs ys : List X) → slice_get (xs ++ ys) (length xs) ≡ slice_get ys 0
get_behind [] ys = refl
get_behind (x ∷ xs) ys = get_behind xs ys

set_behind : {X : Type 0} (xs : List X) (y : X) (ys : List X) (z : X) → slice_set (xs ++ y ∷ ys) (length xs) z ≡ xs ++ z ∷ ys
set_behind [] y ys z = refl
set_behind (x ∷ xs) y ys z = ap (λ t. x ∷ t) (set_behind xs y ys z)

length-map : (bounds : Bounds) (tables : List PlainView) → length (map (after_listing bounds) tables) ≡ length tables
length-map bounds [] = refl
length-map bounds (t ∷ tables) = let l = length-map bounds tables in omega (arith, l)

rows_from-push : (splits : List Bound) (part : ℕ) (tables : List PlainView) (table : PlainView) (next : ℕ) → part + length tables ≡ next → rows_from splits part (tables ++ table ∷ []) ≡ rows_from splits part tables ++ rows_at splits next table
rows_from-push splits part [] table next e = append-nil (rows_at splits part table) ∙ ap (λ n. rows_at splits n table) (let same : part ≡ next = omega (arith, e) in same)
rows_from-push splits part (t ∷ tables) table next e =
    ap (λ z. rows_at splits part t ++ z) (rows_from-push splits (part + 1) tables table next (omega (arith, e)))
    ∙ sym (append_assoc (rows_at splits part t) (rows_from splits (part + 1) tables) (rows_at splits next table))

-- The partitions up to this one are asked, and their rows are written.
pub record Exporting (bounds : Bounds) (splits : List Bound) (tables : List PlainView) (part count : ℕ) (left : Option (List PlainView)) (out out' : Option (List ℕ)) : Type 0 where
  pub done : List PlainView
  pub rest : List PlainView
  pub split : tables ≡ done ++ rest
  pub reached : length done ≡ part
  pub count_is : count ≡ length (rows_from splits 0 done)
  pub left_is : left ≡ Some (map (after_listing bounds) done ++ rest)
  pub written : Appends out out' (header_text ++ flat_map record_text (rows_from splits 0 done))

pub Exporting-start : (bounds : Bounds) (splits : List Bound) (tables : List PlainView) (left : Option (List PlainView)) (out out' : Option (List ℕ)) → left ≡ Some tables → Appends out out' header_text → Exporting bounds splits tables 0 0 left out out'
Exporting-start bounds splits tables left out out' known written = record {
  done = [];
  rest = tables;
  split = refl;
  reached = refl;
  count_is = refl;
  left_is = known;
  written = rw (append-nil header_text) written;
}

-- the partition that is asked next is the first of the rest
pub next_is : (bounds : Bounds) (done : List PlainView) (t : PlainView) (rest : List PlainView) (part : ℕ) (table : PlainView) → length done ≡ part → slice_get (map (after_listing bounds) done ++ t ∷ rest) part ≡ Some table → table ≡ t
next_is bounds done t rest part table reached there =
    let n : length (map (after_listing bounds) done) ≡ part = length-map bounds done ∙ reached in
    let first : slice_get (map (after_listing bounds) done ++ t ∷ rest) part ≡ Some t = ap (slice_get (map (after_listing bounds) done ++ t ∷ rest)) (sym n) ∙ get_behind (map (after_listing bounds) done) (t ∷ rest) in
    cc (first, there)

-- so there is one
pub next_is_there : (bounds : Bounds) (done : List PlainView) (part : ℕ) (table : PlainView) → length done ≡ part → slice_get (map (after_listing bounds) done ++ []) part ≡ Some table → ⊥
next_is_there bounds done part table reached there =
    let n : length (map (after_listing bounds) done) ≡ part = length-map bounds done ∙ reached in
    let none : slice_get (map (after_listing bounds) done ++ []) part ≡ None = ap (slice_get (map (after_listing bounds) done ++ [])) (sym n) ∙ get_behind (map (after_listing bounds) done) [] in
    cc (none, there)

-- and then it is one of those that are asked
pub next_asked : (bounds : Bounds) (done : List PlainView) (t : PlainView) (rest : List PlainView) (part : ℕ) (table : PlainView) → length done ≡ part → table ≡ t → slice_set (map (after_listing bounds) done ++ t ∷ rest) part (after_listing bounds table) ≡ map (after_listing bounds) (done ++ t ∷ []) ++ rest
next_asked bounds done t rest part table reached same =
    let n : length (map (after_listing bounds) done) ≡ part = length-map bounds done ∙ reached in
    ap (λ x. slice_set (map (after_listing bounds) done ++ t ∷ rest) part (after_listing bounds x)) same
    ∙ ap (λ i. slice_set (map (after_listing bounds) done ++ t ∷ rest) i (after_listing bounds t)) (sym n)
    ∙ set_behind (map (after_listing bounds) done) t rest (after_listing bounds t)
    ∙ sym (append_assoc (map (after_listing bounds) done) (after_listing bounds t ∷ []) rest)
    ∙ ap (λ z. z ++ rest) (sym (map-append (after_listing bounds) done (t ∷ [])))

-- the rows of one more partition
pub next_rows : (splits : List Bound) (done : List PlainView) (t : PlainView) (part : ℕ) (table : PlainView) → length done ≡ part → table ≡ t → rows_from splits 0 (done ++ t ∷ []) ≡ rows_from splits 0 done ++ rows_at splits part table
next_rows splits done t part table reached same = rows_from-push splits 0 done t part (omega (arith, reached)) ∙ ap (λ x. rows_from splits 0 done ++ rows_at splits part x) (sym same)

-- the rest begins with the partition that is asked next
Exporting-next : {bounds : Bounds} {splits : List Bound} {tables : List PlainView} {part count : ℕ} {out out' : Option (List ℕ)} (more : ℕ) (left' : Option (List PlainView)) (out'' : Option (List ℕ)) (done rest : List PlainView)
    → tables ≡ done ++ rest → length done ≡ part → count ≡ length (rows_from splits 0 done) → Appends out out' (header_text ++ flat_map record_text (rows_from splits 0 done))
    → IsPartExported bounds splits (map (after_listing bounds) done ++ rest) part more left' out' out'' → Exporting bounds splits tables (part + 1) (count + more) left' out out''
Exporting-next {bounds} {splits} {tables} {part} {count} {out} {out'} more left' out'' done [] split reached counted written next = absurd (next_is_there bounds done part next.table reached next.there)
Exporting-next {bounds} {splits} {tables} {part} {count} {out} {out'} more left' out'' done (t ∷ rest) split reached counted written next =
    let same : next.table ≡ t = next_is bounds done t rest part next.table reached next.there in
    let rows = next_rows splits done t part next.table reached same in
    record {
      done = done ++ t ∷ [];
      rest = rest;
      split = split ∙ sym (append_assoc done (t ∷ []) rest);
      reached = let l = length-append done (t ∷ []) in omega (arith, l, reached);
      count_is = let l = length-append (rows_from splits 0 done) (rows_at splits part next.table) in let r = ap length rows in let m = next.count_is in omega (arith, l, r, m, counted);
      left_is = next.left_is ∙ ap Some (next_asked bounds done t rest part next.table reached same);
      written = Appends-then _ _ _ _ _ _ written next.written (
          ap (λ z. header_text ++ flat_map record_text z) rows
          ∙ ap (λ z. header_text ++ z) (flat_map-append record_text (rows_from splits 0 done) (rows_at splits part next.table))
          ∙ sym (append_assoc header_text (flat_map record_text (rows_from splits 0 done)) (flat_map record_text (rows_at splits part next.table)))
          );
    }

-- one more partition
pub Exporting-more : {bounds : Bounds} {splits : List Bound} {tables : List PlainView} {part count : ℕ} {left : Option (List PlainView)} {out out' : Option (List ℕ)} (more : ℕ) (left' : Option (List PlainView)) (out'' : Option (List ℕ)) → Exporting bounds splits tables part count left out out' → ((known : List PlainView) → left ≡ Some known → IsPartExported bounds splits known part more left' out' out'') → Exporting bounds splits tables (part + 1) (count + more) left' out out''
Exporting-more more left' out'' was next = Exporting-next more left' out'' was.done was.rest was.split was.reached was.count_is was.written (next _ was.left_is)

pub kept_written : (out a b : Option (List ℕ)) (text : List ℕ) → Appends out a text → Appends a b [] → Appends out b text
kept_written out a b text h k = Appends-then out a b text [] text h k (sym (append-nil text))

Exporting-whole : {bounds : Bounds} {splits : List Bound} {tables : List PlainView} {count : ℕ} {left : Option (List PlainView)} {out out' : Option (List ℕ)} (done rest : List PlainView) → tables ≡ done ++ rest → length done ≡ length tables → count ≡ length (rows_from splits 0 done) → left ≡ Some (map (after_listing bounds) done ++ rest) → Appends out out' (header_text ++ flat_map record_text (rows_from splits 0 done)) → IsExported bounds splits tables count left out out'
Exporting-whole {bounds} {splits} {tables} done [] split all counted known written =
    let same : tables ≡ done = split ∙ append-nil done in
    record { count_is = rw same counted; left_is = known ∙ ap Some (append-nil (map (after_listing bounds) done) ∙ ap (map (after_listing bounds)) (sym same)); written = rw same written }
Exporting-whole {bounds} {splits} {tables} done (t ∷ rest) split all counted known written = absurd (let l = length-append done (t ∷ rest) in let n = ap length split in omega (arith, l, n, all))

-- all partitions
pub Exporting-end : {bounds : Bounds} {splits : List Bound} {tables : List PlainView} {part count : ℕ} {left : Option (List PlainView)} {out out' : Option (List ℕ)} (out'' : Option (List ℕ)) → Exporting bounds splits tables part count left out out' → part ≡ length tables → Appends out' out'' [] → IsExported bounds splits tables count left out out''
Exporting-end out'' was all kept = Exporting-whole was.done was.rest was.split (was.reached ∙ all) was.count_is was.left_is (kept_written _ _ _ _ was.written kept)

-- a flush writes nothing more
pub keeps_appends : (a b : Option (List ℕ)) → Keeps a b → Appends a b []
keeps_appends None b h = tt
keeps_appends (Some x) None h = absurd h
keeps_appends (Some x) (Some y) h = h ∙ sym (append-nil x)

-- a reply that comes out is the one that is expected
reply_is : (stop : Option Refusal) (said reply : Reply) (Lacks : Type 0) → (◌≡◌ {A = Result Reply Refusal} (Ok reply) (unless stop said)) ⊎ (IsOk (unless stop said) × ((◌≡◌ {A = Result Reply Refusal} (Ok reply) (Err OutOfMemory)) ⊎ ((◌≡◌ {A = Result Reply Refusal} (Ok reply) (Err NoCell)) × Lacks))) → reply ≡ said
reply_is None said reply Lacks (inl same) = cc same
reply_is (Some e) said reply Lacks (inl same) = cc same
reply_is stop said reply Lacks (inr (ok, inl short)) = cc short
reply_is stop said reply Lacks (inr (ok, inr short)) = cc (short.0)

-- a partition that answers a select exists, and lists its rows of the range
pub replied_rows : (bounds : Bounds) (keys : Range) (there : Option PlainView) (range : Range) (reply : Reply) → IsOutcome bounds keys there (Select range) (Ok reply) → (table : PlainView) × (there ≡ Some table) × (reply ≡ Rows (rows_in range table.state.rows))
replied_rows bounds keys None range reply (inl same) = cc same
replied_rows bounds keys None range reply (inr (ok, inl short)) = cc short
replied_rows bounds keys None range reply (inr (ok, inr short)) = cc (short.0)
replied_rows bounds keys (Some table) range reply outcome = (table, refl, reply_is (first_cause keys (bounds.stop table) false (Select range)) (Rows (rows_in range table.state.rows)) reply (MayLackCell bounds (Some table) (Select range)) outcome)

pub index_there : (tables : List PlainView) (i : ℕ) (table other : PlainView) → slice_get tables i ≡ Some table → slice_index_or tables i other ≡ table
index_there [] i table other e = cc e
index_there (t ∷ tables) zero table other e = cc e
index_there (t ∷ tables) (suc i) table other e = index_there tables i table other e

-- a list of rows changes none, and neither does a checkpoint
pub asked-after : (bounds : Bounds) (table : PlainView) (keys : Range) → table_after (upkept_by bounds table) (Select keys) ≡ after_listing bounds table
asked-after bounds table keys = by_test (bounds.due table)
  where
    by_test : (b : Bool) → table_after (cond b (checkpointed_table table) table) (Select keys) ≡ record { state = table.state; checkpointed = (cond b (checkpointed_table table) table).checkpointed; since = (cond b (checkpointed_table table) table).since + 1 }
    by_test true = refl
    by_test false = refl

-- a partition that lists the rows of all its keys is asked, and their records are written
pub part_exported : (bounds : Bounds) (splits : List Bound) (tables : List PlainView) (part : ℕ) (keys : Range) (reply : Reply) (left : Option (List PlainView)) (out out' : Option (List ℕ)) → keys ≡ keys_of_part splits part
    → IsOutcomeAt bounds splits tables part (Select keys) (Ok reply) → left ≡ Some (tables_after bounds tables part (Select keys) (Ok reply)) → Appends out out' (flat_map record_text (rows_listed reply))
    → IsPartExported bounds splits tables part (length (rows_listed reply)) left out out'
part_exported bounds splits tables part keys reply left out out' all outcome after written =
    let replied = replied_rows bounds (keys_of_part splits part) (slice_get tables part) keys reply outcome in
    let rows : rows_listed reply ≡ rows_at splits part replied.0 = ap rows_listed replied.2 ∙ ap (λ (k : Range). rows_in k replied.0.state.rows) all in
    record {
      table = replied.0;
      there = replied.1;
      count_is = ap length rows;
      left_is = after ∙ ap (λ (t : PlainView). Some (slice_set tables part t)) (ap (λ (t : PlainView). table_after (upkept_by bounds t) (Select keys)) (index_there tables part replied.0 fresh_table replied.1) ∙ asked-after bounds replied.0 keys);
      written = rw (← rows) written;
    }
