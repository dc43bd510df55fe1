-- The calls and the output of an export, one partition after another.
use Rattle.std.proofs.Common.{◌≡◌, ℕ, ◌+◌, ◌<◌, Bool, true, Option, Ok, Err, List, [], ◌∷◌, ◌++◌, length, map, refl, sym, ap, ◌∙◌, subst, inl, inr, arith, length-append, append-nil}
use Rattle.std.specs.List.{concat, flat_map}
use Rattle.std.specs.Io.KnownBytes.{Appends, Keeps}
use Rattle.std.proofs.lemmas.List.{map-append}
use Rattle.std.proofs.lemmas.List.Folds.{concat-append}
use Rattle.std.proofs.lemmas.Grind.{flat_map-append}
use Rattle.crack_row.specs.declared.Bound.{Bound}
use Rattle.crack_row.specs.declared.Row.{Row}
use Rattle.crack_row.specs.declared.command.Policy.{Policy}
use Rattle.crack_row.specs.declared.command.Reply.{Reply}
use Rattle.crack_row.specs.declared.refusal.Refusal.{Refusal}
use Rattle.crack_row.specs.declared.refusal.Refusal.TheVariants.{WriteFault}
use Rattle.crack_commands.specs.Texts.{AppendsFront}
use Rattle.crack_commands.proofs.Sending.{Appends-then}
use Rattle.crack_session.specs.Calls.{Call, Calls}
use Rattle.crack_core.specs.Listing.{rows_listed}
use Rattle.crack_session.proofs.Calling.{Calls-push}
use Rattle.crack_csv.specs.Asked.{listing, listings, lines_in, IsListed, IsListedFirst}
use Rattle.crack_csv.specs.Exports.{header_text, record_text, AreUnsent}
use Rattle.crack_csv.specs.Inside.{AsksAndWrites, AsksAndCuts}
use Rattle.crack_csv.proofs.Cutting.{concat_map, unsent_behind, one_unsent}
use Rattle.crack_csv.proofs.Exporting.{kept_written, keeps_appends}

listings-push : (splits : List Bound) (policy : Policy) (part next : ℕ) (replies : List Reply) (reply : Reply) → part + length replies ≡ next → listings splits policy part (replies ++ reply ∷ []) ≡ listings splits policy part replies ++ listing splits policy next (Ok reply) ∷ []
listings-push splits policy part next [] reply e = ap (λ n. listing splits policy n (Ok reply) ∷ []) (let same : part ≡ next = omega (arith, e) in same)
listings-push splits policy part next (r ∷ replies) reply e = ap (λ (z : List Call). listing splits policy part (Ok r) ∷ z) (listings-push splits policy (part + 1) next replies reply (omega (arith, e)))

rows-push : (replies : List Reply) (reply : Reply) → flat_map rows_listed (replies ++ reply ∷ []) ≡ flat_map rows_listed replies ++ rows_listed reply
rows-push replies reply = flat_map-append rows_listed replies (reply ∷ []) ∙ ap (λ (z : List Row). flat_map rows_listed replies ++ z) (append-nil (rows_listed reply))

lines-push : (replies : List Reply) (reply : Reply) → lines_in (replies ++ reply ∷ []) ≡ lines_in replies ++ map record_text (rows_listed reply)
lines-push replies reply =
    ap (λ (z : List Row). header_text ∷ map record_text z) (rows-push replies reply)
    ∙ ap (λ (z : List (List ℕ)). header_text ∷ z) (map-append record_text (flat_map rows_listed replies) (rows_listed reply))

text-push : (replies : List Reply) (reply : Reply) → concat (lines_in (replies ++ reply ∷ [])) ≡ concat (lines_in replies) ++ flat_map record_text (rows_listed reply)
text-push replies reply = ap concat (lines-push replies reply) ∙ concat-append (lines_in replies) (map record_text (rows_listed reply)) ∙ ap (λ (z : List ℕ). concat (lines_in replies) ++ z) (concat_map record_text (rows_listed reply))

module _ {D : Type 0} (leads : D → Call → D → Type 0) (splits : List Bound) (policy : Policy) (old : D) (out0 : Option (List ℕ)) where
  -- The partitions up to this one are asked, and the rows that they listed are written.
  pub record Listing (part count : ℕ) (now : D) (out : Option (List ℕ)) : Type 0 where
    pub replies : List Reply
    pub reached : length replies ≡ part
    pub were : Calls leads old (listings splits policy 0 replies) now
    pub count_is : count ≡ length (flat_map rows_listed replies)
    pub written : Appends out0 out (concat (lines_in replies))

  pub Listing-start : (out : Option (List ℕ)) → Appends out0 out header_text → Listing 0 0 old out
  Listing-start out written = record { replies = []; reached = refl; were = refl; count_is = refl; written = subst (Appends out0 out) (sym (append-nil header_text)) written }

  called : {now : D} (part : ℕ) (replies : List Reply) (reply : Reply) (next : D) (splits' : List Bound) → length replies ≡ part → Calls leads old (listings splits policy 0 replies) now → splits' ≡ splits → leads now (listing splits' policy part (Ok reply)) next → Calls leads old (listings splits policy 0 (replies ++ reply ∷ [])) next
  called {now} part replies reply next splits' reached were same asked =
      subst (λ (l : List Call). Calls leads old l next) (sym (listings-push splits policy 0 part replies reply (omega (arith, reached))))
      (Calls-push leads old (listings splits policy 0 replies) now (listing splits policy part (Ok reply)) next were
      (subst (λ (s : List Bound). leads now (listing s policy part (Ok reply)) next) same asked))

  pub Listing-more : {part count : ℕ} {now : D} {out : Option (List ℕ)} (more : ℕ) (next : D) (out' : Option (List ℕ)) (splits' : List Bound) → Listing part count now out → splits' ≡ splits → AsksAndWrites leads splits' policy part more now next out out' → Listing (part + 1) (count + more) next out'
  Listing-more {part} {out = out} more next out' splits' was same asks = record {
    replies = was.replies ++ asks.0 ∷ [];
    reached = let l = length-append was.replies (asks.0 ∷ []) in let r = was.reached in omega (arith, l, r);
    were = called part was.replies asks.0 next splits' was.reached was.were same asks.1;
    count_is = let l = ap length (rows-push was.replies asks.0) in let m = length-append (flat_map rows_listed was.replies) (rows_listed asks.0) in let c = was.count_is in let n = asks.2 in omega (arith, l, m, c, n);
    written = Appends-then out0 out out' _ _ _ was.written asks.3 (text-push was.replies asks.0);
  }

  pub Listing-end : {part count : ℕ} {now : D} {out : Option (List ℕ)} (out' : Option (List ℕ)) → Listing part count now out → part ≡ length splits + 1 → Keeps out out' → IsListed leads splits policy count old now out0 out'
  Listing-end {out = out} out' was all kept = (was.replies, was.reached ∙ all, was.were, was.count_is, kept_written out0 out out' _ was.written (keeps_appends out out' kept))

  pub Listing-unsent : (e : Refusal) (failed failed' : Bool) (out : Option (List ℕ)) → e ≡ WriteFault → failed' ≡ true → AppendsFront out0 out header_text → IsListedFirst leads splits policy e old old failed failed' out0 out
  Listing-unsent e failed failed' out cut is front = ([], omega arith, [], refl, inl (refl, one_unsent header_text e failed' out0 out cut is front))

  pub Listing-cut : {part count : ℕ} {now : D} {out : Option (List ℕ)} (e : Refusal) (failed failed' : Bool) (next : D) (out' : Option (List ℕ)) (splits' : List Bound) → Listing part count now out → part < length splits + 1 → splits' ≡ splits → AsksAndCuts leads splits' policy part e now next failed failed' out out' → IsListedFirst leads splits policy e old next failed failed' out0 out'
  Listing-cut {part} {now = now} {out = out} e failed failed' next out' splits' was there same (inl (asked, unfailed, kept)) = (
    was.replies,
    let r = was.reached in omega (arith, r, there),
    listing splits policy part (Err e) ∷ [],
    Calls-push leads old (listings splits policy 0 was.replies) now _ next was.were (subst (λ (s : List Bound). leads now (listing s policy part (Err e)) next) same asked),
    inr (inl (
      ap (λ n. listing splits policy n (Err e) ∷ []) (sym was.reached),
      unfailed,
      kept_written out0 out out' _ was.written (keeps_appends out out' kept),
    )),
  )
  Listing-cut {part} {now = now} {out = out} e failed failed' next out' splits' was there same (inr (reply, asked, unsent)) =
      let replies = was.replies ++ reply ∷ [] in (
        replies,
        let l = length-append was.replies (reply ∷ []) in let r = was.reached in omega (arith, l, r, there),
        [],
        subst (λ (l : List Call). Calls leads old l next) (sym (append-nil (listings splits policy 0 replies))) (called part was.replies reply next splits' was.reached was.were same asked),
        inl (refl, subst (λ (z : List (List ℕ)). AreUnsent z e failed' out0 out') (sym (lines-push was.replies reply)) (unsent_behind (lines_in was.replies) (map record_text (rows_listed reply)) e failed' out0 out out' was.written unsent)),
      )

  pub Listing-kept : {part count : ℕ} {now : D} {out : Option (List ℕ)} (failed failed' : Bool) (out' : Option (List ℕ)) → Listing part count now out → part ≡ length splits + 1 → failed' ≡ true → Keeps out out' → IsListedFirst leads splits policy WriteFault old now failed failed' out0 out'
  Listing-kept {now = now} {out = out} failed failed' out' was all is kept = (
    was.replies,
    let r = was.reached in omega (arith, r, all),
    [],
    subst (λ (l : List Call). Calls leads old l now) (sym (append-nil (listings splits policy 0 was.replies))) was.were,
    inr (inr (refl, refl, is, was.reached ∙ all, kept_written out0 out out' _ was.written (keeps_appends out out' kept))),
  )
