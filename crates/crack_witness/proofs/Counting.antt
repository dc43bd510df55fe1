-- The calls of one worker.
use Rattle.std.proofs.Common.{◌≡◌, ◌≢◌, ℕ, ◌+◌, ◌^◌, ◌<◌, ◌≤◌, ◌==◌, Bool, true, false, List, [], ◌∷◌, ◌++◌, refl, ap, sym, ◌∙◌, subst, arith, length, length-append, slice_index_or, slice_set, replicate}
use Rattle.std.proofs.lemmas.Bool.Decides.{nat_tests}
use Rattle.std.proofs.lemmas.List.{append-nil, length-set, get_or-set_same, get_or-set_other, length-replicate, get_or-replicate}
use Rattle.std.proofs.lemmas.List.Elements.{filter-append, All-set, All-replicate}
use Rattle.std.proofs.lemmas.List.Folds.{sum_by-replicate}
use Rattle.std.proofs.lemmas.List.Sums.{sum_by-set, sum_by-le}
use Rattle.std.specs.Prelude.{All, sum_by, Option, Some, None, IfSome}
use mathlib.Core.List.{IsPrefix}
use Rattle.crack_row.specs.declared.command.Entry.{Entry}
use Rattle.crack_witness.specs.declared.event.Event.{Event}
use Rattle.crack_witness.specs.declared.receipt.Receipt.{Receipt}
use Rattle.crack_witness.specs.Audits.{empty_list, and_one}
use Rattle.crack_witness.specs.Histories.{calls_by, calls_at, history_of, AreEmpty}
use Rattle.crack_witness.specs.Keeps.{AreCounts, IsWorker}
use Rattle.crack_witness.proofs.Lists.{prefix_trans, prefix_self, history_grows}

pub calls_own : (w : ℕ) (es : List Entry) (e : Entry) → e.worker ≡ w → calls_by w (es ++ e ∷ []) ≡ calls_by w es ++ e ∷ []
calls_own w es e is = let same : (e.worker == w) ≡ true = grind (arith, nat_tests) in rw (filter-append (λ (e : Entry). e.worker == w) es (e ∷ []), same) refl

pub calls_other : (w : ℕ) (es : List Entry) (e : Entry) → (e.worker == w) ≡ false → calls_by w (es ++ e ∷ []) ≡ calls_by w es
calls_other w es e is = rw (filter-append (λ (e : Entry). e.worker == w) es (e ∷ []), is) (append-nil (calls_by w es))

pub counts_at : (counts : List ℕ) (es : List Entry) (e : Entry) (n k : ℕ) (b : Bool) → (e.worker == k) ≡ b → AreCounts counts es → n ≡ slice_index_or counts e.worker 0 + 1 → e.worker < length counts
    → k < length (slice_set counts e.worker n) → slice_index_or (slice_set counts e.worker n) k 0 ≡ length (calls_by k (es ++ e ∷ []))
counts_at counts es e n k true is old more less less' =
    let same : e.worker ≡ k = grind (arith, nat_tests) in
    subst (λ (j : ℕ). slice_index_or (slice_set counts e.worker n) j 0 ≡ length (calls_by j (es ++ e ∷ []))) same
    (get_or-set_same counts e.worker n 0 less ∙ omega (arith, more, old e.worker less, ap length (calls_own e.worker es e refl), length-append (calls_by e.worker es) (e ∷ [])))
counts_at counts es e n k false is old more less less' =
    let away : k ≢ e.worker = grind (arith, nat_tests) in
    get_or-set_other counts e.worker k n 0 away ∙ (old k (omega (arith, less', length-set counts e.worker n)) ∙ sym (ap length (calls_other k es e is)))

pub counts_set : (counts : List ℕ) (es : List Entry) (e : Entry) (n : ℕ) → AreCounts counts es → n ≡ slice_index_or counts e.worker 0 + 1 → e.worker < length counts → AreCounts (slice_set counts e.worker n) (es ++ e ∷ [])
counts_set counts es e n old more less k less' = counts_at counts es e n k (e.worker == k) refl old more less less'

pub prefix_same : {A : Type 0} (xs ys : List A) → IsPrefix xs ys → length xs ≡ length ys → xs ≡ ys
prefix_same [] [] p le = refl
prefix_same [] (y ∷ ys) p le = absurd (omega (arith, le))
prefix_same (x ∷ xs) [] p le = absurd (cc (p.1))
prefix_same (x ∷ xs) (y ∷ ys) p le =
    let rest = prefix_same xs ys (p.0, cc (p.1)) (omega (arith, le)) in cc (p.1, rest)

pub calls_grow : (w : ℕ) (a h : List Entry) → IsPrefix a h → IsPrefix (calls_by w a) (calls_by w h)
calls_grow w a h p = (calls_by w p.0, sym (filter-append (λ (e : Entry). e.worker == w) a p.0) ∙ ap (calls_by w) p.1)

-- if a history has as many entries of a worker as the part that was seen, it has one more afterwards, and no others
pub mine_exact : (w : ℕ) (a b h new : List Entry) (e : Entry) → IsPrefix a b → IsPrefix b h → length (calls_by w a) ≡ length (calls_by w h) → new ≡ h ++ e ∷ [] → e.worker ≡ w → calls_by w new ≡ calls_by w a ++ e ∷ []
mine_exact w a b h new e p q same is own =
    let all : calls_by w a ≡ calls_by w h = prefix_same (calls_by w a) (calls_by w h) (calls_grow w a h (prefix_trans a b h p q)) same in
    ap (calls_by w) is ∙ (calls_own w h e own ∙ ap (λ (l : List Entry). l ++ e ∷ []) (sym all))

pub counted_at : (own : ℕ → ℕ) (n : ℕ) (seen_by_part : List (List Event)) (counts : List ℕ) (part count : ℕ) (new : List Event) (k : ℕ) (b : Bool) → (part == k) ≡ b
    → ((q : ℕ) → q < length seen_by_part → slice_index_or counts q 0 ≡ length (calls_at own q n (slice_index_or seen_by_part q []))) → length counts ≡ length seen_by_part → part < length seen_by_part → count ≡ length (calls_at own part n new)
    → k < length (slice_set seen_by_part part new) → slice_index_or (slice_set counts part count) k 0 ≡ length (calls_at own k n (slice_index_or (slice_set seen_by_part part new) k []))
counted_at own n seen_by_part counts part count new k true is old all less more less' =
    let same : part ≡ k = grind (arith, nat_tests) in
    subst (λ (j : ℕ). slice_index_or (slice_set counts part count) j 0 ≡ length (calls_at own j n (slice_index_or (slice_set seen_by_part part new) j []))) same
    (get_or-set_same counts part count 0 (omega (arith, all, less)) ∙ (more ∙ ap (λ (l : List Event). length (calls_at own part n l)) (sym (get_or-set_same seen_by_part part new [] less))))
counted_at own n seen_by_part counts part count new k false is old all less more less' =
    let away : k ≢ part = grind (arith, nat_tests) in
    get_or-set_other counts part k count 0 away ∙ (old k (omega (arith, less', length-set seen_by_part part new)) ∙ ap (λ (l : List Event). length (calls_at own k n l)) (sym (get_or-set_other seen_by_part part k new [] away)))

pub begins_at : (seen : List Event) (seen_by_part : List (List Event)) (part : ℕ) (new : List Event) (k : ℕ) (b : Bool) → (part == k) ≡ b
    → ((q : ℕ) → q < length seen_by_part → IsPrefix (slice_index_or seen_by_part q []) seen) → IsPrefix seen new → part < length seen_by_part
    → k < length (slice_set seen_by_part part new) → IsPrefix (slice_index_or (slice_set seen_by_part part new) k []) new
begins_at seen seen_by_part part new k true is old grows less less' =
    let same : part ≡ k = grind (arith, nat_tests) in
    subst (λ (j : ℕ). IsPrefix (slice_index_or (slice_set seen_by_part part new) j []) new) same (subst (λ (l : List Event). IsPrefix l new) (sym (get_or-set_same seen_by_part part new [] less)) (prefix_self new))
begins_at seen seen_by_part part new k false is old grows less less' =
    let away : k ≢ part = grind (arith, nat_tests) in
    subst (λ (l : List Event). IsPrefix l new) (sym (get_or-set_other seen_by_part part k new [] away)) (prefix_trans (slice_index_or seen_by_part k []) seen new (old k (omega (arith, less', length-set seen_by_part part new))) grows)

pub none_counted : (n : ℕ) → sum_by (λ (k : ℕ). k) (replicate n 0) ≡ 0
none_counted n = let none = sum_by-replicate (λ (k : ℕ). k) n 0 in omega (arith, none)

-- a worker that has asked nothing
none_received : (parts : ℕ) (audited : Bool) → IfSome (empty_list audited) (λ (items : List Receipt). length items ≡ sum_by (λ (k : ℕ). k) (replicate parts 0))
none_received parts true = sym (none_counted parts)
none_received parts false = tt

pub worker_fresh : (own : ℕ → ℕ) (n : ℕ) (seen : List Event) (parts : ℕ) (audited : Bool) → AreEmpty seen → parts ≤ 64 → IsWorker own n seen (replicate parts seen) (replicate parts 0) (empty_list audited)
worker_fresh own n seen parts audited empty few = record {
  all = length-replicate {A = ℕ} parts 0 ∙ sym (length-replicate parts seen);
  few = omega (arith, few, length-replicate {A = ℕ} parts 0);
  small = All-replicate (λ (count : ℕ). count ≤ 2 ^ 41) parts 0 (omega arith);
  counted = λ part less.
      let within : part < parts = omega (arith, less, length-replicate parts seen) in
      get_or-replicate {A = ℕ} parts part 0 0 within
      ∙ sym (ap (λ (l : List Event). length (calls_at own part n l)) (get_or-replicate parts part seen [] within) ∙ ap (λ (h : List Entry). length (calls_by n h)) (empty (own part)));
  begins = λ part less.
      let within : part < parts = omega (arith, less, length-replicate parts seen) in
      subst (λ (l : List Event). IsPrefix l seen) (sym (get_or-replicate parts part seen [] within)) (prefix_self seen);
  received = none_received parts audited;
}

-- one more reply
pub sum_more : (counts : List ℕ) (part count : ℕ) → part < length counts → count ≡ slice_index_or counts part 0 + 1 → sum_by (λ (n : ℕ). n) (slice_set counts part count) ≡ sum_by (λ (n : ℕ). n) counts + 1
sum_more counts part count less is = let set = sum_by-set (λ (n : ℕ). n) counts part count 0 less in omega (arith, set, is)

-- one more receipt, if there is an audit
one_received : (receipts : Option (List Receipt)) (r : Receipt) (counts more : List ℕ) → sum_by (λ (k : ℕ). k) more ≡ sum_by (λ (k : ℕ). k) counts + 1
    → IfSome receipts (λ (items : List Receipt). length items ≡ sum_by (λ (k : ℕ). k) counts) → IfSome (and_one receipts r) (λ (items : List Receipt). length items ≡ sum_by (λ (k : ℕ). k) more)
one_received None r counts more sum all = tt
one_received (Some items) r counts more sum all = omega (arith, length-append items (r ∷ []), all, sum)

pub worker_after : (own : ℕ → ℕ) (n : ℕ) (seen : List Event) (seen_by_part : List (List Event)) (counts : List ℕ) (receipts : Option (List Receipt)) (part count : ℕ) (new : List Event) (r : Receipt)
    → IsWorker own n seen seen_by_part counts receipts → part < length seen_by_part → IsPrefix seen new → count ≡ length (calls_at own part n new) → count ≤ 2 ^ 41 → count ≡ slice_index_or counts part 0 + 1
    → IsWorker own n new (slice_set seen_by_part part new) (slice_set counts part count) (and_one receipts r)
worker_after own n seen seen_by_part counts receipts part count new r w less grows more bound one = record {
  all = length-set counts part count ∙ (w.all ∙ sym (length-set seen_by_part part new));
  counted = λ k l. counted_at own n seen_by_part counts part count new k (part == k) refl w.counted w.all less more l;
  begins = λ k l. begins_at seen seen_by_part part new k (part == k) refl w.begins grows less l;
  few = omega (arith, w.few, length-set counts part count);
  small = All-set (λ (k : ℕ). k ≤ 2 ^ 41) counts part count bound w.small;
  received = one_received receipts r counts (slice_set counts part count) (sum_more counts part count (omega (arith, less, w.all)) one) w.received;
}

-- if a history has as many entries of a worker as the worker counted, they are those of its calls
pub agree : (own : ℕ → ℕ) (n : ℕ) (seen : List Event) (seen_by_part : List (List Event)) (counts : List ℕ) (receipts : Option (List Receipt)) (part mine theirs : ℕ) (all log : List Event)
    → IsWorker own n seen seen_by_part counts receipts → part < length counts → mine ≡ slice_index_or counts part 0 → theirs ≡ length (calls_by n (history_of (own part) log)) → mine ≡ theirs
    → IsPrefix seen all → IsPrefix (history_of (own part) all) (history_of (own part) log)
    → calls_at own part n log ≡ calls_at own part n (slice_index_or seen_by_part part [])
agree own n seen seen_by_part counts receipts part mine theirs all log w less is are same grows begins =
    let f = slice_index_or seen_by_part part [] in
    let l : part < length seen_by_part = omega (arith, w.all, less) in
    let p : IsPrefix (history_of (own part) f) (history_of (own part) log) = prefix_trans (history_of (own part) f) (history_of (own part) all) (history_of (own part) log) (history_grows (own part) f all (prefix_trans f seen all (w.begins part l) grows)) begins in
    sym (prefix_same (calls_by n (history_of (own part) f)) (calls_by n (history_of (own part) log)) (calls_grow n (history_of (own part) f) (history_of (own part) log) p) (omega (arith, w.counted part l, is, are, same)))

-- an entry that was written when a history had as many of the worker's entries as it had received replies
pub given_exact : (own : ℕ → ℕ) (n part number : ℕ) (f seen log new : List Event) (e : Entry) (count : ℕ) → number ≡ part → IsPrefix f seen → IsPrefix (history_of (own number) seen) (history_of (own number) log)
    → history_of (own number) new ≡ history_of (own number) log ++ e ∷ [] → e.worker ≡ n → count ≡ length (calls_at own part n f) → length (calls_by n (history_of (own number) log)) ≡ count
    → calls_at own part n new ≡ calls_at own part n f ++ e ∷ []
given_exact own n part number f seen log new e count same begins before written is mine theirs =
    let old : IsPrefix (history_of (own part) seen) (history_of (own part) log) = subst (λ (p : ℕ). IsPrefix (history_of (own p) seen) (history_of (own p) log)) same before in
    let here : history_of (own part) new ≡ history_of (own part) log ++ e ∷ [] = subst (λ (p : ℕ). history_of (own p) new ≡ history_of (own p) log ++ e ∷ []) same written in
    let many : length (calls_by n (history_of (own part) f)) ≡ length (calls_by n (history_of (own part) log)) = subst (λ (p : ℕ). length (calls_by n (history_of (own part) f)) ≡ length (calls_by n (history_of (own p) log))) same (omega (arith, mine, theirs)) in
    mine_exact n (history_of (own part) f) (history_of (own part) seen) (history_of (own part) log) (history_of (own part) new) e (history_grows (own part) f seen begins) old many here is

-- the number of replies to a worker fits into a word
pub sum_fits : (counts : List ℕ) → length counts ≤ 64 → All (λ (k : ℕ). k ≤ 2 ^ 41) counts → sum_by (λ (n : ℕ). n) counts < 2 ^ 64
sum_fits counts few small = let most = sum_by-le (λ (n : ℕ). n) (2 ^ 41) counts small in omega (arith, most, few)
