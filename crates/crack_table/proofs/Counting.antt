-- Receipts that cover lists of entries have the same sums.
use Rattle.std.proofs.Common.{◌≡◌, ℕ, ◌+◌, List, [], ◌∷◌, length, map, Bool, true, false, cond, ◌==◌, ◌&&◌, Option, Some, None, refl, ap, arith, sym, zero, suc, ◌∙◌, add-zero}
use Rattle.std.specs.Prelude.{filter, All, is_some, nat_lt, sum_by}
use Rattle.std.specs.List.{slice_get}
use Rattle.std.proofs.lemmas.Bool.Decides.{nat_tests}
use Rattle.std.proofs.lemmas.List.Sums.{sum_by-cons}
use Rattle.std.proofs.lemmas.List.Elements.{All-nil, All-cons, All-head, All-tail, All-weaker}
use Rattle.std.proofs.lemmas.Option.{slice_get_within}
use Rattle.crack_row.specs.declared.command.Entry.{Entry}
use Rattle.crack_witness.specs.declared.receipt.Receipt.{Receipt}
use Rattle.crack_witness.specs.Receipts.{entry_of, entries_of, AreShares}
use Rattle.crack_plain.specs.Totals.{is_placed, is_gone, inserted, deleted}
use Rattle.crack_table.specs.Cover.{at, has_place, IsMetBy, Covers}
use Rattle.crack_table.specs.Coverage.{names, IsSole}
use Rattle.crack_table.proofs.Places.{row_of, some_within}

-- g 0 + .. + g (n - 1)
abbrev pub sum_upto : (ℕ → ℕ) → ℕ → ℕ
sum_upto g zero = 0
sum_upto g (suc n) = sum_upto g n + g n

-- one more than the bound
split_by : (key : ℕ) (n x s t u : ℕ) (a b c : Bool) → a ≡ nat_lt key (suc n) → b ≡ nat_lt key n → c ≡ (key == n) → s ≡ t + u
    → cond a (x + s) s ≡ cond b (x + t) t + cond c (x + u) u
split_by key n x s t u true true true a b c e = absurd (grind (arith, nat_tests))
split_by key n x s t u true true false a b c e = omega arith
split_by key n x s t u true false true a b c e = omega arith
split_by key n x s t u true false false a b c e = absurd (grind (arith, nat_tests))
split_by key n x s t u false true true a b c e = absurd (grind (arith, nat_tests))
split_by key n x s t u false true false a b c e = absurd (grind (arith, nat_tests))
split_by key n x s t u false false true a b c e = absurd (grind (arith, nat_tests))
split_by key n x s t u false false false a b c e = omega arith

sum_cond : (F : Receipt → ℕ) (b : Bool) (r : Receipt) (rs : List Receipt) → sum_by F (cond b (r ∷ rs) rs) ≡ cond b (F r + sum_by F rs) (sum_by F rs)
sum_cond F true r rs = sum_by-cons F r rs
sum_cond F false r rs = refl

split_more : (key : Receipt → ℕ) (F : Receipt → ℕ) (rs : List Receipt) (n : ℕ) → sum_by F (filter (λ r. nat_lt (key r) (suc n)) rs) ≡ sum_by F (filter (λ r. nat_lt (key r) n) rs) + sum_by F (filter (λ r. key r == n) rs)
split_more key F [] n = refl
split_more key F (r ∷ rs) n =
    rw (sum_cond F (nat_lt (key r) (suc n)) r (filter (λ r. nat_lt (key r) (suc n)) rs), sum_cond F (nat_lt (key r) n) r (filter (λ r. nat_lt (key r) n) rs), sum_cond F (key r == n) r (filter (λ r. key r == n) rs))
    (split_by (key r) n (F r) _ _ _ (nat_lt (key r) (suc n)) (nat_lt (key r) n) (key r == n) refl refl refl (split_more key F rs n))

filter_never : (key : Receipt → ℕ) (rs : List Receipt) → filter (λ r. nat_lt (key r) 0) rs ≡ []
filter_never key [] = refl
filter_never key (r ∷ rs) = let f : nat_lt (key r) 0 ≡ false = grind (arith, nat_tests) in rw f (filter_never key rs)

filter_always : (p : Receipt → Bool) (rs : List Receipt) → All (λ r. p r ≡ true) rs → filter p rs ≡ rs
filter_always p [] all = refl
filter_always p (r ∷ rs) all = rw (All-head (λ r. p r ≡ true) r rs all) (ap (λ l. r ∷ l) (filter_always p rs (All-tail (λ r. p r ≡ true) r rs all)))

-- the sum, key by key
split_upto : (key : Receipt → ℕ) (F : Receipt → ℕ) (rs : List Receipt) (n : ℕ) → sum_by F (filter (λ r. nat_lt (key r) n) rs) ≡ sum_upto (λ k. sum_by F (filter (λ r. key r == k) rs)) n
split_upto key F rs zero = ap (λ l. sum_by F l) (filter_never key rs)
split_upto key F rs (suc n) = split_more key F rs n ∙ ap (λ s. s + sum_by F (filter (λ r. key r == n) rs)) (split_upto key F rs n)

pub by_key : (key : Receipt → ℕ) (F : Receipt → ℕ) (rs : List Receipt) (n : ℕ) → All (λ r. nat_lt (key r) n ≡ true) rs → sum_by F rs ≡ sum_upto (λ k. sum_by F (filter (λ r. key r == k) rs)) n
by_key key F rs n all = ap (λ l. sum_by F l) (sym (filter_always (λ r. nat_lt (key r) n) rs all)) ∙ split_upto key F rs n

filter_step : (q : Receipt → Bool) (r : Receipt) (fs rest : List Receipt) (a : Bool) → filter q fs ≡ rest → filter q (cond a (r ∷ fs) fs) ≡ cond (a && q r) (r ∷ rest) rest
filter_step q r fs rest true e = rw e refl
filter_step q r fs rest false e = e

filter_filter : (p q : Receipt → Bool) (rs : List Receipt) → filter q (filter p rs) ≡ filter (λ r. p r && q r) rs
filter_filter p q [] = refl
filter_filter p q (r ∷ rs) = filter_step q r (filter p rs) (filter (λ r. p r && q r) rs) (p r) (filter_filter p q rs)

sum_upto_front : (g : ℕ → ℕ) (n : ℕ) → sum_upto g (suc n) ≡ g 0 + sum_upto (λ k. g (suc k)) n
sum_upto_front g zero = omega arith
sum_upto_front g (suc n) = let h = sum_upto_front g n in omega (arith, h)

sum_list : {X : Type 0} (f : X → ℕ) (xs : List X) (g : ℕ → ℕ) → ((k : ℕ) (x : X) → slice_get xs k ≡ Some x → g k ≡ f x) → sum_upto g (length xs) ≡ sum_by f xs
sum_list f [] g same = refl
sum_list f (x ∷ xs) g same =
    sum_upto_front g (length xs) ∙ rw (same 0 x refl, sum_list f xs (λ k. g (suc k)) (λ k y is. same (suc k) y is)) (sym (sum_by-cons f x xs))

pub sum_entries : (f : Entry → ℕ) (rs : List Receipt) → sum_by (λ r. f (entry_of r)) rs ≡ sum_by f (map entry_of rs)
sum_entries f [] = refl
sum_entries f (r ∷ rs) = sum_by-cons (λ r. f (entry_of r)) r rs ∙ rw (sum_entries f rs) (sym (sum_by-cons f (entry_of r) (map entry_of rs)))

all_cond : (P : Receipt → Type 0) (b : Bool) (r : Receipt) (rs : List Receipt) → (b ≡ true → P r) → All P rs → All P (cond b (r ∷ rs) rs)
all_cond P true r rs here all = All-cons P r rs (here refl) all
all_cond P false r rs here all = all

-- what a test of an option implies
some_of : {X : Type 0} (o : Option X) → is_some o ≡ true → (x : X) × (o ≡ Some x)
some_of None is = cc
some_of (Some x) is = (x, refl)

-- what a cover implies for the places
place_row : (lists : List (List Entry)) (r : Receipt) → has_place lists r ≡ true → (list : List Entry) × (slice_get lists r.part ≡ Some list) × (nat_lt r.position (length list) ≡ true)
place_row lists r is =
    let e = some_of (at lists r.part r.position) is in
    let row = row_of (slice_get lists r.part) r.position e.0 e.1 in
    (row.0, row.1, sym (some_within row.0 r.position) ∙ ap is_some row.2)

parts_within : (lists : List (List Entry)) (rs : List Receipt) → All (λ r. has_place lists r ≡ true) rs → All (λ r. nat_lt r.part (length lists) ≡ true) rs
parts_within lists rs all =
    All-weaker (λ r. has_place lists r ≡ true) (λ r. nat_lt r.part (length lists) ≡ true)
    (λ r is. let row = place_row lists r is in let lt = slice_get_within lists r.part row.0 row.1 in grind (arith, nat_tests, lt))
    rs all

position_within : (lists : List (List Entry)) (p : ℕ) (list : List Entry) (r : Receipt) → slice_get lists p ≡ Some list → has_place lists r ≡ true → (r.part == p) ≡ true → nat_lt r.position (length list) ≡ true
position_within lists p list r list_is is same =
    let row = place_row lists r is in
    let e : r.part ≡ p = grind (arith, nat_tests) in
    let row_is : slice_get lists p ≡ Some row.0 = rw (← e) row.1 in
    let one : row.0 ≡ list = cc in
    rw (← one) row.2

positions_within : (lists : List (List Entry)) (p : ℕ) (list : List Entry) → slice_get lists p ≡ Some list → (rs : List Receipt) → All (λ r. has_place lists r ≡ true) rs → All (λ r. nat_lt r.position (length list) ≡ true) (filter (λ r. r.part == p) rs)
positions_within lists p list list_is [] all = All-nil (λ r. nat_lt r.position (length list) ≡ true)
positions_within lists p list list_is (r ∷ rs) all =
    all_cond (λ r. nat_lt r.position (length list) ≡ true) (r.part == p) r (filter (λ r. r.part == p) rs)
    (position_within lists p list r list_is (All-head (λ r. has_place lists r ≡ true) r rs all))
    (positions_within lists p list list_is rs (All-tail (λ r. has_place lists r ≡ true) r rs all))

sole_sum : (f : Entry → ℕ) (entry : Entry) (named : List Receipt) → (sole : IsSole entry named) → sum_by (λ r. f (entry_of r)) named ≡ f (entry_of sole.0)
sole_sum f entry named sole = rw sole.1 (sum_by-cons (λ r. f (entry_of r)) sole.0 [] ∙ add-zero (f (entry_of sole.0)))

place_sum : (f : Entry → ℕ) (rs : List Receipt) (p n : ℕ) (entry : Entry) → (met : IsMetBy rs p n entry) → sum_by (λ r. f (entry_of r)) (filter (λ r. r.position == n) (filter (λ r. r.part == p) rs)) ≡ f entry
place_sum f rs p n entry met =
    ap (λ l. sum_by (λ r. f (entry_of r)) l) (filter_filter (λ r. r.part == p) (λ r. r.position == n) rs) ∙ (sole_sum f entry (filter (names p n) rs) met ∙ ap f met.2)

-- the total of the receipts of a partition is that of its entries
part_counted : (f : Entry → ℕ) (lists : List (List Entry)) (rs : List Receipt) → Covers lists rs → (p : ℕ) (list : List Entry) → slice_get lists p ≡ Some list
    → sum_by (λ r. f (entry_of r)) (filter (λ r. r.part == p) rs) ≡ sum_by f list
part_counted f lists rs covers p list list_is =
    by_key (λ r. r.position) (λ r. f (entry_of r)) (filter (λ r. r.part == p) rs) (length list) (positions_within lists p list list_is rs covers.placed)
    ∙ sum_list f list (λ n. sum_by (λ r. f (entry_of r)) (filter (λ r. r.position == n) (filter (λ r. r.part == p) rs)))
    (λ n e e_is. place_sum f rs p n e (covers.covered p list list_is n e e_is))

-- the total of receipts that cover is that of all entries
counted : (f : Entry → ℕ) (lists : List (List Entry)) (rs : List Receipt) → Covers lists rs → sum_by f (entries_of rs) ≡ sum_by (λ (list : List Entry). sum_by f list) lists
counted f lists rs covers =
    sym (sum_entries f rs)
    ∙ (by_key (λ r. r.part) (λ r. f (entry_of r)) rs (length lists) (parts_within lists rs covers.placed)
    ∙ sum_list (λ (list : List Entry). sum_by f list) lists (λ p. sum_by (λ r. f (entry_of r)) (filter (λ r. r.part == p) rs))
    (λ p list list_is. part_counted f lists rs covers p list list_is))

abbrev one : Entry → ℕ
one e = 1

long-sum : (es : List Entry) → sum_by one es ≡ length es
long-sum [] = refl
long-sum (e ∷ es) = sum_by-cons one e es ∙ rw (long-sum es) (omega arith)

long-sums : (lists : List (List Entry)) → sum_by (λ (list : List Entry). sum_by one list) lists ≡ sum_by (λ (list : List Entry). length list) lists
long-sums [] = refl
long-sums (list ∷ lists) =
    sum_by-cons (λ (list : List Entry). sum_by one list) list lists
    ∙ rw (long-sums lists, long-sum list) (sym (sum_by-cons (λ (list : List Entry). length list) list lists))

-- so the totals of the lists are those of the receipts
pub are_shares : (lists : List (List Entry)) (rs : List Receipt) (answers placed gone : ℕ) → Covers lists rs
    → answers ≡ sum_by (λ (list : List Entry). length list) lists → placed ≡ sum_by (λ (list : List Entry). inserted list) lists → gone ≡ sum_by (λ (list : List Entry). deleted list) lists
    → AreShares rs answers placed gone
are_shares lists rs answers placed gone covers answers_are placed_are gone_are = record {
  accepted_is = answers_are ∙ (sym (long-sums lists) ∙ (sym (counted one lists rs covers) ∙ long-sum (entries_of rs)));
  inserted_is = placed_are ∙ sym (counted (λ (e : Entry). cond (is_placed e.reply) 1 0) lists rs covers);
  deleted_is = gone_are ∙ sym (counted (λ (e : Entry). cond (is_gone e.reply) 1 0) lists rs covers);
}
