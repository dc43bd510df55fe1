-- What follows from the totals of histories.
use Rattle.std.specs.Prelude.{◌≡◌, ◌+◌, ◌≤◌, List, [], ◌∷◌, ◌++◌, length, if◌then◌else◌}
use Rattle.std.proofs.Common.{arith}
use Rattle.std.proofs.lemmas.List.Sums.{sum_by-append, count_by-le-length}
use Rattle.crack_row.specs.declared.command.Entry.{Entry}
use Rattle.crack_plain.specs.Totals.{is_placed, is_gone, inserted, deleted}

-- one list of entries after another
pub inserted-append : (xs ys : List Entry) → inserted (xs ++ ys) ≡ inserted xs + inserted ys
inserted-append xs ys = sum_by-append _ xs ys

pub deleted-append : (xs ys : List Entry) → deleted (xs ++ ys) ≡ deleted xs + deleted ys
deleted-append xs ys = sum_by-append _ xs ys

-- one more entry before
pub inserted-cons : (e : Entry) (es : List Entry) → inserted (e ∷ es) ≡ (if is_placed e.reply then 1 else 0) + inserted es
inserted-cons e es = omega (arith, inserted-append (e ∷ []) es)

pub deleted-cons : (e : Entry) (es : List Entry) → deleted (e ∷ es) ≡ (if is_gone e.reply then 1 else 0) + deleted es
deleted-cons e es = omega (arith, deleted-append (e ∷ []) es)

-- one more entry after
pub inserted-push : (es : List Entry) (e : Entry) → inserted (es ++ e ∷ []) ≡ inserted es + (if is_placed e.reply then 1 else 0)
inserted-push es e = omega (arith, inserted-append es (e ∷ []))

pub deleted-push : (es : List Entry) (e : Entry) → deleted (es ++ e ∷ []) ≡ deleted es + (if is_gone e.reply then 1 else 0)
deleted-push es e = omega (arith, deleted-append es (e ∷ []))

-- no more rows were placed than commands were answered
pub inserted-le-accepted : (es : List Entry) → inserted es ≤ length es
inserted-le-accepted es = count_by-le-length _ es

-- no more rows were removed than commands were answered
pub deleted-le-accepted : (es : List Entry) → deleted es ≤ length es
deleted-le-accepted es = count_by-le-length _ es
