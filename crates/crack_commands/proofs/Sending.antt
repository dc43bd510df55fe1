-- One write after another.
use Rattle.std.proofs.Common.{◌≡◌, ℕ, ◌+◌, Option, Some, None, List, ◌++◌, length, take, drop, sym, ap, ◌∙◌, arith, append_assoc, length-append}
use Rattle.std.proofs.lemmas.List.{drop-take, take-take, take-append-le, take-append-drop}
use Rattle.std.proofs.Math.Seq.{take-append-add}
use Rattle.std.specs.Io.KnownBytes.{Appends}
use Rattle.crack_commands.specs.Texts.{AppendsFront}

-- two writes are one of both
pub Appends-then : (a b c : Option (List ℕ)) (xs ys zs : List ℕ) → Appends a b xs → Appends b c ys → zs ≡ xs ++ ys → Appends a c zs
Appends-then None b c xs ys zs h k e = tt
Appends-then (Some x) None c xs ys zs h k e = absurd h
Appends-then (Some x) (Some y) None xs ys zs h k e = absurd k
Appends-then (Some x) (Some y) (Some z) xs ys zs h k e = k ∙ ap (λ w. w ++ ys) h ∙ append_assoc x xs ys ∙ ap (λ w. x ++ w) (sym e)

-- more of a list
pub take_on : (m n : ℕ) (xs : List ℕ) → take (m + n) xs ≡ take m xs ++ take n (drop m xs)
take_on m n xs =
    let whole = take-append-drop m (take (m + n) xs) in
    let front : take m (take (m + n) xs) ≡ take m xs = take-take m (m + n) xs (omega arith) in
    let back : drop m (take (m + n) xs) ≡ take n (drop m xs) = drop-take m n xs in
    sym whole ∙ ap (λ z. z ++ drop m (take (m + n) xs)) front ∙ ap (λ z. take m xs ++ z) back

-- a prefix of a text is one of a longer text
pub front_first : (a b : Option (List ℕ)) (xs ys : List ℕ) → AppendsFront a b xs → AppendsFront a b (xs ++ ys)
front_first a b xs ys (n, short, wrote) =
    let long = length-append xs ys in
    let same : take n (xs ++ ys) ≡ take n xs = take-append-le n xs ys (omega arith) in
    (n, omega (arith, short, long), rw same wrote)

-- and after a whole text it is one of both
pub front_then : (a b c : Option (List ℕ)) (xs ys : List ℕ) → Appends a b xs → AppendsFront b c ys → AppendsFront a c (xs ++ ys)
front_then a b c xs ys whole (n, short, wrote) =
    let long = length-append xs ys in
    let both : take (length xs + n) (xs ++ ys) ≡ xs ++ take n ys = take-append-add xs ys n in
    (length xs + n, omega (arith, short, long), Appends-then a b c xs (take n ys) _ whole wrote both)
