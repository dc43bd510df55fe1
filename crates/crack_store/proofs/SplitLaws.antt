-- A bound that divides a list of rows, after a part of the list was replaced by other rows.
use Rattle.std.proofs.Common.{◌≡◌, ℕ, ◌+◌, ◌-◌, ◌<◌, ◌≤◌, List, [], ◌∷◌, ◌++◌, map, length, take, drop, refl, sym, ap, ◌∙◌, arith}
use Rattle.std.specs.List.{All}
use Rattle.std.specs.List.Sorted.{IsPermutation}
use Rattle.std.proofs.lemmas.List.Sorted.{All-permutation}
use Rattle.std.proofs.Math.Seq.{take-add}
use Rattle.std.proofs.lemmas.List.{append_assoc, length-append, length-map, length-take-le, length-drop, get_or-map, get_or-take, get_or-drop, get_or_append_left, get_or-append-add, take_at, drop_at, drop-drop, take-append-le, drop-append-le}
use Rattle.std.proofs.lemmas.List.Elements.{All-append}
use Rattle.crack_column.specs.Column.{IsDividedAt}

module _ {X : Type 0} where
  pub All-left : (P : X → Type 0) (xs ys : List X) → All P (xs ++ ys) → All P xs
  All-left P xs ys all = λ k d h. rw (← get_or_append_left xs ys d k h) (all k d (omega (arith, h, length-append xs ys)))

  pub All-right : (P : X → Type 0) (xs ys : List X) → All P (xs ++ ys) → All P ys
  All-right P xs ys all = λ k d h. rw (← get_or-append-add xs ys k d) (all (length xs + k) d (omega (arith, h, length-append xs ys)))

module _ {X : Type 0} (key : X → ℕ) where
  -- the rows before the place have keys below the bound, and the others haven't
  pub record Splits (bound place : ℕ) (rows : List X) : Type 0 where
    pub within : place ≤ length rows
    pub below : All (λ x. key x < bound) (take place rows)
    pub above : All (λ x. bound ≤ key x) (drop place rows)

  pub Splits-divided : (bound place : ℕ) (rows : List X) → IsDividedAt bound (map key rows) place → Splits bound place rows
  Splits-divided bound place rows d =
      let long = length-map rows key in
      let short = length-take-le place rows (omega (arith, d.within, long)) in
      record {
        within = omega (arith, d.within, long);
        below = λ k e h. let here : k < length rows = omega (arith, h, short, d.within, long) in rw (get_or-take place rows k e (omega (arith, h, short)), ← get_or-map key rows k e 0 here) (d.below k (omega (arith, h, short)));
        above = λ k e h. let here : place + k < length rows = omega (arith, h, length-drop place rows) in rw (get_or-drop place rows k e, ← get_or-map key rows (place + k) e 0 here) (d.above (place + k) (omega arith) (omega (arith, here, long)));
      }

  pub divided-Splits : (bound place : ℕ) (rows : List X) → Splits bound place rows → IsDividedAt bound (map key rows) place
  divided-Splits bound place [] s = record { within = s.within; below = λ k h. absurd (omega (arith, s.within, h)); above = λ k h j. absurd (omega (arith, j)) }
  divided-Splits bound place (x ∷ xs) s =
      let rows : List X = x ∷ xs in
      let long = length-map rows key in
      let short = length-take-le place rows s.within in
      record {
        within = omega (arith, s.within, long);
        below = λ k h. rw (get_or-map key rows k x 0 (omega (arith, s.within, h)), ← get_or-take place rows k x h) (s.below k x (omega (arith, h, short)));
        above = λ k h j.
            let n : ℕ = k - place in
            let here_is : place + n ≡ k = omega (arith, h) in
            let here : k < length rows = omega (arith, j, long) in
            rw (get_or-map key rows k x 0 here, ← here_is, ← get_or-drop place rows n x) (s.above n x (omega (arith, here_is, here, length-drop place rows)));
      }

  -- a bound before the part
  pub Splits-low : (bound place : ℕ) (front was is behind : List X) → place ≤ length front → All (λ x. bound ≤ key x) is → Splits bound place (front ++ (was ++ behind)) → Splits bound place (front ++ (is ++ behind))
  Splits-low bound place front was is behind before over s =
      let Over : X → Type 0 = λ x. bound ≤ key x in
      let below = rw (take-append-le place front (was ++ behind) before) at s.below in
      let above : All Over (drop place front ++ (was ++ behind)) = rw (drop-append-le place front (was ++ behind) before) at s.above in
      let rest = All-right Over was behind (All-right Over (drop place front) (was ++ behind) above) in
      record {
        within = omega (arith, before, length-append front (is ++ behind));
        below = rw (take-append-le place front (is ++ behind) before) below;
        above = rw (drop-append-le place front (is ++ behind) before) (All-append Over (drop place front) (is ++ behind) (All-left Over (drop place front) (was ++ behind) above) (All-append Over is behind over rest));
      }

  take_past : (xs ys : List X) (n : ℕ) → take (length xs + n) (xs ++ ys) ≡ xs ++ take n ys
  take_past xs ys n = take-add (length xs) n (xs ++ ys) ∙ rw (take_at xs ys (length xs) refl, drop_at xs ys (length xs) refl) refl

  drop_past : (xs ys : List X) (n : ℕ) → drop (length xs + n) (xs ++ ys) ≡ drop n ys
  drop_past xs ys n = sym (drop-drop n (length xs) (xs ++ ys)) ∙ ap (drop n) (drop_at xs ys (length xs) refl)

  -- a bound after the part
  pub Splits-high : (bound place after : ℕ) (front was is behind : List X) → place ≡ length front + length was + after → All (λ x. key x < bound) is → Splits bound place (front ++ (was ++ behind)) → Splits bound (length front + length is + after) (front ++ (is ++ behind))
  Splits-high bound place after front was is behind place_is under s =
      let Under : X → Type 0 = λ x. key x < bound in
      let old = front ++ was in
      let new = front ++ is in
      let old_long : length old ≡ length front + length was = length-append front was in
      let new_long : length new ≡ length front + length is = length-append front is in
      let was_at : place ≡ length old + after = omega (arith, place_is, old_long) in
      let is_at : length front + length is + after ≡ length new + after = omega (arith, new_long) in
      let whole : front ++ (was ++ behind) ≡ old ++ behind = sym (append_assoc front was behind) in
      let whole' : front ++ (is ++ behind) ≡ new ++ behind = sym (append_assoc front is behind) in
      let below : All Under (old ++ take after behind) = rw (whole, was_at, take_past old behind after) at s.below in
      let above = rw (whole, was_at, drop_past old behind after) at s.above in
      let front_under = All-left Under front was (All-left Under old (take after behind) below) in
      let far = All-right Under old (take after behind) below in
      let room = s.within in
      record {
        within = omega (arith, room, place_is, length-append front (was ++ behind), length-append was behind, length-append front (is ++ behind), length-append is behind);
        below = rw (whole', is_at, take_past new behind after) (All-append Under new (take after behind) (All-append Under front is front_under under) far);
        above = rw (whole', is_at, drop_past new behind after) above;
      }

  -- the rows of a part that is after a bound, or before it
  pub Splits-over : (bound place : ℕ) (front part behind : List X) → place ≤ length front → Splits bound place (front ++ (part ++ behind)) → All (λ x. bound ≤ key x) part
  Splits-over bound place front part behind before s =
      let Over : X → Type 0 = λ x. bound ≤ key x in
      let above : All Over (drop place front ++ (part ++ behind)) = rw (drop-append-le place front (part ++ behind) before) at s.above in
      All-left Over part behind (All-right Over (drop place front) (part ++ behind) above)

  pub Splits-under : (bound place after : ℕ) (front part behind : List X) → place ≡ length front + length part + after → Splits bound place (front ++ (part ++ behind)) → All (λ x. key x < bound) part
  Splits-under bound place after front part behind place_is s =
      let Under : X → Type 0 = λ x. key x < bound in
      let both = front ++ part in
      let was_at : place ≡ length both + after = omega (arith, place_is, length-append front part) in
      let whole : front ++ (part ++ behind) ≡ both ++ behind = sym (append_assoc front part behind) in
      let below : All Under (both ++ take after behind) = rw (whole, was_at, take_past both behind after) at s.below in
      All-right Under front part (All-left Under both (take after behind) below)

  -- the part keeps some of its rows, in any order
  pub Splits-low_left : (bound place : ℕ) (front was is out behind : List X) → place ≤ length front → IsPermutation was (is ++ out) → Splits bound place (front ++ (was ++ behind)) → Splits bound place (front ++ (is ++ behind))
  Splits-low_left bound place front was is out behind before left s =
      let all = Splits-over bound place front was behind before s in
      Splits-low bound place front was is behind before (All-left (λ x. bound ≤ key x) is out (All-permutation (λ x. bound ≤ key x) was (is ++ out) left all)) s

  pub Splits-high_left : (bound place after : ℕ) (front was is out behind : List X) → place ≡ length front + length was + after → IsPermutation was (is ++ out) → Splits bound place (front ++ (was ++ behind)) → Splits bound (length front + length is + after) (front ++ (is ++ behind))
  Splits-high_left bound place after front was is out behind place_is left s =
      let all = Splits-under bound place after front was behind place_is s in
      Splits-high bound place after front was is behind place_is (All-left (λ x. key x < bound) is out (All-permutation (λ x. key x < bound) was (is ++ out) left all)) s

  -- other rows join the part
  pub Splits-low_grown : (bound place : ℕ) (front was come is behind : List X) → place ≤ length front → IsPermutation (was ++ come) is → All (λ x. bound ≤ key x) come → Splits bound place (front ++ (was ++ behind)) → Splits bound place (front ++ (is ++ behind))
  Splits-low_grown bound place front was come is behind before grown over s =
      let Over : X → Type 0 = λ x. bound ≤ key x in
      Splits-low bound place front was is behind before (All-permutation Over (was ++ come) is grown (All-append Over was come (Splits-over bound place front was behind before s) over)) s

  pub Splits-high_grown : (bound place after : ℕ) (front was come is behind : List X) → place ≡ length front + length was + after → IsPermutation (was ++ come) is → All (λ x. key x < bound) come → Splits bound place (front ++ (was ++ behind)) → Splits bound (length front + length is + after) (front ++ (is ++ behind))
  Splits-high_grown bound place after front was come is behind place_is grown under s =
      let Under : X → Type 0 = λ x. key x < bound in
      Splits-high bound place after front was is behind place_is (All-permutation Under (was ++ come) is grown (All-append Under was come (Splits-under bound place after front was behind place_is s) under)) s
