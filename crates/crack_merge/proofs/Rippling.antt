-- The pieces of a range that lie ahead of a key, and what the pushes of one carry do under ripple.
use Rattle.std.proofs.Common.{◌≡◌, ℕ, ◌+◌, ◌<◌, ◌≤◌, List, [], ◌∷◌, cond, ltb, refl, inl, inr, arith, length, get_or, Option, Some, None, sym, ap, ◌∙◌}
use Rattle.std.specs.Prelude.{◌&&◌}
use Rattle.std.specs.List.{Contains, count_by, remove}
use Rattle.std.proofs.lemmas.Bool.{cases_lt, lt-ltb, le-ltb}
use Rattle.std.proofs.lemmas.Bool.Decides.{nat_tests}
use Rattle.std.proofs.lemmas.List.Sums.{sum_by-cons, sum_by-remove}
use Rattle.std.proofs.lemmas.List.{get_or_default}
use Rattle.crack_row.specs.Ranges.{Range}
use Rattle.crack_arena.specs.Arena.{Handle}
use Rattle.crack_arena.specs.Rows.{key_at}
use Rattle.crack_index.specs.declared.mark.Mark.{Mark}
use Rattle.crack_index.specs.Marks.{HasBound, next_mark, end_of, bounds_of}
use Rattle.crack_index.proofs.MarkLaws.{next_mark-is, HasBound-mark}
use Rattle.crack_state.specs.State.{Carried, IsIntact}
use Rattle.crack_state.specs.Steps.{hand_key, piece_end, pushed_on}
use Rattle.crack_state.specs.Merge.{edge}
use Rattle.crack_state.proofs.Counters.{raised_counter}
use Rattle.crack_state.proofs.FollowLaws.{Pushes, Pushes-refl, Pushes-pushed_on}
use Rattle.crack_state.proofs.StepLaws.{met_key}
use Rattle.crack_merge.proofs.EdgeLaws.{IsRangeOf, StaysOutside, StaysOutside-same, StaysOutside-trans, PushesInside-pushed_on, row_at_end}

-- how many bounds lie between two keys
abbrev pub bounds_between : ℕ → ℕ → List ℕ → ℕ
bounds_between low high bounds = count_by (λ bound. ltb low bound && ltb bound high) bounds

-- how many of the pieces up to an end a key has still to leave: none if it is after the end
abbrev pub pieces_ahead : ℕ → ℕ → List ℕ → ℕ
pieces_ahead key high bounds = cond (ltb key high) (bounds_between key high bounds + 1) 0

-- 1 for a bound between the keys
abbrev between_by : ℕ → ℕ → ℕ → ℕ
between_by low high bound = cond (ltb low bound && ltb bound high) 1 0

-- fewer bounds are ahead of a greater key
bounds_between-le : (key next high : ℕ) (bounds : List ℕ) → key ≤ next → bounds_between next high bounds ≤ bounds_between key high bounds
bounds_between-le key next high [] order = omega arith
bounds_between-le key next high (n ∷ ns) order =
    omega (arith, sum_by-cons (between_by next high) n ns, sum_by-cons (between_by key high) n ns, fewer n, bounds_between-le key next high ns order)
  where
    fewer : (bound : ℕ) → between_by next high bound ≤ between_by key high bound
    fewer bound = grind (arith, nat_tests)

-- a key that passes a bound leaves a piece
pub pieces_ahead-less : (key next high bound : ℕ) (bounds : List ℕ) → key < high → Contains bounds bound → key < bound → bound ≤ next → pieces_ahead next high bounds < pieces_ahead key high bounds
pieces_ahead-less key next high bound bounds inside listed above below = elim (cases_lt next high) [
  | inl l ↦
      let was : between_by key high bound ≡ 1 = rw (lt-ltb key bound above, lt-ltb bound high (omega arith)) refl in
      let now : between_by next high bound ≡ 0 = rw (le-ltb next bound below) refl in
      let before = rw (listed.2, was) at (sum_by-remove (between_by key high) bounds listed.0 bound listed.1) in
      let after = rw (listed.2, now) at (sum_by-remove (between_by next high) bounds listed.0 bound listed.1) in
      rw (lt-ltb next high l, lt-ltb key high inside) (omega (arith, before, after, bounds_between-le key next high (remove bounds listed.0) (omega arith)))
  | inr l ↦ rw (le-ltb next high l, lt-ltb key high inside) (omega arith)
]

-- a key at or above the low end has at most the range's pieces ahead
pub pieces_ahead-few : (low key high : ℕ) (bounds : List ℕ) → low ≤ key → pieces_ahead key high bounds ≤ bounds_between low high bounds + 1
pieces_ahead-few low key high bounds order = elim (cases_lt key high) [
  | inl l ↦ rw (lt-ltb key high l) (omega (arith, bounds_between-le low key high bounds order))
  | inr l ↦ rw (le-ltb key high l) (omega arith)
]

-- the hand is the row that was first after the range, whose end has moved up
pub record MetBehind (b c : Carried) (r : Range) : Type 0 where
  pub within : edge b.store r.high < length b.store.column
  pub up : edge b.store r.high < edge c.store r.high
  pub is : (d : Handle) → get_or b.store.column (edge b.store r.high) d ≡ c.hand

-- pushes from a hand of the range on: nothing outside it has changed, and each left a piece of the range
pub record Ripples (r : Range) (b c : Carried) : Type 0 where
  pub pushes : Pushes b c
  pub stays : StaysOutside b.store c.store r
  pub above : r.low ≤ hand_key c
  pub same : hand_key c < r.high → edge c.store r.high ≡ edge b.store r.high
  pub met : r.high ≤ hand_key c → MetBehind b c r
  pub moved : c.store.tally.moved + pieces_ahead (hand_key c) r.high (bounds_of b.store.marks) ≤ b.store.tally.moved + pieces_ahead (hand_key b) r.high (bounds_of b.store.marks)

pub Ripples-refl : (r : Range) (c : Carried) → r.low ≤ hand_key c → hand_key c < r.high → edge c.store r.high ≤ length c.store.column → Ripples r c c
Ripples-refl r c above below within = record {
  pushes = Pushes-refl c;
  stays = StaysOutside-same c.store c.store r refl within;
  above = above;
  same = λ _. refl;
  met = λ more. absurd (omega arith);
  moved = omega arith;
}

-- what a `push_on` passes: the bound at which the own piece of the hand ends is above its key, and not above that of the row it meets
record Passes (c : Carried) : Type 0 where
  next : Mark
  listed : HasBound c.store.marks next.bound.0
  above : hand_key c < next.bound.0
  below : next.bound.0 ≤ hand_key (pushed_on c)

passes : (c : Carried) → piece_end c.store (hand_key c) < length c.store.column → IsIntact c.store (c.hand ∷ []) → Passes c
passes c ends intact = by_next (next_mark (hand_key c) c.store.marks) refl ends
  where
    by_next : (next : Option Mark) → next_mark (hand_key c) c.store.marks ≡ next → end_of (length c.store.column) next < length c.store.column → Passes c
    by_next None found within = absurd (omega arith)
    by_next (Some m) found within =
        let s = c.store in
        let is_next = next_mark-is (hand_key c) s.marks m intact.rising found in
        let place : piece_end s (hand_key c) ≡ m.position = ap (end_of (length s.column)) found in
        let met = get_or s.column m.position c.hand in
        let hand : met ≡ (pushed_on c).hand = ap (λ n. get_or s.column n c.hand) (sym place) in
        let key : m.bound.0 ≤ key_at s.cells met = met_key s (hand_key c) m met intact.rising intact.obeyed found within (get_or_default s.column m.position c.hand met within) in
        record { next = m; listed = HasBound-mark s.marks m is_next.listed; above = is_next.above; below = rw hand at key }

pub Ripples-pushed_on : (r : Range) (b c : Carried) → IsRangeOf c.store r → IsIntact c.store (c.hand ∷ []) → hand_key c < r.high → piece_end c.store (hand_key c) < length c.store.column → Ripples r b c → Ripples r b (pushed_on c)
Ripples-pushed_on r b c of intact below ends was =
    let s = c.store in
    let pushed = PushesInside-pushed_on c r of intact was.above below ends in
    let past = passes c ends intact in
    let counter = raised_counter s.tally.moved in
    let same = was.same below in
    record {
      pushes = Pushes-pushed_on b c ends intact was.pushes;
      stays = StaysOutside-trans b.store s (pushed_on c).store r was.stays pushed.stays;
      above = omega (arith, was.above, past.above, past.below);
      same = λ less. pushed.same less ∙ same;
      met = λ more.
          let at = pushed.met more in
          record {
            within = omega (arith, at.0, ends, same, was.pushes.long);
            up = omega (arith, at.1, same);
            is = λ d. ap (λ n. get_or b.store.column n d) (sym same) ∙ sym (row_at_end b.store s r d was.stays) ∙ get_or_default s.column (edge s r.high) d c.hand (omega (arith, at.0, ends)) ∙ ap (λ n. get_or s.column n c.hand) (sym at.0);
          };
      moved = omega (arith, was.moved, counter.most, pieces_ahead-less (hand_key c) (hand_key (pushed_on c)) r.high past.next.bound.0 (bounds_of b.store.marks) below (rw was.pushes.bounds at past.listed) past.above past.below);
    }
