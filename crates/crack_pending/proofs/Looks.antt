-- Laws of the candidates that a pass over codes finds ahead, and how each step preserves them.
use Rattle.std.proofs.Common.{◌≡◌, ℕ, ◌+◌, ◌-◌, ◌<◌, ◌≤◌, List, [], ◌∷◌, ◌++◌, length, get_or, set, take, drop, refl, sym, ap, ◌∙◌, inl, inr, arith, length-set, length-append}
use Rattle.std.proofs.lemmas.Bool.{cases_eq, cases_lt}
use Rattle.std.proofs.lemmas.List.{get_or-set_same, get_or-set_other, get_or_append_left, get_or_push, get_or-take, get_or-drop}
use Rattle.crack_pending.specs.Ahead.{AreCandidates, IsNext}
use Rattle.crack_pending.specs.Inside.{Lies}

-- nothing was found yet
pub ahead_none : (codes : List ℕ) (first last from : ℕ) → first ≤ last → last < 65535 → from ≤ length codes → AreCandidates codes first last from from [] 0
ahead_none codes first last from order low within = record {
  order = order;
  low = low;
  span = omega arith;
  within = within;
  found = λ spot after before. absurd (omega (arith, after, before));
  inside = λ k after short. absurd (omega (arith, short));
  rising = λ j k before short. absurd (omega (arith, short));
}

module _ (codes : List ℕ) (first last from to : ℕ) (candidates : List ℕ) (next : ℕ) (are : AreCandidates codes first last from to candidates next) where
  -- candidates that were passed
  pub ahead_passed : (start place : ℕ) → from ≤ start → start ≤ to → next ≤ place → ((k : ℕ) → next ≤ k → k < place → get_or candidates k 0 < start) → (place < length candidates → start ≤ get_or candidates place 0) → AreCandidates codes first last start to candidates place
  ahead_passed start place after before onward passed reached = record {
    order = are.order;
    low = are.low;
    span = before;
    within = are.within;
    found = λ spot behind ahead lies.
        let one = are.found spot (omega (arith, behind, after)) ahead lies in
        record {
          place = one.place;
          from = elim (cases_lt one.place place) [
            | inl l ↦ absurd (omega (arith, passed one.place one.from l, one.is, behind))
            | inr m ↦ m
          ];
          within = one.within;
          is = one.is;
        };
    inside = λ k behind short. elim (cases_eq k place) [
      | inl e ↦ (rw e (reached (rw e at short)), (are.inside k (omega (arith, behind, onward)) short).1)
      | inr ne ↦
          let l : place < k = omega (arith, behind, ne) in
          let here = reached (omega (arith, l, short)) in
          (omega (arith, here, are.rising place k l short), (are.inside k (omega (arith, behind, onward)) short).1)
    ];
    rising = are.rising;
  }

  -- a row goes
  pub ahead_hole : (spot : ℕ) → AreCandidates (set codes spot 65535) first last from to candidates next
  ahead_hole spot = record {
    order = are.order;
    low = are.low;
    span = are.span;
    within = omega (arith, are.within, length-set codes spot 65535);
    found = λ other behind ahead lies. are.found other behind ahead (elim (cases_eq other spot) [
      | inl e ↦
          let gone : get_or (set codes spot 65535) other 0 ≡ 65535 = rw e (get_or-set_same codes spot 65535 0 (omega (arith, e, ahead, are.within))) in
          absurd (omega (arith, gone, lies.1, are.low))
      | inr ne ↦ rw (get_or-set_other codes spot other 65535 0 ne) at lies
    ]);
    inside = are.inside;
    rising = are.rising;
  }

  -- more codes after them
  pub ahead_longer : (codes' : List ℕ) → length codes ≤ length codes' → take (length codes) codes' ≡ codes → AreCandidates codes' first last from to candidates next
  ahead_longer codes' longer same =
      let alike : (k : ℕ) → k < length codes → get_or codes' k 0 ≡ get_or codes k 0 = λ k l.
      sym (get_or-take (length codes) codes' k 0 l) ∙ ap (λ xs. get_or xs k 0) same in
      record {
        order = are.order;
        low = are.low;
        span = are.span;
        within = omega (arith, are.within, longer);
        found = λ spot behind ahead lies. are.found spot behind ahead (rw (alike spot (omega (arith, ahead, are.within))) at lies);
        inside = are.inside;
        rising = are.rising;
      }

  -- if no candidate is left, none lies there
  pub ahead_end : length candidates ≤ next → (spot : ℕ) → from ≤ spot → spot < to → ¬ Lies first last (get_or codes spot 0)
  ahead_end none spot behind ahead lies =
      let one = are.found spot behind ahead lies in
      absurd (omega (arith, one.from, one.within, none))

  -- and then it goes on from there with none
  pub ahead_on : AreCandidates codes first last to to [] 0
  ahead_on = ahead_none codes first last to are.order are.low are.within

  -- the next candidate
  pub ahead_next : next < length candidates → IsNext codes first last from (get_or candidates next 0)
  ahead_next some =
      let inside = are.inside next (omega arith) some in
      record {
        after = inside.0;
        within = omega (arith, inside.1, are.within);
        passed = λ spot behind before lies.
            let one = are.found spot behind (omega (arith, before, inside.1)) lies in
            elim (cases_eq one.place next) [
              | inl e ↦ absurd (omega (arith, before, one.is, ap (λ k. get_or candidates k 0) e))
              | inr ne ↦
                  let l : next < one.place = omega (arith, one.from, ne) in
                  absurd (omega (arith, before, one.is, are.rising next one.place l one.within))
            ];
      }

  -- or none
  pub ahead_none_next : length candidates ≤ next → IsNext codes first last from to
  ahead_none_next none = record {
    after = are.span;
    within = are.within;
    passed = ahead_end none;
  }

-- a candidate from a spot on is one from an earlier spot on, if none lies between
pub next_from : (codes : List ℕ) (first last start from near : ℕ) → start ≤ from → ((spot : ℕ) → start ≤ spot → spot < from → ¬ Lies first last (get_or codes spot 0)) → IsNext codes first last from near → IsNext codes first last start near
next_from codes first last start from near order none next = record {
  after = omega (arith, order, next.after);
  within = next.within;
  passed = λ spot behind before. elim (cases_lt spot from) [
    | inl l ↦ none spot behind l
    | inr m ↦ next.passed spot m before
  ];
}

module _ (codes : List ℕ) (first last from to : ℕ) (candidates : List ℕ) (are : AreCandidates codes first last from to candidates 0) where
  -- one more candidate
  pub gathered_hit : to < length codes → AreCandidates codes first last from (to + 1) (candidates ++ to ∷ []) 0
  gathered_hit within =
      let long = length-append candidates (to ∷ []) in
      let last_is : get_or (candidates ++ to ∷ []) (length candidates) 0 ≡ to = get_or_push candidates to 0 (length candidates) refl in
      let same : (k : ℕ) → k < length candidates → get_or (candidates ++ to ∷ []) k 0 ≡ get_or candidates k 0 = λ k l. get_or_append_left candidates (to ∷ []) 0 k l in
      record {
        order = are.order;
        low = are.low;
        span = omega (arith, are.span);
        within = omega (arith, within);
        found = λ spot behind before lies. elim (cases_eq spot to) [
          | inl e ↦ record {
            place = length candidates;
            from = omega arith;
            within = omega (arith, long);
            is = last_is ∙ sym e;
          }
          | inr ne ↦
              let it = are.found spot behind (omega (arith, before, ne)) lies in
              record {
                place = it.place;
                from = it.from;
                within = omega (arith, it.within, long);
                is = same it.place it.within ∙ it.is;
              }
        ];
        inside = λ k behind short. elim (cases_eq k (length candidates)) [
          | inl e ↦ rw (e, last_is) (are.span, omega arith)
          | inr ne ↦
              let l : k < length candidates = omega (arith, short, long, ne) in
              let it = are.inside k behind l in
              rw (same k l) (it.0, omega (arith, it.1))
        ];
        rising = λ j k before short. elim (cases_eq k (length candidates)) [
          | inl e ↦
              let l : j < length candidates = omega (arith, before, e) in
              rw (e, last_is, same j l) (below j l)
          | inr ne ↦
              let l : k < length candidates = omega (arith, short, long, ne) in
              rw (same k l, same j (omega (arith, before, l))) (are.rising j k before l)
        ];
      }
    where
      below : (j : ℕ) → j < length candidates → get_or candidates j 0 < to
      below j l = (are.inside j (omega arith) l).1

  -- some more codes, none of which lies between the two
  pub gathered_more : (more : ℕ) → to + more ≤ length codes → ((spot : ℕ) → to ≤ spot → spot < to + more → ¬ Lies first last (get_or codes spot 0)) → AreCandidates codes first last from (to + more) candidates 0
  gathered_more more within none = record {
    order = are.order;
    low = are.low;
    span = omega (arith, are.span);
    within = within;
    found = λ spot behind before lies. elim (cases_lt spot to) [
      | inl l ↦ are.found spot behind l lies
      | inr m ↦ absurd (none spot m before lies)
    ];
    inside = λ k behind short. let it = are.inside k behind short in (it.0, omega (arith, it.1));
    rising = are.rising;
  }

  -- one more code
  pub gathered_miss : to < length codes → ¬ Lies first last (get_or codes to 0) → AreCandidates codes first last from (to + 1) candidates 0
  gathered_miss within apart = gathered_more 1 (omega (arith, within)) (λ spot behind before lies.
      let e : spot ≡ to = omega (arith, behind, before) in apart (rw e at lies))

  -- one more block
  pub gathered_block : to + 32 ≤ length codes → ((k : ℕ) → k < 32 → ¬ Lies first last (get_or (take (to + 32 - to) (drop to codes)) k 0)) → AreCandidates codes first last from (to + 32) candidates 0
  gathered_block within apart = gathered_more 32 within (λ spot behind before lies.
      let k = spot - to in
      let place : to + k ≡ spot = omega (arith, behind) in
      let same : get_or (take (to + 32 - to) (drop to codes)) k 0 ≡ get_or codes spot 0 =
      get_or-take (to + 32 - to) (drop to codes) k 0 (omega (arith, behind, before)) ∙ get_or-drop to codes k 0 ∙ ap (λ m. get_or codes m 0) place in
      apart k (omega (arith, behind, before)) (rw same lies))
