-- A walk from mark to mark is one from place to place.
use Rattle.std.proofs.Common.{◌≡◌, ℕ, ◌<◌, ◌≤◌, Bool, List, [], ◌∷◌, ◌++◌, map, reverse, get_or, Some, None, refl, sym, subst, ◌∙◌, append_assoc, append-nil, arith}
use Rattle.std.specs.Prelude.{Option, IfSome, All, Contains}
use Rattle.std.proofs.lemmas.Bool.{lt-ltb, le-ltb, lt-leb}
use Rattle.std.proofs.lemmas.List.{map-append, reverse-reverse}
use Rattle.std.proofs.lemmas.List.Elements.{All-nil, All-cons, All-head, All-tail}
use Rattle.crack_index.specs.declared.mark.Mark.{Mark}
use Rattle.crack_index.specs.declared.walk.Way.{Way}
use Rattle.crack_index.specs.Marks.{InOrder, Rising, next_mark, last_mark, first_after, last_before, raised, lowered}
use Rattle.crack_index.specs.Steps.{StepsUp, StepsDown, Goes, one_up, one_down}
use Rattle.crack_index.specs.Walks.{Climbs, Descends}
use Rattle.crack_index.proofs.MarkLaws.{Rising-raised, Rising-lowered, next_mark-is, last_mark-is, first_after-kept, last_before-kept}
use Rattle.crack_index.proofs.MarkLemmas.{map_same, raised_below, raised_apart, raised_at, lowered_above, lowered_apart, lowered_same}
use Rattle.crack_index.proofs.Sides.{Rising-before, Rising-behind, last_mark-right, last_before-right}
use Rattle.crack_index.proofs.WalkLemmas.{Goes-over, up-over, down-over, reverse-more, All-unreverse}

-- Up

next_mark-past : (number : ℕ) (low rest : List Mark) → All (λ m. m.bound.0 ≤ number) low → next_mark number (low ++ rest) ≡ next_mark number rest
next_mark-past number [] rest all = refl
next_mark-past number (m ∷ ms) rest all = rw (le-ltb number m.bound.0 (All-head (λ x. x.bound.0 ≤ number) m ms all)) (next_mark-past number ms rest (All-tail (λ x. x.bound.0 ≤ number) m ms all))

first_after-past : (place : ℕ) (low rest : List Mark) → All (λ m. m.position ≤ place) low → first_after place (low ++ rest) ≡ first_after place rest
first_after-past place [] rest all = refl
first_after-past place (m ∷ ms) rest all = rw (le-ltb place m.position (All-head (λ x. x.position ≤ place) m ms all)) (first_after-past place ms rest (All-tail (λ x. x.position ≤ place) m ms all))

All-push : (P : Mark → Type 0) (xs : List Mark) (m : Mark) → All P xs → P m → All P (xs ++ m ∷ [])
All-push P [] m all one = All-cons P m [] one (All-nil P)
All-push P (x ∷ xs) m all one = All-cons P x (xs ++ m ∷ []) (All-head P x xs all) (All-push P xs m (All-tail P x xs all) one)

-- a bound at which a walk up moves, with those below it
up-new : (new : List Mark) (m : Mark) (ns : List Mark) → Rising (new ++ m ∷ ns) → new ++ one_up m ∷ [] ≡ map (raised m.bound.0 m.position) (new ++ m ∷ [])
up-new new m ns rising =
    let f = raised m.bound.0 m.position in
    rw (map-append f new (m ∷ []), map_same f new (λ k d h. raised_below m.bound.0 m.position (get_or new k d) (Rising-before new m ns rising k d h).bounds), raised_at m.bound.0 m.position m (omega arith) refl) refl

up-upto : (new : List Mark) (m : Mark) (ns : List Mark) → Rising (new ++ m ∷ ns) → All (λ x. x.position ≤ m.position) (new ++ m ∷ [])
up-upto new m ns rising = All-push (λ x. x.position ≤ m.position) new m (λ k d h. (Rising-before new m ns rising k d h).positions) (omega arith)

-- the first bound after those that moved, and what they are then
up-found : (at : Mark) (old : List Mark) (m : Mark) (ns : List Mark) → All (λ n. n.position ≤ at.position) old → at.position < m.position → first_after at.position (old ++ m ∷ ns) ≡ Some m
up-found at old m ns upto past = first_after-past at.position old (m ∷ ns) upto ∙ (rw (lt-ltb at.position m.position past) refl)

up-moved : (at : Mark) (old new : List Mark) (m : Mark) (ns : List Mark) → Rising (old ++ m ∷ ns) → new ≡ map (raised at.bound.0 at.position) old → at.position < m.position → map (raised at.bound.0 at.position) (old ++ m ∷ ns) ≡ new ++ m ∷ ns
up-moved at old new m ns rising is past =
    let f = raised at.bound.0 at.position in
    let behind = Rising-behind old m ns rising in
    map-append f old (m ∷ ns) ∙ (rw (is, raised_apart at.bound.0 at.position m (omega arith), map_same f ns (λ k d h. raised_apart at.bound.0 at.position (get_or ns k d) (omega (arith, past, (behind k d h).positions)))) refl)

module _ {V : Type 0} (visits : V → ℕ → Bool → V → Type 0) (number : ℕ) where
  -- what is left once the walk ends
  up-rest : (m : Mark) (way : Way) (w : V) (ns ns' : List Mark) (c : Way) (z : V) → Goes (StepsUp visits number) ns (record way { ended = Some m }) w ns' c z → (ns' ≡ ns) × (c ≡ record way { ended = Some m }) × (z ≡ w)
  up-rest m way w ns ns' c z onward = Goes-over (StepsUp visits number) (record way { ended = Some m }) w (λ n n' b v step. up-over visits number n n' m (record way { ended = Some m }) b w v step refl) ns ns' (record way { ended = Some m }) c w z onward refl refl

  -- where bounds moved: the first of them, the marks that were passed, and the same marks afterwards
  up-level : (at : Mark) (old new rest rest' : List Mark) (a b : Way) (u v : V) → Rising (old ++ rest) → All (λ n. n.position ≤ at.position) old → All (InOrder at) rest → new ≡ map (raised at.bound.0 at.position) old
      → number < at.bound.0 → a.ended ≡ None → a.last ≡ at.position → Goes (StepsUp visits number) rest a u rest' b v
      → Climbs visits (first_after at.position (old ++ rest)) (map (raised at.bound.0 at.position) (old ++ rest)) u b.ended (new ++ rest') v
  up-level at old new rest rest' a b u v rising upto after is above going last (Goes.here way x) =
      rw (first_after-past at.position old [] upto, map-append (raised at.bound.0 at.position) old [], is, going) (Climbs.ends (map (raised at.bound.0 at.position) old ++ []) x)
  up-level at old new rest rest' a b u v rising upto after is above going last (Goes.more n n' ns ns' d e c x y z (StepsUp.apart m way o below) onward) = absurd (omega (arith, (All-head (InOrder at) m ns after).bounds))
  up-level at old new rest rest' a b u v rising upto after is above going last (Goes.more n n' ns ns' d e c x y z (StepsUp.over m f way o ended) onward) = absurd (let both : Some f ≡ None = sym ended ∙ going in cc)
  up-level at old new rest rest' a b u v rising upto after is above going last (Goes.more n n' ns ns' d e c x y z (StepsUp.along m way o higher opened here) onward) =
      let f = raised at.bound.0 at.position in
      let order = All-head (InOrder at) m ns after in
      let place : m.position ≡ at.position = here ∙ last in
      let moved : new ++ one_up m ∷ [] ≡ map f (old ++ m ∷ []) = rw (map-append f old (m ∷ []), is, raised_at at.bound.0 at.position m (omega (arith, order.bounds)) place) refl in
      let rest = up-level at (old ++ m ∷ []) (new ++ one_up m ∷ []) ns ns' way c o z (rw (← append_assoc old (m ∷ []) ns) at rising) (All-push (λ x. x.position ≤ at.position) old m upto (omega (arith, place))) (All-tail (InOrder at) m ns after) moved above going last onward in
      rw (append_assoc old (m ∷ []) ns, append_assoc new (one_up m ∷ []) ns') at rest
  up-level at old new rest rest' a b u v rising upto after is above going last (Goes.more n n' ns ns' d e c x y z (StepsUp.goes_on m way o w higher opened apart told) onward) =
      let past : at.position < m.position = omega (arith, (All-head (InOrder at) m ns after).positions, apart, last) in
      let found = up-found at old m ns upto past in
      let moved = up-moved at old new m ns rising is past in
      let risen : Rising (new ++ m ∷ ns) = rw moved at (Rising-raised at.bound.0 at.position (old ++ m ∷ ns) rising) in
      let rest = up-level m (new ++ m ∷ []) (new ++ one_up m ∷ []) ns ns' (record way { last = m.position }) c w z (rw (← append_assoc new (m ∷ []) ns) at risen) (up-upto new m ns risen) (Rising-behind new m ns risen) (up-new new m ns risen) higher opened refl onward in
      rw (found, moved) (Climbs.goes_on m c.ended (new ++ m ∷ ns) (new ++ one_up m ∷ ns') o w z told (rw (append_assoc new (m ∷ []) ns, append_assoc new (one_up m ∷ []) ns') at rest))
  up-level at old new rest rest' a b u v rising upto after is above going last (Goes.more n n' ns ns' d e c x y z (StepsUp.stops m way o w higher opened apart told) onward) =
      let past : at.position < m.position = omega (arith, (All-head (InOrder at) m ns after).positions, apart, last) in
      let over = up-rest m way w ns ns' c z onward in
      rw (over.0, over.1, over.2, up-found at old m ns upto past, up-moved at old new m ns rising is past) (Climbs.stops m (new ++ m ∷ ns) o w told)

  -- from where it began: the marks at or below the number, and those that are left
  up-from : (low rest rest' : List Mark) (a b : Way) (u v : V) → All (λ n. n.bound.0 ≤ number) low → Rising (low ++ rest) → a.ended ≡ None → All (λ n. n.position < a.last) rest → Goes (StepsUp visits number) rest a u rest' b v
      → Climbs visits (next_mark number (low ++ rest)) (low ++ rest) u b.ended (low ++ rest') v
  up-from low rest rest' a b u v below rising going small (Goes.here way x) = rw (next_mark-past number low [] below, going) (Climbs.ends (low ++ []) x)
  up-from low rest rest' a b u v below rising going small (Goes.more n n' ns ns' d e c x y z (StepsUp.apart m way o lower) onward) =
      let rest = up-from (low ++ m ∷ []) ns ns' way c o z (All-push (λ x. x.bound.0 ≤ number) low m below lower) (rw (← append_assoc low (m ∷ []) ns) at rising) going (All-tail (λ x. x.position < way.last) m ns small) onward in
      rw (append_assoc low (m ∷ []) ns, append_assoc low (m ∷ []) ns') at rest
  up-from low rest rest' a b u v below rising going small (Goes.more n n' ns ns' d e c x y z (StepsUp.over m f way o ended) onward) = absurd (let both : Some f ≡ None = sym ended ∙ going in cc)
  up-from low rest rest' a b u v below rising going small (Goes.more n n' ns ns' d e c x y z (StepsUp.along m way o higher opened here) onward) = absurd (omega (arith, All-head (λ x. x.position < way.last) m ns small, here))
  up-from low rest rest' a b u v below rising going small (Goes.more n n' ns ns' d e c x y z (StepsUp.goes_on m way o w higher opened apart told) onward) =
      let found : next_mark number (low ++ m ∷ ns) ≡ Some m = next_mark-past number low (m ∷ ns) below ∙ (rw (lt-ltb number m.bound.0 higher) refl) in
      let rest = up-level m (low ++ m ∷ []) (low ++ one_up m ∷ []) ns ns' (record way { last = m.position }) c w z (rw (← append_assoc low (m ∷ []) ns) at rising) (up-upto low m ns rising) (Rising-behind low m ns rising) (up-new low m ns rising) higher opened refl onward in
      rw found (Climbs.goes_on m c.ended (low ++ m ∷ ns) (low ++ one_up m ∷ ns') o w z told (rw (append_assoc low (m ∷ []) ns, append_assoc low (one_up m ∷ []) ns') at rest))
  up-from low rest rest' a b u v below rising going small (Goes.more n n' ns ns' d e c x y z (StepsUp.stops m way o w higher opened apart told) onward) =
      let found : next_mark number (low ++ m ∷ ns) ≡ Some m = next_mark-past number low (m ∷ ns) below ∙ (rw (lt-ltb number m.bound.0 higher) refl) in
      let over = up-rest m way w ns ns' c z onward in
      rw (over.0, over.1, over.2, found) (Climbs.stops m (low ++ m ∷ ns) o w told)

  pub climbs : (marks marks' : List Mark) (a b : Way) (u v : V) → Rising marks → a.ended ≡ None → All (λ m. m.position < a.last) marks → Goes (StepsUp visits number) marks a u marks' b v → Climbs visits (next_mark number marks) marks u b.ended marks' v
  climbs marks marks' a b u v rising going small goes = up-from [] marks marks' a b u v (All-nil (λ n. n.bound.0 ≤ number)) rising going small goes

-- Down

last_mark-past : (number : ℕ) (high : List Mark) → All (λ m. number < m.bound.0) high → last_mark number high ≡ None
last_mark-past number [] all = refl
last_mark-past number (m ∷ ms) all = rw (lt-leb m.bound.0 number (All-head (λ x. number < x.bound.0) m ms all)) refl

last_before-past : (place : ℕ) (high : List Mark) → All (λ m. place ≤ m.position) high → last_before place high ≡ None
last_before-past place [] all = refl
last_before-past place (m ∷ ms) all = rw (le-ltb m.position place (All-head (λ x. place ≤ x.position) m ms all)) refl

-- a bound at which a walk down moves, with those above it
down-new : (l : List Mark) (m : Mark) (new : List Mark) → Rising (l ++ m ∷ new) → one_down m ∷ new ≡ map (lowered m.bound.0 m.position) (m ∷ new)
down-new l m new rising = rw (map_same (lowered m.bound.0 m.position) new (λ k d h. lowered_above m.bound.0 m.position (get_or new k d) (Rising-behind l m new rising k d h).bounds), lowered_same m.bound.0 m.position m (omega arith) refl) refl

down-from_on : (l : List Mark) (m : Mark) (new : List Mark) → Rising (l ++ m ∷ new) → All (λ x. m.position ≤ x.position) (m ∷ new)
down-from_on l m new rising = All-cons (λ x. m.position ≤ x.position) m new (omega arith) (λ k d h. (Rising-behind l m new rising k d h).positions)

down-below : (ns : List Mark) (m : Mark) (new : List Mark) → Rising (reverse ns ++ m ∷ new) → All (λ n. InOrder n m) ns
down-below ns m new rising = All-unreverse (λ n. InOrder n m) ns (Rising-before (reverse ns) m new rising)

-- the last bound before those that moved, and what they are then
down-found : (at : Mark) (l : List Mark) (m : Mark) (old : List Mark) → Rising (l ++ m ∷ old) → All (λ n. at.position ≤ n.position) old → m.position < at.position → last_before at.position (l ++ m ∷ old) ≡ Some m
down-found at l m old rising from past = last_before-right at.position l m old rising past ∙ (rw (last_before-past at.position old from) refl)

down-moved : (at : Mark) (l : List Mark) (m : Mark) (old new : List Mark) → Rising (l ++ m ∷ old) → new ≡ map (lowered at.bound.0 at.position) old → m.position < at.position → map (lowered at.bound.0 at.position) (l ++ m ∷ old) ≡ l ++ m ∷ new
down-moved at l m old new rising is past =
    let f = lowered at.bound.0 at.position in
    let before = Rising-before l m old rising in
    map-append f l (m ∷ old) ∙ (rw (is, lowered_apart at.bound.0 at.position m (omega arith), map_same f l (λ k d h. lowered_apart at.bound.0 at.position (get_or l k d) (omega (arith, past, (before k d h).positions)))) refl)

last-found : (number : ℕ) (l : List Mark) (m : Mark) (high : List Mark) → Rising (l ++ m ∷ high) → All (λ n. number < n.bound.0) high → m.bound.0 ≤ number → last_mark number (l ++ m ∷ high) ≡ Some m
last-found number l m high rising above below = last_mark-right number l m high rising below ∙ (rw (last_mark-past number high above) refl)

module _ {V : Type 0} (visits : V → ℕ → Bool → V → Type 0) (number : ℕ) where
  down-rest : (m : Mark) (way : Way) (w : V) (ns ns' : List Mark) (c : Way) (z : V) → Goes (StepsDown visits number) ns (record way { ended = Some m }) w ns' c z → (ns' ≡ ns) × (c ≡ record way { ended = Some m }) × (z ≡ w)
  down-rest m way w ns ns' c z onward = Goes-over (StepsDown visits number) (record way { ended = Some m }) w (λ n n' b v step. down-over visits number n n' m (record way { ended = Some m }) b w v step refl) ns ns' (record way { ended = Some m }) c w z onward refl refl

  -- the same lists, with the marks that are left in rising order
  down-turned : (m m' : Mark) (ns ns' old new : List Mark) (o : List Mark → Option Mark) (f : List Mark → List Mark) (u v : V) (last : Option Mark)
      → Descends visits (o (reverse ns ++ m ∷ old)) (f (reverse ns ++ m ∷ old)) u last (reverse ns' ++ m' ∷ new) v
      → Descends visits (o (reverse (m ∷ ns) ++ old)) (f (reverse (m ∷ ns) ++ old)) u last (reverse (m' ∷ ns') ++ new) v
  down-turned m m' ns ns' old new o f u v last walk =
      subst (λ (xs : List Mark). Descends visits (o (reverse (m ∷ ns) ++ old)) (f (reverse (m ∷ ns) ++ old)) u last xs v) (sym (reverse-more m' ns' new))
      (subst (λ (xs : List Mark). Descends visits (o xs) (f xs) u last (reverse ns' ++ m' ∷ new) v) (sym (reverse-more m ns old)) walk)

  down-rising : (m : Mark) (ns old : List Mark) → Rising (reverse (m ∷ ns) ++ old) → Rising (reverse ns ++ m ∷ old)
  down-rising m ns old rising = subst (λ (xs : List Mark). Rising xs) (reverse-more m ns old) rising

  down-level : (at : Mark) (old new rest rest' : List Mark) (a b : Way) (u v : V) → Rising (reverse rest ++ old) → All (λ n. at.position ≤ n.position) old → All (λ n. InOrder n at) rest → new ≡ map (lowered at.bound.0 at.position) old
      → at.bound.0 ≤ number → 0 < at.position → a.ended ≡ None → a.last ≡ at.position → Goes (StepsDown visits number) rest a u rest' b v
      → Descends visits (last_before at.position (reverse rest ++ old)) (map (lowered at.bound.0 at.position) (reverse rest ++ old)) u b.ended (reverse rest' ++ new) v
  down-level at old new rest rest' a b u v rising from after is below some going last (Goes.here way x) =
      rw (last_before-past at.position old from, is, going) (Descends.ends (map (lowered at.bound.0 at.position) old) x)
  down-level at old new rest rest' a b u v rising from after is below some going last (Goes.more n n' ns ns' d e c x y z (StepsDown.apart m way o higher) onward) = absurd (omega (arith, (All-head (λ n. InOrder n at) m ns after).bounds))
  down-level at old new rest rest' a b u v rising from after is below some going last (Goes.more n n' ns ns' d e c x y z (StepsDown.over m f way o ended) onward) = absurd (let both : Some f ≡ None = sym ended ∙ going in cc)
  down-level at old new rest rest' a b u v rising from after is below some going last (Goes.more n n' ns ns' d e c x y z (StepsDown.front m way o lower opened zero) onward) =
      let turned = down-rising m ns old rising in
      let past : m.position < at.position = omega arith in
      let over = down-rest m way o ns ns' c z onward in
      down-turned m m ns ns' old new (last_before at.position) (map (lowered at.bound.0 at.position)) o z c.ended
      (rw (over.0, over.1, over.2, down-found at (reverse ns) m old turned from past, down-moved at (reverse ns) m old new turned is past) (Descends.front m (reverse ns ++ m ∷ new) o zero))
  down-level at old new rest rest' a b u v rising from after is below some going last (Goes.more n n' ns ns' d e c x y z (StepsDown.along m way o lower opened one here) onward) =
      let order = All-head (λ n. InOrder n at) m ns after in
      let place : m.position ≡ at.position = here ∙ last in
      let moved : one_down m ∷ new ≡ map (lowered at.bound.0 at.position) (m ∷ old) = rw (is, lowered_same at.bound.0 at.position m (omega (arith, order.bounds)) place) refl in
      down-turned m (one_down m) ns ns' old new (last_before at.position) (map (lowered at.bound.0 at.position)) o z c.ended
      (down-level at (m ∷ old) (one_down m ∷ new) ns ns' way c o z (down-rising m ns old rising) (All-cons (λ n. at.position ≤ n.position) m old (omega (arith, place)) from) (All-tail (λ n. InOrder n at) m ns after) moved below some going last onward)
  down-level at old new rest rest' a b u v rising from after is below some going last (Goes.more n n' ns ns' d e c x y z (StepsDown.goes_on m way o w lower opened one apart told) onward) =
      let turned = down-rising m ns old rising in
      let past : m.position < at.position = omega (arith, (All-head (λ n. InOrder n at) m ns after).positions, apart, last) in
      let moved = down-moved at (reverse ns) m old new turned is past in
      let fallen : Rising (reverse ns ++ m ∷ new) = rw moved at (Rising-lowered at.bound.0 at.position (reverse ns ++ m ∷ old) turned) in
      let rest = down-level m (m ∷ new) (one_down m ∷ new) ns ns' (record way { last = m.position }) c w z fallen (down-from_on (reverse ns) m new fallen) (down-below ns m new fallen) (down-new (reverse ns) m new fallen) lower one opened refl onward in
      down-turned m (one_down m) ns ns' old new (last_before at.position) (map (lowered at.bound.0 at.position)) o z c.ended
      (rw (down-found at (reverse ns) m old turned from past, moved) (Descends.goes_on m c.ended (reverse ns ++ m ∷ new) (reverse ns' ++ one_down m ∷ new) o w z one told rest))
  down-level at old new rest rest' a b u v rising from after is below some going last (Goes.more n n' ns ns' d e c x y z (StepsDown.stops m way o w lower opened one apart told) onward) =
      let turned = down-rising m ns old rising in
      let past : m.position < at.position = omega (arith, (All-head (λ n. InOrder n at) m ns after).positions, apart, last) in
      let over = down-rest m way w ns ns' c z onward in
      down-turned m m ns ns' old new (last_before at.position) (map (lowered at.bound.0 at.position)) o z c.ended
      (rw (over.0, over.1, over.2, down-found at (reverse ns) m old turned from past, down-moved at (reverse ns) m old new turned is past) (Descends.stops m (reverse ns ++ m ∷ new) o w one told))

  down-from : (high rest rest' : List Mark) (a b : Way) (u v : V) → All (λ n. number < n.bound.0) high → Rising (reverse rest ++ high) → a.ended ≡ None → a.last ≡ 0 → Goes (StepsDown visits number) rest a u rest' b v
      → Descends visits (last_mark number (reverse rest ++ high)) (reverse rest ++ high) u b.ended (reverse rest' ++ high) v
  down-from high rest rest' a b u v above rising going last (Goes.here way x) = rw (last_mark-past number high above, going) (Descends.ends high x)
  down-from high rest rest' a b u v above rising going last (Goes.more n n' ns ns' d e c x y z (StepsDown.apart m way o higher) onward) =
      down-turned m m ns ns' high high (last_mark number) (λ xs. xs) o z c.ended
      (down-from (m ∷ high) ns ns' way c o z (All-cons (λ n. number < n.bound.0) m high higher above) (down-rising m ns high rising) going last onward)
  down-from high rest rest' a b u v above rising going last (Goes.more n n' ns ns' d e c x y z (StepsDown.over m f way o ended) onward) = absurd (let both : Some f ≡ None = sym ended ∙ going in cc)
  down-from high rest rest' a b u v above rising going last (Goes.more n n' ns ns' d e c x y z (StepsDown.front m way o lower opened zero) onward) =
      let turned = down-rising m ns high rising in
      let over = down-rest m way o ns ns' c z onward in
      down-turned m m ns ns' high high (last_mark number) (λ xs. xs) o z c.ended
      (rw (over.0, over.1, over.2, last-found number (reverse ns) m high turned above lower) (Descends.front m (reverse ns ++ m ∷ high) o zero))
  down-from high rest rest' a b u v above rising going last (Goes.more n n' ns ns' d e c x y z (StepsDown.along m way o lower opened one here) onward) = absurd (omega (arith, one, here, last))
  down-from high rest rest' a b u v above rising going last (Goes.more n n' ns ns' d e c x y z (StepsDown.goes_on m way o w lower opened one apart told) onward) =
      let turned = down-rising m ns high rising in
      let rest = down-level m (m ∷ high) (one_down m ∷ high) ns ns' (record way { last = m.position }) c w z turned (down-from_on (reverse ns) m high turned) (down-below ns m high turned) (down-new (reverse ns) m high turned) lower one opened refl onward in
      down-turned m (one_down m) ns ns' high high (last_mark number) (λ xs. xs) o z c.ended
      (rw (last-found number (reverse ns) m high turned above lower) (Descends.goes_on m c.ended (reverse ns ++ m ∷ high) (reverse ns' ++ one_down m ∷ high) o w z one told rest))
  down-from high rest rest' a b u v above rising going last (Goes.more n n' ns ns' d e c x y z (StepsDown.stops m way o w lower opened one apart told) onward) =
      let turned = down-rising m ns high rising in
      let over = down-rest m way w ns ns' c z onward in
      down-turned m m ns ns' high high (last_mark number) (λ xs. xs) o z c.ended
      (rw (over.0, over.1, over.2, last-found number (reverse ns) m high turned above lower) (Descends.stops m (reverse ns ++ m ∷ high) o w one told))

  pub descends : (marks marks' : List Mark) (a b : Way) (u v : V) → Rising marks → a.ended ≡ None → a.last ≡ 0 → Goes (StepsDown visits number) (reverse marks) a u (reverse marks') b v → Descends visits (last_mark number marks) marks u b.ended marks' v
  descends marks marks' a b u v rising going last goes =
      let old : reverse (reverse marks) ++ [] ≡ marks = append-nil (reverse (reverse marks)) ∙ reverse-reverse marks in
      let new : reverse (reverse marks') ++ [] ≡ marks' = append-nil (reverse (reverse marks')) ∙ reverse-reverse marks' in
      let walk = down-from [] (reverse marks) (reverse marks') a b u v (All-nil (λ n. number < n.bound.0)) (subst (λ (xs : List Mark). Rising xs) (sym old) rising) going last goes in
      subst (λ (xs : List Mark). Descends visits (last_mark number marks) marks u b.ended xs v) new (subst (λ (xs : List Mark). Descends visits (last_mark number xs) xs u b.ended (reverse (reverse marks') ++ []) v) old walk)

-- Where it ended

climbs-there : {V : Type 0} (visits : V → ℕ → Bool → V → Type 0) (o : Option Mark) (marks : List Mark) (v : V) (last : Option Mark) (marks' : List Mark) (w : V) → Climbs visits o marks v last marks' w → ((m : Mark) → o ≡ Some m → Contains marks m) → (m : Mark) → last ≡ Some m → Contains marks' m
climbs-there visits o marks v last marks' w (Climbs.ends ms x) there m is = absurd (cc)
climbs-there visits o marks v last marks' w (Climbs.stops n ms x y told) there m is = there m is
climbs-there visits o marks v last marks' w (Climbs.goes_on n l ms ms' x y z told rest) there m is =
    climbs-there visits (first_after n.position ms) (map (raised n.bound.0 n.position) ms) y l ms' z rest (λ k e. first_after-kept n.bound.0 n.position ms k e) m is

descends-there : {V : Type 0} (visits : V → ℕ → Bool → V → Type 0) (o : Option Mark) (marks : List Mark) (v : V) (last : Option Mark) (marks' : List Mark) (w : V) → Descends visits o marks v last marks' w → ((m : Mark) → o ≡ Some m → Contains marks m) → (m : Mark) → last ≡ Some m → Contains marks' m
descends-there visits o marks v last marks' w (Descends.ends ms x) there m is = absurd (cc)
descends-there visits o marks v last marks' w (Descends.front n ms x zero) there m is = there m is
descends-there visits o marks v last marks' w (Descends.stops n ms x y some told) there m is = there m is
descends-there visits o marks v last marks' w (Descends.goes_on n l ms ms' x y z some told rest) there m is =
    descends-there visits (last_before n.position ms) (map (lowered n.bound.0 n.position) ms) y l ms' z rest (λ k e. last_before-kept n.bound.0 n.position ms k e) m is

of_option : (P : Mark → Type 0) (o : Option Mark) → ((m : Mark) → o ≡ Some m → P m) → IfSome o P
of_option P None holds = tt
of_option P (Some m) holds = holds m refl

pub climbed_there : {V : Type 0} (visits : V → ℕ → Bool → V → Type 0) (number : ℕ) (marks : List Mark) (v : V) (last : Option Mark) (marks' : List Mark) (w : V) → Rising marks → Climbs visits (next_mark number marks) marks v last marks' w → IfSome last (λ m. Contains marks' m)
climbed_there visits number marks v last marks' w rising walk = of_option (λ m. Contains marks' m) last (climbs-there visits (next_mark number marks) marks v last marks' w walk (λ m e. (next_mark-is number marks m rising e).listed))

pub descended_there : {V : Type 0} (visits : V → ℕ → Bool → V → Type 0) (number : ℕ) (marks : List Mark) (v : V) (last : Option Mark) (marks' : List Mark) (w : V) → Rising marks → Descends visits (last_mark number marks) marks v last marks' w → IfSome last (λ m. Contains marks' m)
descended_there visits number marks v last marks' w rising walk = of_option (λ m. Contains marks' m) last (descends-there visits (last_mark number marks) marks v last marks' w walk (λ m e. (last_mark-is number marks m rising e).listed))
