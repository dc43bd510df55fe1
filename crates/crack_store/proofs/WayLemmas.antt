-- A store with a cell in hand, after a walk over the bounds.
use Rattle.std.proofs.Common.{◌≡◌, ℕ, ◌-◌, ◌<◌, ◌≤◌, ◌∷◌, [], List, map, length, Option, Some, None, refl, sym, ap, subst, ◌∙◌, inl, inr, arith}
use Rattle.std.proofs.lemmas.Bool.{cases_lt}
use Rattle.crack_row.specs.declared.Bound.{Bound}
use Rattle.crack_arena.specs.Memories.{Memory, Agrees}
use Rattle.crack_column.specs.Column.{first_aside}
use Rattle.crack_index.specs.declared.mark.Mark.{Mark}
use Rattle.crack_index.specs.Marks.{Index, next_mark, last_mark, first_after, last_before, raised, lowered, start_of}
use Rattle.crack_index.specs.Walks.{Climbs, Descends}
use Rattle.crack_state.specs.State.{Carried, IsIntact}
use Rattle.crack_state.specs.Steps.{hand_key, piece_start, piece_end, IsDoomed, pushed_on, pulled_back, bounds_above, ceiling_of, IsBelow, PushesOn, PullsBack}
use Rattle.crack_state.proofs.PieceLaws.{piece_start-le}
use Rattle.crack_state.proofs.StepLaws.{IsIntact-pushed_on, bounds_above-pushed_on}
use Rattle.crack_store.specs.declared.inside.Inside.{Inside}
use Rattle.crack_store.specs.declared.ascent.Ascent.{Ascent}
use Rattle.crack_store.specs.declared.ascent.Descent.{Descent}
use Rattle.crack_store.specs.declared.carrying.Near.TheVariants.{Unsought, Above}
use Rattle.crack_store.specs.Inside.{lists_of}
use Rattle.crack_store.specs.Hand.{hand_of, carried_of}
use Rattle.crack_store.specs.Keeps.{HasHand, KeepsHand}
use Rattle.crack_store.specs.Ways.{IsKnownBelow, TakesUp, Ascends, TakesDown, Draws}
use Rattle.crack_store.proofs.HandLemmas.{IsMade, exchanged_to}
use Rattle.crack_store.proofs.NextLemmas.{is_up, is_down}

-- a row that is known to be below the ceiling is below it
below_ceiling : (ceiling : Option Bound) (p : Inside) → IsKnownBelow ceiling (first_aside p.column).memory → Agrees p.arena.cells (hand_of p) (first_aside p.column).memory → IsBelow (ceiling_of ceiling) (hand_key (carried_of p))
below_ceiling None p known agrees = tt
below_ceiling (Some bound) p known agrees = elim agrees [
  | inl e ↦ absurd (known.0 e)
  | inr e ↦ let key = ap (λ (m : Memory). m.key) e in omega (arith, known.1, key)
]

-- the store in the middle of a walk up, with its column
abbrev climbing : Inside → Ascent → List Mark → Inside
climbing p v marks = record p { column = v.column; index = record p.index { marks = marks }; tally = record p.tally { moved = v.moved } }

-- the store after a walk up
pub record IsClimbed (p : Inside) (ceiling : Option Bound) (c : Carried) (last : Option Mark) (marks : List Mark) (w : Ascent) : Type 0 where
  pub has : HasHand (climbing p w marks)
  pub next : next_mark (hand_key (carried_of (climbing p w marks))) marks ≡ last
  pub pushes : PushesOn (ceiling_of ceiling) c (carried_of (climbing p w marks))

-- a hand that takes a place on its way up is pushed on
pub record IsTaken (p : Inside) (ceiling : Option Bound) (m : Mark) (marks : List Mark) (v w : Ascent) : Type 0 where
  pub is : carried_of (climbing p w (map (raised m.bound.0 m.position) marks)) ≡ pushed_on (carried_of (climbing p v marks))
  pub has : HasHand (climbing p w (map (raised m.bound.0 m.position) marks))
  pub next : next_mark (hand_key (carried_of (climbing p w (map (raised m.bound.0 m.position) marks)))) (map (raised m.bound.0 m.position) marks) ≡ first_after m.position marks
  pub lasting : ¬ IsDoomed (carried_of (climbing p v marks))
  pub below : IsBelow (ceiling_of ceiling) (hand_key (carried_of (climbing p v marks)))
  pub room : piece_end (carried_of (climbing p v marks)).store (hand_key (carried_of (climbing p v marks))) < length v.column.handles

taken : (p : Inside) (m : Mark) (marks : List Mark) (v w : Ascent) → v.pending_out.now ≡ p.pending_out → HasHand (climbing p v marks) → next_mark (hand_key (carried_of (climbing p v marks))) marks ≡ Some m → TakesUp v m.position w → IsTaken p v.ceiling m marks v w
taken p m marks v w out has next takes =
    let q = climbing p v marks in
    let c : Carried = carried_of q in
    let room : piece_end c.store (hand_key c) < length c.store.column = rw next takes.within in
    let up = is_up c m next room has.kept.intact in
    let behind = first_after m.position marks in
    let near = Above behind in
    let made : IsMade (climbing p w (map (raised m.bound.0 m.position) marks)) near (pushed_on c) = exchanged_to q w.column (record p.index { marks = map (raised m.bound.0 m.position) marks }) p.notes (record p.tally { moved = w.moved }) m.position near (pushed_on c) has takes.column takes.within (rw takes.moved up.after) up.intact (sym up.next) in
    record {
      is = made.is;
      has = made.keeps.has;
      next = subst (λ (d : Carried). next_mark (hand_key d) d.store.marks ≡ behind) (sym made.is) up.next;
      lasting = λ doomed. absurd (let none = rw out at takes.lasting in omega (arith, doomed, none));
      below = below_ceiling v.ceiling q takes.below has.agrees;
      room = room;
    }

-- a walk up is this many pushes
pub climbed : (p : Inside) (ceiling : Option Bound) (o last : Option Mark) (marks marks' : List Mark) (v w : Ascent) → Climbs Ascends o marks v last marks' w → v.pending_out.now ≡ p.pending_out → v.ceiling ≡ ceiling → HasHand (climbing p v marks) → next_mark (hand_key (carried_of (climbing p v marks))) marks ≡ o → IsClimbed p ceiling (carried_of (climbing p v marks)) last marks' w
climbed p ceiling o last marks marks' v w (Climbs.ends ms x) out same has next = record { has = has; next = next; pushes = PushesOn.stays (carried_of (climbing p x ms)) }
climbed p ceiling o last marks marks' v w (Climbs.stops m ms x y is) out same has next = rw is (record { has = has; next = next; pushes = PushesOn.stays (carried_of (climbing p x ms)) })
climbed p ceiling o last marks marks' v w (Climbs.goes_on m l ms ms' x y z takes rest) out same has next =
    let c : Carried = carried_of (climbing p x ms) in
    let up = taken p m ms x y out has next takes in
    let on = climbed p ceiling (first_after m.position ms) l (map (raised m.bound.0 m.position) ms) ms' y z rest (rw takes.pending_out out) (takes.ceiling ∙ same) up.has up.next in
    record {
      has = on.has;
      next = on.next;
      pushes = PushesOn.pushes c (carried_of (climbing p z ms')) up.lasting (rw same at up.below) up.room (subst (λ (d : Carried). PushesOn (ceiling_of ceiling) d (carried_of (climbing p z ms'))) up.is on.pushes);
    }

-- the hand never moves away from the end of its way
pub bounds_above-pushes : (ceiling : Option ℕ) (c d : Carried) → PushesOn ceiling c d → IsIntact c.store (c.hand ∷ []) → bounds_above (hand_key d) d.store.marks ≤ bounds_above (hand_key c) c.store.marks
bounds_above-pushes ceiling c d (PushesOn.stays e) intact = omega arith
bounds_above-pushes ceiling c d (PushesOn.pushes e f lasting below room rest) intact =
    omega (arith, bounds_above-pushes ceiling (pushed_on e) f rest (IsIntact-pushed_on e room intact), bounds_above-pushed_on e room intact)

-- pushes, and then more of them
pub pushes_then : (ceiling : Option ℕ) (c d e : Carried) → PushesOn ceiling c d → PushesOn ceiling d e → PushesOn ceiling c e
pushes_then ceiling c d e (PushesOn.stays f) rest = rest
pushes_then ceiling c d e (PushesOn.pushes f g lasting below room first) rest = PushesOn.pushes f e lasting below room (pushes_then ceiling (pushed_on f) g e first rest)

index_is : (i j : Index) → j.room ≡ i.room → j ≡ record i { marks = j.marks }
index_is i j e =
    let built : ℕ → Index = λ room. record { marks = j.marks; room = room } in
    ap built e

-- the store after the whole walk up
pub record IsAscended (p : Inside) (ceiling : Option Bound) (q : Inside) (last : Option Mark) : Type 0 where
  pub pushes : PushesOn (ceiling_of ceiling) (carried_of p) (carried_of q)
  pub kept : KeepsHand q (Above last)

pub ascended : (p : Inside) (v w : Ascent) (index : Index) (last : Option Mark) (key : ℕ) → HasHand p → v.column ≡ p.column → v.moved ≡ p.tally.moved → v.pending_out.now ≡ p.pending_out → key ≡ hand_key (carried_of p)
    → Climbs Ascends (next_mark key p.index.marks) p.index.marks v last index.marks w → index.room ≡ p.index.room
    → IsAscended p v.ceiling (record p { column = w.column; index = index; tally = record p.tally { moved = w.moved } }) last
ascended p v w index last key has column moved out is_key climbs room =
    let start : climbing p v p.index.marks ≡ p = rw (column, moved) refl in
    let next : next_mark (hand_key (carried_of (climbing p v p.index.marks))) p.index.marks ≡ next_mark key p.index.marks = subst (λ (q : Inside). next_mark (hand_key (carried_of q)) p.index.marks ≡ next_mark key p.index.marks) (sym start) (rw is_key refl) in
    let on = climbed p v.ceiling (next_mark key p.index.marks) last p.index.marks index.marks v w climbs out refl (subst (λ (q : Inside). HasHand q) (sym start) has) next in
    rw (index_is p.index index room) (record {
      pushes = subst (λ (q : Inside). PushesOn (ceiling_of v.ceiling) (carried_of q) (carried_of (climbing p w index.marks))) start on.pushes;
      kept = record { has = on.has; is_near = sym on.next };
    })

-- the store in the middle of a walk down, with its column and its notes
abbrev descending : Inside → Descent → List Mark → Inside
descending p v marks = record p { column = v.column; index = record p.index { marks = marks }; notes = v.notes; tally = record p.tally { pulled = v.pulled } }

-- the store after a walk down
pub record IsDescended (p : Inside) (place : ℕ) (c : Carried) (last : Option Mark) (marks : List Mark) (w : Descent) : Type 0 where
  pub has : HasHand (descending p w marks)
  pub next : last_mark (hand_key (carried_of (descending p w marks))) marks ≡ last
  pub pulls : PullsBack place c (carried_of (descending p w marks))
  pub ends : start_of last ≤ place

-- a hand that takes a place on its way down is pulled back
pub record IsDrawn (p : Inside) (place : ℕ) (m : Mark) (marks : List Mark) (v w : Descent) : Type 0 where
  pub is : carried_of (descending p w (map (lowered m.bound.0 m.position) marks)) ≡ pulled_back (carried_of (descending p v marks))
  pub has : HasHand (descending p w (map (lowered m.bound.0 m.position) marks))
  pub next : last_mark (hand_key (carried_of (descending p w (map (lowered m.bound.0 m.position) marks)))) (map (lowered m.bound.0 m.position) marks) ≡ last_before m.position marks
  pub before : place < piece_start (carried_of (descending p v marks)).store (hand_key (carried_of (descending p v marks)))

drawn : (p : Inside) (m : Mark) (marks : List Mark) (v w : Descent) → HasHand (descending p v marks) → last_mark (hand_key (carried_of (descending p v marks))) marks ≡ Some m → 0 < m.position → TakesDown v (m.position - 1) w → IsDrawn p v.place m marks v w
drawn p m marks v w has next above takes =
    let q = descending p v marks in
    let c : Carried = carried_of q in
    let some : 0 < piece_start c.store (hand_key c) = rw next above in
    let down = is_down c m next some has.kept.intact in
    let before = last_before m.position marks in
    let near = Unsought in
    let made : IsMade (descending p w (map (lowered m.bound.0 m.position) marks)) near (pulled_back c) = exchanged_to q w.column (record p.index { marks = map (lowered m.bound.0 m.position) marks }) w.notes (record p.tally { pulled = w.pulled }) (m.position - 1) near (pulled_back c) has takes.column takes.within (rw takes.pulled down.after) down.intact tt in
    record {
      is = made.is;
      has = made.keeps.has;
      next = subst (λ (d : Carried). last_mark (hand_key d) d.store.marks ≡ before) (sym made.is) down.next;
      before = rw next (omega (arith, above, takes.ahead));
    }

-- a place before that of the mark where the way ends is before the place to which it goes
rests : (q : Inside) (m : Mark) (marks : List Mark) (place : ℕ) → HasHand q → last_mark (hand_key (carried_of q)) q.index.marks ≡ Some m → 0 < m.position → (place ≤ m.position - 1 → length q.column.handles ≤ m.position - 1) → m.position ≤ place
rests q m marks place has next above ends = elim (cases_lt (m.position - 1) place) [
  | inl l ↦ omega (arith, l, above)
  | inr l ↦
      let c : Carried = carried_of q in
      let start : piece_start c.store (hand_key c) ≡ m.position = rw next refl in
      let past = ends l in
      absurd (omega (arith, past, above, start, piece_start-le c.store (hand_key c) has.kept.intact.rising has.kept.intact.obeyed))
]

-- a walk down is this many pulls
pub descended : (p : Inside) (place : ℕ) (o last : Option Mark) (marks marks' : List Mark) (v w : Descent) → Descends Draws o marks v last marks' w → v.place ≡ place → HasHand (descending p v marks) → last_mark (hand_key (carried_of (descending p v marks))) marks ≡ o → IsDescended p place (carried_of (descending p v marks)) last marks' w
descended p place o last marks marks' v w (Descends.ends ms x) same has next = record { has = has; next = next; pulls = PullsBack.stays (carried_of (descending p x ms)); ends = omega arith }
descended p place o last marks marks' v w (Descends.front m ms x front) same has next = record { has = has; next = next; pulls = PullsBack.stays (carried_of (descending p x ms)); ends = omega (arith, front) }
descended p place o last marks marks' v w (Descends.stops m ms x y above is) same has next = rw is.0 (record { has = has; next = next; pulls = PullsBack.stays (carried_of (descending p x ms)); ends = rw same at (rests (descending p x ms) m ms x.place has next above is.1) })
descended p place o last marks marks' v w (Descends.goes_on m l ms ms' x y z above takes rest) same has next =
    let c : Carried = carried_of (descending p x ms) in
    let down = drawn p m ms x y has next above takes in
    let on = descended p place (last_before m.position ms) l (map (lowered m.bound.0 m.position) ms) ms' y z rest (takes.goal ∙ same) down.has down.next in
    record {
      has = on.has;
      next = on.next;
      pulls = PullsBack.pulls c (carried_of (descending p z ms')) (rw same at down.before) (subst (λ (d : Carried). PullsBack place d (carried_of (descending p z ms'))) down.is on.pulls);
      ends = on.ends;
    }

-- the store after the whole walk down
pub record IsLowest (p : Inside) (place : ℕ) (q : Inside) (last : Option Mark) : Type 0 where
  pub pulls : PullsBack place (carried_of p) (carried_of q)
  pub ends : piece_start (lists_of q) (hand_key (carried_of q)) ≤ place
  pub kept : HasHand q

pub lowest : (p : Inside) (v w : Descent) (index : Index) (last : Option Mark) (key : ℕ) → HasHand p → v.column ≡ p.column → v.notes ≡ p.notes → v.pulled ≡ p.tally.pulled → key ≡ hand_key (carried_of p)
    → Descends Draws (last_mark key p.index.marks) p.index.marks v last index.marks w → index.room ≡ p.index.room
    → IsLowest p v.place (record p { column = w.column; index = index; notes = w.notes; tally = record p.tally { pulled = w.pulled } }) last
lowest p v w index last key has column notes pulled is_key descends room =
    let start : descending p v p.index.marks ≡ p = rw (column, notes, pulled) refl in
    let next : last_mark (hand_key (carried_of (descending p v p.index.marks))) p.index.marks ≡ last_mark key p.index.marks = subst (λ (q : Inside). last_mark (hand_key (carried_of q)) p.index.marks ≡ last_mark key p.index.marks) (sym start) (rw is_key refl) in
    let on = descended p v.place (last_mark key p.index.marks) last p.index.marks index.marks v w descends refl (subst (λ (q : Inside). HasHand q) (sym start) has) next in
    rw (index_is p.index index room) (record {
      pulls = subst (λ (q : Inside). PullsBack v.place (carried_of q) (carried_of (descending p w index.marks))) start on.pulls;
      ends = rw on.next on.ends;
      kept = on.has;
    })
