-- The bounds next to the key in hand, from step to step.
use Rattle.std.proofs.Common.{◌≡◌, ℕ, suc, ◌-◌, ◌<◌, ◌≤◌, List, [], ◌∷◌, length, get_or, ltb, Some, refl, sym, ap, ◌∙◌, inl, inr, arith}
use Rattle.std.specs.List.{All}
use Rattle.std.proofs.lemmas.Bool.{cases_lt, lt-ltb, le-ltb}
use Rattle.std.proofs.lemmas.List.{length-map, get_or-map, get_or_default}
use Rattle.crack_arena.specs.Arena.{Handle}
use Rattle.crack_arena.specs.Rows.{key_at}
use Rattle.crack_index.specs.declared.mark.Mark.{Mark}
use Rattle.crack_index.specs.Marks.{next_mark, last_mark, first_after, last_before}
use Rattle.crack_index.proofs.MarkLaws.{last_mark-is, next_mark-raised, last_mark-lowered}
use Rattle.crack_state.specs.State.{State, Carried, IsIntact}
use Rattle.crack_state.proofs.Words.{column_keys}
use Rattle.crack_state.specs.Steps.{hand_key, piece_start, piece_end, pushed_on, pulled_back, exchanged}
use Rattle.crack_state.proofs.PieceLaws.{Divides-listed, piece_end-le, piece_end-before, piece_start-behind}

-- the key of the row at a place of the column
key_there : (s : State) (place : ℕ) (hand : Handle) → place < length s.column → get_or (column_keys s) place 0 ≡ key_at s.cells (get_or s.column place hand)
key_there s place hand within =
    get_or-map (key_at s.cells) s.column place (get_or s.column place hand) 0 within ∙ ap (key_at s.cells) (sym (get_or_default s.column place hand (get_or s.column place hand) within))

-- after a push_on, the bound above the key in hand is the first that was after the place where the hand was put
pub next-pushed_on : (c : Carried) (m : Mark) → next_mark (hand_key c) c.store.marks ≡ Some m → m.position < length c.store.column → IsIntact c.store (c.hand ∷ []) → next_mark (hand_key (pushed_on c)) (pushed_on c).store.marks ≡ first_after m.position c.store.marks
next-pushed_on c m found within intact =
    let s = c.store in
    let at = key_there s m.position c.hand within in
    let long = length-map s.column (key_at s.cells) in
    rw found (next_mark-raised m.bound.0 m.position (key_at s.cells (get_or s.column m.position c.hand)) s.marks
    (λ k d h up_to. rw (← at) ((intact.obeyed k d h).above m.position up_to (omega arith)))
    (λ k d h behind. rw (← at) ((intact.obeyed k d h).below m.position behind)))

-- after a pull_back, the bound below the key in hand is the last that was before the place where the piece began
pub last-pulled_back : (c : Carried) (m : Mark) → last_mark (hand_key c) c.store.marks ≡ Some m → 0 < m.position → IsIntact c.store (c.hand ∷ []) → last_mark (hand_key (pulled_back c)) (pulled_back c).store.marks ≡ last_before m.position c.store.marks
last-pulled_back c m found some intact =
    let s = c.store in
    let is_last = last_mark-is (hand_key c) s.marks m intact.rising found in
    let divides = Divides-listed (column_keys s) s.marks m intact.obeyed is_last.listed in
    let long = length-map s.column (key_at s.cells) in
    let at = key_there s (m.position - 1) c.hand (omega (arith, divides.within)) in
    rw found (last_mark-lowered m.bound.0 m.position (key_at s.cells (get_or s.column (m.position - 1) c.hand)) s.marks
    (λ k d h before. rw (← at) ((intact.obeyed k d h).above (m.position - 1) (omega arith) (omega (arith, divides.within))))
    (λ k d h from. rw (← at) ((intact.obeyed k d h).below (m.position - 1) (omega arith))))

-- two keys on the same side of every bound have the same bound above them
next_mark-same : (key other : ℕ) (marks : List Mark) → All (λ (m : Mark). ltb key m.bound.0 ≡ ltb other m.bound.0) marks → next_mark key marks ≡ next_mark other marks
next_mark-same key other [] same = refl
next_mark-same key other (m ∷ ms) same = rw (same 0 m (omega arith), next_mark-same key other ms (λ k d h. same (suc k) d (omega (arith, h)))) refl

-- a row of the own piece is on the same side of every bound as the key in hand
same_side : (place : ℕ) (c : Carried) → piece_start c.store (hand_key c) ≤ place → place < piece_end c.store (hand_key c) → IsIntact c.store (c.hand ∷ []) → All (λ (m : Mark). ltb (hand_key (exchanged place c)) m.bound.0 ≡ ltb (hand_key c) m.bound.0) c.store.marks
same_side place c above below intact =
    let s = c.store in
    let key = hand_key c in
    let long = length-map s.column (key_at s.cells) in
    let within : place < length s.column = omega (arith, piece_end-le s key intact.rising intact.obeyed) in
    let at = key_there s place c.hand within in
    λ k d h.
    let bound = (get_or s.marks k d).bound.0 in
    let other = key_at s.cells (get_or s.column place c.hand) in
    elim (cases_lt key bound) [
      | inl l ↦
          let less : other < bound = rw (← at) ((intact.obeyed k d h).below place (omega (arith, piece_end-before s key k d intact.rising intact.obeyed h l))) in
          lt-ltb other bound less ∙ sym (lt-ltb key bound l)
      | inr l ↦
          let more : bound ≤ other = rw (← at) ((intact.obeyed k d h).above place (omega (arith, piece_start-behind s key k d intact.rising intact.obeyed h l)) (omega arith)) in
          le-ltb other bound more ∙ sym (le-ltb key bound l)
    ]

-- after an exchange the bound above the key in hand is as before
pub next-exchanged : (place : ℕ) (c : Carried) → piece_start c.store (hand_key c) ≤ place → place < piece_end c.store (hand_key c) → IsIntact c.store (c.hand ∷ []) → next_mark (hand_key (exchanged place c)) c.store.marks ≡ next_mark (hand_key c) c.store.marks
next-exchanged place c above below intact =
    let same = same_side place c above below intact in
    next_mark-same (hand_key (exchanged place c)) (hand_key c) c.store.marks same
