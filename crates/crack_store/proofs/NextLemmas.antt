-- What a look-up of a bound next to a key implies.
use Rattle.std.proofs.Common.{◌≡◌, ℕ, ◌<◌, ◌^◌, ◌-◌, ◌∷◌, [], List, map, length, Option, Some, None, refl, sym, ◌∙◌, arith}
use Rattle.std.specs.Prelude.{Contains, IfSome}
use Rattle.std.proofs.lemmas.List.Elements.{All-contains}
use Rattle.crack_index.specs.declared.mark.Mark.{Mark}
use Rattle.crack_index.specs.Marks.{next_mark, last_mark, first_after, last_before, raised, lowered}
use Rattle.crack_index.proofs.MarkLaws.{next_mark-is, last_mark-is}
use Rattle.crack_arena.specs.Arena.{Handle}
use Rattle.crack_state.specs.State.{State, Carried, IsIntact}
use Rattle.crack_state.specs.Steps.{hand_key, piece_start, piece_end, more, put_at, pushed_on, pulled_back, bounds_above}
use Rattle.crack_state.proofs.PieceLaws.{piece_start-le}
use Rattle.crack_state.proofs.StepLaws.{IsIntact-pushed_on, bounds_above-pushed_on}
use Rattle.crack_state.proofs.PullLaws.{IsIntact-pulled_back}
use Rattle.crack_state.proofs.NearLaws.{next-pushed_on, last-pulled_back}
use Rattle.crack_store.specs.declared.carrying.Near.{Near}
use Rattle.crack_store.specs.declared.carrying.Near.TheVariants.{Unsought, Above}
use Rattle.crack_store.specs.Keeps.{IsNear}
use Rattle.crack_store.proofs.EdgeLemmas.{positions_small}

-- the bound where the own piece of the hand ends, before the column's end, and the store after the hand is put there
pub record IsUp (c : Carried) (m : Mark) : Type 0 where
  pub listed : Contains c.store.marks m
  pub small : m.position < 2 ^ 64 - 1
  pub within : m.position < length c.store.column
  pub after : put_at m.position (map (raised m.bound.0 m.position) c.store.marks) (record c.store.tally { moved = more c.store.tally.moved }) c ≡ pushed_on c
  pub intact : IsIntact (pushed_on c).store ((pushed_on c).hand ∷ [])
  pub next : next_mark (hand_key (pushed_on c)) (pushed_on c).store.marks ≡ first_after m.position c.store.marks
  pub nearer : bounds_above (hand_key (pushed_on c)) (pushed_on c).store.marks < bounds_above (hand_key c) c.store.marks

pub is_up : (c : Carried) (m : Mark) → next_mark (hand_key c) c.store.marks ≡ Some m → piece_end c.store (hand_key c) < length c.store.column → IsIntact c.store (c.hand ∷ []) → IsUp c m
is_up c m is room intact =
    let s = c.store in
    let next = next_mark-is (hand_key c) s.marks m intact.rising is in
    let within : m.position < length s.column = rw is at room in
    record {
      listed = next.listed;
      small = All-contains (λ (x : Mark). x.position < 2 ^ 64 - 1) s.marks m (positions_small s (c.hand ∷ []) intact) next.listed;
      within = within;
      after = rw is refl;
      intact = IsIntact-pushed_on c room intact;
      next = next-pushed_on c m is within intact;
      nearer = bounds_above-pushed_on c room intact;
    }

-- the bound where the own piece of the hand begins, after the column's front, and the store after the hand is put before it
pub record IsDown (c : Carried) (m : Mark) : Type 0 where
  pub listed : Contains c.store.marks m
  pub above : 0 < m.position
  pub within : m.position - 1 < length c.store.column
  pub after : put_at (m.position - 1) (map (lowered m.bound.0 m.position) c.store.marks) (record c.store.tally { pulled = more c.store.tally.pulled }) c ≡ pulled_back c
  pub intact : IsIntact (pulled_back c).store ((pulled_back c).hand ∷ [])
  pub next : last_mark (hand_key (pulled_back c)) (pulled_back c).store.marks ≡ last_before m.position c.store.marks

pub is_down : (c : Carried) (m : Mark) → last_mark (hand_key c) c.store.marks ≡ Some m → 0 < piece_start c.store (hand_key c) → IsIntact c.store (c.hand ∷ []) → IsDown c m
is_down c m is some intact =
    let s = c.store in
    let last = last_mark-is (hand_key c) s.marks m intact.rising is in
    let above : 0 < m.position = rw is at some in
    let place : piece_start s (hand_key c) ≡ m.position = rw is refl in
    record {
      listed = last.listed;
      above = above;
      within = omega (arith, above, place, piece_start-le s (hand_key c) intact.rising intact.obeyed);
      after = rw is refl;
      intact = IsIntact-pulled_back c some intact;
      next = last-pulled_back c m is above intact;
    }

pub next_listed : (s : State) (hand : List Handle) (key : ℕ) (found : Option Mark) → IsIntact s hand → found ≡ next_mark key s.marks → IfSome found (λ m. Contains s.marks m)
next_listed s hand key None intact value = tt
next_listed s hand key (Some m) intact value = (next_mark-is key s.marks m intact.rising (sym value)).listed

-- the bound that is kept is also the one above a key that lies below the same bound
pub IsNear-same : (marks : List Mark) (key other : ℕ) (near : Near) → next_mark other marks ≡ next_mark key marks → IsNear marks key near → IsNear marks other near
IsNear-same marks key other Unsought next is = tt
IsNear-same marks key other (Above mark) next is = is ∙ sym next
