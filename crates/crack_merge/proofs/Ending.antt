-- The rules that end a carry, and how the carries of a range go on after it.
use Rattle.std.proofs.Common.{◌≡◌, ℕ, ◌+◌, ◌<◌, List, [], ◌∷◌, ◌++◌, length, Option, Some, None, refl, inl, inr, arith, suc, get_or, take, drop, map, cond, ap}
use Rattle.std.proofs.lemmas.Bool.{cases_lt}
use Rattle.std.proofs.lemmas.List.{get_or_append_left, get_or_push, length_push, map-append, take-map, drop-map}
use Rattle.std.specs.List.{remove, count_by}
use Rattle.std.proofs.lemmas.List.Sums.{sum_by_push, sum_by-remove}
use Rattle.crack_row.specs.Ranges.{Range, IsIn, is_in}
use Rattle.crack_arena.specs.Arena.{Handle}
use Rattle.crack_arena.specs.Rows.{key_at, keys_at}
use Rattle.crack_pending.specs.Pending.{Finds}
use Rattle.crack_pending.proofs.Searches.{is_in-true, is_in-false}
use Rattle.crack_state.specs.State.{State, Carried, IsIntact}
use Rattle.crack_state.specs.Steps.{hand_key, buried, SameButRoom, lifted, pushed_on, IsBelow, PushesOn}
use Rattle.crack_state.proofs.OwnedLaws.{hand_apart}
use Rattle.crack_state.proofs.CellLaws.{AgreeOff-set, keys-off}
use Rattle.crack_state.proofs.BuryLaws.{IsIntact-buried}
use Rattle.crack_state.proofs.PullLaws.{IsIntact-returned}
use Rattle.crack_state.proofs.StepLaws.{IsIntact-appended}
use Rattle.crack_store.specs.declared.ways.CarryEnd.{CarryEnd}
use Rattle.crack_store.specs.declared.ways.CarryEnd.TheVariants.{Buries, Evicts, Appends}
use Rattle.crack_store.specs.Ends.{EndsBy}
use Rattle.crack_merge.specs.Merges.{IsCeiling, Carries, buries, evicts, ends, goes_on, CarriesIn, carries}
use Rattle.crack_merge.specs.Loops.{MayEnd, EvictsOver, ended_carry}

-- a carry whose pushes have reached a hand that ends it by a rule
ends_by : (ceiling : Option ℕ) (rule : CarryEnd) (c : Carried) → EndsBy ceiling rule c → Carries ceiling c (ended_carry rule c)
ends_by ceiling Buries c by = buries c by
ends_by None Evicts c by = absurd (by.1 tt)
ends_by (Some bound) Evicts c by = evicts c bound by.0 refl (elim (cases_lt (hand_key c) bound) [ inl l ↦ absurd (by.1 l) | inr l ↦ l ])
ends_by ceiling Appends c by = ends c by.0 by.1 by.2

pub carries_by : (ceiling : Option ℕ) (rule : CarryEnd) (c e : Carried) → PushesOn ceiling c e → EndsBy ceiling rule e → Carries ceiling c (ended_carry rule e)
carries_by ceiling rule c e (PushesOn.stays d) by = ends_by ceiling rule d by
carries_by ceiling rule c e (PushesOn.pushes d f lasting below room rest) by = goes_on d (ended_carry rule f) lasting below room (carries_by ceiling rule (pushed_on d) f rest by)

-- the rule that ends it is one that may end it
pub MayEnd-by : (ceiling : Option ℕ) (rule : CarryEnd) (c : Carried) → EndsBy ceiling rule c → MayEnd rule c
MayEnd-by ceiling Buries c by = by
MayEnd-by ceiling Evicts c by = omega (arith, by.0)
MayEnd-by ceiling Appends c by = (omega (arith, by.0), by.2)

pub EvictsOver-by : (ceiling : Option ℕ) (rule : CarryEnd) (c : Carried) → EndsBy ceiling rule c → EvictsOver ceiling rule (hand_key c)
EvictsOver-by ceiling Buries c by = tt
EvictsOver-by ceiling Evicts c by = by.1
EvictsOver-by ceiling Appends c by = tt

-- pushes change only column, marks and tally
pub record KeepsRest (c e : Carried) : Type 0 where
  pub column_room : e.store.column_room ≡ c.store.column_room
  pub in_room : e.store.in_room ≡ c.store.in_room
  pub pending_in : e.store.pending_in ≡ c.store.pending_in
  pub cells : e.store.cells ≡ c.store.cells

pub KeepsRest-by : (ceiling : Option ℕ) (c e : Carried) → PushesOn ceiling c e → KeepsRest c e
KeepsRest-by ceiling c e (PushesOn.stays d) = record { column_room = refl; in_room = refl; pending_in = refl; cells = refl }
KeepsRest-by ceiling c e (PushesOn.pushes d f lasting below room rest) =
    let on = KeepsRest-by ceiling (pushed_on d) f rest in
    record { column_room = on.column_room; in_room = on.in_room; pending_in = on.pending_in; cells = on.cells }

-- the keys of the pending insertions
abbrev pub pending_keys : State → List ℕ
pending_keys s = keys_at s.cells s.pending_in

pub IsIntact-ended : (rule : CarryEnd) (c : Carried) → MayEnd rule c → IsIntact c.store (c.hand ∷ []) → IsIntact (ended_carry rule c) []
IsIntact-ended Buries c may intact = IsIntact-buried c may intact
IsIntact-ended Evicts c may intact = IsIntact-returned c may intact
IsIntact-ended Appends c may intact = IsIntact-appended c may.1 intact

-- a key that isn't below the ceiling isn't in the range
pub not_inside : (ceiling : Option ℕ) (r : Range) (key : ℕ) → IsCeiling ceiling r → ¬ IsBelow ceiling key → ¬ IsIn r key
not_inside None r key high over = absurd (over tt)
not_inside (Some bound) r key high over = λ inside. over (omega (arith, inside.1, high))

-- a key outside the range comes after the others
Finds-push : (r : Range) (keys : List ℕ) (key from : ℕ) (found : Option ℕ) → ¬ IsIn r key → Finds r keys from found → Finds r (keys ++ key ∷ []) from found
Finds-push r keys key from (Some place) other first = record {
  after = first.after;
  within = omega (arith, first.within, length_push keys key);
  holds = rw (get_or_append_left keys (key ∷ []) 0 place first.within) first.holds;
  before = λ k from_on up_to. rw (get_or_append_left keys (key ∷ []) 0 k (omega (arith, first.within))) (first.before k from_on up_to);
}
Finds-push r keys key from None other none = λ k from_on up_to. elim (cases_lt k (length keys)) [
  | inl l ↦ rw (get_or_append_left keys (key ∷ []) 0 k l) (none k from_on l)
  | inr l ↦
      let last : length keys ≡ k = omega (arith, length_push keys key) in
      rw (get_or_push keys key 0 k last) other
]

-- the cell of the hand is freed, which no pending insertion names
pub pending_keys-buried : (c : Carried) → IsIntact c.store (c.hand ∷ []) → pending_keys (buried c) ≡ pending_keys c.store
pending_keys-buried c intact =
    let s = c.store in
    let apart = hand_apart s.cells s.free s.column s.pending_in s.pending_out c.hand intact.owned in
    keys-off c.hand.slot s.cells (buried c).cells s.pending_in (AgreeOff-set s.cells c.hand.slot (record { generation = c.hand.generation + 1; value = None })) apart.off_pending

-- the hand goes after the last one
pub pending_keys-returned : (c : Carried) → pending_keys (ended_carry Evicts c) ≡ pending_keys c.store ++ hand_key c ∷ []
pending_keys-returned c = map-append (key_at c.store.cells) c.store.pending_in (c.hand ∷ [])

module _ (ceiling : Option ℕ) (r : Range) (high : IsCeiling ceiling r) where
  -- a search finds the same before a carry ends and after it
  pub Finds-ended : (rule : CarryEnd) (c : Carried) (from : ℕ) (found : Option ℕ) → IsIntact c.store (c.hand ∷ []) → EvictsOver ceiling rule (hand_key c) → Finds r (pending_keys c.store) from found → Finds r (pending_keys (ended_carry rule c)) from found
  Finds-ended Buries c from found intact over finds = rw (pending_keys-buried c intact) finds
  Finds-ended Evicts c from found intact over finds = rw (pending_keys-returned c) (Finds-push r (pending_keys c.store) (hand_key c) from found (not_inside ceiling r (hand_key c) high over) finds)
  Finds-ended Appends c from found intact over finds = finds

-- if room is made while a row is in hand, its carry ends by the same rule, in the same way
pub record EndsAlike (rule : CarryEnd) (c d : Carried) : Type 0 where
  pub same : SameButRoom (ended_carry rule c) (ended_carry rule d)
  pub may : MayEnd rule c → MayEnd rule d

pub EndsAlike-room : (rule : CarryEnd) (c d : Carried) → SameButRoom c.store d.store → d.hand ≡ c.hand → EndsAlike rule c d
EndsAlike-room rule c d room hand = alike rule d.store d.hand d.store.column_room d.store.in_room room.same hand
  where
    alike : (rule : CarryEnd) (t : State) (h : Handle) (column_room in_room : ℕ) → t ≡ record c.store { column_room = column_room; in_room = in_room } → h ≡ c.hand → EndsAlike rule c (record { store = t; hand = h })
    alike Buries t h column_room in_room store hand = rw (store, hand) (record { same = record { same = refl }; may = λ may. may })
    alike Evicts t h column_room in_room store hand = rw (store, hand) (record { same = record { same = refl }; may = λ may. may })
    alike Appends t h column_room in_room store hand = rw (store, hand) (record { same = record { same = refl }; may = λ may. may })

-- the room that is left
pub record HasRoom (s : State) : Type 0 where
  pub column : 0 < s.column_room
  pub pending_in : 0 < s.in_room

pub HasRoom-ended : (rule : CarryEnd) (c : Carried) → 1 < c.store.column_room → 1 < c.store.in_room → HasRoom (ended_carry rule c)
HasRoom-ended Buries c column pending_in = record { column = omega arith; pending_in = omega arith }
HasRoom-ended Evicts c column pending_in = record { column = omega arith; pending_in = omega arith }
HasRoom-ended Appends c column pending_in = record { column = omega arith; pending_in = omega arith }

map-removed : {X Y : Type 0} (f : X → Y) (xs : List X) (i : ℕ) → map f (remove xs i) ≡ remove (map f xs) i
map-removed f xs i = rw (map-append f (take i xs) (drop (suc i) xs), take-map f i xs, drop-map f (suc i) xs) refl

-- how many pending insertions of the range there are
abbrev pub left_in : Range → State → ℕ
left_in r s = count_by (is_in r) (pending_keys s)

-- the one that a search finds is lifted
left_in-lifted : (r : Range) (s : State) (from place : ℕ) → Finds r (pending_keys s) from (Some place) → left_in r (lifted place s).store + 1 ≡ left_in r s
left_in-lifted r s from place found =
    let inside = is_in-true r (get_or (pending_keys s) place 0) found.holds in
    let less = rw inside at (sum_by-remove (λ key. cond (is_in r key) 1 0) (pending_keys s) place 0 found.within) in
    rw (map-removed (key_at s.cells) s.pending_in place) less

-- a row is on its way: wherever its carry ends, the rows up to this one were carried; and it has room
pub record IsOnWay (ceiling : Option ℕ) (r : Range) (s : State) (from : ℕ) (c : Carried) : Type 0 where
  pub carries_in : (t : State) → Carries ceiling c t → CarriesIn ceiling r s from t
  pub room : HasRoom c.store

-- its carry has reached the rule that ends it: the rows up to this one are carried, a search finds the same as before, and as many are left
pub record Arrives (ceiling : Option ℕ) (r : Range) (s : State) (from : ℕ) (rule : CarryEnd) (e : Carried) : Type 0 where
  pub carries_in : CarriesIn ceiling r s from (ended_carry rule e)
  pub finds : (found : Option ℕ) → Finds r (pending_keys e.store) from found → Finds r (pending_keys (ended_carry rule e)) from found
  pub left : left_in r (ended_carry rule e) ≡ left_in r e.store

pub Arrives-ended : (ceiling : Option ℕ) (r : Range) → IsCeiling ceiling r → (s : State) (from : ℕ) (c e : Carried) (rule : CarryEnd) → IsOnWay ceiling r s from c → Carries ceiling c (ended_carry rule e) → IsIntact e.store (e.hand ∷ []) → EvictsOver ceiling rule (hand_key e) → Arrives ceiling r s from rule e
Arrives-ended ceiling r high s from c e rule way carried intact over = record {
  carries_in = way.carries_in (ended_carry rule e) carried;
  finds = λ found. Finds-ended ceiling r high rule e from found intact over;
  left = left_in-ended rule over;
}
  where
    left_in-ended : (by : CarryEnd) → EvictsOver ceiling by (hand_key e) → left_in r (ended_carry by e) ≡ left_in r e.store
    left_in-ended Buries over = rw (pending_keys-buried e intact) refl
    left_in-ended Evicts over =
        let other = is_in-false r (hand_key e) (not_inside ceiling r (hand_key e) high over) in
        rw (pending_keys-returned e, sum_by_push (λ key. cond (is_in r key) 1 0) (pending_keys e.store) (hand_key e), other) (omega arith)
    left_in-ended Appends over = refl

-- room is made for the next, which is lifted
module _ (ceiling : Option ℕ) (r : Range) (s : State) (from place : ℕ) (rule : CarryEnd) (e d : Carried) (arrives : Arrives ceiling r s from rule e) (alike : EndsAlike rule e d) (found : Finds r (pending_keys e.store) from (Some place)) where
  pub IsOnWay-next : 1 < d.store.column_room → 1 < d.store.in_room → IsOnWay ceiling r s place (lifted place (ended_carry rule d))
  IsOnWay-next column pending_in = record {
    carries_in = λ t rest. carries from place (ended_carry rule e) (ended_carry rule d) t arrives.carries_in (arrives.finds (Some place) found) alike.same rest;
    room = let left = HasRoom-ended rule d column pending_in in record { column = left.column; pending_in = left.pending_in };
  }

  pub left_in-less : left_in r (lifted place (ended_carry rule d)).store < left_in r e.store
  left_in-less =
      let same : pending_keys (ended_carry rule d) ≡ pending_keys (ended_carry rule e) = ap pending_keys alike.same.same in
      omega (arith, left_in-lifted r (ended_carry rule d) from place (rw same (arrives.finds (Some place) found)), ap (count_by (is_in r)) same, arrives.left)
