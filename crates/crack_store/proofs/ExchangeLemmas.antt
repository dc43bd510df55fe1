-- Rows of a range that are taken out of a list, and replace others from a place on, one after the other.
use Rattle.std.proofs.Common.{◌≡◌, ℕ, zero, suc, ◌+◌, ◌-◌, ◌<◌, ◌≤◌, min, max, not, Bool, List, [], ◌∷◌, ◌++◌, map, length, take, drop, get_or, set, Some, refl, sym, ap, ◌∙◌, inl, inr, arith}
use Rattle.std.specs.Prelude.{slice_get, filter}
use Rattle.std.specs.List.{between}
use Rattle.std.proofs.Math.Seq.{take-add, drop-append_seam}
use Rattle.std.proofs.lemmas.Bool.{cases_Bool}
use Rattle.std.proofs.lemmas.List.{append-nil, append_assoc, take-append-drop, take-append-le, take_all, take_more, drop-drop, drop-take, length-take-le, length-drop, length-append, length-map, map-append}
use Rattle.std.proofs.lemmas.List.Elements.{All-drop}
use Rattle.crack_row.specs.Ranges.{Range, is_in}
use Rattle.crack_row.specs.declared.Row.{Row}
use Rattle.crack_arena.specs.Arena.{Cell, Handle, no_handle, times, slots}
use Rattle.crack_arena.specs.Rows.{key_at}
use Rattle.crack_arena.proofs.Times.{times-cons, times-map-append}
use Rattle.crack_state.specs.Carried.{inside_of}
use Rattle.crack_arena.specs.Memories.{Memory, Remembers, memory_at}
use Rattle.crack_column.specs.Column.{Column}
use Rattle.crack_pending.specs.Pending.{Pending}
use Rattle.crack_state.specs.Merge.{outside_of}
use Rattle.crack_store.specs.Evictions.{AreApart, ArePut, IsPut, IsExchanged}

module _ {X : Type 0} where
  -- the elements of a list of two parts
  pub seam : (xs ys : List X) (n : ℕ) → length xs ≡ n → (take n (xs ++ ys) ≡ xs) × (drop n (xs ++ ys) ≡ ys)
  seam xs ys n is = (
    ap (λ k. take k (xs ++ ys)) (sym is) ∙ take-append-le (length xs) xs ys (omega arith) ∙ take_all (length xs) xs (omega arith),
    ap (λ k. drop k (xs ++ ys)) (sym is) ∙ drop-append_seam xs ys,
  )

  -- one more
  pub one_more : (xs ys : List X) (x : X) (n : ℕ) → length xs ≡ n → (take (n + 1) (xs ++ x ∷ ys) ≡ xs ++ x ∷ []) × (drop (n + 1) (xs ++ x ∷ ys) ≡ ys)
  one_more xs ys x n is =
      let split : xs ++ x ∷ ys ≡ (xs ++ x ∷ []) ++ ys = sym (append_assoc xs (x ∷ []) ys) in
      let parts = seam (xs ++ x ∷ []) ys (n + 1) (omega (arith, is, length-append xs (x ∷ []))) in
      (ap (take (n + 1)) split ∙ parts.0, ap (drop (n + 1)) split ∙ parts.1)

  pub take_first : (xs ys : List X) (x : X) → xs ≡ x ∷ ys → (take 1 xs ≡ x ∷ []) × (drop 1 xs ≡ ys)
  take_first xs ys x is = (ap (take 1) is, ap (drop 1) is)

  pub length-take-min : (n : ℕ) (xs : List X) → length (take n xs) ≡ min n (length xs)
  length-take-min zero xs = omega arith
  length-take-min (suc n) [] = omega arith
  length-take-min (suc n) (x ∷ xs) = omega (arith, length-take-min n xs)

  pub drop-next : (n : ℕ) (xs : List X) → drop (n + 1) xs ≡ drop 1 (drop n xs)
  drop-next n xs = sym (drop-drop 1 n xs)

-- the element at a place, and those after it
pub got : (hs : List Handle) (place : ℕ) (h : Handle) → slice_get hs place ≡ Some h → drop place hs ≡ h ∷ drop (place + 1) hs
got [] place h is = absurd (cc)
got (x ∷ xs) zero h is =
    let same : x ≡ h = cc in
    ap (λ y. y ∷ xs) same
got (x ∷ xs) (suc place) h is =
    let next : suc place + 1 ≡ suc (place + 1) = omega arith in
    rw next (got xs place h is)

-- another at its place
pub set_parts : {X : Type 0} (xs : List X) (n : ℕ) (x : X) → n < length xs → set xs n x ≡ take n xs ++ x ∷ drop (n + 1) xs
set_parts [] n x within = absurd (omega (arith, within))
set_parts (y ∷ ys) zero x within = refl
set_parts (y ∷ ys) (suc n) x within =
    let next : suc n + 1 ≡ suc (n + 1) = omega arith in
    rw next (ap (λ zs. y ∷ zs) (set_parts ys n x (omega (arith, within))))

-- no cell is more often in the remaining list than before
fewer : (n : ℕ) (p : Handle → Bool) (hs : List Handle) → times n (slots (filter p hs)) ≤ times n (slots hs)
fewer n p [] = omega arith
fewer n p (h ∷ hs) =
    let all = times-cons n h.slot (slots hs) in
    elim (cases_Bool (p h)) [
      | inl is ↦ rw is (omega (arith, all, times-cons n h.slot (slots (filter p hs)), fewer n p hs))
      | inr out ↦ rw out (omega (arith, all, fewer n p hs))
    ]

-- the rest of a list that is disjoint from another is disjoint, too
pub apart-left : (cells : List (Cell Row)) (r : Range) (covered : ℕ) (xs hs : List Handle) → AreApart covered xs hs → AreApart covered xs (outside_of cells r hs)
apart-left cells r covered xs hs apart = record {
  once = λ slot. omega (arith, apart.once slot, fewer slot (λ h. not (is_in r (key_at cells h))) hs);
  inside = apart.inside;
}

module _ (cells : List (Cell Row)) (from : ℕ) (hs : List Handle) (c0 : Column) (p0 : Pending) where
  abbrev beyond : List Handle
  beyond = drop from c0.handles

  -- on the way: this many of them were put in
  pub record IsOnWay (i : ℕ) (c : Column) (p : Pending) : Type 0 where
    pub few : i ≤ length hs
    pub pending : p.handles ≡ p0.handles ++ take i beyond
    pub handles : c.handles ≡ take from c0.handles ++ (take i hs ++ drop i beyond)
    pub long : length c.handles ≡ max (length c0.handles) (from + i)
    pub read : take (from + i) c.remembered ≡ take from c0.remembered ++ map (memory_at cells) (take i hs)
    pub remembers : Remembers cells c.handles c.remembered
    pub keys : Remembers cells p.handles p.remembered
    pub apart : AreApart p.covered (drop (from + i) c.handles) p.handles
    pub column_room : length hs - (length c0.handles - from) ≤ c.room + (length c.handles - length c0.handles)
    pub in_room : min (length hs) (length c0.handles - from) ≤ p.room + min i (length c0.handles - from)
    pub room : p0.room ≤ p.room + min i (length c0.handles - from)
    pub covered : p.covered ≡ p0.covered

  pub begins : from ≤ length c0.handles → Remembers cells c0.handles c0.remembered → Remembers cells p0.handles p0.remembered → AreApart p0.covered (drop from c0.handles) p0.handles → length hs - (length c0.handles - from) ≤ c0.room → min (length hs) (length c0.handles - from) ≤ p0.room → IsOnWay 0 c0 p0
  begins inside remembers keys apart column_room in_room =
      let here : from + 0 ≡ from = omega arith in
      record {
        few = omega arith;
        pending = sym (append-nil p0.handles);
        handles = sym (take-append-drop from c0.handles);
        long = omega (arith, inside);
        read = rw here (sym (append-nil (take from c0.remembered)));
        remembers = remembers;
        keys = keys;
        apart = rw here apart;
        column_room = omega (arith, column_room);
        in_room = omega (arith, in_room);
        room = omega arith;
        covered = refl;
      }

  module _ (i : ℕ) (c : Column) (p : Pending) (on : IsOnWay i c p) (inside : from ≤ length c0.handles) where
    abbrev front : List Handle
    front = take from c0.handles ++ take i hs

    front-long : length front ≡ from + i
    front-long = omega (arith, length-append (take from c0.handles) (take i hs), length-take-le from c0.handles inside, length-take-le i hs on.few)

    split : c.handles ≡ front ++ drop i beyond
    split = on.handles ∙ sym (append_assoc (take from c0.handles) (take i hs) (drop i beyond))

    front_is : take (from + i) c.handles ≡ front
    front_is = ap (take (from + i)) split ∙ (seam front (drop i beyond) (from + i) front-long).0

    back_is : drop (from + i) c.handles ≡ drop i beyond
    back_is = ap (drop (from + i)) split ∙ (seam front (drop i beyond) (from + i) front-long).1

    pub within_column : from + i ≤ length c.handles
    within_column = omega (arith, on.long)

    module _ (more : i < length hs) where
      abbrev pub next : Handle
      next = get_or hs i no_handle

      pub has_column_room : from + i ≡ length c.handles → 0 < c.room
      has_column_room is = omega (arith, is, on.long, on.column_room, more, inside)

      pub has_in_room : from + i < length c.handles → 0 < p.room
      has_in_room less = omega (arith, less, on.long, on.in_room, more)

      module _ (c' : Column) (p' : Pending) (put : IsPut cells (from + i) next c p c' p') where
        abbrev slot_of : Handle → ℕ
        slot_of h = h.slot

        abbrev evicted : List Handle
        evicted = take 1 (drop (from + i) c.handles)

        rest_is : drop (from + i + 1) c.handles ≡ drop (i + 1) beyond
        rest_is = drop-next (from + i) c.handles ∙ ap (drop 1) back_is ∙ sym (drop-next i beyond)

        evicted_is : evicted ≡ take 1 (drop i beyond)
        evicted_is = ap (take 1) back_is

        hs_next : take (i + 1) hs ≡ take i hs ++ next ∷ []
        hs_next = take_more hs i no_handle more

        handles_next : c'.handles ≡ take from c0.handles ++ (take (i + 1) hs ++ drop (i + 1) beyond)
        handles_next =
            let A : List Handle = take from c0.handles in
            let B : List Handle = take i hs in
            let D : List Handle = drop (i + 1) beyond in
            put.handles_are ∙ rw (front_is, rest_is, hs_next) (append_assoc A B (next ∷ D) ∙ ap (λ ys. A ++ ys) (sym (append_assoc B (next ∷ []) D)))

        long_next : length c'.handles ≡ max (length c0.handles) (from + i + 1)
        long_next =
            let A : List Handle = take from c0.handles in
            let B : List Handle = take (i + 1) hs in
            let D : List Handle = drop (i + 1) beyond in
            omega (arith, ap length handles_next, length-append A (B ++ D), length-append B D, length-take-le from c0.handles inside, length-take-le (i + 1) hs (omega (arith, more)), length-drop (i + 1) beyond, length-drop from c0.handles, inside)

        read_next : take (from + i + 1) c'.remembered ≡ take from c0.remembered ++ map (memory_at cells) (take (i + 1) hs)
        read_next =
            let A : List Memory = take from c0.remembered in
            let B : List Handle = take i hs in
            let beside = on.remembers.beside in
            let short : length (take (from + i) c.remembered) ≡ from + i = length-take-le (from + i) c.remembered (omega (arith, beside, on.long)) in
            let one = (one_more (take (from + i) c.remembered) (drop (from + i + 1) c.remembered) (memory_at cells next) (from + i) short).0 in
            ap (take (from + i + 1)) put.remembered_are ∙ one ∙ rw (on.read, hs_next) (append_assoc A (map (memory_at cells) B) (memory_at cells next ∷ []) ∙ ap (λ ys. A ++ ys) (sym (map-append (memory_at cells) B (next ∷ []))))

        behind_is : drop (from + i + 1) c'.handles ≡ drop 1 (drop (from + i) c.handles)
        behind_is =
            let short : length (take (from + i) c.handles) ≡ from + i = length-take-le (from + i) c.handles within_column in
            ap (drop (from + i + 1)) put.handles_are ∙ (one_more (take (from + i) c.handles) (drop (from + i + 1) c.handles) next (from + i) short).1 ∙ drop-next (from + i) c.handles

        apart_next : AreApart p'.covered (drop (from + i + 1) c'.handles) p'.handles
        apart_next = record {
          once = λ slot.
              let others : List Handle = drop 1 (drop (from + i) c.handles) in
              let both : times slot (map slot_of (drop (from + i) c.handles)) ≡ times slot (map slot_of evicted) + times slot (map slot_of others) = ap (λ hs. times slot (map slot_of hs)) (sym (take-append-drop 1 (drop (from + i) c.handles))) ∙ times-map-append slot slot_of evicted others in
              let list : times slot (map slot_of p'.handles) ≡ times slot (map slot_of p.handles) + times slot (map slot_of evicted) = ap (λ hs. times slot (map slot_of hs)) put.pending_are ∙ times-map-append slot slot_of p.handles evicted in
              let behind : times slot (map slot_of (drop (from + i + 1) c'.handles)) ≡ times slot (map slot_of others) = ap (λ hs. times slot (map slot_of hs)) behind_is in
              omega (arith, on.apart.once slot, both, list, behind);
          inside = rw (put.covered, behind_is) (All-drop (λ h. h.slot < p.covered) 1 (drop (from + i) c.handles) on.apart.inside);
        }

        pub IsOnWay-next : IsOnWay (i + 1) c' p'
        IsOnWay-next =
            let step : from + (i + 1) ≡ from + i + 1 = omega arith in
            let some : length evicted ≡ min 1 (length c.handles - (from + i)) = omega (arith, length-take-min 1 (drop (from + i) c.handles), length-drop (from + i) c.handles) in
            record {
              few = omega (arith, more);
              pending = put.pending_are ∙ rw (on.pending, evicted_is) (append_assoc p0.handles (take i beyond) (take 1 (drop i beyond)) ∙ ap (λ ys. p0.handles ++ ys) (sym (take-add i 1 beyond)));
              handles = handles_next;
              long = rw step long_next;
              read = rw step read_next;
              remembers = put.remembers;
              keys = put.keys;
              apart = rw step apart_next;
              column_room = omega (arith, on.column_room, put.column_room, on.long, long_next);
              in_room = omega (arith, on.in_room, put.in_room, some, on.long, inside);
              room = omega (arith, on.room, put.in_room, some, on.long, inside);
              covered = put.covered ∙ on.covered;
            }

  -- all were put in
  pub ArePut-ends : (i : ℕ) (c : Column) (p : Pending) → IsOnWay i c p → from ≤ length c0.handles → length hs ≤ i → ArePut cells from hs c0 p0 c p
  ArePut-ends i c p on inside end =
      let all : i ≡ length hs = omega (arith, end, on.few) in
      let whole : take i hs ≡ hs = take_all i hs end in
      let span : from + i - from ≡ i = omega arith in
      let here : between from (from + i) c.handles ≡ hs = ap (λ n. take n (drop from c.handles)) span ∙ sym (drop-take from i c.handles) ∙ ap (drop from) (front_is i c p on inside) ∙ (seam (take from c0.handles) (take i hs) from (length-take-le from c0.handles inside)).1 ∙ whole in
      let memories : length (take from c0.remembered) ≡ from = omega (arith, ap length on.read, length-append (take from c0.remembered) (map (memory_at cells) (take i hs)), length-map (take i hs) (memory_at cells), length-take-le i hs on.few, length-take-le (from + i) c.remembered (omega (arith, on.remembers.beside, on.long))) in
      let read : between from (from + i) c.remembered ≡ map (memory_at cells) hs = ap (λ n. take n (drop from c.remembered)) span ∙ sym (drop-take from i c.remembered) ∙ ap (drop from) on.read ∙ (seam (take from c0.remembered) (map (memory_at cells) (take i hs)) from memories).1 ∙ ap (map (memory_at cells)) whole in
      record {
        handles_are = on.handles ∙ rw (whole, all) refl;
        pending_are = on.pending ∙ rw all refl;
        read = rw (← all) (read ∙ ap (map (memory_at cells)) (sym here));
        remembers = on.remembers;
        keys = on.keys;
        in_room = rw all at on.room;
        covered = on.covered;
      }

-- the rows of a range were taken out of a list, and then put from a place on
pub IsExchanged-put : (cells : List (Cell Row)) (r : Range) (from : ℕ) (c : Column) (p q : Pending) (hs : List Handle) (c' : Column) (p' : Pending) → hs ≡ inside_of cells r p.handles → q.handles ≡ outside_of cells r p.handles → p.room ≤ q.room → q.covered ≡ p.covered → ArePut cells from hs c q c' p' → IsExchanged cells r from c p c' p'
IsExchanged-put cells r from c p q hs c' p' taken left room covered put = record {
  handles_are = rw (← taken) put.handles_are;
  pending_are = rw (← taken, ← left) put.pending_are;
  read = rw (← taken) put.read;
  remembers = put.remembers;
  keys = put.keys;
  in_room = rw (← taken) (omega (arith, put.in_room, room));
  covered = put.covered ∙ covered;
}
