-- What the searches of carries and pulls of a range find.
use Rattle.std.proofs.Common.{◌≡◌, ℕ, ◌-◌, ◌<◌, ◌≤◌, List, [], ◌∷◌, true, ◌++◌, length, get_or, take, drop, Option, None, Some, refl, sym, ap, ◌∙◌, inl, inr, arith, length-append, Result, Ok, Err, IsOk, IfErr}
use Rattle.std.specs.List.{All, remove}
use Rattle.std.proofs.lemmas.List.Elements.{All-head, All-tail}
use Rattle.std.proofs.lemmas.Bool.{cases_lt}
use Rattle.std.proofs.lemmas.List.{get_or-map, get_or-take, get_or_append_left, get_or-append_right, length-map, length-take-le, take_all, drop_all, append-nil, take-append-drop}
use Rattle.crack_row.specs.Ranges.{Range, IsIn, is_in}
use Rattle.crack_row.specs.declared.Row.{Row}
use Rattle.crack_row.specs.declared.refusal.Refusal.{Refusal}
use Rattle.crack_arena.specs.Arena.{Cell, Handle, no_handle}
use Rattle.crack_arena.specs.Rows.{key_at, keys_at}
use Rattle.crack_pending.specs.Pending.{Finds, NoneIn}
use Rattle.crack_pending.proofs.Searches.{is_in-true, is_in-false, StandsAt-get_or, keys_at-StandsAt}
use Rattle.crack_state.specs.Merge.{outside_of, ReadsOutside}
use Rattle.crack_state.proofs.OutsideLaws.{LacksFirst, LacksFirst-next, LacksFirst-all, NoneInside, outside_of-all}
use Rattle.crack_state.specs.State.{State, Reads}
use Rattle.crack_state.proofs.Words.{HaveKeysIn}
use Rattle.crack_state.proofs.CrackLaws.{key_within}
use Rattle.crack_merge.specs.Merges.{CarriesIn, CarriesAll, CarriesSome, PullsOut, PullsAll, begins, carries, pulls}

-- if rows of the range before it are gone
module _ (cells : List (Cell Row)) (r : Range) (before left : List Handle) (from : ℕ) (lacks : LacksFirst cells r before left from) where
  none_inside : (to : ℕ) → to ≤ length left → NoneIn r (keys_at cells left) from to → NoneInside cells r left from to
  none_inside to within none = λ j d start before.
      is_in-false r (key_at cells (get_or left j d)) (rw (get_or-map (key_at cells) left j d 0 (omega arith)) at (none j start before))

  -- the row that is found is the next of the range
  pub LacksFirst-found : (place : ℕ) → Finds r (keys_at cells left) from (Some place) → (place < length left) × LacksFirst cells r before (remove left place) place
  LacksFirst-found place first =
      let within : place < length left = omega (arith, first.within, length-map left (key_at cells)) in
      let inside = is_in-true r (key_at cells (get_or left place no_handle)) (rw (get_or-map (key_at cells) left place no_handle 0 within) at first.holds) in
      (within, LacksFirst-next cells r before left from place no_handle lacks first.after within (none_inside place (omega arith) first.before) inside)

  -- none is left
  pub LacksFirst-missed : Finds r (keys_at cells left) from None → left ≡ outside_of cells r before
  LacksFirst-missed none = LacksFirst-all cells r before left from lacks (none_inside (length left) (omega arith) (rw (length-map left (key_at cells)) at none))

-- keys after the range change nothing if they are last
pub Finds-front : (r : Range) (keys more : List ℕ) (from : ℕ) (found : Option ℕ) → All (λ key. r.high ≤ key) more → Finds r (keys ++ more) from found → Finds r keys from found
Finds-front r keys more from (Some place) behind first =
    let within : place < length keys = elim (cases_lt place (length keys)) [
      | inl l ↦ l
      | inr l ↦
          let there : get_or (keys ++ more) place 0 ≡ get_or more (place - length keys) 0 = get_or-append_right keys more (length keys) place 0 refl l in
          absurd (omega (arith, (rw there at first.holds).1, behind (place - length keys) 0 (omega (arith, first.within, length-append keys more))))
    ] in
    record {
      after = first.after;
      within = within;
      holds = rw (get_or_append_left keys more 0 place within) at first.holds;
      before = λ k from_on up_to. rw (get_or_append_left keys more 0 k (omega arith)) at (first.before k from_on up_to);
    }
Finds-front r keys more from None behind none = λ k from_on up_to. rw (get_or_append_left keys more 0 k up_to) at (none k from_on (omega (arith, length-append keys more)))

-- a search finds none if every row's key is outside the range
found_inside : (r : Range) (cells : List (Cell Row)) (hs : List Handle) (from place : ℕ) → Finds r (keys_at cells hs) from (Some place) → All (ReadsOutside cells r) hs → ⊥
found_inside r cells hs from place found outside =
    let within : place < length hs = omega (arith, found.within, length-map hs (key_at cells)) in
    let h = get_or hs place no_handle in
    let inside : IsIn r (key_at cells h) = rw (keys_at-StandsAt cells hs place h (StandsAt-get_or hs place no_handle within)) at found.holds in
    elim (outside place no_handle within) [
      | inl below ↦ omega (arith, inside.0, below)
      | inr above ↦ omega (arith, inside.1, above)
    ]

-- so no row is left for a carry, and none is refused
carried_none : (ceiling : Option ℕ) (r : Range) (s : State) (from : ℕ) (t : State) → CarriesIn ceiling r s from t → All (ReadsOutside s.cells r) s.pending_in → t ≡ s
carried_none ceiling r s from t begins outside = refl
carried_none ceiling r s from t (carries before at u v w rest first room carried) outside =
    absurd (found_inside r s.cells s.pending_in before at (rw (carried_none ceiling r s before u rest outside) at first) outside)

pub CarriesAll-outside : (ceiling : Option ℕ) (r : Range) (s t : State) → CarriesAll ceiling r s t → All (ReadsOutside s.cells r) s.pending_in → t ≡ s
CarriesAll-outside ceiling r s t all outside = carried_none ceiling r s all.from t all.carries outside

pub CarriesSome-outside : (ceiling : Option ℕ) (r : Range) (s t : State) → CarriesSome ceiling r s t → All (ReadsOutside s.cells r) s.pending_in → ⊥
CarriesSome-outside ceiling r s t some outside =
    found_inside r s.cells s.pending_in some.from some.next (rw (carried_none ceiling r s some.from some.last some.carries outside) at some.left) outside

-- the result of the carries of a range
pub carried_spare : (ceiling : Option ℕ) (r : Range) (s : State) (result : Result State (State × Refusal)) → IfErr result (λ e. CarriesSome ceiling r s e.0) → All (ReadsOutside s.cells r) s.pending_in → IsOk result
carried_spare ceiling r s (Ok t) some outside = refl
carried_spare ceiling r s (Err e) some outside = absurd (CarriesSome-outside ceiling r s e.0 some outside)

-- likewise for a pull
pulled_none : (r fillers : Range) (s : State) (from seen : ℕ) (t : State) → PullsOut r fillers s from seen t → All (ReadsOutside s.cells r) s.pending_out → t ≡ s
pulled_none r fillers s from seen t (begins at within none) outside = refl
pulled_none r fillers s from seen t (pulls before at was next doomed u v c rest first stands begun pulled) outside =
    absurd (found_inside r s.cells s.pending_out before at (rw (pulled_none r fillers s before was u rest outside) at first) outside)

pub PullsAll-outside : (r fillers : Range) (s t : State) → PullsAll r fillers s t → All (ReadsOutside s.cells r) s.pending_out → t ≡ s
PullsAll-outside r fillers s t all outside = pulled_none r fillers s all.from all.seen t all.pulls outside

-- no row of the range is before a place from which a search is to begin
pub LacksFirst-begins : (cells : List (Cell Row)) (r : Range) (hs : List Handle) (from : ℕ) → from ≤ length hs → NoneIn r (keys_at cells hs) 0 from → LacksFirst cells r hs hs from
LacksFirst-begins cells r hs from within none =
    let long : length (take from hs) ≡ from = length-take-le from hs within in
    let front : outside_of cells r (take from hs) ≡ take from hs = outside_of-all cells r (take from hs) (λ k d inside.
    let less : k < from = omega (arith, inside, long) in
    rw (get_or-take from hs k d less) (is_in-false r (key_at cells (get_or hs k d)) (rw (get_or-map (key_at cells) hs k d 0 (omega arith)) at (none k (omega arith) less)))) in
    record { passed = from; within = within; left_are = rw front (sym (take-append-drop from hs)); from_is = rw front (sym long) }

-- none is left, and so no search must look at any
pub LacksFirst-ends : (cells : List (Cell Row)) (r : Range) (before left : List Handle) → left ≡ outside_of cells r before → LacksFirst cells r before left (length left)
LacksFirst-ends cells r before left all =
    let front = take_all (length before) before (omega arith) in
    let back = drop_all (length before) before (omega arith) in
    record {
      passed = length before;
      within = omega arith;
      left_are = rw (front, back, append-nil (outside_of cells r before)) all;
      from_is = rw front (ap length all);
    }

-- a range without keys has none
pub LacksFirst-empty : (cells : List (Cell Row)) (r : Range) (before left : List Handle) (from : ℕ) → r.high ≤ r.low → LacksFirst cells r before left from → left ≡ before
LacksFirst-empty cells r before left from empty lacks =
    let front : outside_of cells r (take lacks.passed before) ≡ take lacks.passed before = outside_of-all cells r (take lacks.passed before) (λ k d inside.
    is_in-false r (key_at cells (get_or (take lacks.passed before) k d)) (λ is. omega (arith, is.0, is.1, empty))) in
    lacks.left_are ∙ ap (λ hs. hs ++ drop lacks.passed before) front ∙ take-append-drop lacks.passed before

-- if all keys of cells are in the range, no row that reads is outside it
pub outside_of-keys : (r : Range) (cells : List (Cell Row)) (hs : List Handle) → HaveKeysIn r cells → All (Reads cells) hs → outside_of cells r hs ≡ []
outside_of-keys r cells [] within reads = refl
outside_of-keys r cells (h ∷ hs) within reads =
    let is : is_in r (key_at cells h) ≡ true = is_in-true r (key_at cells h) (key_within r cells h within (All-head (Reads cells) h hs reads)) in
    rw is (outside_of-keys r cells hs within (All-tail (Reads cells) h hs reads))
