-- The rows of a list of pending rows that are inside a range, and the rest if they are taken out one after the other.
use Rattle.std.proofs.Common.{◌≡◌, ℕ, zero, suc, ◌+◌, ◌-◌, ◌<◌, ◌≤◌, not, List, [], ◌∷◌, ◌++◌, length, map, get_or, take, drop, Some, None, refl, sym, ap, ◌∙◌, inl, inr, arith}
use Rattle.std.specs.List.{All}
use Rattle.std.proofs.lemmas.Bool.{cases_Bool}
use Rattle.std.specs.List.{remove, between}
use Rattle.std.proofs.Math.Seq.{take-add}
use Rattle.std.proofs.lemmas.List.{append-nil, take-append-drop, take_more, take_rest, length-take-le, length-drop, get_or-take, get_or-drop, get_or-map, length-map, length-append}
use Rattle.std.proofs.lemmas.List.Elements.{filter-append, All-cons, All-head, All-tail}
use Rattle.crack_row.specs.Ranges.{Range, IsIn, is_in}
use Rattle.crack_row.specs.declared.Row.{Row}
use Rattle.crack_arena.specs.Arena.{Cell, Handle, no_handle}
use Rattle.crack_arena.specs.Rows.{key_at, keys_at}
use Rattle.crack_pending.specs.Pending.{Finds, NoneIn}
use Rattle.crack_pending.proofs.Searches.{is_in-true, is_in-false}
use Rattle.crack_arena.specs.Memories.{memory_at}
use Rattle.crack_column.specs.Column.{Column}
use Rattle.crack_column.specs.Sifts.{AreRead}
use Rattle.crack_state.specs.Carried.{inside_of}
use Rattle.crack_state.specs.Merge.{outside_of}

module _ (cells : List (Cell Row)) (r : Range) where
  abbrev key : Handle → ℕ
  key = key_at cells

  -- none of the rows is in the range
  all_outside : (hs : List Handle) → ((k : ℕ) → k < length hs → ¬ IsIn r (key (get_or hs k no_handle))) → (inside_of cells r hs ≡ []) × (outside_of cells r hs ≡ hs)
  all_outside [] none = (refl, refl)
  all_outside (h ∷ hs) none =
      let rest = all_outside hs (λ k l. none (suc k) (omega (arith, l))) in
      let out = is_in-false r (key h) (none zero (omega arith)) in
      (rw out rest.0, rw out (ap (λ ys. h ∷ ys) rest.1))

  -- if none is inside, all are outside
  pub all-left : (hs : List Handle) → inside_of cells r hs ≡ [] → outside_of cells r hs ≡ hs
  all-left [] none = refl
  all-left (h ∷ hs) none = elim (cases_Bool (is_in r (key h))) [
    | inl is ↦
        let some : inside_of cells r (h ∷ hs) ≡ h ∷ inside_of cells r hs = rw is refl in
        absurd (omega (arith, ap length some, ap length none))
    | inr out ↦
        let rest : inside_of cells r (h ∷ hs) ≡ inside_of cells r hs = rw out refl in
        rw out (ap (λ ys. h ∷ ys) (all-left hs (sym rest ∙ none)))
  ]

  one_inside : (h : Handle) → IsIn r (key h) → (inside_of cells r (h ∷ []) ≡ h ∷ []) × (outside_of cells r (h ∷ []) ≡ [])
  one_inside h inside =
      let is = is_in-true r (key h) inside in
      (rw is refl, rw is refl)

  -- none of those from one place up to another
  none_between : (hs : List Handle) (from to : ℕ) → to ≤ length hs → NoneIn r (keys_at cells hs) from to → (inside_of cells r (take (to - from) (drop from hs)) ≡ []) × (outside_of cells r (take (to - from) (drop from hs)) ≡ take (to - from) (drop from hs))
  none_between hs from to within none = all_outside (take (to - from) (drop from hs)) (λ k l.
      let few : k < to - from = omega (arith, l, length-take (to - from) (drop from hs)) in
      let is : get_or (take (to - from) (drop from hs)) k no_handle ≡ get_or hs (from + k) no_handle = get_or-take (to - from) (drop from hs) k no_handle few ∙ get_or-drop from hs k no_handle in
      rw (is, ← get_or-map key hs (from + k) no_handle 0 (omega (arith, few, within))) (none (from + k) (omega arith) (omega (arith, few))))
    where
      length-take : (n : ℕ) (xs : List Handle) → length (take n xs) ≤ n
      length-take zero xs = omega arith
      length-take (suc n) [] = omega arith
      length-take (suc n) (x ∷ xs) = omega (arith, length-take n xs)

  up_to : (hs : List Handle) (from to : ℕ) → from ≤ to → take to hs ≡ take from hs ++ take (to - from) (drop from hs)
  up_to hs from to order =
      let both : to ≡ from + (to - from) = omega arith in
      ap (λ n. take n hs) both ∙ take-add from (to - from) hs

  -- one more is found
  pub record IsFound (hs : List Handle) (from place : ℕ) : Type 0 where
    pub within : place < length hs
    pub inside_before : inside_of cells r (take place hs) ≡ inside_of cells r (take from hs)
    pub outside_before : outside_of cells r (take place hs) ≡ outside_of cells r (take from hs) ++ take (place - from) (drop from hs)
    pub is_in : IsIn r (key (get_or hs place no_handle))
    pub inside_next : inside_of cells r (take (place + 1) hs) ≡ inside_of cells r (take from hs) ++ get_or hs place no_handle ∷ []

  pub found : (hs : List Handle) (from place : ℕ) → Finds r (keys_at cells hs) from (Some place) → IsFound hs from place
  found hs from place finds =
      let within : place < length hs = omega (arith, finds.within, length-map hs key) in
      let none = none_between hs from place (omega arith) finds.before in
      let split = up_to hs from place finds.after in
      let before : inside_of cells r (take place hs) ≡ inside_of cells r (take from hs) = ap (inside_of cells r) split ∙ filter-append (λ h. is_in r (key h)) (take from hs) (take (place - from) (drop from hs)) ∙ ap (λ ys. inside_of cells r (take from hs) ++ ys) none.0 ∙ append-nil (inside_of cells r (take from hs)) in
      let holds : IsIn r (key (get_or hs place no_handle)) = rw (get_or-map key hs place no_handle 0 within) at finds.holds in
      record {
        within = within;
        inside_before = before;
        outside_before = ap (outside_of cells r) split ∙ filter-append (λ h. not (is_in r (key h))) (take from hs) (take (place - from) (drop from hs)) ∙ ap (λ ys. outside_of cells r (take from hs) ++ ys) none.1;
        is_in = holds;
        inside_next = ap (inside_of cells r) (take_more hs place no_handle within) ∙ filter-append (λ h. is_in r (key h)) (take place hs) (get_or hs place no_handle ∷ []) ∙ rw (before, (one_inside (get_or hs place no_handle) holds).0) refl;
      }

  -- no more is found
  pub found_none : (hs : List Handle) (from : ℕ) → from ≤ length hs → Finds r (keys_at cells hs) from None → (inside_of cells r hs ≡ inside_of cells r (take from hs)) × (outside_of cells r hs ≡ outside_of cells r (take from hs) ++ drop from hs)
  found_none hs from within none =
      let long : length (keys_at cells hs) ≡ length hs = length-map hs key in
      let rest = all_outside (drop from hs) (λ k l. rw (get_or-drop from hs k no_handle, ← get_or-map key hs (from + k) no_handle 0 (omega (arith, l, length-drop from hs))) (none (from + k) (omega arith) (omega (arith, l, long, length-drop from hs)))) in
      let split = sym (take-append-drop from hs) in (
        ap (inside_of cells r) split ∙ filter-append (λ h. is_in r (key h)) (take from hs) (drop from hs) ∙ ap (λ ys. inside_of cells r (take from hs) ++ ys) rest.0 ∙ append-nil (inside_of cells r (take from hs)),
        ap (outside_of cells r) split ∙ filter-append (λ h. not (is_in r (key h))) (take from hs) (drop from hs) ∙ ap (λ ys. outside_of cells r (take from hs) ++ ys) rest.1,
      )

  -- none from the first place on up to the first that is found
  pub first-none : (hs : List Handle) (first : ℕ) → Finds r (keys_at cells hs) 0 (Some first) → inside_of cells r (take first hs) ≡ []
  first-none hs first finds = (found hs 0 first finds).inside_before

  -- the list without the row that was found
  removed : (hs : List Handle) (place : ℕ) → place < length hs → remove hs place ≡ take place hs ++ drop (suc place) hs
  removed [] place within = absurd (omega (arith, within))
  removed (h ∷ hs) zero within = refl
  removed (h ∷ hs) (suc place) within = ap (λ ys. h ∷ ys) (removed hs place (omega (arith, within)))

  parted : (hs : List Handle) (place : ℕ) → place < length hs → hs ≡ take place hs ++ get_or hs place no_handle ∷ drop (suc place) hs
  parted [] place within = absurd (omega (arith, within))
  parted (h ∷ hs) zero within = refl
  parted (h ∷ hs) (suc place) within = ap (λ ys. h ∷ ys) (parted hs place (omega (arith, within)))

  pub record IsWithout (hs : List Handle) (place : ℕ) : Type 0 where
    pub within : place ≤ length (remove hs place)
    pub passed : inside_of cells r (take place (remove hs place)) ≡ []
    pub inside : inside_of cells r hs ≡ get_or hs place no_handle ∷ inside_of cells r (remove hs place)
    pub outside : outside_of cells r (remove hs place) ≡ outside_of cells r hs
    pub shorter : length (remove hs place) + 1 ≡ length hs

  pub without : (hs : List Handle) (from place : ℕ) → Finds r (keys_at cells hs) from (Some place) → inside_of cells r (take from hs) ≡ [] → IsWithout hs place
  without hs from place finds passed =
      let one = found hs from place finds in
      let x : Handle = get_or hs place no_handle in
      let front : List Handle = take place hs in
      let back : List Handle = drop (suc place) hs in
      let gone = removed hs place one.within in
      let parts = parted hs place one.within in
      let none : inside_of cells r front ≡ [] = one.inside_before ∙ passed in
      let only = one_inside x one.is_in in
      let long : length front ≡ place = length-take-le place hs (omega (arith, one.within)) in
      let test = λ (h : Handle). is_in r (key h) in
      let untest = λ (h : Handle). not (is_in r (key h)) in
      let back_inside : inside_of cells r (x ∷ back) ≡ x ∷ inside_of cells r back = rw (is_in-true r (key x) one.is_in) refl in
      let back_outside : outside_of cells r (x ∷ back) ≡ outside_of cells r back = rw (is_in-true r (key x) one.is_in) refl in
      let still : inside_of cells r (remove hs place) ≡ inside_of cells r back = ap (inside_of cells r) gone ∙ filter-append test front back ∙ ap (λ ys. ys ++ inside_of cells r back) none in
      let first : take place (front ++ back) ≡ front = take_front front back place long in
      record {
        within = rw gone (omega (arith, long, length-append front back));
        passed = rw (gone, first) none;
        inside = ap (inside_of cells r) parts ∙ filter-append test front (x ∷ back) ∙ ap (λ ys. ys ++ inside_of cells r (x ∷ back)) none ∙ back_inside ∙ ap (λ ys. x ∷ ys) (sym still);
        outside = ap (outside_of cells r) gone ∙ filter-append untest front back ∙ ap (λ ys. outside_of cells r front ++ ys) (sym back_outside) ∙ sym (ap (outside_of cells r) parts ∙ filter-append untest front (x ∷ back));
        shorter = rw gone (omega (arith, ap length parts, length-append front (x ∷ back), length-append front back));
      }
    where
      take_front : (xs ys : List Handle) (n : ℕ) → length xs ≡ n → take n (xs ++ ys) ≡ xs
      take_front [] ys zero is = refl
      take_front [] ys (suc n) is = absurd (omega (arith, is))
      take_front (x ∷ xs) ys zero is = absurd (omega (arith, is))
      take_front (x ∷ xs) ys (suc n) is = ap (λ zs. x ∷ zs) (take_front xs ys n (omega (arith, is)))

-- each of those that are left without one was there before
pub All-removed : (P : Handle → Type 0) (hs : List Handle) (place : ℕ) → place < length hs → All P hs → All P (remove hs place)
All-removed P [] place within all = absurd (omega (arith, within))
All-removed P (h ∷ hs) zero within all = All-tail P h hs all
All-removed P (h ∷ hs) (suc place) within all = All-cons P h (remove hs place) (All-head P h hs all) (All-removed P hs place (omega (arith, within)) (All-tail P h hs all))

-- no more are inside than there are
pub inside-few : (cells : List (Cell Row)) (r : Range) (hs : List Handle) → length (inside_of cells r hs) ≤ length hs
inside-few cells r [] = omega arith
inside-few cells r (h ∷ hs) = elim (cases_Bool (is_in r (key_at cells h))) [
  | inl is ↦
      let some : inside_of cells r (h ∷ hs) ≡ h ∷ inside_of cells r hs = rw is refl in
      omega (arith, ap length some, inside-few cells r hs)
  | inr out ↦
      let rest : inside_of cells r (h ∷ hs) ≡ inside_of cells r hs = rw out refl in
      omega (arith, ap length rest, inside-few cells r hs)
]

-- the rows after the first ones, this many, and one more
pub drop-push : {X : Type 0} (n : ℕ) (xs : List X) (x : X) → n ≤ length xs → drop n (xs ++ x ∷ []) ≡ drop n xs ++ x ∷ []
drop-push zero xs x within = refl
drop-push (suc n) [] x within = absurd (omega (arith, within))
drop-push (suc n) (y ∷ ys) x within = drop-push n ys x (omega (arith, within))

-- what is remembered of the rows after the first ones, this many, is what they read
pub behind-read : (cells : List (Cell Row)) (n : ℕ) (c : Column) → length c.remembered ≡ length c.handles → drop n c.remembered ≡ map (memory_at cells) (drop n c.handles) → AreRead cells n (length c.handles) c
behind-read cells n c beside read =
    let memories : between n (length c.handles) c.remembered ≡ drop n c.remembered = ap (λ k. take (k - n) (drop n c.remembered)) (sym beside) ∙ take_rest c.remembered n in
    memories ∙ read ∙ ap (map (memory_at cells)) (sym (take_rest c.handles n))
