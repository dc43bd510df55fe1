-- The rows at two places of a column change places.
use Rattle.std.proofs.Common.{◌≡◌, ℕ, ◌<◌, ◌≤◌, List, [], ◌∷◌, length, map, get_or, set, take, refl, ap, ◌∙◌, arith, length-set}
use Rattle.std.specs.List.Sorted.{IsPermutation}
use Rattle.std.proofs.lemmas.List.{get_or_default, map-set, drop-set-lt, length-take-le, get_or-map, get_or-take}
use Rattle.std.proofs.lemmas.List.Sorted.{IsPermutation-map, IsPermutation-swap}
use Rattle.std.proofs.Math.Seq.{take-set-lt}
use Rattle.crack_arena.specs.Arena.{Cell, Handle, no_handle}
use Rattle.crack_arena.specs.Rows.{unknown}
use Rattle.crack_arena.proofs.Times.{times-IsPermutation}
use Rattle.crack_row.specs.declared.Row.{Row}
use Rattle.crack_column.specs.declared.tag.Tag.{Tag}
use Rattle.crack_arena.specs.Memories.{Memory, nothing, Remembers}
use Rattle.crack_column.specs.Column.{swapped}
use Rattle.crack_column.specs.Places.{memory_of, tag_handle, handles_in, remembered_in, aside_of, aside_in}
use Rattle.crack_column.specs.Keeps.{remembered_key, unread_in}
use Rattle.crack_column.specs.Inside.{no_tag}
use Rattle.crack_arena.proofs.Remembering.{Remembers-set}

module _ {X : Type 0} (d : X) (i j : ℕ) (xs : List X) (first : i < length xs) (second : j < length xs) where
  pub length-swapped : length (swapped d i j xs) ≡ length xs
  length-swapped = length-set (set xs i (get_or xs j d)) j (get_or xs i d) ∙ length-set xs i (get_or xs j d)

  pub swapped-permutes : IsPermutation xs (swapped d i j xs)
  swapped-permutes = of_list xs first second
    where
      of_list : (ys : List X) → i < length ys → j < length ys → IsPermutation ys (swapped d i j ys)
      of_list [] one two = absurd (omega (arith, one))
      of_list (e ∷ ys) one two = IsPermutation-swap (e ∷ ys) (swapped d i j (e ∷ ys)) i j one two (λ k. set (set (e ∷ ys) i (get_or_default (e ∷ ys) j d e two k)) j (get_or_default (e ∷ ys) i d e one k))

module _ (ts : List Tag) (len i j : ℕ) (fits : len ≤ length ts) (first : i < len) (second : j < len) where
  abbrev now : List Tag
  now = swapped no_tag i j ts

  first_all : i < length ts
  first_all = omega (arith, first, fits)

  second_all : j < length ts
  second_all = omega (arith, second, fits)

  pub length-now : length now ≡ length ts
  length-now = length-swapped no_tag i j ts first_all second_all

  pub first_tags : take len now ≡ swapped no_tag i j (take len ts)
  first_tags =
      take-set-lt len (set ts i (get_or ts j no_tag)) j (get_or ts i no_tag) second ∙ ap (λ us. set us j (get_or ts i no_tag)) (take-set-lt len ts i (get_or ts j no_tag) first) ∙ rw (get_or-take len ts j no_tag second, get_or-take len ts i no_tag first) refl

  long : length (take len ts) ≡ len
  long = length-take-le len ts fits

  map-swapped : {X : Type 0} (f : Tag → X) (d : X) → map f (take len now) ≡ swapped d i j (map f (take len ts))
  map-swapped {X = X} f d =
      let us : List Tag = take len ts in
      ap (map f) first_tags ∙ map-set f (set us i (get_or us j no_tag)) j (get_or us i no_tag) ∙ ap (λ ys. set ys j (f (get_or us i no_tag))) (map-set f us i (get_or us j no_tag)) ∙ rw (get_or-map f us i no_tag d (omega (arith, first, long)), get_or-map f us j no_tag d (omega (arith, second, long))) refl

  pub handles-swap : handles_in now len ≡ swapped no_handle i j (handles_in ts len)
  handles-swap = map-swapped tag_handle no_handle

  pub remembered-swap : remembered_in now len ≡ swapped nothing i j (remembered_in ts len)
  remembered-swap = map-swapped memory_of nothing

  pub unread-swap : unread_in (take len now) ≡ unread_in (take len ts)
  unread-swap =
      let us : List Tag = take len ts in
      let kept = IsPermutation-map remembered_key us (swapped no_tag i j us) (swapped-permutes no_tag i j us (omega (arith, first, long)) (omega (arith, second, long))) in
      ap unread_in first_tags ∙ times-IsPermutation unknown (map remembered_key us) (map remembered_key (swapped no_tag i j us)) kept

  pub aside-swap : aside_in now len ≡ aside_in ts len
  aside-swap = ap (map aside_of) (drop-set-lt len (set ts i (get_or ts j no_tag)) j (get_or ts i no_tag) second ∙ drop-set-lt len ts i (get_or ts j no_tag) first)

pub Remembers-swap : (cells : List (Cell Row)) (hs : List Handle) (ms : List Memory) (i j : ℕ) → i < length hs → j < length hs → Remembers cells hs ms → Remembers cells (swapped no_handle i j hs) (swapped nothing i j ms)
Remembers-swap cells hs ms i j first second r =
    Remembers-set cells (set hs i (get_or hs j no_handle)) (set ms i (get_or ms j nothing)) j (get_or hs i no_handle) (get_or ms i nothing) (r.right i no_handle first) (Remembers-set cells hs ms i (get_or hs j no_handle) (get_or ms j nothing) (r.right j no_handle second) r)
