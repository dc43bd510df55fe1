-- Rows that are sifted through a piece stay the same rows, and sifting tags sifts their handles.
use Rattle.std.proofs.Common.{◌≡◌, ℕ, ◌+◌, ◌-◌, ◌<◌, ◌≤◌, cond, ltb, zero, suc, List, [], ◌∷◌, ◌++◌, length, map, get_or, take, drop, refl, sym, ap, ◌∙◌, inl, inr, arith}
use borrow.Rule.Slice.PartMut.{post_of}
use Rattle.std.specs.List.{All, between}
use Rattle.std.specs.List.Sorted.{IsPermutation}
use Rattle.std.proofs.lemmas.Bool.{cases_lt, lt-ltb, le-ltb}
use Rattle.std.proofs.lemmas.List.{append-nil, append_assoc, map-append, take-append-drop, drop-drop, drop-take, take-append-le, take_all, length-map, length-take-le, get_or-map}
use Rattle.std.proofs.lemmas.List.Edits.{length-between}
use Rattle.std.proofs.lemmas.List.Elements.{All-head, All-tail, All-filter}
use Rattle.std.proofs.lemmas.List.Sorted.{IsPermutation-refl, IsPermutation-sym, IsPermutation-trans, IsPermutation-cons, IsPermutation-map, IsPermutation-to_front, IsPermutation-append_left, All-permutation, length_permutation}
use Rattle.std.proofs.Math.Seq.{drop-append_seam}
use Rattle.crack_arena.specs.Arena.{Cell, no_handle}
use Rattle.crack_arena.specs.Rows.{key_at, unknown}
use Rattle.crack_arena.proofs.Times.{times-IsPermutation}
use Rattle.crack_row.specs.declared.Row.{Row}
use Rattle.crack_row.specs.declared.Payload.{Payload}
use Rattle.crack_tags.specs.declared.label.Label.{Label}
use Rattle.crack_column.specs.declared.tag.Tag.{Tag}
use Rattle.crack_arena.specs.Memories.{Memory, nothing, memory_at, Remembers}
use Rattle.crack_column.specs.Places.{memory_of, tag_handle, handles_in, remembered_in}
use Rattle.crack_column.specs.Keeps.{remembered_key, unread_in}
use Rattle.crack_column.specs.Inside.{no_tag, forgotten, KnowsRow, Read, SiftsTags}
use Rattle.crack_column.specs.Labels.{tags_of}
use Rattle.crack_column.specs.Sifts.{turned_once, one_if_some, below_bound, queued, made_way}
use Rattle.crack_column.proofs.LabelLaws.{between-tags_of, replaced-tags_of, part_put}
use Rattle.crack_column.proofs.PlaceLaws.{Reorders, standing, over_tags, stretch_of, Knows-Remembers, handle_in, memory_in, length-in, length-remembered_in}

-- The same rows

turned-permutes : {X : Type 0} (rows : List X) → IsPermutation rows (turned_once rows)
turned-permutes [] = IsPermutation-refl []
turned-permutes (y ∷ ys) = IsPermutation-sym (ys ++ y ∷ []) (y ∷ ys) (IsPermutation-to_front ys y)

module _ {X : Type 0} (key : X → ℕ) where
  queued-under : (bound : ℕ) (x : X) (xs rows : List X) → key x < bound → queued key bound (x ∷ xs) rows ≡ queued key bound xs (turned_once rows)
  queued-under bound x xs rows under = ap (λ b. queued key bound xs (cond b (turned_once rows) (rows ++ x ∷ []))) (lt-ltb (key x) bound under)

  queued-over : (bound : ℕ) (x : X) (xs rows : List X) → bound ≤ key x → queued key bound (x ∷ xs) rows ≡ queued key bound xs (rows ++ x ∷ [])
  queued-over bound x xs rows over = ap (λ b. queued key bound xs (cond b (turned_once rows) (rows ++ x ∷ []))) (le-ltb (key x) bound over)

  made_way-under : (bound : ℕ) (x : X) (xs rows : List X) → key x < bound → made_way key bound (x ∷ xs) rows ≡ one_if_some rows + made_way key bound xs (turned_once rows)
  made_way-under bound x xs rows under = ap (λ b. cond b (one_if_some rows + made_way key bound xs (turned_once rows)) (made_way key bound xs (rows ++ x ∷ []))) (lt-ltb (key x) bound under)

  made_way-over : (bound : ℕ) (x : X) (xs rows : List X) → bound ≤ key x → made_way key bound (x ∷ xs) rows ≡ made_way key bound xs (rows ++ x ∷ [])
  made_way-over bound x xs rows over = ap (λ b. cond b (one_if_some rows + made_way key bound xs (turned_once rows)) (made_way key bound xs (rows ++ x ∷ []))) (le-ltb (key x) bound over)

  below-under : (bound : ℕ) (x : X) (xs : List X) → key x < bound → below_bound key bound (x ∷ xs) ≡ x ∷ below_bound key bound xs
  below-under bound x xs under = rw (lt-ltb (key x) bound under) refl

  below-over : (bound : ℕ) (x : X) (xs : List X) → bound ≤ key x → below_bound key bound (x ∷ xs) ≡ below_bound key bound xs
  below-over bound x xs over = rw (le-ltb (key x) bound over) refl

  queued-permutes : (bound : ℕ) (xs rows : List X) → IsPermutation (rows ++ xs) (below_bound key bound xs ++ queued key bound xs rows)
  queued-permutes bound [] rows = rw (append-nil rows) (IsPermutation-refl rows)
  queued-permutes bound (x ∷ xs) rows = elim (cases_lt (key x) bound) [
    | inl under ↦
        let rest = queued-permutes bound xs (turned_once rows) in
        let first : IsPermutation (rows ++ x ∷ xs) (x ∷ (rows ++ xs)) = rw (append_assoc rows (x ∷ []) xs) at (IsPermutation-append_left xs (rows ++ x ∷ []) (x ∷ rows) (IsPermutation-to_front rows x)) in
        let second : IsPermutation (rows ++ xs) (turned_once rows ++ xs) = IsPermutation-append_left xs rows (turned_once rows) (turned-permutes rows) in
        let both = IsPermutation-trans (rows ++ xs) (turned_once rows ++ xs) (below_bound key bound xs ++ queued key bound xs (turned_once rows)) second rest in
        let whole = IsPermutation-trans (rows ++ x ∷ xs) (x ∷ (rows ++ xs)) (x ∷ (below_bound key bound xs ++ queued key bound xs (turned_once rows))) first (IsPermutation-cons x (rows ++ xs) (below_bound key bound xs ++ queued key bound xs (turned_once rows)) both) in
        rw (below-under bound x xs under, queued-under bound x xs rows under) whole
    | inr over ↦
        let rest : IsPermutation (rows ++ x ∷ xs) (below_bound key bound xs ++ queued key bound xs (rows ++ x ∷ [])) = rw (append_assoc rows (x ∷ []) xs) at (queued-permutes bound xs (rows ++ x ∷ [])) in
        rw (below-over bound x xs over, queued-over bound x xs rows over) rest
  ]

  pub below-few : (bound : ℕ) (xs : List X) → length (below_bound key bound xs) ≤ length xs
  below-few bound [] = omega arith
  below-few bound (x ∷ xs) = elim (cases_lt (key x) bound) [
    | inl under ↦ rw (below-under bound x xs under) (omega (arith, below-few bound xs))
    | inr over ↦ rw (below-over bound x xs over) (omega (arith, below-few bound xs))
  ]

-- What is read from the rows

map-turned : {X Y : Type 0} (f : X → Y) (rows : List X) → map f (turned_once rows) ≡ turned_once (map f rows)
map-turned f [] = refl
map-turned f (y ∷ ys) = map-append f ys (y ∷ [])

some-map : {X Y : Type 0} (f : X → Y) (rows : List X) → one_if_some (map f rows) ≡ one_if_some rows
some-map f [] = refl
some-map f (y ∷ ys) = refl

module _ {X Y : Type 0} (f : X → Y) (key : X → ℕ) (key' : Y → ℕ) where
  -- both have the same key
  abbrev pub SameKey : X → Type 0
  SameKey x = key x ≡ key' (f x)

  map-below : (bound : ℕ) (xs : List X) → All SameKey xs → map f (below_bound key bound xs) ≡ below_bound key' bound (map f xs)
  map-below bound [] all = refl
  map-below bound (x ∷ xs) all =
      let same = All-head SameKey x xs all in
      let rest = map-below bound xs (All-tail SameKey x xs all) in
      elim (cases_lt (key x) bound) [
        | inl under ↦ ap (map f) (below-under key bound x xs under) ∙ ap (λ ys. f x ∷ ys) rest ∙ sym (below-under key' bound (f x) (map f xs) (omega (arith, under, same)))
        | inr over ↦ ap (map f) (below-over key bound x xs over) ∙ rest ∙ sym (below-over key' bound (f x) (map f xs) (omega (arith, over, same)))
      ]

  map-queued : (bound : ℕ) (xs rows : List X) → All SameKey xs → map f (queued key bound xs rows) ≡ queued key' bound (map f xs) (map f rows)
  map-queued bound [] rows all = refl
  map-queued bound (x ∷ xs) rows all =
      let same = All-head SameKey x xs all in
      let others = All-tail SameKey x xs all in
      elim (cases_lt (key x) bound) [
        | inl under ↦ ap (map f) (queued-under key bound x xs rows under) ∙ map-queued bound xs (turned_once rows) others ∙ ap (queued key' bound (map f xs)) (map-turned f rows) ∙ sym (queued-under key' bound (f x) (map f xs) (map f rows) (omega (arith, under, same)))
        | inr over ↦ ap (map f) (queued-over key bound x xs rows over) ∙ map-queued bound xs (rows ++ x ∷ []) others ∙ ap (queued key' bound (map f xs)) (map-append f rows (x ∷ [])) ∙ sym (queued-over key' bound (f x) (map f xs) (map f rows) (omega (arith, over, same)))
      ]

  map-made_way : (bound : ℕ) (xs rows : List X) → All SameKey xs → made_way key bound xs rows ≡ made_way key' bound (map f xs) (map f rows)
  map-made_way bound [] rows all = refl
  map-made_way bound (x ∷ xs) rows all =
      let same = All-head SameKey x xs all in
      let others = All-tail SameKey x xs all in
      elim (cases_lt (key x) bound) [
        | inl under ↦
            let rest : made_way key bound xs (turned_once rows) ≡ made_way key' bound (map f xs) (turned_once (map f rows)) = map-made_way bound xs (turned_once rows) others ∙ ap (made_way key' bound (map f xs)) (map-turned f rows) in
            omega (arith, made_way-under key bound x xs rows under, rest, some-map f rows, made_way-under key' bound (f x) (map f xs) (map f rows) (omega (arith, under, same)))
        | inr over ↦ made_way-over key bound x xs rows over ∙ map-made_way bound xs (rows ++ x ∷ []) others ∙ ap (made_way key' bound (map f xs)) (map-append f rows (x ∷ [])) ∙ sym (made_way-over key' bound (f x) (map f xs) (map f rows) (omega (arith, over, same)))
      ]

-- Parts of tags

module _ {X : Type 0} where
  take_less : (i n : ℕ) (xs : List X) → i ≤ n → take i (take n xs) ≡ take i xs
  take_less zero n xs few = refl
  take_less (suc i) zero xs few = absurd (omega arith)
  take_less (suc i) (suc n) [] few = refl
  take_less (suc i) (suc n) (x ∷ xs) few = ap (λ ys. x ∷ ys) (take_less i n xs (omega arith))

  stretch_before : (xs : List X) (start from to : ℕ) → start ≤ from → from ≤ to → take (from - start) (between start to xs) ≡ between start from xs
  stretch_before xs start from to order behind = take_less (from - start) (to - start) (drop start xs) (omega arith)

  stretch_behind : (xs : List X) (start from to : ℕ) → start ≤ from → from ≤ to → drop (from - start) (between start to xs) ≡ between from to xs
  stretch_behind xs start from to order behind =
      let both : to - start ≡ (from - start) + (to - from) = omega arith in
      let on : start + (from - start) ≡ from = omega arith in
      ap (λ n. drop (from - start) (take n (drop start xs))) both ∙ drop-take (from - start) (to - from) (drop start xs) ∙ ap (take (to - from)) (drop-drop (from - start) start xs) ∙ ap (λ n. take (to - from) (drop n xs)) on

  stretch_both : (xs : List X) (start from to : ℕ) → start ≤ from → from ≤ to → between start to xs ≡ between start from xs ++ between from to xs
  stretch_both xs start from to order behind =
      sym (take-append-drop (from - start) (between start to xs)) ∙ rw (stretch_before xs start from to order behind, stretch_behind xs start from to order behind) refl

-- a stretch of both lists was sifted
pub SiftsTags-parts : (bound start from to : ℕ) (ls ls' : List Label) (ps ps' : List Payload) (n m below moved : ℕ) → start ≤ from → from ≤ to → to ≤ length ls → length ps ≡ length ls → n ≡ length ls → m ≡ length ps → length ls' ≡ to - start → length ps' ≡ to - start →
    tags_of ls' ps' ≡ below_bound remembered_key bound (drop (from - start) (tags_of (between start to ls) (between start to ps))) ++ queued remembered_key bound (drop (from - start) (tags_of (between start to ls) (between start to ps))) (take (from - start) (tags_of (between start to ls) (between start to ps))) →
    below ≡ length (below_bound remembered_key bound (drop (from - start) (tags_of (between start to ls) (between start to ps)))) → moved ≡ made_way remembered_key bound (drop (from - start) (tags_of (between start to ls) (between start to ps))) (take (from - start) (tags_of (between start to ls) (between start to ps))) →
    SiftsTags bound start from to (tags_of ls ps)
    (tags_of (take n ((take start ls ++ (ls' ++ post_of start (to - start) ls)) ++ drop (length (take start ls ++ (ls' ++ post_of start (to - start) ls))) ls))
    (take m ((take start ps ++ (ps' ++ post_of start (to - start) ps)) ++ drop (length (take start ps ++ (ps' ++ post_of start (to - start) ps))) ps)))
    below moved
SiftsTags-parts bound start from to ls ls' ps ps' n m below moved order behind within beside whole_labels whole_payloads long_labels long_payloads are count way =
    let parts = part_put start to n ls ls' (omega arith) within whole_labels long_labels in
    let sides = part_put start to m ps ps' (omega arith) (omega (arith, beside)) whole_payloads long_payloads in
    let ts = tags_of ls ps in
    let same = between-tags_of start to ls ps in
    let last : drop (from - start) (tags_of (between start to ls) (between start to ps)) ≡ between from to ts = ap (drop (from - start)) same ∙ stretch_behind ts start from to order behind in
    let first : take (from - start) (tags_of (between start to ls) (between start to ps)) ≡ between start from ts = ap (take (from - start)) same ∙ stretch_before ts start from to order behind in
    let now : tags_of ls' ps' ≡ below_bound remembered_key bound (between from to ts) ++ queued remembered_key bound (between from to ts) (between start from ts) = rw (last, first) at are in
    rw (parts, sides, replaced-tags_of start to ls ls' ps ps' (omega arith) beside (long_payloads ∙ sym long_labels)) (record {
      are = ap (λ us. take start ts ++ us ++ drop to ts) now;
      below_is = count ∙ ap (λ us. length (below_bound remembered_key bound us)) last;
      moved_is = rw (last, first) at way;
    })

-- The column

module _ (bound start from to : ℕ) (ts ts' : List Tag) (below moved len : ℕ) (fits : len ≤ length ts) (order : start ≤ from) (behind : from ≤ to) (end : to ≤ len) (sifts : SiftsTags bound start from to ts ts' below moved) where
  abbrev pub came : List Tag
  came = between from to ts

  abbrev pub stood : List Tag
  stood = between start from ts

  abbrev pub now : List Tag
  now = below_bound remembered_key bound came ++ queued remembered_key bound came stood

  pub permuted : IsPermutation (between start to ts) now
  permuted = rw (stretch_both ts start from to order behind) (queued-permutes remembered_key bound came stood)

  pub fewer : unread_in now + 0 ≡ unread_in (between start to ts)
  fewer = omega (arith, times-IsPermutation unknown (map remembered_key (between start to ts)) (map remembered_key now) (IsPermutation-map remembered_key (between start to ts) now permuted))

  abbrev pub reordered : Reorders start to ts ts' 0
  reordered = record { stretch = now; are = sifts.are; kept = IsPermutation-map forgotten (between start to ts) now permuted; fewer = fewer }

  pub few : below ≤ to - from
  few = omega (arith, sifts.below_is, below-few remembered_key bound came, length-between ts from to (omega (arith, fits)))

  pub Remembers-sifted : (cells : List (Cell Row)) → Remembers cells (handles_in ts len) (remembered_in ts len) → Remembers cells (handles_in ts' len) (remembered_in ts' len)
  Remembers-sifted cells remembers =
      let there = standing start to ts ts' 0 len fits (omega arith) end reordered in
      let within : len ≤ length ts' = omega (arith, there.len, fits) in
      let known = All-permutation (KnowsRow cells) (between start to ts) now permuted (Knows-Remembers cells ts len start to fits end remembers) in
      let long : length now ≡ to - start = length_permutation (between start to ts) now permuted ∙ length-between ts start to (omega (arith, fits)) in
      let old : (k : ℕ) → k < len → KnowsRow cells (get_or ts k no_tag) = λ k l. rw (memory_in ts len k nothing fits l, handle_in ts len k no_handle fits l) at (remembers.right k no_handle (omega (arith, length-in ts len fits))) in
      record {
        beside = length-remembered_in ts' len within ∙ sym (length-in ts' len within);
        right = λ k d l.
            let inside : k < len = omega (arith, length-in ts' len within) in
            rw (memory_in ts' len k nothing within inside, handle_in ts' len k d within inside) (elim (cases_lt k start) [
              | inl b ↦ rw (there.before k no_tag b) (old k inside)
              | inr g ↦ elim (cases_lt k to) [
                | inl m ↦ rw (there.inside k no_tag g m) (known (k - start) no_tag (omega (arith, long)))
                | inr e ↦ rw (there.behind k no_tag e) (old k inside)
              ]
            ]);
      }

  -- with cells whose rows the incoming handles read
  module _ (cells : List (Cell Row)) (read : between from to (remembered_in ts len) ≡ map (memory_at cells) (between from to (handles_in ts len))) where
    all_read : All (Read cells) came
    all_read = reads came (sym (stretch_of memory_of nothing ts len from to fits end) ∙ read ∙ ap (map (memory_at cells)) (stretch_of tag_handle no_handle ts len from to fits end))
      where
        reads : (us : List Tag) → map memory_of us ≡ map (memory_at cells) (map tag_handle us) → All (Read cells) us
        reads us same = λ k d l.
            let one = ap (λ ms. get_or ms k nothing) same in
            rw (get_or-map memory_of us k d nothing l, get_or-map (memory_at cells) (map tag_handle us) k no_handle nothing (omega (arith, length-map us tag_handle)), get_or-map tag_handle us k d no_handle l) at one

    same_keys : All (SameKey tag_handle remembered_key (key_at cells)) came
    same_keys = λ k d l. ap (λ (m : Memory). m.key) (all_read k d l)

    came_is : map tag_handle came ≡ between from to (handles_in ts len)
    came_is = sym (stretch_of tag_handle no_handle ts len from to fits end)

    stood_is : map tag_handle stood ≡ between start from (handles_in ts len)
    stood_is = sym (stretch_of tag_handle no_handle ts len start from fits (omega arith))

    below_handles : map tag_handle (below_bound remembered_key bound came) ≡ below_bound (key_at cells) bound (between from to (handles_in ts len))
    below_handles = map-below tag_handle remembered_key (key_at cells) bound came same_keys ∙ ap (below_bound (key_at cells) bound) came_is

    pub handles-sifted : handles_in ts' len ≡ take start (handles_in ts len) ++ (below_bound (key_at cells) bound (between from to (handles_in ts len)) ++ queued (key_at cells) bound (between from to (handles_in ts len)) (between start from (handles_in ts len))) ++ drop to (handles_in ts len)
    handles-sifted =
        let left_of = map-queued tag_handle remembered_key (key_at cells) bound came stood same_keys in
        let queue : map tag_handle (queued remembered_key bound came stood) ≡ queued (key_at cells) bound (between from to (handles_in ts len)) (between start from (handles_in ts len)) = left_of ∙ rw (came_is, stood_is) refl in
        let middle = map-append tag_handle (below_bound remembered_key bound came) (queued remembered_key bound came stood) in
        over_tags start to ts ts' 0 len fits (omega arith) end reordered tag_handle no_handle ∙ ap (λ us. take start (handles_in ts len) ++ us ++ drop to (handles_in ts len)) (middle ∙ rw (below_handles, queue) refl)

    pub below-sifted : below ≡ length (below_bound (key_at cells) bound (between from to (handles_in ts len)))
    below-sifted = sifts.below_is ∙ sym (length-map (below_bound remembered_key bound came) tag_handle) ∙ ap length below_handles

    pub moved-sifted : moved ≡ made_way (key_at cells) bound (between from to (handles_in ts len)) (between start from (handles_in ts len))
    moved-sifted = sifts.moved_is ∙ map-made_way tag_handle remembered_key (key_at cells) bound came stood same_keys ∙ rw (came_is, stood_is) refl

    -- the first of them now
    first_of : {X : Type 0} (f : Tag → X) (d : X) → between start (start + below) (map f (take len ts')) ≡ map f (below_bound remembered_key bound came)
    first_of {X = X} f d =
        let there = over_tags start to ts ts' 0 len fits (omega arith) end reordered f d in
        let front : List X = take start (map f (take len ts)) in
        let lower : List X = map f (below_bound remembered_key bound came) in
        let rest : List X = map f (queued remembered_key bound came stood) in
        let back : List X = drop to (map f (take len ts)) in
        let long : length front ≡ start = length-take-le start (map f (take len ts)) (omega (arith, length-map (take len ts) f, length-take-le len ts fits)) in
        let count : start + below - start ≡ length lower = omega (arith, sifts.below_is, length-map (below_bound remembered_key bound came) f) in
        let split : front ++ map f now ++ back ≡ front ++ (lower ++ (rest ++ back)) = append_assoc front (map f now) back ∙ ap (λ us. front ++ us) (ap (λ us. us ++ back) (map-append f (below_bound remembered_key bound came) (queued remembered_key bound came stood)) ∙ append_assoc lower rest back) in
        let behind_front : drop start (front ++ (lower ++ (rest ++ back))) ≡ lower ++ (rest ++ back) = ap (λ n. drop n (front ++ (lower ++ (rest ++ back)))) (sym long) ∙ drop-append_seam front (lower ++ (rest ++ back)) in
        ap (between start (start + below)) (there ∙ split) ∙ ap (take (start + below - start)) behind_front ∙ ap (λ n. take n (lower ++ (rest ++ back))) count ∙ take-append-le (length lower) lower (rest ++ back) (omega arith) ∙ take_all (length lower) lower (omega arith)

    pub read-sifted : between start (start + below) (remembered_in ts' len) ≡ map (memory_at cells) (between start (start + below) (handles_in ts' len))
    read-sifted =
        let lower : List Tag = below_bound remembered_key bound came in
        first_of memory_of nothing ∙ as_read lower (All-filter (λ t. ltb (remembered_key t) bound) (Read cells) came all_read) ∙ ap (map (memory_at cells)) (sym (first_of tag_handle no_handle))
      where
        as_read : (us : List Tag) → All (Read cells) us → map memory_of us ≡ map (memory_at cells) (map tag_handle us)
        as_read [] all = refl
        as_read (u ∷ us) all = rw (All-head (Read cells) u us all, as_read us (All-tail (Read cells) u us all)) refl
