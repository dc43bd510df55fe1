-- Laws of tags that are kept as labels and payloads.
use Rattle.std.proofs.Common.{◌≡◌, ℕ, zero, suc, ◌+◌, ◌-◌, ◌<◌, ◌≤◌, List, [], ◌∷◌, ◌++◌, length, map, get_or, set, take, drop, refl, sym, ap, ◌∙◌, arith, length-append, length-set}
use borrow.Rule.Slice.PartMut.{post_of}
use Rattle.std.specs.List.{All, between}
use Rattle.std.specs.List.Sorted.{IsPermutation}
use Rattle.std.proofs.lemmas.List.{length-take-le, length-drop, drop-drop, take_all, take-append-le, append_assoc, length-map, get_or_default}
use Rattle.std.proofs.lemmas.Slice.{between_is}
use Rattle.crack_arena.specs.Arena.{Cell, Handle}
use Rattle.crack_arena.specs.Memories.{Memory}
use Rattle.crack_tags.specs.Tags.{memory_with, memories_of}
use Rattle.crack_row.specs.declared.Row.{Row}
use Rattle.crack_row.specs.Rows.{amount, total_by}
use Rattle.crack_row.specs.declared.Payload.{Payload}
use Rattle.crack_row.proofs.Totals.{total_by-map}
use Rattle.crack_tags.specs.declared.label.Label.{Label}
use Rattle.crack_column.specs.declared.tag.Tag.{Tag}
use Rattle.crack_column.specs.Column.{IsDividedAt}
use Rattle.crack_column.specs.Places.{tag_handle, memory_of}
use Rattle.crack_column.specs.Keeps.{remembered_key, unread_in}
use Rattle.crack_column.specs.Inside.{no_tag, label_of, label_handle, shifted, turned, forgotten, Read, TurnsTags}
use Rattle.crack_column.specs.Labels.{tag_of, tags_of}
use Rattle.crack_column.proofs.Passes.{amount_borne}

abbrev pub no_label : Label
no_label = label_of no_tag

pub length-tags_of : (ls : List Label) (ps : List Payload) → length ps ≡ length ls → length (tags_of ls ps) ≡ length ls
length-tags_of [] ps beside = refl
length-tags_of (l ∷ ls) [] beside = absurd (omega (arith, beside))
length-tags_of (l ∷ ls) (p ∷ ps) beside = omega (arith, length-tags_of ls ps (omega (arith, beside)))

pub get_or-tags_of : (ls : List Label) (ps : List Payload) (k : ℕ) → length ps ≡ length ls → get_or (tags_of ls ps) k no_tag ≡ tag_of (get_or ls k no_label) (get_or ps k no_tag.payload)
get_or-tags_of [] [] k beside = refl
get_or-tags_of [] (p ∷ ps) k beside = absurd (omega (arith, beside))
get_or-tags_of (l ∷ ls) [] k beside = absurd (omega (arith, beside))
get_or-tags_of (l ∷ ls) (p ∷ ps) zero beside = refl
get_or-tags_of (l ∷ ls) (p ∷ ps) (suc k) beside = get_or-tags_of ls ps k (omega (arith, beside))

-- a label that was read at a place, with any default
pub label_read : (ls : List Label) (k : ℕ) (l : Label) → k < length ls → l ≡ get_or ls k l → l ≡ get_or ls k no_label
label_read ls k l inside is = is ∙ get_or_default ls k l no_label inside

pub same_read : (ls : List Label) (k : ℕ) (l m : Label) → k < length ls → m ≡ get_or ls k m → get_or ls k l ≡ m
same_read ls k l m inside is = get_or_default ls k l m inside ∙ sym is

pub tag_at : (ls : List Label) (ps : List Payload) (k : ℕ) (l : Label) → length ps ≡ length ls → k < length ls → get_or (tags_of ls ps) k no_tag ≡ tag_of (get_or ls k l) (get_or ps k no_tag.payload)
tag_at ls ps k l beside inside =
    get_or-tags_of ls ps k beside ∙ ap (λ (m : Label). tag_of m (get_or ps k no_tag.payload)) (get_or_default ls k no_label l inside)

pub tag_read : (ls : List Label) (ps : List Payload) (k : ℕ) (l : Label) → length ps ≡ length ls → k < length ls → l ≡ get_or ls k l → get_or (tags_of ls ps) k no_tag ≡ tag_of l (get_or ps k no_tag.payload)
tag_read ls ps k l beside inside is =
    tag_at ls ps k l beside inside ∙ ap (λ (m : Label). tag_of m (get_or ps k no_tag.payload)) (sym is)

pub set-tags_of : (ls : List Label) (ps : List Payload) (k : ℕ) (l : Label) (p : Payload) → tags_of (set ls k l) (set ps k p) ≡ set (tags_of ls ps) k (tag_of l p)
set-tags_of [] ps k l p = refl
set-tags_of (m ∷ ls) [] zero l p = refl
set-tags_of (m ∷ ls) [] (suc k) l p = refl
set-tags_of (m ∷ ls) (q ∷ ps) zero l p = refl
set-tags_of (m ∷ ls) (q ∷ ps) (suc k) l p = ap (λ (ts : List Tag). tag_of m q ∷ ts) (set-tags_of ls ps k l p)

pub take-tags_of : (n : ℕ) (ls : List Label) (ps : List Payload) → tags_of (take n ls) (take n ps) ≡ take n (tags_of ls ps)
take-tags_of zero ls ps = refl
take-tags_of (suc n) [] ps = refl
take-tags_of (suc n) (l ∷ ls) [] = refl
take-tags_of (suc n) (l ∷ ls) (p ∷ ps) = ap (λ (ts : List Tag). tag_of l p ∷ ts) (take-tags_of n ls ps)

tags_of-none : (ls : List Label) → tags_of ls [] ≡ []
tags_of-none [] = refl
tags_of-none (l ∷ ls) = refl

pub drop-tags_of : (n : ℕ) (ls : List Label) (ps : List Payload) → tags_of (drop n ls) (drop n ps) ≡ drop n (tags_of ls ps)
drop-tags_of zero ls ps = refl
drop-tags_of (suc n) [] ps = refl
drop-tags_of (suc n) (l ∷ ls) [] = tags_of-none (drop n ls)
drop-tags_of (suc n) (l ∷ ls) (p ∷ ps) = drop-tags_of n ls ps

pub between-tags_of : (from to : ℕ) (ls : List Label) (ps : List Payload) → tags_of (between from to ls) (between from to ps) ≡ between from to (tags_of ls ps)
between-tags_of from to ls ps =
    rw (between_is ls from to, between_is ps from to, between_is (tags_of ls ps) from to, drop-tags_of from (take to ls) (take to ps), take-tags_of to ls ps) refl

pub append-tags_of : (ls ls' : List Label) (ps ps' : List Payload) → length ps ≡ length ls → tags_of (ls ++ ls') (ps ++ ps') ≡ tags_of ls ps ++ tags_of ls' ps'
append-tags_of [] ls' [] ps' beside = refl
append-tags_of [] ls' (p ∷ ps) ps' beside = absurd (omega (arith, beside))
append-tags_of (l ∷ ls) ls' [] ps' beside = absurd (omega (arith, beside))
append-tags_of (l ∷ ls) ls' (p ∷ ps) ps' beside = ap (λ (ts : List Tag). tag_of l p ∷ ts) (append-tags_of ls ls' ps ps' (omega (arith, beside)))

-- a stretch of both lists is another
pub replaced-tags_of : (from to : ℕ) (ls ls' : List Label) (ps ps' : List Payload) → from ≤ length ls → length ps ≡ length ls → length ps' ≡ length ls' → tags_of (take from ls ++ ls' ++ drop to ls) (take from ps ++ ps' ++ drop to ps) ≡ take from (tags_of ls ps) ++ tags_of ls' ps' ++ drop to (tags_of ls ps)
replaced-tags_of from to ls ls' ps ps' within beside beside' =
    let front : length (take from ps) ≡ length (take from ls) = omega (arith, length-take-le from ls within, length-take-le from ps (omega (arith, beside))) in
    let both : length (take from ps ++ ps') ≡ length (take from ls ++ ls') = omega (arith, front, length-append (take from ps) ps', length-append (take from ls) ls') in
    rw (append-tags_of (take from ls ++ ls') (drop to ls) (take from ps ++ ps') (drop to ps) both, append-tags_of (take from ls) ls' (take from ps) ps' front, take-tags_of from ls ps, drop-tags_of to ls ps) refl

pub handles-tags_of : (ls : List Label) (ps : List Payload) → length ps ≡ length ls → map tag_handle (tags_of ls ps) ≡ map label_handle ls
handles-tags_of [] ps beside = refl
handles-tags_of (l ∷ ls) [] beside = absurd (omega (arith, beside))
handles-tags_of (l ∷ ls) (p ∷ ps) beside = ap (λ (hs : List Handle). label_handle l ∷ hs) (handles-tags_of ls ps (omega (arith, beside)))

payloads-tags_of : (ls : List Label) (ps : List Payload) → length ps ≡ length ls → map (λ (t : Tag). t.payload) (tags_of ls ps) ≡ ps
payloads-tags_of [] [] beside = refl
payloads-tags_of [] (p ∷ ps) beside = absurd (omega (arith, beside))
payloads-tags_of (l ∷ ls) [] beside = absurd (omega (arith, beside))
payloads-tags_of (l ∷ ls) (p ∷ ps) beside = ap (λ (qs : List Payload). p ∷ qs) (payloads-tags_of ls ps (omega (arith, beside)))

-- a sum is read from the payloads alone
pub total-tags_of : (ls : List Label) (ps : List Payload) → length ps ≡ length ls → total_by amount ps ≡ total_by amount_borne (tags_of ls ps)
total-tags_of ls ps beside =
    ap (λ (qs : List Payload). total_by amount qs) (sym (payloads-tags_of ls ps beside)) ∙ total_by-map amount (λ (t : Tag). t.payload) (tags_of ls ps)

-- labels and payloads are put in as tags are
pub shifted-tags_of : (ls : List Label) (ps : List Payload) (gap low : ℕ) (l : Label) (p : Payload) → length ps ≡ length ls → tags_of (set (set ls gap (get_or ls low no_label)) low l) (set (set ps gap (get_or ps low no_tag.payload)) low p) ≡ shifted (tags_of ls ps) gap low (tag_of l p)
shifted-tags_of ls ps gap low l p beside =
    rw (set-tags_of (set ls gap (get_or ls low no_label)) (set ps gap (get_or ps low no_tag.payload)) low l p, set-tags_of ls ps gap (get_or ls low no_label) (get_or ps low no_tag.payload), get_or-tags_of ls ps low beside) refl

pub turned-tags_of : (ls : List Label) (ps : List Payload) (gap upper place : ℕ) (l : Label) (p : Payload) → length ps ≡ length ls →
    tags_of (set (set (set ls gap (get_or ls upper no_label)) upper (get_or (set ls gap (get_or ls upper no_label)) place no_label)) place l)
    (set (set (set ps gap (get_or ps upper no_tag.payload)) upper (get_or (set ps gap (get_or ps upper no_tag.payload)) place no_tag.payload)) place p)
    ≡ turned (tags_of ls ps) gap upper place (tag_of l p)
turned-tags_of ls ps gap upper place l p beside =
    let ls1 = set ls gap (get_or ls upper no_label) in
    let ps1 = set ps gap (get_or ps upper no_tag.payload) in
    let beside1 : length ps1 ≡ length ls1 = omega (arith, beside, length-set ls gap (get_or ls upper no_label), length-set ps gap (get_or ps upper no_tag.payload)) in
    let filled : tags_of ls1 ps1 ≡ set (tags_of ls ps) gap (get_or (tags_of ls ps) upper no_tag) =
    rw (set-tags_of ls ps gap (get_or ls upper no_label) (get_or ps upper no_tag.payload), get_or-tags_of ls ps upper beside) refl in
    let second : tags_of (set ls1 upper (get_or ls1 place no_label)) (set ps1 upper (get_or ps1 place no_tag.payload)) ≡ set (tags_of ls1 ps1) upper (get_or (tags_of ls1 ps1) place no_tag) =
    rw (set-tags_of ls1 ps1 upper (get_or ls1 place no_label) (get_or ps1 place no_tag.payload), get_or-tags_of ls1 ps1 place beside1) refl in
    set-tags_of (set ls1 upper (get_or ls1 place no_label)) (set ps1 upper (get_or ps1 place no_tag.payload)) place l p ∙ ap (λ (ts : List Tag). set ts place (tag_of l p)) (second ∙ ap (λ (ts : List Tag). set ts upper (get_or ts place no_tag)) filled)

-- a vector, after a call borrowed a part of it
pub part_put : {X : Type 0} (from to n : ℕ) (xs new : List X) → from ≤ to → to ≤ length xs → n ≡ length xs → length new ≡ to - from → take n ((take from xs ++ (new ++ post_of from (to - from) xs)) ++ drop (length (take from xs ++ (new ++ post_of from (to - from) xs))) xs) ≡ take from xs ++ new ++ drop to xs
part_put from to n xs new order within whole long =
    let on : from + (to - from) ≡ to = omega arith in
    let behind : post_of from (to - from) xs ≡ drop to xs = rw (drop-drop (to - from) from xs, on) refl in
    let put = take from xs ++ (new ++ post_of from (to - from) xs) in
    let put_long : length put ≡ n = rw behind (omega (arith, length-append (take from xs) (new ++ drop to xs), length-append new (drop to xs), length-take-le from xs (omega arith), length-drop to xs)) in
    rw (take-append-le n put (drop (length put) xs) (omega (arith, put_long)), take_all n put (omega (arith, put_long)), behind) (sym (append_assoc (take from xs) new (drop to xs)))

-- a stretch of both lists was cracked
pub Turns-parts : (cells : List (Cell Row)) (bound from to : ℕ) (ls ls' : List Label) (ps ps' : List Payload) (n m place learned : ℕ) → from ≤ to → to ≤ length ls → length ps ≡ length ls → n ≡ length ls → m ≡ length ps → length ls' ≡ to - from → length ps' ≡ to - from →
    IsPermutation (map forgotten (tags_of (between from to ls) (between from to ps))) (map forgotten (tags_of ls' ps')) → All (Read cells) (tags_of ls' ps') → IsDividedAt bound (map remembered_key (tags_of ls' ps')) place → unread_in (tags_of ls' ps') + learned ≡ unread_in (tags_of (between from to ls) (between from to ps)) →
    TurnsTags cells bound from to (tags_of ls ps)
    (tags_of (take n ((take from ls ++ (ls' ++ post_of from (to - from) ls)) ++ drop (length (take from ls ++ (ls' ++ post_of from (to - from) ls))) ls))
    (take m ((take from ps ++ (ps' ++ post_of from (to - from) ps)) ++ drop (length (take from ps ++ (ps' ++ post_of from (to - from) ps))) ps)))
    (from + place) learned
Turns-parts cells bound from to ls ls' ps ps' n m place learned order within beside whole_labels whole_payloads long_labels long_payloads kept read divided fewer =
    let parts = part_put from to n ls ls' order within whole_labels long_labels in
    let sides = part_put from to m ps ps' order (omega (arith, beside)) whole_payloads long_payloads in
    let long : length (tags_of ls' ps') ≡ to - from = length-tags_of ls' ps' (long_payloads ∙ sym long_labels) ∙ long_labels in
    let back : from + place - from ≡ place = omega arith in
    rw (parts, sides, replaced-tags_of from to ls ls' ps ps' (omega arith) beside (long_payloads ∙ sym long_labels)) (record {
      stretch = tags_of ls' ps';
      are = refl;
      kept = rw (between-tags_of from to ls ps) at kept;
      read = read;
      low = omega arith;
      high = omega (arith, divided.within, long, length-map (tags_of ls' ps') remembered_key);
      divided = rw back divided;
      fewer = rw (between-tags_of from to ls ps) at fewer;
    })

-- what is remembered, as a list that is taken over has it
pub memories-tags_of : (ls : List Label) (ps : List Payload) → map memory_of (tags_of ls ps) ≡ memories_of ls ps
memories-tags_of [] ps = refl
memories-tags_of (l ∷ ls) [] = refl
memories-tags_of (l ∷ ls) (p ∷ ps) = ap (λ (ms : List Memory). memory_with l p ∷ ms) (memories-tags_of ls ps)

-- the keys that are remembered, read either way
pub keys-remembered : (tags : List Tag) → map (λ (m : Memory). m.key) (map memory_of tags) ≡ map remembered_key tags
keys-remembered [] = refl
keys-remembered (t ∷ tags) = ap (λ (ks : List ℕ). t.key ∷ ks) (keys-remembered tags)
