-- How tags are sifted through those before them, one after the other.
use Rattle.std.proofs.Common.{◌≡◌, ℕ, ◌+◌, ◌<◌, ◌≤◌, cond, List, [], ◌∷◌, ◌++◌, length, get_or, set, take, drop, refl, sym, ap, ◌∙◌, arith, length-append}
use Rattle.std.proofs.lemmas.Bool.{lt-ltb, le-ltb}
use Rattle.std.proofs.lemmas.List.{append-nil, append_assoc, length-take-le, length_push, drop_more, drop_all, take-append-drop, set_at, get_or_at, set-get_or}
use Rattle.crack_column.specs.declared.tag.Tag.{Tag}
use Rattle.crack_column.specs.Inside.{no_tag, shifted}
use Rattle.crack_column.specs.Keeps.{remembered_key}
use Rattle.crack_column.specs.Sifts.{turned_once, one_if_some, below_bound, queued, made_way}

-- up to a gap the tags were sifted: those below the bound are first, then the stretch
pub record IsSifting (bound : ℕ) (tags now : List Tag) (from gap low moved : ℕ) : Type 0 where
  pub lower : List Tag
  pub rows : List Tag
  pub tags_are : now ≡ lower ++ (rows ++ drop gap tags)
  pub low_is : low ≡ length lower
  pub gap_is : gap ≡ length lower + length rows
  pub below_are : below_bound remembered_key bound (drop from tags) ≡ lower ++ below_bound remembered_key bound (drop gap tags)
  pub queued_are : queued remembered_key bound (drop from tags) (take from tags) ≡ queued remembered_key bound (drop gap tags) rows
  pub few : moved ≤ low
  pub moved_is : made_way remembered_key bound (drop from tags) (take from tags) ≡ moved + made_way remembered_key bound (drop gap tags) rows

pub IsSifting-start : (bound : ℕ) (tags : List Tag) (from : ℕ) → from ≤ length tags → IsSifting bound tags tags from from 0 0
IsSifting-start bound tags from within = record {
  lower = [];
  rows = take from tags;
  tags_are = sym (take-append-drop from tags);
  low_is = refl;
  gap_is = omega (arith, length-take-le from tags within);
  below_are = refl;
  queued_are = refl;
  few = omega arith;
  moved_is = omega arith;
}

-- the tag at the gap
at_gap : (lower rows : List Tag) (x : Tag) (rest : List Tag) (gap : ℕ) → gap ≡ length lower + length rows → get_or (lower ++ (rows ++ x ∷ rest)) gap no_tag ≡ x
at_gap lower rows x rest gap is = ap (λ ts. get_or ts gap no_tag) (sym (append_assoc lower rows (x ∷ rest))) ∙ get_or_at (lower ++ rows) x rest no_tag gap (omega (arith, is, length-append lower rows))

-- a tag below the bound is put in
shifted-in : (lower rows : List Tag) (x : Tag) (rest : List Tag) (gap low : ℕ) → low ≡ length lower → gap ≡ length lower + length rows → shifted (lower ++ (rows ++ x ∷ rest)) gap low x ≡ (lower ++ x ∷ []) ++ (turned_once rows ++ rest)
shifted-in lower [] x rest gap low low_is gap_is =
    let same : gap ≡ low = omega (arith, low_is, gap_is) in
    let ts : List Tag = lower ++ x ∷ rest in
    let stays : set ts gap (get_or ts low no_tag) ≡ ts = rw same (set-get_or ts low no_tag) in
    ap (λ us. set us low x) stays ∙ set_at lower x rest x low (sym low_is) ∙ sym (append_assoc lower (x ∷ []) rest)
shifted-in lower (y ∷ ys) x rest gap low low_is gap_is =
    let ts : List Tag = lower ++ y ∷ (ys ++ x ∷ rest) in
    let first : get_or ts low no_tag ≡ y = get_or_at lower y (ys ++ x ∷ rest) no_tag low (sym low_is) in
    let before : List Tag = lower ++ y ∷ ys in
    let apart : lower ++ (y ∷ ys ++ x ∷ rest) ≡ before ++ x ∷ rest = sym (append_assoc lower (y ∷ ys) (x ∷ rest)) in
    let filled : set ts gap y ≡ lower ++ y ∷ (ys ++ y ∷ rest) =
    ap (λ us. set us gap y) apart ∙ set_at before x rest y gap (omega (arith, gap_is, length-append lower (y ∷ ys))) ∙ append_assoc lower (y ∷ ys) (y ∷ rest) in
    let put : set (lower ++ y ∷ (ys ++ y ∷ rest)) low x ≡ lower ++ x ∷ (ys ++ y ∷ rest) = set_at lower y (ys ++ y ∷ rest) x low (sym low_is) in
    let joined : lower ++ x ∷ (ys ++ y ∷ rest) ≡ (lower ++ x ∷ []) ++ ((ys ++ y ∷ []) ++ rest) =
    ap (λ us. lower ++ x ∷ us) (sym (append_assoc ys (y ∷ []) rest)) ∙ sym (append_assoc lower (x ∷ []) ((ys ++ y ∷ []) ++ rest)) in
    rw (first, filled) (put ∙ joined)

length-turned : (rows : List Tag) → length (turned_once rows) ≡ length rows
length-turned [] = refl
length-turned (y ∷ ys) = omega (arith, length_push ys y)

-- one more tag is sifted: it is at the gap
module _ (bound : ℕ) (tags now : List Tag) (from gap low moved : ℕ) (x : Tag) (within : gap < length tags) (read : get_or now gap no_tag ≡ x) (so_far : IsSifting bound tags now from gap low moved) where
  abbrev rest : List Tag
  rest = drop (gap + 1) tags

  next_is : drop gap tags ≡ x ∷ rest
  next_is =
      let split : drop gap tags ≡ get_or tags gap no_tag ∷ rest = drop_more tags gap no_tag within in
      let there : get_or (so_far.lower ++ (so_far.rows ++ get_or tags gap no_tag ∷ rest)) gap no_tag ≡ get_or tags gap no_tag = at_gap so_far.lower so_far.rows (get_or tags gap no_tag) rest gap so_far.gap_is in
      let same : get_or tags gap no_tag ≡ x = sym there ∙ ap (λ ts. get_or ts gap no_tag) (sym (so_far.tags_are ∙ ap (λ ts. so_far.lower ++ (so_far.rows ++ ts)) split)) ∙ read in
      split ∙ ap (λ t. t ∷ rest) same

  pub IsSifting-above : bound ≤ x.key → IsSifting bound tags now from (gap + 1) low moved
  IsSifting-above over =
      let rows : List Tag = so_far.rows ++ x ∷ [] in
      let key = le-ltb x.key bound over in
      record {
        lower = so_far.lower;
        rows = rows;
        tags_are = so_far.tags_are ∙ ap (λ ts. so_far.lower ++ (so_far.rows ++ ts)) next_is ∙ ap (λ ts. so_far.lower ++ ts) (sym (append_assoc so_far.rows (x ∷ []) rest));
        low_is = so_far.low_is;
        gap_is = omega (arith, so_far.gap_is, length_push so_far.rows x);
        below_are = so_far.below_are ∙ ap (λ ts. so_far.lower ++ below_bound remembered_key bound ts) next_is ∙ rw key refl;
        queued_are = so_far.queued_are ∙ ap (λ ts. queued remembered_key bound ts so_far.rows) next_is ∙ ap (λ b. queued remembered_key bound rest (cond b (turned_once so_far.rows) rows)) key;
        few = so_far.few;
        moved_is = so_far.moved_is ∙ ap (λ ts. moved + made_way remembered_key bound ts so_far.rows) next_is ∙ ap (λ b. moved + cond b (one_if_some so_far.rows + made_way remembered_key bound rest (turned_once so_far.rows)) (made_way remembered_key bound rest rows)) key;
      }

  pub IsSifting-below : (more : ℕ) → x.key < bound → (low < gap → more ≡ 1) → (gap ≤ low → more ≡ 0) → IsSifting bound tags (shifted now gap low x) from (gap + 1) (low + 1) (moved + more)
  IsSifting-below more under some none =
      let lower : List Tag = so_far.lower ++ x ∷ [] in
      let rows : List Tag = turned_once so_far.rows in
      let key = lt-ltb x.key bound under in
      let before : now ≡ so_far.lower ++ (so_far.rows ++ x ∷ rest) = so_far.tags_are ∙ ap (λ ts. so_far.lower ++ (so_far.rows ++ ts)) next_is in
      let one : more ≡ one_if_some so_far.rows = by_rows so_far.rows so_far.gap_is in
      record {
        lower = lower;
        rows = rows;
        tags_are = ap (λ ts. shifted ts gap low x) before ∙ shifted-in so_far.lower so_far.rows x rest gap low so_far.low_is so_far.gap_is;
        low_is = omega (arith, so_far.low_is, length_push so_far.lower x);
        gap_is = omega (arith, so_far.gap_is, length_push so_far.lower x, length-turned so_far.rows);
        below_are = so_far.below_are ∙ ap (λ ts. so_far.lower ++ below_bound remembered_key bound ts) next_is ∙ rw key (sym (append_assoc so_far.lower (x ∷ []) (below_bound remembered_key bound rest)));
        queued_are = so_far.queued_are ∙ ap (λ ts. queued remembered_key bound ts so_far.rows) next_is ∙ ap (λ b. queued remembered_key bound rest (cond b rows (so_far.rows ++ x ∷ []))) key;
        few = omega (arith, so_far.few, at_most so_far.rows one);
        moved_is =
            let made : made_way remembered_key bound (x ∷ rest) so_far.rows ≡ one_if_some so_far.rows + made_way remembered_key bound rest rows = ap (λ b. cond b (one_if_some so_far.rows + made_way remembered_key bound rest rows) (made_way remembered_key bound rest (so_far.rows ++ x ∷ []))) key in
            omega (arith, so_far.moved_is, ap (λ ts. made_way remembered_key bound ts so_far.rows) next_is, made, one);
      }
    where
      by_rows : (rows : List Tag) → gap ≡ length so_far.lower + length rows → more ≡ one_if_some rows
      by_rows [] is = none (omega (arith, is, so_far.low_is))
      by_rows (y ∷ ys) is = some (omega (arith, is, so_far.low_is))

      at_most : (rows : List Tag) → more ≡ one_if_some rows → more ≤ 1
      at_most [] is = omega (arith, is)
      at_most (y ∷ ys) is = omega (arith, is)

-- where all are sifted
pub record IsSifted (bound : ℕ) (tags now : List Tag) (from low moved : ℕ) : Type 0 where
  pub tags_are : now ≡ below_bound remembered_key bound (drop from tags) ++ queued remembered_key bound (drop from tags) (take from tags)
  pub low_is : low ≡ length (below_bound remembered_key bound (drop from tags))
  pub moved_is : moved ≡ made_way remembered_key bound (drop from tags) (take from tags)

pub IsSifted-all : (bound : ℕ) (tags now : List Tag) (from gap low moved : ℕ) → length tags ≤ gap → IsSifting bound tags now from gap low moved → IsSifted bound tags now from low moved
IsSifted-all bound tags now from gap low moved end so_far =
    let none : drop gap tags ≡ [] = drop_all gap tags end in
    let below : below_bound remembered_key bound (drop from tags) ≡ so_far.lower = so_far.below_are ∙ ap (λ ts. so_far.lower ++ below_bound remembered_key bound ts) none ∙ append-nil so_far.lower in
    let rows : queued remembered_key bound (drop from tags) (take from tags) ≡ so_far.rows = so_far.queued_are ∙ ap (λ ts. queued remembered_key bound ts so_far.rows) none in
    record {
      tags_are = so_far.tags_are ∙ ap (λ ts. so_far.lower ++ (so_far.rows ++ ts)) none ∙ ap (λ ts. so_far.lower ++ ts) (append-nil so_far.rows) ∙ rw (below, rows) refl;
      low_is = so_far.low_is ∙ ap length (sym below);
      moved_is = sym (so_far.moved_is ∙ ap (λ ts. moved + made_way remembered_key bound ts so_far.rows) none ∙ omega arith);
    }
