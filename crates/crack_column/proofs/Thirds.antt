-- How the tags of a stretch are divided by two bounds in one pass.
use Rattle.std.proofs.Common.{◌≡◌, ◌≢◌, ℕ, cond, ltb, ◌+◌, ◌<◌, ◌≤◌, List, length, map, get_or, set, ◌⊎◌, refl, sym, ◌∙◌, length-set, inl, inr, arith}
use mir.Val.{bool_byte}
use Rattle.std.specs.List.Sorted.{IsPermutation}
use Rattle.std.proofs.lemmas.List.Sorted.{IsPermutation-trans, IsPermutation-swap}
use Rattle.std.proofs.lemmas.List.Edits.{swap_is}
use Rattle.std.proofs.lemmas.List.{set-set, set_comm, length-map, get_or-map, get_or-set_same, get_or-set_other}
use Rattle.std.proofs.lemmas.Bool.{cases_eq, cases_lt, lt-ltb, le-ltb}
use Rattle.crack_column.specs.declared.tag.Tag.{Tag}
use Rattle.crack_column.specs.Column.{IsDividedAt}
use Rattle.crack_column.specs.Keeps.{remembered_key}
use Rattle.crack_column.specs.Inside.{no_tag, shifted, turned}
use Rattle.crack_column.proofs.Passes.{shifted-permutes, IsSplit, IsSplit-start, IsPartway-start, Falls}

-- the places of the tags after it
record Turned (ts after : List Tag) (gap upper place : ℕ) (t : Tag) : Type 0 where
  pub long : length after ≡ length ts
  pub at_place : get_or after place no_tag ≡ t
  pub at_upper : upper ≢ place → get_or after upper no_tag ≡ get_or ts place no_tag
  pub at_gap : gap ≢ upper → gap ≢ place → get_or after gap no_tag ≡ get_or ts upper no_tag
  pub others : (k : ℕ) → k ≢ place → k ≢ upper → k ≢ gap → get_or after k no_tag ≡ get_or ts k no_tag

Turned-is : (ts : List Tag) (gap upper place : ℕ) (t : Tag) → place ≤ upper → upper ≤ gap → gap < length ts → Turned ts (turned ts gap upper place t) gap upper place t
Turned-is ts gap upper place t low high inside =
    let filled : List Tag = set ts gap (get_or ts upper no_tag) in
    let second : List Tag = set filled upper (get_or filled place no_tag) in
    let filled_long : length filled ≡ length ts = length-set ts gap (get_or ts upper no_tag) in
    let second_long : length second ≡ length filled = length-set filled upper (get_or filled place no_tag) in
    record {
      long = length-set second place t ∙ second_long ∙ filled_long;
      at_place = get_or-set_same second place t no_tag (omega (arith, second_long, filled_long));
      at_upper = λ ne. get_or-set_other second place upper t no_tag ne ∙ get_or-set_same filled upper (get_or filled place no_tag) no_tag (omega (arith, filled_long)) ∙ get_or-set_other ts gap place (get_or ts upper no_tag) no_tag (omega arith);
      at_gap = λ other apart. get_or-set_other second place gap t no_tag apart ∙ get_or-set_other filled upper gap (get_or filled place no_tag) no_tag other ∙ get_or-set_same ts gap (get_or ts upper no_tag) no_tag inside;
      others = λ k apart other ne. get_or-set_other second place k t no_tag apart ∙ get_or-set_other filled upper k (get_or filled place no_tag) no_tag other ∙ get_or-set_other ts gap k (get_or ts upper no_tag) no_tag ne;
    }

-- the tags up to the gap are divided, if the new one is below the bound
split_below : (bound : ℕ) (ts after : List Tag) (p gap upper place : ℕ) (t : Tag) → Turned ts after gap upper place t → t.key < bound → place ≤ p → p ≤ upper → (place ≡ p) ⊎ (p ≡ upper) → upper ≤ gap → IsSplit bound ts p gap → IsSplit bound after (p + 1) (gap + 1)
split_below bound ts after p gap upper place t at key low high which inside split = record {
  within = omega (arith, split.within);
  below = λ k to. elim (cases_eq k place) [
    | inl e ↦ rw (e, at.at_place) key
    | inr ne ↦ elim (cases_eq k upper) [
      | inl e ↦ rw (e, at.at_upper (omega arith)) (split.below place (omega arith))
      | inr apart ↦
          let before : k < p = elim which [ inl s ↦ omega arith | inr s ↦ omega arith ] in
          rw (at.others k ne apart (omega arith)) (split.below k before)
    ]
  ];
  above = λ k from to. elim (cases_eq k upper) [
    | inl e ↦
        let same : place ≡ p = elim which [ inl s ↦ s | inr s ↦ absurd (omega arith) ] in
        rw (e, at.at_upper (omega arith)) (split.above place (omega arith) (omega arith))
    | inr apart ↦ elim (cases_eq k gap) [
      | inl e ↦ rw (e, at.at_gap (omega arith) (omega arith)) (split.above upper (omega arith) (omega arith))
      | inr ne ↦ rw (at.others k (omega arith) apart ne) (split.above k (omega arith) (omega arith))
    ]
  ];
}

-- and if it is at or above the bound
split_above : (bound : ℕ) (ts after : List Tag) (p gap upper : ℕ) (t : Tag) → Turned ts after gap upper upper t → bound ≤ t.key → p ≤ upper → upper ≤ gap → IsSplit bound ts p gap → IsSplit bound after p (gap + 1)
split_above bound ts after p gap upper t at key high inside split = record {
  within = omega (arith, split.within);
  below = λ k to. rw (at.others k (omega arith) (omega arith) (omega arith)) (split.below k to);
  above = λ k from to. elim (cases_eq k upper) [
    | inl e ↦ rw (e, at.at_place) key
    | inr apart ↦ elim (cases_eq k gap) [
      | inl e ↦ rw (e, at.at_gap (omega arith) (omega arith)) (split.above upper high (omega arith))
      | inr ne ↦ rw (at.others k apart apart ne) (split.above k from (omega arith))
    ]
  ];
}

-- a tag fills the gap, or takes another place, whose tag fills the gap: the tags are the same
turned-permutes : (ts : List Tag) (gap upper place : ℕ) (t : Tag) → place ≤ upper → upper ≤ gap → gap < length ts → IsPermutation (set ts gap t) (turned ts gap upper place t)
turned-permutes ts gap upper place t low high inside =
    let filled : List Tag = set ts gap (get_or ts upper no_tag) in
    let filled_long : length filled ≡ length ts = length-set ts gap (get_or ts upper no_tag) in
    let one : List Tag = shifted ts gap upper t in
    let one_long : length one ≡ length filled = length-set filled upper t in
    let first : IsPermutation (set ts gap t) one = shifted-permutes ts t upper gap high inside in
    elim (cases_eq place upper) [
      | inl e ↦ rw (e, set-set filled upper (get_or filled upper no_tag) t) first
      | inr ne ↦
          let there : get_or one upper no_tag ≡ t = get_or-set_same filled upper t no_tag (omega (arith, filled_long)) in
          let here : get_or one place no_tag ≡ get_or filled place no_tag = get_or-set_other filled upper place t no_tag ne in
          let same : turned ts gap upper place t ≡ set (set one upper (get_or one place no_tag)) place (get_or one upper no_tag) = rw (there, here, set-set filled upper t (get_or filled place no_tag)) refl in
          IsPermutation-trans (set ts gap t) one (turned ts gap upper place t) first (IsPermutation-swap one (turned ts gap upper place t) upper place (omega (arith, one_long, filled_long)) (omega (arith, one_long, filled_long)) (same ∙ swap_is one upper place no_tag (omega (arith, one_long, filled_long)) (omega (arith, one_long, filled_long))))
    ]

-- the tags before the gap are divided by both bounds, and the first one is to fill it
pub record IsThirdway (low high : ℕ) (tags tags' : List Tag) (first : Tag) (middle upper gap : ℕ) : Type 0 where
  pub kept : IsPermutation tags (set tags' gap first)
  pub order : middle ≤ upper
  pub lower : IsSplit low tags' middle gap
  pub higher : IsSplit high tags' upper gap

-- before the first step
pub IsThirdway-start : (low high : ℕ) (ts : List Tag) (first : Tag) → get_or ts 0 no_tag ≡ first → IsThirdway low high ts ts first 0 0 0
IsThirdway-start low high ts first is = record {
  kept = (IsPartway-start low ts first is).kept;
  order = omega arith;
  lower = IsSplit-start low ts;
  higher = IsSplit-start high ts;
}

-- where a tag belongs, and where the middle and the upper tags begin once it is there
pub record Belongs (low high : ℕ) (t : Tag) (middle upper place middle2 upper2 : ℕ) : Type 0 where
  pub which : ((t.key < low) × (place ≡ middle) × (middle2 ≡ middle + 1)) ⊎ ((low ≤ t.key) × (place ≡ upper) × (middle2 ≡ middle))
  pub falls : Falls high t upper upper2

-- what the code computes from a tag's key
pub Belongs-is : (low high : ℕ) (t : Tag) (middle upper : ℕ) → Belongs low high t middle upper (cond (ltb t.key low) middle upper) (middle + bool_byte (ltb t.key low)) (upper + bool_byte (ltb t.key high))
Belongs-is low high t middle upper = record {
  which = elim (cases_lt t.key low) [
    | inl l ↦ rw (lt-ltb t.key low l) (inl (l, refl, refl))
    | inr g ↦ rw (le-ltb t.key low g) (inr (g, refl, omega arith))
  ];
  falls = elim (cases_lt t.key high) [
    | inl l ↦ rw (lt-ltb t.key high l) (inl (l, refl))
    | inr g ↦ rw (le-ltb t.key high g) (inr (g, omega arith))
  ];
}

-- both divisions, once the gap moved on
record Divided (low high : ℕ) (after : List Tag) (middle2 upper2 gap : ℕ) : Type 0 where
  pub order : middle2 ≤ upper2
  pub lower : IsSplit low after middle2 gap
  pub higher : IsSplit high after upper2 gap

Divided-turned : (low high : ℕ) (ts : List Tag) (t : Tag) (middle upper gap place middle2 upper2 : ℕ) → low ≤ high → gap < length ts → middle ≤ upper → Belongs low high t middle upper place middle2 upper2 → IsSplit low ts middle gap → IsSplit high ts upper gap → Divided low high (turned ts gap upper place t) middle2 upper2 (gap + 1)
Divided-turned low high ts t middle upper gap place middle2 upper2 bounds inside order belongs lower higher = elim belongs.which [
  | inl l ↦
      let place_is : place ≡ middle = l.1 in
      let below : upper2 ≡ upper + 1 = elim belongs.falls [ inl f ↦ f.1 | inr f ↦ absurd (omega (arith, l.0, f.0)) ] in
      let at = Turned-is ts gap upper place t (omega arith) higher.within inside in
      record {
        order = omega (arith, l.2);
        lower = rw l.2 (split_below low ts (turned ts gap upper place t) middle gap upper place t at l.0 (omega arith) order (inl place_is) higher.within lower);
        higher = rw below (split_below high ts (turned ts gap upper place t) upper gap upper place t at (omega (arith, l.0)) (omega arith) (omega arith) (inr refl) higher.within higher);
      }
  | inr g ↦
      let place_is : place ≡ upper = g.1 in
      let at : Turned ts (turned ts gap upper upper t) gap upper upper t = Turned-is ts gap upper upper t (omega arith) higher.within inside in
      rw place_is (record {
        order = elim belongs.falls [ inl f ↦ omega (arith, g.2, f.1) | inr f ↦ omega (arith, g.2, f.1) ];
        lower = rw (g.2) (split_above low ts (turned ts gap upper upper t) middle gap upper t at g.0 order higher.within lower);
        higher = elim belongs.falls [
          | inl f ↦ rw f.1 (split_below high ts (turned ts gap upper upper t) upper gap upper upper t at f.0 (omega arith) (omega arith) (inr refl) higher.within higher)
          | inr f ↦ rw f.1 (split_above high ts (turned ts gap upper upper t) upper gap upper t at f.0 (omega arith) higher.within higher)
        ];
      })
]

-- the place lies before the gap
pub Belongs-within : (low high : ℕ) (t : Tag) (middle upper place middle2 upper2 : ℕ) → middle ≤ upper → Belongs low high t middle upper place middle2 upper2 → place ≤ upper
Belongs-within low high t middle upper place middle2 upper2 order belongs = elim belongs.which [ inl l ↦ omega (arith, l.1) | inr g ↦ omega (arith, g.1) ]

-- the tag after the gap is put in, and the gap is where it was
pub IsThirdway-step : (low high : ℕ) (ts ts1 : List Tag) (first next : Tag) (middle upper gap place middle2 upper2 : ℕ) → low ≤ high → gap + 1 < length ts1 → get_or ts1 (gap + 1) no_tag ≡ next → Belongs low high next middle upper place middle2 upper2 → IsThirdway low high ts ts1 first middle upper gap → IsThirdway low high ts (turned ts1 gap upper place next) first middle2 upper2 (gap + 1)
IsThirdway-step low high ts ts1 first next middle upper gap place middle2 upper2 bounds inside is belongs so_far =
    let before : place ≤ upper = Belongs-within low high next middle upper place middle2 upper2 so_far.order belongs in
    let whole : List Tag = set ts1 gap first in
    let held : List Tag = set ts1 (gap + 1) first in
    let after : List Tag = turned ts1 gap upper place next in
    let whole_long : length whole ≡ length ts1 = length-set ts1 gap first in
    let held_long : length held ≡ length ts1 = length-set ts1 (gap + 1) first in
    let order : upper ≤ gap = so_far.higher.within in
    let behind : get_or whole (gap + 1) no_tag ≡ next = get_or-set_other ts1 gap (gap + 1) first no_tag (omega arith) ∙ is in
    let front : get_or whole gap no_tag ≡ first = get_or-set_same ts1 gap first no_tag (omega arith) in
    let exchanged : set (set whole gap (get_or whole (gap + 1) no_tag)) (gap + 1) (get_or whole gap no_tag) ≡ set held gap next =
    rw (behind, front, set-set ts1 gap first next) (set_comm ts1 gap (gap + 1) next first (omega arith)) in
    let first_moved : IsPermutation whole (set held gap next) = IsPermutation-swap whole (set held gap next) gap (gap + 1) (omega arith) (omega arith) (sym exchanged ∙ swap_is whole gap (gap + 1) no_tag (omega arith) (omega arith)) in
    let filled : List Tag = set ts1 gap (get_or ts1 upper no_tag) in
    let low_held : get_or held upper no_tag ≡ get_or ts1 upper no_tag = get_or-set_other ts1 (gap + 1) upper first no_tag (omega arith) in
    let one : set held gap (get_or held upper no_tag) ≡ set filled (gap + 1) first = rw low_held (set_comm ts1 (gap + 1) gap first (get_or ts1 upper no_tag) (omega arith)) in
    let two : get_or (set filled (gap + 1) first) place no_tag ≡ get_or filled place no_tag = get_or-set_other filled (gap + 1) place first no_tag (omega arith) in
    let second : List Tag = set filled upper (get_or filled place no_tag) in
    let three : set (set filled (gap + 1) first) upper (get_or filled place no_tag) ≡ set second (gap + 1) first = set_comm filled (gap + 1) upper first (get_or filled place no_tag) (omega arith) in
    let four : set (set second (gap + 1) first) place next ≡ set (set second place next) (gap + 1) first = set_comm second (gap + 1) place first next (omega arith) in
    let apart : turned held gap upper place next ≡ set after (gap + 1) first = rw (one, two, three) four in
    let then_turned : IsPermutation (set held gap next) (set after (gap + 1) first) = rw apart at (turned-permutes held gap upper place next before order (omega arith)) in
    let divided = Divided-turned low high ts1 next middle upper gap place middle2 upper2 bounds (omega arith) so_far.order belongs so_far.lower so_far.higher in
    record {
      kept = IsPermutation-trans ts whole (set after (gap + 1) first) so_far.kept (IsPermutation-trans whole (set held gap next) (set after (gap + 1) first) first_moved then_turned);
      order = divided.order;
      lower = divided.lower;
      higher = divided.higher;
    }

-- once the gap is the last place, the first tag is put in: the tags are the same, and their keys are divided by both bounds
pub record IsThirds (low high : ℕ) (tags after : List Tag) (middle upper : ℕ) : Type 0 where
  pub kept : IsPermutation tags after
  pub order : middle ≤ upper
  pub lower : IsDividedAt low (map remembered_key after) middle
  pub higher : IsDividedAt high (map remembered_key after) upper

divided_by : (bound : ℕ) (after : List Tag) (place gap : ℕ) → gap + 1 ≡ length after → IsSplit bound after place (gap + 1) → IsDividedAt bound (map remembered_key after) place
divided_by bound after place gap is_last split =
    let keys = length-map after remembered_key in
    record {
      within = omega (arith, split.within, keys);
      below = λ k l. rw (get_or-map remembered_key after k no_tag 0 (omega (arith, split.within))) (split.below k l);
      above = λ k g l. rw (get_or-map remembered_key after k no_tag 0 (omega (arith, keys))) (split.above k g (omega (arith, keys)));
    }

pub IsThirds-last : (low high : ℕ) (ts ts' : List Tag) (first : Tag) (middle upper gap place middle2 upper2 : ℕ) → low ≤ high → gap + 1 ≡ length ts' → Belongs low high first middle upper place middle2 upper2 → IsThirdway low high ts ts' first middle upper gap → IsThirds low high ts (turned ts' gap upper place first) middle2 upper2
IsThirds-last low high ts ts' first middle upper gap place middle2 upper2 bounds is_last belongs so_far =
    let after : List Tag = turned ts' gap upper place first in
    let before : place ≤ upper = Belongs-within low high first middle upper place middle2 upper2 so_far.order belongs in
    let at = Turned-is ts' gap upper place first before so_far.higher.within (omega arith) in
    let divided = Divided-turned low high ts' first middle upper gap place middle2 upper2 bounds (omega arith) so_far.order belongs so_far.lower so_far.higher in
    record {
      kept = IsPermutation-trans ts (set ts' gap first) after so_far.kept (turned-permutes ts' gap upper place first before so_far.higher.within (omega arith));
      order = divided.order;
      lower = divided_by low after middle2 gap (is_last ∙ sym at.long) divided.lower;
      higher = divided_by high after upper2 gap (is_last ∙ sym at.long) divided.higher;
    }
