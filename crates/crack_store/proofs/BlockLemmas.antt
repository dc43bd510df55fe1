-- Exchanges of rows of a column, as blocks of its list.
use Rattle.std.proofs.Common.{◌≡◌, ◌≢◌, ℕ, suc, ◌+◌, ◌-◌, ◌<◌, ◌≤◌, true, false, min, List, [], ◌∷◌, ◌++◌, length, take, drop, get_or, set, refl, sym, ap, ◌∙◌, ◌⊎◌, inl, inr, arith}
use Rattle.std.specs.List.{between}
use Rattle.std.specs.List.Sorted.{IsPermutation}
use Rattle.std.proofs.lemmas.Bool.{cases_lt, cases_eq}
use Rattle.std.proofs.lemmas.List.{append_assoc, append-nil, length-append, length-set, length-take-le, length-drop, take-append-drop, take_at, drop_at, take_all, drop_all, drop_more, take_more, get_or_at, get_or-take, get_or-drop, get_or-append-add, get_or_append_left, get_or_default, get_or-set_same, get_or-set_other, set_at, set-append_left, set-append_right}
use Rattle.std.proofs.lemmas.List.Edits.{split_between, length-between, swap_is}
use Rattle.std.proofs.lemmas.List.Sorted.{IsPermutation-refl, IsPermutation-trans, IsPermutation-swap, IsPermutation-append_comm, length_permutation}
use Rattle.crack_arena.specs.Arena.{Handle, no_handle}
use Rattle.crack_column.specs.Column.{swapped}
use Rattle.crack_column.specs.Column.{Column, StillRemembers}
use Rattle.crack_arena.specs.Memories.{nothing}
use Rattle.crack_store.specs.Blocks.{ChangesSides, KeepsRows, Parts, is_among}

module _ {X : Type 0} where
  -- two elements of a list are exchanged
  swapped_at : (d : X) (front : List X) (x : X) (mid : List X) (y : X) (behind : List X) (one other : ℕ) → length front ≡ one → other ≡ one + suc (length mid) → swapped d one other (front ++ x ∷ (mid ++ y ∷ behind)) ≡ front ++ y ∷ (mid ++ x ∷ behind)
  swapped_at d front x mid y behind one other one_is other_is =
      let whole : front ++ x ∷ (mid ++ y ∷ behind) ≡ (front ++ x ∷ mid) ++ y ∷ behind = sym (append_assoc front (x ∷ mid) (y ∷ behind)) in
      let first_long : length (front ++ x ∷ mid) ≡ other = omega (arith, length-append front (x ∷ mid), one_is, other_is) in
      let second_long : length (front ++ y ∷ mid) ≡ other = omega (arith, length-append front (y ∷ mid), one_is, other_is) in
      let first : get_or (front ++ x ∷ (mid ++ y ∷ behind)) one d ≡ x = get_or_at front x (mid ++ y ∷ behind) d one one_is in
      let second : get_or (front ++ x ∷ (mid ++ y ∷ behind)) other d ≡ y = ap (λ xs. get_or xs other d) whole ∙ get_or_at (front ++ x ∷ mid) y behind d other first_long in
      let put : set (front ++ x ∷ (mid ++ y ∷ behind)) one y ≡ (front ++ y ∷ mid) ++ y ∷ behind = set_at front x (mid ++ y ∷ behind) y one one_is ∙ sym (append_assoc front (y ∷ mid) (y ∷ behind)) in
      ap (λ z. set (set (front ++ x ∷ (mid ++ y ∷ behind)) one z) other (get_or (front ++ x ∷ (mid ++ y ∷ behind)) one d)) second ∙ ap (λ z. set (set (front ++ x ∷ (mid ++ y ∷ behind)) one y) other z) first ∙ ap (λ xs. set xs other x) put ∙ set_at (front ++ y ∷ mid) y behind x other second_long ∙ append_assoc front (y ∷ mid) (x ∷ behind)

  -- the first `i` of two blocks `one` and `two` are exchanged
  abbrev pub exchanged_to : ℕ → List X → List X → List X → List X → List X → List X
  exchanged_to i front one mid two behind = front ++ ((take i two ++ drop i one) ++ (mid ++ ((take i one ++ drop i two) ++ behind)))

  pub exchanged_more : (d : X) (i : ℕ) (front one mid two behind : List X) (low high : ℕ) → i < length one → length two ≡ length one → low ≡ length front + i → high ≡ length front + length one + length mid + i → swapped d low high (exchanged_to i front one mid two behind) ≡ exchanged_to (i + 1) front one mid two behind
  exchanged_more d i front one mid two behind low high within same low_is high_is =
      let x = get_or one i d in
      let y = get_or two i d in
      let one_more : drop i one ≡ x ∷ drop (i + 1) one = drop_more one i d within in
      let two_more : drop i two ≡ y ∷ drop (i + 1) two = drop_more two i d (omega (arith, within, same)) in
      let one_next : take (i + 1) one ≡ take i one ++ x ∷ [] = take_more one i d within in
      let two_next : take (i + 1) two ≡ take i two ++ y ∷ [] = take_more two i d (omega (arith, within, same)) in
      exchanged_once d front (take i two) (drop (i + 1) one) mid (take i one) (drop (i + 1) two) behind x y low high (drop i one) (drop i two) (take (i + 1) two) (take (i + 1) one) one_more two_more two_next one_next (omega (arith, low_is, length-take-le i two (omega (arith, within, same)))) (omega (arith, high_is, length-take-le i one (omega (arith, within)), length-drop (i + 1) one, length-take-le i two (omega (arith, within, same))))
    where
      exchanged_once : (d : X) (front done rest mid done' rest' behind : List X) (x y : X) (low high : ℕ) (one two next next' : List X) → one ≡ x ∷ rest → two ≡ y ∷ rest' → next ≡ done ++ y ∷ [] → next' ≡ done' ++ x ∷ [] → low ≡ length front + length done → high ≡ length front + length done + 1 + length rest + length mid + length done' → swapped d low high (front ++ ((done ++ one) ++ (mid ++ ((done' ++ two) ++ behind)))) ≡ front ++ ((next ++ rest) ++ (mid ++ ((next' ++ rest') ++ behind)))
      exchanged_once d front done rest mid done' rest' behind x y low high one two next next' one_is two_is next_is next'_is low_is high_is =
          let was : front ++ ((done ++ x ∷ rest) ++ (mid ++ ((done' ++ y ∷ rest') ++ behind))) ≡ (front ++ done) ++ x ∷ ((rest ++ (mid ++ done')) ++ y ∷ (rest' ++ behind)) = simp append_assoc in
          let now : (front ++ done) ++ y ∷ ((rest ++ (mid ++ done')) ++ x ∷ (rest' ++ behind)) ≡ front ++ (((done ++ y ∷ []) ++ rest) ++ (mid ++ (((done' ++ x ∷ []) ++ rest') ++ behind))) = simp append_assoc in
          let at_low : length (front ++ done) ≡ low = omega (arith, low_is, length-append front done) in
          let at_high : high ≡ low + suc (length (rest ++ (mid ++ done'))) = omega (arith, low_is, high_is, length-append rest (mid ++ done'), length-append mid done') in
          rw (one_is, two_is, next_is, next'_is) (ap (swapped d low high) was ∙ swapped_at d (front ++ done) x (rest ++ (mid ++ done')) y (rest' ++ behind) low high at_low at_high ∙ now)

  -- a block of a list, and what follows it
  pub between_at : (front part behind : List X) (from to : ℕ) → length front ≡ from → to ≡ from + length part → between from to (front ++ (part ++ behind)) ≡ part
  between_at front part behind from to from_is to_is = ap (take (to - from)) (drop_at front (part ++ behind) from from_is) ∙ take_at part behind (to - from) (omega (arith, to_is))

  pub drop_after : (front part behind : List X) (to : ℕ) → to ≡ length front + length part → drop to (front ++ (part ++ behind)) ≡ behind
  drop_after front part behind to to_is = ap (drop to) (sym (append_assoc front part behind)) ∙ drop_at (front ++ part) behind to (omega (arith, to_is, length-append front part))

  -- the list `was` has two blocks of this length, one from `from` on and the other up to `to`, and in `now` the first
  -- `i` rows of each are exchanged
  pub record IsExchangedTo (from count to : ℕ) (was now : List X) (i : ℕ) : Type 0 where
    pub front : List X
    pub one : List X
    pub mid : List X
    pub two : List X
    pub behind : List X
    pub was_is : was ≡ front ++ (one ++ (mid ++ (two ++ behind)))
    pub front_is : length front ≡ from
    pub one_is : length one ≡ count
    pub two_is : length two ≡ count
    pub to_is : to ≡ from + count + length mid + count
    pub now_is : now ≡ exchanged_to i front one mid two behind

  pub exchange_begins : (from count to : ℕ) (hs : List X) → from + count + count ≤ to → to ≤ length hs → IsExchangedTo from count to hs hs 0
  exchange_begins from count to hs order within =
      let rest = drop from hs in
      let rest' = drop count rest in
      let between_them : ℕ = to - (from + count + count) in
      let rest'' = drop between_them rest' in
      let long : length rest ≡ length hs - from = length-drop from hs in
      let long' : length rest' ≡ length rest - count = length-drop count rest in
      let long'' : length rest'' ≡ length rest' - between_them = length-drop between_them rest' in
      let whole : hs ≡ take from hs ++ (take count rest ++ (take between_them rest' ++ (take count rest'' ++ drop count rest''))) =
      sym (ap (λ xs. take from hs ++ (take count rest ++ (take between_them rest' ++ xs))) (take-append-drop count rest'') ∙ ap (λ xs. take from hs ++ (take count rest ++ xs)) (take-append-drop between_them rest') ∙ ap (λ xs. take from hs ++ xs) (take-append-drop count rest) ∙ take-append-drop from hs) in
      record {
        front = take from hs;
        one = take count rest;
        mid = take between_them rest';
        two = take count rest'';
        behind = drop count rest'';
        was_is = whole;
        front_is = length-take-le from hs (omega (arith, order, within));
        one_is = length-take-le count rest (omega (arith, order, within, long));
        two_is = length-take-le count rest'' (omega (arith, order, within, long, long', long''));
        to_is = omega (arith, order, within, long, long', length-take-le between_them rest' (omega (arith, order, within, long, long')));
        now_is = whole;
      }

  pub exchange_goes_on : (d : X) (from count to : ℕ) (was now now' : List X) (i low high : ℕ) → i < count → low ≡ from + i → high ≡ to - count + i → now' ≡ swapped d low high now → IsExchangedTo from count to was now i → IsExchangedTo from count to was now' (i + 1)
  exchange_goes_on d from count to was now now' i low high within low_is high_is swaps e = record {
    front = e.front;
    one = e.one;
    mid = e.mid;
    two = e.two;
    behind = e.behind;
    was_is = e.was_is;
    front_is = e.front_is;
    one_is = e.one_is;
    two_is = e.two_is;
    to_is = e.to_is;
    now_is = swaps ∙ ap (swapped d low high) e.now_is ∙ exchanged_more d i e.front e.one e.mid e.two e.behind low high (omega (arith, within, e.one_is)) (omega (arith, e.one_is, e.two_is)) (omega (arith, low_is, e.front_is)) (omega (arith, high_is, e.to_is, e.front_is, e.one_is));
  }

-- once both blocks are exchanged, the rows after the middle come before the others
pub sides_changed : (from middle to : ℕ) (was now : List Handle) → from ≤ middle → middle ≤ to → IsExchangedTo from (min (middle - from) (to - middle)) to was now (min (middle - from) (to - middle)) → ChangesSides from middle to was now
sides_changed from middle to was now order behind e =
    let count : ℕ = min (middle - from) (to - middle) in
    let two_all : take count e.two ≡ e.two = take_all count e.two (omega (arith, e.two_is)) in
    let one_all : take count e.one ≡ e.one = take_all count e.one (omega (arith, e.one_is)) in
    let one_none : drop count e.one ≡ [] = drop_all count e.one (omega (arith, e.one_is)) in
    let two_none : drop count e.two ≡ [] = drop_all count e.two (omega (arith, e.two_is)) in
    let now_is : now ≡ e.front ++ (e.two ++ (e.mid ++ (e.one ++ e.behind))) = e.now_is ∙ rw (two_all, one_all, one_none, two_none, append-nil e.two, append-nil e.one) refl in
    sides e.front e.one e.mid e.two e.behind e.was_is now_is e.front_is (omega (arith, e.to_is, e.front_is, e.one_is, e.two_is)) (elim (cases_lt (middle - from) (to - middle)) [ inl l ↦ inl (omega (arith, l, e.one_is, e.front_is, order)) | inr l ↦ inr (omega (arith, l, e.two_is, behind)) ])
  where
    sides : (front one mid two rest : List Handle) → was ≡ front ++ (one ++ (mid ++ (two ++ rest))) → now ≡ front ++ (two ++ (mid ++ (one ++ rest))) → length front ≡ from → to ≡ from + length one + length mid + length two → (middle ≡ from + length one) ⊎ (to ≡ middle + length two) → ChangesSides from middle to was now
    sides front one mid two rest was_is now_is front_is to_is (inl short) =
        let whole : was ≡ (front ++ one) ++ ((mid ++ two) ++ rest) = was_is ∙ simp append_assoc in
        let ends : was ≡ front ++ ((one ++ (mid ++ two)) ++ rest) = was_is ∙ simp append_assoc in
        record {
          low = two ++ mid;
          high = one;
          handles_are = now_is ∙ rw (was_is, take_at front (one ++ (mid ++ (two ++ rest))) from front_is, ← was_is, ends, drop_after front (one ++ (mid ++ two)) rest to (omega (arith, to_is, front_is, length-append one (mid ++ two), length-append mid two))) (simp append_assoc);
          low_is = rw (whole, between_at (front ++ one) (mid ++ two) rest middle to (omega (arith, short, front_is, length-append front one)) (omega (arith, short, to_is, length-append mid two))) (IsPermutation-append_comm mid two);
          high_is = rw (was_is, between_at front one (mid ++ (two ++ rest)) from middle front_is short) (IsPermutation-refl one);
        }
    sides front one mid two rest was_is now_is front_is to_is (inr short) =
        let whole : was ≡ (front ++ (one ++ mid)) ++ (two ++ rest) = was_is ∙ simp append_assoc in
        let halves : was ≡ front ++ ((one ++ mid) ++ (two ++ rest)) = was_is ∙ simp append_assoc in
        record {
          low = two;
          high = mid ++ one;
          handles_are = now_is ∙ rw (was_is, take_at front (one ++ (mid ++ (two ++ rest))) from front_is, ← was_is, whole, drop_after (front ++ (one ++ mid)) two rest to (omega (arith, to_is, front_is, length-append front (one ++ mid), length-append one mid))) (simp append_assoc);
          low_is = rw (whole, between_at (front ++ (one ++ mid)) two rest middle to (omega (arith, short, to_is, front_is, length-append front (one ++ mid), length-append one mid)) short) (IsPermutation-refl two);
          high_is = rw (halves, between_at front (one ++ mid) (two ++ rest) from middle front_is (omega (arith, short, to_is, length-append one mid))) (IsPermutation-append_comm one mid);
        }

-- an exchange keeps the column's rows
pub KeepsRows-swapped : (was now now' : Column) (one other : ℕ) → now' ≡ record now { handles = swapped no_handle one other now.handles; remembered = swapped nothing one other now.remembered } → StillRemembers now now' → KeepsRows was now → KeepsRows was now'
KeepsRows-swapped was now now' one other swaps still keeps = record {
  long = ap (λ (c : Column). length c.handles) swaps ∙ length-set (set now.handles one (get_or now.handles other no_handle)) other (get_or now.handles one no_handle) ∙ length-set now.handles one (get_or now.handles other no_handle) ∙ keeps.long;
  room = ap (λ (c : Column). c.room) swaps ∙ keeps.room;
  remembered = λ cells known. still cells (keeps.remembered cells known);
}

module _ {X : Type 0} where
  -- two rows of a part are exchanged
  swapped_in : (d : X) (front part behind : List X) (i j low high : ℕ) → low ≡ length front + i → high ≡ length front + j → i < length part → j < length part → swapped d low high (front ++ (part ++ behind)) ≡ front ++ (swapped d i j part ++ behind)
  swapped_in d front part behind i j low high low_is high_is i_in j_in =
      let read : (n k : ℕ) → n ≡ length front + k → k < length part → get_or (front ++ (part ++ behind)) n d ≡ get_or part k d = λ n k n_is k_in. ap (λ m. get_or (front ++ (part ++ behind)) m d) n_is ∙ get_or-append-add front (part ++ behind) k d ∙ get_or_append_left part behind d k k_in in
      let put : (ys : List X) (n k : ℕ) (y : X) → n ≡ length front + k → k < length ys → set (front ++ (ys ++ behind)) n y ≡ front ++ (set ys k y ++ behind) = λ ys n k y n_is k_in. set-append_right front (ys ++ behind) (length front) n y refl (omega (arith, n_is)) ∙ ap (λ m. front ++ set (ys ++ behind) m y) (omega (arith, n_is)) ∙ ap (λ zs. front ++ zs) (set-append_left ys behind k y k_in) in
      ap (λ z. set (set (front ++ (part ++ behind)) low z) high (get_or (front ++ (part ++ behind)) low d)) (read high j high_is j_in) ∙ ap (λ z. set (set (front ++ (part ++ behind)) low (get_or part j d)) high z) (read low i low_is i_in) ∙ ap (λ zs. set zs high (get_or part i d)) (put part low i (get_or part j d) low_is i_in) ∙ put (set part i (get_or part j d)) high j (get_or part i d) high_is (omega (arith, j_in, length-set part i (get_or part j d)))

-- of the rows at `from..to` those before `live` aren't doomed, and those from `end` on are
pub record ArePartedTo (out : List Handle) (from to : ℕ) (was now : List Handle) (live end : ℕ) : Type 0 where
  pub front : List Handle
  pub part : List Handle
  pub part' : List Handle
  pub behind : List Handle
  pub was_is : was ≡ front ++ (part ++ behind)
  pub now_is : now ≡ front ++ (part' ++ behind)
  pub front_is : length front ≡ from
  pub part_is : length part ≡ to - from
  pub permuted : IsPermutation part part'
  pub low : from ≤ live
  pub order : live ≤ end
  pub high : end ≤ to
  pub stays : (k : ℕ) (d : Handle) → from + k < live → is_among out (get_or part' k d) ≡ false
  pub leaves : (k : ℕ) (d : Handle) → end ≤ from + k → from + k < to → is_among out (get_or part' k d) ≡ true

pub part_begins : (out : List Handle) (from to : ℕ) (hs : List Handle) → from ≤ to → to ≤ length hs → ArePartedTo out from to hs hs from to
part_begins out from to hs order within =
    let whole : hs ≡ take from hs ++ (between from to hs ++ drop to hs) = split_between hs from to order in
    record {
      front = take from hs;
      part = between from to hs;
      part' = between from to hs;
      behind = drop to hs;
      was_is = whole;
      now_is = whole;
      front_is = length-take-le from hs (omega (arith, order, within));
      part_is = length-between hs from to within;
      permuted = IsPermutation-refl (between from to hs);
      low = omega arith;
      order = order;
      high = omega arith;
      stays = λ k d h. absurd (omega (arith, h));
      leaves = λ k d h h'. absurd (omega (arith, h, h'));
    }

pub part_stays : (out : List Handle) (from to : ℕ) (was now : List Handle) (live end : ℕ) → live < end → is_among out (get_or now live no_handle) ≡ false → ArePartedTo out from to was now live end → ArePartedTo out from to was now (live + 1) end
part_stays out from to was now live end more here p =
    let long = length_permutation p.part p.part' p.permuted in
    record {
      front = p.front;
      part = p.part;
      part' = p.part';
      behind = p.behind;
      was_is = p.was_is;
      now_is = p.now_is;
      front_is = p.front_is;
      part_is = p.part_is;
      permuted = p.permuted;
      low = omega (arith, p.low);
      order = omega (arith, more);
      high = p.high;
      stays = λ k d h. elim (cases_lt (from + k) live) [
        | inl l ↦ p.stays k d l
        | inr l ↦
            let at : live ≡ length p.front + k = omega (arith, h, l, p.front_is) in
            let k_in : k < length p.part' = omega (arith, h, more, p.high, long, p.part_is) in
            let is : get_or now live no_handle ≡ get_or p.part' k d = ap (λ xs. get_or xs live no_handle) p.now_is ∙ ap (λ n. get_or (p.front ++ (p.part' ++ p.behind)) n no_handle) at ∙ get_or-append-add p.front (p.part' ++ p.behind) k no_handle ∙ get_or_append_left p.part' p.behind no_handle k k_in ∙ get_or_default p.part' k no_handle d k_in in
            sym (ap (is_among out) is) ∙ here
      ];
      leaves = p.leaves;
    }

pub part_leaves : (out : List Handle) (from to : ℕ) (was now now' : List Handle) (live end : ℕ) → live < end → is_among out (get_or now live no_handle) ≡ true → now' ≡ swapped no_handle live (end - 1) now → ArePartedTo out from to was now live end → ArePartedTo out from to was now' live (end - 1)
part_leaves out from to was now now' live end more here swaps p =
    let long = length_permutation p.part p.part' p.permuted in
    let i : ℕ = live - from in
    let j : ℕ = end - 1 - from in
    let live_is : live ≡ length p.front + i = omega (arith, p.front_is, p.low) in
    let end_is : end - 1 ≡ length p.front + j = omega (arith, p.front_is, p.low, more) in
    let i_in : i < length p.part' = omega (arith, long, p.part_is, p.low, p.high, more) in
    let j_in : j < length p.part' = omega (arith, long, p.part_is, p.low, p.high, more) in
    let is : get_or now live no_handle ≡ get_or p.part' i no_handle = ap (λ xs. get_or xs live no_handle) p.now_is ∙ ap (λ n. get_or (p.front ++ (p.part' ++ p.behind)) n no_handle) live_is ∙ get_or-append-add p.front (p.part' ++ p.behind) i no_handle ∙ get_or_append_left p.part' p.behind no_handle i i_in in
    let moved : now' ≡ p.front ++ (swapped no_handle i j p.part' ++ p.behind) = swaps ∙ ap (swapped no_handle live (end - 1)) p.now_is ∙ swapped_in no_handle p.front p.part' p.behind i j live (end - 1) live_is end_is i_in j_in in
    let half = set p.part' i (get_or p.part' j no_handle) in
    let half_long : length half ≡ length p.part' = length-set p.part' i (get_or p.part' j no_handle) in
    record {
      front = p.front;
      part = p.part;
      part' = swapped no_handle i j p.part';
      behind = p.behind;
      was_is = p.was_is;
      now_is = moved;
      front_is = p.front_is;
      part_is = p.part_is;
      permuted = IsPermutation-trans p.part p.part' (swapped no_handle i j p.part') p.permuted (IsPermutation-swap p.part' (swapped no_handle i j p.part') i j i_in j_in (swap_is p.part' i j no_handle i_in j_in));
      low = p.low;
      order = omega (arith, more);
      high = omega (arith, p.high);
      stays = λ k d h.
          let k_i : k ≢ i = omega (arith, h, p.low) in
          let k_j : k ≢ j = omega (arith, h, p.low, more) in
          let same : get_or (swapped no_handle i j p.part') k d ≡ get_or p.part' k d = get_or-set_other half j k (get_or p.part' i no_handle) d k_j ∙ get_or-set_other p.part' i k (get_or p.part' j no_handle) d k_i in
          ap (is_among out) same ∙ p.stays k d h;
      leaves = λ k d h h'. elim (cases_eq k j) [
        | inl e ↦ rw (e, get_or-set_same half j (get_or p.part' i no_handle) d (omega (arith, half_long, j_in))) (sym (ap (is_among out) is) ∙ here)
        | inr ne ↦
            let k_i : k ≢ i = omega (arith, h, ne, p.low, more) in
            let same : get_or (swapped no_handle i j p.part') k d ≡ get_or p.part' k d = get_or-set_other half j k (get_or p.part' i no_handle) d ne ∙ get_or-set_other p.part' i k (get_or p.part' j no_handle) d k_i in
            ap (is_among out) same ∙ p.leaves k d (omega (arith, h, ne, p.low, more)) h'
      ];
    }

pub parted : (out : List Handle) (from to : ℕ) (was now : List Handle) (live : ℕ) → from ≤ to → ArePartedTo out from to was now live live → Parts out from to was now live
parted out from to was now live order p =
    let long = length_permutation p.part p.part' p.permuted in
    let n : ℕ = live - from in
    let stay = take n p.part' in
    let leave = drop n p.part' in
    let stay_long : length stay ≡ n = length-take-le n p.part' (omega (arith, long, p.part_is, p.low, p.high)) in
    let leave_long = length-drop n p.part' in
    let whole : stay ++ leave ≡ p.part' = take-append-drop n p.part' in
    let to_is : to ≡ from + length p.part = omega (arith, p.part_is, order) in
    record {
      stay = stay;
      leave = leave;
      handles_are = p.now_is ∙ rw (p.was_is, take_at p.front (p.part ++ p.behind) from p.front_is, drop_after p.front p.part p.behind to (omega (arith, to_is, p.front_is)), ← append_assoc stay leave p.behind, whole) refl;
      rows_are = rw (p.was_is, between_at p.front p.part p.behind from to p.front_is to_is, whole) p.permuted;
      stays = λ k d h. rw (get_or-take n p.part' k d (omega (arith, h, stay_long))) (p.stays k d (omega (arith, h, stay_long, p.low)));
      leaves = λ k d h. rw (get_or-drop n p.part' k d) (p.leaves (n + k) d (omega (arith, p.low)) (omega (arith, h, leave_long, p.low, long, p.part_is, order)));
      live_is = omega (arith, stay_long, p.low);
    }
