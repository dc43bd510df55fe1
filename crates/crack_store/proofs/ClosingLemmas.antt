-- One step of the pass that closes pieces, from the moves of blocks that make it.
use Rattle.std.proofs.Common.{◌≡◌, ℕ, ◌+◌, ◌-◌, ◌≤◌, Bool, Bor, false, true, List, [], ◌++◌, get_or, length, take, drop, refl, sym, ap, subst, ◌∙◌, arith}
use Rattle.std.specs.List.{All, between}
use Rattle.std.specs.List.Sorted.{IsPermutation}
use Rattle.std.proofs.lemmas.List.{append_assoc, length-append, length-take-le, length-drop, length-map, take-append-drop, take-append-le, drop-append-le, take-take, take_at}
use Rattle.std.proofs.lemmas.List.Edits.{length-between}
use Rattle.std.proofs.lemmas.List.Sorted.{IsPermutation-trans, IsPermutation-append_left, All-permutation, length_permutation}
use Rattle.crack_arena.specs.Arena.{Handle}
use Rattle.crack_column.specs.Column.{Column}
use Rattle.crack_store.specs.Blocks.{ChangesSides, KeepsRows, Parts, is_among}
use Rattle.crack_arena.specs.Rows.{key_at}
use Rattle.crack_index.specs.declared.mark.Mark.{Mark}
use Rattle.crack_index.specs.Marks.{Index, Rising}
use Rattle.crack_index.specs.Places.{Places}
use Rattle.crack_pending.specs.Pending.{Pending}
use Rattle.crack_state.specs.State.{greatest}
use Rattle.crack_store.specs.declared.closing.Closing.{Closing}
use Rattle.crack_store.specs.declared.inside.Inside.{Inside}
use Rattle.crack_store.specs.Closings.{closing_rows, closing_from, closing_gap, closing_moved, closing_leaves, KeepsClosing, Closes, ClosesAt, ClosesPieces}
use Rattle.crack_store.specs.Keeps.{KeepsIntact}
use Rattle.crack_store.proofs.SplitLaws.{Splits, Splits-divided, divided-Splits}
use Rattle.crack_store.proofs.ClosedLaws.{closed_whole}
use Rattle.crack_store.proofs.BlockLemmas.{between_at, drop_after}

pub KeepsRows-trans : (a b c : Column) → KeepsRows a b → KeepsRows b c → KeepsRows a c
KeepsRows-trans a b c one two = record {
  long = two.long ∙ one.long;
  room = two.room ∙ one.room;
  remembered = λ cells known. two.remembered cells (one.remembered cells known);
}

-- the rows of a front from a place on
between_front : (front behind : List Handle) (from to : ℕ) → from ≤ to → length front ≡ to → between from to (front ++ behind) ≡ drop from front
between_front front behind from to order long =
    ap (take (to - from)) (drop-append-le from front behind (omega (arith, order, long))) ∙ take_at (drop from front) behind (to - from) (omega (arith, length-drop from front, long))

-- the step, without the counts
pub record IsClosedOver (out : List Handle) (start from to live : ℕ) (old new : List Handle) : Type 0 where
  pub stay : List Handle
  pub leave : List Handle
  pub hole : List Handle
  pub rows_are : new ≡ take start old ++ (stay ++ (hole ++ drop to old))
  pub piece : IsPermutation (between from to old) (stay ++ leave)
  pub hole_is : IsPermutation (between start from old ++ leave) hole
  pub stays : All (λ h. is_among out h ≡ false) stay
  pub leaves : All (λ h. is_among out h ≡ true) leave
  pub live_is : live ≡ from + length stay
  pub to_end : live ≤ to

pub closed_over : (out : List Handle) (start from to live : ℕ) (old mid new : List Handle) → start ≤ from → from ≤ to → to ≤ length old → Parts out from to old mid live → ChangesSides start from live mid new → IsClosedOver out start from to live old new
closed_over out start from to live old mid new before order within p s =
    let front = take from old in
    let front_long : length front ≡ from = length-take-le from old (omega (arith, order, within)) in
    let rest = p.leave ++ drop to old in
    let kept : between from live mid ≡ p.stay = ap (between from live) p.handles_are ∙ between_at front p.stay rest from live front_long p.live_is in
    let low_is : IsPermutation p.stay s.low = rw kept at s.low_is in
    let size = length_permutation p.stay s.low low_is in
    let old_is : front ++ drop from old ≡ old = take-append-drop from old in
    let hole_mid : between start from mid ≡ drop start front = ap (between start from) p.handles_are ∙ between_front front (p.stay ++ rest) start from before front_long in
    let hole_old : between start from old ≡ drop start front = ap (between start from) (sym old_is) ∙ between_front front (drop from old) start from before front_long in
    let hole_same : between start from mid ≡ between start from old = hole_mid ∙ sym hole_old in
    let high_is : IsPermutation (between start from old) s.high = subst (λ (xs : List Handle). IsPermutation xs s.high) hole_same s.high_is in
    let first : take start mid ≡ take start old = ap (take start) p.handles_are ∙ take-append-le start front (p.stay ++ rest) (omega (arith, before, front_long)) ∙ take-take start from old before in
    let last : drop live mid ≡ rest = ap (drop live) p.handles_are ∙ drop_after front p.stay rest live (omega (arith, p.live_is, front_long)) in
    let whole : take start mid ++ (s.low ++ (s.high ++ drop live mid)) ≡ take start old ++ (s.low ++ ((s.high ++ p.leave) ++ drop to old)) = rw (first, last, append_assoc s.high p.leave (drop to old)) refl in
    record {
      stay = s.low;
      leave = p.leave;
      hole = s.high ++ p.leave;
      rows_are = s.handles_are ∙ whole;
      piece = IsPermutation-trans (between from to old) (p.stay ++ p.leave) (s.low ++ p.leave) p.rows_are (IsPermutation-append_left p.leave p.stay s.low low_is);
      hole_is = IsPermutation-append_left p.leave (between start from old) s.high high_is;
      stays = All-permutation (λ h. is_among out h ≡ false) p.stay s.low low_is p.stays;
      leaves = p.leaves;
      live_is = omega (arith, p.live_is, size);
      to_end = omega (arith, p.live_is, length_permutation (between from to old) (p.stay ++ p.leave) p.rows_are, length-append p.stay p.leave, length-between old from to within, order);
    }

KeepsClosing-refl : (v : Closing) → KeepsClosing v v
KeepsClosing-refl v = record { rows = record { long = refl; room = refl; remembered = λ cells known. known }; out = refl; pulled = omega arith }

KeepsClosing-trans : (u v w : Closing) → KeepsClosing u v → KeepsClosing v w → KeepsClosing u w
KeepsClosing-trans u v w one two = record {
  rows = KeepsRows-trans u.column v.column w.column one.rows two.rows;
  out = two.out ∙ one.out;
  pulled = omega (arith, one.pulled, two.pulled);
}

KeepsClosing-leaves : (v w : Closing) → KeepsClosing v w → closing_leaves w ≡ closing_leaves v
KeepsClosing-leaves v w keeps = ap (λ (b : Bor Pending). is_among b.now.handles) keeps.out

-- the whole pass
pub closed_pieces : (p : Inside) (index : Index) (v w x : Closing) (last live : ℕ) → KeepsIntact p [] → v.column ≡ p.column → v.pending_out.now ≡ p.pending_out → v.from ≡ 0 → v.gap ≡ 0 → v.pulled ≡ p.tally.pulled → Places ClosesAt 0 p.index.marks v index.marks w last → Closes w (length w.column.handles) live x → Rising index.marks → x.pulled ≤ greatest → ClosesPieces p (record p { column = x.column; index = index; tally = record p.tally { pulled = x.pulled } }) live
closed_pieces p index v w x last live intact column_is out_is from_is gap_is pulled_is walk step rising small =
    let key : Handle → ℕ = key_at p.arena.cells in
    let marks = p.index.marks in
    let hs = p.column.handles in
    let rows_is : v.column.handles ≡ hs = ap (λ (c : Column). c.handles) column_is in
    let obeyed = intact.intact.obeyed in
    let inside : All (λ (m : Mark). m.position ≤ length v.column.handles) marks = λ k e j. rw rows_is (omega (arith, (obeyed k e j).within, length-map hs key)) in
    let splits : All (λ (m : Mark). Splits key m.bound.0 m.position v.column.handles) marks = λ k e j. rw rows_is (Splits-divided key (get_or marks k e).bound.0 (get_or marks k e).position hs (obeyed k e j)) in
    let all = closed_whole closing_rows closing_from closing_gap closing_moved closing_leaves KeepsClosing key KeepsClosing-refl KeepsClosing-trans KeepsClosing-leaves marks last index.marks v w x (length w.column.handles) live from_is gap_is inside intact.intact.rising splits walk refl step in
    let leaves : closing_leaves v ≡ is_among p.pending_out.handles = ap (λ (o : Pending). is_among o.handles) out_is in
    record {
      same = refl;
      within = all.within;
      stay = subst (λ (t : Handle → Bool). All (λ h. t h ≡ false) (take live x.column.handles)) leaves all.stay;
      leave = subst (λ (t : Handle → Bool). All (λ h. t h ≡ true) (drop live x.column.handles)) leaves all.leave;
      permuted = rw rows_is at all.permuted;
      obeyed = λ k e j. divided-Splits key (get_or index.marks k e).bound.0 (get_or index.marks k e).position (take live x.column.handles) (all.obeyed k e j);
      rising = rising;
      bounds = all.bounds;
      keeps = subst (λ (c : Column). KeepsRows c x.column) column_is all.also.rows;
      rises = omega (arith, pulled_is, all.also.pulled);
      few = omega (arith, pulled_is, all.few);
      small = small;
    }
