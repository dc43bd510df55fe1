-- Under a ceiling whose bound is in the index: the pieces below it are as without a ceiling, and the rows beyond it are evicted in their order.
use Rattle.std.proofs.Common.{◌≡◌, ℕ, zero, suc, ◌+◌, ◌-◌, ◌<◌, ◌≤◌, Bool, true, false, min, max, List, [], ◌∷◌, ◌++◌, map, length, take, drop, get_or, Some, refl, sym, ap, ◌∙◌, inl, inr, arith}
use Rattle.std.specs.List.{All, sum_by}
use Rattle.std.proofs.Math.Nat.{min-eq_left}
use Rattle.std.proofs.lemmas.Bool.{cases_Bool, lt-ltb, lt-leb, le-leb}
use Rattle.std.proofs.lemmas.List.{append-nil, append_assoc, length-append, length-map, length-take-le, length-drop, drop-drop, drop-take, get_or_at, get_or_append_left, get_or-append-add, get_or_default}
use Rattle.std.proofs.lemmas.List.Elements.{All-nil, All-cons, All-head, All-tail, All-weaker, All-take, All-map, All-filter}
use Rattle.std.proofs.lemmas.List.Sums.{sum_by-cons}
use Rattle.crack_row.specs.Ranges.{Range, is_in}
use Rattle.crack_row.specs.declared.InnerBound.{InnerBound}
use Rattle.crack_arena.specs.Arena.{Handle, no_handle}
use Rattle.crack_arena.specs.Rows.{key_at}
use Rattle.crack_column.specs.Sifts.{below_bound, queued}
use Rattle.crack_index.specs.declared.mark.Mark.{Mark}
use Rattle.crack_index.specs.Marks.{Rising, InOrder}
use Rattle.crack_index.proofs.MarkLaws.{Rising-head, Rising-tail}
use Rattle.crack_state.specs.declared.MergeReport.{MergeReport}
use Rattle.crack_state.specs.State.{State, IsIntact, greatest}
use Rattle.crack_state.specs.Merge.{outside_of}
use Rattle.crack_state.specs.Pieces.{Pieces, last, below, column_of, marks_of, cut}
use Rattle.crack_state.specs.Queues.{CarryState, comes, turns, stopped, is_below, any_row, after_event, after_turn, onward, next, left_after, passed, in_bulk, bulk_outcomes}
use Rattle.crack_state.specs.Carried.{pieces_of, is_doomed, ends_with, moved_by, ended_so, ended_by, inside_of, insertions_by, arrivals, carried_in_bulk}
use Rattle.crack_state.proofs.Divided.{AreDivided}
use Rattle.crack_state.proofs.Sifts.{sifted, all_made_way, count_below, OfMet, risen}
use Rattle.crack_state.proofs.OneByOne.{reached, outcome, outcomes}
use Rattle.crack_state.proofs.AgreeLaws.{Each, OfComing, OfComing-next, Each-reached}
use Rattle.crack_state.proofs.EvictedLaws.{at_least, NoneComes, column_of-beyond, marks_of-beyond}
use Rattle.crack_state.proofs.BulkLaws.{reached-stopped, outcome-stopped, outcomes-in_bulk}
use Rattle.crack_state.proofs.CutLaws.{IsCut-intact, column_of-cut, marks_of-cut}
use Rattle.crack_state.proofs.LeadLaws.{pending-lasts}
use Rattle.crack_state.proofs.PieceMarkLaws.{mark_at}
use Rattle.crack_state.proofs.SiftLaws.{moved_of, IsTurn, AreSifted-of, AreOf-coming, none-moved, marks_of-sifted, none_below, length-queued, count-below_bound}
use Rattle.crack_state.proofs.SiftedLaws.{min_and}
use Rattle.crack_state.proofs.TurnLaws.{arriving}

-- pieces, a bound, and the pieces above it
abbrev pub joined : {X : Type 0} → Pieces X → InnerBound → Pieces X → Pieces X
joined (last rows) bound others = below rows bound others
joined (below rows b pieces) bound others = below rows b (joined pieces bound others)

module _ {X : Type 0} where
  column_of-joined : (pieces : Pieces X) (bound : InnerBound) (others : Pieces X) → column_of (joined pieces bound others) ≡ column_of pieces ++ column_of others
  column_of-joined (last rows) bound others = refl
  column_of-joined (below rows b pieces) bound others = ap (λ ys. rows ++ ys) (column_of-joined pieces bound others) ∙ sym (append_assoc rows (column_of pieces) (column_of others))

  marks_of-joined : (place : ℕ) (pieces : Pieces X) (bound : InnerBound) (others : Pieces X) → marks_of place (joined pieces bound others) ≡ marks_of place pieces ++ mark_at bound (place + length (column_of pieces)) ∷ marks_of (place + length (column_of pieces)) others
  marks_of-joined place (last rows) bound others = refl
  marks_of-joined place (below rows b pieces) bound others =
      let size : (place + length rows) + length (column_of pieces) ≡ place + length (rows ++ column_of pieces) = omega (arith, length-append rows (column_of pieces)) in
      rw (marks_of-joined (place + length rows) pieces bound others, size) refl

  take_less : (i n : ℕ) (xs : List X) → i ≤ n → take i (take n xs) ≡ take i xs
  take_less zero n xs few = refl
  take_less (suc i) zero xs few = absurd (omega arith)
  take_less (suc i) (suc n) [] few = refl
  take_less (suc i) (suc n) (x ∷ xs) few = ap (λ ys. x ∷ ys) (take_less i n xs (omega arith))

  take-none : (n : ℕ) (xs : List X) → xs ≡ [] → take n xs ≡ []
  take-none zero xs none = refl
  take-none (suc n) [] none = refl
  take-none (suc n) (x ∷ xs) none = absurd (omega (arith, ap length none))

  -- a column is cut at a mark into the pieces below it and those above
  cut-at : (place : ℕ) (low : List Mark) (m : Mark) (high : List Mark) (rows : List X) → Rising (low ++ m ∷ high) → All (λ n. place ≤ n.position) (low ++ m ∷ high) → cut place (low ++ m ∷ high) rows ≡ joined (cut place low (take (m.position - place) rows)) m.bound (cut m.position high (drop (m.position - place) rows))
  cut-at place [] m high rows rising from = refl
  cut-at place (n ∷ ns) m high rows rising from =
      let all : List Mark = ns ++ m ∷ high in
      let begins : place ≤ n.position = from zero n (omega arith) in
      let above = Rising-head n all rising in
      let order : InOrder n m = rw (get_or_at ns m high n (length ns) refl) at (above (length ns) n (omega (arith, length-append ns (m ∷ high)))) in
      let rest = cut-at n.position ns m high (drop (n.position - place) rows) (Rising-tail n all rising) (λ k d h. (above k d h).positions) in
      let size : m.position - place ≡ (n.position - place) + (m.position - n.position) = omega (arith, begins, order.positions) in
      let first : take (n.position - place) (take (m.position - place) rows) ≡ take (n.position - place) rows = take_less (n.position - place) (m.position - place) rows (omega (arith, order.positions)) in
      let next : drop (n.position - place) (take (m.position - place) rows) ≡ take (m.position - n.position) (drop (n.position - place) rows) = ap (λ k. drop (n.position - place) (take k rows)) size ∙ drop-take (n.position - place) (m.position - n.position) rows in
      let over : drop (m.position - n.position) (drop (n.position - place) rows) ≡ drop (m.position - place) rows = drop-drop (m.position - n.position) (n.position - place) rows ∙ ap (λ k. drop k rows) (sym size) in
      rw (first, next, ← over) (ap (below (take (n.position - place) rows) n.bound) rest)

module _ {X : Type 0} (key : X → ℕ) where
  record AreJoined (low : ℕ) (pieces : Pieces X) (bound : InnerBound) (others : Pieces X) : Type 0 where
    lower : AreDivided key low pieces
    upper : AreDivided key bound.0 others
    order : low ≤ bound.0
    under : Each (λ x. key x < bound.0) pieces

  divided-joined : (low : ℕ) (pieces : Pieces X) (bound : InnerBound) (others : Pieces X) → AreDivided key low (joined pieces bound others) → AreJoined low pieces bound others
  divided-joined low (last rows) bound others divided = record {
    lower = All-weaker (λ x. (low ≤ key x) × (key x < bound.0)) (λ x. low ≤ key x) (λ x h. h.0) rows divided.0;
    upper = divided.2;
    order = divided.1;
    under = All-weaker (λ x. (low ≤ key x) × (key x < bound.0)) (λ x. key x < bound.0) (λ x h. h.1) rows divided.0;
  }
  divided-joined low (below rows b pieces) bound others divided =
      let rest = divided-joined b.0 pieces bound others divided.2 in
      record {
        lower = (divided.0, divided.1, rest.lower);
        upper = rest.upper;
        order = omega (arith, divided.1, rest.order);
        under = (All-weaker (λ x. (low ≤ key x) × (key x < b.0)) (λ x. key x < bound.0) (λ x h. omega (arith, h.1, rest.order)) rows divided.0, rest.under);
      }

  each-above : (floor low : ℕ) (pieces : Pieces X) → floor ≤ low → AreDivided key low pieces → Each (λ x. floor ≤ key x) pieces
  each-above floor low (last rows) order divided = All-weaker (λ x. low ≤ key x) (λ x. floor ≤ key x) (λ x h. omega (arith, h, order)) rows divided
  each-above floor low (below rows b pieces) order divided =
      (All-weaker (λ x. (low ≤ key x) × (key x < b.0)) (λ x. floor ≤ key x) (λ x h. omega (arith, h.0, order)) rows divided.0, each-above floor b.0 pieces (omega (arith, order, divided.1)) divided.2)

  each-weaker : (P Q : X → Type 0) → ((x : X) → P x → Q x) → (pieces : Pieces X) → Each P pieces → Each Q pieces
  each-weaker P Q weaker (last rows) each = All-weaker P Q weaker rows each
  each-weaker P Q weaker (below rows b pieces) each = (All-weaker P Q weaker rows each.0, each-weaker P Q weaker pieces each.1)

  All-both : (P Q R : X → Type 0) → ((x : X) → P x → Q x → R x) → (xs : List X) → All P xs → All Q xs → All R xs
  All-both P Q R both xs ps qs = λ k d h. both (get_or xs k d) (ps k d h) (qs k d h)

  met-both : (P Q R : X → Type 0) → ((x : X) → P x → Q x → R x) → (low : ℕ) (xs : List X) (pieces : Pieces X) → OfMet key P low xs pieces → Each Q pieces → OfMet key R low xs pieces
  met-both P Q R both low xs (last rows) met each = All-both P Q R both (take (count_below key low xs) rows) met (All-take Q (count_below key low xs) rows each)
  met-both P Q R both low xs (below rows b pieces) met each =
      (All-both P Q R both (take (count_below key low xs) rows) met.0 (All-take Q (count_below key low xs) rows each.0), met-both P Q R both b.0 xs pieces met.1 each.1)

  -- what holds of each row holds of those that are met
  pub met-all : (P : X → Type 0) → ((x : X) → P x) → (low : ℕ) (xs : List X) (pieces : Pieces X) → OfMet key P low xs pieces
  met-all P each low xs (last rows) = λ k d h. each (get_or (take (count_below key low xs) rows) k d)
  met-all P each low xs (below rows b pieces) = (λ k d h. each (get_or (take (count_below key low xs) rows) k d), met-all P each b.0 xs pieces)

  length-sifted : (low : ℕ) (xs : List X) (pieces : Pieces X) → AreDivided key low pieces → length (column_of (sifted key low xs pieces)) + count_below key low xs ≡ length (column_of pieces) + length xs
  length-sifted low xs (last rows) divided = length-queued key (λ x. false) low xs rows
  length-sifted low xs (below rows b pieces) divided =
      let counted = count-below_bound key (λ x. false) low b.0 xs divided.1 in
      let here = length-queued key (λ x. false) low (below_bound key b.0 xs) rows in
      let rest = length-sifted b.0 xs pieces divided.2 in
      omega (arith, counted.0, counted.1, here, rest, length-append rows (column_of pieces), length-append (queued key low (below_bound key b.0 xs) rows) (column_of (sifted key b.0 xs pieces)))

module _ {X : Type 0} (key : X → ℕ) (stops : X → Bool) where
  -- the row that comes in is below the bound
  abbrev IsUnder : InnerBound → CarryState X → Type 0
  IsUnder bound e = OfComing (λ x. key x < bound.0) e

  last-below : (bound : InnerBound) (es : List (CarryState X)) (rows : List X) → All (IsUnder bound) es → (left_after key stops (any_row key stops) es rows ≡ left_after key stops (is_below key stops bound) es rows) × (passed key stops (any_row key stops) es rows ≡ passed key stops (is_below key stops bound) es rows)
  last-below bound [] rows all = (refl, refl)
  last-below bound (comes x ∷ es) rows all =
      let under = lt-ltb (key x) bound.0 (All-head (IsUnder bound) (comes x) es all) in
      let rest = last-below bound es (rows ++ x ∷ []) (All-tail (IsUnder bound) (comes x) es all) in
      rw under (rest.0, ap (λ on. turns 0 ∷ on) rest.1)
  last-below bound (turns moved ∷ es) rows all =
      let rest = last-below bound es (after_turn key stops rows) (All-tail (IsUnder bound) (turns moved) es all) in
      (rest.0, ap (λ on. onward key stops moved rows ∷ on) rest.1)
  last-below bound (stopped moved y ∷ es) rows all =
      let rest = last-below bound es rows (All-tail (IsUnder bound) (stopped moved y) es all) in
      (rest.0, ap (λ on. stopped moved y ∷ on) rest.1)

  All-passed : (P : X → Type 0) (own : X → Bool) (es : List (CarryState X)) (rows : List X) → All (OfComing P) es → All (OfComing P) (passed key stops own es rows)
  All-passed P own [] rows all = All-nil (OfComing P)
  All-passed P own (e ∷ es) rows all =
      let on : List (CarryState X) = passed key stops own es (after_event key stops own e rows) in
      All-cons (OfComing P) (next key stops own e rows) on (OfComing-next key stops P own e rows (All-head (OfComing P) e es all)) (All-passed P own es (after_event key stops own e rows) (All-tail (OfComing P) e es all))

  -- if all rows that come in are of pieces below a bound, the rows that go on from these pieces reach the others
  in_bulk-joined : (es : List (CarryState X)) (pieces : Pieces X) (bound : InnerBound) (others : Pieces X) → All (IsUnder bound) es → (in_bulk key stops es (joined pieces bound others) ≡ joined (in_bulk key stops es pieces) bound (in_bulk key stops (bulk_outcomes key stops es pieces) others)) × (bulk_outcomes key stops es (joined pieces bound others) ≡ bulk_outcomes key stops (bulk_outcomes key stops es pieces) others)
  in_bulk-joined es (last rows) bound others all =
      let same = last-below bound es rows all in
      rw (same.0, same.1) (refl, refl)
  in_bulk-joined es (below rows b pieces) bound others all =
      let own = is_below key stops b in
      let rest = in_bulk-joined (passed key stops own es rows) pieces bound others (All-passed (λ x. key x < bound.0) own es rows all) in
      (ap (below (left_after key stops own es rows) b) rest.0, rest.1)

  length-passed : (own : X → Bool) (es : List (CarryState X)) (rows : List X) → length (passed key stops own es rows) ≡ length es
  length-passed own [] rows = refl
  length-passed own (e ∷ es) rows = ap suc (length-passed own es (after_event key stops own e rows))

  length-outcomes : (es : List (CarryState X)) (pieces : Pieces X) → length (bulk_outcomes key stops es pieces) ≡ length es
  length-outcomes es (last rows) = length-passed (any_row key stops) es rows
  length-outcomes es (below rows b pieces) = length-outcomes (passed key stops (is_below key stops b) es rows) pieces ∙ length-passed (is_below key stops b) es rows

  arriving-turns : (es : List (CarryState X)) → All IsTurn es → arriving es ≡ length es
  arriving-turns [] all = refl
  arriving-turns (comes x ∷ es) all = absurd (All-head IsTurn (comes x) es all)
  arriving-turns (turns moved ∷ es) all = ap suc (arriving-turns es (All-tail IsTurn (turns moved) es all))
  arriving-turns (stopped moved y ∷ es) all = absurd (All-head IsTurn (stopped moved y) es all)

  none-comes : (e : CarryState X) → IsTurn e → NoneComes e
  none-comes (comes x) is = absurd is
  none-comes (turns moved) is = tt
  none-comes (stopped moved y) is = absurd is

  abbrev Ends : X → Type 0
  Ends x = stops x ≡ true

  -- how a carry ends that reaches these rows, each of which ends one: with the first in hand, if there is one
  abbrev fallen : CarryState X → List X → CarryState X
  fallen (comes x) hs = comes x
  fallen (turns moved) [] = turns moved
  fallen (turns moved) (y ∷ ys) = stopped (suc moved) y
  fallen (stopped moved y) hs = stopped moved y

  record IsFirst (moved : ℕ) (pieces : Pieces X) : Type 0 where
    ended : outcome key stops (turns moved) pieces ≡ fallen (turns moved) (column_of pieces)
    others : column_of (reached key stops (turns moved) pieces) ≡ drop (suc zero) (column_of pieces)

  is_first : (moved : ℕ) (pieces : Pieces X) → Each Ends pieces → IsFirst moved pieces
  is_first moved (last []) each = record { ended = refl; others = refl }
  is_first moved (last (y ∷ ys)) each =
      let ends = All-head Ends y ys each in
      record { ended = rw ends refl; others = rw ends refl }
  is_first moved (below [] b pieces) each =
      let rest = is_first moved pieces each.1 in
      record { ended = rest.ended; others = rest.others }
  is_first moved (below (y ∷ ys) b pieces) each =
      let ends = All-head Ends y ys each.0 in
      record {
        ended = rw ends (outcome-stopped key stops (suc moved) y pieces);
        others = rw ends (ap (λ q. ys ++ column_of q) (reached-stopped key stops (suc moved) y pieces));
      }

-- how carries end that reach these rows one after the other
abbrev pub all_fallen : {X : Type 0} → List (CarryState X) → List X → List (CarryState X)
all_fallen [] hs = []
all_fallen (comes x ∷ es) hs = comes x ∷ all_fallen es hs
all_fallen (turns moved ∷ es) [] = turns moved ∷ all_fallen es []
all_fallen (turns moved ∷ es) (y ∷ ys) = stopped (suc moved) y ∷ all_fallen es ys
all_fallen (stopped moved y ∷ es) hs = stopped moved y ∷ all_fallen es hs

module _ {X : Type 0} (key : X → ℕ) (stops : X → Bool) where
  outcomes-fallen : (es : List (CarryState X)) (pieces : Pieces X) → All IsTurn es → Each (λ x. stops x ≡ true) pieces → outcomes key stops es pieces ≡ all_fallen es (column_of pieces)
  outcomes-fallen [] pieces all each = refl
  outcomes-fallen (comes x ∷ es) pieces all each = absurd (All-head IsTurn (comes x) es all)
  outcomes-fallen (turns moved ∷ es) pieces all each =
      let one = is_first key stops moved pieces each in
      let rest = outcomes-fallen es (reached key stops (turns moved) pieces) (All-tail IsTurn (turns moved) es all) (Each-reached key stops (λ x. stops x ≡ true) (turns moved) pieces tt each) in
      rw (one.ended, rest, one.others) (by_first (column_of pieces))
    where
      by_first : (hs : List X) → fallen key stops (turns moved) hs ∷ all_fallen es (drop (suc zero) hs) ≡ all_fallen (turns moved ∷ es) hs
      by_first [] = refl
      by_first (y ∷ ys) = refl
  outcomes-fallen (stopped moved y ∷ es) pieces all each = absurd (All-head IsTurn (stopped moved y) es all)

-- this many more rows were evicted
abbrev pub evicted_by : ℕ → MergeReport → MergeReport
evicted_by count tally = record tally { evicted = min (tally.evicted + count) greatest }

-- these rows were evicted, one after the other, and this many were moved
abbrev pub evicted_all : List Handle → ℕ → State → State
evicted_all hs made s = record s {
  pending_in = s.pending_in ++ hs;
  tally = evicted_by (length hs) (moved_by made s.tally);
}

evicted-nil : (made : ℕ) (s : State) → s.tally.evicted ≤ greatest → evicted_all [] made s ≡ record s { tally = moved_by made s.tally }
evicted-nil made s counted =
    let none : min (s.tally.evicted + 0) greatest ≡ s.tally.evicted = min-eq_left (omega (arith, counted)) ∙ omega arith in
    rw (append-nil s.pending_in, none) refl

-- they are evicted one after the other, one for each carry
ended_by-fallen : (es : List (CarryState Handle)) (hs : List Handle) (s : State) → All IsTurn es → All (λ h. is_doomed s h ≡ false) (take (length es) hs) → s.tally.moved ≤ greatest → s.tally.evicted ≤ greatest → ended_by (all_fallen es hs) s ≡ evicted_all (take (length es) hs) (sum_by moved_of es + length (take (length es) hs)) s
ended_by-fallen [] hs s all lasting moved evicted =
    let none : min (s.tally.moved + 0) greatest ≡ s.tally.moved = min-eq_left (omega (arith, moved)) ∙ omega arith in
    sym (evicted-nil 0 s evicted ∙ rw none refl)
ended_by-fallen (comes x ∷ es) hs s all lasting moved evicted = absurd (All-head IsTurn (comes x) es all)
ended_by-fallen (turns n ∷ es) [] s all lasting moved evicted =
    let no_rows : List Handle = [] in
    let empty : take (length es) no_rows ≡ [] = take-none (length es) no_rows refl in
    let t : State = record s { tally = moved_by n s.tally } in
    let rest = ended_by-fallen es [] t (All-tail IsTurn (turns n) es all) (rw empty (All-nil (λ h. is_doomed s h ≡ false))) (omega arith) evicted in
    let both : min (min (s.tally.moved + n) greatest + (sum_by moved_of es + 0)) greatest ≡ min (s.tally.moved + (sum_by moved_of (turns n ∷ es) + 0)) greatest =
    min_and s.tally.moved n (sum_by moved_of es + 0) ∙ ap (λ k. min (s.tally.moved + k) greatest) (omega (arith, sum_by-cons moved_of (turns n) es)) in
    (rw empty at rest) ∙ rw both refl
ended_by-fallen (turns n ∷ es) (y ∷ ys) s all lasting moved evicted =
    let goes : is_doomed s y ≡ false = All-head (λ h. is_doomed s h ≡ false) y (take (length es) ys) lasting in
    let out : List Handle = take (length es) ys in
    let t : State = record s {
      pending_in = s.pending_in ++ y ∷ [];
      tally = evicted_by 1 (moved_by (suc n) s.tally);
    } in
    let one : ended_so (stopped (suc n) y) s ≡ t = rw goes refl in
    let rest = ended_by-fallen es ys t (All-tail IsTurn (turns n) es all) (All-tail (λ h. is_doomed s h ≡ false) y out lasting) (omega arith) (omega arith) in
    let moves : min (min (s.tally.moved + suc n) greatest + (sum_by moved_of es + length out)) greatest ≡ min (s.tally.moved + (sum_by moved_of (turns n ∷ es) + suc (length out))) greatest =
    min_and s.tally.moved (suc n) (sum_by moved_of es + length out) ∙ ap (λ k. min (s.tally.moved + k) greatest) (omega (arith, sum_by-cons moved_of (turns n) es)) in
    let evicts : min (min (s.tally.evicted + 1) greatest + length out) greatest ≡ min (s.tally.evicted + suc (length out)) greatest =
    min_and s.tally.evicted 1 (length out) ∙ ap (λ k. min (s.tally.evicted + k) greatest) (omega arith) in
    ap (ended_by (all_fallen es ys)) one ∙ rest ∙ rw (append_assoc s.pending_in (y ∷ []) out, moves, evicts) refl
ended_by-fallen (stopped n y ∷ es) hs s all lasting moved evicted = absurd (All-head IsTurn (stopped n y) es all)

over-ends : (s : State) (bound : ℕ) (h : Handle) → bound ≤ key_at s.cells h → ends_with (Some bound) s h ≡ true
over-ends s bound h over = elim (cases_Bool (is_doomed s h)) [
  | inl doomed ↦ rw doomed refl
  | inr lasting ↦ rw (lasting, le-leb bound (key_at s.cells h) over) refl
]

under-goes : (s : State) (bound : ℕ) (h : Handle) → is_doomed s h ≡ false → key_at s.cells h < bound → ends_with (Some bound) s h ≡ false
under-goes s bound h lasting under = rw (lasting, lt-leb bound (key_at s.cells h) under) refl

-- the marks of a store below one of them, which is a ceiling, and those above it
pub record IsParted (s : State) (low : List Mark) (m : Mark) (high : List Mark) : Type 0 where
  pub rising : Rising (low ++ m ∷ high)
  pub rising_low : Rising low
  pub before : All (λ n. n.position ≤ m.position) low
  pub within : m.position ≤ length s.column
  pub rising_high : Rising high
  pub from : All (λ n. m.position ≤ n.position) high
  pub to : All (λ n. n.position ≤ length s.column) high

pub parted : (s : State) (low : List Mark) (m : Mark) (high : List Mark) → IsIntact s [] → s.marks ≡ low ++ m ∷ high → IsParted s low m high
parted s low m high intact is =
    let others : List Mark = m ∷ high in
    let long : length s.marks ≡ length low + length others = ap length is ∙ length-append low others in
    let rising : Rising (low ++ others) = rw is at intact.rising in
    let upper : Rising others = λ i j d h k. rw (get_or-append-add low others i d, get_or-append-add low others j d) at (rising (length low + i) (length low + j) d (omega (arith, h)) (omega (arith, k, length-append low others))) in
    let inside : All (λ n. n.position ≤ length s.column) others = λ k d h.
    let there : get_or s.marks (length low + k) d ≡ get_or others k d = ap (λ ms. get_or ms (length low + k) d) is ∙ get_or-append-add low others k d in
    let one = intact.obeyed (length low + k) d (omega (arith, h, long)) in
    let place : (get_or s.marks (length low + k) d).position ≤ length s.column = omega (arith, one.within, length-map s.column (key_at s.cells)) in
    rw there at place in
    let above = Rising-head m high upper in
    record {
      rising = rising;
      rising_low = λ i j d h k. rw (get_or_append_left low others d i (omega (arith, h, k)), get_or_append_left low others d j k) at (rising i j d h (omega (arith, k, length-append low others)));
      before = λ k d h.
          let one = rising k (length low) d h (omega (arith, length-append low others)) in
          let place = one.positions in
          rw (get_or_append_left low others d k h, get_or_at low m high d (length low) refl) at place;
      within = All-head (λ n. n.position ≤ length s.column) m high inside;
      rising_high = Rising-tail m high upper;
      from = λ k d h. (above k d h).positions;
      to = All-tail (λ n. n.position ≤ length s.column) m high inside;
    }

-- the result of all carries of a range under a ceiling, whose mark is between those below it and those above it, if none of the rows that they meet
-- is doomed: the rows are sifted through the pieces below the ceiling, and as many rows beyond it are evicted
abbrev pub carried_under : Range → State → List Mark → Mark → List Mark → State
carried_under r s low m high =
    let key = key_at s.cells in
    let rows = inside_of s.cells r s.pending_in in
    let pieces = cut 0 low (take m.position s.column) in
    let beyond = drop m.position s.column in
    evicted_all (take (length rows) beyond) (all_made_way key 0 rows pieces + length (take (length rows) beyond)) (record s {
      column = column_of (sifted key 0 rows pieces) ++ drop (length rows) beyond;
      marks = map (risen key rows) low ++ map (at_least (m.position + length rows)) (m ∷ high);
      pending_in = outside_of s.cells r s.pending_in;
      tally = insertions_by (length rows) s.tally;
    })

-- no carry of a range meets a doomed row, and no row that comes in is at or above the ceiling
pub record GoUnder (r : Range) (s : State) (low : List Mark) (m : Mark) (high : List Mark) : Type 0 where
  pub marks : s.marks ≡ low ++ m ∷ high
  pub met : OfMet (key_at s.cells) (λ h. is_doomed s h ≡ false) 0 (inside_of s.cells r s.pending_in) (cut 0 low (take m.position s.column))
  pub beyond : All (λ h. is_doomed s h ≡ false) (take (length (inside_of s.cells r s.pending_in)) (drop m.position s.column))
  pub under : All (λ h. key_at s.cells h < m.bound.0) (inside_of s.cells r s.pending_in)

module _ (r : Range) (s : State) (low : List Mark) (m : Mark) (high : List Mark) (intact : IsIntact s []) (go : GoUnder r s low m high) where
  abbrev key : Handle → ℕ
  key = key_at s.cells

  abbrev stops : Handle → Bool
  stops = ends_with (Some m.bound.0) s

  abbrev rows : List Handle
  rows = inside_of s.cells r s.pending_in

  abbrev beyond : List Handle
  beyond = drop m.position s.column

  abbrev lower : Pieces Handle
  lower = cut 0 low (take m.position s.column)

  abbrev upper : Pieces Handle
  upper = cut m.position high beyond

  abbrev outs : List (CarryState Handle)
  outs = bulk_outcomes key stops (arrivals r s) lower

  split : pieces_of s ≡ joined lower m.bound upper
  split =
      let plain : m.position - 0 ≡ m.position = omega arith in
      let one = rw plain at (cut-at 0 low m high s.column (parted s low m high intact go.marks).rising (λ k d h. omega arith)) in
      ap (λ ms. cut 0 ms s.column) go.marks ∙ one

  parts : AreJoined key 0 lower m.bound upper
  parts = divided-joined key 0 lower m.bound upper (rw split at (IsCut-intact s [] intact).divided)

  ends : Each (λ h. stops h ≡ true) upper
  ends = each-weaker key (λ h. m.bound.0 ≤ key h) (λ h. stops h ≡ true) (λ h up. over-ends s m.bound.0 h up) upper (each-above key m.bound.0 m.bound.0 upper (omega arith) parts.upper)

  -- the pieces below the ceiling
  record AreLower : Type 0 where
    pieces_are : in_bulk key stops (arrivals r s) lower ≡ sifted key 0 rows lower
    total : sum_by moved_of outs ≡ all_made_way key 0 rows lower
    turn : All IsTurn outs
    none : All NoneComes outs
    many : length outs ≡ length rows
    arrive : arriving outs ≡ length rows
    size : 0 + length (column_of (sifted key 0 rows lower)) ≡ m.position + length rows
    marks : marks_of 0 (sifted key 0 rows lower) ≡ map (risen key rows) low

  are_lower : AreLower
  are_lower =
      let cutting = parted s low m high intact go.marks in
      let lasts : All (λ h. is_doomed s h ≡ false) s.pending_in = λ k d within. rw (get_or_default s.pending_in k d no_handle within) (pending-lasts s k within intact) in
      let lasts_in : All (λ h. is_doomed s h ≡ false) rows = All-filter (λ h. is_in r (key h)) (λ h. is_doomed s h ≡ false) s.pending_in lasts in
      let coming : All (λ h. stops h ≡ false) rows = λ k d within. under-goes s m.bound.0 (get_or rows k d) (lasts_in k d within) (go.under k d within) in
      let met = met-both key (λ h. is_doomed s h ≡ false) (λ h. key h < m.bound.0) (λ h. stops h ≡ false) (λ h a b. under-goes s m.bound.0 h a b) 0 rows lower go.met parts.under in
      let all = AreSifted-of key stops 0 rows (arrivals r s) lower parts.lower (AreOf-coming key stops rows) coming met in
      let many : length outs ≡ length rows = length-outcomes key stops (arrivals r s) lower ∙ length-map rows comes in
      let short : length (take m.position s.column) ≡ m.position = length-take-le m.position s.column cutting.within in
      let joined_is : length (column_of lower) ≡ m.position = ap length (column_of-cut 0 low (take m.position s.column)) ∙ short in
      let first : 0 + count_below key 0 rows ≡ 0 = omega (arith, none_below key stops rows) in
      let low_is : marks_of 0 lower ≡ low = marks_of-cut 0 low (take m.position s.column) cutting.rising_low (λ k d h. omega arith) (λ k d h. omega (arith, cutting.before k d h, short)) in
      record {
        pieces_are = all.pieces_are;
        total = omega (arith, all.total_is, none-moved key stops rows);
        turn = all.turn;
        none = All-weaker IsTurn NoneComes (none-comes key stops) outs all.turn;
        many = many;
        arrive = arriving-turns key stops outs all.turn ∙ many;
        size = omega (arith, length-sifted key 0 rows lower parts.lower, joined_is, first);
        marks = (rw first at (marks_of-sifted key stops 0 0 rows lower parts.lower)) ∙ ap (map (risen key rows)) low_is;
      }

  -- and all pieces
  record AreAll : Type 0 where
    column : column_of (in_bulk key stops (arrivals r s) (pieces_of s)) ≡ column_of (sifted key 0 rows lower) ++ drop (length rows) beyond
    marks : marks_of 0 (in_bulk key stops (arrivals r s) (pieces_of s)) ≡ map (risen key rows) low ++ map (at_least (m.position + length rows)) (m ∷ high)
    outcomes_are : bulk_outcomes key stops (arrivals r s) (pieces_of s) ≡ all_fallen outs beyond

  are_all : AreAll
  are_all =
      let cutting = parted s low m high intact go.marks in
      let one = are_lower in
      let sieved : Pieces Handle = sifted key 0 rows lower in
      let after_them : Pieces Handle = in_bulk key stops outs upper in
      let coming : All (OfComing (λ h. key h < m.bound.0)) (arrivals r s) = All-map (OfComing (λ h. key h < m.bound.0)) comes rows go.under in
      let whole = in_bulk-joined key stops (arrivals r s) lower m.bound upper coming in
      let pieces_are : in_bulk key stops (arrivals r s) (pieces_of s) ≡ joined sieved m.bound after_them = ap (in_bulk key stops (arrivals r s)) split ∙ whole.0 ∙ ap (λ q. joined q m.bound after_them) one.pieces_are in
      let rest : column_of after_them ≡ drop (length rows) beyond = column_of-beyond key stops outs upper one.none ends ∙ rw (one.arrive, column_of-cut m.position high beyond) refl in
      let long : m.position + length beyond ≡ length s.column = omega (arith, length-drop m.position s.column, cutting.within) in
      let high_is : marks_of m.position upper ≡ high = marks_of-cut m.position high beyond cutting.rising_high cutting.from (λ k d h. omega (arith, cutting.to k d h, long)) in
      let beyond_are : marks_of (m.position + length rows) after_them ≡ map (at_least (m.position + length rows)) high = (rw one.arrive at (marks_of-beyond key stops m.position outs upper one.none ends)) ∙ ap (map (at_least (m.position + length rows))) high_is in
      let top : max m.position (m.position + length rows) ≡ m.position + length rows = omega arith in
      record {
        column = ap column_of pieces_are ∙ column_of-joined sieved m.bound after_them ∙ ap (λ ys. column_of sieved ++ ys) rest;
        marks = ap (marks_of 0) pieces_are ∙ marks_of-joined 0 sieved m.bound after_them ∙ rw (one.size, one.marks, beyond_are, top) refl;
        outcomes_are = ap (bulk_outcomes key stops (arrivals r s)) split ∙ whole.1 ∙ sym (outcomes-in_bulk key stops outs upper) ∙ outcomes-fallen key stops outs upper one.turn ends ∙ ap (all_fallen outs) (column_of-cut m.position high beyond);
      }

  pub carried-under : carried_in_bulk (Some m.bound.0) r s ≡ carried_under r s low m high
  carried-under =
      let one = are_lower in
      let all = are_all in
      let many : length (arrivals r s) ≡ length rows = length-map rows comes in
      let before : State = record s {
        column = column_of (sifted key 0 rows lower) ++ drop (length rows) beyond;
        marks = map (risen key rows) low ++ map (at_least (m.position + length rows)) (m ∷ high);
        pending_in = outside_of s.cells r s.pending_in;
        tally = insertions_by (length rows) s.tally;
      } in
      let lasting : All (λ h. is_doomed s h ≡ false) (take (length outs) beyond) = rw one.many go.beyond in
      let done : ended_by (all_fallen outs beyond) before ≡ carried_under r s low m high =
      ended_by-fallen outs beyond before one.turn lasting intact.counted.moved intact.counted.evicted ∙ rw (one.many, one.total) refl in
      rw (all.outcomes_are, all.column, all.marks, many) done
