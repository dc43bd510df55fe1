-- Pulls by fillers in bulk are one pull after the other: a relation that each of them extends holds after all of them.
use Rattle.std.proofs.Common.{◌≡◌, ℕ, zero, suc, ◌+◌, ◌-◌, ◌<◌, ◌≤◌, true, false, min, List, [], ◌∷◌, ◌++◌, map, length, take, drop, reverse, get_or, Some, None, refl, sym, ap, subst, ◌∙◌, inl, inr, arith}
use Rattle.std.specs.List.{All, remove}
use Rattle.std.proofs.Math.Nat.{min-eq_left}
use Rattle.std.proofs.lemmas.Bool.{cases_lt, lt-ltb, le-ltb}
use Rattle.std.proofs.lemmas.List.{append_assoc, length-append, length-map, length-drop, get_or-map, get_or_append_left, take_at, drop_at, take-append-drop, reverse-append}
use Rattle.std.proofs.lemmas.List.Edits.{length-remove, get_or-remove_below}
use Rattle.std.proofs.lemmas.List.Elements.{All-head, All-tail, All-take, All-filter}
use Rattle.crack_row.specs.Ranges.{Range, IsIn, is_in}
use Rattle.crack_row.specs.declared.Row.{Row}
use Rattle.crack_arena.specs.Arena.{Cell, Handle, StandsAt, no_handle, times, slots}
use Rattle.crack_arena.specs.Rows.{key_at, keys_at}
use Rattle.crack_arena.proofs.Times.{times-nil, times-append, times_head, times_map_at}
use Rattle.crack_index.specs.declared.mark.Mark.{Mark}
use Rattle.crack_pending.specs.Pending.{Finds, NoneIn}
use Rattle.crack_pending.proofs.Searches.{is_in-true, is_in-false, StandsAt-get_or}
use Rattle.crack_state.specs.State.{State, IsIntact, live_rows, greatest}
use Rattle.crack_state.specs.Steps.{lifted}
use Rattle.crack_state.proofs.BuryLaws.{freed-doomed}
use Rattle.crack_state.proofs.CellLaws.{AgreeOff-set, key_at-off}
use Rattle.crack_state.proofs.DrawLaws.{place_in-doomed}
use Rattle.crack_state.proofs.OwnedLaws.{apart_from_times, times-places, times-taken, once-most}
use Rattle.crack_state.proofs.StepLaws.{IsIntact-lifted}
use Rattle.crack_state.specs.Pieces.{Pieces, column_of, marks_of, cut}
use Rattle.crack_state.specs.Carried.{inside_of}
use Rattle.crack_state.specs.Pulled.{pulled, all_drawn, itself}
use Rattle.crack_state.specs.Filled.{lacking, pieces_under, filled_from}
use Rattle.crack_state.proofs.AllCarriedLaws.{inside_or, keys_same}
use Rattle.crack_state.proofs.AllPulledLaws.{pulled-cons, drawn-cons, pulled-none, drawn-none, pulled-agree}
use Rattle.crack_state.proofs.CutLaws.{column_of-cut, cut-joined}
use Rattle.crack_state.proofs.Draws.{Draws, fallen}
use Rattle.crack_state.proofs.FallLaws.{count_under, fallen_by, AreBuried, count-agree, none-fall, both-fall, length-Draws, some-below}
use Rattle.crack_state.proofs.FillLaws.{marks-under, edge-within, front-long, inside, marks-one, Draws-filled}
use Rattle.crack_state.proofs.DoomedPullLaws.{IsIntact-Draws, live_rows-Draws}
use Rattle.crack_state.proofs.SiftedLaws.{min_and}

-- The first of them

module _ (cells : List (Cell Row)) (r : Range) where
  abbrev key : Handle → ℕ
  key = key_at cells

  -- the first handle whose key is in the range
  pub record FirstInside (hs : List Handle) : Type 0 where
    pub place : ℕ
    pub within : place < length hs
    pub holds : IsIn r (key (get_or hs place no_handle))
    pub before : (k : ℕ) → k < place → ¬ IsIn r (key (get_or hs k no_handle))
    pub inside_is : inside_of cells r hs ≡ get_or hs place no_handle ∷ inside_of cells r (remove hs place)
    pub lacking_is : (n : ℕ) → lacking cells r (suc n) hs ≡ lacking cells r n (remove hs place)

  -- one that isn't in the range comes before them
  later : (h : Handle) (hs : List Handle) → ¬ IsIn r (key h) → FirstInside hs → FirstInside (h ∷ hs)
  later h hs beyond first =
      let not_in : is_in r (key h) ≡ false = is_in-false r (key h) beyond in
      record {
        place = suc first.place;
        within = omega (arith, first.within);
        holds = first.holds;
        before = before;
        inside_is = rw not_in first.inside_is;
        lacking_is = lacking_on;
      }
    where
      before : (k : ℕ) → k < suc first.place → ¬ IsIn r (key (get_or (h ∷ hs) k no_handle))
      before zero l = beyond
      before (suc k) l = first.before k (omega (arith, l))

      lacking_on : (n : ℕ) → lacking cells r (suc n) (h ∷ hs) ≡ lacking cells r n (h ∷ remove hs first.place)
      lacking_on zero = rw (is_in-false r (key h) beyond) (ap (λ gs. h ∷ gs) (first.lacking_is zero))
      lacking_on (suc n) = rw (is_in-false r (key h) beyond) (ap (λ gs. h ∷ gs) (first.lacking_is (suc n)))

  pub first-inside : (hs : List Handle) → 0 < length (inside_of cells r hs) → FirstInside hs
  first-inside [] some = absurd (omega (arith, some))
  first-inside (h ∷ hs) some = elim (inside_or r (key h)) [
    | inl is ↦
        let here : is_in r (key h) ≡ true = is_in-true r (key h) is in
        record {
          place = 0;
          within = omega arith;
          holds = is;
          before = λ k l. absurd (omega (arith, l));
          inside_is = rw here refl;
          lacking_is = λ n. rw here refl;
        }
    | inr beyond ↦ later h hs beyond (first-inside hs (rw (is_in-false r (key h) beyond) at some))
  ]

  -- a search finds it
  pub first-found : (hs : List Handle) (from : ℕ) (first : FirstInside hs) → NoneIn r (keys_at cells hs) 0 from → Finds r (keys_at cells hs) from (Some first.place)
  first-found hs from first none =
      let read : (k : ℕ) → k < length hs → get_or (map key hs) k 0 ≡ key (get_or hs k no_handle) = λ k l. get_or-map key hs k no_handle 0 l in
      record {
        after = elim (cases_lt first.place from) [
          | inl l ↦ absurd (none first.place (omega arith) l (rw (read first.place first.within) first.holds))
          | inr l ↦ l
        ];
        within = omega (arith, first.within, length-map hs key);
        holds = rw (read first.place first.within) first.holds;
        before = λ k from_on up_to. rw (read k (omega (arith, up_to, first.within))) (first.before k up_to);
      }

  -- and once it is gone, none is before its place
  pub none-before : (cells' : List (Cell Row)) (hs : List Handle) (first : FirstInside hs) → All (λ h. key_at cells' h ≡ key h) (remove hs first.place) → NoneIn r (keys_at cells' (remove hs first.place)) 0 first.place
  none-before cells' hs first same = λ k from_on up_to.
      let less : k < length (remove hs first.place) = omega (arith, up_to, first.within, length-remove hs first.place first.within) in
      rw (get_or-map (key_at cells') (remove hs first.place) k no_handle 0 less, same k no_handle less, get_or-remove_below hs first.place no_handle k up_to first.within) (first.before k up_to)

  pub lacking-agree : (cells' : List (Cell Row)) (n : ℕ) (hs : List Handle) → All (λ h. key_at cells' h ≡ key h) hs → lacking cells' r n hs ≡ lacking cells r n hs
  lacking-agree cells' zero hs same = refl
  lacking-agree cells' (suc n) [] same = refl
  lacking-agree cells' (suc n) (h ∷ hs) same =
      let rest = All-tail (λ g. key_at cells' g ≡ key g) h hs same in
      rw (All-head (λ g. key_at cells' g ≡ key g) h hs same, lacking-agree cells' n hs rest, lacking-agree cells' (suc n) hs rest) refl

-- One pull, and then the others

module _ (s : State) (low : List Mark) (edge : Mark) (high : List Mark) (d f : Handle) (left : List Handle) where
  abbrev first_key : Handle → ℕ
  first_key = key_at s.cells

  abbrev P0 : Pieces Handle
  P0 = pieces_under s low edge

  abbrev P1 : Pieces Handle
  P1 = pulled (key_at s.cells) itself 0 (d ∷ []) (pieces_under s low edge)

  abbrev t1 : State
  t1 = filled_from low edge high (d ∷ []) (f ∷ []) left s

  abbrev pub edge1 : Mark
  edge1 = record edge { position = edge.position - 1 }

  module _ (long : length (column_of P1) ≡ edge.position - 1) where
    pub under-first : pieces_under t1 (marks_of 0 P1) edge1 ≡ P1
    under-first = ap (cut 0 (marks_of 0 P1)) (take_at (column_of P1) (f ∷ drop edge.position s.column) (edge.position - 1) long) ∙ cut-joined 0 P1

    pub filled-first : (ds fs left' : List Handle) → All (λ h. key_at t1.cells h ≡ first_key h) ds → filled_from (marks_of 0 P1) edge1 high ds fs left' t1 ≡ filled_from low edge high (d ∷ ds) (f ∷ fs) left' s
    filled-first ds fs left' same =
        let agree = pulled-agree (key_at t1.cells) first_key 0 ds (pieces_under t1 (marks_of 0 P1) edge1) same in
        let pieces : pulled (key_at t1.cells) itself 0 ds (pieces_under t1 (marks_of 0 P1) edge1) ≡ pulled first_key itself 0 (d ∷ ds) P0 = agree.0 ∙ ap (pulled first_key itself 0 ds) under-first ∙ pulled-cons first_key 0 d ds P0 in
        let counts : all_drawn (key_at t1.cells) itself 0 ds (pieces_under t1 (marks_of 0 P1) edge1) ≡ all_drawn first_key itself 0 ds P1 = agree.1 ∙ ap (all_drawn first_key itself 0 ds) under-first in
        let n1 : ℕ = all_drawn first_key itself 0 (d ∷ []) P0 in
        let n2 : ℕ = all_drawn first_key itself 0 ds P1 in
        let sum : (n1 + 1) + (n2 + length fs) ≡ all_drawn first_key itself 0 (d ∷ ds) P0 + suc (length fs) = omega (arith, drawn-cons first_key 0 d ds P0) in
        let drew : min (min (s.tally.pulled + (n1 + 1)) greatest + (n2 + length fs)) greatest ≡ min (s.tally.pulled + (all_drawn first_key itself 0 (d ∷ ds) P0 + suc (length fs))) greatest = min_and s.tally.pulled (n1 + 1) (n2 + length fs) ∙ ap (λ n. min (s.tally.pulled + n) greatest) sum in
        let one_more : 1 + length fs ≡ suc (length fs) = omega arith in
        let came : min (min (s.tally.insertions + 1) greatest + length fs) greatest ≡ min (s.tally.insertions + suc (length fs)) greatest = min_and s.tally.insertions 1 (length fs) ∙ ap (λ n. min (s.tally.insertions + n) greatest) one_more in
        let behind : drop (edge.position - 1) (column_of P1 ++ (f ∷ drop edge.position s.column)) ≡ f ∷ drop edge.position s.column = drop_at (column_of P1) (f ∷ drop edge.position s.column) (edge.position - 1) long in
        let front : reverse fs ++ (f ∷ drop edge.position s.column) ≡ reverse (f ∷ fs) ++ drop edge.position s.column = sym (append_assoc (reverse fs) (f ∷ []) (drop edge.position s.column)) ∙ ap (λ hs. hs ++ drop edge.position s.column) (sym (reverse-append (f ∷ []) fs)) in
        let falls : (edge.position - 1) - length ds ≡ edge.position - suc (length ds) = omega arith in
        rw (pieces, counts, behind) (rw (drew, came, front, falls) (refl {a = filled_from low edge high (d ∷ ds) (f ∷ fs) left' s}))

-- if no pull is left
filled-none : (s : State) (low : List Mark) (edge : Mark) (high : List Mark) → s.marks ≡ low ++ edge ∷ high → IsIntact s [] → filled_from low edge high [] [] s.pending_in s ≡ s
filled-none s low edge high marks_are intact =
    let key = key_at s.cells in
    let P = pieces_under s low edge in
    let none : min (s.tally.pulled + (0 + 0)) greatest ≡ s.tally.pulled = min-eq_left (omega (arith, intact.counted.pulled)) ∙ omega arith in
    let came : min (s.tally.insertions + 0) greatest ≡ s.tally.insertions = min-eq_left (omega (arith, intact.counted.insertions)) ∙ omega arith in
    let same : edge.position - 0 ≡ edge.position = omega arith in
    rw (pulled-none key 0 P, drawn-none key 0 P) (rw (column_of-cut 0 low (take edge.position s.column), marks-under s low edge high marks_are intact, none, came, same) (rw (take-append-drop edge.position s.column, ← marks_are) refl))

-- a relation that the pull of one pending deletion by a filler extends, from the places where the searches went on: they find the two, the filler is
-- lifted, and the doomed row is pulled
abbrev pub FillsOn : Range → Range → (ℕ → ℕ → State → Type 0) → Type 0
FillsOn r fillers On = (from place seen next : ℕ) (t v : State) → On from seen t → IsIntact t [] → Finds r (keys_at t.cells t.pending_out) from (Some place) → Finds fillers (keys_at t.cells t.pending_in) seen (Some next) → Draws (get_or t.pending_out place no_handle) (lifted next t) v → On place next v

module _ (r fillers : Range) where
  -- the first pulls, this many, each by a filler
  abbrev pub filled_by : ℕ → List Mark → Mark → List Mark → State → State
  filled_by n low edge high s =
      filled_from low edge high (take n (inside_of s.cells r s.pending_out)) (take n (inside_of s.cells fillers s.pending_in)) (lacking s.cells fillers n s.pending_in) s

  abbrev pub doomed_first : ℕ → State → List Handle
  doomed_first n s = take n (inside_of s.cells r s.pending_out)

  -- the store after them
  pub record AreFilled (On : ℕ → ℕ → State → Type 0) (n : ℕ) (low : List Mark) (edge : Mark) (ds : List Handle) (s t : State) : Type 0 where
    pub from : ℕ
    pub seen : ℕ
    pub on : On from seen t
    pub none_out : NoneIn r (keys_at t.cells t.pending_out) 0 from
    pub none_in : NoneIn fillers (keys_at t.cells t.pending_in) 0 seen
    pub intact : IsIntact t []
    pub live : live_rows t ≡ live_rows s
    pub out : t.pending_out ≡ lacking s.cells r n s.pending_out
    pub fallen_are : marks_of 0 (pulled (key_at s.cells) itself 0 ds (pieces_under s low edge)) ≡ map (fallen_by (key_at s.cells) ds) low
    pub few : All (λ m. count_under (key_at s.cells) m.bound.0 ds ≤ m.position) low
    pub long : length (column_of (pulled (key_at s.cells) itself 0 ds (pieces_under s low edge))) + n ≡ edge.position
    pub buried : AreBuried ds s.cells s.pending_out

  -- where they can begin
  pub record CanFill (low : List Mark) (edge : Mark) (high : List Mark) (s : State) : Type 0 where
    pub intact : IsIntact s []
    pub marks_are : s.marks ≡ low ++ edge ∷ high
    pub edge_is : edge.bound.0 ≡ fillers.low
    pub beyond : All (λ m. fillers.high ≤ m.bound.0) high
    pub behind : r.high ≤ fillers.low

  module _ (On : ℕ → ℕ → State → Type 0) (onward : FillsOn r fillers On) where
    -- one pull of the first of them by the first filler
    module _ (low : List Mark) (edge : Mark) (high : List Mark) (s : State) (can : CanFill low edge high s) (F : FirstInside s.cells r s.pending_out) (G : FirstInside s.cells fillers s.pending_in) where
      abbrev key0 : Handle → ℕ
      key0 = key_at s.cells

      abbrev doomed : Handle
      doomed = get_or s.pending_out F.place no_handle

      abbrev filler : Handle
      filler = get_or s.pending_in G.place no_handle

      abbrev s1 : State
      s1 = filled_from low edge high (doomed ∷ []) (filler ∷ []) (remove s.pending_in G.place) s

      abbrev pieces1 : Pieces Handle
      pieces1 = pulled (key_at s.cells) itself 0 (doomed ∷ []) (pieces_under s low edge)

      under : key0 doomed < edge.bound.0
      under = omega (arith, F.holds.1, can.behind, can.edge_is)

      from_edge : edge.bound.0 ≤ key0 filler
      from_edge = omega (arith, G.holds.0, can.edge_is)

      below_next : All (λ m. key0 filler < m.bound.0) high
      below_next = λ k e h. omega (arith, G.holds.1, can.beyond k e h)

      led : Draws doomed (lifted G.place s) s1
      led = Draws-filled s low edge high can.marks_are can.intact G.place G.within from_edge below_next F.place F.within under

      stands : StandsAt s.pending_out F.place doomed
      stands = StandsAt-get_or s.pending_out F.place no_handle F.within

      intact1 : IsIntact s1 []
      intact1 = IsIntact-Draws F.place doomed (lifted G.place s) s1 stands (IsIntact-lifted G.place s G.within can.intact) led

      live1 : live_rows s1 ≡ live_rows s
      live1 = live_rows-Draws F.place doomed (lifted G.place s) s1 stands (IsIntact-lifted G.place s G.within can.intact) led

      out1 : s1.pending_out ≡ remove s.pending_out F.place
      out1 = ap (remove s.pending_out) (place_in-doomed s [] F.place doomed can.intact stands)

      apart_out : times doomed.slot (slots (remove s.pending_out F.place)) ≡ 0
      apart_out =
          let owned = can.intact.owned in
          let once : times doomed.slot (slots s.pending_out) ≤ 1 = omega (arith, owned.doomed_once doomed.slot, times-append doomed.slot (slots s.column) [], times-nil doomed.slot, times-places doomed.slot s.column s.pending_in s.free [], once-most s.cells s.free s.column s.pending_in s.pending_out [] doomed.slot owned) in
          omega (arith, times-taken doomed.slot s.pending_out F.place doomed F.within stands.is, once, times_head doomed.slot [])

      apart_in : times doomed.slot (slots (remove s.pending_in G.place)) ≡ 0
      apart_in =
          let owned = can.intact.owned in
          let listed : 0 < times doomed.slot (slots s.pending_out) = times_map_at doomed.slot (λ (x : Handle). x.slot) s.pending_out F.place no_handle F.within refl in
          let none : times doomed.slot (slots s.pending_in) ≡ 0 = omega (arith, listed, owned.doomed_once doomed.slot, times-append doomed.slot (slots s.column) [], times-nil doomed.slot, times-places doomed.slot s.column s.pending_in s.free [], once-most s.cells s.free s.column s.pending_in s.pending_out [] doomed.slot owned) in
          omega (arith, times-taken doomed.slot s.pending_in G.place filler G.within (StandsAt-get_or s.pending_in G.place no_handle G.within).is, none)

      same_out : All (λ g. key_at s1.cells g ≡ key0 g) (remove s.pending_out F.place)
      same_out = λ k e l. key_at-off doomed.slot s.cells s1.cells (get_or (remove s.pending_out F.place) k e) (AgreeOff-set s.cells doomed.slot (record { generation = doomed.generation + 1; value = None })) (apart_from_times (remove s.pending_out F.place) doomed.slot apart_out k e l)

      same_in : All (λ g. key_at s1.cells g ≡ key0 g) (remove s.pending_in G.place)
      same_in = λ k e l. key_at-off doomed.slot s.cells s1.cells (get_or (remove s.pending_in G.place) k e) (AgreeOff-set s.cells doomed.slot (record { generation = doomed.generation + 1; value = None })) (apart_from_times (remove s.pending_in G.place) doomed.slot apart_in k e l)

      inside_out : inside_of s1.cells r s1.pending_out ≡ inside_of s.cells r (remove s.pending_out F.place)
      inside_out = ap (inside_of s1.cells r) out1 ∙ (keys_same r s.cells s1.cells (remove s.pending_out F.place) same_out).0

      inside_in : inside_of s1.cells fillers s1.pending_in ≡ inside_of s.cells fillers (remove s.pending_in G.place)
      inside_in = (keys_same fillers s.cells s1.cells (remove s.pending_in G.place) same_in).0

      some : 1 ≤ edge.position
      some = omega (arith, inside s low edge high can.marks_are can.intact G.place G.within from_edge below_next F.place F.within under)

      long1 : length (column_of pieces1) ≡ edge.position - 1
      long1 =
          let back : List Handle = drop edge.position s.column in
          omega (arith, length-Draws doomed (lifted G.place s) s1 led, length-append (column_of pieces1) (filler ∷ back), length-drop edge.position s.column, edge-within s low edge high can.marks_are can.intact, some)

      marks1 : marks_of 0 pieces1 ≡ map (fallen (key0 doomed)) low
      marks1 = marks-one s low edge high can.marks_are can.intact G.place G.within from_edge below_next F.place F.within under

      can1 : CanFill (marks_of 0 pieces1) (edge1 s low edge high doomed filler (remove s.pending_in G.place)) high s1
      can1 = record { intact = intact1; marks_are = refl; edge_is = can.edge_is; beyond = can.beyond; behind = can.behind }

      on1 : (from seen : ℕ) → On from seen s → NoneIn r (keys_at s.cells s.pending_out) 0 from → NoneIn fillers (keys_at s.cells s.pending_in) 0 seen → On F.place G.place s1
      on1 from seen on none_out none_in =
          onward from F.place seen G.place s s1 on can.intact (first-found s.cells r s.pending_out from F none_out) (first-found s.cells fillers s.pending_in seen G none_in) led

      none_out1 : NoneIn r (keys_at s1.cells s1.pending_out) 0 F.place
      none_out1 = rw out1 (none-before s.cells r s1.cells s.pending_out F same_out)

      none_in1 : NoneIn fillers (keys_at s1.cells s1.pending_in) 0 G.place
      none_in1 = none-before s.cells fillers s1.cells s.pending_in G same_in

      -- and of the others, this many
      module _ (n : ℕ) where
        abbrev others : List Handle
        others = take n (inside_of s.cells r (remove s.pending_out F.place))

        abbrev more : List Handle
        more = doomed ∷ others

        others_same : All (λ g. key_at s1.cells g ≡ key0 g) others
        others_same = All-take (λ g. key_at s1.cells g ≡ key0 g) n (inside_of s.cells r (remove s.pending_out F.place)) (All-filter (λ g. is_in r (key0 g)) (λ g. key_at s1.cells g ≡ key0 g) (remove s.pending_out F.place) same_out)

        dooms : doomed_first n s1 ≡ others
        dooms = ap (take n) inside_out

        whole : filled_by n (marks_of 0 pieces1) (edge1 s low edge high doomed filler (remove s.pending_in G.place)) high s1 ≡ filled_by (suc n) low edge high s
        whole =
            let left' : List Handle = lacking s.cells fillers n (remove s.pending_in G.place) in
            let fs : List Handle = take n (inside_of s.cells fillers (remove s.pending_in G.place)) in
            let first = filled-first s low edge high doomed filler (remove s.pending_in G.place) long1 others fs left' others_same in
            rw (inside_out, inside_in, lacking-agree s.cells fillers s1.cells n (remove s.pending_in G.place) same_in, F.inside_is, G.inside_is, G.lacking_is n) first

        filled-on : AreFilled On n (marks_of 0 pieces1) (edge1 s low edge high doomed filler (remove s.pending_in G.place)) (doomed_first n s1) s1 (filled_by n (marks_of 0 pieces1) (edge1 s low edge high doomed filler (remove s.pending_in G.place)) high s1) → AreFilled On (suc n) low edge more s (filled_by (suc n) low edge high s)
        filled-on rest =
            let key1 : Handle → ℕ = key_at s1.cells in
            let E : Mark = edge1 s low edge high doomed filler (remove s.pending_in G.place) in
            let Q : Pieces Handle = pieces_under s1 (marks_of 0 pieces1) E in
            let Q_is : Q ≡ pieces1 = under-first s low edge high doomed filler (remove s.pending_in G.place) long1 in
            let agree = pulled-agree key1 key0 0 others Q others_same in
            let pieces : pulled key1 itself 0 others Q ≡ pulled key0 itself 0 more (pieces_under s low edge) = agree.0 ∙ ap (pulled key0 itself 0 others) Q_is ∙ pulled-cons key0 0 doomed others (pieces_under s low edge) in
            let fallen1 : marks_of 0 (pulled key1 itself 0 others Q) ≡ map (fallen_by key1 others) (marks_of 0 pieces1) = rw dooms at rest.fallen_are in
            let few1 : All (λ m. count_under key1 m.bound.0 others ≤ m.position) (marks_of 0 pieces1) = rw dooms at rest.few in
            let longer : length (column_of (pulled key1 itself 0 others Q)) + n ≡ edge.position - 1 = rw dooms at rest.long in
            let buried1 : AreBuried others s1.cells s1.pending_out = rw dooms at rest.buried in
            record {
              from = rest.from;
              seen = rest.seen;
              on = subst (λ (x : State). On rest.from rest.seen x) whole rest.on;
              none_out = subst (λ (x : State). NoneIn r (keys_at x.cells x.pending_out) 0 rest.from) whole rest.none_out;
              none_in = subst (λ (x : State). NoneIn fillers (keys_at x.cells x.pending_in) 0 rest.seen) whole rest.none_in;
              intact = subst (λ (x : State). IsIntact x []) whole rest.intact;
              live = ap live_rows (sym whole) ∙ rest.live ∙ live1;
              out = ap (λ (x : State). x.pending_out) (sym whole) ∙ rest.out ∙ ap (lacking s1.cells r n) out1 ∙ lacking-agree s.cells r s1.cells n (remove s.pending_out F.place) same_out ∙ sym (F.lacking_is n);
              fallen_are = ap (marks_of 0) (sym pieces) ∙ fallen1 ∙ ap (map (fallen_by key1 others)) marks1 ∙ both-fall key0 key1 doomed others low others_same;
              few = λ k e l.
                  let m : Mark = get_or low k e in
                  let size : length (marks_of 0 pieces1) ≡ length low = ap length marks1 ∙ length-map low (fallen (key0 doomed)) in
                  let there : get_or (marks_of 0 pieces1) k (fallen (key0 doomed) e) ≡ fallen (key0 doomed) m = ap (λ ms. get_or ms k (fallen (key0 doomed) e)) marks1 ∙ get_or-map (fallen (key0 doomed)) low k e (fallen (key0 doomed) e) l in
                  let less = rw there at (few1 k (fallen (key0 doomed) e) (omega (arith, l, size))) in
                  let count = count-agree key1 key0 m.bound.0 others others_same in
                  let all_low : key0 doomed < m.bound.0 → 1 ≤ m.position = rw (can.marks_are, get_or_append_left low (edge ∷ high) e k l) at (some-below F.place s F.within can.intact k e (rw can.marks_are (omega (arith, l, length-append low (edge ∷ high))))) in
                  elim (cases_lt (key0 doomed) m.bound.0) [
                    | inl u ↦ rw (lt-ltb (key0 doomed) m.bound.0 u) (omega (arith, rw (lt-ltb (key0 doomed) m.bound.0 u) at less, count, all_low u))
                    | inr u ↦ rw (le-ltb (key0 doomed) m.bound.0 u) (omega (arith, rw (le-ltb (key0 doomed) m.bound.0 u) at less, count))
                  ];
              long = omega (arith, longer, ap (λ p. length (column_of p)) pieces, some);
              buried = (can.intact.owned.doomed_reads F.place no_handle F.within, freed-doomed s [] (omega (arith, F.within)) can.intact, times_map_at doomed.slot (λ (g : Handle). g.slot) s.pending_out F.place no_handle F.within refl, buried1);
            }

    pub fills-on : (n : ℕ) (low : List Mark) (edge : Mark) (high : List Mark) (s : State) (from seen : ℕ) → CanFill low edge high s → n ≤ length (inside_of s.cells r s.pending_out) → n ≤ length (inside_of s.cells fillers s.pending_in) → On from seen s → NoneIn r (keys_at s.cells s.pending_out) 0 from → NoneIn fillers (keys_at s.cells s.pending_in) 0 seen → AreFilled On n low edge (doomed_first n s) s (filled_by n low edge high s)
    fills-on zero low edge high s from seen can few_out few_in on none_out none_in =
        let same = filled-none s low edge high can.marks_are can.intact in
        let under = marks-under s low edge high can.marks_are can.intact in
        rw same (record {
          from = from;
          seen = seen;
          on = on;
          none_out = none_out;
          none_in = none_in;
          intact = can.intact;
          live = refl;
          out = refl;
          fallen_are = ap (marks_of 0) (pulled-none (key_at s.cells) 0 (pieces_under s low edge)) ∙ under ∙ sym (none-fall (key_at s.cells) low);
          few = λ k e l. omega arith;
          long = long-none s low edge high can;
          buried = tt;
        })
      where
        long-none : (s : State) (low : List Mark) (edge : Mark) (high : List Mark) → CanFill low edge high s → length (column_of (pulled (key_at s.cells) itself 0 [] (pieces_under s low edge))) + 0 ≡ edge.position
        long-none s low edge high can =
            omega (arith, ap (λ p. length (column_of p)) (pulled-none (key_at s.cells) 0 (pieces_under s low edge)), ap length (column_of-cut 0 low (take edge.position s.column)), front-long s low edge high can.marks_are can.intact)
    fills-on (suc n) low edge high s from seen can few_out few_in on none_out none_in =
        let F = first-inside s.cells r s.pending_out (omega (arith, few_out)) in
        let G = first-inside s.cells fillers s.pending_in (omega (arith, few_in)) in
        let doomed : Handle = get_or s.pending_out F.place no_handle in
        let filler : Handle = get_or s.pending_in G.place no_handle in
        let t = s1 low edge high s can F G in
        let shorter_out : n ≤ length (inside_of t.cells r t.pending_out) = omega (arith, few_out, ap length F.inside_is, ap length (inside_out low edge high s can F G)) in
        let shorter_in : n ≤ length (inside_of t.cells fillers t.pending_in) = omega (arith, few_in, ap length G.inside_is, ap length (inside_in low edge high s can F G)) in
        let rest = fills-on n (marks_of 0 (pieces1 low edge high s can F G)) (edge1 s low edge high doomed filler (remove s.pending_in G.place)) high t F.place G.place (can1 low edge high s can F G) shorter_out shorter_in (on1 low edge high s can F G from seen on none_out none_in) (none_out1 low edge high s can F G) (none_in1 low edge high s can F G) in
        let dooms : doomed_first (suc n) s ≡ more low edge high s can F G n = ap (take (suc n)) F.inside_is in
        subst (λ (ds : List Handle). AreFilled On (suc n) low edge ds s (filled_by (suc n) low edge high s)) (sym dooms) (filled-on low edge high s can F G n rest)
