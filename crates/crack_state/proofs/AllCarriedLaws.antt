-- All carries of a range in bulk are one carry after the other: a relation that each of them extends holds after all of them.
use Rattle.std.proofs.Common.{◌≡◌, ◌⊎◌, ℕ, ◌+◌, ◌-◌, ◌<◌, ◌≤◌, Bool, true, false, not, List, [], ◌∷◌, ◌++◌, map, length, get_or, Option, Some, None, refl, sym, ap, ◌∙◌, inl, inr, arith}
use Rattle.std.specs.List.{All, remove, filter}
use Rattle.std.proofs.lemmas.Bool.{cases_lt, cases_Bool, false≢true}
use Rattle.std.proofs.lemmas.List.{append-nil, append_assoc, length-append, length-map, get_or-map, get_or_at, get_or_append_left, get_or-append-add, get_or-append_right, get_or_push, length_push}
use Rattle.std.proofs.lemmas.List.Edits.{remove-append_right}
use Rattle.std.proofs.lemmas.List.Elements.{All-nil, All-head, All-tail, All-cons, All-append, All-map, All-filter}
use Rattle.crack_row.specs.Ranges.{Range, IsIn, is_in}
use Rattle.crack_row.specs.declared.Row.{Row}
use Rattle.crack_arena.specs.Arena.{Cell, Handle, no_handle}
use Rattle.crack_arena.specs.Rows.{key_at, keys_at}
use Rattle.crack_pending.specs.Pending.{Finds}
use Rattle.crack_pending.proofs.Searches.{is_in-true, is_in-false}
use Rattle.crack_state.specs.State.{State, Carried, IsIntact, live_rows}
use Rattle.crack_state.specs.Steps.{lifted, pushed_on, SameButRoom}
use Rattle.crack_state.specs.Merge.{outside_of}
use Rattle.crack_state.proofs.StepLaws.{IsIntact-lifted, IsIntact-pushed_on, IsIntact-room}
use Rattle.crack_state.proofs.BuryLaws.{live_rows-buried}
use Rattle.crack_state.specs.Queues.{CarryState, comes, turns, stopped}
use Rattle.crack_state.proofs.OneByOne.{outcome}
use Rattle.crack_state.specs.Carried.{is_over, is_doomed, ends_with, inside_of, arrivals, carried_in_bulk, pieces_of}
use Rattle.crack_state.proofs.Carried.{Leads}
use Rattle.crack_state.proofs.AgreeLaws.{OfComing, OfEnd, outcome-ends}
use Rattle.crack_state.proofs.BulkLaws.{one_at_a_time-in_bulk, outcomes-in_bulk}
use Rattle.crack_state.proofs.LeadLaws.{StaysAs, IsIntact-Leads, StaysAs-Leads, carried_at, Leads-at}
use Rattle.crack_state.proofs.ManyLaws.{with_room, evicted_of, bulk_from, pending-carried, bulk_from-first, bulk_from-none}

pub All-left : {X : Type 0} (P : X → Type 0) (xs ys : List X) → All P (xs ++ ys) → All P xs
All-left P xs ys all = λ k d h. rw (get_or_append_left xs ys d k h) at (all k d (omega (arith, h, length-append xs ys)))

pub All-right : {X : Type 0} (P : X → Type 0) (xs ys : List X) → All P (xs ++ ys) → All P ys
All-right P xs ys all = λ k d h. rw (get_or-append-add xs ys k d) at (all (length xs + k) d (omega (arith, h, length-append xs ys)))

-- two tests that agree on all of these select the same
filter-agree : {X : Type 0} (p q : X → Bool) (xs : List X) → All (λ x. p x ≡ q x) xs → filter p xs ≡ filter q xs
filter-agree p q [] all = refl
filter-agree p q (x ∷ xs) all = rw (All-head (λ y. p y ≡ q y) x xs all, filter-agree p q xs (All-tail (λ y. p y ≡ q y) x xs all)) refl

pub remove_at : (p : List Handle) (y : Handle) (ys : List Handle) → remove (p ++ y ∷ ys) (length p) ≡ p ++ ys
remove_at p y ys =
    let none : length p - length p ≡ 0 = omega arith in
    remove-append_right p (y ∷ ys) (length p) (length p) refl (omega arith) ∙ rw none refl

-- a key is in the range, or not
pub inside_or : (r : Range) (key : ℕ) → IsIn r key ⊎ (¬ IsIn r key)
inside_or r key = elim (cases_lt key r.low) [
  | inl l ↦ inr (λ inside. omega (arith, l, inside.0))
  | inr l ↦ elim (cases_lt key r.high) [
    | inl h ↦ inl (l, h)
    | inr h ↦ inr (λ inside. omega (arith, h, inside.1))
  ]
]

module _ (r : Range) (key : Handle → ℕ) where
  -- the row's key isn't in the range
  abbrev pub IsOutside : Handle → Type 0
  IsOutside h = ¬ IsIn r (key h)

  -- none of these is in the range, from a place on
  abbrev pub NoneFrom : ℕ → List Handle → Type 0
  NoneFrom from hs = (k : ℕ) (d : Handle) → from ≤ k → k < length hs → IsOutside (get_or hs k d)

  pub found_next : (passed rest : List Handle) (h : Handle) (from : ℕ) → from ≤ length passed → NoneFrom from passed → IsIn r (key h) → Finds r (map key (passed ++ h ∷ rest)) from (Some (length passed))
  found_next passed rest h from order none inside =
      let all = passed ++ h ∷ rest in
      let within : length passed < length all = omega (arith, length-append passed (h ∷ rest)) in
      record {
        after = order;
        within = omega (arith, within, length-map all key);
        holds = rw (get_or-map key all (length passed) no_handle 0 within, get_or_at passed h rest no_handle (length passed) refl) inside;
        before = λ k from_on up_to. rw (get_or-map key all k no_handle 0 (omega (arith, up_to, within)), get_or_append_left passed (h ∷ rest) no_handle k up_to) (none k no_handle from_on up_to);
      }

  pub found_none : (passed back : List Handle) (from : ℕ) → NoneFrom from passed → All IsOutside back → Finds r (map key (passed ++ back)) from None
  found_none passed back from none outside = λ k from_on up_to.
      let all = passed ++ back in
      let within : k < length all = omega (arith, up_to, length-map all key) in
      rw (get_or-map key all k no_handle 0 within) (elim (cases_lt k (length passed)) [
        | inl l ↦ rw (get_or_append_left passed back no_handle k l) (none k no_handle from_on l)
        | inr l ↦ rw (get_or-append_right passed back (length passed) k no_handle refl l) (outside (k - length passed) no_handle (omega (arith, l, within, length-append passed back)))
      ])

  pub none_on : (passed : List Handle) (h : Handle) (from : ℕ) → NoneFrom from passed → IsOutside h → NoneFrom from (passed ++ h ∷ [])
  none_on passed h from none outside = λ k d from_on up_to. elim (cases_lt k (length passed)) [
    | inl l ↦ rw (get_or_append_left passed (h ∷ []) d k l) (none k d from_on l)
    | inr l ↦ rw (get_or_push passed h d k (omega (arith, l, up_to, length_push passed h))) outside
  ]

-- no key of the range is at or above the ceiling
abbrev pub IsUnder : Option ℕ → Range → Type 0
IsUnder ceiling r = (key : ℕ) → IsIn r key → is_over ceiling key ≡ false

over_outside : (ceiling : Option ℕ) (r : Range) (key : ℕ) → IsUnder ceiling r → is_over ceiling key ≡ true → ¬ IsIn r key
over_outside ceiling r key under over = λ inside. false≢true (sym (under key inside) ∙ over)

-- the row that a carry evicts isn't of the range
evicted_outside : (ceiling : Option ℕ) (r : Range) (t : State) (e : CarryState Handle) → IsUnder ceiling r → OfEnd (λ y. ends_with ceiling t y ≡ true) e → All (IsOutside r (key_at t.cells)) (evicted_of t e)
evicted_outside ceiling r t (comes x) high end = All-nil (IsOutside r (key_at t.cells))
evicted_outside ceiling r t (turns moved) high end = All-nil (IsOutside r (key_at t.cells))
evicted_outside ceiling r t (stopped moved y) high end = elim (cases_Bool (is_doomed t y)) [
  | inl doomed ↦ rw doomed (All-nil (IsOutside r (key_at t.cells)))
  | inr lasting ↦
      let over : is_over ceiling (key_at t.cells y) ≡ true = rw lasting at end in
      rw lasting (All-cons (IsOutside r (key_at t.cells)) y [] (over_outside ceiling r (key_at t.cells y) high over) (All-nil (IsOutside r (key_at t.cells))))
]

-- equal keys give equal filters
pub keys_same : (r : Range) (cells cells' : List (Cell Row)) (hs : List Handle) → All (λ h. key_at cells' h ≡ key_at cells h) hs → (inside_of cells' r hs ≡ inside_of cells r hs) × (outside_of cells' r hs ≡ outside_of cells r hs)
keys_same r cells cells' hs same =
    (filter-agree (λ h. is_in r (key_at cells' h)) (λ h. is_in r (key_at cells h)) hs (λ k d h. ap (is_in r) (same k d h)), filter-agree (λ h. not (is_in r (key_at cells' h))) (λ h. not (is_in r (key_at cells h))) hs (λ k d h. ap (λ n. not (is_in r n)) (same k d h)))

-- a relation that the carry of one pending insertion extends, from the place where the search went on: the search finds it, room is made, and it is
-- carried
abbrev pub LeadsOn : Option ℕ → Range → (ℕ → State → Type 0) → Type 0
LeadsOn ceiling r On = (from place : ℕ) (t u v : State) → On from t → IsIntact t [] → Finds r (keys_at t.cells t.pending_in) from (Some place) → SameButRoom t u → Leads ceiling (lifted place u) v → On place v

-- if all are carried, the search finds none from the last place on
pub record IsThrough (r : Range) (On : ℕ → State → Type 0) (t : State) : Type 0 where
  pub from : ℕ
  pub on : On from t
  pub intact : IsIntact t []
  pub none : Finds r (keys_at t.cells t.pending_in) from None

module _ (ceiling : Option ℕ) (r : Range) (high : IsUnder ceiling r) (On : ℕ → State → Type 0) (onward : LeadsOn ceiling r On) (a b : ℕ) where
  -- one carry of the first of them
  record Step (t : State) (passed todo back : List Handle) : Type 0 where
    v : State
    evicted : List Handle
    intact : IsIntact v []
    pending : v.pending_in ≡ passed ++ (todo ++ (back ++ evicted))
    carries : On (length passed) v
    roomy : with_room a b v ≡ v
    stays : All (StaysAs t v) v.pending_in
    outside : All (IsOutside r (key_at v.cells)) (back ++ evicted)
    same : (h : Handle) (es : List (CarryState Handle)) (left : List Handle) → t.pending_in ≡ passed ++ h ∷ (todo ++ back) → All (OfComing (StaysAs t v)) es → with_room a b (bulk_from ceiling es (left ++ evicted) v) ≡ with_room a b (bulk_from ceiling (comes h ∷ es) left t)

  step : (h : Handle) (todo : List Handle) (t : State) (from : ℕ) (passed back : List Handle) → IsIntact t [] → t.pending_in ≡ passed ++ h ∷ (todo ++ back) → from ≤ length passed → NoneFrom r (key_at t.cells) from passed → All (IsOutside r (key_at t.cells)) back → On from t → IsIn r (key_at t.cells h) → Step t passed todo back
  step h todo t from passed back intact pending order none outside before inside =
      let place : ℕ = length passed in
      let rest : List Handle = todo ++ back in
      let within : place < length t.pending_in = rw pending (omega (arith, length-append passed (h ∷ rest))) in
      let hand : get_or t.pending_in place no_handle ≡ h = rw pending (get_or_at passed h rest no_handle place refl) in
      let under : is_over ceiling (key_at t.cells (get_or t.pending_in place no_handle)) ≡ false = rw hand (high (key_at t.cells h) inside) in
      let led = Leads-at ceiling place t a b within under intact in
      let u : State = with_room led.0 led.1 t in
      let v : State = with_room a b (carried_at ceiling place t) in
      let e : CarryState Handle = outcome (key_at t.cells) (ends_with ceiling t) (comes (lifted place t).hand) (pieces_of t) in
      let evicted : List Handle = evicted_of t e in
      let lifted_intact = IsIntact-lifted place u within (IsIntact-room t u [] (record { same = refl }) intact) in
      let stays = StaysAs-Leads ceiling (lifted place u) v lifted_intact led.2 in
      let removed : remove t.pending_in place ≡ passed ++ rest = rw pending (remove_at passed h rest) in
      let left : v.pending_in ≡ passed ++ (todo ++ (back ++ evicted)) =
      pending-carried ceiling place t ∙ ap (λ hs. hs ++ evicted) removed ∙ append_assoc passed rest evicted ∙ ap (λ hs. passed ++ hs) (append_assoc todo back evicted) in
      let stays_left : All (StaysAs t v) (passed ++ (todo ++ (back ++ evicted))) = rw left at stays.1 in
      let stays_back : All (StaysAs t v) (back ++ evicted) = All-right (StaysAs t v) todo (back ++ evicted) (All-right (StaysAs t v) passed (todo ++ (back ++ evicted)) stays_left) in
      let outside_back : All (IsOutside r (key_at t.cells)) (back ++ evicted) = All-append (IsOutside r (key_at t.cells)) back evicted outside (evicted_outside ceiling r t e high (outcome-ends (key_at t.cells) (ends_with ceiling t) (comes (lifted place t).hand) (pieces_of t) tt)) in
      record {
        v = v;
        evicted = evicted;
        intact = IsIntact-Leads ceiling (lifted place u) v lifted_intact led.2;
        pending = left;
        carries = onward from place t u v before intact (rw pending (found_next r (key_at t.cells) passed rest h from order none inside)) (record { same = refl }) led.2;
        roomy = refl;
        stays = stays.1;
        outside = λ k d l. rw (stays_back k d l).0 (outside_back k d l);
        same = λ g es left_of is coming.
            let one : (lifted place t).hand ≡ g = rw is (get_or_at passed g rest no_handle place refl) in
            ap (with_room a b) (bulk_from-first ceiling place t a b es left_of stays.0 coming) ∙ ap (λ x. with_room a b (bulk_from ceiling (comes x ∷ es) left_of t)) one;
      }

  -- those still to be looked at are after those that were passed by and before those that were evicted
  carries_on : (todo : List Handle) (t : State) (from : ℕ) (passed back : List Handle) → IsIntact t [] → t.pending_in ≡ passed ++ (todo ++ back) → from ≤ length passed → NoneFrom r (key_at t.cells) from passed → All (IsOutside r (key_at t.cells)) back → On from t → (inside_of t.cells r todo ≡ [] → with_room a b t ≡ t) → IsThrough r On (with_room a b (bulk_from ceiling (map comes (inside_of t.cells r todo)) (passed ++ (outside_of t.cells r todo ++ back)) t))
  carries_on [] t from passed back intact pending order none outside before roomy =
      let same : with_room a b (bulk_from ceiling [] (passed ++ back) t) ≡ t = rw (← pending) (ap (with_room a b) (bulk_from-none ceiling t intact) ∙ roomy refl) in
      rw same (record { from = from; on = before; intact = intact; none = rw pending (found_none r (key_at t.cells) passed back from none outside) })
  carries_on (h ∷ todo) t from passed back intact pending order none outside before roomy = elim (inside_or r (key_at t.cells h)) [
    | inl inside ↦
        let is : is_in r (key_at t.cells h) ≡ true = is_in-true r (key_at t.cells h) inside in
        let one = step h todo t from passed back intact pending order none outside before inside in
        let v = one.v in
        let stays : All (StaysAs t v) (passed ++ (todo ++ (back ++ one.evicted))) = rw one.pending at one.stays in
        let stays_todo : All (StaysAs t v) todo = All-left (StaysAs t v) todo (back ++ one.evicted) (All-right (StaysAs t v) passed (todo ++ (back ++ one.evicted)) stays) in
        let kept = keys_same r t.cells v.cells todo (λ k d l. (stays_todo k d l).0) in
        let coming : All (OfComing (StaysAs t v)) (map comes (inside_of t.cells r todo)) = All-map (OfComing (StaysAs t v)) comes (inside_of t.cells r todo) (All-filter (λ g. is_in r (key_at t.cells g)) (StaysAs t v) todo stays_todo) in
        let all = carries_on todo v (length passed) passed (back ++ one.evicted) one.intact one.pending (omega arith) (λ k d f l. absurd (omega (arith, f, l))) one.outside one.carries (λ empty. one.roomy) in
        let left : List Handle = passed ++ (outside_of t.cells r todo ++ back) in
        let assoc : left ++ one.evicted ≡ passed ++ (outside_of t.cells r todo ++ (back ++ one.evicted)) = append_assoc passed (outside_of t.cells r todo ++ back) one.evicted ∙ ap (λ hs. passed ++ hs) (append_assoc (outside_of t.cells r todo) back one.evicted) in
        rw is (rw (kept.0, kept.1, ← assoc, one.same h (map comes (inside_of t.cells r todo)) left pending coming) at all)
    | inr beyond ↦
        let not_in : is_in r (key_at t.cells h) ≡ false = is_in-false r (key_at t.cells h) beyond in
        let assoc : (hs : List Handle) → (passed ++ h ∷ []) ++ hs ≡ passed ++ h ∷ hs = λ hs. append_assoc passed (h ∷ []) hs in
        let all = carries_on todo t from (passed ++ h ∷ []) back intact (pending ∙ sym (assoc (todo ++ back))) (omega (arith, order, length_push passed h)) (none_on r (key_at t.cells) passed h from none beyond) outside before (λ empty. roomy (rw not_in empty)) in
        rw not_in (rw (assoc (outside_of t.cells r todo ++ back)) at all)
  ]

-- if a filter keeps nothing, no element passes
none_passes : {X : Type 0} (p : X → Bool) (xs : List X) → filter p xs ≡ [] → All (λ x. p x ≡ false) xs
none_passes p [] empty = All-nil (λ x. p x ≡ false)
none_passes p (x ∷ xs) empty = elim (cases_Bool (p x)) [
  | inl passes ↦ let some : length (x ∷ filter p xs) ≡ 0 = ap length (rw passes at empty) in absurd (omega (arith, some))
  | inr fails ↦ All-cons (λ y. p y ≡ false) x xs fails (none_passes p xs (rw fails at empty))
]

-- a relation that each carry extends holds after all carries in bulk, if there is one
pub in_bulk-through : (ceiling : Option ℕ) (r : Range) (On : ℕ → State → Type 0) (s u : State) (first : ℕ) → IsUnder ceiling r → LeadsOn ceiling r On → On 0 s → IsIntact s [] → Finds r (keys_at s.cells s.pending_in) 0 (Some first) → SameButRoom (carried_in_bulk ceiling r s) u → IsThrough r On u
in_bulk-through ceiling r On s u first high onward begins intact found room =
    let key = key_at s.cells in
    let within : first < length s.pending_in = omega (arith, found.within, length-map s.pending_in key) in
    let inside : is_in r (key (get_or s.pending_in first no_handle)) ≡ true = is_in-true r (key (get_or s.pending_in first no_handle)) (rw (get_or-map key s.pending_in first no_handle 0 within) at found.holds) in
    let all = carries_on ceiling r high On onward u.column_room u.in_room s.pending_in s 0 [] [] intact (sym (append-nil s.pending_in)) (omega arith) (λ k d f l. absurd (omega (arith, f, l))) (All-nil (IsOutside r key)) begins (λ empty. absurd (false≢true (sym (none_passes (λ h. is_in r (key h)) s.pending_in empty first no_handle within) ∙ inside))) in
    rw room.same (rw (append-nil (outside_of s.cells r s.pending_in), one_at_a_time-in_bulk key (ends_with ceiling s) (arrivals r s) (pieces_of s), outcomes-in_bulk key (ends_with ceiling s) (arrivals r s) (pieces_of s)) at all)

-- an intact store is left intact, and commands see the same rows
pub record IsKept (s t : State) : Type 0 where
  pub intact : IsIntact t []
  pub live : live_rows t ≡ live_rows s

live_rows-Leads : (ceiling : Option ℕ) (c : Carried) (t : State) → IsIntact c.store (c.hand ∷ []) → Leads ceiling c t → live_rows t ≡ live_rows c.store
live_rows-Leads ceiling c t intact (Leads.buries d doomed) = live_rows-buried d doomed intact
live_rows-Leads ceiling c t intact (Leads.evicts d lasting over) = refl
live_rows-Leads ceiling c t intact (Leads.ends d lasting below at_end) = refl
live_rows-Leads ceiling c t intact (Leads.goes_on d u lasting below before rest) = live_rows-Leads ceiling (pushed_on d) u (IsIntact-pushed_on d before intact) rest

pub IsKept-in_bulk : (ceiling : Option ℕ) (r : Range) (s u : State) (first : ℕ) → IsUnder ceiling r → IsIntact s [] → Finds r (keys_at s.cells s.pending_in) 0 (Some first) → SameButRoom (carried_in_bulk ceiling r s) u → IsKept s u
IsKept-in_bulk ceiling r s u first high intact found room =
    let through = in_bulk-through ceiling r (λ from t. live_rows t ≡ live_rows s) s u first high one refl intact found room in
    record { intact = through.intact; live = through.on }
  where
    one : LeadsOn ceiling r (λ from t. live_rows t ≡ live_rows s)
    one from place t u v before whole finds made leads =
        let same : u.pending_in ≡ t.pending_in = ap (λ (x : State). x.pending_in) made.same in
        let within : place < length u.pending_in = rw same (omega (arith, finds.within, length-map t.pending_in (key_at t.cells))) in
        live_rows-Leads ceiling (lifted place u) v (IsIntact-lifted place u within (IsIntact-room t u [] made whole)) leads ∙ ap live_rows made.same ∙ before
