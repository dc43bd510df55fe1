-- What callers see of handles at spots, and how each step keeps them.
use Rattle.std.proofs.Common.{◌≡◌, ◌≢◌, ℕ, ◌+◌, ◌-◌, ◌<◌, ◌≤◌, ◌^◌, Bool, true, false, List, [], ◌∷◌, ◌++◌, length, get_or, set, refl, sym, ap, ◌∙◌, inl, inr, arith, length-append, length-set}
use Rattle.std.specs.List.{remove}
use Rattle.std.proofs.lemmas.Bool.{cases_eq, cases_lt, true≢false}
use Rattle.std.proofs.lemmas.List.{get_or_append_left, get_or_push, get_or-set_same, get_or-set_other, get_or_default}
use Rattle.crack_row.specs.Ranges.{Range}
use Rattle.crack_row.specs.declared.Row.{Row}
use Rattle.crack_arena.specs.Arena.{Cell, Handle, StandsAt, IsFirstAt, IsAbsent, no_handle, times, slots, place_in}
use Rattle.crack_arena.specs.Rows.{key_at, keys_at}
use Rattle.crack_arena.proofs.Times.{times_map_at}
use Rattle.crack_pending.proofs.Remembering.{Remembers-anew, Remembers-remove}
use Rattle.crack_arena.proofs.Places.{place_in-within, place_in-slot, place_in-is, times_apart_once}
use Rattle.crack_arena.specs.Memories.{Memory, nothing, memory_at, Agrees, Remembers}
use Rattle.std.specs.Prelude.{Result, Ok, Err, OnOk, min}
use Rattle.crack_pending.specs.Pending.{Pending, NoneIn, IsFirstIn}
use Rattle.crack_pending.specs.Spots.{kept, spot_room}
use Rattle.crack_pending.specs.Keeps.{place_at, HasRow, LeadBack, StandApart, AreCovered, IsSoundList, IsClosed}
use Rattle.crack_pending.specs.Inside.{KnowRows, IsMissed, IsHit, IsSpotWith, IsNowhere, IsUnnoted, IsNotBehind}
use Rattle.crack_pending.proofs.Kept.{place_at-le, place_at-more, place_at-before, place_at-hole_before, place_at-push, place_at-few, kept-full, Stands-within, length-kept, kept-at, kept-hole, kept-set, kept-at_place, spot_of}
use Rattle.crack_pending.proofs.Moves.{kept-apart, kept-covered}
use Rattle.crack_pending.proofs.Searches.{keys_at-StandsAt, length-keys_at, StandsAt-get_or}

module _ (handles : List Handle) (stands : List Bool) (beside : length stands ≡ length handles) where
  -- the place of a row is one of the list's places
  pub place-within : (spot : ℕ) → HasRow stands spot → place_at stands spot < length (kept stands handles)
  place-within spot at =
      let within = Stands-within stands spot at in
      omega (arith, length-kept stands handles beside, place_at-before stands spot (length stands) at within)

  -- and it is there
  -- a handle that was read at a row's spot, with any default
  pub read-at : (spot : ℕ) (h : Handle) → HasRow stands spot → h ≡ get_or handles spot no_handle → h ≡ get_or handles spot h
  read-at spot h at is = is ∙ get_or_default handles spot no_handle h (omega (arith, Stands-within stands spot at, beside))

  pub place-StandsAt : (spot : ℕ) (h : Handle) → HasRow stands spot → h ≡ get_or handles spot h → StandsAt (kept stands handles) (place_at stands spot) h
  place-StandsAt spot h at is = record { within = place-within spot at; is = is ∙ sym (kept-at stands handles spot h beside at) }

  pub spot-with : (spot : ℕ) (h : Handle) → HasRow stands spot → h ≡ get_or handles spot h → IsSpotWith handles stands h.slot spot
  spot-with spot h at is = record {
    stands_there = at;
    of = ap (λ (x : Handle). x.slot) (get_or_default handles spot no_handle h (omega (arith, Stands-within stands spot at, beside)) ∙ sym is);
  }

  pub spot-times : (slot spot : ℕ) → IsSpotWith handles stands slot spot → 0 < times slot (slots (kept stands handles))
  spot-times slot spot with =
      times_map_at slot (λ (h : Handle). h.slot) (kept stands handles) (place_at stands spot) no_handle (place-within spot with.stands_there) (ap (λ (h : Handle). h.slot) (kept-at stands handles spot no_handle beside with.stands_there) ∙ with.of)

  pub nowhere-times : (slot : ℕ) → IsNowhere handles stands slot → times slot (slots (kept stands handles)) ≡ 0
  nowhere-times slot nowhere = elim (cases_eq (times slot (slots (kept stands handles))) 0) [
    | inl e ↦ e
    | inr ne ↦
        let place = place_in (kept stands handles) slot in
        let within = place_in-within (kept stands handles) slot (omega (arith, ne)) in
        let s = spot_of stands place (omega (arith, within, length-kept stands handles beside)) in
        let of : (get_or handles s.spot no_handle).slot ≡ slot = ap (λ (h : Handle). h.slot) (sym (kept-at_place stands handles place no_handle beside s)) ∙ place_in-slot (kept stands handles) slot no_handle within in
        absurd (nowhere s.spot (record { stands_there = s.stands; of = of }))
  ]

  module _ (apart : StandApart handles stands) where
    pub spot-place_in : (slot spot : ℕ) → IsSpotWith handles stands slot spot → place_in (kept stands handles) slot ≡ place_at stands spot
    spot-place_in slot spot with =
        let here : (get_or (kept stands handles) (place_at stands spot) no_handle).slot ≡ slot = ap (λ (h : Handle). h.slot) (kept-at stands handles spot no_handle beside with.stands_there) ∙ with.of in
        let within = place-within spot with.stands_there in
        place_in-is (kept stands handles) slot (place_at stands spot) no_handle within here (λ k less same.
        let one : k ≡ place_at stands spot = kept-apart handles stands beside apart k (place_at stands spot) (omega (arith, less, within)) within (same ∙ sym here) in
        absurd (omega (arith, one, less)))

    pub once : (slot : ℕ) → times slot (slots (kept stands handles)) ≤ 1
    once slot = times_apart_once (kept stands handles) slot (kept-apart handles stands beside apart)

    -- the place of a handle is the first, and a handle isn't in the list if the row of its cell has another
    pub handle-first : (h : Handle) (spot : ℕ) → IsSpotWith handles stands h.slot spot → h ≡ get_or handles spot h → IsFirstAt (kept stands handles) h (place_at stands spot)
    handle-first h spot with is =
        let here = place-StandsAt spot h with.stands_there is in
        record {
          here = here;
          before = λ k less stands_k.
              let at_k : (get_or (kept stands handles) k no_handle).slot ≡ h.slot = ap (λ (x : Handle). x.slot) (get_or_default (kept stands handles) k no_handle h stands_k.within ∙ sym stands_k.is) in
              let at : (get_or (kept stands handles) (place_at stands spot) no_handle).slot ≡ h.slot = ap (λ (x : Handle). x.slot) (get_or_default (kept stands handles) (place_at stands spot) no_handle h here.within ∙ sym here.is) in
              let one : k ≡ place_at stands spot = kept-apart handles stands beside apart k (place_at stands spot) stands_k.within here.within (at_k ∙ sym at) in
              absurd (omega (arith, one, less));
        }

  -- where a handle is, its slot is as well
  pub stands-spot : (h : Handle) (place : ℕ) → StandsAt (kept stands handles) place h → (spot : ℕ) × (IsSpotWith handles stands h.slot spot × (h ≡ get_or handles spot h))
  stands-spot h place there =
      let s = spot_of stands place (omega (arith, there.within, length-kept stands handles beside)) in
      let is : h ≡ get_or handles s.spot h = there.is ∙ kept-at_place stands handles place h beside s in
      let same : get_or handles s.spot no_handle ≡ h = get_or_default handles s.spot no_handle h (omega (arith, Stands-within stands s.spot s.stands, beside)) ∙ sym is in
      (s.spot, (record { stands_there = s.stands; of = ap (λ (x : Handle). x.slot) same }, is))

  pub nowhere-absent : (h : Handle) → IsNowhere handles stands h.slot → IsAbsent (kept stands handles) h
  nowhere-absent h nowhere place there = nowhere (stands-spot h place there).0 (stands-spot h place there).1.0

  pub other-absent : StandApart handles stands → (h other : Handle) (spot : ℕ) → IsSpotWith handles stands h.slot spot → other ≡ get_or handles spot other → other ≢ h → IsAbsent (kept stands handles) h
  other-absent apart h other spot with is differs place there =
      let found = stands-spot h place there in
      let same : found.0 ≡ spot = apart found.0 spot found.1.0.stands_there with.stands_there (found.1.0.of ∙ sym with.of) in
      let within = Stands-within stands spot with.stands_there in
      let here : h ≡ get_or handles spot h = rw same at found.1.1 in
      differs (is ∙ get_or_default handles spot other h (omega (arith, within, beside)) ∙ sym here)

-- a spot that a cell leads to, where no row of it is
pub elsewhere-unnoted : (handles : List Handle) (stands : List Bool) (spots : List ℕ) (slot spot : ℕ) → get_or spots slot 0 ≡ spot → (IsSpotWith handles stands slot spot → ⊥) → IsUnnoted handles stands spots slot
elsewhere-unnoted handles stands spots slot spot at none other with leads =
    let same : other ≡ spot = sym leads.is ∙ at in
    none (rw same at with)

-- a cell that leads nowhere
pub uncovered-unnoted : (handles : List Handle) (stands : List Bool) (spots : List ℕ) (slot : ℕ) → length spots ≤ slot → IsUnnoted handles stands spots slot
uncovered-unnoted handles stands spots slot past other with leads = absurd (omega (arith, leads.covered, past))

module _ (handles : List Handle) (stands : List Bool) (spots : List ℕ) (slot : ℕ) (unnoted : IsUnnoted handles stands spots slot) (noted : ℕ) (led : LeadBack handles stands spots noted) where
  -- if all spots are noted, no row of the cell is in the list
  pub unnoted-nowhere : length stands ≤ noted → IsNowhere handles stands slot
  unnoted-nowhere all spot with =
      unnoted spot with (rw (with.of) at (led spot (omega (arith, all, Stands-within stands spot with.stands_there)) with.stands_there))

  -- nor if none is at the others
  pub behind-nowhere : IsNotBehind handles stands slot noted → IsNowhere handles stands slot
  behind-nowhere behind spot with = elim (cases_lt spot noted) [
    | inl l ↦ unnoted spot with (rw (with.of) at (led spot l with.stands_there))
    | inr m ↦ behind spot m with
  ]

module _ {handles : List Handle} {remembered : List Memory} {stands : List Bool} {spots : List ℕ} {rows noted hint_place hint_spot : ℕ} (are : IsSoundList handles remembered stands spots rows noted hint_place hint_spot) where
  -- as many spots are said to have a row or none as have something remembered
  pub memories-beside : length stands ≡ length remembered
  memories-beside = are.stands_beside ∙ sym are.remembered_beside

  pub length-rows : length (kept stands handles) ≡ rows
  length-rows = length-kept stands handles are.stands_beside ∙ sym are.counted

  pub few-rows : rows ≤ length handles
  few-rows = omega (arith, are.counted, are.stands_beside, place_at-few stands (length stands))

  -- a row goes: the others are remembered as before
  pub remembers-others : (spot : ℕ) → HasRow stands spot → (cells : List (Cell Row)) → Remembers cells (kept stands handles) (kept stands remembered) → Remembers cells (kept (set stands spot false) handles) (kept (set stands spot false) remembered)
  remembers-others spot at cells r =
      rw (kept-hole stands handles spot are.stands_beside at, kept-hole stands remembered spot memories-beside at) (Remembers-remove cells (kept stands handles) (kept stands remembered) (place_at stands spot) (place-within handles stands are.stands_beside spot at) r)

  module _ {slot spot : ℕ} (with : IsSpotWith handles stands slot spot) where
    -- something else remembered of a row
    pub other_memory : (m : Memory) → kept stands (set remembered spot m) ≡ set (kept stands remembered) (place_in (kept stands handles) slot) m
    other_memory m =
        kept-set stands remembered spot m memories-beside with.stands_there ∙ ap (λ p. set (kept stands remembered) p m) (sym (spot-place_in handles stands are.stands_beside are.apart slot spot with))

    pub anew : (cells cells' : List (Cell Row)) (m : Memory) → Agrees cells' (get_or (kept stands handles) (place_in (kept stands handles) slot) no_handle) m → ((h : Handle) → h.slot ≢ slot → memory_at cells' h ≡ memory_at cells h) → Remembers cells (kept stands handles) (kept stands remembered) → Remembers cells' (kept stands handles) (kept stands (set remembered spot m))
    anew cells cells' m is others r =
        let all = kept stands handles in
        let place = place_in all slot in
        let within : place < length all = place_in-within all slot (spot-times handles stands are.stands_beside slot spot with) in
        rw (other_memory m) (Remembers-anew cells cells' all (kept stands remembered) place m is (λ k d k_within ne.
        others (get_or all k d) (λ same.
        let at_k : (get_or all k no_handle).slot ≡ slot = ap (λ (h : Handle). h.slot) (get_or_default all k no_handle d k_within) ∙ same in
        ne (kept-apart handles stands are.stands_beside are.apart k place k_within within (at_k ∙ sym (place_in-slot all slot no_handle within))))) r)

    -- a hole where it was
    pub struck : {X : Type 0} (xs : List X) → length stands ≡ length xs → kept (set stands spot false) xs ≡ remove (kept stands xs) (place_in (kept stands handles) slot)
    struck xs beside =
        kept-hole stands xs spot beside with.stands_there ∙ ap (λ p. remove (kept stands xs) p) (sym (spot-place_in handles stands are.stands_beside are.apart slot spot with))

-- what is remembered beside a row is right at its spot
pub KnowRows-kept : (cells : List (Cell Row)) (handles : List Handle) (remembered : List Memory) (stands : List Bool) → length stands ≡ length handles → length remembered ≡ length handles → Remembers cells (kept stands handles) (kept stands remembered) → KnowRows cells handles remembered stands
KnowRows-kept cells handles remembered stands beside remembered_beside r spot at =
    rw (kept-at stands handles spot no_handle beside at, kept-at stands remembered spot nothing (omega (arith, beside, remembered_beside)) at) at (r.right (place_at stands spot) no_handle (place-within handles stands beside spot at))

module _ (range : Range) (cells : List (Cell Row)) (handles : List Handle) (stands : List Bool) (beside : length stands ≡ length handles) where
  -- a property that no row between two spots has, none between their places has
  missed-NoneIn : (start end : ℕ) → IsMissed range cells handles stands start end → place_at stands end ≤ length (kept stands handles) → NoneIn range (keys_at cells (kept stands handles)) (place_at stands start) (place_at stands end)
  missed-NoneIn start end missed short k after before inside =
      let within : k < length (kept stands handles) = omega (arith, before, short) in
      let s = spot_of stands k (omega (arith, within, length-kept stands handles beside)) in
      let key : get_or (keys_at cells (kept stands handles)) k 0 ≡ key_at cells (get_or handles s.spot no_handle) =
      keys_at-StandsAt cells (kept stands handles) k _ (StandsAt-get_or (kept stands handles) k no_handle within) ∙ ap (key_at cells) (kept-at_place stands handles k no_handle beside s) in
      let from_on : start ≤ s.spot = elim (cases_lt s.spot start) [
        | inl l ↦ absurd (omega (arith, place_at-before stands s.spot start s.stands l, s.is, after))
        | inr m ↦ m
      ] in
      let up_to : s.spot < end = elim (cases_lt s.spot end) [
        | inl l ↦ l
        | inr m ↦ absurd (omega (arith, place_at-le stands end s.spot m, s.is, before))
      ] in
      missed s.spot from_on up_to s.stands (rw key at inside)

  pub finds-none : (start : ℕ) → IsMissed range cells handles stands start (length handles) → NoneIn range (keys_at cells (kept stands handles)) (place_at stands start) (length (keys_at cells (kept stands handles)))
  finds-none start missed =
      let long = length-kept stands handles beside in
      let end : length (keys_at cells (kept stands handles)) ≡ place_at stands (length handles) = length-keys_at cells (kept stands handles) ∙ long ∙ ap (place_at stands) beside in
      rw end (missed-NoneIn start (length handles) missed (omega (arith, end, length-keys_at cells (kept stands handles))))

  pub finds-some : (start spot : ℕ) → IsHit range cells handles stands start (length handles) spot → IsFirstIn range (keys_at cells (kept stands handles)) (place_at stands start) (place_at stands spot)
  finds-some start spot hit =
      let within = place-within handles stands beside spot hit.stands_there in
      let key : get_or (keys_at cells (kept stands handles)) (place_at stands spot) 0 ≡ key_at cells (get_or handles spot no_handle) =
      keys_at-StandsAt cells (kept stands handles) (place_at stands spot) _ (StandsAt-get_or (kept stands handles) (place_at stands spot) no_handle within) ∙ ap (key_at cells) (kept-at stands handles spot no_handle beside hit.stands_there) in
      record {
        after = place_at-le stands start spot hit.after;
        within = omega (arith, within, length-keys_at cells (kept stands handles));
        holds = rw key (hit.holds);
        before = missed-NoneIn start spot hit.before (omega (arith, within));
      }

pub kept_none : (spots : List ℕ) → IsSoundList [] [] [] spots 0 0 0 0
kept_none spots = record {
  remembered_beside = refl;
  stands_beside = refl;
  counted = refl;
  few = omega arith;
  covered = λ spot at. absurd (true≢false (sym at));
  apart = λ j k at. absurd (true≢false (sym at));
  noted_near = omega arith;
  led = λ spot before. absurd (omega (arith, before));
  near = omega arith;
  hinted = refl;
}

module _ {handles : List Handle} {remembered : List Memory} {stands : List Bool} {spots : List ℕ} {rows noted hint_place hint_spot : ℕ} (are : IsSoundList handles remembered stands spots rows noted hint_place hint_spot) where
  -- one more hole
  pub kept_hole : (spot hint_place' hint_spot' : ℕ) → HasRow stands spot → hint_spot' ≤ length handles → hint_place' ≡ place_at (set stands spot false) hint_spot' → IsSoundList handles remembered (set stands spot false) spots (rows - 1) noted hint_place' hint_spot'
  kept_hole spot hint_place' hint_spot' at near hinted =
      let within = Stands-within stands spot at in
      let long = length-set stands spot false in
      let less = place_at-hole_before stands spot (length stands) at within in
      let less' : place_at (set stands spot false) (length (set stands spot false)) + 1 ≡ place_at stands (length stands) = rw long less in
      let stood : (other : ℕ) → HasRow (set stands spot false) other → HasRow stands other = λ other there. elim (cases_eq other spot) [
        | inl e ↦ absurd (true≢false (sym there ∙ rw e (get_or-set_same stands spot false false within)))
        | inr ne ↦ sym (get_or-set_other stands spot other false false ne) ∙ there
      ] in
      record {
        remembered_beside = are.remembered_beside;
        stands_beside = long ∙ are.stands_beside;
        counted = omega (arith, are.counted, less');
        few = are.few;
        covered = λ other there. are.covered other (stood other there);
        apart = λ j k at_j at_k. are.apart j k (stood j at_j) (stood k at_k);
        noted_near = are.noted_near;
        led = λ other before there. are.led other before (stood other there);
        near = near;
        hinted = hinted;
      }

  -- one more row, after all spots
  pub kept_more : (h : Handle) (m : Memory) → length handles < 2 ^ 32 → h.slot < length spots → times h.slot (slots (kept stands handles)) ≡ 0 → IsSoundList (handles ++ h ∷ []) (remembered ++ m ∷ []) (stands ++ true ∷ []) spots (rows + 1) noted hint_place hint_spot
  kept_more h m few covered absent =
      let long = length-append handles (h ∷ []) in
      let stands_long = length-append stands (true ∷ []) in
      let whole : length (stands ++ true ∷ []) ≡ length stands + 1 = omega (arith, stands_long) in
      let there : get_or (stands ++ true ∷ []) (length stands) false ≡ true = get_or_push stands true false (length stands) refl in
      let more : place_at (stands ++ true ∷ []) (length stands + 1) ≡ place_at (stands ++ true ∷ []) (length stands) + 1 = rw there at (place_at-more (stands ++ true ∷ []) (length stands) (omega (arith, whole))) in
      let before = place_at-push stands true (length stands) (omega arith) in
      let last : get_or (handles ++ h ∷ []) (length handles) no_handle ≡ h = get_or_push handles h no_handle (length handles) refl in
      let inside : (spot : ℕ) → HasRow (stands ++ true ∷ []) spot → spot ≢ length handles → spot < length handles = λ spot at ne.
      omega (arith, Stands-within (stands ++ true ∷ []) spot at, whole, are.stands_beside, ne) in
      let old : (spot : ℕ) → spot < length handles → HasRow (stands ++ true ∷ []) spot → HasRow stands spot = λ spot within at.
      sym (get_or_append_left stands (true ∷ []) false spot (omega (arith, within, are.stands_beside))) ∙ at in
      let same : (spot : ℕ) → spot < length handles → get_or (handles ++ h ∷ []) spot no_handle ≡ get_or handles spot no_handle = λ spot within.
      get_or_append_left handles (h ∷ []) no_handle spot within in
      let other : (spot : ℕ) → HasRow stands spot → (get_or handles spot no_handle).slot ≢ h.slot = λ spot at e.
      absurd (omega (arith, absent, spot-times handles stands are.stands_beside h.slot spot (record { stands_there = at; of = e }))) in
      let slot_last : (get_or (handles ++ h ∷ []) (length handles) no_handle).slot ≡ h.slot = ap (λ (x : Handle). x.slot) last in
      let slot_same : (spot : ℕ) → spot < length handles → (get_or (handles ++ h ∷ []) spot no_handle).slot ≡ (get_or handles spot no_handle).slot = λ spot within.
      ap (λ (x : Handle). x.slot) (same spot within) in
      record {
        remembered_beside = omega (arith, are.remembered_beside, long, length-append remembered (m ∷ []));
        stands_beside = omega (arith, are.stands_beside, long, stands_long);
        counted = rw whole (omega (arith, are.counted, more, before));
        few = omega (arith, few, long);
        covered = λ spot at. elim (cases_eq spot (length handles)) [
          | inl e ↦ rw (e, slot_last) covered
          | inr ne ↦ rw (slot_same spot (inside spot at ne)) (are.covered spot (old spot (inside spot at ne) at))
        ];
        apart = λ j k at_j at_k alike. elim (cases_eq j (length handles)) [
          | inl e ↦ elim (cases_eq k (length handles)) [
            | inl f ↦ e ∙ sym f
            | inr ne ↦
                let within = inside k at_k ne in
                absurd (other k (old k within at_k) (sym (slot_same k within) ∙ sym alike ∙ (rw e slot_last)))
          ]
          | inr ne ↦
              let j_within = inside j at_j ne in
              elim (cases_eq k (length handles)) [
                | inl f ↦ absurd (other j (old j j_within at_j) (sym (slot_same j j_within) ∙ alike ∙ (rw f slot_last)))
                | inr nf ↦
                    let k_within = inside k at_k nf in
                    are.apart j k (old j j_within at_j) (old k k_within at_k) (sym (slot_same j j_within) ∙ alike ∙ slot_same k k_within)
              ]
        ];
        noted_near = omega (arith, are.noted_near, long);
        led = λ spot early at.
            let within : spot < length handles = omega (arith, early, are.noted_near) in
            rw (slot_same spot within) (are.led spot early (old spot within at));
        near = omega (arith, are.near, long);
        hinted = are.hinted ∙ sym (place_at-push stands true hint_spot (omega (arith, are.near, are.stands_beside)));
      }

  -- something else remembered
  pub kept_memory : (spot : ℕ) (m : Memory) → IsSoundList handles (set remembered spot m) stands spots rows noted hint_place hint_spot
  kept_memory spot m = record {
    remembered_beside = length-set remembered spot m ∙ are.remembered_beside;
    stands_beside = are.stands_beside;
    counted = are.counted;
    few = are.few;
    covered = are.covered;
    apart = are.apart;
    noted_near = are.noted_near;
    led = are.led;
    near = are.near;
    hinted = are.hinted;
  }

  -- more cells covered
  pub kept_covered : (spots' : List ℕ) → length spots ≤ length spots' → ((k : ℕ) → k < length spots → get_or spots' k 0 ≡ get_or spots k 0) → IsSoundList handles remembered stands spots' rows noted hint_place hint_spot
  kept_covered spots' longer same = record {
    remembered_beside = are.remembered_beside;
    stands_beside = are.stands_beside;
    counted = are.counted;
    few = are.few;
    covered = λ spot at. omega (arith, are.covered spot at, longer);
    apart = are.apart;
    noted_near = are.noted_near;
    led = λ spot before at. let one = are.led spot before at in record {
      covered = omega (arith, one.covered, longer);
      is = same (get_or handles spot no_handle).slot one.covered ∙ one.is;
    };
    near = are.near;
    hinted = are.hinted;
  }

  -- all spots noted
  pub kept_noted : (spots' : List ℕ) → length spots' ≡ length spots → LeadBack handles stands spots' (length handles) → IsSoundList handles remembered stands spots' rows (length handles) hint_place hint_spot
  kept_noted spots' long led = record {
    remembered_beside = are.remembered_beside;
    stands_beside = are.stands_beside;
    counted = are.counted;
    few = are.few;
    covered = λ spot at. omega (arith, are.covered spot at, long);
    apart = are.apart;
    noted_near = omega arith;
    led = led;
    near = are.near;
    hinted = are.hinted;
  }

-- lists that are the same, and the room
pub same_view : (hs hs' : List Handle) (ks ks' : List Memory) (room covered covered' : ℕ) → hs ≡ hs' → ks ≡ ks' → covered ≡ covered' → (let now : Pending = record { handles = hs; remembered = ks; room = room; covered = covered } in let old : Pending = record { handles = hs'; remembered = ks'; room = room; covered = covered' } in now ≡ old)
same_view hs hs' ks ks' room covered covered' e f g = rw (e, f, g) refl

pub view_after : (hs hs' : List Handle) (ks ks' : List Memory) (room room' covered covered' : ℕ) → hs ≡ hs' → ks ≡ ks' → room ≡ room' → covered ≡ covered' → (let now : Pending = record { handles = hs; remembered = ks; room = room; covered = covered } in let old : Pending = record { handles = hs'; remembered = ks'; room = room'; covered = covered' } in now ≡ old)
view_after hs hs' ks ks' room room' covered covered' e f h g = rw (e, f, h, g) refl

-- fewer spots and more memory: no less room
pub room-more : (n n' h h' s s' : ℕ) → n' ≤ n → h ≤ h' → s ≤ s' → spot_room n h s ≤ spot_room n' h' s'
room-more n n' h h' s s' a b c = omega (arith, a, b, c)

pub room-enough : (n more h s : ℕ) → n + more ≤ 2 ^ 32 → n + more ≤ h → n + more ≤ s → more ≤ spot_room n h s
room-enough n more h s a b c = omega (arith, a, b, c)

pub room-within : (n more h s : ℕ) → 0 < more → more ≤ spot_room n h s → (n + more ≤ 2 ^ 32) × (n + more ≤ h) × (n + more ≤ s)
room-within n more h s some within = (omega (arith, some, within), omega (arith, some, within), omega (arith, some, within))

-- a list that takes less memory, and has fewer spots
pub memory-sure : (n rows sure wanted cap cap' : ℕ) → rows ≤ n → sure ≤ wanted → n + sure ≤ cap → min (rows + wanted) cap ≤ cap' → rows + sure ≤ cap'
memory-sure n rows sure wanted cap cap' few less within kept = omega (arith, few, less, within, kept)

-- pushes that needed no memory still need none
pub room-sure : (n rows sure wanted h s h' s' : ℕ) → rows ≤ n → sure ≤ wanted → sure ≤ spot_room n h s → min (rows + wanted) h ≤ h' → min (rows + wanted) s ≤ s' → sure ≤ spot_room rows h' s'
room-sure n rows sure wanted h s h' s' few less within kept_h kept_s = elim (cases_eq sure 0) [
  | inl e ↦ rw e (omega arith)
  | inr ne ↦
      let all = room-within n sure h s (omega (arith, ne)) within in
      room-enough rows sure h' s' (omega (arith, few, all.0)) (memory-sure n rows sure wanted h h' few less all.1 kept_h) (memory-sure n rows sure wanted s s' few less all.2 kept_s)
]

pub room-less : (n h s : ℕ) → spot_room (n + 1) h s ≡ spot_room n h s - 1
room-less n h s = omega arith

pub room-some : (n h s : ℕ) → 0 < spot_room n h s → (n < 2 ^ 32) × (n < h) × (n < s)
room-some n h s some = (omega (arith, some), omega (arith, some), omega (arith, some))

-- the conclusion from two premises
pub OnOk_two : {A E : Type 0} (r : Result A E) (P Q R : Type 0) → OnOk r P → OnOk r Q → (P → Q → R) → OnOk r R
OnOk_two (Ok x) P Q R p q f = f p q
OnOk_two (Err e) P Q R p q f = tt

pub handle-is : (h k : Handle) → h.slot ≡ k.slot → h.generation ≡ k.generation → h ≡ k
handle-is h k e f = rw (e, f) refl

-- where holes are closed up
module _ {handles : List Handle} {remembered : List Memory} {stands : List Bool} {spots : List ℕ} {rows noted hint_place hint_spot : ℕ} (are : IsSoundList handles remembered stands spots rows noted hint_place hint_spot) {handles' : List Handle} {remembered' : List Memory} {stands' : List Bool} (closed : IsClosed handles remembered stands rows handles' remembered' stands') where
  closed-beside : length stands' ≡ length handles'
  closed-beside = closed.long ∙ are.counted ∙ sym (length-kept stands handles are.stands_beside) ∙ ap length (sym closed.handles_are)

  closed-remembered_beside : length remembered' ≡ length handles'
  closed-remembered_beside =
      ap length closed.remembered_are ∙ length-kept stands remembered (omega (arith, are.stands_beside, are.remembered_beside)) ∙ sym (length-kept stands handles are.stands_beside) ∙ ap length (sym closed.handles_are)

  closed-full : place_at stands' (length stands') ≡ length stands'
  closed-full = rw (closed.long) closed.full

  pub closed-fewer : length handles' ≤ length handles
  closed-fewer =
      omega (arith, closed-beside, closed.long, are.counted, place_at-few stands (length stands), are.stands_beside)

  pub closed-rows : length handles' ≡ rows
  closed-rows = sym closed-beside ∙ closed.long

  -- no two of them are of the same cell
  closed-apart : StandApart handles' stands'
  closed-apart j k at_j at_k alike =
      let one = kept-apart handles stands are.stands_beside are.apart in
      (rw (← closed.handles_are) at one) j k (omega (arith, Stands-within stands' j at_j, closed-beside)) (omega (arith, Stands-within stands' k at_k, closed-beside)) alike

  closed-covered : AreCovered handles' stands' (length spots)
  closed-covered spot at =
      let all = kept-covered handles stands are.stands_beside (length spots) are.covered in
      (rw (← closed.handles_are) at all) spot no_handle (omega (arith, Stands-within stands' spot at, closed-beside))

  pub closed-kept : IsSoundList handles' remembered' stands' spots rows 0 0 0
  closed-kept = record {
    remembered_beside = closed-remembered_beside;
    stands_beside = closed-beside;
    counted = sym closed.long ∙ sym closed-full;
    few = omega (arith, closed-fewer, are.few);
    covered = closed-covered;
    apart = closed-apart;
    noted_near = omega arith;
    led = λ spot before. absurd (omega (arith, before));
    near = omega arith;
    hinted = refl;
  }

  pub closed-handles : kept stands' handles' ≡ kept stands handles
  closed-handles = kept-full stands' handles' closed-beside closed-full ∙ closed.handles_are

  pub closed-remembered : kept stands' remembered' ≡ kept stands remembered
  closed-remembered = kept-full stands' remembered' (closed-beside ∙ sym closed-remembered_beside) closed-full ∙ closed.remembered_are
