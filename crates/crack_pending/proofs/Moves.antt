-- Laws of closing holes up.
use Rattle.std.specs.Prelude.{slice_index_or}
use Rattle.std.proofs.Common.{◌≡◌, ℕ, ◌+◌, ◌<◌, ◌≤◌, Bool, false, ◌≢◌, List, length, get_or, set, take, All, refl, sym, ap, ◌∙◌, inl, inr, arith, length-set}
use Rattle.std.proofs.lemmas.Bool.{cases_eq, true≢false}
use Rattle.std.proofs.lemmas.List.{get_or-set_same, get_or-set_other, get_or_default, get_or-take, length-take-le, ext_get_or}
use Rattle.crack_arena.specs.Arena.{Handle, no_handle}
use Rattle.crack_pending.specs.Spots.{kept}
use Rattle.crack_pending.specs.Keeps.{place_at, HasRow, LeadBack, StandApart, AreCovered}
use Rattle.crack_pending.proofs.Kept.{place_at-more, place_at-few, length-kept, kept-at, kept-at_place, spot_of, Stands-within}

-- no two handles name the same cell
abbrev pub AreApart : List Handle → Type 0
AreApart handles =
    (j k : ℕ) → j < length handles → k < length handles → (slice_index_or handles j no_handle).slot ≡ (slice_index_or handles k no_handle).slot → j ≡ k

-- so far the rows of the first spots have moved to the front, and the spots after are as they were
pub record AreMoved {X : Type 0} (stands : List Bool) (old new : List X) (spot low : ℕ) : Type 0 where
  pub long : length new ≡ length old
  pub low_is : low ≡ place_at stands spot
  pub front : (k : ℕ) (d : X) → k < low → slice_index_or new k d ≡ slice_index_or (kept stands old) k d
  pub rest : (k : ℕ) (d : X) → spot ≤ k → slice_index_or new k d ≡ slice_index_or old k d

module _ {X : Type 0} where
  pub moved_none : (bs : List Bool) (old : List X) → AreMoved bs old old 0 0
  moved_none bs old = record {
    long = refl;
    low_is = refl;
    front = λ k d before. absurd (omega (arith, before));
    rest = λ k d after. refl;
  }

  -- a row moves to the front
  pub moved_row : (bs : List Bool) (old new : List X) (spot low : ℕ) (x : X) → length bs ≡ length old → spot < length bs → HasRow bs spot → x ≡ get_or new spot x → AreMoved bs old new spot low → AreMoved bs old (set new low x) (spot + 1) (low + 1)
  moved_row bs old new spot low x beside within stands is moved =
      let few : low ≤ spot = omega (arith, moved.low_is, place_at-few bs spot) in
      let more : place_at bs (spot + 1) ≡ place_at bs spot + 1 = rw stands at (place_at-more bs spot within) in
      record {
        long = length-set new low x ∙ moved.long;
        low_is = omega (arith, moved.low_is, more);
        front = λ k d before. elim (cases_eq k low) [
          | inl e ↦
              let here : get_or new spot d ≡ get_or (kept bs old) low d = moved.rest spot d (omega arith) ∙ rw (moved.low_is) (sym (kept-at bs old spot d beside stands)) in
              let same : get_or new spot d ≡ x = get_or_default new spot d x (omega (arith, moved.long, beside, within)) ∙ sym is in
              rw e (get_or-set_same new low x d (omega (arith, few, within, beside, moved.long)) ∙ sym same ∙ here)
          | inr ne ↦ get_or-set_other new low k x d ne ∙ moved.front k d (omega (arith, before, ne))
        ];
        rest = λ k d after.
            let ne : k ≢ low = λ e. absurd (omega (arith, e, few, after)) in
            get_or-set_other new low k x d ne ∙ moved.rest k d (omega (arith, after));
      }

  -- a hole stays
  pub moved_hole : (bs : List Bool) (old new : List X) (spot low : ℕ) → spot < length bs → get_or bs spot false ≡ false → AreMoved bs old new spot low → AreMoved bs old new (spot + 1) low
  moved_hole bs old new spot low within hole moved =
      let more : place_at bs (spot + 1) ≡ place_at bs spot + 0 = rw hole at (place_at-more bs spot within) in
      record {
        long = moved.long;
        low_is = omega (arith, moved.low_is, more);
        front = moved.front;
        rest = λ k d after. moved.rest k d (omega (arith, after));
      }

  -- once all have moved, the front is what is kept
  pub moved_all : (bs : List Bool) (old new : List X) (low : ℕ) (d : X) → length bs ≡ length old → AreMoved bs old new (length bs) low → take low new ≡ kept bs old
  moved_all bs old new low d beside moved =
      let long = length-kept bs old beside in
      let within : low ≤ length new = omega (arith, moved.low_is, place_at-few bs (length bs), beside, moved.long) in
      let size = length-take-le low new within in
      ext_get_or d (take low new) (kept bs old) (omega (arith, size, long, moved.low_is)) (λ i inside.
      let before : i < low = omega (arith, inside, size) in
      get_or-take low new i d before ∙ moved.front i d before)

module _ (handles : List Handle) (stands : List Bool) (spots : List ℕ) (spot : ℕ) (led : LeadBack handles stands spots spot) where
  -- the next row's spot is noted
  pub led_row : StandApart handles stands → HasRow stands spot → (slot : ℕ) → (get_or handles spot no_handle).slot ≡ slot → slot < length spots → LeadBack handles stands (set spots slot spot) (spot + 1)
  led_row apart there slot at covered j before stands_j = elim (cases_eq j spot) [
    | inl e ↦ rw (e, at) (record { covered = omega (arith, covered, length-set spots slot spot); is = get_or-set_same spots slot spot 0 covered })
    | inr ne ↦
        let one = led j (omega (arith, before, ne)) stands_j in
        let other : (get_or handles j no_handle).slot ≢ slot = λ e. ne (apart j spot stands_j there (e ∙ sym at)) in
        record {
          covered = omega (arith, one.covered, length-set spots slot spot);
          is = get_or-set_other spots slot (get_or handles j no_handle).slot spot 0 other ∙ one.is;
        }
  ]

  -- a hole is passed over
  pub led_hole : get_or stands spot false ≡ false → LeadBack handles stands spots (spot + 1)
  led_hole hole j before stands_j = elim (cases_eq j spot) [
    | inl e ↦ absurd (true≢false (sym (rw e at stands_j) ∙ hole))
    | inr ne ↦ led j (omega (arith, before, ne)) stands_j
  ]

module _ (handles : List Handle) (stands : List Bool) (beside : length stands ≡ length handles) where
  -- no two rows have a handle of the same cell
  pub kept-apart : StandApart handles stands → AreApart (kept stands handles)
  kept-apart apart j k j_within k_within same =
      let long = length-kept stands handles beside in
      let s = spot_of stands j (omega (arith, long, j_within)) in
      let t = spot_of stands k (omega (arith, long, k_within)) in
      let at_s = kept-at_place stands handles j no_handle beside s in
      let at_t = kept-at_place stands handles k no_handle beside t in
      let slot : (get_or handles s.spot no_handle).slot ≡ (get_or handles t.spot no_handle).slot = rw (at_s, at_t) at same in
      sym s.is ∙ ap (place_at stands) (apart s.spot t.spot s.stands t.stands slot) ∙ t.is

  -- each is of a cell that is covered
  pub kept-covered : (cells : ℕ) → AreCovered handles stands cells → All (λ (h : Handle). h.slot < cells) (kept stands handles)
  kept-covered cells covered k d within =
      let long = length-kept stands handles beside in
      let s = spot_of stands k (omega (arith, long, within)) in
      let at = kept-at_place stands handles k d beside s in
      let same : get_or handles s.spot d ≡ get_or handles s.spot no_handle = get_or_default handles s.spot d no_handle (omega (arith, Stands-within stands s.spot s.stands, beside)) in
      rw (at, same) (covered s.spot s.stands)
