-- A write to one of the maps.
use Rattle.std.proofs.Common.{◌≡◌, ◌⊎◌, ℕ, zero, suc, ◌+◌, ◌-◌, ◌<◌, ◌≤◌, Bool, true, false, List, [], ◌∷◌, ◌++◌, length, get_or, set, Option, Some, refl, sym, ap, subst, ◌∙◌, inl, inr, arith, nat_eq, length-set}
use Rattle.std.specs.Prelude.{if◌then◌else◌, replicate, slice_get, Result, Ok, Err, OnOk, OnErr}
use Rattle.std.specs.List.{All, swap_remove}
use Rattle.std.proofs.lemmas.Bool.{cases_eq, ne_eqb, eq-eqb}
use Rattle.std.proofs.lemmas.List.{get_or-set_same, get_or-set_other, map-set, set-get_or, get_or-map, length-map, length-replicate}
use Rattle.std.proofs.lemmas.List.Elements.{All-nil, All-cons, All-head, All-tail, All-take, All-set, All-get_or}
use Rattle.indexmap.specs.IndexMap.{IndexMap, spare, insert_entry, set_value_at}
use Rattle.crack_arena.specs.Arena.{Handle}
use Rattle.crack_serials.specs.Serials.{map_of, handle_of, Maps, sharing, with_serial}
use Rattle.crack_serials.specs.Keeps.{map_lists, IsSpread, KeepsLists, AreMade}
use Rattle.crack_serials.specs.Views.{rooms_of, entries_in_maps}
use Rattle.crack_serials.proofs.ListLemmas.{Entries, joined, IsOf, sharing-joined, handle_of-joined, AreOwn-set, length-joined_set, Maps-joined_set}
use Rattle.crack_serials.proofs.PlaceLemmas.{placed-joined}

either : (i : ℕ) (b : Bool) (es fs : Entries) → All (IsOf i) es → All (IsOf i) fs → All (IsOf i) (if b then es else fs)
either i true es fs first second = first
either i false es fs first second = second

-- a map with one more entry, or another value, has only its own serials
pub All-insert : (i k : ℕ) (h : Handle) (es : Entries) → map_of k ≡ i → All (IsOf i) es → All (IsOf i) (insert_entry nat_eq es k h)
All-insert i k h [] at all = All-cons (IsOf i) (k, h) [] at (All-nil (IsOf i))
All-insert i k h (e ∷ es) at all =
    either i (nat_eq k e.0) ((e.0, h) ∷ es) (e ∷ insert_entry nat_eq es k h)
    (All-cons (IsOf i) (e.0, h) es (All-head (IsOf i) e es all) (All-tail (IsOf i) e es all))
    (All-cons (IsOf i) e (insert_entry nat_eq es k h) (All-head (IsOf i) e es all) (All-insert i k h es at (All-tail (IsOf i) e es all)))

pub All-set_value : (i at : ℕ) (h : Handle) (es : Entries) → All (IsOf i) es → All (IsOf i) (set_value_at es at h)
All-set_value i at h [] all = All-nil (IsOf i)
All-set_value i zero h (e ∷ es) all = All-cons (IsOf i) (e.0, h) es (All-head (IsOf i) e es all) (All-tail (IsOf i) e es all)
All-set_value i (suc at) h (e ∷ es) all = All-cons (IsOf i) e (set_value_at es at h) (All-head (IsOf i) e es all) (All-set_value i at h es (All-tail (IsOf i) e es all))

-- so has a map from which an entry was removed
pub All-swap_remove : (i at : ℕ) (d : ℕ × Handle) (es : Entries) → at < length es → All (IsOf i) es → All (IsOf i) (swap_remove es at d)
All-swap_remove i at d es within all =
    All-take (IsOf i) (length es - 1) (set es at (get_or es (length es - 1) d)) (All-set (IsOf i) es at (get_or es (length es - 1) d) (All-get_or (IsOf i) es (length es - 1) d (omega (arith, within)) all) all)

-- empty lists
get_or-replicate_same : (n count : ℕ) → get_or {A = Entries} (replicate count []) n [] ≡ []
get_or-replicate_same n zero = refl
get_or-replicate_same zero (suc count) = refl
get_or-replicate_same (suc n) (suc count) = get_or-replicate_same n count

joined-replicate : (count : ℕ) → joined (replicate count []) ≡ []
joined-replicate zero = refl
joined-replicate (suc count) = joined-replicate count

-- no room is used
pub no_use : (b : Bool) (before after : ℕ) → before ≤ after + (if b then 0 else 0) → before ≤ after
no_use true before after less = omega (arith, less)
no_use false before after less = omega (arith, less)

-- if there are maps, there are 64
all_there : (count i : ℕ) → 0 < count → (count ≡ 0) ⊎ (count ≡ 64) → i < 64 → i < count
all_there count i some counts few = elim counts [ inl none ↦ absurd (omega (arith, none, some)) | inr all ↦ omega (arith, all, few) ]

module _ {S : Type 0} where
  -- the entries of all maps are those of their lists
  pub entries-joined : (maps : List (IndexMap ℕ Handle S)) → entries_in_maps maps ≡ joined (map_lists maps)
  entries-joined [] = refl
  entries-joined (m ∷ maps) = ap (λ es. m.entries ++ es) (entries-joined maps)

  lists-set : (maps : List (IndexMap ℕ Handle S)) (i : ℕ) (m : IndexMap ℕ Handle S) → map_lists (set maps i m) ≡ set (map_lists maps) i m.entries
  lists-set maps i m = map-set (λ (n : IndexMap ℕ Handle S). n.entries) maps i m

  length-lists : (maps : List (IndexMap ℕ Handle S)) → length (map_lists maps) ≡ length maps
  length-lists maps = length-map maps (λ (n : IndexMap ℕ Handle S). n.entries)

  -- the map with a number
  pub record IsMap (maps : List (IndexMap ℕ Handle S)) (i : ℕ) (m : IndexMap ℕ Handle S) : Type 0 where
    pub within : i < length maps
    pub is : m ≡ get_or maps i m

  pub list_at : (maps : List (IndexMap ℕ Handle S)) (i : ℕ) (m : IndexMap ℕ Handle S) → IsMap maps i m → get_or (map_lists maps) i [] ≡ m.entries
  list_at maps i m one = get_or-map (λ (n : IndexMap ℕ Handle S). n.entries) maps i m [] one.within ∙ ap (λ (n : IndexMap ℕ Handle S). n.entries) (sym one.is)

  pub room_at : (maps : List (IndexMap ℕ Handle S)) (i : ℕ) (m : IndexMap ℕ Handle S) → IsMap maps i m → get_or (rooms_of maps) i 0 ≡ spare m
  room_at maps i m one = get_or-map (λ (n : IndexMap ℕ Handle S). spare n) maps i m 0 one.within ∙ ap (λ (n : IndexMap ℕ Handle S). spare n) (sym one.is)

  -- it has only its own serials
  pub own_at : (maps : List (IndexMap ℕ Handle S)) (i : ℕ) (m : IndexMap ℕ Handle S) → IsMap maps i m → IsSpread maps → All (IsOf i) m.entries
  own_at maps i m one spread = subst (All (IsOf i)) (list_at maps i m one) (spread.own i)

  -- it looks its serials up
  pub handle_of-map : (maps : List (IndexMap ℕ Handle S)) (i serial : ℕ) (m : IndexMap ℕ Handle S) → i ≡ map_of serial → IsMap maps i m → IsSpread maps → handle_of (entries_in_maps maps) serial ≡ handle_of m.entries serial
  handle_of-map maps i serial m at one spread =
      ap (λ es. handle_of es serial) (entries-joined maps) ∙ handle_of-joined (map_lists maps) serial i at spread.own ∙ ap (λ es. handle_of es serial) (list_at maps i m one)

  pub sharing-map : (maps : List (IndexMap ℕ Handle S)) (i serial : ℕ) (m : IndexMap ℕ Handle S) → i ≡ map_of serial → IsMap maps i m → IsSpread maps → sharing serial (entries_in_maps maps) ≡ m.entries
  sharing-map maps i serial m at one spread =
      ap (sharing serial) (entries-joined maps) ∙ sharing-joined (map_lists maps) serial i at spread.own ∙ list_at maps i m one

  -- one map is exchanged for another
  pub IsSpread-set : (maps : List (IndexMap ℕ Handle S)) (i : ℕ) (m : IndexMap ℕ Handle S) → i < length maps → IsSpread maps → All (IsOf i) m.entries → IsSpread (set maps i m)
  IsSpread-set maps i m within spread all = record {
    count = rw (length-set maps i m) spread.count;
    own = rw (lists-set maps i m) (AreOwn-set (map_lists maps) i m.entries (omega (arith, within, length-lists maps)) spread.own all);
  }

  pub Maps-set : (maps : List (IndexMap ℕ Handle S)) (i serial : ℕ) (m after : IndexMap ℕ Handle S) (o : Option Handle) → i ≡ map_of serial → IsMap maps i m → IsSpread maps → All (IsOf i) after.entries → Maps serial o m.entries after.entries → Maps serial o (entries_in_maps maps) (entries_in_maps (set maps i after))
  Maps-set maps i serial m after o at one spread all maps_one =
      rw (entries-joined maps, entries-joined (set maps i after), lists-set maps i after) (Maps-joined_set (map_lists maps) i serial after.entries o at (omega (arith, one.within, length-lists maps)) spread.own all (rw (list_at maps i m one) maps_one))

  pub length-set_map : (maps : List (IndexMap ℕ Handle S)) (i : ℕ) (m after : IndexMap ℕ Handle S) → IsMap maps i m → length (entries_in_maps (set maps i after)) + length m.entries ≡ length (entries_in_maps maps) + length after.entries
  length-set_map maps i m after one =
      rw (entries-joined maps, entries-joined (set maps i after), lists-set maps i after, ← list_at maps i m one) (length-joined_set (map_lists maps) i after.entries (omega (arith, one.within, length-lists maps)))

  pub placed-set : (maps : List (IndexMap ℕ Handle S)) (i serial : ℕ) (h : Handle) (m after : IndexMap ℕ Handle S) → i ≡ map_of serial → IsMap maps i m → IsSpread maps → after.entries ≡ m.entries ++ (serial, h) ∷ [] → entries_in_maps (set maps i after) ≡ with_serial serial h (entries_in_maps maps)
  placed-set maps i serial h m after at one spread more =
      rw (entries-joined maps, entries-joined (set maps i after), lists-set maps i after, more, ← list_at maps i m one) (placed-joined (map_lists maps) i serial h at (omega (arith, one.within, length-lists maps)) spread.own)

  -- the rooms then
  pub rooms-set : (maps : List (IndexMap ℕ Handle S)) (i n used : ℕ) (m after : IndexMap ℕ Handle S) → IsMap maps i m → spare m ≤ spare after + used → get_or (rooms_of maps) n 0 ≤ get_or (rooms_of (set maps i after)) n 0 + (if nat_eq i n then used else 0)
  rooms-set maps i n used m after one less = elim (cases_eq n i) [
    | inl same ↦
        let there : i < length (rooms_of maps) = omega (arith, one.within, length-map maps (λ (k : IndexMap ℕ Handle S). spare k)) in
        rw (same, room_at maps i m one, map-set (λ (k : IndexMap ℕ Handle S). spare k) maps i after, get_or-set_same (rooms_of maps) i (spare after) 0 there, eq-eqb i i refl) less
    | inr apart ↦
        rw (map-set (λ (k : IndexMap ℕ Handle S). spare k) maps i after, get_or-set_other (rooms_of maps) i n (spare after) 0 apart, ne_eqb i n (λ e. apart (sym e))) (omega arith)
  ]

  -- there are maps where there is room, or an entry
  pub map_from_room : (maps : List (IndexMap ℕ Handle S)) (i : ℕ) → IsSpread maps → i < 64 → 0 < get_or (rooms_of maps) i 0 → i < length maps
  map_from_room [] i spread few room = absurd (omega (arith, room))
  map_from_room (m ∷ maps) i spread few room = all_there (length (m ∷ maps)) i (omega arith) spread.count few

  pub map_from_entry : (maps : List (IndexMap ℕ Handle S)) (i serial at : ℕ) (e : ℕ × Handle) → IsSpread maps → i < 64 → slice_get (sharing serial (entries_in_maps maps)) at ≡ Some e → i < length maps
  map_from_entry [] i serial at e spread few found = absurd (cc)
  map_from_entry (m ∷ maps) i serial at e spread few found = all_there (length (m ∷ maps)) i (omega arith) spread.count few

  pub one_from_room : (maps : List (IndexMap ℕ Handle S)) (i serial : ℕ) (m : IndexMap ℕ Handle S) → i ≡ map_of serial → i < 64 → IsSpread maps → 0 < get_or (rooms_of maps) (map_of serial) 0 → m ≡ get_or maps i m → IsMap maps i m
  one_from_room maps i serial m at few spread room is = record { within = map_from_room maps i spread few (rw at room); is = is }

  pub one_from_entry : (maps : List (IndexMap ℕ Handle S)) (i serial place : ℕ) (m : IndexMap ℕ Handle S) (e : ℕ × Handle) → i < 64 → IsSpread maps → slice_get (sharing serial (entries_in_maps maps)) place ≡ Some e → m ≡ get_or maps i m → IsMap maps i m
  one_from_entry maps i serial place m e few spread found is = record { within = map_from_entry maps i serial place e spread few found; is = is }

  -- more room in one map
  pub room_at_set : (maps : List (IndexMap ℕ Handle S)) (i : ℕ) (after : IndexMap ℕ Handle S) → i < length maps → get_or (rooms_of (set maps i after)) i 0 ≡ spare after
  room_at_set maps i after within =
      rw (map-set (λ (k : IndexMap ℕ Handle S). spare k) maps i after) (get_or-set_same (rooms_of maps) i (spare after) 0 (omega (arith, within, length-map maps (λ (k : IndexMap ℕ Handle S). spare k))))

  pub KeepsLists-set : (maps : List (IndexMap ℕ Handle S)) (i : ℕ) (m after : IndexMap ℕ Handle S) → IsMap maps i m → after.entries ≡ m.entries → spare m ≤ spare after → KeepsLists maps (set maps i after)
  KeepsLists-set maps i m after one same more = record {
    same = rw (lists-set maps i after, same, ← list_at maps i m one) (set-get_or (map_lists maps) i []);
    room = λ n. no_use (nat_eq i n) (get_or (rooms_of maps) n 0) (get_or (rooms_of (set maps i after)) n 0) (rooms-set maps i n 0 m after one (omega (arith, more)));
  }

  -- the entries are the same, and so are the maps
  pub entries-kept : (maps after : List (IndexMap ℕ Handle S)) → KeepsLists maps after → entries_in_maps after ≡ entries_in_maps maps
  entries-kept maps after kept = entries-joined after ∙ ap joined kept.same ∙ sym (entries-joined maps)

  pub length-kept : (maps after : List (IndexMap ℕ Handle S)) → KeepsLists maps after → length after ≡ length maps
  length-kept maps after kept = sym (length-lists after) ∙ ap length kept.same ∙ length-lists maps

  pub IsSpread-kept : (maps after : List (IndexMap ℕ Handle S)) → KeepsLists maps after → IsSpread maps → IsSpread after
  IsSpread-kept maps after kept spread = record {
    count = rw (length-kept maps after kept) spread.count;
    own = rw kept.same spread.own;
  }

  -- maps that were made are empty
  pub entries-made : (maps : List (IndexMap ℕ Handle S)) (count : ℕ) → AreMade count maps → entries_in_maps maps ≡ []
  entries-made maps count made = entries-joined maps ∙ ap joined made.empty ∙ joined-replicate count

  pub length-made : (maps : List (IndexMap ℕ Handle S)) (count : ℕ) → AreMade count maps → length maps ≡ count
  length-made maps count made = sym (length-lists maps) ∙ ap length made.empty ∙ length-replicate count []

  pub IsSpread-made : (maps : List (IndexMap ℕ Handle S)) → AreMade 64 maps → IsSpread maps
  IsSpread-made maps made = record {
    count = inr (length-made maps 64 made);
    own = λ n. rw (made.empty, get_or-replicate_same n 64) (All-nil (IsOf n));
  }

  pub length-rooms : (maps : List (IndexMap ℕ Handle S)) → length (rooms_of maps) ≡ length maps
  length-rooms maps = length-map maps (λ (k : IndexMap ℕ Handle S). spare k)

  pub IsSpread-none : IsSpread {S = S} []
  IsSpread-none = record { count = inl refl; own = λ n. All-nil (IsOf n) }

  -- whether the maps were made or refused
  pub IsSpread-either : {X E : Type 0} (r : Result X E) (maps : List (IndexMap ℕ Handle S)) → OnOk r (AreMade 64 maps) → OnErr r (maps ≡ []) → IsSpread maps
  IsSpread-either (Ok x) maps made none = IsSpread-made maps made
  IsSpread-either (Err e) maps made none = rw none IsSpread-none

  -- no maps have no entries
  pub entries-none : (maps : List (IndexMap ℕ Handle S)) → length maps ≡ 0 → entries_in_maps maps ≡ []
  entries-none [] none = refl
  entries-none (m ∷ maps) none = absurd (omega (arith, none))
