-- All carries of a range in bulk under a ceiling, if no row is doomed: the result of one carry after another.
use Rattle.std.proofs.Common.{◌≡◌, ℕ, suc, ◌+◌, ◌-◌, ◌<◌, ◌≤◌, false, min, List, [], ◌∷◌, ◌++◌, map, length, take, drop, reverse, get_or, Some, refl, sym, ap, ◌∙◌, inl, inr, arith}
use Rattle.std.specs.Prelude.{All, Contains}
use Rattle.std.proofs.lemmas.Bool.{lt-leb}
use Rattle.std.proofs.lemmas.List.{drop-drop, length-append, length-map, length-take-le, length-reverse, reverse-reverse, get_or-reverse, take-append-drop}
use Rattle.std.proofs.lemmas.List.Elements.{All-nil, All-cons, All-drop}
use Rattle.crack_row.specs.Ranges.{Range}
use Rattle.crack_arena.specs.Arena.{Handle, times, slots, read}
use Rattle.crack_arena.specs.Rows.{key_at, keys_at}
use Rattle.crack_arena.proofs.Times.{times-nil, times-map-append}
use Rattle.crack_arena.specs.Memories.{Remembers}
use Rattle.crack_column.specs.Column.{Column}
use Rattle.crack_column.specs.Sifts.{AreRead}
use Rattle.crack_index.specs.declared.mark.Mark.{Mark}
use Rattle.crack_index.specs.Marks.{Rising}
use Rattle.crack_index.specs.Raises.{Raises}
use Rattle.crack_pending.specs.Pending.{Finds, Pending}
use Rattle.crack_pending.proofs.Searches.{is_in-true, is_in-false}
use Rattle.crack_state.specs.State.{State, IsIntact, Reads, greatest}
use Rattle.crack_state.specs.Steps.{SameButRoom}
use Rattle.crack_state.proofs.CellLaws.{cell_within, row_read}
use Rattle.crack_state.proofs.OwnedLaws.{times-places, once-most}
use Rattle.crack_state.proofs.StepLaws.{IsIntact-room}
use Rattle.crack_state.specs.Pieces.{Pieces, column_of, cut}
use Rattle.crack_state.specs.Carried.{is_doomed, inside_of, carried_in_bulk}
use Rattle.crack_state.proofs.AllCarriedLaws.{inside_or, IsKept, IsKept-in_bulk}
use Rattle.crack_state.proofs.CeilingLaws.{GoUnder, parted, met-all, carried_under, carried-under}
use Rattle.crack_state.proofs.Sifts.{sifted, all_made_way, risen}
use Rattle.crack_state.proofs.StepsDown.{sifted_down-is}
use Rattle.crack_store.specs.declared.sifting.Sieve.{Sieve}
use Rattle.crack_store.specs.declared.inside.Inside.{Inside}
use Rattle.crack_store.specs.Inside.{lists_of}
use Rattle.crack_store.specs.Keeps.{KeepsIntact}
use Rattle.crack_store.specs.Evictions.{AreApart}
use Rattle.crack_store.specs.Sieves.{SieveRises}
use Rattle.crack_store.proofs.ExchangeLemmas.{seam}
use Rattle.crack_store.proofs.EvictLemmas.{around, map-reversed, All-reversed}
use Rattle.crack_store.proofs.SiftLemmas.{Falls, IsBefore, stood, came, through}

-- the marks in reverse, the highest first
falls_reverse : (xs : List Mark) → Rising xs → Falls (reverse xs)
falls_reverse xs rising = λ i j d h k.
    let far = length-reverse xs in
    rw (get_or-reverse xs i d (omega (arith, h, k, far)), get_or-reverse xs j d (omega (arith, k, far))) (rising (length xs - 1 - j) (length xs - 1 - i) d (omega (arith, h, k, far)) (omega (arith, h, k, far)))

module _ (r : Range) (s : State) (edge : Mark) (intact : IsIntact s []) (there : Contains s.marks edge) where
  abbrev key : Handle → ℕ
  key = key_at s.cells

  abbrev beyond : List Handle
  beyond = drop edge.position s.column

  pub edge_in : edge.position ≤ length s.column
  edge_in =
      let one = intact.obeyed there.0 edge there.1 in
      let place : (get_or s.marks there.0 edge).position ≤ length s.column = omega (arith, one.within, length-map s.column key) in
      rw there.2 at place

  -- no cell is among them twice, nor among the pending insertions too
  pub beyond_apart : (covered : ℕ) → length s.cells ≤ covered → AreApart covered beyond s.pending_in
  beyond_apart covered enough = record {
    once = λ slot.
        let whole : times slot (map slot_of s.column) ≡ times slot (map slot_of (take edge.position s.column)) + times slot (map slot_of beyond) = ap (λ hs. times slot (map slot_of hs)) (sym (take-append-drop edge.position s.column)) ∙ times-map-append slot slot_of (take edge.position s.column) beyond in
        let all = times-places slot s.column s.pending_in s.free [] in
        omega (arith, whole, all, once-most s.cells s.free s.column s.pending_in s.pending_out [] slot intact.owned);
    inside = All-drop (λ h. h.slot < covered) edge.position s.column (λ k d h. slot_in (get_or s.column k d) (intact.owned.column_reads k d h));
  }
    where
      slot_of : Handle → ℕ
      slot_of h = h.slot

      slot_in : (h : Handle) → Reads s.cells h → h.slot < covered
      slot_in h reads =
          let one = row_read s.cells h reads in
          omega (arith, enough, cell_within s.cells h one.0 one.1)

module _ (r : Range) (s : State) (low : List Mark) (m : Mark) (high : List Mark) (intact : IsIntact s []) (is : s.marks ≡ low ++ m ∷ high) (none : s.pending_out ≡ []) (top : r.high ≤ m.bound.0) where
  abbrev rows : List Handle
  rows = inside_of s.cells r s.pending_in

  abbrev lower : Pieces Handle
  lower = cut 0 low (take m.position s.column)

  none-doomed : (h : Handle) → is_doomed s h ≡ false
  none-doomed h =
      let never : times h.slot (slots s.pending_out) ≡ 0 = ap (λ hs. times h.slot (slots hs)) none ∙ times-nil h.slot in
      rw never refl

  inside_under : (hs : List Handle) → All (λ h. key_at s.cells h < m.bound.0) (inside_of s.cells r hs)
  inside_under [] = All-nil (λ h. key_at s.cells h < m.bound.0)
  inside_under (h ∷ hs) = elim (inside_or r (key_at s.cells h)) [
    | inl inside ↦ rw (is_in-true r (key_at s.cells h) inside) (All-cons (λ g. key_at s.cells g < m.bound.0) h (inside_of s.cells r hs) (omega (arith, inside.1, top)) (inside_under hs))
    | inr outside ↦ rw (is_in-false r (key_at s.cells h) outside) (inside_under hs)
  ]

  goes : GoUnder r s low m high
  goes = record {
    marks = is;
    met = met-all (key_at s.cells) (λ h. is_doomed s h ≡ false) none-doomed 0 rows lower;
    beyond = λ k d h. none-doomed (get_or (take (length rows) (drop m.position s.column)) k d);
    under = inside_under s.pending_in;
  }

  -- the store once the rows were put from the ceiling's place on, and sifted through the pieces below it
  pub record IsWalked (low' : List Mark) (w : Sieve) : Type 0 where
    pub column_is : w.column.handles ≡ column_of (sifted (key_at s.cells) 0 rows lower) ++ drop (length rows) (drop m.position s.column)
    pub marks_are : low' ≡ map (risen (key_at s.cells) rows) low
    pub moved_is : w.moved ≡ min (s.tally.moved + all_made_way (key_at s.cells) 0 rows lower) greatest
    pub remembers : Remembers s.cells w.column.handles w.column.remembered

  pub walked : (last : ℕ) (low' : List Mark) (v w : Sieve) → v.column.handles ≡ take m.position s.column ++ (rows ++ drop (length rows) (drop m.position s.column)) → v.from ≡ m.position → v.to ≡ m.position + length rows → v.moved ≡ s.tally.moved → AreRead s.cells v.from v.to v.column → Remembers s.cells v.column.handles v.column.remembered → Raises SieveRises (length rows) (reverse low) v (reverse low') w last → IsWalked low' w
  walked last low' v w handles from to moved read remembers raises =
      let cells = s.cells in
      let cutting = parted s low m high intact is in
      let front : List Handle = take m.position s.column in
      let back : List Handle = drop (length rows) (drop m.position s.column) in
      let short : length front ≡ m.position = length-take-le m.position s.column cutting.within in
      let one = seam front (rows ++ back) m.position short in
      let two = seam rows back (length rows) refl in
      let gap : m.position + length rows - m.position ≡ length rows = omega arith in
      let stood_is : stood cells v ≡ front = rw (from, handles) one.0 in
      let came_is : came cells v ≡ rows = rw (from, to, handles, one.1, gap) two.0 in
      let rest : drop v.to v.column.handles ≡ back = rw (to, handles) (sym (drop-drop (length rows) m.position (front ++ (rows ++ back))) ∙ ap (drop (length rows)) one.1 ∙ two.1) in
      let before : IsBefore cells (reverse low) v = record {
        order = omega (arith, from, to);
        within = omega (arith, to, ap length handles, length-append front (rows ++ back), length-append rows back, short);
        falls = falls_reverse low cutting.rising_low;
        under = rw from (All-reversed (λ n. n.position ≤ m.position) low cutting.before);
        read = read;
        remembers = remembers;
        counted = omega (arith, moved, intact.counted.moved);
      } in
      let done = through cells (length rows) last (reverse low) (reverse low') v w (omega (arith, from, to)) before raises in
      let down = sifted_down-is (key_at cells) low front rows cutting.rising_low in
      let column = rw (stood_is, came_is, rest) at done.handles_are in
      let marks : reverse low' ≡ reverse (map (risen (key_at cells) rows) low) = (rw came_is at done.marks_are) ∙ map-reversed (risen (key_at cells) rows) low in
      let moves = rw (stood_is, came_is) at done.moved_is in
      record {
        column_is = column ∙ ap (λ hs. hs ++ back) down.0;
        marks_are = sym (reverse-reverse low') ∙ ap reverse marks ∙ reverse-reverse (map (risen (key_at cells) rows) low);
        moved_is = moves ∙ rw (moved, down.1) refl;
        remembers = done.remembers;
      }

  -- this is the result of the carries
  pub record IsCarried (u : State) : Type 0 where
    pub carried : SameButRoom (carried_in_bulk (Some m.bound.0) r s) u
    pub kept : IsKept s u

  pub carried : (u : State) (first : ℕ) → Finds r (keys_at s.cells s.pending_in) 0 (Some first) → SameButRoom (carried_under r s low m high) u → IsCarried u
  carried u first found room =
      let done : SameButRoom (carried_in_bulk (Some m.bound.0) r s) u = rw (carried-under r s low m high intact goes) room in
      record { carried = done; kept = IsKept-in_bulk (Some m.bound.0) r s u first (λ n inside. lt-leb m.bound.0 n (omega (arith, inside.1, top))) intact found done }

-- room for them was made before
pub carried-room : (r : Range) (s : State) (edge : Mark) → IsIntact s [] → Contains s.marks edge → s.pending_out ≡ [] → r.high ≤ edge.bound.0 → (t u : State) → SameButRoom s t → SameButRoom (carried_in_bulk (Some edge.bound.0) r t) u → SameButRoom (carried_in_bulk (Some edge.bound.0) r s) u
carried-room r s edge intact there none top t u made room =
    let low : List Mark = take there.0 s.marks in
    let high : List Mark = drop (suc there.0) s.marks in
    let is : s.marks ≡ low ++ edge ∷ high = around s.marks there.0 edge there.1 ∙ ap (λ m. low ++ m ∷ high) there.2 in
    let more : State = record s { column_room = t.column_room; in_room = t.in_room } in
    let intact_more = IsIntact-room s more [] (record { same = refl }) intact in
    let now : SameButRoom (carried_in_bulk (Some edge.bound.0) r more) u = rw made.same at room in
    let same = carried-under r more low edge high intact_more (goes r more low edge high intact_more is none top) in
    let under_more : SameButRoom (carried_under r more low edge high) u = rw same at now in
    rw (carried-under r s low edge high intact (goes r s low edge high intact is none top)) (record { same = under_more.same })

-- a list of length 0
pub none_left : (hs : List Handle) → length hs ≡ 0 → hs ≡ []
none_left [] none = refl
none_left (h ∷ hs) none = absurd (omega (arith, none))

-- a store with more room has the invariant, too
pub KeepsIntact-roomier : (p : Inside) (column : Column) (pending : Pending) → KeepsIntact p [] → column ≡ record p.column { room = column.room } → pending ≡ record p.pending_in { room = pending.room } → p.pending_in.room ≤ pending.room → KeepsIntact (record p { column = column; pending_in = pending }) []
KeepsIntact-roomier p column pending kept column_is pending_is more =
    let q : Inside = record p { column = column; pending_in = pending } in
    let same : SameButRoom (lists_of p) (lists_of q) = record { same = rw (column_is, pending_is) refl } in
    record {
      intact = IsIntact-room (lists_of p) (lists_of q) [] same kept.intact;
      remembers = rw column_is kept.remembers;
      keys_in = rw pending_is kept.keys_in;
      keys_out = kept.keys_out;
      room = omega (arith, kept.room, more);
      covered = rw pending_is kept.covered;
    }
