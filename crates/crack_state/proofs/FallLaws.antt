-- How far bounds fall by the pulls of a range, and that each doomed row can be buried in its turn.
use Rattle.std.proofs.Common.{◌≡◌, ℕ, ◌+◌, ◌-◌, ◌<◌, ◌≤◌, cond, nat_lt, true, false, List, [], ◌∷◌, ◌++◌, map, length, get_or, set, None, refl, sym, ap, ◌∙◌, inl, inr, arith}
use Rattle.std.specs.List.{All, remove}
use Rattle.std.proofs.lemmas.Bool.{cases_lt, lt-ltb, le-ltb}
use Rattle.std.proofs.lemmas.List.{append_assoc, length-append, length-map, length-set, length-take-le, get_or-map, get_or_at}
use Rattle.std.proofs.lemmas.List.Elements.{All-head, All-tail, All-filter}
use Rattle.crack_row.specs.Ranges.{Range, is_in}
use Rattle.crack_row.specs.declared.Row.{Row}
use Rattle.crack_arena.specs.declared.TheConstants.{MOST_FREED}
use Rattle.crack_arena.specs.Arena.{Cell, Handle, no_handle, times, slots, place_in}
use Rattle.crack_arena.specs.Rows.{key_at}
use Rattle.crack_arena.proofs.Times.{times_map_at}
use Rattle.crack_index.specs.declared.mark.Mark.{Mark}
use Rattle.crack_pending.proofs.Searches.{is_in-true, is_in-false}
use Rattle.crack_state.specs.State.{State, Carried, IsIntact, Reads, freed_of}
use Rattle.crack_state.specs.Steps.{lifted_last, pulled_back}
use Rattle.crack_state.proofs.BuryLaws.{freed-doomed}
use Rattle.crack_state.proofs.DrawLaws.{column_some}
use Rattle.crack_state.specs.Pieces.{column_of}
use Rattle.crack_state.specs.Carried.{pieces_of, inside_of}
use Rattle.crack_state.specs.Pulled.{pulled_from, pulled_in_bulk}
use Rattle.crack_state.proofs.AllCarriedLaws.{All-right, inside_or, keys_same}
use Rattle.crack_state.proofs.AllPulledLaws.{pulled_from-first, pulled_from-none, step}
use Rattle.crack_state.proofs.CutLaws.{IsCut-intact}
use Rattle.crack_state.proofs.Draws.{Draws, reaches, exchanges, draws, fallen}
use Rattle.crack_state.proofs.DoomedPullLaws.{IsOnlyAt-doomed, Draws-at}
use Rattle.crack_state.proofs.DrawDownLaws.{IsOnlyAt}
use Rattle.crack_state.proofs.PulledLaws.{marks_of-pulled}

-- how many of the rows are below a bound
abbrev pub count_under : (Handle → ℕ) → ℕ → List Handle → ℕ
count_under key bound [] = 0
count_under key bound (h ∷ hs) = cond (nat_lt (key h) bound) 1 0 + count_under key bound hs

-- a bound falls by as many as are below it
abbrev pub fallen_by : (Handle → ℕ) → List Handle → Mark → Mark
fallen_by key hs m = record m { position = m.position - count_under key m.bound.0 hs }

-- each of these rows is a pending deletion and reads a row when those before it are buried, and its cell may be freed
abbrev pub AreBuried : List Handle → List (Cell Row) → List Handle → Type 0
AreBuried [] cells out = Unit {0}
AreBuried (h ∷ hs) cells out =
    Reads cells h × (freed_of cells < MOST_FREED) × (0 < times h.slot (slots out)) × AreBuried hs (set cells h.slot (record { generation = h.generation + 1; value = None })) (remove out (place_in out h.slot))

-- the bounds and the column's length after the pulls of these rows
pub record AreCounted (hs : List Handle) (s t : State) : Type 0 where
  pub marks : t.marks ≡ map (fallen_by (key_at s.cells) hs) s.marks
  pub few : All (λ m. count_under (key_at s.cells) m.bound.0 hs ≤ m.position) s.marks
  pub long : length t.column + length hs ≡ length s.column
  pub buried : AreBuried hs s.cells s.pending_out

pub count-agree : (key key' : Handle → ℕ) (bound : ℕ) (hs : List Handle) → All (λ h. key h ≡ key' h) hs → count_under key bound hs ≡ count_under key' bound hs
count-agree key key' bound [] same = refl
count-agree key key' bound (h ∷ hs) same = rw (All-head (λ g. key g ≡ key' g) h hs same, count-agree key key' bound hs (All-tail (λ g. key g ≡ key' g) h hs same)) refl

pub none-fall : (key : Handle → ℕ) (ms : List Mark) → map (fallen_by key []) ms ≡ ms
none-fall key [] = refl
none-fall key (m ∷ ms) =
    let same : m.position - 0 ≡ m.position = omega arith in
    rw (same, none-fall key ms) refl

pub both-fall : (key key' : Handle → ℕ) (h : Handle) (hs : List Handle) (ms : List Mark) → All (λ g. key' g ≡ key g) hs → map (fallen_by key' hs) (map (fallen (key h)) ms) ≡ map (fallen_by key (h ∷ hs)) ms
both-fall key key' h hs [] same = refl
both-fall key key' h hs (m ∷ ms) same =
    let count = count-agree key' key m.bound.0 hs same in
    let here : cond (nat_lt (key h) m.bound.0) (m.position - 1) m.position - count_under key' m.bound.0 hs ≡ m.position - (cond (nat_lt (key h) m.bound.0) 1 0 + count_under key m.bound.0 hs) = elim (cases_lt (key h) m.bound.0) [
      | inl l ↦ rw (lt-ltb (key h) m.bound.0 l) (omega (arith, count))
      | inr l ↦ rw (le-ltb (key h) m.bound.0 l) (omega (arith, count))
    ] in
    rw (here, both-fall key key' h hs ms same) refl

pub length-Draws : (d : Handle) (c : Carried) (t : State) → Draws d c t → length t.column ≡ length c.store.column
length-Draws d c t (reaches e is) = refl
length-Draws d c t (exchanges e j other at from to) = length-set e.store.column j e.hand
length-Draws d c t (draws e j u other at before rest) = length-Draws d (pulled_back e) u rest ∙ length-set e.store.column _ e.hand

module _ (place : ℕ) (s : State) (within : place < length s.pending_out) (intact : IsIntact s []) where
  abbrev d : Handle
  d = get_or s.pending_out place no_handle

  abbrev key : Handle → ℕ
  key = key_at s.cells

  at : IsOnlyAt d s.column (place_in s.column d.slot)
  at = IsOnlyAt-doomed place s within intact

  marks-one : (pulled_from (d ∷ []) s).marks ≡ map (fallen (key d)) s.marks
  marks-one =
      let cuts = IsCut-intact s [] intact in
      let i : ℕ = place_in s.column d.slot in
      let inside : i < length (column_of (pieces_of s)) = omega (arith, ap length cuts.column, at.within) in
      let same : key (get_or (column_of (pieces_of s)) i no_handle) ≡ key d = ap (λ hs. key (get_or hs i no_handle)) (sym cuts.column) ∙ ap key at.is in
      marks_of-pulled key d 0 0 i (pieces_of s) (omega arith) inside same cuts.divided ∙ ap (map (fallen (key d))) (sym cuts.marks)

  -- bounds above it are after it
  pub some-below : All (λ m. key d < m.bound.0 → 1 ≤ m.position) s.marks
  some-below = λ k e h under.
      let one = intact.obeyed k e h in
      let i : ℕ = place_in s.column d.slot in
      let long = length-map s.column key in
      elim (cases_lt i (get_or s.marks k e).position) [
        | inl l ↦ omega (arith, l)
        | inr l ↦
            let over = one.above i l (omega (arith, at.within, long)) in
            let read : get_or (map key s.column) i 0 ≡ key d = get_or-map key s.column i no_handle 0 at.within ∙ ap key at.is in
            absurd (omega (arith, over, read, under))
      ]

  long-one : length (pulled_from (d ∷ []) s).column + 1 ≡ length s.column
  long-one =
      let some = column_some s (omega (arith, within)) intact in
      omega (arith, length-Draws d (lifted_last s) (pulled_from (d ∷ []) s) (Draws-at place s within intact), length-take-le (length s.column - 1) s.column (omega arith), some)

module _ (r : Range) where
  on_all : (from place : ℕ) (t v : State) → Unit {0} → Unit {0}
  on_all from place t v one = tt

  counted_on : (todo : List Handle) (t : State) (passed : List Handle) → IsIntact t [] → t.pending_out ≡ passed ++ todo → AreCounted (inside_of t.cells r todo) t (pulled_from (inside_of t.cells r todo) t)
  counted_on [] t passed intact pending = record {
    marks = ap (λ (x : State). x.marks) (pulled_from-none t intact) ∙ sym (none-fall (key_at t.cells) t.marks);
    few = λ k e h. omega arith;
    long = omega (arith, ap (λ (x : State). length x.column) (pulled_from-none t intact));
    buried = tt;
  }
  counted_on (h ∷ todo) t passed intact pending = elim (inside_or r (key_at t.cells h)) [
    | inl inside ↦
        let key = key_at t.cells in
        let is : is_in r (key h) ≡ true = is_in-true r (key h) inside in
        let one = step r (λ from x. Unit {0}) (λ from place x v now whole found led. tt) h todo t (length passed) passed intact pending (omega arith) (λ k e f l. absurd (omega (arith, f, l))) tt inside in
        let v = pulled_from (h ∷ []) t in
        let ds : List Handle = inside_of t.cells r todo in
        let same_todo : All (λ g. key_at v.cells g ≡ key g) todo = All-right (λ g. key_at v.cells g ≡ key g) passed todo one.same in
        let kept = keys_same r t.cells v.cells todo same_todo in
        let same_in : All (λ g. key_at v.cells g ≡ key g) ds = All-filter (λ g. is_in r (key g)) (λ g. key_at v.cells g ≡ key g) todo same_todo in
        let rest : AreCounted ds v (pulled_from ds v) = rw kept.0 at (counted_on todo v passed one.intact one.pending) in
        let first = pulled_from-first h ds t same_in in
        let place : ℕ = length passed in
        let within : place < length t.pending_out = rw pending (omega (arith, length-append passed (h ∷ todo))) in
        let here : get_or t.pending_out place no_handle ≡ h = rw pending (get_or_at passed h todo no_handle place refl) in
        let falls : v.marks ≡ map (fallen (key h)) t.marks = rw here at (marks-one place t within intact) in
        let behind : All (λ m. key h < m.bound.0 → 1 ≤ m.position) t.marks = rw here at (some-below place t within intact) in
        let shorter : length v.column + 1 ≡ length t.column = rw here at (long-one place t within intact) in
        rw is (record {
          marks = ap (λ (x : State). x.marks) (sym first) ∙ rest.marks ∙ ap (map (fallen_by (key_at v.cells) ds)) falls ∙ both-fall key (key_at v.cells) h ds t.marks same_in;
          few = λ k e l.
              let m : Mark = get_or t.marks k e in
              let long : length v.marks ≡ length t.marks = ap length falls ∙ length-map t.marks (fallen (key h)) in
              let there : get_or v.marks k (fallen (key h) e) ≡ fallen (key h) m = ap (λ ms. get_or ms k (fallen (key h) e)) falls ∙ get_or-map (fallen (key h)) t.marks k e (fallen (key h) e) l in
              let less = rw there at (rest.few k (fallen (key h) e) (omega (arith, l, long))) in
              let count = count-agree (key_at v.cells) key m.bound.0 ds same_in in
              elim (cases_lt (key h) m.bound.0) [
                | inl under ↦ rw (lt-ltb (key h) m.bound.0 under) (omega (arith, rw (lt-ltb (key h) m.bound.0 under) at less, count, behind k e l under))
                | inr over ↦ rw (le-ltb (key h) m.bound.0 over) (omega (arith, rw (le-ltb (key h) m.bound.0 over) at less, count))
              ];
          long = omega (arith, ap (λ (x : State). length x.column) first, rest.long, shorter);
          buried = (rw here at (intact.owned.doomed_reads place no_handle within), freed-doomed t [] (omega (arith, within)) intact, times_map_at h.slot (λ (g : Handle). g.slot) t.pending_out place no_handle within (ap (λ (g : Handle). g.slot) here), rest.buried);
        })
    | inr beyond ↦
        let not_in : is_in r (key_at t.cells h) ≡ false = is_in-false r (key_at t.cells h) beyond in
        rw not_in (counted_on todo t (passed ++ h ∷ []) intact (pending ∙ sym (append_assoc passed (h ∷ []) todo)))
  ]

  pub AreCounted-in_bulk : (s : State) → IsIntact s [] → AreCounted (inside_of s.cells r s.pending_out) s (pulled_in_bulk r s)
  AreCounted-in_bulk s intact = counted_on s.pending_out s [] intact refl
