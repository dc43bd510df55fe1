-- Laws of rows that are taken a batch of candidates at a time.
use Rattle.std.proofs.Common.{◌≡◌, ℕ, ◌+◌, ◌<◌, ◌≤◌, Bool, false, true, List, [], ◌∷◌, ◌++◌, length, get_or, set, refl, sym, ap, ◌∙◌, inl, inr, arith, length-set}
use Rattle.std.proofs.lemmas.Bool.{cases_lt, true≢false}
use Rattle.std.proofs.lemmas.List.{append_assoc}
use Rattle.crack_row.specs.Ranges.{Range, IsIn, is_in}
use Rattle.crack_row.specs.declared.Row.{Row}
use Rattle.crack_arena.specs.Arena.{Cell, Handle, times, no_handle}
use Rattle.crack_arena.specs.Rows.{key_at, unknown}
use Rattle.crack_arena.specs.Memories.{Memory, nothing, Remembers}
use Rattle.crack_arena.proofs.Remembering.{Remembers-append}
use Rattle.crack_pending.proofs.Remembering.{Remembers-remove}
use Rattle.crack_pending.specs.Ahead.{AreCandidates, IsAmong}
use Rattle.crack_pending.specs.Codes.{Coding, AreCoded, IsWindow}
use Rattle.crack_pending.specs.Inside.{Lies, KeysAreKnown, KnowRows, IsMissed}
use Rattle.crack_pending.specs.Keeps.{HasRow, place_at, keys_of}
use Rattle.crack_pending.specs.Passed.{IsPassed}
use Rattle.crack_pending.specs.Pending.{rows_inside}
use Rattle.crack_pending.specs.Spots.{kept}
use Rattle.crack_pending.proofs.Coded.{coded_hole, missed_code}
use Rattle.crack_pending.proofs.Kept.{Stands-within, kept-hole, place_at-hole_before}
use Rattle.crack_pending.proofs.Searches.{is_in-true, is_in-false}
use Rattle.crack_pending.proofs.Taken.{stood, inside-hole, outside-hole}
use Rattle.crack_pending.proofs.Unknown.{counted_hole}
use Rattle.crack_pending.proofs.Views.{place-within, KnowRows-kept}

module _ (remembered : List Memory) (stands : List Bool) (coding : Coding) (coded : AreCoded remembered stands coding) (range : Range) (cells : List (Cell Row)) (handles : List Handle) (first last beyond : ℕ) (w : IsWindow coding.base coding.shift range first last beyond) (known : KnowRows cells handles remembered stands) (all : KeysAreKnown remembered stands) (from to : ℕ) (candidates : List ℕ) (ahead : AreCandidates coding.codes first last from to candidates 0) (before : IsMissed range cells handles stands 0 from) where
  -- no row up to a spot is in the range, if none of the candidates before it still is
  pub missed_ahead : (stands' : List Bool) → ((spot : ℕ) → HasRow stands' spot → HasRow stands spot) → (k : ℕ) → ((j : ℕ) → j < k → HasRow stands' (get_or candidates j 0) → ¬ IsIn range (key_at cells (get_or handles (get_or candidates j 0) no_handle))) → (limit : ℕ) → limit ≤ to → ((j : ℕ) → k ≤ j → j < length candidates → limit ≤ get_or candidates j 0) → IsMissed range cells handles stands' 0 limit
  missed_ahead stands' still k done limit within others spot after less at = elim (cases_lt spot from) [
    | inl l ↦ before spot (omega arith) l (still spot at)
    | inr m ↦ elim (cases_lt (get_or coding.codes spot 0) first) [
      | inl low ↦ out (λ lies. omega (arith, low, lies.0))
      | inr high ↦ elim (cases_lt last (get_or coding.codes spot 0)) [
        | inl over ↦ out (λ lies. omega (arith, over, lies.1))
        | inr under ↦ among (ahead.found spot m (omega (arith, less, within)) (high, under))
      ]
    ]
  ]
    where
      out : ¬ Lies first last (get_or coding.codes spot 0) → ¬ IsIn range (key_at cells (get_or handles spot no_handle))
      out apart = missed_code remembered stands coding coded range cells handles first last beyond w known false (λ e. all) spot (omega (arith, less, within, ahead.within)) (still spot at) apart (λ e. absurd (true≢false (sym e)))

      among : IsAmong candidates 0 spot → ¬ IsIn range (key_at cells (get_or handles spot no_handle))
      among one = elim (cases_lt one.place k) [
        | inl l ↦ rw one.is at (done one.place l (rw one.is at))
        | inr m ↦ absurd (omega (arith, others one.place m one.within, one.is, less))
      ]

  -- of the candidates from one on, that one is the lowest
  pub lowest : (k : ℕ) → k < length candidates → (j : ℕ) → k ≤ j → j < length candidates → get_or candidates k 0 ≤ get_or candidates j 0
  lowest k here j order there = elim (cases_lt k j) [
    | inl l ↦ omega (arith, ahead.rising k j l there)
    | inr m ↦
        let same : k ≡ j = omega (arith, m, order) in
        rw same (omega arith)
  ]

module _ (cells : List (Cell Row)) (range : Range) (handles : List Handle) (remembered : List Memory) where
  -- nothing was passed
  pub IsPassed-none : (stands : List Bool) (codes : Coding) (came : List Handle) (known : List Memory) (unknowns : ℕ) → Remembers cells came known → Remembers cells (kept stands handles) (kept stands remembered) → unknowns ≡ times unknown (keys_of (kept stands remembered)) → AreCoded remembered stands codes → IsPassed cells range handles remembered stands stands codes came came known 0 0 unknowns
  IsPassed-none stands codes came known unknowns gone right are coded = record {
    within = omega arith;
    missed = λ spot after before. absurd (omega (arith, before));
    taken_are = refl;
    outside = refl;
    gone_are = gone;
    known = right;
    unknowns_are = are;
    coded = coded;
    stood = λ spot there. there;
    long = refl;
    counted = omega arith;
  }

  -- the pass goes on
  pub IsPassed-on : (before middle after : List Bool) (codes codes' : Coding) (came taken taken' : List Handle) (known known' : List Memory) (start start' count count' unknowns unknowns' : ℕ) → IsPassed cells range handles remembered before middle codes came taken known start count unknowns → IsPassed cells range handles remembered middle after codes' taken taken' known' start' count' unknowns' → IsPassed cells range handles remembered before after codes' came taken' known' start' (count + count') unknowns'
  IsPassed-on before middle after codes codes' came taken taken' known known' start start' count count' unknowns unknowns' one two = record {
    within = two.within;
    missed = two.missed;
    taken_are = two.taken_are ∙ one.taken_are;
    outside = two.outside ∙ one.outside;
    gone_are = two.gone_are;
    known = two.known;
    unknowns_are = two.unknowns_are;
    coded = two.coded;
    stood = λ spot there. one.stood spot (two.stood spot there);
    long = two.long ∙ one.long;
    counted = omega (arith, one.counted, two.counted);
  }

  -- the pass has come further, and none of those passed since is in the range
  pub IsPassed-to : (before after : List Bool) (codes : Coding) (came taken : List Handle) (known : List Memory) (start start' count unknowns : ℕ) → IsPassed cells range handles remembered before after codes came taken known start count unknowns → start' ≤ length handles → IsMissed range cells handles after 0 start' → IsPassed cells range handles remembered before after codes came taken known start' count unknowns
  IsPassed-to before after codes came taken known start start' count unknowns one within missed = record {
    within = within;
    missed = missed;
    taken_are = one.taken_are;
    outside = one.outside;
    gone_are = one.gone_are;
    known = one.known;
    unknowns_are = one.unknowns_are;
    coded = one.coded;
    stood = one.stood;
    long = one.long;
    counted = one.counted;
  }

  module _ (before stands : List Bool) (codes : Coding) (came taken : List Handle) (known : List Memory) (start count spot : ℕ) (one : IsPassed cells range handles remembered before stands codes came taken known start count 0) (beside : length before ≡ length handles) (remembered_beside : length remembered ≡ length handles) (at : HasRow stands spot) (holds : IsIn range (key_at cells (get_or handles spot no_handle))) (missed : IsMissed range cells handles stands 0 spot) where
    long : length stands ≡ length handles
    long = omega (arith, one.long, beside)

    is : is_in range (key_at cells (get_or handles spot no_handle)) ≡ true
    is = is_in-true range (key_at cells (get_or handles spot no_handle)) holds

    pub inside_is : rows_inside cells range (kept stands handles) ≡ get_or handles spot no_handle ∷ rows_inside cells range (kept (set stands spot false) handles)
    inside_is = inside-hole (λ h. is_in range (key_at cells h)) stands handles spot no_handle long at is (λ k less there. is_in-false range (key_at cells (get_or handles k no_handle)) (missed k (omega arith) less there))

    -- a row is taken
    pub IsPassed-taken : IsPassed cells range handles remembered before (set stands spot false) (record codes { codes = set codes.codes spot 65535 }) came (taken ++ get_or handles spot no_handle ∷ []) (known ++ get_or remembered spot nothing ∷ []) start (count + 1) 0
    IsPassed-taken =
        let h = get_or handles spot no_handle in
        let left = kept (set stands spot false) handles in
        let hole = kept-hole stands handles spot long at in
        let key_hole = kept-hole stands remembered spot (omega (arith, long, remembered_beside)) at in
        record {
          within = one.within;
          missed = λ k after less there. one.missed k after less (stood stands spot k at there).1;
          taken_are = append_assoc taken (h ∷ []) (rows_inside cells range left) ∙ ap (λ xs. taken ++ xs) (sym inside_is) ∙ one.taken_are;
          outside = outside-hole (λ g. is_in range (key_at cells g)) stands handles spot no_handle long at is ∙ one.outside;
          gone_are = Remembers-append cells taken known h (get_or remembered spot nothing) (KnowRows-kept cells handles remembered stands long remembered_beside one.known spot at) one.gone_are;
          known = rw (hole, key_hole) (Remembers-remove cells (kept stands handles) (kept stands remembered) (place_at stands spot) (place-within handles stands long spot at) one.known);
          unknowns_are = omega (arith, counted_hole remembered stands (omega (arith, long, remembered_beside)) spot at, one.unknowns_are);
          coded = coded_hole remembered stands codes one.coded spot at;
          stood = λ k there. one.stood k (stood stands spot k at there).1;
          long = length-set stands spot false ∙ one.long;
          counted = rw (length-set stands spot false) (omega (arith, place_at-hole_before stands spot (length stands) at (Stands-within stands spot at), one.counted));
        }
