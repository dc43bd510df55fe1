-- The steps between the free cells.
use Rattle.std.proofs.Common.{◌≡◌, ◌≢◌, ℕ, zero, suc, ◌+◌, ◌-◌, ◌%◌, ◌<◌, ◌≤◌, Bool, true, false, List, [], ◌∷◌, ◌++◌, length, get_or, set, cond, ltb, eqb, Option, Some, None, is_some, count_by, refl, sym, ap, ◌∙◌, inl, inr, arith, length-set, add-one}
use Rattle.std.specs.Prelude.{is_none, not}
use Rattle.std.proofs.lemmas.List.{get_or_default, get_or-set_same, get_or-set_other, get_or_past, length-map, get_or-map, map-set, map-append}
use Rattle.std.proofs.lemmas.List.Sums.{sum_by-cons, sum_by-set}
use Rattle.std.proofs.lemmas.Bool.{cases_eq, cases_lt, lt-ltb, le-ltb, ltb-true, eqb-true, ne_eqb, true≢false}
use Rattle.crack_arena.specs.declared.TheConstants.{MOST_CELLS}
use Rattle.crack_arena.specs.Arena.{times, Handle, no_handle, empty_cell, cell_at, handle_for, value_put, set_at, freed_at, read, vacancy_at, IsWholeArena}
use Rattle.crack_arena.proofs.Times.{times-nil, times-cons, times_one, times_other, times_head, times_apart}
use Rattle.crack_arena.specs.declared.cells.Cell.{Cell as Stored}
use Rattle.crack_arena.specs.Links.{is_taken_word, next_after, chain, cell_of, cells_of, words_of}
use Rattle.crack_arena.specs.Keeps.{is_vacant, vacancy, vacant_at, IsLinked}

next_after-set_other : (words : List Handle) (k m : ℕ) (w : Handle) → m ≢ k → next_after (set words k w) m ≡ next_after words m
next_after-set_other words k m w ne = ap (λ (x : Handle). (m + 1 + x.slot) % 16777216) (get_or-set_other words k m w no_handle ne)

pub next_after-set_same : (words : List Handle) (k : ℕ) (w : Handle) → k < length words → next_after (set words k w) k ≡ (k + 1 + w.slot) % 16777216
next_after-set_same words k w within = ap (λ (x : Handle). (k + 1 + x.slot) % 16777216) (get_or-set_same words k w no_handle within)

-- a write off the chain leaves the chain
pub chain-set : (words : List Handle) (k : ℕ) (w : Handle) (head n : ℕ) → times k (chain words head n) ≡ 0 → chain (set words k w) head n ≡ chain words head n
chain-set words k w head zero off = refl
chain-set words k w head (suc n) off =
    let apart = times_apart k head (chain words (next_after words head) n) off in
    rw (next_after-set_other words k head w apart.0) (ap (λ ks. head ∷ ks) (chain-set words k w (next_after words head) n apart.1))

pub length-chain : (words : List Handle) (head n : ℕ) → length (chain words head n) ≡ n
length-chain words head zero = refl
length-chain words head (suc n) = ap suc (length-chain words (next_after words head) n)

vacant_at_other : (words : List Handle) (k m : ℕ) (w : Handle) → m ≢ k → vacant_at (set words k w) m ≡ vacant_at words m
vacant_at_other words k m w ne = rw (length-set words k w, get_or-set_other words k m w no_handle ne) refl

vacant_at_same : (words : List Handle) (k : ℕ) (w : Handle) → k < length words → vacant_at (set words k w) k ≡ vacancy w
vacant_at_same words k w inside = rw (length-set words k w, get_or-set_same words k w no_handle inside, lt-ltb k (length words) inside) refl

pub record IsVacantAt (words : List Handle) (k : ℕ) : Type 0 where
  pub within : k < length words
  pub vacant : is_vacant (get_or words k no_handle) ≡ true

vacant_from_one : (words : List Handle) (k : ℕ) → 0 < vacant_at words k → IsVacantAt words k
vacant_from_one words k one = by_test (ltb k (length words)) refl (is_vacant (get_or words k no_handle)) refl one
  where
    by_test : (t : Bool) → ltb k (length words) ≡ t → (u : Bool) → is_vacant (get_or words k no_handle) ≡ u → 0 < cond t (cond u 1 0) 0 → IsVacantAt words k
    by_test true within true vacant h = record { within = ltb-true k (length words) within; vacant = vacant }
    by_test true within false vacant h = absurd (omega arith)
    by_test false within u vacant h = absurd (omega arith)

vacant_at-le : (words : List Handle) (k : ℕ) → vacant_at words k ≤ 1
vacant_at-le words k = by_test (ltb k (length words)) (is_vacant (get_or words k no_handle))
  where
    by_test : (t u : Bool) → cond t (cond u 1 0) 0 ≤ 1
    by_test true true = omega arith
    by_test true false = omega arith
    by_test false u = omega arith

-- the head is a vacant cell, and the rest of the chain doesn't have it again
pub record Head (words : List Handle) (k n : ℕ) : Type 0 where
  pub cell : IsVacantAt words k
  pub apart : times k (chain words (next_after words k) n) ≡ 0

IsLinked-head : (words : List Handle) (k n freed : ℕ) → IsLinked words k (suc n) freed → Head words k n
IsLinked-head words k n freed sound =
    let ks = chain words (next_after words k) n in
    record {
      cell = vacant_from_one words k (omega (arith, sound.once k, times_head k ks));
      apart = omega (arith, sound.once k, times_head k ks, vacant_at-le words k);
    }

pub head_is_vacant : (words : List Handle) (k free freed : ℕ) → 0 < free → IsLinked words k free freed → IsVacantAt words k
head_is_vacant words k zero freed some sound = absurd (omega (arith, some))
head_is_vacant words k (suc n) freed some sound = (IsLinked-head words k n freed sound).cell

-- the first free cell is filled
pub IsLinked-fill : (words : List Handle) (k free freed : ℕ) (w : Handle) → 0 < free → is_taken_word w ≡ true → w.generation ≡ (get_or words k no_handle).generation → IsLinked words k free freed → IsLinked (set words k w) (next_after words k) (free - 1) freed
IsLinked-fill words k zero freed w some full same sound = absurd (omega (arith, some))
IsLinked-fill words k (suc n) freed w some full same sound =
    let head = IsLinked-head words k n freed sound in
    let ks = chain words (next_after words k) n in
    let kept : chain (set words k w) (next_after words k) n ≡ ks = chain-set words k w (next_after words k) n head.apart in
    let shorter : suc n - 1 ≡ n = omega arith in
    let counts : count_by is_vacant (set words k w) + 1 ≡ count_by is_vacant words =
    let counted = sum_by-set vacancy words k w no_handle head.cell.within in
    let old : vacancy (get_or words k no_handle) ≡ 1 = rw (head.cell.vacant) refl in
    let new : vacancy w ≡ 0 = rw (full) refl in
    omega (arith, counted, old, new) in
    rw shorter (record {
      once = λ m. rw kept (elim (cases_eq m k) [
        | inl e ↦
            let zero_at : vacant_at (set words k w) k ≡ 0 = vacant_at_same words k w head.cell.within ∙ rw (full) refl in
            rw e (head.apart ∙ sym zero_at)
        | inr ne ↦ omega (arith, sound.once m, vacant_at_other words k m w ne, times-cons m k ks, times_other m k (λ e. ne (sym e)), times_one m k)
      ]);
      counted = omega (arith, sound.counted, counts);
      total = omega (arith, sound.total, same, sum_by-set (λ (x : Handle). x.generation) words k w no_handle head.cell.within);
      small = omega (arith, sound.small, length-set words k w);
    })

-- a full cell is not the head
pub head_is_other : (words : List Handle) (k head free freed : ℕ) → k < length words → is_taken_word (get_or words k no_handle) ≡ true → IsLinked words head free freed → 0 < free → (head < 16777216) × (head ≢ k)
head_is_other words k head free freed within full sound some =
    let first = head_is_vacant words head free freed some sound in (
      omega (arith, first.within, sound.small),
      λ e. let vacant : is_vacant (get_or words k no_handle) ≡ true = rw e at first.vacant in true≢false (sym vacant ∙ ap not full),
    )

-- the chain goes on from a freed cell as it went from the head
pub chain_after : (words : List Handle) (w : Handle) (head k free : ℕ) → k < length words → times k (chain words head free) ≡ 0 → (0 < free → (k + 1 + w.slot) % 16777216 ≡ head) → chain (set words k w) (next_after (set words k w) k) free ≡ chain words head free
chain_after words w head k zero within apart leads = refl
chain_after words w head k (suc n) within apart leads =
    let next : next_after (set words k w) k ≡ head = next_after-set_same words k w within ∙ leads (omega arith) in
    rw next (chain-set words k w head (suc n) apart)

-- a full cell is off the chain
pub full_is_off : (words : List Handle) (head k free freed : ℕ) → k < length words → is_taken_word (get_or words k no_handle) ≡ true → IsLinked words head free freed → times k (chain words head free) ≡ 0
full_is_off words head k free freed within full sound =
    let none : vacant_at words k ≡ 0 = rw (lt-ltb k (length words) within, full) refl in
    sound.once k ∙ none

-- a full cell is freed
pub IsLinked-free : (words : List Handle) (head k free freed g next : ℕ) → k < length words → is_taken_word (get_or words k no_handle) ≡ true → (get_or words k no_handle).generation ≡ g → next < 16777215 → (0 < free → (k + 1 + next) % 16777216 ≡ head) → IsLinked words head free freed → IsLinked (set words k (record { slot = next; generation = g + 1 })) k (free + 1) (freed + 1)
IsLinked-free words head k free freed g next within full same few leads sound =
    let w : Handle = record { slot = next; generation = g + 1 } in
    let ks = chain words head free in
    let none : vacant_at words k ≡ 0 = rw (lt-ltb k (length words) within, full) refl in
    let apart : times k ks ≡ 0 = sound.once k ∙ none in
    let vacant : vacancy w ≡ 1 = rw (ne_eqb next 16777215 (λ e. absurd (omega (arith, e, few)))) refl in
    let kept : chain (set words k w) (next_after (set words k w) k) free ≡ ks = chain_after words w head k free within apart leads in
    let longer : free + 1 ≡ suc free = add-one free in
    rw longer (record {
      once = λ m. rw kept (elim (cases_eq m k) [
        | inl e ↦ rw e (times_head k ks ∙ rw (apart) (sym (vacant_at_same words k w within ∙ vacant)))
        | inr ne ↦ omega (arith, sound.once m, vacant_at_other words k m w ne, times-cons m k ks, times_other m k (λ e. ne (sym e)), times_one m k)
      ]);
      counted =
          let counted = sum_by-set vacancy words k w no_handle within in
          let old : vacancy (get_or words k no_handle) ≡ 0 = rw (full) refl in
          omega (arith, sound.counted, counted, old, vacant);
      total = omega (arith, sound.total, same, sum_by-set (λ (x : Handle). x.generation) words k w no_handle within);
      small = omega (arith, sound.small, length-set words k w);
    })

-- a full cell is given another value
pub IsLinked-write : (words : List Handle) (head k free freed : ℕ) (w : Handle) → k < length words → is_taken_word (get_or words k no_handle) ≡ true → is_taken_word w ≡ true → w.generation ≡ (get_or words k no_handle).generation → IsLinked words head free freed → IsLinked (set words k w) head free freed
IsLinked-write words head k free freed w within was full same sound =
    let ks = chain words head free in
    let apart : times k ks ≡ 0 = full_is_off words head k free freed within was sound in
    let kept : chain (set words k w) head free ≡ ks = chain-set words k w head free apart in
    record {
      once = λ m. rw kept (elim (cases_eq m k) [
        | inl e ↦
            let zero_at : vacant_at (set words k w) k ≡ 0 = vacant_at_same words k w within ∙ rw (full) refl in
            rw e (apart ∙ sym zero_at)
        | inr ne ↦ sound.once m ∙ sym (vacant_at_other words k m w ne)
      ]);
      counted =
          let counted = sum_by-set vacancy words k w no_handle within in
          let old : vacancy (get_or words k no_handle) ≡ 0 = rw (was) refl in
          let new : vacancy w ≡ 0 = rw (full) refl in
          omega (arith, sound.counted, counted, old, new);
      total = omega (arith, sound.total, same, sum_by-set (λ (x : Handle). x.generation) words k w no_handle within);
      small = omega (arith, sound.small, length-set words k w);
    }

IsLinked-nil : IsLinked [] 0 0 0
IsLinked-nil = record {
  once = λ n. times-nil n ∙ rw (le-ltb n 0 (omega arith)) refl;
  counted = refl;
  total = refl;
  small = omega arith;
}

module _ {T : Type 0} where
  pub length-words : (stored : List (Stored T)) → length (words_of stored) ≡ length stored
  length-words stored = length-map stored (λ (s : Stored T). s.word)

  -- no cells
  pub IsLinked-none : (stored : List (Stored T)) → stored ≡ [] → IsLinked (words_of stored) 0 0 0
  IsLinked-none stored none = rw none IsLinked-nil

  pub words-set : (stored : List (Stored T)) (k : ℕ) (s : Stored T) → words_of (set stored k s) ≡ set (words_of stored) k s.word
  words-set stored k s = map-set (λ (x : Stored T). x.word) stored k s

  pub words-push : (stored : List (Stored T)) (s : Stored T) → words_of (stored ++ s ∷ []) ≡ words_of stored ++ s.word ∷ []
  words-push stored s = map-append (λ (x : Stored T). x.word) stored (s ∷ [])

  -- a cell that was read has the word at its number
  pub word_read : (stored : List (Stored T)) (k : ℕ) (x : Stored T) → k < length stored → x ≡ get_or stored k x → get_or (words_of stored) k no_handle ≡ x.word
  word_read stored k x within found = get_or-map (λ (s : Stored T). s.word) stored k x no_handle within ∙ ap (λ (s : Stored T). s.word) (sym found)

  -- and is seen there
  pub cell_read : (stored : List (Stored T)) (k : ℕ) (x : Stored T) → k < length stored → x ≡ get_or stored k x → cell_at (cells_of stored) k ≡ cell_of x
  cell_read stored k x within found = get_or-map cell_of stored k x empty_cell within ∙ ap cell_of (sym found)

  pub cell_past : (stored : List (Stored T)) (k : ℕ) → length stored ≤ k → cell_at (cells_of stored) k ≡ empty_cell
  cell_past stored k past = get_or_past (cells_of stored) k empty_cell (omega (arith, past, length-map stored cell_of))

  pub room_to_push : (stored : List (Stored T)) (head free : ℕ) → free ≡ 0 → length (cells_of stored) < MOST_CELLS + length (chain (words_of stored) head free) → length stored < MOST_CELLS
  room_to_push stored head free none room =
      omega (arith, room, none, length-chain (words_of stored) head free, length-map stored cell_of)

  pub head_within : (stored : List (Stored T)) (k free freed : ℕ) → 0 < free → IsLinked (words_of stored) k free freed → (k < length stored) × (k < 16777216)
  head_within stored k free freed some sound =
      let first = head_is_vacant (words_of stored) k free freed some sound in
      (omega (arith, first.within, length-words stored), omega (arith, first.within, sound.small))

  pub handle_for_head : (stored : List (Stored T)) (k free freed : ℕ) (x : Stored T) → 0 < free → IsLinked (words_of stored) k free freed → x ≡ get_or stored k x → handle_for (cells_of stored) (chain (words_of stored) k free) ≡ record { slot = k; generation = x.word.generation }
  handle_for_head stored k zero freed x some sound found = absurd (omega (arith, some))
  handle_for_head stored k (suc n) freed x some sound found =
      let at = cell_read stored k x (head_within stored k (suc n) freed some sound).0 found in
      rw at refl

  pub vacant_head : (stored : List (Stored T)) (k free freed : ℕ) (x : Stored T) → 0 < free → IsLinked (words_of stored) k free freed → x ≡ get_or stored k x → (cell_at (cells_of stored) k).value ≡ None
  vacant_head stored k free freed x some sound found =
      let first = head_is_vacant (words_of stored) k free freed some sound in
      let within = (head_within stored k free freed some sound).0 in
      let vacant : is_vacant x.word ≡ true = rw (word_read stored k x within found) at first.vacant in
      rw (cell_read stored k x within found) (by_test (is_taken_word x.word) vacant)
    where
      by_test : (b : Bool) → not b ≡ true → cond b (Some x.value) None ≡ None
      by_test true e = absurd (true≢false (sym e))
      by_test false e = refl

  pub put_filled : (stored : List (Stored T)) (k free freed spare : ℕ) (x s : Stored T) (v : T) → 0 < free → IsLinked (words_of stored) k free freed → x ≡ get_or stored k x → s ≡ record { word = record { slot = 16777215; generation = x.word.generation }; value = v } → value_put v (record { cells = cells_of stored; free = chain (words_of stored) k free; room = free + spare }) ≡ record { cells = cells_of (set stored k s); free = chain (words_of (set stored k s)) ((k + 1 + x.word.slot) % 16777216) (free - 1); room = free - 1 + spare }
  put_filled stored k zero freed spare x s v some sound found is = absurd (omega (arith, some))
  put_filled stored k (suc n) freed spare x s v some sound found is =
      let words = words_of stored in
      let head = IsLinked-head words k n freed sound in
      let within = (head_within stored k (suc n) freed some sound).0 in
      let at = cell_read stored k x within found in
      let word = word_read stored k x within found in
      let kept : chain (set words k s.word) (next_after words k) n ≡ chain words (next_after words k) n = chain-set words k s.word (next_after words k) n head.apart in
      let next : (k + 1 + x.word.slot) % 16777216 ≡ next_after words k = ap (λ (w : Handle). (k + 1 + w.slot) % 16777216) (sym word) in
      let shorter : suc n - 1 ≡ n = omega arith in
      let less : suc n + spare - 1 ≡ n + spare = omega arith in
      rw (at, shorter, less, next, words-set stored k s, kept, map-set cell_of stored k s, is) refl

  -- a handle that reads a value names a full cell at its generation
  pub record IsFullAt (stored : List (Stored T)) (h : Handle) : Type 0 where
    pub within : h.slot < length stored
    pub inside : h.slot < length (words_of stored)
    pub full : is_taken_word (get_or (words_of stored) h.slot no_handle) ≡ true
    pub generation : (get_or (words_of stored) h.slot no_handle).generation ≡ h.generation

  pub full_from_read : (stored : List (Stored T)) (h : Handle) → is_some (read (cells_of stored) h) ≡ true → IsFullAt stored h
  full_from_read stored h reads = elim (cases_lt h.slot (length stored)) [
    | inl l ↦
        let word : get_or (words_of stored) h.slot no_handle ≡ (stored_at stored h.slot l).word = get_or-map (λ (s : Stored T). s.word) stored h.slot (stored_at stored h.slot l) no_handle l ∙ ap (λ (s : Stored T). s.word) (stored_is stored h.slot l) in
        let cell : cell_at (cells_of stored) h.slot ≡ cell_of (stored_at stored h.slot l) = get_or-map cell_of stored h.slot (stored_at stored h.slot l) empty_cell l ∙ ap cell_of (stored_is stored h.slot l) in
        by_cell l (stored_at stored h.slot l) word (rw cell at reads)
    | inr l ↦
        let found : is_some (cond (eqb 0 h.generation) (the_none) the_none) ≡ true = rw (cell_past stored h.slot l) at reads in
        absurd (nothing (eqb 0 h.generation) found)
  ]
    where
      nothing : (b : Bool) → is_some (cond {A = Option T} b None None) ≡ true → ⊥
      nothing true e = true≢false (sym e)
      nothing false e = true≢false (sym e)

      the_none : Option T
      the_none = None

      stored_at : (xs : List (Stored T)) (n : ℕ) → n < length xs → Stored T
      stored_at [] n less = absurd (omega (arith, less))
      stored_at (x ∷ xs) n less = get_or (x ∷ xs) n x

      stored_is : (xs : List (Stored T)) (n : ℕ) (less : n < length xs) → get_or xs n (stored_at xs n less) ≡ stored_at xs n less
      stored_is [] n less = absurd (omega (arith, less))
      stored_is (x ∷ xs) n less = get_or_default (x ∷ xs) n (get_or (x ∷ xs) n x) x less

      by_cell : h.slot < length stored → (x : Stored T) → get_or (words_of stored) h.slot no_handle ≡ x.word → is_some (cond (eqb x.word.generation h.generation) (cond (is_taken_word x.word) (Some x.value) None) None) ≡ true → IsFullAt stored h
      by_cell l x word found = by_tests (eqb x.word.generation h.generation) refl (is_taken_word x.word) refl found
        where
          by_tests : (b : Bool) → eqb x.word.generation h.generation ≡ b → (f : Bool) → is_taken_word x.word ≡ f → is_some (cond b (cond f (Some x.value) None) None) ≡ true → IsFullAt stored h
          by_tests true equal true full found = record {
            within = l;
            inside = omega (arith, l, length-words stored);
            full = ap is_taken_word word ∙ full;
            generation = ap (λ (w : Handle). w.generation) word ∙ eqb-true x.word.generation h.generation equal;
          }
          by_tests true equal false full found = absurd (true≢false (sym found))
          by_tests false equal f full found = absurd (true≢false (sym found))

  pub freed_view : (stored : List (Stored T)) (head k free freed spare g : ℕ) (s : Stored T) → k < length (words_of stored) → is_taken_word (get_or (words_of stored) k no_handle) ≡ true → s.word.generation ≡ g + 1 → s.word.slot < 16777215 → (0 < free → (k + 1 + s.word.slot) % 16777216 ≡ head) → IsLinked (words_of stored) head free freed → freed_at (record { slot = k; generation = g }) (record { cells = cells_of stored; free = chain (words_of stored) head free; room = free + spare }) ≡ record { cells = cells_of (set stored k s); free = chain (words_of (set stored k s)) k (free + 1); room = free + 1 + spare }
  freed_view stored head k free freed spare g s within full again few leads sound =
      let words = words_of stored in
      let apart : times k (chain words head free) ≡ 0 = full_is_off words head k free freed within full sound in
      let kept : chain (words_of (set stored k s)) (next_after (words_of (set stored k s)) k) free ≡ chain words head free = rw (words-set stored k s) (chain_after words s.word head k free within apart leads) in
      let longer : free + 1 ≡ suc free = add-one free in
      let more : free + spare + 1 ≡ suc free + spare = omega arith in
      let vacant : is_taken_word s.word ≡ false = ne_eqb s.word.slot 16777215 (λ e. absurd (omega (arith, e, few))) in
      rw (longer, kept, more, map-set cell_of stored k s, vacant, again) refl

  pub written_view : (stored : List (Stored T)) (head k free freed room g : ℕ) (s : Stored T) (v : T) → k < length (words_of stored) → is_taken_word (get_or (words_of stored) k no_handle) ≡ true → s ≡ record { word = record { slot = 16777215; generation = g }; value = v } → IsLinked (words_of stored) head free freed → set_at v (record { slot = k; generation = g }) (record { cells = cells_of stored; free = chain (words_of stored) head free; room = room }) ≡ record { cells = cells_of (set stored k s); free = chain (words_of (set stored k s)) head free; room = room }
  written_view stored head k free freed room g s v within full is sound =
      let words = words_of stored in
      let apart : times k (chain words head free) ≡ 0 = full_is_off words head k free freed within full sound in
      rw (words-set stored k s, chain-set words k s.word head free apart, map-set cell_of stored k s, is) refl

  is_none_value : (b : Bool) (v : T) → is_none (cond b (Some v) None) ≡ not b
  is_none_value true v = refl
  is_none_value false v = refl

  vacancy_at_stored : (stored : List (Stored T)) (n : ℕ) → vacancy_at (cells_of stored) n ≡ vacant_at (words_of stored) n
  vacancy_at_stored [] n = refl
  vacancy_at_stored (s ∷ rest) n = elim (cases_lt n (length (s ∷ rest))) [
    | inl l ↦
        let x = get_or (s ∷ rest) n s in
        let found : x ≡ get_or (s ∷ rest) n x = get_or_default (s ∷ rest) n s x l in
        rw (cell_read (s ∷ rest) n x l found, word_read (s ∷ rest) n x l found, length-map (s ∷ rest) cell_of, length-words (s ∷ rest), is_none_value (is_taken_word x.word) x.value) refl
    | inr l ↦ rw (length-map (s ∷ rest) cell_of, length-words (s ∷ rest), le-ltb n (length (s ∷ rest)) l) refl
  ]

  vacant_count : (stored : List (Stored T)) → count_by (λ c. is_none c.value) (cells_of stored) ≡ count_by is_vacant (words_of stored)
  vacant_count [] = refl
  vacant_count (s ∷ rest) =
      omega (arith, sum_by-cons (λ c. cond (is_none c.value) 1 0) (cell_of s) (cells_of rest), sum_by-cons vacancy s.word (words_of rest), vacant_count rest, ap (λ (b : Bool). cond {A = ℕ} b 1 0) (is_none_value (is_taken_word s.word) s.value))

  pub IsWhole-from : (stored : List (Stored T)) (head free freed room : ℕ) → IsLinked (words_of stored) head free freed → IsWholeArena (record { cells = cells_of stored; free = chain (words_of stored) head free; room = room })
  IsWhole-from stored head free freed room sound = record {
    free_once = λ n. sound.once n ∙ sym (vacancy_at_stored stored n);
    free_counted = omega (arith, length-chain (words_of stored) head free, sound.counted, vacant_count stored);
    cells_bounded = omega (arith, sound.small, length-map stored cell_of, length-words stored);
  }
