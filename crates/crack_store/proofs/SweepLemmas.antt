-- How rows after a column's last row pass a piece, place by place.
use Rattle.std.proofs.Common.{◌≡◌, ℕ, zero, suc, ◌+◌, ◌-◌, ◌<◌, ◌≤◌, Bool, true, false, not, ◌&&◌, nat_lt, cond, List, [], ◌∷◌, ◌++◌, length, take, drop, get_or, set, Option, Some, None, refl, sym, ap, ◌∙◌, inl, inr, arith}
use Rattle.std.specs.List.{All, between, filter}
use Rattle.std.specs.Prelude.{IfSome}
use Rattle.std.proofs.lemmas.Bool.{cases_lt, cases_Bool, lt-ltb, ltb-true, false≢true}
use Rattle.std.proofs.lemmas.List.Sums.{sum_by-cons, sum_by_push, sum_by-append}
use Rattle.std.proofs.lemmas.List.{append-nil, append_assoc, length-append, length_push, set_at, get_or_at, get_or_append_left, get_or-append-add, get_or_default, get_or-take, set-get_or, length-set, length-take-le, take_at, drop_at, take-append-drop, drop-drop}
use Rattle.std.proofs.lemmas.List.Edits.{length-between}
use Rattle.crack_row.specs.declared.InnerBound.{InnerBound}
use Rattle.crack_row.specs.declared.Row.{Row}
use Rattle.crack_arena.specs.Arena.{Cell, Handle, no_handle}
use Rattle.crack_arena.specs.Rows.{key_at}
use Rattle.crack_column.specs.Column.{swapped}
use Rattle.crack_state.specs.Sweeps.{Swept, Round, with_more, goes_on, round, swept, is_lower}
use Rattle.crack_state.proofs.SweepLaws.{by-step}
use Rattle.crack_store.specs.Sweepings.{ends_in, up_to, sweep_of, leaving}

-- Two rows are exchanged

module _ {X : Type 0} (d : X) where
  swapped-two : (a : List X) (x : X) (b : List X) (y : X) (c : List X) (i j : ℕ) → length a ≡ i → length a + (1 + length b) ≡ j → swapped d i j (a ++ x ∷ (b ++ y ∷ c)) ≡ a ++ y ∷ (b ++ x ∷ c)
  swapped-two a x b y c i j at_i at_j =
      let xs : List X = a ++ x ∷ (b ++ y ∷ c) in
      let long : (z : X) → length (a ++ z ∷ b) ≡ j = λ z. omega (arith, at_j, length-append a (z ∷ b)) in
      let apart : (z w : X) → a ++ z ∷ (b ++ w ∷ c) ≡ (a ++ z ∷ b) ++ w ∷ c = λ z w. sym (append_assoc a (z ∷ b) (w ∷ c)) in
      let first : get_or xs i d ≡ x = get_or_at a x (b ++ y ∷ c) d i at_i in
      let second : get_or xs j d ≡ y = ap (λ zs. get_or zs j d) (apart x y) ∙ get_or_at (a ++ x ∷ b) y c d j (long x) in
      let one : set xs i y ≡ a ++ y ∷ (b ++ y ∷ c) = set_at a x (b ++ y ∷ c) y i at_i in
      let two : set (a ++ y ∷ (b ++ y ∷ c)) j x ≡ a ++ y ∷ (b ++ x ∷ c) = ap (λ zs. set zs j x) (apart y y) ∙ set_at (a ++ y ∷ b) y c x j (long y) ∙ sym (apart y x) in
      rw (first, second, one) two

  swapped-same : (xs : List X) (i : ℕ) → swapped d i i xs ≡ xs
  swapped-same xs i = rw (set-get_or xs i d) (set-get_or xs i d)

-- a test that a row passes if it doesn't stop
passing : (own stop : Bool) → own && not stop ≡ true → own ≡ true
passing true stop both = refl
passing false stop both = absurd (false≢true both)

lasting : (own stop : Bool) → own && not stop ≡ true → stop ≡ false
lasting true true both = absurd (false≢true both)
lasting true false both = refl
lasting false stop both = absurd (false≢true both)

-- One round

module _ {X : Type 0} (stops own : X → Bool) where
  round-none : (t : X) (done queue : List X) → All (λ q. goes_on stops (λ x. own x) q ≡ false) queue → round stops own t done queue ≡ record { done = (done ++ queue) ++ t ∷ []; queue = []; made = 0 }
  round-none t done [] all = rw (append-nil done) refl
  round-none t done (q ∷ qs) all =
      let rest = round-none t (done ++ q ∷ []) qs (λ k d l. all (suc k) d (omega (arith, l))) in
      let off : goes_on stops own q ≡ false = all zero q (omega arith) in
      rw off (rest ∙ rw (append_assoc done (q ∷ []) qs) refl)

  round-one : (t : X) (done before : List X) (q : X) (after : List X) → All (λ p. goes_on stops own p ≡ false) before → goes_on stops own q ≡ true → round stops own t done (before ++ q ∷ after) ≡ record { done = (done ++ before) ++ t ∷ []; queue = after ++ q ∷ []; made = 1 }
  round-one t done [] q after all on = rw (on, append-nil done) refl
  round-one t done (p ∷ ps) q after all on =
      let rest = round-one t (done ++ p ∷ []) ps q after (λ k d l. all (suc k) d (omega (arith, l))) on in
      let off : goes_on stops own p ≡ false = all zero p (omega arith) in
      rw off (rest ∙ rw (append_assoc done (p ∷ []) ps) refl)

-- a list up to a place, the element there, and the others
split-at : {X : Type 0} (xs : List X) (i : ℕ) (d : X) → i < length xs → (take i xs ++ get_or xs i d ∷ drop (i + 1) xs ≡ xs) × (length (take i xs) ≡ i)
split-at [] i d within = absurd (omega (arith, within))
split-at (x ∷ xs) zero d within = (refl, refl)
split-at (x ∷ xs) (suc i) d within =
    let rest = split-at xs i d (omega (arith, within)) in
    let on : suc i + 1 ≡ suc (i + 1) = omega arith in
    (rw on (ap (λ ys. x ∷ ys) rest.0), omega (arith, rest.1))

module _ (cells : List (Cell Row)) (out : List Handle) (low : ℕ) (high : Option InnerBound) where
  abbrev stops : Handle → Bool
  stops = ends_in out

  abbrev under : Handle → Bool
  under = is_lower (key_at cells) (ends_in out) low

  abbrev own : Handle → Bool
  own = up_to cells out high

  -- the rows before a place have passed the piece
  pub record IsOn (front rows mid ts : List Handle) (start end from : ℕ) (handles : List Handle) (cursor used made going place : ℕ) : Type 0 where
    pub placed : List Handle
    pub rest : List Handle
    pub done : List Handle
    pub queue : List Handle
    pub todo : List Handle
    pub handles_are : handles ≡ front ++ ((placed ++ rest) ++ (mid ++ ((done ++ queue) ++ todo)))
    pub cursor_is : cursor ≡ start + length placed
    pub rest_is : cursor + length rest ≡ end
    pub used_is : used ≡ from + length done
    pub place_is : place ≡ from + (length done + length queue)
    pub long : place + length todo ≡ length handles
    pub few : made ≤ length done + length queue
    pub counted : going ≡ leaving cells out high (done ++ queue)
    pub sweep_is : sweep_of cells out low high ts rows ≡ with_more made (swept stops under own todo placed rest done queue)

  more-none : (s : Swept Handle) → with_more 0 s ≡ s
  more-none s =
      let none : 0 + s.made ≡ s.made = omega arith in
      rw none refl

  more-both : (a b : ℕ) (s : Swept Handle) → with_more a (with_more b s) ≡ with_more (a + b) s
  more-both a b s =
      let both : a + (b + s.made) ≡ (a + b) + s.made = omega arith in
      rw both refl

  pub IsOn-start : (front rows mid ts : List Handle) (start end from : ℕ) (handles : List Handle) → handles ≡ front ++ (rows ++ (mid ++ ts)) → length front ≡ start → start + length rows ≡ end → end + length mid ≡ from → IsOn front rows mid ts start end from handles start from 0 0 from
  IsOn-start front rows mid ts start end from handles are first second third = record {
    placed = [];
    rest = rows;
    done = [];
    queue = [];
    todo = ts;
    handles_are = are;
    cursor_is = omega arith;
    rest_is = second;
    used_is = omega arith;
    place_is = omega arith;
    long = omega (arith, ap length are, length-append front (rows ++ (mid ++ ts)), length-append rows (mid ++ ts), length-append mid ts, first, second, third);
    few = omega arith;
    counted = refl;
    sweep_is = sym (more-none (swept stops under own ts [] rows [] []));
  }

  -- at the end all have passed it
  pub IsOn-end : (front rows mid ts : List Handle) (start end from : ℕ) (handles : List Handle) (cursor used made going place : ℕ) → length handles ≤ place → IsOn front rows mid ts start end from handles cursor used made going place → (handles ≡ front ++ ((sweep_of cells out low high ts rows).piece ++ (mid ++ (sweep_of cells out low high ts rows).tail))) × (made ≡ (sweep_of cells out low high ts rows).made)
  IsOn-end front rows mid ts start end from handles cursor used made going place over on = elim_todo on.todo refl
    where
      elim_todo : (todo : List Handle) → on.todo ≡ todo → (handles ≡ front ++ ((sweep_of cells out low high ts rows).piece ++ (mid ++ (sweep_of cells out low high ts rows).tail))) × (made ≡ (sweep_of cells out low high ts rows).made)
      elim_todo (t ∷ todo) is = absurd (omega (arith, on.long, ap length is, over))
      elim_todo [] is =
          let S : Swept Handle = swept stops under own [] on.placed on.rest on.done on.queue in
          let whole : sweep_of cells out low high ts rows ≡ with_more made S = on.sweep_is ∙ ap (λ us. with_more made (swept stops under own us on.placed on.rest on.done on.queue)) is in
          (on.handles_are ∙ ap (λ us. front ++ ((on.placed ++ on.rest) ++ (mid ++ ((on.done ++ on.queue) ++ us)))) is ∙ ap (λ us. front ++ ((on.placed ++ on.rest) ++ (mid ++ us))) (append-nil (on.done ++ on.queue)) ∙ rw whole refl, rw whole (omega arith))

  -- one that goes on counts
  counts-one : (t : Handle) → goes_on stops own t ≡ true → cond {A = ℕ} (goes_on stops own t) 1 0 ≡ 1
  counts-one t goes = rw goes refl

  leaving-both : (xs ys : List Handle) → leaving cells out high (xs ++ ys) ≡ leaving cells out high xs + leaving cells out high ys
  leaving-both xs ys = sum_by-append (λ t. cond {A = ℕ} (goes_on stops own t) 1 0) xs ys

  leaving-push : (xs : List Handle) (t : Handle) → leaving cells out high (xs ++ t ∷ []) ≡ leaving cells out high xs + cond {A = ℕ} (goes_on stops own t) 1 0
  leaving-push xs t = sum_by_push (λ u. cond {A = ℕ} (goes_on stops own u) 1 0) xs t

  leaving-first : (t : Handle) (xs : List Handle) → leaving cells out high (t ∷ xs) ≡ cond {A = ℕ} (goes_on stops own t) 1 0 + leaving cells out high xs
  leaving-first t xs = sum_by-cons (λ u. cond {A = ℕ} (goes_on stops own u) 1 0) t xs

  -- a row that turns the piece goes on from it
  pub turned-goes : (t : Handle) → IfSome high (λ b. low ≤ b.0) → goes_on stops under t ≡ true → goes_on stops own t ≡ true
  turned-goes t order goes = of high refl
    where
      of : (h : Option InnerBound) → high ≡ h → goes_on stops own t ≡ true
      of None is =
          let lasts : stops t ≡ false = lasting (under t) (stops t) goes in
          rw (is, lasts) refl
      of (Some b) is =
          let lasts : stops t ≡ false = lasting (under t) (stops t) goes in
          let low_is : key_at cells t < low = ltb-true (key_at cells t) low (passing (under t) (stops t) goes) in
          let most : low ≤ b.0 = rw is at order in
          let below : nat_lt (key_at cells t) b.0 ≡ true = lt-ltb (key_at cells t) b.0 (omega (arith, low_is, most)) in
          rw (is, below, lasts) refl

  -- the row at the place is next
  module _ (front rows mid ts : List Handle) (start end from : ℕ) (handles : List Handle) (cursor used made going place : ℕ) (first : length front ≡ start) (third : end + length mid ≡ from) (on : IsOn front rows mid ts start end from handles cursor used made going place) where
    abbrev seen : List Handle
    seen = on.done ++ on.queue

    -- the rows before the place
    abbrev before : List Handle
    before = front ++ ((on.placed ++ on.rest) ++ (mid ++ seen))

    joined : (us : List Handle) → front ++ ((on.placed ++ on.rest) ++ (mid ++ (seen ++ us))) ≡ before ++ us
    joined us =
        ap (λ vs. front ++ ((on.placed ++ on.rest) ++ vs)) (sym (append_assoc mid seen us)) ∙ ap (λ vs. front ++ vs) (sym (append_assoc (on.placed ++ on.rest) (mid ++ seen) us)) ∙ sym (append_assoc front ((on.placed ++ on.rest) ++ (mid ++ seen)) us)

    long-before : length before ≡ place
    long-before = omega (arith, first, third, on.cursor_is, on.rest_is, on.place_is, length-append front ((on.placed ++ on.rest) ++ (mid ++ seen)), length-append (on.placed ++ on.rest) (mid ++ seen), length-append on.placed on.rest, length-append mid seen, length-append on.done on.queue)

    -- once all have passed, this many go on
    pub counted-end : length handles ≤ place → going ≡ leaving cells out high (drop from handles)
    counted-end over = of on.todo refl
      where
        of : (us : List Handle) → on.todo ≡ us → going ≡ leaving cells out high (drop from handles)
        of (t ∷ us) is = absurd (omega (arith, on.long, ap length is, over))
        of [] is =
            let ahead : List Handle = front ++ ((on.placed ++ on.rest) ++ mid) in
            let shape : handles ≡ ahead ++ seen = on.handles_are ∙ ap (λ us. front ++ ((on.placed ++ on.rest) ++ (mid ++ (seen ++ us)))) is ∙ ap (λ us. front ++ ((on.placed ++ on.rest) ++ (mid ++ us))) (append-nil seen) ∙ ap (λ us. front ++ us) (sym (append_assoc (on.placed ++ on.rest) mid seen)) ∙ sym (append_assoc front ((on.placed ++ on.rest) ++ mid) seen) in
            let size : length ahead ≡ from = omega (arith, first, third, on.cursor_is, on.rest_is, length-append front ((on.placed ++ on.rest) ++ mid), length-append (on.placed ++ on.rest) mid, length-append on.placed on.rest) in
            on.counted ∙ ap (leaving cells out high) (sym (ap (drop from) shape ∙ drop_at ahead seen from size))

    pub record Next : Type 0 where
      pub t : Handle
      pub todo : List Handle
      pub todo_is : on.todo ≡ t ∷ todo
      pub at : get_or handles place no_handle ≡ t

    pub next-of : place < length handles → Next
    next-of within = of on.todo refl
      where
        of : (us : List Handle) → on.todo ≡ us → Next
        of [] is = absurd (omega (arith, on.long, ap length is, within))
        of (t ∷ todo) is = record {
          t = t;
          todo = todo;
          todo_is = is;
          at = ap (λ hs. get_or hs place no_handle) (on.handles_are ∙ joined on.todo ∙ ap (λ us. before ++ us) is) ∙ get_or_at before t todo no_handle place long-before;
        }

    module _ (n : Next) where
      shape : handles ≡ front ++ ((on.placed ++ on.rest) ++ (mid ++ (seen ++ n.t ∷ n.todo)))
      shape = on.handles_are ∙ ap (λ us. front ++ ((on.placed ++ on.rest) ++ (mid ++ (seen ++ us)))) n.todo_is

      shorter : (place + 1) + length n.todo ≡ length handles
      shorter = omega (arith, on.long, ap length n.todo_is)

      so_far : sweep_of cells out low high ts rows ≡ with_more made (swept stops under own (n.t ∷ n.todo) on.placed on.rest on.done on.queue)
      so_far = on.sweep_is ∙ ap (λ us. with_more made (swept stops under own us on.placed on.rest on.done on.queue)) n.todo_is

      pushed : (us : List Handle) (t : Handle) → seen ++ t ∷ us ≡ (on.done ++ (on.queue ++ t ∷ [])) ++ us
      pushed us t = append_assoc on.done on.queue (t ∷ us) ∙ ap (λ vs. on.done ++ vs) (sym (append_assoc on.queue (t ∷ []) us)) ∙ sym (append_assoc on.done (on.queue ++ t ∷ []) us)

      -- it doesn't turn the piece
      pub IsOn-by : (more : ℕ) → goes_on stops under n.t ≡ false → more ≡ cond {A = ℕ} (goes_on stops own n.t) 1 0 → IsOn front rows mid ts start end from handles cursor used made (going + more) (place + 1)
      IsOn-by more off goes = record {
        placed = on.placed;
        rest = on.rest;
        done = on.done;
        queue = on.queue ++ n.t ∷ [];
        todo = n.todo;
        handles_are = shape ∙ ap (λ vs. front ++ ((on.placed ++ on.rest) ++ (mid ++ vs))) (pushed n.todo n.t);
        cursor_is = on.cursor_is;
        rest_is = on.rest_is;
        used_is = on.used_is;
        place_is = omega (arith, on.place_is, length_push on.queue n.t);
        long = shorter;
        few = omega (arith, on.few, length_push on.queue n.t);
        counted = omega (arith, on.counted, goes, leaving-both on.done on.queue, leaving-both on.done (on.queue ++ n.t ∷ []), leaving-push on.queue n.t);
        sweep_is = so_far ∙ ap (with_more made) (by-step (key_at cells) stops under own n.t n.todo on.placed on.rest on.done on.queue off);
      }

      -- it is exchanged with the next row of the piece
      pub IsOn-turn : (more : ℕ) → goes_on stops under n.t ≡ true → cursor < end → more ≡ cond {A = ℕ} (goes_on stops own (get_or (swapped no_handle cursor place handles) place no_handle)) 1 0 → IsOn front rows mid ts start end from (swapped no_handle cursor place handles) (cursor + 1) used (made + 1) (going + more) (place + 1)
      IsOn-turn more goes some on_it = of on.rest refl
        where
          of : (rest : List Handle) → on.rest ≡ rest → IsOn front rows mid ts start end from (swapped no_handle cursor place handles) (cursor + 1) used (made + 1) (going + more) (place + 1)
          of [] is = absurd (omega (arith, on.rest_is, ap length is, some))
          of (y ∷ ys) is =
              let a : List Handle = front ++ on.placed in
              let b : List Handle = ys ++ (mid ++ seen) in
              let old : handles ≡ a ++ y ∷ (b ++ n.t ∷ n.todo) =
              shape ∙ ap (λ vs. front ++ ((on.placed ++ vs) ++ (mid ++ (seen ++ n.t ∷ n.todo)))) is ∙ ap (λ vs. front ++ vs) (append_assoc on.placed (y ∷ ys) (mid ++ (seen ++ n.t ∷ n.todo))) ∙ sym (append_assoc front on.placed (y ∷ (ys ++ (mid ++ (seen ++ n.t ∷ n.todo))))) ∙ ap (λ vs. a ++ y ∷ vs) (ap (λ vs. ys ++ vs) (sym (append_assoc mid seen (n.t ∷ n.todo))) ∙ sym (append_assoc ys (mid ++ seen) (n.t ∷ n.todo))) in
              let at_i : length a ≡ cursor = omega (arith, first, on.cursor_is, length-append front on.placed) in
              let at_j : length a + (1 + length b) ≡ place = omega (arith, first, third, on.cursor_is, on.rest_is, on.place_is, ap length is, length-append front on.placed, length-append ys (mid ++ seen), length-append mid seen, length-append on.done on.queue) in
              let new : swapped no_handle cursor place handles ≡ a ++ n.t ∷ (b ++ y ∷ n.todo) = ap (swapped no_handle cursor place) old ∙ swapped-two no_handle a y b n.t n.todo cursor place at_i at_j in
              let back : a ++ n.t ∷ (b ++ y ∷ n.todo) ≡ front ++ (((on.placed ++ n.t ∷ []) ++ ys) ++ (mid ++ ((on.done ++ (on.queue ++ y ∷ [])) ++ n.todo))) =
              append_assoc front on.placed (n.t ∷ (b ++ y ∷ n.todo)) ∙ ap (λ vs. front ++ vs) (ap (λ vs. on.placed ++ n.t ∷ vs) (append_assoc ys (mid ++ seen) (y ∷ n.todo) ∙ ap (λ vs. ys ++ vs) (append_assoc mid seen (y ∷ n.todo) ∙ ap (λ vs. mid ++ vs) (pushed n.todo y))) ∙ sym (append_assoc on.placed (n.t ∷ ys) (mid ++ ((on.done ++ (on.queue ++ y ∷ [])) ++ n.todo))) ∙ ap (λ vs. vs ++ (mid ++ ((on.done ++ (on.queue ++ y ∷ [])) ++ n.todo))) (sym (append_assoc on.placed (n.t ∷ []) ys))) in
              let there : get_or (swapped no_handle cursor place handles) place no_handle ≡ y = ap (λ hs. get_or hs place no_handle) (new ∙ sym (append_assoc a (n.t ∷ b) (y ∷ n.todo))) ∙ get_or_at (a ++ n.t ∷ b) y n.todo no_handle place (omega (arith, at_j, length-append a (n.t ∷ b))) in
              let goes_y : more ≡ cond {A = ℕ} (goes_on stops own y) 1 0 = on_it ∙ ap (λ u. cond {A = ℕ} (goes_on stops own u) 1 0) there in
              let step : swept stops under own (n.t ∷ n.todo) on.placed (y ∷ ys) on.done on.queue ≡ with_more 1 (swept stops under own n.todo (on.placed ++ n.t ∷ []) ys on.done (on.queue ++ y ∷ [])) = rw goes refl in
              record {
                placed = on.placed ++ n.t ∷ [];
                rest = ys;
                done = on.done;
                queue = on.queue ++ y ∷ [];
                todo = n.todo;
                handles_are = new ∙ back;
                cursor_is = omega (arith, on.cursor_is, length_push on.placed n.t);
                rest_is = omega (arith, on.rest_is, ap length is);
                used_is = on.used_is;
                place_is = omega (arith, on.place_is, length_push on.queue y);
                long = omega (arith, shorter, ap length (new ∙ back), ap length (shape ∙ ap (λ vs. front ++ ((on.placed ++ vs) ++ (mid ++ (seen ++ n.t ∷ n.todo)))) is), length-append front (((on.placed ++ n.t ∷ []) ++ ys) ++ (mid ++ ((on.done ++ (on.queue ++ y ∷ [])) ++ n.todo))), length-append ((on.placed ++ n.t ∷ []) ++ ys) (mid ++ ((on.done ++ (on.queue ++ y ∷ [])) ++ n.todo)), length-append (on.placed ++ n.t ∷ []) ys, length_push on.placed n.t, length-append mid ((on.done ++ (on.queue ++ y ∷ [])) ++ n.todo), length-append (on.done ++ (on.queue ++ y ∷ [])) n.todo, length-append on.done (on.queue ++ y ∷ []), length_push on.queue y, length-append front ((on.placed ++ y ∷ ys) ++ (mid ++ (seen ++ n.t ∷ n.todo))), length-append (on.placed ++ y ∷ ys) (mid ++ (seen ++ n.t ∷ n.todo)), length-append on.placed (y ∷ ys), length-append mid (seen ++ n.t ∷ n.todo), length-append seen (n.t ∷ n.todo), length-append on.done on.queue);
                few = omega (arith, on.few, length_push on.queue y);
                counted = omega (arith, on.counted, goes_y, leaving-both on.done on.queue, leaving-both on.done (on.queue ++ y ∷ []), leaving-push on.queue y);
                sweep_is = so_far ∙ ap (λ vs. with_more made (swept stops under own (n.t ∷ n.todo) on.placed vs on.done on.queue)) is ∙ ap (with_more made) step ∙ more-both made 1 (swept stops under own n.todo (on.placed ++ n.t ∷ []) ys on.done (on.queue ++ y ∷ []));
              }

      -- the rows before the queue
      abbrev ahead : List Handle
      ahead = front ++ ((on.placed ++ on.rest) ++ (mid ++ on.done))

      long-ahead : length ahead ≡ used
      long-ahead = omega (arith, first, third, on.cursor_is, on.rest_is, on.used_is, length-append front ((on.placed ++ on.rest) ++ (mid ++ on.done)), length-append (on.placed ++ on.rest) (mid ++ on.done), length-append on.placed on.rest, length-append mid on.done)

      -- the places after the column's last, split after those that are finished
      apart : (ds us : List Handle) → front ++ ((on.placed ++ on.rest) ++ (mid ++ (on.done ++ (ds ++ us)))) ≡ ahead ++ (ds ++ us)
      apart ds us =
          ap (λ vs. front ++ ((on.placed ++ on.rest) ++ vs)) (sym (append_assoc mid on.done (ds ++ us))) ∙ ap (λ vs. front ++ vs) (sym (append_assoc (on.placed ++ on.rest) (mid ++ on.done) (ds ++ us))) ∙ sym (append_assoc front ((on.placed ++ on.rest) ++ (mid ++ on.done)) (ds ++ us))

      queue_is : handles ≡ ahead ++ (on.queue ++ n.t ∷ n.todo)
      queue_is = shape ∙ ap (λ vs. front ++ ((on.placed ++ on.rest) ++ (mid ++ vs))) (append_assoc on.done on.queue (n.t ∷ n.todo)) ∙ apart on.queue (n.t ∷ n.todo)

      queue-at : (k : ℕ) (d : Handle) → k < length on.queue → get_or handles (used + k) no_handle ≡ get_or on.queue k d
      queue-at k d within =
          let place_of : used + k ≡ length ahead + k = omega (arith, long-ahead) in
          ap (λ hs. get_or hs (used + k) no_handle) queue_is ∙ ap (λ j. get_or (ahead ++ (on.queue ++ n.t ∷ n.todo)) j no_handle) place_of ∙ get_or-append-add ahead (on.queue ++ n.t ∷ n.todo) k no_handle ∙ get_or_append_left on.queue (n.t ∷ n.todo) no_handle k within ∙ get_or_default on.queue k no_handle d within

      swept-one : (r : Round Handle) → goes_on stops under n.t ≡ true → on.rest ≡ [] → round stops own n.t on.done on.queue ≡ r → swept stops under own (n.t ∷ n.todo) on.placed on.rest on.done on.queue ≡ with_more r.made (swept stops under own n.todo on.placed on.rest r.done r.queue)
      swept-one r goes empty same = rw empty (rw (goes, same) refl)

      -- no row of the piece is left: if none has gone on from it, the row stays
      IsOn-last : goes_on stops under n.t ≡ true → goes_on stops own n.t ≡ true → on.rest ≡ [] → All (λ q. goes_on stops own q ≡ false) on.queue → IsOn front rows mid ts start end from handles cursor (place + 1) made (going + 1) (place + 1)
      IsOn-last goes leaves empty all =
          let r : Round Handle = record { done = (on.done ++ on.queue) ++ n.t ∷ []; queue = []; made = 0 } in
          let step = swept-one r goes empty (round-none stops own n.t on.done on.queue all) in
          let size = length-append on.done on.queue in
          record {
            placed = on.placed;
            rest = on.rest;
            done = (on.done ++ on.queue) ++ n.t ∷ [];
            queue = [];
            todo = n.todo;
            handles_are = shape ∙ ap (λ vs. front ++ ((on.placed ++ on.rest) ++ (mid ++ vs))) (sym (append_assoc seen (n.t ∷ []) n.todo) ∙ ap (λ vs. vs ++ n.todo) (sym (append-nil (seen ++ n.t ∷ []))));
            cursor_is = on.cursor_is;
            rest_is = on.rest_is;
            used_is = omega (arith, on.place_is, length_push (on.done ++ on.queue) n.t, size);
            place_is = omega (arith, on.place_is, length_push (on.done ++ on.queue) n.t, size);
            long = shorter;
            few = omega (arith, on.few, length_push (on.done ++ on.queue) n.t, size);
            counted = omega (arith, on.counted, counts-one n.t leaves, leaving-push (on.done ++ on.queue) n.t, ap (leaving cells out high) (append-nil ((on.done ++ on.queue) ++ n.t ∷ [])));
            sweep_is = so_far ∙ ap (with_more made) step ∙ ap (with_more made) (more-none (swept stops under own n.todo on.placed on.rest r.done r.queue));
          }

      -- else it is exchanged with the first that has
      IsOn-found : (q1 q2 : List Handle) (q : Handle) → goes_on stops under n.t ≡ true → goes_on stops own n.t ≡ true → on.rest ≡ [] → on.queue ≡ q1 ++ q ∷ q2 → All (λ p. goes_on stops own p ≡ false) q1 → goes_on stops own q ≡ true → IsOn front rows mid ts start end from (swapped no_handle (used + length q1) place handles) cursor (used + length q1 + 1) (made + 1) (going + 1) (place + 1)
      IsOn-found q1 q2 q goes leaves empty split all there =
          let r : Round Handle = record { done = (on.done ++ q1) ++ n.t ∷ []; queue = q2 ++ q ∷ []; made = 1 } in
          let once : round stops own n.t on.done on.queue ≡ r = ap (round stops own n.t on.done) split ∙ round-one stops own n.t on.done q1 q q2 all there in
          let step = swept-one r goes empty once in
          let many : length on.queue ≡ length q1 + (1 + length q2) = ap length split ∙ omega (arith, length-append q1 (q ∷ q2)) in
          let a : List Handle = ahead ++ q1 in
          let old : handles ≡ a ++ q ∷ (q2 ++ n.t ∷ n.todo) =
          queue_is ∙ ap (λ vs. ahead ++ (vs ++ n.t ∷ n.todo)) split ∙ ap (λ vs. ahead ++ vs) (append_assoc q1 (q ∷ q2) (n.t ∷ n.todo)) ∙ sym (append_assoc ahead q1 (q ∷ (q2 ++ n.t ∷ n.todo))) in
          let at_i : length a ≡ used + length q1 = omega (arith, long-ahead, length-append ahead q1) in
          let at_j : length a + (1 + length q2) ≡ place = omega (arith, at_i, many, on.used_is, on.place_is) in
          let new : swapped no_handle (used + length q1) place handles ≡ a ++ n.t ∷ (q2 ++ q ∷ n.todo) = ap (swapped no_handle (used + length q1) place) old ∙ swapped-two no_handle a q q2 n.t n.todo (used + length q1) place at_i at_j in
          let tail : q1 ++ n.t ∷ (q2 ++ q ∷ n.todo) ≡ (q1 ++ n.t ∷ []) ++ ((q2 ++ q ∷ []) ++ n.todo) =
          ap (λ vs. q1 ++ n.t ∷ vs) (sym (append_assoc q2 (q ∷ []) n.todo)) ∙ sym (append_assoc q1 (n.t ∷ []) ((q2 ++ q ∷ []) ++ n.todo)) in
          let inner : on.done ++ ((q1 ++ n.t ∷ []) ++ ((q2 ++ q ∷ []) ++ n.todo)) ≡ (r.done ++ r.queue) ++ n.todo =
          sym (append_assoc on.done (q1 ++ n.t ∷ []) ((q2 ++ q ∷ []) ++ n.todo)) ∙ ap (λ vs. vs ++ ((q2 ++ q ∷ []) ++ n.todo)) (sym (append_assoc on.done q1 (n.t ∷ []))) ∙ sym (append_assoc r.done (q2 ++ q ∷ []) n.todo) in
          let back : a ++ n.t ∷ (q2 ++ q ∷ n.todo) ≡ front ++ ((on.placed ++ on.rest) ++ (mid ++ ((r.done ++ r.queue) ++ n.todo))) =
          append_assoc ahead q1 (n.t ∷ (q2 ++ q ∷ n.todo)) ∙ ap (λ vs. ahead ++ vs) tail ∙ sym (apart (q1 ++ n.t ∷ []) ((q2 ++ q ∷ []) ++ n.todo)) ∙ ap (λ vs. front ++ ((on.placed ++ on.rest) ++ (mid ++ vs))) inner in
          let size : length r.done + length r.queue ≡ length on.done + length on.queue + 1 = omega (arith, many, length_push (on.done ++ q1) n.t, length-append on.done q1, length_push q2 q) in
          let kept : length (swapped no_handle (used + length q1) place handles) ≡ length handles = length-set (set handles (used + length q1) (get_or handles place no_handle)) place (get_or handles (used + length q1) no_handle) ∙ length-set handles (used + length q1) (get_or handles place no_handle) in
          record {
            placed = on.placed;
            rest = on.rest;
            done = r.done;
            queue = r.queue;
            todo = n.todo;
            handles_are = new ∙ back;
            cursor_is = on.cursor_is;
            rest_is = on.rest_is;
            used_is = omega (arith, on.used_is, length_push (on.done ++ q1) n.t, length-append on.done q1);
            place_is = omega (arith, on.place_is, size);
            long = omega (arith, shorter, kept);
            few = omega (arith, on.few, size);
            counted = omega (arith, on.counted, counts-one n.t leaves, counts-one q there, leaving-both on.done on.queue, ap (leaving cells out high) split, leaving-both q1 (q ∷ q2), leaving-first q q2, leaving-both r.done r.queue, leaving-push (on.done ++ q1) n.t, leaving-both on.done q1, leaving-push q2 q);
            sweep_is = so_far ∙ ap (with_more made) step ∙ more-both made 1 (swept stops under own n.todo on.placed on.rest r.done r.queue);
          }

      pub IsOn-round : (next more : ℕ) → goes_on stops under n.t ≡ true → goes_on stops own n.t ≡ true → end ≤ cursor → used ≤ next → next ≤ place → ((k : ℕ) → used ≤ k → k < next → goes_on stops own (get_or handles k no_handle) ≡ false) → (next < place → goes_on stops own (get_or handles next no_handle) ≡ true) → (next < place → more ≡ 1) → (place ≤ next → more ≡ 0) → IsOn front rows mid ts start end from (swapped no_handle next place handles) cursor (next + 1) (made + more) (going + 1) (place + 1)
      IsOn-round next more goes leaves none low_next high_next off there one zero_more =
          let empty : on.rest ≡ [] = nothing on.rest (omega (arith, on.rest_is, none)) in
          elim (cases_lt next place) [
            | inr over ↦
                let same : next ≡ place = omega (arith, over, high_next) in
                let no_more : made + more ≡ made = omega (arith, zero_more over) in
                let all : All (λ q. goes_on stops own q ≡ false) on.queue = λ k d l.
                rw (queue-at k d l) at (off (used + k) (omega arith) (omega (arith, l, on.used_is, on.place_is, over))) in
                rw (same, no_more, swapped-same no_handle handles place) (IsOn-last goes leaves empty all)
            | inl some ↦
                let i : ℕ = next - used in
                let back : used + i ≡ next = omega (arith, low_next) in
                let within : i < length on.queue = omega (arith, some, low_next, on.used_is, on.place_is) in
                let cut = split-at on.queue i no_handle within in
                let q1 : List Handle = take i on.queue in
                let q : Handle = get_or on.queue i no_handle in
                let few1 : All (λ p. goes_on stops own p ≡ false) q1 = λ k d l.
                let less : k < i = omega (arith, l, cut.1) in
                let near : k < length on.queue = omega (arith, less, within) in
                rw (get_or-take i on.queue k d less) (rw (queue-at k d near) at (off (used + k) (omega arith) (omega (arith, less, back)))) in
                let on_q : goes_on stops own q ≡ true = rw (queue-at i no_handle within) at (rw (← back) at (there some)) in
                let added : made + 1 ≡ made + more = omega (arith, one some) in
                let at : used + length q1 ≡ next = omega (arith, cut.1, back) in
                rw (at, added) at (IsOn-found q1 (drop (i + 1) on.queue) q goes leaves empty (sym cut.0) few1 on_q)
          ]
        where
          nothing : (zs : List Handle) → length zs ≡ 0 → zs ≡ []
          nothing [] is = refl
          nothing (z ∷ zs) is = absurd (omega (arith, is))

-- A column's parts

pub record Four (h : List Handle) (s e f : ℕ) : Type 0 where
  pub all : h ≡ take s h ++ (between s e h ++ (between e f h ++ drop f h))
  pub front : length (take s h) ≡ s
  pub rows : s + length (between s e h) ≡ e
  pub mid : e + length (between e f h) ≡ f

pub four : (h : List Handle) (s e f : ℕ) → s ≤ e → e ≤ f → f ≤ length h → Four h s e f
four h s e f one two three =
    let to_e : s + (e - s) ≡ e = omega (arith, one) in
    let to_f : e + (f - e) ≡ f = omega (arith, two) in
    let last : between e f h ++ drop f h ≡ drop e h = ap (λ n. between e f h ++ drop n h) (sym to_f) ∙ ap (λ zs. between e f h ++ zs) (sym (drop-drop (f - e) e h)) ∙ take-append-drop (f - e) (drop e h) in
    let next : between s e h ++ drop e h ≡ drop s h = ap (λ n. between s e h ++ drop n h) (sym to_e) ∙ ap (λ zs. between s e h ++ zs) (sym (drop-drop (e - s) s h)) ∙ take-append-drop (e - s) (drop s h) in
    record {
      all = sym (ap (λ zs. take s h ++ (between s e h ++ zs)) last ∙ ap (λ zs. take s h ++ zs) next ∙ take-append-drop s h);
      front = length-take-le s h (omega (arith, one, two, three));
      rows = omega (arith, length-between h s e (omega (arith, two, three)), one);
      mid = omega (arith, length-between h e f three, two);
    }

pub length-swapped : (i j : ℕ) (h : List Handle) → length (swapped no_handle i j h) ≡ length h
length-swapped i j h = length-set (set h i (get_or h j no_handle)) j (get_or h i no_handle) ∙ length-set h i (get_or h j no_handle)

-- The doomed ones among the rows that came in

-- the rows before a place are separated: those that stay are first, and the doomed ones are listed
pub record IsParting (out front ts : List Handle) (from : ℕ) (handles listed : List Handle) (low place : ℕ) : Type 0 where
  pub seen : List Handle
  pub junk : List Handle
  pub todo : List Handle
  pub all : ts ≡ seen ++ todo
  pub handles_are : handles ≡ front ++ ((filter (λ h. not (ends_in out h)) seen ++ junk) ++ todo)
  pub listed_are : listed ≡ filter (ends_in out) seen
  pub low_is : low ≡ from + length (filter (λ h. not (ends_in out h)) seen)
  pub place_is : place ≡ from + length seen
  pub sizes : length (filter (λ h. not (ends_in out h)) seen) + length junk ≡ length seen
  pub few : length listed ≤ length seen

module _ (out front ts : List Handle) (from : ℕ) where
  abbrev stays : Handle → Bool
  stays h = not (ends_in out h)

  filter-push : (p : Handle → Bool) (xs : List Handle) (x : Handle) → filter p (xs ++ x ∷ []) ≡ filter p xs ++ cond (p x) (x ∷ []) []
  filter-push p [] x = elim (cases_Bool (p x)) [
    | inl is ↦ rw is refl
    | inr isnt ↦ rw isnt refl
  ]
  filter-push p (y ∷ ys) x = elim (cases_Bool (p y)) [
    | inl is ↦ rw is (ap (λ zs. y ∷ zs) (filter-push p ys x))
    | inr isnt ↦ rw isnt (filter-push p ys x)
  ]

  pub IsParting-start : (handles listed : List Handle) → handles ≡ front ++ ts → listed ≡ [] → IsParting out front ts from handles listed from from
  IsParting-start handles listed are none = record {
    seen = [];
    junk = [];
    todo = ts;
    all = refl;
    handles_are = are;
    listed_are = none;
    low_is = omega arith;
    place_is = omega arith;
    sizes = omega arith;
    few = omega (arith, ap length none);
  }

  pub IsParting-end : (handles listed : List Handle) (low place : ℕ) → from + length ts ≤ place → length front ≡ from → IsParting out front ts from handles listed low place → (take low handles ≡ front ++ filter stays ts) × (listed ≡ filter (ends_in out) ts) × (low ≤ length handles)
  IsParting-end handles listed low place over first on = of on.todo refl
    where
      of : (us : List Handle) → on.todo ≡ us → (take low handles ≡ front ++ filter stays ts) × (listed ≡ filter (ends_in out) ts) × (low ≤ length handles)
      of (t ∷ us) is = absurd (omega (arith, on.place_is, over, ap length on.all, length-append on.seen on.todo, ap length is))
      of [] is =
          let whole : ts ≡ on.seen = on.all ∙ ap (λ us. on.seen ++ us) is ∙ append-nil on.seen in
          let kept : List Handle = filter stays on.seen in
          let shape : handles ≡ (front ++ kept) ++ on.junk = on.handles_are ∙ ap (λ us. front ++ ((kept ++ on.junk) ++ us)) is ∙ ap (λ us. front ++ us) (append-nil (kept ++ on.junk)) ∙ sym (append_assoc front kept on.junk) in
          let size : length (front ++ kept) ≡ low = omega (arith, on.low_is, first, length-append front kept) in
          (rw whole (ap (take low) shape ∙ take_at (front ++ kept) on.junk low size), rw whole on.listed_are, omega (arith, ap length shape, length-append (front ++ kept) on.junk, size))

  module _ (handles listed : List Handle) (low place : ℕ) (first : length front ≡ from) (on : IsParting out front ts from handles listed low place) where
    abbrev kept : List Handle
    kept = filter stays on.seen

    pub record Nearest : Type 0 where
      pub t : Handle
      pub todo : List Handle
      pub todo_is : on.todo ≡ t ∷ todo
      pub at : get_or handles place no_handle ≡ t

    ahead-is : (us : List Handle) → front ++ ((kept ++ on.junk) ++ us) ≡ (front ++ (kept ++ on.junk)) ++ us
    ahead-is us = sym (append_assoc front (kept ++ on.junk) us)

    pub nearest : place < from + length ts → Nearest
    nearest within = of on.todo refl
      where
        of : (us : List Handle) → on.todo ≡ us → Nearest
        of [] is = absurd (omega (arith, on.place_is, within, ap length on.all, length-append on.seen on.todo, ap length is))
        of (t ∷ todo) is = record {
          t = t;
          todo = todo;
          todo_is = is;
          at = ap (λ hs. get_or hs place no_handle) (on.handles_are ∙ ahead-is on.todo ∙ ap (λ us. (front ++ (kept ++ on.junk)) ++ us) is) ∙ get_or_at (front ++ (kept ++ on.junk)) t todo no_handle place (omega (arith, first, on.place_is, on.sizes, length-append front (kept ++ on.junk), length-append kept on.junk));
        }

    module _ (n : Nearest) where
      all-on : ts ≡ (on.seen ++ n.t ∷ []) ++ n.todo
      all-on = on.all ∙ ap (λ us. on.seen ++ us) n.todo_is ∙ sym (append_assoc on.seen (n.t ∷ []) n.todo)

      shape-on : handles ≡ front ++ ((kept ++ on.junk) ++ n.t ∷ n.todo)
      shape-on = on.handles_are ∙ ap (λ us. front ++ ((kept ++ on.junk) ++ us)) n.todo_is

      pub IsParting-doomed : ends_in out n.t ≡ true → IsParting out front ts from handles (listed ++ n.t ∷ []) low (place + 1)
      IsParting-doomed is =
          let off : stays n.t ≡ false = rw is refl in
          let same : filter stays (on.seen ++ n.t ∷ []) ≡ kept = filter-push stays on.seen n.t ∙ rw off (append-nil kept) in
          record {
            seen = on.seen ++ n.t ∷ [];
            junk = on.junk ++ n.t ∷ [];
            todo = n.todo;
            all = all-on;
            handles_are = shape-on ∙ ap (λ us. front ++ us) (append_assoc kept on.junk (n.t ∷ n.todo) ∙ ap (λ us. kept ++ us) (sym (append_assoc on.junk (n.t ∷ []) n.todo)) ∙ sym (append_assoc kept (on.junk ++ n.t ∷ []) n.todo)) ∙ ap (λ ks. front ++ ((ks ++ (on.junk ++ n.t ∷ [])) ++ n.todo)) (sym same);
            listed_are = ap (λ ls. ls ++ n.t ∷ []) on.listed_are ∙ sym (filter-push (ends_in out) on.seen n.t ∙ rw is refl);
            low_is = on.low_is ∙ ap (λ ks. from + length ks) (sym same);
            place_is = omega (arith, on.place_is, length_push on.seen n.t);
            sizes = omega (arith, on.sizes, ap length same, length_push on.junk n.t, length_push on.seen n.t);
            few = omega (arith, on.few, length_push listed n.t, length_push on.seen n.t);
          }

      pub IsParting-stays : ends_in out n.t ≡ false → IsParting out front ts from (swapped no_handle low place handles) listed (low + 1) (place + 1)
      IsParting-stays isnt = of on.junk refl
        where
          is_on : stays n.t ≡ true
          is_on = rw isnt refl

          same : filter stays (on.seen ++ n.t ∷ []) ≡ kept ++ n.t ∷ []
          same = filter-push stays on.seen n.t ∙ rw is_on refl

          made : (junk : List Handle) → swapped no_handle low place handles ≡ front ++ (((kept ++ n.t ∷ []) ++ junk) ++ n.todo) → length kept + length junk ≡ length on.seen → IsParting out front ts from (swapped no_handle low place handles) listed (low + 1) (place + 1)
          made junk are sizes = record {
            seen = on.seen ++ n.t ∷ [];
            junk = junk;
            todo = n.todo;
            all = all-on;
            handles_are = are ∙ ap (λ ks. front ++ ((ks ++ junk) ++ n.todo)) (sym same);
            listed_are = on.listed_are ∙ sym (filter-push (ends_in out) on.seen n.t ∙ rw isnt (append-nil (filter (ends_in out) on.seen)));
            low_is = omega (arith, on.low_is, ap length same, length_push kept n.t);
            place_is = omega (arith, on.place_is, length_push on.seen n.t);
            sizes = omega (arith, sizes, ap length same, length_push kept n.t, length_push on.seen n.t);
            few = omega (arith, on.few, length_push on.seen n.t);
          }

          of : (junk : List Handle) → on.junk ≡ junk → IsParting out front ts from (swapped no_handle low place handles) listed (low + 1) (place + 1)
          of [] is =
              let here : low ≡ place = omega (arith, on.low_is, on.place_is, on.sizes, ap length is) in
              let flat : handles ≡ front ++ (((kept ++ n.t ∷ []) ++ []) ++ n.todo) = shape-on ∙ ap (λ js. front ++ ((kept ++ js) ++ n.t ∷ n.todo)) is ∙ ap (λ ks. front ++ (ks ++ n.t ∷ n.todo)) (append-nil kept) ∙ ap (λ us. front ++ us) (sym (append_assoc kept (n.t ∷ []) n.todo)) ∙ ap (λ ks. front ++ (ks ++ n.todo)) (sym (append-nil (kept ++ n.t ∷ []))) in
              made [] (ap (λ i. swapped no_handle i place handles) here ∙ swapped-same no_handle handles place ∙ flat) (omega (arith, on.sizes, ap length is))
          of (j ∷ js) is =
              let a : List Handle = front ++ kept in
              let old : handles ≡ a ++ j ∷ (js ++ n.t ∷ n.todo) = shape-on ∙ ap (λ ks. front ++ ((kept ++ ks) ++ n.t ∷ n.todo)) is ∙ ap (λ us. front ++ us) (append_assoc kept (j ∷ js) (n.t ∷ n.todo)) ∙ sym (append_assoc front kept (j ∷ (js ++ n.t ∷ n.todo))) in
              let at_i : length a ≡ low = omega (arith, first, on.low_is, length-append front kept) in
              let at_j : length a + (1 + length js) ≡ place = omega (arith, at_i, on.low_is, on.place_is, on.sizes, ap length is) in
              let new : swapped no_handle low place handles ≡ a ++ n.t ∷ (js ++ j ∷ n.todo) = ap (swapped no_handle low place) old ∙ swapped-two no_handle a j js n.t n.todo low place at_i at_j in
              let back : a ++ n.t ∷ (js ++ j ∷ n.todo) ≡ front ++ (((kept ++ n.t ∷ []) ++ (js ++ j ∷ [])) ++ n.todo) =
              append_assoc front kept (n.t ∷ (js ++ j ∷ n.todo)) ∙ ap (λ us. front ++ us) (ap (λ us. kept ++ n.t ∷ us) (sym (append_assoc js (j ∷ []) n.todo)) ∙ sym (append_assoc kept (n.t ∷ []) ((js ++ j ∷ []) ++ n.todo)) ∙ sym (append_assoc (kept ++ n.t ∷ []) (js ++ j ∷ []) n.todo)) in
              made (js ++ j ∷ []) (new ∙ back) (omega (arith, on.sizes, ap length is, length_push js j))
