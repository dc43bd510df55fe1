-- Cells in pages are one list.
use Rattle.std.proofs.Common.{◌≡◌, ℕ, zero, suc, ◌+◌, ◌-◌, ◌*◌, ◌/◌, ◌%◌, ◌<◌, ◌≤◌, List, [], ◌∷◌, ◌++◌, length, get_or, set, take, drop, Bool, true, false, Result, Ok, Err, is_ok, refl, sym, ap, ◌∙◌, inl, inr, arith, length-set}
use Rattle.std.specs.Prelude.{min, replicate, if◌then◌else◌, OnOk, OnErr}
use Rattle.std.proofs.lemmas.List.{length-append, length-replicate, append_assoc, append-nil, get_or_append_left, get_or-append_right, set-append_left, set-append_right, nil_from_length, length_push, drop-append-le, take-append-le, replicate_more, same_from_push}
use Rattle.std.proofs.Math.Seq.{take-append_seam, drop-append-add}
use Rattle.std.proofs.lemmas.Bool.{cases_lt}
use Rattle.crack_arena.specs.Pages.{joined_pages}
use Rattle.crack_arena.specs.Keeps.{IsPaged}

-- the page and the place of a number that is one page further on
record Further (n : ℕ) : Type 0 where
  pub page : n / 256 ≡ suc ((n - 256) / 256)
  pub place : n % 256 ≡ (n - 256) % 256

further : (n : ℕ) → 256 ≤ n → Further n
further n far = record { page = omega arith; place = omega arith }

-- the page and the place of a number in the first page
record First (n : ℕ) : Type 0 where
  pub page : n / 256 ≡ 0
  pub place : n % 256 ≡ n

first : (n : ℕ) → n < 256 → First n
first n near = record { page = omega arith; place = omega arith }

-- what holds of an Ok result, and what of an error
pub on_ok : {X E P : Type 0} (r : Result X E) → (is_ok r ≡ true → P) → OnOk r P
on_ok (Ok x) holds = holds refl
on_ok (Err e) holds = tt

pub on_err : {X E P : Type 0} (r : Result X E) → P → OnErr r P
on_err (Ok x) holds = tt
on_err (Err e) holds = holds

module _ {C : Type 0} where
  pub length-joined : (pages : List (List C)) (len : ℕ) → IsPaged pages len → length (joined_pages pages) ≡ len
  length-joined [] len paged = sym paged
  length-joined (p ∷ ps) len paged = omega (arith, length-append p (joined_pages ps), length-joined ps (len - 256) paged.1, paged.0)

  -- there are pages for all cells
  pub IsPaged-fits : (pages : List (List C)) (len : ℕ) → IsPaged pages len → len ≤ 256 * length pages
  IsPaged-fits [] len paged = omega (arith, paged)
  IsPaged-fits (p ∷ ps) len paged = omega (arith, IsPaged-fits ps (len - 256) paged.1)

  -- how many cells a page has
  pub length_page : (pages : List (List C)) (len k : ℕ) (d : List C) → IsPaged pages len → k < length pages → length (get_or pages k d) ≡ min 256 (len - 256 * k)
  length_page [] len k d paged within = absurd (omega arith)
  length_page (p ∷ ps) len zero d paged within = omega (arith, paged.0)
  length_page (p ∷ ps) len (suc k) d paged within = omega (arith, length_page ps (len - 256) k d paged.1 (omega (arith, within)))

  -- the cell of a number is at its place of its page
  pub get_or-joined : (pages : List (List C)) (len n : ℕ) (e : List C) (d : C) → IsPaged pages len → n < len → get_or (joined_pages pages) n d ≡ get_or (get_or pages (n / 256) e) (n % 256) d
  get_or-joined [] len n e d paged within = absurd (omega (arith, paged))
  get_or-joined (p ∷ ps) len n e d paged within = elim (cases_lt n 256) [
    | inl near ↦
        let at = first n near in
        rw (at.page, at.place) (get_or_append_left p (joined_pages ps) d n (omega (arith, paged.0)))
    | inr far ↦
        let at = further n far in
        let full : length p ≡ 256 = omega (arith, paged.0) in
        rw (at.page, at.place) (get_or-append_right p (joined_pages ps) 256 n d full far ∙ get_or-joined ps (len - 256) (n - 256) e d paged.1 (omega (arith, within)))
  ]

  -- a write at a number is one at its place of its page
  pub set-joined : (pages : List (List C)) (len n : ℕ) (e : List C) (c : C) → IsPaged pages len → n < len → joined_pages (set pages (n / 256) (set (get_or pages (n / 256) e) (n % 256) c)) ≡ set (joined_pages pages) n c
  set-joined [] len n e c paged within = absurd (omega (arith, paged))
  set-joined (p ∷ ps) len n e c paged within = elim (cases_lt n 256) [
    | inl near ↦
        let at = first n near in
        rw (at.page, at.place) (sym (set-append_left p (joined_pages ps) n c (omega (arith, paged.0))))
    | inr far ↦
        let at = further n far in
        let full : length p ≡ 256 = omega (arith, paged.0) in
        rw (at.page, at.place) (ap (λ (cells : List C). p ++ cells) (set-joined ps (len - 256) (n - 256) e c paged.1 (omega (arith, within))) ∙ sym (set-append_right p (joined_pages ps) 256 n c full far))
  ]

  -- the cells of a page are replaced by as many others
  pub IsPaged-set : (pages : List (List C)) (len k : ℕ) (e page : List C) → length page ≡ length (get_or pages k e) → IsPaged pages len → IsPaged (set pages k page) len
  IsPaged-set [] len k e page same paged = paged
  IsPaged-set (p ∷ ps) len zero e page same paged = (omega (arith, same, paged.0), paged.1)
  IsPaged-set (p ∷ ps) len (suc k) e page same paged = (paged.0, IsPaged-set ps (len - 256) k e page same paged.1)

  -- no cells
  pub joined_none : (pages : List (List C)) → IsPaged pages 0 → joined_pages pages ≡ []
  joined_none [] paged = refl
  joined_none (p ∷ ps) paged = rw (nil_from_length p (omega (arith, paged.0))) (joined_none ps paged.1)

  -- a cell after the last
  pub joined-push : (pages : List (List C)) (len : ℕ) (e : List C) (c : C) → IsPaged pages len → len < 256 * length pages → joined_pages (set pages (len / 256) (get_or pages (len / 256) e ++ c ∷ [])) ≡ joined_pages pages ++ c ∷ []
  joined-push [] len e c paged room = absurd (omega arith)
  joined-push (p ∷ ps) len e c paged room = elim (cases_lt len 256) [
    | inl near ↦
        let at = first len near in
        let rest : joined_pages ps ≡ [] = joined_none ps (let past : len - 256 ≡ 0 = omega (arith, near) in rw past at paged.1) in
        rw (at.page, rest, append-nil (p ++ c ∷ []), append-nil p) refl
    | inr far ↦
        let at = further len far in
        rw at.page (ap (λ (cells : List C). p ++ cells) (joined-push ps (len - 256) e c paged.1 (omega (arith, room))) ∙ sym (append_assoc p (joined_pages ps) (c ∷ [])))
  ]

  pub IsPaged-push : (pages : List (List C)) (len : ℕ) (e : List C) (c : C) → IsPaged pages len → len < 256 * length pages → IsPaged (set pages (len / 256) (get_or pages (len / 256) e ++ c ∷ [])) (len + 1)
  IsPaged-push [] len e c paged room = absurd (omega arith)
  IsPaged-push (p ∷ ps) len e c paged room = elim (cases_lt len 256) [
    | inl near ↦
        let at = first len near in
        let past : len + 1 - 256 ≡ len - 256 = omega (arith, near) in
        rw (at.page, past) (omega (arith, near, paged.0, length_push p c), paged.1)
    | inr far ↦
        let at = further len far in
        let next : len + 1 - 256 ≡ len - 256 + 1 = omega (arith, far) in
        rw (at.page, next) (omega (arith, far, paged.0), IsPaged-push ps (len - 256) e c paged.1 (omega (arith, room)))
  ]

  -- pages without cells after the last
  pub joined-more : (pages : List (List C)) (more : ℕ) → joined_pages (pages ++ replicate more []) ≡ joined_pages pages
  joined-more [] zero = refl
  joined-more [] (suc more) = joined-more [] more
  joined-more (p ∷ ps) more = ap (λ (cells : List C). p ++ cells) (joined-more ps more)

  pub IsPaged-more : (pages : List (List C)) (len more : ℕ) → IsPaged pages len → IsPaged (pages ++ replicate more []) len
  IsPaged-more [] len zero paged = paged
  IsPaged-more [] len (suc more) paged = rw paged (refl, IsPaged-more [] 0 more refl)
  IsPaged-more (p ∷ ps) len more paged = (paged.0, IsPaged-more ps (len - 256) more paged.1)

  -- pages that were taken, or weren't
  pub joined_taken : (b : Bool) (old new : List (List C)) (more : ℕ) → new ≡ (if b then old ++ replicate more [] else old) → joined_pages new ≡ joined_pages old
  joined_taken true old new more taken = rw taken (joined-more old more)
  joined_taken false old new more taken = ap joined_pages taken

  pub IsPaged_taken : (b : Bool) (old new : List (List C)) (len more : ℕ) → new ≡ (if b then old ++ replicate more [] else old) → IsPaged old len → IsPaged new len
  IsPaged_taken true old new len more taken paged = rw taken (IsPaged-more old len more paged)
  IsPaged_taken false old new len more taken paged = rw taken paged

  pub length_taken : (old new : List (List C)) (more : ℕ) → new ≡ old ++ replicate more [] → length new ≡ length old + more
  length_taken old new more taken = ap length taken ∙ length-append old (replicate more []) ∙ ap (λ (n : ℕ). length old + n) (length-replicate more [])

  -- a page that was read, and a cell of it
  pub within_page : (pages : List (List C)) (len n : ℕ) (page : List C) → IsPaged pages len → n < len → page ≡ get_or pages (n / 256) page → n % 256 < length page
  within_page pages len n page paged within found =
      let fits = IsPaged-fits pages len paged in
      let long = length_page pages len (n / 256) page paged (omega (arith, fits, within)) in
      omega (arith, long, ap length found, within)

  pub read_joined : (pages : List (List C)) (len n : ℕ) (page : List C) (x : C) → IsPaged pages len → n < len → page ≡ get_or pages (n / 256) page → x ≡ get_or page (n % 256) x → x ≡ get_or (joined_pages pages) n x
  read_joined pages len n page x paged within found read =
      read ∙ ap (λ (p : List C). get_or p (n % 256) x) found ∙ sym (get_or-joined pages len n page x paged within)

  -- a page that was read and written
  pub joined_written : (pages : List (List C)) (len n : ℕ) (page : List C) (c : C) → IsPaged pages len → n < len → page ≡ get_or pages (n / 256) page → joined_pages (set pages (n / 256) (set page (n % 256) c)) ≡ set (joined_pages pages) n c
  joined_written pages len n page c paged within found =
      ap (λ (p : List C). joined_pages (set pages (n / 256) (set p (n % 256) c))) found ∙ set-joined pages len n page c paged within

  pub IsPaged_written : (pages : List (List C)) (len n : ℕ) (page : List C) (c : C) → IsPaged pages len → page ≡ get_or pages (n / 256) page → IsPaged (set pages (n / 256) (set page (n % 256) c)) len
  IsPaged_written pages len n page c paged found =
      IsPaged-set pages len (n / 256) page (set page (n % 256) c) (length-set page (n % 256) c ∙ ap length found) paged

  -- a page that was read, with room for a cell
  pub short_page : (pages : List (List C)) (len : ℕ) (page : List C) → IsPaged pages len → len < 256 * length pages → page ≡ get_or pages (len / 256) page → length page < 256
  short_page pages len page paged room found =
      let long = length_page pages len (len / 256) page paged (omega (arith, room)) in
      omega (arith, long, ap length found)

  pub joined_pushed : (pages : List (List C)) (len : ℕ) (page : List C) (c : C) → IsPaged pages len → len < 256 * length pages → page ≡ get_or pages (len / 256) page → joined_pages (set pages (len / 256) (page ++ c ∷ [])) ≡ joined_pages pages ++ c ∷ []
  joined_pushed pages len page c paged room found =
      ap (λ (p : List C). joined_pages (set pages (len / 256) (p ++ c ∷ []))) found ∙ joined-push pages len page c paged room

  pub IsPaged_pushed : (pages : List (List C)) (len : ℕ) (page : List C) (c : C) → IsPaged pages len → len < 256 * length pages → page ≡ get_or pages (len / 256) page → IsPaged (set pages (len / 256) (page ++ c ∷ [])) (len + 1)
  IsPaged_pushed pages len page c paged room found =
      let sound = IsPaged-push pages len page c paged room in
      rw (← found) at sound

  -- after the first `kept` pages there are only pages without cells
  pub record AreSpare (pages : List (List C)) (kept : ℕ) : Type 0 where
    pub within : kept ≤ length pages
    pub empty : drop kept pages ≡ replicate (length pages - kept) []

  -- the last of them is freed
  pub record Given (pages rest : List (List C)) (page : List C) (kept : ℕ) : Type 0 where
    pub empty : page ≡ []
    pub spare : AreSpare rest kept
    pub same : take kept rest ≡ take kept pages

  pub Given-last : (pages rest : List (List C)) (page : List C) (kept : ℕ) → AreSpare pages kept → kept < length pages → pages ≡ rest ++ page ∷ [] → Given pages rest page kept
  Given-last pages rest page kept spare more split =
      let long : length pages ≡ length rest + 1 = ap length split ∙ length_push rest page in
      let within : kept ≤ length rest = omega (arith, long, more) in
      let counted : length pages - kept ≡ length rest - kept + 1 = omega (arith, long, within) in
      let empty : drop kept rest ++ page ∷ [] ≡ replicate (length rest - kept) [] ++ [] ∷ [] =
      sym (drop-append-le kept rest (page ∷ []) within) ∙ ap (drop kept) (sym split) ∙ spare.empty ∙ ap (λ (n : ℕ). replicate {A = List C} n []) counted ∙ sym (replicate_more (length rest - kept) []) in
      let both = same_from_push (drop kept rest) (replicate (length rest - kept) []) page [] empty in
      record {
        empty = both.1;
        spare = record { within = within; empty = both.0 };
        same = sym (take-append-le kept rest (page ∷ []) within) ∙ ap (take kept) (sym split);
      }

  -- the cells from a number on begin with those of its page from its place on
  pub drop_joined : (pages : List (List C)) (len n : ℕ) (page : List C) → IsPaged pages len → n < len → page ≡ get_or pages (n / 256) page → drop (n % 256) page ≡ take (length (drop (n % 256) page)) (drop n (joined_pages pages))
  drop_joined [] len n page paged within found = absurd (omega (arith, paged))
  drop_joined (p ∷ ps) len n page paged within found = elim (cases_lt n 256) [
    | inl near ↦
        let at = first n near in
        let here : page ≡ p = rw at.page at found in
        rw (at.place, here, drop-append-le n p (joined_pages ps) (omega (arith, paged.0, within, near))) (sym (take-append_seam (drop n p) (joined_pages ps)))
    | inr far ↦
        let at = further n far in
        let full : length p ≡ 256 = omega (arith, paged.0) in
        let past : n ≡ length p + (n - 256) = omega (arith, full, far) in
        let rest : drop n (p ++ joined_pages ps) ≡ drop (n - 256) (joined_pages ps) = ap (λ k. drop k (p ++ joined_pages ps)) past ∙ drop-append-add p (joined_pages ps) (n - 256) in
        rw (rest, at.place) (drop_joined ps (len - 256) (n - 256) page paged.1 (omega (arith, within)) (rw at.page at found))
  ]
