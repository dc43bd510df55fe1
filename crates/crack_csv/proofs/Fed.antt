-- Records of bytes that are taken in pieces are those of the whole.
use Rattle.std.proofs.Common.{◌≡◌, ℕ, Bool, true, false, cond, List, [], ◌∷◌, ◌++◌, Option, Some, None, refl, sym, ap, ◌∙◌, append-nil, append_assoc}
use Rattle.csv.specs.Machine.{Read, ends_at_end, next_record}
use Rattle.csv.specs.Reading.{default_config, Reached, AreRecords}
use Rattle.csv.specs.declared.parser.State.{State}
use Rattle.csv.specs.declared.parser.State.TheVariants as st
use Rattle.crack_csv.specs.Begun.{Begun, none_begun, ends, with_byte, after_byte, finished_by, after_bytes, finished_records, finished_by_end}

pub after_bytes-append : (b : Begun) (xs ys : List ℕ) → after_bytes b (xs ++ ys) ≡ after_bytes (after_bytes b xs) ys
unfolding after_bytes
after_bytes-append b [] ys = refl
after_bytes-append b (x ∷ xs) ys = after_bytes-append (after_byte b x) xs ys

pub finished-append : (b : Begun) (xs ys : List ℕ) → finished_records b (xs ++ ys) ≡ finished_records b xs ++ finished_records (after_bytes b xs) ys
unfolding after_bytes finished_records
finished-append b [] ys = refl
finished-append b (x ∷ xs) ys =
    ap (λ z. finished_by b x ++ z) (finished-append (after_byte b x) xs ys) ∙ sym (append_assoc (finished_by b x) (finished_records (after_byte b x) xs) (finished_records (after_bytes (after_byte b x) xs) ys))

pub after_bytes-one : (b : Begun) (c : ℕ) → after_bytes b (c ∷ []) ≡ after_byte b c
unfolding after_bytes
after_bytes-one b c = refl

pub finished-one : (b : Begun) (c : ℕ) → finished_records b (c ∷ []) ≡ finished_by b c
unfolding after_bytes finished_records
finished-one b c = append-nil (finished_by b c)

-- the record that the end of the input finishes, as the library's machine reads it
abbrev last_read : Begun → Option Read
last_read b = cond (ends_at_end b.state) (Some (b.fields ++ b.field ∷ [], st.StartRecord, [])) None

-- the next record of bytes behind a record that is begun, if they don't finish one
none_finished : (b : Begun) (xs : List ℕ) → finished_records b xs ≡ [] → next_record default_config b.state b.fields b.field xs ≡ last_read (after_bytes b xs)
unfolding after_bytes finished_records next_record
none_finished b [] e = refl
none_finished b (x ∷ xs) e = by_end (ends b x) refl (none_finished (with_byte b x) xs)
  where
    by_end : (t : Bool) → ends b x ≡ t → (finished_records (with_byte b x) xs ≡ [] → next_record default_config (with_byte b x).state (with_byte b x).fields (with_byte b x).field xs ≡ last_read (after_bytes (with_byte b x) xs)) → next_record default_config b.state b.fields b.field (x ∷ xs) ≡ last_read (after_bytes b (x ∷ xs))
    by_end true is more = absurd (cc (rw is at e))
    by_end false is more =
        let same : after_byte b x ≡ with_byte b x = rw is refl in
        let next : next_record default_config b.state b.fields b.field (x ∷ xs) ≡ next_record default_config (with_byte b x).state (with_byte b x).fields (with_byte b x).field xs = rw is refl in
        next ∙ more (rw is at e) ∙ ap (λ (z : Begun). last_read (after_bytes z xs)) (sym same)

-- the first record that bytes finish is the next one, and the others are behind it
one_finished : (b : Begun) (xs : List ℕ) (r : List (List ℕ)) (rs : List (List (List ℕ))) → finished_records b xs ≡ r ∷ rs
    → (s : State) × (ys : List ℕ) × (next_record default_config b.state b.fields b.field xs ≡ Some (r, s, ys)) × (finished_records (none_begun s) ys ≡ rs) × (after_bytes (none_begun s) ys ≡ after_bytes b xs)
unfolding after_bytes finished_records next_record
one_finished b [] r rs e = absurd (cc e)
one_finished b (x ∷ xs) r rs e = by_end (ends b x) refl (one_finished (with_byte b x) xs r rs)
  where
    by_end : (t : Bool) → ends b x ≡ t
        → (finished_records (with_byte b x) xs ≡ r ∷ rs → (s : State) × (ys : List ℕ) × (next_record default_config (with_byte b x).state (with_byte b x).fields (with_byte b x).field xs ≡ Some (r, s, ys)) × (finished_records (none_begun s) ys ≡ rs) × (after_bytes (none_begun s) ys ≡ after_bytes (with_byte b x) xs))
        → (s : State) × (ys : List ℕ) × (next_record default_config b.state b.fields b.field (x ∷ xs) ≡ Some (r, s, ys)) × (finished_records (none_begun s) ys ≡ rs) × (after_bytes (none_begun s) ys ≡ after_bytes b (x ∷ xs))
    by_end true is more =
        let both : (with_byte b x).fields ∷ finished_records (none_begun (with_byte b x).state) xs ≡ r ∷ rs = rw is at e in
        let first : (with_byte b x).fields ≡ r = cc both in
        let others : finished_records (none_begun (with_byte b x).state) xs ≡ rs = cc both in
        ((with_byte b x).state, xs, rw (is, first) refl, others, rw is refl)
    by_end false is more =
        let rest = more (rw is at e) in
        (rest.0, rest.1, rw is rest.2, rest.3, rw is rest.4)

-- the records that bytes finish are the first of them, and what is left is as it is behind them
pub are_first : (s : State) (xs : List ℕ) (rs : List (List (List ℕ))) → finished_records (none_begun s) xs ≡ rs
    → (s2 : State) × (ys : List ℕ) × Reached default_config s xs rs s2 ys × (next_record default_config s2 [] [] ys ≡ last_read (after_bytes (none_begun s) xs))
unfolding Reached
are_first s xs [] e = (s, xs, (refl, refl), none_finished (none_begun s) xs e)
are_first s xs (r ∷ rs) e =
    let one = one_finished (none_begun s) xs r rs e in
    let more = are_first one.0 one.1 rs one.3 in
    (more.0, more.1, ((r, one.0, one.1), one.2, refl, more.2), more.3 ∙ ap last_read one.4)

reached_more : (s : State) (xs : List ℕ) (rs : List (List (List ℕ))) (s1 : State) (ys : List ℕ) (r : List (List ℕ)) (s2 : State) (zs : List ℕ) → Reached default_config s xs rs s1 ys → next_record default_config s1 [] [] ys ≡ Some (r, s2, zs) → Reached default_config s xs (rs ++ r ∷ []) s2 zs
unfolding Reached
reached_more s xs [] s1 ys r s2 zs reached next = ((r, s2, zs), rw (reached.0, reached.1) next, refl, (refl, refl))
reached_more s xs (q ∷ rs) s1 ys r s2 zs reached next = (reached.0, reached.1, reached.2, reached_more reached.0.1 reached.0.2 rs s1 ys r s2 zs reached.3 next)

-- with the record that the end finishes, they are all
pub are_all : (s : State) (xs : List ℕ) → AreRecords default_config s xs (finished_records (none_begun s) xs ++ finished_by_end (after_bytes (none_begun s) xs))
unfolding Reached next_record
are_all s xs = by_end (ends_at_end (after_bytes (none_begun s) xs).state) refl
  where
    by_end : (t : Bool) → ends_at_end (after_bytes (none_begun s) xs).state ≡ t → AreRecords default_config s xs (finished_records (none_begun s) xs ++ finished_by_end (after_bytes (none_begun s) xs))
    by_end true is =
        let first = are_first s xs (finished_records (none_begun s) xs) refl in
        let last = (after_bytes (none_begun s) xs).fields ++ (after_bytes (none_begun s) xs).field ∷ [] in
        rw is (st.StartRecord, [], reached_more s xs (finished_records (none_begun s) xs) first.0 first.1 last st.StartRecord [] first.2 (rw is at first.3), refl)
    by_end false is =
        let first = are_first s xs (finished_records (none_begun s) xs) refl in
        rw (is, append-nil (finished_records (none_begun s) xs)) (first.0, first.1, first.2, rw is at first.3)
