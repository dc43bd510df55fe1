-- How a loader goes on, one record after another.
use Rattle.std.proofs.Common.{◌≡◌, ℕ, ◌+◌, ◌<◌, ◌==◌, ◌&&◌, ◌⊎◌, Bool, true, false, Option, Some, None, Ok, Err, List, [], ◌∷◌, ◌++◌, length, map, refl, sym, ap, ◌∙◌, subst, cond, fold, inl, inr, arith, append-nil, append_assoc, length-append}
use Rattle.std.proofs.lemmas.List.{map-append}
use Rattle.crack_row.specs.declared.Bound.{Bound}
use Rattle.crack_plain.specs.Plain.{PlainView}
use Rattle.crack_core.specs.Steps.{Bounds}
use Rattle.crack_session.specs.Calls.{Call, Calls}
use Rattle.crack_row.specs.declared.command.Reply.{Reply}
use Rattle.crack_row.specs.declared.command.Policy.{Policy}
use Rattle.crack_row.specs.declared.refusal.Refusal.{Refusal}
use Rattle.crack_row.specs.declared.refusal.Refusal.TheVariants.{ReadFault, BadRecord}
use Rattle.crack_csv.specs.declared.record.NewRow.{NewRow}
use Rattle.crack_csv.specs.declared.load.LoadFault.{LoadFault}
use Rattle.crack_csv.specs.declared.TheConstants.{MOST_RECORDS}
use Rattle.crack_csv.specs.Asked.{insertion, IsRefusedBy}
use Rattle.csv.specs.Machine.{step, is_end, ends_at_end, field_after}
use Rattle.csv.specs.Reading.{default_config, strip_bom}
use Rattle.csv.specs.declared.parser.Action.{Action}
use Rattle.csv.specs.declared.parser.Action.TheVariants as act
use Rattle.csv.specs.declared.parser.State.{State}
use Rattle.csv.specs.declared.parser.State.TheVariants as st
use Rattle.crack_csv.specs.Begun.{KeptRecord, none_begun, ends, with_byte, kept_of_record, after_bytes, finished_records}
use Rattle.crack_csv.specs.Loaders.{AreLoaded, HasStopped, HasLoaded, HasEnded, EndsWith, StopsAtEnd, all_records_in, LoaderState, IsHead, Takes, StopsBehind, records_in, begun_in}
use Rattle.crack_csv.specs.Loads.{Refuses, tables_with_row}
use Rattle.crack_csv.specs.Records.{is_header, without_header, new_row_of}
use Rattle.crack_csv.specs.Taking.{ended_record, kept_by, kept_with, TakesRecord, StopsAtRecord, kept_is_header, kept_row}
use Rattle.crack_session.proofs.Calling.{Calls-push}
use Rattle.crack_csv.proofs.Inserting.{AllZip-add, AsksRow, IsAnswered}
use Rattle.crack_csv.proofs.Fed.{are_all}
use Rattle.crack_csv.proofs.Keeping.{kept_byte, kept_last}
use Rattle.crack_csv.proofs.Short.{header_kept, row_kept}
use Rattle.crack_csv.proofs.Texts.{begun_more, records_more}
use Rattle.crack_csv.proofs.Loading.{BringsRow, Fields, AreInserted-push, AreInserted-header, no_header, first_is_header, without_header-push}

-- the next record is read by what is kept of it
pub header_is : (k : KeptRecord) (state : State) (fields : Fields) (number : ℕ) (is t : Bool) → k ≡ kept_of_record (ended_record state fields) → is ≡ (number == 1 && kept_is_header k) → is ≡ t → (number == 1 && is_header fields) ≡ t
header_is k state fields number is t kept said tested = ap (λ (h : Bool). number == 1 && h) (sym (ap kept_is_header kept ∙ header_kept state fields)) ∙ sym said ∙ tested

pub row_is : (k : KeptRecord) (state : State) (fields : Fields) (row : Option NewRow) → k ≡ kept_of_record (ended_record state fields) → row ≡ kept_row k → new_row_of fields ≡ row
row_is k state fields row kept said = sym (said ∙ ap kept_row kept ∙ row_kept state fields)

refused_none : (splits : List Bound) (policy : Policy) (number : ℕ) (row : Option NewRow) → row ≡ None → IsRefusedBy splits policy number row (BadRecord number) []
refused_none splits policy number row is = subst (λ (o : Option NewRow). IsRefusedBy splits policy number o (BadRecord number) []) (sym is) (refl, refl)

refuses_none : (bounds : Bounds) (splits : List Bound) (tables : List PlainView) (number : ℕ) (row : Option NewRow) → row ≡ None → Refuses bounds splits tables number row (BadRecord number)
refuses_none bounds splits tables number row is = subst (λ (o : Option NewRow). Refuses bounds splits tables number o (BadRecord number)) (sym is) refl

no_field_left : (a : Action) (c : ℕ) (field : List ℕ) → is_end a ≡ true → field_after a c field ≡ []
no_field_left act.Skip c field e = absurd (cc e)
no_field_left act.Copy c field e = absurd (cc e)
no_field_left act.EndField c field e = absurd (cc e)
no_field_left act.EndRecord c field e = refl

-- what a loader does with one more byte is seen by what it keeps
pub ends_kept : (k : KeptRecord) (before : List ℕ) (c : ℕ) → k ≡ kept_of_record (begun_in before) → is_end (step default_config k.state c).1 ≡ ends (begun_in before) c
ends_kept k before c kept = ap (λ (z : KeptRecord). is_end (step default_config z.state c).1) kept

pub kept_more : (k : KeptRecord) (before : List ℕ) (c : ℕ) → k ≡ kept_of_record (begun_in before) → kept_with k c ≡ kept_of_record (with_byte (begun_in before) c)
kept_more k before c kept = ap (λ (z : KeptRecord). kept_with z c) kept ∙ sym (kept_byte (begun_in before) c)

-- a record that a byte ends has no field at hand
pub kept_ended : (k : KeptRecord) (before : List ℕ) (c : ℕ) → k ≡ kept_of_record (begun_in before) → is_end (step default_config k.state c).1 ≡ true → kept_with k c ≡ kept_of_record (ended_record (with_byte (begun_in before) c).state (with_byte (begun_in before) c).fields)
kept_ended k before c kept end =
    let b = begun_in before in
    let none : (with_byte b c).field ≡ [] = no_field_left (step default_config b.state c).1 c b.field (sym (ends_kept k before c kept) ∙ end) in
    kept_more k before c kept ∙ ap (λ (z : List ℕ). kept_of_record (record { state = (with_byte b c).state; fields = (with_byte b c).fields; field = z })) none

records_ended : (before : List ℕ) (c : ℕ) → strip_bom (before ++ c ∷ []) ≡ strip_bom before ++ c ∷ [] → ends (begun_in before) c ≡ true → records_in (before ++ c ∷ []) ≡ records_in before ++ (with_byte (begun_in before) c).fields ∷ []
records_ended before c text end = records_more before c text ∙ ap (λ (t : Bool). records_in before ++ cond t ((with_byte (begun_in before) c).fields ∷ []) []) end

module _ {D : Type 0} (bounds : D → Bounds) (splits : D → List Bound) (tables : D → Option (List PlainView)) (accepted : D → ℕ) (leads : D → Call → D → Type 0) (policy : Policy) (origin : D) where
  pub AreLoaded-start : AreLoaded bounds splits tables accepted leads policy origin [] 0 0 origin
  AreLoaded-start = record {
    count = refl;
    calls = [];
    were = refl;
    are = record { rows = []; are = refl; count_is = refl; each = tt };
    if_known = λ known e. record { rows = []; are = refl; count_is = refl; left_is = e };
    accepted_are = omega arith;
    splits_are = refl;
    bounds_are = refl;
  }

  -- a header
  pub AreLoaded-header : {records : List Fields} {number loaded : ℕ} {now : D} (fields : Fields) → AreLoaded bounds splits tables accepted leads policy origin records number loaded now → (number + 1 == 1 && is_header fields) ≡ true
      → AreLoaded bounds splits tables accepted leads policy origin (records ++ fields ∷ []) (number + 1) loaded now
  AreLoaded-header {records} {number} fields was header =
      let next : length records + 1 ≡ number + 1 = let c = was.count in omega (arith, c) in
      record {
        count = let l = length-append records (fields ∷ []) in omega (arith, l, next);
        calls = was.calls;
        were = was.were;
        are = record {
          rows = was.are.rows;
          are = ap (map new_row_of) (first_is_header records fields (number + 1) next header) ∙ was.are.are;
          count_is = was.are.count_is;
          each = was.are.each;
        };
        if_known = λ known e. AreInserted-header records fields (number + 1) next header (was.if_known known e);
        accepted_are = was.accepted_are;
        splits_are = was.splits_are;
        bounds_are = was.bounds_are;
      }

  -- a row
  pub AreLoaded-row : {records : List Fields} {number loaded : ℕ} {now : D} (fields : Fields) (next : D) → AreLoaded bounds splits tables accepted leads policy origin records number loaded now → (number + 1 == 1 && is_header fields) ≡ false
      → AsksRow leads (splits now) policy fields now next → ((known : List PlainView) → tables now ≡ Some known → BringsRow (bounds now) (splits now) known fields (tables next)) → accepted next ≡ accepted now + 1 → splits next ≡ splits now → bounds next ≡ bounds now
      → AreLoaded bounds splits tables accepted leads policy origin (records ++ fields ∷ []) (number + 1) (loaded + 1) next
  AreLoaded-row {records} {number} {loaded} {now} fields next was plain asks brings one same_splits same_bounds =
      let after : length records + 1 ≡ number + 1 = let c = was.count in omega (arith, c) in
      let other = no_header records fields (number + 1) after plain in
      let asked : AsksRow leads (splits origin) policy fields now next = subst (λ (s : List Bound). AsksRow leads s policy fields now next) was.splits_are asks in
      record {
        count = let l = length-append records (fields ∷ []) in omega (arith, l, after);
        calls = was.calls ++ insertion (splits origin) policy asked.0 (Ok asked.2) ∷ [];
        were = Calls-push leads origin was.calls now (insertion (splits origin) policy asked.0 (Ok asked.2)) next was.were asked.3;
        are = record {
          rows = was.are.rows ++ asked.0 ∷ [];
          are = ap (map new_row_of) (without_header-push records fields other) ∙ map-append new_row_of (without_header records) (fields ∷ [])
              ∙ ap (λ (z : List (Option NewRow)). z ++ new_row_of fields ∷ []) was.are.are ∙ ap (λ (o : Option NewRow). map Some was.are.rows ++ o ∷ []) asked.1
              ∙ sym (map-append Some was.are.rows (asked.0 ∷ []));
          count_is = let l = length-append was.are.rows (asked.0 ∷ []) in let c = was.are.count_is in omega (arith, l, c);
          each = AllZip-add (IsAnswered (splits origin) policy) was.are.rows was.calls asked.0 (insertion (splits origin) policy asked.0 (Ok asked.2)) was.are.each (asked.2, refl);
        };
        if_known = λ known e.
            let so_far = was.if_known known e in
            let rows = fold (tables_with_row (bounds origin) (splits origin)) known so_far.rows in
            AreInserted-push records fields (tables next) so_far other
            (subst (λ (b : Bounds). BringsRow b (splits origin) rows fields (tables next)) was.bounds_are (subst (λ (s : List Bound). BringsRow (bounds now) s rows fields (tables next)) was.splits_are (brings rows so_far.left_is)));
        accepted_are = let a = was.accepted_are in omega (arith, a, one);
        splits_are = same_splits ∙ was.splits_are;
        bounds_are = same_bounds ∙ was.bounds_are;
      }

  -- a record that isn't inserted after these others
  pub HasStopped-now : {records : List Fields} {number loaded : ℕ} {now : D} (fields : Fields) (refusal : Refusal) (last : List Call) (next : D) → AreLoaded bounds splits tables accepted leads policy origin records number loaded now → (number + 1 == 1 && is_header fields) ≡ false
      → Calls leads now last next
      → ((last ≡ []) × (loaded ≡ MOST_RECORDS) × (refusal ≡ ReadFault)) ⊎ ((loaded < MOST_RECORDS) × IsRefusedBy (splits now) policy (number + 1) (new_row_of fields) refusal last)
      → ((known : List PlainView) → tables now ≡ Some known → (tables next ≡ Some known)
      × (((loaded ≡ MOST_RECORDS) × (refusal ≡ ReadFault)) ⊎ ((loaded < MOST_RECORDS) × Refuses (bounds now) (splits now) known (number + 1) (new_row_of fields) refusal)))
      → accepted next ≡ accepted now → splits next ≡ splits now → bounds next ≡ bounds now
      → HasStopped bounds splits tables accepted leads policy origin (records ++ fields ∷ []) (record { refusal = refusal; loaded = loaded }) next
  HasStopped-now {records} {number} {loaded} {now} fields refusal last next was plain called cause told none same_splits same_bounds =
      let after : length records + 1 ≡ number + 1 = let c = was.count in omega (arith, c) in
      record {
        first = records;
        fields = fields;
        split = refl;
        no_header = without_header-push records fields (no_header records fields (number + 1) after plain);
        between = now;
        loaded = subst (λ (n : ℕ). AreLoaded bounds splits tables accepted leads policy origin records n loaded now) (sym was.count) was;
        last = last;
        was = called;
        cause = rw (after, ← was.splits_are) cause;
        if_known = λ known e. rw (after, ← was.splits_are, ← was.bounds_are) (told known e);
        accepted_are = none ∙ was.accepted_are;
        splits_are = same_splits ∙ was.splits_are;
        bounds_are = same_bounds ∙ was.bounds_are;
      }

  -- one more byte within a record
  pub HasLoaded-within : {before : List ℕ} {s : LoaderState} {now : D} (c : ℕ) (s' : LoaderState) → HasLoaded bounds splits tables accepted leads policy origin before s now → is_end (step default_config s.kept.state c).1 ≡ false
      → IsHead s'.head (before ++ c ∷ []) × (strip_bom (before ++ c ∷ []) ≡ strip_bom before ++ c ∷ []) → s'.kept ≡ kept_with s.kept c → s'.policy ≡ s.policy → s'.number ≡ s.number → s'.loaded ≡ s.loaded
      → HasLoaded bounds splits tables accepted leads policy origin (before ++ c ∷ []) s' now
  HasLoaded-within {before} {s} {now} c s' was within text kept same_policy same_number same_loaded =
      let none : ends (begun_in before) c ≡ false = sym (ends_kept s.kept before c was.kept_is) ∙ within in
      let records : records_in (before ++ c ∷ []) ≡ records_in before = records_more before c text.1 ∙ ap (λ (t : Bool). records_in before ++ cond t ((with_byte (begun_in before) c).fields ∷ []) []) none ∙ append-nil (records_in before) in
      let begun : begun_in (before ++ c ∷ []) ≡ with_byte (begun_in before) c = begun_more before c text.1 ∙ ap (λ (t : Bool). cond t (none_begun (with_byte (begun_in before) c).state) (with_byte (begun_in before) c)) none in
      record {
        loaded = rw (records, same_number, same_loaded) was.loaded;
        policy_is = same_policy ∙ was.policy_is;
        kept_is = kept ∙ kept_more s.kept before c was.kept_is ∙ ap kept_of_record (sym begun);
        head_is = text.0;
      }

  -- a byte that ends a record
  pub HasLoaded-ended : {before : List ℕ} {s : LoaderState} {now : D} (c : ℕ) (s' : LoaderState) (next : D) → HasLoaded bounds splits tables accepted leads policy origin before s now → is_end (step default_config s.kept.state c).1 ≡ true
      → IsHead s'.head (before ++ c ∷ []) × (strip_bom (before ++ c ∷ []) ≡ strip_bom before ++ c ∷ []) → s'.kept ≡ kept_of_record (none_begun (kept_with s.kept c).state) → s'.policy ≡ s.policy
      → AreLoaded bounds splits tables accepted leads policy origin (records_in before ++ (with_byte (begun_in before) c).fields ∷ []) s'.number s'.loaded next
      → HasLoaded bounds splits tables accepted leads policy origin (before ++ c ∷ []) s' next
  HasLoaded-ended {before} {s} {now} c s' next was end text kept same_policy loaded =
      let is : ends (begun_in before) c ≡ true = sym (ends_kept s.kept before c was.kept_is) ∙ end in
      let begun : begun_in (before ++ c ∷ []) ≡ none_begun (with_byte (begun_in before) c).state = begun_more before c text.1 ∙ ap (λ (t : Bool). cond t (none_begun (with_byte (begun_in before) c).state) (with_byte (begun_in before) c)) is in
      let state : (kept_with s.kept c).state ≡ (with_byte (begun_in before) c).state = ap (λ (k : KeptRecord). k.state) (kept_more s.kept before c was.kept_is) in
      record {
        loaded = rw (records_ended before c text.1 is) loaded;
        policy_is = same_policy ∙ was.policy_is;
        kept_is = kept ∙ ap (λ (z : State). kept_of_record (none_begun z)) state ∙ ap kept_of_record (sym begun);
        head_is = text.0;
      }

  -- and is refused
  pub HasStopped-ended : {before : List ℕ} {s : LoaderState} {now : D} (c : ℕ) (fault : LoadFault) (next : D) → HasLoaded bounds splits tables accepted leads policy origin before s now → is_end (step default_config s.kept.state c).1 ≡ true
      → strip_bom (before ++ c ∷ []) ≡ strip_bom before ++ c ∷ [] → HasStopped bounds splits tables accepted leads policy origin (records_in before ++ (with_byte (begun_in before) c).fields ∷ []) fault next
      → HasStopped bounds splits tables accepted leads policy origin (records_in (before ++ c ∷ [])) fault next
  HasStopped-ended {before} {s} c fault next was end text stopped = rw (records_ended before c text (sym (ends_kept s.kept before c was.kept_is) ∙ end)) stopped

  -- the last byte of a byte order mark
  pub HasLoaded-marked : {before : List ℕ} {s : LoaderState} {now : D} (c : ℕ) (s' : LoaderState) → HasLoaded bounds splits tables accepted leads policy origin before s now
      → IsHead s'.head (before ++ c ∷ []) × (begun_in (before ++ c ∷ []) ≡ none_begun st.StartRecord) × (records_in (before ++ c ∷ []) ≡ records_in before) → s'.kept ≡ kept_of_record (none_begun st.StartRecord) → s'.policy ≡ s.policy → s'.number ≡ s.number → s'.loaded ≡ s.loaded
      → HasLoaded bounds splits tables accepted leads policy origin (before ++ c ∷ []) s' now
  HasLoaded-marked {before} {s} {now} c s' was text kept same_policy same_number same_loaded = record {
    loaded = rw (text.2, same_number, same_loaded) was.loaded;
    policy_is = same_policy ∙ was.policy_is;
    kept_is = kept ∙ ap kept_of_record (sym text.1);
    head_is = text.0;
  }

module _ {D : Type 0} (bounds : D → Bounds) (splits : D → List Bound) (tables : D → Option (List PlainView)) (accepted : D → ℕ) (leads : D → Call → D → Type 0) where
  -- no bytes
  pub Takes-none : (s : LoaderState) (now : D) → Takes bounds splits tables accepted leads s [] now now s
  Takes-none s now origin before has = rw (append-nil before) has

  -- feeding pieces is feeding the whole
  pub Takes-then : (s s' s'' : LoaderState) (xs ys : List ℕ) (now next last : D) → s'.policy ≡ s.policy → Takes bounds splits tables accepted leads s xs now next s' → Takes bounds splits tables accepted leads s' ys next last s''
      → Takes bounds splits tables accepted leads s (xs ++ ys) now last s''
  Takes-then s s' s'' xs ys now next last same first then origin before has =
      rw (← append_assoc before xs ys) (subst (λ (p : Policy). HasLoaded bounds splits tables accepted leads p origin ((before ++ xs) ++ ys) s'' last) same
      (then origin (before ++ xs) (subst (λ (p : Policy). HasLoaded bounds splits tables accepted leads p origin (before ++ xs) s' next) (sym same) (first origin before has))))

  pub StopsBehind-then : (s s' : LoaderState) (fault : LoadFault) (xs ys : List ℕ) (now next last : D) → s'.policy ≡ s.policy → Takes bounds splits tables accepted leads s xs now next s' → StopsBehind bounds splits tables accepted leads s' ys next last fault
      → StopsBehind bounds splits tables accepted leads s (xs ++ ys) now last fault
  StopsBehind-then s s' fault xs ys now next last same first then origin before has =
      rw (← append_assoc before xs ys) (subst (λ (p : Policy). HasStopped bounds splits tables accepted leads p origin (records_in ((before ++ xs) ++ ys)) fault last) same
      (then origin (before ++ xs) (subst (λ (p : Policy). HasLoaded bounds splits tables accepted leads p origin (before ++ xs) s' next) (sym same) (first origin before has))))

  -- the record that has ended is one more than are allowed
  pub StopsAtRecord-full : (s : LoaderState) (now : D) (is : Bool) → is ≡ (s.number + 1 == 1 && kept_is_header s.kept) → is ≡ false → s.loaded ≡ MOST_RECORDS → StopsAtRecord bounds splits tables accepted leads s now now (record { refusal = ReadFault; loaded = s.loaded })
  StopsAtRecord-full s now is said plain all origin records state fields was kept =
      HasStopped-now bounds splits tables accepted leads s.policy origin fields ReadFault [] now was (header_is s.kept state fields (s.number + 1) is false kept said plain) refl
      (inl (refl, all, refl)) (λ known e. (e, inl (all, refl))) refl refl refl

  -- it isn't a row
  pub StopsAtRecord-bad : (s : LoaderState) (now : D) (is : Bool) (row : Option NewRow) → is ≡ (s.number + 1 == 1 && kept_is_header s.kept) → is ≡ false → s.loaded < MOST_RECORDS → row ≡ kept_row s.kept → row ≡ None
      → StopsAtRecord bounds splits tables accepted leads s now now (record { refusal = BadRecord (s.number + 1); loaded = s.loaded })
  StopsAtRecord-bad s now is row said plain few read none origin records state fields was kept =
      let no_row : new_row_of fields ≡ None = row_is s.kept state fields row kept read ∙ none in
      HasStopped-now bounds splits tables accepted leads s.policy origin fields (BadRecord (s.number + 1)) [] now was (header_is s.kept state fields (s.number + 1) is false kept said plain) refl
      (inr (few, refused_none (splits now) s.policy (s.number + 1) (new_row_of fields) no_row))
      (λ known e. (e, inr (few, refuses_none (bounds now) (splits now) known (s.number + 1) (new_row_of fields) no_row))) refl refl refl

  -- the desk refuses its row
  pub StopsAtRecord-refused : (s : LoaderState) (now next : D) (is : Bool) (row : NewRow) (e : Refusal) → is ≡ (s.number + 1 == 1 && kept_is_header s.kept) → is ≡ false → s.loaded < MOST_RECORDS → Some row ≡ kept_row s.kept
      → leads now (insertion (splits now) s.policy row (Err e)) next → ((known : List PlainView) → tables now ≡ Some known → tables next ≡ Some known)
      → ((known : List PlainView) → tables now ≡ Some known → Refuses (bounds now) (splits now) known (s.number + 1) (Some row) e)
      → accepted next ≡ accepted now → splits next ≡ splits now → bounds next ≡ bounds now
      → StopsAtRecord bounds splits tables accepted leads s now next (record { refusal = e; loaded = s.loaded })
  StopsAtRecord-refused s now next is row e said plain few read led left refused none same_splits same_bounds origin records state fields was kept =
      let is_row : new_row_of fields ≡ Some row = row_is s.kept state fields (Some row) kept read in
      HasStopped-now bounds splits tables accepted leads s.policy origin fields e (insertion (splits now) s.policy row (Err e) ∷ []) next was (header_is s.kept state fields (s.number + 1) is false kept said plain) (next, led, refl)
      (inr (few, subst (λ (o : Option NewRow). IsRefusedBy (splits now) s.policy (s.number + 1) o e (insertion (splits now) s.policy row (Err e) ∷ [])) (sym is_row) refl))
      (λ known h. (left known h, inr (few, subst (λ (o : Option NewRow). Refuses (bounds now) (splits now) known (s.number + 1) o e) (sym is_row) (refused known h)))) none same_splits same_bounds

  -- a header is skipped
  pub TakesRecord-header : (s s' : LoaderState) (now : D) (is : Bool) → is ≡ (s.number + 1 == 1 && kept_is_header s.kept) → is ≡ true → s'.number ≡ s.number + 1 → s'.loaded ≡ s.loaded → TakesRecord bounds splits tables accepted leads s now now s'
  TakesRecord-header s s' now is said header one none origin records state fields was kept =
      rw (one, none) (AreLoaded-header bounds splits tables accepted leads s.policy origin fields was (header_is s.kept state fields (s.number + 1) is true kept said header))

  -- a row is inserted
  pub TakesRecord-row : (s s' : LoaderState) (now next : D) (is : Bool) (row : NewRow) → is ≡ (s.number + 1 == 1 && kept_is_header s.kept) → is ≡ false → Some row ≡ kept_row s.kept → s'.number ≡ s.number + 1 → s'.loaded ≡ s.loaded + 1
      → (reply : Reply) × leads now (insertion (splits now) s.policy row (Ok reply)) next → ((known : List PlainView) → tables now ≡ Some known → tables next ≡ Some (tables_with_row (bounds now) (splits now) known row))
      → accepted next ≡ accepted now + 1 → splits next ≡ splits now → bounds next ≡ bounds now → TakesRecord bounds splits tables accepted leads s now next s'
  TakesRecord-row s s' now next is row said plain read one more asked inserted counted same_splits same_bounds origin records state fields was kept =
      let is_row : new_row_of fields ≡ Some row = row_is s.kept state fields (Some row) kept read in
      rw (one, more) (AreLoaded-row bounds splits tables accepted leads s.policy origin fields next was (header_is s.kept state fields (s.number + 1) is false kept said plain) (row, is_row, asked.0, asked.1)
      (λ known e. (row, is_row, inserted known e)) counted same_splits same_bounds)

  -- one byte: the last of a byte order mark, within a record, or at its end
  pub Takes-marked : (s s' : LoaderState) (c : ℕ) (now : D)
      → ((before : List ℕ) → IsHead s.head before → IsHead s'.head (before ++ c ∷ []) × (begun_in (before ++ c ∷ []) ≡ none_begun st.StartRecord) × (records_in (before ++ c ∷ []) ≡ records_in before)) → s'.kept ≡ kept_of_record (none_begun st.StartRecord)
      → s'.policy ≡ s.policy → s'.number ≡ s.number → s'.loaded ≡ s.loaded → Takes bounds splits tables accepted leads s (c ∷ []) now now s'
  Takes-marked s s' c now text kept same_policy same_number same_loaded origin before has =
      HasLoaded-marked bounds splits tables accepted leads s.policy origin c s' has (text before has.head_is) kept same_policy same_number same_loaded

  pub Takes-within : (s s' : LoaderState) (c : ℕ) (now : D) → is_end (step default_config s.kept.state c).1 ≡ false
      → ((before : List ℕ) → IsHead s.head before → IsHead s'.head (before ++ c ∷ []) × (strip_bom (before ++ c ∷ []) ≡ strip_bom before ++ c ∷ [])) → s'.kept ≡ kept_with s.kept c → s'.policy ≡ s.policy → s'.number ≡ s.number → s'.loaded ≡ s.loaded
      → Takes bounds splits tables accepted leads s (c ∷ []) now now s'
  Takes-within s s' c now within text kept same_policy same_number same_loaded origin before has =
      HasLoaded-within bounds splits tables accepted leads s.policy origin c s' has within (text before has.head_is) kept same_policy same_number same_loaded

  -- the loader in which the record has ended
  pub Takes-ended : (s t s' : LoaderState) (c : ℕ) (now next : D) → is_end (step default_config s.kept.state c).1 ≡ true
      → ((before : List ℕ) → IsHead s.head before → IsHead t.head (before ++ c ∷ []) × (strip_bom (before ++ c ∷ []) ≡ strip_bom before ++ c ∷ [])) → t.kept ≡ kept_with s.kept c → t.policy ≡ s.policy → t.number ≡ s.number → t.loaded ≡ s.loaded
      → TakesRecord bounds splits tables accepted leads t now next s' → s'.kept ≡ kept_of_record (none_begun t.kept.state) → s'.policy ≡ t.policy → s'.head ≡ t.head
      → Takes bounds splits tables accepted leads s (c ∷ []) now next s'
  Takes-ended s t s' c now next end text kept same_policy same_number same_loaded takes begins policy_on head_on origin before has =
      let b = with_byte (begun_in before) c in
      let ready : t.kept ≡ kept_of_record (ended_record b.state b.fields) = kept ∙ kept_ended s.kept before c has.kept_is end in
      let was : AreLoaded bounds splits tables accepted leads t.policy origin (records_in before) t.number t.loaded now = rw (same_policy, same_number, same_loaded) has.loaded in
      let loaded = takes origin (records_in before) b.state b.fields was ready in
      HasLoaded-ended bounds splits tables accepted leads s.policy origin c s' next has end (rw head_on (text before has.head_is)) (begins ∙ ap (λ (k : KeptRecord). kept_of_record (none_begun k.state)) kept) (policy_on ∙ same_policy)
      (rw (← same_policy) loaded)

  pub StopsBehind-ended : (s t : LoaderState) (c : ℕ) (now next : D) (fault : LoadFault) → is_end (step default_config s.kept.state c).1 ≡ true
      → ((before : List ℕ) → IsHead s.head before → IsHead t.head (before ++ c ∷ []) × (strip_bom (before ++ c ∷ []) ≡ strip_bom before ++ c ∷ [])) → t.kept ≡ kept_with s.kept c → t.policy ≡ s.policy → t.number ≡ s.number → t.loaded ≡ s.loaded
      → StopsAtRecord bounds splits tables accepted leads t now next fault → StopsBehind bounds splits tables accepted leads s (c ∷ []) now next fault
  StopsBehind-ended s t c now next fault end text kept same_policy same_number same_loaded stops origin before has =
      let b = with_byte (begun_in before) c in
      let ready : t.kept ≡ kept_of_record (ended_record b.state b.fields) = kept ∙ kept_ended s.kept before c has.kept_is end in
      let was : AreLoaded bounds splits tables accepted leads t.policy origin (records_in before) t.number t.loaded now = rw (same_policy, same_number, same_loaded) has.loaded in
      let stopped = stops origin (records_in before) b.state b.fields was ready in
      HasStopped-ended bounds splits tables accepted leads s.policy origin c fault next has end (text before has.head_is).1 (rw (← same_policy) stopped)

  HasEnded-all : (policy : Policy) (origin : D) (bytes : List ℕ) (number count : ℕ) (now : D) → AreLoaded bounds splits tables accepted leads policy origin (all_records_in bytes) number count now → HasEnded bounds splits tables accepted leads policy origin bytes count now
  HasEnded-all policy origin bytes number count now was =
      let all = are_all st.StartRecord (strip_bom bytes) in
      record {
        asked = (all_records_in bytes, all, was.calls, was.were, was.are);
        if_known = λ known e. record { records = all_records_in bytes; all = all; inserted = was.if_known known e };
        accepted_are = was.accepted_are;
        splits_are = was.splits_are;
        bounds_are = was.bounds_are;
      }

  last_ends : (s : LoaderState) (before : List ℕ) (is t : Bool) → s.kept ≡ kept_of_record (begun_in before) → is ≡ ends_at_end s.kept.state → is ≡ t → ends_at_end (begun_in before).state ≡ t
  last_ends s before is t kept said tested = ap (λ (k : KeptRecord). ends_at_end k.state) (sym kept) ∙ sym said ∙ tested

  -- the end of a text behind whole records
  pub EndsWith-none : (s : LoaderState) (now : D) (is : Bool) → is ≡ ends_at_end s.kept.state → is ≡ false → EndsWith bounds splits tables accepted leads s now now s.loaded
  EndsWith-none s now is said none origin before has =
      let records : all_records_in before ≡ records_in before =
      ap (λ (t : Bool). records_in before ++ cond t (((begun_in before).fields ++ (begun_in before).field ∷ []) ∷ []) []) (last_ends s before is false has.kept_is said none) ∙ append-nil (records_in before) in
      HasEnded-all s.policy origin before s.number s.loaded now (rw records has.loaded)

  last_record : (s : LoaderState) (before : List ℕ) (is : Bool) → s.kept ≡ kept_of_record (begun_in before) → is ≡ ends_at_end s.kept.state → is ≡ true → all_records_in before ≡ records_in before ++ ((begun_in before).fields ++ (begun_in before).field ∷ []) ∷ []
  last_record s before is kept said ends = ap (λ (t : Bool). records_in before ++ cond t (((begun_in before).fields ++ (begun_in before).field ∷ []) ∷ []) []) (last_ends s before is true kept said ends)

  -- and within a record
  pub EndsWith-last : (s t s' : LoaderState) (now next : D) (is : Bool) → is ≡ ends_at_end s.kept.state → is ≡ true → t ≡ record s { kept = kept_by act.EndRecord 0 s.kept } → TakesRecord bounds splits tables accepted leads t now next s'
      → EndsWith bounds splits tables accepted leads s now next s'.loaded
  EndsWith-last s t s' now next is said ends same takes origin before has =
      let b = begun_in before in
      let ready : t.kept ≡ kept_of_record (ended_record b.state (b.fields ++ b.field ∷ [])) = ap (λ (z : LoaderState). z.kept) same ∙ ap (kept_by act.EndRecord 0) has.kept_is ∙ kept_last b in
      let was : AreLoaded bounds splits tables accepted leads t.policy origin (records_in before) t.number t.loaded now = rw same has.loaded in
      let loaded = takes origin (records_in before) b.state (b.fields ++ b.field ∷ []) was ready in
      HasEnded-all s.policy origin before s'.number s'.loaded next (rw (last_record s before is has.kept_is said ends) (subst (λ (p : Policy). AreLoaded bounds splits tables accepted leads p origin (records_in before ++ (b.fields ++ b.field ∷ []) ∷ []) s'.number s'.loaded next) (ap (λ (z : LoaderState). z.policy) same) loaded))

  pub StopsAtEnd-last : (s t : LoaderState) (now next : D) (fault : LoadFault) (is : Bool) → is ≡ ends_at_end s.kept.state → is ≡ true → t ≡ record s { kept = kept_by act.EndRecord 0 s.kept } → StopsAtRecord bounds splits tables accepted leads t now next fault
      → StopsAtEnd bounds splits tables accepted leads s now next fault
  StopsAtEnd-last s t now next fault is said ends same stops origin before has =
      let b = begun_in before in
      let ready : t.kept ≡ kept_of_record (ended_record b.state (b.fields ++ b.field ∷ [])) = ap (λ (z : LoaderState). z.kept) same ∙ ap (kept_by act.EndRecord 0) has.kept_is ∙ kept_last b in
      let was : AreLoaded bounds splits tables accepted leads t.policy origin (records_in before) t.number t.loaded now = rw same has.loaded in
      let stopped = stops origin (records_in before) b.state (b.fields ++ b.field ∷ []) was ready in
      rw (last_record s before is has.kept_is said ends) (subst (λ (p : Policy). HasStopped bounds splits tables accepted leads p origin (records_in before ++ (b.fields ++ b.field ∷ []) ∷ []) fault next) (ap (λ (z : LoaderState). z.policy) same) stopped)

  -- a loader that begins has taken no bytes
  pub HasLoaded-start : (policy : Policy) (origin : D) → HasLoaded bounds splits tables accepted leads policy origin [] (record { policy = policy; head = 0; kept = kept_of_record (none_begun st.StartRecord); number = 0; loaded = 0 }) origin
  unfolding strip_bom after_bytes finished_records
  HasLoaded-start policy origin = record {
    loaded = AreLoaded-start bounds splits tables accepted leads policy origin;
    policy_is = refl;
    kept_is = refl;
    head_is = refl;
  }
