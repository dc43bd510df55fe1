-- A load that stops has asked for the first records of the whole text, whatever follows the bytes that it took.
use Rattle.std.proofs.Common.{◌≡◌, ℕ, ◌+◌, ◌-◌, ◌^◌, ◌<◌, ◌≤◌, ◌⊎◌, Bool, true, Option, Some, List, [], ◌∷◌, ◌++◌, length, refl, sym, ap, ◌∙◌, subst, inl, inr, append-nil, append_assoc}
use Rattle.csv.specs.Reading.{default_config, strip_bom, Reached}
use Rattle.csv.specs.declared.parser.State.{State}
use Rattle.csv.specs.declared.parser.State.TheVariants as st
use Rattle.crack_row.specs.declared.Bound.{Bound}
use Rattle.crack_row.specs.declared.command.Policy.{Policy}
use Rattle.crack_row.specs.declared.refusal.Refusal.TheVariants.{ReadFault}
use Rattle.crack_plain.specs.Plain.{PlainView}
use Rattle.crack_core.specs.Steps.{Bounds}
use Rattle.crack_session.specs.Calls.{Call, Calls}
use Rattle.crack_session.proofs.Calling.{Calls-then}
use Rattle.crack_csv.specs.declared.TheConstants.{MOST_RECORDS}
use Rattle.crack_csv.specs.declared.load.LoadFault.{LoadFault}
use Rattle.crack_csv.specs.Asked.{AreInsertions, IsAskedFirst, IsLastRefused, IsRefusedBy, MayBeUnread}
use Rattle.crack_csv.specs.Loaders.{HasLoaded, HasStopped, LoaderState, all_records_in, records_in}
use Rattle.crack_csv.specs.Loads.{AreInserted, IsCutShort}
use Rattle.crack_csv.specs.Records.{AreFirstOf, new_row_of, without_header}
use Rattle.crack_csv.proofs.Fed.{are_all, are_first}
use Rattle.crack_csv.proofs.Inserting.{is_refused_last}
use Rattle.crack_csv.proofs.Loading.{Fields}
use Rattle.crack_csv.proofs.Texts.{records_grow}

-- the first of records that are reached are reached
reached_front : (s : State) (xs : List ℕ) (first rest : List Fields) (s2 : State) (ys : List ℕ) → Reached default_config s xs (first ++ rest) s2 ys → (s1 : State) × (zs : List ℕ) × Reached default_config s xs first s1 zs
unfolding Reached
reached_front s xs [] rest s2 ys reached = (s, xs, (refl, refl))
reached_front s xs (r ∷ first) rest s2 ys reached =
    let more = reached_front reached.0.1 reached.0.2 first rest s2 ys reached.3 in
    (more.0, more.1, (reached.0, reached.1, reached.2, more.2))

-- the first of the records that the first bytes of a text finish are its first
pub first_of : (bytes more : List ℕ) (first rest : List Fields) → records_in bytes ≡ first ++ rest → AreFirstOf (strip_bom (bytes ++ more)) first
first_of bytes more first rest is =
    let text = strip_bom (bytes ++ more) in
    let grown = records_grow bytes more in
    let all = are_first st.StartRecord text (records_in (bytes ++ more)) refl in
    let split : records_in (bytes ++ more) ≡ first ++ (rest ++ grown.0) = grown.1 ∙ ap (λ (z : List Fields). z ++ grown.0) is ∙ append_assoc first rest grown.0 in
    reached_front st.StartRecord text first (rest ++ grown.0) all.0 all.1 (subst (λ (z : List Fields). Reached default_config st.StartRecord text z all.0 all.1) split all.2)

-- the first of all its records are its first
pub first_of_all : (bytes : List ℕ) (first rest : List Fields) → all_records_in bytes ≡ first ++ rest → AreFirstOf (strip_bom bytes) first
first_of_all bytes first rest is =
    let text = strip_bom bytes in
    let all = are_all st.StartRecord text in
    reached_front st.StartRecord text first rest all.0 all.1 (subst (λ (z : List Fields). Reached default_config st.StartRecord text z all.0 all.1) is all.2)

-- so are the first of these records of a text, however many they are
abbrev pub HasFirst : List ℕ → List Fields → Type 0
HasFirst bytes records = (first rest : List Fields) → records ≡ first ++ rest → AreFirstOf (strip_bom bytes) first

module _ {D : Type 0} (bounds : D → Bounds) (splits : D → List Bound) (tables : D → Option (List PlainView)) (accepted : D → ℕ) (leads : D → Call → D → Type 0) (policy : Policy) (origin : D) where
  whole : {records : List Fields} {fault : LoadFault} {now : D} (bytes : List ℕ) (it : HasStopped bounds splits tables accepted leads policy origin records fault now) → HasFirst bytes records → AreFirstOf (strip_bom bytes) (it.first ++ it.fields ∷ [])
  whole bytes it front = front (it.first ++ it.fields ∷ []) [] (it.split ∙ sym (append-nil (it.first ++ it.fields ∷ [])))

  header_apart : {records : List Fields} {fault : LoadFault} {now : D} (it : HasStopped bounds splits tables accepted leads policy origin records fault now) → without_header (it.first ++ it.fields ∷ []) ≡ without_header it.first ++ it.fields ∷ []
  header_apart it = ap without_header (sym it.split) ∙ it.no_header

  -- a refused record: the desk was asked for those before it
  pub stopped-asked : {records : List Fields} {fault : LoadFault} {now : D} (bytes : List ℕ) (it : HasStopped bounds splits tables accepted leads policy origin records fault now) → HasFirst bytes records → IsAskedFirst leads (splits origin) policy bytes fault origin now
  stopped-asked {records} {fault} {now} bytes it front = (
    it.first,
    front it.first (it.fields ∷ []) it.split,
    it.loaded.calls,
    it.last,
    Calls-then leads origin it.loaded.calls it.between it.last now it.loaded.were it.was,
    it.loaded.are,
    by it.cause,
  )
    where
      by : ((it.last ≡ []) × (fault.loaded ≡ MOST_RECORDS) × (fault.refusal ≡ ReadFault)) ⊎ ((fault.loaded < MOST_RECORDS) × IsRefusedBy (splits origin) policy (length it.first + 1) (new_row_of it.fields) fault.refusal it.last)
          → ((it.last ≡ []) × (fault.refusal ≡ ReadFault)) ⊎ ((fields : Fields) × AreFirstOf (strip_bom bytes) (it.first ++ fields ∷ []) × (without_header (it.first ++ fields ∷ []) ≡ without_header it.first ++ fields ∷ []) × IsRefusedBy (splits origin) policy (length it.first + 1) (new_row_of fields) fault.refusal it.last)
      by (inl full) = inl (full.0, full.2)
      by (inr refused) = inr (it.fields, whole bytes it front, header_apart it, refused.1)

  -- and their rows are inserted
  pub stopped-cut : {records : List Fields} {fault : LoadFault} {now : D} (bytes : List ℕ) (known : List PlainView) → HasStopped bounds splits tables accepted leads policy origin records fault now → HasFirst bytes records → tables origin ≡ Some known
      → IsCutShort (bounds origin) (splits origin) known bytes fault (tables now)
  stopped-cut bytes known it front e =
      let was = it.loaded.if_known known e in
      let after = it.if_known _ was.left_is in
      record {
        records = it.first;
        first = front it.first (it.fields ∷ []) it.split;
        inserted = record { rows = was.rows; are = was.are; count_is = was.count_is; left_is = after.0 };
        cause = inr (record { fields = it.fields; first = whole bytes it front; no_header = header_apart it; cause = after.1 });
      }

  -- it is refused with `ReadFault` if there are as many as allowed, or by the desk
  pub stopped-causes : {records : List Fields} {fault : LoadFault} {now : D} (failed : Bool) (reads : ℕ) → HasStopped bounds splits tables accepted leads policy origin records fault now → MayBeUnread leads (splits origin) policy failed reads fault now
  stopped-causes {records} {fault} {now} failed reads it is = by it.cause
    where
      by : ((it.last ≡ []) × (fault.loaded ≡ MOST_RECORDS) × (fault.refusal ≡ ReadFault)) ⊎ ((fault.loaded < MOST_RECORDS) × IsRefusedBy (splits origin) policy (length it.first + 1) (new_row_of it.fields) fault.refusal it.last)
          → (failed ≡ true) ⊎ ((2 ^ 64 - 1 ≤ reads) ⊎ ((fault.loaded ≡ MOST_RECORDS) ⊎ IsLastRefused leads (splits origin) policy ReadFault now))
      by (inl full) = inr (inr (inl full.1))
      by (inr refused) = inr (inr (inr (is_refused_last leads (splits origin) (splits origin) policy (length it.first + 1) it.fields fault.refusal it.between now is refl (it.last, it.was, refused.1))))

  -- a text that isn't read on: the desk was asked for the records that its first bytes finish
  pub unread-asked : {s : LoaderState} {now : D} (bytes more : List ℕ) (fault : LoadFault) → HasLoaded bounds splits tables accepted leads policy origin bytes s now → fault.loaded ≡ s.loaded → fault.refusal ≡ ReadFault
      → IsAskedFirst leads (splits origin) policy (bytes ++ more) fault origin now
  unread-asked {s} {now} bytes more fault it same cause = (
    records_in bytes,
    first_of bytes more (records_in bytes) [] (sym (append-nil (records_in bytes))),
    it.loaded.calls,
    [],
    subst (λ (l : List Call). Calls leads origin l now) (sym (append-nil it.loaded.calls)) it.loaded.were,
    subst (λ (n : ℕ). AreInsertions (splits origin) policy (records_in bytes) n it.loaded.calls) (sym same) it.loaded.are,
    inl (refl, cause),
  )

  pub unread-cut : {s : LoaderState} {now : D} (bytes more : List ℕ) (known : List PlainView) (fault : LoadFault) → HasLoaded bounds splits tables accepted leads policy origin bytes s now → fault.loaded ≡ s.loaded → fault.refusal ≡ ReadFault → tables origin ≡ Some known
      → IsCutShort (bounds origin) (splits origin) known (bytes ++ more) fault (tables now)
  unread-cut {s} {now} bytes more known fault it same cause h = record {
    records = records_in bytes;
    first = first_of bytes more (records_in bytes) [] (sym (append-nil (records_in bytes)));
    inserted = subst (λ (n : ℕ). AreInserted (bounds origin) (splits origin) known (records_in bytes) n (tables now)) (sym same) (it.loaded.if_known known h);
    cause = inl cause;
  }
