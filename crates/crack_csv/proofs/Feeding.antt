-- A load over a reader: what was read, and what its loader took.
use Rattle.std.proofs.Common.{◌≡◌, ℕ, ◌+◌, Bool, Option, Some, None, List, [], ◌++◌, take, drop, sym, ap, ◌∙◌, subst, append_assoc, take-append-drop}
use Rattle.std.proofs.KnownBytes.{Consumes-trans, Consumes-nil}
use Rattle.std.specs.Io.KnownBytes.{Consumes, IsAtEnd}
use Rattle.csv.specs.Reading.{strip_bom}
use Rattle.crack_row.specs.declared.Bound.{Bound}
use Rattle.crack_row.specs.declared.command.Policy.{Policy}
use Rattle.crack_row.specs.declared.refusal.Refusal.TheVariants.{ReadFault}
use Rattle.crack_plain.specs.Plain.{PlainView}
use Rattle.crack_core.specs.Steps.{Bounds}
use Rattle.crack_session.specs.Calls.{Call}
use Rattle.crack_session.proofs.Running.{all_of, all_at_end}
use Rattle.crack_csv.specs.declared.load.LoadFault.{LoadFault}
use Rattle.crack_csv.specs.Asked.{AreBytesOf, IsAskedFirst, MayBeUnread}
use Rattle.crack_csv.specs.Loaders.{EndsWith, HasEnded, HasLoaded, HasStopped, LoaderState, StopsAtEnd, StopsBehind, Takes, all_records_in, records_in}
use Rattle.crack_csv.specs.Loads.{IsCutShort}
use Rattle.crack_csv.specs.Readers.{HasReadAll, HasReadFirst, begun_by}
use Rattle.crack_csv.specs.Records.{AreFirstOf}
use Rattle.crack_csv.proofs.Loaders.{HasLoaded-start}
use Rattle.crack_csv.proofs.Loading.{Fields}
use Rattle.crack_csv.proofs.Stopping.{HasFirst, first_of, first_of_all, stopped-asked, stopped-causes, stopped-cut, unread-asked, unread-cut}

-- a read that brings nothing changes nothing
none_read : (known known' : Option (List ℕ)) (none : List ℕ) → none ≡ [] → Consumes known known' none → IsAtEnd known' → IsAtEnd known
none_read None known' none is read end = tt
none_read (Some x) None none is read end = absurd read
none_read (Some x) (Some y) none is read end = read ∙ ap (λ (z : List ℕ). z ++ y) is ∙ end

-- bytes, some of the next ones, and then those that are left
in_pieces : (bytes more rest : List ℕ) (n : ℕ) → (bytes ++ take n more) ++ (drop n more ++ rest) ≡ (bytes ++ more) ++ rest
in_pieces bytes more rest n =
    append_assoc bytes (take n more) (drop n more ++ rest)
    ∙ ap (λ (z : List ℕ). bytes ++ z) (sym (append_assoc (take n more) (drop n more) rest) ∙ ap (λ (z : List ℕ). z ++ rest) (take-append-drop n more))
    ∙ sym (append_assoc bytes more rest)

module _ {D : Type 0} (bounds : D → Bounds) (splits : D → List Bound) (tables : D → Option (List PlainView)) (accepted : D → ℕ) (leads : D → Call → D → Type 0) (policy : Policy) (origin : D) (known0 : Option (List ℕ)) where
  -- The loader took all that was read.
  pub record Reading (s : LoaderState) (now : D) (known : Option (List ℕ)) : Type 0 where
    pub bytes : List ℕ
    pub consumed : Consumes known0 known bytes
    pub has : HasLoaded bounds splits tables accepted leads policy origin bytes s now

  pub Reading-start : (s : LoaderState) → s ≡ begun_by policy → Reading s origin known0
  Reading-start s begins = record {
    bytes = [];
    consumed = Consumes-nil known0;
    has = subst (λ (z : LoaderState). HasLoaded bounds splits tables accepted leads policy origin [] z origin) (sym begins) (HasLoaded-start bounds splits tables accepted leads policy origin);
  }

  -- what it took, by its own policy
  by_its : {s : LoaderState} {now : D} {known : Option (List ℕ)} (r : Reading s now known) → HasLoaded bounds splits tables accepted leads s.policy origin r.bytes s now
  by_its {s} {now} r = subst (λ (p : Policy). HasLoaded bounds splits tables accepted leads p origin r.bytes s now) (sym r.has.policy_is) r.has

  pub Reading-more : {s : LoaderState} {now : D} {known : Option (List ℕ)} (t : LoaderState) (next : D) (known' : Option (List ℕ)) (more : List ℕ) → Reading s now known → Consumes known known' more → Takes bounds splits tables accepted leads s more now next t → Reading t next known'
  Reading-more {known = known} t next known' more r consumed takes = record {
    bytes = r.bytes ++ more;
    consumed = Consumes-trans known0 known known' r.bytes more r.consumed consumed;
    has = subst (λ (p : Policy). HasLoaded bounds splits tables accepted leads p origin (r.bytes ++ more) t next) r.has.policy_is (takes origin r.bytes (by_its r));
  }

  -- the input has ended
  pub read_all : {s : LoaderState} {now : D} {known : Option (List ℕ)} (known' : Option (List ℕ)) (none : List ℕ) (next : D) (count : ℕ) → Reading s now known → none ≡ [] → Consumes known known' none → IsAtEnd known' → EndsWith bounds splits tables accepted leads s now next count
      → HasReadAll bounds splits tables accepted leads policy origin known0 count next
  read_all {known = known} known' none next count r is consumed end ends = record {
    bytes = r.bytes;
    bytes_are = (all_at_end known0 known r.bytes r.consumed (none_read known known' none is consumed end)).1;
    ended = subst (λ (p : Policy). HasEnded bounds splits tables accepted leads p origin r.bytes count next) r.has.policy_is (ends origin r.bytes (by_its r));
  }

  -- a record of some bytes is refused
  stopped : {records : List Fields} {fault : LoadFault} {now : D} (bytes : List ℕ) → AreBytesOf known0 bytes → HasStopped bounds splits tables accepted leads policy origin records fault now → HasFirst bytes records → HasReadFirst bounds splits tables accepted leads policy origin known0 fault now
  stopped bytes are it first = record {
    bytes = bytes;
    bytes_are = are;
    asked = stopped-asked bounds splits tables accepted leads policy origin bytes it first;
    if_known = λ rows e. stopped-cut bounds splits tables accepted leads policy origin bytes rows it first e;
    accepted_are = it.accepted_are;
    splits_are = it.splits_are;
    bounds_are = it.bounds_are;
  }

  -- one of those that were read
  stops_within : {s : LoaderState} {now : D} {known : Option (List ℕ)} (next : D) (more : List ℕ) (n : ℕ) (fault : LoadFault) (r : Reading s now known) → StopsBehind bounds splits tables accepted leads s (take n more) now next fault → HasStopped bounds splits tables accepted leads policy origin (records_in (r.bytes ++ take n more)) fault next
  stops_within next more n fault r stops = subst (λ (p : Policy). HasStopped bounds splits tables accepted leads p origin (records_in (r.bytes ++ take n more)) fault next) r.has.policy_is (stops origin r.bytes (by_its r))

  pub stopped_within : {s : LoaderState} {now : D} {known : Option (List ℕ)} (known' : Option (List ℕ)) (next : D) (more : List ℕ) (n : ℕ) (fault : LoadFault) → Reading s now known → Consumes known known' more → StopsBehind bounds splits tables accepted leads s (take n more) now next fault
      → HasReadFirst bounds splits tables accepted leads policy origin known0 fault next
  stopped_within {known = known} known' next more n fault r consumed stops =
      let o = all_of known0 known' (r.bytes ++ more) (Consumes-trans known0 known known' r.bytes more r.consumed consumed) in
      stopped o.all o.all_is (stops_within next more n fault r stops) (λ first rest is.
      subst (λ (z : List ℕ). AreFirstOf (strip_bom z) first) (in_pieces r.bytes more o.rest n ∙ sym o.split) (first_of (r.bytes ++ take n more) (drop n more ++ o.rest) first rest is))

  pub causes_within : {s : LoaderState} {now : D} {known : Option (List ℕ)} (next : D) (more : List ℕ) (n : ℕ) (fault : LoadFault) (failed : Bool) (reads : ℕ) → Reading s now known → StopsBehind bounds splits tables accepted leads s (take n more) now next fault → MayBeUnread leads (splits origin) policy failed reads fault next
  causes_within next more n fault failed reads r stops = stopped-causes bounds splits tables accepted leads policy origin failed reads (stops_within next more n fault r stops)

  -- the last record, which the end of the input finishes
  stops_at_end : {s : LoaderState} {now : D} {known : Option (List ℕ)} (next : D) (fault : LoadFault) (r : Reading s now known) → StopsAtEnd bounds splits tables accepted leads s now next fault → HasStopped bounds splits tables accepted leads policy origin (all_records_in r.bytes) fault next
  stops_at_end next fault r stops = subst (λ (p : Policy). HasStopped bounds splits tables accepted leads p origin (all_records_in r.bytes) fault next) r.has.policy_is (stops origin r.bytes (by_its r))

  pub stopped_at_end : {s : LoaderState} {now : D} {known : Option (List ℕ)} (known' : Option (List ℕ)) (none : List ℕ) (next : D) (fault : LoadFault) → Reading s now known → none ≡ [] → Consumes known known' none → IsAtEnd known' → StopsAtEnd bounds splits tables accepted leads s now next fault
      → HasReadFirst bounds splits tables accepted leads policy origin known0 fault next
  stopped_at_end {known = known} known' none next fault r is consumed end stops =
      stopped r.bytes (all_at_end known0 known r.bytes r.consumed (none_read known known' none is consumed end)).1 (stops_at_end next fault r stops) (λ first rest same. first_of_all r.bytes first rest same)

  pub causes_at_end : {s : LoaderState} {now : D} {known : Option (List ℕ)} (next : D) (fault : LoadFault) (failed : Bool) (reads : ℕ) → Reading s now known → StopsAtEnd bounds splits tables accepted leads s now next fault → MayBeUnread leads (splits origin) policy failed reads fault next
  causes_at_end next fault failed reads r stops = stopped-causes bounds splits tables accepted leads policy origin failed reads (stops_at_end next fault r stops)

  -- the reader isn't read on
  pub unread : {s : LoaderState} {now : D} {known : Option (List ℕ)} (fault : LoadFault) → Reading s now known → fault ≡ record { refusal = ReadFault; loaded = s.loaded } → HasReadFirst bounds splits tables accepted leads policy origin known0 fault now
  unread {now = now} {known = known} fault r is =
      let o = all_of known0 known r.bytes r.consumed in
      let same = ap (λ (f : LoadFault). f.loaded) is in
      let cause = ap (λ (f : LoadFault). f.refusal) is in
      record {
        bytes = o.all;
        bytes_are = o.all_is;
        asked = subst (λ (z : List ℕ). IsAskedFirst leads (splits origin) policy z fault origin now) (sym o.split) (unread-asked bounds splits tables accepted leads policy origin r.bytes o.rest fault r.has same cause);
        if_known = λ rows e. subst (λ (z : List ℕ). IsCutShort (bounds origin) (splits origin) rows z fault (tables now)) (sym o.split) (unread-cut bounds splits tables accepted leads policy origin r.bytes o.rest rows fault r.has same cause e);
        accepted_are = r.has.loaded.accepted_are ∙ ap (λ (n : ℕ). accepted origin + n) (sym same);
        splits_are = r.has.loaded.splits_are;
        bounds_are = r.has.loaded.bounds_are;
      }
