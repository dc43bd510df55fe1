-- One read of a session, whatever its reader and writer do. `old` and names without a prime are what is before it,
-- `new` and names with a prime what is after it.
use Rattle.std.specs.Prelude.{◌≡◌, ℕ, ◌+◌, ◌-◌, ◌^◌, ◌<◌, ◌≤◌, ◌⊎◌, min, true, List, [], ◌∷◌, length, take, Option, None, Some, Result, Err, OnOk, IfOk, IfErr}
use Rattle.std.specs.Io.KnownBytes.{Appends, Consumes, IsAtEnd, Keeps}
use Rattle.crack_row.specs.Devices.{device, has_failed, reads_of}
use Rattle.crack_row.specs.declared.Bound.{Bound}
use Rattle.crack_row.specs.declared.refusal.Refusal.{Refusal}
use Rattle.crack_row.specs.declared.refusal.Refusal.TheVariants.{ReadFault, WriteFault}
use Rattle.crack_row.specs.declared.watched.Watched.{Watched}
use Rattle.crack_plain.specs.Plain.{PlainView}
use Rattle.crack_commands.specs.declared.statement.ClosingLine.{ClosingLine}
use Rattle.crack_core.specs.Steps.{Bounds}
use Rattle.crack_session.specs.declared.TheConstants.{OUTPUT_BYTES}
use Rattle.crack_session.specs.declared.input.TheConstants.{READ_BYTES}
use Rattle.crack_session.specs.declared.session.How.{How}
use Rattle.crack_session.specs.declared.session.How.TheVariants.{Quit, InputEnded}
use Rattle.crack_session.specs.Calls.{Call}
use Rattle.crack_session.specs.Feeding.{SessionState, Feeds}

-- the bytes that a session is fed for a read: the bytes that were read, or, if there are none because the input has
-- ended, a line feed
abbrev pub fed_by : List ℕ → List ℕ
fed_by [] = 10 ∷ []
fed_by (b ∷ bs) = b ∷ bs

-- a prefix of the texts is appended to the contents `out`, now `written`; the rest has at most OUTPUT_BYTES bytes
abbrev pub IsSentFirst : Option (List ℕ) → Option (List ℕ) → List ℕ → Type 0
IsSentFirst out written texts = (count : ℕ) × Appends out written (take count texts) × (length texts ≤ count + OUTPUT_BYTES)

-- A session is fed the first of these bytes, and the texts that it appends are written. If the writer doesn't fail,
-- `Stops` holds for the value of the result, the number of bytes left and the new state. If it fails, the result is
-- `WriteFault`, and a prefix of the texts is written: all but at most OUTPUT_BYTES bytes.
pub record Sends {D W X : Type 0} (bounds : D → Bounds) (splits : D → List Bound) (tables : D → Option (List PlainView)) (leads : D → Call → D → Type 0) (contents : W → Option (List ℕ)) (Stops : X → ℕ → SessionState → Type 0) (old : SessionState) (bytes : List ℕ) (result : Result X Refusal) (desk desk' : D) (writer writer' : Watched W) (new : SessionState) : Type 0 where
  pub taken : ℕ
  pub within : taken ≤ length bytes
  pub texts : List ℕ
  pub feeds : Feeds bounds splits tables leads old (take taken bytes) desk desk' [] texts new
  pub stops : IfOk result (λ x. Stops x (length bytes - taken) new)
  pub sent : OnOk result (Appends (contents (device writer)) (contents (device writer')) texts)
  pub unfailed : OnOk result (has_failed writer' ≡ has_failed writer)
  pub err : IfErr result (λ e. (e ≡ WriteFault) × (has_failed writer' ≡ true) × IsSentFirst (contents (device writer)) (contents (device writer')) texts)

-- what is true after a read of `bytes` by a session, now in state `s`: it goes on (`None`), its input has ended, or a
-- line has ended it; all texts are appended, and `left` bytes aren't taken, none unless a line has ended it
abbrev pub StopsAs : Option How → List ℕ → ℕ → SessionState → Type 0
StopsAs None bytes left s = (left ≡ 0) × (s.unwritten ≡ []) × (s.ending ≡ None) × (0 < length bytes)
StopsAs (Some InputEnded) bytes left s = (left ≡ 0) × (s.unwritten ≡ []) × (s.ending ≡ None) × (bytes ≡ [])
StopsAs (Some Quit) bytes left s = (s.unwritten ≡ []) × (last : ClosingLine) × (s.ending ≡ Some last)

-- A read of a reader didn't fail, and gave these bytes: at most READ_BYTES, and none only at the end of the input.
pub record ReadsOnce {R : Type 0} (remaining : R → Option (List ℕ)) (old new : Watched R) (bytes : List ℕ) : Type 0 where
  pub few : length bytes ≤ READ_BYTES
  pub consumed : Consumes (remaining (device old)) (remaining (device new)) bytes
  pub at_end : bytes ≡ [] → IsAtEnd (remaining (device new))
  pub unfailed : has_failed new ≡ has_failed old

-- A session reads once, and answers what was read, or, at the end of the input, an unfinished line; or the read fails,
-- the result is `ReadFault`, and session, desk and writer are unchanged.
pub record IsTurn {D R W : Type 0} (bounds : D → Bounds) (splits : D → List Bound) (tables : D → Option (List PlainView)) (leads : D → Call → D → Type 0) (remaining : R → Option (List ℕ)) (contents : W → Option (List ℕ)) (old : SessionState) (result : Result (Option How) Refusal) (desk desk' : D) (reader reader' : Watched R) (writer writer' : Watched W) (new : SessionState) : Type 0 where
  pub counted : reads_of reader' ≡ min (reads_of reader + 1) (2 ^ 64 - 1)
  pub is : ((bytes : List ℕ) × ReadsOnce remaining reader reader' bytes × Sends bounds splits tables leads contents (λ how left s. StopsAs how bytes left s) old (fed_by bytes) result desk desk' writer writer' new)
      ⊎ ((result ≡ Err ReadFault) × (has_failed reader' ≡ true) × Keeps (remaining (device reader)) (remaining (device reader')) × (new ≡ old) × (desk' ≡ desk) × (writer' ≡ writer))
