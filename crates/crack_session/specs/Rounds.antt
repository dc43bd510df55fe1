-- What private clauses alone cite.
use Rattle.std.specs.Prelude.{◌≡◌, ℕ, ◌-◌, ◌≤◌, Bool, true, false, List, [], length, take, Option, None, Result}
use Rattle.crack_row.specs.declared.Bound.{Bound}
use Rattle.crack_row.specs.declared.refusal.Refusal.{Refusal}
use Rattle.crack_row.specs.declared.watched.Watched.{Watched}
use Rattle.crack_plain.specs.Plain.{PlainView}
use Rattle.crack_commands.specs.Texts.{Writes}
use Rattle.crack_core.specs.Steps.{Bounds}
use Rattle.crack_session.specs.declared.TheConstants.{OUTPUT_BYTES}
use Rattle.crack_session.specs.declared.feeding.Why.{Why}
use Rattle.crack_session.specs.declared.feeding.Why.TheVariants.{Full}
use Rattle.crack_session.specs.Calls.{Call}
use Rattle.crack_session.specs.Feeding.{SessionState, Feeds, StoppedFor}

-- A session in the state `old` is fed once: it takes the first `taken` of the bytes and stops for the reason `why`, in
-- the state `new`. Then the texts that it appended to an empty output are written, with this result (`Writes`). The
-- desk and the writer are `desk` and `writer` before, and `desk'` and `writer'` after.
pub record IsRound {D W : Type 0} (bounds : D → Bounds) (splits : D → List Bound) (tables : D → Option (List PlainView)) (leads : D → Call → D → Type 0) (contents : W → Option (List ℕ)) (old : SessionState) (bytes : List ℕ) (taken : ℕ) (why : Why) (result : Result (Unit {0}) Refusal) (desk desk' : D) (writer writer' : Watched W) (new : SessionState) : Type 0 where
  pub texts : List ℕ
  pub feeds : Feeds bounds splits tables leads old (take taken bytes) desk desk' [] texts new
  pub within : taken ≤ length bytes
  pub stops : StoppedFor why (length bytes - taken) texts new
  pub few : length texts ≤ OUTPUT_BYTES
  pub writes : Writes contents texts result writer writer'

-- whether a session stopped for another reason than a full output
abbrev pub has_stopped : Why → Bool
has_stopped Full = false
has_stopped _ = true

-- `s` is the state of a session that has answered nothing and has no unfinished line. Its policy may be any.
pub record IsNewSession (s : SessionState) : Type 0 where
  pub statements_are : s.progress.statements ≡ 0
  pub short_is : s.progress.first_short ≡ None
  pub begun : s.begun ≡ []
  pub unwritten : s.unwritten ≡ []
  pub ending : s.ending ≡ None
