-- A connection of a server without its stream: its state, what it does next, and what feeding its session does.
use Rattle.std.specs.Prelude.{◌≡◌, ℕ, ◌-◌, ◌≤◌, ◌⊎◌, ◌↔◌, Bool, true, false, List, [], ◌∷◌, length, take, drop, Option, None, if◌then◌else◌, IsTrue, IsSome}
use Rattle.crack_row.specs.declared.Bound.{Bound}
use Rattle.crack_row.specs.declared.command.Policy.{Policy}
use Rattle.crack_row.specs.declared.refusal.Refusal.{Refusal}
use Rattle.crack_row.specs.declared.refusal.Refusal.TheVariants.{ReadFault, WriteFault}
use Rattle.crack_plain.specs.Plain.{PlainView}
use Rattle.crack_core.specs.Steps.{Bounds}
use Rattle.crack_session.specs.Calls.{Call}
use Rattle.crack_session.specs.Feeding.{SessionState, Feeds, StoppedFor, BreaksOff}
use Rattle.crack_session.specs.Readings.{reading_of}
use Rattle.crack_session.specs.declared.feeding.Why.{Why}
use Rattle.crack_session.specs.declared.feeding.Why.TheVariants.{Wants, Full, Quit, Refused as HttpRefused}
use Rattle.crack_loop.specs.declared.connection.Next.{Next}
use Rattle.crack_loop.specs.declared.connection.Next.TheVariants.{Write, Answer, Read, Close}

-- what contracts see of a connection: its session; the bytes that were received and aren't fed to it yet; the texts
-- that it appended and that aren't written yet; why it stopped taking bytes; whether its input has ended; and whether it
-- ended in an unfinished line that isn't blank
pub record ConnectionState : Type 0 where
  pub session : SessionState
  pub received : List ℕ
  pub unsent : List ℕ
  pub stopped : Why
  pub has_ended : Bool
  pub broke_off : Bool

-- the state of a new session with this policy, which has answered nothing
abbrev pub new_session : Policy → SessionState
new_session policy = record {
  begun = [];
  progress = record { statements = 0; first_short = None; policy = policy };
  unwritten = [];
  ending = None;
}

-- whether there are no bytes
abbrev pub is_none : List ℕ → Bool
is_none [] = true
is_none (b ∷ bs) = false

-- what a connection does next, once all its texts are written, by why its session stopped, whether no received bytes
-- wait, and whether its input has ended: it answers if the output was full or bytes wait, closes if a line ended the
-- session or the input has ended, and reads otherwise
abbrev pub next_taking : Why → Bool → Bool → Next
next_taking Full none has_ended = Answer
next_taking Quit none has_ended = Close
next_taking HttpRefused none has_ended = Close
next_taking Wants false has_ended = Answer
next_taking Wants true true = Close
next_taking Wants true false = Read

-- what a connection does next: texts that wait are written before anything else is done
abbrev pub next_of : ConnectionState → Next
next_of c = if is_none c.unsent then next_taking c.stopped (is_none c.received) c.has_ended else Write

-- the refusal if a connection is cut off before it does this: `WriteFault` if it is to write, else `ReadFault`
abbrev pub fault_of : Next → Refusal
fault_of Write = WriteFault
fault_of _ = ReadFault

-- which of the bytes that a session didn't take are kept for later, by why it stopped: all if the output is full,
-- otherwise none
abbrev pub left_for_later : Why → List ℕ → List ℕ
left_for_later Full bytes = bytes
left_for_later _ bytes = []

-- The session of a connection is fed the first `taken` of these bytes, which leads the connection from `old` to `new`,
-- its desk from `desk` to `desk'` and its output from `out` to `out'`. If the output is full, it keeps the other bytes
-- for later; `is_kept` is false only if no memory is found for them. Of a desk, `bounds` is what its table's limits
-- mean for a partition, `tables` are its plain tables if known, and `leads` is the effect of a call.
pub record Answers {D : Type 0} (bounds : D → Bounds) (splits : D → List Bound) (tables : D → Option (List PlainView)) (leads : D → Call → D → Type 0) (old : ConnectionState) (bytes : List ℕ) (desk desk' : D) (out out' : List ℕ) (is_kept : Bool) (new : ConnectionState) : Type 0 where
  pub taken : ℕ
  pub within : taken ≤ length bytes
  pub feeds : Feeds bounds splits tables leads old.session (take taken bytes) desk desk' out out' new.session
  pub stopped : StoppedFor new.stopped (length bytes - taken) out' new.session
  pub left : IsTrue is_kept → new.received ≡ left_for_later new.stopped (drop taken bytes)
  pub spares : left_for_later new.stopped (drop taken bytes) ≡ [] → IsTrue is_kept
  pub unsent : new.unsent ≡ old.unsent
  pub has_ended : new.has_ended ≡ old.has_ended
  pub broke_off : new.broke_off ≡ old.broke_off

-- The input of a connection ends, and its session's input breaks off (`BreaksOff`): an unfinished line isn't carried
-- out, but answered as a line that is no statement, unless it is blank. Nothing else changes.
pub record Ends (old : ConnectionState) (out out' : List ℕ) (new : ConnectionState) : Type 0 where
  pub breaks : BreaksOff old.session out out' new.session
  pub broke_off : IsTrue new.broke_off ↔ IsSome (reading_of old.session.begun)
  pub same : new ≡ record old { session = new.session; has_ended = true; broke_off = new.broke_off }

-- a line of the client has no line feed and isn't blank: it was unfinished when the input ended, or it is unfinished
-- and the connection is to read
abbrev pub HasUnfinished : ConnectionState → Type 0
HasUnfinished c = IsTrue c.broke_off ⊎ ((next_of c ≡ Read) × IsSome (reading_of c.session.begun))
