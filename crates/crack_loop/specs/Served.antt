-- What private clauses alone cite.
-- The effect of calls of a desk that belongs to a server.
use Rattle.std.specs.Prelude.{◌≡◌, ℕ}
use Rattle.crack_session.specs.Calls.{Call, Asked, Checkpointed, Looked, Measured, Surveyed}

-- the effect of a call of a server's desk: that of `leads`, the effect at the desk inside, except when the traffic of
-- the server is requested (`Surveyed`): then the reply may be any traffic or `None`, and the desk is unchanged
abbrev pub served_leads : {D : Type 0} → (D → Call → D → Type 0) → D → Call → D → Type 0
served_leads leads old (Surveyed traffic) new = new ≡ old
served_leads leads old (Asked part command policy outcome) new = leads old (Asked part command policy outcome) new
served_leads leads old (Checkpointed part outcome) new = leads old (Checkpointed part outcome) new
served_leads leads old (Looked part outcome) new = leads old (Looked part outcome) new
served_leads leads old (Measured part outcome) new = leads old (Measured part outcome) new
