-- What private clauses alone cite.
use Rattle.std.specs.Prelude.{◌≡◌, [], None}
use Rattle.crack_session.specs.Feeding.{SessionState}
use Rattle.crack_session.specs.declared.feeding.Why.{Why}
use Rattle.crack_session.specs.declared.feeding.Why.TheVariants.{Wants}

-- a session that wants more bytes has appended all texts, and no line has ended it
abbrev pub GoesOn : Why → SessionState → Type 0
GoesOn why s = why ≡ Wants → (s.unwritten ≡ []) × (s.ending ≡ None)
