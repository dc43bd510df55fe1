-- What private clauses alone cite.
-- A store after a crack at one bound, and after each carry and each pull of a merge.
use Rattle.std.specs.Prelude.{◌≡◌, ℕ, ◌<◌}
use Rattle.crack_row.specs.declared.command.Policy.{Policy}
use Rattle.crack_state.specs.State.{State}
use Rattle.crack_state.specs.Merge.{RefinesBy, Follows, Tallies, StillReads, SomeOf}

-- `u` is `s` cracked at this bound: it is then in the index if it is strictly between the ends of the partition's keys
abbrev pub RefinesAt : State → State → ℕ → Type 0
RefinesAt s u bound = RefinesBy (λ b. (b ≡ bound) × (s.keys.low < b) × (b < s.keys.high)) s u

-- what holds from `s` to `t` after any number of carries and pulls of a merge of this policy: commands see the same
-- rows (`Follows`), the counters count what was done (`Tallies`), a handle that still reads a row reads the same one,
-- and pending deletions are only removed, not added or reordered
pub record Advances (policy : Policy) (s t : State) : Type 0 where
  pub follows : Follows s t
  pub tallies : Tallies policy s t
  pub reads : StillReads s.cells t.cells
  pub pending_out : SomeOf t.pending_out s.pending_out
