-- What private clauses alone cite.
-- How a carry ends, and what holds after carries and after pulls (Merges.antt). A `CarryEnd` is a rule to end a carry.
use Rattle.std.specs.Prelude.{◌≡◌, ⊤, ℕ, Option, length}
use Rattle.crack_row.specs.declared.command.Policy.{Policy}
use Rattle.crack_arena.specs.Arena.{times, slots}
use Rattle.crack_state.specs.State.{State, Carried}
use Rattle.crack_state.specs.Steps.{hand_key, piece_end, IsDoomed, appended, buried, returned, IsBelow}
use Rattle.crack_store.specs.declared.ways.CarryEnd.{CarryEnd}
use Rattle.crack_store.specs.declared.ways.CarryEnd.TheVariants.{Buries, Evicts, Appends}
use Rattle.crack_state.specs.Inside.{Advances}
use Rattle.crack_merge.specs.Merges.{BuriesFew}

-- the store after the row in hand was buried, evicted to the pending insertions, or appended, as the rule says
abbrev pub ended_carry : CarryEnd → Carried → State
ended_carry Buries c = buried c
ended_carry Evicts c = returned c
ended_carry Appends c = appended c

-- the row in hand isn't doomed: it has no pending deletion
abbrev pub IsLasting : Carried → Type 0
IsLasting c = times c.hand.slot (slots c.store.pending_out) ≡ 0

-- a carry may end by this rule. `Buries`: the row in hand is doomed. `Evicts`: it isn't. `Appends`: it isn't, and its
-- own piece, the one with its key, ends at the column's end
abbrev pub MayEnd : CarryEnd → Carried → Type 0
MayEnd Buries c = IsDoomed c
MayEnd Evicts c = IsLasting c
MayEnd Appends c = IsLasting c × (piece_end c.store (hand_key c) ≡ length c.store.column)

-- the rule isn't `Evicts`, or there is a ceiling, and `key`, that of the row in hand, isn't below it
abbrev pub EvictsOver : Option ℕ → CarryEnd → ℕ → Type 0
EvictsOver ceiling Buries key = ⊤
EvictsOver ceiling Evicts key = ¬ IsBelow ceiling key
EvictsOver ceiling Appends key = ⊤

-- what holds from `s` to `t` after carries of a merge of this policy: what `Advances` says, and the number of pending
-- deletions fell by at most as much as that of pending insertions
pub record PutsIn (policy : Policy) (s t : State) : Type 0 where
  pub advances : Advances policy s t
  pub few : BuriesFew s t

-- what holds from `s` to `t` after pulls of a merge of this policy, without fillers: what `Advances` says, and the
-- pending insertions are unchanged
pub record TakesOut (policy : Policy) (s t : State) : Type 0 where
  pub advances : Advances policy s t
  pub pending_in : t.pending_in ≡ s.pending_in
