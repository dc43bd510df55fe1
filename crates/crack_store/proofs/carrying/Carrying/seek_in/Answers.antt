use Rattle.std.proofs.Common.{ℕ, ◌<◌, ◌≤◌, List, [], ◌∷◌, length, get_or, Some, arith}
use Rattle.std.proofs.lemmas.List.{length-map, get_or-map}
use Rattle.crack_row.specs.Ranges.{Range, IsIn}
use Rattle.crack_arena.specs.Arena.{Handle, no_handle}
use Rattle.crack_arena.specs.Rows.{key_at, keys_at}
use Rattle.crack_pending.specs.Pending.{Finds}
use Rattle.crack_state.specs.State.{State, IsIntact}
use Rattle.crack_state.proofs.CrackLaws.{key_within}
use Rattle.crack_store.specs.Inside.{lists_of}
use Rattle.crack_store.specs.Hand.{hand_of}
use Rattle.crack_store.proofs.carrying.Carrying.seek_in.Goals as goal

-- if the range holds all of the partition's keys, the row at the place is in it
Finds-here : (s : State) (hand : List Handle) (r : Range) (from : ℕ) → r.low ≤ s.keys.low → s.keys.high ≤ r.high → from < length s.pending_in → IsIntact s hand → Finds r (keys_at s.cells s.pending_in) from (Some from)
Finds-here s hand r from low high there intact =
    let inside : IsIn s.keys (key_at s.cells (get_or s.pending_in from no_handle)) = key_within s.keys s.cells (get_or s.pending_in from no_handle) intact.within (intact.owned.pending_reads from no_handle there) in
    record {
      after = omega arith;
      within = omega (arith, there, length-map s.pending_in (key_at s.cells));
      holds = rw (get_or-map (key_at s.cells) s.pending_in from no_handle 0 there) (omega (arith, low, inside.0), omega (arith, high, inside.1));
      before = λ k start stop. absurd (omega arith);
    }

pub returns-then-from-len-clause-finds : goal.returns-then-from-len-clause-finds
returns-then-from-len-clause-finds c =
    let held = c.holds_all.ensures.0 c.if-holds_all.true in
    rw (← c.self.view_is) (Finds-here (lists_of c.self.inside.inside) (hand_of c.self.inside.inside ∷ []) c.args.range c.args.from held.0 held.1 (omega (arith, c.if-from-len.true, c.len.ensures)) c.self.invariant.has.kept.intact)
