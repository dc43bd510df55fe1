-- A carry step by step, and the result of all carries of a range if none of them ends with a row in hand.
use Rattle.std.specs.Prelude.{◌≡◌, ℕ, ◌<◌, map, length, Option}
use Rattle.crack_row.specs.Ranges.{Range}
use Rattle.crack_arena.specs.Rows.{key_at}
use Rattle.crack_state.specs.State.{State, Carried}
use Rattle.crack_state.specs.Steps.{hand_key, piece_end, IsDoomed, IsBelow, pushed_on, appended, buried, returned}
use Rattle.crack_state.specs.Merge.{outside_of}
use Rattle.crack_state.specs.Pieces.{column_of}
use Rattle.crack_state.specs.Carried.{pieces_of, moved_by, inside_of, insertions_by}
use Rattle.crack_state.proofs.Sifts.{sifted, all_made_way, risen}

-- a carry, step by step, each by the first rule that holds
pub data Leads (ceiling : Option ℕ) : Carried → State → Type 0 where
  -- the hand is doomed: it is buried
  buries : (c : Carried) → IsDoomed c → Leads ceiling c (buried c)
  -- else, its key is at or above the ceiling: the row is evicted
  evicts : (c : Carried) → ¬ IsDoomed c → ¬ IsBelow ceiling (hand_key c) → Leads ceiling c (returned c)
  -- else, its own piece ends at the column's end: it becomes the column's last row
  ends : (c : Carried) → ¬ IsDoomed c → IsBelow ceiling (hand_key c) → piece_end c.store (hand_key c) ≡ length c.store.column → Leads ceiling c (appended c)
  -- else, it takes the place of the row where its piece ends, and the carry goes on with that row in hand
  goes_on : (c : Carried) (t : State) → ¬ IsDoomed c → IsBelow ceiling (hand_key c) → piece_end c.store (hand_key c) < length c.store.column → Leads ceiling (pushed_on c) t → Leads ceiling c t

-- their result if each carry ends where its own piece ends at the column's end: the rows are sifted through the pieces, and each bound moves up by the
-- number of rows below it that come in
abbrev pub carried_by_sifting : Range → State → State
carried_by_sifting r s =
    let key = key_at s.cells in
    let rows = inside_of s.cells r s.pending_in in
    record s {
      column = column_of (sifted key 0 rows (pieces_of s));
      marks = map (risen key rows) s.marks;
      pending_in = outside_of s.cells r s.pending_in;
      tally = moved_by (all_made_way key 0 rows (pieces_of s)) (insertions_by (length rows) s.tally);
    }
