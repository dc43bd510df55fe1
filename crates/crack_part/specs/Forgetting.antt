-- What private clauses alone cite.
-- Which bounds are forgotten under auto before a range is read. A pass meets the bounds above a key, the lowest first,
-- and forgets some. The record of passes says where the last one stopped and how many rows merges had moved by then. A
-- step takes it from `passes` to `after`, and the store from `s` to `t`. `r` is the range that is read, `keys` are the
-- partition's keys, and the optional range after them is the command's.
use Rattle.std.specs.Prelude.{◌≡◌, ◌⊎◌, ℕ, ℤ, Bool, true, ◌+◌, ◌-◌, ◌*◌, ◌/◌, ◌<◌, ◌≤◌, ◌==◌, ◌&&◌, nat_le, nat_lt, min, max, cond, List, [], ◌∷◌, length, Option, Some, None}
use Rattle.std.specs.Option.{option_map, option_or}
use Rattle.crack_row.specs.Commands.{change_of, range_of}
use Rattle.crack_row.specs.Ranges.{Range, clipped}
use Rattle.crack_row.specs.declared.Key.{Key}
use Rattle.crack_row.specs.declared.command.Command.{Command}
use Rattle.crack_row.specs.declared.command.Policy.{Policy}
use Rattle.crack_row.specs.declared.command.Policy.TheVariants.{Complete, Auto}
use Rattle.crack_index.specs.declared.mark.Mark.{Mark}
use Rattle.crack_index.specs.Passes.{PassProgress, pass_above, are_few, met, moved_past, stopped_at}
use Rattle.crack_index.specs.Sums.{joined_below}
use Rattle.crack_state.specs.State.{State, greatest}
use Rattle.crack_state.specs.Steps.{SameButRoom}
use Rattle.crack_part.specs.KnownSums.{Known}
use Rattle.crack_part.specs.Parts.{is_merged_first, CracksAndMerges, ReadiesAnd, StopsAt, Performs}
use Rattle.crack_part.specs.declared.coarsening.TheConstants.{BOUNDS_TO_ONE_MET, FEW_ROWS, LEAST_MET}
use Rattle.crack_part.specs.declared.passes.Passes.{Passes}
use Rattle.crack_part.specs.declared.passes.TheConstants.{FEW_BOUNDS, MANY_BOUNDS, MOVES_OF_A_BOUND, ROWS_OF_A_BOUND}

-- how many rows merges have moved and pulled together, capped at 2^64 - 1, the greatest number of a counter
abbrev pub moves_of : State → ℕ
moves_of s = min (s.tally.moved + s.tally.pulled) greatest

-- whether a store has too many bounds: more than 4,096, and more than one for every 256 rows of its column
abbrev pub are_many : State → Bool
are_many s = nat_lt MANY_BOUNDS (length s.marks) && nat_lt (length s.column / ROWS_OF_A_BOUND) (length s.marks)

-- whether the bounds cost more than they save if merges have moved `moves` rows since the last pass: there are too
-- many bounds (`are_many`) and at least one row was moved, or at least 64 rows were moved for each bound
abbrev pub are_dear : ℕ → State → Bool
are_dear moves s = cond (are_many s) (nat_lt 0 moves) (nat_le (length s.marks * MOVES_OF_A_BOUND) moves)

-- The key above which a pass over the bounds is due; none if no pass is due. With at most 64 bounds none is due. With
-- more, the key is the one at which the last pass stopped because it had met `most_met` bounds. If it met fewer, or
-- there was no pass, the key is 0 if `are_dear` is true of the rows that merges have moved and pulled since; else no
-- pass is due.
abbrev pub due_after : Passes → State → Option Key
due_after passes s = cond (nat_le (length s.marks) FEW_BOUNDS) None (option_or passes.stopped (cond (are_dear (moves_of s - passes.counted) s) (Some (record { 0 = 0 })) None))

-- the key above which a pass is due by a policy: that of `due_after` under auto; none under the other policies
abbrev pub due_by : Policy → Passes → State → Option Key
due_by Auto passes s = due_after passes s
due_by policy passes s = None

-- the marks of a list that remain after a pass that goes on from the state `p` in a column of `len` rows. It meets at
-- most `p.bounds` of the bounds above `p.after`. It forgets each of them whose two pieces, as they are by then, have
-- at most `p.rows` rows together. All other marks remain.
abbrev pub left_by_pass : ℕ → PassProgress → List Mark → List Mark
left_by_pass len p [] = []
left_by_pass len p (m ∷ ms) = cond (nat_le m.bound.0 p.after) (m ∷ left_by_pass len p ms) (cond (p.bounds == 0) (m ∷ ms) (cond (are_few len (met m p) ms) (left_by_pass len (met m p) ms) (m ∷ left_by_pass len (moved_past m (met m p)) ms)))

-- the last state of a pass that goes on from the state `p` over these marks, in a column of `len` rows
abbrev pub ended_pass : ℕ → PassProgress → List Mark → PassProgress
ended_pass len p [] = p
ended_pass len p (m ∷ ms) = cond (nat_le m.bound.0 p.after) (ended_pass len p ms) (cond (p.bounds == 0) p (cond (are_few len (met m p) ms) (ended_pass len (met m p) ms) (ended_pass len (moved_past m (met m p)) ms)))

-- the known sums `es` after a pass that goes on from the state `p` over these marks, in a column of `len` rows: for
-- each bound that the pass forgets, lowest first, the two pieces beside it are joined (`joined_below`)
abbrev pub joined_by : ℕ → PassProgress → List Mark → List (ℕ × ℤ) → List (ℕ × ℤ)
joined_by len p [] es = es
joined_by len p (m ∷ ms) es = cond (nat_le m.bound.0 p.after) (joined_by len p ms es) (cond (p.bounds == 0) es (cond (are_few len (met m p) ms) (joined_by len (met m p) ms (joined_below m.bound.0 es)) (joined_by len (moved_past m (met m p)) ms es)))

-- the most bounds that a pass meets if there are this many: one of 128, but at least 32
abbrev pub most_met : ℕ → ℕ
most_met bounds = max (bounds / BOUNDS_TO_ONE_MET) LEAST_MET

-- the first state of a pass over a store's bounds above a key: the pass may meet `most_met` of them, and forgets those
-- whose two pieces have at most 1,024 rows together
abbrev pub pass_of : Key → State → PassProgress
pass_of key s = pass_above key.0 FEW_ROWS (most_met (length s.marks)) s.marks

-- a store after a pass over its bounds above a key: of its marks only those remain that the pass doesn't forget
-- (`left_by_pass`, from `pass_of`), and nothing else changes; the same store if there is no key
abbrev pub coarsened : Option Key → State → State
coarsened None s = s
coarsened (Some key) s = record s { marks = left_by_pass (length s.column) (pass_of key s) s.marks }

-- the known sums after a pass over the bounds of the store `s` above a key: at each forgotten bound the two pieces are
-- joined (`joined_by`); the same sums if there is no key
abbrev pub known_after : Option Key → State → Known → Known
known_after None s known = known
known_after (Some key) s known = record known { pieces = joined_by (length s.column) (pass_of key s) s.marks known.pieces }

-- the record of passes after a pass over the bounds of the store `s` above a key: how many rows merges had moved and
-- pulled by then, and the last bound met if the pass met `most_met`, else `None`; the same record if there is no key
abbrev pub noted : Option Key → State → Passes → Passes
noted None s passes = passes
noted (Some key) s passes = record {
  counted = moves_of s;
  stopped = option_map (λ number. record { 0 = number }) (stopped_at (ended_pass (length s.column) (pass_of key s) s.marks));
}

-- If a pass over the bounds of `s` is due by the policy (`due_by`), it is made, and `after` is its record; otherwise
-- nothing changes. Then the step `Does` leads to the store `t`.
pub record ForgetsAnd (policy : Policy) (Does : State → State → Type 0) (passes : Passes) (s : State) (after : Passes) (t : State) : Type 0 where
  pub notes : after ≡ noted (due_by policy passes s) s passes
  pub does : Does (coarsened (due_by policy passes s) s) t

-- a store is settled for a range: all pending rows are merged if `is_merged_first` says so, then a pass over the
-- bounds is made and recorded if one is due, and then the store is cracked and merged for the range
abbrev pub SettlesBy : Policy → Passes → State → Passes → State → Range → Type 0
SettlesBy policy passes s after t r = ReadiesAnd (is_merged_first policy s) (λ (ready settled : State). ForgetsAnd policy (λ (coarse read : State). CracksAndMerges policy coarse read r) passes ready after settled) s t

-- no memory was found to settle a store for a range: either in the merge of all pending rows that `is_merged_first`
-- asks for, so that no pass was made; or later, after a pass that was due was made and recorded
abbrev pub StopsReadBy : Policy → Passes → State → Passes → State → Range → Type 0
StopsReadBy policy passes s after t r = ((is_merged_first policy s ≡ true) × StopsAt Complete s t s.keys × (after ≡ passes)) ⊎ ReadiesAnd (is_merged_first policy s) (λ (ready stopped : State). ForgetsAnd policy (λ (coarse read : State). StopsAt policy coarse read r) passes ready after stopped) s t

-- what a read of a range does to a store and to the record of passes: nothing if the range is empty, otherwise what
-- `SettlesBy` says
pub record ReadsBy (policy : Policy) (passes : Passes) (s : State) (after : Passes) (t : State) (r : Range) : Type 0 where
  pub empty : r.high ≤ r.low → (t ≡ s) × (after ≡ passes)
  pub settled : r.low < r.high → SettlesBy policy passes s after t r

-- what is done before the reply to a command: if it has a range, the part of it that is within `keys` is read;
-- otherwise nothing changes
abbrev pub PreparesBy : Policy → Range → Option Range → Passes → State → Passes → State → Type 0
PreparesBy policy keys None passes s after t = (t ≡ s) × (after ≡ passes)
PreparesBy policy keys (Some range) passes s after t = ReadsBy policy passes s after t (clipped range keys)

-- what is done if no memory is found before the reply to a command: if it has a range, the read of the part of it that
-- is within `keys` stops (`StopsReadBy`); otherwise nothing changes
abbrev pub SparesBy : Policy → Range → Option Range → Passes → State → Passes → State → Type 0
SparesBy policy keys None passes s after t = (t ≡ s) × (after ≡ passes)
SparesBy policy keys (Some range) passes s after t = StopsReadBy policy passes s after t (clipped range keys)

-- an answered command: first its range, if any, is read, and then its change, if any, is made. Only the read makes a
-- pass. An inserted row gets the serial `next`, and `ready` is the store between the read and the change.
pub record ServesBy (policy : Policy) (keys : Range) (next : ℕ) (command : Command) (passes : Passes) (s : State) (after : Passes) (t : State) : Type 0 where
  pub ready : State
  pub prepared : PreparesBy policy keys (range_of command) passes s after ready
  pub performed : Performs next (change_of command) ready t

-- what a command did that found no memory: its range, if any, was read in part; or it was read as a whole, no memory
-- was found for the reply or the change, and then nothing but the room for handles changed
abbrev pub StopsBy : Policy → Range → Command → Passes → State → Passes → State → Type 0
StopsBy policy keys command passes s after t = SparesBy policy keys (range_of command) passes s after t ⊎ ((ready : State) × PreparesBy policy keys (range_of command) passes s after ready × SameButRoom ready t)
