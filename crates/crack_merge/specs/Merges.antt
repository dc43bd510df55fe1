-- The effects of carries, pulls and merges on a store. A carry inserts a pending insertion, and a pull deletes a
-- doomed row, which has a pending deletion; both move one row of each piece on their way. The row being moved is in
-- hand, and its own piece is the one with its key. A row that is buried is deleted. A row at or above a carry's
-- ceiling, a bound, is evicted: it becomes a pending insertion. A place is an index into the column or a pending list.
use Rattle.std.specs.Prelude.{◌≡◌, ◌≢◌, ◌<◌, ◌≤◌, ⊤, ℕ, ◌+◌, ◌++◌, take, drop, length, List, [], Option, Some, None}
use Rattle.crack_row.specs.Ranges.{Range}
use Rattle.crack_row.specs.declared.command.Policy.{Policy}
use Rattle.crack_row.specs.declared.command.Policy.TheVariants.{Complete, Gradual, Ripple, Auto}
use Rattle.crack_arena.specs.Arena.{Handle, StandsAt}
use Rattle.crack_arena.specs.Rows.{keys_at}
use Rattle.crack_pending.specs.Pending.{Finds, NoneIn}
use Rattle.crack_state.specs.State.{State, Carried, IsIntact}
use Rattle.crack_state.specs.Steps.{hand_key, piece_start, piece_end, IsDoomed, lifted, lifted_last, appended, pushed_on, pulled_back, exchanged, buried, SameButRoom, returned, IsBelow}
use Rattle.crack_state.specs.Merge.{Follows, Tallies, SomeOf, Fills, edge, outside_of, without_first, count_inside}

-- the ceiling, if there is one, is at or above the range's high end
abbrev pub IsCeiling : Option ℕ → Range → Type 0
IsCeiling None r = ⊤
IsCeiling (Some bound) r = r.high ≤ bound

-- `Carries ceiling c t`: `t` is the store after a carry that begins with the row in hand of `c`. Each step follows the
-- first of the rules below that applies: bury the row in hand, evict it, append it, or carry on
pub data Carries (ceiling : Option ℕ) : Carried → State → Type 0 where
  -- the row in hand is doomed: it is buried, and the carry ends
  buries : (c : Carried) → IsDoomed c → Carries ceiling c (buried c)
  -- otherwise, if its key is at or above the ceiling: it is evicted, and the carry ends
  evicts : (c : Carried) (bound : ℕ) → ¬ IsDoomed c → ceiling ≡ Some bound → bound ≤ hand_key c → Carries ceiling c (returned c)
  -- otherwise, if its own piece ends at the column's end: it is appended to the column, and the carry ends
  ends : (c : Carried) → ¬ IsDoomed c → IsBelow ceiling (hand_key c) → piece_end c.store (hand_key c) ≡ length c.store.column → Carries ceiling c (appended c)
  -- otherwise it takes the place where its own piece ends, and the carry goes on with the row that was there
  goes_on : (c : Carried) (t : State) → ¬ IsDoomed c → IsBelow ceiling (hand_key c) → piece_end c.store (hand_key c) < length c.store.column → Carries ceiling (pushed_on c) t → Carries ceiling c t

-- `CarriesIn ceiling r s from t`: from `s` to `t`, pending insertions in the range `r` were carried, in order of
-- arrival. Each was found by a search from the place of the one carried before. `from` is the last one's place, or 0
pub data CarriesIn (ceiling : Option ℕ) (r : Range) (s : State) : ℕ → State → Type 0 where
  -- no pending insertion was carried
  begins : CarriesIn ceiling r s 0 s
  -- one more was carried: room was made, and it was taken into the hand and carried
  carries : (from place : ℕ) (t u v : State) → CarriesIn ceiling r s from t → Finds r (keys_at t.cells t.pending_in) from (Some place) → SameButRoom t u → Carries ceiling (lifted place u) v → CarriesIn ceiling r s place v

-- from `s` to `t`, all pending insertions in `r` were carried (`CarriesIn`): a further search finds none
pub record CarriesAll (ceiling : Option ℕ) (r : Range) (s t : State) : Type 0 where
  pub from : ℕ
  pub carries : CarriesIn ceiling r s from t
  pub none : Finds r (keys_at t.cells t.pending_in) from None

-- from `s` to `t`, the first pending insertions in `r` were carried, as `CarriesIn` says, and no memory was found for
-- the next one, which stays pending
pub record CarriesSome (ceiling : Option ℕ) (r : Range) (s t : State) : Type 0 where
  pub from : ℕ
  pub last : State
  pub carries : CarriesIn ceiling r s from last
  pub next : ℕ
  pub left : Finds r (keys_at last.cells last.pending_in) from (Some next)
  pub room : SameButRoom last t

-- from `s` to `t`, the number of pending deletions fell by at most as much as that of pending insertions
abbrev pub BuriesFew : State → State → Type 0
BuriesFew s t = length s.pending_out + length t.pending_in ≤ length t.pending_out + length s.pending_in

-- `Pulls doomed c t`: `t` is the store after the pull of a doomed row that begins with the row in hand of `c`. Each
-- step follows the first of the rules below that applies: bury the row in hand, exchange it with the doomed row and
-- bury that, or pull on
pub data Pulls (doomed : Handle) : Carried → State → Type 0 where
  -- the row in hand is the doomed row: it is buried, and the pull ends
  reaches : (c : Carried) → c.hand ≡ doomed → Pulls doomed c (buried c)
  -- otherwise, if the doomed row is in the own piece of the row in hand: they are exchanged, the doomed row is buried,
  -- and the pull ends
  exchanges : (c : Carried) (place : ℕ) → c.hand ≢ doomed → StandsAt c.store.column place doomed → piece_start c.store (hand_key c) ≤ place → place < piece_end c.store (hand_key c) → Pulls doomed c (buried (exchanged place c))
  -- otherwise the row in hand takes the last place before its own piece, and the pull goes on with the row that was
  -- there
  draws : (c : Carried) (place : ℕ) (t : State) → c.hand ≢ doomed → StandsAt c.store.column place doomed → place < piece_start c.store (hand_key c) → Pulls doomed (pulled_back c) t → Pulls doomed c t

-- `BeginsPull fillers s seen next c`: `c` is `s` with the row in hand with which a pull begins. This is a filler, the
-- first pending insertion at or after the place `seen` whose key is in `fillers`, or, if there is none, the column's
-- last row. `next` is the place where the search for the next filler begins
pub data BeginsPull (fillers : Range) (s : State) (seen : ℕ) : ℕ → Carried → Type 0 where
  -- a filler is found
  fills : (place : ℕ) → Finds fillers (keys_at s.cells s.pending_in) seen (Some place) → BeginsPull fillers s seen place (lifted place s)
  -- no filler is left, and the next search looks at no pending insertion
  takes_last : Finds fillers (keys_at s.cells s.pending_in) seen None → BeginsPull fillers s seen (length s.pending_in) (lifted_last s)

-- `PullsOut r fillers s place seen t`: from `s` to `t`, rows with pending deletions in `r` were deleted by pulls, in
-- order of arrival. Each was found by a search from the place of the one deleted before. `place` is the last one's
-- place, or 0; `seen` is the place among the pending insertions where the search for the next filler begins
pub data PullsOut (r fillers : Range) (s : State) : ℕ → ℕ → State → Type 0 where
  -- no row was deleted, and no filler is before the place `seen`
  begins : (seen : ℕ) → seen ≤ length s.pending_in → NoneIn fillers (keys_at s.cells s.pending_in) 0 seen → PullsOut r fillers s 0 seen s
  -- one more row was deleted
  pulls : (from place seen next : ℕ) (doomed : Handle) (t u : State) (c : Carried) → PullsOut r fillers s from seen t → Finds r (keys_at t.cells t.pending_out) from (Some place) → StandsAt t.pending_out place doomed → BeginsPull fillers t seen next c → Pulls doomed c u → PullsOut r fillers s place next u

-- from `s` to `t`, all rows with pending deletions in `r` were deleted (`PullsOut`): a further search finds none
pub record PullsAll (r fillers : Range) (s t : State) : Type 0 where
  pub from : ℕ
  pub seen : ℕ
  pub pulls : PullsOut r fillers s from seen t
  pub none : Finds r (keys_at t.cells t.pending_out) from None

-- `left` are the pending insertions, fillers included, when a ripple merge of `s` found no memory. Of those of `s`,
-- the ones in the range among the first `passed` are gone. At the end are the evicted rows, at most as many. These are
-- some of the column's rows from the place of the range's high end on, in order
pub record EvictsFirst (s : State) (r : Range) (left : List Handle) : Type 0 where
  pub passed : ℕ
  pub within : passed ≤ length s.pending_in
  pub evicted : List Handle
  pub pending_in : left ≡ without_first s.cells r passed s.pending_in ++ evicted
  pub some : SomeOf evicted (drop (edge s r.high) s.column)
  pub few : length evicted ≤ count_inside s.cells r (take passed s.pending_in)

-- from `s` to `t`, a merge of the range by this policy found no memory. For some `k`, the pending insertions left are
-- under complete all but the first `k`, under gradual all but those in the range among the first `k`. Under ripple
-- they are as `EvictsFirst` says, but the first fillers may be gone (`Fills`). Auto has no merge of its own
abbrev pub LeavesRest : Policy → State → State → Range → Type 0
LeavesRest Complete s t r = (k : ℕ) × (k ≤ length s.pending_in) × (t.pending_in ≡ drop k s.pending_in)
LeavesRest Gradual s t r = (k : ℕ) × (k ≤ length s.pending_in) × (t.pending_in ≡ outside_of s.cells r (take k s.pending_in) ++ drop k s.pending_in)
LeavesRest Ripple s t r = (hs : List Handle) × EvictsFirst s r hs × Fills s t r hs
LeavesRest Auto s t r = ⊥

-- from `s` to `t`, a merge of the range by this policy found no memory on its way; what it did until then stays.
-- Commands see the same rows as before, `LeavesRest` holds, and some or all pending deletions are left, in order
pub record Stops (policy : Policy) (s t : State) (r : Range) : Type 0 where
  pub follows : Follows s t
  pub intact : IsIntact t []
  pub tallies : Tallies policy s t
  pub taken : LeavesRest policy s t r
  pub pending_out : SomeOf t.pending_out s.pending_out
