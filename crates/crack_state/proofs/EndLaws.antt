-- Carries that end with doomed rows, one after the other, have the same result as burying these rows once all carries have ended.
use Rattle.std.proofs.Common.{◌≡◌, ◌≢◌, ℕ, ◌+◌, ◌<◌, ◌≤◌, true, min, List, [], ◌∷◌, length, get_or, set, None, refl, sym, ap, ◌∙◌, arith}
use Rattle.std.specs.List.{All, remove, sum_by}
use Rattle.std.proofs.Math.Nat.{min-eq_left}
use Rattle.std.proofs.lemmas.Bool.{lt-ltb}
use Rattle.std.proofs.lemmas.List.{length-map}
use Rattle.std.proofs.lemmas.List.Edits.{length-remove}
use Rattle.std.proofs.lemmas.List.Elements.{All-head, All-tail}
use Rattle.std.proofs.lemmas.List.Sums.{sum_by-cons}
use Rattle.crack_row.specs.declared.Row.{Row}
use Rattle.crack_row.proofs.Lists.{All-removed}
use Rattle.crack_arena.specs.declared.TheConstants.{MOST_FREED}
use Rattle.crack_arena.specs.Arena.{Cell, Handle, times, slots, place_in}
use Rattle.crack_arena.proofs.Times.{times-cons, times_head, times_other, times_map_at, times-le-length}
use Rattle.crack_state.specs.State.{State, Reads, freed_of, greatest}
use Rattle.crack_state.proofs.BuryLaws.{freed_of-emptied}
use Rattle.crack_state.proofs.CellLaws.{AgreeOff-set, Reads-off, stands_there, cell_within, row_read}
use Rattle.crack_state.proofs.OwnedLaws.{times-taken}
use Rattle.crack_state.specs.Queues.{CarryState, comes, turns, stopped}
use Rattle.crack_state.specs.Carried.{moved_by, is_doomed, ended_so, ended_by}
use Rattle.crack_state.specs.Pulled.{buried_all}
use Rattle.crack_state.proofs.FallLaws.{AreBuried}
use Rattle.crack_state.proofs.SiftLaws.{moved_of}
use Rattle.crack_state.proofs.SiftedLaws.{min_and}

-- the rows with which carries have ended, in the order of time
abbrev pub hands_of : {X : Type 0} → List (CarryState X) → List X
hands_of [] = []
hands_of (comes x ∷ es) = hands_of es
hands_of (turns moved ∷ es) = hands_of es
hands_of (stopped moved y ∷ es) = y ∷ hands_of es

-- no event is that of a row that hasn't reached its own piece yet
abbrev pub HasCome : {X : Type 0} → CarryState X → Type 0
HasCome (comes x) = ⊥
HasCome (turns moved) = Unit {0}
HasCome (stopped moved y) = Unit {0}

pub ended_by-buried : (es : List (CarryState Handle)) (s : State) → All HasCome es → AreBuried (hands_of es) s.cells s.pending_out → s.tally.moved ≤ greatest → ended_by es s ≡ buried_all (hands_of es) (record s { tally = moved_by (sum_by moved_of es) s.tally })
ended_by-buried [] s all buried counted =
    let none : min (s.tally.moved + 0) greatest ≡ s.tally.moved = min-eq_left (omega (arith, counted)) ∙ omega arith in
    rw none refl
ended_by-buried (comes x ∷ es) s all buried counted = absurd (All-head HasCome (comes x) es all)
ended_by-buried (turns moved ∷ es) s all buried counted =
    let rest = ended_by-buried es (ended_so (turns moved) s) (All-tail HasCome (turns moved) es all) buried (omega arith) in
    let both : min (min (s.tally.moved + moved) greatest + sum_by moved_of es) greatest ≡ min (s.tally.moved + sum_by moved_of (turns moved ∷ es)) greatest =
    min_and s.tally.moved moved (sum_by moved_of es) ∙ ap (λ n. min (s.tally.moved + n) greatest) (sym (sum_by-cons moved_of (turns moved) es)) in
    rest ∙ rw both refl
ended_by-buried (stopped moved y ∷ es) s all buried counted =
    let doomed : is_doomed s y ≡ true = lt-ltb 0 (times y.slot (slots s.pending_out)) buried.2 in
    let after : State = record s {
      cells = set s.cells y.slot (record { generation = y.generation + 1; value = None });
      free = y.slot ∷ s.free;
      pending_out = remove s.pending_out (place_in s.pending_out y.slot);
      tally = record (moved_by moved s.tally) { deletions = min (s.tally.deletions + 1) greatest };
    } in
    let rest = ended_by-buried es after (All-tail HasCome (stopped moved y) es all) buried.3 (omega arith) in
    let both : min (min (s.tally.moved + moved) greatest + sum_by moved_of es) greatest ≡ min (s.tally.moved + sum_by moved_of (stopped moved y ∷ es)) greatest =
    min_and s.tally.moved moved (sum_by moved_of es) ∙ ap (λ n. min (s.tally.moved + n) greatest) (sym (sum_by-cons moved_of (stopped moved y) es)) in
    rw doomed (rest ∙ rw both refl)

-- each is a pending deletion of another cell than the others
pub record AreApart (hs : List Handle) (cells : List (Cell Row)) (out : List Handle) : Type 0 where
  pub reads : All (Reads cells) hs
  pub once : (n : ℕ) → times n (slots hs) ≤ 1
  pub doomed : All (λ h. 0 < times h.slot (slots out)) hs
  pub doomed_reads : All (Reads cells) out
  pub doomed_once : (n : ℕ) → times n (slots out) ≤ 1
  pub few : freed_of cells + length out ≤ MOST_FREED

pub AreBuried-apart : (hs : List Handle) (cells : List (Cell Row)) (out : List Handle) → AreApart hs cells out → AreBuried hs cells out
AreBuried-apart [] cells out are = tt
AreBuried-apart (h ∷ hs) cells out are =
    let reads = All-head (Reads cells) h hs are.reads in
    let some = All-head (λ g. 0 < times g.slot (slots out)) h hs are.doomed in
    let stands = stands_there cells out h reads are.doomed_reads some in
    let out' : List Handle = remove out (place_in out h.slot) in
    let cells' : List (Cell Row) = set cells h.slot (record { generation = h.generation + 1; value = None }) in
    let agree = AgreeOff-set cells h.slot (record { generation = h.generation + 1; value = None }) in
    let taken : (n : ℕ) → times n (slots out') + times n (slots (h ∷ [])) ≡ times n (slots out) = λ n. times-taken n out (place_in out h.slot) h stands.within stands.is in
    let alone : times h.slot (slots hs) ≡ 0 = omega (arith, are.once h.slot, times_head h.slot (slots hs)) in
    let gone : times h.slot (slots out') ≡ 0 = omega (arith, taken h.slot, are.doomed_once h.slot, times_head h.slot []) in
    let row = row_read cells h reads in
    let within = cell_within cells h row.0 row.1 in
    let fewer : freed_of cells' ≡ freed_of cells + 1 = freed_of-emptied cells h within reads in (
      reads,
      omega (arith, are.few, some, times-le-length h.slot (slots out), length-map out (λ (x : Handle). x.slot)),
      some,
      AreBuried-apart hs cells' out' (record {
        reads = Reads-off h.slot cells cells' hs agree alone (All-tail (Reads cells) h hs are.reads);
        once = λ n. omega (arith, are.once n, times-cons n h.slot (slots hs));
        doomed = λ k d l.
            let g = get_or hs k d in
            let other : h.slot ≢ g.slot = λ same. omega (arith, alone, times_map_at h.slot (λ (x : Handle). x.slot) hs k d l (sym same)) in
            omega (arith, taken g.slot, times_other g.slot h.slot other, All-tail (λ x. 0 < times x.slot (slots out)) h hs are.doomed k d l);
        doomed_reads = Reads-off h.slot cells cells' out' agree gone (All-removed (Reads cells) out (place_in out h.slot) are.doomed_reads);
        doomed_once = λ n. omega (arith, taken n, are.doomed_once n);
        few = omega (arith, fewer, are.few, length-remove out (place_in out h.slot) stands.within);
      }),
    )
