-- What the commands on one row need besides the laws of their steps.
use Rattle.std.proofs.Common.{◌≡◌, ℕ, ◌<◌, true, false, List, [], length, set, Result, Ok, Err, Option, Some, None, IsSome, refl, sym, ap, ◌∙◌, arith}
use Rattle.std.specs.Prelude.{MatchResult, OnErr, is_some}
use Rattle.std.specs.List.{remove}
use Rattle.std.proofs.lemmas.Bool.{eq-eqb, ltb-true, true≢false}
use Rattle.std.proofs.lemmas.List.{get_or-set_same}
use Rattle.crack_arena.specs.Arena.{Cell, Handle, StandsAt, times, slots, place_in, read, empty_cell}
use Rattle.crack_arena.proofs.Times.{times-nil, times_head}
use Rattle.crack_row.specs.declared.Row.{Row}
use Rattle.crack_serials.specs.Serials.{handle_of}
use Rattle.crack_state.specs.State.{State, IsIntact}
use Rattle.crack_state.specs.Points.{pending_by, handle_by}
use Rattle.crack_state.proofs.OwnedLaws.{times-taken}
use Rattle.crack_state.proofs.PointLaws.{found_by, handle_by-is, stands1, listed_at, unlisted_by}

-- what is known of the handle of a pending insertion
pub record IsPendingHandle (s : State) (h : Handle) : Type 0 where
  pub listed : 0 < times h.slot (slots s.pending_in)
  pub at : StandsAt s.pending_in (place_in s.pending_in h.slot) h
  pub within : h.slot < length s.cells
  pub off_column : times h.slot (slots s.column) ≡ 0
  pub kept : times h.slot (slots s.pending_out) ≡ 0
  pub left : times h.slot (slots (remove s.pending_in (place_in s.pending_in h.slot))) ≡ 0

pub pending_handle : (s : State) (serial : ℕ) (h : Handle) → pending_by s serial ≡ Some true → handle_of s.serials serial ≡ Some h → IsIntact s [] → IsPendingHandle s h
pending_handle s serial h pending found intact =
    let same = handle_by-is s serial h found in
    let listed : 0 < times h.slot (slots s.pending_in) = rw same at (ltb-true 0 (times (handle_by s serial).slot (slots s.pending_in)) (found_by s serial true pending).test) in
    let at = listed_at s serial h found listed intact in
    let known = stands1 s serial h found intact in
    record {
      listed = listed;
      at = at;
      within = known.within;
      off_column = omega (arith, known.once, listed);
      kept = (intact.keyed.leads serial h found).3;
      left = omega (arith, times-taken h.slot s.pending_in (place_in s.pending_in h.slot) h at.within at.is, known.once, times_head h.slot [], times-nil h.slot);
    }

-- the handle of a row in the column isn't among the pending insertions
pub column_handle : (s : State) (serial : ℕ) (h : Handle) → pending_by s serial ≡ Some false → handle_of s.serials serial ≡ Some h → times h.slot (slots s.pending_in) ≡ 0
column_handle s serial h column found =
    let same = handle_by-is s serial h found in
    rw same at (unlisted_by s serial (found_by s serial false column))

-- a write through a handle that reads a row takes place
pub write_done : (r : Result Row Row) (P Q N : Type 0) → MatchResult r (λ _. P) (λ _. Q) → OnErr r N → (N → ⊥) → P
write_done (Ok x) P Q N matched none reads = matched
write_done (Err x) P Q N matched none reads = absurd (reads none)

pub reads_not_none : (o : Option Row) → IsSome o → o ≡ None → ⊥
reads_not_none o some none = true≢false (sym some ∙ ap is_some none)

-- the content of a handle's cell once a row was written there
pub read-written : (cells : List (Cell Row)) (h : Handle) (row : Row) → h.slot < length cells → read (set cells h.slot (record { generation = h.generation; value = Some row })) h ≡ Some row
read-written cells h row within = rw (get_or-set_same cells h.slot (record { generation = h.generation; value = Some row }) empty_cell within, eq-eqb h.generation h.generation refl) refl
