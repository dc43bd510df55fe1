-- When a merge of the pending rows of a range has done what its policy promises.
use Rattle.std.proofs.Common.{◌≡◌, ◌+◌, ◌≤◌, List, [], length, get_or, ap, ◌∙◌, arith}
use Rattle.std.specs.List.{All}
use Rattle.crack_row.specs.Ranges.{Range}
use Rattle.crack_row.specs.declared.Row.{Row}
use Rattle.crack_row.specs.declared.command.Policy.TheVariants.{Gradual}
use Rattle.crack_arena.specs.Arena.{Cell, Handle}
use Rattle.crack_state.specs.State.{State, Reads, IsIntact}
use Rattle.crack_state.specs.Merge.{ReadsOutside, IsCracked, LeavesOutside, Merges, SomeOf, StillReads, count_inside, outside_of}
use Rattle.crack_state.specs.Inside.{Advances}
use Rattle.crack_state.proofs.AdvanceLaws.{Advances-trans, outside_of-still}
use Rattle.crack_state.proofs.MergeLaws.{IsCracked-follows}
use Rattle.crack_state.proofs.OutsideLaws.{SomeOf-outside, length-SomeOf_outside, length-outside, All-outside}
use Rattle.crack_state.proofs.SettledLaws.{IsSettled-of}

-- a handle that still reads has its key outside as before
pub reads_outside : (cells after : List (Cell Row)) (r : Range) (hs : List Handle) → StillReads cells after → All (Reads after) hs → All (ReadsOutside cells r) hs → All (ReadsOutside after r) hs
reads_outside cells after r hs still reads outside = λ k d h. rw (still (get_or hs k d) (reads k d h)) (outside k d h)

-- first some pending deletions were buried, at most as many as there were pending insertions in the range, then those of the range that
-- were left were taken out
pub LeavesOutside-both : (s u t : State) (r : Range) → SomeOf u.pending_out s.pending_out → StillReads s.cells u.cells → IsIntact u [] → length s.pending_out ≤ length u.pending_out + count_inside s.cells r s.pending_in → t.pending_out ≡ outside_of u.cells r u.pending_out → LeavesOutside s t r
LeavesOutside-both s u t r some still intact few outside =
    let out : t.pending_out ≡ outside_of s.cells r u.pending_out = outside ∙ outside_of-still s.cells u.cells r u.pending_out still intact.owned.doomed_reads in
    record {
      some = rw out (SomeOf-outside s.cells r u.pending_out s.pending_out some);
      few = omega (arith, length-SomeOf_outside s.cells r u.pending_out s.pending_out some, few, ap length out);
    }

-- first the pending insertions of the range were carried in, then the pending deletions of the range that were left were taken out
pub Merges-gradual : (s u t : State) (r : Range) → r.low ≤ r.high → s.keys.low ≤ r.low → r.high ≤ s.keys.high → IsCracked s r → Advances Gradual s u → u.pending_in ≡ outside_of s.cells r s.pending_in → length s.pending_out + length u.pending_in ≤ length u.pending_out + length s.pending_in → IsIntact u [] → Advances Gradual u t → t.pending_in ≡ u.pending_in → t.pending_out ≡ outside_of u.cells r u.pending_out → IsIntact t [] → Merges Gradual s t r
Merges-gradual s u t r order low high cracked first first_in few first_intact second second_in second_out intact =
    let both = Advances-trans Gradual s u t first second in
    let follows = both.follows in
    let low_now : t.keys.low ≤ r.low = omega (arith, ap (λ (x : Range). x.low) follows.keys) in
    let high_now : r.high ≤ t.keys.high = omega (arith, ap (λ (x : Range). x.high) follows.keys) in
    let left : t.pending_in ≡ outside_of s.cells r s.pending_in = second_in ∙ first_in in
    let pending = reads_outside s.cells t.cells r t.pending_in both.reads intact.owned.pending_reads (rw left (All-outside s.cells r s.pending_in)) in
    let doomed = reads_outside u.cells t.cells r t.pending_out second.reads intact.owned.doomed_reads (rw second_out (All-outside u.cells r u.pending_out)) in
    record {
      follows = follows;
      intact = intact;
      settled = IsSettled-of t r order low_now high_now (IsCracked-follows s t r follows cracked) pending doomed intact;
      leaves = (left, LeavesOutside-both s u t r first.pending_out first.reads first_intact (omega (arith, few, length-outside s.cells r s.pending_in, ap length first_in)) second_out);
    }
