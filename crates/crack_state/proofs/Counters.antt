-- Counters that stop at their greatest number.
use Rattle.std.proofs.Common.{◌≡◌, ℕ, ◌+◌, ◌<◌, ◌≤◌, inl, inr, arith}
use Rattle.std.proofs.Math.Nat.{min-le_left, min-le_right, le-min}
use Rattle.std.proofs.lemmas.Bool.{cases_lt}
use Rattle.crack_state.specs.declared.MergeReport.{MergeReport}
use Rattle.crack_state.specs.State.{greatest}
use Rattle.crack_state.proofs.Words.{IsCounted}
use Rattle.crack_state.specs.Steps.{more}

-- a counter that is raised: by one, unless it is at its greatest number
pub record IsRaised (n : ℕ) : Type 0 where
  pub rises : n ≤ greatest → n ≤ more n
  pub exact : more n < greatest → more n ≡ n + 1
  pub most : more n ≤ n + 1
  pub fits : more n ≤ greatest

pub raised_counter : (n : ℕ) → IsRaised n
raised_counter n = record {
  rises = λ small. le-min (omega arith) small;
  exact = λ less. elim (cases_lt (n + 1) greatest) [
    | inl l ↦
        let low : n + 1 ≤ more n = le-min (omega arith) (omega arith) in
        let high : more n ≤ n + 1 = min-le_left (n + 1) greatest in
        omega arith
    | inr l ↦ let low : greatest ≤ more n = le-min l (omega arith) in absurd (omega arith)
  ];
  most = min-le_left (n + 1) greatest;
  fits = min-le_right (n + 1) greatest;
}

-- a counter that rose by this many, unless it is at its greatest number
pub record Rises (k before after : ℕ) : Type 0 where
  pub rises : before ≤ after
  pub exact : after < greatest → after ≡ before + k

pub Rises-none : (before after : ℕ) → after ≡ before → Rises 0 before after
Rises-none before after same = record { rises = omega (arith, same); exact = λ _. omega (arith, same) }

pub Rises-one : (before after n : ℕ) → after ≡ more n → n ≡ before → n ≤ greatest → Rises 1 before after
Rises-one before after n is same small =
    let counter = raised_counter n in
    record { rises = omega (arith, is, same, counter.rises small); exact = λ less. omega (arith, is, same, counter.exact (omega (arith, is, less))) }

-- a tally still fits after one counter is raised
pub IsCounted-insertions : (tally : MergeReport) → IsCounted tally → IsCounted (record tally { insertions = more tally.insertions })
IsCounted-insertions tally counted = record { insertions = (raised_counter tally.insertions).fits; deletions = counted.deletions; evicted = counted.evicted; moved = counted.moved; pulled = counted.pulled }

pub IsCounted-deletions : (tally : MergeReport) → IsCounted tally → IsCounted (record tally { deletions = more tally.deletions })
IsCounted-deletions tally counted = record { insertions = counted.insertions; deletions = (raised_counter tally.deletions).fits; evicted = counted.evicted; moved = counted.moved; pulled = counted.pulled }

pub IsCounted-evicted : (tally : MergeReport) → IsCounted tally → IsCounted (record tally { evicted = more tally.evicted })
IsCounted-evicted tally counted = record { insertions = counted.insertions; deletions = counted.deletions; evicted = (raised_counter tally.evicted).fits; moved = counted.moved; pulled = counted.pulled }

pub IsCounted-moved : (tally : MergeReport) → IsCounted tally → IsCounted (record tally { moved = more tally.moved })
IsCounted-moved tally counted = record { insertions = counted.insertions; deletions = counted.deletions; evicted = counted.evicted; moved = (raised_counter tally.moved).fits; pulled = counted.pulled }

pub IsCounted-pulled : (tally : MergeReport) → IsCounted tally → IsCounted (record tally { pulled = more tally.pulled })
IsCounted-pulled tally counted = record { insertions = counted.insertions; deletions = counted.deletions; evicted = counted.evicted; moved = counted.moved; pulled = (raised_counter tally.pulled).fits }
