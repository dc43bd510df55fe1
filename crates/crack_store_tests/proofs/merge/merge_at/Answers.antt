use Rattle.crack_store_tests.proofs.merge.merge_at.Goals.{in-Complete, in-Gradual, in-Ripple}
use Rattle.crack_store_tests.proofs.merge.merge_at.Goals as goal

pub returns : goal.returns
returns g c =
    elim c.match-policy.branch [
      | in-Complete w ↦ let merges = rw (← w.merged-is, c.in-Ok.is) at w.merge_complete-merged.ensures.merges in record { cracked = merges.settled.cracked }
      | in-Gradual w ↦ let merges = rw (← w.merged-is, c.in-Ok.is) at w.merge_gradual-merged.ensures.merges in record { cracked = merges.settled.cracked }
      | in-Ripple w ↦ let merges = rw (← w.merged-is, c.in-Ok.is) at w.merge_ripple-merged.ensures.merges in record { cracked = merges.settled.cracked }
    ]
