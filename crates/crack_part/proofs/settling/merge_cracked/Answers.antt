use Rattle.crack_part.proofs.settling.merge_cracked.Goals as goal

pub merge-requires-clause-cracked : goal.merge-requires-clause-cracked
merge-requires-clause-cracked c = rw c.replace-cracked.ensures.value c.requires.cracked

pub returns-in-Ok-clause-merged : goal.returns-in-Ok-clause-merged
returns-in-Ok-clause-merged c = (
  rw (c.replace-cracked.ensures.value, c.in-Ok.merged-is) at c.in-Ok.ensures.merged,
  rw (c.replace-cracked.ensures.value, c.in-Ok.merged-is) at c.in-Ok.ensures.near,
  rw (c.replace-cracked.ensures.value, c.in-Ok.merged-is) at c.in-Ok.ensures.tallied,
)

pub returns-in-Err-clause-stopped : goal.returns-in-Err-clause-stopped
returns-in-Err-clause-stopped c = rw (c.replace-cracked.ensures.value, c.in-Err.left-is) at c.in-Err.ensures.stopped
