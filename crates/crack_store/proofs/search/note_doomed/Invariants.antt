use Rattle.std.proofs.Common.{◌-◌}
use Rattle.crack_store.proofs.search.note_doomed.Given as goal

abbrev pub decreases-parts : goal.decreases-parts
decreases-parts l = l.to - l.place
