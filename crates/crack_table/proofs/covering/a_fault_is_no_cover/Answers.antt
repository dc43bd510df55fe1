use Rattle.crack_table.proofs.Conclusions.{fault_uncovered}
use Rattle.crack_table.proofs.covering.a_fault_is_no_cover.Goals as goal

pub returns : goal.returns
returns c = fault_uncovered
