use Rattle.std.proofs.Common.{rules}
use Rattle.crack_csv.proofs.insertion.insert_row.Goals as goal

pub returns-clause-asks : goal.returns-clause-asks
returns-clause-asks g c = search rules

pub returns-clause-asks_in_vain : goal.returns-clause-asks_in_vain
returns-clause-asks_in_vain g c = search rules
