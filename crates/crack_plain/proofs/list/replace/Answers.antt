use Rattle.std.proofs.Common.{rules}
use Rattle.std.proofs.lemmas.List.Edits.{map_over_more}
use Rattle.crack_row.specs.Rows.{replaced}
use Rattle.crack_plain.proofs.list.replace.Goals as goal

pub rows-preserved : goal.rows-preserved
rows-preserved c = rw c.replaced.ensures (map_over_more (replaced c.args.new) c.args.rows.now c.rows.rows c.rows.place _ c.rows-test.true c.rows.invariant (search rules))
