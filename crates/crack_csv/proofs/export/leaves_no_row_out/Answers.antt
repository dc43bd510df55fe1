use Rattle.std.proofs.Common.{◌∙◌, ap, arith}
use Rattle.crack_core.specs.Routes.{keys_of_part}
use Rattle.crack_csv.proofs.Within.{all_rows-sound}
use Rattle.crack_csv.proofs.export.leaves_no_row_out.Goals as goal

pub returns : goal.returns
returns c =
    let parts = c.recall_invariant.ensures.parts in
    all_rows-sound c.args.core.now.splits 0 c.args.core.now.parts (λ k d below. parts.keys k d below ∙ ap (keys_of_part c.args.core.now.splits) (omega arith)) parts.sound
