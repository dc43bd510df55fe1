use Rattle.std.proofs.Common.{◌<◌, length, arith, refl}
use Rattle.std.proofs.lemmas.Bool.Decides.{nat_tests}
use Rattle.std.proofs.lemmas.Option.{slice_get_read}
use Rattle.crack_table.proofs.covering.is_right_in.Goals as goal

pub returns : goal.returns
returns c =
    let found = c.in_ok-entry.ensures.lookup in
    let within : c.args.receipt.now.position < length c.args.list.now = grind (arith, nat_tests, found.0) in
    (c.in_ok-entry.entry.now, slice_get_read c.args.list.now (length c.args.list.now) c.args.receipt.now.position c.in_ok-entry.entry.now refl within found.1, c.is_entry.ensures)
