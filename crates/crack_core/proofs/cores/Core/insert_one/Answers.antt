use Rattle.std.proofs.Common.{◌≡◌, arith}
use Rattle.std.proofs.lemmas.Int.{ints, to_z-of_z}
use Rattle.crack_core.proofs.RunLaws.{one-inserted, one-refused}
use Rattle.crack_core.proofs.cores.Core.insert_one.Goals as goal

pub returns-in-Ok-clause-inserts : goal.returns-in-Ok-clause-inserts
returns-in-Ok-clause-inserts c =
    let payload_is : c.from_number-2.result.0 ≡ c.args.payload = grind (arith, ints, to_z-of_z) in
    one-inserted c.args.self.now.limits c.args.self.now.splits c.args.key c.args.payload c.from_number.result c.from_number-2.result c.args.parts.now c.args.serials.now c.args.i c.in-Ok.row c.args.self.now.parts c.insert.new.self.parts c.from_number.ensures payload_is c.requires.parts c.requires.serials c.in-Ok.ensures.inserts

pub returns-in-Err-clause-refused : goal.returns-in-Err-clause-refused
returns-in-Err-clause-refused c =
    let payload_is : c.from_number-2.result.0 ≡ c.args.payload = grind (arith, ints, to_z-of_z) in
    one-refused c.args.self.now.limits c.args.self.now.splits c.args.key c.args.payload c.from_number.result c.from_number-2.result c.in-Err.refusal c.args.self.now.parts c.insert.new.self.parts c.from_number.ensures payload_is c.in-Err.ensures.inserts
