use Rattle.std.proofs.Common.{rules, arith, ap, ◌∙◌}
use Rattle.std.specs.Prelude.{◌≡◌, Err}
use Rattle.std.proofs.lemmas.Int.{ints}
use Rattle.crackd_c.specs.declared.handle.TableHandle.{TableHandle}
use Rattle.crackd_c.proofs.CallLaws.{inserts-by}
use Rattle.crackd_c.proofs.crackd_insert.Goals as goal

pub returns-in-Err : goal.returns-in-Err
returns-in-Err c =
    let table = c.args.handle.now.core in
    let same : c.core.result.now ≡ table = c.core.ensures.value ∙ ap (λ (h : TableHandle). h.core) c.is_open.ensures.1 in
    let payload_is : c.from_number-2.result.0 ≡ c.args.payload = omega (arith, ints, c.from_number-2.ensures) in
    let inserts = inserts-by table.limits table.splits c.args.key c.args.payload c.from_number.result c.from_number-2.result (Err c.in-Err.refusal) table.parts c.insert.new.self.parts c.from_number.ensures payload_is (rw same at c.in-Err.ensures.inserts) in
    record { inserts = (search rules, λ is_open. (search rules, (Err c.in-Err.refusal, inserts, search rules))) }
