use Rattle.std.proofs.Common.{ap, arith, length, refl, ◌∙◌}
use Rattle.std.proofs.lemmas.Result.{on_ok_weaker, on_err_weaker}
use Rattle.crack_row.specs.declared.command.Command.TheVariants.{Insert, Delete, Update}
use Rattle.crack_part.proofs.KnownLemmas.{Knows-placed, KnowsThen-of}
use Rattle.crack_part.proofs.PointLemmas.{on_ok, on_err}
use Rattle.std.specs.Int.{w128}
use Rattle.std.proofs.lemmas.Int.{ints, to_z-of_z, fits_signed_from_abs}
use Rattle.std.proofs.lemmas.List.Sums.{count_by-le-length, length-filter}
use Rattle.crack_row.specs.Ranges.{in_range}
use Rattle.crack_row.specs.declared.command.Reply.TheVariants.{Counted, Summed}
use Rattle.crack_part.proofs.partition.carry_out.Goals as goal

pub returns-in-Count-clause-reply : goal.returns-in-Count-clause-reply
returns-in-Count-clause-reply c = λ plain numbered faithful knows. rw c.in-Count.is (ap Counted (c.count.ensures c.in-Count.field-0 (rw c.in-Count.is at c.requires.common) plain.rows faithful.rows))

pub returns-in-Sum-clause-reply : goal.returns-in-Sum-clause-reply
returns-in-Sum-clause-reply c = λ plain numbered faithful knows.
    let small = c.sum.ensures.small in
    let fits = to_z-of_z w128 c.sum.result (fits_signed_from_abs w128 c.sum.result (omega (arith, ints, small.0, small.1))) in
    rw c.in-Sum.is (ap Summed (fits ∙ (c.sum.ensures.is c.in-Sum.field-0 (rw c.in-Sum.is at c.requires.common) plain numbered faithful knows).0))

pub returns-in-Count-clause-small : goal.returns-in-Count-clause-small
returns-in-Count-clause-small c = λ plain numbered faithful few. omega (arith, c.count.ensures c.in-Count.field-0 (rw c.in-Count.is at c.requires.common) plain.rows faithful.rows, count_by-le-length (in_range c.in-Count.field-0) plain.rows, few)

pub returns-in_ok-rows-in-Select-clause-small : goal.returns-in_ok-rows-in-Select-clause-small
returns-in_ok-rows-in-Select-clause-small c = λ plain numbered faithful few.
    let is = ap length (c.from_vec.ensures ∙ c.in_ok-rows-in-Select.ensures.rows c.in-Select.field-0 (rw c.in-Select.is at c.requires.common) plain numbered faithful.rows) in
    omega (arith, is, length-filter (in_range c.in-Select.field-0) plain.rows, count_by-le-length (in_range c.in-Select.field-0) plain.rows, few)

pub returns-in-Insert-clause-knows : goal.returns-in-Insert-clause-knows
returns-in-Insert-clause-knows c = λ plain numbered faithful knows.
    rw c.in-Insert.is (KnowsThen-of c.args.known.now c.args.known.now plain (Insert c.in-Insert.key c.in-Insert.payload) c.insert.result (on_ok c.insert.result (Knows-placed c.args.known.now plain c.in-Insert.key c.in-Insert.payload knows)) (on_err c.insert.result refl) knows)

pub returns-in-Delete-clause-knows : goal.returns-in-Delete-clause-knows
returns-in-Delete-clause-knows c = λ plain numbered faithful knows.
    rw c.in-Delete.is (KnowsThen-of c.args.known.now c.remove.new.known plain (Delete c.in-Delete.serial) c.remove.result (on_ok_weaker c.remove.result (λ then. then plain numbered faithful.rows knows) c.remove.ensures.knows) (on_err_weaker c.remove.result (λ same. same.1) c.remove.ensures.same) knows)

pub returns-in-Update-clause-knows : goal.returns-in-Update-clause-knows
returns-in-Update-clause-knows c = λ plain numbered faithful knows.
    rw c.in-Update.is (KnowsThen-of c.args.known.now c.rewrite.new.known plain (Update c.in-Update.serial c.in-Update.key c.in-Update.payload) c.rewrite.result (on_ok_weaker c.rewrite.result (λ then. then plain numbered faithful.rows knows) c.rewrite.ensures.knows) (on_err_weaker c.rewrite.result (λ same. same.1) c.rewrite.ensures.same) knows)

pub returns-in-Sum-clause-knows : goal.returns-in-Sum-clause-knows
returns-in-Sum-clause-knows c = λ plain numbered faithful knows.
    rw c.in-Sum.is (c.sum.ensures.is c.in-Sum.field-0 (rw c.in-Sum.is at c.requires.common) plain numbered faithful knows).1

pub returns-in-Delete-clause-faithful : goal.returns-in-Delete-clause-faithful
returns-in-Delete-clause-faithful c =
    rw c.in-Delete.is (on_ok_weaker c.remove.result (λ live plain faithful. record { rows = live plain.rows faithful.rows; serial = faithful.serial }) c.remove.ensures.live)
