-- The joint reply of several partitions to a query over a range.
use Rattle.std.specs.Prelude.{List}
use Rattle.crack_core.specs.Asking.{total_rows, total_sum}
use Rattle.crack_core.specs.declared.asking.Query.{Query}
use Rattle.crack_core.specs.declared.asking.Query.TheVariants.{CountRows, SumPayloads, SelectRows}
use Rattle.crack_session.specs.declared.answer.Answer.{Answer}
use Rattle.crack_session.specs.declared.answer.Answer.TheVariants.{Counted, Summed, Listed}
use Rattle.crack_core.specs.declared.turns.PartReply.{PartReply}

-- the answer to a query from several partitions' replies: counts and sums are added, rows listed in the replies' order
abbrev pub joint_answer : Query → List PartReply → Answer
joint_answer CountRows replies = Counted (total_rows replies)
joint_answer SumPayloads replies = Summed (total_sum replies)
joint_answer SelectRows replies = Listed (total_rows replies) replies
