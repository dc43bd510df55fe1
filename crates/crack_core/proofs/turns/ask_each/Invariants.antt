use Rattle.std.proofs.Common.{◌≡◌, ◌≤◌, Ok, length, take}
use Rattle.std.specs.Prelude.{All, vec_len, vec_capacity}
use Rattle.crack_plain.specs.Plain.{IsSmall}
use Rattle.crack_core.specs.Asking.{AsksEach, asking}
use Rattle.crack_core.specs.declared.turns.PartReply.{PartReply}
use Rattle.crack_core.proofs.turns.ask_each.Given as goal

abbrev pub invariant-parts : goal.invariant-parts
invariant-parts g l = record {
  asked : AsksEach g.A.AskPart.asks l.policy (λ range. asking l.query range) l.fn.partitions (take l.part-index l.parts) (Ok l.replies.items) l.partitions;
  small : All (λ (r : PartReply). IsSmall r.reply) l.replies.items;
  count : vec_len l.replies ≡ l.part-index;
  room : length l.parts ≤ vec_capacity l.replies;
}
