use Rattle.std.proofs.Common.{length, arith, ap, refl}
use Rattle.std.proofs.lemmas.List.Elements.{All-nil, All-push}
use Rattle.crack_plain.specs.Plain.{IsSmall}
use Rattle.crack_row.specs.Ranges.{Range}
use Rattle.crack_core.specs.Asking.{asking}
use Rattle.crack_core.specs.declared.turns.PartReply.{PartReply}
use Rattle.crack_core.proofs.TurnLaws.{each-more, each-stop}
use Rattle.crack_core.proofs.turns.ask_each.Goals as goal

pub parts-init : goal.parts-init
parts-init g c = record {
  asked = rw c.requires.none (refl, refl);
  small = rw c.requires.none (All-nil _);
  count = let none = ap length c.requires.none in omega (arith, none);
  room = c.requires.room;
}

pub returns-in-Err-clause-asks : goal.returns-in-Err-clause-asks
returns-in-Err-clause-asks g c =
    each-stop g.A.AskPart.asks c.args.policy (λ (range : Range). asking c.args.query range) c.args.partitions.now c.args.parts.now c.parts.part-index c.part-item.result c.over.result c.parts.replies.items c.in-Err.refusal
    c.parts.partitions _ c.parts-test.true c.part-item.is c.over.ensures c.parts.invariant.asked c.in-Err.ensures.asks

pub parts-preserved : goal.parts-preserved
parts-preserved g c = record {
  asked =
      each-more g.A.AskPart.asks c.args.policy (λ (range : Range). asking c.args.query range) c.args.partitions.now c.args.parts.now c.parts.part-index c.part-item.result c.over.result c.parts.replies.items _ c.in-Ok.reply
      c.parts.partitions _ c.parts-test.true c.part-item.is c.over.ensures c.push_reserved.ensures.items c.parts.invariant.asked c.in-Ok.ensures.asks;
  small = rw c.push_reserved.ensures.items (All-push (λ (r : PartReply). IsSmall r.reply) c.parts.replies.items _ c.parts.invariant.small c.in-Ok.ensures.small);
  count = let len = c.push_reserved.ensures.len in omega (arith, len, c.parts.invariant.count);
  room = let same = c.push_reserved.ensures.capacity in omega (arith, same, c.parts.invariant.room);
}
