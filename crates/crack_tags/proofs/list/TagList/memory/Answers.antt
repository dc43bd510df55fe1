use Rattle.std.proofs.Common.{◌<◌, length, refl, arith}
use Rattle.crack_tags.proofs.TagLaws.{length-handles_of, memory_at_place}
use Rattle.crack_tags.proofs.list.TagList.memory.Goals as goal

pub returns : goal.returns
returns c =
    let ls = c.self.inside.labels.items in
    let ps = c.self.inside.payloads.items in
    let there : c.args.spot < length c.args.self.now.handles = c.requires in
    let within : c.args.spot < length ls = omega (arith, rw (← c.self.view_is) at there, length-handles_of ls) in
    let at = memory_at_place ls ps c.args.spot c.index.result.now c.index-2.result.now c.self.invariant within in
    rw (← c.self.view_is, at, c.new.ensures, ← c.index.ensures, ← c.index-2.ensures) refl
