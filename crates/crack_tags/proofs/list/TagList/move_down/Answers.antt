use Rattle.std.proofs.Common.{◌<◌, length, refl, arith}
use Rattle.crack_tags.proofs.TagLaws.{length-handles_of, handle_at, memory_at_place, set-handles_of, set-memories_of}
use Rattle.crack_tags.proofs.list.TagList.move_down.Goals as goal

pub returns : goal.returns
returns c =
    let ls = c.self.inside.labels.items in
    let ps = c.self.inside.payloads.items in
    let l = c.index.result.now in
    let p = c.index-2.result.now in
    let there : c.args.spot < length c.args.self.now.handles = c.requires.spot in
    let within : c.args.spot < length ls = omega (arith, rw (← c.self.view_is) at there, length-handles_of ls) in
    rw (← c.self.view_is, set-handles_of ls c.args.low l, set-memories_of ls ps c.args.low l p, handle_at ls c.args.spot l within, memory_at_place ls ps c.args.spot l p c.self.invariant within, ← c.index.ensures, ← c.index-2.ensures) refl
