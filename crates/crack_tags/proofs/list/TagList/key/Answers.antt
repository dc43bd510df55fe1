use Rattle.std.proofs.Common.{◌<◌, length, ap, arith}
use Rattle.crack_arena.specs.Rows.{no_payload}
use Rattle.crack_tags.specs.declared.label.Label.{Label}
use Rattle.crack_tags.proofs.TagLaws.{length-handles_of, memory_at_place}
use Rattle.crack_tags.proofs.list.TagList.key.Goals as goal

pub returns : goal.returns
returns c =
    let ls = c.self.inside.labels.items in
    let ps = c.self.inside.payloads.items in
    let there : c.args.spot < length c.args.self.now.handles = c.requires in
    let within : c.args.spot < length ls = omega (arith, rw (← c.self.view_is) at there, length-handles_of ls) in
    rw (← c.self.view_is, memory_at_place ls ps c.args.spot c.index.result.now no_payload c.self.invariant within) (ap (λ (l : Label). l.key) c.index.ensures)
