use Rattle.std.proofs.Common.{◌<◌, length, refl, ap, arith}
use Rattle.crack_tags.specs.declared.label.Label.{Label}
use Rattle.crack_tags.proofs.TagLaws.{length-handles_of, same-handles_of, set-memories_of}
use Rattle.crack_tags.proofs.list.TagList.remember.Goals as goal

pub returns : goal.returns
returns c =
    let ls = c.self.inside.labels.items in
    let ps = c.self.inside.payloads.items in
    let l : Label = record { key = c.key.result; handle = c.index.result.now.handle } in
    let there : c.args.spot < length c.args.self.now.handles = c.requires in
    let within : c.args.spot < length ls = omega (arith, rw (← c.self.view_is) at there, length-handles_of ls) in
    rw (← c.self.view_is, same-handles_of ls c.args.spot l c.index.result.now within (ap (λ (m : Label). m.handle) c.index.ensures), set-memories_of ls ps c.args.spot l c.payload.result, c.key.ensures, c.payload.ensures) refl
