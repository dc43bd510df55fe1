use Rattle.std.proofs.Common.{refl}
use Rattle.crack_tags.proofs.TagLaws.{take-handles_of, take-memories_of}
use Rattle.crack_tags.proofs.list.TagList.truncate.Goals as goal

pub returns : goal.returns
returns c =
    let ls = c.self.inside.labels.items in
    rw (← c.self.view_is, c.truncate.ensures.items, c.truncate-2.ensures.items, take-handles_of c.args.len ls, take-memories_of c.args.len ls c.self.inside.payloads.items, c.truncate.ensures.capacity, c.truncate-2.ensures.capacity) refl
