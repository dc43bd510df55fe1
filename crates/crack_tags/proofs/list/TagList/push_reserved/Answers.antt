use Rattle.std.proofs.Common.{refl}
use Rattle.crack_tags.proofs.TagLaws.{append-handles_of, append-memories_of}
use Rattle.crack_tags.proofs.list.TagList.push_reserved.Goals as goal

pub returns : goal.returns
returns c =
    let ls = c.self.inside.labels.items in
    rw (← c.self.view_is, c.push_reserved.ensures.items, c.push_reserved-2.ensures.items, append-handles_of ls _, append-memories_of ls _ c.self.inside.payloads.items _ c.self.invariant, c.push_reserved.ensures.capacity, c.push_reserved-2.ensures.capacity, c.key.ensures, c.payload.ensures) refl
