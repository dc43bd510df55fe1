use Rattle.std.proofs.Common.{sym, ◌∙◌}
use Rattle.crack_tags.proofs.TagLaws.{length-handles_of, length-memories_of}
use Rattle.crack_tags.proofs.list.TagList.len.Goals as goal

pub returns-clause-beside : goal.returns-clause-beside
returns-clause-beside c =
    let ls = c.self.inside.labels.items in
    rw (← c.self.view_is) (length-memories_of ls c.self.inside.payloads.items c.self.invariant ∙ sym (length-handles_of ls))
