use Rattle.std.proofs.Common.{◌∙◌}
use Rattle.crack_column.proofs.LabelLaws.{handles-tags_of, memories-tags_of}
use Rattle.crack_column.proofs.tags.Tags.of.Goals as goal

pub returns-clause-handles : goal.returns-clause-handles
returns-clause-handles c =
    let lists = c.into_lists-labels.result in
    handles-tags_of lists.0.items lists.1.items c.into_lists-labels.ensures.beside ∙ c.into_lists-labels.ensures.handles

pub returns-clause-remembered : goal.returns-clause-remembered
returns-clause-remembered c =
    let lists = c.into_lists-labels.result in
    memories-tags_of lists.0.items lists.1.items ∙ c.into_lists-labels.ensures.remembered
