use Rattle.std.proofs.Common.{◌≡◌, length, refl, sym, ap, ◌∙◌, arith}
use Rattle.std.proofs.lemmas.List.{length-map, take_all, drop_all}
use Rattle.crack_arena.specs.Arena.{times}
use Rattle.crack_arena.specs.Rows.{unknown}
use Rattle.crack_tags.specs.Tags.{unknown_in}
use Rattle.crack_column.specs.Places.{tag_handle}
use Rattle.crack_column.proofs.LabelLaws.{keys-remembered}
use Rattle.crack_column.proofs.column.CrackerColumn.adopt.Goals as goal
use Rattle.crack_column.proofs.column.CrackerColumn.adopt.Goals.{After-of}

-- all tags are the column's
all : (c : After-of) → length c.of.result.items ≡ c.len-self-inside.result
all c = sym (length-map c.of.result.items tag_handle) ∙ ap length c.of.ensures.handles ∙ sym c.len-self-inside.ensures.value

pub invariant_of-self : goal.invariant_of-self
invariant_of-self c =
    let ts = c.of.result.items in
    let long = all (goal.at.invariant_of-self c).After-of in
    record {
      within = omega (arith, long);
      few = omega (arith, long, c.len-self-inside.ensures.value, c.requires.few);
      counted = rw (take_all c.len-self-inside.result ts (omega (arith, long))) (ap (times unknown) (sym (keys-remembered ts)) ∙ ap unknown_in c.of.ensures.remembered ∙ c.requires.unread);
    }

pub returns-clause-handles : goal.returns-clause-handles
returns-clause-handles c =
    let long = all (goal.at.returns-clause-handles c).After-of in
    rw (take_all c.len-self-inside.result c.of.result.items (omega (arith, long))) c.of.ensures.handles

pub returns-clause-remembered : goal.returns-clause-remembered
returns-clause-remembered c =
    let long = all (goal.at.returns-clause-remembered c).After-of in
    rw (take_all c.len-self-inside.result c.of.result.items (omega (arith, long))) c.of.ensures.remembered

pub returns-clause-aside : goal.returns-clause-aside
returns-clause-aside c =
    let long = all (goal.at.returns-clause-aside c).After-of in
    rw (drop_all c.len-self-inside.result c.of.result.items (omega (arith, long))) refl
