use Rattle.std.proofs.Common.{◌≡◌, ◌<◌, length, set, get_or, refl, ap, ◌∙◌, arith}
use Rattle.crack_column.specs.declared.tag.Tag.{Tag}
use Rattle.crack_column.specs.Labels.{TagVector}
use Rattle.crack_column.specs.Places.{handles_in, remembered_in}
use Rattle.crack_column.specs.Inside.{no_tag}
use Rattle.crack_column.specs.Column.{swapped}
use Rattle.crack_column.proofs.PlaceLaws.{length-in}
use Rattle.crack_column.proofs.SwapLaws.{length-now, handles-swap, remembered-swap, unread-swap, aside-swap, Remembers-swap}
use Rattle.crack_column.proofs.column.CrackerColumn.swap.Goals as goal
use Rattle.crack_column.proofs.column.CrackerColumn.swap.Goals.{After-set-2}

first : (c : After-set-2) → c.args.one < c.self.inside.len
first c =
    let within : c.args.one < length c.args.self.now.handles = c.requires.one in
    omega (arith, rw (← c.self.view_is) at within, length-in c.self.inside.tags.items c.self.inside.len c.self.invariant.within)

second : (c : After-set-2) → c.args.other < c.self.inside.len
second c =
    let within : c.args.other < length c.args.self.now.handles = c.requires.other in
    omega (arith, rw (← c.self.view_is) at within, length-in c.self.inside.tags.items c.self.inside.len c.self.invariant.within)

-- the tags afterwards
is_swapped : (c : After-set-2) → c.set-2.new.self.items ≡ swapped no_tag c.args.one c.args.other c.self.inside.tags.items
is_swapped c =
    let ts = c.self.inside.tags.items in
    ap (λ (v : TagVector). v.items) c.set-2.ensures ∙ ap (λ (v : TagVector). set v.items c.args.other c.get-here.result) c.set.ensures ∙ ap (λ (t : Tag). set (set ts c.args.one t) c.args.other c.get-here.result) c.get-there.ensures ∙ ap (λ (t : Tag). set (set ts c.args.one (get_or ts c.args.other no_tag)) c.args.other t) c.get-here.ensures

pub invariant_of-self : goal.invariant_of-self
invariant_of-self c =
    let d = (goal.at.invariant_of-self c).After-set-2 in
    let ts = c.self.inside.tags.items in
    let n = c.self.inside.len in
    let long = length-now ts n c.args.one c.args.other c.self.invariant.within (first d) (second d) in
    rw (is_swapped d) (record {
      within = omega (arith, long, c.self.invariant.within);
      few = omega (arith, long, c.self.invariant.few);
      counted = unread-swap ts n c.args.one c.args.other c.self.invariant.within (first d) (second d) ∙ c.self.invariant.counted;
    })

pub returns-clause-after : goal.returns-clause-after
returns-clause-after c =
    let d = (goal.at.returns-clause-after c).After-set-2 in
    let ts = c.self.inside.tags.items in
    let n = c.self.inside.len in
    let fits = c.self.invariant.within in
    rw (
      ← c.self.view_is,
      is_swapped d,
      ap (λ (v : TagVector). v.capacity) c.set-2.ensures,
      ap (λ (v : TagVector). v.capacity) c.set.ensures,
      handles-swap ts n c.args.one c.args.other fits (first d) (second d),
      remembered-swap ts n c.args.one c.args.other fits (first d) (second d),
      aside-swap ts n c.args.one c.args.other fits (first d) (second d),
      length-now ts n c.args.one c.args.other fits (first d) (second d),
    ) refl

pub returns-clause-remembered : goal.returns-clause-remembered
returns-clause-remembered c = λ cells remembers.
    let d = (goal.at.returns-clause-remembered c).After-set-2 in
    let ts = c.self.inside.tags.items in
    let n = c.self.inside.len in
    let fits = c.self.invariant.within in
    let known = rw (← c.self.view_is) at remembers in
    let long = length-in ts n fits in
    rw (
      is_swapped d,
      handles-swap ts n c.args.one c.args.other fits (first d) (second d),
      remembered-swap ts n c.args.one c.args.other fits (first d) (second d),
    ) (Remembers-swap cells (handles_in ts n) (remembered_in ts n) c.args.one c.args.other (omega (arith, first d, long)) (omega (arith, second d, long)) known)
