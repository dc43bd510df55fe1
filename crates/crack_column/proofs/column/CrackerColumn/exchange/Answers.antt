use Rattle.std.proofs.Common.{◌≡◌, ◌<◌, ◌+◌, List, length, take, get_or, set, ◌∷◌, [], arith, refl, ap, ◌∙◌}
use Rattle.crack_arena.specs.Arena.{times, no_handle}
use Rattle.crack_arena.proofs.Times.{times-le-length}
use Rattle.crack_arena.specs.Rows.{unknown}
use Rattle.crack_column.specs.declared.tag.Tag.{Tag}
use Rattle.crack_arena.specs.Memories.{Agrees, nothing}
use Rattle.crack_column.specs.Places.{tag_handle, memory_of, handles_in, remembered_in}
use Rattle.crack_column.specs.Keeps.{unread_in}
use Rattle.crack_column.specs.Inside.{no_tag}
use Rattle.crack_column.specs.Labels.{TagVector}
use Rattle.crack_arena.proofs.Remembering.{Remembers-set}
use Rattle.crack_column.proofs.PlaceLaws.{length-in, length-aside, first-aside, handle_in, memory_in, unread-le, length-exchange, handles-exchange, remembered-exchange, unread-exchange, aside-exchange}
use Rattle.crack_column.proofs.column.CrackerColumn.exchange.Goals as goal
use Rattle.crack_column.proofs.column.CrackerColumn.exchange.Goals.{After-unread-2}

first : (c : After-unread-2) → c.args.place < c.self.inside.len
first c =
    let within : c.args.place < length c.args.self.now.handles = c.requires.within in
    omega (arith, rw (← c.self.view_is) at within, length-in c.self.inside.tags.items c.self.inside.len c.self.invariant.within)

some : (c : After-unread-2) → c.self.inside.len < length c.self.inside.tags.items
some c =
    let there : 0 < length c.args.self.now.aside = c.requires.aside in
    omega (arith, rw (← c.self.view_is) at there, length-aside c.self.inside.tags.items c.self.inside.len)

aside_is : (c : After-unread-2) → c.get-aside.result ≡ get_or c.self.inside.tags.items c.self.inside.len no_tag
aside_is c = c.get-aside.ensures

there_is : (c : After-unread-2) → c.get-there.result ≡ get_or c.self.inside.tags.items c.args.place no_tag
there_is c = c.get-there.ensures

-- the tags afterwards
abbrev now : (c : After-unread-2) → List Tag
now c = c.set-2.new.self.items

swapped : (c : After-unread-2) → now c ≡ set (set c.self.inside.tags.items c.args.place (get_or c.self.inside.tags.items c.self.inside.len no_tag)) c.self.inside.len (get_or c.self.inside.tags.items c.args.place no_tag)
swapped c =
    let ts = c.self.inside.tags.items in
    let n = c.self.inside.len in
    ap (λ (v : TagVector). v.items) c.set-2.ensures ∙ ap (λ (v : TagVector). set v.items n c.get-there.result) c.set.ensures ∙ ap (λ t. set (set ts c.args.place t) n c.get-there.result) (aside_is c) ∙ ap (λ t. set (set ts c.args.place (get_or ts n no_tag)) n t) (there_is c)

counted : (c : After-unread-2) → unread_in (take c.self.inside.len (now c)) + c.unread-2.result ≡ c.self.inside.unread + c.unread.result
counted c =
    let ts = c.self.inside.tags.items in
    let n = c.self.inside.len in
    let in_one : c.unread.result ≡ times unknown ((get_or ts n no_tag).key ∷ []) = c.unread.ensures ∙ ap (λ (t : Tag). times unknown (t.key ∷ [])) (aside_is c) in
    let out_one : c.unread-2.result ≡ times unknown ((get_or ts c.args.place no_tag).key ∷ []) = c.unread-2.ensures ∙ ap (λ (t : Tag). times unknown (t.key ∷ [])) (there_is c) in
    omega (arith, c.self.invariant.counted, in_one, out_one, unread-exchange ts (now c) n c.args.place c.self.invariant.within (first c) (some c) (swapped c))

pub overflow_add-self : goal.overflow_add-self
overflow_add-self c =
    omega (arith, unread-le c.self.inside.tags.items c.self.inside.len c.self.invariant.within, c.self.invariant.counted, c.self.invariant.within, c.self.invariant.few, c.unread.ensures, times-le-length unknown (c.get-aside.result.key ∷ []))

pub overflow_sub-self : goal.overflow_sub-self
overflow_sub-self c = omega (arith, counted c)

pub invariant_of-self : goal.invariant_of-self
invariant_of-self c =
    let long = length-exchange c.self.inside.tags.items (now c.before) c.self.inside.len c.args.place c.self.invariant.within (first c.before) (some c.before) (swapped c.before) in
    record {
      within = omega (arith, long, c.self.invariant.within);
      few = omega (arith, long, c.self.invariant.few);
      counted = omega (arith, counted c.before);
    }

pub returns-clause-after : goal.returns-clause-after
returns-clause-after c =
    let ts = c.self.inside.tags.items in
    let n = c.self.inside.len in
    let place = c.args.place in
    let fits = c.self.invariant.within in
    rw (
      ← c.self.view_is,
      handles-exchange ts (now c.before) n place fits (first c.before) (some c.before) (swapped c.before),
      remembered-exchange ts (now c.before) n place fits (first c.before) (some c.before) (swapped c.before),
      aside-exchange ts (now c.before) n place fits (first c.before) (some c.before) (swapped c.before),
      ap (λ (v : TagVector). v.capacity) c.set-2.ensures,
      ap (λ (v : TagVector). v.capacity) c.set.ensures,
      length-exchange ts (now c.before) n place fits (first c.before) (some c.before) (swapped c.before),
      first-aside ts n (some c.before),
      handle_in ts n place no_handle fits (first c.before),
      memory_in ts n place nothing fits (first c.before),
    ) refl

pub returns-clause-remembered : goal.returns-clause-remembered
returns-clause-remembered c = λ cells remembers agrees.
    let ts = c.self.inside.tags.items in
    let n = c.self.inside.len in
    let place = c.args.place in
    let fits = c.self.invariant.within in
    let t = get_or ts n no_tag in
    let known = rw (← c.self.view_is) at remembers in
    let right : Agrees cells (tag_handle t) (memory_of t) = rw (← c.self.view_is, first-aside ts n (some c.before)) at agrees in
    rw (
      handles-exchange ts (now c.before) n place fits (first c.before) (some c.before) (swapped c.before),
      remembered-exchange ts (now c.before) n place fits (first c.before) (some c.before) (swapped c.before),
    ) (Remembers-set cells (handles_in ts n) (remembered_in ts n) place (tag_handle t) (memory_of t) right known)
