use Rattle.std.proofs.Common.{◌≡◌, ◌<◌, ◌+◌, List, length, take, get_or, set, ◌∷◌, [], Some, arith, refl, sym, ap, ◌∙◌, length-set}
use Rattle.crack_arena.specs.Arena.{times}
use Rattle.crack_arena.proofs.Times.{times-le-length}
use Rattle.crack_arena.specs.Rows.{unknown}
use Rattle.crack_arena.specs.Memories.{Memory}
use Rattle.crack_arena.proofs.Remembering.{Remembers-set}
use Rattle.crack_column.specs.declared.tag.Tag.{Tag}
use Rattle.crack_column.specs.Labels.{TagVector}
use Rattle.crack_column.specs.Places.{tag_handle, memory_of}
use Rattle.crack_column.specs.Keeps.{unread_in}
use Rattle.crack_column.specs.Inside.{no_tag, tag_for}
use Rattle.crack_column.proofs.PlaceLaws.{length-in, unread-le, handles-set, remembered-set, unread-set, aside-set, stands_at, remembered_at}
use Rattle.crack_column.proofs.column.CrackerColumn.swap_in_remembered.Goals as goal
use Rattle.crack_column.proofs.column.CrackerColumn.swap_in_remembered.Goals.{After-unread-2}

first : (c : After-unread-2) → c.args.place < c.self.inside.len
first c =
    let within : c.args.place < length c.args.self.now.handles = c.requires in
    omega (arith, rw (← c.self.view_is) at within, length-in c.self.inside.tags.items c.self.inside.len c.self.invariant.within)

-- the tag that comes in, and the tags afterwards
abbrev came : (c : After-unread-2) → Tag
came c = tag_for c.args.handle c.args.remembered

abbrev now : (c : After-unread-2) → List Tag
now c = c.set.new.self.items

now_is : (c : After-unread-2) → now c ≡ set c.self.inside.tags.items c.args.place (came c)
now_is c = ap (λ (v : TagVector). v.items) c.set.ensures ∙ ap (λ (t : Tag). set c.self.inside.tags.items c.args.place t) c.new.ensures

counted : (c : After-unread-2) → unread_in (take c.self.inside.len (now c)) + c.unread-2.result ≡ c.self.inside.unread + c.unread.result
counted c =
    let ts = c.self.inside.tags.items in
    let n = c.self.inside.len in
    let there : c.get-replaced.result ≡ get_or ts c.args.place no_tag = c.get-replaced.ensures in
    let out_one : c.unread-2.result ≡ times unknown ((get_or ts c.args.place no_tag).key ∷ []) = c.unread-2.ensures ∙ ap (λ (t : Tag). times unknown (t.key ∷ [])) there in
    let same : unread_in (take n (now c)) ≡ unread_in (take n (set ts c.args.place (came c))) = ap (λ (us : List Tag). unread_in (take n us)) (now_is c) in
    omega (arith, c.self.invariant.counted, c.unread.ensures, out_one, same, unread-set ts c.args.place (came c) n c.self.invariant.within (first c))

pub overflow_add-self : goal.overflow_add-self
overflow_add-self c =
    omega (arith, unread-le c.self.inside.tags.items c.self.inside.len c.self.invariant.within, c.self.invariant.counted, c.self.invariant.within, c.self.invariant.few, c.unread.ensures, times-le-length unknown (c.args.remembered.key ∷ []))

pub overflow_sub-self : goal.overflow_sub-self
overflow_sub-self c = omega (arith, counted c)

pub invariant_of-self : goal.invariant_of-self
invariant_of-self c =
    let d = (goal.at.invariant_of-self c).After-unread-2 in
    let ts = c.self.inside.tags.items in
    let long : length (now d) ≡ length ts = ap (λ (us : List Tag). length us) (now_is d) ∙ length-set ts c.args.place (came d) in
    record {
      within = omega (arith, long, c.self.invariant.within);
      few = omega (arith, long, c.self.invariant.few);
      counted = omega (arith, counted d);
    }

pub returns-clause-handle : goal.returns-clause-handle
returns-clause-handle c =
    let d = (goal.at.returns-clause-handle c).After-unread-2 in
    rw (← c.self.view_is) (stands_at c.self.inside.tags.items c.self.inside.len c.args.place c.self.invariant.within (first d) ∙ ap (λ (t : Tag). Some (tag_handle t)) (sym c.get-replaced.ensures))

pub returns-clause-known : goal.returns-clause-known
returns-clause-known c =
    let d = (goal.at.returns-clause-known c).After-unread-2 in
    rw (← c.self.view_is) (remembered_at c.self.inside.tags.items c.self.inside.len c.args.place c.self.invariant.within (first d) ∙ ap (λ (t : Tag). Some (memory_of t)) (sym c.get-replaced.ensures) ∙ ap (λ (m : Memory). Some m) (sym c.remembered.ensures))

pub returns-clause-after : goal.returns-clause-after
returns-clause-after c =
    let d = (goal.at.returns-clause-after c).After-unread-2 in
    let ts = c.self.inside.tags.items in
    let n = c.self.inside.len in
    rw (
      ← c.self.view_is,
      now_is d,
      ap (λ (v : TagVector). v.capacity) c.set.ensures,
      handles-set ts c.args.place (came d) n c.self.invariant.within (first d),
      remembered-set ts c.args.place (came d) n c.self.invariant.within (first d),
      aside-set ts c.args.place (came d) n c.self.invariant.within (first d),
      length-set ts c.args.place (came d),
    ) refl

pub returns-clause-remembered : goal.returns-clause-remembered
returns-clause-remembered c = λ cells remembers agrees.
    let d = (goal.at.returns-clause-remembered c).After-unread-2 in
    let ts = c.self.inside.tags.items in
    let n = c.self.inside.len in
    let known = rw (← c.self.view_is) at remembers in
    rw (
      now_is d,
      handles-set ts c.args.place (came d) n c.self.invariant.within (first d),
      remembered-set ts c.args.place (came d) n c.self.invariant.within (first d),
    ) (Remembers-set cells _ _ c.args.place c.args.handle c.args.remembered agrees known)
