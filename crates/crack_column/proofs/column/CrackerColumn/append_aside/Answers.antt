use Rattle.std.proofs.Common.{◌≡◌, ◌<◌, ◌+◌, length, take, get_or, ◌∷◌, [], arith, ap, ◌∙◌}
use Rattle.crack_arena.specs.Arena.{times}
use Rattle.crack_arena.proofs.Times.{times-le-length}
use Rattle.crack_arena.specs.Rows.{unknown}
use Rattle.crack_arena.specs.Memories.{Agrees}
use Rattle.crack_column.specs.Places.{tag_handle, memory_of, handles_in, remembered_in}
use Rattle.crack_column.specs.Keeps.{remembered_key, unread_in}
use Rattle.crack_column.specs.Inside.{no_tag}
use Rattle.crack_arena.proofs.Remembering.{Remembers-append}
use Rattle.crack_column.proofs.PlaceLaws.{length-aside, first-aside, unread-le, unread-last, handles-last, remembered-last}
use Rattle.crack_column.proofs.column.CrackerColumn.append_aside.Goals as goal
use Rattle.crack_column.proofs.column.CrackerColumn.append_aside.Goals.{After-unread}

inside : (c : After-unread) → c.self.inside.len < length c.self.inside.tags.items
inside c =
    let some : 0 < length c.args.self.now.aside = c.requires in
    omega (arith, rw (← c.self.view_is) at some, length-aside c.self.inside.tags.items c.self.inside.len)

-- what is unread, and the one aside
counted : (c : After-unread) → unread_in (take (c.self.inside.len + 1) c.self.inside.tags.items) ≡ c.self.inside.unread + c.unread.result
counted c =
    let ts = c.self.inside.tags.items in
    let n = c.self.inside.len in
    let key : c.get.result.key ≡ (get_or ts n no_tag).key = ap remembered_key c.get.ensures in
    let one : c.unread.result ≡ times unknown ((get_or ts n no_tag).key ∷ []) = c.unread.ensures ∙ ap (λ k. times unknown (k ∷ [])) key in
    omega (arith, c.self.invariant.counted, one, unread-last ts n (inside c))

pub overflow_add-self : goal.overflow_add-self
overflow_add-self c =
    omega (arith, unread-le c.self.inside.tags.items c.self.inside.len c.self.invariant.within, c.self.invariant.counted, c.self.invariant.within, c.self.invariant.few, c.unread.ensures, times-le-length unknown (c.get.result.key ∷ []))

pub invariant_of-self : goal.invariant_of-self
invariant_of-self c = record { within = omega (arith, inside c.before.before); few = c.self.invariant.few; counted = counted c.before.before }

pub returns-clause-remembered : goal.returns-clause-remembered
returns-clause-remembered c = λ cells remembers agrees.
    let ts = c.self.inside.tags.items in
    let n = c.self.inside.len in
    let t = get_or ts n no_tag in
    let known = rw (← c.self.view_is) at remembers in
    let right : Agrees cells (tag_handle t) (memory_of t) = rw (← c.self.view_is, first-aside ts n (inside c.before.before)) at agrees in
    rw (handles-last ts n (inside c.before.before), remembered-last ts n (inside c.before.before)) (Remembers-append cells (handles_in ts n) (remembered_in ts n) (tag_handle t) (memory_of t) right known)
