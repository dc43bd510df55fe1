use Rattle.std.proofs.Common.{◌≡◌, ◌<◌, ◌+◌, ◌-◌, length, take, get_or, ◌∷◌, [], arith, ap, ◌∙◌}
use Rattle.crack_arena.specs.Arena.{times}
use Rattle.crack_arena.specs.Rows.{unknown}
use Rattle.crack_column.specs.Keeps.{remembered_key, unread_in}
use Rattle.crack_column.specs.Inside.{no_tag}
use Rattle.crack_column.proofs.PlaceLaws.{length-in, unread-last}
use Rattle.crack_column.proofs.column.CrackerColumn.pop_aside.Goals as goal
use Rattle.crack_column.proofs.column.CrackerColumn.pop_aside.Goals.{After-unread}

some : (c : After-unread) → 0 < c.self.inside.len
some c =
    let there : 0 < length c.args.self.now.handles = c.requires in
    omega (arith, rw (← c.self.view_is) at there, length-in c.self.inside.tags.items c.self.inside.len c.self.invariant.within)

-- what is unread without the last, and the last
counted : (c : After-unread) → unread_in (take (c.self.inside.len - 1) c.self.inside.tags.items) + c.unread.result ≡ c.self.inside.unread
counted c =
    let ts = c.self.inside.tags.items in
    let n = c.self.inside.len - 1 in
    let more : c.self.inside.len ≡ n + 1 = omega (arith, some c) in
    let inside : n < length ts = omega (arith, some c, c.self.invariant.within) in
    let all : unread_in (take (n + 1) ts) ≡ c.self.inside.unread = rw more at c.self.invariant.counted in
    let key : c.get.result.key ≡ (get_or ts n no_tag).key = ap remembered_key c.get.ensures in
    let one : c.unread.result ≡ times unknown ((get_or ts n no_tag).key ∷ []) = c.unread.ensures ∙ ap (λ k. times unknown (k ∷ [])) key in
    omega (arith, all, one, unread-last ts n inside)

pub overflow_sub-self-2 : goal.overflow_sub-self-2
overflow_sub-self-2 c = omega (arith, counted c)

pub invariant_of-self : goal.invariant_of-self
invariant_of-self c = record { within = omega (arith, c.self.invariant.within); few = c.self.invariant.few; counted = omega (arith, counted c.before) }
