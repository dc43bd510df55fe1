use Rattle.std.proofs.Common.{◌≤◌, arith, sym, ◌∙◌}
use Rattle.std.specs.List.{between}
use Rattle.std.specs.Int.{w128}
use Rattle.std.proofs.lemmas.Int.{ints, to_z-of_z, fits_signed_from_abs}
use Rattle.crack_arena.specs.Arena.{no_handle}
use Rattle.crack_arena.specs.Rows.{amount_at}
use Rattle.crack_row.proofs.Totals.{total_by-map}
use Rattle.crack_column.specs.Places.{tag_handle}
use Rattle.crack_column.proofs.PlaceLaws.{length-in, Knows-Remembers, unread-between, stretch_of}
use Rattle.crack_column.proofs.column.CrackerColumn.sum_between.Goals as goal
use Rattle.crack_column.proofs.column.CrackerColumn.sum_between.Goals.{After-self}

end_len : (c : After-self) → c.args.to ≤ c.self.inside.len
end_len c =
    let within = rw (← c.self.view_is) at c.requires.within in
    omega (arith, within, length-in c.self.inside.tags.items c.self.inside.len c.self.invariant.within)

pub sum_between-requires-clause-known : goal.sum_between-requires-clause-known
sum_between-requires-clause-known c =
    let remembers = rw (← c.self.view_is) at c.requires.remembered in
    Knows-Remembers c.args.arena.now.cells c.self.inside.tags.items c.self.inside.len c.args.from c.args.to c.self.invariant.within (end_len c) remembers

pub sum_between-requires-clause-unread : goal.sum_between-requires-clause-unread
sum_between-requires-clause-unread c =
    let few = unread-between c.self.inside.tags.items c.self.inside.len c.args.from c.args.to c.self.invariant.within c.requires.order (end_len c) in
    omega (arith, few, c.self.invariant.counted)

pub returns-clause-value : goal.returns-clause-value
returns-clause-value c =
    let f = amount_at c.args.arena.now.cells in
    let ts = c.self.inside.tags.items in
    let fits = to_z-of_z w128 c.sum_between.result (fits_signed_from_abs w128 c.sum_between.result (omega (arith, ints, c.sum_between.ensures.small.0, c.sum_between.ensures.small.1))) in
    let read = c.sum_between.ensures.value in
    rw (← c.self.view_is, stretch_of tag_handle no_handle ts c.self.inside.len c.args.from c.args.to c.self.invariant.within (end_len c.before)) (fits ∙ read ∙ sym (total_by-map f tag_handle (between c.args.from c.args.to ts)))
