use Rattle.std.proofs.Common.{◌≡◌, ◌≤◌, ◌+◌, ◌-◌, arith}
use Rattle.crack_arena.specs.Arena.{no_handle}
use Rattle.crack_column.specs.Places.{tag_handle}
use Rattle.crack_column.proofs.PlaceLaws.{length-in, stretch_of}
use Rattle.crack_column.proofs.column.CrackerColumn.place_between.Goals as goal

pub returns-in-Some : goal.returns-in-Some
returns-in-Some c =
    let ts = c.self.inside.tags.items in
    let within = rw (← c.self.view_is) at c.requires.within in
    let end : c.args.to ≤ c.self.inside.len = omega (arith, within, length-in ts c.self.inside.len c.self.invariant.within) in
    let back : c.args.from + c.in-Some.place - c.args.from ≡ c.in-Some.place = omega arith in
    let first = c.in-Some.ensures in
    (omega arith, rw (← c.self.view_is, stretch_of tag_handle no_handle ts c.self.inside.len c.args.from c.args.to c.self.invariant.within end, back) first)

pub returns-in-None : goal.returns-in-None
returns-in-None c =
    let ts = c.self.inside.tags.items in
    let within = rw (← c.self.view_is) at c.requires.within in
    let end : c.args.to ≤ c.self.inside.len = omega (arith, within, length-in ts c.self.inside.len c.self.invariant.within) in
    let absent = c.in-None.ensures in
    rw (← c.self.view_is, stretch_of tag_handle no_handle ts c.self.inside.len c.args.from c.args.to c.self.invariant.within end) absent
