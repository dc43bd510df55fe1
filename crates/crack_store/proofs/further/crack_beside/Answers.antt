use Rattle.std.proofs.Common.{◌≤◌, [], subst, refl, inl, inr, arith}
use Rattle.crack_store.specs.Inside.{lists_of}
use Rattle.crack_store.specs.Further.{IsMissing}
use Rattle.crack_store.proofs.FurtherLemmas.{further-within, room-after, bounds_in-few}
use Rattle.crack_store.proofs.further.crack_beside.Goals as goal

pub returns-in_default-clause-beside : goal.returns-in_default-clause-beside
returns-in_default-clause-beside c = inr (c.in_default.ensures.none, refl)

pub range_between-ends-requires-clause-one : goal.range_between-ends-requires-clause-one
range_between-ends-requires-clause-one c = omega (arith, c.in-Some.ensures.little.0.missing.high)

pub range_between-ends-requires-clause-other : goal.range_between-ends-requires-clause-other
range_between-ends-requires-clause-other c = omega (arith, further-within (lists_of c.args.inside.now) [] c.args.end.0 c.in-Some.further.0 c.requires.intact.intact c.in-Some.ensures.further)

pub crack_at_ends-requires-clause-room : goal.crack_at_ends-requires-clause-room
crack_at_ends-requires-clause-room c =
    let end = c.in-Some.ensures.little.0.missing in
    let enough : 2 ≤ c.args.inside.now.index.room = elim c.requires.end [ inl e ↦ c.requires.room.low (subst (IsMissing (lists_of c.args.inside.now)) e end) | inr e ↦ c.requires.room.high (subst (IsMissing (lists_of c.args.inside.now)) e end) ] in
    omega (arith, enough, bounds_in-few c.missing_ends-missing.result)

pub returns-clause-beside : goal.returns-clause-beside
returns-clause-beside c = inl (c.in-Some.ensures.little, (c.in-Some.further.0, c.in-Some.ensures.further, rw c.range_between-ends.ensures at c.crack_at_ends.ensures.refined))

pub returns-clause-room : goal.returns-clause-room
returns-clause-room c = room-after (lists_of c.args.inside.now) (lists_of c.crack_at_ends.new.inside) c.args.range c.args.end.0 c.in-Some.further.0 c.args.inside.now.index.room c.crack_at_ends.new.inside.index.room
    c.requires.end c.requires.room c.in-Some.ensures.little.0.missing
    (rw c.range_between-ends.ensures at c.crack_at_ends.ensures.refined)
    (omega (arith, c.crack_at_ends.ensures.room, bounds_in-few c.missing_ends-missing.result))
