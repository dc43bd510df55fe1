use Rattle.std.proofs.Common.{rules, ◌+◌, ◌<◌, length, min, vec_capacity, arith}
use Rattle.crack_column.specs.Labels.{tags_of}
use Rattle.crack_column.proofs.LabelLaws.{length-tags_of}
use Rattle.crack_column.proofs.tags.Tags.reserve.Goals as goal

pub returns-in_err-reserve-clause-full : goal.returns-in_err-reserve-clause-full
returns-in_err-reserve-clause-full c =
    let long = length-tags_of c.self.inside.labels.items c.self.inside.payloads.items c.self.invariant in
    let short : min (vec_capacity c.self.inside.labels) (vec_capacity c.self.inside.payloads) < length (tags_of c.self.inside.labels.items c.self.inside.payloads.items) + c.args.additional = omega (arith, long, c.in_err-reserve.ensures.full) in
    rw (← c.self.view_is) (search (rules, short))

pub returns-in-Err-clause-full : goal.returns-in-Err-clause-full
returns-in-Err-clause-full c =
    let long = length-tags_of c.self.inside.labels.items c.self.inside.payloads.items c.self.invariant in
    let short : min (vec_capacity c.self.inside.labels) (vec_capacity c.self.inside.payloads) < length (tags_of c.self.inside.labels.items c.self.inside.payloads.items) + c.args.additional = omega (arith, long, c.self.invariant, c.in-Err.ensures.full, c.in_ok-reserve.ensures.ok) in
    rw (← c.self.view_is) (search (rules, short))

pub returns-clause-ok : goal.returns-clause-ok
returns-clause-ok c = rw (c.reserve.ensures.items, c.reserve-2.ensures.items) (omega (arith, length-tags_of c.self.inside.labels.items c.self.inside.payloads.items c.self.invariant, c.self.invariant, c.in_ok-reserve.ensures.ok, c.in_default.ensures.ok))
