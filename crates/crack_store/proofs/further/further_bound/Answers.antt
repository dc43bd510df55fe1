use Rattle.std.proofs.Common.{IsTrue, [], subst, sym, rules}
use Rattle.crack_store.specs.Inside.{lists_of}
use Rattle.crack_store.specs.Further.{IsMiddle, EndsDivideWell}
use Rattle.crack_store.proofs.FurtherLemmas.{keys-own, further-is}
use Rattle.crack_store.proofs.further.further_bound.Goals as goal

pub returns-then-ends_divide_well-clause-none : goal.returns-then-ends_divide_well-clause-none
returns-then-ends_divide_well-clause-none c little =
    let keys = keys-own (lists_of c.args.inside.now) c.args.end.0 c.in-Some.piece c.samples-keys.result c.samples-keys.ensures c.in-Some.ensures.own in
    let is : IsTrue c.ends_divide_well.result = search rules in
    little.1 (subst (EndsDivideWell c.args.range) keys (c.ends_divide_well.ensures.0 is))

pub returns-clause-little : goal.returns-clause-little
returns-clause-little c = (
  c.in-Some.ensures.falls,
  λ well.
      let keys = keys-own (lists_of c.args.inside.now) c.args.end.0 c.in-Some.piece c.samples-keys.result c.samples-keys.ensures c.in-Some.ensures.own in
      let is : IsTrue c.ends_divide_well.result = c.ends_divide_well.ensures.1 (subst (EndsDivideWell c.args.range) (sym keys) well) in
      absurd (search rules),
)

pub returns-clause-further : goal.returns-clause-further
returns-clause-further c =
    let keys = keys-own (lists_of c.args.inside.now) c.args.end.0 c.in-Some.piece c.samples-keys.result c.samples-keys.ensures c.in-Some.ensures.own in
    further-is (lists_of c.args.inside.now) [] c.args.end.0 c.middle-middle.result c.bound_at.result.0 c.requires.intact.intact c.in-Some.ensures.falls
    (subst (λ numbers. IsMiddle numbers c.middle-middle.result) keys c.middle-middle.ensures)
    (search rules)
