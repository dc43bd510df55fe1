use Rattle.std.proofs.Common.{◌≡◌, get_or, sym, ◌∙◌, inl, inr, arith}
use Rattle.std.proofs.lemmas.Bool.{cases_eq}
use Rattle.crack_arena.specs.Rows.{unknown}
use Rattle.crack_arena.proofs.Times.{times_other}
use Rattle.crack_arena.specs.Memories.{nothing}
use Rattle.crack_pending.proofs.Unknown.{one_less}
use Rattle.crack_pending.proofs.rows.unknowns_without.Goals as goal

pub returns-then-unknowns-eq0 : goal.returns-then-unknowns-eq0
returns-then-unknowns-eq0 c =
    let key = (get_or c.args.tags.now.remembered c.args.spot nothing).key in
    elim (cases_eq key unknown) [
      | inl e ↦ absurd (omega (arith, c.requires.counted e, c.if-unknowns-eq0.true))
      | inr ne ↦ omega (arith, times_other unknown key ne, c.if-unknowns-eq0.true)
    ]

pub returns-then-key : goal.returns-then-key
returns-then-key c =
    let key = (get_or c.args.tags.now.remembered c.args.spot nothing).key in
    let is : key ≡ unknown = sym (c.key.ensures) ∙ c.if-key.true in
    one_less c.args.unknowns key is (c.requires.counted is)

pub returns-else-key : goal.returns-else-key
returns-else-key c =
    let key = (get_or c.args.tags.now.remembered c.args.spot nothing).key in
    omega (arith, times_other unknown key (λ e. c.if-key.false (c.key.ensures ∙ e)))
