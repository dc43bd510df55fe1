use Rattle.std.proofs.Common.{rules, ◌≡◌, Err, refl, ap, ◌∙◌}
use Rattle.crack_row.specs.declared.refusal.Refusal.{Refusal}
use Rattle.crack_part.specs.Refusals.{refusal_of}
use Rattle.crack_part.proofs.ClearLaws.{Spares-unchanged}
use Rattle.crack_part.proofs.RefusalLaws.{if_refused}
use Rattle.crack_witness.proofs.listing.apply_listed.Goals as goal

-- a refusal before the partition is asked is passed on
given : (c : goal.After-from_residual) → c.from_residual.result ≡ Err c.in_err-position.field-0.0
given c = search rules

pub returns-in_err-position-clause-spared : goal.returns-in_err-position-clause-spared
returns-in_err-position-clause-spared c = rw (given c) (Spares-unchanged c.args.policy c.args.partition.now c.args.command)

pub returns-in_err-position-clause-refused : goal.returns-in_err-position-clause-refused
returns-in_err-position-clause-refused c =
    let p = c.args.partition.now in
    let e = c.in_err-position.field-0.0 in
    if_refused (refusal_of p c.args.command) (λ (x : Refusal). e ≡ x) (λ (x : Refusal). (c.from_residual.result ≡ Err x) × (p ≡ p)) (λ x is. (given c ∙ ap Err is, refl)) c.in_err-position.ensures.refused
