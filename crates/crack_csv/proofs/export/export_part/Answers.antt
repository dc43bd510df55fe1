use Rattle.std.proofs.Common.{◌≡◌, ◌<◌, ℕ, List, Result, Ok, Err, inl, inr, refl, subst, length, ◌∙◌, ap, arith}
use Rattle.std.proofs.KnownBytes.{Keeps-refl}
use Rattle.crack_row.specs.Ranges.{Range}
use Rattle.crack_row.specs.declared.Bound.{Bound}
use Rattle.crack_row.specs.declared.command.Command.TheVariants.{Select}
use Rattle.crack_row.specs.declared.command.Policy.{Policy}
use Rattle.crack_row.specs.declared.command.Reply.{Reply}
use Rattle.crack_row.specs.declared.refusal.Refusal.{Refusal}
use Rattle.crack_core.specs.Routes.{keys_of_part}
use Rattle.crack_session.specs.Calls.{Call, Asked}
use Rattle.crack_csv.specs.Inside.{AsksPart}
use Rattle.crack_csv.specs.Exports.{record_text}
use Rattle.crack_csv.proofs.Cutting.{part_unlisted, part_unwritten, texts_unsent}
use Rattle.crack_csv.proofs.Exporting.{part_exported}
use Rattle.crack_csv.proofs.export.export_part.Goals as goal

pub returns-in_default-clause-exported : goal.returns-in_default-clause-exported
returns-in_default-clause-exported g c = λ tables e.
    let rows = c.listed-rows.ensures in
    rw rows (
    part_exported _ _ tables c.args.part c.keys_of_part-keys.result c.in-Ok.reply _ _ _
    (c.keys_of_part-keys.ensures ∙ ap (λ splits. keys_of_part splits c.args.part) c.splits.ensures.value)
    (c.in-Ok.ensures.outcome tables e) (c.in-Ok.ensures.after tables e) (rw rows at c.in_default.ensures.writes.ok)
    )

pub returns-in-Err-write_rows-clause-cut : goal.returns-in-Err-write_rows-clause-cut
returns-in-Err-write_rows-clause-cut g c = λ tables e.
    let unsent = texts_unsent record_text _ _ _ _ _ c.in-Err-write_rows.ensures.writes.err.0 c.in-Err-write_rows.ensures.writes.err.1 c.in-Err-write_rows.ensures.writes.front in
    part_unwritten _ _ tables c.args.part c.keys_of_part-keys.result c.in-Ok.reply _ _ _ _ _ _ _ _
    (c.keys_of_part-keys.ensures ∙ ap (λ splits. keys_of_part splits c.args.part) c.splits.ensures.value)
    (c.in-Ok.ensures.outcome tables e) (c.in-Ok.ensures.after tables e) c.in-Ok.ensures.accepted (rw (c.listed-rows.ensures) at unsent)

pub returns-in-Err-clause-cut : goal.returns-in-Err-clause-cut
returns-in-Err-clause-cut g c = λ tables e.
    let within : c.args.part < length tables = let few = c.splits.ensures.partitions tables e in let there = c.requires.there in omega (arith, few, there) in
    part_unlisted _ _ tables c.args.part c.keys_of_part-keys.result _ _ _ _ _ _
    (c.keys_of_part-keys.ensures ∙ ap (λ splits. keys_of_part splits c.args.part) c.splits.ensures.value)
    within (c.in-Err.ensures.outcome tables e) (c.in-Err.ensures.after tables e) c.in-Err.ensures.accepted (Keeps-refl _)

-- a partition is asked for the rows of all its keys
all_keys : {D : Type 0} (leads : D → Call → D → Type 0) (splits : List Bound) (policy : Policy) (part : ℕ) (outcome : Result Reply Refusal) (old new : D) (keys : Range) → keys ≡ keys_of_part splits part → leads old (Asked part (Select keys) policy outcome) new → AsksPart leads splits policy part outcome old new
all_keys leads splits policy part outcome old new keys all led = subst (λ (k : Range). leads old (Asked part (Select k) policy outcome) new) all led

pub returns-in_default-clause-asks : goal.returns-in_default-clause-asks
returns-in_default-clause-asks g c = (
  c.in-Ok.reply,
  all_keys g.D.Desk.leads _ c.args.policy c.args.part (Ok c.in-Ok.reply) _ _ c.keys_of_part-keys.result (c.keys_of_part-keys.ensures ∙ ap (λ splits. keys_of_part splits c.args.part) c.splits.ensures.value) c.in-Ok.ensures.leads,
  ap length c.listed-rows.ensures,
  rw (c.listed-rows.ensures) at c.in_default.ensures.writes.ok,
)

pub returns-in-Err-write_rows-clause-asks_in_part : goal.returns-in-Err-write_rows-clause-asks_in_part
returns-in-Err-write_rows-clause-asks_in_part g c =
    let unsent = texts_unsent record_text _ _ _ _ _ c.in-Err-write_rows.ensures.writes.err.0 c.in-Err-write_rows.ensures.writes.err.1 c.in-Err-write_rows.ensures.writes.front in
    inr (
      c.in-Ok.reply,
      all_keys g.D.Desk.leads _ c.args.policy c.args.part (Ok c.in-Ok.reply) _ _ c.keys_of_part-keys.result (c.keys_of_part-keys.ensures ∙ ap (λ splits. keys_of_part splits c.args.part) c.splits.ensures.value) c.in-Ok.ensures.leads,
      rw (c.listed-rows.ensures) at unsent,
    )

pub returns-in-Err-clause-asks_in_part : goal.returns-in-Err-clause-asks_in_part
returns-in-Err-clause-asks_in_part g c = inl (
  all_keys g.D.Desk.leads _ c.args.policy c.args.part (Err c.in-Err.refusal) _ _ c.keys_of_part-keys.result (c.keys_of_part-keys.ensures ∙ ap (λ splits. keys_of_part splits c.args.part) c.splits.ensures.value) c.in-Err.ensures.leads,
  refl,
  Keeps-refl _,
)
