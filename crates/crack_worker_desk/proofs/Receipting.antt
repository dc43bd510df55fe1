-- The receipts that a worker gains at its desk.
use Rattle.std.specs.Prelude.{◌≡◌, ℕ, List, [], ◌∷◌, ◌++◌, map, Option, None, Some, Ok, Err}
use Rattle.std.specs.Option.{option_map}
use Rattle.std.proofs.Common.{refl, sym, ap, ◌∙◌, append-nil, append_assoc}
use Rattle.std.proofs.lemmas.List.{map-append}
use Rattle.crack_row.specs.declared.command.Command.{Command}
use Rattle.crack_row.specs.declared.command.Reply.{Reply}
use Rattle.crack_witness.specs.Audits.{and_one}
use Rattle.crack_witness.specs.declared.receipt.Receipt.{Receipt}
use Rattle.crack_witness.specs.Witnesses.{WorkerState}
use Rattle.crack_session.specs.Calls.{Call, Asked, Checkpointed, Looked, Measured, Surveyed, Calls}
use Rattle.crack_table.specs.Tables.{TableState}
use Rattle.crack_worker_desk.specs.Leads.{answers_in, receipted}
use Rattle.crack_worker_desk.proofs.Holding.{worker_leads}

-- what receipts tell, if there are receipts, and answers after them
abbrev told : Option (List Receipt) → Option (List (ℕ × Command × Reply))
told receipts = option_map (map receipted) receipts

abbrev with_more : List (ℕ × Command × Reply) → Option (List Receipt) → Option (List (ℕ × Command × Reply))
with_more answers receipts = option_map (λ (rs : List Receipt). map receipted rs ++ answers) receipts

none-more : (receipts : Option (List Receipt)) → told receipts ≡ with_more [] receipts
none-more None = refl
none-more (Some rs) = ap Some (sym (append-nil (map receipted rs)))

one-more : (receipts : Option (List Receipt)) (r : Receipt) (answers : List (ℕ × Command × Reply)) → with_more answers (and_one receipts r) ≡ with_more (receipted r ∷ answers) receipts
one-more None r answers = refl
one-more (Some rs) r answers = ap Some (ap (λ l. l ++ answers) (map-append receipted rs (r ∷ [])) ∙ append_assoc (map receipted rs) (receipted r ∷ []) answers)

module _ (owner : ℕ → ℕ) (table : TableState) (may_refuse : ℕ → ℕ → Type 0) where
  pub answers-receipted : (calls : List Call) (old new : WorkerState) → Calls (worker_leads owner table may_refuse) old calls new → told new.receipts ≡ with_more (answers_in calls) old.receipts
  answers-receipted [] old new were = ap (λ (w : WorkerState). told w.receipts) were ∙ none-more old.receipts
  answers-receipted (Asked part command policy (Ok reply) ∷ calls) old new were =
      let one : Receipt = record { part = part; position = were.1.receipts.0; worker = old.worker; command = command; reply = reply } in
      answers-receipted calls were.0 new were.2 ∙ ap (with_more (answers_in calls)) were.1.receipts.1 ∙ one-more old.receipts one (answers_in calls)
  answers-receipted (Asked part command policy (Err e) ∷ calls) old new were =
      answers-receipted calls were.0 new were.2 ∙ ap (λ (w : WorkerState). with_more (answers_in calls) w.receipts) were.1.err
  answers-receipted (Checkpointed part outcome ∷ calls) old new were =
      answers-receipted calls were.0 new were.2 ∙ ap (λ (w : WorkerState). with_more (answers_in calls) w.receipts) were.1.1
  answers-receipted (Looked part outcome ∷ calls) old new were =
      answers-receipted calls were.0 new were.2 ∙ ap (λ (w : WorkerState). with_more (answers_in calls) w.receipts) were.1.1
  answers-receipted (Measured part outcome ∷ calls) old new were =
      answers-receipted calls were.0 new were.2 ∙ ap (λ (w : WorkerState). with_more (answers_in calls) w.receipts) were.1.1
  answers-receipted (Surveyed traffic ∷ calls) old new were =
      answers-receipted calls were.0 new were.2 ∙ ap (λ (w : WorkerState). with_more (answers_in calls) w.receipts) were.1.1
