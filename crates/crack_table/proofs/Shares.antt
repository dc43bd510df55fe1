-- With an audit the totals of the histories are those of the receipts.
use Rattle.std.proofs.Common.{◌≡◌, ℕ, List, [], ◌∷◌, length, map, refl, ap, sym, ◌∙◌}
use Rattle.std.specs.Prelude.{sum_by}
use Rattle.std.proofs.lemmas.List.{length-map}
use Rattle.std.proofs.lemmas.List.Sums.{sum_by-cons}
use denote.Ref.{Bor}
use Rattle.crack_row.specs.declared.command.Entry.{Entry}
use Rattle.crack_plain.specs.Totals.{inserted, deleted}
use Rattle.crack_witness.specs.Receipts.{AreShares}
use Rattle.crack_witness.specs.Witnesses.{WorkerState, WitnessedState}
use Rattle.crack_table.specs.Audits.{history_in, histories_of, receipts_of}
use Rattle.crack_table.specs.Cover.{Covers}
use Rattle.crack_table.specs.Gather.{AreHistoryTotals}
use Rattle.crack_table.proofs.Counting.{are_shares}

-- there is a list for each partition
pub as_many : (owner : ℕ → ℕ) (lists : List (Bor (List Entry))) (parts : List WitnessedState) → map (λ l. l.now) lists ≡ histories_of owner parts → length lists ≡ length parts
as_many owner lists parts same = sym (length-map lists (λ l. l.now)) ∙ ap length same ∙ length-map parts (history_in owner)

sum_map : (F : List Entry → ℕ) (owner : ℕ → ℕ) (parts : List WitnessedState) → sum_by F (histories_of owner parts) ≡ sum_by (λ (w : WitnessedState). F (history_in owner w)) parts
sum_map F owner [] = refl
sum_map F owner (w ∷ ws) = sum_by-cons F (history_in owner w) (histories_of owner ws) ∙ rw (sum_map F owner ws) (sym (sum_by-cons (λ (w : WitnessedState). F (history_in owner w)) w ws))

pub totals_shared : (owner : ℕ → ℕ) (parts : List WitnessedState) (workers : List WorkerState) (answers placed gone left : ℕ) → Covers (histories_of owner parts) (receipts_of workers) → AreHistoryTotals owner parts answers placed gone left → AreShares (receipts_of workers) answers placed gone
totals_shared owner parts workers answers placed gone left covers totals =
    are_shares (histories_of owner parts) (receipts_of workers) answers placed gone covers
    (totals.accepted_is ∙ sym (sum_map (λ (list : List Entry). length list) owner parts))
    (totals.inserted_is ∙ sym (sum_map (λ (list : List Entry). inserted list) owner parts))
    (totals.deleted_is ∙ sym (sum_map (λ (list : List Entry). deleted list) owner parts))
