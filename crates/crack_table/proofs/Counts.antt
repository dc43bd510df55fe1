-- The totals of the histories of partitions.
use Rattle.std.proofs.Common.{◌≡◌, ◌<◌, ◌≤◌, ◌+◌, ◌^◌, ◌*◌, ℕ, List, [], ◌∷◌, length, refl, ap, sym, ◌∙◌, arith}
use Rattle.std.specs.Prelude.{All, sum_by, pos, ◌-ℤ◌}
use Rattle.std.proofs.Math.IntN.{+ℤ-neg_ℤ_cancel}
use Rattle.std.proofs.lemmas.List.Sums.{sum_by-cons}
use Rattle.std.proofs.lemmas.List.Elements.{All-head, All-tail}
use Rattle.std.proofs.lemmas.List.Sorted.{length_permutation}
use Rattle.crack_row.specs.declared.TheConstants.{GREATEST_LIFE}
use Rattle.crack_row.specs.declared.command.Entry.{Entry}
use Rattle.crack_plain.specs.Plain.{PlainState, no_rows, accepted_of}
use Rattle.crack_plain.specs.Totals.{inserted, deleted}
use Rattle.crack_plain.proofs.Laws.{IsNumbered-no_rows, next-replay_from, length_rows-replay_from}
use Rattle.crack_plain.proofs.OrderLaws.{IsPermutation-by_serial}
use Rattle.crack_state.specs.State.{live_rows}
use Rattle.crack_part.specs.Parts.{IsSound, table_of, state_of}
use Rattle.crack_witness.specs.Histories.{history_of}
use Rattle.crack_witness.specs.Witnesses.{WitnessedState, IsWhole}
use Rattle.crack_table.specs.Gather.{AreHistoryTotals}

module _ (owner : ℕ → ℕ) where
  abbrev history : WitnessedState → List Entry
  history w = history_of (owner w.part) w.log

  -- a partition's counts are those of its history, and fit into a life
  record IsCounted (w : WitnessedState) : Type 0 where
    pub accepted_is : accepted_of (table_of w.held) ≡ length (history w)
    pub inserted_is : w.held.next ≡ inserted (history w)
    pub live : length (live_rows w.held.store) + deleted (history w) ≡ inserted (history w)
    pub few : accepted_of (table_of w.held) ≤ GREATEST_LIFE
    pub few_placed : w.held.next ≤ accepted_of (table_of w.held)

  is_counted : (w : WitnessedState) → IsWhole owner w → IsSound w.held → IsCounted w
  is_counted w whole sound =
      let legal = whole.legal (owner w.part) in
      let next = next-replay_from no_rows (history w) legal in
      let rows = length_rows-replay_from no_rows (history w) IsNumbered-no_rows legal in
      let next_is = ap (λ (s : PlainState). s.next) whole.kept.rows in
      let rows_are = ap (λ (s : PlainState). length s.rows) whole.kept.rows in
      let order = length_permutation (live_rows w.held.store) (state_of w.held).rows (IsPermutation-by_serial (live_rows w.held.store)) in record {
        accepted_is = whole.kept.all;
        inserted_is = omega (arith, next, next_is);
        live = omega (arith, rows, rows_are, order);
        few = omega (arith, sound.lived, sound.limited.life.1);
        few_placed = sound.few_placed;
      }

  -- the same of the sums over partitions
  pub record AreCounted (ws : List WitnessedState) : Type 0 where
    pub accepted_is : sum_by (λ (w : WitnessedState). accepted_of (table_of w.held)) ws ≡ sum_by (λ (w : WitnessedState). length (history_of (owner w.part) w.log)) ws
    pub inserted_is : sum_by (λ (w : WitnessedState). w.held.next) ws ≡ sum_by (λ (w : WitnessedState). inserted (history_of (owner w.part) w.log)) ws
    pub live : sum_by (λ (w : WitnessedState). length (live_rows w.held.store)) ws + sum_by (λ (w : WitnessedState). deleted (history_of (owner w.part) w.log)) ws ≡ sum_by (λ (w : WitnessedState). inserted (history_of (owner w.part) w.log)) ws
    pub few : sum_by (λ (w : WitnessedState). accepted_of (table_of w.held)) ws ≤ length ws * 1099511627776
    pub few_placed : sum_by (λ (w : WitnessedState). w.held.next) ws ≤ sum_by (λ (w : WitnessedState). accepted_of (table_of w.held)) ws

  pub are_counted : (ws : List WitnessedState) → All (λ (w : WitnessedState). IsWhole owner w) ws → All (λ (w : WitnessedState). IsSound w.held) ws → AreCounted ws
  are_counted [] whole sound = record { accepted_is = refl; inserted_is = refl; live = refl; few = omega arith; few_placed = omega arith }
  are_counted (w ∷ ws) whole sound =
      let here = is_counted w (All-head (λ (w : WitnessedState). IsWhole owner w) w ws whole) (All-head (λ (w : WitnessedState). IsSound w.held) w ws sound) in
      let rest = are_counted ws (All-tail (λ (w : WitnessedState). IsWhole owner w) w ws whole) (All-tail (λ (w : WitnessedState). IsSound w.held) w ws sound) in
      let accepted_more = sum_by-cons (λ (w : WitnessedState). accepted_of (table_of w.held)) w ws in
      let length_more = sum_by-cons (λ (w : WitnessedState). length (history_of (owner w.part) w.log)) w ws in
      let next_more = sum_by-cons (λ (w : WitnessedState). w.held.next) w ws in
      let inserted_more = sum_by-cons (λ (w : WitnessedState). inserted (history_of (owner w.part) w.log)) w ws in
      let deleted_more = sum_by-cons (λ (w : WitnessedState). deleted (history_of (owner w.part) w.log)) w ws in
      let live_more = sum_by-cons (λ (w : WitnessedState). length (live_rows w.held.store)) w ws in record {
        accepted_is = omega (arith, here.accepted_is, rest.accepted_is, accepted_more, length_more);
        inserted_is = omega (arith, here.inserted_is, rest.inserted_is, next_more, inserted_more);
        live = omega (arith, here.live, rest.live, live_more, deleted_more, inserted_more);
        few = omega (arith, here.few, rest.few, accepted_more);
        few_placed = omega (arith, here.few_placed, rest.few_placed, next_more, accepted_more);
      }

  -- these sums fit into a word
  pub record AreSmall (ws : List WitnessedState) : Type 0 where
    pub accepted_fits : sum_by (λ (w : WitnessedState). accepted_of (table_of w.held)) ws < 2 ^ 64
    pub inserted_fits : sum_by (λ (w : WitnessedState). w.held.next) ws < 2 ^ 64
    pub rows_fit : sum_by (λ (w : WitnessedState). length (live_rows w.held.store)) ws < 2 ^ 64
    pub enough : sum_by (λ (w : WitnessedState). length (live_rows w.held.store)) ws ≤ sum_by (λ (w : WitnessedState). w.held.next) ws

  pub are_small : (ws : List WitnessedState) → AreCounted ws → length ws ≤ 64 → AreSmall ws
  are_small ws are few = record {
    accepted_fits = omega (arith, are.few, few);
    inserted_fits = omega (arith, are.few, are.few_placed, few);
    rows_fit = omega (arith, are.few, are.few_placed, are.inserted_is, are.live, few);
    enough = omega (arith, are.inserted_is, are.live);
  }

  -- the live rows are the rows placed minus those removed
  held_are : (placed gone left : ℕ) → left + gone ≡ placed → pos left ≡ pos placed -ℤ pos gone
  held_are placed gone left e = sym (ap (λ (n : ℕ). pos n -ℤ pos gone) (sym e) ∙ +ℤ-neg_ℤ_cancel (pos left) (pos gone))

  -- and are the totals of the histories
  pub are_totals : (ws : List WitnessedState) (answers placed left gone : ℕ) → AreCounted ws → answers ≡ sum_by (λ (w : WitnessedState). accepted_of (table_of w.held)) ws → placed ≡ sum_by (λ (w : WitnessedState). w.held.next) ws → left ≡ sum_by (λ (w : WitnessedState). length (live_rows w.held.store)) ws → gone + left ≡ placed → AreHistoryTotals owner ws answers placed gone left
  are_totals ws answers placed left gone are answers_are placed_are left_are gone_is = record {
    accepted_is = omega (arith, answers_are, are.accepted_is);
    inserted_is = omega (arith, placed_are, are.inserted_is);
    deleted_is = omega (arith, are.live, are.inserted_is, placed_are, left_are, gone_is);
    rows_are = left_are;
    held_is = held_are placed gone left (omega (arith, gone_is));
  }
