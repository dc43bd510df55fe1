use Rattle.std.specs.Prelude.{◌≡◌, ℕ, ◌+◌, ◌<◌, slice_index_or}
use Rattle.crack_core.specs.Inside.{IsKeptBelow}
use Rattle.crack_core.proofs.bulk.number_rows.Given as goal

abbrev pub invariant-rows : goal.invariant-rows
invariant-rows l = record {
  kept_parts : IsKeptBelow l.from l.initial.parts l.parts;
  kept_serials : IsKeptBelow l.from l.initial.serials l.serials;
  in_parts : (k : ℕ) → k < l.k → slice_index_or l.parts (l.from + k) 0 ≡ l.run.part;
  in_serials : (k : ℕ) → k < l.k → slice_index_or l.serials (l.from + k) 0 ≡ l.run.first + k;
}
