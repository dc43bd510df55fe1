use Rattle.std.proofs.Common.{◌≡◌, ◌-◌, ◌≤◌, ℕ, vec_len, vec_capacity}
use Rattle.std.specs.Prelude.{slice_index}
use Rattle.crack_pending.proofs.bits.lengthen_words.Given as goal

abbrev pub invariant-words : goal.invariant-words
invariant-words l = record {
  same : (k : ℕ) → slice_index l.words.items k ≡ slice_index l.initial.words.items k;
  longer : vec_len l.initial.words ≤ vec_len l.words;
  within : vec_len l.words ≤ vec_capacity l.words;
  capacity : vec_capacity l.words ≡ vec_capacity l.initial.words;
}

abbrev pub decreases-words : goal.decreases-words
decreases-words l = vec_capacity l.words - vec_len l.words
