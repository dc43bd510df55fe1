use Rattle.std.specs.Prelude.{◌≡◌, ◌+◌, ◌<◌, ◌≤◌, ℕ, None}
use Rattle.crack_serials.specs.Serials.{handle_of}
use Rattle.crack_store_tests.proofs.runs.are_new.Given as goal

-- no row has one of the serials so far
abbrev pub invariant-serials : goal.invariant-serials
invariant-serials l = (serial : ℕ) → l.first ≤ serial → serial < l.first + l.i → handle_of l.store.serials serial ≡ None
