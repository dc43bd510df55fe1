use Rattle.std.proofs.Common.{◌≡◌, ℕ, List, [], ◌∷◌, length, arith}
use Rattle.crack_arena.specs.Arena.{Handle, times, slots}
use Rattle.crack_arena.proofs.Times.{times-nil}
use Rattle.crack_store_tests.proofs.script.append.Goals as goal

none_named : (n : ℕ) (handles : List Handle) → length handles ≡ 0 → times n (slots handles) ≡ 0
none_named n [] none = times-nil n
none_named n (h ∷ hs) none = absurd (omega (arith, none))

pub append-requires-clause-kept : goal.append-requires-clause-kept
append-requires-clause-kept g c = none_named c.args.carrying.hand.slot c.args.carrying.store.pending_out c.requires.doomed
