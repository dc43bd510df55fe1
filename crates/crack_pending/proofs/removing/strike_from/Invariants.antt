use Rattle.std.proofs.Common.{◌≡◌, ℕ, ◌-◌, ◌↔◌, take, drop, length}
use Rattle.crack_arena.specs.Arena.{times, slots}
use Rattle.crack_pending.specs.Keeps.{Has}
use Rattle.crack_pending.proofs.removing.strike_from.Given as goal

-- the bits of those that were passed are struck, and no others
abbrev pub invariant-handles : goal.invariant-handles
invariant-handles l = record {
  struck : (slot : ℕ) → Has l.members slot ↔ (Has l.initial.members slot × (times slot (slots (take (l.place - l.from) (drop l.from l.handles))) ≡ 0));
  long : length l.members ≡ length l.initial.members;
}
