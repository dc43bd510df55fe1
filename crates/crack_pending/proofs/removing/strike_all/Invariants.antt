use Rattle.std.proofs.Common.{◌≡◌, ℕ, ◌↔◌, take, length}
use Rattle.crack_arena.specs.Arena.{times, slots}
use Rattle.crack_pending.specs.Keeps.{Has}
use Rattle.crack_pending.proofs.removing.strike_all.Given as goal

-- the bits of those that were passed are struck, and no others
abbrev pub invariant-tags : goal.invariant-tags
invariant-tags l = record {
  struck : (slot : ℕ) → Has l.members slot ↔ (Has l.initial.members slot × (times slot (slots (take l.spot l.tags.handles)) ≡ 0));
  long : length l.members ≡ length l.initial.members;
}
