use Rattle.std.proofs.Common.{◌-◌, ◌<◌, [], length, refl, arith}
use Rattle.crack_arena.specs.Arena.{no_handle}
use Rattle.crack_arena.proofs.Remembering.{Remembers-take}
use Rattle.crack_state.proofs.PullLaws.{IsIntact-lifted_last}
use Rattle.crack_store.specs.Inside.{lists_of}
use Rattle.crack_store.proofs.RememberLemmas.{KeepsIntact-column}
use Rattle.crack_store.proofs.steps.take_last.Goals as goal

pub lower_at-requires : goal.lower_at-requires
lower_at-requires c = λ k d h e. omega (arith, c.requires.some, c.len-len.ensures.value)

pub returns-clause-kept : goal.returns-clause-kept
returns-clause-kept c =
    let s = lists_of c.args.inside.now in
    let column = c.args.inside.now.column in
    let some : 0 < length s.column = c.requires.some in
    record {
      has = record {
        kept = KeepsIntact-column c.args.inside.now _ _ _ _ [] _ c.requires.intact (rw (c.pop_aside.ensures, c.lower_at.ensures.marks, c.len-len.ensures.value) (IsIntact-lifted_last s some c.requires.intact.intact)) (rw c.pop_aside.ensures (Remembers-take s.cells column.handles column.remembered (length column.handles - 1) (omega arith) c.requires.intact.remembers));
        aside = rw c.pop_aside.ensures (omega arith);
        agrees = rw c.pop_aside.ensures (c.requires.intact.remembers.right (length column.handles - 1) no_handle (omega arith));
        room = rw c.pop_aside.ensures (omega arith);
      };
      is_near = tt;
    }

pub returns-clause-after : goal.returns-clause-after
returns-clause-after c = rw (c.pop_aside.ensures, c.lower_at.ensures.marks, c.len-len.ensures.value) refl
