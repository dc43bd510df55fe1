use Rattle.std.proofs.Common.{rules, arith}
use Rattle.crack_arena.specs.Arena.{times}
use Rattle.crack_store.proofs.store.Store.new.Goals as goal

pub invariant_of-result : goal.invariant_of-result
unfolding times
invariant_of-result c =
    record {
      intact = record {
        owned = search rules;
        obeyed = search rules;
        rising = search rules;
        inside = search rules;
        keyed = search rules;
        empty = search rules;
        within = search rules;
        few_cells = search rules;
        few_freed = search rules;
        counted = search rules;
      };
      remembers = c.new-2.ensures.right c.new.result.cells;
      keys_in = c.new-4.ensures.remembered c.new.result.cells;
      keys_out = c.new-5.ensures.remembered c.new.result.cells;
      room = omega arith;
      covered = search rules;
    }
