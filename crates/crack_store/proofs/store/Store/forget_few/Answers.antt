use Rattle.std.proofs.Common.{[], refl}
use Rattle.crack_state.specs.Merge.{Coarsens}
use Rattle.crack_state.proofs.CoarsenLaws.{IsIntact-coarse}
use Rattle.crack_store.specs.Inside.{lists_of}
use Rattle.crack_store.proofs.CoarsenLemmas.{SomeMarks-less}
use Rattle.crack_store.proofs.store.Store.forget_few.Goals as goal

pub invariant_of-self : goal.invariant_of-self
invariant_of-self c =
    let inside = c.self.inside.inside in
    let kept = c.self.invariant in
    let less : Coarsens (lists_of inside) (record (lists_of inside) { marks = c.remove_few.new.self.marks }) = record {
      same = refl;
      some = SomeMarks-less c.remove_few.result inside.index.marks c.remove_few.new.self.marks c.remove_few.ensures.marks c.remove_few.ensures.none;
    } in
    record {
      intact = IsIntact-coarse _ _ [] less kept.intact;
      remembers = kept.remembers;
      keys_in = kept.keys_in;
      keys_out = kept.keys_out;
      room = kept.room;
      covered = kept.covered;
    }
