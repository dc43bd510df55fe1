use Rattle.crack_witness.proofs.Counting.{sum_fits}
use Rattle.crack_witness.proofs.worker.Worker.replies.Goals as goal

pub sum_of-requires : goal.sum_of-requires
sum_of-requires g c = rw c.as_slice.ensures.value (sum_fits c.self.inside.counts.items c.self.invariant.few c.self.invariant.small)
