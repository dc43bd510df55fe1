use Rattle.std.proofs.Common.{rules}
use Rattle.crack_service.proofs.input.deal.Goals as goal

pub index_mut-share-requires : goal.index_mut-share-requires
index_mut-share-requires c = search rules
