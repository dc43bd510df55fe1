use Rattle.crack_index.proofs.PlaceLemmas.{Places-one}
use Rattle.crack_index.proofs.lowering.place_mark.Goals as goal

pub returns-clause-places : goal.returns-clause-places
returns-clause-places g c = rw c.max-here.ensures (Places-one g.V.Placer.places c.args.least c.place.result c.args.mark.now c.args.visitor.now c.place.new.self c.place.ensures.places)
