use Rattle.std.proofs.Common.{refl}
use Rattle.crack_store.proofs.WayLemmas.{lowest}
use Rattle.crack_store.proofs.ascent.descend.Goals as goal

pub returns-clause-pulls : goal.returns-clause-pulls
returns-clause-pulls c = rw c.release.ensures (lowest c.args.inside.now _ c.descend.new.visitor c.descend.new.self c.descend.result c.aside_key-key.result.0 c.requires c.hold.ensures c.take.ensures refl c.aside_key-key.ensures c.descend.ensures.descends c.descend.ensures.room).pulls

pub returns-clause-ends : goal.returns-clause-ends
returns-clause-ends c = rw c.release.ensures (lowest c.args.inside.now _ c.descend.new.visitor c.descend.new.self c.descend.result c.aside_key-key.result.0 c.requires c.hold.ensures c.take.ensures refl c.aside_key-key.ensures c.descend.ensures.descends c.descend.ensures.room).ends

pub returns-clause-kept : goal.returns-clause-kept
returns-clause-kept c = rw c.release.ensures (lowest c.args.inside.now _ c.descend.new.visitor c.descend.new.self c.descend.result c.aside_key-key.result.0 c.requires c.hold.ensures c.take.ensures refl c.aside_key-key.ensures c.descend.ensures.descends c.descend.ensures.room).kept
