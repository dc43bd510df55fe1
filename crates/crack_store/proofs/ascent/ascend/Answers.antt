use Rattle.std.proofs.Common.{refl}
use Rattle.crack_store.proofs.WayLemmas.{ascended}
use Rattle.crack_store.proofs.ascent.ascend.Goals as goal

pub returns-clause-pushes : goal.returns-clause-pushes
returns-clause-pushes c = rw c.release.ensures (ascended c.args.inside.now _ c.climb-above.new.visitor c.climb-above.new.self c.climb-above.result c.aside_key-key.result.0 c.requires c.hold.ensures refl refl c.aside_key-key.ensures c.climb-above.ensures.climbs c.climb-above.ensures.room).pushes

pub returns-clause-kept : goal.returns-clause-kept
returns-clause-kept c = rw c.release.ensures (ascended c.args.inside.now _ c.climb-above.new.visitor c.climb-above.new.self c.climb-above.result c.aside_key-key.result.0 c.requires c.hold.ensures refl refl c.aside_key-key.ensures c.climb-above.ensures.climbs c.climb-above.ensures.room).kept
