use Rattle.crack_pending.proofs.Members.{Has-same}
use Rattle.crack_pending.proofs.bits.BitSet.make_places.Goals as goal

pub returns-clause-same : goal.returns-clause-same
returns-clause-same c =
    rw (← c.self.view_is) (Has-same c.self.inside.words.items c.lengthen_words.new.words.items c.lengthen_words.ensures.same)
