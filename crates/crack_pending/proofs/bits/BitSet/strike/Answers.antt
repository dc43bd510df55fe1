use Rattle.std.proofs.Common.{◌≡◌, ◌/◌, get_or, ◌∙◌, arith}
use Rattle.std.proofs.lemmas.List.{get_or_default}
use Rattle.crack_pending.proofs.Members.{struck_gone, struck_others}
use Rattle.crack_pending.proofs.bits.BitSet.strike.Goals as goal

pub returns-clause-gone : goal.returns-clause-gone
returns-clause-gone c =
    let words = c.self.inside.words.items in
    let within = rw (← c.self.view_is) at c.requires in
    let is : c.index_mut.result.now ≡ get_or words (c.args.number / 64) 0 = c.index_mut.ensures.value ∙ get_or_default words (c.args.number / 64) c.index_mut.result.now 0 (omega (arith, within)) in
    rw is (struck_gone words c.args.number within)

pub returns-clause-others : goal.returns-clause-others
returns-clause-others c =
    let words = c.self.inside.words.items in
    let within = rw (← c.self.view_is) at c.requires in
    let is : c.index_mut.result.now ≡ get_or words (c.args.number / 64) 0 = c.index_mut.ensures.value ∙ get_or_default words (c.args.number / 64) c.index_mut.result.now 0 (omega (arith, within)) in
    rw (← c.self.view_is, is) (struck_others words c.args.number within)
