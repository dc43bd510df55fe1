use Rattle.std.proofs.Common.{◌≡◌, ◌/◌, get_or, true≢false, sym, ◌∙◌, arith}
use Rattle.std.proofs.lemmas.List.{get_or_default}
use Rattle.crack_pending.proofs.Members.{Has-within, tested}
use Rattle.crack_pending.proofs.bits.BitSet.has.Goals as goal

pub returns-then-place-len : goal.returns-then-place-len
returns-then-place-len c =
    rw (← c.self.view_is) (
      λ no. absurd (true≢false (sym no)),
      λ has. absurd (omega (arith, Has-within c.self.inside.words.items c.args.number has, c.if-place-len.true, c.len.ensures)),
    )

pub returns : goal.returns
returns c =
    let words = c.self.inside.words.items in
    let is : c.index.result.now ≡ get_or words (c.args.number / 64) 0 = c.index.ensures ∙ get_or_default words (c.args.number / 64) c.index.result.now 0 (omega (arith, c.if-place-len.false, c.len.ensures)) in
    rw (← c.self.view_is, is) (tested words c.args.number)
