use Rattle.std.proofs.Common.{◌≡◌, ◌+◌, ◌-◌, ℕ, List, ◌∷◌, [], ◌++◌, length, length-append, arith, ap, refl, sym, ◌∙◌}
use Rattle.crack_row.specs.Ranges.{Range}
use Rattle.crack_core.specs.Routes.{route, part_at}
use Rattle.crack_core.proofs.RouteLaws.{parts_below, parts_below-front, parts_below-some, part-some, parts_of-last, first-le-last, route-le}
use Rattle.crack_core.proofs.routes.push_parts.Goals as goal

pub loop-part-init : goal.loop-part-init
loop-part-init c = (c.requires.empty ∙ sym (parts_below-front c.args.splits.now c.args.range c.args.first c.requires.splits c.requires.filled c.requires.bounded (omega arith)), c.requires.room)

pub loop-part-preserved : goal.loop-part-preserved
loop-part-preserved c =
    let splits = c.args.splits.now in
    let part = c.loop-part.part in
    let within = route-le splits (c.args.range.high - 1) in
    let has = part-some splits c.args.range part c.requires.splits c.requires.filled c.requires.bounded (omega arith) (omega arith) (omega arith) in
    let clip : (part, c.clip.result) ≡ part_at splits c.args.range part = rw (c.clip.ensures.value, c.keys_of_part.ensures) refl in
    let grown = ap length c.push_reserved.ensures.items in
    let more = length-append c.loop-part.parts.items ((part, c.clip.result) ∷ []) in (
      c.push_reserved.ensures.items ∙ ap (λ (ps : List (ℕ × Range)). ps ++ (part, c.clip.result) ∷ []) c.loop-part.invariant.0 ∙ ap (λ (p : ℕ × Range). parts_below splits c.args.range part ++ p ∷ []) clip ∙ sym (parts_below-some splits c.args.range part has),
      omega (arith, grown, more),
    )

pub returns : goal.returns
returns c =
    let order = first-le-last c.args.splits.now c.args.range c.requires.splits c.requires.filled c.requires.bounded in
    let end : c.loop-part.part ≡ route c.args.splits.now (c.args.range.high - 1) + 1 = omega (arith, order) in
    c.loop-part.invariant.0 ∙ ap (parts_below c.args.splits.now c.args.range) end ∙ sym (parts_of-last c.args.splits.now c.args.range c.requires.splits c.requires.filled c.requires.bounded)
