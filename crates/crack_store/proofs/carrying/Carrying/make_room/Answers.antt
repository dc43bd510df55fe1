use Rattle.std.proofs.Common.{◌∷◌, [], arith}
use Rattle.crack_state.proofs.LayoutLaws.{cells-intact}
use Rattle.crack_store.specs.Inside.{lists_of}
use Rattle.crack_store.specs.Hand.{hand_of}
use Rattle.crack_store.proofs.carrying.Carrying.make_room.Goals as goal

pub reserve-requires : goal.reserve-requires
reserve-requires c = omega (arith, cells-intact (lists_of c.self.inside.inside) (hand_of c.self.inside.inside ∷ []) c.self.invariant.has.kept.intact, c.self.invariant.has.kept.intact.few_cells)

pub reserve-requires-then-self-lt2 : goal.reserve-requires-then-self-lt2
reserve-requires-then-self-lt2 c = omega (arith, cells-intact (lists_of c.self.inside.inside) (hand_of c.self.inside.inside ∷ []) c.self.invariant.has.kept.intact, c.self.invariant.has.kept.intact.few_cells)
