use Rattle.std.proofs.Common.{◌∷◌, [], ◌++◌, ◌<◌, length, sym, ap, ◌∙◌, arith}
use Rattle.crack_state.proofs.StretchLaws.{rows_within-more}
use Rattle.crack_store.proofs.store.Store.rows_in_places.Goals as goal

pub places-preserved : goal.places-preserved
places-preserved c =
    let s = c.args.self.now in
    let within : c.places.place < length s.column = omega (arith, c.places-test.true, c.places.auto, c.requires.within) in
    let more = rows_within-more s c.args.from c.places.place c.row_in_place.result (omega (arith, c.places.auto)) within c.row_in_place.ensures in (
      c.push_reserved.ensures.items ∙ ap (λ rows. rows ++ c.row_in_place.result ∷ []) c.places.invariant.0 ∙ sym more,
      omega (arith, c.push_reserved.ensures.len, c.places.invariant.1),
      omega (arith, c.push_reserved.ensures.capacity, c.places.invariant.2),
    )
