use Rattle.std.proofs.Common.{ℕ, refl, subst}
use Rattle.crack_store.specs.Closings.{Closes}
use Rattle.crack_store.proofs.ClosingLemmas.{closed_pieces}
use Rattle.crack_store.proofs.closing.close_pieces.Goals as goal

pub returns : goal.returns
returns c = record {
  closes = closed_pieces c.args.inside.now c.place_each.new.self (record { column = c.take.result; pending_out = _; from = 0; gap = 0; pulled = c.args.inside.now.tally.pulled }) c.place_each.new.visitor c.close_piece-live.new.closing c.place_each.result c.close_piece-live.result c.requires c.take.ensures refl refl refl refl c.place_each.ensures.places (subst (λ (to : ℕ). Closes c.place_each.new.visitor to c.close_piece-live.result c.close_piece-live.new.closing) c.len-to.ensures.value c.close_piece-live.ensures.closes) c.place_each.ensures.rising c.close_piece-live.ensures.ready.small;
}
