use Rattle.std.proofs.Common.{ℕ, ◌-◌, [], arith}
use Rattle.crack_store.specs.Inside.{lists_of}
use Rattle.crack_store.proofs.FurtherLemmas.{product-le, place-lt, column-few}
use Rattle.crack_store.proofs.further.sampled.Goals as goal

pub overflow_mul-place-2 : goal.overflow_mul-place-2
overflow_mul-place-2 c =
    let rows : ℕ = c.args.piece.to - c.args.piece.from in
    omega (arith, product-le c.args.n rows c.requires.few, column-few (lists_of c.args.inside.now) [] c.requires.intact.intact, c.requires.within)

pub key_at-requires-clause-within : goal.key_at-requires-clause-within
key_at-requires-clause-within c =
    let rows : ℕ = c.args.piece.to - c.args.piece.from in
    omega (arith, place-lt c.args.n rows c.requires.few (omega (arith, c.requires.large)), c.requires.large, c.requires.within)
