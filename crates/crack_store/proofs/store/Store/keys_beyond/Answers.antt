use Rattle.std.proofs.Common.{rules, ◌≡◌, ◌≤◌, [], arith}
use Rattle.crack_row.specs.declared.TheConstants.{GREATEST_BOUND}
use Rattle.crack_state.proofs.BeyondLaws.{bound_above-between}
use Rattle.crack_store.proofs.store.Store.keys_beyond.Goals as goal

pub unreachable-requires : goal.unreachable-requires
unreachable-requires c =
    let low : c.high-low.result.0 ≡ c.args.range.high = c.high-low.ensures.value in
    let between = bound_above-between c.args.self.now [] c.args.range.high c.recall_invariant.ensures c.requires in
    let high = rw low at c.next_bound-high.ensures in
    let keys : c.args.self.now.keys.high ≤ GREATEST_BOUND = rw (← c.self.view_is) c.high.ensures.bounded in
    c.in-Err.ensures.err.1 (omega (arith, low, high, between.0), omega (arith, high, between.1, keys))

pub returns : goal.returns
returns c = search rules
