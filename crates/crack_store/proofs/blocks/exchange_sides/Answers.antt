use Rattle.std.proofs.Common.{◌≡◌, ℕ, refl, ap, subst, arith}
use Rattle.crack_arena.specs.Arena.{no_handle}
use Rattle.crack_column.specs.Column.{Column}
use Rattle.crack_store.proofs.BlockLemmas.{IsExchangedTo, exchange_begins, exchange_goes_on, sides_changed, KeepsRows-swapped}
use Rattle.crack_store.proofs.blocks.exchange_sides.Goals as goal

pub rows-init : goal.rows-init
rows-init c = record {
  exchanged = exchange_begins c.args.from c.min-count.result c.args.to c.args.column.now.handles (omega arith) c.requires.within;
  keeps = record { long = refl; room = refl; remembered = λ cells known. known };
}

pub rows-preserved : goal.rows-preserved
rows-preserved c =
    let swap = c.swap.ensures in
    record {
      exchanged = exchange_goes_on no_handle c.args.from c.min-count.result c.args.to c.args.column.now.handles c.rows.column.handles c.swap.new.self.handles c.rows.i _ _ c.rows-test.true refl refl (ap (λ (x : Column). x.handles) swap.after) c.rows.invariant.exchanged;
      keeps = KeepsRows-swapped c.args.column.now c.rows.column c.swap.new.self _ _ swap.after swap.remembered c.rows.invariant.keeps;
    }

pub returns-clause-sides : goal.returns-clause-sides
returns-clause-sides c =
    let all : c.rows.i ≡ c.min-count.result = omega arith in
    sides_changed c.args.from c.args.middle c.args.to c.args.column.now.handles c.rows.column.handles c.requires.order c.requires.behind (subst (λ (n : ℕ). IsExchangedTo c.args.from n c.args.to c.args.column.now.handles c.rows.column.handles n) c.min-count.ensures (subst (λ (n : ℕ). IsExchangedTo c.args.from c.min-count.result c.args.to c.args.column.now.handles c.rows.column.handles n) all c.rows.invariant.exchanged))
