use Rattle.std.proofs.Common.{◌∷◌, [], length, get_or, take, refl, sym, ap, ◌∙◌, arith, length-append}
use Rattle.std.proofs.lemmas.List.{length-map, length-take-le}
use Rattle.crack_arena.specs.Arena.{no_handle}
use Rattle.crack_arena.specs.Rows.{key_at}
use Rattle.crack_state.specs.Carried.{inside_of}
use Rattle.crack_store.proofs.TakeLemmas.{found, found_none, first-none, inside-few}
use Rattle.crack_store.proofs.sifting.count_in.Goals as goal

pub rows-init : goal.rows-init
rows-init c =
    let hs = c.args.rows.now.handles in
    record {
      within = omega (arith, c.requires.first.within, length-map hs (key_at c.args.arena.now.cells));
      counted = sym (ap length (first-none c.args.arena.now.cells c.args.range hs c.args.first c.requires.first));
      same = refl;
    }

pub overflow_add-count : goal.overflow_add-count
overflow_add-count c =
    let hs = c.args.rows.now.handles in
    let one = found c.args.arena.now.cells c.args.range hs c.rows.from c.in-Some.place (rw c.rows.invariant.same at c.in-Some.ensures.finds) in
    let few = inside-few c.args.arena.now.cells c.args.range (take c.rows.from hs) in
    record { fits = omega (arith, c.rows.invariant.counted, few, length-take-le c.rows.from hs c.rows.invariant.within, c.rows.invariant.within, c.requires.few) }

pub overflow_add-from : goal.overflow_add-from
overflow_add-from c =
    let hs = c.args.rows.now.handles in
    let one = found c.args.arena.now.cells c.args.range hs c.rows.from c.in-Some.place (rw c.rows.invariant.same at c.in-Some.ensures.finds) in
    record { fits = omega (arith, one.within, c.requires.few) }

pub rows-preserved : goal.rows-preserved
rows-preserved c =
    let hs = c.args.rows.now.handles in
    let cells = c.args.arena.now.cells in
    let one = found cells c.args.range hs c.rows.from c.in-Some.place (rw c.rows.invariant.same at c.in-Some.ensures.finds) in
    record {
      within = omega (arith, one.within);
      counted = omega (arith, ap length one.inside_next, length-append (inside_of cells c.args.range (take c.rows.from hs)) (get_or hs c.in-Some.place no_handle ∷ []), c.rows.invariant.counted);
      same = c.seek_in.ensures.same ∙ c.rows.invariant.same;
    }

pub rows-smaller : goal.rows-smaller
rows-smaller c =
    let one = found c.args.arena.now.cells c.args.range c.args.rows.now.handles c.rows.from c.in-Some.place (rw c.rows.invariant.same at c.in-Some.ensures.finds) in
    omega (arith, one.within, c.in-Some.ensures.finds.after)

pub returns-clause-counts : goal.returns-clause-counts
returns-clause-counts c =
    let none = rw c.rows.invariant.same at c.in_default.ensures.finds in
    c.rows.invariant.counted ∙ sym (ap length (found_none c.args.arena.now.cells c.args.range c.args.rows.now.handles c.rows.from c.rows.invariant.within none).0)
