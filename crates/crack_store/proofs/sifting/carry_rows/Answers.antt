use Rattle.std.proofs.Common.{◌≡◌, ◌+◌, ◌-◌, length, refl, sym, ap, ◌∙◌, arith, length-append}
use Rattle.crack_column.specs.Column.{Column}
use Rattle.crack_pending.specs.Pending.{Pending}
use Rattle.crack_state.specs.Steps.{SameButRoom}
use Rattle.crack_state.specs.Carried.{inside_of}
use Rattle.crack_state.proofs.Carried.{carried_by_sifting}
use Rattle.crack_store.specs.Inside.{lists_of}
use Rattle.crack_store.proofs.SiftLemmas.{IsSifted, IsCarried, whole, carried}
use Rattle.crack_store.proofs.sifting.carry_rows.Goals as goal
use Rattle.crack_store.proofs.sifting.carry_rows.Goals.{After-saturating_add-inside}

-- how many came in
came : (c : After-saturating_add-inside) → c.len-to.result - c.len-from.result ≡ length (inside_of c.args.inside.now.arena.cells c.args.range c.args.inside.now.pending_in.handles)
came c =
    let p = c.args.inside.now in
    omega (arith, ap length c.take_rows.ensures.handles, length-append p.column.handles (inside_of p.arena.cells c.args.range p.pending_in.handles), c.len-from.ensures.value, c.len-to.ensures.value)

-- the store after the walk
done : (c : After-saturating_add-inside) → IsSifted c.args.range (lists_of c.args.inside.now) c.requires.intact.intact c.raise_each.new.self.marks c.raise_each.new.visitor
done c =
    let p = c.args.inside.now in
    let rows = inside_of p.arena.cells c.args.range p.pending_in.handles in
    let moved_on : c.take_rows.new.column ≡ c.take.result = sym c.take.ensures in
    let begin : length p.column.handles ≡ c.len-from.result = sym c.len-from.ensures.value in
    let end : length c.take_rows.new.column.handles ≡ c.len-to.result = sym c.len-to.ensures.value in
    let to : c.len-to.result ≡ length p.column.handles + length rows = omega (arith, ap length c.take_rows.ensures.handles, length-append p.column.handles rows, end) in
    whole c.args.range (lists_of p) c.requires.intact.intact (c.len-to.result - c.len-from.result) c.raise_each.result c.raise_each.new.self.marks _ c.raise_each.new.visitor (came c) (ap (λ (x : Column). x.handles) c.take.ensures ∙ c.take_rows.ensures.handles) c.len-from.ensures.value to refl (rw (begin, end, moved_on) at c.take_rows.ensures.read) (rw moved_on at c.take_rows.ensures.remembered) c.raise_each.ensures.raises

-- and all of it
all : (c : After-saturating_add-inside) → IsCarried c.args.range (lists_of c.args.inside.now) c.requires.intact.intact (lists_of (record c.args.inside.now { column = c.raise_each.new.visitor.column; index = c.raise_each.new.self; pending_in = c.shrink_if_empty.new.self; tally = record c.args.inside.now.tally { insertions = c.saturating_add-inside.result; moved = c.raise_each.new.visitor.moved } }))
all c =
    let s = lists_of c.args.inside.now in
    let sifted = done c in
    let left = ap (λ (x : Pending). x.handles) c.shrink_if_empty.ensures.same ∙ c.take_rows.ensures.left in
    let after : SameButRoom (carried_by_sifting c.args.range s) _ = record { same = rw (sifted.column_is, sifted.marks_are, sifted.moved_is, left, c.saturating_add-inside.ensures, came c) refl } in
    carried c.args.range s c.requires.intact.intact _ c.args.first c.requires.clear c.requires.first after

pub returns-clause-carried : goal.returns-clause-carried
returns-clause-carried c = (all (goal.at.returns-clause-carried c).After-saturating_add-inside).carried

pub returns-clause-intact : goal.returns-clause-intact
returns-clause-intact c =
    let now = (goal.at.returns-clause-intact c).After-saturating_add-inside in
    record {
      intact = (all now).kept.intact;
      remembers = (done now).remembers;
      keys_in = c.shrink_if_empty.ensures.remembered c.args.inside.now.arena.cells c.take_rows.ensures.keys;
      keys_out = c.requires.intact.keys_out;
      room = c.shrink_if_empty.ensures.sure;
      covered = rw (c.shrink_if_empty.ensures.same, c.take_rows.ensures.covered) c.requires.intact.covered;
    }
