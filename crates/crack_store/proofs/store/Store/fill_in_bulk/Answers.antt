use Rattle.std.proofs.Common.{◌≡◌, [], List, map, min, length, take, ap, refl, ◌∙◌, arith}
use Rattle.std.proofs.lemmas.List.{take-map}
use Rattle.crack_arena.specs.Arena.{Handle}
use Rattle.crack_state.specs.Carried.{inside_of}
use Rattle.crack_state.specs.State.{State}
use Rattle.crack_state.proofs.LayoutLaws.{cells-intact, pending_out-few}
use Rattle.crack_store.specs.Drainings.{doomed_of}
use Rattle.crack_store.specs.Fillings.{FillsAs}
use Rattle.crack_store.specs.Inside.{lists_of}
use Rattle.crack_store.proofs.FillLemmas.{take-few, CanBeFilled-in, IsFilled-as, live-filled}
use Rattle.crack_store.proofs.store.Store.fill_in_bulk.Goals as goal
use Rattle.crack_store.proofs.store.Store.fill_in_bulk.Goals.{After-truncate, After-fill_rows}

pub doomed_in-requires-clause-few : goal.doomed_in-requires-clause-few
doomed_in-requires-clause-few c = rw c.close_up.ensures.same (omega (arith, pending_out-few (lists_of c.self.inside.inside) c.self.invariant.intact.owned, cells-intact (lists_of c.self.inside.inside) [] c.self.invariant.intact, c.self.invariant.intact.few_cells))

pub count_in-count-requires-clause-few : goal.count_in-count-requires-clause-few
count_in-count-requires-clause-few c =
    let intact = c.self.invariant.intact in
    omega (arith, cells-intact (lists_of c.self.inside.inside) [] intact, intact.few_cells)

-- the first doomed rows, and the fillers
abbrev state : (c : After-truncate) → State
state c = lists_of c.self.inside.inside

abbrev rows : (c : After-truncate) → List Handle
rows c = inside_of c.self.inside.inside.arena.cells c.args.range c.self.inside.inside.pending_out.handles

abbrev fills : (c : After-truncate) → List Handle
fills c = inside_of c.self.inside.inside.arena.cells c.args.fillers c.self.inside.inside.pending_in.handles

dooms : (c : After-truncate) → c.truncate.new.self.items ≡ map (doomed_of c.self.inside.inside.arena.cells) (take (min (length (rows c)) (length (fills c))) (rows c))
dooms c =
    let of = doomed_of c.self.inside.inside.arena.cells in
    let listed = rw c.close_up.ensures.same at c.in-Some-doomed_in.ensures in
    let count : c.count_in-count.result ≡ length (fills c) = c.count_in-count.ensures.counts in
    c.truncate.ensures.items ∙ ap (take c.count_in-count.result) listed ∙ ap (λ n. take n (map of (rows c))) count ∙ take-map of (length (fills c)) (rows c) ∙ ap (map of) (take-few (length (fills c)) (rows c))

pub fill_rows-requires-clause-can : goal.fill_rows-requires-clause-can
fill_rows-requires-clause-can c =
    let d = (goal.at.fill_rows-requires-clause-can c).After-truncate in
    let behind = c.requires.behind in
    rw (c.count_in-count.ensures.same, c.close_up.ensures.same) (CanBeFilled-in c.args.range c.args.fillers (state d) c.in-Some.edge c.self.invariant.intact behind c.in-Some.ensures (min (length (rows d)) (length (fills d))) c.truncate.new.self.items (omega arith) (omega arith) (dooms d))

-- they were pulled
filled : (c : After-fill_rows) → FillsAs c.truncate.new.self.items c.args.fillers c.in-Some.edge (lists_of c.self.inside.inside) (lists_of c.fill_rows.new.inside)
filled c = rw (c.count_in-count.ensures.same, c.close_up.ensures.same) at c.fill_rows.ensures.filled

pub returns-clause-filled : goal.returns-clause-filled
returns-clause-filled c = λ _.
    let d = (goal.at.returns-clause-filled c).After-truncate in
    let e = (goal.at.returns-clause-filled c).After-fill_rows in
    rw (← c.self.view_is) (IsFilled-as c.args.range c.args.fillers (state d) c.in-Some.edge c.self.invariant.intact c.requires.behind c.in-Some.ensures (min (length (rows d)) (length (fills d))) c.truncate.new.self.items (omega arith) (omega arith) (dooms d) (lists_of c.fill_rows.new.inside) refl (filled e))

pub returns-clause-live : goal.returns-clause-live
returns-clause-live c =
    let d = (goal.at.returns-clause-live c).After-truncate in
    let e = (goal.at.returns-clause-live c).After-fill_rows in
    rw (← c.self.view_is) (live-filled c.args.range c.args.fillers (state d) c.in-Some.edge c.self.invariant.intact c.requires.behind c.in-Some.ensures (min (length (rows d)) (length (fills d))) c.truncate.new.self.items (omega arith) (omega arith) (dooms d) (lists_of c.fill_rows.new.inside) (filled e))
