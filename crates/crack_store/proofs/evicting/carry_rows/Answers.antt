use Rattle.std.proofs.Common.{◌≡◌, ◌≤◌, ◌+◌, ◌++◌, ◌∷◌, [], min, length, take, drop, map, refl, ap, ◌∙◌, arith}
use Rattle.std.proofs.lemmas.List.{length-append, length-drop, length-take-le}
use Rattle.crack_state.specs.Carried.{inside_of}
use Rattle.crack_state.specs.Pieces.{cut}
use Rattle.crack_state.proofs.CeilingLaws.{carried_under}
use Rattle.crack_state.proofs.Sifts.{all_made_way, risen}
use Rattle.crack_state.proofs.SiftedLaws.{min_and}
use Rattle.crack_arena.specs.Rows.{key_at}
use Rattle.crack_column.specs.Column.{Column}
use Rattle.crack_pending.specs.Pending.{Pending}
use Rattle.crack_state.specs.State.{greatest}
use Rattle.crack_state.specs.Steps.{SameButRoom}
use Rattle.crack_state.proofs.LayoutLaws.{cells-intact}
use Rattle.crack_store.specs.Inside.{lists_of}
use Rattle.crack_store.specs.Evictions.{not_before}
use Rattle.crack_store.specs.declared.sifting.Sieve.{Sieve}
use Rattle.crack_store.proofs.EdgeLemmas.{positions_within}
use Rattle.crack_store.proofs.ExchangeLemmas.{length-take-min}
use Rattle.crack_store.proofs.TakeLemmas.{inside-few, without}
use Rattle.crack_store.proofs.UnderLemmas.{beyond_apart, edge_in, IsWalked, walked, IsCarried, carried}
use Rattle.crack_store.proofs.evicting.carry_rows.Goals as goal
use Rattle.crack_store.proofs.evicting.carry_rows.Goals.{After-take, After-saturating_add-inside-3}

pub exchange_rows-count-requires-clause-few : goal.exchange_rows-count-requires-clause-few
exchange_rows-count-requires-clause-few c =
    let intact = c.requires.intact.intact in
    omega (arith, cells-intact (lists_of c.args.inside.now) [] intact, intact.few_cells)

pub exchange_rows-count-requires-clause-apart : goal.exchange_rows-count-requires-clause-apart
exchange_rows-count-requires-clause-apart c = beyond_apart c.args.range (lists_of c.args.inside.now) c.args.edge c.requires.intact.intact c.requires.there c.args.inside.now.pending_in.covered c.requires.intact.covered

pub overflow_add-sieve : goal.overflow_add-sieve
overflow_add-sieve c =
    let p = c.args.inside.now in
    let intact = c.requires.intact.intact in
    record { fits = omega (arith, edge_in c.args.range (lists_of p) c.args.edge intact c.requires.there, c.exchange_rows-count.ensures.count, inside-few p.arena.cells c.args.range p.pending_in.handles, cells-intact (lists_of p) [] intact, intact.few_cells) }

-- how long the column is once the rows came in
long : (c : After-take) → c.args.edge.position + c.exchange_rows-count.result ≤ length c.take.result.handles
long c =
    let p = c.args.inside.now in
    let rows = inside_of p.arena.cells c.args.range p.pending_in.handles in
    let front = take c.args.edge.position p.column.handles in
    let back = drop (length rows) (drop c.args.edge.position p.column.handles) in
    let handles = ap (λ (x : Column). x.handles) c.take.ensures ∙ c.exchange_rows-count.ensures.exchanged.handles_are in
    let inside = edge_in c.args.range (lists_of p) c.args.edge c.requires.intact.intact c.requires.there in
    omega (arith, ap length handles, length-append front (rows ++ back), length-append rows back, length-take-le c.args.edge.position p.column.handles inside, c.exchange_rows-count.ensures.count)

pub sift_below-column-requires-clause-ready : goal.sift_below-column-requires-clause-ready
sift_below-column-requires-clause-ready c = record { order = omega arith; within = long (goal.at.sift_below-column-requires-clause-ready c).After-take }

pub sift_below-column-requires-clause-some : goal.sift_below-column-requires-clause-some
sift_below-column-requires-clause-some c =
    let p = c.args.inside.now in
    let one = without p.arena.cells c.args.range p.pending_in.handles 0 c.args.first c.requires.first refl in
    omega (arith, ap length one.inside, c.exchange_rows-count.ensures.count)

pub sift_below-column-requires-clause-small : goal.sift_below-column-requires-clause-small
sift_below-column-requires-clause-small c = λ k d h.
    let p = c.args.inside.now in
    let intact = c.requires.intact.intact in
    omega (arith, positions_within (lists_of p) [] intact k d h, c.exchange_rows-count.ensures.count, inside-few p.arena.cells c.args.range p.pending_in.handles, cells-intact (lists_of p) [] intact, intact.few_cells)

-- the store after the walks
done : (c : After-saturating_add-inside-3) → IsWalked c.args.range (lists_of c.args.inside.now) c.sift_below-column.ensures.sifts.low c.args.edge c.sift_below-column.ensures.sifts.high c.requires.intact.intact c.sift_below-column.ensures.sifts.before c.requires.none c.requires.high c.sift_below-column.ensures.sifts.low' c.sift_below-column.result
done c =
    let p = c.args.inside.now in
    let rows = inside_of p.arena.cells c.args.range p.pending_in.handles in
    let came = c.exchange_rows-count.ensures.exchanged in
    let many = c.exchange_rows-count.ensures.count in
    let y = c.sift_below-column.ensures.sifts in
    let v : Sieve = record { column = c.take.result; from = c.args.edge.position; to = c.args.edge.position + length rows; moved = p.tally.moved } in
    walked c.args.range (lists_of p) y.low c.args.edge y.high c.requires.intact.intact y.before c.requires.none c.requires.high y.last y.low' v c.sift_below-column.result (ap (λ (x : Column). x.handles) c.take.ensures ∙ came.handles_are) refl refl refl (rw c.take.ensures came.read) (rw c.take.ensures came.remembers) (rw many at y.raises)

-- and all of it
all : (c : After-saturating_add-inside-3) → IsCarried c.args.range (lists_of c.args.inside.now) c.sift_below-column.ensures.sifts.low c.args.edge c.sift_below-column.ensures.sifts.high c.requires.intact.intact c.sift_below-column.ensures.sifts.before c.requires.none c.requires.high (lists_of (record c.args.inside.now { column = c.sift_below-column.result.column; index = c.sift_below-column.new.index; pending_in = c.shrink_if_empty.new.self; in_room = c.saturating_sub-inside.result; tally = record c.args.inside.now.tally { insertions = c.saturating_add-inside-3.result; evicted = c.saturating_add-inside-2.result; moved = c.saturating_add-inside.result } }))
all c =
    let p = c.args.inside.now in
    let s = lists_of p in
    let edge = c.args.edge in
    let rows = inside_of p.arena.cells c.args.range p.pending_in.handles in
    let beyond = drop edge.position p.column.handles in
    let out = take (length rows) beyond in
    let y = c.sift_below-column.ensures.sifts in
    let sifted = done c in
    let many = c.exchange_rows-count.ensures.count in
    let made = all_made_way (key_at s.cells) 0 rows (cut 0 y.low (take edge.position s.column)) in
    let evicted : c.min-evicted.result ≡ length out = omega (arith, c.min-evicted.ensures, many, length-take-min (length rows) beyond, length-drop edge.position p.column.handles, c.len.ensures.value) in
    let left = ap (λ (x : Pending). x.handles) c.shrink_if_empty.ensures.same ∙ c.exchange_rows-count.ensures.exchanged.pending_are in
    let marks = y.after ∙ ap (λ ms. ms ++ map (not_before (edge.position + c.exchange_rows-count.result)) (edge ∷ y.high)) sifted.marks_are ∙ ap (λ n. map (risen (key_at s.cells) rows) y.low ++ map (not_before (edge.position + n)) (edge ∷ y.high)) many in
    let moved : c.saturating_add-inside.result ≡ min (s.tally.moved + (made + length out)) greatest =
    c.saturating_add-inside.ensures ∙ ap (λ n. min (n + c.min-evicted.result) greatest) sifted.moved_is ∙ ap (λ n. min (min (s.tally.moved + made) greatest + n) greatest) evicted ∙ min_and s.tally.moved made (length out) in
    let evicts : c.saturating_add-inside-2.result ≡ min (s.tally.evicted + length out) greatest = c.saturating_add-inside-2.ensures ∙ ap (λ n. min (s.tally.evicted + n) greatest) evicted in
    let puts : c.saturating_add-inside-3.result ≡ min (s.tally.insertions + length rows) greatest = c.saturating_add-inside-3.ensures ∙ ap (λ n. min (s.tally.insertions + n) greatest) many in
    let after : SameButRoom (carried_under c.args.range s y.low edge y.high) _ = record { same = rw (sifted.column_is, marks, left, moved, evicts, puts) refl } in
    carried c.args.range s y.low edge y.high c.requires.intact.intact y.before c.requires.none c.requires.high _ c.args.first c.requires.first after

pub returns-clause-carried : goal.returns-clause-carried
returns-clause-carried c = (all (goal.at.returns-clause-carried c).After-saturating_add-inside-3).carried

pub returns-clause-intact : goal.returns-clause-intact
returns-clause-intact c =
    let now = (goal.at.returns-clause-intact c).After-saturating_add-inside-3 in
    record {
      intact = (all now).kept.intact;
      remembers = (done now).remembers;
      keys_in = c.shrink_if_empty.ensures.remembered c.args.inside.now.arena.cells c.exchange_rows-count.ensures.exchanged.keys;
      keys_out = c.requires.intact.keys_out;
      room = c.shrink_if_empty.ensures.sure;
      covered = rw (c.shrink_if_empty.ensures.same, c.exchange_rows-count.ensures.exchanged.covered) c.requires.intact.covered;
    }
