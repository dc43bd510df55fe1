use Rattle.std.proofs.Common.{◌≡◌, ℕ, ◌+◌, ◌-◌, List, [], ◌∷◌, ◌++◌, map, min, length, take, drop, reverse, refl, ap, ◌∙◌, arith}
use Rattle.std.proofs.lemmas.List.{length-map, length-take-le}
use Rattle.crack_arena.specs.Arena.{Handle}
use Rattle.crack_arena.specs.Rows.{key_at}
use Rattle.crack_state.specs.Pieces.{column_of, marks_of}
use Rattle.crack_state.specs.Carried.{inside_of}
use Rattle.crack_state.specs.Pulled.{all_drawn, itself, pulled, buried_all}
use Rattle.crack_state.specs.Filled.{lacking, pieces_under}
use Rattle.crack_state.proofs.FillLaws.{edge-within}
use Rattle.crack_state.proofs.SiftedLaws.{min_and}
use Rattle.crack_column.specs.Drains.{doomed_handle}
use Rattle.crack_arena.specs.Memories.{Remembers}
use Rattle.crack_column.specs.Column.{Column}
use Rattle.crack_pending.specs.Pending.{Pending}
use Rattle.crack_state.specs.State.{State, IsIntact, greatest}
use Rattle.crack_store.specs.declared.draining.Drain.{Drain}
use Rattle.crack_store.specs.declared.inside.Inside.{Inside}
use Rattle.crack_store.specs.Fillings.{IsStocked}
use Rattle.crack_store.specs.Inside.{lists_of}
use Rattle.crack_store.proofs.DrainLemmas.{buried-length, Remembers-buried}
use Rattle.crack_store.proofs.FillLemmas.{IsBelow, below-whole}
use Rattle.crack_store.proofs.filling.fill_rows.Goals as goal
use Rattle.crack_store.proofs.filling.fill_rows.Goals.{After-place_each, After-put_fillers}

-- the store after the walk
done : (c : After-place_each) → IsBelow (lists_of c.args.inside.now) c.args.doomed.items c.args.fillers c.args.edge c.requires.intact.intact c.requires.can c.place_each.new.self.marks c.place_each.new.visitor.drain
done c =
    let p = c.args.inside.now in
    let v : Drain = record { column = c.take.result; doomed = c.args.doomed; low = 0; from = 0; gap = 0; pulled = p.tally.pulled } in
    below-whole (lists_of p) c.args.doomed.items c.args.fillers c.args.edge c.requires.intact.intact c.requires.can c.place_each.result c.place_each.new.self.marks v c.place_each.new.visitor (ap (λ (x : Column). x.handles) c.take.ensures) (ap (λ (x : Column). x.room) c.take.ensures) refl refl refl refl refl (rw c.take.ensures c.requires.intact.remembers) (rw c.number-edge_number.ensures at c.place_each.ensures.places)

pub put_fillers-requires-clause-within : goal.put_fillers-requires-clause-within
put_fillers-requires-clause-within c =
    let d = done (goal.at.put_fillers-requires-clause-within c).After-place_each in
    let can = c.requires.can in
    omega (arith, d.long, edge-within (lists_of c.args.inside.now) can.low c.args.edge can.high can.marks_are c.requires.intact.intact)

pub put_fillers-requires-clause-remembered : goal.put_fillers-requires-clause-remembered
put_fillers-requires-clause-remembered c = (done (goal.at.put_fillers-requires-clause-remembered c).After-place_each).remembers

pub bury_all-requires : goal.bury_all-requires
bury_all-requires c =
    let d = done (goal.at.bury_all-requires c).After-place_each in
    rw (c.deref.ensures.value, d.doomed_are) c.requires.can.buried

-- the fillers came in
stocked : (c : After-put_fillers) → IsStocked c.args.inside.now.arena.cells c.args.fillers c.args.edge.position (length c.args.doomed.items) c.place_each.new.visitor.drain.column c.args.inside.now.pending_in c.put_fillers.new.column c.put_fillers.new.rows
stocked c =
    let count : c.len-count.result ≡ length c.args.doomed.items = omega (arith, c.len-count.ensures) in
    rw count at c.put_fillers.ensures

pub returns-clause-filled : goal.returns-clause-filled
returns-clause-filled c =
    let p = c.args.inside.now in
    let s : State = lists_of p in
    let ds = c.args.doomed.items in
    let n : ℕ = length ds in
    let can = c.requires.can in
    let d = done (goal.at.returns-clause-filled c).After-place_each in
    let st = stocked (goal.at.returns-clause-filled c).After-put_fillers in
    let gs : List Handle = map doomed_handle ds in
    let fs : List Handle = take n (inside_of s.cells c.args.fillers s.pending_in) in
    let count : c.len-count.result ≡ n = omega (arith, c.len-count.ensures) in
    let gs_long : length gs ≡ n = length-map ds doomed_handle in
    let fs_long : length fs ≡ n = length-take-le n (inside_of s.cells c.args.fillers s.pending_in) can.enough in
    let drew : ℕ = all_drawn (key_at s.cells) itself 0 gs (pieces_under s can.low c.args.edge) in
    let column_is : c.put_fillers.new.column.handles ≡ column_of (pulled (key_at s.cells) itself 0 gs (pieces_under s can.low c.args.edge)) ++ (reverse fs ++ drop c.args.edge.position s.column) = st.handles_are ∙ rw (d.front_is, d.behind_is) refl in
    let marks_is : c.place_each.new.self.marks ≡ marks_of 0 (pulled (key_at s.cells) itself 0 gs (pieces_under s can.low c.args.edge)) ++ record c.args.edge { position = c.args.edge.position - length gs } ∷ can.high = d.marks_are ∙ rw gs_long refl in
    let pending_is : c.shrink_if_empty.new.self.handles ≡ lacking s.cells c.args.fillers n s.pending_in = ap (λ (x : Pending). x.handles) c.shrink_if_empty.ensures.same ∙ st.pending_are in
    let room_is : c.put_fillers.new.column.room ≡ s.column_room = st.column_room ∙ d.room_is in
    let pulled_is : c.saturating_add-inside.result ≡ min (s.tally.pulled + (drew + length fs)) greatest = c.saturating_add-inside.ensures ∙ rw (d.pulled_is, count, fs_long) (min_and s.tally.pulled drew n) in
    let came : c.saturating_add-inside-2.result ≡ min (s.tally.insertions + length fs) greatest = c.saturating_add-inside-2.ensures ∙ rw (count, fs_long) refl in
    record {
      low = can.low;
      high = can.high;
      marks_are = can.marks_are;
      after = c.bury_all.ensures.buried ∙ rw (c.deref.ensures.value, d.doomed_are, column_is, marks_is, pending_is, room_is, pulled_is, came) refl;
    }

pub returns-clause-intact : goal.returns-clause-intact
unfolding returns-clause-filled
returns-clause-intact c =
    let st = stocked (goal.at.returns-clause-intact c).After-put_fillers in
    let p = c.args.inside.now in
    let q : Inside = c.bury_all.new.inside in
    let mid : Inside = record p { column = c.put_fillers.new.column; index = c.place_each.new.self; pending_in = c.shrink_if_empty.new.self; tally = record p.tally { pulled = c.saturating_add-inside.result; insertions = c.saturating_add-inside-2.result } } in
    let hs = map doomed_handle c.deref.result.now in
    let t : State = lists_of mid in
    let keys = c.bury_all.ensures.keys in
    let filled = returns-clause-filled c in
    let whole : IsIntact (lists_of q) [] = rw filled.after c.requires.can.intact in
    let cells_are : q.arena.cells ≡ (buried_all hs t).cells = ap (λ (x : State). x.cells) c.bury_all.ensures.buried in
    let column : q.column ≡ c.put_fillers.new.column = ap (λ (x : Inside). x.column) keys.same in
    let pending : q.pending_in ≡ c.shrink_if_empty.new.self = ap (λ (x : Inside). x.pending_in) keys.same in
    let in_room : q.in_room ≡ p.in_room = ap (λ (x : Inside). x.in_room) keys.same in
    let known : Remembers p.arena.cells c.shrink_if_empty.new.self.handles c.shrink_if_empty.new.self.remembered = c.shrink_if_empty.ensures.remembered p.arena.cells st.keys in
    let covered : c.shrink_if_empty.new.self.covered ≡ p.pending_in.covered = ap (λ (x : Pending). x.covered) c.shrink_if_empty.ensures.same ∙ st.covered in
    record {
      intact = whole;
      remembers = rw cells_are (Remembers-buried hs t q.column.handles q.column.remembered (rw cells_are at whole.owned.column_reads) (rw column st.remembers));
      keys_in = rw cells_are (Remembers-buried hs t q.pending_in.handles q.pending_in.remembered (rw cells_are at whole.owned.pending_reads) (rw pending known));
      keys_out = rw cells_are (Remembers-buried hs t q.pending_out.handles q.pending_out.remembered (rw cells_are at whole.owned.doomed_reads) (keys.keys p.arena.cells c.requires.intact.keys_out));
      room = rw (in_room, pending) c.shrink_if_empty.ensures.sure;
      covered = rw (cells_are, pending) (omega (arith, buried-length hs t, c.requires.intact.covered, covered));
    }
