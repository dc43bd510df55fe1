use Rattle.std.proofs.Common.{◌≡◌, ◌-◌, [], None, map, length, refl, sym, ap, ◌∙◌, arith, length-append}
use Rattle.crack_column.specs.Column.{Column}
use Rattle.crack_column.specs.Drains.{doomed_handle}
use Rattle.crack_pending.specs.Pending.{Pending}
use Rattle.crack_state.specs.State.{State, IsIntact}
use Rattle.crack_state.specs.Carried.{inside_of}
use Rattle.crack_state.specs.Pulled.{buried_all}
use Rattle.crack_state.proofs.AllCarriedLaws.{IsKept-in_bulk}
use Rattle.crack_store.specs.Inside.{lists_of}
use Rattle.crack_store.specs.declared.inside.Inside.{Inside}
use Rattle.crack_store.proofs.DrainLemmas.{buried-length, Remembers-buried}
use Rattle.crack_store.proofs.SweepWalks.{IsDone, ready-begins, done-of, take-done, hands, carried-is, buried-hands}
use Rattle.crack_store.proofs.sweeping.sweep_rows.Goals as goal
use Rattle.crack_store.proofs.sweeping.sweep_rows.Goals.{After-sweep_last, After-deref}

-- the store after the walk
done : (c : After-sweep_last) → IsDone c.args.range (lists_of c.args.inside.now) c.requires.intact.intact c.place_each.new.self.marks c.sweep_last.new.sweep
done c =
    let p = c.args.inside.now in
    let moved_on : c.take_rows.new.column ≡ c.take.result = sym c.take.ensures in
    done-of c.args.range (lists_of p) c.requires.intact.intact c.place_each.result c.place_each.new.self.marks _ c.place_each.new.visitor c.sweep_last.new.sweep c.place_each.ensures.places (record {
      handles_are = ap (λ (x : Column). x.handles) c.take.ensures ∙ c.take_rows.ensures.handles;
      from_is = c.len-from.ensures.value;
      floor_is = c.low.ensures.value;
      low_is = refl;
      start_is = refl;
      count_is = refl;
      moved_is = refl;
      cells_are = refl;
      out_is = refl;
      remembers = rw moved_on at c.take_rows.ensures.remembered;
    }) c.sweep_last.ensures

pub place_each-requires : goal.place_each-requires
place_each-requires c =
    let p = c.args.inside.now in
    let moved_on : c.take_rows.new.column ≡ c.take.result = sym c.take.ensures in
    ready-begins c.args.range (lists_of p) c.requires.intact.intact _ (record {
      handles_are = ap (λ (x : Column). x.handles) c.take.ensures ∙ c.take_rows.ensures.handles;
      from_is = c.len-from.ensures.value;
      floor_is = c.low.ensures.value;
      low_is = refl;
      start_is = refl;
      count_is = refl;
      moved_is = refl;
      cells_are = refl;
      out_is = refl;
      remembers = rw moved_on at c.take_rows.ensures.remembered;
    })

pub take_doomed-requires-clause-within : goal.take_doomed-requires-clause-within
take_doomed-requires-clause-within c =
    let d = done (goal.at.take_doomed-requires-clause-within c).After-sweep_last in
    omega (arith, d.long, c.len-from.ensures.value)

pub take_doomed-requires-clause-remembers : goal.take_doomed-requires-clause-remembers
take_doomed-requires-clause-remembers c = (done (goal.at.take_doomed-requires-clause-remembers c).After-sweep_last).remembers

pub take_doomed-requires-clause-room : goal.take_doomed-requires-clause-room
take_doomed-requires-clause-room c =
    let d = done (goal.at.take_doomed-requires-clause-room c).After-sweep_last in
    omega (arith, d.long, c.len-from.ensures.value, c.requires.doomed_room)

-- the rows with which carries end
listed : (c : After-deref) → IsDone c.args.range (lists_of c.args.inside.now) c.requires.intact.intact c.place_each.new.self.marks c.sweep_last.new.sweep → map doomed_handle c.deref.result.now ≡ hands c.args.range (lists_of c.args.inside.now) c.requires.intact.intact
listed c d =
    let p = c.args.inside.now in
    let parts = take-done c.args.range (lists_of p) c.requires.intact.intact c.place_each.new.self.marks c.sweep_last.new.sweep c.len-from.result c.len-from.ensures.value d in
    ap (map doomed_handle) c.deref.ensures.value ∙ c.take_doomed.ensures.doomed ∙ rw parts.1 refl

pub bury_all-requires : goal.bury_all-requires
bury_all-requires c =
    let at = goal.at.bury_all-requires c in
    rw (listed at.After-deref (done at.After-sweep_last)) (buried-hands c.args.range (lists_of c.args.inside.now) c.requires.intact.intact)

pub returns-clause-carried : goal.returns-clause-carried
returns-clause-carried c =
    let p = c.args.inside.now in
    let s = lists_of p in
    let at = goal.at.returns-clause-carried c in
    let d = done at.After-sweep_last in
    let parts = take-done c.args.range s c.requires.intact.intact c.place_each.new.self.marks c.sweep_last.new.sweep c.len-from.result c.len-from.ensures.value d in
    let left = ap (λ (x : Pending). x.handles) c.shrink_if_empty.ensures.same ∙ c.take_rows.ensures.left in
    let count : c.len.result - c.len-from.result ≡ length (inside_of p.arena.cells c.args.range p.pending_in.handles) = omega (arith, c.len.ensures.value, ap length c.take_rows.ensures.handles, length-append p.column.handles (inside_of p.arena.cells c.args.range p.pending_in.handles), c.len-from.ensures.value) in
    let whole = carried-is c.args.range s c.requires.intact.intact c.take_doomed.new.column.room p.in_room in
    rw (c.bury_all.ensures.buried, listed at.After-deref d, c.take_doomed.ensures.handles, parts.0, parts.1, d.marks_are, d.moved_is, left, c.saturating_add-inside.ensures, count) whole

pub returns-clause-live : goal.returns-clause-live
returns-clause-live c =
    let s = lists_of c.args.inside.now in
    (IsKept-in_bulk None c.args.range s _ c.args.first (λ key inside. refl) c.requires.intact.intact c.requires.first (returns-clause-carried c)).live

pub returns-clause-intact : goal.returns-clause-intact
returns-clause-intact c =
    let p = c.args.inside.now in
    let s = lists_of p in
    let d = done (goal.at.returns-clause-intact c).After-sweep_last in
    let q : Inside = c.bury_all.new.inside in
    let whole : IsIntact (lists_of q) [] = (IsKept-in_bulk None c.args.range s (lists_of q) c.args.first (λ key inside. refl) c.requires.intact.intact c.requires.first (returns-clause-carried c)).intact in
    let mid : Inside = record p { column = c.take_doomed.new.column; index = c.place_each.new.self; pending_in = c.shrink_if_empty.new.self; tally = record p.tally { insertions = c.saturating_add-inside.result; moved = c.sweep_last.new.sweep.moved } } in
    let hs = map doomed_handle c.deref.result.now in
    let t : State = lists_of mid in
    let keys = c.bury_all.ensures.keys in
    let cells_are : q.arena.cells ≡ (buried_all hs t).cells = ap (λ (x : State). x.cells) c.bury_all.ensures.buried in
    let column : q.column ≡ c.take_doomed.new.column = ap (λ (x : Inside). x.column) keys.same in
    let pending : q.pending_in ≡ c.shrink_if_empty.new.self = ap (λ (x : Inside). x.pending_in) keys.same in
    let in_room : q.in_room ≡ p.in_room = ap (λ (x : Inside). x.in_room) keys.same in
    let covered : c.shrink_if_empty.new.self.covered ≡ p.pending_in.covered = rw (c.shrink_if_empty.ensures.same, c.take_rows.ensures.covered) refl in
    record {
      intact = whole;
      remembers = rw cells_are (Remembers-buried hs t q.column.handles q.column.remembered (rw cells_are at whole.owned.column_reads) (rw column c.take_doomed.ensures.remembers));
      keys_in = rw cells_are (Remembers-buried hs t q.pending_in.handles q.pending_in.remembered (rw cells_are at whole.owned.pending_reads) (rw pending (c.shrink_if_empty.ensures.remembered p.arena.cells c.take_rows.ensures.keys)));
      keys_out = rw cells_are (Remembers-buried hs t q.pending_out.handles q.pending_out.remembered (rw cells_are at whole.owned.doomed_reads) (keys.keys p.arena.cells c.requires.intact.keys_out));
      room = rw (in_room, pending) c.shrink_if_empty.ensures.sure;
      covered = rw (cells_are, pending) (omega (arith, buried-length hs t, covered, c.requires.intact.covered));
    }
