use Rattle.std.proofs.Common.{◌≡◌, [], map, refl, ap, ◌∙◌, arith}
use Rattle.crack_state.specs.Pulled.{buried_all}
use Rattle.crack_column.specs.Column.{Column}
use Rattle.crack_column.specs.Drains.{doomed_handle}
use Rattle.crack_state.specs.State.{State, IsIntact}
use Rattle.crack_store.specs.Inside.{lists_of}
use Rattle.crack_store.specs.declared.draining.Drain.{Drain}
use Rattle.crack_store.specs.declared.inside.Inside.{Inside}
use Rattle.crack_store.proofs.DrainLemmas.{IsPulled, pulled-whole, buried-length, Remembers-buried}
use Rattle.crack_store.proofs.draining.pull_rows.Goals as goal
use Rattle.crack_store.proofs.draining.pull_rows.Goals.{After-drain_last}

-- the store after the walk
done : (c : After-drain_last) → IsPulled (lists_of c.args.inside.now) c.args.doomed.items c.requires.intact.intact c.requires.doomed c.place_each.new.self.marks c.drain_last.new.drain
done c =
    let p = c.args.inside.now in
    let v : Drain = record { column = c.take.result; doomed = c.args.doomed; low = 0; from = 0; gap = 0; pulled = p.tally.pulled } in
    pulled-whole (lists_of p) c.args.doomed.items c.requires.intact.intact c.requires.doomed c.place_each.result c.place_each.new.self.marks v c.place_each.new.visitor c.drain_last.new.drain (ap (λ (x : Column). x.handles) c.take.ensures) (ap (λ (x : Column). x.room) c.take.ensures) refl refl refl refl refl (rw c.take.ensures c.requires.intact.remembers) c.place_each.ensures.places c.drain_last.ensures

pub bury_all-requires : goal.bury_all-requires
bury_all-requires c =
    let d = done (goal.at.bury_all-requires c).After-drain_last in
    rw (c.deref.ensures.value, d.doomed_are) c.requires.doomed.buried

pub returns-clause-pulled : goal.returns-clause-pulled
returns-clause-pulled c =
    let d = done (goal.at.returns-clause-pulled c).After-drain_last in
    c.bury_all.ensures.buried ∙ rw (c.deref.ensures.value, d.doomed_are, d.column_is, d.marks_are, d.pulled_is, d.room_is) refl

pub returns-clause-intact : goal.returns-clause-intact
returns-clause-intact c =
    let d = done (goal.at.returns-clause-intact c).After-drain_last in
    let p = c.args.inside.now in
    let q : Inside = c.bury_all.new.inside in
    let mid : Inside = record p { column = c.drain_last.new.drain.column; index = c.place_each.new.self; tally = record p.tally { pulled = c.drain_last.new.drain.pulled } } in
    let hs = map doomed_handle c.deref.result.now in
    let t : State = lists_of mid in
    let keys = c.bury_all.ensures.keys in
    let pulled = returns-clause-pulled c in
    let whole : IsIntact (lists_of q) [] = rw pulled c.requires.doomed.intact in
    let cells_are : q.arena.cells ≡ (buried_all hs t).cells = ap (λ (x : State). x.cells) c.bury_all.ensures.buried in
    let column : q.column ≡ c.drain_last.new.drain.column = ap (λ (x : Inside). x.column) keys.same in
    let pending : q.pending_in ≡ p.pending_in = ap (λ (x : Inside). x.pending_in) keys.same in
    let in_room : q.in_room ≡ p.in_room = ap (λ (x : Inside). x.in_room) keys.same in
    record {
      intact = whole;
      remembers = rw cells_are (Remembers-buried hs t q.column.handles q.column.remembered (rw cells_are at whole.owned.column_reads) (rw column d.remembers));
      keys_in = rw cells_are (Remembers-buried hs t q.pending_in.handles q.pending_in.remembered (rw cells_are at whole.owned.pending_reads) (rw pending c.requires.intact.keys_in));
      keys_out = rw cells_are (Remembers-buried hs t q.pending_out.handles q.pending_out.remembered (rw cells_are at whole.owned.doomed_reads) (keys.keys p.arena.cells c.requires.intact.keys_out));
      room = rw (in_room, pending) c.requires.intact.room;
      covered = rw (cells_are, pending) (omega (arith, buried-length hs t, c.requires.intact.covered));
    }
