use Rattle.std.proofs.Common.{◌≡◌, ◌++◌, [], List, length, refl, sym, ap, ◌∙◌, arith}
use Rattle.crack_arena.specs.Arena.{Handle}
use Rattle.crack_pending.specs.Pending.{Pending}
use Rattle.crack_tags.specs.Tags.{unknown_in}
use Rattle.crack_state.specs.Steps.{SameButRoom, all_appended}
use Rattle.crack_state.proofs.AppendLaws.{IsIntact-all}
use Rattle.crack_state.proofs.StepLaws.{IsIntact-room}
use Rattle.crack_store.specs.Inside.{lists_of}
use Rattle.crack_store.proofs.store.Store.adopt_all.Goals as goal

pub adopt-requires-clause-empty : goal.adopt-requires-clause-empty
adopt-requires-clause-empty c = rw (← c.self.view_is) at c.requires.empty

pub adopt-requires-clause-few : goal.adopt-requires-clause-few
adopt-requires-clause-few c = omega (arith, c.hand_over-rows.ensures.few, ap length c.hand_over-rows.ensures.handles)

pub adopt-requires-clause-unread : goal.adopt-requires-clause-unread
adopt-requires-clause-unread c = ap unknown_in c.hand_over-rows.ensures.remembered ∙ sym c.hand_over-rows.ensures.unknowns

pub invariant_of-self : goal.invariant_of-self
invariant_of-self c =
    let p = c.self.inside.inside in
    let s = lists_of p in
    let handed = c.hand_over-rows.ensures in
    let new = record p { column = c.adopt.new.self; pending_in = c.shrink_if_empty.new.self; in_room = 0; tally = record p.tally { insertions = c.saturating_add-self-inside.result } } in
    let uncracked : s.marks ≡ [] = rw (← c.self.view_is) at c.requires.uncracked in
    let none : s.column ≡ [] = rw (← c.self.view_is) at c.requires.empty in
    let column : c.adopt.new.self.handles ≡ s.column ++ s.pending_in = c.adopt.ensures.handles ∙ handed.handles ∙ ap (λ (xs : List Handle). xs ++ s.pending_in) (sym none) in
    let left : c.shrink_if_empty.new.self.handles ≡ [] = ap (λ (x : Pending). x.handles) c.shrink_if_empty.ensures.same ∙ handed.left in
    let count : c.len-adopted.result ≡ length s.pending_in = c.len-adopted.ensures.value ∙ ap length handed.handles in
    let after : SameButRoom (all_appended s) (lists_of new) = record { same = rw (column, left, c.saturating_add-self-inside.ensures, count) refl } in
    record {
      intact = IsIntact-room (all_appended s) (lists_of new) [] after (IsIntact-all s.pending_in s refl uncracked c.self.invariant.intact);
      remembers = rw (c.adopt.ensures.handles, c.adopt.ensures.remembered, handed.handles, handed.remembered) c.self.invariant.keys_in;
      keys_in = c.shrink_if_empty.ensures.remembered s.cells (rw (handed.left, handed.keys) (record { beside = refl; right = λ k d within. absurd (omega (arith, within)) }));
      keys_out = c.self.invariant.keys_out;
      room = c.shrink_if_empty.ensures.sure;
      covered = rw (c.shrink_if_empty.ensures.same, handed.covered) c.self.invariant.covered;
    }
