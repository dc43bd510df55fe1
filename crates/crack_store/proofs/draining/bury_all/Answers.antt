use Rattle.std.proofs.Common.{◌≡◌, ◌+◌, ◌∷◌, drop, get_or, sym, ap, ◌∙◌}
use Rattle.std.proofs.lemmas.List.{drop_more}
use Rattle.crack_arena.specs.Arena.{freed_at, read}
use Rattle.crack_column.specs.declared.draining.Doomed.{Doomed}
use Rattle.crack_store.specs.declared.inside.Inside.{Inside}
use Rattle.crack_store.proofs.HandLemmas.{when_some}
use Rattle.crack_store.proofs.draining.bury_all.Goals as goal

pub rows-preserved : goal.rows-preserved
rows-preserved c =
    let ds = c.args.doomed.now in
    let i = c.rows.i in
    let d = c.index-doomed-i.result in
    let p = c.rows.inside in
    let is : get_or ds i d ≡ d = sym c.index-doomed-i.is in
    let next : drop i ds ≡ d ∷ drop (i + 1) ds = drop_more ds i d c.rows-test.true ∙ ap (λ e. e ∷ drop (i + 1) ds) (sym c.index-doomed-i.is) in
    let left = rw next at c.rows.invariant.left in
    let freed : c.free.new.self ≡ freed_at d.handle p.arena = when_some c.free.result (read p.arena.cells d.handle) (c.free.new.self ≡ p.arena) (c.free.new.self ≡ freed_at d.handle p.arena) (c.free.ensures.value ∙ ap (λ (e : Doomed). read p.arena.cells e.handle) is) left.0 (rw is at c.free.ensures.after) in
    let after = rw next at c.rows.invariant.after in
    record {
      left = rw (freed, c.strike.ensures.handles, is) left.3;
      after = rw (freed, c.strike.ensures.handles, is, c.saturating_add-inside.ensures) after;
      keys = record {
        same = ap (λ (x : Inside). record x { arena = c.free.new.self; pending_out = c.strike.new.self; tally = record p.tally { deletions = c.saturating_add-inside.result } }) c.rows.invariant.keys.same;
        keys = λ cells known. c.strike.ensures.remembered cells (c.rows.invariant.keys.keys cells known);
      };
    }

pub returns-clause-keys : goal.returns-clause-keys
returns-clause-keys c = record {
  same = ap (λ (x : Inside). record x { pending_out = c.shrink_if_empty.new.self }) c.rows.invariant.keys.same;
  keys = λ cells known. c.shrink_if_empty.ensures.remembered cells (c.rows.invariant.keys.keys cells known);
}
