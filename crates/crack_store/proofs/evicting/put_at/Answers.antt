use Rattle.std.proofs.Common.{◌≡◌, ◌+◌, ◌<◌, ◌∷◌, [], length, take, drop, ap, ◌∙◌, inr, arith}
use Rattle.std.proofs.lemmas.List.{length-set}
use Rattle.std.proofs.lemmas.List.Elements.{All-head}
use Rattle.crack_arena.specs.Arena.{Handle, slots}
use Rattle.crack_arena.proofs.Times.{times_head}
use Rattle.crack_arena.specs.Memories.{memory_at}
use Rattle.crack_column.specs.Column.{Column}
use Rattle.crack_pending.specs.Pending.{Pending}
use Rattle.crack_store.proofs.ExchangeLemmas.{got, set_parts}
use Rattle.crack_store.proofs.evicting.put_at.Goals as goal
use Rattle.crack_store.proofs.evicting.put_at.Goals.{After-swap_in_remembered-evicted}

-- the row at the place
stood : (c : After-swap_in_remembered-evicted) → drop c.args.place c.args.column.now.handles ≡ c.swap_in_remembered-evicted.result.0 ∷ drop (c.args.place + 1) c.args.column.now.handles
stood c = got c.args.column.now.handles c.args.place c.swap_in_remembered-evicted.result.0 c.swap_in_remembered-evicted.ensures.handle

pub push_remembered-requires-clause-covered : goal.push_remembered-requires-clause-covered
push_remembered-requires-clause-covered c =
    let is = stood (goal.at.push_remembered-requires-clause-covered c).After-swap_in_remembered-evicted in
    All-head (λ (h : Handle). h.slot < c.args.rows.now.covered) c.swap_in_remembered-evicted.result.0 (drop (c.args.place + 1) c.args.column.now.handles) (rw is at c.requires.apart.inside)

pub push_remembered-requires-clause-absent : goal.push_remembered-requires-clause-absent
push_remembered-requires-clause-absent c =
    let is = stood (goal.at.push_remembered-requires-clause-absent c).After-swap_in_remembered-evicted in
    let slot = c.swap_in_remembered-evicted.result.0.slot in
    let once = rw is at (c.requires.apart.once slot) in
    omega (arith, once, times_head slot (slots (drop (c.args.place + 1) c.args.column.now.handles)))

pub returns-then-place-len : goal.returns-then-place-len
returns-then-place-len c =
    let is = stood (goal.at.returns-then-place-len c).After-swap_in_remembered-evicted in
    let cells = c.args.arena.now.cells in
    let old = c.args.column.now in
    let new = c.swap_in_remembered-evicted.new.self in
    let place = c.args.place in
    let known : c.or_read-known.result ≡ memory_at cells c.args.handle = c.or_read-known.ensures in
    let after = c.swap_in_remembered-evicted.ensures.after in
    let within : place < length old.handles = omega (arith, c.if-place-len.true, c.len.ensures.value) in
    let handles : new.handles ≡ _ = ap (λ (x : Column). x.handles) after ∙ set_parts old.handles place c.args.handle within in
    let memories : new.remembered ≡ _ = ap (λ (x : Column). x.remembered) after ∙ set_parts old.remembered place c.or_read-known.result (omega (arith, within, c.requires.remembered.beside)) in
    let pushed = c.push_remembered.ensures.after in
    let one : take 1 (drop place old.handles) ≡ c.swap_in_remembered-evicted.result.0 ∷ [] = ap (take 1) is in
    let long : length new.handles ≡ length old.handles = ap length (ap (λ (x : Column). x.handles) after) ∙ length-set old.handles place c.args.handle in
    record {
      handles_are = handles;
      remembered_are = rw known at memories;
      pending_are = rw one (ap (λ (x : Pending). x.handles) pushed);
      remembers = c.swap_in_remembered-evicted.ensures.remembered cells c.requires.remembered (inr known);
      keys = c.push_remembered.ensures.remembered cells (inr c.or_read.ensures) c.requires.keys;
      column_room = omega (arith, long, ap (λ (x : Column). x.room) after);
      in_room = omega (arith, ap length one, ap (λ (x : Pending). x.room) pushed, c.requires.in_room within);
      covered = ap (λ (x : Pending). x.covered) pushed;
    }
