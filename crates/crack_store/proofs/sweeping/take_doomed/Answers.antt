use Rattle.std.proofs.Common.{◌≡◌, ◌+◌, ◌<◌, ◌∷◌, [], ◌++◌, true, false, length, map, take, drop, refl, ap, ◌∙◌, inl, inr, arith}
use Rattle.std.proofs.lemmas.List.{length-drop, length-take-le, map-append, get_or_default}
use Rattle.std.proofs.lemmas.Bool.{cases_lt, lt-ltb, le-ltb, false≢true}
use Rattle.crack_arena.specs.Arena.{Handle, no_handle, times, slots}
use Rattle.crack_column.specs.Column.{Column}
use Rattle.crack_column.specs.Drains.{doomed_handle}
use Rattle.crack_arena.proofs.Remembering.{Remembers-take}
use Rattle.crack_store.specs.Sweepings.{ends_in}
use Rattle.crack_store.proofs.SweepLemmas.{IsParting-end, IsParting-doomed, IsParting-stays, nearest, length-swapped}
use Rattle.crack_store.proofs.sweeping.take_doomed.Goals.{then-contains, else-contains}
use Rattle.crack_store.proofs.sweeping.take_doomed.Goals as goal

pub rows-preserved : goal.rows-preserved
rows-preserved c =
    let out = c.args.pending_out.now.handles in
    let h = c.args.column.now.handles in
    let from = c.args.from in
    let front = take from h in
    let ts = drop from h in
    let now = c.rows.column.handles in
    let inv = c.rows.invariant in
    let place = c.rows.place in
    let said = map doomed_handle c.rows.doomed.items in
    let first : length front ≡ from = length-take-le from h c.requires.within in
    let within : place < from + length ts = omega (arith, c.rows-test.true, c.len-place-end.ensures.value, length-drop from h, c.requires.within) in
    let n = nearest out front ts from now said c.rows.low place first inv.parting within in
    let slot = c.slot_at.ensures ∙ ap (λ (x : Handle). x.slot) n.at in
    elim c.if-contains.branch [
      | then-contains w ↦
          let some = rw slot at w.if-contains.ensures in
          let is : ends_in out n.t ≡ true = rw (lt-ltb 0 (times n.t.slot (slots out)) (some.0 refl)) refl in
          let handle : w.at-handle.result ≡ n.t = w.at-handle.ensures.is ∙ get_or_default now place w.at-handle.result no_handle w.at-handle.ensures.within ∙ n.at in
          let listed : map doomed_handle w.push_reserved.new.self.items ≡ said ++ n.t ∷ [] = ap (map doomed_handle) w.push_reserved.ensures.items ∙ map-append doomed_handle c.rows.doomed.items _ ∙ ap (λ (g : Handle). said ++ g ∷ []) handle in
          rw (w.column-is, w.doomed-is, w.low-is) (record {
            parting = rw listed (IsParting-doomed out front ts from now said c.rows.low place first inv.parting n is);
            remembers = inv.remembers;
            room = omega (arith, inv.room, w.push_reserved.ensures.capacity);
            long = inv.long;
          })
      | else-contains w ↦
          let none = rw slot at w.if-contains.ensures in
          let isnt : ends_in out n.t ≡ false = elim (cases_lt 0 (times n.t.slot (slots out))) [
            | inl some ↦ absurd (false≢true (none.1 some))
            | inr few ↦ rw (le-ltb 0 (times n.t.slot (slots out)) few) refl
          ] in
          let handles = ap (λ (x : Column). x.handles) w.swap.ensures.after in
          rw (w.column-is, w.doomed-is, w.low-is) (record {
            parting = rw handles (IsParting-stays out front ts from now said c.rows.low place first inv.parting n isnt);
            remembers = w.swap.ensures.remembered c.args.arena.now.cells inv.remembers;
            room = inv.room;
            long = ap length handles ∙ length-swapped c.rows.low place now ∙ inv.long;
          })
    ]

pub returns-clause-remembers : goal.returns-clause-remembers
returns-clause-remembers c =
    let h = c.args.column.now.handles in
    let from = c.args.from in
    let end = IsParting-end c.args.pending_out.now.handles (take from h) (drop from h) from c.rows.column.handles (map doomed_handle c.rows.doomed.items) c.rows.low c.rows.place (omega (arith, c.rows-test.false, c.len-place-end.ensures.value, length-drop from h, c.requires.within)) (length-take-le from h c.requires.within) c.rows.invariant.parting in
    rw (c.shorten.ensures.handles_are, c.shorten.ensures.remembered_are) (Remembers-take c.args.arena.now.cells c.rows.column.handles c.rows.column.remembered c.rows.low end.2 c.rows.invariant.remembers)
