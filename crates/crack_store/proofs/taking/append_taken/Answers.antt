use Rattle.std.proofs.Common.{◌≡◌, ◌+◌, ◌++◌, ◌∷◌, [], length, map, get_or, take, drop, sym, ap, ◌∙◌, inr, arith}
use Rattle.std.proofs.lemmas.List.{append-nil, append_assoc, map-append, length_push, drop_all, take_all, take_more, get_or_default}
use Rattle.crack_arena.specs.Arena.{no_handle}
use Rattle.crack_arena.specs.Memories.{memory_at, nothing}
use Rattle.crack_column.specs.Column.{Column}
use Rattle.crack_store.proofs.TakeLemmas.{drop-push, behind-read}
use Rattle.crack_store.proofs.taking.append_taken.Goals as goal

pub rows-init : goal.rows-init
rows-init c =
    let column = c.args.column.now in
    let none : drop (length column.handles) column.remembered ≡ [] = drop_all (length column.handles) column.remembered (omega (arith, c.requires.remembered.beside)) in
    let none_read : drop (length column.handles) column.handles ≡ [] = drop_all (length column.handles) column.handles (omega arith) in
    record {
      handles = sym (append-nil column.handles);
      remembered = c.requires.remembered;
      longer = omega arith;
      read = none ∙ ap (map (memory_at c.args.arena.now.cells)) (sym none_read);
      room = omega (arith, c.requires.room);
    }

pub or_read-requires : goal.or_read-requires
or_read-requires c =
    let rows = c.args.rows.now in
    let known = c.args.known.now in
    let h = c.index-rows-i.result in
    let m = c.index-known-i.result in
    let same : get_or rows c.rows.i no_handle ≡ h = get_or_default rows c.rows.i no_handle h c.rows-test.true ∙ sym c.index-rows-i.is in
    let memory : get_or known c.rows.i nothing ≡ m = get_or_default known c.rows.i nothing m (omega (arith, c.rows-test.true, c.requires.known.beside)) ∙ sym c.index-known-i.is in
    rw (same, memory) at (c.requires.known.right c.rows.i no_handle c.rows-test.true)

pub append_remembered-requires : goal.append_remembered-requires
append_remembered-requires c = omega (arith, c.rows.invariant.room, c.rows-test.true)

pub rows-preserved : goal.rows-preserved
rows-preserved c =
    let cells = c.args.arena.now.cells in
    let rows = c.args.rows.now in
    let i = c.rows.i in
    let h = c.index-rows-i.result in
    let after = c.append_remembered.ensures.after in
    let column : c.append_remembered.new.self.handles ≡ c.rows.column.handles ++ h ∷ [] = ap (λ (x : Column). x.handles) after in
    let memories : c.append_remembered.new.self.remembered ≡ c.rows.column.remembered ++ c.or_read.result ∷ [] = ap (λ (x : Column). x.remembered) after in
    let places = ap (λ (x : Column). x.room) after in
    let known : c.or_read.result ≡ memory_at cells h = c.or_read.ensures in
    let same : get_or rows i no_handle ≡ h = get_or_default rows i no_handle h (omega (arith, c.rows-test.true)) ∙ sym c.index-rows-i.is in
    let more : take (i + 1) rows ≡ take i rows ++ h ∷ [] = take_more rows i no_handle (omega (arith, c.rows-test.true)) ∙ ap (λ x. take i rows ++ x ∷ []) same in
    let start = length c.args.column.now.handles in
    let beside = c.rows.invariant.remembered.beside in
    let behind_memories = drop-push start c.rows.column.remembered c.or_read.result (omega (arith, beside, c.rows.invariant.longer)) in
    let behind_handles = drop-push start c.rows.column.handles h c.rows.invariant.longer in
    record {
      handles = rw (column, more) (ap (λ xs. xs ++ h ∷ []) c.rows.invariant.handles ∙ append_assoc c.args.column.now.handles (take i rows) (h ∷ []));
      remembered = c.append_remembered.ensures.remembered cells c.rows.invariant.remembered (inr known);
      longer = rw column (omega (arith, length_push c.rows.column.handles h, c.rows.invariant.longer));
      read = rw (column, memories, behind_memories, behind_handles, known) (ap (λ ms. ms ++ memory_at cells h ∷ []) c.rows.invariant.read ∙ sym (map-append (memory_at cells) (drop start c.rows.column.handles) (h ∷ [])));
      room = omega (arith, places, c.rows.invariant.room, c.rows-test.true);
    }

pub returns-clause-handles : goal.returns-clause-handles
returns-clause-handles c =
    c.rows.invariant.handles ∙ ap (λ xs. c.args.column.now.handles ++ xs) (take_all c.rows.i c.args.rows.now c.rows-test.false)

pub returns-clause-remembered : goal.returns-clause-remembered
returns-clause-remembered c = c.rows.invariant.remembered

pub returns-clause-read : goal.returns-clause-read
returns-clause-read c = behind-read c.args.arena.now.cells (length c.args.column.now.handles) c.rows.column c.rows.invariant.remembered.beside c.rows.invariant.read
