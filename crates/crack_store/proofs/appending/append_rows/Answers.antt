use Rattle.std.proofs.Common.{◌≡◌, ◌+◌, ◌++◌, ◌∷◌, [], take, get_or, suc, Some, sym, ap, ◌∙◌, inr, arith}
use Rattle.std.proofs.lemmas.List.{get_or_default, append-nil, append_assoc, take_all}
use Rattle.std.proofs.Math.Seq.{take-suc}
use Rattle.crack_arena.specs.Arena.{no_handle, read}
use Rattle.crack_column.specs.Column.{Column}
use Rattle.crack_store.proofs.appending.append_rows.Goals as goal

pub rows-init : goal.rows-init
rows-init c = record { handles = sym (append-nil c.args.column.now.handles); remembered = c.requires.remembered; room = omega arith }

pub append_remembered-requires : goal.append_remembered-requires
append_remembered-requires c = omega (arith, c.rows.invariant.room, c.requires.room, c.at-handle.ensures.within)

pub rows-preserved : goal.rows-preserved
rows-preserved c =
    let hs = c.args.rows.now.handles in
    let cells = c.args.arena.now.cells in
    let h = c.at-handle.result in
    let step : c.rows.place + 1 ≡ suc c.rows.place = omega arith in
    let stands : get_or hs c.rows.place no_handle ≡ h = sym (c.at-handle.ensures.is ∙ get_or_default hs c.rows.place h no_handle c.at-handle.ensures.within) in
    let next : take (c.rows.place + 1) hs ≡ take c.rows.place hs ++ h ∷ [] = ap (λ k. take k hs) step ∙ take-suc hs c.rows.place no_handle c.at-handle.ensures.within ∙ ap (λ x. take c.rows.place hs ++ x ∷ []) stands in
    let reads : read cells h ≡ Some c.row_at-row.result = c.row_at-row.ensures in
    let after = c.append_remembered.ensures.after in
    record {
      handles = ap (λ (x : Column). x.handles) after ∙ ap (λ xs. xs ++ h ∷ []) c.rows.invariant.handles ∙ append_assoc c.args.column.now.handles (take c.rows.place hs) (h ∷ []) ∙ ap (λ xs. c.args.column.now.handles ++ xs) (sym next);
      remembered = c.append_remembered.ensures.remembered cells c.rows.invariant.remembered (inr (rw reads c.of.ensures));
      room = omega (arith, ap (λ (x : Column). x.room) after, c.rows.invariant.room, c.requires.room, c.at-handle.ensures.within);
    }

pub returns-clause-handles : goal.returns-clause-handles
returns-clause-handles c =
    let hs = c.args.rows.now.handles in
    c.rows.invariant.handles ∙ ap (λ xs. c.args.column.now.handles ++ xs) (take_all c.rows.place hs (omega (arith, c.rows-test.false, c.len-place-end.ensures)))

pub returns-clause-remembered : goal.returns-clause-remembered
returns-clause-remembered c = c.rows.invariant.remembered
