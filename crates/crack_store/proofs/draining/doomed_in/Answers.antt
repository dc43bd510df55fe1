use Rattle.std.proofs.Common.{◌≡◌, ◌++◌, ◌∷◌, [], true, map, get_or, take, refl, sym, ap, ◌∙◌, arith}
use Rattle.std.specs.Prelude.{is_ok}
use Rattle.std.proofs.lemmas.List.{map-append, get_or_default}
use Rattle.crack_arena.specs.Arena.{Handle, no_handle}
use Rattle.crack_arena.specs.Rows.{key_at}
use Rattle.crack_state.specs.Carried.{inside_of}
use Rattle.crack_column.specs.declared.draining.Doomed.{Doomed}
use Rattle.crack_store.specs.Drainings.{doomed_of}
use Rattle.crack_store.proofs.TakeLemmas.{found, found_none}
use Rattle.crack_store.proofs.draining.doomed_in.Goals as goal

pub rows-preserved : goal.rows-preserved
rows-preserved c =
    let hs = c.args.rows.now.handles in
    let cells = c.args.arena.now.cells in
    let place = c.in-Some.place in
    let h = c.at-handle.result in
    let one = found cells c.args.range hs c.rows.from place c.in-Some.ensures in
    let passed = inside_of cells c.args.range (take c.rows.from hs) in
    let g : Handle = get_or hs place no_handle in
    let is : g ≡ h = sym (c.at-handle.ensures.is ∙ get_or_default hs place h no_handle one.within) in
    let d : Doomed = record { key = c.number-key.result; handle = h } in
    let key : d.key ≡ key_at cells h = c.number-key.ensures ∙ c.key_of.ensures in
    let d_is : d ≡ doomed_of cells g = rw (is, key) refl in
    let ok : is_ok c.push.result ≡ true = c.if-is_err.ensures.negation in
    let items : c.push.new.self.items ≡ c.rows.doomed.items ++ d ∷ [] = c.push.ensures.items ∙ rw ok refl in
    record {
      within = omega (arith, one.within);
      listed = items ∙ ap (λ xs. xs ++ d ∷ []) c.rows.invariant.listed ∙ ap (λ e. map (doomed_of cells) passed ++ e ∷ []) d_is ∙ sym (ap (map (doomed_of cells)) one.inside_next ∙ map-append (doomed_of cells) passed (g ∷ []));
    }

pub returns : goal.returns
returns c =
    let hs = c.args.rows.now.handles in
    let cells = c.args.arena.now.cells in
    c.rows.invariant.listed ∙ sym (ap (map (doomed_of cells)) (found_none cells c.args.range hs c.rows.from c.rows.invariant.within c.in_default.ensures).0)
