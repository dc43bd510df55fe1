-- `into_parts` moves the pointer, and what it owns goes with it.
use mathlib.Core.Path.{◌≡◌, refl, sym, subst, ◌∙◌}
use mathlib.Core.List.{List, [], ◌∷◌, ◌++◌}
use seplogic.Ra.Ura.{Ura}
use mir.Val.{Val, vptr, vbool, vstruct, vcons, vnil}
use Rattle.std.specs.Prelude.{Bool, true}
use base.Logic.{SProp, ent, id⊢, fst∗, never}
use base.Fml.{ftrue, fsep}
use prog.Memory.{Memory}
use prog.Routine.{Routine}
use prog.Wp.{WpFn, Tables}
use types.Logic.{Logic, sem}
use contract.Monad.{Fun, fact}
use contract.Running.{tables, tables_of}
use sound.WpLaws.{WpFn-mono}
use types.Kit.{‵, raw, ◌⊛◌, ◌$◌, ◌∵◌, !, qed, move, keep, drop, use1, join, split, rewrite, fsplit, fsplit3, fjoin, suffices, done}
use types.Part.{whole, sub, agg}
use types.Run.{stop, fld, no_more, and_then, of_opd, returns, enter}
use types.ByLocal.{alloc_all, pass_all, free_all, look_at, get, get_in, sets}
use denote.Exit.{yes}
use denote.RawPtr.{block_ptr, null_ptr, in_a_block}
use denote.Laws.{shows}
use denote.Signature.{type_at}
use denote.Steps.{nothing, heard, peeks}
use denote.Triple.Spec.{triple_of}
use denote.Triple.Table.{entered}
use denote.Triple.Walked.{says, Stays, stay_dropped, walk_of, ends_at, Goes-dropped, walk_Meets}
use mir.Raw.{raw as bare}
use Rattle.core.proofs.alloc.Calls.{handle_tells}
use Rattle.std_alloc.specs.Box.Ownership.{box_owns}
use Rattle.std_alloc.proofs.BoxSteps.Form.{D, R, P, τ, word, box_typed}
use Rattle.std_alloc.proofs.BoxSteps.Steps.{box_in}
use Rattle.libc.specs.Heap.{chunk}
use Rattle.crackd_c.proofs.AsBox.{E, FromHandle as From, FromGlobal}
use Rattle.crackd_c.specs.Handles.{handle_owns}
use Rattle.crackd_c.specs.contracts.handle.TableHandle as TableHandle
use Rattle.crackd_c.proofs.handle.TableHandle.TheLaws.{lowers}
use Rattle.crackd_c.specs.contracts.handle.TableHandle.into_parts as F
use Rattle.crackd_c.specs.contracts.handle.TableHandle.into_parts.Key.{name as #self}
use Rattle.crackd_c.proofs.handle.TableHandle.into_parts.Statement as stated
use Rattle.crackd_c.proofs.handle.TableHandle.into_parts.Code as code

abbrev stayed : Stays (F.ended).signature.params (F.ended).kept
stayed = (stay_dropped From yes, (stay_dropped FromGlobal yes, tt))

module _ {M : Type 1} {𝓤 : Ura M} (𝓛 : Logic 𝓤) (at_mem : Memory → SProp 𝓤) (run : Routine → Fun 𝓤) (𝓣 : Tables 𝓤 𝓛.H) where
  open 𝓛 use {H}

  walk : (z : (walk_of 𝓛 F.ended stayed (F.clauses 𝓛 at_mem run)).Ghost)
      → ent 𝓤 ((walk_of 𝓛 F.ended stayed (F.clauses 𝓛 at_mem run)).pre z) (WpFn 𝓤 H 𝓣.C 𝓣.Λ code.function (z.0.4.0 ++ (z.0.4.1.0 ++ [])) ((walk_of 𝓛 F.ended stayed (F.clauses 𝓛 at_mem run)).post z))
  walk z =
      let Post = (walk_of 𝓛 F.ended stayed (F.clauses 𝓛 at_mem run)).post z in
      let Run : List Val → SProp 𝓤 = λ us. WpFn 𝓤 H 𝓣.C 𝓣.Λ code.function us Post in
      let h = z.0.3.0 in let a = z.0.3.1.0 in let x = h.core in
      let To = type_at (F.signature).result tt in
      qed 𝓛 ((‵ ftrue ⊛ ‵ (fsep (TableHandle.the_row.own_val h z.0.4.0) (fsep ((P E).own_val a z.0.4.1.0) ftrue))) ∷ raw (fact 𝓤 (h.is_open ≡ true)) ∷ []) ∵ move ! (1 ∷ []) $ heard ! (h.is_open ≡ true) (λ open'.
      split ! $ drop ! $ fsplit3 ! $
      peeks ! TableHandle.the_row _ (shows 𝓛 TableHandle.the_row) h z.0.4.0 (λ is. fsplit ! $ drop ! $
      rewrite ! 0 (λ (y : Bool). ‵ (handle_owns y h.at x)) open' refl $
      in_a_block ! h.at (λ p. box_owns chunk (R E) p x) (fst∗ 𝓤 (never 𝓤) (sem 𝓛 (chunk (bare (τ E)) null_ptr))) (λ b o e.
      move ! (1 ∷ []) $ handle_tells E.al ! a z.0.4.1.0 (λ hv eh fa.
      let w : Val = vstruct (vcons (vptr b o) (vcons (vbool true) vnil)) in
      let out : Val = word E hv b o in
      let d : D E = record { ptr = block_ptr b o; alloc = a; value = x } in
      let made : To.Denot = record { ptr = d.ptr; alloc = d.alloc; value = d.value } in
      let ws : z.0.4.0 ≡ w ∷ [] = lowers.val_is h z.0.4.0 is ∙ (λ j. lowers.lowered (record h { at = e j; is_open = open' j }) ∷ []) in
      suffices ! (Run (w ∷ hv ∷ [])) (subst (λ (us : List Val). ent 𝓤 (Run (w ∷ hv ∷ [])) (Run us)) (sym (λ j. ws j ++ (eh j ++ []))) (id⊢ 𝓤 (Run (w ∷ hv ∷ [])))) $
      move ! (1 ∷ []) $ fsplit ! $ keep ! (0 ∷ 1 ∷ 2 ∷ []) $ box_in E ! d b o x refl refl $ use1 𝓛 (‵ (To.own_val made (out ∷ []))) (id⊢ 𝓤 _) $
      enter ! 𝓣.C 𝓣.Λ code.function (w ∷ hv ∷ []) _ $ alloc_all ! (λ ls. pass_all ! refl ((tt, (tt, (tt, tt))), (fa, tt)) $
      sets ! (of_opd ! (get_in ! (fld ! refl (stop !)) (sub ! 0 refl (whole !)))) refl (tt, tt) $
      sets ! (of_opd ! (get ! refl)) refl (tt, tt) $
      sets ! (agg ! (and_then ! (get ! refl) (and_then ! (get ! refl) (no_more !)))) refl (box_typed E hv b o fa) $ returns ! (look_at ! 0 refl) $ free_all ! refl $
      suffices ! _ (ends_at 𝓛 F.ended stayed (F.clauses 𝓛 at_mem run) z out made (tt, (tt, tt)) (tt, (tt, tt))) $ says ! refl $
      nothing ! $ nothing ! $ fjoin ! $ nothing ! $ fjoin ! $ join ! $ nothing ! $ join ! $ done !)))))

pub into_parts_spec : {M : Type 1} → stated.statement M
unfolding tables_of
into_parts_spec 𝓤 𝓛 𝓜 𝓡 wired =
    let 𝓣 : Tables 𝓤 𝓛.H = tables_of 𝓤 𝓛.H 𝓜 (tables 𝓤 𝓛.H 𝓜 𝓡 𝓡.env) in
    entered 𝓤 𝓛.H (triple_of 𝓛 F.signature (F.spec 𝓛 𝓜.mem 𝓡.returns)) 𝓣.C 𝓣.Λ #self code.function (code.unfolded 𝓤 𝓛.H 𝓜 𝓡 wired)
    (walk_Meets 𝓛 F.ended stayed (Goes-dropped 𝓛 0 From yes (λ κs x f. refl), (Goes-dropped 𝓛 0 FromGlobal yes (λ κs x f. refl), tt)) (F.clauses 𝓛 𝓜.mem 𝓡.returns) (WpFn 𝓤 𝓛.H 𝓣.C 𝓣.Λ code.function) (WpFn-mono 𝓤 𝓛.H 𝓛.laws 𝓣 code.function)
    (walk 𝓛 𝓜.mem 𝓡.returns 𝓣))
