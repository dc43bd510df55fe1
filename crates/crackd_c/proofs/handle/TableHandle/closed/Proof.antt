-- `closed` puts a null pointer and a flag together, and owns nothing.
use mathlib.Core.Path.{refl}
use mathlib.Core.List.{List, [], ◌∷◌}
use seplogic.Ra.Ura.{Ura}
use lib.Dec.{T}
use mir.Syntax.{ty_ptr}
use Rattle.std.proofs.Common.{arith}
use mir.Val.{Val, WT, has_ty, vnull, vbool, vstruct, vcons, vnil}
use Rattle.std.specs.Prelude.{false}
use base.Logic.{SProp, ent, sep, emp, id⊢}
use base.Fml.{ftrue}
use prog.Memory.{Memory}
use prog.Routine.{Routine}
use prog.Wp.{Calls, Loops, WpFn, Tables}
use types.Logic.{Logic}
use contract.Monad.{Fun}
use contract.Running.{tables, tables_of}
use sound.WpLaws.{WpFn-mono}
use types.Kit.{‵, raw, ◌⊛◌, ◌$◌, ◌∵◌, !, qed, drop, use1, join, fjoin, fpack, feq_i, suffices, done}
use types.Part.{agg}
use types.Run.{no_more, and_then, false_lit, lit, returns, enter}
use types.ByLocal.{alloc_all, pass_all, free_all, look_at, sets}
use denote.RawPtr.{RawPtr, null_ptr}
use denote.Builtin.{bool}
use denote.RattleType.{Valss}
use denote.Struct.Struct.{within}
use denote.Struct.Owning.{shape}
use denote.Steps.{nothing}
use denote.Triple.Entry.{on_entry}
use denote.Triple.Spec.{triple_of}
use denote.Triple.Table.{entered}
use denote.Triple.Walked.{says, Stays, walk_of, ends_at, walked, walk_Meets}
use Rattle.crack_row.specs.declared.limit.Upkeep.TheVariants.{OnRequest}
use Rattle.crack_core.specs.Cores.{CoreState}
use Rattle.crackd_c.specs.contracts.handle.TableHandle as TableHandle
use Rattle.crackd_c.specs.contracts.handle.TableHandle.closed as F
use Rattle.crackd_c.specs.contracts.handle.TableHandle.closed.Key.{name as #self}
use Rattle.crackd_c.proofs.handle.TableHandle.closed.Statement as stated
use Rattle.crackd_c.proofs.handle.TableHandle.closed.Code as code

abbrev stayed : Stays (F.ended).signature.params (F.ended).kept
stayed = tt

-- a null pointer is typed
abbrev typed : T (has_ty ty_ptr vnull) × WT vnull
typed = (tt, record { fits = omega arith })

-- what a handle without a table implies
nobody : CoreState
nobody = record { splits = []; limits = record { history = 0; cells = 0; life = 0; upkeep = OnRequest }; parts = [] }

module _ {M : Type 1} {𝓤 : Ura M} (𝓛 : Logic 𝓤) (at_mem : Memory → SProp 𝓤) (run : Routine → Fun 𝓤) (C : Calls 𝓤 (𝓛.H)) (Λ : Loops 𝓤 (𝓛.H)) where
  open 𝓛 use {H}

  abbrev given : (walk_of 𝓛 F.ended stayed (F.clauses 𝓛 at_mem run)).Ghost
  given = ((tt, tt, tt, tt, tt), tt)

  walk : ent 𝓤 (sep 𝓤 (on_entry 𝓛 F.signature tt tt tt tt) (emp 𝓤)) (WpFn 𝓤 H C Λ code.function [] ((walk_of 𝓛 F.ended stayed (F.clauses 𝓛 at_mem run)).post given))
  walk =
      let made : TableHandle.the_row.Denot = record { at = null_ptr; is_open = false; core = nobody } in
      let out : Val = vstruct (vcons vnull (vcons (vbool false) vnil)) in
      qed 𝓛 ((‵ ftrue ⊛ ‵ ftrue) ∷ raw (emp 𝓤) ∷ []) ∵ drop ! $ drop ! $
      enter ! C Λ code.function [] _ $ alloc_all ! (λ ls. pass_all ! refl tt $
      sets ! (agg ! (and_then ! (lit ! tt) (and_then ! (false_lit !) (no_more !)))) refl (typed.0, (typed.1, (tt, tt))) $ returns ! (look_at ! 0 refl) $ free_all ! refl $
      nothing ! $ nothing ! $ feq_i ! (List Val) (vbool false ∷ []) (vbool false ∷ []) refl $ fjoin ! $
      feq_i ! (List Val) (vnull ∷ []) (vnull ∷ []) refl $ fjoin ! $
      feq_i ! (List Val) (out ∷ []) (out ∷ []) refl $ fjoin ! $
      fpack ! (Valss (RawPtr ∷ bool ∷ [])) (within (shape TableHandle.the_type) (null_ptr, (false, tt)) (out ∷ [])) (vnull ∷ [], (vbool false ∷ [], tt)) $ fjoin ! $
      use1 𝓛 (‵ (TableHandle.the_row.own_val made (out ∷ []))) (id⊢ 𝓤 _) $
      suffices ! _ (ends_at 𝓛 F.ended stayed (F.clauses 𝓛 at_mem run) given out made tt tt) $ says ! refl $
      nothing ! $ join ! $ nothing ! $ join ! $ done !)

pub closed_spec : {M : Type 1} → stated.statement M
unfolding tables_of
closed_spec 𝓤 𝓛 𝓜 𝓡 wired =
    let 𝓣 : Tables 𝓤 𝓛.H = tables_of 𝓤 𝓛.H 𝓜 (tables 𝓤 𝓛.H 𝓜 𝓡 𝓡.env) in
    let run = WpFn 𝓤 𝓛.H 𝓣.C 𝓣.Λ code.function in let c = F.clauses 𝓛 𝓜.mem 𝓡.returns in
    entered 𝓤 𝓛.H (triple_of 𝓛 F.signature (F.spec 𝓛 𝓜.mem 𝓡.returns)) 𝓣.C 𝓣.Λ #self code.function (code.unfolded 𝓤 𝓛.H 𝓜 𝓡 wired)
    (walk_Meets 𝓛 F.ended stayed tt c run (WpFn-mono 𝓤 𝓛.H 𝓛.laws 𝓣 code.function)
    (walked 𝓛 F.ended stayed c run (λ κs. tt) (λ κs. tt) (λ κs qs bounds a g are. walk 𝓛 𝓜.mem 𝓡.returns 𝓣.C 𝓣.Λ)))
