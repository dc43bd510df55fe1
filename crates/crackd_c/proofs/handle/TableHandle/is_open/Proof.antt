-- `is_open` reads the flag through a `&mut`, and leaves the handle as it was.
use mathlib.Core.Path.{refl, sym}
use Prim.Native.Nat.{ℕ}
use mathlib.Core.List.{List, [], ◌∷◌}
use seplogic.Ra.Ura.{Ura}
use base.Fraction.{full_share}
use mir.Syntax.{named}
use mir.Val.{Val, vptr, vbool}
use base.Logic.{SProp, ent, sep, emp}
use base.Fml.{Lft, GName, Share, ftrue, flft}
use prog.Memory.{Memory}
use prog.Routine.{Routine}
use prog.Wp.{Calls, Loops, WpFn, Tables}
use types.Logic.{Logic}
use contract.Monad.{Fun}
use contract.Running.{tables, tables_of}
use sound.WpLaws.{WpFn-mono}
use types.Kit.{‵, raw, ◌⊛◌, ◌$◌, ◌∵◌, !, qed, move, keep, split, join, rewrite, fsplit, fsplit3, feq_i, suffices, frame, group, done}
use types.Part.{whole, sub, look_in}
use types.Run.{stop, fld, load, of_opd, returns, enter}
use types.ByLocal.{alloc_all, pass_all, free_all, look_at, through, sets}
use denote.RattleType.{RattleType, owns}
use denote.Memory.{cell_at}
use denote.Laws.{shows}
use denote.Ref.{MutBor, MutRef, mut_vals, mut_Tells}
use denote.Signature.{plain}
use denote.Steps.{nothing, opens, closes, peeks}
use denote.Triple.Clauses.{Clauses}
use denote.Triple.Entry.{on_entry}
use denote.Triple.Spec.{triple_of}
use denote.Triple.Table.{entered}
use denote.Triple.Walked.{says, Stays, stay_ref, walk_of, ends_at, walked, walk_Meets, Goes-ref}
use Rattle.crackd_c.specs.contracts.handle.TableHandle as TableHandle
use Rattle.crackd_c.proofs.handle.TableHandle.TheLaws.{lowers}
use Rattle.crackd_c.specs.contracts.handle.TableHandle.is_open as F
use Rattle.crackd_c.specs.contracts.handle.TableHandle.is_open.Key.{name as #self}
use Rattle.crackd_c.proofs.handle.TableHandle.is_open.Statement as stated
use Rattle.crackd_c.proofs.handle.TableHandle.is_open.Code as code

abbrev B : RattleType
B = TableHandle.the_row

abbrev stayed : Stays (F.ended).signature.params (F.ended).kept
stayed = (stay_ref (0 ∷ []) tt (plain (λ _. B)), tt)

module _ {M : Type 1} {𝓤 : Ura M} (𝓛 : Logic 𝓤) (at_mem : Memory → SProp 𝓤) (run : Routine → Fun 𝓤) (κ : Lft) (q : Share) (rb ro : ℕ) (γ : GName) (h : B.Denot) where
  open 𝓛 use {H}

  abbrev spec : Clauses 𝓤 F.ended
  spec = F.clauses 𝓛 at_mem run

  abbrev self : MutBor B.Denot
  self = record { ref_ptr = (rb, ro); ghost_name = γ; now = h }

  abbrev bound : (walk_of 𝓛 F.ended stayed spec).Ghost
  bound = (((κ, tt), (q, tt), tt, (self, tt), (vptr rb ro ∷ [], tt)), tt)

  abbrev Post : Val → SProp 𝓤
  Post = (walk_of 𝓛 F.ended stayed spec).post bound

  module _ (C : Calls 𝓤 H) (Λ : Loops 𝓤 H) where
    walk : ent 𝓤 (sep 𝓤 (on_entry 𝓛 F.signature (κ, tt) (q, tt) (self, tt) (vptr rb ro ∷ [], tt)) (emp 𝓤)) (WpFn 𝓤 H C Λ code.function (vptr rb ro ∷ []) Post)
    walk =
        qed 𝓛 (((‵ (flft κ q) ⊛ ‵ ftrue) ⊛ ‵ (owns (MutRef (named 0) κ B ∷ []) (self, tt) (vptr rb ro ∷ [], tt))) ∷ raw (emp 𝓤) ∷ []) ∵
        split ! $ split ! $ keep ! (2 ∷ 0 ∷ []) $ fsplit ! $ keep ! (0 ∷ 2 ∷ []) $
        enter ! C Λ code.function (vptr rb ro ∷ []) _ $ alloc_all ! (λ l. pass_all ! refl ((tt, tt), tt) $
        fsplit3 ! $ move ! (1 ∷ 2 ∷ 3 ∷ []) $ opens ! tt B {h = h} rb ro (λ us. move ! (1 ∷ []) $ peeks ! B _ (shows 𝓛 B) h us (λ is.
        let word = lowers.val_is h us is in
        let Cell = λ (ws : List Val). ‵ (cell_at full_share B.mir ws rb ro) in
        -- [the handle; its cell; the open borrow; ..]
        rewrite ! 1 Cell word refl $
        sets ! (of_opd ! (load ! (through ! refl (fld ! refl (stop !))) (look_in ! 1 (sub ! 1 refl (whole !))))) refl (tt, tt) $
        rewrite ! 1 Cell (sym word) refl $ move ! (1 ∷ []) $ closes ! tt B h us rb ro $
        returns ! (look_at ! 0 refl) $ free_all ! refl $ move ! (3 ∷ []) $
        suffices ! _ (ends_at 𝓛 F.ended stayed spec bound (vbool h.is_open) h.is_open (h, tt) (tt, tt)) $ says ! (refl, refl) $
        group ! 3 $ nothing ! $ move ! (1 ∷ 0 ∷ []) $ join ! $ nothing ! $ move ! (2 ∷ 0 ∷ []) $ join ! $ frame ! $ frame ! $
        feq_i ! (List Val) (vbool h.is_open ∷ []) _ refl $ done !)))

pub is_open_spec : {M : Type 1} → stated.statement M
unfolding tables_of
is_open_spec 𝓤 𝓛 𝓜 𝓡 wired =
    let 𝓣 : Tables 𝓤 𝓛.H = tables_of 𝓤 𝓛.H 𝓜 (tables 𝓤 𝓛.H 𝓜 𝓡 𝓡.env) in
    let run = WpFn 𝓤 𝓛.H 𝓣.C 𝓣.Λ code.function in let c = F.clauses 𝓛 𝓜.mem 𝓡.returns in
    entered 𝓤 𝓛.H (triple_of 𝓛 F.signature (F.spec 𝓛 𝓜.mem 𝓡.returns)) 𝓣.C 𝓣.Λ #self code.function (code.unfolded 𝓤 𝓛.H 𝓜 𝓡 wired)
    (walk_Meets 𝓛 F.ended stayed (Goes-ref 𝓛 1 0 tt (plain (λ _. B)), tt) c run (WpFn-mono 𝓤 𝓛.H 𝓛.laws 𝓣 code.function)
    (walked 𝓛 F.ended stayed c run (λ κs. (mut_vals, tt)) (λ κs. (mut_Tells (named 0) κs.0 B, tt))
    (λ κs qs bounds a g are. walk 𝓛 𝓜.mem 𝓡.returns κs.0 qs.0 a.0.ref_ptr.0 a.0.ref_ptr.1 a.0.ghost_name a.0.now 𝓣.C 𝓣.Λ)))
