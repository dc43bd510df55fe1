-- `core` lends the core, and the handle follows it.
use mathlib.Core.Path.{◌≡◌, refl, sym, ap, ◌∙◌}
use Prim.Native.Nat.{ℕ}
use mathlib.Core.List.{List, [], ◌∷◌}
use seplogic.Ra.Ura.{Ura}
use Rattle.std.specs.Prelude.{Bool, true}
use base.Fraction.{full_share}
use mir.Syntax.{named}
use mir.Val.{Val, vptr, vbool, vstruct, vcons, vnil}
use base.Logic.{SProp, ent, sep, id⊢, fst∗, never}
use base.Fml.{Lft, GName, Share, Fml, ftrue, flft, fsep}
use prog.Memory.{Memory}
use prog.Routine.{Routine}
use prog.Wp.{Env, Calls, Loops, WpFn, Tables}
use types.Logic.{Logic, sem}
use contract.Monad.{Fun}
use contract.Running.{tables, tables_of}
use sound.WpLaws.{WpFn-mono}
use types.Kit.{‵, ◌⊛◌, some, at_ret, ◌$◌, ◌∵◌, !, qed, by, move, keep, use1, drop, split, join, pick, rewrite, fsplit, fsplit3, fjoin, feq_i, suffices, frame, done, raw, later, await, group, fpack}
use types.Part.{whole, sub, look_in}
use types.Run.{stop, fld, load, of_opd, first, blocks, exec, returns, enter, addr}
use types.ByLocal.{alloc_all, pass_all, free_all, look_at, get, through, sets, env, sets_last}
use denote.RattleType.{RattleType, Valss, owns}
use denote.Memory.{part_at, mem, cell_at, part_of}
use denote.RawPtr.{Ptr, RawPtr, block_ptr, null_ptr, ptr_val, in_a_block}
use denote.Builtin.{bool}
use denote.Laws.{shows}
use denote.Struct.Struct.{within}
use denote.Struct.Owning.{shape}
use denote.Ref.{MutBor, MutRef, mut_vals, mut_Tells}
use denote.Signature.{plain, mut_ref_to}
use denote.Steps.{nothing, opens, peeks}
use denote.Triple.Clauses.{Clauses}
use denote.Triple.Entry.{on_entry}
use denote.Triple.Spec.{triple_of}
use denote.Triple.Table.{entered}
use denote.Triple.Walked.{says, needs, Stays, stay_dropped, walk_of, ends_at, walked, walk_Meets, Goes-spent_ref}
use denote.Exit.{no}
use denote.Follow.{follows, Part, lends_Part}
use mir.Raw.{raw as bare}
use Rattle.std_alloc.proofs.VecSteps.Shapes.{after}
use Rattle.std_alloc.specs.Box.Ownership.{box_owns}
use Rattle.std_alloc.proofs.BoxSteps.Form.{τ}
use Rattle.libc.specs.Heap.{chunk}
use Rattle.crackd_c.proofs.AsBox.{E}
use Rattle.crackd_c.specs.Handles.{handle_owns}
use Rattle.crackd_c.specs.Lends.{with_core}
use Rattle.crack_core.specs.contracts.cores.Core as Core
use Rattle.crackd_c.specs.contracts.handle.TableHandle as TableHandle
use Rattle.crackd_c.proofs.handle.TableHandle.TheLaws.{lowers}
use Rattle.crackd_c.specs.contracts.handle.TableHandle.core as F
use Rattle.crackd_c.specs.contracts.handle.TableHandle.core.Key.{name as #self}
use Rattle.crackd_c.proofs.handle.TableHandle.core.Statement as stated
use Rattle.crackd_c.proofs.handle.TableHandle.core.Code as code

abbrev B : RattleType
B = TableHandle.the_row

abbrev R : RattleType
R = Core.the_row

abbrev stayed : Stays (F.ended).signature.params (F.ended).kept
stayed = (stay_dropped (mut_ref_to (0 ∷ []) tt (plain (λ _. B))) no, tt)

module _ {M : Type 1} {𝓤 : Ura M} (𝓛 : Logic 𝓤) (at_mem : Memory → SProp 𝓤) (run : Routine → Fun 𝓤) (κ : Lft) (q : Share) (rb ro : ℕ) (γ : GName) (h : B.Denot) where
  open 𝓛 use {H, A}

  abbrev spec : Clauses 𝓤 F.ended
  spec = F.clauses 𝓛 at_mem run

  abbrev self : MutBor B.Denot
  self = record { ref_ptr = (rb, ro); ghost_name = γ; now = h }

  abbrev bound : (walk_of 𝓛 F.ended stayed spec).Ghost
  bound = (((κ, tt), (q, tt), tt, (self, tt), (vptr rb ro ∷ [], tt)), tt)

  abbrev Post : Val → SProp 𝓤
  Post = (walk_of 𝓛 F.ended stayed spec).post bound

  module _ (b o : ℕ) where
    abbrev word : Val
    word = vstruct (vcons (vptr b o) (vcons (vbool true) vnil))

    -- all of the handle but its core
    abbrev Rest : Fml
    Rest = fsep (chunk (bare (τ E)) (block_ptr b o)) (cell_at full_share B.mir (word ∷ []) rb ro)

    back : h.at ≡ block_ptr b o → h.is_open ≡ true → (w : R.Denot) → ent 𝓤 (sep 𝓤 (sem 𝓛 ((mem R).own_at w b o)) (sem 𝓛 Rest)) (sem 𝓛 ((mem B).own_at (with_core h w) rb ro))
    unfolding part_of
    back at_b open' w =
        qed 𝓛 (‵ (part_at R full_share w b o) ∷ ‵ Rest ∷ []) ∵ move ! (1 ∷ []) $ fsplit ! $ move ! (2 ∷ 0 ∷ []) $ fjoin ! $
        -- [the core with its token; the cell]
        use1 𝓛 (‵ (handle_owns true (block_ptr b o) w)) (id⊢ 𝓤 _) $
        rewrite ! 0 (λ (y : Bool). ‵ (handle_owns y (block_ptr b o) w)) (sym open') refl $
        rewrite ! 0 (λ (p : Ptr). ‵ (handle_owns h.is_open p w)) (sym at_b) refl $
        nothing ! $ feq_i ! (List Val) (vbool true ∷ []) (vbool h.is_open ∷ []) (ap (λ (y : Bool). vbool y ∷ []) (sym open')) $ fjoin ! $
        feq_i ! (List Val) (vptr b o ∷ []) (ptr_val h.at ∷ []) (ap (λ (p : Ptr). ptr_val p ∷ []) (sym at_b)) $ fjoin ! $
        feq_i ! (List Val) (word ∷ []) (word ∷ []) refl $ fjoin ! $
        fpack ! (Valss (RawPtr ∷ bool ∷ [])) (within (shape TableHandle.the_type) (h.at, (h.is_open, tt)) (word ∷ [])) (vptr b o ∷ [], (vbool true ∷ [], tt)) $ fjoin ! $
        use1 𝓛 (‵ (B.own_val (with_core h w) (word ∷ []))) (id⊢ 𝓤 _) $ move ! (1 ∷ 0 ∷ []) $ fjoin ! $
        fpack ! (List Val) (λ us. fsep (cell_at full_share B.mir us rb ro) (B.own_val (with_core h w) us)) (word ∷ []) $ done !

    exits : (γ' : GName)
        → ent 𝓤 (sep 𝓤 (sem 𝓛 ((MutRef (named 0) κ R).own_val (record { ref_ptr = (b, o); ghost_name = γ'; now = h.core }) (vptr b o ∷ []))) (sep 𝓤 (A.lft κ q) (sem 𝓛 (follows B R γ γ' (with_core h))))) (Post (vptr b o))
    exits γ' =
        qed 𝓛 (‵ ((MutRef (named 0) κ R).own_val (record { ref_ptr = (b, o); ghost_name = γ'; now = h.core }) (vptr b o ∷ [])) ∷ ‵ (flft κ q) ∷ ‵ (follows B R γ γ' (with_core h)) ∷ []) ∵
        suffices ! _ (ends_at 𝓛 F.ended stayed spec bound (vptr b o) (record { ref_ptr = (b, o); ghost_name = γ'; now = h.core }) (tt, tt) (tt, tt)) $
        nothing ! $ nothing ! $ fjoin ! $ join ! $ nothing ! $ move ! (2 ∷ 0 ∷ []) $ join ! $ join ! $ frame ! $ says ! refl $ done !

  module _ (C : Calls 𝓤 H) (Λ : Loops 𝓤 H) where
    walk : h.is_open ≡ true → ent 𝓤 (on_entry 𝓛 F.signature (κ, tt) (q, tt) (self, tt) (vptr rb ro ∷ [], tt)) (WpFn 𝓤 H C Λ code.function (vptr rb ro ∷ []) Post)
    walk open' =
        qed 𝓛 ((‵ (flft κ q) ⊛ ‵ ftrue) ∷ ‵ (owns (MutRef (named 0) κ B ∷ []) (self, tt) (vptr rb ro ∷ [], tt)) ∷ []) ∵
        enter ! C Λ code.function (vptr rb ro ∷ []) _ $
        alloc_all ! (λ l. pass_all ! refl ((tt, tt), tt) $
        let En : Env 𝓤 H = env code.function.locals l in
        move ! (1 ∷ []) $ fsplit ! $ fsplit3 ! $ drop ! $ move ! (3 ∷ []) $ split ! $ move ! (2 ∷ 3 ∷ 0 ∷ []) $
        opens ! tt B {h = h} rb ro (λ us. move ! (1 ∷ []) $ peeks ! B _ (shows 𝓛 B) h us (λ is. fsplit ! $ drop ! $
        rewrite ! 0 (λ (y : Bool). ‵ (handle_owns y h.at h.core)) open' refl $
        in_a_block ! h.at (λ p. box_owns chunk R p h.core) (fst∗ 𝓤 (never 𝓤) (sem 𝓛 (chunk (bare (τ E)) null_ptr))) (λ b o e. fsplit ! $
        let ws : us ≡ word b o ∷ [] = lowers.val_is h us is ∙ (λ j. lowers.lowered (record h { at = e j; is_open = open' j }) ∷ []) in
        -- [the core; its token; the cell; the open borrow; ..]
        rewrite ! 2 (λ (vs : List Val). ‵ (cell_at full_share B.mir vs rb ro)) ws refl $
        first ! $ blocks ! $
        sets ! (of_opd ! (load ! (through ! refl (fld ! refl (stop !))) (look_in ! 2 (sub ! 0 refl (whole !))))) refl (tt, tt) $
        sets ! (of_opd ! (get ! refl)) refl (tt, tt) $
        sets_last ! (addr ! (through ! refl (stop !))) refl (tt, tt) $
        exec ! C Λ En (after 1 code.function.body) (at_ret En Post) $
        sets ! (of_opd ! (get ! refl)) refl (tt, tt) $
        move ! (1 ∷ 2 ∷ []) $ fjoin ! $ move ! (2 ∷ 3 ∷ 4 ∷ 1 ∷ 0 ∷ []) $ group ! 5 $
        use1 𝓛 (later (some (λ (γ' : GName). raw (Part 𝓛 B R (with_core h) (named 0) κ q rb ro b o γ (sem 𝓛 (Rest b o)) (back b o e open') h.core γ'))))
        (lends_Part 𝓛 B R (with_core h) (named 0) κ q rb ro b o γ (sem 𝓛 (Rest b o)) (back b o e open') (B.coded.code h) (B.coded.code h) h.core) $ await ! tt $ pick ! (λ γ'.
        returns ! (look_at ! 0 refl) $ free_all ! refl $
        keep ! (0 ∷ []) $ by ! (exits b o γ'))))))

pub core_spec : {M : Type 1} → stated.statement M
unfolding tables_of
core_spec 𝓤 𝓛 𝓜 𝓡 wired =
    let 𝓣 : Tables 𝓤 𝓛.H = tables_of 𝓤 𝓛.H 𝓜 (tables 𝓤 𝓛.H 𝓜 𝓡 𝓡.env) in
    let run = WpFn 𝓤 𝓛.H 𝓣.C 𝓣.Λ code.function in let c = F.clauses 𝓛 𝓜.mem 𝓡.returns in
    entered 𝓤 𝓛.H (triple_of 𝓛 F.signature (F.spec 𝓛 𝓜.mem 𝓡.returns)) 𝓣.C 𝓣.Λ #self code.function (code.unfolded 𝓤 𝓛.H 𝓜 𝓡 wired)
    (walk_Meets 𝓛 F.ended stayed (Goes-spent_ref 𝓛 1 (0 ∷ []) tt (plain (λ _. B)), tt) c run (WpFn-mono 𝓤 𝓛.H 𝓛.laws 𝓣 code.function)
    (walked 𝓛 F.ended stayed c run (λ κs. (mut_vals, tt)) (λ κs. (mut_Tells (named 0) κs.0 B, tt))
    (λ κs qs bounds a g are. needs 𝓤 (a.0.now.is_open ≡ true) _ (walk 𝓛 𝓜.mem 𝓡.returns κs.0 qs.0 a.0.ref_ptr.0 a.0.ref_ptr.1 a.0.ghost_name a.0.now 𝓣.C 𝓣.Λ))))
