use Rattle.std.proofs.Common.{◌≡◌, ◌+◌, ◌<◌, ◌∷◌, [], ℕ, List, length, get_or, take, refl, sym, ap, ◌∙◌, inl, inr, arith}
use Rattle.std.proofs.lemmas.Bool.{cases_eq}
use Rattle.std.proofs.lemmas.List.{take_more, take_all}
use Rattle.crack_arena.specs.Arena.{Handle, no_handle, times, slots}
use Rattle.crack_arena.proofs.Times.{times-nil, times_head, times_other, times_map_at, times-map-append}
use Rattle.crack_pending.proofs.Members.{Has-within}
use Rattle.crack_pending.proofs.removing.strike_all.Goals as goal

pub tags-init : goal.tags-init
tags-init c = record { struck = λ slot. (λ has. (has, times-nil slot), λ both. both.0); long = refl }

pub strike-requires : goal.strike-requires
strike-requires c =
    let hs = c.args.tags.now.handles in
    let within : c.tags.spot < length hs = omega (arith, c.tags-test.true, c.len-spot-end.ensures.value) in
    let is : (get_or hs c.tags.spot no_handle).slot ≡ c.slot.result = ap (λ (h : Handle). h.slot) (sym c.handle.ensures) ∙ sym c.slot.ensures in
    let listed : 0 < times c.slot.result (slots hs) = times_map_at c.slot.result (λ (h : Handle). h.slot) hs c.tags.spot no_handle within is in
    omega (arith, Has-within c.args.members.now c.slot.result (c.requires c.slot.result listed), c.tags.invariant.long)

pub tags-preserved : goal.tags-preserved
tags-preserved c =
    let hs = c.args.tags.now.handles in
    let k = c.tags.spot in
    let x = get_or hs k no_handle in
    let within : k < length hs = omega (arith, c.tags-test.true, c.len-spot-end.ensures.value) in
    let is : x.slot ≡ c.slot.result = ap (λ (h : Handle). h.slot) (sym c.handle.ensures) ∙ sym c.slot.ensures in
    let counted : (n : ℕ) → times n (slots (take (k + 1) hs)) ≡ times n (slots (take k hs)) + times n (x.slot ∷ []) = λ n.
    ap (λ (rows : List Handle). times n (slots rows)) (take_more hs k no_handle within) ∙ times-map-append n (λ (h : Handle). h.slot) (take k hs) (x ∷ []) in
    record {
      struck = λ n. elim (cases_eq n c.slot.result) [
        | inl e ↦ (
          λ has. absurd (c.strike.ensures.gone (rw e at has)),
          λ both.
              let one : times n (x.slot ∷ []) ≡ 1 = rw (is, ← e) (omega (arith, times_head n [], times-nil n)) in
              absurd (omega (arith, both.1, counted n, one)),
        )
        | inr ne ↦
            let none : times n (x.slot ∷ []) ≡ 0 = times_other n x.slot (λ e. ne (sym e ∙ is)) in (
              λ has.
                  let both = (c.tags.invariant.struck n).0 ((c.strike.ensures.others n ne).0 has) in
                  (both.0, omega (arith, both.1, counted n, none)),
              λ both. (c.strike.ensures.others n ne).1 ((c.tags.invariant.struck n).1 (both.0, omega (arith, both.1, counted n, none))),
            )
      ];
      long = c.strike.ensures.long ∙ c.tags.invariant.long;
    }

pub returns-clause-struck : goal.returns-clause-struck
returns-clause-struck c =
    let hs = c.args.tags.now.handles in
    rw (take_all c.tags.spot hs (omega (arith, c.tags-test.false, c.len-spot-end.ensures.value))) at c.tags.invariant.struck
