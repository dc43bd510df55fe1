use Rattle.std.proofs.Common.{◌≡◌, ◌+◌, ◌-◌, ◌<◌, ◌∷◌, [], ℕ, List, length, get_or, take, drop, refl, sym, ap, ◌∙◌, inl, inr, arith}
use Rattle.std.proofs.lemmas.Bool.{cases_eq}
use Rattle.std.proofs.lemmas.List.{get_or_default, get_or-drop, length-drop, take_more}
use Rattle.crack_arena.specs.Arena.{Handle, no_handle, times, slots}
use Rattle.crack_arena.proofs.Times.{times-nil, times_head, times_other, times_map_at, times-map-append}
use Rattle.crack_pending.proofs.Members.{Has-within}
use Rattle.crack_pending.proofs.removing.strike_from.Goals as goal
use Rattle.crack_pending.proofs.removing.strike_from.Goals.{After-slot}

pub handles-init : goal.handles-init
handles-init c =
    let none : c.args.from - c.args.from ≡ 0 = omega arith in
    record {
      struck = λ slot. (λ has. (has, rw none (times-nil slot)), λ both. both.0);
      long = refl;
    }

-- the handle at the place is the next of those from the first place on
record IsNext (c : After-slot) : Type 0 where
  within : c.handles.place - c.args.from < length (drop c.args.from c.args.handles.now)
  is : (get_or (drop c.args.from c.args.handles.now) (c.handles.place - c.args.from) no_handle).slot ≡ c.slot.result

is_next : (c : After-slot) → IsNext c
is_next c =
    let hs = c.args.handles.now in
    let k = c.handles.place - c.args.from in
    let place : c.args.from + k ≡ c.handles.place = omega (arith, c.handles.auto.place) in
    let read : get_or (drop c.args.from hs) k no_handle ≡ get_or hs c.handles.place no_handle = get_or-drop c.args.from hs k no_handle ∙ ap (λ n. get_or hs n no_handle) place in
    let same : get_or hs c.handles.place no_handle ≡ c.index-handles-place.result = get_or_default hs c.handles.place no_handle c.index-handles-place.result (omega (arith, c.handles-test.true)) ∙ sym c.index-handles-place.is in
    record {
      within = omega (arith, c.handles.auto.place, c.handles-test.true, length-drop c.args.from hs);
      is = ap (λ (h : Handle). h.slot) (read ∙ same) ∙ sym c.slot.ensures;
    }

pub strike-requires : goal.strike-requires
strike-requires c =
    let next = is_next (goal.at.strike-requires c).After-slot in
    let behind = drop c.args.from c.args.handles.now in
    let listed : 0 < times c.slot.result (slots behind) = times_map_at c.slot.result (λ (h : Handle). h.slot) behind (c.handles.place - c.args.from) no_handle next.within next.is in
    omega (arith, Has-within c.args.members.now c.slot.result (c.requires c.slot.result listed), c.handles.invariant.long)

pub handles-preserved : goal.handles-preserved
handles-preserved c =
    let next = is_next (goal.at.handles-preserved c).After-slot in
    let behind = drop c.args.from c.args.handles.now in
    let k = c.handles.place - c.args.from in
    let x = get_or behind k no_handle in
    let more : c.handles.place + 1 - c.args.from ≡ k + 1 = omega (arith, c.handles.auto.place) in
    let counted : (n : ℕ) → times n (slots (take (k + 1) behind)) ≡ times n (slots (take k behind)) + times n (x.slot ∷ []) = λ n.
    ap (λ (hs : List Handle). times n (slots hs)) (take_more behind k no_handle next.within) ∙ times-map-append n (λ (h : Handle). h.slot) (take k behind) (x ∷ []) in
    record {
      struck = λ n. rw more (elim (cases_eq n c.slot.result) [
        | inl e ↦ (
          λ has. absurd (c.strike.ensures.gone (rw e at has)),
          λ both.
              let one : times n (x.slot ∷ []) ≡ 1 = rw (next.is, ← e) (omega (arith, times_head n [], times-nil n)) in
              absurd (omega (arith, both.1, counted n, one)),
        )
        | inr ne ↦
            let none : times n (x.slot ∷ []) ≡ 0 = times_other n x.slot (λ e. ne (sym e ∙ next.is)) in (
              λ has.
                  let both = (c.handles.invariant.struck n).0 ((c.strike.ensures.others n ne).0 has) in
                  (both.0, omega (arith, both.1, counted n, none)),
              λ both. (c.strike.ensures.others n ne).1 ((c.handles.invariant.struck n).1 (both.0, omega (arith, both.1, counted n, none))),
            )
      ]);
      long = c.strike.ensures.long ∙ c.handles.invariant.long;
    }
