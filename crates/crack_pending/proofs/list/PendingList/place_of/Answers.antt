use Rattle.std.proofs.Common.{◌≡◌, sym, ap, ◌∙◌, arith}
use Rattle.std.proofs.lemmas.List.{get_or_default}
use Rattle.crack_arena.specs.Arena.{Handle, no_handle}
use Rattle.crack_pending.specs.Keeps.{place_at}
use Rattle.crack_pending.proofs.Kept.{Stands-within}
use Rattle.crack_pending.proofs.Views.{handle-is, other-absent, handle-first, read-at, nowhere-absent}
use Rattle.crack_pending.proofs.list.PendingList.place_of.Goals as goal

pub returns-then-generation : goal.returns-then-generation
returns-then-generation g c =
    let a = c.self.invariant.0 in
    let with = rw (c.deref.ensures.value, c.slot.ensures) at c.in-Some.ensures in
    rw (← c.self.view_is) (other-absent c.self.inside.tags.handles c.self.inside.stands.items a.stands_beside a.apart c.args.handle c.handle.result c.in-Some.spot with (read-at c.self.inside.tags.handles c.self.inside.stands.items a.stands_beside c.in-Some.spot c.handle.result with.stands_there c.handle.ensures) (λ same.
    c.if-generation.true (c.generation.ensures ∙ ap (λ (h : Handle). h.generation) same ∙ sym c.generation-in-Some.ensures)))

pub returns-else-generation : goal.returns-else-generation
returns-else-generation g c =
    let a = c.self.invariant.0 in
    let with = rw (c.deref.ensures.value, c.slot.ensures) at c.in-Some.ensures in
    let within = Stands-within c.self.inside.stands.items c.in-Some.spot with.stands_there in
    let here = c.handle.ensures in
    let slot : c.args.handle.slot ≡ c.handle.result.slot = sym with.of ∙ sym (ap (λ (h : Handle). h.slot) here) in
    let generation : c.args.handle.generation ≡ c.handle.result.generation = sym c.generation-in-Some.ensures ∙ sym c.if-generation.false ∙ c.generation.ensures in
    let same = handle-is c.args.handle c.handle.result slot generation in
    let is = same ∙ c.handle.ensures ∙ get_or_default c.self.inside.tags.handles c.in-Some.spot no_handle c.args.handle (omega (arith, within, a.stands_beside)) in
    let place : c.place_of_spot.result ≡ place_at c.self.inside.stands.items c.in-Some.spot = rw (c.deref-in-Some.ensures.value) at c.place_of_spot.ensures in
    rw (← c.self.view_is, place) (handle-first c.self.inside.tags.handles c.self.inside.stands.items a.stands_beside a.apart c.args.handle c.in-Some.spot with is)

pub returns-in-None : goal.returns-in-None
returns-in-None g c =
    let a = c.self.invariant.0 in
    let nowhere = rw (c.deref.ensures.value, c.slot.ensures) at c.in-None.ensures in
    rw (← c.self.view_is) (nowhere-absent c.self.inside.tags.handles c.self.inside.stands.items a.stands_beside c.args.handle nowhere)
