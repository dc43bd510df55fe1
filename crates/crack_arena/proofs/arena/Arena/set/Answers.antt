use Rattle.std.proofs.Common.{◌≡◌, ◌∙◌, is_some, true, sym, ap, refl, subst, List}
use Rattle.crack_arena.specs.Arena.{read, Handle, Cell, Arena, KeepsSpent}
use Rattle.crack_arena.specs.declared.cells.Cell.{Cell as Stored}
use Rattle.crack_arena.specs.Links.{cells_of, words_of}
use Rattle.crack_arena.proofs.Laws.{KeepsSpent-set_at}
use Rattle.crack_arena.proofs.ArenaLemmas.{IsLinked-write, words-set, full_from_read, written_view}
use Rattle.crack_arena.proofs.arena.Arena.set.Goals as goal

pub invariant_of-self : goal.invariant_of-self
invariant_of-self g c =
    let h : Handle = record { slot = c.slot-slot.result; generation = c.generation.result } in
    let reads : is_some (read (cells_of c.self.inside.cells.items) h) ≡ true = rw (← c.self.view_is) at (sym c.if-not-reads.ensures) in
    let full = full_from_read c.self.inside.cells.items h reads in
    let stored = c.self.inside.cells.items in
    let new : Stored g.row.T.Denot = record { word = c.with_number.result; value = c.args.value } in
    let made = c.with_number.ensures in
    let generation : c.with_number.result.generation ≡ h.generation = ap (λ w. w.generation) made ∙ ap (λ w. w.generation) c.handle.view_is ∙ sym c.generation.ensures in
    rw (c.replace-old.ensures.after, words-set stored h.slot new) (IsLinked-write (words_of stored) c.self.inside.head h.slot c.self.inside.free c.self.inside.freed c.with_number.result full.inside full.full (rw made refl) (generation ∙ sym full.generation) c.self.invariant)

pub returns-clause-after : goal.returns-clause-after
returns-clause-after g c =
    let h : Handle = record { slot = c.slot-slot.result; generation = c.generation.result } in
    let reads : is_some (read (cells_of c.self.inside.cells.items) h) ≡ true = rw (← c.self.view_is) at (sym c.if-not-reads.ensures) in
    let full = full_from_read c.self.inside.cells.items h reads in
    let stored = c.self.inside.cells.items in
    let new : Stored g.row.T.Denot = record { word = c.with_number.result; value = c.args.value } in
    let generation : c.handle.inside.word.generation ≡ c.generation.result = ap (λ w. w.generation) c.handle.view_is ∙ sym c.generation.ensures in
    let is : new ≡ record { word = record { slot = 16777215; generation = h.generation }; value = c.args.value } = rw (c.with_number.ensures, generation) refl in
    let after = written_view stored c.self.inside.head h.slot c.self.inside.free c.self.inside.freed _ h.generation new c.args.value full.inside full.full is c.self.invariant in
    rw (← c.self.view_is, c.replace-old.ensures.after, ← c.slot-slot.ensures, ← c.generation.ensures) (sym after)

pub returns-clause-keeps_spent : goal.returns-clause-keeps_spent
returns-clause-keeps_spent g c =
    let reads : is_some (read c.args.self.now.cells c.args.handle) ≡ true = rw (c.slot-slot.ensures, c.generation.ensures) at (sym c.if-not-reads.ensures) in
    let after = returns-clause-after g c in
    subst (λ (cells : List (Cell g.row.T.Denot)). KeepsSpent c.args.self.now.cells cells) (sym (ap (λ (a : Arena g.row.T.Denot). a.cells) after)) (KeepsSpent-set_at c.args.value c.args.handle c.args.self.now reads)
