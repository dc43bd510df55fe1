use Rattle.std.proofs.Common.{◌≡◌, is_some, true, sym, ap, subst, List}
use Rattle.crack_arena.specs.Arena.{read, Handle, Cell, Arena, KeepsSpent, IsSpent}
use Rattle.crack_arena.specs.declared.cells.Cell.{Cell as Stored}
use Rattle.crack_arena.specs.Links.{cells_of, words_of}
use Rattle.crack_arena.proofs.Laws.{KeepsSpent-freed_at, IsSpent-freed_at, read_spent_after}
use Rattle.crack_arena.proofs.ArenaLemmas.{IsLinked-free, head_is_other, words-set, full_from_read, freed_view}
use Rattle.crack_arena.proofs.arena.Arena.free.Goals as goal

pub numbers_between-next-requires-clause-head : goal.numbers_between-next-requires-clause-head
numbers_between-next-requires-clause-head g c =
    let h : Handle = record { slot = c.slot-slot.result; generation = c.generation-generation.result } in
    let reads : is_some (read (cells_of c.self.inside.cells.items) h) ≡ true = rw (← c.self.view_is) at (sym c.if-not-reads.ensures) in
    let full = full_from_read c.self.inside.cells.items h reads in
    head_is_other (words_of c.self.inside.cells.items) h.slot c.self.inside.head c.self.inside.free c.self.inside.freed full.inside full.full c.self.invariant

pub invariant_of-self : goal.invariant_of-self
invariant_of-self g c =
    let h : Handle = record { slot = c.slot-slot.result; generation = c.generation-generation.result } in
    let reads : is_some (read (cells_of c.self.inside.cells.items) h) ≡ true = rw (← c.self.view_is) at (sym c.if-not-reads.ensures) in
    let full = full_from_read c.self.inside.cells.items h reads in
    let stored = c.self.inside.cells.items in
    let new : Stored g.row.T.Denot = record { word = c.new.result; value = c.at.result.now.value } in
    rw (c.replace.ensures.after, words-set stored h.slot new, c.new.ensures) (IsLinked-free (words_of stored) c.self.inside.head h.slot c.self.inside.free c.self.inside.freed h.generation c.numbers_between-next.result full.inside full.full full.generation c.numbers_between-next.ensures.few c.numbers_between-next.ensures.next c.self.invariant)

pub returns-clause-after : goal.returns-clause-after
returns-clause-after g c =
    let h : Handle = record { slot = c.slot-slot.result; generation = c.generation-generation.result } in
    let reads : is_some (read (cells_of c.self.inside.cells.items) h) ≡ true = rw (← c.self.view_is) at (sym c.if-not-reads.ensures) in
    let full = full_from_read c.self.inside.cells.items h reads in
    let stored = c.self.inside.cells.items in
    let new : Stored g.row.T.Denot = record { word = c.new.result; value = c.at.result.now.value } in
    let number = ap (λ (w : Handle). w.slot) c.new.ensures in
    let few = rw (← number) at c.numbers_between-next.ensures.few in
    let leads = rw (← number) at c.numbers_between-next.ensures.next in
    let after = freed_view stored c.self.inside.head h.slot c.self.inside.free c.self.inside.freed c.self.inside.cells.room h.generation new full.inside full.full (ap (λ (w : Handle). w.generation) c.new.ensures) few leads c.self.invariant in
    rw (← c.self.view_is, c.replace.ensures.after, ← c.slot-slot.ensures, ← c.generation-generation.ensures) (sym after)

pub returns-clause-keeps_spent : goal.returns-clause-keeps_spent
returns-clause-keeps_spent g c =
    let reads : is_some (read c.args.self.now.cells c.args.handle) ≡ true = rw (c.slot-slot.ensures, c.generation-generation.ensures) at (sym c.if-not-reads.ensures) in
    let after = returns-clause-after g c in
    subst (λ (cells : List (Cell g.row.T.Denot)). KeepsSpent c.args.self.now.cells cells) (sym (ap (λ (a : Arena g.row.T.Denot). a.cells) after)) (KeepsSpent-freed_at c.args.handle c.args.self.now reads)

pub returns-clause-spent : goal.returns-clause-spent
returns-clause-spent g c =
    let reads : is_some (read c.args.self.now.cells c.args.handle) ≡ true = rw (c.slot-slot.ensures, c.generation-generation.ensures) at (sym c.if-not-reads.ensures) in
    let after = returns-clause-after g c in
    subst (λ (cells : List (Cell g.row.T.Denot)). IsSpent cells c.args.handle) (sym (ap (λ (a : Arena g.row.T.Denot). a.cells) after)) (IsSpent-freed_at c.args.handle c.args.self.now reads)

pub returns-clause-ever_after : goal.returns-clause-ever_after
returns-clause-ever_after g c = read_spent_after _ c.args.handle (returns-clause-spent g c)
