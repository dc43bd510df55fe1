use Rattle.std.proofs.Common.{◌≡◌, ◌<◌, ◌+◌, ◌%◌, sym, ap, ◌∙◌, arith, refl, subst, List}
use Rattle.crack_arena.specs.Arena.{Cell, Arena, KeepsSpent}
use Rattle.crack_arena.specs.declared.cells.Cell.{Cell as Stored}
use Rattle.crack_arena.specs.Links.{words_of, next_after}
use Rattle.crack_arena.proofs.Laws.{KeepsSpent-value_put}
use Rattle.crack_arena.proofs.ArenaLemmas.{IsLinked-fill, head_within, word_read, words-set, handle_for_head, vacant_head, put_filled}
use Rattle.crack_arena.proofs.arena.Arena.put_reserved.Goals as goal

pub at-requires : goal.at-requires
at-requires g c =
    let stored = c.self.inside.cells.items in
    let k = c.self.inside.head in
    let free = c.self.inside.free in
    let freed = c.self.inside.freed in
    let some : 0 < free = let none = c.if-self-eq0.false in omega (arith, none) in
    let within = head_within stored k free freed some c.self.invariant in
    within.0

pub replace-requires : goal.replace-requires
replace-requires g c =
    let stored = c.self.inside.cells.items in
    let k = c.self.inside.head in
    let free = c.self.inside.free in
    let freed = c.self.inside.freed in
    let some : 0 < free = let none = c.if-self-eq0.false in omega (arith, none) in
    let within = head_within stored k free freed some c.self.invariant in
    within.0

pub overflow_add-self : goal.overflow_add-self
overflow_add-self g c =
    let stored = c.self.inside.cells.items in
    let k = c.self.inside.head in
    let free = c.self.inside.free in
    let freed = c.self.inside.freed in
    let some : 0 < free = let none = c.if-self-eq0.false in omega (arith, none) in
    let within = head_within stored k free freed some c.self.invariant in
    grind (arith, within.1)

pub overflow_add-self-2 : goal.overflow_add-self-2
overflow_add-self-2 g c =
    let stored = c.self.inside.cells.items in
    let k = c.self.inside.head in
    let free = c.self.inside.free in
    let freed = c.self.inside.freed in
    let some : 0 < free = let none = c.if-self-eq0.false in omega (arith, none) in
    let within = head_within stored k free freed some c.self.invariant in
    grind (arith, within.1, c.number.ensures.few)

pub with_number-requires-3 : goal.with_number-requires-3
with_number-requires-3 g c =
    let stored = c.self.inside.cells.items in
    let k = c.self.inside.head in
    let free = c.self.inside.free in
    let freed = c.self.inside.freed in
    let some : 0 < free = let none = c.if-self-eq0.false in omega (arith, none) in
    let within = head_within stored k free freed some c.self.invariant in
    within.1

pub invariant_of-self-2 : goal.invariant_of-self-2
invariant_of-self-2 g c =
    let stored = c.self.inside.cells.items in
    let k = c.self.inside.head in
    let free = c.self.inside.free in
    let freed = c.self.inside.freed in
    let some : 0 < free = let none = c.if-self-eq0.false in omega (arith, none) in
    let within = head_within stored k free freed some c.self.invariant in
    let word = word_read stored k c.at.result.now within.0 c.at.ensures in
    let next : (k + 1 + c.number.result) % 16777216 ≡ next_after (words_of stored) k = ap (λ n. (k + 1 + n) % 16777216) (c.number.ensures.value ∙ ap (λ w. w.slot) (sym word)) in
    let full = c.with_number-2.ensures in
    rw (c.replace.ensures.after, words-set stored k (record { word = c.with_number-2.result; value = c.args.value }), next) (IsLinked-fill (words_of stored) k free freed c.with_number-2.result some (rw full refl) (ap (λ w. w.generation) full ∙ ap (λ w. w.generation) (sym word)) c.self.invariant)

pub returns-clause-handle : goal.returns-clause-handle
returns-clause-handle g c =
    let stored = c.self.inside.cells.items in
    let k = c.self.inside.head in
    let free = c.self.inside.free in
    let freed = c.self.inside.freed in
    let some : 0 < free = let none = c.if-self-eq0.false in omega (arith, none) in
    let within = head_within stored k free freed some c.self.invariant in
    let made = handle_for_head stored k free freed c.at.result.now some c.self.invariant c.at.ensures in
    rw (← c.self.view_is) (c.of-2.ensures ∙ c.with_number-3.ensures ∙ sym made)

pub returns-clause-vacant : goal.returns-clause-vacant
returns-clause-vacant g c =
    let stored = c.self.inside.cells.items in
    let k = c.self.inside.head in
    let free = c.self.inside.free in
    let freed = c.self.inside.freed in
    let some : 0 < free = let none = c.if-self-eq0.false in omega (arith, none) in
    let within = head_within stored k free freed some c.self.invariant in
    let at : c.of-2.result.slot ≡ k = ap (λ w. w.slot) (c.of-2.ensures ∙ c.with_number-3.ensures) in
    rw (← c.self.view_is, at) (vacant_head stored k free freed c.at.result.now some c.self.invariant c.at.ensures)

pub returns-clause-after : goal.returns-clause-after
returns-clause-after g c =
    let stored = c.self.inside.cells.items in
    let k = c.self.inside.head in
    let free = c.self.inside.free in
    let freed = c.self.inside.freed in
    let some : 0 < free = let none = c.if-self-eq0.false in omega (arith, none) in
    let within = head_within stored k free freed some c.self.invariant in
    let full : Stored g.row.T.Denot = record { word = c.with_number-2.result; value = c.args.value } in
    let is : full ≡ record { word = record { slot = 16777215; generation = c.at.result.now.word.generation }; value = c.args.value } = rw c.with_number-2.ensures refl in
    let filled = put_filled stored k free freed c.self.inside.cells.room c.at.result.now full c.args.value some c.self.invariant c.at.ensures is in
    rw (← c.self.view_is, c.replace.ensures.after, c.number.ensures.value) (sym filled)

pub returns-clause-keeps_spent : goal.returns-clause-keeps_spent
returns-clause-keeps_spent g c =
    let after = returns-clause-after g c in
    subst (λ (cells : List (Cell g.row.T.Denot)). KeepsSpent c.args.self.now.cells cells) (sym (ap (λ (a : Arena g.row.T.Denot). a.cells) after)) (KeepsSpent-value_put c.args.value c.args.self.now)
