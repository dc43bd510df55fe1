use Rattle.std.proofs.Common.{◌≡◌, ◌-◌, ◌+◌, ◌++◌, List, get_or, length, map, take, drop, ap, subst, ◌∙◌, arith}
use Rattle.std.proofs.lemmas.List.{length-map, get_or_default, take_all}
use Rattle.std.proofs.lemmas.List.Edits.{paste_all}
use Rattle.crack_arena.specs.Memories.{Memory}
use Rattle.crack_store.specs.declared.opening.Arrival.{Arrival}
use Rattle.crack_store.specs.Openings.{arrival_handle, arrival_memory, KeepsPut}
use Rattle.crack_store.proofs.OpeningLemmas.{put_one}
use Rattle.crack_store.proofs.opening.put_arrivals.Goals as goal

pub rows-preserved : goal.rows-preserved
rows-preserved c =
    let xs = c.args.arrivals.now in
    let i = c.rows.i in
    let d = c.index-arrivals-i.result in
    let e = c.index-arrivals-i-in-rows.result in
    let f = c.index-arrivals-i-in-rows-2.result in
    let swap = c.swap_in_remembered.ensures in
    let handle = ap arrival_handle (get_or_default xs i f d c.rows-test.true) in
    let memory : c.new.result ≡ arrival_memory (get_or xs i d) = c.new.ensures ∙ ap (λ (a : Arrival). let m : Memory = record { key = (get_or xs i d).key; payload = a.payload } in m) (get_or_default xs i e d c.rows-test.true) in
    let both = put_one xs i d c.args.column.now c.rows.column c.swap_in_remembered.new.self (c.args.to - length xs) _ _ _ c.rows-test.true handle memory (omega arith) (omega arith) swap.after swap.remembered c.rows.invariant.handles c.rows.invariant.keeps in
    record { handles = both.0; keeps = both.1 }

pub returns-clause-handles : goal.returns-clause-handles
returns-clause-handles c =
    let xs = c.args.arrivals.now in
    let hs = c.args.column.now.handles in
    let at_end : (c.args.to - length xs) + c.rows.i ≡ c.args.to = omega arith in
    c.rows.invariant.handles ∙ paste_all hs (c.args.to - length xs) (map arrival_handle xs) c.rows.i (omega (arith, length-map xs arrival_handle)) ∙ ap (λ n. take (c.args.to - length xs) hs ++ (map arrival_handle xs ++ drop n hs)) at_end

pub returns-clause-keeps : goal.returns-clause-keeps
returns-clause-keeps c = subst (λ (xs : List Arrival). KeepsPut xs c.args.column.now c.rows.column) (take_all c.rows.i c.args.arrivals.now c.rows-test.false) c.rows.invariant.keeps
