use Rattle.std.proofs.Common.{◌≡◌, ◌<◌, ◌≤◌, ℕ, List, [], ◌∷◌, ◌++◌, length, arith, ap, refl, sym, ◌∙◌, ⊎_elim, get_or, length-append}
use Rattle.std.proofs.lemmas.List.{get_or_append_left}
use Rattle.std.proofs.lemmas.Bool.{cases_lt}
use Rattle.std.proofs.lemmas.List.Elements.{All-push}
use Rattle.std.proofs.Math.Seq.{get_or-append_seam}
use Rattle.crack_row.specs.Ranges.{Range}
use Rattle.crack_row.specs.declared.Bound.{Bound}
use Rattle.crack_store.specs.Inside.{no_cells}
use Rattle.crack_part.specs.Parts.{Part, IsSound, table_of}
use Rattle.crack_core.specs.Routes.{keys_of_part}
use Rattle.crack_core.specs.Steps.{fresh_table}
use Rattle.crack_core.proofs.opening.open_partitions.Goals as goal

-- one more partition
keys-push : (splits : List Bound) (parts : List Part) (p : Part) → ((k : ℕ) (d : Part) → k < length parts → (get_or parts k d).keys ≡ keys_of_part splits k) → p.keys ≡ keys_of_part splits (length parts) → (k : ℕ) (d : Part) → k < length (parts ++ p ∷ []) → (get_or (parts ++ p ∷ []) k d).keys ≡ keys_of_part splits k
keys-push splits parts p before now k d k_lt = ⊎_elim
    (λ (front : k < length parts). rw (get_or_append_left parts (p ∷ []) d k front) (before k d front))
    (λ (back : length parts ≤ k).
    let last : k ≡ length parts = omega (arith, back, k_lt, length-append parts (p ∷ [])) in
    rw (last, get_or-append_seam parts p [] d) now)
    (cases_lt k (length parts))

-- a partition that has placed no row and accepted no command
fresh : (p : Part) (keys : Range) (column_room in_room : ℕ) → p.next ≡ 0 → p.checkpointed ≡ 0 → p.since ≡ 0 → p.store ≡ no_cells keys column_room in_room → table_of p ≡ fresh_table
fresh p keys column_room in_room next checkpointed since store = rw (next, checkpointed, since, store) refl

pub loop-part-preserved : goal.loop-part-preserved
loop-part-preserved c =
    let p = c.in_ok-partition.partition in
    let parts = c.loop-part.parts.items in
    let before = c.loop-part.invariant in
    let opened = c.in_ok-partition.ensures.ok in
    let new = c.in_ok-partition.ensures.new in
    let empty : p.store ≡ no_cells p.keys p.store.column_room p.store.in_room = rw opened.0 c.in_ok-partition.ensures.empty in
    let keys : p.keys ≡ keys_of_part c.args.splits.now (length parts) = opened.0 ∙ c.keys_of_part.ensures ∙ ap (keys_of_part c.args.splits.now) (sym before.count) in
    rw c.in_ok-push.ensures.items (record {
      count = omega (arith, length-append parts (p ∷ []), before.count);
      keys = keys-push c.args.splits.now parts p before.keys keys;
      alike = All-push (λ (part : Part). part.limits ≡ c.args.limits) parts p before.alike opened.1;
      sound = All-push IsSound parts p before.sound c.recall_invariant.ensures;
      fresh = All-push (λ (part : Part). table_of part ≡ fresh_table) parts p before.fresh (fresh p p.keys p.store.column_room p.store.in_room new.0 new.1 new.2 empty);
      empty = All-push (λ (part : Part). part.store ≡ no_cells part.keys part.store.column_room part.store.in_room) parts p before.empty empty;
    })
