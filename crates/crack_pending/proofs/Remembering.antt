-- Laws of what a pending list remembers of its rows.
use Rattle.std.proofs.Common.{◌≡◌, ◌≢◌, ℕ, ◌+◌, ◌<◌, List, [], length, get_or, set, sym, ◌∙◌, refl, inl, inr, arith, length-set}
use Rattle.std.specs.List.{remove}
use Rattle.std.proofs.lemmas.List.{get_or-set_same, get_or-set_other, get_or_default}
use Rattle.std.proofs.lemmas.List.Edits.{get_or-remove_below, get_or-remove_above, length-remove}
use Rattle.std.proofs.lemmas.Bool.{cases_eq, cases_lt}
use Rattle.crack_row.specs.declared.Row.{Row}
use Rattle.crack_arena.specs.Arena.{Cell, Handle, no_handle}
use Rattle.crack_arena.specs.Memories.{Memory, nothing, memory_at, Agrees, Remembers}

pub Remembers-none : (cells : List (Cell Row)) → Remembers cells [] []
Remembers-none cells = record { beside = refl; right = λ k d within. absurd (omega (arith, within)) }

-- one row less
pub Remembers-remove : (cells : List (Cell Row)) (handles : List Handle) (remembered : List Memory) (place : ℕ) → place < length handles → Remembers cells handles remembered → Remembers cells (remove handles place) (remove remembered place)
Remembers-remove cells handles remembered place within r =
    let long = length-remove handles place within in
    let memories = length-remove remembered place (omega (arith, within, r.beside)) in
    record {
      beside = omega (arith, r.beside, long, memories);
      right = λ k d inside. elim (cases_lt k place) [
        | inl l ↦ rw (get_or-remove_below handles place d k l within, get_or-remove_below remembered place nothing k l (omega (arith, within, r.beside))) (r.right k d (omega (arith, l, within)))
        | inr m ↦ rw (get_or-remove_above handles place d k m within, get_or-remove_above remembered place nothing k m (omega (arith, within, r.beside))) (r.right (k + 1) d (omega (arith, inside, long)))
      ];
    }

-- with other cells, in which the row at one place is another, once that row is remembered
pub Remembers-anew : (cells cells' : List (Cell Row)) (handles : List Handle) (remembered : List Memory) (place : ℕ) (m : Memory) → Agrees cells' (get_or handles place no_handle) m → ((k : ℕ) (d : Handle) → k < length handles → k ≢ place → memory_at cells' (get_or handles k d) ≡ memory_at cells (get_or handles k d)) → Remembers cells handles remembered → Remembers cells' handles (set remembered place m)
Remembers-anew cells cells' handles remembered place m is same r = record {
  beside = length-set remembered place m ∙ r.beside;
  right = λ k d within. elim (cases_eq k place) [
    | inl e ↦
        let here : get_or handles place no_handle ≡ get_or handles place d = get_or_default handles place no_handle d (omega (arith, e, within)) in
        let there : Agrees cells' (get_or handles place d) m = rw here at is in
        rw (e, get_or-set_same remembered place m nothing (omega (arith, e, within, r.beside))) there
    | inr ne ↦ rw (get_or-set_other remembered place k m nothing ne) (elim (r.right k d within) [
      | inl e ↦ inl e
      | inr e ↦ inr (e ∙ sym (same k d within ne))
    ])
  ];
}
