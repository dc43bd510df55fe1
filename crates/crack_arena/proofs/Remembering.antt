-- Laws of what is remembered of the rows of handles.
use Rattle.std.proofs.Common.{ℕ, ◌≤◌, List, [], ◌∷◌, ◌++◌, length, set, take, sym, ◌∙◌, inl, inr, arith, length-append, length-set}
use Rattle.std.proofs.lemmas.List.{get_or_append_left, get_or_push, get_or-set_same, get_or-set_other, get_or-take, length-take-le}
use Rattle.std.proofs.lemmas.Bool.{cases_eq}
use Rattle.crack_arena.specs.Arena.{Cell, Handle}
use Rattle.crack_row.specs.declared.Row.{Row}
use Rattle.crack_arena.specs.Memories.{Memory, nothing, Agrees, Remembers}

-- after an append
pub Remembers-append : (cells : List (Cell Row)) (handles : List Handle) (remembered : List Memory) (h : Handle) (m : Memory) → Agrees cells h m → Remembers cells handles remembered → Remembers cells (handles ++ h ∷ []) (remembered ++ m ∷ [])
Remembers-append cells handles remembered h m agrees r =
    let long = length-append handles (h ∷ []) in
    record {
      beside = omega (arith, r.beside, long, length-append remembered (m ∷ []));
      right = λ k d within. elim (cases_eq k (length handles)) [
        | inl e ↦ rw (get_or_push handles h d k (sym e), get_or_push remembered m nothing k (r.beside ∙ sym e)) agrees
        | inr ne ↦ rw (get_or_append_left handles (h ∷ []) d k (omega (arith, long)), get_or_append_left remembered (m ∷ []) nothing k (omega (arith, long, r.beside))) (r.right k d (omega (arith, long)))
      ];
    }

-- after another handle was put at a place
pub Remembers-set : (cells : List (Cell Row)) (handles : List Handle) (remembered : List Memory) (place : ℕ) (h : Handle) (m : Memory) → Agrees cells h m → Remembers cells handles remembered → Remembers cells (set handles place h) (set remembered place m)
Remembers-set cells handles remembered place h m agrees r =
    let long = length-set handles place h in
    record {
      beside = omega (arith, r.beside, long, length-set remembered place m);
      right = λ k d within. elim (cases_eq k place) [
        | inl e ↦ rw (e, get_or-set_same handles place h d (omega (arith, long)), get_or-set_same remembered place m nothing (omega (arith, long, r.beside))) agrees
        | inr ne ↦ rw (get_or-set_other handles place k h d ne, get_or-set_other remembered place k m nothing ne) (r.right k d (omega (arith, long)))
      ];
    }

-- of the first handles alone
pub Remembers-take : (cells : List (Cell Row)) (handles : List Handle) (remembered : List Memory) (n : ℕ) → n ≤ length handles → Remembers cells handles remembered → Remembers cells (take n handles) (take n remembered)
Remembers-take cells handles remembered n within r =
    let long = length-take-le n handles within in
    record {
      beside = omega (arith, long, length-take-le n remembered (omega (arith, r.beside)));
      right = λ k d inside. rw (get_or-take n handles k d (omega (arith, long)), get_or-take n remembered k nothing (omega (arith, long))) (r.right k d (omega (arith, long)));
    }
