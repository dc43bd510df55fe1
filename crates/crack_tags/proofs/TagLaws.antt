-- Laws of labels and payloads that are seen as handles and memories.
use Rattle.std.proofs.Common.{◌≡◌, ℕ, zero, suc, ◌<◌, List, [], ◌∷◌, ◌++◌, length, get_or, set, take, refl, ap, arith}
use Rattle.crack_row.specs.declared.Payload.{Payload}
use Rattle.crack_arena.specs.Arena.{Handle, no_handle}
use Rattle.crack_arena.specs.Memories.{Memory, nothing}
use Rattle.crack_tags.specs.declared.label.Label.{Label}
use Rattle.crack_tags.specs.Tags.{handle_in_label, handles_of, memory_with, memories_of}

pub length-handles_of : (ls : List Label) → length (handles_of ls) ≡ length ls
length-handles_of [] = refl
length-handles_of (l ∷ ls) = omega (arith, length-handles_of ls)

pub length-memories_of : (ls : List Label) (ps : List Payload) → length ps ≡ length ls → length (memories_of ls ps) ≡ length ls
length-memories_of [] ps beside = refl
length-memories_of (l ∷ ls) [] beside = absurd (omega (arith, beside))
length-memories_of (l ∷ ls) (p ∷ ps) beside = omega (arith, length-memories_of ls ps (omega (arith, beside)))

-- the handle of the label at a place, with any default
pub handle_at : (ls : List Label) (k : ℕ) (d : Label) → k < length ls → get_or (handles_of ls) k no_handle ≡ (get_or ls k d).handle
handle_at [] k d within = absurd (omega (arith, within))
handle_at (l ∷ ls) zero d within = refl
handle_at (l ∷ ls) (suc k) d within = handle_at ls k d (omega (arith, within))

-- what the label and the payload at a place remember, with any defaults
pub memory_at_place : (ls : List Label) (ps : List Payload) (k : ℕ) (d : Label) (e : Payload) → length ps ≡ length ls → k < length ls → get_or (memories_of ls ps) k nothing ≡ memory_with (get_or ls k d) (get_or ps k e)
memory_at_place [] ps k d e beside within = absurd (omega (arith, within))
memory_at_place (l ∷ ls) [] k d e beside within = absurd (omega (arith, beside))
memory_at_place (l ∷ ls) (p ∷ ps) zero d e beside within = refl
memory_at_place (l ∷ ls) (p ∷ ps) (suc k) d e beside within = memory_at_place ls ps k d e (omega (arith, beside)) (omega (arith, within))

pub set-handles_of : (ls : List Label) (k : ℕ) (l : Label) → handles_of (set ls k l) ≡ set (handles_of ls) k l.handle
set-handles_of [] k l = refl
set-handles_of (m ∷ ls) zero l = refl
set-handles_of (m ∷ ls) (suc k) l = ap (λ (hs : List Handle). handle_in_label m ∷ hs) (set-handles_of ls k l)

pub set-memories_of : (ls : List Label) (ps : List Payload) (k : ℕ) (l : Label) (p : Payload) → memories_of (set ls k l) (set ps k p) ≡ set (memories_of ls ps) k (memory_with l p)
set-memories_of [] ps k l p = refl
set-memories_of (m ∷ ls) [] zero l p = refl
set-memories_of (m ∷ ls) [] (suc k) l p = refl
set-memories_of (m ∷ ls) (q ∷ ps) zero l p = refl
set-memories_of (m ∷ ls) (q ∷ ps) (suc k) l p = ap (λ (ms : List Memory). memory_with m q ∷ ms) (set-memories_of ls ps k l p)

-- a label with the same handle leaves the handles unchanged
pub same-handles_of : (ls : List Label) (k : ℕ) (l d : Label) → k < length ls → l.handle ≡ (get_or ls k d).handle → handles_of (set ls k l) ≡ handles_of ls
same-handles_of [] k l d within same = refl
same-handles_of (m ∷ ls) zero l d within same = ap (λ (h : Handle). h ∷ handles_of ls) same
same-handles_of (m ∷ ls) (suc k) l d within same = ap (λ (hs : List Handle). handle_in_label m ∷ hs) (same-handles_of ls k l d (omega (arith, within)) same)

pub take-handles_of : (n : ℕ) (ls : List Label) → handles_of (take n ls) ≡ take n (handles_of ls)
take-handles_of zero ls = refl
take-handles_of (suc n) [] = refl
take-handles_of (suc n) (l ∷ ls) = ap (λ (hs : List Handle). handle_in_label l ∷ hs) (take-handles_of n ls)

pub take-memories_of : (n : ℕ) (ls : List Label) (ps : List Payload) → memories_of (take n ls) (take n ps) ≡ take n (memories_of ls ps)
take-memories_of zero ls ps = refl
take-memories_of (suc n) [] ps = refl
take-memories_of (suc n) (l ∷ ls) [] = refl
take-memories_of (suc n) (l ∷ ls) (p ∷ ps) = ap (λ (ms : List Memory). memory_with l p ∷ ms) (take-memories_of n ls ps)

pub append-handles_of : (ls ls' : List Label) → handles_of (ls ++ ls') ≡ handles_of ls ++ handles_of ls'
append-handles_of [] ls' = refl
append-handles_of (l ∷ ls) ls' = ap (λ (hs : List Handle). handle_in_label l ∷ hs) (append-handles_of ls ls')

pub append-memories_of : (ls ls' : List Label) (ps ps' : List Payload) → length ps ≡ length ls → memories_of (ls ++ ls') (ps ++ ps') ≡ memories_of ls ps ++ memories_of ls' ps'
append-memories_of [] ls' [] ps' beside = refl
append-memories_of [] ls' (p ∷ ps) ps' beside = absurd (omega (arith, beside))
append-memories_of (l ∷ ls) ls' [] ps' beside = absurd (omega (arith, beside))
append-memories_of (l ∷ ls) ls' (p ∷ ps) ps' beside = ap (λ (ms : List Memory). memory_with l p ∷ ms) (append-memories_of ls ls' ps ps' (omega (arith, beside)))
