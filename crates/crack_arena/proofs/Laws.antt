-- What handles read, and that a spent handle stays spent.
use Rattle.std.proofs.Common.{◌≡◌, ◌⊎◌, ℕ, ◌+◌, ◌<◌, ◌≤◌, Bool, true, false, List, [], ◌∷◌, length, get_or, set, cond, eqb, Option, Some, None, is_some, refl, sym, ap, inl, inr, arith, length-set}
use Rattle.std.proofs.lemmas.List.{get_or-set_same, get_or-set_other, get_or_past, get_or_append_left, length_push}
use Rattle.std.proofs.lemmas.Bool.{cases_eq, cases_lt, ne_eqb, eqb-true, true≢false}
use Rattle.crack_arena.specs.Arena.{Handle, Cell, Arena, empty_cell, cell_at, read, IsSpent, KeepsSpent, cells_with, value_put, set_at, freed_at, ArenaCall, Put, Set, Free, Reserve, after_call, after_calls}

module _ {T : Type 0} where
  -- what a handle reads is the value of its cell, which has its generation
  pub record IsReading (cells : List (Cell T)) (h : Handle) (v : T) : Type 0 where
    pub within : h.slot < length cells
    pub generation : (cell_at cells h.slot).generation ≡ h.generation
    pub value : (cell_at cells h.slot).value ≡ Some v

  pub IsReading-from : (cells : List (Cell T)) (h : Handle) (v : T) → read cells h ≡ Some v → IsReading cells h v
  IsReading-from cells h v reads = by_place (cases_lt h.slot (length cells))
    where
      by_test : h.slot < length cells → (b : Bool) → eqb (cell_at cells h.slot).generation h.generation ≡ b → cond b (cell_at cells h.slot).value None ≡ Some v → IsReading cells h v
      by_test l true equal found = record { within = l; generation = eqb-true (cell_at cells h.slot).generation h.generation equal; value = found }
      by_test l false equal found = absurd (true≢false (sym (ap is_some found)))

      nothing : (b : Bool) → cond {A = Option T} b None None ≡ Some v → ⊥
      nothing true e = true≢false (sym (ap is_some e))
      nothing false e = true≢false (sym (ap is_some e))

      by_place : (h.slot < length cells) ⊎ (length cells ≤ h.slot) → IsReading cells h v
      by_place (inl l) = by_test l (eqb (cell_at cells h.slot).generation h.generation) refl reads
      by_place (inr l) =
          let past : get_or cells h.slot empty_cell ≡ empty_cell = get_or_past cells h.slot empty_cell l in
          absurd (nothing (eqb 0 h.generation) (rw past at reads))

  -- the same if only that it reads is known
  pub IsReading-is_some : (cells : List (Cell T)) (h : Handle) → is_some (read cells h) ≡ true → (v : T) × IsReading cells h v
  IsReading-is_some cells h reads = by_value (read cells h) refl reads
    where
      by_value : (o : Option T) → read cells h ≡ o → is_some o ≡ true → (v : T) × IsReading cells h v
      by_value (Some v) e found = (v, IsReading-from cells h v e)
      by_value None e found = absurd (true≢false (sym found))

  -- a spent handle reads nothing
  pub read_spent : (cells : List (Cell T)) (h : Handle) → IsSpent cells h → read cells h ≡ None
  read_spent cells h spent =
      rw (ne_eqb (cell_at cells h.slot).generation h.generation (λ e. absurd (omega (arith, e, spent.older)))) refl

  -- a handle is still spent after a cell was written at no lower generation
  pub IsSpent-set : (cells : List (Cell T)) (n : ℕ) (c : Cell T) (h : Handle) → (cell_at cells n).generation ≤ c.generation → IsSpent cells h → IsSpent (set cells n c) h
  IsSpent-set cells n c h risen spent = record {
    within = omega (arith, spent.within, length-set cells n c);
    older = elim (cases_eq h.slot n) [
      | inl e ↦
          let within : n < length cells = rw e at spent.within in
          let older : h.generation < (cell_at cells n).generation = rw e at spent.older in
          let here : (get_or (set cells n c) h.slot empty_cell).generation ≡ c.generation = rw e (ap (λ (x : Cell T). x.generation) (get_or-set_same cells n c empty_cell within)) in
          omega (arith, here, older, risen)
      | inr ne ↦ rw (get_or-set_other cells n h.slot c empty_cell ne) spent.older
    ];
  }

  pub IsSpent-cells_with : (v : T) (cells : List (Cell T)) (free : List ℕ) (h : Handle) → IsSpent cells h → IsSpent (cells_with v cells free) h
  IsSpent-cells_with v cells [] h spent =
      let c : Cell T = record { generation = 0; value = Some v } in
      record {
        within = omega (arith, spent.within, length_push cells c);
        older = rw (get_or_append_left cells (c ∷ []) empty_cell h.slot spent.within) spent.older;
      }
  IsSpent-cells_with v cells (n ∷ ns) h spent = IsSpent-set cells n _ h (omega arith) spent

  -- every call keeps a spent handle spent
  pub KeepsSpent-value_put : (v : T) (a : Arena T) → KeepsSpent a.cells (value_put v a).cells
  KeepsSpent-value_put v a h spent = IsSpent-cells_with v a.cells a.free h spent

  pub KeepsSpent-set_at : (v : T) (k : Handle) (a : Arena T) → is_some (read a.cells k) ≡ true → KeepsSpent a.cells (set_at v k a).cells
  KeepsSpent-set_at v k a reads h spent =
      let same = (IsReading-is_some a.cells k reads).1.generation in
      IsSpent-set a.cells k.slot _ h (omega (arith, same)) spent

  pub KeepsSpent-freed_at : (k : Handle) (a : Arena T) → is_some (read a.cells k) ≡ true → KeepsSpent a.cells (freed_at k a).cells
  KeepsSpent-freed_at k a reads h spent =
      let same = (IsReading-is_some a.cells k reads).1.generation in
      IsSpent-set a.cells k.slot _ h (omega (arith, same)) spent

  -- a handle whose cell was freed is spent
  pub IsSpent-freed_at : (h : Handle) (a : Arena T) → is_some (read a.cells h) ≡ true → IsSpent (freed_at h a).cells h
  IsSpent-freed_at h a reads =
      let reading = (IsReading-is_some a.cells h reads).1 in
      let c : Cell T = record { generation = h.generation + 1; value = None } in
      let here : (get_or (set a.cells h.slot c) h.slot empty_cell).generation ≡ h.generation + 1 = ap (λ (x : Cell T). x.generation) (get_or-set_same a.cells h.slot c empty_cell reading.within) in
      record {
        within = omega (arith, reading.within, length-set a.cells h.slot c);
        older = omega (arith, here);
      }

  pub KeepsSpent-after_call : (call : ArenaCall T) (a : Arena T) → KeepsSpent a.cells (after_call call a).cells
  KeepsSpent-after_call (Put v) a h spent = KeepsSpent-value_put v a h spent
  KeepsSpent-after_call (Set k v) a h spent = by_test (is_some (read a.cells k)) refl
    where
      by_test : (b : Bool) → is_some (read a.cells k) ≡ b → IsSpent (cond b (set_at v k a) a).cells h
      by_test true reads = KeepsSpent-set_at v k a reads h spent
      by_test false reads = spent
  KeepsSpent-after_call (Free k) a h spent = by_test (is_some (read a.cells k)) refl
    where
      by_test : (b : Bool) → is_some (read a.cells k) ≡ b → IsSpent (cond b (freed_at k a) a).cells h
      by_test true reads = KeepsSpent-freed_at k a reads h spent
      by_test false reads = spent
  KeepsSpent-after_call (Reserve n) a h spent = spent

  -- over every list of calls a spent handle stays spent, and reads nothing
  pub KeepsSpent-after : (calls : List (ArenaCall T)) (a : Arena T) → KeepsSpent a.cells (after_calls calls a).cells
  KeepsSpent-after [] a h spent = spent
  KeepsSpent-after (c ∷ cs) a h spent = KeepsSpent-after cs (after_call c a) h (KeepsSpent-after_call c a h spent)

  pub read_spent_after : (a : Arena T) (h : Handle) → IsSpent a.cells h → (calls : List (ArenaCall T)) → read (after_calls calls a).cells h ≡ None
  read_spent_after a h spent calls = read_spent (after_calls calls a).cells h (KeepsSpent-after calls a h spent)
