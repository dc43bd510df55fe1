-- A pass that finds one bound after another, as a whole.
use Rattle.std.proofs.Common.{◌≡◌, ℕ, ℤ, ◌<◌, ◌≤◌, Bool, true, false, leb, List, [], ◌∷◌, length, Option, Some, None, refl, sym, ap, ◌∙◌, inl, inr, arith}
use Rattle.std.specs.Prelude.{◌==◌}
use Rattle.std.specs.Option.{option_map}
use Rattle.std.proofs.lemmas.Bool.{cases_eq, cases_lt, eq-eqb, ne_eqb, lt-leb, le-leb}
use Rattle.crack_row.specs.Ranges.{Range}
use Rattle.crack_row.specs.declared.InnerBound.{InnerBound}
use Rattle.crack_row.specs.declared.Key.{Key}
use Rattle.crack_row.specs.declared.command.Policy.{Policy}
use Rattle.crack_row.specs.declared.command.Policy.TheVariants.{Auto, Complete, Gradual, Ripple}
use Rattle.crack_index.specs.declared.mark.Mark.{Mark}
use Rattle.crack_index.specs.Marks.{SomeMarks, removed}
use Rattle.crack_index.specs.Passes.{PassProgress, are_few, met, moved_past, next_few, stopped_at}
use Rattle.crack_index.specs.Sums.{joined_below}
use Rattle.crack_index.proofs.RemoveLaws.{SomeMarks-all}
use Rattle.crack_state.specs.State.{State}
use Rattle.crack_state.specs.Merge.{Coarsens}
use Rattle.crack_state.proofs.CoarsenLaws.{Coarsens-same}
use Rattle.crack_part.specs.Forgetting.{left_by_pass, joined_by, ended_pass, pass_of, moves_of, coarsened, noted, due_by, SettlesBy, StopsReadBy, ReadsBy}
use Rattle.crack_part.specs.KnownSums.{Known}
use Rattle.crack_part.specs.Parts.{MayCoarsen, Settles, StopsRead}
use Rattle.crack_part.specs.declared.passes.Passes.{Passes}

-- how a pass comes to a mark
data Comes (len : ℕ) (p : PassProgress) (m : Mark) (ms : List Mark) : Type 0 where
  -- the bound stays, and it goes on above it
  goes_on : (p' : PassProgress) → p.after ≤ p'.after → m.bound.0 ≤ p'.after → next_few len p (m ∷ ms) ≡ next_few len p' ms → left_by_pass len p (m ∷ ms) ≡ m ∷ left_by_pass len p' ms → ended_pass len p (m ∷ ms) ≡ ended_pass len p' ms → ((es : List (ℕ × ℤ)) → joined_by len p (m ∷ ms) es ≡ joined_by len p' ms es) → Comes len p m ms
  -- it meets no more
  stops : next_few len p (m ∷ ms) ≡ (None, p) → left_by_pass len p (m ∷ ms) ≡ m ∷ ms → ended_pass len p (m ∷ ms) ≡ p → ((es : List (ℕ × ℤ)) → joined_by len p (m ∷ ms) es ≡ es) → Comes len p m ms
  -- it finds the bound
  finds : p.after < m.bound.0 → next_few len p (m ∷ ms) ≡ (Some m.bound, met m p) → left_by_pass len p (m ∷ ms) ≡ left_by_pass len (met m p) ms → ended_pass len p (m ∷ ms) ≡ ended_pass len (met m p) ms → ((es : List (ℕ × ℤ)) → joined_by len p (m ∷ ms) es ≡ joined_by len (met m p) ms (joined_below m.bound.0 es)) → Comes len p m ms

comes : (len : ℕ) (p : PassProgress) (m : Mark) (ms : List Mark) → Comes len p m ms
comes len p m ms = elim (cases_lt p.after m.bound.0) [
  | inr before ↦
      let upto = le-leb m.bound.0 p.after before in
      Comes.goes_on p (omega arith) before (rw upto refl) (rw upto refl) (rw upto refl) (λ es. rw upto refl)
  | inl ahead ↦ elim (cases_eq p.bounds 0) [
    | inl none ↦
        let above = lt-leb m.bound.0 p.after ahead in
        let over = eq-eqb p.bounds 0 none in
        Comes.stops (rw (above, over) refl) (rw (above, over) refl) (rw (above, over) refl) (λ es. rw (above, over) refl)
    | inr more ↦ by_size (are_few len (met m p) ms) refl ahead (lt-leb m.bound.0 p.after ahead) (ne_eqb p.bounds 0 more)
  ]
]
  where
    by_size : (b : Bool) → are_few len (met m p) ms ≡ b → p.after < m.bound.0 → leb m.bound.0 p.after ≡ false → (p.bounds == 0) ≡ false → Comes len p m ms
    by_size true few ahead above more = Comes.finds ahead (rw (above, more, few) refl) (rw (above, more, few) refl) (rw (above, more, few) refl) (λ es. rw (above, more, few) refl)
    by_size false many ahead above more = Comes.goes_on (moved_past m (met m p)) (omega arith) (omega arith) (rw (above, more, many) refl) (rw (above, more, many) refl) (rw (above, more, many) refl) (λ es. rw (above, more, many) refl)

-- the bound that it finds is above those that it has met, and then it has met that one
found-above : (len : ℕ) (p q : PassProgress) (b : InnerBound) (ms : List Mark) → next_few len p ms ≡ (Some b, q) → (p.after < b.0) × (q.after ≡ b.0)
found-above len p q b [] is = absurd (let e : None ≡ Some b = ap (λ (x : Option InnerBound × PassProgress). x.0) is in cc)
found-above len p q b (m ∷ ms) is = elim (comes len p m ms) [
  | Comes.goes_on p' further past next left over joins ↦
      let rest = found-above len p' q b ms (sym next ∙ is) in
      (omega (arith, rest.0), rest.1)
  | Comes.stops next left over joins ↦ absurd (let e : None ≡ Some b = ap (λ (x : Option InnerBound × PassProgress). x.0) (sym next ∙ is) in cc)
  | Comes.finds ahead next left over joins ↦
      let e : Some m.bound ≡ Some b = ap (λ (x : Option InnerBound × PassProgress). x.0) (sym next ∙ is) in
      let bound : m.bound ≡ b = cc in
      let q_is : met m p ≡ q = ap (λ (x : Option InnerBound × PassProgress). x.1) (sym next ∙ is) in
      (rw (← bound) ahead, rw (← q_is, ← bound) refl)
]

-- a pass that finds no more has come to its end
pub found-none : (len : ℕ) (p q : PassProgress) (ms : List Mark) → next_few len p ms ≡ (None, q) → (left_by_pass len p ms ≡ ms) × (ended_pass len p ms ≡ q)
found-none len p q [] is = (refl, ap (λ (x : Option InnerBound × PassProgress). x.1) is)
found-none len p q (m ∷ ms) is = elim (comes len p m ms) [
  | Comes.goes_on p' further past next left over joins ↦
      let rest = found-none len p' q ms (sym next ∙ is) in
      (left ∙ ap (λ (x : List Mark). m ∷ x) rest.0, over ∙ rest.1)
  | Comes.stops next left over joins ↦ (left, over ∙ ap (λ (x : Option InnerBound × PassProgress). x.1) (sym next ∙ is))
  | Comes.finds ahead next left over joins ↦ absurd (let e : Some m.bound ≡ None = ap (λ (x : Option InnerBound × PassProgress). x.0) (sym next ∙ is) in cc)
]

-- once the bound that a pass found was removed, it goes on to the same end
pub found-some : (len : ℕ) (p q : PassProgress) (b : InnerBound) (ms : List Mark) → next_few len p ms ≡ (Some b, q) → (left_by_pass len q (removed b.0 ms) ≡ left_by_pass len p ms) × (ended_pass len q (removed b.0 ms) ≡ ended_pass len p ms)
found-some len p q b [] is = absurd (let e : None ≡ Some b = ap (λ (x : Option InnerBound × PassProgress). x.0) is in cc)
found-some len p q b (m ∷ ms) is = elim (comes len p m ms) [
  | Comes.goes_on p' further past next left over joins ↦
      let found = sym next ∙ is in
      let above = found-above len p' q b ms found in
      let rest = found-some len p' q b ms found in
      let upto = le-leb m.bound.0 q.after (omega (arith, above.0, above.1)) in
      let apart = ne_eqb m.bound.0 b.0 (λ e. absurd (omega (arith, above.0))) in (
        rw (apart, upto) (ap (λ (x : List Mark). m ∷ x) rest.0 ∙ sym left),
        rw (apart, upto) (rest.1 ∙ sym over),
      )
  | Comes.stops next left over joins ↦ absurd (let e : None ≡ Some b = ap (λ (x : Option InnerBound × PassProgress). x.0) (sym next ∙ is) in cc)
  | Comes.finds ahead next left over joins ↦
      let e : Some m.bound ≡ Some b = ap (λ (x : Option InnerBound × PassProgress). x.0) (sym next ∙ is) in
      let bound : m.bound ≡ b = cc in
      let q_is : met m p ≡ q = ap (λ (x : Option InnerBound × PassProgress). x.1) (sym next ∙ is) in
      let here = eq-eqb m.bound.0 m.bound.0 refl in
      rw (← bound, ← q_is, here) (sym left, sym over)
]

-- a pass that finds no more joins no more pieces
found-none-joins : (len : ℕ) (p q : PassProgress) (ms : List Mark) → next_few len p ms ≡ (None, q) → (es : List (ℕ × ℤ)) → joined_by len p ms es ≡ es
found-none-joins len p q [] is es = refl
found-none-joins len p q (m ∷ ms) is es = elim (comes len p m ms) [
  | Comes.goes_on p' further past next left over joins ↦ joins es ∙ found-none-joins len p' q ms (sym next ∙ is) es
  | Comes.stops next left over joins ↦ joins es
  | Comes.finds ahead next left over joins ↦ absurd (let e : Some m.bound ≡ None = ap (λ (x : Option InnerBound × PassProgress). x.0) (sym next ∙ is) in cc)
]

-- once the pieces at the bound that a pass found were joined, it goes on to join the same ones
found-some-joins : (len : ℕ) (p q : PassProgress) (b : InnerBound) (ms : List Mark) → next_few len p ms ≡ (Some b, q) → (es : List (ℕ × ℤ)) → joined_by len q (removed b.0 ms) (joined_below b.0 es) ≡ joined_by len p ms es
found-some-joins len p q b [] is es = absurd (let e : None ≡ Some b = ap (λ (x : Option InnerBound × PassProgress). x.0) is in cc)
found-some-joins len p q b (m ∷ ms) is es = elim (comes len p m ms) [
  | Comes.goes_on p' further past next left over joins ↦
      let found = sym next ∙ is in
      let above = found-above len p' q b ms found in
      let upto = le-leb m.bound.0 q.after (omega (arith, above.0, above.1)) in
      let apart = ne_eqb m.bound.0 b.0 (λ e. absurd (omega (arith, above.0))) in
      rw (apart, upto) (found-some-joins len p' q b ms found es ∙ sym (joins es))
  | Comes.stops next left over joins ↦ absurd (let e : None ≡ Some b = ap (λ (x : Option InnerBound × PassProgress). x.0) (sym next ∙ is) in cc)
  | Comes.finds ahead next left over joins ↦
      let e : Some m.bound ≡ Some b = ap (λ (x : Option InnerBound × PassProgress). x.0) (sym next ∙ is) in
      let bound : m.bound ≡ b = cc in
      let q_is : met m p ≡ q = ap (λ (x : Option InnerBound × PassProgress). x.1) (sym next ∙ is) in
      let here = eq-eqb m.bound.0 m.bound.0 refl in
      rw (← bound, ← q_is, here) (sym (joins es))
]

-- a pass leaves some of the marks
SomeMarks-left : (len : ℕ) (p : PassProgress) (ms : List Mark) → SomeMarks (left_by_pass len p ms) ms
SomeMarks-left len p [] = SomeMarks.nothing
SomeMarks-left len p (m ∷ ms) = elim (comes len p m ms) [
  | Comes.goes_on p' further past next left over joins ↦ rw left (SomeMarks.kept m (left_by_pass len p' ms) ms (SomeMarks-left len p' ms))
  | Comes.stops next left over joins ↦ rw left (SomeMarks-all (m ∷ ms))
  | Comes.finds ahead next left over joins ↦ rw left (SomeMarks.left_out m (left_by_pass len (met m p) ms) ms (SomeMarks-left len (met m p) ms))
]

Coarsens-coarsened : (key : Option Key) (s : State) → Coarsens s (coarsened key s)
Coarsens-coarsened None s = Coarsens-same s
Coarsens-coarsened (Some key) s = record { same = refl; some = SomeMarks-left (length s.column) _ s.marks }

-- under auto bounds may be forgotten, and under the other policies none is
pub MayCoarsen-due : (policy : Policy) (passes : Passes) (s : State) → MayCoarsen policy s (coarsened (due_by policy passes s) s)
MayCoarsen-due Auto passes s = Coarsens-coarsened (due_by Auto passes s) s
MayCoarsen-due Complete passes s = refl
MayCoarsen-due Gradual passes s = refl
MayCoarsen-due Ripple passes s = refl

-- a pass over the bounds above a key that has changed one store to another by now, and comes to the same end
pub record IsOnWay (key : Key) (s : State) (p : PassProgress) (t : State) : Type 0 where
  pub same : t ≡ record s { marks = t.marks }
  pub left : left_by_pass (length s.column) p t.marks ≡ left_by_pass (length s.column) (pass_of key s) s.marks
  pub over : ended_pass (length s.column) p t.marks ≡ ended_pass (length s.column) (pass_of key s) s.marks

pub IsOnWay-start : (key : Key) (s : State) (p : PassProgress) → p ≡ pass_of key s → IsOnWay key s p s
IsOnWay-start key s p is = rw is (record { same = refl; left = refl; over = refl })

-- what it finds next, by the rows of the first store
found-next : (key : Key) (s : State) (p : PassProgress) (t : State) (found : Option InnerBound × PassProgress) → IsOnWay key s p t → found ≡ next_few (length t.column) p t.marks → next_few (length s.column) p t.marks ≡ found
found-next key s p t found on is = ap (λ (x : State). next_few (length x.column) p t.marks) (sym on.same) ∙ sym is

pub IsOnWay-found : (key : Key) (s : State) (p : PassProgress) (t : State) (b : InnerBound) (q : PassProgress) (u : State) → IsOnWay key s p t → (Some b, q) ≡ next_few (length t.column) p t.marks → u ≡ record t { marks = removed b.0 t.marks } → IsOnWay key s q u
IsOnWay-found key s p t b q u on found is =
    let step = found-some (length s.column) p q b t.marks (found-next key s p t (Some b, q) on found) in
    rw is (record {
      same = ap (λ (x : State). record x { marks = removed b.0 t.marks }) on.same;
      left = step.0 ∙ on.left;
      over = step.1 ∙ on.over;
    })

pub IsOnWay-end : (key : Key) (s : State) (p : PassProgress) (t : State) (q : PassProgress) (u : State) → IsOnWay key s p t → (None, q) ≡ next_few (length t.column) p t.marks → u ≡ t → (u ≡ coarsened (Some key) s) × (stopped_at q ≡ stopped_at (ended_pass (length s.column) (pass_of key s) s.marks))
IsOnWay-end key s p t q u on found is =
    let none = found-none (length s.column) p q t.marks (found-next key s p t (None, q) on found) in (
      is ∙ on.same ∙ ap (λ (ms : List Mark). record s { marks = ms }) (sym none.0 ∙ on.left),
      ap stopped_at (sym none.1 ∙ on.over),
    )

-- the pieces that the pass joins from now on, in the second list, are those that it joins as a whole in the first
abbrev pub JoinsOnWay : Key → State → PassProgress → State → List (ℕ × ℤ) → List (ℕ × ℤ) → Type 0
JoinsOnWay key s p t first now = joined_by (length s.column) p t.marks now ≡ joined_by (length s.column) (pass_of key s) s.marks first

pub JoinsOnWay-start : (key : Key) (s : State) (p : PassProgress) (first : List (ℕ × ℤ)) → p ≡ pass_of key s → JoinsOnWay key s p s first first
JoinsOnWay-start key s p first is = rw is refl

pub JoinsOnWay-found : (key : Key) (s : State) (p : PassProgress) (t : State) (b : InnerBound) (q : PassProgress) (u : State) (first now next : List (ℕ × ℤ)) → IsOnWay key s p t → (Some b, q) ≡ next_few (length t.column) p t.marks → u ≡ record t { marks = removed b.0 t.marks } → next ≡ joined_below b.0 now → JoinsOnWay key s p t first now → JoinsOnWay key s q u first next
JoinsOnWay-found key s p t b q u first now next on found is joins on_way =
    rw (is, joins) (found-some-joins (length s.column) p q b t.marks (found-next key s p t (Some b, q) on found) now ∙ on_way)

pub JoinsOnWay-end : (key : Key) (s : State) (p : PassProgress) (t : State) (q : PassProgress) (first now : List (ℕ × ℤ)) → IsOnWay key s p t → (None, q) ≡ next_few (length t.column) p t.marks → JoinsOnWay key s p t first now → now ≡ joined_by (length s.column) (pass_of key s) s.marks first
JoinsOnWay-end key s p t q first now on found on_way =
    sym (found-none-joins (length s.column) p q t.marks (found-next key s p t (None, q) on found) now) ∙ on_way

-- known sums by their parts
pub Known-joined : (first now : Known) (pieces : List (ℕ × ℤ)) → now.pieces ≡ pieces → now.since ≡ first.since → now ≡ record first { pieces = pieces }
Known-joined first now pieces same since = rw (← same, ← since) refl

-- the key of a number is that of which it is the number
key_of-number : (key : Option Key) (number : Option ℕ) → option_map (λ (k : Key). k.0) key ≡ number → key ≡ option_map (λ (n : ℕ). record { 0 = n }) number
key_of-number None number is = rw (← is) refl
key_of-number (Some k) number is = rw (← is) refl

-- what is noted at its end
pub noted-end : (key : Key) (s u : State) (passes after : Passes) (stopped : Option Key) (number : Option ℕ) → u ≡ coarsened (Some key) s → after ≡ record { counted = moves_of u; stopped = stopped } → option_map (λ (k : Key). k.0) stopped ≡ number → number ≡ stopped_at (ended_pass (length s.column) (pass_of key s) s.marks) → after ≡ noted (Some key) s passes
noted-end key s u passes after stopped number store is keys numbers = is ∙ rw (store, key_of-number stopped number keys, numbers) refl

-- the keys stay
pub keys-coarsened : (key : Option Key) (s : State) → (coarsened key s).keys ≡ s.keys
keys-coarsened None s = refl
keys-coarsened (Some key) s = refl

-- what is promised of a read, by which bounds it forgets
pub Settles-by : (policy : Policy) (passes : Passes) (s : State) (after : Passes) (t : State) (r : Range) → SettlesBy policy passes s after t r → Settles policy s t r
Settles-by policy passes s after t r done = record {
  ready = done.ready;
  readies = done.readies;
  does = record {
    coarse = coarsened (due_by policy passes done.ready) done.ready;
    coarsens = MayCoarsen-due policy passes done.ready;
    does = done.does.does;
  };
}

pub StopsRead-by : (policy : Policy) (passes : Passes) (s : State) (after : Passes) (t : State) (r : Range) → StopsReadBy policy passes s after t r → StopsRead policy s t r
StopsRead-by policy passes s after t r stopped = elim stopped [
  | inl first ↦ inl (first.0, first.1)
  | inr done ↦ inr (record {
    ready = done.ready;
    readies = done.readies;
    does = record {
      coarse = coarsened (due_by policy passes done.ready) done.ready;
      coarsens = MayCoarsen-due policy passes done.ready;
      does = done.does.does;
    };
  })
]

pub ReadsBy-none : (policy : Policy) (passes : Passes) (s : State) (r : Range) → r.high ≤ r.low → ReadsBy policy passes s passes s r
ReadsBy-none policy passes s r none = record { empty = λ e. (refl, refl); settled = λ filled. absurd (omega arith) }

pub ReadsBy-settled : (policy : Policy) (passes : Passes) (s : State) (after : Passes) (t : State) (r : Range) → r.low < r.high → SettlesBy policy passes s after t r → ReadsBy policy passes s after t r
ReadsBy-settled policy passes s after t r filled done = record { empty = λ e. absurd (omega arith); settled = λ f. done }
