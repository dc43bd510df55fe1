use Rattle.std.proofs.Common.{◌≡◌, ◌∙◌, ℕ, List, [], ◌∷◌, ◌++◌, length, length-append, arith, sym, ap, subst, refl, Some, None, Result, Ok, Err, Option, IfOk}
use Rattle.std.specs.Prelude.{Contains}
use Rattle.std.specs.Result.{result_ok}
use Rattle.std.proofs.lemmas.List.{get_or_push}
use Rattle.crack_row.specs.declared.command.Policy.TheVariants.{Complete}
use Rattle.crack_session.specs.Calls.{Call, Calls}
use Rattle.crack_session.specs.Readings.{statements}
use Rattle.crack_session.proofs.Known.{reported_if_known}
use Rattle.crack_table.specs.Tables.{TableState}
use Rattle.crack_witness.specs.Witnesses.{WorkerState}
use Rattle.crack_worker_desk.specs.Histories.{IsGathered, AreOfHistories}
use Rattle.crack_table_tests.proofs.lines.serve_and_gather.Goals as goal

-- no call of a desk changes its table
same_table : {D : Type 0} (leads : D → Call → D → Type 0) (table : D → TableState) → ((d : D) (call : Call) (e : D) → leads d call e → table e ≡ table d) → (calls : List Call) (old new : D) → Calls leads old calls new → table new ≡ table old
same_table leads table step [] old new were = ap table were
same_table leads table step (call ∷ calls) old new were = same_table leads table step calls were.0 new were.2 ∙ step old call were.0 were.1

-- what holds of a result holds of its value
of_value : {A E : Type 0} (P : A → Type 0) (r : Result A E) (o : Option A) (x : A) → o ≡ result_ok r → o ≡ Some x → IfOk r P → P x
of_value P (Ok y) o x is some holds =
    let first : o ≡ Some y = is in
    let same : y ≡ x = cc (first, some) in
    subst P same holds
of_value P (Err e) o x is some holds =
    let none : o ≡ None = is in
    absurd (cc (none, some))

-- a list has what was pushed
pushed_last : {X : Type 0} (xs ys : List X) (x : X) → ys ≡ xs ++ x ∷ [] → Contains ys x
pushed_last xs ys x is = subst (λ (l : List _). Contains l x) (sym is) (length xs, omega (arith, length-append xs (x ∷ [])), get_or_push xs x x (length xs) refl)

-- known bytes are the same
some_same : {xs ys : List ℕ} → ◌≡◌ {A = Option (List ℕ)} (Some xs) (Some ys) → xs ≡ ys
some_same e = cc e

pub returns : goal.returns
returns g c =
    let own : ℕ → ℕ = g.J.Naming.owner in
    let old = c.new-desk.result in
    let last = c.serve-ended.new.desk in
    let parts = c.expect-gathered.result.parts.items in
    let workers = c.push.new.self.items in
    let read = c.args.input.now in
    let pushed : workers ≡ c.args.others.items ++ c.into_worker.result ∷ [] = rw c.expect.ensures at c.push.ensures.items in
    let held : Contains workers last.worker = subst (Contains workers) c.into_worker.ensures (pushed_last c.args.others.items workers c.into_worker.result pushed) in
    let told = reported_if_known _ _ _ _ Complete old last _ _ _ c.expect-end.result (rw c.expect-end.ensures at c.serve-ended.ensures.ends) read [] (rw c.new-reader.ensures.device refl) (rw (c.new-writer.ensures.device, c.new.ensures.items) refl) in
    let answers = told.answers in
    let made = told.are.made in
    let table : last.table.now ≡ c.args.table = same_table _ (λ d. d.table.now) (λ d call e led. led.0) made.0 old last made.1 ∙ c.new-desk.ensures.table in
    let whole = of_value _ c.gather.result c.ok.result c.expect-gathered.result c.ok.ensures.value c.expect-gathered.ensures c.gather.ensures.gathered in
    let gathered : IsGathered own last.table.now parts last.worker = subst (λ (t : TableState). IsGathered own t parts last.worker) (sym table) (workers, held, whole) in
    let stand : AreOfHistories own parts old.worker.worker old.table.now.splits Complete (statements read) answers =
    c.lines_stand_in_histories.ensures old last [] parts Complete (statements read) answers refl gathered made in
    rw c.into_inner.ensures (
      answers,
      subst (λ (t : TableState). AreOfHistories own parts c.args.worker.worker t.splits Complete (statements read) answers) c.new-desk.ensures.table
          (subst (λ (a : WorkerState). AreOfHistories own parts a.worker old.table.now.splits Complete (statements read) answers) c.new-desk.ensures.worker stand),
      some_same told.written_is,
    )
