use Rattle.std.proofs.Common.{◌≡◌, Ok, Err, Result, [], ◌∷◌, ◌++◌, refl}
use Rattle.crack_row.specs.declared.refusal.Refusal.{Refusal}
use Rattle.crack_plain.specs.declared.statistics.Statistics.{Statistics}
use Rattle.crack_session.specs.Calls.{Surveyed}
use Rattle.crack_session.proofs.Calling.{Calls-push}
use Rattle.crack_session.proofs.watching.watch.Goals as goal

same_reported : {s t : Statistics} → ◌≡◌ {A = Result Statistics Refusal} (Ok s) (Ok t) → s ≡ t
same_reported e = cc e

never : {P : Type 0} {e : Refusal} {t : Statistics} → ◌≡◌ {A = Result Statistics Refusal} (Err e) (Ok t) → P
never same = absurd (cc same)

pub returns-in-Ok : goal.returns-in-Ok
returns-in-Ok g c =
    let calls = c.in-Ok.ensures.were.0 in
    let traffic = c.service.result in
    record {
      is = λ tables e.
          let told = c.in-Ok.ensures.are tables e in
          (tables, (record { each = told.0; right = told.1; traffic = traffic; answer_is = rw (same_reported told.2) refl }, refl), e);
      bounds_are = refl;
      splits_are = refl;
      calls = calls ++ Surveyed traffic ∷ [];
      were = Calls-push g.D.Desk.leads _ calls _ _ _ c.in-Ok.ensures.were.1 c.service.ensures.leads;
      made = (Ok c.in-Ok.statistics, calls, c.in-Ok.ensures.were.2, (traffic, refl, refl));
    }

pub returns-in-Err : goal.returns-in-Err
returns-in-Err g c =
    let calls = c.in-Err.ensures.were.0 in
    record {
      is = λ tables e. never (c.in-Err.ensures.are tables e).2;
      bounds_are = refl;
      splits_are = refl;
      calls = calls;
      were = c.in-Err.ensures.were.1;
      made = (Err c.in-Err.refusal, calls, c.in-Err.ensures.were.2, (refl, refl));
    }
