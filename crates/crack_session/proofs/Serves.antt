-- The turns of a session over a reader and a writer.
use Rattle.std.proofs.Common.{◌≡◌, ℕ, ◌+◌, ◌-◌, ◌<◌, ◌≤◌, ◌⊎◌, Bool, true, cond, Option, Some, None, Result, Ok, Err, List, [], ◌∷◌, ◌++◌, length, take, drop, refl, sym, ap, ◌∙◌, subst, arith, append-nil, append_assoc, length-drop, take-append-drop, inl, inr}
use Rattle.std.proofs.KnownBytes.{Appends-trans}
use Rattle.std.specs.Io.KnownBytes.{Keeps}
use Rattle.crack_row.specs.Devices.{device, has_failed, reads_of}
use Rattle.crack_row.specs.declared.Bound.{Bound}
use Rattle.crack_row.specs.declared.refusal.Refusal.{Refusal}
use Rattle.crack_row.specs.declared.refusal.Refusal.TheVariants.{ReadFault, WriteFault}
use Rattle.crack_row.specs.declared.watched.Watched.{Watched}
use Rattle.crack_plain.specs.Plain.{PlainView}
use Rattle.crack_core.specs.Steps.{Bounds}
use Rattle.crack_session.specs.declared.session.How.{How}
use Rattle.crack_session.specs.declared.session.How.TheVariants.{Quit, InputEnded}
use Rattle.crack_session.specs.Calls.{Call}
use Rattle.crack_session.specs.Feeding.{SessionState}
use Rattle.crack_session.specs.Rounds.{IsNewSession}
use Rattle.crack_session.specs.Serving.{IsServed, IsCutOff, IsCause}
use Rattle.crack_session.specs.Turns.{fed_by, Sends, StopsAs, ReadsOnce, IsTurn}
use Rattle.crack_session.proofs.Turns.{IsSentFirst-then}
use Rattle.crack_session.proofs.Running.{Running, Running-more, ReadsMade, all_made, as_long}
use Rattle.crack_session.proofs.Leaving.{Left, Left-before, Left-after, served, cut, all_by_line, all_by_input}

module _ {D R W : Type 0} (bounds : D → Bounds) (splits : D → List Bound) (tables : D → Option (List PlainView)) (leads : D → Call → D → Type 0) (remaining : R → Option (List ℕ)) (contents : W → Option (List ℕ)) (s0 : SessionState) (d0 : D) (known0 out0 : Option (List ℕ)) where
  -- a read is answered
  abbrev Answered : SessionState → Option How → D → D → Watched R → Watched R → Watched W → Watched W → SessionState → Type 0
  Answered s how d e r r' w w' t = (bytes : List ℕ) × ReadsOnce remaining r r' bytes × Sends bounds splits tables leads contents (λ how left s. StopsAs how bytes left s) s (fed_by bytes) (Ok how) d e w w' t

  turn_ok : (s t : SessionState) (how : Option How) (d e : D) (r r' : Watched R) (w w' : Watched W) → IsTurn bounds splits tables leads remaining contents s (Ok how) d e r r' w w' t → Answered s how d e r r' w w' t
  turn_ok s t how d e r r' w w' turn = by_case turn.is
    where
      by_case : Answered s how d e r r' w w' t ⊎ ((Ok how ≡ Err ReadFault) × (has_failed r' ≡ true) × Keeps (remaining (device r)) (remaining (device r')) × (t ≡ s) × (e ≡ d) × (w' ≡ w)) → Answered s how d e r r' w w' t
      by_case (inl x) = x
      by_case (inr x) = absurd (let both : ◌≡◌ {A = Result (Option How) Refusal} (Ok how) (Err ReadFault) = x.0 in cc)

  pub running-on : (s t : SessionState) (d e : D) (r r' : Watched R) (w w' : Watched W) (k : ℕ) → Running bounds splits tables leads s0 d0 known0 out0 s d (remaining (device r)) (contents (device w)) k → IsTurn bounds splits tables leads remaining contents s (Ok None) d e r r' w w' t → Running bounds splits tables leads s0 d0 known0 out0 t e (remaining (device r')) (contents (device w')) (k + 1)
  running-on s t d e r r' w w' k running turn =
      let x = turn_ok s t None d e r r' w w' turn in
      Running-more bounds splits tables leads s0 d0 known0 out0 s t d e _ _ _ _ k x.2.taken x.0 x.2.texts running x.1.consumed x.1.few x.2.feeds x.2.within x.2.sent x.2.stops

  -- the desk's splits and bounds stay
  pub splits-turn : (s t : SessionState) (result : Result (Option How) Refusal) (d e : D) (r r' : Watched R) (w w' : Watched W) → IsTurn bounds splits tables leads remaining contents s result d e r r' w w' t → (splits e ≡ splits d) × (bounds e ≡ bounds d)
  splits-turn s t result d e r r' w w' turn = by_case turn.is
    where
      by_case : ((bytes : List ℕ) × ReadsOnce remaining r r' bytes × Sends bounds splits tables leads contents (λ how left s. StopsAs how bytes left s) s (fed_by bytes) result d e w w' t) ⊎ ((result ≡ Err ReadFault) × (has_failed r' ≡ true) × Keeps (remaining (device r)) (remaining (device r')) × (t ≡ s) × (e ≡ d) × (w' ≡ w)) → (splits e ≡ splits d) × (bounds e ≡ bounds d)
      by_case (inl x) = (x.2.feeds.answered.splits_are, x.2.feeds.answered.bounds_are)
      by_case (inr x) = (ap splits x.4, ap bounds x.4)

  -- no device failed
  pub unfailed-turn : (s t : SessionState) (how : Option How) (d e : D) (r r' : Watched R) (w w' : Watched W) → IsTurn bounds splits tables leads remaining contents s (Ok how) d e r r' w w' t → (has_failed r' ≡ has_failed r) × (has_failed w' ≡ has_failed w)
  unfailed-turn s t how d e r r' w w' turn = let x = turn_ok s t how d e r r' w w' turn in (x.1.unfailed, x.2.unfailed)

  -- or one did
  pub cause-turn : (s t : SessionState) (refusal : Refusal) (d e : D) (r r' : Watched R) (w w' : Watched W) (reads : ℕ) → IsTurn bounds splits tables leads remaining contents s (Err refusal) d e r r' w w' t → IsCause refusal (has_failed r') (has_failed w') reads (reads_of r') known0
  cause-turn s t refusal d e r r' w w' reads turn = by_case turn.is
    where
      by_case : ((bytes : List ℕ) × ReadsOnce remaining r r' bytes × Sends bounds splits tables leads contents (λ how left s. StopsAs how bytes left s) s (fed_by bytes) (Err refusal) d e w w' t) ⊎ ((◌≡◌ {A = Result (Option How) Refusal} (Err refusal) (Err ReadFault)) × (has_failed r' ≡ true) × Keeps (remaining (device r)) (remaining (device r')) × (t ≡ s) × (e ≡ d) × (w' ≡ w)) → IsCause refusal (has_failed r') (has_failed w') reads (reads_of r') known0
      by_case (inl x) = inl (x.2.err.0, x.2.err.1)
      by_case (inr x) = let both : ◌≡◌ {A = Result (Option How) Refusal} (Err refusal) (Err ReadFault) = x.0 in let is : refusal ≡ ReadFault = cc both in inr (is, inl x.1)

  -- or the last read was made
  pub cause-last : (s : SessionState) (d : D) (known out : Option (List ℕ)) (k first now : ℕ) (reader_failed writer_failed : Bool) → Running bounds splits tables leads s0 d0 known0 out0 s d known out k → k ≡ 1000000000 → ReadsMade first now k → IsCause ReadFault reader_failed writer_failed first now known0
  cause-last s d known out k first now reader_failed writer_failed running all made =
      let least = running.least in
      inr (refl, inr (all_made first now k 1000000000 made all (omega arith), as_long known0 known running.bytes 1000000000 running.consumed (omega (arith, least, all))))

  pub served-turn : (begins : IsNewSession s0) (s t : SessionState) (how : How) (d e : D) (r r' : Watched R) (w w' : Watched W) (k : ℕ) → Running bounds splits tables leads s0 d0 known0 out0 s d (remaining (device r)) (contents (device w)) k → k < 1000000000 → IsTurn bounds splits tables leads remaining contents s (Ok (Some how)) d e r r' w w' t
      → IsServed bounds splits tables leads s0.progress.policy d0 e known0 out0 (contents (device w')) (record { how = how; statements = t.progress.statements; first_short = t.progress.first_short })
  served-turn begins s t Quit d e r r' w w' k running below turn =
      let x = turn_ok s t (Some Quit) d e r r' w w' turn in
      let l = Left-after bounds splits tables leads s0 d0 known0 out0 s t d e _ _ _ k x.2.taken x.0 x.2.texts running below x.1.consumed x.1.few x.1.at_end x.2.feeds in
      let over = all_by_line bounds splits tables leads s0 d0 begins l.0.of.all l.0.first l.0.later t e _ l.0.fed x.2.stops.1 x.2.stops.2 in
      served bounds splits tables leads s0 d0 known0 out0 begins t e _ _ _ Quit l.0 (Appends-trans _ _ _ running.texts x.2.texts running.sent x.2.sent) x.2.stops.0 (over.0, ap (λ (b : Bool). cond b Quit InputEnded) (sym over.1))
  served-turn begins s t InputEnded d e r r' w w' k running below turn =
      let x = turn_ok s t (Some InputEnded) d e r r' w w' turn in
      let l = Left-after bounds splits tables leads s0 d0 known0 out0 s t d e _ _ _ k x.2.taken x.0 x.2.texts running below x.1.consumed x.1.few x.1.at_end x.2.feeds in
      let one : length (fed_by x.0) ≡ 1 = ap (λ (b : List ℕ). length (fed_by b)) x.2.stops.3 in
      let within = x.2.within in
      let none = x.2.stops.0 in
      let all : x.2.taken ≡ 1 = omega (arith, one, within, none) in
      let over = all_by_input bounds splits tables leads s0 d0 begins l.0.of.all l.0.first l.0.later t e _ l.0.fed (l.1 x.2.stops.3 ∙ ap (λ (n : ℕ). drop n (10 ∷ [])) all) x.2.stops.2 in
      served bounds splits tables leads s0 d0 known0 out0 begins t e _ _ _ InputEnded l.0 (Appends-trans _ _ _ running.texts x.2.texts running.sent x.2.sent) x.2.stops.1 (over.0, ap (λ (b : Bool). cond b Quit InputEnded) (sym over.1))

  -- no more is read, or a read fails
  pub cut-before : (begins : IsNewSession s0) (s : SessionState) (d : D) (known known' out : Option (List ℕ)) (k : ℕ) (refusal : Refusal) → Running bounds splits tables leads s0 d0 known0 out0 s d known out k → k ≤ 1000000000 → Keeps known known'
      → IsCutOff bounds splits tables leads s0.progress.policy d0 d known0 known' out0 out (record { refusal = refusal; done = s.progress.statements; first_short = s.progress.first_short })
  cut-before begins s d known known' out k refusal running few kept =
      let l = Left-before bounds splits tables leads s0 d0 known0 out0 s d known known' out k running few kept in
      cut bounds splits tables leads s0 d0 known0 out0 begins s d known' out running.texts refusal l.0 running.texts [] running.sent (sym (append-nil running.texts)) (omega arith) (λ is. (l.1, refl, running.wants))

  pub cut-turn : (begins : IsNewSession s0) (s t : SessionState) (refusal : Refusal) (d e : D) (r r' : Watched R) (w w' : Watched W) (k : ℕ) → Running bounds splits tables leads s0 d0 known0 out0 s d (remaining (device r)) (contents (device w)) k → k < 1000000000 → IsTurn bounds splits tables leads remaining contents s (Err refusal) d e r r' w w' t
      → IsCutOff bounds splits tables leads s0.progress.policy d0 e known0 (remaining (device r')) out0 (contents (device w')) (record { refusal = refusal; done = t.progress.statements; first_short = t.progress.first_short })
  cut-turn begins s t refusal d e r r' w w' k running below turn = by_case turn.is
    where
      Goal : Type 0
      Goal = IsCutOff bounds splits tables leads s0.progress.policy d0 e known0 (remaining (device r')) out0 (contents (device w')) (record { refusal = refusal; done = t.progress.statements; first_short = t.progress.first_short })

      by_case : ((bytes : List ℕ) × ReadsOnce remaining r r' bytes × Sends bounds splits tables leads contents (λ how left s. StopsAs how bytes left s) s (fed_by bytes) (Err refusal) d e w w' t) ⊎ ((◌≡◌ {A = Result (Option How) Refusal} (Err refusal) (Err ReadFault)) × (has_failed r' ≡ true) × Keeps (remaining (device r)) (remaining (device r')) × (t ≡ s) × (e ≡ d) × (w' ≡ w)) → Goal
      by_case (inl x) =
          let l = Left-after bounds splits tables leads s0 d0 known0 out0 s t d e _ _ _ k x.2.taken x.0 x.2.texts running below x.1.consumed x.1.few x.1.at_end x.2.feeds in
          let all = running.texts ++ x.2.texts in
          let first = IsSentFirst-then out0 (contents (device w)) (contents (device w')) running.texts x.2.texts running.sent x.2.err.2 in
          let long = length-drop first.0 all in
          let most = first.2 in
          cut bounds splits tables leads s0 d0 known0 out0 begins t e _ _ all refusal l.0 (take first.0 all) (drop first.0 all) first.1 (sym (take-append-drop first.0 all)) (omega (arith, long, most))
          (λ is. absurd (let both : ◌≡◌ {A = Refusal} WriteFault ReadFault = sym x.2.err.0 ∙ is in cc))
      by_case (inr x) =
          let here = cut-before begins s d (remaining (device r)) (remaining (device r')) (contents (device w)) k refusal running (omega (arith, below)) x.2 in
          let at_state = subst (λ (z : SessionState). IsCutOff bounds splits tables leads s0.progress.policy d0 d known0 (remaining (device r')) out0 (contents (device w)) (record { refusal = refusal; done = z.progress.statements; first_short = z.progress.first_short })) (sym x.3) here in
          let at_desk = subst (λ (z : D). IsCutOff bounds splits tables leads s0.progress.policy d0 z known0 (remaining (device r')) out0 (contents (device w)) (record { refusal = refusal; done = t.progress.statements; first_short = t.progress.first_short })) (sym x.4) at_state in
          subst (λ (z : Watched W). IsCutOff bounds splits tables leads s0.progress.policy d0 e known0 (remaining (device r')) out0 (contents (device z)) (record { refusal = refusal; done = t.progress.statements; first_short = t.progress.first_short })) (sym x.5) at_desk
