-- A session is fed in rounds, and the texts are written.
use Rattle.std.proofs.Common.{◌≡◌, ℕ, suc, zero, ◌+◌, ◌-◌, ◌<◌, ◌≤◌, true, false, Option, Some, None, Result, Ok, Err, List, [], ◌∷◌, ◌++◌, length, map, take, drop, refl, sym, ap, ◌∙◌, subst, arith, append_assoc, append-nil, length-append, length-drop}
use Rattle.std.proofs.KnownBytes.{Appends-trans, Appends-nil}
use Rattle.std.proofs.Math.Seq.{take-append-add}
use Rattle.std.proofs.lemmas.Bool.{false≢true}
use Rattle.std.proofs.lemmas.List.{take_all}
use Rattle.std.specs.Io.KnownBytes.{Appends, Keeps}
use Rattle.std.specs.List.{concat}
use Rattle.crack_row.specs.Devices.{device, has_failed}
use Rattle.crack_row.specs.declared.Bound.{Bound}
use Rattle.crack_row.specs.declared.command.Policy.{Policy}
use Rattle.crack_row.specs.declared.refusal.Refusal.{Refusal}
use Rattle.crack_row.specs.declared.refusal.Refusal.TheVariants.{WriteFault}
use Rattle.crack_row.specs.declared.watched.Watched.{Watched}
use Rattle.crack_plain.specs.Plain.{PlainView}
use Rattle.crack_commands.specs.Grammar.{Reading}
use Rattle.crack_commands.specs.Texts.{Writes}
use Rattle.crack_core.specs.Steps.{Bounds}
use Rattle.crack_session.specs.declared.answer.Answer.{Answer}
use Rattle.crack_session.specs.declared.feeding.Why.{Why}
use Rattle.crack_session.specs.declared.feeding.Why.TheVariants.{Wants, Full, Quit as QuitSaid, Refused}
use Rattle.crack_session.specs.Answers.{answer_text}
use Rattle.crack_session.specs.Calls.{Call, AreAnswersOf}
use Rattle.crack_session.specs.Feeding.{SessionState, AnswersAll, Feeds, StoppedFor}
use Rattle.crack_session.specs.Rounds.{IsRound, has_stopped}
use Rattle.crack_session.specs.Turns.{IsSentFirst, Sends}
use Rattle.crack_session.proofs.Pieces.{Feeds-then, Feeds-none}

-- texts that are written, and then the first of others
pub IsSentFirst-then : (a b c : Option (List ℕ)) (xs ys : List ℕ) → Appends a b xs → IsSentFirst b c ys → IsSentFirst a c (xs ++ ys)
IsSentFirst-then a b c xs ys whole (n, wrote, few) =
    let long = length-append xs ys in
    let both : take (length xs + n) (xs ++ ys) ≡ xs ++ take n ys = take-append-add xs ys n in
    (length xs + n, subst (Appends a c) (sym both) (Appends-trans a b c xs (take n ys) whole wrote), omega (arith, few, long))

-- what was written stays
pub Appends-kept : (a b c : Option (List ℕ)) (xs : List ℕ) → Appends a b xs → Keeps b c → Appends a c xs
Appends-kept None b c xs h k = tt
Appends-kept (Some x) None c xs h k = absurd h
Appends-kept (Some x) (Some y) None xs h k = absurd k
Appends-kept (Some x) (Some y) (Some z) xs h k = k ∙ h

-- no statement has an answer
pub none_answered : {D : Type 0} (leads : D → Call → D → Type 0) (splits : List Bound) (policy : Policy) (d e : D) (answers : List Answer) → AreAnswersOf leads splits policy d e [] answers → answers ≡ []
none_answered leads splits policy d e [] made = refl
none_answered leads splits policy d e (a ∷ answers) made = absurd made.2

module _ {D : Type 0} (bounds : D → Bounds) (splits : D → List Bound) (tables : D → Option (List PlainView)) (leads : D → Call → D → Type 0) where
  -- after other output
  pub Feeds-after : (s t : SessionState) (xs : List ℕ) (d e : D) (w p : List ℕ) → Feeds bounds splits tables leads s xs d e [] p t → Feeds bounds splits tables leads s xs d e w (w ++ p) t
  Feeds-after s t xs d e w p a =
      let was = a.answered in
      record {
        answered = record {
          answers = was.answers;
          made = was.made;
          if_known = was.if_known;
          bounds_are = was.bounds_are;
          splits_are = was.splits_are;
          progress_is = was.progress_is;
          added = was.added;
          out_is = ap (λ o. w ++ o) was.out_is;
          texts_are = was.texts_are;
          left_is = was.left_is;
          ending_is = was.ending_is;
        };
        begun_is = a.begun_is;
        last = a.last;
        none_after = a.none_after;
      }

  -- bytes are fed, and then others, to output that is cleared in between
  pub Feeds-on : (s0 s1 s2 : SessionState) (xs ys : List ℕ) (d0 d1 d2 : D) (p q : List ℕ) → Feeds bounds splits tables leads s0 xs d0 d1 [] p s1 → Feeds bounds splits tables leads s1 ys d1 d2 [] q s2 → Feeds bounds splits tables leads s0 (xs ++ ys) d0 d2 [] (p ++ q) s2
  Feeds-on s0 s1 s2 xs ys d0 d1 d2 p q a b = Feeds-then bounds splits tables leads s0 s1 s2 xs ys d0 d1 d2 [] p (p ++ q) a (Feeds-after s1 s2 ys d1 d2 p q b)

  -- no bytes are fed: only what was left of a text is appended
  pub texts_of_none : (s t : SessionState) (d e : D) (p : List ℕ) → Feeds bounds splits tables leads s [] d e [] p t → length s.unwritten ≡ length p + length t.unwritten
  texts_of_none s t d e p a =
      let was = a.answered in
      let none : was.answers ≡ [] = none_answered leads (splits d) s.progress.policy d e was.answers was.made in
      let texts : s.unwritten ≡ was.added ++ t.unwritten = sym (append-nil s.unwritten) ∙ sym (ap (λ (given : List Answer). s.unwritten ++ concat (map answer_text given)) none) ∙ was.texts_are in
      ap length texts ∙ length-append was.added t.unwritten ∙ ap (λ (o : List ℕ). length o + length t.unwritten) (sym was.out_is)

-- why a session stopped
pub full_stop : (why : Why) (left : ℕ) (texts : List ℕ) (s : SessionState) → has_stopped why ≡ false → StoppedFor why left texts s → 0 < length texts
full_stop Wants left texts s is stops = absurd (false≢true (sym is))
full_stop Full left texts s is stops = omega (arith, stops)
full_stop QuitSaid left texts s is stops = absurd (false≢true (sym is))
full_stop Refused left texts s is stops = absurd (false≢true (sym is))

pub other_stop : (why : Why) (left : ℕ) (texts : List ℕ) (s : SessionState) → has_stopped why ≡ true → StoppedFor why left texts s → StoppedFor why left [] s
other_stop Wants left texts s is stops = stops
other_stop Full left texts s is stops = absurd (false≢true is)
other_stop QuitSaid left texts s is stops = stops
other_stop Refused left texts s is stops = stops

pub written_stop : (why : Why) (left : ℕ) (texts : List ℕ) (s : SessionState) → has_stopped why ≡ true → StoppedFor why left texts s → s.unwritten ≡ []
written_stop Wants left texts s is stops = stops.1
written_stop Full left texts s is stops = absurd (false≢true is)
written_stop QuitSaid left texts s is stops = stops.0
written_stop Refused left texts s is stops = stops.0

-- the first of no bytes
abbrev none_at_all : List ℕ
none_at_all = []

pub take_none : (n : ℕ) → take n none_at_all ≡ []
take_none n = take_all n none_at_all (omega arith)

module _ {D W : Type 0} (bounds : D → Bounds) (splits : D → List Bound) (tables : D → Option (List PlainView)) (leads : D → Call → D → Type 0) (contents : W → Option (List ℕ)) where
  -- these bytes were fed, and the texts were written
  pub record IsSent (s0 : SessionState) (xs : List ℕ) (d0 d : D) (w0 w : Watched W) (s : SessionState) : Type 0 where
    pub texts : List ℕ
    pub feeds : Feeds bounds splits tables leads s0 xs d0 d [] texts s
    pub sent : Appends (contents (device w0)) (contents (device w)) texts
    pub unfailed : has_failed w ≡ has_failed w0

  pub IsSent-none : (s : SessionState) (d : D) (w : Watched W) → IsSent s [] d d w w s
  IsSent-none s d w = record { texts = []; feeds = Feeds-none bounds splits tables leads s d []; sent = Appends-nil (contents (device w)); unfailed = refl }

  -- one more round
  pub IsSent-round : (s0 s1 s2 : SessionState) (xs rest zs : List ℕ) (n : ℕ) (why : Why) (r : Result (Unit {0}) Refusal) (d0 d1 d2 : D) (w0 w1 w2 : Watched W) → IsSent s0 xs d0 d1 w0 w1 s1 → IsRound bounds splits tables leads contents s1 rest n why r d1 d2 w1 w2 s2 → r ≡ Ok tt → xs ++ take n rest ≡ zs → IsSent s0 zs d0 d2 w0 w2 s2
  IsSent-round s0 s1 s2 xs rest zs n why r d0 d1 d2 w0 w1 w2 so_far round is same =
      let writes = subst (λ (r : Result (Unit {0}) Refusal). Writes contents round.texts r w1 w2) is round.writes in
      record {
        texts = so_far.texts ++ round.texts;
        feeds = subst (λ (z : List ℕ). Feeds bounds splits tables leads s0 z d0 d2 [] (so_far.texts ++ round.texts) s2) same (Feeds-on bounds splits tables leads s0 s1 s2 xs (take n rest) d0 d1 d2 so_far.texts round.texts so_far.feeds round.feeds);
        sent = Appends-trans _ _ _ so_far.texts round.texts so_far.sent writes.ok;
        unfailed = writes.unfailed ∙ so_far.unfailed;
      }

  -- or what was left of a text
  pub IsSent-rest : {X : Type 0} (Stops : X → ℕ → SessionState → Type 0) (x : X) (s0 s1 s2 : SessionState) (xs : List ℕ) (d0 d1 d2 : D) (w0 w1 w2 : Watched W) → IsSent s0 xs d0 d1 w0 w1 s1 → Sends bounds splits tables leads contents Stops s1 [] (Ok x) d1 d2 w1 w2 s2 → IsSent s0 xs d0 d2 w0 w2 s2
  IsSent-rest Stops x s0 s1 s2 xs d0 d1 d2 w0 w1 w2 so_far more =
      let same : xs ++ take more.taken [] ≡ xs = ap (λ z. xs ++ z) (take_none more.taken) ∙ append-nil xs in
      record {
        texts = so_far.texts ++ more.texts;
        feeds = subst (λ (z : List ℕ). Feeds bounds splits tables leads s0 z d0 d2 [] (so_far.texts ++ more.texts) s2) same (Feeds-on bounds splits tables leads s0 s1 s2 xs (take more.taken []) d0 d1 d2 so_far.texts more.texts so_far.feeds more.feeds);
        sent = Appends-trans _ _ _ so_far.texts more.texts so_far.sent more.sent;
        unfailed = more.unfailed ∙ so_far.unfailed;
      }

  -- all is sent, and the session stopped
  pub Sends-all : {X : Type 0} (Stops : X → ℕ → SessionState → Type 0) (x : X) (s0 s : SessionState) (bytes : List ℕ) (k : ℕ) (d0 d : D) (w0 w : Watched W) → IsSent s0 (take k bytes) d0 d w0 w s → k ≤ length bytes → Stops x (length bytes - k) s → Sends bounds splits tables leads contents Stops s0 bytes (Ok x) d0 d w0 w s
  Sends-all Stops x s0 s bytes k d0 d w0 w so_far within stops =
      record { taken = k; within = within; texts = so_far.texts; feeds = so_far.feeds; stops = stops; sent = so_far.sent; unfailed = so_far.unfailed; err = tt }

  -- the writer fails in a round
  pub Sends-failed : {X : Type 0} (Stops : X → ℕ → SessionState → Type 0) (s0 s1 s2 : SessionState) (xs rest bytes : List ℕ) (k n : ℕ) (why : Why) (r : Result (Unit {0}) Refusal) (e : Refusal) (d0 d1 d2 : D) (w0 w1 w2 : Watched W) → IsSent s0 xs d0 d1 w0 w1 s1 → IsRound bounds splits tables leads contents s1 rest n why r d1 d2 w1 w2 s2 → r ≡ Err e → xs ++ take n rest ≡ take k bytes → k ≤ length bytes → Sends bounds splits tables leads contents Stops s0 bytes (Err e) d0 d2 w0 w2 s2
  Sends-failed Stops s0 s1 s2 xs rest bytes k n why r e d0 d1 d2 w0 w1 w2 so_far round is same within =
      let writes = subst (λ (r : Result (Unit {0}) Refusal). Writes contents round.texts r w1 w2) is round.writes in
      record {
        taken = k;
        within = within;
        texts = so_far.texts ++ round.texts;
        feeds = subst (λ (z : List ℕ). Feeds bounds splits tables leads s0 z d0 d2 [] (so_far.texts ++ round.texts) s2) same (Feeds-on bounds splits tables leads s0 s1 s2 xs (take n rest) d0 d1 d2 so_far.texts round.texts so_far.feeds round.feeds);
        stops = tt;
        sent = tt;
        unfailed = tt;
        err = (writes.err.0, writes.err.1, IsSentFirst-then _ _ _ so_far.texts round.texts so_far.sent (writes.front.0, writes.front.2, let few = round.few in omega (arith, few)));
      }

  -- or in what was left of a text
  pub Sends-failed_rest : {X Y : Type 0} (Stops : X → ℕ → SessionState → Type 0) (Before : Y → ℕ → SessionState → Type 0) (s0 s1 s2 : SessionState) (bytes : List ℕ) (k : ℕ) (e : Refusal) (d0 d1 d2 : D) (w0 w1 w2 : Watched W) → IsSent s0 (take k bytes) d0 d1 w0 w1 s1 → Sends bounds splits tables leads contents Before s1 [] (Err e) d1 d2 w1 w2 s2 → k ≤ length bytes → Sends bounds splits tables leads contents Stops s0 bytes (Err e) d0 d2 w0 w2 s2
  Sends-failed_rest Stops Before s0 s1 s2 bytes k e d0 d1 d2 w0 w1 w2 so_far more within =
      let xs = take k bytes in
      let same : xs ++ take more.taken [] ≡ xs = ap (λ z. xs ++ z) (take_none more.taken) ∙ append-nil xs in
      record {
        taken = k;
        within = within;
        texts = so_far.texts ++ more.texts;
        feeds = subst (λ (z : List ℕ). Feeds bounds splits tables leads s0 z d0 d2 [] (so_far.texts ++ more.texts) s2) same (Feeds-on bounds splits tables leads s0 s1 s2 xs (take more.taken []) d0 d1 d2 so_far.texts more.texts so_far.feeds more.feeds);
        stops = tt;
        sent = tt;
        unfailed = tt;
        err = (more.err.0, more.err.1, IsSentFirst-then _ _ _ so_far.texts more.texts so_far.sent more.err.2);
      }

  -- a round without bytes that stops for want of room shortens what is left
  pub round_shortens : (s t : SessionState) (n : ℕ) (why : Why) (r : Result (Unit {0}) Refusal) (d e : D) (w v : Watched W) → IsRound bounds splits tables leads contents s [] n why r d e w v t → has_stopped why ≡ false → length t.unwritten < length s.unwritten
  round_shortens s t n why r d e w v round full =
      let fed = subst (λ (z : List ℕ). Feeds bounds splits tables leads s z d e [] round.texts t) (take_none n) round.feeds in
      let texts = texts_of_none bounds splits tables leads s t d e round.texts fed in
      let some = full_stop why _ round.texts t full round.stops in
      omega (arith, texts, some)

  -- and one with nothing left takes bytes
  pub round_takes : (s t : SessionState) (rest : List ℕ) (n : ℕ) (why : Why) (r : Result (Unit {0}) Refusal) (d e : D) (w v : Watched W) → IsRound bounds splits tables leads contents s rest n why r d e w v t → s.unwritten ≡ [] → has_stopped why ≡ false → 0 < n
  round_takes s t rest zero why r d e w v round none full =
      let texts = texts_of_none bounds splits tables leads s t d e round.texts round.feeds in
      let some = full_stop why _ round.texts t full round.stops in
      let zero_long : length s.unwritten ≡ 0 = ap length none in
      absurd (omega (arith, texts, some, zero_long))
  round_takes s t rest (suc n) why r d e w v round none full = omega arith

  -- a round takes no more bytes than there are
  pub round_within : (s t : SessionState) (bytes : List ℕ) (k n : ℕ) (why : Why) (r : Result (Unit {0}) Refusal) (d e : D) (w v : Watched W) → IsRound bounds splits tables leads contents s (drop k bytes) n why r d e w v t → k ≤ length bytes → k + n ≤ length bytes
  round_within s t bytes k n why r d e w v round few = let most = round.within in let long = length-drop k bytes in omega (arith, most, few, long)

  -- all is sent, and the writer fails to flush it
  pub Sends-unflushed : {X Y : Type 0} (Stops : X → ℕ → SessionState → Type 0) (Before : Y → ℕ → SessionState → Type 0) (y : Y) (e : Refusal) (s t : SessionState) (bytes : List ℕ) (d d' : D) (w v u : Watched W) → Sends bounds splits tables leads contents Before s bytes (Ok y) d d' w v t → Keeps (contents (device v)) (contents (device u)) → (e ≡ WriteFault) × (has_failed u ≡ true) → Sends bounds splits tables leads contents Stops s bytes (Err e) d d' w u t
  Sends-unflushed Stops Before y e s t bytes d d' w v u all kept failed =
      let sent = Appends-kept _ _ _ all.texts all.sent kept in
      record {
        taken = all.taken;
        within = all.within;
        texts = all.texts;
        feeds = all.feeds;
        stops = tt;
        sent = tt;
        unfailed = tt;
        err = (failed.0, failed.1, (length all.texts, subst (Appends _ _) (sym (take_all (length all.texts) all.texts (omega arith))) sent, omega arith));
      }
