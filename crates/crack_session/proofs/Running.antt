-- A session over a reader and a writer: what it has read, answered and sent.
use Rattle.std.proofs.Common.{◌≡◌, ℕ, ◌+◌, ◌-◌, ◌*◌, ◌^◌, ◌<◌, ◌≤◌, min, Option, Some, None, List, [], ◌∷◌, ◌++◌, length, map, take, drop, refl, sym, ap, ◌∙◌, subst, arith, append_assoc, append-nil, length-append, length-take, take-append-drop}
use Rattle.std.proofs.KnownBytes.{Appends-trans, Appends-nil, Consumes-trans, Consumes-nil, Consumes-kept}
use Rattle.std.proofs.lemmas.List.{take_all}
use Rattle.std.specs.Io.KnownBytes.{Appends, Consumes, IsAtEnd, Keeps}
use Rattle.crack_row.specs.declared.Bound.{Bound}
use Rattle.crack_plain.specs.Plain.{PlainView}
use Rattle.crack_core.specs.Steps.{Bounds}
use Rattle.crack_session.specs.Calls.{Call}
use Rattle.crack_session.specs.Feeding.{SessionState, Feeds}
use Rattle.crack_session.specs.Turns.{fed_by}
use Rattle.crack_session.proofs.Pieces.{Feeds-none}
use Rattle.crack_session.proofs.Turns.{Feeds-on, Appends-kept}

-- all bytes of a reader, of which these were read: those that it has, if they are known
pub record AllOf (known0 known : Option (List ℕ)) (used : List ℕ) : Type 0 where
  pub all : List ℕ
  pub rest : List ℕ
  pub split : all ≡ used ++ rest
  pub all_is : (a : List ℕ) → known0 ≡ Some a → all ≡ a
  pub rest_is : (a : List ℕ) → known0 ≡ Some a → known ≡ Some rest

pub all_of : (known0 known : Option (List ℕ)) (used : List ℕ) → Consumes known0 known used → AllOf known0 known used
all_of None known used h = record { all = used; rest = []; split = sym (append-nil used); all_is = λ a e. absurd (let both : ◌≡◌ {A = Option (List ℕ)} None (Some a) = e in cc); rest_is = λ a e. absurd (let both : ◌≡◌ {A = Option (List ℕ)} None (Some a) = e in cc) }
all_of (Some x) None used h = absurd h
all_of (Some x) (Some y) used h = record { all = x; rest = y; split = h; all_is = λ a e. cc e; rest_is = λ a e. refl }

-- and none is left
pub all_at_end : (known0 known : Option (List ℕ)) (used : List ℕ) → Consumes known0 known used → IsAtEnd known → AllOf known0 known used × ((a : List ℕ) → known0 ≡ Some a → used ≡ a)
all_at_end None known used h end = (all_of None known used h, λ a e. absurd (let both : ◌≡◌ {A = Option (List ℕ)} None (Some a) = e in cc))
all_at_end (Some x) None used h end = absurd h
all_at_end (Some x) (Some y) used h end = (all_of (Some x) (Some y) used h, λ a e. let whole : used ≡ x = sym (append-nil used) ∙ sym (ap (λ z. used ++ z) end) ∙ sym h in whole ∙ (let same : x ≡ a = cc e in same))

-- the known bytes are as many as were read
pub as_long : (known0 known : Option (List ℕ)) (used : List ℕ) (n : ℕ) → Consumes known0 known used → n ≤ length used → (bytes : List ℕ) → known0 ≡ Some bytes → n ≤ length bytes
as_long known0 known used n h few bytes is =
    let of = all_of known0 known used h in
    let long = length-append used of.rest in
    let all : length bytes ≡ length (used ++ of.rest) = ap length (sym (of.all_is bytes is) ∙ of.split) in
    omega (arith, few, long, all)

-- so many reads were made; their count stops at the greatest number
pub record ReadsMade (first now count : ℕ) : Type 0 where
  pub as_many : min now (2 ^ 64 - 1) ≡ min (first + count) (2 ^ 64 - 1)
  pub within : 0 < count → now ≤ 2 ^ 64 - 1

pub ReadsMade-none : (first : ℕ) → ReadsMade first first 0
ReadsMade-none first = record { as_many = let same : first ≡ first + 0 = omega arith in ap (λ (z : ℕ). min z (2 ^ 64 - 1)) same; within = λ some. absurd (omega (arith, some)) }

pub ReadsMade-more : (first now next count : ℕ) → ReadsMade first now count → next ≡ min (now + 1) (2 ^ 64 - 1) → ReadsMade first next (count + 1)
ReadsMade-more first now next count made is =
    let same = made.as_many in
    record { as_many = omega (arith, same, is); within = λ some. omega (arith, is) }

pub all_made : (first now count n : ℕ) → ReadsMade first now count → count ≡ n → 0 < n → now ≡ min (first + n) (2 ^ 64 - 1)
all_made first now count n made all some =
    let same = made.as_many in
    let few = made.within (omega (arith, all, some)) in
    omega (arith, same, few, all)

pub some_fed : (bytes : List ℕ) → 0 < length bytes → fed_by bytes ≡ bytes
some_fed [] some = absurd (omega (arith, some))
some_fed (b ∷ bs) some = refl

module _ {D : Type 0} (bounds : D → Bounds) (splits : D → List Bound) (tables : D → Option (List PlainView)) (leads : D → Call → D → Type 0) (s0 : SessionState) (d0 : D) (known0 out0 : Option (List ℕ)) where
  -- a session that goes on after so many reads
  pub record Running (s : SessionState) (d : D) (known out : Option (List ℕ)) (count : ℕ) : Type 0 where
    pub bytes : List ℕ
    pub texts : List ℕ
    pub feeds : Feeds bounds splits tables leads s0 bytes d0 d [] texts s
    pub consumed : Consumes known0 known bytes
    pub sent : Appends out0 out texts
    pub wants : s.unwritten ≡ []
    pub goes_on : s.ending ≡ None
    pub most : length bytes ≤ 4096 * count
    pub least : count ≤ length bytes

  pub Running-start : (out : Option (List ℕ)) → s0.unwritten ≡ [] → s0.ending ≡ None → Keeps out0 out → Running s0 d0 known0 out 0
  Running-start out written none kept = record {
    bytes = [];
    texts = [];
    feeds = Feeds-none bounds splits tables leads s0 d0 [];
    consumed = Consumes-nil known0;
    sent = Appends-kept _ _ _ [] (Appends-nil out0) kept;
    wants = written;
    goes_on = none;
    most = omega arith;
    least = omega arith;
  }

  -- one more read, all of which is taken
  pub Running-more : (s t : SessionState) (d e : D) (known known' out out' : Option (List ℕ)) (count n : ℕ) (chunk texts : List ℕ) → Running s d known out count → Consumes known known' chunk → length chunk ≤ 4096 → Feeds bounds splits tables leads s (take n (fed_by chunk)) d e [] texts t → n ≤ length (fed_by chunk) → Appends out out' texts → (length (fed_by chunk) - n ≡ 0) × (t.unwritten ≡ []) × (t.ending ≡ None) × (0 < length chunk) → Running t e known' out' (count + 1)
  Running-more s t d e known known' out out' count n chunk texts r consumed few feeds within sent stops =
      let all : take n (fed_by chunk) ≡ chunk = take_all n (fed_by chunk) (omega (arith, within, stops.0)) ∙ some_fed chunk stops.3 in
      let long = length-append r.bytes chunk in
      let most = r.most in
      let least = r.least in
      let some = stops.3 in
      record {
        bytes = r.bytes ++ chunk;
        texts = r.texts ++ texts;
        feeds = Feeds-on bounds splits tables leads s0 s t r.bytes chunk d0 d e r.texts texts r.feeds (subst (λ (z : List ℕ). Feeds bounds splits tables leads s z d e [] texts t) all feeds);
        consumed = Consumes-trans known0 known known' r.bytes chunk r.consumed consumed;
        sent = Appends-trans out0 out out' r.texts texts r.sent sent;
        wants = stops.1;
        goes_on = stops.2;
        most = omega (arith, long, most, few);
        least = omega (arith, long, least, some);
      }
