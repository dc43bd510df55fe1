use Rattle.std.proofs.Common.{◌≡◌, ◌++◌, ◌∷◌, [], Bool, true, false, length, get_or, set, refl, sym, ap, ◌∙◌, arith, length-set, length-append, ltb-false}
use Rattle.std.proofs.lemmas.List.{append-nil, append_assoc}
use Rattle.crack_row.specs.Ranges.{is_in}
use Rattle.crack_arena.specs.Arena.{Handle, no_handle}
use Rattle.crack_arena.specs.Rows.{key_at}
use Rattle.crack_arena.specs.Memories.{nothing}
use Rattle.crack_arena.proofs.Remembering.{Remembers-append}
use Rattle.crack_pending.proofs.Remembering.{Remembers-remove}
use Rattle.crack_pending.specs.Inside.{IsHit, IsMissed}
use Rattle.crack_pending.specs.Pending.{rows_inside}
use Rattle.crack_pending.specs.Spots.{kept}
use Rattle.crack_pending.specs.Keeps.{place_at}
use Rattle.crack_pending.proofs.Coded.{coded_hole, missed_both}
use Rattle.crack_pending.proofs.Kept.{Stands-within, kept-hole, place_at-few, place_at-hole_before}
use Rattle.crack_pending.proofs.Searches.{is_in-true, is_in-false}
use Rattle.crack_pending.proofs.Taken.{stood, inside-hole, outside-hole, none-inside}
use Rattle.crack_pending.proofs.Unknown.{counted_hole, counted_none, counted_some}
use Rattle.crack_pending.proofs.Views.{KnowRows-kept, place-within}
use Rattle.crack_pending.proofs.taking.take_hits.Goals as goal
use Rattle.crack_pending.proofs.taking.take_hits.Goals.{After-handle}

pub hits-init : goal.hits-init
hits-init c =
    let a = c.args in
    let coded = c.take_coded-start.ensures in
    let passed = coded.passed in
    record {
      within = passed.within;
      missed = passed.missed;
      taken = refl;
      outside = refl;
      gone = passed.gone_are;
      known = passed.known;
      unknowns = passed.unknowns_are;
      coded = passed.coded;
      stood = λ spot there. there;
      long = refl;
      capacity = refl;
      counted = refl;
      room = omega (arith, ap length passed.taken_are, length-append c.take_coded-start.new.taken.items (rows_inside a.arena.now.cells a.range (kept c.take_coded-start.new.stands.items a.tags.now.handles)), length-append a.taken.now.items (rows_inside a.arena.now.cells a.range (kept a.stands.now.items a.tags.now.handles)), coded.room, c.requires.room);
      known_room = omega (arith, ap length passed.taken_are, length-append c.take_coded-start.new.taken.items (rows_inside a.arena.now.cells a.range (kept c.take_coded-start.new.stands.items a.tags.now.handles)), length-append a.taken.now.items (rows_inside a.arena.now.cells a.range (kept a.stands.now.items a.tags.now.handles)), passed.gone_are.beside, c.requires.remembered.beside, coded.known_room, c.requires.known_room);
    }

pub next_hit-requires-clause-stands : goal.next_hit-requires-clause-stands
next_hit-requires-clause-stands c = omega (arith, c.deref.ensures.len, c.hits.invariant.long, c.take_coded-start.ensures.passed.long, c.requires.stands)

pub next_hit-requires-clause-known : goal.next_hit-requires-clause-known
next_hit-requires-clause-known c =
    let a = c.args in
    let i = c.hits.invariant in
    rw (c.deref.ensures.value) (KnowRows-kept a.arena.now.cells a.tags.now.handles a.tags.now.remembered c.hits.stands.items (omega (arith, i.long, c.take_coded-start.ensures.passed.long, c.requires.stands)) c.requires.remembered_beside i.known)

pub next_hit-requires-clause-all_known : goal.next_hit-requires-clause-all_known
next_hit-requires-clause-all_known c = λ none.
    let i = c.hits.invariant in
    let zero : c.hits.left.unknowns ≡ 0 = omega (arith, ltb-false 0 c.hits.left.unknowns none) in
    rw (c.deref.ensures.value) (counted_none c.args.tags.now.remembered c.hits.stands.items (omega (arith, i.long, c.take_coded-start.ensures.passed.long, c.requires.stands, c.requires.remembered_beside)) (omega (arith, i.unknowns, zero)))

-- the row at the spot that was found is the first of the range
record IsTaken (c : After-handle) : Type 0 where
  hit : IsHit c.args.range c.args.arena.now.cells c.args.tags.now.handles c.hits.stands.items c.hits.start (length c.args.tags.now.handles) c.in-Some.spot
  beside : length c.hits.stands.items ≡ length c.args.tags.now.handles
  remembered_beside : length c.hits.stands.items ≡ length c.args.tags.now.remembered
  missed : IsMissed c.args.range c.args.arena.now.cells c.args.tags.now.handles c.hits.stands.items 0 c.in-Some.spot
  inside : rows_inside c.args.arena.now.cells c.args.range (kept c.hits.stands.items c.args.tags.now.handles) ≡ c.handle.result ∷ rows_inside c.args.arena.now.cells c.args.range (kept (set c.hits.stands.items c.in-Some.spot false) c.args.tags.now.handles)

is_taken : (c : After-handle) → IsTaken c
is_taken c =
    let a = c.args in
    let cells = a.arena.now.cells in
    let hs = a.tags.now.handles in
    let stands = c.hits.stands.items in
    let spot = c.in-Some.spot in
    let i = c.hits.invariant in
    let hit : IsHit a.range cells hs stands c.hits.start (length hs) spot = rw (c.deref.ensures.value) at c.in-Some.ensures.hit in
    let beside : length stands ≡ length hs = omega (arith, i.long, c.take_coded-start.ensures.passed.long, c.requires.stands) in
    let missed : IsMissed a.range cells hs stands 0 spot = missed_both a.range cells hs stands 0 c.hits.start spot i.missed hit.before in
    let test : Handle → Bool = λ h. is_in a.range (key_at cells h) in
    let is : test (get_or hs spot no_handle) ≡ true = is_in-true a.range (key_at cells (get_or hs spot no_handle)) hit.holds in
    let first = inside-hole test stands hs spot no_handle beside hit.stands_there is (λ k less there. is_in-false a.range (key_at cells (get_or hs k no_handle)) (missed k (omega arith) less there)) in
    let same : get_or hs spot no_handle ≡ c.handle.result = sym c.handle.ensures in
    record {
      hit = hit;
      beside = beside;
      remembered_beside = omega (arith, beside, c.requires.remembered_beside);
      missed = missed;
      inside = first ∙ ap (λ h. h ∷ rows_inside cells a.range (kept (set stands spot false) hs)) same;
    }

pub push_reserved-requires : goal.push_reserved-requires
push_reserved-requires c =
    let it = is_taken (goal.at.push_reserved-requires c).After-handle in
    omega (arith, ap length it.inside, c.hits.invariant.room)

pub push_reserved-requires-in-Some : goal.push_reserved-requires-in-Some
push_reserved-requires-in-Some c =
    let it = is_taken (goal.at.push_reserved-requires-in-Some c).After-handle in
    omega (arith, ap length it.inside, c.hits.invariant.known_room)

pub unknowns_without-requires-clause-counted : goal.unknowns_without-requires-clause-counted
unknowns_without-requires-clause-counted c = λ is.
    let it = is_taken (goal.at.unknowns_without-requires-clause-counted c).After-handle in
    omega (arith, c.hits.invariant.unknowns, counted_some c.args.tags.now.remembered c.hits.stands.items it.remembered_beside c.in-Some.spot it.hit.stands_there is)

pub overflow_add-left : goal.overflow_add-left
overflow_add-left c =
    let first = c.args.stands.now.items in
    record { fits = omega (arith, c.hits.invariant.counted, c.take_coded-start.ensures.passed.counted, place_at-few first (length first), c.take_coded-start.ensures.passed.long, c.requires.stands, c.requires.few) }

pub hits-smaller : goal.hits-smaller
hits-smaller c =
    let it = is_taken (goal.at.hits-smaller c).After-handle in
    omega (arith, it.hit.after, it.hit.within)

pub hits-preserved : goal.hits-preserved
hits-preserved c =
    let a = c.args in
    let cells = a.arena.now.cells in
    let hs = a.tags.now.handles in
    let remembered = a.tags.now.remembered in
    let stands = c.hits.stands.items in
    let spot = c.in-Some.spot in
    let i = c.hits.invariant in
    let it = is_taken (goal.at.hits-preserved c).After-handle in
    let at = it.hit.stands_there in
    let test : Handle → Bool = λ h. is_in a.range (key_at cells h) in
    let left = kept (set stands spot false) hs in
    let same : get_or hs spot no_handle ≡ c.handle.result = sym c.handle.ensures in
    let memory : get_or remembered spot nothing ≡ c.memory.result = sym c.memory.ensures in
    let hole : left ≡ _ = kept-hole stands hs spot it.beside at in
    let key_hole = kept-hole stands remembered spot it.remembered_beside at in
    record {
      within = omega (arith, it.hit.within);
      missed = λ k after before there.
          let other = stood stands spot k at there in
          it.missed k after (omega (arith, before, other.0)) other.1;
      taken = rw (c.push_reserved.ensures.items) (append_assoc c.hits.taken.items (c.handle.result ∷ []) (rows_inside cells a.range left) ∙ ap (λ xs. c.hits.taken.items ++ xs) (sym it.inside) ∙ i.taken);
      outside = outside-hole test stands hs spot no_handle it.beside at (is_in-true a.range (key_at cells (get_or hs spot no_handle)) it.hit.holds) ∙ i.outside;
      gone = rw (c.push_reserved.ensures.items, c.push_reserved-in-Some.ensures.items) (rw (same, memory) at (Remembers-append cells c.hits.taken.items c.hits.known.items (get_or hs spot no_handle) (get_or remembered spot nothing) (KnowRows-kept cells hs remembered stands it.beside c.requires.remembered_beside i.known spot at) i.gone));
      known = rw (hole, key_hole) (Remembers-remove cells (kept stands hs) (kept stands remembered) (place_at stands spot) (place-within hs stands it.beside spot at) i.known);
      unknowns = omega (arith, c.unknowns_without.ensures, counted_hole remembered stands it.remembered_beside spot at, i.unknowns);
      coded = rw (c.leave_hole.ensures, c.next_hit.ensures.same) (coded_hole remembered stands c.hits.codes i.coded spot at);
      stood = λ k there. i.stood k (stood stands spot k at there).1;
      long = length-set stands spot false ∙ i.long;
      capacity = i.capacity;
      counted = rw (length-set stands spot false) (omega (arith, place_at-hole_before stands spot (length stands) at (Stands-within stands spot at), i.counted));
      room = omega (arith, c.push_reserved.ensures.len, c.push_reserved.ensures.capacity, ap length it.inside, i.room);
      known_room = omega (arith, c.push_reserved-in-Some.ensures.len, c.push_reserved-in-Some.ensures.capacity, ap length it.inside, i.known_room);
    }

pub returns-clause-taken : goal.returns-clause-taken
returns-clause-taken c =
    let a = c.args in
    let cells = a.arena.now.cells in
    let hs = a.tags.now.handles in
    let stands = c.hits.stands.items in
    let i = c.hits.invariant in
    let rest : IsMissed a.range cells hs stands c.hits.start (length hs) = rw (c.deref.ensures.value) at c.in_default.ensures.hit in
    let missed = missed_both a.range cells hs stands 0 c.hits.start (length hs) i.missed rest in
    let test : Handle → Bool = λ h. is_in a.range (key_at cells h) in
    let none = none-inside test stands hs no_handle (omega (arith, i.long, c.take_coded-start.ensures.passed.long, c.requires.stands)) (λ k less there. is_in-false a.range (key_at cells (get_or hs k no_handle)) (missed k (omega arith) less there)) in
    sym (append-nil c.hits.taken.items) ∙ ap (λ xs. c.hits.taken.items ++ xs) (sym none.0) ∙ i.taken ∙ c.take_coded-start.ensures.passed.taken_are

pub returns-clause-left : goal.returns-clause-left
returns-clause-left c =
    let a = c.args in
    let cells = a.arena.now.cells in
    let hs = a.tags.now.handles in
    let stands = c.hits.stands.items in
    let i = c.hits.invariant in
    let rest : IsMissed a.range cells hs stands c.hits.start (length hs) = rw (c.deref.ensures.value) at c.in_default.ensures.hit in
    let missed = missed_both a.range cells hs stands 0 c.hits.start (length hs) i.missed rest in
    let test : Handle → Bool = λ h. is_in a.range (key_at cells h) in
    let none = none-inside test stands hs no_handle (omega (arith, i.long, c.take_coded-start.ensures.passed.long, c.requires.stands)) (λ k less there. is_in-false a.range (key_at cells (get_or hs k no_handle)) (missed k (omega arith) less there)) in
    sym none.1 ∙ i.outside ∙ c.take_coded-start.ensures.passed.outside

pub returns-clause-stood : goal.returns-clause-stood
returns-clause-stood c = λ spot there. c.take_coded-start.ensures.passed.stood spot (c.hits.invariant.stood spot there)

pub returns-clause-long : goal.returns-clause-long
returns-clause-long c = c.hits.invariant.long ∙ c.take_coded-start.ensures.passed.long

pub returns-clause-capacity : goal.returns-clause-capacity
returns-clause-capacity c = c.hits.invariant.capacity ∙ c.take_coded-start.ensures.capacity

pub returns-clause-counted : goal.returns-clause-counted
returns-clause-counted c = omega (arith, c.hits.invariant.counted, c.take_coded-start.ensures.passed.counted)
