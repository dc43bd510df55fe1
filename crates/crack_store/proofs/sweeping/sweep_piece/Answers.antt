use mir.Val.{bool_byte}
use Rattle.std.proofs.Common.{◌≡◌, ℕ, ◌<◌, ◌≤◌, Bool, true, false, cond, length, nat_lt, get_or, take, drop, refl, sym, ap, ◌∙◌, arith}
use Rattle.std.specs.List.{between}
use Rattle.std.proofs.lemmas.Bool.{lt-ltb, le-ltb}
use Rattle.crack_arena.specs.Arena.{no_handle}
use Rattle.crack_arena.specs.Rows.{key_at}
use Rattle.crack_state.specs.Sweeps.{goes_on, is_lower}
use Rattle.crack_column.specs.Column.{Column, swapped}
use Rattle.crack_store.specs.Sweepings.{ends_in, up_to}
use Rattle.crack_store.proofs.SweepLemmas.{IsOn-start, IsOn-by, IsOn-turn, IsOn-round, counted-end, next-of, turned-goes, four, length-swapped}
use Rattle.crack_store.proofs.sweeping.sweep_piece.Goals.{then-not-turns, else-not-turns+then-front-end, else-not-turns+else-front-end}
use Rattle.crack_store.proofs.sweeping.sweep_piece.Goals as goal

-- a flag as a number
counts-as : (b : Bool) → bool_byte b ≡ cond {A = ℕ} b 1 0
counts-as true = refl
counts-as false = refl

few-more : (b : Bool) → bool_byte b ≤ 1
few-more true = omega arith
few-more false = omega arith

pub rows-init : goal.rows-init
rows-init c =
    let h = c.args.column.now.handles in
    let parts = four h c.args.places.0 c.args.places.1 c.args.from c.requires.order c.requires.before c.requires.within in
    record {
      on = IsOn-start c.args.arena.now.cells c.args.pending_out.now.handles c.args.bounds.0 c.args.bounds.1 (take c.args.places.0 h) (between c.args.places.0 c.args.places.1 h) (between c.args.places.1 c.args.from h) (drop c.args.from h) c.args.places.0 c.args.places.1 c.args.from h parts.all parts.front parts.rows parts.mid;
      few = omega arith;
      remembers = c.requires.remembers;
      long = refl;
    }

pub rows-preserved : goal.rows-preserved
rows-preserved c =
    let cells = c.args.arena.now.cells in
    let out = c.args.pending_out.now.handles in
    let h = c.args.column.now.handles in
    let low = c.args.bounds.0 in
    let high = c.args.bounds.1 in
    let start = c.args.places.0 in
    let end = c.args.places.1 in
    let from = c.args.from in
    let parts = four h start end from c.requires.order c.requires.before c.requires.within in
    let front = take start h in
    let rows = between start end h in
    let mid = between end from h in
    let ts = drop from h in
    let now = c.rows.column.handles in
    let place = c.rows.place in
    let inv = c.rows.invariant in
    let within : place < length now = omega (arith, c.rows-test.true, c.len-place-end.ensures.value, inv.long) in
    let n = next-of cells out low high front rows mid ts start end from now c.rows.front c.rows.used c.rows.made c.rows.going place parts.front parts.mid inv.on within in
    let goes = goes_on (ends_in out) (up_to cells out high) in
    let test = goes_on (ends_in out) (is_lower (key_at cells) (ends_in out) low) in
    let turned : test n.t ≡ c.turns.result = ap test (sym n.at) ∙ sym c.turns.ensures in
    let so_far = c.rows.invariant.few in
    elim c.if-not-turns.branch [
      | then-not-turns w ↦
          let off : test n.t ≡ false = turned ∙ w.if-not-turns.true in
          let more : bool_byte w.leaves.result ≡ cond {A = ℕ} (goes n.t) 1 0 = counts-as w.leaves.result ∙ ap (λ (b : Bool). cond {A = ℕ} b 1 0) (w.leaves.ensures ∙ ap goes n.at) in
          rw (w.column-is, w.front-is, w.used-is, w.made-is, w.going-is) (record {
            on = IsOn-by cells out low high front rows mid ts start end from now c.rows.front c.rows.used c.rows.made c.rows.going place parts.front parts.mid inv.on n (bool_byte w.leaves.result) off more;
            few = omega (arith, so_far, few-more w.leaves.result);
            remembers = inv.remembers;
            long = inv.long;
          })
      | else-not-turns+then-front-end w ↦
          let on : test n.t ≡ true = turned ∙ w.if-not-turns.false in
          let handles = ap (λ (x : Column). x.handles) w.swap.ensures.after in
          let more : bool_byte w.leaves-then-front-end.result ≡ cond {A = ℕ} (goes (get_or (swapped no_handle c.rows.front place now) place no_handle)) 1 0 = counts-as w.leaves-then-front-end.result ∙ ap (λ (b : Bool). cond {A = ℕ} b 1 0) (w.leaves-then-front-end.ensures ∙ ap (λ hs. goes (get_or hs place no_handle)) handles) in
          rw (w.column-is, w.front-is, w.used-is, w.made-is, w.going-is) (record {
            on = rw handles (IsOn-turn cells out low high front rows mid ts start end from now c.rows.front c.rows.used c.rows.made c.rows.going place parts.front parts.mid inv.on n (bool_byte w.leaves-then-front-end.result) on w.if-front-end.true more);
            few = omega (arith, so_far, few-more w.leaves-then-front-end.result);
            remembers = w.swap.ensures.remembered cells inv.remembers;
            long = ap length handles ∙ length-swapped c.rows.front place now ∙ inv.long;
          })
      | else-not-turns+else-front-end w ↦
          let on : test n.t ≡ true = turned ∙ w.if-not-turns.false in
          let leaves : goes n.t ≡ true = turned-goes cells out low high n.t c.requires.keys on in
          let next = w.next_going-used.result in
          let ens = w.next_going-used.ensures in
          let handles = ap (λ (x : Column). x.handles) w.swap-else-front-end.ensures.after in
          rw (w.column-is, w.front-is, w.used-is, w.made-is, w.going-is) (record {
            on = rw handles (IsOn-round cells out low high front rows mid ts start end from now c.rows.front c.rows.used c.rows.made c.rows.going place parts.front parts.mid inv.on n next (bool_byte (nat_lt next place)) on leaves w.if-front-end.false ens.low ens.high ens.before ens.here (λ l. rw (lt-ltb next place l) refl) (λ l. rw (le-ltb next place l) refl));
            few = omega (arith, so_far);
            remembers = w.swap-else-front-end.ensures.remembered cells inv.remembers;
            long = ap length handles ∙ length-swapped next place now ∙ inv.long;
          })
    ]

pub leaves-requires-then-front-end-clause-remembers : goal.leaves-requires-then-front-end-clause-remembers
leaves-requires-then-front-end-clause-remembers c = c.swap.ensures.remembered c.args.arena.now.cells c.rows.invariant.remembers

pub returns-clause-counts : goal.returns-clause-counts
returns-clause-counts c =
    let h = c.args.column.now.handles in
    let start = c.args.places.0 in
    let end = c.args.places.1 in
    let from = c.args.from in
    let parts = four h start end from c.requires.order c.requires.before c.requires.within in
    counted-end c.args.arena.now.cells c.args.pending_out.now.handles c.args.bounds.0 c.args.bounds.1 (take start h) (between start end h) (between end from h) (drop from h) start end from c.rows.column.handles c.rows.front c.rows.used c.rows.made c.rows.going c.rows.place parts.front parts.mid c.rows.invariant.on (omega (arith, c.rows-test.false, c.len-place-end.ensures.value, c.rows.invariant.long))
