use Rattle.std.proofs.Common.{◌≡◌, ℕ, true, false, get_or, refl, sym, ap, subst, inl, inr, arith}
use Rattle.std.proofs.lemmas.Bool.{cases_lt, lt-ltb, le-ltb, true≢false}
use Rattle.crack_arena.specs.Arena.{no_handle, times, slots}
use Rattle.crack_column.specs.Column.{Column}
use Rattle.crack_store.specs.Blocks.{is_among}
use Rattle.crack_store.proofs.BlockLemmas.{ArePartedTo, part_begins, part_stays, part_leaves, parted, KeepsRows-swapped}
use Rattle.crack_store.proofs.blocks.part_doomed.Goals as goal

pub rows-init : goal.rows-init
rows-init c = record {
  parted = part_begins c.args.pending_out.now.handles c.args.from c.args.to c.args.column.now.handles c.requires.order c.requires.within;
  keeps = record { long = refl; room = refl; remembered = λ cells known. known };
}

pub rows-preserved : goal.rows-preserved
rows-preserved c =
    let out = c.args.pending_out.now.handles in
    let h = get_or c.rows.column.handles c.rows.live no_handle in
    let none = rw c.slot_at.ensures at c.if-contains.ensures in
    let isnt : is_among out h ≡ false = elim (cases_lt 0 (times h.slot (slots out))) [
      | inl l ↦ absurd (true≢false (sym (none.1 l)))
      | inr l ↦ le-ltb 0 (times h.slot (slots out)) l
    ] in
    record {
      parted = part_stays out c.args.from c.args.to c.args.column.now.handles c.rows.column.handles c.rows.live c.rows.end c.rows-test.true isnt c.rows.invariant.parted;
      keeps = c.rows.invariant.keeps;
    }

pub rows-preserved-then-contains : goal.rows-preserved-then-contains
rows-preserved-then-contains c =
    let out = c.args.pending_out.now.handles in
    let h = get_or c.rows.column.handles c.rows.live no_handle in
    let some = rw c.slot_at.ensures at c.if-contains.ensures in
    let is : is_among out h ≡ true = lt-ltb 0 (times h.slot (slots out)) (some.0 refl) in
    let swap = c.swap.ensures in
    record {
      parted = part_leaves out c.args.from c.args.to c.args.column.now.handles c.rows.column.handles c.swap.new.self.handles c.rows.live c.rows.end c.rows-test.true is (ap (λ (x : Column). x.handles) swap.after) c.rows.invariant.parted;
      keeps = KeepsRows-swapped c.args.column.now c.rows.column c.swap.new.self _ _ swap.after swap.remembered c.rows.invariant.keeps;
    }

pub returns-clause-parts : goal.returns-clause-parts
returns-clause-parts c =
    let p = c.rows.invariant.parted in
    let done : c.rows.end ≡ c.rows.live = omega (arith, p.order) in
    let all : ArePartedTo c.args.pending_out.now.handles c.args.from c.args.to c.args.column.now.handles c.rows.column.handles c.rows.live c.rows.live = subst (λ (e : ℕ). ArePartedTo c.args.pending_out.now.handles c.args.from c.args.to c.args.column.now.handles c.rows.column.handles c.rows.live e) done p in
    parted c.args.pending_out.now.handles c.args.from c.args.to c.args.column.now.handles c.rows.column.handles c.rows.live c.requires.order all
