use Rattle.std.proofs.Common.{◌≡◌, length, vec_len, sym, ◌∙◌, arith}
use Rattle.crack_pending.specs.Keeps.{place_at}
use Rattle.crack_pending.proofs.Kept.{place_at-few, kept-full}
use Rattle.crack_pending.proofs.closing.close_up.Goals as goal

pub close_up_stands-requires : goal.close_up_stands-requires
close_up_stands-requires c =
    omega (arith, c.requires.rows, place_at-few c.args.stands.now.items (vec_len c.args.stands.now))

pub returns-then-rows-len-clause-closed : goal.returns-then-rows-len-clause-closed
returns-then-rows-len-clause-closed c =
    let stands = c.args.stands.now.items in
    let same : vec_len c.args.stands.now ≡ length stands = omega arith in
    let long : length stands ≡ c.args.rows = omega (arith, c.if-rows-len.true, c.len.ensures) in
    let full : place_at stands (length stands) ≡ length stands = sym (rw same at c.requires.rows) ∙ sym long in
    record {
      handles_are = sym (kept-full stands c.args.tags.now.handles (omega (arith, c.requires.stands)) full);
      remembered_are = sym (kept-full stands c.args.tags.now.remembered (omega (arith, c.requires.stands, c.requires.remembered)) full);
      long = long;
      full = rw (← long) full;
    }

pub returns-clause-closed : goal.returns-clause-closed
returns-clause-closed c = record {
  handles_are = rw (c.deref.ensures.value) at c.close_up_tags.ensures.handles;
  remembered_are = rw (c.deref.ensures.value) at c.close_up_tags.ensures.remembered;
  long = omega (arith, c.close_up_stands.ensures.length);
  full = c.close_up_stands.ensures.full;
}
