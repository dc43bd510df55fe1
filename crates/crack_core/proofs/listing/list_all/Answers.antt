use Rattle.std.proofs.Common.{◌≡◌, ◌+◌, ◌<◌, ◌^◌, ℕ, ◌++◌, length, take, arith, ap, sym, ◌∙◌}
use Rattle.std.proofs.lemmas.List.{take_all}
use Rattle.crack_plain.specs.Plain.{IsSmall}
use Rattle.crack_core.specs.Listing.{all_listed}
use Rattle.crack_core.specs.Inside.{of_part}
use Rattle.crack_core.proofs.ListLaws.{all_listed-more, all_listed-long, rows-small}
use Rattle.crack_core.proofs.listing.list_all.Goals as goal

pub replies-preserved : goal.replies-preserved
replies-preserved c =
    let so_far = all_listed (take c.replies.i c.args.replies.now) in
    let reply = c.index-replies-i.result in
    let rows = c.rows-rows.result.now in
    let grown : all_listed (take (c.replies.i + 1) c.args.replies.now) ≡ so_far ++ of_part reply.part rows =
    rw c.rows-rows.ensures (all_listed-more c.args.replies.now c.replies.i reply c.replies-test.true c.index-replies-i.is) in
    let small : IsSmall reply.reply = rw (← c.index-replies-i.is) at (c.requires.small c.replies.i reply c.replies-test.true) in
    let few : length rows < 2 ^ 32 = rw c.rows-rows.ensures (rows-small reply.reply small) in record {
      found = ap (λ (n : ℕ). n + length rows) c.replies.invariant.found ∙ sym (ap length grown ∙ all_listed-long reply.part so_far rows);
      small = omega (arith, few, c.replies.invariant.small);
      stand = rw grown (c.list_rows.ensures so_far (sym c.replies.invariant.found) c.replies.invariant.stand);
    }

pub returns-clause-found : goal.returns-clause-found
returns-clause-found c = rw (take_all c.replies.i c.args.replies.now c.replies-test.false) at c.replies.invariant.found

pub returns-clause-stand : goal.returns-clause-stand
returns-clause-stand c = rw (take_all c.replies.i c.args.replies.now c.replies-test.false) at c.replies.invariant.stand
