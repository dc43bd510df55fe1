use Rattle.std.proofs.Common.{◌≡◌, ℤ, arith, ap, sym, subst}
use Rattle.crack_row.specs.declared.command.Command.TheVariants.{Update}
use Rattle.crack_plain.specs.Plain.{after}
use Rattle.crack_index.specs.Sums.{Changes}
use Rattle.crack_part.specs.KnownSums.{Known, KnowsSums, sum_before}
use Rattle.crack_part.proofs.KnownLemmas.{AreRight-same, Knows-left, Knows-unchanged, Changes-without, without, gained, lost, replaced-early, replaced-late}
use Rattle.crack_part.proofs.known.KnownSums.replace.Goals as goal

pub returns-then-row-self-clause-knows : goal.returns-then-row-self-clause-knows
returns-then-row-self-clause-knows c = λ plain numbered found now.
    let knows = subst (λ (k : Known). KnowsSums k plain) (sym c.self.view_is) (rw c.forget_if_late.ensures (Knows-left c.args.next c.args.self.now plain now)) in
    let row = c.args.row in
    let before = c.in-Some.before in
    let m = sum_before c.self.inside.since plain.rows in
    let then = sum_before c.self.inside.since (after plain (Update row.serial row.key row.payload)).rows in
    let loses = subst (λ (change : ℤ). Changes before.key.0 change m (without before m)) (sym (lost before.payload c.amount.result c.amount.ensures.value c.amount.ensures.least c.amount.ensures.most)) (Changes-without m before) in
    let gains = subst (λ (change : ℤ). Changes row.key.0 change (without before m) then) (sym (gained row.payload c.amount-then-row-self.result c.amount-then-row-self.ensures.value c.amount-then-row-self.ensures.least c.amount-then-row-self.ensures.most)) (replaced-early c.self.inside.since plain.rows row before numbered.rising (rw c.in-Some.is at found) (omega arith)) in
    record {
      past = knows.past;
      right = c.adjust-then-row-self.ensures.right (without before m) then gains (c.adjust.ensures.right m (without before m) loses knows.right);
    }

pub returns-else-row-self-clause-knows : goal.returns-else-row-self-clause-knows
returns-else-row-self-clause-knows c = λ plain numbered found now.
    let known = c.forget_if_late.new.self in
    let knows : KnowsSums known plain = rw c.forget_if_late.ensures (Knows-left c.args.next c.args.self.now plain now) in
    let row = c.args.row in
    let since : known.since ≡ c.self.inside.since = ap (λ (k : Known). k.since) (sym c.self.view_is) in
    record {
      past = knows.past;
      right = AreRight-same (sum_before known.since plain.rows) (sum_before known.since (after plain (Update row.serial row.key row.payload)).rows) known.pieces (replaced-late known.since plain.rows row c.in-Some.before numbered.rising (rw c.in-Some.is at found) (omega (arith, since))) knows.right;
    }

pub returns-in_default-clause-knows : goal.returns-in_default-clause-knows
returns-in_default-clause-knows c = λ plain numbered found knows. Knows-unchanged c.args.self.now plain c.args.row (rw c.in_default.is at found) knows
