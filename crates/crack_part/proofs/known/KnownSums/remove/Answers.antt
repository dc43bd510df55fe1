use Rattle.std.proofs.Common.{◌≡◌, ℤ, arith, ap, sym, subst}
use Rattle.crack_row.specs.declared.command.Command.TheVariants.{Delete}
use Rattle.crack_plain.specs.Plain.{after}
use Rattle.crack_part.specs.KnownSums.{Known, KnowsSums, sum_before}
use Rattle.crack_index.specs.Sums.{Changes}
use Rattle.crack_part.proofs.KnownLemmas.{AreRight-same, Knows-left, Knows-unremoved, lost, removed-early, removed-late}
use Rattle.crack_part.proofs.known.KnownSums.remove.Goals as goal

pub returns-then-serial-self-clause-knows : goal.returns-then-serial-self-clause-knows
returns-then-serial-self-clause-knows c = λ plain numbered found now.
    let knows = subst (λ (k : Known). KnowsSums k plain) (sym c.self.view_is) (rw c.forget_if_late.ensures (Knows-left c.args.next c.args.self.now plain now)) in
    record {
      past = knows.past;
      right = c.adjust.ensures.right (sum_before c.self.inside.since plain.rows) (sum_before c.self.inside.since (after plain (Delete c.args.serial)).rows) (subst (λ (change : ℤ). Changes c.in-Some.row.key.0 change (sum_before c.self.inside.since plain.rows) (sum_before c.self.inside.since (after plain (Delete c.args.serial)).rows)) (sym (lost c.in-Some.row.payload c.amount.result c.amount.ensures.value c.amount.ensures.least c.amount.ensures.most)) (removed-early c.self.inside.since c.args.serial.0 plain.rows c.in-Some.row numbered.rising (rw c.in-Some.is at found) (omega arith))) knows.right;
    }

pub returns-else-serial-self-clause-knows : goal.returns-else-serial-self-clause-knows
returns-else-serial-self-clause-knows c = λ plain numbered found now.
    let known = c.forget_if_late.new.self in
    let knows : KnowsSums known plain = rw c.forget_if_late.ensures (Knows-left c.args.next c.args.self.now plain now) in
    let since : known.since ≡ c.self.inside.since = ap (λ (k : Known). k.since) (sym c.self.view_is) in
    record {
      past = knows.past;
      right = AreRight-same (sum_before known.since plain.rows) (sum_before known.since (after plain (Delete c.args.serial)).rows) known.pieces (removed-late known.since c.args.serial.0 plain.rows c.in-Some.row numbered.rising (rw c.in-Some.is at found) (omega (arith, since))) knows.right;
    }

pub returns-in_default-clause-knows : goal.returns-in_default-clause-knows
returns-in_default-clause-knows c = λ plain numbered found knows. Knows-unremoved c.args.self.now plain c.args.serial (rw c.in_default.is at found) knows
