use Rattle.std.proofs.Common.{◌≡◌, sym, ◌∙◌, rules}
use Rattle.std.specs.Prelude.{Contains}
use Rattle.crack_index.specs.Marks.{Rising, next_mark}
use Rattle.crack_index.proofs.MarkLaws.{next_mark-is}
use Rattle.crack_index.proofs.MarkLemmas.{if_found}
use Rattle.crack_index.proofs.index.CrackerIndex.bound_above.Goals as goal

pub returns-clause-there : goal.returns-clause-there
returns-clause-there c =
    let marks = c.args.self.now.marks in
    let rising : Rising marks = rw (← c.self.view_is) c.self.invariant.rising in
    let found : c.next_above.result ≡ next_mark c.args.key.0 marks = search rules in
    if_found (λ m. Contains marks m) c.next_above.result (λ m is. (next_mark-is c.args.key.0 marks m rising (sym found ∙ is)).listed)
