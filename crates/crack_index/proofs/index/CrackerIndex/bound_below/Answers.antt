use Rattle.std.proofs.Common.{◌≡◌, sym, ◌∙◌, rules}
use Rattle.std.specs.Prelude.{Contains}
use Rattle.crack_index.specs.Marks.{Rising, last_mark}
use Rattle.crack_index.proofs.MarkLaws.{last_mark-is}
use Rattle.crack_index.proofs.MarkLemmas.{if_found}
use Rattle.crack_index.proofs.index.CrackerIndex.bound_below.Goals as goal

pub returns-clause-there : goal.returns-clause-there
returns-clause-there c =
    let marks = c.args.self.now.marks in
    let rising : Rising marks = rw (← c.self.view_is) c.self.invariant.rising in
    let found : c.last_at.result ≡ last_mark c.args.key.0 marks = search rules in
    if_found (λ m. Contains marks m) c.last_at.result (λ m is. (last_mark-is c.args.key.0 marks m rising (sym found ∙ is)).listed)
