use Rattle.std.proofs.Common.{◌+◌, [], ◌∷◌, ◌++◌, codes, append_assoc}
use Rattle.std.proofs.lemmas.Fmt.{decimal_digit}
use Rattle.crack_commands.proofs.text.push_part.Goals as goal

-- src/text.rt:62:1
pub returns-then-part-lt10-clause-begin : goal.returns-then-part-lt10-clause-begin
returns-then-part-lt10-clause-begin g c =
    let part = c.args.part in
    let text = c.args.text.now.items in
    rw (decimal_digit part c.if-part-lt10.true, append_assoc (text ++ codes "row ") ((48 + part) ∷ []) (codes "."), append_assoc text (codes "row ") ((48 + part) ∷ 46 ∷ [])) c.push.ensures
