use Rattle.std.proofs.Common.{sym, ◌∙◌, ap, subst, ◌≡◌}
use Rattle.logbook.specs.Pages.{no_nib}
use Rattle.crack_witness.specs.Keeps.{HasWord}
use Rattle.crack_witness.proofs.Moving.{makes_moves}
use Rattle.crack_witness.proofs.history_writer.fresh.Goals as goal

pub compare_exchange-requires : goal.compare_exchange-requires
compare_exchange-requires c =
    let token = c.again-token.ensures in
    let offer = c.plain-offer.ensures in
    let pen = c.no_pen-pen.ensures in
    let book = ap (λ s. s.book) token ∙ c.requires.1 in
    let has : HasWord c.args.word.now.key c.again-token.result.log = subst (λ l. HasWord c.args.word.now.key l) (sym (ap (λ s. s.log) token)) c.requires.2 in (
      c.requires.0,
      book,
      pen.0 ∙ book,
      offer.0,
      rw (pen.1, offer.3) (makes_moves c.again-token.result.log c.args.word.now.key c.plain-offer.result.ask has),
    )
