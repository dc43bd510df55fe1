use Rattle.std.proofs.Common.{◌≡◌, ◌∷◌, [], ◌∙◌, sym, ap, inl, inr, arith}
use Rattle.std.proofs.lemmas.Bool.{cases_eq, eq-eqb, ne_eqb}
use Rattle.crack_arena.specs.Arena.{times}
use Rattle.crack_arena.proofs.Times.{times_head, times-nil, times_other}
use Rattle.crack_arena.specs.Rows.{unknown}
use Rattle.crack_arena.specs.Memories.{Memory}
use Rattle.crack_arena.proofs.remembered.Remembered.unread.Goals as goal

pub returns : goal.returns
returns c =
    let key = c.self.inside.key in
    let same : c.args.self.now.key ≡ key = ap (λ (m : Memory). m.key) (sym c.self.view_is) in
    elim (cases_eq key unknown) [
      | inl e ↦
          let one : times unknown (c.args.self.now.key ∷ []) ≡ 1 = rw (same ∙ e) (omega (arith, times_head unknown [], times-nil unknown)) in
          rw (eq-eqb key unknown e) (sym one)
      | inr ne ↦
          let none : times unknown (c.args.self.now.key ∷ []) ≡ 0 = rw same (times_other unknown key ne) in
          rw (ne_eqb key unknown ne) (sym none)
    ]
