use Rattle.std.proofs.Common.{◌≡◌, ◌∙◌, get_or, map, false, sym, ap, inl, inr, arith}
use Rattle.std.proofs.lemmas.List.{get_or-map, get_or_default}
use Rattle.std.proofs.lemmas.Bool.{cases_eq, false≢true}
use Rattle.crack_arena.specs.Arena.{same_handle}
use Rattle.crack_tags.specs.declared.label.Label.{Label}
use Rattle.crack_column.specs.Inside.{label_handle}
use Rattle.crack_column.proofs.LabelLaws.{no_label}
use Rattle.crack_column.proofs.Passes.{same_handle-refl}
use Rattle.crack_column.proofs.tag.find.Goals as goal

pub tags-preserved : goal.tags-preserved
tags-preserved c = λ k l stands. elim (cases_eq k c.tags.i) [
  | inl e ↦
      let ls = c.args.labels.now in
      let h = c.args.handle in
      let here : h ≡ label_handle (get_or ls c.tags.i no_label) = stands.is ∙ ap (λ n. get_or (map label_handle ls) n h) e ∙ get_or-map label_handle ls c.tags.i no_label h (omega arith) in
      let read = get_or_default ls c.tags.i c.index-labels-i.result no_label (omega arith) in
      let told : false ≡ same_handle (get_or ls c.tags.i c.index-labels-i.result).handle h = c.if-eq.ensures in
      false≢true (told ∙ ap (λ (l : Label). same_handle l.handle h) read ∙ ap (λ x. same_handle x h) (sym here) ∙ same_handle-refl h)
  | inr ne ↦ c.tags.invariant k (omega arith) stands
]
