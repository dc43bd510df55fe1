use Rattle.std.proofs.Common.{◌≡◌, arith, ap, sym, ◌∙◌, refl, inl, inr, length, get_or, set, ◌<◌, ◌+◌, add-zero}
use Rattle.std.proofs.lemmas.List.{get_or_default}
use Rattle.std.proofs.lemmas.Bool.{cases_eq, eq-eqb, ne_eqb}
use Rattle.crack_arena.specs.Rows.{unknown}
use Rattle.crack_tags.specs.declared.label.Label.{Label}
use Rattle.crack_column.specs.declared.tag.Tag.{Tag}
use Rattle.crack_arena.specs.Memories.{memory_at}
use Rattle.crack_column.specs.Places.{tag_handle}
use Rattle.crack_column.specs.Inside.{no_tag}
use Rattle.crack_column.specs.Labels.{tags_of}
use Rattle.crack_column.proofs.LabelLaws.{length-tags_of, tag_at, set-tags_of}
use Rattle.crack_column.proofs.Passes.{IsLearned-read, IsLearned-known, learned_all}
use Rattle.crack_column.proofs.tag.learn.Goals as goal
use Rattle.crack_column.proofs.tag.learn.Goals.{then-labels-i, else-labels-i}

pub tags-preserved : goal.tags-preserved
tags-preserved c =
    let cells = c.args.arena.now.cells in
    let was = tags_of c.args.labels.now c.args.payloads.now in
    let ls = c.tags.labels in
    let ps = c.tags.payloads in
    let i = c.tags.i in
    let beside : length ps ≡ length ls = omega (arith, c.requires.beside) in
    let now = tags_of ls ps in
    let there : i < length ls = omega arith in
    let label = c.index-labels-i.result in
    let is = tag_at ls ps i label beside there in
    let inside : i < length now = omega (arith, there, length-tags_of ls ps beside) in
    elim c.if-labels-i.branch [
      | then-labels-i w ↦
          let m = w.read-read.result in
          let x = w.key.result in
          let one = get_or_default ls i w.index-labels-i-then-labels-i.result label there in
          let other = get_or_default ls i w.index-labels-i-then-labels-i-2.result label there in
          let read : m ≡ memory_at cells (tag_handle (get_or now i no_tag)) = w.read-read.ensures ∙ ap (λ (l : Label). memory_at cells l.handle) one ∙ ap (λ (t : Tag). memory_at cells t.handle) (sym is) in
          let was_unknown : (get_or now i no_tag).key ≡ unknown = ap (λ (t : Tag). t.key) is ∙ w.if-labels-i.true in
          let learned = record (get_or ls i w.index-labels-i-then-labels-i-2.result) { key = x } in
          let after : tags_of (set ls i learned) (set ps i w.payload.result) ≡ set now i (record (get_or now i no_tag) { key = m.key; payload = m.payload }) =
          rw (is, ← w.key.ensures, ← w.payload.ensures, ← other) (set-tags_of ls ps i learned w.payload.result) in
          elim (cases_eq w.key-then-labels-i.result unknown) [
            | inl e ↦ rw (w.labels-is, w.payloads-is, w.learned-is, eq-eqb w.key-then-labels-i.result unknown e, add-zero) (IsLearned-read cells was now _ c.tags.learned c.tags.learned i m inside read after was_unknown (inl (sym w.key-then-labels-i.ensures ∙ e, refl)) c.tags.invariant)
            | inr ne ↦ rw (w.labels-is, w.payloads-is, w.learned-is, ne_eqb w.key-then-labels-i.result unknown ne) (IsLearned-read cells was now _ c.tags.learned (c.tags.learned + 1) i m inside read after was_unknown (inr (λ e. ne (w.key-then-labels-i.ensures ∙ e), refl)) c.tags.invariant)
          ]
      | else-labels-i w ↦ rw (w.labels-is, w.payloads-is, w.learned-is) (IsLearned-known cells was now c.tags.learned i (λ e. w.if-labels-i.false (ap (λ (t : Tag). t.key) (sym is) ∙ e)) c.tags.invariant)
    ]

pub returns-clause-read : goal.returns-clause-read
returns-clause-read c =
    let ls = c.tags.labels in
    let ps = c.tags.payloads in
    let beside : length ps ≡ length ls = omega (arith, c.requires.beside) in
    learned_all c.args.arena.now.cells (tags_of c.args.labels.now c.args.payloads.now) (tags_of ls ps) c.tags.learned c.tags.i (omega (arith, length-tags_of ls ps beside)) c.tags.invariant
