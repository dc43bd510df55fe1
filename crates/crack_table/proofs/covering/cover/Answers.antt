use Rattle.std.proofs.Common.{ℕ, refl, inl, inr, sym, ◌∙◌}
use Rattle.std.proofs.lemmas.Option.{slice_get_within}
use Rattle.crack_table.proofs.Lates.{map_none}
use Rattle.crack_table.proofs.Conclusions.{all_placed, none_rise, rising, stranger_fault, late_fault}
use Rattle.crack_table.proofs.covering.cover.Goals as goal

pub returns-clause-covers : goal.returns-clause-covers
returns-clause-covers c = record {
  covered = λ p k is. c.in_default.ensures.none _ c.add_lists-stranger.ensures.coverage p k (slice_get_within _ p k is) is;
  placed = all_placed _ _ (map_none _ c.in_default-stranger.ensures.stranger);
  rising = rising _ (none_rise _ (map_none _ (sym c.in_default-2.is ∙ c.in_ok-part.ensures)));
}

pub returns-in-Some-clause-fault : goal.returns-in-Some-clause-fault
returns-in-Some-clause-fault c = inr (c.in-Some.part, c.in-Some.position, refl, inl (c.in-Some.ensures.some _ c.add_lists-stranger.ensures.coverage))

pub returns-in-Some-stranger-clause-fault : goal.returns-in-Some-stranger-clause-fault
returns-in-Some-stranger-clause-fault c =
    let place : ℕ × ℕ = (c.in-Some-stranger.part, c.in-Some-stranger.position) in
    let covered = c.in_default.ensures.none _ c.add_lists-stranger.ensures.coverage in
    inr (c.in-Some-stranger.part, c.in-Some-stranger.position, refl, stranger_fault _ _ place covered (sym c.in-Some-stranger.is ∙ c.add_lists-stranger.ensures.stranger))

pub returns-in-Some-2-clause-fault : goal.returns-in-Some-2-clause-fault
returns-in-Some-2-clause-fault c =
    let place : ℕ × ℕ = (c.in-Some-2.part, c.in-Some-2.position) in
    let covered = c.in_default.ensures.none _ c.add_lists-stranger.ensures.coverage in
    let none = map_none _ c.in_default-stranger.ensures.stranger in
    inr (c.in-Some-2.part, c.in-Some-2.position, refl, late_fault _ _ place covered none (sym c.in-Some-2.is ∙ c.in_ok-part.ensures))
