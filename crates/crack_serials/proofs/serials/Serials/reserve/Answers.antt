use Rattle.std.proofs.Common.{ap, ◌∙◌}
use Rattle.crack_serials.specs.Serials.{Serials}
use Rattle.crack_serials.proofs.MapLemmas.{entries-kept}
use Rattle.crack_serials.proofs.serials.Serials.reserve.Goals as goal

pub returns-clause-entries : goal.returns-clause-entries
returns-clause-entries c = entries-kept c.self.inside.maps.items c.reserve_in.new.maps.items c.reserve_in.ensures.lists ∙ ap (λ (s : Serials). s.entries) c.self.view_is ∙ c.have_maps.ensures.entries
