use Rattle.std.proofs.Common.{◌≡◌, length, vec_len, sym, ◌∙◌, arith}
use Rattle.std.proofs.lemmas.Bool.{eqb-true}
use Rattle.crack_serials.proofs.MapLemmas.{IsSpread-either, entries-made, entries-none}
use Rattle.crack_serials.proofs.serials.Serials.have_maps.Goals as goal

pub invariant_of-self : goal.invariant_of-self
invariant_of-self c = IsSpread-either c.make_maps.result c.make_maps.new.maps.items c.make_maps.ensures.ok c.make_maps.ensures.none

pub returns-in_ok-make_maps-clause-entries : goal.returns-in_ok-make_maps-clause-entries
returns-in_ok-make_maps-clause-entries c =
    let none : length c.self.inside.maps.items ≡ 0 = omega (arith, eqb-true (vec_len c.self.inside.maps) 0 (sym c.is_empty.ensures ∙ c.if-is_empty.true)) in
    rw (← c.self.view_is) (entries-made c.make_maps.new.maps.items 64 c.in_ok-make_maps.ensures.ok ∙ sym (entries-none c.self.inside.maps.items none))
