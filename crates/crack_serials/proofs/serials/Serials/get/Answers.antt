use Rattle.std.proofs.Common.{sym, ◌∙◌}
use Rattle.crack_serials.proofs.MapLemmas.{IsMap, handle_of-map}
use Rattle.crack_serials.proofs.serials.Serials.get.Goals as goal

-- the map of the serial
one : (c : goal.After-copied) → IsMap c.self.inside.maps.items c.map_of.result c.in_ok-map.map.now
one c = record {
  within = rw c.deref.ensures.value at c.in_ok-map.ensures.lookup.3.0;
  is = rw c.deref.ensures.value at c.in_ok-map.ensures.lookup.1;
}

pub returns : goal.returns
returns c = rw (← c.self.view_is) (c.copied.ensures ∙ c.get-2.ensures.value ∙ sym (handle_of-map c.self.inside.maps.items c.map_of.result c.args.serial.0 c.in_ok-map.map.now c.map_of.ensures.value (one c) c.self.invariant))
