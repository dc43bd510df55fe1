use Rattle.std.proofs.Common.{◌≡◌, nat_eq, sym, ◌∙◌}
use Rattle.std.proofs.lemmas.Bool.{eqb-true}
use Rattle.std.proofs.lemmas.Map.Made.{lookup_key_passes}
use Rattle.crack_serials.proofs.MapLemmas.{IsMap, handle_of-map, sharing-map}
use Rattle.crack_serials.proofs.serials.Serials.find.Goals as goal

pub returns-in_err-at-clause-handle : goal.returns-in_err-at-clause-handle
returns-in_err-at-clause-handle c =
    let one : IsMap c.self.inside.maps.items c.map_of.result c.in_ok-map.map.now = record { within = rw c.deref.ensures.value at c.in_ok-map.ensures.lookup.3.0; is = rw c.deref.ensures.value at c.in_ok-map.ensures.lookup.1 } in
    rw (c.from_residual-in_err-at.ensures, ← c.self.view_is) (c.in_err-at.ensures.value ∙ sym (handle_of-map c.self.inside.maps.items c.map_of.result c.args.serial.0 c.in_ok-map.map.now c.map_of.ensures.value one c.self.invariant))

-- the map of the serial
one : (c : goal.After-result-1) → IsMap c.self.inside.maps.items c.map_of.result c.in_ok-map.map.now
one c = record {
  within = rw c.deref.ensures.value at c.in_ok-map.ensures.lookup.3.0;
  is = rw c.deref.ensures.value at c.in_ok-map.ensures.lookup.1;
}

pub returns-clause-entry : goal.returns-clause-entry
returns-clause-entry c =
    let serial = c.args.serial.0 in
    let key = c.in_ok-at.field-0-1.now in
    let same : serial ≡ key = eqb-true serial key (lookup_key_passes (nat_eq serial) c.in_ok-map.map.now.entries key (sym c.in_ok-at.ensures.key)) in
    rw (← c.self.view_is, sharing-map c.self.inside.maps.items c.map_of.result serial c.in_ok-map.map.now c.map_of.ensures.value (one c) c.self.invariant) (rw same c.in_ok-at.ensures.entry)

pub returns-clause-handle : goal.returns-clause-handle
returns-clause-handle c = rw (← c.self.view_is) (c.in_ok-at.ensures.value ∙ sym (handle_of-map c.self.inside.maps.items c.map_of.result c.args.serial.0 c.in_ok-map.map.now c.map_of.ensures.value (one c) c.self.invariant))
