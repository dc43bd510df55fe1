use Rattle.std.proofs.Common.{◌≡◌, Some, arith}
use Rattle.std.specs.Prelude.{slice_get}
use Rattle.std.specs.List.{All}
use Rattle.std.specs.Cmp.{nat_eq_equiv}
use Rattle.std.proofs.lemmas.Option.{slice_get_within}
use Rattle.indexmap.specs.IndexMap.{with_value_at}
use Rattle.indexmap.proofs.CallerLemmas.{updates-with_value_at, index_map_len-with_value_at}
use Rattle.crack_serials.proofs.ListLemmas.{IsOf}
use Rattle.crack_serials.proofs.MapLemmas.{IsMap, All-set_value, own_at, sharing-map, IsSpread-set, Maps-set, length-set_map, rooms-set, no_use, one_from_entry}
use Rattle.crack_serials.proofs.serials.Serials.lead_to.Goals as goal

pub unreachable-requires : goal.unreachable-requires
unreachable-requires c =
    let maps = c.self.inside.maps.items in
    let serial = c.args.lead.serial.0 in
    let m = c.index_mut-map.result.now in
    let entry = rw (← c.self.view_is) at c.requires in
    let one : IsMap maps c.map_of.result m = one_from_entry maps c.map_of.result serial c.args.lead.at m (serial, c.args.lead.handle) c.map_of.ensures.within c.self.invariant entry c.index_mut-map.ensures.value in
    let found = rw (sharing-map maps c.map_of.result serial m c.map_of.ensures.value one c.self.invariant) at entry in
    let there = c.in-None.ensures.found.1 (slice_get_within m.entries c.args.lead.at (serial, c.args.lead.handle) found) in
    absurd (cc)

-- the map of the serial
one : (c : goal.After-self-in-Some-1) → IsMap c.self.inside.maps.items c.map_of.result c.index_mut-map.result.now
one c = one_from_entry c.self.inside.maps.items c.map_of.result c.args.lead.serial.0 c.args.lead.at c.index_mut-map.result.now (c.args.lead.serial.0, c.args.lead.handle) c.map_of.ensures.within c.self.invariant (rw (← c.self.view_is) at c.requires) c.index_mut-map.ensures.value

-- the serial's entry
found : (c : goal.After-self-in-Some-1) → slice_get c.index_mut-map.result.now.entries c.args.lead.at ≡ Some (c.args.lead.serial.0, c.args.lead.handle)
found c = rw (← c.self.view_is, sharing-map c.self.inside.maps.items c.map_of.result c.args.lead.serial.0 c.index_mut-map.result.now c.map_of.ensures.value (one c) c.self.invariant) at c.requires

-- the map still has only its own serials
own : (c : goal.After-self-in-Some-1) → All (IsOf c.map_of.result) (with_value_at c.index_mut-map.result.now c.args.lead.at c.args.handle).entries
own c = All-set_value c.map_of.result c.args.lead.at c.args.handle c.index_mut-map.result.now.entries (own_at c.self.inside.maps.items c.map_of.result c.index_mut-map.result.now (one c) c.self.invariant)

pub invariant_of-self : goal.invariant_of-self
invariant_of-self c = IsSpread-set c.self.inside.maps.items c.map_of.result (with_value_at c.index_mut-map.result.now c.args.lead.at c.args.handle) (one c).within c.self.invariant (own c)

pub returns-clause-updates : goal.returns-clause-updates
returns-clause-updates c =
    let updates = updates-with_value_at c.index_mut-map.result.now c.args.lead.at c.args.handle nat_eq_equiv c.in-Some.ensures.unique c.args.lead.serial.0 c.args.lead.handle (found c) in
    rw (← c.self.view_is) (Maps-set c.self.inside.maps.items c.map_of.result c.args.lead.serial.0 c.index_mut-map.result.now (with_value_at c.index_mut-map.result.now c.args.lead.at c.args.handle) (Some c.args.handle) c.map_of.ensures.value (one c) c.self.invariant (own c) updates.0)

pub returns-clause-len : goal.returns-clause-len
returns-clause-len c =
    let after = with_value_at c.index_mut-map.result.now c.args.lead.at c.args.handle in
    rw (← c.self.view_is) (omega (arith, index_map_len-with_value_at c.index_mut-map.result.now c.args.lead.at c.args.handle, length-set_map c.self.inside.maps.items c.map_of.result c.index_mut-map.result.now after (one c)))

pub returns-clause-room : goal.returns-clause-room
returns-clause-room c = rw (← c.self.view_is) (λ n. no_use _ _ _ (rooms-set c.self.inside.maps.items c.map_of.result n 0 c.index_mut-map.result.now (with_value_at c.index_mut-map.result.now c.args.lead.at c.args.handle) (one c) (omega arith)))
