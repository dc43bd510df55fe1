use Rattle.std.proofs.Common.{◌≡◌, None, Some, ◌∙◌, arith}
use Rattle.std.specs.Prelude.{slice_get}
use Rattle.std.specs.List.{All}
use Rattle.std.proofs.lemmas.Option.{slice_get_within}
use Rattle.crack_serials.proofs.ListLemmas.{IsOf}
use Rattle.crack_serials.proofs.MapLemmas.{IsMap, All-swap_remove, own_at, sharing-map, IsSpread-set, Maps-set, length-set_map, rooms-set, no_use, one_from_entry}
use Rattle.crack_serials.proofs.serials.Serials.forget_at.Goals as goal

-- the map of the serial
one : (c : goal.After-self-1) → IsMap c.self.inside.maps.items c.map_of.result c.index_mut-map.result.now
one c = one_from_entry c.self.inside.maps.items c.map_of.result c.args.lead.serial.0 c.args.lead.at c.index_mut-map.result.now (c.args.lead.serial.0, c.args.lead.handle) c.map_of.ensures.within c.self.invariant (rw (← c.self.view_is) at c.requires) c.index_mut-map.ensures.value

-- the serial's entry
found : (c : goal.After-self-1) → slice_get c.index_mut-map.result.now.entries c.args.lead.at ≡ Some (c.args.lead.serial.0, c.args.lead.handle)
found c = rw (← c.self.view_is, sharing-map c.self.inside.maps.items c.map_of.result c.args.lead.serial.0 c.index_mut-map.result.now c.map_of.ensures.value (one c) c.self.invariant) at c.requires

removed : (c : goal.After-self-1) → c.swap_remove_index.result ≡ Some (c.args.lead.serial.0, c.args.lead.handle)
removed c = c.swap_remove_index.ensures.entry ∙ found c

-- the map still has only its own serials
own : (c : goal.After-self-1) → All (IsOf c.map_of.result) c.swap_remove_index.new.self.entries
own c =
    let entries = rw (removed c) at c.swap_remove_index.ensures.entries in
    let within = slice_get_within c.index_mut-map.result.now.entries c.args.lead.at (c.args.lead.serial.0, c.args.lead.handle) (found c) in
    rw entries (All-swap_remove c.map_of.result c.args.lead.at (c.args.lead.serial.0, c.args.lead.handle) c.index_mut-map.result.now.entries within (own_at c.self.inside.maps.items c.map_of.result c.index_mut-map.result.now (one c) c.self.invariant))

pub invariant_of-self : goal.invariant_of-self
invariant_of-self c = IsSpread-set c.self.inside.maps.items c.map_of.result c.swap_remove_index.new.self (one c).within c.self.invariant (own c)

pub returns-clause-updates : goal.returns-clause-updates
returns-clause-updates c =
    let updates = rw (removed c) at c.swap_remove_index.ensures.updates in
    rw (← c.self.view_is) (Maps-set c.self.inside.maps.items c.map_of.result c.args.lead.serial.0 c.index_mut-map.result.now c.swap_remove_index.new.self None c.map_of.ensures.value (one c) c.self.invariant (own c) updates.0)

pub returns-clause-len : goal.returns-clause-len
returns-clause-len c =
    let len = rw (removed c) at c.swap_remove_index.ensures.len in
    rw (← c.self.view_is) (omega (arith, len, length-set_map c.self.inside.maps.items c.map_of.result c.index_mut-map.result.now c.swap_remove_index.new.self (one c)))

pub returns-clause-room : goal.returns-clause-room
returns-clause-room c = rw (← c.self.view_is) (λ n. no_use _ _ _ (rooms-set c.self.inside.maps.items c.map_of.result n 0 c.index_mut-map.result.now c.swap_remove_index.new.self (one c) (omega (arith, c.swap_remove_index.ensures.room.0))))
