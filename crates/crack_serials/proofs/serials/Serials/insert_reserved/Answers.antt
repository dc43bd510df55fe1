use Rattle.std.proofs.Common.{Some, sym, ◌∙◌, arith, nat_eq}
use Rattle.std.specs.List.{All}
use Rattle.indexmap.proofs.CallerLemmas.{insert_entry-new}
use Rattle.crack_serials.proofs.ListLemmas.{IsOf}
use Rattle.crack_serials.proofs.MapLemmas.{IsMap, All-insert, own_at, handle_of-map, IsSpread-set, Maps-set, length-set_map, placed-set, rooms-set, one_from_room}
use Rattle.crack_serials.proofs.serials.Serials.insert_reserved.Goals as goal

-- the map of the serial
one : (c : goal.In-Ok) → IsMap c.self.inside.maps.items c.map_of.result c.index_mut-map.result.now
one c = one_from_room c.self.inside.maps.items c.map_of.result c.args.serial.0 c.index_mut-map.result.now c.map_of.ensures.value c.map_of.ensures.within c.self.invariant (rw (← c.self.view_is) at c.requires) c.index_mut-map.ensures.value

-- it still has only its own serials
own : (c : goal.In-Ok) → All (IsOf c.map_of.result) c.insert.new.self.entries
own c = rw c.in-Ok.ensures.entries (All-insert c.map_of.result c.args.serial.0 c.args.handle c.index_mut-map.result.now.entries (sym c.map_of.ensures.value) (own_at c.self.inside.maps.items c.map_of.result c.index_mut-map.result.now (one c) c.self.invariant))

pub invariant_of-self : goal.invariant_of-self
invariant_of-self c = IsSpread-set c.self.inside.maps.items c.map_of.result c.insert.new.self (one c).within c.self.invariant (own c)

pub returns-clause-old : goal.returns-clause-old
returns-clause-old c = rw (← c.self.view_is) (c.in-Ok.ensures.old ∙ sym (handle_of-map c.self.inside.maps.items c.map_of.result c.args.serial.0 c.index_mut-map.result.now c.map_of.ensures.value (one c) c.self.invariant))

pub returns-clause-updates : goal.returns-clause-updates
returns-clause-updates c = rw (← c.self.view_is) (Maps-set c.self.inside.maps.items c.map_of.result c.args.serial.0 c.index_mut-map.result.now c.insert.new.self (Some c.args.handle) c.map_of.ensures.value (one c) c.self.invariant (own c) c.in-Ok.ensures.updates.0)

pub returns-clause-entries : goal.returns-clause-entries
returns-clause-entries c = rw (← c.self.view_is) (λ fresh.
    let none = sym (handle_of-map c.self.inside.maps.items c.map_of.result c.args.serial.0 c.index_mut-map.result.now c.map_of.ensures.value (one c) c.self.invariant) ∙ fresh in
    placed-set c.self.inside.maps.items c.map_of.result c.args.serial.0 c.args.handle c.index_mut-map.result.now c.insert.new.self c.map_of.ensures.value (one c) c.self.invariant (c.in-Ok.ensures.entries ∙ insert_entry-new nat_eq c.index_mut-map.result.now c.args.serial.0 c.args.handle none))

pub returns-clause-len : goal.returns-clause-len
returns-clause-len c = rw (← c.self.view_is) (omega (arith, c.in-Ok.ensures.len, length-set_map c.self.inside.maps.items c.map_of.result c.index_mut-map.result.now c.insert.new.self (one c)))

pub returns-clause-room : goal.returns-clause-room
returns-clause-room c = rw (← c.self.view_is) (λ n. rw (← c.map_of.ensures.value) (rooms-set c.self.inside.maps.items c.map_of.result n 1 c.index_mut-map.result.now c.insert.new.self (one c) c.in-Ok.ensures.spare))
