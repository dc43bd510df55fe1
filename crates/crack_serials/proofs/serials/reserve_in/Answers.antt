use Rattle.crack_serials.proofs.MapLemmas.{KeepsLists-set, room_at_set}
use Rattle.crack_serials.proofs.serials.reserve_in.Goals as goal

pub returns-in_err-reserve-clause-lists : goal.returns-in_err-reserve-clause-lists
returns-in_err-reserve-clause-lists c = KeepsLists-set c.args.maps.now.items c.args.number c.index_mut-map.result.now c.reserve.new.self (record { within = c.requires; is = c.index_mut-map.ensures.value }) c.reserve.ensures.entries c.reserve.ensures.room.0

pub returns-clause-lists : goal.returns-clause-lists
returns-clause-lists c = KeepsLists-set c.args.maps.now.items c.args.number c.index_mut-map.result.now c.reserve.new.self (record { within = c.requires; is = c.index_mut-map.ensures.value }) c.reserve.ensures.entries c.reserve.ensures.room.0

pub returns-clause-ok : goal.returns-clause-ok
returns-clause-ok c = rw (room_at_set c.args.maps.now.items c.args.number c.reserve.new.self c.requires) c.in_ok-reserve.ensures.ok
