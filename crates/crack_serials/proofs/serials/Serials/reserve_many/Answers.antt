use Rattle.std.proofs.Common.{ap, ◌∙◌, arith, Result, Ok, Err, OnOk}
use Rattle.crack_serials.specs.Serials.{Serials}
use Rattle.crack_serials.specs.Views.{entries_in_maps, rooms_of}
use Rattle.crack_serials.proofs.MapLemmas.{entries-kept}
use Rattle.crack_serials.proofs.ShareLemmas.{HasRoom-all, some_room}
use Rattle.crack_serials.proofs.serials.Serials.reserve_many.Goals as goal

-- what holds of an Ok result
on_ok : {X E P Q : Type 0} (r : Result X E) → OnOk r P → (P → Q) → OnOk r Q
on_ok (Ok x) holds more = more holds
on_ok (Err e) holds more = tt

pub returns-in_err-have_maps-clause-succeeds : goal.returns-in_err-have_maps-clause-succeeds
returns-in_err-have_maps-clause-succeeds c = λ room.
    let ok = c.in_err-have_maps.ensures.succeeds (some_room c.args.self.now c.args.first.0 c.args.count (omega arith) room) in
    absurd (cc)

pub returns-clause-entries : goal.returns-clause-entries
returns-clause-entries c = entries-kept c.self.inside.maps.items c.reserve_shares.new.maps.items c.reserve_shares.ensures.lists ∙ ap (λ (s : Serials). s.entries) c.self.view_is ∙ c.have_maps.ensures.entries

pub returns-clause-ok : goal.returns-clause-ok
returns-clause-ok c = on_ok c.reserve_shares.result c.reserve_shares.ensures.ok (λ shares. HasRoom-all (record { entries = entries_in_maps c.reserve_shares.new.maps.items; room = rooms_of c.reserve_shares.new.maps.items }) c.args.first.0 c.args.count shares)
