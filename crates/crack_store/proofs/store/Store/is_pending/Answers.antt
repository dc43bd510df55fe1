use Rattle.std.proofs.Common.{◌≡◌, ◌<◌, Some, sym, ap}
use Rattle.std.specs.Prelude.{◌↔◌, IsTrue}
use Rattle.std.proofs.lemmas.Bool.{ltb_from_iff}
use Rattle.crack_arena.specs.Arena.{times, slots}
use Rattle.crack_serials.specs.Serials.{handle_of}
use Rattle.crack_store.specs.Inside.{lists_of}
use Rattle.crack_store.proofs.store.Store.is_pending.Goals as goal

pub returns-in-Some-clause-value : goal.returns-in-Some-clause-value
returns-in-Some-clause-value c =
    let s = lists_of c.self.inside.inside in
    let found : handle_of s.serials c.args.serial.0 ≡ Some c.in-Some.handle = sym c.in-Some.ensures in
    let is : IsTrue c.contains.result ↔ (0 < times c.in-Some.handle.slot (slots s.pending_in)) = rw c.slot.ensures at c.contains.ensures in
    rw (← c.self.view_is, found) (ap Some (ltb_from_iff is))
