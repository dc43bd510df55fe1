use Rattle.std.proofs.Common.{◌≡◌, ◌+◌, ◌-◌, sym, rules, arith, length, take, drop, length-drop}
use Rattle.std.specs.Int.{w128}
use Rattle.std.proofs.lemmas.Int.{to_z-of_z}
use Rattle.std.proofs.lemmas.List.{take_all}
use Rattle.crack_commands.proofs.Inserting.{begins_with}
use Rattle.crack_commands.proofs.leading.leading_insert.Goals as goal

pub returns : goal.returns
returns c =
    let rest = c.in_ok-rest.rest.now in
    let from = c.in_ok-key.first + 1 in
    let cut : take (length rest - from) (drop from rest) ≡ drop from rest = take_all (length rest - from) (drop from rest) (let long = length-drop from rest in omega (arith, long)) in
    begins_with c.args.bytes.now rest c.in_ok-key.first c.in_ok-payload.second c.in_ok-key.key c.in_ok-payload.payload _ _ (search rules)
    c.in_ok-key.ensures.within c.in_ok-key.ensures.stop c.in_ok-key.ensures.digits c.in_ok-key.ensures.value
    (rw cut at c.in_ok-payload.ensures)
    (sym (rw (to_z-of_z w128 c.in_ok-payload.payload (search rules)) at c.in_ok-key-2.ensures))
