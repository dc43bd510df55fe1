use Rattle.std.proofs.Common.{◌≡◌, ◌<◌, ◌≤◌, length, get_or, set, arith, refl, ap, length-set}
use Rattle.crack_arena.specs.Arena.{no_handle}
use Rattle.crack_arena.specs.Memories.{nothing}
use Rattle.crack_column.specs.Inside.{no_tag}
use Rattle.crack_column.specs.Labels.{TagVector}
use Rattle.crack_column.specs.Held.{tags_with}
use Rattle.crack_column.proofs.PlaceLaws.{length-in, first-aside, handle_in, memory_in, handles-exchange, remembered-exchange, aside-exchange}
use Rattle.crack_column.proofs.HeldLaws.{swapped-held, IsHeld-exchange}
use Rattle.crack_column.proofs.held.HeldColumn.exchange.Goals as goal
use Rattle.crack_column.proofs.held.HeldColumn.exchange.Goals.{After-there-1}

first : (c : After-there-1) → c.args.place < c.self.inside.len
first c =
    let within : c.args.place < length c.args.self.now.handles = c.requires in
    omega (arith, rw (← c.self.view_is) at within, length-in (tags_with c.self.inside.tags.items c.self.inside.len c.self.inside.hand) c.self.inside.len (omega (arith, c.self.invariant.some, length-set c.self.inside.tags.items c.self.inside.len c.self.inside.hand)))

there_is : (c : After-there-1) → c.get-there.result ≡ get_or c.self.inside.tags.items c.args.place no_tag
there_is c = c.get-there.ensures

pub invariant_of-self : goal.invariant_of-self
invariant_of-self c = rw (ap (λ (v : TagVector). v.items) c.set.ensures) (IsHeld-exchange c.self.inside.tags.items c.self.inside.len c.args.place c.self.inside.hand c.get-there.result (first c) c.self.invariant.some (there_is c) c.self.inside.unread c.self.invariant)

pub returns : goal.returns
returns c =
    let n = c.self.inside.len in
    let place = c.args.place in
    let ts = tags_with c.self.inside.tags.items n c.self.inside.hand in
    let now = tags_with (set c.self.inside.tags.items place c.self.inside.hand) n c.get-there.result in
    let some : n < length ts = omega (arith, c.self.invariant.some, length-set c.self.inside.tags.items n c.self.inside.hand) in
    let fits : n ≤ length ts = omega (arith, some) in
    let swapped = swapped-held c.self.inside.tags.items n place c.self.inside.hand c.get-there.result (first c) c.self.invariant.some (there_is c) in
    rw (
      ← c.self.view_is,
      c.set.ensures,
      handles-exchange ts now n place fits (first c) some swapped,
      remembered-exchange ts now n place fits (first c) some swapped,
      aside-exchange ts now n place fits (first c) some swapped,
      length-set c.self.inside.tags.items place c.self.inside.hand,
      first-aside ts n some,
      handle_in ts n place no_handle fits (first c),
      memory_in ts n place nothing fits (first c),
    ) refl
