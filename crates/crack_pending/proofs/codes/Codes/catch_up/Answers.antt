use Rattle.std.proofs.Common.{◌≡◌, ◌≤◌, List, ℕ, ap, length, take, arith}
use Rattle.std.proofs.lemmas.List.{length-take}
use Rattle.crack_pending.proofs.Looks.{ahead_longer}
use Rattle.crack_pending.proofs.codes.Codes.catch_up.Goals as goal
use Rattle.crack_pending.proofs.codes.Codes.catch_up.Goals.{then-is_empty, else-is_empty}

longer : (codes codes' : List ℕ) → take (length codes) codes' ≡ codes → length codes ≤ length codes'
longer codes codes' same = omega (arith, ap length same, length-take (length codes) codes')

pub invariant_of-self-2 : goal.invariant_of-self-2
invariant_of-self-2 c =
    let i = c.self.inside in
    let old = i.codes.items in
    let a = i.ahead in
    elim c.if-is_empty.branch [
      | then-is_empty w ↦
          let kept = rw (w.self-inside-is, c.reserve.ensures.items) at c.append_codes.ensures.kept in
          rw (w.self-inside-is) (w.scale_of-self-inside.ensures, ahead_longer old a.first a.last a.from a.to a.candidates.items a.next c.self.invariant.1 _ (longer old _ kept) kept)
      | else-is_empty w ↦
          let kept = rw (w.self-inside-is, c.reserve.ensures.items) at c.append_codes.ensures.kept in
          rw (w.self-inside-is) (c.self.invariant.0, ahead_longer old a.first a.last a.from a.to a.candidates.items a.next c.self.invariant.1 _ (longer old _ kept) kept)
    ]
