use Rattle.std.proofs.Common.{◌≡◌, ℕ, List, [], ◌∷◌, ◌++◌, length, reverse, All, ap, sym, subst, arith, length-append}
use Rattle.crack_part.specs.Parts.{Part, table_of}
use Rattle.crack_witness.specs.Histories.{IsPastOf}
use Rattle.crack_witness.specs.Witnesses.{WitnessedState, IsNewAt}
use Rattle.crack_witness.specs.Keeps.{AreOwners}
use Rattle.crack_witness.proofs.Lists.{all_front}
use Rattle.crack_witness.proofs.Opens.{AreDone, owners_begin, done_more}
use Rattle.crack_witness.proofs.opening.witness_each.Goals as goal

pub partitions-preserved : goal.partitions-preserved
partitions-preserved g c =
    let own : ℕ → ℕ = g.J.Naming.owner in
    let all = c.args.partitions.now.items in
    let os = c.pop-in-Some.new.self.items in
    let ps = c.pop.new.self.items in
    let o = c.in-Some-pop.owner in
    let p = c.in-Some.partition in
    let w = c.in-Ok.one in
    let old = c.partitions.invariant in
    let os_is : c.partitions.owners.items ≡ os ++ o ∷ [] = c.in-Some-pop.ensures.items in
    let ps_is : c.partitions.partitions.items ≡ ps ++ p ∷ [] = c.in-Some.ensures.items in
    let count : length ps ≡ length os = omega (arith, old.count, ap length os_is, ap length ps_is, length-append os (o ∷ []), length-append ps (p ∷ [])) in
    let is : c.len-number.result ≡ length ps = omega (arith, c.len-number.ensures, count) in
    let here : IsNewAt own c.args.workers c.args.is_audited (length ps) p w = subst (λ (n : ℕ). IsNewAt own c.args.workers c.args.is_audited n p w) is c.in-Ok.ensures in
    let done = done_more own c.args.workers c.args.is_audited all ps p w c.partitions.witnessed.items here (subst (λ (l : List Part). AreDone own c.args.workers c.args.is_audited all l (reverse c.partitions.witnessed.items)) ps_is old.done) in
    record {
      owners = owners_begin g.J.Naming.book own os (o ∷ []) (subst (AreOwners g.J.Naming.book own) os_is old.owners);
      new = all_front (λ (q : Part). IsPastOf [] (table_of q)) ps (p ∷ []) (subst (All (λ (q : Part). IsPastOf [] (table_of q))) ps_is old.new);
      count = count;
      few = omega (arith, old.few, ap length os_is, length-append os (o ∷ []));
      room = omega (arith, old.room, ap length os_is, length-append os (o ∷ []), c.push_reserved.ensures.len, c.push_reserved.ensures.capacity);
      done = subst (λ (l : List WitnessedState). AreDone own c.args.workers c.args.is_audited all ps (reverse l)) (sym {A = List WitnessedState} c.push_reserved.ensures.items) done;
    }
