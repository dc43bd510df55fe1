use Rattle.std.proofs.Common.{◌≤◌, refl, sym, ◌∙◌, arith}
use Rattle.crack_column.proofs.PlaceLaws.{length-in, standing, aside-Reorders, unread-Reorders}
use Rattle.crack_column.proofs.SiftLaws.{reordered, few, Remembers-sifted, handles-sifted, below-sifted, moved-sifted, read-sifted}
use Rattle.crack_column.proofs.column.CrackerColumn.sift.Goals as goal

pub invariant_of-self : goal.invariant_of-self
invariant_of-self c =
    let ts = c.self.inside.tags.items in
    let len = c.self.inside.len in
    let within = rw (← c.self.view_is) at c.requires.within in
    let end : c.args.to ≤ len = omega (arith, within, length-in ts len c.self.invariant.within) in
    let whole = reordered c.args.bound.0 c.args.start c.args.from c.args.to ts c.sift_between.new.self.items c.sift_between.result.0 c.sift_between.result.1 len c.self.invariant.within c.requires.order c.requires.behind end (rw c.number.ensures at c.sift_between.ensures.sifts) in
    let long = (standing c.args.start c.args.to ts c.sift_between.new.self.items 0 len c.self.invariant.within (omega (arith, c.requires.order, c.requires.behind)) end whole).len in
    record {
      within = omega (arith, long, c.self.invariant.within);
      few = omega (arith, long, c.self.invariant.few);
      counted = omega (arith, unread-Reorders c.args.start c.args.to ts c.sift_between.new.self.items 0 len c.self.invariant.within (omega (arith, c.requires.order, c.requires.behind)) end whole, c.self.invariant.counted);
    }

pub returns-clause-sifts : goal.returns-clause-sifts
returns-clause-sifts c = λ cells read.
    let ts = c.self.inside.tags.items in
    let len = c.self.inside.len in
    let within = rw (← c.self.view_is) at c.requires.within in
    let end : c.args.to ≤ len = omega (arith, within, length-in ts len c.self.invariant.within) in
    let known = rw (← c.self.view_is) at read in
    rw (← c.self.view_is) (record {
      handles_are = handles-sifted c.args.bound.0 c.args.start c.args.from c.args.to ts c.sift_between.new.self.items c.sift_between.result.0 c.sift_between.result.1 len c.self.invariant.within c.requires.order c.requires.behind end (rw c.number.ensures at c.sift_between.ensures.sifts) cells known;
      below_is = below-sifted c.args.bound.0 c.args.start c.args.from c.args.to ts c.sift_between.new.self.items c.sift_between.result.0 c.sift_between.result.1 len c.self.invariant.within c.requires.order c.requires.behind end (rw c.number.ensures at c.sift_between.ensures.sifts) cells known;
      moved_is = moved-sifted c.args.bound.0 c.args.start c.args.from c.args.to ts c.sift_between.new.self.items c.sift_between.result.0 c.sift_between.result.1 len c.self.invariant.within c.requires.order c.requires.behind end (rw c.number.ensures at c.sift_between.ensures.sifts) cells known;
      read = read-sifted c.args.bound.0 c.args.start c.args.from c.args.to ts c.sift_between.new.self.items c.sift_between.result.0 c.sift_between.result.1 len c.self.invariant.within c.requires.order c.requires.behind end (rw c.number.ensures at c.sift_between.ensures.sifts) cells known;
    })

pub returns-clause-few : goal.returns-clause-few
returns-clause-few c =
    let ts = c.self.inside.tags.items in
    let len = c.self.inside.len in
    let within = rw (← c.self.view_is) at c.requires.within in
    let end : c.args.to ≤ len = omega (arith, within, length-in ts len c.self.invariant.within) in
    few c.args.bound.0 c.args.start c.args.from c.args.to ts c.sift_between.new.self.items c.sift_between.result.0 c.sift_between.result.1 len c.self.invariant.within c.requires.order c.requires.behind end (rw c.number.ensures at c.sift_between.ensures.sifts)

pub returns-clause-length : goal.returns-clause-length
returns-clause-length c =
    let ts = c.self.inside.tags.items in
    let len = c.self.inside.len in
    let within = rw (← c.self.view_is) at c.requires.within in
    let end : c.args.to ≤ len = omega (arith, within, length-in ts len c.self.invariant.within) in
    let whole = reordered c.args.bound.0 c.args.start c.args.from c.args.to ts c.sift_between.new.self.items c.sift_between.result.0 c.sift_between.result.1 len c.self.invariant.within c.requires.order c.requires.behind end (rw c.number.ensures at c.sift_between.ensures.sifts) in
    let long = (standing c.args.start c.args.to ts c.sift_between.new.self.items 0 len c.self.invariant.within (omega (arith, c.requires.order, c.requires.behind)) end whole).len in
    rw (← c.self.view_is) (length-in c.sift_between.new.self.items len (omega (arith, long, c.self.invariant.within)) ∙ sym (length-in ts len c.self.invariant.within))

pub returns-clause-room : goal.returns-clause-room
returns-clause-room c =
    let ts = c.self.inside.tags.items in
    let len = c.self.inside.len in
    let within = rw (← c.self.view_is) at c.requires.within in
    let end : c.args.to ≤ len = omega (arith, within, length-in ts len c.self.invariant.within) in
    let whole = reordered c.args.bound.0 c.args.start c.args.from c.args.to ts c.sift_between.new.self.items c.sift_between.result.0 c.sift_between.result.1 len c.self.invariant.within c.requires.order c.requires.behind end (rw c.number.ensures at c.sift_between.ensures.sifts) in
    let long = (standing c.args.start c.args.to ts c.sift_between.new.self.items 0 len c.self.invariant.within (omega (arith, c.requires.order, c.requires.behind)) end whole).len in
    rw (← c.self.view_is, long, c.sift_between.ensures.capacity) refl

pub returns-clause-aside : goal.returns-clause-aside
returns-clause-aside c =
    let ts = c.self.inside.tags.items in
    let len = c.self.inside.len in
    let within = rw (← c.self.view_is) at c.requires.within in
    let end : c.args.to ≤ len = omega (arith, within, length-in ts len c.self.invariant.within) in
    let whole = reordered c.args.bound.0 c.args.start c.args.from c.args.to ts c.sift_between.new.self.items c.sift_between.result.0 c.sift_between.result.1 len c.self.invariant.within c.requires.order c.requires.behind end (rw c.number.ensures at c.sift_between.ensures.sifts) in
    rw (← c.self.view_is) (aside-Reorders c.args.start c.args.to ts c.sift_between.new.self.items 0 len c.self.invariant.within (omega (arith, c.requires.order, c.requires.behind)) end whole)

pub returns-clause-remembered : goal.returns-clause-remembered
returns-clause-remembered c = λ cells remembers.
    let ts = c.self.inside.tags.items in
    let len = c.self.inside.len in
    let within = rw (← c.self.view_is) at c.requires.within in
    let end : c.args.to ≤ len = omega (arith, within, length-in ts len c.self.invariant.within) in
    Remembers-sifted c.args.bound.0 c.args.start c.args.from c.args.to ts c.sift_between.new.self.items c.sift_between.result.0 c.sift_between.result.1 len c.self.invariant.within c.requires.order c.requires.behind end (rw c.number.ensures at c.sift_between.ensures.sifts) cells (rw (← c.self.view_is) at remembers)
