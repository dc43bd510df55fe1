use Rattle.std.proofs.Common.{None, refl, ap, arith}
use Rattle.crack_csv.proofs.Loaders.{TakesRecord-header, TakesRecord-row, StopsAtRecord-full, StopsAtRecord-bad, StopsAtRecord-refused}
use Rattle.crack_csv.proofs.loader.Loader.finish.Goals as goal

pub begin_next-requires-clause-few : goal.begin_next-requires-clause-few
begin_next-requires-clause-few g c = let few = c.is_at_header.ensures.counts.1 in omega (arith, few)

pub begin_next-requires-clause-numbered : goal.begin_next-requires-clause-numbered
begin_next-requires-clause-numbered g c = let first = c.is_at_header.ensures.first c.if-is_at_header.true in omega (arith, first)

pub begin_next-requires-in-Ok-clause-few : goal.begin_next-requires-in-Ok-clause-few
begin_next-requires-in-Ok-clause-few g c = let few = c.is_full.ensures.few c.if-is_full.false in omega (arith, few)

pub begin_next-requires-in-Ok-clause-numbered : goal.begin_next-requires-in-Ok-clause-numbered
begin_next-requires-in-Ok-clause-numbered g c = let few = c.is_at_header.ensures.counts.0 in omega (arith, few)

pub returns-then-is_at_header-clause-goes_on : goal.returns-then-is_at_header-clause-goes_on
returns-then-is_at_header-clause-goes_on g c =
    TakesRecord-header g.D.Desk.bounds g.D.Desk.splits g.D.Desk.tables g.D.Desk.accepted g.D.Desk.leads c.args.self.now c.begin_next.new.self c.args.desk.now c.is_at_header.result c.is_at_header.ensures.is c.if-is_at_header.true
    (ap (λ s. s.number) c.begin_next.ensures) (let same = ap (λ s. s.loaded) c.begin_next.ensures in omega (arith, same))

pub returns-then-is_full-clause-stops : goal.returns-then-is_full-clause-stops
returns-then-is_full-clause-stops g c =
    StopsAtRecord-full g.D.Desk.bounds g.D.Desk.splits g.D.Desk.tables g.D.Desk.accepted g.D.Desk.leads c.args.self.now c.args.desk.now c.is_at_header.result c.is_at_header.ensures.is c.if-is_at_header.false (c.is_full.ensures.full c.if-is_full.true)

pub returns-in-None-clause-stops : goal.returns-in-None-clause-stops
returns-in-None-clause-stops g c =
    rw (c.next_number.ensures)
    (StopsAtRecord-bad g.D.Desk.bounds g.D.Desk.splits g.D.Desk.tables g.D.Desk.accepted g.D.Desk.leads c.args.self.now c.args.desk.now c.is_at_header.result None c.is_at_header.ensures.is c.if-is_at_header.false
    (c.is_full.ensures.few c.if-is_full.false) c.in-None.ensures refl)

pub returns-in-Ok-clause-goes_on : goal.returns-in-Ok-clause-goes_on
returns-in-Ok-clause-goes_on g c =
    TakesRecord-row g.D.Desk.bounds g.D.Desk.splits g.D.Desk.tables g.D.Desk.accepted g.D.Desk.leads c.args.self.now c.begin_next-in-Ok.new.self c.args.desk.now c.insert_row.new.desk c.is_at_header.result c.in-Some.row c.is_at_header.ensures.is
    c.if-is_at_header.false c.in-Some.ensures (ap (λ s. s.number) c.begin_next-in-Ok.ensures) (ap (λ s. s.loaded) c.begin_next-in-Ok.ensures)
    (rw (c.policy.ensures) at c.in-Ok.ensures.asks) c.in-Ok.ensures.inserted c.in-Ok.ensures.accepted c.insert_row.ensures.splits c.insert_row.ensures.bounds

pub returns-in-Err-clause-stops : goal.returns-in-Err-clause-stops
returns-in-Err-clause-stops g c =
    StopsAtRecord-refused g.D.Desk.bounds g.D.Desk.splits g.D.Desk.tables g.D.Desk.accepted g.D.Desk.leads c.args.self.now c.args.desk.now c.insert_row.new.desk c.is_at_header.result c.in-Some.row c.in-Err.refusal c.is_at_header.ensures.is
    c.if-is_at_header.false (c.is_full.ensures.few c.if-is_full.false) c.in-Some.ensures
    (rw (c.policy.ensures) at c.in-Err.ensures.asks_in_vain) c.in-Err.ensures.kept c.in-Err.ensures.refused c.in-Err.ensures.accepted c.insert_row.ensures.splits c.insert_row.ensures.bounds
