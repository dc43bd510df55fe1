use Rattle.std.proofs.Common.{◌≡◌, ◌<◌, ◌+◌, ◌∙◌, ap, length, arith}
use Rattle.crack_csv.proofs.Cutting.{Exporting-cut, Exporting-kept, header_unsent}
use Rattle.crack_csv.proofs.Exporting.{Exporting-more, Exporting-end, keeps_appends}
use Rattle.crack_csv.proofs.Listing.{Listing-more, Listing-end, Listing-unsent, Listing-cut, Listing-kept}
use Rattle.crack_csv.proofs.export.export_csv.Goals as goal

pub parts-preserved : goal.parts-preserved
parts-preserved g c = record {
  exporting = λ tables e. Exporting-more c.in-Ok.rows _ _ (c.parts.invariant.exporting tables e) (rw (c.parts.invariant.bounds, c.parts.invariant.splits) at c.in-Ok.ensures.exported);
  listing = Listing-more _ _ _ _ _ c.in-Ok.rows _ _ _ c.parts.invariant.listing c.parts.invariant.splits c.in-Ok.ensures.asks;
  few = let small = c.in-Ok.ensures.small in let few = c.parts.invariant.few in omega (arith, small, few);
  unfailed = c.in-Ok.ensures.unfailed ∙ c.parts.invariant.unfailed;
  accepted = let more = c.in-Ok.ensures.accepted in let was = c.parts.invariant.accepted in omega (arith, more, was);
  splits = c.export_part.ensures.splits ∙ c.parts.invariant.splits;
  bounds = c.export_part.ensures.bounds ∙ c.parts.invariant.bounds;
  empty = c.export_part.ensures.empty;
}

pub returns-in-Ok-flush-clause-exported : goal.returns-in-Ok-flush-clause-exported
returns-in-Ok-flush-clause-exported g c = λ tables e.
    let all : c.parts.part ≡ length tables =
    let cuts = ap length c.splits.ensures.value in let few = c.splits.ensures.partitions tables e in let ends = c.parts-test.false in let within = c.parts.auto.part-end in
    omega (arith, cuts, few, ends, within) in
    Exporting-end _ (c.parts.invariant.exporting tables e) all (keeps_appends _ _ c.flush.ensures.bytes)

pub returns-in-Err-clause-cut : goal.returns-in-Err-clause-cut
returns-in-Err-clause-cut g c = λ tables e. header_unsent _ _ tables _ _ _ _ _ _ _ e c.in-Err.ensures.err.0 c.in-Err.ensures.err.1 c.in-Err.ensures.front

pub returns-in-Err-export_part-clause-cut : goal.returns-in-Err-export_part-clause-cut
returns-in-Err-export_part-clause-cut g c = λ tables e.
    Exporting-cut _ _ _ _ _ _ _ _ (c.parts.invariant.exporting tables e) c.parts.invariant.accepted
    (rw (c.parts.invariant.bounds, c.parts.invariant.splits, c.parts.invariant.unfailed) at c.in-Err-export_part.ensures.cut)

pub returns-in-Err-flush-clause-cut : goal.returns-in-Err-flush-clause-cut
returns-in-Err-flush-clause-cut g c = λ tables e.
    let all : c.parts.part ≡ length tables =
    let cuts = ap length c.splits.ensures.value in let few = c.splits.ensures.partitions tables e in let ends = c.parts-test.false in let within = c.parts.auto.part-end in
    omega (arith, cuts, few, ends, within) in
    Exporting-kept _ _ _ _ _ (c.parts.invariant.exporting tables e) c.parts.invariant.accepted all c.in-Err-flush.ensures.err c.flush.ensures.bytes

pub returns-in-Ok-flush-clause-asks : goal.returns-in-Ok-flush-clause-asks
returns-in-Ok-flush-clause-asks g c =
    let all : c.parts.part ≡ length (g.D.Desk.splits c.args.desk.now) + 1 = let cuts = ap length c.splits.ensures.value in let ends = c.parts-test.false in let within = c.parts.auto.part-end in omega (arith, cuts, ends, within) in
    Listing-end _ _ _ _ _ _ c.parts.invariant.listing all c.flush.ensures.bytes

pub returns-in-Err-clause-asks_in_part : goal.returns-in-Err-clause-asks_in_part
returns-in-Err-clause-asks_in_part g c = Listing-unsent _ _ _ _ _ _ _ _ _ c.in-Err.ensures.err.0 c.in-Err.ensures.err.1 c.in-Err.ensures.front

pub returns-in-Err-export_part-clause-asks_in_part : goal.returns-in-Err-export_part-clause-asks_in_part
returns-in-Err-export_part-clause-asks_in_part g c =
    let below : c.parts.part < length (g.D.Desk.splits c.args.desk.now) + 1 = let cuts = ap length c.splits.ensures.value in let test = c.parts-test.true in omega (arith, cuts, test) in
    Listing-cut _ _ _ _ _ _ _ _ _ _ _ c.parts.invariant.listing below c.parts.invariant.splits (rw c.parts.invariant.unfailed at c.in-Err-export_part.ensures.asks_in_part)

pub returns-in-Err-flush-clause-asks_in_part : goal.returns-in-Err-flush-clause-asks_in_part
returns-in-Err-flush-clause-asks_in_part g c =
    let all : c.parts.part ≡ length (g.D.Desk.splits c.args.desk.now) + 1 = let cuts = ap length c.splits.ensures.value in let ends = c.parts-test.false in let within = c.parts.auto.part-end in omega (arith, cuts, ends, within) in
    Listing-kept _ _ _ _ _ _ _ _ c.parts.invariant.listing all c.in-Err-flush.ensures.err c.flush.ensures.bytes
