use Rattle.std.proofs.Common.{◌≤◌, ◌∙◌, length, ap, arith, refl}
use Rattle.std.specs.List.{flat_map}
use Rattle.std.proofs.lemmas.List.{drop_all}
use Rattle.crack_csv.specs.Exports.{record_text}
use Rattle.crack_csv.proofs.Batches.{Written-start, Written-more, written_all, written_front}
use Rattle.crack_csv.proofs.export.write_rows.Goals as goal

pub batches-init : goal.batches-init
batches-init g c = record {
  written = Written-start _ _ _ refl;
  unfailed = refl;
  empty = c.requires.empty;
}

pub batches-preserved : goal.batches-preserved
batches-preserved g c = record {
  written = Written-more _ _ _ c.batches.invariant.written c.push_rows-done.ensures.text c.in_default.ensures.writes.ok;
  unfailed = c.in_default.ensures.writes.unfailed ∙ c.batches.invariant.unfailed;
  empty = c.send_all.ensures.empty;
}

pub returns-in-Err-clause-writes : goal.returns-in-Err-clause-writes
returns-in-Err-clause-writes g c = record {
  ok = tt;
  unfailed = tt;
  err = c.in-Err.ensures.writes.err;
  front = written_front _ _ _ c.batches.invariant.written c.push_rows-done.ensures.text c.in-Err.ensures.writes.front;
}

pub returns-clause-writes : goal.returns-clause-writes
returns-clause-writes g c =
    let all : length c.args.rows.now ≤ c.batches.done = let test = c.batches-test.false in omega (arith, test) in
    record {
      ok = written_all c.batches.invariant.written (ap (flat_map record_text) (drop_all c.batches.done c.args.rows.now all));
      unfailed = c.batches.invariant.unfailed;
      err = tt;
      front = tt;
    }
