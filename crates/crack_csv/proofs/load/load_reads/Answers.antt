use Rattle.std.proofs.Common.{◌≡◌, ◌∙◌, take, refl, ap, arith, Result, Ok, Err}
use Rattle.std.specs.Prelude.{IfErr, IfOk}
use Rattle.crack_row.specs.Devices.{device}
use Rattle.crack_csv.proofs.Feeding.{Reading-start, Reading-more, read_all, stopped_within, causes_within, stopped_at_end, causes_at_end, unread}
use Rattle.crack_csv.proofs.load.load_reads.Goals as goal

-- what follows from an outcome holds of it
ok_from : {A E : Type 0} (P Q : A → Type 0) (r : Result A E) → IfOk r P → ((x : A) → P x → Q x) → IfOk r Q
ok_from P Q (Ok x) is follows = follows x is
ok_from P Q (Err e) is follows = tt

err_from : {A E : Type 0} (P Q : E → Type 0) (r : Result A E) → IfErr r P → ((e : E) → P e → Q e) → IfErr r Q
err_from P Q (Ok x) is follows = tt
err_from P Q (Err e) is follows = follows e is

pub reads-init : goal.reads-init
reads-init g c = record {
  reading = Reading-start g.D.Desk.bounds g.D.Desk.splits g.D.Desk.tables g.D.Desk.accepted g.D.Desk.leads c.args.loader.now.policy c.args.desk.now (g.R.Read.remaining (device c.args.reader.now)) c.args.loader.now c.requires.begins;
  unfailed = refl;
}

pub reads-preserved : goal.reads-preserved
reads-preserved g c = record {
  reading = Reading-more g.D.Desk.bounds g.D.Desk.splits g.D.Desk.tables g.D.Desk.accepted g.D.Desk.leads c.args.loader.now.policy c.args.desk.now (g.R.Read.remaining (device c.args.reader.now)) c.feed.new.self c.feed.new.desk (g.R.Read.remaining (device c.read.new.self)) (take c.in-Ok.count c.read.new.buf) c.reads.invariant.reading c.in-Ok.ensures.bytes.0 c.in_default.ensures.goes_on;
  unfailed = c.in-Ok.ensures.ok ∙ c.reads.invariant.unfailed;
}

pub returns-in-Err-feed-clause-stops : goal.returns-in-Err-feed-clause-stops
returns-in-Err-feed-clause-stops g c =
    let stops = c.in-Err-feed.ensures.stops in
    stopped_within g.D.Desk.bounds g.D.Desk.splits g.D.Desk.tables g.D.Desk.accepted g.D.Desk.leads c.args.loader.now.policy c.args.desk.now (g.R.Read.remaining (device c.args.reader.now)) (g.R.Read.remaining (device c.read.new.self)) c.feed.new.desk (take c.in-Ok.count c.read.new.buf) stops.0 c.in-Err-feed.fault c.reads.invariant.reading c.in-Ok.ensures.bytes.0 stops.2

pub returns-in-Err-feed-clause-causes : goal.returns-in-Err-feed-clause-causes
returns-in-Err-feed-clause-causes g c =
    let stops = c.in-Err-feed.ensures.stops in
    causes_within g.D.Desk.bounds g.D.Desk.splits g.D.Desk.tables g.D.Desk.accepted g.D.Desk.leads c.args.loader.now.policy c.args.desk.now (g.R.Read.remaining (device c.args.reader.now)) c.feed.new.desk (take c.in-Ok.count c.read.new.buf) stops.0 c.in-Err-feed.fault _ _ c.reads.invariant.reading stops.2

pub returns-in-Ok-2-clause-ends : goal.returns-in-Ok-2-clause-ends
returns-in-Ok-2-clause-ends g c =
    let none : c.in-Ok.count ≡ 0 = let few = c.if-count-gt0.false in omega (arith, few) in
    let end = c.in-Ok.ensures.bytes.1 none (let room = c.read.auto.buf in omega (arith, room)) in
    ok_from _ _ c.end.result c.end.ensures.all (λ count ends.
    read_all g.D.Desk.bounds g.D.Desk.splits g.D.Desk.tables g.D.Desk.accepted g.D.Desk.leads c.args.loader.now.policy c.args.desk.now (g.R.Read.remaining (device c.args.reader.now)) (g.R.Read.remaining (device c.read.new.self)) (take c.in-Ok.count c.read.new.buf) c.end.new.desk count c.reads.invariant.reading (ap (λ n. take n c.read.new.buf) none) c.in-Ok.ensures.bytes.0 end ends)

pub returns-in-Ok-2-clause-stops : goal.returns-in-Ok-2-clause-stops
returns-in-Ok-2-clause-stops g c =
    let none : c.in-Ok.count ≡ 0 = let few = c.if-count-gt0.false in omega (arith, few) in
    let end = c.in-Ok.ensures.bytes.1 none (let room = c.read.auto.buf in omega (arith, room)) in
    err_from _ _ c.end.result c.end.ensures.stops (λ fault stops.
    stopped_at_end g.D.Desk.bounds g.D.Desk.splits g.D.Desk.tables g.D.Desk.accepted g.D.Desk.leads c.args.loader.now.policy c.args.desk.now (g.R.Read.remaining (device c.args.reader.now)) (g.R.Read.remaining (device c.read.new.self)) (take c.in-Ok.count c.read.new.buf) c.end.new.desk fault c.reads.invariant.reading (ap (λ n. take n c.read.new.buf) none) c.in-Ok.ensures.bytes.0 end stops)

pub returns-in-Ok-2-clause-causes : goal.returns-in-Ok-2-clause-causes
returns-in-Ok-2-clause-causes g c = err_from _ _ c.end.result c.end.ensures.stops (λ fault stops.
    causes_at_end g.D.Desk.bounds g.D.Desk.splits g.D.Desk.tables g.D.Desk.accepted g.D.Desk.leads c.args.loader.now.policy c.args.desk.now (g.R.Read.remaining (device c.args.reader.now)) c.end.new.desk fault _ _ c.reads.invariant.reading stops)

pub returns-in-Err-clause-stops : goal.returns-in-Err-clause-stops
returns-in-Err-clause-stops g c = unread g.D.Desk.bounds g.D.Desk.splits g.D.Desk.tables g.D.Desk.accepted g.D.Desk.leads c.args.loader.now.policy c.args.desk.now (g.R.Read.remaining (device c.args.reader.now)) c.unread.result c.reads.invariant.reading c.unread.ensures

pub returns-clause-stops : goal.returns-clause-stops
returns-clause-stops g c = unread g.D.Desk.bounds g.D.Desk.splits g.D.Desk.tables g.D.Desk.accepted g.D.Desk.leads c.args.loader.now.policy c.args.desk.now (g.R.Read.remaining (device c.args.reader.now)) c.unread-2.result c.reads.invariant.reading c.unread-2.ensures
