use Rattle.std.proofs.Common.{◌≡◌, [], inl, refl, ◌∙◌, arith, rules}
use Rattle.std.proofs.KnownBytes.{Keeps-refl}
use Rattle.crack_row.specs.Devices.{device, reads_of}
use Rattle.crack_row.specs.declared.refusal.Refusal.TheVariants.{ReadFault}
use Rattle.crack_session.proofs.Running.{Running-start, ReadsMade-none, ReadsMade-more}
use Rattle.crack_session.proofs.Serves.{running-on, served-turn, cut-before, cut-turn, splits-turn, unfailed-turn, cause-turn, cause-last}
use Rattle.crack_session.proofs.serving.serve_reads.Goals as goal

pub returns-in-Err-clause-cut_off : goal.returns-in-Err-clause-cut_off
returns-in-Err-clause-cut_off g c =
    cut-before g.D.Desk.bounds g.D.Desk.splits g.D.Desk.tables g.D.Desk.leads g.R.Read.remaining g.W.Write.contents c.args.session.now c.args.desk.now (g.R.Read.remaining (device c.args.reader.now)) (g.W.Write.contents (device c.args.writer.now)) c.requires.begins c.args.session.now c.args.desk.now _ _ _ 0 c.in-Err.refusal
    (Running-start g.D.Desk.bounds g.D.Desk.splits g.D.Desk.tables g.D.Desk.leads c.args.session.now c.args.desk.now _ _ (g.W.Write.contents (device c.flush.new.writer)) c.requires.begins.unwritten c.requires.begins.ending c.flush.ensures.bytes) (omega arith) (Keeps-refl _)

pub returns-in-Err-clause-causes : goal.returns-in-Err-clause-causes
returns-in-Err-clause-causes g c = inl c.in-Err.ensures.err

pub reads-init : goal.reads-init
reads-init g c = record {
  running = Running-start g.D.Desk.bounds g.D.Desk.splits g.D.Desk.tables g.D.Desk.leads c.args.session.now c.args.desk.now _ _ (g.W.Write.contents (device c.flush.new.writer)) c.requires.begins.unwritten c.requires.begins.ending c.flush.ensures.bytes;
  empty = search rules;
  few = omega arith;
  made = ReadsMade-none (reads_of c.args.reader.now);
  reader_unfailed = refl;
  writer_unfailed = c.in_default.ensures.unfailed;
}

pub serve_read-requires-clause-written : goal.serve_read-requires-clause-written
serve_read-requires-clause-written g c = c.reads.invariant.running.wants

pub returns-in-Ok-Some-clause-ends : goal.returns-in-Ok-Some-clause-ends
returns-in-Ok-Some-clause-ends g c =
    served-turn g.D.Desk.bounds g.D.Desk.splits g.D.Desk.tables g.D.Desk.leads g.R.Read.remaining g.W.Write.contents c.args.session.now c.args.desk.now (g.R.Read.remaining (device c.args.reader.now)) (g.W.Write.contents (device c.args.writer.now)) c.requires.begins c.reads.session c.serve_read.new.session c.in-Ok-Some.how c.reads.desk c.serve_read.new.desk c.reads.reader c.serve_read.new.reader c.reads.writer c.serve_read.new.writer c.reads.reads
    c.reads.invariant.running (omega arith) (rw c.in-Ok-Some.field-0-is at c.in-Ok-Some.ensures.turn)

pub returns-in-Ok-Some-clause-splits : goal.returns-in-Ok-Some-clause-splits
returns-in-Ok-Some-clause-splits g c =
    (splits-turn g.D.Desk.bounds g.D.Desk.splits g.D.Desk.tables g.D.Desk.leads g.R.Read.remaining g.W.Write.contents c.args.session.now c.args.desk.now (g.R.Read.remaining (device c.args.reader.now)) (g.W.Write.contents (device c.args.writer.now)) c.reads.session c.serve_read.new.session _ c.reads.desk c.serve_read.new.desk c.reads.reader c.serve_read.new.reader c.reads.writer c.serve_read.new.writer c.in-Ok-Some.ensures.turn).0 ∙ c.reads.invariant.running.feeds.answered.splits_are

pub returns-in-Ok-Some-clause-bounds : goal.returns-in-Ok-Some-clause-bounds
returns-in-Ok-Some-clause-bounds g c =
    (splits-turn g.D.Desk.bounds g.D.Desk.splits g.D.Desk.tables g.D.Desk.leads g.R.Read.remaining g.W.Write.contents c.args.session.now c.args.desk.now (g.R.Read.remaining (device c.args.reader.now)) (g.W.Write.contents (device c.args.writer.now)) c.reads.session c.serve_read.new.session _ c.reads.desk c.serve_read.new.desk c.reads.reader c.serve_read.new.reader c.reads.writer c.serve_read.new.writer c.in-Ok-Some.ensures.turn).1 ∙ c.reads.invariant.running.feeds.answered.bounds_are

pub returns-in-Ok-Some-clause-unfailed : goal.returns-in-Ok-Some-clause-unfailed
returns-in-Ok-Some-clause-unfailed g c =
    let none = unfailed-turn g.D.Desk.bounds g.D.Desk.splits g.D.Desk.tables g.D.Desk.leads g.R.Read.remaining g.W.Write.contents c.args.session.now c.args.desk.now (g.R.Read.remaining (device c.args.reader.now)) (g.W.Write.contents (device c.args.writer.now)) c.reads.session c.serve_read.new.session _ c.reads.desk c.serve_read.new.desk c.reads.reader c.serve_read.new.reader c.reads.writer c.serve_read.new.writer c.in-Ok-Some.ensures.turn in
    (none.0 ∙ c.reads.invariant.reader_unfailed, none.1 ∙ c.reads.invariant.writer_unfailed)

pub returns-in-Err-serve_read-clause-splits : goal.returns-in-Err-serve_read-clause-splits
returns-in-Err-serve_read-clause-splits g c =
    (splits-turn g.D.Desk.bounds g.D.Desk.splits g.D.Desk.tables g.D.Desk.leads g.R.Read.remaining g.W.Write.contents c.args.session.now c.args.desk.now (g.R.Read.remaining (device c.args.reader.now)) (g.W.Write.contents (device c.args.writer.now)) c.reads.session c.serve_read.new.session _ c.reads.desk c.serve_read.new.desk c.reads.reader c.serve_read.new.reader c.reads.writer c.serve_read.new.writer c.in-Err-serve_read.ensures.turn).0 ∙ c.reads.invariant.running.feeds.answered.splits_are

pub returns-in-Err-serve_read-clause-bounds : goal.returns-in-Err-serve_read-clause-bounds
returns-in-Err-serve_read-clause-bounds g c =
    (splits-turn g.D.Desk.bounds g.D.Desk.splits g.D.Desk.tables g.D.Desk.leads g.R.Read.remaining g.W.Write.contents c.args.session.now c.args.desk.now (g.R.Read.remaining (device c.args.reader.now)) (g.W.Write.contents (device c.args.writer.now)) c.reads.session c.serve_read.new.session _ c.reads.desk c.serve_read.new.desk c.reads.reader c.serve_read.new.reader c.reads.writer c.serve_read.new.writer c.in-Err-serve_read.ensures.turn).1 ∙ c.reads.invariant.running.feeds.answered.bounds_are

pub returns-in-Err-serve_read-clause-causes : goal.returns-in-Err-serve_read-clause-causes
returns-in-Err-serve_read-clause-causes g c =
    cause-turn g.D.Desk.bounds g.D.Desk.splits g.D.Desk.tables g.D.Desk.leads g.R.Read.remaining g.W.Write.contents c.args.session.now c.args.desk.now (g.R.Read.remaining (device c.args.reader.now)) (g.W.Write.contents (device c.args.writer.now)) c.reads.session c.serve_read.new.session c.in-Err-serve_read.refusal c.reads.desk c.serve_read.new.desk c.reads.reader c.serve_read.new.reader c.reads.writer c.serve_read.new.writer (reads_of c.args.reader.now) c.in-Err-serve_read.ensures.turn

pub returns-clause-splits : goal.returns-clause-splits
returns-clause-splits g c = c.reads.invariant.running.feeds.answered.splits_are

pub returns-clause-bounds : goal.returns-clause-bounds
returns-clause-bounds g c = c.reads.invariant.running.feeds.answered.bounds_are

pub returns-clause-causes : goal.returns-clause-causes
returns-clause-causes g c =
    cause-last g.D.Desk.bounds g.D.Desk.splits g.D.Desk.tables g.D.Desk.leads g.R.Read.remaining g.W.Write.contents c.args.session.now c.args.desk.now (g.R.Read.remaining (device c.args.reader.now)) (g.W.Write.contents (device c.args.writer.now)) c.reads.session c.reads.desk _ _ c.reads.reads (reads_of c.args.reader.now) (reads_of c.reads.reader) _ _ c.reads.invariant.running (let few = c.reads.invariant.few in omega (arith, few)) c.reads.invariant.made

pub returns-in-Err-serve_read-clause-cut_off : goal.returns-in-Err-serve_read-clause-cut_off
returns-in-Err-serve_read-clause-cut_off g c =
    cut-turn g.D.Desk.bounds g.D.Desk.splits g.D.Desk.tables g.D.Desk.leads g.R.Read.remaining g.W.Write.contents c.args.session.now c.args.desk.now (g.R.Read.remaining (device c.args.reader.now)) (g.W.Write.contents (device c.args.writer.now)) c.requires.begins c.reads.session c.serve_read.new.session c.in-Err-serve_read.refusal c.reads.desk c.serve_read.new.desk c.reads.reader c.serve_read.new.reader c.reads.writer c.serve_read.new.writer c.reads.reads
    c.reads.invariant.running (omega arith) c.in-Err-serve_read.ensures.turn

pub reads-preserved : goal.reads-preserved
reads-preserved g c = record {
  running = running-on g.D.Desk.bounds g.D.Desk.splits g.D.Desk.tables g.D.Desk.leads g.R.Read.remaining g.W.Write.contents c.args.session.now c.args.desk.now (g.R.Read.remaining (device c.args.reader.now)) (g.W.Write.contents (device c.args.writer.now)) c.reads.session c.serve_read.new.session c.reads.desk c.serve_read.new.desk c.reads.reader c.serve_read.new.reader c.reads.writer c.serve_read.new.writer c.reads.reads
      c.reads.invariant.running (rw c.in-Ok-None.field-0-is at c.in-Ok-None.ensures.turn);
  empty = c.serve_read.ensures.empty;
  few = omega arith;
  made = ReadsMade-more (reads_of c.args.reader.now) (reads_of c.reads.reader) (reads_of c.serve_read.new.reader) c.reads.reads c.reads.invariant.made c.in-Ok-None.ensures.turn.counted;
  reader_unfailed = (unfailed-turn g.D.Desk.bounds g.D.Desk.splits g.D.Desk.tables g.D.Desk.leads g.R.Read.remaining g.W.Write.contents c.args.session.now c.args.desk.now (g.R.Read.remaining (device c.args.reader.now)) (g.W.Write.contents (device c.args.writer.now)) c.reads.session c.serve_read.new.session _ c.reads.desk c.serve_read.new.desk c.reads.reader c.serve_read.new.reader c.reads.writer c.serve_read.new.writer c.in-Ok-None.ensures.turn).0 ∙ c.reads.invariant.reader_unfailed;
  writer_unfailed = (unfailed-turn g.D.Desk.bounds g.D.Desk.splits g.D.Desk.tables g.D.Desk.leads g.R.Read.remaining g.W.Write.contents c.args.session.now c.args.desk.now (g.R.Read.remaining (device c.args.reader.now)) (g.W.Write.contents (device c.args.writer.now)) c.reads.session c.serve_read.new.session _ c.reads.desk c.serve_read.new.desk c.reads.reader c.serve_read.new.reader c.reads.writer c.serve_read.new.writer c.in-Ok-None.ensures.turn).1 ∙ c.reads.invariant.writer_unfailed;
}

pub returns-clause-cut_off : goal.returns-clause-cut_off
returns-clause-cut_off g c =
    cut-before g.D.Desk.bounds g.D.Desk.splits g.D.Desk.tables g.D.Desk.leads g.R.Read.remaining g.W.Write.contents c.args.session.now c.args.desk.now (g.R.Read.remaining (device c.args.reader.now)) (g.W.Write.contents (device c.args.writer.now)) c.requires.begins c.reads.session c.reads.desk _ _ _ c.reads.reads ReadFault c.reads.invariant.running c.reads.invariant.few (Keeps-refl _)
