-- The events seen of a book, a partition with its history writer, and a worker may go to another thread:
-- level by level.
use base.Fml.{ftrue}
use denote.RattleType.{RattleType}
use denote.Param.Send.{IsSend, struct_send, sendable}
use denote.Struct.Declared.{shape}
use Rattle.std.proofs.Crossing.{crosses}
use Rattle.logbook.proofs.tokens.Pen.TheSendSync as pen
use Rattle.logbook.proofs.tokens.Seen.TheSendSync as seen
use Rattle.logbook.proofs.word.Word.TheSendSync as word
use Rattle.crack_row.specs.contracts.command.Entry as Entry
use Rattle.crack_witness.specs.contracts.receipt.Receipt as Receipt
use Rattle.crack_part.proofs.Crosses.{command-send, reply-send, partition-send}
use Rattle.std.proofs.Common.{[]}
use Rattle.crack_witness.specs.Rules.{IsBookKept}
use Rattle.crack_witness.specs.declared.opening.Naming.{Ghosts}
use Rattle.crack_witness.specs.contracts.history_writer.SeenEvents as SeenEvents
use Rattle.crack_witness.specs.contracts.history_writer.SeenEvents.TheInside as seen_events
use Rattle.crack_witness.specs.contracts.history_writer.HistoryWriter as HistoryWriter
use Rattle.crack_witness.specs.contracts.history_writer.HistoryWriter.TheInside as history_writer
use Rattle.crack_witness.specs.contracts.witnessed.Witnessed as Witnessed
use Rattle.crack_witness.specs.contracts.witnessed.Witnessed.TheInside as inside
use Rattle.crack_witness.specs.contracts.worker.Worker as Worker
use Rattle.crack_witness.specs.contracts.worker.Worker.TheInside as worker

-- worker, command, reply
entry-send : IsSend Entry.the_field.row
entry-send = struct_send (shape Entry.the_type) (search sendable depth 30, (command-send, (reply-send, tt)))

-- part, position, worker, command, reply
receipt-send : IsSend Receipt.the_field.row
receipt-send = struct_send (shape Receipt.the_type) (search sendable depth 30, (search sendable depth 30, (search sendable depth 30, (command-send, (reply-send, tt)))))

module _ (J : RattleType) (g : Ghosts J.Denot) (s : IsSend J) where
  -- seen, of
  seen_events-inside : IsSend (seen_events.the_field J g).row
  seen_events-inside = struct_send (shape (seen_events.the_type J g)) (seen.the_send _ _ _ (record { holds = λ cells log. IsBookKept cells log; first = []; hinted = λ n log. Unit {0}; shows = λ log. []; keeps = λ names log. ftrue; moves = λ ask before after answer. Unit {0} }), (search (sendable, crosses) depth 30, tt))

  pub seen_events-send : IsSend (SeenEvents.the_row J g)
  seen_events-send = let i = seen_events-inside in search (sendable, crosses) depth 30

  -- part, word, pen, seen, of
  history_writer-inside : IsSend (history_writer.the_field J g).row
  history_writer-inside = struct_send (shape (history_writer.the_type J g)) (search (sendable, crosses) depth 30, (search (sendable, crosses, word.the_send) depth 30, (pen.the_send, (seen.the_send _ _ _ (record { holds = λ cells log. IsBookKept cells log; first = []; hinted = λ n log. Unit {0}; shows = λ log. []; keeps = λ names log. ftrue; moves = λ ask before after answer. Unit {0} }), (search (sendable, crosses) depth 30, tt)))))

  history_writer-send : IsSend (HistoryWriter.the_row J g)
  history_writer-send = let i = history_writer-inside in search (sendable, crosses) depth 30

  -- partition, history writer, answered, entries
  witnessed-inside : IsSend (inside.the_field J g).row
  witnessed-inside =
      let p = partition-send in
      let w = history_writer-send in
      let e = entry-send in
      struct_send (shape (inside.the_type J g)) (search (sendable, crosses) depth 30, (search (sendable, crosses) depth 30, (search (sendable, crosses) depth 30, (search (sendable, crosses) depth 30, tt))))

  pub witnessed-send : IsSend (Witnessed.the_row J g)
  witnessed-send = let i = witnessed-inside in search (sendable, crosses) depth 30

  -- number, front, fronts, counts, receipts
  worker-inside : IsSend (worker.the_field J g).row
  worker-inside =
      let f = seen_events-send in
      let r = receipt-send in
      struct_send (shape (worker.the_type J g)) (search (sendable, crosses) depth 30, (search (sendable, crosses) depth 30, (search (sendable, crosses) depth 30, (search (sendable, crosses) depth 30, (search (sendable, crosses) depth 30, tt)))))

  pub worker-send : IsSend (Worker.the_row J g)
  worker-send = let i = worker-inside in search (sendable, crosses) depth 30
