-- A desk's clauses about a known table are empty here: the table isn't known.
use Rattle.std.proofs.Common.{◌≡◌, Some, None, is_some, ap, refl}
use Rattle.std.proofs.lemmas.Bool.{false≢true}
use Rattle.crack_core.specs.Steps.{bounds_from}
use Rattle.crack_table.specs.Tables.{TableState}
use Rattle.crack_witness.specs.Witnesses.{WorkerState, replies_to}
use Rattle.crack_worker_desk.proofs.desk.WorkerDeskDesk.TheImpl.Goals as goal

unknown : {X : Type 0} {P : Type 0} (x : X) → None ≡ Some x → P
unknown x known = absurd (false≢true (ap is_some known))

pub ask-tells : goal.ask-tells
ask-tells g c = record {
  outcome = λ tables known. unknown tables known;
  after = λ tables known. unknown tables known;
  small = c.ensures.asks.small;
  splits = ap (λ t. t.splits) c.ensures.table.0;
  bounds = ap (λ (t : TableState). bounds_from t.limits) c.ensures.table.0;
  accepted = c.ensures.replies;
  leads = (c.ensures.table.0, c.ensures.table.1, c.ensures.asks);
}

pub checkpoint-tells : goal.checkpoint-tells
checkpoint-tells g c = record {
  outcome = λ tables known. unknown tables known;
  after = λ tables known. unknown tables known;
  splits = ap (λ (t : TableState). t.splits) c.ensures.table.0;
  bounds = ap (λ (t : TableState). bounds_from t.limits) c.ensures.table.0;
  accepted = ap (λ (a : WorkerState). replies_to a) c.ensures.worker;
  leads = (c.ensures.table.0, c.ensures.table.1, (c.ensures.checkpoints, c.ensures.worker));
}

pub layout-tells : goal.layout-tells
layout-tells g c = record { outcome = λ tables known. unknown tables known; leads = (refl, refl, (c.ensures.looks, refl)) }

pub statistics-tells : goal.statistics-tells
statistics-tells g c = record { outcome = λ tables known. unknown tables known; leads = (refl, refl, (c.ensures.measures, refl)) }

pub service-tells : goal.service-tells
service-tells g c = record { leads = (refl, refl, (c.ensures.none, refl)) }
