-- The outcome of a command at a partition, by how it ends.
use Rattle.std.specs.Prelude.{◌≡◌, ◌<◌, true, false, length, Option, None, Some, Result, Ok, Err, IfOk, IfErr, OnOk, OnErr}
use Rattle.std.proofs.Common.{ap, refl, subst, sym, ◌∙◌, inl, inr}
use Rattle.std.proofs.lemmas.Bool.{and_parts}
use Rattle.crack_row.specs.Commands.{change_of, range_of}
use Rattle.crack_row.specs.declared.command.Command.{Command}
use Rattle.crack_row.specs.declared.command.Policy.{Policy}
use Rattle.crack_row.specs.declared.command.Policy.TheVariants.{Complete}
use Rattle.crack_row.specs.declared.command.Reply.{Reply}
use Rattle.crack_row.specs.declared.limit.Limits.{Limits}
use Rattle.crack_row.specs.declared.refusal.Refusal.{Refusal}
use Rattle.crack_row.specs.declared.refusal.Refusal.TheVariants.{OutOfMemory}
use Rattle.crack_plain.specs.Plain.{PlainView, reply_to, after}
use Rattle.crack_state.specs.State.{State}
use Rattle.crack_part.specs.Cells.{lacks_cell, may_clear, is_cleared_first}
use Rattle.crack_part.specs.Parts.{Part, state_of, table_of, CracksAndMerges, StopsAt, Serves, ServesCleared, Spares, SparesCleared}
use Rattle.crack_part.specs.Refusals.{refusal_of}
use Rattle.crack_part.specs.Upkeep.{answered}
use Rattle.crack_part.specs.Inside.{early_refusal_of, Frees, FreesNone}
use Rattle.crack_part.specs.Outcomes.{AppliesBy, Applies}
use Rattle.crack_part.proofs.KeepLemmas.{Keeps-stopped, Keeps-readied}
use Rattle.crack_part.proofs.OrderLemmas.{table_of-kept}
use Rattle.crack_part.proofs.RefusalLaws.{refused-late-none, refused-late-cell}
use Rattle.crack_part.proofs.ClearLaws.{has-cell, cleared-first, not-without, not-without-cell, uncleared, served-upkept, spared-upkept, refused-upkept, Spares-unchanged}

-- the outcome of a command if no cell is missing, whatever was done before
abbrev pub AppliesCleared : Policy → Command → Part → Result Reply Refusal → Part → Type 0
AppliesCleared policy command old result new = AppliesBy command (early_refusal_of old command) (ServesCleared policy old.keys old.next command old.store) (SparesCleared policy old.keys (range_of command) old.store) old result new

-- the command is refused for its cause
pub applies-refused : (Served Spared : State → Type 0) (command : Command) (cause : Option Refusal) (p q : Part) (r : Result Reply Refusal) (e : Refusal) → r ≡ Err e → cause ≡ Some e → q ≡ p → Spared q.store → AppliesBy command cause Served Spared p r q
applies-refused Served Spared command cause p q r e is by same spared = rw (is, by) (record {
  reply = tt;
  small = tt;
  table = tt;
  state = tt;
  store = tt;
  opened = (ap (λ (x : Part). x.keys) same, ap (λ (x : Part). x.limits) same);
  err = ap table_of same;
  spared = spared;
  refused = (refl, same);
  memory = λ none. cc none;
})

-- the command finds no memory
pub applies-short : (Served Spared : State → Type 0) (command : Command) (cause : Option Refusal) (p q : Part) (r : Result Reply Refusal) (e : Refusal) → r ≡ Err e → e ≡ OutOfMemory → cause ≡ None → q ≡ record p { store = q.store } → table_of q ≡ table_of p → Spared q.store → AppliesBy command cause Served Spared p r q
applies-short Served Spared command cause p q r e is short none same kept spared = rw (is, none) (record {
  reply = tt;
  small = tt;
  table = tt;
  state = tt;
  store = tt;
  opened = (ap (λ (x : Part). x.keys) same, ap (λ (x : Part). x.limits) same);
  err = kept;
  spared = spared;
  refused = tt;
  memory = λ _. short;
})

-- cells are freed if that is due, or none
pub frees-none-due : (p : Part) (command : Command) → lacks_cell p.limits.cells p.store (change_of command) ≡ false → Frees p command p
frees-none-due p command has = (has, not-without-cell p.limits p.store (change_of command) has, inl (uncleared p.limits p.store (change_of command) has, refl))

pub frees-cleared : (p q : Part) (command : Command) (r : Result (Unit {0}) Refusal) → lacks_cell p.limits.cells p.store (change_of command) ≡ true → may_clear p.limits p.store ≡ true → OnOk r (CracksAndMerges Complete p.store q.store p.store.keys) → OnOk r (0 < length q.store.free) → OnOk r (Frees p command q)
frees-cleared p q command (Err e) lacks may cleared free = tt
frees-cleared p q command (Ok x) lacks may cleared free = (has-cell q.limits.cells q.store (change_of command) free, not-without p.limits p.store (change_of command) may, inr (cleared-first p.limits p.store (change_of command) lacks may, cleared))

pub frees-stopped : (p q : Part) (command : Command) (r : Result (Unit {0}) Refusal) → lacks_cell p.limits.cells p.store (change_of command) ≡ true → may_clear p.limits p.store ≡ true → IfErr r (λ e. e ≡ OutOfMemory) → OnErr r (StopsAt Complete p.store q.store p.store.keys) → IfErr r (λ e. FreesNone p command e q)
frees-stopped p q command (Err e) lacks may short stopped = inr (short, cleared-first p.limits p.store (change_of command) lacks may, stopped)
frees-stopped p q command (Ok x) lacks may short stopped = tt

-- none was freed
pub applies-without : (policy : Policy) (command : Command) (p q : Part) (r : Result Reply Refusal) (e : Refusal) → r ≡ Err e → early_refusal_of p command ≡ None → FreesNone p command e q → q ≡ record p { store = q.store } → Applies policy command p r q
applies-without policy command p q r e is none frees same = elim frees [
  | inl without ↦
      let by = refused-late-cell p command none without.1 ∙ ap Some (sym without.0) in
      applies-refused (Serves policy p command) (Spares policy p command) command (refusal_of p command) p q r e is by without.2 (subst (λ (x : Part). Spares policy p command x.store) (sym without.2) (Spares-unchanged policy p command))
  | inr short ↦
      let may = (and_parts (lacks_cell p.limits.cells p.store (change_of command)) (may_clear p.limits p.store) short.1).1 in
      let late = refused-late-none p command none (not-without p.limits p.store (change_of command) may) in
      let kept = table_of-kept p q same (Keeps-stopped Complete p.store q.store p.store.keys short.2).live in
      applies-short (Serves policy p command) (Spares policy p command) command (refusal_of p command) p q r e is short.0 late same kept (inl (short.1, short.2))
]

-- the command is answered after cells were freed if that is due
pub applies-upkept : (policy : Policy) (command : Command) (p q t : Part) (r : Result Reply Refusal) → early_refusal_of p command ≡ None → Frees p command q → q ≡ record p { store = q.store } → AppliesCleared policy command q r t → Applies policy command p r t
applies-upkept policy command p q t r none frees same done =
    let early : early_refusal_of q command ≡ None = refused-upkept p q command same ∙ none in
    let late = refused-late-none p command none frees.1 in
    let live = (Keeps-readied (is_cleared_first p.limits p.store (change_of command)) p.store q.store frees.2).live in
    let kept : table_of q ≡ table_of p = table_of-kept p q same live in
    let limits : q.limits ≡ p.limits = ap (λ (x : Part). x.limits) same in
    let keys : q.keys ≡ p.keys = ap (λ (x : Part). x.keys) same in
    record {
      reply = subst (λ (x : PlainView). IfOk r (λ reply. reply ≡ reply_to x.state command)) kept done.reply;
      small = done.small;
      table = subst (λ (x : PlainView). OnOk r (table_of t ≡ answered p.limits x command)) kept (subst (λ (l : Limits). OnOk r (table_of t ≡ answered l (table_of q) command)) limits done.table);
      state = subst (λ (x : PlainView). OnOk r (state_of t ≡ after x.state command)) kept done.state;
      store = served-upkept p q policy command t.store r same frees.2 done.store;
      opened = (done.opened.0 ∙ keys, done.opened.1 ∙ limits);
      err = subst (λ (x : PlainView). OnErr r (table_of t ≡ x)) kept done.err;
      spared = spared-upkept p q policy command t.store r same frees.2 done.spared;
      refused = rw late tt;
      memory = λ _. done.memory early;
    }
