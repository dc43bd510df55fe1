use Rattle.std.proofs.Common.{◌∙◌}
use Rattle.crack_row.specs.Ranges.{Range}
use Rattle.crack_core.specs.Asking.{asking}
use Rattle.crack_core.proofs.AskLaws.{are-asked}
use Rattle.crack_core.proofs.cores.Core.ask_range.Goals as goal

pub returns-in-Ok-clause-ok : goal.returns-in-Ok-clause-ok
returns-in-Ok-clause-ok c = (are-asked (λ v. v.items) c.args.policy (λ (range : Range). asking c.args.query range) c.args.range c.args.self.now c.as_slice.result.now c.ask_parts.result c.ask_parts.new.partitions (c.as_slice.ensures ∙ c.in-Ok.ensures.ok) c.ask_parts.ensures.ok c.ask_parts.ensures.err).ok

pub returns-in-Ok-clause-err : goal.returns-in-Ok-clause-err
returns-in-Ok-clause-err c = (are-asked (λ v. v.items) c.args.policy (λ (range : Range). asking c.args.query range) c.args.range c.args.self.now c.as_slice.result.now c.ask_parts.result c.ask_parts.new.partitions (c.as_slice.ensures ∙ c.in-Ok.ensures.ok) c.ask_parts.ensures.ok c.ask_parts.ensures.err).err

pub returns-in-Ok-clause-opened : goal.returns-in-Ok-clause-opened
returns-in-Ok-clause-opened c = (are-asked (λ v. v.items) c.args.policy (λ (range : Range). asking c.args.query range) c.args.range c.args.self.now c.as_slice.result.now c.ask_parts.result c.ask_parts.new.partitions (c.as_slice.ensures ∙ c.in-Ok.ensures.ok) c.ask_parts.ensures.ok c.ask_parts.ensures.err).opened
