use Rattle.std.proofs.Common.{ℕ, List, ◌++◌, ◌∙◌, ap, codes, append_assoc}
use Rattle.crack_commands.specs.Watching.{named_text}
use Rattle.crack_commands.proofs.watching.push_time_numbers.Goals as goal

pub returns-clause-value : goal.returns-clause-value
returns-clause-value g c =
    let text = c.args.text.now.items in
    let traffic = c.args.traffic.now in
    let pace = named_text (codes "statements_per_second ") traffic.statements_per_second in
    let longest = named_text (codes "longest_microseconds ") traffic.longest_microseconds in
    let uptime = named_text (codes "uptime_seconds ") traffic.uptime_seconds in
    c.push_named-3.ensures.value
    ∙ ap (λ (t : List ℕ). t ++ uptime) (c.push_named-2.ensures.value ∙ ap (λ (t : List ℕ). t ++ longest) c.push_named.ensures.value ∙ append_assoc text pace longest)
    ∙ append_assoc text (pace ++ longest) uptime
