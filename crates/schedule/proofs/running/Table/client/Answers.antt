use Rattle.std.proofs.Common.{ap, ◌∙◌, get_or, List}
use Rattle.lock.specs.declared.Client.{Client}
use Rattle.lock.specs.rules.Records.{idle_client}
use Rattle.lock.specs.rules.Table.{client_at}
use Rattle.schedule.proofs.running.Table.client.Goals as goal

pub returns : goal.returns
unfolding client_at
returns c = c.client_of.ensures ∙ ap (λ (l : List Client). get_or l c.args.client idle_client) c.clients.ensures.clients
