use Rattle.std.proofs.Common.{ap, ◌∙◌, le_refl, get_or, Option}
use Rattle.std.specs.Option.{unwrap_or}
use Rattle.lock.specs.declared.Client.{Client}
use Rattle.schedule.proofs.running.client_of.Goals as goal

pub returns : goal.returns
returns c =
    let client = c.args.client in
    let idle = c.idle.result in
    c.unwrap_or.ensures ∙ ap (λ (o : Option Client). unwrap_or o idle) c.copied.ensures ∙ c.get-own.ensures.lookup.4 (le_refl client) idle
    ∙ ap (get_or c.args.clients.now client) c.idle.ensures
