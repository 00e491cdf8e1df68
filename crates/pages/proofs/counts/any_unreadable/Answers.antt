-- `pages::counts::any_unreadable` meets its contract. Assumes nothing.
use Rattle.std.proofs.Common.{◌∙◌, rules}
use Rattle.std.proofs.lemmas.Iterator.{YieldsList-from_slice}
use Rattle.std.proofs.lemmas.Iterator.Search.{any_from_yields_List}
use Rattle.pages.proofs.laws.CountLaws.{unreadable_one, any_listed}
use Rattle.pages.proofs.counts.any_unreadable.Goals as goal

pub returns : goal.returns
returns c =
    let a = c.args in
    any_from_yields_List (unreadable_one a.settings.values) _ _ _ c.any.ensures.ran (YieldsList-from_slice a.clients.now cc) (λ x b q k. search rules)
    ∙ any_listed a.settings.values a.clients.now
