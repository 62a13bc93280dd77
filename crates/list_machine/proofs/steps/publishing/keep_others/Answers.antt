use Rattle.std.proofs.Common.{not, rules}
use Rattle.std.specs.BTreeSet.{contains_text}
use Rattle.std.proofs.lemmas.Fn.{filter_same}
use Rattle.list_machine.proofs.steps.publishing.keep_others.Goals as goal

pub returns-clause-items : goal.returns-clause-items
returns-clause-items c =
    filter_same _ (λ row. not (contains_text c.args.ids.now row.id)) _ (λ x b f t. search rules) _ _ c.retain.ensures.filtered
