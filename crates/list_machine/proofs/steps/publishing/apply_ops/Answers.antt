use Rattle.std.proofs.Common.{List, ap, sym, ◌∙◌, ◌++◌, [], not}
use Rattle.std.specs.BTreeSet.{contains_text}
use Rattle.std.proofs.lemmas.List.Elements.{filter_agree}
use Rattle.es_types.specs.declared.row.Row.{Row}
use Rattle.list_machine.specs.Seen.Lasts.{is_written}
use Rattle.list_machine.specs.Rows.{apply_all}
use Rattle.list_machine.proofs.ApplyLemmas.{apply_all-apart}
use Rattle.list_machine.proofs.steps.publishing.apply_ops.Goals as goal

pub returns : goal.returns
returns c =
    c.put_lasts.ensures
    ∙ ap (λ (rows : List Row). rows ++ apply_all [] c.args.base c.args.ops.items)
    (c.keep_others.ensures.items
    ∙ filter_agree (λ (row : Row). not (contains_text c.args.lasts.ids row.id)) (λ (row : Row). not (is_written row.id c.args.ops.items))
    (λ row. ap not (c.requires.lasts.ids row.id)) c.args.rows.now.items)
    ∙ sym (apply_all-apart c.args.ops.items c.args.rows.now.items c.args.base)
