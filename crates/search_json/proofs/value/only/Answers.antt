-- The entries are as many as the members.
use Rattle.std.proofs.Common.{Some, ap, sym, ◌∙◌, arith}
use Rattle.serde_json.specs.View.{view}
use Rattle.search_json.proofs.Only.{not_one, the_one}
use Rattle.search_json.proofs.value.only.Goals as goal

pub returns-then-len-ne1 : goal.returns-then-len-ne1
returns-then-len-ne1 c = sym (not_one c.args.members.now.entries (λ one. omega (arith, one)))

pub returns : goal.returns
returns c =
    ap (λ name. Some (name, view c.in_ok-name.value.now)) c.as_str.ensures.value
    ∙ sym (the_one c.args.members.now.entries (c.in_ok-name.name.now, c.in_ok-name.value.now) (omega arith) c.in_ok-name.ensures.first)
