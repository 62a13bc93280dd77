use Rattle.std.proofs.Common.{◌∙◌, sym, ap}
use Rattle.es_query.specs.Excluded.{ruled_out}
use Rattle.es_query.proofs.Ruled.{filter_ruled_out, must_ruled_out, ruled_out_bool, should_rules_out}
use Rattle.es_query.proofs.excluded.+excluding.Goals as goal

pub is_ruled_out-returns-in-Bool : goal.is_ruled_out-returns-in-Bool
is_ruled_out-returns-in-Bool t c = c.is_bool_excluded.ensures ∙ sym (ap (ruled_out c.args.mapping.now c.args.bounds.now) c.in-Bool.is ∙ ruled_out_bool c.args.mapping.now c.args.bounds.now c.in-Bool.clauses)

pub is_bool_excluded-returns-then-any_ruled_out : goal.is_bool_excluded-returns-then-any_ruled_out
is_bool_excluded-returns-then-any_ruled_out t c =
    let clauses = c.args.clauses.now in
    must_ruled_out (ruled_out c.args.mapping.now c.args.bounds.now) clauses.need clauses.must clauses.filter clauses.should (cc)

pub is_bool_excluded-returns-then-any_ruled_out-2 : goal.is_bool_excluded-returns-then-any_ruled_out-2
is_bool_excluded-returns-then-any_ruled_out-2 t c =
    let clauses = c.args.clauses.now in
    filter_ruled_out (ruled_out c.args.mapping.now c.args.bounds.now) clauses.need clauses.must clauses.filter clauses.should (cc) (cc)

pub is_bool_excluded-returns : goal.is_bool_excluded-returns
is_bool_excluded-returns t c =
    let clauses = c.args.clauses.now in
    let decides = should_rules_out (ruled_out c.args.mapping.now c.args.bounds.now) clauses.need clauses.must clauses.filter clauses.should (cc) (cc) in
    cc
