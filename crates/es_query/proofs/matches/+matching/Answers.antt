use Rattle.std.proofs.Common.{◌∙◌, sym, ap}
use Rattle.es_query.specs.Matches.{matches}
use Rattle.es_query.proofs.Each.{filter_fails, matches_bool, must_fails, must_not_fails, should_decides}
use Rattle.es_query.proofs.matches.+matching.Goals as goal

pub is_match-returns-in-Bool : goal.is_match-returns-in-Bool
is_match-returns-in-Bool t c = c.do_hold.ensures ∙ sym (ap (matches c.args.mapping.now c.args.values.now) c.in-Bool.is ∙ matches_bool c.args.mapping.now c.args.values.now c.in-Bool.clauses)

pub do_hold-returns-then-not-all_match : goal.do_hold-returns-then-not-all_match
do_hold-returns-then-not-all_match t c =
    let clauses = c.args.clauses.now in
    must_fails (matches c.args.mapping.now c.args.values.now) clauses.need clauses.must clauses.filter clauses.must_not clauses.should (cc)

pub do_hold-returns-then-not-all_match-2 : goal.do_hold-returns-then-not-all_match-2
do_hold-returns-then-not-all_match-2 t c =
    let clauses = c.args.clauses.now in
    filter_fails (matches c.args.mapping.now c.args.values.now) clauses.need clauses.must clauses.filter clauses.must_not clauses.should (cc) (cc)

pub do_hold-returns-then-any_matches : goal.do_hold-returns-then-any_matches
do_hold-returns-then-any_matches t c =
    let clauses = c.args.clauses.now in
    must_not_fails (matches c.args.mapping.now c.args.values.now) clauses.need clauses.must clauses.filter clauses.must_not clauses.should (cc) (cc) (cc)

pub do_hold-returns : goal.do_hold-returns
do_hold-returns t c =
    let clauses = c.args.clauses.now in
    let decides = should_decides (matches c.args.mapping.now c.args.values.now) clauses.need clauses.must clauses.filter clauses.must_not clauses.should (cc) (cc) (cc) in
    cc
