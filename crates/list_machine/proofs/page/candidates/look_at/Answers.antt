use Rattle.std.proofs.Common.{ap, sym, ◌∙◌}
use Rattle.std.proofs.lemmas.List.{length-map}
use Rattle.es_types.specs.declared.bounds.Bounds.{Bounds}
use Rattle.es_query.specs.Excluded.{excluded}
use Rattle.slice_rule.specs.Parts.{has}
use Rattle.list_machine.specs.declared.page.view.ShardRef.{ShardRef}
use Rattle.list_machine.specs.Seen.Stores.{view_at}
use Rattle.list_machine.specs.Views.{is_had, is_wanted, places_of_shard}
use Rattle.list_machine.proofs.Matching.{none_had, none_match, places_miss}
use Rattle.list_machine.proofs.page.candidates.look_at.Goals as goal

-- the slice has no place of a shard that it doesn't cover
pub returns-in-None : goal.returns-in-None
returns-in-None c =
    let view = view_at c.args.view.now in
    let request = c.args.request.now in
    let rows = c.args.shard.now.rows.now in
    places_miss view request.sort (is_wanted view request.query request.slice) (places_of_shard c.args.at 0 rows) c.args.them.now.items
    (none_had view request.query request.slice c.args.at rows (λ rank.
    ap (λ cover. has cover rank) (sym c.in-None.is)
    ∙ c.cover_of-cover.ensures.is rank
    ∙ ap (λ n. is_had n request.slice c.args.at rank) (sym (length-map c.args.view.now.shards.now (λ (shard : ShardRef). shard.rows.now)))))

-- no row of an excluded shard matches
pub returns-then-excluded : goal.returns-then-excluded
returns-then-excluded c =
    let view = c.args.view.now in
    let request = c.args.request.now in
    let rows = c.args.shard.now.rows.now in
    let out = sym (ap (λ (them : Bounds). excluded view.mapping.now them request.query) c.requires.bounded) ∙ sym c.excluded.ensures ∙ c.if-excluded.true in
    places_miss (view_at view) request.sort (is_wanted (view_at view) request.query request.slice) (places_of_shard c.args.at 0 rows) c.args.them.now.items
    (none_match (view_at view) request.query request.slice c.args.at rows (c.nothing_excluded_matches.ensures view.mapping.now rows request.query out))
