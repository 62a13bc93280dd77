-- One route after the other.
use Rattle.std.proofs.Common.{◌∙◌, ap, codes}
use Rattle.es_route.specs.declared.resource.Resource.TheVariants.{Index, Doc, Bulk, IndexBulk, Refresh, OpenPit, ClosePit, Search, IndexSearch}
use Rattle.es_route.specs.Resources.{all_routes, with_route}
use Rattle.es_route.proofs.resource.routes.Goals as goal

pub returns : goal.returns
unfolding all_routes
returns c =
    c.in_ok-add-9.ensures ∙ ap (with_route (codes "/{index}/_search") IndexSearch)
    (c.in_ok-add-8.ensures ∙ ap (with_route (codes "/_search") Search)
    (c.in_ok-add-7.ensures ∙ ap (with_route (codes "/_pit") ClosePit)
    (c.in_ok-add-6.ensures ∙ ap (with_route (codes "/{index}/_pit") OpenPit)
    (c.in_ok-add-5.ensures ∙ ap (with_route (codes "/{index}/_refresh") Refresh)
    (c.in_ok-add-4.ensures ∙ ap (with_route (codes "/{index}/_bulk") IndexBulk)
    (c.in_ok-add-3.ensures ∙ ap (with_route (codes "/_bulk") Bulk)
    (c.in_ok-add-2.ensures ∙ ap (with_route (codes "/{index}/_doc/{id}") Doc)
    (c.in_ok-add.ensures ∙ ap (with_route (codes "/{index}") Index) c.new-router.ensures))))))))
