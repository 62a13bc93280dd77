-- Which resource a path names (RFC 3986).
use Rattle.std.specs.Prelude.{ℕ, List, [], Option, option_map, Result, Ok, Err, codes}
use Rattle.matchit.specs.Rows.{RowsOf}
use Rattle.matchit.specs.Router.{RouteOf, route_from}
use Rattle.matchit.specs.Order.{placed}
use Rattle.matchit.specs.Seek.{first}
use Rattle.matchit.specs.Route.{Scan, parse_route}
use Rattle.matchit.specs.declared.error.InsertError.{InsertError}
use Rattle.es_route.specs.declared.resource.Resource.{Resource}
use Rattle.es_route.specs.declared.resource.Resource.TheVariants.{Index, Doc, Bulk, IndexBulk, Refresh, OpenPit, ClosePit, Search, IndexSearch}

abbrev pub Routes : Type 0
Routes = RowsOf (RouteOf Resource)

abbrev pub read_route : Result Scan InsertError → Resource → Routes → Routes
read_route (Ok scan) resource routes = placed (scan.pattern, route_from scan resource) routes
read_route (Err error) resource routes = routes

-- the routes of a router with one more
abbrev pub with_route : List ℕ → Resource → Routes → Routes
with_route route resource routes = read_route (parse_route route) resource routes

unfoldable pub all_routes : Routes
all_routes =
    with_route (codes "/{index}/_search") IndexSearch
    (with_route (codes "/_search") Search
    (with_route (codes "/_pit") ClosePit
    (with_route (codes "/{index}/_pit") OpenPit
    (with_route (codes "/{index}/_refresh") Refresh
    (with_route (codes "/{index}/_bulk") IndexBulk
    (with_route (codes "/_bulk") Bulk
    (with_route (codes "/{index}/_doc/{id}") Doc
    (with_route (codes "/{index}") Index []))))))))

-- the resource that a path names, as it is sent: text goes before a parameter, which is a whole part of the path
unfoldable pub resource_of : List ℕ → Option Resource
resource_of path = option_map (λ (route : RouteOf Resource). route.value) (first all_routes path)
