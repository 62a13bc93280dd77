-- Methods and parameters that aren't built yet.
use Rattle.std.specs.Prelude.{ℕ, ◌&&◌, ◌||◌, Bool, not, bytes_eq, if◌then◌else◌, List, Result, Ok, Err, codes}
use Rattle.http_wire.specs.declared.request.Request.{Request}
use Rattle.reply_json.specs.declared.fault.RestFault.{RestFault}
use Rattle.reply_json.specs.declared.fault.RestFault.TheVariants as fault
use Rattle.es_route.specs.declared.ask.Ask.{Ask}
use Rattle.es_route.specs.Answers.{and_then}
use Rattle.es_route.specs.Params.{has_param, params_of}

abbrev pub is_method : List ℕ → Request → Bool
is_method name request = bytes_eq request.method name

abbrev pub puts_or_posts : Request → Bool
puts_or_posts request = is_method (codes "PUT") request || is_method (codes "POST") request

abbrev pub gets_or_posts : Request → Bool
gets_or_posts request = is_method (codes "GET") request || is_method (codes "POST") request

-- a route of another method, or with the parameter `pretty`, isn't built yet
abbrev pub check_built : Bool → Request → Result (Unit {0}) RestFault
check_built taken request = if taken && not (has_param (codes "pretty") (params_of request.query)) then Ok tt else Err fault.NotBuilt

abbrev pub built : Bool → Request → Result Ask RestFault → Result Ask RestFault
built taken request asked = and_then (check_built taken request) (λ yes. asked)
