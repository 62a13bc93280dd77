-- Requests that have a body, and that have none.
use Rattle.std.specs.Prelude.{ℕ, ◌||◌, ◌==◌, Bool, false, if◌then◌else◌, List, [], length, Option, Some, None, Result, Ok, Err}
use Rattle.std.specs.List.{list_all}
use Rattle.http_wire.specs.declared.request.Request.{Request}
use Rattle.serde_json.specs.Data.{Data}
use Rattle.doc_json.specs.Json.{data_of, is_form, is_white}
use Rattle.reply_json.specs.declared.fault.RestFault.{RestFault}
use Rattle.reply_json.specs.declared.fault.RestFault.TheVariants as fault

abbrev pub is_empty : List ℕ → Bool
is_empty bytes = length bytes == 0

-- nothing but white space
abbrev pub is_blank : List ℕ → Bool
is_blank bytes = list_all is_white bytes

abbrev pub no_body : Request → Result (Unit {0}) RestFault
no_body request = if is_blank request.body then Ok tt else Err fault.BadBody

-- a bulk has a body
abbrev pub some_body : Request → Result (Unit {0}) RestFault
some_body request = if is_empty request.body then Err fault.BadBody else Ok tt

abbrev pub is_empty_object : Option Data → Bool
is_empty_object None = false
is_empty_object (Some value) = is_form [] value

-- no body, or an object without members
abbrev pub empty_body : Request → Result (Unit {0}) RestFault
empty_body request = if is_blank request.body || is_empty_object (data_of request.body) then Ok tt else Err fault.BadBody
