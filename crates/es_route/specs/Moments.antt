-- The moments that requests hand in.
use Rattle.std.specs.Prelude.{ℕ, ◌&&◌, not, Bool, is_some, List, Option, option_and_then}
use Rattle.es_types.specs.declared.limits.TheConstants.{LAST_MOMENT}
use Rattle.http_wire.specs.declared.request.Request.{Request}
use Rattle.http_wire.specs.Heads.{number_of}

-- the moment that a text is: 1 to 16 digits, whose number is at most 2^53
abbrev pub moment_of : List ℕ → Option ℕ
moment_of text = number_of 16 LAST_MOMENT text

-- the moment that a request hands in, where it hands in one that is readable
abbrev pub told_moment : Request → Option ℕ
told_moment request = option_and_then moment_of request.moment

-- whether it hands in what isn't readable
abbrev pub is_unreadable : Request → Bool
is_unreadable request = is_some request.moment && not (is_some (told_moment request))
