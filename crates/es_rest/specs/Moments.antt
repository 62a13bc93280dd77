-- The moments at which requests are answered.
use Rattle.std.specs.Prelude.{◌≡◌, ℕ, max, List, [], ◌∷◌, Option, unwrap_or}
use Rattle.http_wire.specs.declared.request.Request.{Request}
use Rattle.es_route.specs.Moments.{told_moment}

-- what the clock answers at a request, where this was its answer before
abbrev pub clock_answer : ℕ → Request → ℕ
clock_answer last request = unwrap_or (told_moment request) last

-- The moments at which requests are answered in turn, from the clock's answer before and the moment so far: each is the greatest of
-- the clock's answers until then.
abbrev pub moments_of : ℕ → ℕ → List Request → List ℕ
moments_of last moment [] = []
moments_of last moment (request ∷ requests) =
    max moment (clock_answer last request) ∷ moments_of (clock_answer last request) (max moment (clock_answer last request)) requests

-- A question that leads the clock from one state to the next, with what the request hands in. The moment is its answer, or stays where
-- that is earlier.
abbrev pub AsksOnce : {S : Type 0} → (S → Option ℕ → ℕ → S → Type 0) → S → S → Request → ℕ → ℕ → Type 0
AsksOnce asked old new request moment after =
    (answer : ℕ) × asked old (told_moment request) answer new × (after ≡ max moment answer)
