-- What a bool query answers, by what its clauses answer.
use Rattle.std.specs.Prelude.{Bool, not, ℕ, ◌&&◌, ◌==◌, nat_le, nat_lt, if◌then◌else◌, List, length, count_by}
use Rattle.std.specs.List.{list_all, list_any}
use Rattle.es_query.specs.declared.query.Need.{Need}
use Rattle.es_query.specs.declared.query.Need.TheVariants.{Usual, AtLeast}

-- how many of so many `should` have to match, next to so many `must` and `filter`
abbrev pub needed : Need → ℕ → ℕ → ℕ → ℕ
needed (AtLeast n) must filter should = n
needed Usual must filter should = if must == 0 && (filter == 0 && nat_lt 0 should) then 1 else 0

abbrev pub it : Bool → Bool
it answer = answer

-- all of `must` and `filter`, none of `must_not`, and enough of `should`
abbrev pub holds : Need → List Bool → List Bool → List Bool → List Bool → Bool
holds need must filter must_not should =
    list_all it must && (list_all it filter && (not (list_any it must_not)
    && nat_le (needed need (length must) (length filter) (length should)) (count_by it should)))
