-- Which sort a JSON value is, and which values a search goes on after, in the words of Elasticsearch's reference, "Sort search
-- results" and "Paginate search results": `order` and `missing`, without any other setting.
use Rattle.std.specs.Prelude.{ℕ, ◌||◌, ◌&&◌, nat_lt, Bool, true, false, not, bytes_eq, if◌then◌else◌, List, [], ◌∷◌, length, is_some, Option, Some, None, option_map, option_and_then, codes}
use Rattle.std.specs.List.{list_any}
use Rattle.serde_json.specs.Data.{Data, Items, no_items, item}
use Rattle.serde_json.specs.Find.{as_array, as_null, as_str, get}
use Rattle.es_types.specs.declared.row.Value.{Value}
use Rattle.es_types.specs.declared.row.Value.TheVariants.{Missing}
use Rattle.es_sort.specs.declared.sort.Keys.{Keys}
use Rattle.es_sort.specs.declared.sort.SortBy.{SortBy}
use Rattle.es_sort.specs.declared.sort.SortBy.TheVariants.{Field, Place}
use Rattle.es_sort.specs.declared.sort.SortKey.{SortKey}
use Rattle.doc_json.specs.Json.{is_form}
use Rattle.search_json.specs.declared.sort.NamedKey.{NamedKey}
use Rattle.search_json.specs.Values.{only_of, value_of}

-- ---- one key

abbrev pub named : List ℕ → Bool → Bool → NamedKey
named name down missing_first = record { name = name; down = down; missing_first = missing_first }

-- whether that word makes a key fall
abbrev pub falls : List ℕ → Option Bool
falls word = if bytes_eq word (codes "asc") then Some false else (if bytes_eq word (codes "desc") then Some true else None)

-- whether that word sets missing values first
abbrev pub sets_first : List ℕ → Option Bool
sets_first word = if bytes_eq word (codes "_last") then Some false else (if bytes_eq word (codes "_first") then Some true else None)

-- a setting that may be left out
abbrev pub setting : (List ℕ → Option Bool) → Option Data → Option Bool
setting read None = Some false
setting read (Some value) = option_and_then read (as_str value)

-- a key with settings
unfoldable pub settings_of : List ℕ → Data → Option NamedKey
settings_of name value =
    if is_form (codes "order" ∷ codes "missing" ∷ []) value
    then option_and_then (λ down. option_map (named name down) (setting sets_first (get (codes "missing") value))) (setting falls (get (codes "order") value))
    else None

-- a word for its order, or settings
abbrev pub key_by : List ℕ → Option (List ℕ) → Data → Option NamedKey
key_by name (Some word) value = option_map (λ down. named name down false) (falls word)
key_by name None value = settings_of name value

abbrev pub key_at : List ℕ × Data → Option NamedKey
key_at pair = key_by pair.0 (as_str pair.1) pair.1

-- a name alone rises
abbrev pub key_in : Option (List ℕ) → Data → Option NamedKey
key_in (Some name) value = Some (named name false false)
key_in None value = option_and_then key_at (only_of value)

unfoldable pub key_of : Data → Option NamedKey
key_of value = key_in (as_str value) value

-- ---- the keys

abbrev pub keys_in : Items → Option (List NamedKey)
keys_in no_items = Some []
keys_in (item value rest) = option_and_then (λ first. option_map (λ others. first ∷ others) (keys_in rest)) (key_of value)

-- a list of keys, or one
abbrev pub keys_by : Option Items → Data → Option (List NamedKey)
keys_by (Some items) value = keys_in items
keys_by None value = option_map (λ only. only ∷ []) (key_of value)

abbrev pub sort_in : Option Data → Option (List NamedKey)
sort_in None = Some []
sort_in (Some value) = keys_by (as_array value) value

-- by which keys a body sorts: by none where it doesn't say
unfoldable pub sort_of : Data → Option (List NamedKey)
sort_of value = sort_in (get (codes "sort") value)

-- a name that nothing is sorted by: the score, and outside of a point in time the place by the name that it has there
abbrev pub is_barred : Bool → NamedKey → Bool
is_barred in_pit key = bytes_eq key.name (codes "_score") || (not in_pit && bytes_eq key.name (codes "_shard_doc"))

-- too many keys, or such a one
abbrev pub breaks_sort : Bool → List NamedKey → Bool
breaks_sort in_pit keys = nat_lt 64 (length keys) || list_any (is_barred in_pit) keys

-- two names are the place, all others are fields
abbrev pub sort_by : List ℕ → SortBy
sort_by name = if bytes_eq name (codes "_shard_doc") || bytes_eq name (codes "_doc") then Place else Field name

abbrev pub sort_key : NamedKey → SortKey
sort_key key = record { by = sort_by key.name; down = key.down; missing_first = key.missing_first }

-- ---- the values that a search goes on after

-- a null is a missing value
abbrev pub after_value : Data → Option Value
after_value value = if is_some (as_null value) then Some Missing else value_of value

abbrev pub after_values : Items → Option (List Value)
after_values no_items = Some []
after_values (item value rest) = option_and_then (λ first. option_map (λ others. first ∷ others) (after_values rest)) (after_value value)

abbrev pub keys_with : List Value → Keys
keys_with values = record { values = values }

abbrev pub after_in : Option Data → Option (Option Keys)
after_in None = Some None
after_in (Some value) = option_map (λ values. Some (keys_with values)) (option_and_then after_values (as_array value))

-- the values of `search_after`, where it is given
unfoldable pub after_of : Data → Option (Option Keys)
after_of value = after_in (get (codes "search_after") value)
