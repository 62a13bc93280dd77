-- What operations make of rows, one at a time.
use Rattle.std.proofs.Common.{◌≡◌, ℕ, ◌+◌, ◌<◌, Bool, true, false, cond, not, ◌&&◌, ◌||◌, List, [], ◌∷◌, ◌++◌, length, take, get_or, sym, refl, ap, ◌∙◌, arith}
use Rattle.std.specs.Str.{bytes_eq}
use Rattle.std.proofs.lemmas.Slice.Eq.{bytes_eq-Decides}
use Rattle.std.proofs.lemmas.Bool.Decides.{same_from_decides}
use Rattle.std.proofs.lemmas.Map.Views.{any-filter_same}
use Rattle.std.proofs.lemmas.List.Folds.{list_any-append}
use Rattle.std.proofs.lemmas.List.{take_more}
use Rattle.es_types.specs.declared.row.Row.{Row}
use Rattle.es_types.specs.declared.row.Op.{Op}
use Rattle.es_types.specs.declared.row.Op.TheVariants.{Put, Remove}
use Rattle.list_machine.specs.Rows.{apply, apply_all, has_id, without}
use Rattle.list_machine.specs.Seen.Standing.{stands_after}

-- equality of bytes goes both ways
pub bytes_eq-sym : (xs ys : List ℕ) → bytes_eq xs ys ≡ bytes_eq ys xs
bytes_eq-sym xs ys =
    let other = bytes_eq-Decides ys xs in
    same_from_decides _ _ (bytes_eq-Decides xs ys) ((λ e. sym (other.0 e)), (λ e. other.1 (sym e)))

-- one more operation is applied last
pub apply_all-push : (rows : List Row) (base : ℕ) (ops : List Op) (op : Op)
    → apply_all rows base (ops ++ op ∷ []) ≡ apply (apply_all rows base ops) (base + length ops + 1) op
apply_all-push rows base [] op = ap (λ n. apply rows n op) (omega arith)
apply_all-push rows base (first ∷ ops) op =
    apply_all-push (apply rows (base + 1) first) (base + 1) ops op
    ∙ ap (λ n. apply (apply_all (apply rows (base + 1) first) (base + 1) ops) n op) (omega arith)

-- the step of a loop that applies operations
pub apply_all_more : (rows : List Row) (base : ℕ) (ops : List Op) (i : ℕ) (op : Op) → i < length ops → op ≡ get_or ops i op
    → apply_all rows base (take (i + 1) ops) ≡ apply (apply_all rows base (take i ops)) (base + length (take i ops) + 1) op
apply_all_more rows base ops i op less is =
    ap (apply_all rows base) (take_more ops i op less ∙ ap (λ it. take i ops ++ it ∷ []) (sym is))
    ∙ apply_all-push rows base (take i ops) op

-- an id has a row without another's, if it is another and had one
pub has_id-without : (id other : List ℕ) (rows : List Row) → has_id id (without other rows) ≡ (not (bytes_eq other id) && has_id id rows)
has_id-without id other rows =
    any-filter_same (λ row. bytes_eq row.id id) (λ row. not (bytes_eq row.id other)) (not (bytes_eq other id))
    (λ row e. ap not (ap (λ it. bytes_eq it other) ((bytes_eq-Decides row.id id).0 e) ∙ bytes_eq-sym id other))
    rows

-- a put, by whether it is of the id and whether the id had a row
by_put : (b h : Bool) → ((not b && h) || (b || false)) ≡ (b || h)
by_put true true = refl
by_put true false = refl
by_put false true = refl
by_put false false = refl

-- whether an id has a row after an operation
pub has_id-apply : (rows : List Row) (number : ℕ) (op : Op) (id : List ℕ) → has_id id (apply rows number op) ≡ stands_after op id (has_id id rows)
has_id-apply rows number (Put put source values) id =
    let row : Row = record { seq = number; id = put; source = source; values = values } in
    list_any-append (λ row. bytes_eq row.id id) (without put rows) (row ∷ [])
    ∙ ap (λ it. it || (bytes_eq put id || false)) (has_id-without id put rows)
    ∙ by_put (bytes_eq put id) (has_id id rows)
has_id-apply rows number (Remove removed) id = has_id-without id removed rows

-- the step of a loop over the operations
pub has_id_more : (rows : List Row) (base : ℕ) (ops : List Op) (i : ℕ) (op : Op) (id : List ℕ) → i < length ops → op ≡ get_or ops i op
    → has_id id (apply_all rows base (take (i + 1) ops)) ≡ stands_after op id (has_id id (apply_all rows base (take i ops)))
has_id_more rows base ops i op id less is =
    ap (has_id id) (apply_all_more rows base ops i op less is)
    ∙ has_id-apply (apply_all rows base (take i ops)) _ op id

-- an id that is entered stands
pub cond-or : (b stood : Bool) → cond b true stood ≡ (b || stood)
cond-or true stood = refl
cond-or false stood = refl
