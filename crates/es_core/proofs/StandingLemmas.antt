-- What operations make of rows, and of the ids that stand.
use Rattle.std.proofs.Common.{◌≡◌, ℕ, ◌+◌, ◌≤◌, Bool, true, false, cond, not, ◌&&◌, ◌||◌, List, [], ◌∷◌, ◌++◌, length, take, drop, sym, refl, ap, ◌∙◌, arith, length-take}
use Rattle.std.proofs.lemmas.List.{take-append-drop}
use Rattle.es_types.specs.declared.row.Row.{Row}
use Rattle.es_types.specs.declared.row.Op.{Op}
use Rattle.list_machine.specs.Rows.{apply, apply_all, has_id}
use Rattle.list_machine.specs.Seen.Standing.{stands_after}
use Rattle.list_machine.proofs.RowLemmas.{apply_all-push, has_id-apply}

-- operations in two parts are those of both
apply_all-append : (rows : List Row) (base : ℕ) (xs ys : List Op) → apply_all (apply_all rows base xs) (base + length xs) ys ≡ apply_all rows base (xs ++ ys)
apply_all-append rows base [] ys = ap (λ n. apply_all rows n ys) (omega arith)
apply_all-append rows base (op ∷ xs) ys =
    ap (λ n. apply_all (apply_all (apply rows (base + 1) op) (base + 1) xs) n ys) (omega arith)
    ∙ apply_all-append (apply rows (base + 1) op) (base + 1) xs ys

-- the first operations, and then the others
pub apply_all-split : (rows : List Row) (base upto : ℕ) (n : ℕ) (ops : List Op) → n ≤ length ops → upto ≡ base + n
    → apply_all (apply_all rows base (take n ops)) upto (drop n ops) ≡ apply_all rows base ops
apply_all-split rows base upto n ops within is =
    let e : upto ≡ base + length (take n ops) = omega (arith, length-take n ops) in
    ap (λ at. apply_all (apply_all rows base (take n ops)) at (drop n ops)) e
    ∙ apply_all-append rows base (take n ops) (drop n ops)
    ∙ ap (apply_all rows base) (take-append-drop n ops)

-- which ids the rows have after one operation more
pub has_id-push : (rows : List Row) (base : ℕ) (ops : List Op) (op : Op) (id : List ℕ)
    → has_id id (apply_all rows base (ops ++ op ∷ [])) ≡ stands_after op id (has_id id (apply_all rows base ops))
has_id-push rows base ops op id =
    ap (has_id id) (apply_all-push rows base ops op) ∙ has_id-apply (apply_all rows base ops) (base + length ops + 1) op id

-- an id that is removed doesn't stand
pub cond-and : (b stood : Bool) → cond b false stood ≡ (not b && stood)
cond-and true stood = refl
cond-and false stood = refl
