-- What operations make of rows, all at once.
use Rattle.std.proofs.Common.{◌≡◌, ℕ, ◌+◌, ◌<◌, Bool, true, false, cond, not, ◌&&◌, ◌||◌, List, [], ◌∷◌, ◌++◌, length, drop, get_or, filter, bytes_eq, sym, refl, ap, ap₂, ◌∙◌, arith}
use Rattle.std.proofs.lemmas.List.{append-nil, append_assoc, drop_more, length-drop}
use Rattle.std.proofs.lemmas.List.Elements.{filter-append}
use Rattle.es_types.specs.declared.row.Row.{Row}
use Rattle.es_types.specs.declared.row.Op.{Op}
use Rattle.es_types.specs.declared.row.Op.TheVariants.{Put, Remove}
use Rattle.list_machine.specs.Rows.{apply, apply_all, without}
use Rattle.list_machine.specs.State.{id_of}
use Rattle.list_machine.specs.Seen.Lasts.{is_written, are_last}
use Rattle.list_machine.proofs.RowLemmas.{bytes_eq-sym}

-- the rows that no operation is of
abbrev pub others : List Op → List Row → List Row
others ops rows = filter (λ (row : Row). not (is_written row.id ops)) rows

-- without operations these are all rows
others-nil : (rows : List Row) → others [] rows ≡ rows
others-nil [] = refl
others-nil (row ∷ rows) = ap (λ them. row ∷ them) (others-nil rows)

-- an operation's row stands after those of other ids
apply-apart : (rows : List Row) (number : ℕ) (op : Op) → apply rows number op ≡ without (id_of op) rows ++ apply [] number op
apply-apart rows number (Put id source values) = refl
apply-apart rows number (Remove id) = sym (append-nil (without id rows))

-- a filter after another, at one element
kept : {X : Type 0} (p : X → Bool) (b : Bool) (x : X) (xs rest : List X) → filter p xs ≡ rest
    → filter p (cond b (x ∷ xs) xs) ≡ cond (b && p x) (x ∷ rest) rest
kept p true x xs rest e = ap (λ them. cond (p x) (x ∷ them) them) e
kept p false x xs rest e = e

-- a filter after another is a filter by both tests
filter-filter : {X : Type 0} (p q r : X → Bool) → ((x : X) → r x ≡ (q x && p x))
    → (xs : List X) → filter p (filter q xs) ≡ filter r xs
filter-filter p q r is [] = refl
filter-filter p q r is (x ∷ xs) =
    kept p (q x) x (filter q xs) (filter r xs) (filter-filter p q r is xs)
    ∙ ap (λ b. cond b (x ∷ filter r xs) (filter r xs)) (sym (is x))

-- not one of two
not-or : (a b : Bool) → not (a || b) ≡ (not a && not b)
not-or true b = refl
not-or false b = refl

-- what is left without an operation's id and without those of others
others-without : (ops : List Op) (op : Op) (rows : List Row) → others ops (without (id_of op) rows) ≡ others (op ∷ ops) rows
others-without ops op =
    filter-filter (λ (row : Row). not (is_written row.id ops)) (λ (row : Row). not (bytes_eq row.id (id_of op)))
    (λ (row : Row). not (is_written row.id (op ∷ ops)))
    (λ row.
    not-or (bytes_eq (id_of op) row.id) (is_written row.id ops)
    ∙ ap (λ it. not it && not (is_written row.id ops)) (bytes_eq-sym (id_of op) row.id))

-- the rows are those of other ids, and then what the operations make of none
pub apply_all-apart : (ops : List Op) (rows : List Row) (base : ℕ) → apply_all rows base ops ≡ others ops rows ++ apply_all [] base ops
apply_all-apart [] rows base = sym (append-nil (others [] rows) ∙ others-nil rows)
apply_all-apart (op ∷ ops) rows base =
    let new = apply [] (base + 1) op in
    let rest = apply_all [] (base + 1) ops in
    apply_all-apart ops (apply rows (base + 1) op) (base + 1)
    ∙ ap (λ (them : List Row). others ops them ++ rest) (apply-apart rows (base + 1) op)
    ∙ ap (λ (them : List Row). them ++ rest) (filter-append (λ (row : Row). not (is_written row.id ops)) (without (id_of op) rows) new)
    ∙ append_assoc (others ops (without (id_of op) rows)) (others ops new) rest
    ∙ ap₂ (λ (them made : List Row). them ++ made) (others-without ops op rows) (sym (apply_all-apart ops new (base + 1)))

-- an operation that is the last of its id makes its row, and the others follow
pub apply_all-last : (op : Op) (ops : List Op) (base number : ℕ) → number ≡ base + 1 → not (is_written (id_of op) ops) ≡ true
    → apply_all [] base (op ∷ ops) ≡ apply [] number op ++ apply_all [] number ops
apply_all-last op ops base number next last =
    rw next (apply_all-apart ops (apply [] (base + 1) op) (base + 1)
    ∙ ap (λ (them : List Row). them ++ apply_all [] (base + 1) ops) (stays op last))
  where
    stays : (op : Op) → not (is_written (id_of op) ops) ≡ true → others ops (apply [] (base + 1) op) ≡ apply [] (base + 1) op
    stays (Put id source values) last = rw last refl
    stays (Remove id) last = refl

-- one that is not makes none
pub apply_all-not_last : (op : Op) (ops : List Op) (base number : ℕ) → number ≡ base + 1 → not (is_written (id_of op) ops) ≡ false
    → apply_all [] base (op ∷ ops) ≡ apply_all [] number ops
apply_all-not_last op ops base number next again =
    rw next (apply_all-apart ops (apply [] (base + 1) op) (base + 1)
    ∙ ap (λ (them : List Row). them ++ apply_all [] (base + 1) ops) (goes op again))
  where
    goes : (op : Op) → not (is_written (id_of op) ops) ≡ false → others ops (apply [] (base + 1) op) ≡ []
    goes (Put id source values) again = rw again refl
    goes (Remove id) again = refl

-- what is noted of the operation at a place, and of those after it
pub are_last-at : (last : List Bool) (at : ℕ) (op : Op) (ops : List Op) → drop at last ≡ are_last (op ∷ ops)
    → (get_or last at false ≡ not (is_written (id_of op) ops)) × (drop (at + 1) last ≡ are_last ops)
are_last-at last at op ops noted =
    let less : at < length last = omega (arith, ap length noted, length-drop at last) in
    let e : get_or last at false ∷ drop (at + 1) last ≡ not (is_written (id_of op) ops) ∷ are_last ops =
    sym (drop_more last at false less) ∙ noted in
    (cc, cc)
