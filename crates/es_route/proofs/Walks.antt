-- The items of a body, one after the other.
use Rattle.std.proofs.Common.{◌≡◌, refl, sym, ap, subst, ◌∙◌, ℕ, zero, suc, ◌+◌, ◌<◌, ◌≤◌, List, [], ◌∷◌, ◌++◌, length, Option, Some, None, Result, Ok, Err, append_assoc, arith}
use Rattle.std.specs.Prelude.{All, Bool, true, false, if◌then◌else◌}
use Rattle.std.proofs.lemmas.List.{append-nil}
use Rattle.std.proofs.lemmas.List.Elements.{All-nil, All-cons, All-append}
use Rattle.es_types.specs.Name.{is_doc_id, is_index_name}
use Rattle.list_machine.specs.declared.event.Change.{Change}
use Rattle.list_machine.specs.declared.event.Event.{Event}
use Rattle.list_machine.specs.declared.event.Event.TheVariants.{Write}
use Rattle.es_types.specs.declared.limit.LimitName.TheVariants as limit
use Rattle.doc_json.specs.declared.bulk.BulkAction.{BulkAction}
use Rattle.doc_json.specs.declared.bulk.BulkItem.{BulkItem}
use Rattle.doc_json.specs.declared.fault.BodyFault.{BodyFault}
use Rattle.doc_json.specs.declared.fault.BodyFault.TheVariants as bad
use Rattle.doc_json.specs.Bulks.{LiesIn, action_at, item_at, item_by, item_of}
use Rattle.reply_json.specs.declared.fault.RestFault.{RestFault}
use Rattle.es_route.specs.Limits.{body_fault, both, told}
use Rattle.es_route.specs.Items.{AreActions, actions_of, all_from, and_more, checked, items_of, items_with, onto, read_change, write_of, write_with}
use Rattle.es_route.specs.Answers.{Answers, and_then}

-- what was taken so far, before what stands from there on
abbrev pub before : List BulkAction → Result (List BulkAction) BodyFault → Result (List BulkAction) BodyFault
before done (Ok rest) = Ok (done ++ rest)
before done (Err fault) = Err fault

before-none : (r : Result (List BulkAction) BodyFault) → before [] r ≡ r
before-none (Ok rest) = refl
before-none (Err fault) = refl

before-onto : (done : List BulkAction) (action : BulkAction) (r : Result (List BulkAction) BodyFault) → before done (onto action r) ≡ before (done ++ action ∷ []) r
before-onto done action (Ok rest) = ap Ok (sym (append_assoc done (action ∷ []) rest))
before-onto done action (Err fault) = refl

checked_ok : (r : Result (List BulkAction) BodyFault) (actions : List BulkAction) → checked r ≡ Ok actions → r ≡ Ok actions
checked_ok (Ok read) actions is = cc
checked_ok (Err fault) actions is = absurd (let e : Err (body_fault fault) ≡ Ok actions = is in cc)

-- there is more to go through as long as the body doesn't end
more_fuel : (long at most : ℕ) → at ≤ long → long < at + most → (fuel : ℕ) × (most ≡ suc fuel)
more_fuel long at zero within room = absurd (omega (arith, within, room))
more_fuel long at (suc fuel) within room = (fuel, refl)

shorter : (long at next most fuel : ℕ) → long < at + most → most ≡ suc fuel → at < next → long < next + fuel
shorter long at next most fuel room is on = omega (arith, room, is, on)

-- all actions from a byte on, at most so many
abbrev pub from : Option (List ℕ) → List ℕ → ℕ → ℕ → Result (List BulkAction) BodyFault
from index body most at = all_from (λ (action : BulkAction). action.next) (action_at index body) most at

-- what stands from a byte on, by what stands there
from_byte : (index : Option (List ℕ)) (body : List ℕ) (at most fuel : ℕ) (found : Result (Option BulkAction) BodyFault) → most ≡ suc fuel → action_at index body at ≡ found
    → from index body most at ≡ and_more (λ (action : BulkAction). action.next) (from index body fuel) found
from_byte index body at most fuel found is there =
    ap (λ (m : ℕ). from index body m at) is ∙ ap (and_more (λ (action : BulkAction). action.next) (from index body fuel)) there

-- the actions of a body are those that were taken so far, and those from a byte on
pub record Walked (index : Option (List ℕ)) (body : List ℕ) (at : ℕ) (done : List BulkAction) : Type 0 where
  pub most : ℕ
  pub room : length body < at + most
  pub within : at ≤ length body
  pub left : actions_of index body ≡ before done (from index body most at)
  pub lie : All (LiesIn body) done

pub walk_starts : (index : Option (List ℕ)) (body : List ℕ) (done : List BulkAction) → done ≡ [] → Walked index body 0 done
unfolding actions_of
walk_starts index body done none =
    subst (Walked index body 0) (sym none)
    (record {
      most = suc (length body);
      room = omega arith;
      within = omega arith;
      left = sym (before-none (from index body (suc (length body)) 0));
      lie = All-nil (LiesIn body);
    })

pub walk_next : (index : Option (List ℕ)) (body : List ℕ) (at : ℕ) (action : BulkAction) (done now : List BulkAction) → action_at index body at ≡ Ok (Some action) → at < action.next → action.next ≤ length body
    → LiesIn body action → now ≡ done ++ action ∷ [] → Walked index body at done → Walked index body action.next now
walk_next index body at action done now there on within lies grown w =
    let fuel = more_fuel (length body) at w.most w.within w.room in
    subst (Walked index body action.next) (sym grown)
    (record {
      most = fuel.0;
      room = shorter (length body) at action.next w.most fuel.0 w.room fuel.1 on;
      within = within;
      left = w.left ∙ ap (before done) (from_byte index body at w.most fuel.0 (Ok (Some action)) fuel.1 there) ∙ before-onto done action (from index body fuel.0 action.next);
      lie = All-append (LiesIn body) done (action ∷ []) w.lie (All-cons (LiesIn body) action [] lies (All-nil (LiesIn body)));
    })

-- at the end of the body, or at a fault
pub walk_ends : (index : Option (List ℕ)) (body : List ℕ) (at : ℕ) (done : List BulkAction) → action_at index body at ≡ Ok None → Walked index body at done → actions_of index body ≡ Ok done
walk_ends index body at done there w =
    let fuel = more_fuel (length body) at w.most w.within w.room in
    w.left ∙ ap (before done) (from_byte index body at w.most fuel.0 (Ok None) fuel.1 there) ∙ ap Ok (append-nil done)

pub walk_fails : (index : Option (List ℕ)) (body : List ℕ) (at : ℕ) (done : List BulkAction) (fault : BodyFault) → action_at index body at ≡ Err fault → Walked index body at done → checked (actions_of index body) ≡ Err (body_fault fault)
walk_fails index body at done fault there w =
    let fuel = more_fuel (length body) at w.most w.within w.room in
    ap checked (w.left ∙ ap (before done) (from_byte index body at w.most fuel.0 (Err fault) fuel.1 there))

-- such a fault is what is told
pub fault_told : {A : Type 0} (fault : BodyFault) (asked : Result A RestFault) → asked ≡ Err (body_fault fault) → Answers (Err (body_fault fault)) asked
fault_told bad.NotJson asked is = is
fault_told bad.Shape asked is = is
fault_told (bad.Limit name) asked is = is
fault_told bad.BadId asked is = is

-- ---- items and their actions

-- the items that actions are, or the same fault
abbrev pub with_lines : List ℕ → Result (List BulkAction) BodyFault → Result (List BulkItem) BodyFault
with_lines body (Ok actions) = Ok (items_with body actions)
with_lines body (Err fault) = Err fault

lines-onto : (body : List ℕ) (action : BulkAction) (r : Result (List BulkAction) BodyFault) → onto (item_of body action) (with_lines body r) ≡ with_lines body (onto action r)
lines-onto body action (Ok rest) = refl
lines-onto body action (Err fault) = refl

-- the items from a byte on, at most so many
abbrev pub items_from : Option (List ℕ) → List ℕ → ℕ → ℕ → Result (List BulkItem) BodyFault
items_from index body most at = all_from (λ (item : BulkItem). item.next) (item_at index body) most at

lines-more : (index : Option (List ℕ)) (body : List ℕ) (most : ℕ) (found : Result (Option BulkAction) BodyFault)
    → ((at : ℕ) → items_from index body most at ≡ with_lines body (from index body most at))
    → and_more (λ (item : BulkItem). item.next) (items_from index body most) (item_by body found)
    ≡ with_lines body (and_more (λ (action : BulkAction). action.next) (from index body most) found)
lines-more index body most (Err fault) same = refl
lines-more index body most (Ok None) same = refl
lines-more index body most (Ok (Some action)) same =
    ap (onto (item_of body action)) (same action.next) ∙ lines-onto body action (from index body most action.next)

lines-from : (index : Option (List ℕ)) (body : List ℕ) (most at : ℕ) → items_from index body most at ≡ with_lines body (from index body most at)
unfolding item_at
lines-from index body zero at = refl
lines-from index body (suc most) at = lines-more index body most (action_at index body at) (λ other. lines-from index body most other)

-- the items of a body are those of its actions
pub lines_of_actions : (index : Option (List ℕ)) (body : List ℕ) (actions : List BulkAction) → actions_of index body ≡ Ok actions → items_of index body ≡ Ok (items_with body actions)
unfolding items_of actions_of
lines_of_actions index body actions are = lines-from index body (suc (length body)) 0 ∙ ap (with_lines body) are

-- actions that were taken of a body
pub taken : (index : Option (List ℕ)) (body : List ℕ) (actions : List BulkAction) → checked (actions_of index body) ≡ Ok actions → All (LiesIn body) actions → AreActions index body actions
taken index body actions are lie = record { items = lines_of_actions index body actions (checked_ok (actions_of index body) actions are); within = lie }

name_by : (index id : List ℕ) (change : Change) (name named : Bool) (event : Event)
    → and_then (told (both (if name then Ok index else Err limit.Index) (if named then Ok id else Err limit.Id))) (λ it. Ok (Write it.0 it.1 change)) ≡ Ok event → name ≡ true
name_by index id change true named event e = refl
name_by index id change false true event e = absurd (cc)
name_by index id change false false event e = absurd (cc)

good_by : (index id : List ℕ) (change : Result Change RestFault) (event : Event) → write_with index id change ≡ Ok event → is_index_name index ≡ true
good_by index id (Ok change) event e = name_by index id change (is_index_name index) (is_doc_id id) event e
good_by index id (Err fault) event e = absurd (cc)

-- an item whose Write is asked has the name of an index
pub good_index : (item : BulkItem) (event : Event) → write_of item ≡ Ok event → is_index_name item.index ≡ true
good_index item event e = good_by item.index item.id (read_change item.change) event e
