-- How `Items` stores its items, so that a type may hold `Items` of itself: as its `Vec` stores them.
use mathlib.Core.Path.{◌≡◌, refl, sym}
use mathlib.Core.List.{List, []}
use mathlib.Core.Former.{Former, this, list, via, children}
use base.Stored.{code_map}
use denote.RattleType.{RattleType}
use denote.HoleLaws.{Alike}
use denote.HolePlaces.{Recodes, struct_places, laid}
use denote.Hole.Carrier.{listed, list-listed}
use denote.Hole.Fix.{over}
use denote.Param.Weighed.{Weighed, w_list}
use denote.Model.Placed.{view_places}
use Rattle.std.specs.formers.vec.Vec as vec
use Rattle.std.specs.declared.alloc.Global.{Global}
use Rattle.std.specs.contracts.alloc.Global as global
use Rattle.std.specs.contracts.impls.GlobalAllocator.TheImpl.{ghosts}
use Rattle.es_types.specs.declared.items.Items.TheInside.{Inside}
use Rattle.es_types.specs.declared.items.Items.TheView.{view, invariant}
use Rattle.es_types.specs.contracts.items.Items as outer
use Rattle.es_types.specs.contracts.items.Items.TheInside as inner

-- contracts see a list
abbrev pub the_former : Former {0} → Former {0}
the_former former = list former

abbrev pub the_weighed : {former : Former {0}} → Weighed former → Weighed (the_former former)
the_weighed weighed = w_list weighed

abbrev pub the_empty : List ⊥
the_empty = []

abbrev pub the_items : (T : Type 0) → List T → List T
the_items T items = items

pub the_items_listed : (T : Type 0) (items : List T) → listed _ (children (the_former this) T items) ≡ the_items T items
the_items_listed T items = list-listed T items

-- the fields hold the items in the `Vec`
abbrev stored : Former {0}
stored = via (vec.the_former this Global) Inside (λ T fields. fields.items) (λ T items. record { items = items }) (λ T fields. refl) (λ T items. refl)

module _ (R S : RattleType) (change : R.Denot → S.Denot) where
  pub the_places : Alike R S change → Alike (outer.the_row R) (outer.the_row S) ((the_former this).map R.Denot S.Denot change)
  the_places alike =
      view_places stored (list this) view (λ T U k items. refl) (λ T items. refl) R.Denot S.Denot change
      (outer.the_row R).coded (outer.the_row S).coded
      (invariant R.Denot) (invariant S.Denot) (λ a b c. refl) (λ a b c. refl) (λ a b. tt) (λ a b. tt)
      (over (inner.the_row R)) (over (inner.the_row S))
      (struct_places (inner.the_type R) (inner.the_type S) (vec.mapped change, tt) _ (λ fields. refl) refl
      (laid _ _ _ (vec.the_places global.the_row ghosts R S change alike), tt))

  pub the_codes_placed : Recodes R S change → Recodes (outer.the_row R) (outer.the_row S) ((the_former this).map R.Denot S.Denot change)
  the_codes_placed recodes items = sym (code_map R.coded.code S.coded.code change (λ x. sym (recodes x)) items)
