-- What an event makes of a core, in terms of the states that it stands for.
use Rattle.std.specs.Prelude.{◌≡◌, ℕ, ◌<◌, ◌≤◌, length, filter, sum_by, All, AllPairs}
use Rattle.es_types.specs.declared.limits.TheConstants.{MOST_ENTRIES}
use Rattle.list_machine.specs.declared.event.Event.{Event}
use Rattle.list_machine.specs.declared.event.Reply.{Reply}
use Rattle.list_machine.specs.State.{Context, State, is_live}
use Rattle.list_machine.specs.Step.{happen}
use Rattle.es_core.specs.declared.node.Core.{Core}
use Rattle.es_core.specs.Contexts.{AllCanLend, contexts_seen}
use Rattle.es_core.specs.Indexes.{AllNumbered}

-- the core holds the state, whose moment is this one
pub record Holds (core : Core) (moment : ℕ) (state : State) : Type 0 where
  pub limits_are : core.limits ≡ state.limits
  pub moment_is : state.moment ≡ moment
  pub next : core.next ≡ state.next
  pub indexes : core.catalog ≡ state.indexes
  pub contexts : (later : ℕ) → moment ≤ later → filter (is_live later) (contexts_seen core.book.contexts) ≡ filter (is_live later) state.contexts

-- the numbers of the state are small, and those of its contexts differ, whose shards can be counted
pub record HasSmallNumbers (state : State) : Type 0 where
  pub numbers : AllNumbered state.indexes
  pub next : state.next ≤ MOST_ENTRIES
  pub differ : AllPairs (λ (a b : Context). a.number < b.number) state.contexts
  pub shards : sum_by (λ (context : Context). length context.view.shards) state.contexts ≤ 18446744073709551615

-- whatever small state the core held, it now holds the one after the event, and the reply is the machine's, unless an owner has
-- lent as many passes as one may
abbrev pub Steps : Core → Core → ℕ → Event → Reply → Type 0
Steps old new moment event reply =
    (state : State) → Holds old moment state → HasSmallNumbers state → AllCanLend old.book.contexts
    → Holds new moment (happen state event).0 × (reply ≡ (happen state event).1)

-- all that is seen of the core is as before
pub record IsSame (old new : Core) : Type 0 where
  pub limits_are : new.limits ≡ old.limits
  pub moment : new.moment ≡ old.moment
  pub next : new.next ≡ old.next
  pub indexes : new.catalog ≡ old.catalog
  pub book : new.book ≡ old.book
