-- The history that a core stands for.
use Rattle.std.specs.Prelude.{◌≡◌, ℕ, ◌<◌, ◌≤◌, [], ◌∷◌, ◌++◌, length, filter, All}
use Rattle.es_types.specs.declared.limits.TheConstants.{MOST_ENTRIES}
use Rattle.list_machine.specs.declared.event.Entry.{Entry}
use Rattle.list_machine.specs.declared.event.Event.{Event}
use Rattle.list_machine.specs.declared.event.Event.TheVariants.{Quiet}
use Rattle.list_machine.specs.declared.event.Limits.{Limits}
use Rattle.list_machine.specs.State.{is_live}
use Rattle.list_machine.specs.Run.{IsBounded, History, PutsObject, reply_of, state_of}
use Rattle.es_core.specs.declared.node.Core.{Core}
use Rattle.es_core.specs.declared.turned.Turned.{Turned}
use Rattle.es_core.specs.Contexts.{AllLent, contexts_seen}
use Rattle.es_core.specs.Plans.{turned_reply}

-- The core stands for the state that the history leads to: its indexes, next number, moment and limits are those of
-- the state, and so are the contexts that are live at its moment or at a later one. Those that are no longer live may be gone. Each
-- owner has lent at most as many passes as there are entries.
pub record Stands (limits : Limits) (core : Core) (history : History) : Type 0 where
  pub limits_are : core.limits ≡ limits
  pub moment : core.moment ≡ (state_of limits history).moment
  pub next : core.next ≡ (state_of limits history).next
  pub indexes : core.catalog ≡ (state_of limits history).indexes
  pub contexts : (moment : ℕ) → (state_of limits history).moment ≤ moment
      → filter (is_live moment) (contexts_seen core.book.contexts) ≡ filter (is_live moment) (state_of limits history).contexts
  pub lent : AllLent (length history) core.book.contexts
  pub objects : All (λ (entry : Entry). PutsObject entry.event) history
  pub bounded : All (λ (entry : Entry). IsBounded entry.event) history

-- Whatever history the core stood for, of fewer than 2^53 entries, it now stands for that history and the entry,
-- and what it answers, at once or by its plan, is the machine's reply after that history.
abbrev pub TakesStep : Core → Core → Event → ℕ → Turned → Type 0
TakesStep old new event moment turned =
    (limits : Limits) (history : History) (who : ℕ) → Stands limits old history → length history < MOST_ENTRIES
    → Stands limits new (history ++ record { who = who; moment = moment; event = event } ∷ [])
    × (turned_reply turned ≡ reply_of limits history (record { who = who; moment = moment; event = event }))

-- the same of a Quiet, which answers nothing
abbrev pub Rests : Core → Core → ℕ → Type 0
Rests old new moment =
    (limits : Limits) (history : History) (who : ℕ) → Stands limits old history → length history < MOST_ENTRIES
    → Stands limits new (history ++ record { who = who; moment = moment; event = Quiet } ∷ [])

-- the core stands for what it stood for
abbrev pub StandsOn : Core → Core → Type 0
StandsOn old new = (limits : Limits) (history : History) → Stands limits old history → Stands limits new history
