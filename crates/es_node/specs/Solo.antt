-- A service with one caller, as contracts see it: its limits, the history so far, and how many contexts the book of its core holds.
use Rattle.std.specs.Prelude.{◌≡◌, ◌⊎◌, ℕ, ◌<◌, List, [], ◌∷◌, ◌++◌, length, map, All}
use Rattle.std.specs.declared.snapshot.Snapshot.{Snapshot}
use Rattle.es_types.specs.declared.limits.TheConstants.{MOST_ENTRIES}
use Rattle.list_machine.specs.declared.event.Entry.{Entry}
use Rattle.list_machine.specs.declared.event.Event.TheVariants.{Quiet}
use Rattle.list_machine.specs.declared.event.Limits.{Limits}
use Rattle.list_machine.specs.Run.{History, reply_of}
use Rattle.list_machine.specs.Serving.{Call, IsKept}
use Rattle.es_core.specs.declared.node.Core.{Core}
use Rattle.es_core.specs.declared.turned.Turned.{Turned}
use Rattle.es_core.specs.Plans.{turned_reply}
use Rattle.es_core.specs.Stands.{Stands}

-- the entries that a journal stands for
abbrev pub entries : List (Snapshot Entry) → List Entry
entries journal = map (λ (it : Snapshot Entry). it.value) journal

pub record Journal : Type 0 where
  pub limits : Limits
  pub history : List Entry
  pub kept : ℕ

-- it was asked by the seat of number 0, or is a Quiet that nobody asked that seat for
abbrev pub IsOwn : Entry → Type 0
IsOwn entry = (entry.who ≡ 0) ⊎ ((entry.who ≡ 1) × (entry.event ≡ Quiet))

abbrev pub AreOwn : History → Type 0
AreOwn history = All IsOwn history

-- the Quiet of a tidying
abbrev pub rest : ℕ → Entry
rest moment = record { who = 1; moment = moment; event = Quiet }

-- help changes nothing
abbrev pub Helps : Call
Helps moment old new = new ≡ old

-- a tidying adds one Quiet, or nothing
abbrev pub Tidies : Call
Tidies moment old new = (new ≡ old ++ rest moment ∷ []) ⊎ (new ≡ old)

-- whatever history the core stood for, it now stands for that and the entry, and this answers the machine's reply
abbrev pub Advances : Core → Core → Entry → Turned → Type 0
Advances old new entry turned =
    (limits : Limits) (history : History) → Stands limits old history → length history < MOST_ENTRIES
    → Stands limits new (history ++ entry ∷ []) × (turned_reply turned ≡ reply_of limits history entry)

-- the core stands for the history
pub record IsRunning (limits : Limits) (core : Core) (history : List Entry) : Type 0 where
  pub stands : Stands limits core history
  pub kept : IsKept limits history
  pub own : AreOwn history
