-- What the calls of a service add to its history, and what they answer.
use Rattle.std.specs.Prelude.{◌≡◌, ◌≢◌, ◌⊎◌, ℕ, ◌+◌, ◌*◌, ◌≤◌, ◌==◌, List, ◌∷◌, ◌++◌, length, sum_by, count_by, slice_get, Some, All}
use Rattle.es_types.specs.declared.limits.TheConstants.{MOST_ENTRIES}
use Rattle.list_machine.specs.declared.event.Entry.{Entry}
use Rattle.list_machine.specs.declared.event.Event.{Event}
use Rattle.list_machine.specs.declared.event.Event.TheVariants.{Create, Write, Seal, Publish, OpenPit, Search, Close, Quiet}
use Rattle.list_machine.specs.declared.event.Reply.{Reply}
use Rattle.list_machine.specs.declared.event.Reply.TheVariants.{Sealed, Spent}
use Rattle.list_machine.specs.declared.event.Limits.{Limits}
use Rattle.list_machine.specs.Rows.{Shard}
use Rattle.list_machine.specs.State.{State, Index}
use Rattle.list_machine.specs.Run.{History, reply_of, Occurs, IsBounded, PutsObject}

-- what a call says of its moment and of the history before and after it
abbrev pub Call : Type 1
Call = ℕ → History → History → Type 0

-- by which number a seat asks, and by which it does what nobody asked it for
abbrev pub asking : ℕ → ℕ
asking seat = 2 * seat

abbrev pub besides : ℕ → ℕ
besides seat = 2 * seat + 1

-- a Seal of the index answered that number for that shard
pub record HasSealed (limits : Limits) (history : History) (index : List ℕ) (shard upto : ℕ) : Type 0 where
  pub before : History
  pub entry : Entry
  pub numbers : List ℕ
  pub stands : Occurs history before entry
  pub seals : entry.event ≡ Seal index
  pub sealed : reply_of limits before entry ≡ Sealed numbers
  pub number : slice_get numbers shard ≡ Some upto

-- a shard may always be published up to 0, and else up to a number that a Seal answered for it
abbrev pub MayPublish : Limits → History → List ℕ → ℕ → ℕ → Type 0
MayPublish limits history index shard upto = (upto ≡ 0) ⊎ HasSealed limits history index shard upto

-- What may be asked. An index needs 1 to 1,024 shards, a put a JSON object, a Publish 0 or a number that a Seal answered for that
-- shard, and a search is within its limits. Nobody asks for a Quiet, and all else may be asked.
abbrev pub IsAskable : Limits → History → Event → Type 0
IsAskable limits history (Create index shards mapping) = IsBounded (Create index shards mapping)
IsAskable limits history (Write index id change) = PutsObject (Write index id change)
IsAskable limits history (Seal index) = Unit {0}
IsAskable limits history (Publish index shard upto) = MayPublish limits history index shard upto
IsAskable limits history (OpenPit index keep) = Unit {0}
IsAskable limits history (Search target request) = IsBounded (Search target request)
IsAskable limits history (Close which) = Unit {0}
IsAskable limits history Quiet = ⊥

-- What a call adds besides what it asks: entries of others, and at most so many Quiets of its own, all at
-- the moment that it was handed.
pub record Beside (seat most moment : ℕ) (more : History) : Type 0 where
  pub none_asked : All (λ (entry : Entry). entry.who ≢ asking seat) more
  pub quiet : All (λ (entry : Entry). entry.who ≡ besides seat → (entry.event ≡ Quiet) × (entry.moment ≡ moment)) more
  pub few : count_by (λ (entry : Entry). entry.who == besides seat) more ≤ most

-- the history grew at its end, by nothing that was asked
pub record GrowsBeside (seat most moment : ℕ) (old new : History) : Type 0 where
  pub more : History
  pub grows : new ≡ old ++ more
  pub beside : Beside seat most moment more

-- the history grew by the asked entry and others around it
pub record Adds (seat most : ℕ) (old new : History) (entry : Entry) : Type 0 where
  pub before : History
  pub after : History
  pub grows : new ≡ old ++ before ++ entry ∷ after
  pub beside : Beside seat most entry.moment (before ++ after)

-- the entry that a seat asks for
abbrev pub asked : ℕ → ℕ → Event → Entry
asked seat moment event = record { who = asking seat; moment = moment; event = event }

-- the reply is the machine's at the asked entry
pub record IsAnswered (limits : Limits) (seat most : ℕ) (old new : History) (entry : Entry) (reply : Reply) : Type 0 where
  pub adds : Adds seat most old new entry
  pub is : reply ≡ reply_of limits (old ++ adds.before) entry

-- the history is full, and nothing was asked
pub record IsSpent (limits : Limits) (seat most moment : ℕ) (old new : History) (reply : Reply) : Type 0 where
  pub beside : GrowsBeside seat most moment old new
  pub full : length new ≡ limits.entries
  pub is : reply ≡ Spent

-- what a reply says of the history
abbrev pub Asked : Limits → ℕ → ℕ → History → History → Entry → Reply → Type 0
Asked limits seat most old new entry reply =
    IsAnswered limits seat most old new entry reply ⊎ IsSpent limits seat most entry.moment old new reply

-- what lack of memory says of it: the entry may have been asked or not
abbrev pub MayHaveAsked : ℕ → ℕ → History → History → Entry → Type 0
MayHaveAsked seat most old new entry = Adds seat most old new entry ⊎ GrowsBeside seat most entry.moment old new

-- how many operations were applied in all shards
abbrev pub applied : State → ℕ
applied state = sum_by (λ (index : Index). sum_by (λ (shard : Shard). shard.base) index.shards) state.indexes

-- a history of a service: not longer than it may be, and each put a JSON object
pub record IsKept (limits : Limits) (history : History) : Type 0 where
  pub some : 1 ≤ limits.entries
  pub bounded : limits.entries ≤ MOST_ENTRIES
  pub room : length history ≤ limits.entries
  pub objects : All (λ (entry : Entry). PutsObject entry.event) history
