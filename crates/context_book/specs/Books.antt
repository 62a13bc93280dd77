-- The book of the points in time, and which of them are live.
use Rattle.std.specs.Prelude.{ℕ, ◌<◌, ◌==◌, Bool, not, List, filter, find, AllPairs, Option, IfSome}
use Rattle.es_types.specs.declared.limits.TheConstants.{MOST_ENTRIES}
use Rattle.list_machine.specs.declared.event.Which.{Which}
use Rattle.list_machine.specs.State.{Context as Seen, is_live, pit}
use Rattle.list_machine.specs.Step.{is_closing}
use Rattle.context_book.specs.declared.context.Context.{Context}

-- as many points in time as may be live at once, and those that are kept
pub record Book : Type 0 where
  pub limit : ℕ
  pub contexts : List Context

-- their numbers rise
abbrev pub Rises : List Context → Type 0
Rises contexts = AllPairs (λ (a b : Context). a.number < b.number) contexts

-- a point in time as the machine has it
abbrev pub seen : Context → Seen
seen context = pit context.number context.owner.body context.expiry

-- whether it is live, or is no longer live
abbrev pub lives : ℕ → Context → Bool
lives moment context = is_live moment (seen context)

abbrev pub has_ended : ℕ → Context → Bool
has_ended moment context = not (lives moment context)

-- whether it is one of those that are closed, or one of the others
abbrev pub is_closed : ℕ → Which → Context → Bool
is_closed moment which context = is_closing moment which (seen context)

abbrev pub is_kept : ℕ → Which → Context → Bool
is_kept moment which context = not (is_closed moment which context)

-- the live one of that number
abbrev pub live_one : ℕ → ℕ → List Context → Option Context
live_one number moment contexts = find (λ context. context.number == number) (filter (lives moment) contexts)

-- the owner of that one, where it is there, has lent fewer passes than one may
abbrev pub CanLend : ℕ → ℕ → List Context → Type 0
CanLend number moment contexts = IfSome (live_one number moment contexts) (λ (context : Context). context.owner.lent < MOST_ENTRIES)
