-- What calls make of the points in time.
use Rattle.std.specs.Prelude.{◌≡◌, ◌≢◌, ℕ, ◌+◌, ◌==◌, max, not, nat_lt, if◌then◌else◌, List, ◌∷◌, ◌++◌, filter, Option, None}
use Rattle.context_book.specs.declared.context.Context.{Context}
use Rattle.context_book.specs.declared.context.LendFault.{LendFault}
use Rattle.context_book.specs.declared.context.LendFault.TheVariants as fault
use Rattle.context_book.specs.declared.context.Why.{Why}
use Rattle.context_book.specs.declared.context.Why.TheVariants.{TooMany, NoMemory}

-- those of lower numbers, a new one, and those of higher numbers
abbrev pub with_one : Context → List Context → List Context
with_one new contexts =
    filter (λ context. nat_lt context.number new.number) contexts ++ new ∷ filter (λ context. nat_lt new.number context.number) contexts

-- all but the one of that number
abbrev pub without : ℕ → List Context → List Context
without number contexts = filter (λ context. not (context.number == number)) contexts

-- that of the number lives no shorter than up to the expiry
abbrev pub touched : ℕ → ℕ → Context → Context
touched number expiry context =
    if context.number == number then record context { expiry = max context.expiry expiry } else context

-- the owner of that number has lent one pass more
abbrev pub lent_by : ℕ → Context → Context
lent_by number context =
    if context.number == number then record context { owner = record context.owner { lent = context.owner.lent + 1 } } else context

-- why one more isn't opened, where so many may be live, and so many are
abbrev pub IsWhy : Why → ℕ → ℕ → Type 0
IsWhy (TooMany limit) most live = (limit ≡ most) × (live ≡ most)
IsWhy NoMemory most live = live ≢ most

-- why no pass is lent of the one that was found
abbrev pub IsLendFault : LendFault → Option Context → Type 0
IsLendFault fault.Missing found = found ≡ None
IsLendFault fault.NoMemory found = found ≢ None
