-- Which points in time leave the book.
use Rattle.std.specs.Prelude.{ℕ, ◌==◌, Bool, not}
use Rattle.std.specs.List.{list_any}
use Rattle.list_machine.specs.declared.event.Which.{Which}
use Rattle.list_machine.specs.declared.event.Which.TheVariants.{Pits}
use Rattle.context_book.specs.declared.context.Context.{Context}
use Rattle.context_book.specs.declared.leaving.Leaving.{Leaving}
use Rattle.context_book.specs.declared.leaving.Leaving.TheVariants.{Ended, Closed}
use Rattle.context_book.specs.Books.{has_ended, is_closed}

abbrev pub leaves : Leaving → ℕ → Context → Bool
leaves Ended moment context = has_ended moment context
leaves (Closed which) moment context = is_closed moment which.now context

abbrev pub stays : Leaving → ℕ → Context → Bool
stays leaving moment context = not (leaves leaving moment context)

-- whether that number is named
abbrev pub names : Which → ℕ → Bool
names (Pits numbers) number = list_any (λ named. named == number) numbers
