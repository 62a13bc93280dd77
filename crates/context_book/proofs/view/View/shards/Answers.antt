use Rattle.std.proofs.Common.{subst}
use Rattle.list_machine.specs.Seen.Stores.{IsCountable}
use Rattle.context_book.proofs.Small.{countable}
use Rattle.context_book.proofs.view.View.shards.Goals as goal

pub returns-clause-countable : goal.returns-clause-countable
returns-clause-countable c = subst IsCountable c.self.view_is (countable c.self.inside.index _ c.self.inside.shards c.self.invariant.1)
