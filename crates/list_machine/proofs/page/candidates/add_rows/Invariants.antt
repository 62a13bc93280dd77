-- The list so far has those of the rows so far too.
use Rattle.std.proofs.Common.{take}
use Rattle.list_machine.specs.Seen.Paging.{AddsPassing}
use Rattle.list_machine.specs.Seen.Stores.{view_at}
use Rattle.list_machine.specs.Views.{is_wanted, places_of_shard}
use Rattle.list_machine.proofs.page.candidates.add_rows.Given as goal

abbrev pub invariant-loop-rank : goal.invariant-loop-rank
invariant-loop-rank l =
    AddsPassing (view_at l.view) l.request.sort (is_wanted (view_at l.view) l.request.query l.request.slice) (places_of_shard l.at 0 (take l.rank l.rows)) l.initial.them.items l.them.items
