-- The rows so far are those that are wanted of the shards so far.
use Rattle.std.proofs.Common.{filter, take}
use Rattle.list_machine.specs.Seen.Paging.{AreCandidates}
use Rattle.list_machine.specs.Seen.Stores.{view_at}
use Rattle.list_machine.specs.Views.{is_wanted, places_from}
use Rattle.list_machine.proofs.page.candidates.candidates.Given as goal

abbrev pub invariant-loop-at : goal.invariant-loop-at
invariant-loop-at l =
    AreCandidates (view_at l.view) l.request.sort (filter (is_wanted (view_at l.view) l.request.query l.request.slice) (places_from 0 (take l.at (view_at l.view).shards))) l.them.items
