-- How many of the shards so far.
use Rattle.std.proofs.Common.{◌≡◌, ◌≤◌, take}
use Rattle.std.specs.List.{count_by}
use Rattle.list_machine.specs.Seen.Stores.{view_at}
use Rattle.list_machine.specs.Views.{skips_from}
use Rattle.list_machine.proofs.page.paging.count_skipped.Given as goal

abbrev pub invariant-loop-at : goal.invariant-loop-at
invariant-loop-at l = (l.count ≡ count_by (λ skip. skip) (skips_from (view_at l.view) l.request.query l.request.slice 0 (take l.at (view_at l.view).shards))) × (l.count ≤ l.at)
