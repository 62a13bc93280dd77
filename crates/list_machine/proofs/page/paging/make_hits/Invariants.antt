-- The hits so far.
use Rattle.std.proofs.Common.{◌≡◌, map, take}
use Rattle.list_machine.specs.Seen.Paging.{place_seen}
use Rattle.list_machine.specs.Seen.Stores.{view_at}
use Rattle.list_machine.specs.Views.{hit}
use Rattle.list_machine.proofs.page.paging.make_hits.Given as goal

abbrev pub invariant-loop-one : goal.invariant-loop-one
invariant-loop-one l = l.hits.items ≡ map (λ one. hit (view_at l.view) l.sort (place_seen one)) (take l.one-index l.them)
