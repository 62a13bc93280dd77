-- Nothing was asked yet, and the book of the core holds nothing.
use Rattle.std.proofs.Common.{List, ℕ, ap, ap₂}
use Rattle.list_machine.specs.declared.event.Entry.{Entry}
use Rattle.es_node.specs.Solo.{Journal, entries}
use Rattle.es_node.proofs.Journals.{none_kept}
use Rattle.es_node.proofs.solo.Solo.make.Goals as goal

pub returns : goal.returns
returns c =
    let journal : List Entry → ℕ → Journal = λ entries count. record { limits = c.args.limits; history = entries; kept = count } in
    ap₂ journal (ap entries c.new.ensures.items) (none_kept c.args.limits c.in_ok-core.core c.in_ok-core.ensures)
