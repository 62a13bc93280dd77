use Rattle.std.proofs.lemmas.Cmp.{on_total, tied_itself}
use Rattle.std.specs.Cmp.{IsTotalOrder}
use Rattle.es_sort.specs.declared.sort.Keys.{Keys}
use Rattle.es_sort.specs.declared.sort.SortSpec.{SortSpec}
use Rattle.es_sort.specs.Keys.{all_keys}
use Rattle.es_sort.specs.Orders.{compare}
use Rattle.es_sort.proofs.Places.{apart}
use Rattle.es_sort.proofs.Totals.{values_total}
use Rattle.es_sort.proofs.law.strict_total_order.Goals as goal

keys_total : (sort : SortSpec) → IsTotalOrder (compare sort)
keys_total sort = on_total (λ (key : Keys). key.values) (values_total (all_keys sort))

pub returns-clause-total : goal.returns-clause-total
returns-clause-total c = keys_total

pub returns-clause-irreflexive : goal.returns-clause-irreflexive
returns-clause-irreflexive c = λ sort key. tied_itself (keys_total sort) key

pub returns-clause-transitive : goal.returns-clause-transitive
returns-clause-transitive c = λ sort a b d less next. (keys_total sort).trans a b d less next

pub returns-clause-apart : goal.returns-clause-apart
returns-clause-apart c = apart
