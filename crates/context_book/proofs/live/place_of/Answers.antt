use Rattle.std.proofs.Common.{rules}
use Rattle.std.proofs.lemmas.List.Sorted.{answers_always}
use Rattle.context_book.proofs.Rising.{searched}
use Rattle.context_book.proofs.live.place_of.Goals as goal

pub returns : goal.returns
returns c =
    let facts = c.binary_search_by_key.ensures in
    let by_number = facts.position (λ context. context.number) (answers_always _ _ _ (λ f a r g called. search rules)) in
    searched c.args.contexts.now c.args.number c.requires c.binary_search_by_key.result facts.bound by_number c.ok.result c.ok.ensures.value
