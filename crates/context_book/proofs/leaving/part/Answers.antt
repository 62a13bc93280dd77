use Rattle.std.proofs.Common.{map, sym, ap, ◌∙◌, arith}
use Rattle.std.specs.List.{count_by}
use Rattle.std.specs.Vec.{vec_capacity, vec_len}
use Rattle.context_book.specs.declared.context.Context.{Context}
use Rattle.context_book.specs.Leavings.{leaves, stays}
use Rattle.context_book.proofs.Parting.{all_stay, both_counts, none_passes}
use Rattle.context_book.proofs.leaving.part.Goals as goal

pub returns-then-leavers-eq0-clause-gone : goal.returns-then-leavers-eq0-clause-gone
returns-then-leavers-eq0-clause-gone c =
    let test = leaves c.args.leaving c.args.now in
    c.new.ensures.items
    ∙ ap (map (λ (context : Context). context.owner))
    (sym (none_passes test c.args.contexts.now.items (ap (count_by test) (sym c.deref.ensures.value)
    ∙ sym c.count_leaving-leavers.ensures ∙ c.if-leavers-eq0.true)))

pub returns-then-leavers-eq0-clause-kept : goal.returns-then-leavers-eq0-clause-kept
returns-then-leavers-eq0-clause-kept c =
    let test = leaves c.args.leaving c.args.now in
    sym (all_stay test c.args.contexts.now.items (ap (count_by test) (sym c.deref.ensures.value)
    ∙ sym c.count_leaving-leavers.ensures ∙ c.if-leavers-eq0.true))

pub share_out-requires-clause-place : goal.share_out-requires-clause-place
share_out-requires-clause-place c =
    let old = c.args.contexts.now in
    let goes = leaves c.args.leaving c.args.now in
    let all = both_counts goes old.items in
    let left = ap (count_by goes) (sym c.deref.ensures.value) ∙ sym c.count_leaving-leavers.ensures in
    let empty = ap vec_len c.replace-all.ensures.after ∙ c.in_ok-kept.ensures.len in
    let room = ap vec_capacity c.replace-all.ensures.after ∙ c.in_ok-kept.ensures.exact in
    let same = ap (λ v. count_by (stays c.args.leaving c.args.now) v.items) c.replace-all.ensures.value in
    let long = old.ok.0 in
    omega (arith, all, left, empty, room, same, long, c.len.ensures)
