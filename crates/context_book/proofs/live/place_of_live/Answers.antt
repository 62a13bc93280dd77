use Rattle.std.proofs.Common.{◌∙◌, subst, sym}
use Rattle.context_book.specs.Places.{IsPlace}
use Rattle.context_book.proofs.Rising.{late_there, live_there, none_live}
use Rattle.context_book.proofs.live.place_of_live.Goals as goal

pub returns-in_err-at : goal.returns-in_err-at
returns-in_err-at c =
    subst (IsPlace c.args.contexts.now c.args.number c.args.now) (sym c.from_residual.ensures)
    (none_live c.args.number c.args.now c.args.contexts.now (c.in_err-at.ensures))

pub returns-then-is_live : goal.returns-then-is_live
returns-then-is_live c =
    let has = c.in_ok-at.ensures in
    (has, live_there c.args.contexts.now c.args.number c.in_ok-at.at c.args.now c.requires has c.index-contexts-at.result c.index-contexts-at.is (sym c.is_live.ensures ∙ c.if-is_live.true))

pub returns-else-is_live : goal.returns-else-is_live
returns-else-is_live c =
    late_there c.args.contexts.now c.args.number c.in_ok-at.at c.args.now c.requires (c.in_ok-at.ensures) c.index-contexts-at.result c.index-contexts-at.is (sym c.is_live.ensures ∙ c.if-is_live.false)
