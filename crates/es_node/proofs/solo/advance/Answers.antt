-- What a core's turn says of the history and its reply.
use Rattle.es_node.proofs.solo.advance.Goals as goal

pub returns-clause-advances : goal.returns-clause-advances
returns-clause-advances c = λ limits history stands small. c.in_ok-turned.ensures.turns limits history c.args.entry.who stands small
