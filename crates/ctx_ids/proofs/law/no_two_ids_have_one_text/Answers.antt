use Rattle.ctx_ids.proofs.Texts.{text_of-injective}
use Rattle.ctx_ids.proofs.law.no_two_ids_have_one_text.Goals as goal

pub returns : goal.returns
returns c = text_of-injective
