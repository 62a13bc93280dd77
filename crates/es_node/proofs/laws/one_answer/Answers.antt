use Rattle.es_node.proofs.Alike.{same_responses}
use Rattle.es_node.proofs.Inputs.{same_bytes}
use Rattle.es_node.proofs.laws.one_answer.Goals as goal

pub returns-clause-responses : goal.returns-clause-responses
returns-clause-responses c = same_responses

pub returns-clause-bytes : goal.returns-clause-bytes
returns-clause-bytes c = same_bytes
