-- An input of whole requests is answered wholly.
use Rattle.es_node.proofs.Inputs.{completes}
use Rattle.es_node.proofs.run.run.Goals as goal

pub returns-then-is_replay-clause-complete : goal.returns-then-is_replay-clause-complete
returns-then-is_replay-clause-complete g c =
    λ is. completes _ _ _ _ _ _ _ _ _ c.replay.ensures.replays c.replay.ensures.read_fault c.replay.ensures.write_fault
