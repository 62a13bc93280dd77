-- An input of whole requests is answered wholly.
use Rattle.es_rest.proofs.Whole.{serves_whole}
use Rattle.es_rest.proofs.connection.serve_connection.Goals as goal

pub returns-clause-complete : goal.returns-clause-complete
returns-clause-complete g c =
    serves_whole _ _ _ _ _ _ _ _ _ _ _ _ _ _ _ _ _ _ _ _ _ c.serve_requests.ensures.headline c.serve_requests.ensures.read_fault c.serve_requests.ensures.write_fault
