use Rattle.reader_gate.proofs.Ends.{ends_at_last, ends_once, lets_one_go}
use Rattle.reader_gate.proofs.law.a_reader_ends_once.Goals as goal

pub returns : goal.returns
returns g c = record { once = λ told. ends_once told; at_last = λ told. ends_at_last told; lets_go = λ told. lets_one_go told }
