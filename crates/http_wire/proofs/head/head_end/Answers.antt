use Rattle.std.proofs.Common.{◌≡◌, ◌≤◌, ◌-◌, ℕ, List, length, take, drop, None, ap, ◌∙◌, arith}
use Rattle.std.proofs.Math.Nat.{min_comm}
use Rattle.std.proofs.lemmas.List.{take_min, take-take, length-take}
use Rattle.es_types.specs.declared.limits.TheConstants.{HEAD_BYTES}
use Rattle.http_wire.specs.Heads.{head_len}
use Rattle.http_wire.proofs.Ends.{plus, head_len_skip}
use Rattle.http_wire.proofs.head.head_end.Goals as goal

pub returns : goal.returns
returns c =
    let held = c.args.held.now in
    let seen = c.args.seen in
    let window : take c.min.result held ≡ take HEAD_BYTES held
    = ap (λ n. take n held) (c.min.ensures ∙ min_comm (length held) HEAD_BYTES) ∙ take_min HEAD_BYTES held in
    let back : c.saturating_sub.result ≡ seen - 3 = c.saturating_sub.ensures in
    let within : seen ≤ length (take HEAD_BYTES held) = omega (arith, length-take HEAD_BYTES held, c.requires.seen, c.requires.limit) in
    let none : head_len (take seen (take HEAD_BYTES held)) ≡ None = ap head_len (take-take seen HEAD_BYTES held c.requires.limit) ∙ c.requires.none in
    c.scan.ensures ∙ ap (λ (k : ℕ). plus k (head_len (drop k (take c.min.result held)))) back
    ∙ ap (λ (w : List ℕ). plus (seen - 3) (head_len (drop (seen - 3) w))) window
    ∙ head_len_skip (take HEAD_BYTES held) seen within none
