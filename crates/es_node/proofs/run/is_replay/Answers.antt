-- The one word is compared.
use Rattle.std.proofs.Common.{◌∙◌, sym, ap, List, ℕ}
use Rattle.std.specs.Prelude.{bytes_eq, codes}
use Rattle.es_node.proofs.CommandWords.{one_word, other_words}
use Rattle.es_node.proofs.run.is_replay.Goals as goal

pub returns-then-words-eq1 : goal.returns-then-words-eq1
returns-then-words-eq1 c =
    c.eq.ensures ∙ (ap (λ (w : List ℕ). bytes_eq w (codes "replay")) c.as_str.ensures
    ∙ sym (one_word c.args.words.now c.index-words-0.result c.if-words-eq1.true c.index-words-0.is))

pub returns-else-words-eq1 : goal.returns-else-words-eq1
returns-else-words-eq1 c = sym (other_words c.args.words.now c.if-words-eq1.false)
