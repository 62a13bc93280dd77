use Rattle.std.proofs.Common.{◌≢◌, ◌/◌, ◌%◌, sym, ◌∙◌, arith}
use Rattle.std.proofs.lemmas.Bool.{eq-eqb, ne_eqb}
use Rattle.std.proofs.lemmas.Grind.{common_steps}
use Rattle.slice_rule.specs.declared.cover.Cover.TheVariants.{None, All, Part}
use Rattle.slice_rule.proofs.Ranks.{none_tells}
use Rattle.slice_rule.proofs.Shares.{is_sharing, other_shard, own_shard, whole_shard}
use Rattle.slice_rule.proofs.slice.Slice.cover.Goals as goal

-- where there are more shards than slices
pub returns-then-shard-self-clause-none : goal.returns-then-shard-self-clause-none
returns-then-shard-self-clause-none c = none_tells c.args.self.now.max c.args.shards c.args.shard c.args.self.now.id All tt
    (λ rank. sym (eq-eqb _ _ (whole_shard c.args.self.now.max c.args.shards c.args.shard rank (omega arith) ∙ omega arith)))

pub returns-else-shard-self-clause-none : goal.returns-else-shard-self-clause-none
returns-else-shard-self-clause-none c = none_tells c.args.self.now.max c.args.shards c.args.shard c.args.self.now.id None tt
    (λ rank. sym (ne_eqb _ _ (λ same. let other : c.args.shard % c.args.self.now.max ≢ c.args.self.now.id = omega arith in other (sym (whole_shard c.args.self.now.max c.args.shards c.args.shard rank (omega arith)) ∙ same))))

-- at another shard than the slice's
pub returns-then-self-shards-2-clause-is : goal.returns-then-self-shards-2-clause-is
returns-then-self-shards-2-clause-is c = λ rank. other_shard c.args.self.now.max c.args.shards c.args.shard c.args.self.now.id rank (omega arith) (omega arith) (omega arith)

pub returns-then-self-shards-2-clause-none : goal.returns-then-self-shards-2-clause-none
returns-then-self-shards-2-clause-none c = none_tells c.args.self.now.max c.args.shards c.args.shard c.args.self.now.id None tt (returns-then-self-shards-2-clause-is c)

-- where the slice alone has the shard
pub returns-then-c-eq1-clause-none : goal.returns-then-c-eq1-clause-none
returns-then-c-eq1-clause-none c = none_tells c.args.self.now.max c.args.shards c.args.shard c.args.self.now.id All tt (λ rank. grind (arith, common_steps))

-- where several share it
pub returns-clause-is : goal.returns-clause-is
returns-clause-is c = λ rank. own_shard c.args.self.now.max c.args.shards c.args.shard c.args.self.now.id rank c.sharing-c.result (omega arith) (omega arith) (omega arith) c.sharing-c.ensures.is (omega arith)

pub returns-clause-fine : goal.returns-clause-fine
returns-clause-fine c =
    let within = is_sharing c.args.self.now.max c.args.shards c.args.shard c.args.self.now.id (omega arith) (omega arith) (omega arith) in
    (omega arith, omega arith, omega arith)

pub returns-clause-none : goal.returns-clause-none
returns-clause-none c = none_tells c.args.self.now.max c.args.shards c.args.shard c.args.self.now.id (Part (c.args.self.now.id / c.args.shards) c.sharing-c.result) (returns-clause-fine c) (returns-clause-is c)
