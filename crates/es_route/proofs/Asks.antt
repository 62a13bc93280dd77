-- Answers at an unreadable moment.
use Rattle.std.proofs.Common.{◌≡◌, sym, ap, subst, Bool, true, false, Result, Ok, Err}
use Rattle.reply_json.specs.declared.fault.RestFault.{RestFault}
use Rattle.reply_json.specs.declared.fault.RestFault.TheVariants as fault
use Rattle.es_route.specs.declared.ask.Ask.{Ask}
use Rattle.es_route.specs.Answers.{Answers}
use Rattle.es_route.specs.Route.{asked_when, moment_first}

-- the same answer to what is the same
pub answers_same : {A : Type 0} (asked other : Result A RestFault) (r : Result A RestFault) → other ≡ asked → Answers r asked → Answers r other
answers_same {A} asked other r same h = subst (λ (a : Result A RestFault). Answers r a) (sym same) h

-- what an unreadable moment makes of an answer
answers_moment : (r asked : Result Ask RestFault) → Answers r asked → Answers (moment_first r) (moment_first asked)
answers_moment (Ok value) asked h = ap moment_first h
answers_moment (Err fault.NotBuilt) asked h = ap moment_first h
answers_moment (Err (fault.BadParam name)) asked h = ap moment_first h
answers_moment (Err fault.BadBody) asked h = ap moment_first h
answers_moment (Err (fault.Limit name)) asked h = ap moment_first h
answers_moment (Err fault.BadId) asked h = ap moment_first h
answers_moment (Err fault.Spent) asked h = ap moment_first h
answers_moment (Err (fault.NoIndex name)) asked h = ap moment_first h
answers_moment (Err (fault.Exists name)) asked h = ap moment_first h
answers_moment (Err (fault.BadDoc doc)) asked h = ap moment_first h
answers_moment (Err fault.BadQuery) asked h = ap moment_first h
answers_moment (Err fault.BadSort) asked h = ap moment_first h
answers_moment (Err fault.BadAfter) asked h = ap moment_first h
answers_moment (Err (fault.NoContext id)) asked h = ap moment_first h
answers_moment (Err (fault.TooMany n)) asked h = ap moment_first h
answers_moment (Err fault.ShardFull) asked h = ap moment_first h
answers_moment (Err fault.NoMemory) asked h = tt

-- a moment that isn't readable, and none or one that is
pub answers_unreadable : (r result asked : Result Ask RestFault) (unreadable : Bool) → unreadable ≡ true → result ≡ moment_first r → Answers r asked → Answers result (asked_when unreadable asked)
answers_unreadable r result asked unreadable is made h =
    answers_same (moment_first asked) (asked_when unreadable asked) result (ap (λ b. asked_when b asked) is)
    (subst (λ (x : Result Ask RestFault). Answers x (moment_first asked)) (sym made) (answers_moment r asked h))

pub answers_readable : (r asked : Result Ask RestFault) (unreadable : Bool) → unreadable ≡ false → Answers r asked → Answers r (asked_when unreadable asked)
answers_readable r asked unreadable is h = answers_same asked (asked_when unreadable asked) r (ap (λ b. asked_when b asked) is) h
