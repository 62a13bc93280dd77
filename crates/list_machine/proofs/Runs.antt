-- What a run keeps, and what only grows.
use Rattle.std.proofs.Common.{◌≡◌, ◌≤◌, inl, inr, List, [], ◌∷◌, ◌++◌, map, refl, sym, ap, ◌∙◌, subst, arith, append-nil, append_assoc}
use Rattle.std.proofs.lemmas.List.{map-append}
use Rattle.list_machine.specs.declared.event.Limits.{Limits}
use Rattle.list_machine.specs.State.{State, start, view_of}
use Rattle.list_machine.specs.Step.{step}
use Rattle.list_machine.specs.Run.{History, run, state_of}
use Rattle.list_machine.proofs.ContextMoves.{Named, named, named_kept}
use Rattle.list_machine.proofs.Moves.{Keeps, MovesContexts, step_moves}

-- contexts are only added, and keep their numbers and views, the next number never falls, and the limits and the moment are kept
pub record Later (old new : State) : Type 0 where
  pub more : List Named
  pub contexts : map named new.contexts ≡ map named old.contexts ++ more
  pub next : old.next ≤ new.next
  pub kept : Keeps old new

-- a move goes on
moves_later : (old new : State) → Keeps old new → MovesContexts old new → Later old new
moves_later old new k (inl m) =
    record {
      more = [];
      contexts = ap (map named) m.contexts ∙ named_kept m.to m.keeps old.contexts ∙ sym (append-nil (map named old.contexts));
      next = omega (arith, m.next);
      kept = k;
    }
moves_later old new k (inr m) =
    record {
      more = record { number = old.next; view = view_of m.index } ∷ [];
      contexts = ap (map named) m.contexts ∙ map-append named old.contexts _;
      next = omega (arith, m.next);
      kept = k;
    }

-- one after the other
later_on : (a b c : State) → Later a b → Later b c → Later a c
later_on a b c p q =
    record {
      more = p.more ++ q.more;
      contexts = q.contexts ∙ ap (λ l. l ++ q.more) p.contexts ∙ append_assoc (map named a.contexts) p.more q.more;
      next = omega (arith, p.next, q.next);
      kept = record { limits = q.kept.limits ∙ p.kept.limits; moment = omega (arith, p.kept.moment, q.kept.moment) };
    }

-- a run goes on
pub run_later : (history : History) (state : State) → Later state (run state history)
run_later [] state =
    record { more = []; contexts = sym (append-nil (map named state.contexts)); next = omega arith; kept = record { limits = refl; moment = omega arith } }
run_later (entry ∷ history) state =
    later_on state (step state entry).0 (run (step state entry).0 history) (moves_later state (step state entry).0 (step_moves state entry).kept (step_moves state entry).contexts) (run_later history (step state entry).0)

-- a run in two parts
pub run-append : (first second : History) (state : State) → run state (first ++ second) ≡ run (run state first) second
run-append [] second state = refl
run-append (entry ∷ first) second state = run-append first second (step state entry).0

-- a run keeps the limits
pub limits_kept : (limits : Limits) (history : History) → (state_of limits history).limits ≡ limits
limits_kept limits history = (run_later history (start limits)).kept.limits

-- the moment never falls
pub moments_never_fall : (limits : Limits) (history more : History) → (state_of limits history).moment ≤ (state_of limits (history ++ more)).moment
moments_never_fall limits history more =
    subst (λ (state : State). (state_of limits history).moment ≤ state.moment) (sym (run-append history more (start limits)))
    (run_later more (state_of limits history)).kept.moment
