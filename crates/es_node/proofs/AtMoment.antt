-- States as a moment finds them: how early their own moment was is not seen any more.
use Rattle.std.proofs.Common.{◌≡◌, refl, sym, ap, ap₂, ◌∙◌, ℕ, ◌≤◌, max, [], ◌∷◌, arith}
use Rattle.std.specs.Prelude.{All}
use Rattle.std.proofs.lemmas.List.Elements.{All-head, All-tail}
use Rattle.list_machine.specs.declared.event.Entry.{Entry}
use Rattle.list_machine.specs.declared.event.Event.{Event}
use Rattle.list_machine.specs.declared.event.Event.TheVariants.{Quiet}
use Rattle.list_machine.specs.declared.event.Limits.{Limits}
use Rattle.list_machine.specs.State.{State}
use Rattle.list_machine.specs.Step.{at_moment, happen, step}
use Rattle.list_machine.specs.Run.{History, run, state_of}

-- the state after a history, as a moment finds it
abbrev pub state_at : Limits → History → ℕ → State
state_at limits history moment = at_moment (state_of limits history) moment

-- an earlier moment before it changes nothing
pub come_later : (state : State) (early late : ℕ) → early ≤ late → at_moment (at_moment state early) late ≡ at_moment state late
come_later state early late le =
    let same : max (max state.moment early) late ≡ max state.moment late = omega (arith, le) in
    ap (λ (moment : ℕ). let s : State = record state { moment = moment } in s) same

-- what two states have alike at a moment, they have alike later
pub alike_later : (one other : State) (early late : ℕ) → early ≤ late → at_moment one early ≡ at_moment other early
    → at_moment one late ≡ at_moment other late
alike_later one other early late le alike =
    sym (come_later one early late le) ∙ (ap (λ (s : State). at_moment s late) alike ∙ come_later other early late le)

abbrev pub IsQuietAt : ℕ → Entry → Type 0
IsQuietAt moment entry = (entry.event ≡ Quiet) × (entry.moment ≡ moment)

-- Quiets of a moment leave what that moment finds
pub quiets_pass : (moment : ℕ) (more : History) (state : State) → All (IsQuietAt moment) more
    → at_moment (run state more) moment ≡ at_moment state moment
quiets_pass moment [] state all = refl
quiets_pass moment (entry ∷ more) state all =
    let head = All-head (IsQuietAt moment) entry more all in
    let one : (step state entry).0 ≡ at_moment state moment
    = ap₂ (λ (m : ℕ) (e : Event). (happen (at_moment state m) e).0) head.1 head.0 in
    quiets_pass moment more (step state entry).0 (All-tail (IsQuietAt moment) entry more all)
    ∙ (ap (λ (s : State). at_moment s moment) one ∙ come_later state moment moment (omega arith))
