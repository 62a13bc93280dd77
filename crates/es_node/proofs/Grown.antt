-- Histories that grow by entries of one seat, and by Quiets next to them.
use Rattle.std.proofs.Common.{◌≡◌, refl, sym, ap, subst, ◌∙◌, ⊎_elim, ℕ, [], ◌∷◌, ◌++◌, length, arith, append_assoc, length-append}
use Rattle.std.specs.Prelude.{All, ◌≢◌}
use Rattle.std.proofs.lemmas.List.{append-nil}
use Rattle.std.proofs.lemmas.List.Elements.{All-nil, All-cons, All-head, All-tail}
use Rattle.list_machine.specs.declared.event.Entry.{Entry}
use Rattle.list_machine.specs.declared.event.Event.{Event}
use Rattle.list_machine.specs.declared.event.Reply.{Reply}
use Rattle.list_machine.specs.declared.event.Limits.{Limits}
use Rattle.list_machine.specs.State.{State, start}
use Rattle.list_machine.specs.Step.{at_moment, happen, step}
use Rattle.list_machine.specs.Run.{History, run, state_of}
use Rattle.list_machine.specs.Serving.{Asked, GrowsBeside, IsAnswered, asked, asking, besides}
use Rattle.list_machine.proofs.Runs.{run-append}
use Rattle.es_node.specs.Solo.{AreOwn, IsOwn}
use Rattle.es_node.specs.Repeats.{HasRoom}
use Rattle.es_node.proofs.AtMoment.{IsQuietAt, quiets_pass, state_at}

-- ---- growing

abbrev pub Grew : History → History → Type 0
Grew old new = (more : History) × (new ≡ old ++ more)

pub grew_not : (old new : History) → new ≡ old → Grew old new
grew_not old new same = ([], same ∙ sym (append-nil old))

pub grew_on : (old mid new : History) → Grew old mid → Grew mid new → Grew old new
grew_on old mid new first second =
    (first.0 ++ second.0, second.1 ∙ ap (λ (l : History). l ++ second.0) first.1 ∙ append_assoc old first.0 second.0)

pub beside_grew : (seat most moment : ℕ) (old new : History) → GrowsBeside seat most moment old new → Grew old new
beside_grew seat most moment old new h = (h.more, h.grows)

pub asked_grew : (limits : Limits) (old new : History) (entry : Entry) (reply : Reply) → Asked limits 0 4 old new entry reply
    → Grew old new
asked_grew limits old new entry reply was =
    ⊎_elim
    (λ answered. (
      answered.adds.before ++ entry ∷ answered.adds.after,
      answered.adds.grows ∙ append_assoc old answered.adds.before (entry ∷ answered.adds.after),
    ))
    (λ spent. beside_grew 0 4 entry.moment old new spent.beside)
    was

-- ---- by entries of one seat, with room left

all_front : (P : Entry → Type 0) (xs ys : History) → All P (xs ++ ys) → All P xs
all_front P [] ys h = All-nil P
all_front P (x ∷ xs) ys h = All-cons P x xs (All-head P x (xs ++ ys) h) (all_front P xs ys (All-tail P x (xs ++ ys) h))

all_back : (P : Entry → Type 0) (xs ys : History) → All P (xs ++ ys) → All P ys
all_back P [] ys h = h
all_back P (x ∷ xs) ys h = all_back P xs ys (All-tail P x (xs ++ ys) h)

pub record Fits (limits : Limits) (history : History) : Type 0 where
  pub own : AreOwn history
  pub room : HasRoom limits history

-- what fits did so before it grew
pub fits_before : (limits : Limits) (old new : History) → Grew old new → Fits limits new → Fits limits old
fits_before limits old new grew fits =
    let long : length new ≡ length (old ++ grew.0) = ap (λ (l : History). length l) grew.1 in
    record {
      own = all_front IsOwn old grew.0 (subst AreOwn grew.1 fits.own);
      room = omega (arith, long, length-append old grew.0, fits.room);
    }

-- ---- what stands next to it

abbrev IsNotAsked : Entry → Type 0
IsNotAsked entry = entry.who ≢ asking 0

abbrev IsQuietBeside : ℕ → Entry → Type 0
IsQuietBeside moment entry = entry.who ≡ besides 0 → IsQuietAt moment entry

-- entries of one seat that it did not ask for are Quiets of the moment
own_quiet : (moment : ℕ) (more : History) → AreOwn more → All IsNotAsked more → All (IsQuietBeside moment) more
    → All (IsQuietAt moment) more
own_quiet moment [] own none quiet = All-nil (IsQuietAt moment)
own_quiet moment (entry ∷ more) own none quiet =
    All-cons (IsQuietAt moment) entry more
    (⊎_elim
    (λ zero. absurd (All-head IsNotAsked entry more none zero))
    (λ one. All-head (IsQuietBeside moment) entry more quiet one.0)
    (All-head IsOwn entry more own))
    (own_quiet moment more (All-tail IsOwn entry more own) (All-tail IsNotAsked entry more none)
    (All-tail (IsQuietBeside moment) entry more quiet))

-- the state after a history that grew
run_on : (limits : Limits) (old more new : History) → new ≡ old ++ more → state_of limits new ≡ run (state_of limits old) more
run_on limits old more new grows = ap (state_of limits) grows ∙ run-append old more (start limits)

-- what grew besides leaves what the moment finds
pub beside_passes : (limits : Limits) (most moment : ℕ) (old new : History) → AreOwn new → GrowsBeside 0 most moment old new
    → state_at limits new moment ≡ state_at limits old moment
beside_passes limits most moment old new own h =
    let mine : AreOwn h.more = all_back IsOwn old h.more (subst AreOwn h.grows own) in
    ap (λ (s : State). at_moment s moment) (run_on limits old h.more new h.grows)
    ∙ quiets_pass moment h.more (state_of limits old) (own_quiet moment h.more mine h.beside.none_asked h.beside.quiet)

-- ---- what is asked

-- what an event makes of a history: the reply, and what the moment finds after it
pub record Comes (limits : Limits) (moment : ℕ) (old new : History) (event : Event) (reply : Reply) : Type 0 where
  pub reply_is : reply ≡ (happen (state_at limits old moment) event).1
  pub state_is : state_at limits new moment ≡ at_moment (happen (state_at limits old moment) event).0 moment

answered_comes : (limits : Limits) (moment : ℕ) (old new : History) (event : Event) (reply : Reply) → AreOwn new
    → IsAnswered limits 0 4 old new (asked 0 moment event) reply → Comes limits moment old new event reply
answered_comes limits moment old new event reply own h =
    let entry = asked 0 moment event in
    let before = h.adds.before in
    let after = h.adds.after in
    let beside = h.adds.beside in
    let grows : new ≡ old ++ (before ++ entry ∷ after) = h.adds.grows ∙ append_assoc old before (entry ∷ after) in
    let mine : AreOwn (before ++ entry ∷ after) = all_back IsOwn old (before ++ entry ∷ after) (subst AreOwn grows own) in
    let first : All (IsQuietAt moment) before = own_quiet moment before (all_front IsOwn before (entry ∷ after) mine)
    (all_front IsNotAsked before after beside.none_asked) (all_front (IsQuietBeside moment) before after beside.quiet) in
    let last : All (IsQuietAt moment) after
    = own_quiet moment after (All-tail IsOwn entry after (all_back IsOwn before (entry ∷ after) mine))
    (all_back IsNotAsked before after beside.none_asked) (all_back (IsQuietBeside moment) before after beside.quiet) in
    let mid = old ++ before in
    let found : state_at limits mid moment ≡ state_at limits old moment
    = ap (λ (s : State). at_moment s moment) (run_on limits old before mid refl)
    ∙ quiets_pass moment before (state_of limits old) first in
    let then : state_at limits new moment ≡ at_moment (step (state_of limits mid) entry).0 moment
    = ap (λ (s : State). at_moment s moment) (run_on limits mid (entry ∷ after) new h.adds.grows)
    ∙ quiets_pass moment after (step (state_of limits mid) entry).0 last in
    record {
      reply_is = h.is ∙ ap (λ (s : State). (happen s event).1) found;
      state_is = then ∙ ap (λ (s : State). at_moment (happen s event).0 moment) found;
    }

-- with room left it is answered
pub asked_comes : (limits : Limits) (moment : ℕ) (old new : History) (event : Event) (reply : Reply) → Fits limits new
    → Asked limits 0 4 old new (asked 0 moment event) reply → Comes limits moment old new event reply
asked_comes limits moment old new event reply fits was =
    ⊎_elim
    (λ answered. answered_comes limits moment old new event reply fits.own answered)
    (λ spent. absurd (omega (arith, spent.full, fits.room)))
    was
