-- The journal of a service with one caller.
use Rattle.std.proofs.Common.{◌≡◌, MatchResult, Result, Ok, Err, refl, sym, ap, subst, ◌∙◌, inl, inr, ℕ, ◌+◌, ◌<◌, ◌≤◌, max, List, [], ◌∷◌, ◌++◌, length, filter, Bool, true, cond, arith, length-append}
use Rattle.std.specs.Prelude.{IfOk, OnOk, OnErr, count_by, ◌≢◌, ◌==◌}
use Rattle.std.proofs.lemmas.Bool.Decides.{nat_tests}
use Rattle.std.proofs.lemmas.List.{append-nil, length-map, map_push}
use Rattle.std.proofs.lemmas.List.Sums.{length-filter}
use Rattle.std.proofs.lemmas.List.Elements.{All-nil, All-cons, All-append, All-map, filter_passes}
use Rattle.es_types.specs.declared.limits.TheConstants.{MOST_ENTRIES}
use Rattle.list_machine.specs.declared.event.Entry.{Entry}
use Rattle.list_machine.specs.declared.event.Event.{Event}
use Rattle.list_machine.specs.declared.event.Event.TheVariants.{Create, Write, Seal, Publish, OpenPit, Search, Close, Quiet}
use Rattle.list_machine.specs.declared.event.Change.TheVariants.{Put, Remove}
use Rattle.list_machine.specs.declared.event.Limits.{Limits}
use Rattle.list_machine.specs.declared.event.Reply.{Reply}
use Rattle.list_machine.specs.declared.event.Reply.TheVariants.{Spent}
use Rattle.context_book.specs.declared.context.Context.{Context as Kept}
use Rattle.context_book.specs.Books.{lives, seen}
use Rattle.list_machine.specs.State.{Context, State, is_live, live_contexts, start}
use Rattle.list_machine.specs.Run.{History, reply_of, state_of, IsBounded, PutsObject}
use Rattle.list_machine.proofs.Beyond.{filter_all}
use Rattle.list_machine.proofs.Runs.{run-append}
use Rattle.list_machine.specs.Serving.{Adds, Asked, Beside, GrowsBeside, IsAskable, IsKept, MayHaveAsked, asked, asking, besides}
use Rattle.es_core.specs.declared.node.Core.{Core}
use Rattle.es_core.specs.declared.turned.Turned.{Turned}
use Rattle.es_core.specs.declared.turned.Chore.TheVariants.{Reap}
use Rattle.es_core.specs.Contexts.{contexts_seen, left_by}
use Rattle.es_core.specs.Plans.{turned_reply}
use Rattle.es_core.specs.Stands.{Rests, Stands, StandsOn}
use Rattle.es_node.specs.Solo.{Advances, IsOwn, IsRunning, Tidies, entries, rest}
use Rattle.es_rest.proofs.Talks.{grows_not}
use Rattle.std.specs.declared.snapshot.Snapshot.{Snapshot}

-- as many entries as the journal has
pub entries_count : (journal : List (Snapshot Entry)) → length (entries journal) ≡ length journal
entries_count journal = length-map journal (λ (it : Snapshot Entry). it.value)

-- one more
pub entries_more : (journal : List (Snapshot Entry)) (it : Snapshot Entry) (entry : Entry) → it.value ≡ entry → entries (journal ++ it ∷ []) ≡ entries journal ++ entry ∷ []
entries_more journal it entry is =
    map_push (λ (s : Snapshot Entry). s.value) journal it ∙ ap (λ (e : Entry). entries journal ++ e ∷ []) is

-- what may be asked puts objects alone
pub askable_object : (limits : Limits) (history : History) (event : Event) → IsAskable limits history event → PutsObject event
askable_object limits history (Create index shards mapping) h = tt
askable_object limits history (Write index id (Put doc)) h = h
askable_object limits history (Write index id Remove) h = tt
askable_object limits history (Seal index) h = tt
askable_object limits history (Publish index shard upto) h = tt
askable_object limits history (OpenPit index keep) h = tt
askable_object limits history (Search target request) h = tt
askable_object limits history (Close which) h = tt
askable_object limits history Quiet h = absurd h

-- and is within bounds
pub askable_bounded : (limits : Limits) (history : History) (event : Event) → IsAskable limits history event → IsBounded event
askable_bounded limits history (Create index shards mapping) h = h
askable_bounded limits history (Write index id change) h = tt
askable_bounded limits history (Seal index) h = tt
askable_bounded limits history (Publish index shard upto) h = tt
askable_bounded limits history (OpenPit index keep) h = tt
askable_bounded limits history (Search target request) h = h
askable_bounded limits history (Close which) h = tt
askable_bounded limits history Quiet h = absurd h

-- the history is full
pub spent : (limits : Limits) (moment : ℕ) (event : Event) (history : History) → IsKept limits history
    → limits.entries ≤ length history → Asked limits 0 4 history history (asked 0 moment event) Spent
spent limits moment event history kept full =
    inr (record { beside = grows_not 0 4 moment history; full = omega (arith, kept.room, full); is = refl })

-- the entry that was asked stands at the end
abbrev adds_one : (moment : ℕ) (event : Event) (history new : History) → new ≡ history ++ asked 0 moment event ∷ [] → Adds 0 4 history new (asked 0 moment event)
adds_one moment event history new is = record {
  before = [];
  after = [];
  grows = is ∙ ap (λ (l : History). l ++ asked 0 moment event ∷ []) (sym (append-nil history));
  beside = record { none_asked = All-nil _; quiet = All-nil _; few = omega arith };
}

-- and this is the reply to it
added : (limits : Limits) (moment : ℕ) (event : Event) (history new : History) (reply : Reply)
    → new ≡ history ++ asked 0 moment event ∷ [] → reply ≡ reply_of limits history (asked 0 moment event)
    → Asked limits 0 4 history new (asked 0 moment event) reply
added limits moment event history new reply is said =
    inl (record {
      adds = adds_one moment event history new is;
      is = said ∙ ap (λ (l : History). reply_of limits l (asked 0 moment event)) (sym (append-nil history));
    })

-- there is room for one more
room_left : (limits : Limits) (history : History) → IsKept limits history → length history < limits.entries
    → length history < MOST_ENTRIES
room_left limits history kept room = omega (arith, kept.bounded, room)

-- what the answer to a turn of the core says of the history: where its plan finds no memory, the entry stands
pub answered : (limits : Limits) (moment : ℕ) (event : Event) (old new : Core) (history now : History) (turned : Turned)
    {E : Type 0} (r : Result Reply E)
    → IsRunning limits old history → length history < limits.entries → Advances old new (asked 0 moment event) turned
    → now ≡ history ++ asked 0 moment event ∷ [] → IfOk r (λ reply. reply ≡ turned_reply turned)
    → MatchResult r (λ reply. Asked limits 0 4 history now (asked 0 moment event) reply)
    (λ _. MayHaveAsked 0 4 history now (asked 0 moment event))
answered limits moment event old new history now turned (Ok reply) running room advances is says =
    added limits moment event history now reply is
    (says ∙ (advances limits history running.stands (room_left limits history running.kept room)).1)
answered limits moment event old new history now turned (Err e) running room advances is says = inl (adds_one moment event history now is)

-- one entry more
grown : (limits : Limits) (entry : Entry) (old new : Core) (history : History) → IsRunning limits old history
    → length history < limits.entries → PutsObject entry.event → IsOwn entry
    → Stands limits new (history ++ entry ∷ []) → IsRunning limits new (history ++ entry ∷ [])
grown limits entry old new history running room object own stands =
    record {
      stands = stands;
      kept = record {
        some = running.kept.some;
        bounded = running.kept.bounded;
        room = omega (arith, length-append history (entry ∷ []), room);
        objects = All-append (λ (e : Entry). PutsObject e.event) history (entry ∷ []) running.kept.objects
            (All-cons (λ (e : Entry). PutsObject e.event) entry [] object (All-nil (λ (e : Entry). PutsObject e.event)));
      };
      own = All-append IsOwn history (entry ∷ []) running.own (All-cons IsOwn entry [] own (All-nil IsOwn));
    }

-- none more
stayed : (limits : Limits) (old new : Core) (history now : History) → IsRunning limits old history → StandsOn old new
    → now ≡ history → IsRunning limits new now
stayed limits old new history now running same stays =
    subst (λ (l : History). IsRunning limits new l) (sym stays)
    (record { stands = same limits history running.stands; kept = running.kept; own = running.own })

-- the service goes on, whether the step was taken or memory ran out
pub runs_on : (limits : Limits) (moment : ℕ) (event : Event) (old new : Core) (history now : History)
    {E : Type 0} (r : Result Turned E)
    → IsRunning limits old history → length history < limits.entries
    → PutsObject event → IfOk r (Advances old new (asked 0 moment event))
    → IfOk r (λ _. now ≡ history ++ asked 0 moment event ∷ [])
    → OnErr r (StandsOn old new) → OnErr r (now ≡ history) → IsRunning limits new now
runs_on limits moment event old new history now (Ok turned) running room object advances grows same stays =
    subst (λ (l : History). IsRunning limits new l) (sym grows)
    (grown limits (asked 0 moment event) old new history running room object (inl refl)
    (advances limits history running.stands (room_left limits history running.kept room)).0)
runs_on limits moment event old new history now (Err e) running room object advances grows same stays =
    stayed limits old new history now running same stays

-- ---- tidying

-- and after it, too
pub rests_on : (limits : Limits) (moment : ℕ) (old new : Core) (history now : History) {E : Type 0} (r : Result (Unit {0}) E)
    → IsRunning limits old history → length history < limits.entries
    → OnOk r (Rests old new moment) → OnOk r (now ≡ history ++ rest moment ∷ []) → OnErr r (StandsOn old new)
    → OnErr r (now ≡ history) → IsRunning limits new now
rests_on limits moment old new history now (Ok done) running room rests grows same stays =
    subst (λ (l : History). IsRunning limits new l) (sym grows)
    (grown limits (rest moment) old new history running room tt (inr (refl, refl))
    (rests limits history 1 running.stands (room_left limits history running.kept room)))
rests_on limits moment old new history now (Err e) running room rests grows same stays =
    stayed limits old new history now running same stays

-- one Quiet besides what was asked
beside_one : (most moment : ℕ) → Beside 0 (4 + most) moment (rest moment ∷ [])
beside_one most moment =
    let entry = rest moment in
    let one : count_by (λ (e : Entry). e.who == besides 0) (entry ∷ []) ≡ 1 = refl in
    record {
      none_asked = All-cons (λ (e : Entry). e.who ≢ asking 0) entry [] (λ same. absurd (omega (arith, same)))
          (All-nil (λ (e : Entry). e.who ≢ asking 0));
      quiet = All-cons (λ (e : Entry). e.who ≡ besides 0 → (e.event ≡ Quiet) × (e.moment ≡ moment)) entry [] (λ by. (refl, refl))
          (All-nil (λ (e : Entry). e.who ≡ besides 0 → (e.event ≡ Quiet) × (e.moment ≡ moment)));
      few = omega (arith, one);
    }

pub rests_once : (moment : ℕ) (history now : History) {E : Type 0} (r : Result (Unit {0}) E)
    → OnOk r (now ≡ history ++ rest moment ∷ []) → OnErr r (now ≡ history) → Tidies moment history now
rests_once moment history now (Ok done) grows stays = inl grows
rests_once moment history now (Err e) grows stays = inr stays

pub rests_beside : (most moment : ℕ) (history now : History) {E : Type 0} (r : Result (Unit {0}) E)
    → OnOk r (now ≡ history ++ rest moment ∷ []) → OnErr r (now ≡ history) → GrowsBeside 0 (4 + most) moment history now
rests_beside most moment history now (Ok done) grows stays =
    record { more = rest moment ∷ []; grows = grows; beside = beside_one most moment }
rests_beside most moment history now (Err e) grows stays =
    subst (λ (l : History). GrowsBeside 0 (4 + most) moment history l) (sym stays) (grows_not 0 (4 + most) moment history)

-- ---- the contexts that the book holds

-- each is live at the first moment
live_first : (context : Kept) → is_live 0 (seen context) ≡ true
live_first context = grind (arith, nat_tests)

-- so where none is, there is none
no_contexts : (contexts : List Kept) → filter (is_live 0) (contexts_seen contexts) ≡ [] → length contexts ≡ 0
no_contexts [] none = refl
no_contexts (context ∷ contexts) none =
    let rest : List Context = filter (is_live 0) (contexts_seen contexts) in
    let shown : filter (is_live 0) (contexts_seen (context ∷ contexts)) ≡ seen context ∷ rest = ap (λ (b : Bool). cond b (seen context ∷ rest) rest) (live_first context) in
    let both : seen context ∷ rest ≡ [] = sym shown ∙ none in
    cc

pub none_kept : (limits : Limits) (core : Core) → Stands limits core [] → length core.book.contexts ≡ 0
none_kept limits core stands = no_contexts core.book.contexts (stands.contexts 0 (omega arith))

-- those that are left as they are live, the machine has as live
left_live : (moment : ℕ) (contexts : List Kept) → length (filter (is_live moment) (contexts_seen (filter (lives moment) contexts))) ≡ length (filter (lives moment) contexts)
left_live moment contexts =
    let left = filter (lives moment) contexts in
    ap (λ (l : List Context). length l) (filter_all (is_live moment) (contexts_seen left)
    (All-map (λ (it : Context). is_live moment it ≡ true) seen left (filter_passes (lives moment) contexts)))
    ∙ length-map left seen

-- a tidying goes on to its moment, where that is later
moment_after : (limits : Limits) (history : History) (moment : ℕ)
    → (state_of limits (history ++ rest moment ∷ [])).moment ≡ max (state_of limits history).moment moment
moment_after limits history moment = ap (λ (s : State). s.moment) (run-append history (rest moment ∷ []) (start limits))

-- a book that holds what a reaping left holds as many as are live
reaped : (limits : Limits) (moment : ℕ) (old new : Core) (history now : History) → IsRunning limits old history
    → length history < limits.entries → Rests old new moment
    → new.book.contexts ≡ left_by Reap (max old.moment moment) old.book.contexts → now ≡ history ++ rest moment ∷ []
    → length new.book.contexts ≡ live_contexts (state_of limits now)
reaped limits moment old new history now running room rests left grows =
    let after = history ++ rest moment ∷ [] in
    let state = state_of limits after in
    let at : state.moment ≡ max old.moment moment
    = moment_after limits history moment ∙ ap (λ (m : ℕ). max m moment) (sym running.stands.moment) in
    let stands : Stands limits new after = rests limits history 1 running.stands (room_left limits history running.kept room) in
    let book : new.book.contexts ≡ filter (lives state.moment) old.book.contexts
    = left ∙ ap (λ (m : ℕ). filter (lives m) old.book.contexts) (sym at) in
    let live : length (filter (is_live state.moment) (contexts_seen new.book.contexts)) ≡ length new.book.contexts
    = subst (λ (l : List Kept). length (filter (is_live state.moment) (contexts_seen l)) ≡ length l) (sym book)
    (left_live state.moment old.book.contexts) in
    let same : length (filter (is_live state.moment) (contexts_seen new.book.contexts)) ≡ live_contexts state
    = ap (λ (l : List Context). length l) (stands.contexts state.moment (omega arith))
    ∙ length-filter (is_live state.moment) state.contexts in
    sym live ∙ (same ∙ ap (λ (l : History). live_contexts (state_of limits l)) (sym grows))

-- and so does the service, where the tidying came to its end
pub reaps : (limits : Limits) (moment : ℕ) (old new : Core) (history now : History) {E : Type 0} (r : Result (Unit {0}) E)
    → IsRunning limits old history → length history < limits.entries → OnOk r (Rests old new moment)
    → OnOk r (new.book.contexts ≡ left_by Reap (max old.moment moment) old.book.contexts)
    → OnOk r (now ≡ history ++ rest moment ∷ [])
    → OnOk r (length now < limits.entries → length new.book.contexts ≡ live_contexts (state_of limits now))
reaps limits moment old new history now (Ok done) running room rests left grows =
    λ fits. reaped limits moment old new history now running room rests left grows
reaps limits moment old new history now (Err e) running room rests left grows = tt
