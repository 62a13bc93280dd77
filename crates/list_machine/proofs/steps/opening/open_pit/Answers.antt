use Rattle.std.proofs.Common.{◌≡◌, ◌≢◌, ℕ, ◌+◌, List, [], ◌∷◌, ◌++◌, ap, sym, ◌∙◌, arith}
use Rattle.std.specs.List.{count_by}
use Rattle.std.proofs.lemmas.List.{map-append}
use Rattle.list_machine.specs.declared.event.Reply.{Reply}
use Rattle.list_machine.specs.declared.event.Reply.TheVariants.{Opened}
use Rattle.list_machine.specs.State.{Context, State, is_live, live_contexts, pit, view_of}
use Rattle.list_machine.specs.Step.{open_pit}
use Rattle.list_machine.specs.Seen.Stores.{context_seen, contexts_seen, index_seen, state_seen}
use Rattle.list_machine.proofs.ContextLemmas.{open_full, open_opens}
use Rattle.list_machine.proofs.IndexLemmas.{found_at, index_of-none, some_index}
use Rattle.list_machine.proofs.steps.opening.open_pit.Goals as goal

pub returns-in_default-clause-ok : goal.returns-in_default-clause-ok
returns-in_default-clause-ok c =
    let seen : State = record (state_seen c.args.store.now) { moment = c.args.moment } in
    ap (λ found. open_pit seen c.args.keep.now found)
    (index_of-none index_seen c.args.name.now c.args.store.now.indexes.items c.deref.result.now c.place_of.result c.deref.ensures.value c.place_of.ensures c.in_default.is)

pub returns-then-live_contexts-limit-clause-ok : goal.returns-then-live_contexts-limit-clause-ok
returns-then-live_contexts-limit-clause-ok c =
    let store = c.args.store.now in
    let seen : State = record (state_seen store) { moment = c.args.moment } in
    let some = some_index index_seen c.args.name.now store.indexes.items c.deref.result.now c.in-Some.at c.place_of.result
    c.deref.ensures.value c.place_of.ensures c.in-Some.is in
    let full : live_contexts seen ≡ seen.limits.pits =
    sym (c.live_contexts.ensures ∙ ap (λ contexts. count_by (is_live c.args.moment) (contexts_seen contexts)) c.deref-2.ensures.value)
    ∙ c.if-live_contexts-limit.true in
    ap (λ found. open_pit seen c.args.keep.now found) some.1
    ∙ open_full seen c.args.keep.now some.0 full

pub returns-clause-ok : goal.returns-clause-ok
returns-clause-ok c =
    let store = c.args.store.now in
    let index = c.index.result.now in
    let seen : State = record (state_seen store) { moment = c.args.moment } in
    let found = found_at index_seen c.args.name.now store.indexes.items c.deref.result.now c.in-Some.at index c.place_of.result
    c.deref.ensures.value c.place_of.ensures c.in-Some.is c.index.ensures in
    let count : c.live_contexts.result ≡ live_contexts seen =
    c.live_contexts.ensures ∙ ap (λ contexts. count_by (is_live c.args.moment) (contexts_seen contexts)) c.deref-2.ensures.value in
    let room : live_contexts seen ≢ seen.limits.pits = λ full. c.if-live_contexts-limit.false (count ∙ full) in
    let expiry : c.millis.result + c.millis-2.result ≡ c.args.moment + c.args.keep.now = omega arith in
    let made : ℕ → Context = λ at. pit store.next (view_of (index_seen index)) at in
    let contexts : contexts_seen c.push.new.self.items ≡ contexts_seen store.contexts.items ++ made (c.args.moment + c.args.keep.now) ∷ [] =
    ap contexts_seen c.in_ok-push.ensures.items
    ∙ map-append context_seen store.contexts.items (c.in_ok-context.context ∷ [])
    ∙ ap (λ (it : Context). contexts_seen store.contexts.items ++ it ∷ []) (c.in_ok-context.ensures ∙ ap made expiry) in
    let replied : List Context → State × Reply = λ them. (record seen { next = store.next + 1; contexts = them }, Opened store.next) in
    ap (λ it. open_pit seen c.args.keep.now it) found.there
    ∙ open_opens seen c.args.keep.now (index_seen index) room
    ∙ ap replied (sym contexts)
