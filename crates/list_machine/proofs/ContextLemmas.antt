-- The contexts: the one of a number, what a search of it is answered, and a new one.
use Rattle.std.proofs.Common.{◌≡◌, ◌≢◌, ℕ, Bool, true, false, cond, eqb, List, [], ◌∷◌, Option, Some, refl, sym, ap, ◌∙◌, arith}
use Rattle.std.specs.List.{find}
use Rattle.std.specs.Option.{option_map}
use Rattle.list_machine.specs.declared.event.Reply.{Reply}
use Rattle.list_machine.specs.declared.event.Reply.TheVariants.{Missing, Opened, TooMany}
use Rattle.list_machine.specs.declared.page.request.SearchRequest.{SearchRequest}
use Rattle.list_machine.specs.declared.context.ContextStore.{ContextStore}
use Rattle.list_machine.specs.State.{Index, State, context_of, is_live, live_contexts}
use Rattle.list_machine.specs.Step.{open_pit, search_reply}
use Rattle.list_machine.specs.Seen.Stores.{context_seen, contexts_seen, reply_at, view_seen}
use Rattle.list_machine.proofs.Moves.{opened}

-- the context of a number among those that are seen
context_of-seen : (number : ℕ) (stores : List ContextStore)
    → context_of number (contexts_seen stores) ≡ option_map context_seen (find (λ (context : ContextStore). eqb context.number number) stores)
context_of-seen number [] = refl
context_of-seen number (store ∷ stores) =
    elim (eqb store.number number) as (λ b. cond b (Some (context_seen store)) (context_of number (contexts_seen stores))
    ≡ option_map context_seen (cond b (Some store) (find (λ (context : ContextStore). eqb context.number number) stores)))
    [ true ↦ refl | false ↦ context_of-seen number stores ]

-- what the look-up gave
pub context_of-is : (number : ℕ) (stores : List ContextStore) (copied : Option ContextStore)
    → copied ≡ find (λ (context : ContextStore). eqb context.number number) stores
    → context_of number (contexts_seen stores) ≡ option_map context_seen copied
context_of-is number stores copied is = context_of-seen number stores ∙ ap (option_map context_seen) (sym is)

-- a live context is searched
pub reply_live : (moment : ℕ) (request : SearchRequest) (context : ContextStore) (reply : Reply) → is_live moment (context_seen context) ≡ true
    → reply ≡ search_reply (view_seen context) request → reply ≡ reply_at moment request (Some (context_seen context))
reply_live moment request context reply live is =
    let chosen : Bool → Reply = λ b. cond b (search_reply (view_seen context) request) Missing in
    is ∙ sym (ap chosen live)

-- one that isn't is missing
pub reply_over : (moment : ℕ) (request : SearchRequest) (context : ContextStore) → is_live moment (context_seen context) ≡ false
    → Missing ≡ reply_at moment request (Some (context_seen context))
reply_over moment request context over =
    let chosen : Bool → Reply = λ b. cond b (search_reply (view_seen context) request) Missing in
    sym (ap chosen over)

-- where as many are live as may be, none is opened
pub open_full : (seen : State) (keep : ℕ) (index : Index) → live_contexts seen ≡ seen.limits.pits
    → open_pit seen keep (Some index) ≡ (seen, TooMany seen.limits.pits)
open_full seen keep index full =
    let chosen : Bool → State × Reply = λ b. cond b (seen, TooMany seen.limits.pits) (opened seen keep index, Opened seen.next) in
    let says : eqb (live_contexts seen) seen.limits.pits ≡ true = grind arith in
    ap chosen says

-- else one is opened
pub open_opens : (seen : State) (keep : ℕ) (index : Index) → live_contexts seen ≢ seen.limits.pits
    → open_pit seen keep (Some index) ≡ (opened seen keep index, Opened seen.next)
open_opens seen keep index room =
    let chosen : Bool → State × Reply = λ b. cond b (seen, TooMany seen.limits.pits) (opened seen keep index, Opened seen.next) in
    let says : eqb (live_contexts seen) seen.limits.pits ≡ false = grind arith in
    ap chosen says
