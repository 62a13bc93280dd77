-- Requests and their responses in turn.
use Rattle.std.proofs.Common.{◌≡◌, refl, sym, ap, subst, inl, inr, ⊎_elim, ◌⊎◌, ℕ, ◌+◌, ◌*◌, Bool, true, List, [], Option, Some, None, IfSome, Result}
use Rattle.std.specs.Result.{is_ok}
use Rattle.std.proofs.lemmas.List.{append-nil}
use Rattle.http_wire.specs.declared.wire.WireEnd.{WireEnd}
use Rattle.http_wire.specs.Stream.{Wrote, WroteSome}
use Rattle.list_machine.specs.Serving.{Call, GrowsBeside, applied}
use Rattle.es_rest.specs.declared.connection.ConnEnd.{ConnEnd}
use Rattle.es_rest.specs.declared.connection.ConnEnd.TheVariants as end
use Rattle.reply_json.specs.Replies.{text}
use Rattle.es_rest.specs.Headline.{last_words}
use Rattle.es_rest.specs.Exchanges.{Aims, Answered, Closed, Exchanged, WroteBy, words_text}
use Rattle.http_wire.specs.declared.request.Request.{Request}
use Rattle.list_machine.specs.declared.event.Limits.{Limits}
use Rattle.list_machine.specs.Run.{History, state_of}
use Rattle.reply_json.specs.declared.response.Response.{Response}
use Rattle.reply_json.specs.declared.response.Response.TheVariants.{Fault}
use Rattle.reply_json.specs.declared.fault.RestFault.TheVariants.{NoMemory}
use Rattle.es_rest.specs.Talk.{Responds, Tended}

-- a response that could not be printed is the one that memory ran out
pub wants_instead : (limits : Limits) (seat moment : ℕ) (old new : History) (request : Request) (response : Response)
    → Responds limits seat moment old new request response → Responds limits seat moment old new request (Fault NoMemory)
wants_instead limits seat moment old new request response h =
    ⊎_elim
    (λ fault. inr (inr (record { asked = inl fault.same; is = refl })))
    (λ other. ⊎_elim
    (λ done. inr (inr (record {
      asked = inr (record {
        ask = done.ask;
        route = done.route;
        interrupted = record { part = done.conversation.part; mid = new; talks = done.conversation.talks; rest = inl refl };
      });
      is = refl;
    })))
    (λ wants. inr (inr (record { asked = wants.asked; is = refl })))
    other)
    h

-- nothing is written
pub wrote_none : (written : Option (List ℕ)) → Wrote written written []
wrote_none None = tt
wrote_none (Some w) = ap Some (sym (append-nil w))

-- an end without words
pub closed_silent : (written : Option (List ℕ)) (wire : WireEnd) (aim : ConnEnd) → Aims wire aim → last_words aim ≡ [] → Closed written written wire aim
closed_silent written wire aim aims silent =
    record { aim = aim; aims = aims; wrote = inl (refl, subst (λ (words : List ℕ). Wrote written written words) (sym silent) (wrote_none written)) }

-- an end with its words
pub closed_with : (written now : Option (List ℕ)) (wire : WireEnd) (aim result : ConnEnd) (words : List ℕ) → Aims wire aim → words ≡ last_words aim
    → ((result ≡ aim) × Wrote written now words) ⊎ ((result ≡ end.WriteFault) × WroteSome written now words) → Closed written now wire result
closed_with written now wire aim result words aims said wrote =
    let P : List ℕ → Type 0 = λ w. ((result ≡ aim) × Wrote written now w) ⊎ ((result ≡ end.WriteFault) × WroteSome written now w) in
    record { aim = aim; aims = aims; wrote = subst P said wrote }

-- a response with its text, or the one that memory ran out
pub answered_by : (limits : Limits) (seat moment : ℕ) (old new : History) (request : Request) (response : Response) (made : Option (List ℕ))
    → Responds limits seat moment old new request response → IfSome made (λ bytes. bytes ≡ text response request.last)
    → Answered limits seat moment old new request (words_text made request.last)
answered_by limits seat moment old new request response None h some =
    record { response = Fault NoMemory; responds = wants_instead limits seat moment old new request response h; words_are = refl }
answered_by limits seat moment old new request response (Some bytes) h some = record { response = response; responds = h; words_are = some }

-- after a response that was written whole: the tidying by other names of its seat and limits
pub tended_by : (helped tidied : Call) (limits other : Limits) (seat others moment : ℕ) (written : Bool) (old between new : History) → written ≡ true → other ≡ limits → others ≡ seat
    → helped moment old between → GrowsBeside seat 4 moment old between
    → tidied moment between new → GrowsBeside others (4 + 2 * applied (state_of other between)) moment between new
    → Tended helped tidied limits seat moment written old new
tended_by helped tidied limits other seat others moment written old between new is l s help helps tidy tidies =
    subst (λ (b : Bool). Tended helped tidied limits seat moment b old new) (sym is)
    (record {
      between = between;
      help = help;
      helps = helps;
      tidy = tidy;
      tidies = subst (λ (k : Limits). GrowsBeside seat (4 + 2 * applied (state_of k between)) moment between new) l
          (subst (λ (t : ℕ). GrowsBeside t (4 + 2 * applied (state_of other between)) moment between new) s tidies);
    })

-- a request, its response, and what goes with it by other names of its seat and limits
pub exchanged_by : (helped tidied : Call) (limits other : Limits) (seat others moment : ℕ) (front mid after : History) (request : Request) (words : List ℕ) (written now : Option (List ℕ)) {E : Type 0} (result : Result (Unit {0}) E) (whole : Bool)
    → other ≡ limits → others ≡ seat → Answered limits seat moment front mid request words → WroteBy written now words result
    → whole ≡ is_ok result → Tended helped tidied other others moment whole mid after
    → Exchanged helped tidied limits seat moment front after request written now result
exchanged_by helped tidied limits other seat others moment front mid after request words written now {E} result whole l s answered wrote marked tended =
    let h : Tended helped tidied limits seat moment whole mid after
    = subst (λ (k : Limits). Tended helped tidied k seat moment whole mid after) l (subst (λ (t : ℕ). Tended helped tidied other t moment whole mid after) s tended) in
    record {
      x = record { request = request; moment = moment; response = answered.response; written = whole };
      request_is = refl;
      moment_is = refl;
      written_is = marked;
      served = record { answered = mid; responds = answered.responds; tended = h };
      wrote = subst (λ (w : List ℕ). WroteBy written now w result) answered.words_are wrote;
    }

-- the same exchange by other names of the seat and the limits
pub exchanged_as : {helped tidied : Call} {limits other : Limits} {seat others : ℕ} → other ≡ limits → others ≡ seat → (moment : ℕ) (front after : History) (request : Request) (written now : Option (List ℕ)) {E : Type 0} (result : Result (Unit {0}) E)
    → Exchanged helped tidied other others moment front after request written now result → Exchanged helped tidied limits seat moment front after request written now result
exchanged_as {helped} {tidied} {limits} {other} {seat} {others} l s moment front after request written now {E} result h =
    subst (λ (k : Limits). Exchanged helped tidied k seat moment front after request written now result) l (subst (λ (t : ℕ). Exchanged helped tidied other t moment front after request written now result) s h)
