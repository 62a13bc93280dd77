-- Two runs over the same requests give the same responses, whatever Quiets stand between what was asked.
use Rattle.std.proofs.Common.{◌≡◌, refl, sym, ap, ap₂, subst, ◌∙◌, ⊎_elim, Bool, true, false, ℕ, ◌+◌, ◌*◌, List, [], ◌∷◌, None, Result, Ok, Err}
use Rattle.std.specs.Prelude.{◌≢◌}
use Rattle.std.proofs.lemmas.List.Elements.{All-head, All-tail}
use Rattle.std.proofs.lemmas.Option.{same_Some, none-some}
use Rattle.http_wire.specs.declared.request.Request.{Request}
use Rattle.list_machine.specs.declared.event.Event.{Event}
use Rattle.list_machine.specs.declared.event.Reply.{Reply}
use Rattle.list_machine.specs.declared.event.Limits.{Limits}
use Rattle.list_machine.specs.State.{State}
use Rattle.list_machine.specs.Step.{at_moment, happen}
use Rattle.list_machine.specs.Run.{History, state_of}
use Rattle.list_machine.specs.Serving.{Asked, applied, asked}
use Rattle.es_route.specs.declared.ask.Ask.{Ask}
use Rattle.reply_json.specs.declared.fault.RestFault.{RestFault}
use Rattle.reply_json.specs.declared.fault.RestFault.TheVariants as fault
use Rattle.reply_json.specs.declared.response.Response.{Response}
use Rattle.reply_json.specs.declared.response.Response.TheVariants.{Fault}
use Rattle.es_rest.specs.Headline.{NeverFalls, requests_of}
use Rattle.es_node.specs.Repeats.{AnyCall, NeverWants, ServesAlone, moments_of, responses_of}
use Rattle.es_rest.specs.Scripts.{Part, Script, Talks}
use Rattle.es_rest.specs.Talk.{Conversation, Exchange, Responds, Served, Serves, Tended, response_of, script_of}
use Rattle.es_node.proofs.AtMoment.{alike_later, state_at}
use Rattle.es_node.proofs.Grown.{Fits, Grew, asked_comes, asked_grew, beside_grew, beside_passes, fits_before, grew_not, grew_on}

-- a moment finds one state after both histories
abbrev AreAlike : Limits → ℕ → History → History → Type 0
AreAlike limits moment one other = state_at limits one moment ≡ state_at limits other moment

-- where nothing was asked, both stay alike
stay_alike : (limits : Limits) (moment : ℕ) (old past new other : History) → AreAlike limits moment old past → new ≡ old
    → other ≡ past → AreAlike limits moment new other
stay_alike limits moment old past new other alike same too =
    ap (λ (l : History). state_at limits l moment) same ∙ (alike ∙ sym (ap (λ (l : History). state_at limits l moment) too))

-- ---- one conversation

-- asked after histories that are alike, an event is answered alike
asked_alike : (limits : Limits) (moment : ℕ) (old past new other : History) (event : Event) (reply said : Reply)
    → AreAlike limits moment old past
    → Fits limits new → Fits limits other → Asked limits 0 4 old new (asked 0 moment event) reply
    → Asked limits 0 4 past other (asked 0 moment event) said
    → AreAlike limits moment new other × (reply ≡ said)
asked_alike limits moment old past new other event reply said alike fits fit was is =
    let one = asked_comes limits moment old new event reply fits was in
    let two = asked_comes limits moment past other event said fit is in (
      one.state_is ∙ (ap (λ (s : State). at_moment (happen s event).0 moment) alike ∙ sym two.state_is),
      one.reply_is ∙ (ap (λ (s : State). (happen s event).1) alike ∙ sym two.reply_is),
    )

talks_grew : (limits : Limits) (moment : ℕ) (script : Script) (old new : History) (part : Part)
    → Talks limits 0 moment script old new part → Grew old new
talks_grew limits moment script old new [] same = grew_not old new same
talks_grew limits moment script old new (said ∷ part) talks =
    grew_on old talks.0 new (asked_grew limits old talks.0 (asked 0 moment said.0) said.1 talks.2)
    (talks_grew limits moment (λ rest. script (said ∷ rest)) talks.0 new part talks.3)

-- so is all of a script
talks_alike : (limits : Limits) (moment : ℕ) (script : Script) (old past new other : History) (part others : Part)
    → AreAlike limits moment old past
    → Fits limits new → Fits limits other → Talks limits 0 moment script old new part → script part ≡ None
    → Talks limits 0 moment script past other others → script others ≡ None → AreAlike limits moment new other × (part ≡ others)
talks_alike limits moment script old past new other [] [] alike fits fit t all u every =
    (stay_alike limits moment old past new other alike t u, refl)
talks_alike limits moment script old past new other [] (r ∷ others) alike fits fit t all u every =
    absurd (none-some r.0 (sym all ∙ u.1))
talks_alike limits moment script old past new other (s ∷ part) [] alike fits fit t all u every =
    absurd (none-some s.0 (sym every ∙ t.1))
talks_alike limits moment script old past new other (s ∷ part) (r ∷ others) alike fits fit t all u every =
    let event : r.0 ≡ s.0 = same_Some r.0 s.0 (sym u.1 ∙ t.1) in
    let is : Asked limits 0 4 past u.0 (asked 0 moment s.0) r.1
    = subst (λ (e : Event). Asked limits 0 4 past u.0 (asked 0 moment e) r.1) event u.2 in
    let first = asked_alike limits moment old past t.0 u.0 s.0 s.1 r.1 alike
    (fits_before limits t.0 new (talks_grew limits moment (λ rest. script (s ∷ rest)) t.0 new part t.3) fits)
    (fits_before limits u.0 other (talks_grew limits moment (λ rest. script (r ∷ rest)) u.0 other others u.3) fit) t.2 is in
    let said : r ≡ s = ap₂ (λ (e : Event) (y : Reply). let p : Event × Reply = (e, y) in p) event (sym first.1) in
    let rest : Talks limits 0 moment (λ more. script (s ∷ more)) u.0 other others
    = subst (λ (p : Event × Reply). Talks limits 0 moment (λ more. script (p ∷ more)) u.0 other others) said u.3 in
    let one = talks_alike limits moment (λ more. script (s ∷ more)) t.0 u.0 new other part others first.0 fits fit t.3 all
    rest (ap (λ (p : Event × Reply). script (p ∷ others)) (sym said) ∙ every) in (
      one.0,
      ap₂ (λ (p : Event × Reply) (l : Part). p ∷ l) (sym said) one.1,
    )

-- ---- one request

-- a response that needed no more memory says what became of the history
responds_grew : (limits : Limits) (moment : ℕ) (old new : History) (request : Request) (response : Response)
    → response ≢ Fault fault.NoMemory → Responds limits 0 moment old new request response → Grew old new
responds_grew limits moment old new request response ample h =
    ⊎_elim
    (λ refused. grew_not old new refused.same)
    (λ other. ⊎_elim
    (λ done. talks_grew limits moment (script_of done.ask) old new done.conversation.part done.conversation.talks)
    (λ wants. absurd (ample wants.is))
    other)
    h

same_ask : (r : Result Ask RestFault) (a b : Ask) → r ≡ Ok a → r ≡ Ok b → a ≡ b
same_ask r a b x y = cc

same_fault : (r : Result Ask RestFault) (a b : RestFault) → r ≡ Err a → r ≡ Err b → a ≡ b
same_fault r a b x y = cc

not_both : (r : Result Ask RestFault) (a : Ask) (b : RestFault) → r ≡ Ok a → r ≡ Err b → ⊥
not_both r a b x y = cc

converse_alike : (limits : Limits) (moment : ℕ) (ask : Ask) (old past new other : History) (response said : Response)
    → AreAlike limits moment old past → Fits limits new → Fits limits other
    → Conversation limits 0 moment ask old new response → Conversation limits 0 moment ask past other said
    → AreAlike limits moment new other × (response ≡ said)
converse_alike limits moment ask old past new other response said alike fits fit h k =
    let one = talks_alike limits moment (script_of ask) old past new other h.part k.part alike fits fit h.talks h.all k.talks
    k.all in
    (one.0, same_Some response said (sym h.is ∙ (ap (response_of ask) one.1 ∙ k.is)))

responds_alike : (limits : Limits) (moment : ℕ) (old past new other : History) (request : Request) (response said : Response)
    → AreAlike limits moment old past
    → response ≢ Fault fault.NoMemory → said ≢ Fault fault.NoMemory → Fits limits new → Fits limits other
    → Responds limits 0 moment old new request response → Responds limits 0 moment past other request said
    → AreAlike limits moment new other × (response ≡ said)
responds_alike limits moment old past new other request response said alike ample enough fits fit h k =
    ⊎_elim
    (λ refused. ⊎_elim
    (λ again. (
      stay_alike limits moment old past new other alike refused.same again.same,
      refused.is ∙ (ap Fault (same_fault _ refused.fault again.fault refused.route again.route) ∙ sym again.is),
    ))
    (λ rest. ⊎_elim
    (λ done. absurd (not_both _ done.ask refused.fault done.route refused.route))
    (λ wants. absurd (enough wants.is))
    rest)
    k)
    (λ most. ⊎_elim
    (λ done. ⊎_elim
    (λ refused. absurd (not_both _ done.ask refused.fault done.route refused.route))
    (λ rest. ⊎_elim
    (λ again. converse_alike limits moment done.ask old past new other response said alike fits fit done.conversation
    (subst (λ (a : Ask). Conversation limits 0 moment a past other said)
    (same_ask _ again.ask done.ask again.route done.route) again.conversation))
    (λ wants. absurd (enough wants.is))
    rest)
    k)
    (λ wants. absurd (ample wants.is))
    most)
    h

-- ---- requests in turn

abbrev HadMemory : Exchange → Type 0
HadMemory x = x.response ≢ Fault fault.NoMemory

tended_grew : (limits : Limits) (moment : ℕ) (written : Bool) (old new : History) → Tended AnyCall AnyCall limits 0 moment written old new → Grew old new
tended_grew limits moment true old new h =
    grew_on old h.between new (beside_grew 0 4 moment old h.between h.helps)
    (beside_grew 0 (4 + 2 * applied (state_of limits h.between)) moment h.between new h.tidies)
tended_grew limits moment false old new same = grew_not old new same

served_grew : (limits : Limits) (old new : History) (x : Exchange) → HadMemory x → Served AnyCall AnyCall limits 0 old new x → Grew old new
served_grew limits old new x ample h =
    grew_on old h.answered new (responds_grew limits x.moment old h.answered x.request x.response ample h.responds)
    (tended_grew limits x.moment x.written h.answered new h.tended)

serves_grew : (limits : Limits) (old new : History) (served : List Exchange) → NeverWants served → Serves AnyCall AnyCall limits 0 old new served
    → Grew old new
serves_grew limits old new [] ample same = grew_not old new same
serves_grew limits old new (x ∷ served) ample h =
    grew_on old h.0 new (served_grew limits old h.0 x (All-head HadMemory x served ample) h.1)
    (serves_grew limits h.0 new served (All-tail HadMemory x served ample) h.2)

-- help and tidying leave what the moment finds
tidied : (limits : Limits) (moment : ℕ) (written : Bool) (old new : History) → Fits limits new → Tended AnyCall AnyCall limits 0 moment written old new
    → Fits limits old × (state_at limits new moment ≡ state_at limits old moment)
tidied limits moment true old new fits h =
    let fit = fits_before limits h.between new
    (beside_grew 0 (4 + 2 * applied (state_of limits h.between)) moment h.between new h.tidies) fits in (
      fits_before limits old h.between (beside_grew 0 4 moment old h.between h.helps) fit,
      beside_passes limits (4 + 2 * applied (state_of limits h.between)) moment h.between new fits.own h.tidies
          ∙ beside_passes limits 4 moment old h.between fit.own h.helps,
    )
tidied limits moment false old new fits same =
    (subst (Fits limits) same fits, ap (λ (l : History). state_at limits l moment) same)

-- one request at one moment
served_alike : (limits : Limits) (old past new other : History) (x y : Exchange) → AreAlike limits x.moment old past
    → x.request ≡ y.request → y.moment ≡ x.moment
    → HadMemory x → HadMemory y → Fits limits new → Fits limits other → Served AnyCall AnyCall limits 0 old new x → Served AnyCall AnyCall limits 0 past other y
    → AreAlike limits x.moment new other × (x.response ≡ y.response)
served_alike limits old past new other x y alike request moment ample enough fits fit h k =
    let one = tidied limits x.moment x.written h.answered new fits h.tended in
    let two = tidied limits y.moment y.written k.answered other fit k.tended in
    let last : state_at limits other x.moment ≡ state_at limits k.answered x.moment
    = subst (λ (m : ℕ). state_at limits other m ≡ state_at limits k.answered m) moment two.1 in
    let responds : Responds limits 0 x.moment past k.answered x.request y.response
    = subst (λ (m : ℕ). Responds limits 0 m past k.answered x.request y.response) moment
    (subst (λ (q : Request). Responds limits 0 y.moment past k.answered q y.response) (sym request) k.responds) in
    let both = responds_alike limits x.moment old past h.answered k.answered x.request x.response y.response alike ample enough
    one.0 two.0 h.responds responds in
    (one.1 ∙ (both.0 ∙ sym last), both.1)

-- the parts of a list that is not empty
pub first_same : {A : Type 0} (x y : A) (xs ys : List A) → x ∷ xs ≡ y ∷ ys → x ≡ y
first_same x y xs ys e = cc

pub others_same : {A : Type 0} (x y : A) (xs ys : List A) → x ∷ xs ≡ y ∷ ys → xs ≡ ys
others_same x y xs ys e = cc

pub no_first : {A : Type 0} (x : A) (xs : List A) → x ∷ xs ≡ [] → ⊥
no_first x xs e = cc

-- the same requests at moments that never fall
serves_alike : (limits : Limits) (from : ℕ) (old past new other : History) (served others : List Exchange)
    → AreAlike limits from old past
    → NeverFalls from served → NeverWants served → NeverWants others
    → Fits limits new → Fits limits other → Serves AnyCall AnyCall limits 0 old new served → Serves AnyCall AnyCall limits 0 past other others
    → requests_of served ≡ requests_of others → moments_of served ≡ moments_of others
    → responses_of served ≡ responses_of others
serves_alike limits from old past new other [] [] alike rises ample enough fits fit h k requests moments = refl
serves_alike limits from old past new other [] (y ∷ others) alike rises ample enough fits fit h k requests moments =
    absurd (no_first _ _ (sym requests))
serves_alike limits from old past new other (x ∷ served) [] alike rises ample enough fits fit h k requests moments =
    absurd (no_first _ _ requests)
serves_alike limits from old past new other (x ∷ served) (y ∷ others) alike rises ample enough fits fit h k requests moments =
    let rich = All-tail HadMemory x served ample in
    let richer = All-tail HadMemory y others enough in
    let first = served_alike limits old past h.0 k.0 x y
    (alike_later (state_of limits old) (state_of limits past) from x.moment rises.0 alike)
    (first_same x.request y.request (requests_of served) (requests_of others) requests)
    (sym (first_same x.moment y.moment (moments_of served) (moments_of others) moments))
    (All-head HadMemory x served ample) (All-head HadMemory y others enough)
    (fits_before limits h.0 new (serves_grew limits h.0 new served rich h.2) fits)
    (fits_before limits k.0 other (serves_grew limits k.0 other others richer k.2) fit) h.1 k.1 in
    let later = serves_alike limits x.moment h.0 k.0 new other served others first.0 rises.1 rich richer fits fit h.2 k.2
    (others_same x.request y.request (requests_of served) (requests_of others) requests)
    (others_same x.moment y.moment (moments_of served) (moments_of others) moments) in
    ap₂ (λ (r : Response) (l : List Response). r ∷ l) first.1 later

pub same_responses : (limits : Limits) (history other : History) (served others : List Exchange)
    → ServesAlone limits history served → ServesAlone limits other others
    → requests_of served ≡ requests_of others → moments_of served ≡ moments_of others
    → responses_of served ≡ responses_of others
same_responses limits history other served others h k =
    serves_alike limits 0 [] [] history other served others refl h.never_fall h.ample k.ample
    (record { own = h.own; room = h.room }) (record { own = k.own; room = k.room }) h.serves k.serves
