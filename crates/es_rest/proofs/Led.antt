-- From the events of a request to its response.
use Rattle.std.proofs.Common.{◌≡◌, refl, sym, ap, subst, ◌∙◌, ℕ, false, List, [], ◌∷◌, ◌++◌, Option, Some, None}
use Rattle.std.specs.Prelude.{is_some}
use Rattle.std.proofs.lemmas.List.{append-nil}
use Rattle.list_machine.specs.declared.event.Event.{Event}
use Rattle.list_machine.specs.declared.event.Event.TheVariants.{Seal}
use Rattle.list_machine.specs.declared.event.Reply.{Reply}
use Rattle.list_machine.specs.declared.event.Reply.TheVariants.{Sealed}
use Rattle.list_machine.specs.declared.event.Limits.{Limits}
use Rattle.list_machine.specs.Run.{History}
use Rattle.list_machine.specs.Serving.{Asked, MayHaveAsked, asked}
use Rattle.reply_json.specs.declared.fault.RestFault.{RestFault}
use Rattle.reply_json.specs.declared.response.Response.{Response}
use Rattle.reply_json.specs.declared.response.Response.TheVariants as response
use Rattle.reply_json.specs.declared.response.RouteName.{RouteName}
use Rattle.reply_json.specs.declared.response.RouteName.TheVariants as route
use Rattle.es_route.specs.declared.ask.Ask.{Ask}
use Rattle.es_route.specs.declared.ask.Ask.TheVariants.{Refresh}
use Rattle.es_rest.specs.declared.refusal.Named.{Named}
use Rattle.es_rest.specs.declared.refusal.Named.TheVariants as named
use Rattle.es_rest.specs.Led.{EndedBy, IsLabel, Led, WasRefreshed}
use Rattle.es_rest.specs.Scripts.{CutShort, Part, RanScript, Script, Strayed, each, is_refused, refresh, refreshes, refusal, refused}
use Rattle.es_rest.specs.Talk.{Conversation, Interrupted, answer_of, events_of, or_fault, refreshed_of, response_of, script_of, seal_answer, settled}
use Rattle.es_rest.proofs.Scripts.{cut_first, cut_none, cut_on, if_false, if_true, refused_by, talks_on}

-- what a reply is answered, unless a refresh was refused
pub settle_or : (refused : Option RestFault) (said : Reply) (to : RouteName) → or_fault refused (Some (settled None said to)) ≡ Some (settled refused said to)
settle_or None said to = refl
settle_or (Some fault) said to = refl

module _ (limits : Limits) (seat moment : ℕ) where
  -- nothing was asked first
  pub led_none : (old : History) → Led limits seat moment [] old old []
  led_none old = record { part = []; talks = λ later. refl; goes = λ later rest. refl; after = λ later rest. refl }

  -- one event was
  pub led_one : (old new : History) (event : Event) (said : Reply) → Asked limits seat 4 old new (asked seat moment event) said
      → Led limits seat moment (event ∷ []) old new (said ∷ [])
  led_one old new event said was =
      record { part = (event, said) ∷ []; talks = λ later. (new, refl, was, refl); goes = λ later rest. refl; after = λ later rest. refl }

  -- nothing is refreshed
  pub ran_none : (old : History) → RanScript limits seat moment (refreshes []) old old None
  ran_none old = record { part = []; talks = refl; all = refl; is = refl }

  -- the events of a request, and then its refreshes
  pub led_ran : (ask : Ask) (old mid new : History) (replies : List Reply) (fault : Option RestFault) (response : Response)
      → Led limits seat moment (events_of ask) old mid replies → (ran : RanScript limits seat moment (refreshes (refreshed_of ask replies)) mid new fault)
      → or_fault fault (answer_of ask replies ran.part) ≡ Some response → Conversation limits seat moment ask old new response
  unfolding script_of response_of
  led_ran ask old mid new replies fault response led ran is =
      let later : List Reply → Script = λ said. refreshes (refreshed_of ask said) in
      let after : List Reply → Part → Option Response = λ said rest. or_fault (refused rest) (answer_of ask said rest) in
      record {
        part = led.part ++ ran.part;
        talks = talks_on limits seat moment (each (events_of ask) later) (later replies) old mid new led.part ran.part (led.talks later) (led.goes later) ran.talks;
        all = led.goes later ran.part ∙ ran.all;
        is = led.after after ran.part ∙ ap (λ (f : Option RestFault). or_fault f (answer_of ask replies ran.part)) ran.is ∙ is;
      }

  -- memory ran out at those events
  pub led_cut : (ask : Ask) (old new : History) → ((later : List Reply → Script) → CutShort limits seat moment (each (events_of ask) later) old new)
      → Interrupted limits seat moment ask old new
  unfolding script_of
  led_cut ask old new cut = cut (λ said. refreshes (refreshed_of ask said))

  -- or after them
  pub led_strayed : (ask : Ask) (old mid new : History) (replies : List Reply) → Led limits seat moment (events_of ask) old mid replies
      → CutShort limits seat moment (refreshes (refreshed_of ask replies)) mid new → Interrupted limits seat moment ask old new
  unfolding script_of
  led_strayed ask old mid new replies led cut =
      let later : List Reply → Script = λ said. refreshes (refreshed_of ask said) in
      cut_on limits seat moment (each (events_of ask) later) (later replies) old mid new led.part (led.talks later) (led.goes later) cut

  -- ---- a request of one event

  -- by another name of its events
  led_label : (ask : Ask) (event : Event) (it : Named) (to : RouteName) (indexes : List (List ℕ)) (old new : History) (said : Reply) → IsLabel ask event it to indexes
      → Asked limits seat 4 old new (asked seat moment event) said → Led limits seat moment (events_of ask) old new (said ∷ [])
  led_label ask event it to indexes old new said label was =
      subst (λ (e : List Event). Led limits seat moment e old new (said ∷ [])) (sym label.events) (led_one old new event said was)

  -- it was refused
  pub one_refused : (ask : Ask) (event : Event) (it : Named) (to : RouteName) (indexes : List (List ℕ)) (old new : History) (said : Reply) (fault : RestFault) → IsLabel ask event it to indexes
      → Asked limits seat 4 old new (asked seat moment event) said → refusal it said ≡ Some fault → Conversation limits seat moment ask old new (response.Fault fault)
  one_refused ask event it to indexes old new said fault label was bad =
      let none : refreshed_of ask (said ∷ []) ≡ [] = label.refreshes said ∙ if_true (is_refused said) [] indexes (refused_by (named.Context []) it said ∙ ap is_some bad) in
      let ran : RanScript limits seat moment (refreshes (refreshed_of ask (said ∷ []))) new new None
      = subst (λ (l : List (List ℕ)). RanScript limits seat moment (refreshes l) new new None) (sym none) (ran_none new) in
      led_ran ask old new new (said ∷ []) None (response.Fault fault) (led_label ask event it to indexes old new said label was) ran
      (label.answer said ran.part ∙ ap (λ (r : Option RestFault). Some (settled r said to)) bad)

  -- it was taken
  pub one_taken : (ask : Ask) (event : Event) (it : Named) (to : RouteName) (indexes : List (List ℕ)) (old mid new : History) (said : Reply) (fault : Option RestFault) (response : Response) → IsLabel ask event it to indexes
      → Asked limits seat 4 old mid (asked seat moment event) said → refusal it said ≡ None → RanScript limits seat moment (refreshes indexes) mid new fault
      → response ≡ settled fault said to → Conversation limits seat moment ask old new response
  one_taken ask event it to indexes old mid new said fault response label was fine r is =
      let these : refreshed_of ask (said ∷ []) ≡ indexes = label.refreshes said ∙ if_false (is_refused said) [] indexes (refused_by (named.Context []) it said ∙ ap is_some fine) in
      let ran : RanScript limits seat moment (refreshes (refreshed_of ask (said ∷ []))) mid new fault
      = subst (λ (l : List (List ℕ)). RanScript limits seat moment (refreshes l) mid new fault) (sym these) r in
      led_ran ask old mid new (said ∷ []) fault response (led_label ask event it to indexes old mid said label was) ran
      (ap (or_fault fault) (label.answer said ran.part ∙ ap (λ (r : Option RestFault). Some (settled r said to)) fine) ∙ settle_or fault said to ∙ ap (λ (r : Response). Some r) (sym is))

  pub one_cut_first : (ask : Ask) (event : Event) (it : Named) (to : RouteName) (indexes : List (List ℕ)) (old new : History) → IsLabel ask event it to indexes
      → MayHaveAsked seat 4 old new (asked seat moment event) → Interrupted limits seat moment ask old new
  one_cut_first ask event it to indexes old new label tried =
      led_cut ask old new (λ later. subst (λ (e : List Event). CutShort limits seat moment (each e later) old new) (sym label.events)
      (cut_first limits seat moment (each (event ∷ []) later) old new event refl tried))

  pub one_cut_later : (ask : Ask) (event : Event) (it : Named) (to : RouteName) (indexes : List (List ℕ)) (old mid new : History) (said : Reply) → IsLabel ask event it to indexes
      → Asked limits seat 4 old mid (asked seat moment event) said → refusal it said ≡ None → CutShort limits seat moment (refreshes indexes) mid new
      → Interrupted limits seat moment ask old new
  one_cut_later ask event it to indexes old mid new said label was fine cut =
      let these : refreshed_of ask (said ∷ []) ≡ indexes = label.refreshes said ∙ if_false (is_refused said) [] indexes (refused_by (named.Context []) it said ∙ ap is_some fine) in
      led_strayed ask old mid new (said ∷ []) (led_label ask event it to indexes old mid said label was)
      (subst (λ (l : List (List ℕ)). CutShort limits seat moment (refreshes l) mid new) (sym these) cut)

  -- memory ran out before anything was asked
  pub cut_before : (ask : Ask) (old : History) → Interrupted limits seat moment ask old old
  cut_before ask old = cut_none limits seat moment (script_of ask) old

  -- ---- a refresh

  refresh_is : (index : List ℕ) (old new : History) (fault : Option RestFault) (response : Response) (ran : RanScript limits seat moment (refreshes (index ∷ [])) old new fault)
      → or_fault fault (seal_answer ran.part) ≡ Some response → Conversation limits seat moment (Refresh index) old new response
  refresh_is index old new fault response ran is = led_ran (Refresh index) old old new [] fault response (led_none old) ran is

  pub refreshed_all : (index numbers : List ℕ) (old new : History) (response : Response) → WasRefreshed limits seat moment index old new numbers
      → response ≡ settled None (Sealed numbers) route.Refresh → Conversation limits seat moment (Refresh index) old new response
  refreshed_all index numbers old new response w is =
      refresh_is index old new None response
      (record {
        part = w.went.part;
        talks = w.went.talks (refreshes []);
        all = ap (refresh index (refreshes [])) (sym (append-nil w.went.part)) ∙ w.went.goes (refreshes []) [];
        is = w.went.fine;
      })
      (ap seal_answer w.first ∙ ap (λ (r : Response). Some r) (sym is))

  ended_answer : (index : List ℕ) (said : Reply) (part : Part) (refused : Option RestFault) → refused ≡ refusal (named.Index index) said → (is_refused said ≡ false → part ≡ (Seal index, said) ∷ [])
      → or_fault refused (seal_answer part) ≡ Some (settled refused said route.Refresh)
  ended_answer index said part (Some fault) is first = refl
  ended_answer index said part None is first = ap seal_answer (first (refused_by (named.Context []) (named.Index index) said ∙ ap is_some (sym is)))

  pub refreshed_ended : (index : List ℕ) (old new : History) (said : Reply) (response : Response) → EndedBy limits seat moment index old new said
      → response ≡ settled (refusal (named.Index index) said) said route.Refresh → Conversation limits seat moment (Refresh index) old new response
  refreshed_ended index old new said response e is =
      refresh_is index old new (refusal (named.Index index) said) response
      (record { part = e.stopped.part; talks = e.stopped.talks (refreshes []); all = e.stopped.all (refreshes []); is = e.stopped.is })
      (ended_answer index said e.stopped.part (refusal (named.Index index) said) refl e.first ∙ ap (λ (r : Response). Some r) (sym is))

  pub refresh_cut : (index : List ℕ) (old new : History) → Strayed limits seat moment (refresh index) old new → Interrupted limits seat moment (Refresh index) old new
  unfolding script_of
  refresh_cut index old new c = c (refreshes [])

-- the same by other names of the seat and the limits
pub by_names : {limits other : Limits} {seat others : ℕ} → other ≡ limits → others ≡ seat → (P : Limits → ℕ → Type 0) → P other others → P limits seat
by_names {limits} {other} {seat} {others} l s P h = subst (λ (k : Limits). P k seat) l (subst (λ (i : ℕ). P other i) s h)
