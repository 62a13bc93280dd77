-- What the clock answered so far, and the moment.
use Rattle.std.proofs.Common.{◌≡◌, refl, sym, ap, subst, ◌∙◌, ℕ, max, List, [], ◌∷◌, ◌++◌, map, Option, Some, None}
use Rattle.http_wire.specs.declared.request.Request.{Request}
use Rattle.es_rest.specs.Headline.{AsksEach, FollowClock, latest, requests_of}
use Rattle.es_rest.specs.Moments.{AsksOnce, clock_answer, moments_of}
use Rattle.es_rest.specs.Talk.{Exchange}
use Rattle.es_rest.specs.Exchanges.{LastGoesOn}

-- the clock's answer after these requests
abbrev pub answer_after : ℕ → List Request → ℕ
answer_after last [] = last
answer_after last (request ∷ requests) = answer_after (clock_answer last request) requests

-- and the moment
abbrev pub moment_after : ℕ → ℕ → List Request → ℕ
moment_after last moment [] = moment
moment_after last moment (request ∷ requests) = moment_after (clock_answer last request) (max moment (clock_answer last request)) requests

abbrev pub ClockSoFar : Option ℕ → Option ℕ → List Request → ℕ → Type 0
ClockSoFar None now requests moment = Unit {0}
ClockSoFar (Some last) now requests moment = (now ≡ Some (answer_after last requests)) × (moment ≡ moment_after last 0 requests)

answer_more : (last : ℕ) (requests : List Request) (request : Request) → answer_after last (requests ++ request ∷ []) ≡ clock_answer (answer_after last requests) request
answer_more last [] request = refl
answer_more last (r ∷ requests) request = answer_more (clock_answer last r) requests request

moment_more : (last moment : ℕ) (requests : List Request) (request : Request)
    → moment_after last moment (requests ++ request ∷ []) ≡ max (moment_after last moment requests) (clock_answer (answer_after last requests) request)
moment_more last moment [] request = refl
moment_more last moment (r ∷ requests) request = moment_more (clock_answer last r) (max moment (clock_answer last r)) requests request

moments_more : (last moment : ℕ) (requests : List Request) (request : Request)
    → moments_of last moment (requests ++ request ∷ []) ≡ moments_of last moment requests ++ max (moment_after last moment requests) (clock_answer (answer_after last requests) request) ∷ []
moments_more last moment [] request = refl
moments_more last moment (r ∷ requests) request =
    let now = max moment (clock_answer last r) in
    ap (λ (l : List ℕ). now ∷ l) (moments_more (clock_answer last r) now requests request)

pub requests_more : (served : List Exchange) (x : Exchange) → requests_of (served ++ x ∷ []) ≡ requests_of served ++ x.request ∷ []
requests_more [] x = refl
requests_more (y ∷ served) x = ap (λ (l : List Request). y.request ∷ l) (requests_more served x)

times_more : (served : List Exchange) (x : Exchange) → map (λ (y : Exchange). y.moment) (served ++ x ∷ []) ≡ map (λ (y : Exchange). y.moment) served ++ x.moment ∷ []
times_more [] x = refl
times_more (y ∷ served) x = ap (λ (l : List ℕ). y.moment ∷ l) (times_more served x)

-- nothing was asked yet
pub told_none : (last : Option ℕ) → FollowClock last []
told_none None = tt
told_none (Some last) = refl

pub clock_starts : (last : Option ℕ) (moment : ℕ) → moment ≡ 0 → ClockSoFar last last [] moment
clock_starts None moment zero = tt
clock_starts (Some last) moment zero = (refl, zero)

-- one request more
pub clock_more : (last now after : Option ℕ) (old new : ℕ) (served : List Exchange) (x : Exchange) → x.moment ≡ new → FollowClock last served
    → ClockSoFar last now (requests_of served) old → LastGoesOn now after x.request old new
    → FollowClock last (served ++ x ∷ []) × ClockSoFar last after (requests_of (served ++ x ∷ [])) new
clock_more None now after old new served x is at so goes = (tt, tt)
clock_more (Some last) now after old new served x is at so goes =
    let requests = requests_of served in
    let answer = clock_answer (answer_after last requests) x.request in
    let P : Option ℕ → Type 0 = λ o. LastGoesOn o after x.request old new in
    let g : (after ≡ Some answer) × (new ≡ max old answer) = subst P so.0 goes in
    let moment : new ≡ max (moment_after last 0 requests) answer = g.1 ∙ ap (λ (n : ℕ). max n answer) so.1 in (
      times_more served x
          ∙ (ap (λ (l : List ℕ). l ++ x.moment ∷ []) at
          ∙ (ap (λ (n : ℕ). moments_of last 0 requests ++ n ∷ []) (is ∙ moment)
          ∙ (sym (moments_more last 0 requests x.request) ∙ ap (moments_of last 0) (sym (requests_more served x))))),
      (
        g.0 ∙ ap Some (sym (answer_more last requests x.request) ∙ ap (answer_after last) (sym (requests_more served x))),
        moment ∙ (sym (moment_more last 0 requests x.request) ∙ ap (moment_after last 0) (sym (requests_more served x))),
      ),
    )

-- ---- each request asks once

asks_more : {S : Type 0} (asked : S → Option ℕ → ℕ → S → Type 0) (from : ℕ) (clock now after : S) (served : List Exchange) (x : Exchange)
    → AsksEach asked from clock served now → AsksOnce asked now after x.request (latest from served) x.moment
    → AsksEach asked from clock (served ++ x ∷ []) after
asks_more {S} asked from clock now after [] x same once = (after, subst (λ (c : S). AsksOnce asked c after x.request from x.moment) same once, refl)
asks_more asked from clock now after (y ∷ served) x each once = (each.0, each.1, asks_more asked y.moment each.0 now after served x each.2 once)

-- and so does one more
pub asks_on : {S : Type 0} (asked : S → Option ℕ → ℕ → S → Type 0) (clock now after : S) (old new : ℕ) (request : Request) (served : List Exchange) (x : Exchange)
    → AsksEach asked 0 clock served now → latest 0 served ≡ old → x.request ≡ request → x.moment ≡ new → AsksOnce asked now after request old new
    → AsksEach asked 0 clock (served ++ x ∷ []) after
asks_on asked clock now after old new request served x each latest_is request_is moment_is once =
    asks_more asked 0 clock now after served x each
    (subst (λ (r : Request). AsksOnce asked now after r (latest 0 served) x.moment) (sym request_is)
    (subst (λ (m : ℕ). AsksOnce asked now after request (latest 0 served) m) (sym moment_is)
    (subst (λ (m : ℕ). AsksOnce asked now after request m new) (sym latest_is) once)))
