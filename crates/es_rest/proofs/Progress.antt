-- How far a connection has come.
use Rattle.std.proofs.Common.{◌≡◌, refl, sym, ap, subst, ◌∙◌, true, ℕ, ◌+◌, ◌≤◌, max, List, [], ◌∷◌, ◌++◌, length, Option, Some, None, Result, Ok, arith, append_assoc, length-append}
use Rattle.std.specs.Prelude.{All}
use Rattle.std.proofs.lemmas.List.{append-nil}
use Rattle.std.proofs.lemmas.List.Elements.{All-nil, All-cons, All-append, All-head, All-tail, All-weaker}
use Rattle.es_types.specs.declared.limits.TheConstants.{CONNECTION_BYTES}
use Rattle.http_wire.specs.declared.request.Request.{Request}
use Rattle.http_wire.specs.Requests.{Begins, Spells}
use Rattle.http_wire.specs.Stream.{Buffered, Gave, NextOf, Wrote}
use Rattle.list_machine.specs.declared.event.Limits.{Limits}
use Rattle.list_machine.specs.Run.{History}
use Rattle.list_machine.specs.Serving.{Call}
use Rattle.reply_json.specs.Replies.{text}
use Rattle.es_rest.specs.Talk.{Exchange, Served, Serves}
use Rattle.es_rest.specs.Headline.{AreWhole, AsksEach, requests_of, texts_of, NeverFalls, FollowClock, latest}
use Rattle.es_rest.specs.Moments.{AsksOnce}
use Rattle.es_rest.proofs.Clocks.{ClockSoFar, asks_on, clock_more, clock_starts, requests_more, told_none}
use Rattle.es_rest.proofs.Exchanges.{exchanged_as}
use Rattle.es_rest.specs.Exchanges.{ClockAnswers, Exchanged, LastGoesOn}

-- the bytes that were taken are these requests and then what is held, whatever comes after them
pub record ReadOn (bytes : List ℕ) (left : Option (List ℕ)) (held : Buffered) (requests : List Request) : Type 0 where
  pub taken : List ℕ
  pub after : List ℕ
  pub from : bytes ≡ taken ++ after
  pub left_is : left ≡ Some after
  pub spells : (more : List ℕ) → Spells (taken ++ more) requests (held.bytes ++ more)
  pub room : held.room + length taken ≡ CONNECTION_BYTES

abbrev pub ReadSoFar : Option (List ℕ) → Option (List ℕ) → Buffered → List Request → Type 0
ReadSoFar None left held requests = Unit {0}
ReadSoFar (Some bytes) left held requests = ReadOn bytes left held requests

abbrev pub WroteSoFar : Option (List ℕ) → Option (List ℕ) → List Exchange → Type 0
WroteSoFar None after served = Unit {0}
WroteSoFar (Some written) after served = after ≡ Some (written ++ texts_of served)

-- all but what was written
pub record Moved (helped tidied : Call) (limits : Limits) (seat : ℕ) (old new : History) (left after : Option (List ℕ)) (last now : Option ℕ) (begun greatest : ℕ) (time : ℕ) (held : Buffered) (served : List Exchange) : Type 0 where
  pub serves : Serves helped tidied limits seat old new served
  pub read : ReadSoFar left after held (requests_of served)
  pub never_fall : NeverFalls 0 served
  pub below : All (λ (x : Exchange). x.moment ≤ time) served
  pub greatest_is : greatest ≡ max begun time
  pub latest_is : latest 0 served ≡ time
  pub told : FollowClock last served
  pub goes_on : ClockSoFar last now (requests_of served) time

-- so far
pub record Progress (helped tidied : Call) (limits : Limits) (seat : ℕ) (old new : History) (left after written now : Option (List ℕ)) {S : Type 0} (asked : S → Option ℕ → ℕ → S → Type 0) (clock ticks : S) (last told : Option ℕ) (begun greatest : ℕ) (time : ℕ) (held : Buffered) : Type 0 where
  pub served : List Exchange
  pub moved : Moved helped tidied limits seat old new left after last told begun greatest time held served
  pub wrote : WroteSoFar written now served
  pub whole : AreWhole served
  pub asks : AsksEach asked 0 clock served ticks

-- ---- one request more

spells_more : (stream : List ℕ) (requests : List Request) (rest more : List ℕ) (request : Request) → Spells stream requests rest → Begins rest request more → Spells stream (requests ++ request ∷ []) more
spells_more stream [] rest more request s b = (more, subst (λ (l : List ℕ). Begins l request more) (sym s) b, refl)
spells_more stream (r ∷ requests) rest more request s b = (s.0, s.1, spells_more s.0 requests rest more request s.2 b)

serves_more : (helped tidied : Call) (limits : Limits) (seat : ℕ) (old mid new : History) (served : List Exchange) (x : Exchange)
    → Serves helped tidied limits seat old mid served → Served helped tidied limits seat mid new x → Serves helped tidied limits seat old new (served ++ x ∷ [])
serves_more helped tidied limits seat old mid new [] x s h = (new, subst (λ (l : History). Served helped tidied limits seat l new x) s h, refl)
serves_more helped tidied limits seat old mid new (y ∷ served) x s h = (s.0, s.1, serves_more helped tidied limits seat s.0 mid new served x s.2 h)

falls_more : (from : ℕ) (served : List Exchange) (x : Exchange) → NeverFalls from served → All (λ (y : Exchange). y.moment ≤ x.moment) served → from ≤ x.moment → NeverFalls from (served ++ x ∷ [])
falls_more from [] x n below h = (h, tt)
falls_more from (y ∷ served) x n below h =
    (n.0, falls_more y.moment served x n.1 (All-tail (λ (z : Exchange). z.moment ≤ x.moment) y served below) (All-head (λ (z : Exchange). z.moment ≤ x.moment) y served below))

-- the moment of the last one is that of one more
latest_more : (from : ℕ) (served : List Exchange) (x : Exchange) → latest from (served ++ x ∷ []) ≡ x.moment
latest_more from [] x = refl
latest_more from (y ∷ served) x = latest_more y.moment served x

texts_more : (served : List Exchange) (x : Exchange) → texts_of (served ++ x ∷ []) ≡ texts_of served ++ text x.response x.request.last
texts_more [] x = append-nil (text x.response x.request.last)
texts_more (y ∷ served) x = ap (λ (l : List ℕ). text y.response y.request.last ++ l) (texts_more served x) ∙ sym (append_assoc (text y.response y.request.last) (texts_of served) (text x.response x.request.last))

-- the bytes of a request were taken
read_more : (left now after : Option (List ℕ)) (old new : Buffered) (requests : List Request) (request : Request)
    → ReadSoFar left now old requests → NextOf old new now after (Ok (Some request)) → ReadSoFar left after new (requests ++ request ∷ [])
read_more None now after old new requests request so next = tt
read_more (Some bytes) now after old new requests request so next =
    let P : Option (List ℕ) → Type 0 = λ o. NextOf old new o after (Ok (Some request)) in
    let gave : Gave old new so.after after request = subst P so.left_is next in
    record {
      taken = so.taken ++ gave.taken;
      after = gave.after;
      from = so.from ∙ (ap (λ (l : List ℕ). so.taken ++ l) gave.took.from ∙ sym (append_assoc so.taken gave.taken gave.after));
      left_is = gave.left_is;
      spells = λ more.
          subst (λ (l : List ℕ). Spells l (requests ++ request ∷ []) (new.bytes ++ more)) (sym (append_assoc so.taken gave.taken more))
          (spells_more (so.taken ++ (gave.taken ++ more)) requests (old.bytes ++ (gave.taken ++ more)) (new.bytes ++ more) request (so.spells (gave.taken ++ more))
          (subst (λ (l : List ℕ). Begins l request (new.bytes ++ more)) (append_assoc old.bytes gave.taken more) (gave.begins more)));
      room = omega (arith, so.room, gave.room, length-append so.taken gave.taken);
    }

-- what a request and its response make of all but the bytes that were written
moved_more : (helped tidied : Call) (limits : Limits) (seat : ℕ) (first front after : History) (left now then : Option (List ℕ)) (last told tells : Option ℕ) (begun greatest great : ℕ) (old new : ℕ) (held holds : Buffered) (served : List Exchange) (x : Exchange)
    → Moved helped tidied limits seat first front left now last told begun greatest old held served
    → ReadSoFar left then holds (requests_of served ++ x.request ∷ [])
    → Served helped tidied limits seat front after x → x.moment ≡ new
    → old ≤ new → ClockAnswers old new greatest great → LastGoesOn told tells x.request old new
    → Moved helped tidied limits seat first after left then last tells begun great new holds (served ++ x ∷ [])
moved_more helped tidied limits seat first front after left now then last told tells begun greatest great old new held holds served x m read serve moment later asked goes =
    let lasts = clock_more last told tells old new served x moment m.told m.goes_on goes in
    record {
      serves = serves_more helped tidied limits seat first front after served x m.serves serve;
      read = subst (λ (rs : List Request). ReadSoFar left then holds rs) (sym (requests_more served x)) read;
      never_fall = falls_more 0 served x m.never_fall
          (All-weaker (λ (y : Exchange). y.moment ≤ old) (λ (y : Exchange). y.moment ≤ x.moment) (λ y h. omega (arith, h, later, moment)) served m.below) (omega arith);
      below = All-append (λ (y : Exchange). y.moment ≤ new) served (x ∷ [])
          (All-weaker (λ (y : Exchange). y.moment ≤ old) (λ (y : Exchange). y.moment ≤ new) (λ y h. omega (arith, h, later)) served m.below)
          (All-cons (λ (y : Exchange). y.moment ≤ new) x [] (omega (arith, moment)) (All-nil (λ (y : Exchange). y.moment ≤ new)));
      greatest_is = omega (arith, asked.1, asked.2, m.greatest_is);
      latest_is = latest_more 0 served x ∙ moment;
      told = lasts.0;
      goes_on = lasts.1;
    }

-- one more was written whole
whole_more : (served : List Exchange) (x : Exchange) → AreWhole served → x.written ≡ true → AreWhole (served ++ x ∷ [])
whole_more served x whole is =
    let P : Exchange → Type 0 = λ y. y.written ≡ true in
    All-append P served (x ∷ []) whole (All-cons P x [] is (All-nil P))

wrote_on : (first now after : Option (List ℕ)) (served : List Exchange) (x : Exchange) → WroteSoFar first now served → Wrote now after (text x.response x.request.last) → WroteSoFar first after (served ++ x ∷ [])
wrote_on None now after served x so wrote = tt
wrote_on (Some written) now after served x so wrote =
    let words = text x.response x.request.last in
    let P : Option (List ℕ) → Type 0 = λ o. Wrote o after words in
    subst P so wrote ∙ ap Some (append_assoc written (texts_of served) words ∙ ap (λ (l : List ℕ). written ++ l) (sym (texts_more served x)))

read_none : (left : Option (List ℕ)) (held : Buffered) → held ≡ record { bytes = []; room = CONNECTION_BYTES } → ReadSoFar left left held []
read_none None held empty = tt
read_none (Some bytes) held empty =
    record {
      taken = [];
      after = bytes;
      from = refl;
      left_is = refl;
      spells = λ more. sym (ap (λ (h : Buffered). h.bytes ++ more) empty);
      room = omega (arith, ap (λ (h : Buffered). h.room) empty);
    }

wrote_nothing : (written : Option (List ℕ)) → WroteSoFar written written []
wrote_nothing None = tt
wrote_nothing (Some written) = ap Some (sym (append-nil written))

-- the same as moved_more, from what the exchange says
pub moved_by : (helped tidied : Call) (limits : Limits) (seat : ℕ) (first front after : History) (left now then was is : Option (List ℕ)) (last told tells : Option ℕ) (begun greatest great : ℕ) (old new : ℕ) (held holds : Buffered) (request : Request) {E : Type 0} (result : Result (Unit {0}) E) (served : List Exchange)
    → Moved helped tidied limits seat first front left now last told begun greatest old held served
    → NextOf held holds now then (Ok (Some request)) → (ex : Exchanged helped tidied limits seat new front after request was is result)
    → old ≤ new → ClockAnswers old new greatest great → LastGoesOn told tells request old new
    → Moved helped tidied limits seat first after left then last tells begun great new holds (served ++ ex.x ∷ [])
moved_by helped tidied limits seat first front after left now then was is last told tells begun greatest great old new held holds request result served m next ex later asked goes =
    moved_more helped tidied limits seat first front after left now then last told tells begun greatest great old new held holds served ex.x m
    (subst (λ (r : Request). ReadSoFar left then holds (requests_of served ++ r ∷ [])) (sym ex.request_is) (read_more left now then held holds (requests_of served) request m.read next))
    ex.served ex.moment_is later asked (subst (λ (r : Request). LastGoesOn told tells r old new) (sym ex.request_is) goes)

pub starts : (helped tidied : Call) (limits : Limits) (seat : ℕ) (first : History) (left written : Option (List ℕ)) {S : Type 0} (asked : S → Option ℕ → ℕ → S → Type 0) (clock : S) (last : Option ℕ) (greatest : ℕ) (time : ℕ) (held : Buffered)
    → time ≡ 0 → held ≡ record { bytes = []; room = CONNECTION_BYTES }
    → Progress helped tidied limits seat first first left left written written asked clock clock last last greatest greatest time held
starts helped tidied limits seat first left written asked clock last greatest time held none empty =
    record {
      served = [];
      moved = record {
        serves = refl;
        read = read_none left held empty;
        never_fall = tt;
        below = All-nil (λ (x : Exchange). x.moment ≤ time);
        greatest_is = omega (arith, none);
        latest_is = sym none;
        told = told_none last;
        goes_on = clock_starts last time none;
      };
      wrote = wrote_nothing written;
      whole = All-nil (λ (x : Exchange). x.written ≡ true);
      asks = refl;
    }

-- one request more was read, and its response written
pub goes_on : {helped tidied : Call} {limits other : Limits} {seat others : ℕ} {first front after : History} {left now written before was is : Option (List ℕ)} {S : Type 0} {asked : S → Option ℕ → ℕ → S → Type 0} {clock ticks : S} {last told : Option ℕ} {begun greatest : ℕ} {old new : ℕ} {held : Buffered} {request : Request} {E : Type 0} {done : Unit {0}}
    (mid then : Option (List ℕ)) (tells : Option ℕ) (great : ℕ) (ticked : S) (holds : Buffered)
    → Progress helped tidied limits seat first front left now written before asked clock ticks last told begun greatest old held
    → was ≡ before → NextOf held holds now mid (Ok (Some request)) → then ≡ mid → other ≡ limits → others ≡ seat
    → Exchanged helped tidied other others new front after request was is {E = E} (Ok done)
    → old ≤ new → ClockAnswers old new greatest great → LastGoesOn told tells request old new → AsksOnce asked ticks ticked request old new
    → Progress helped tidied limits seat first after left then written is asked clock ticked last tells begun great new holds
goes_on {helped} {tidied} {limits} {other} {seat} {others} {first} {front} {after} {left} {now} {written} {before} {was} {is} {S} {asked} {clock} {ticks} {last} {told} {begun} {greatest} {old} {new} {held} {request} {E} {done} mid then tells great ticked holds p same next rest l s exchanged later answered goes once =
    let ex : Exchanged helped tidied limits seat new front after request was is {E = E} (Ok done) = exchanged_as l s new front after request was is (Ok done) exchanged in
    let read : NextOf held holds now then (Ok (Some request)) = subst (λ (o : Option (List ℕ)). NextOf held holds now o (Ok (Some request))) (sym rest) next in
    let wrote : WroteSoFar written was p.served = subst (λ (o : Option (List ℕ)). WroteSoFar written o p.served) (sym same) p.wrote in
    record {
      served = p.served ++ ex.x ∷ [];
      moved = moved_by helped tidied limits seat first front after left now then was is last told tells begun greatest great old new held holds request (Ok done) p.served p.moved read ex later answered goes;
      wrote = wrote_on written was is p.served ex.x wrote (subst (λ (r : Request). Wrote was is (text ex.x.response r.last)) (sym ex.request_is) ex.wrote);
      whole = whole_more p.served ex.x p.whole ex.written_is;
      asks = asks_on asked clock ticks ticked old new request p.served ex.x p.asks p.moved.latest_is ex.request_is ex.moment_is once;
    }
