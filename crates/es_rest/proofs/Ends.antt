-- That a connection which has come so far comes to the headline.
use Rattle.std.proofs.Common.{◌≡◌, refl, sym, ap, subst, ◌∙◌, inl, inr, ⊎_elim, false, ℕ, ◌+◌, ◌<◌, ◌≤◌, max, List, [], ◌∷◌, ◌++◌, length, take, Option, Some, None, Ok, Err, arith, append_assoc, length-append, take_all}
use Rattle.std.proofs.lemmas.List.Elements.{All-weaker}
use Rattle.std.proofs.Math.Seq.{take-append-add, take-nil}
use Rattle.es_types.specs.declared.limits.TheConstants.{CONNECTION_BYTES}
use Rattle.http_wire.specs.declared.request.Request.{Request}
use Rattle.http_wire.specs.declared.wire.WireEnd.{WireEnd}
use Rattle.http_wire.specs.declared.wire.WireEnd.TheVariants as wire
use Rattle.http_wire.specs.Requests.{Spells, IsUnfinished}
use Rattle.http_wire.specs.Stream.{Buffered, HasEnded, NextOf, Wrote, WroteSome, stream_of}
use Rattle.list_machine.specs.declared.event.Limits.{Limits}
use Rattle.list_machine.specs.Run.{History}
use Rattle.list_machine.specs.Pages.{Enumerates}
use Rattle.list_machine.specs.Serving.{Call}
use Rattle.es_rest.specs.declared.connection.ConnEnd.{ConnEnd}
use Rattle.es_rest.specs.declared.connection.ConnEnd.TheVariants as end
use Rattle.reply_json.specs.Replies.{text}
use Rattle.es_rest.specs.Talk.{Exchange}
use Rattle.es_rest.specs.Headline.{AreWhole, AreWritten, requests_of, texts_of, EndsWith, Cuts, TookAll, Leaves, ReadsFrom, last_words, IsCut, IsLastCut, WroteWords, WritesTo, AreMoments, Headline}
use Rattle.es_rest.specs.Moments.{AsksOnce}
use Rattle.es_rest.proofs.Clocks.{asks_on}
use Rattle.es_rest.proofs.Exchanges.{exchanged_as, wrote_none}
use Rattle.es_rest.specs.Exchanges.{Aims, ClockAnswers, Closed, Exchanged, LastGoesOn}
use Rattle.es_rest.proofs.Progress.{Moved, Progress, ReadOn, ReadSoFar, WroteSoFar, moved_by}

-- ---- what was read

-- the stream of the connection is what was taken and what still may be
cut_by : (bytes : List ℕ) (left : Option (List ℕ)) (held : Buffered) (requests : List Request) (so : ReadOn bytes left held requests) (result : ConnEnd) → EndsWith bytes (stream_of held so.after) result → Cuts bytes requests result
cut_by bytes left held requests so result ends =
    let limit : CONNECTION_BYTES ≡ length so.taken + held.room = omega (arith, so.room) in
    let stream : take CONNECTION_BYTES bytes ≡ so.taken ++ take held.room so.after =
    ap (λ (n : ℕ). take n bytes) limit ∙ (ap (take (length so.taken + held.room)) so.from ∙ take-append-add so.taken so.after held.room) in
    record {
      rest = stream_of held so.after;
      spells = subst (λ (l : List ℕ). Spells l requests (stream_of held so.after)) (sym stream) (so.spells (take held.room so.after));
      ends = ends;
    }

long : (bytes : List ℕ) (left : Option (List ℕ)) (held : Buffered) (requests : List Request) (so : ReadOn bytes left held requests) → length bytes ≡ length so.taken + length so.after
long bytes left held requests so = ap length so.from ∙ length-append so.taken so.after

-- what an end of the wire says of the bytes
ends_by : (bytes : List ℕ) (left after : Option (List ℕ)) (held : Buffered) (requests : List Request) (so : ReadOn bytes left held requests) (wired : WireEnd) (aim : ConnEnd)
    → HasEnded held so.after after wired → Aims wired aim → EndsWith bytes (stream_of held so.after) aim
ends_by bytes left after held requests so wire.Truncated end.Truncated h aims =
    let whole : take held.room so.after ≡ so.after = take_all held.room so.after h.0 in (
      omega (arith, long bytes left held requests so, so.room, h.0),
      (λ none. h.1 (ap (λ (l : List ℕ). held.bytes ++ l) (sym whole) ∙ none)),
      subst (λ (l : List ℕ). IsUnfinished (held.bytes ++ l)) (sym whole) h.2,
    )
ends_by bytes left after held requests so wire.NotBuilt end.Refused h aims = h
ends_by bytes left after held requests so wire.NotBuilt end.NoMemory h aims = tt
ends_by bytes left after held requests so wire.TooMuch end.TooMuch h aims = (omega (arith, long bytes left held requests so, so.room, h.0), h.1)
ends_by bytes left after held requests so wire.ReadFault end.ReadFault h aims = tt
ends_by bytes left after held requests so wire.NoMemory end.NoMemory h aims = tt
ends_by bytes left after held requests so wired aim h aims = absurd aims

-- at a read fault no whole request was left unserved, and where the input ended nothing is left
took_all : (bytes : List ℕ) (left after : Option (List ℕ)) (held : Buffered) (requests : List Request) (so : ReadOn bytes left held requests)
    → HasEnded held so.after after wire.ReadFault → TookAll bytes after requests
took_all bytes left after held requests so h =
    record {
      taken = so.taken ++ h.0;
      after = h.1;
      rest = held.bytes ++ h.0;
      from = so.from ∙ (ap (λ (l : List ℕ). so.taken ++ l) h.2.from ∙ sym (append_assoc so.taken h.0 h.1));
      left_is = h.3;
      spells = so.spells h.0;
      no_more = h.4;
    }

leaves : (bytes : List ℕ) (left after : Option (List ℕ)) (held : Buffered) (requests : List Request) (so : ReadOn bytes left held requests) (wired : WireEnd) (aim : ConnEnd)
    → HasEnded held so.after after wired → Aims wired aim → Leaves bytes after requests aim
leaves bytes left after held requests so wire.ReadFault end.ReadFault h aims = took_all bytes left after held requests so h
leaves bytes left after held requests so wire.Truncated end.Truncated h aims = h.3
leaves bytes left after held requests so wire.NotBuilt end.Refused h aims = tt
leaves bytes left after held requests so wire.NotBuilt end.NoMemory h aims = tt
leaves bytes left after held requests so wire.TooMuch end.TooMuch h aims = tt
leaves bytes left after held requests so wire.NoMemory end.NoMemory h aims = tt
leaves bytes left after held requests so wired aim h aims = absurd aims

-- what the link told of the bytes, where the wire ended
reads_end : (left now after : Option (List ℕ)) (held new : Buffered) (requests : List Request) (wired : WireEnd) (aim : ConnEnd)
    → ReadSoFar left now held requests → NextOf held new now after (Err wired) → Aims wired aim → ReadsFrom left after requests aim
reads_end None now after held new requests wired aim so next aims = tt
reads_end (Some bytes) now after held new requests wired aim so next aims =
    let P : Option (List ℕ) → Type 0 = λ o. NextOf held new o after (Err wired) in
    let h : HasEnded held so.after after wired = subst P so.left_is next in
    (cut_by bytes now held requests so aim (ends_by bytes now after held requests so wired aim h aims), leaves bytes now after held requests so wired aim h aims)

-- and where a write failed
reads_fault : (left now after : Option (List ℕ)) (held : Buffered) (requests : List Request) → ReadSoFar left now held requests → ReadsFrom left after requests end.WriteFault
reads_fault None now after held requests so = tt
reads_fault (Some bytes) now after held requests so = (cut_by bytes now held requests so end.WriteFault tt, tt)

-- and where the input ended between two requests
reads_done : (left now after : Option (List ℕ)) (held new : Buffered) (requests : List Request) → ReadSoFar left now held requests → NextOf held new now after (Ok None) → ReadsFrom left after requests end.Done
reads_done None now after held new requests so next = tt
reads_done (Some bytes) now after held new requests so next =
    let P : Option (List ℕ) → Type 0 = λ o. NextOf held new o after (Ok None) in
    let h : (held.bytes ≡ []) × (so.after ≡ []) × (after ≡ Some []) = subst P so.left_is next in
    let nothing : stream_of held so.after ≡ [] = ap (λ (l : List ℕ). l ++ take held.room so.after) h.0 ∙ (ap (take held.room) h.1 ∙ take-nil held.room) in
    (cut_by bytes now held requests so end.Done (omega (arith, long bytes now held requests so, so.room, ap length h.1), nothing), h.2)

-- ---- what was written

never_a_fault : (wired : WireEnd) → Aims wired end.WriteFault → ⊥
never_a_fault wire.Truncated h = h
never_a_fault wire.NotBuilt h = h
never_a_fault wire.ReadFault h = h
never_a_fault wire.TooMuch h = h
never_a_fault wire.NoMemory h = h

words_at : (left rest : Option (List ℕ)) (written : List ℕ) (after : Option (List ℕ)) (served : List Exchange) (aim : ConnEnd) → (aim ≡ end.WriteFault → ⊥) → after ≡ Some (written ++ (texts_of served ++ last_words aim)) → WroteWords left rest written after served aim
words_at left rest written after served end.Done fault h = h
words_at left rest written after served end.Refused fault h = h
words_at left rest written after served end.ReadFault fault h = h
words_at left rest written after served end.WriteFault fault h = absurd (fault refl)
words_at left rest written after served end.NoMemory fault h = h
words_at left rest written after served end.Truncated fault h = h
words_at left rest written after served end.TooMuch fault h = h

writes_end : (left rest first now after : Option (List ℕ)) (served : List Exchange) (aim : ConnEnd) → (aim ≡ end.WriteFault → ⊥) → WroteSoFar first now served → Wrote now after (last_words aim) → WritesTo left rest first after served aim
writes_end left rest None now after served aim fault so wrote = tt
writes_end left rest (Some written) now after served aim fault so wrote =
    let P : Option (List ℕ) → Type 0 = λ o. Wrote o after (last_words aim) in
    words_at left rest written after served aim fault (subst P so wrote ∙ ap Some (append_assoc written (texts_of served) (last_words aim)))

-- one more wasn't written whole
abbrev last_cut : (served : List Exchange) (x : Exchange) → AreWhole served → x.written ≡ false → IsLastCut (served ++ x ∷ [])
last_cut served x whole cut = record { first = served; last = x; served_are = refl; whole = whole; cut = cut }

-- an end leaves the marks of all
marks_at : (served : List Exchange) (ended : ConnEnd) → AreWhole served → AreWritten served ended
marks_at served end.Done whole = whole
marks_at served end.Refused whole = whole
marks_at served end.ReadFault whole = whole
marks_at served end.WriteFault whole = inl whole
marks_at served end.NoMemory whole = whole
marks_at served end.Truncated whole = whole
marks_at served end.TooMuch whole = whole

-- words after the texts were cut
cut_words : (written : List ℕ) (now after : Option (List ℕ)) (texts words : List ℕ) → now ≡ Some (written ++ texts) → WroteSome now after words → IsCut written after texts words
cut_words written now after texts words so wrote =
    let P : Option (List ℕ) → Type 0 = λ o. WroteSome o after words in
    let some : (count : ℕ) × (count < length words) × (after ≡ Some ((written ++ texts) ++ take count words)) = subst P so wrote in
    record { count = some.0; short = some.1; is = some.2 ∙ ap Some (append_assoc written texts (take some.0 words)) }

-- the last words failed
writes_fault : (left rest first now after : Option (List ℕ)) (served : List Exchange) (aim : ConnEnd) → AreWhole served → ReadsFrom left rest (requests_of served) aim → WroteSoFar first now served → WroteSome now after (last_words aim) → WritesTo left rest first after served end.WriteFault
writes_fault left rest None now after served aim whole reads so wrote = tt
writes_fault left rest (Some written) now after served aim whole reads so wrote =
    inr (record { aim = aim; whole = whole; reads = reads; cut = cut_words written now after (texts_of served) (last_words aim) so wrote })

-- the text of a response failed
writes_cut : (left rest first now after : Option (List ℕ)) (served : List Exchange) (x : Exchange) → AreWhole served → x.written ≡ false → WroteSoFar first now served → WroteSome now after (text x.response x.request.last) → WritesTo left rest first after (served ++ x ∷ []) end.WriteFault
writes_cut left rest None now after served x whole cut so wrote = tt
writes_cut left rest (Some written) now after served x whole cut so wrote =
    inl (record { at = last_cut served x whole cut; cut = cut_words written now after (texts_of served) (text x.response x.request.last) so wrote })

-- ---- the moments

moments_of : (helped tidied : Call) (limits : Limits) (seat : ℕ) (first front : History) (left now : Option (List ℕ)) (last told : Option ℕ) (begun greatest : ℕ) (time : ℕ) (held : Buffered) (served : List Exchange)
    → Moved helped tidied limits seat first front left now last told begun greatest time held served → AreMoments last begun greatest served
moments_of helped tidied limits seat first front left now last told begun greatest time held served m =
    record {
      never_fall = m.never_fall;
      bounded = All-weaker (λ (x : Exchange). x.moment ≤ time) (λ (x : Exchange). x.moment ≤ greatest) (λ x h. omega (arith, h, m.greatest_is)) served m.below;
      greatest_is = m.greatest_is ∙ ap (max begun) (sym m.latest_is);
      told = m.told;
    }

-- ---- the clauses of the call

-- one request more was read, and the write of its response failed
pub failed : {helped tidied : Call} {limits other : Limits} {seat others : ℕ} {first front after : History} {left now written before was is : Option (List ℕ)} {S : Type 0} {asked : S → Option ℕ → ℕ → S → Type 0} {clock ticks : S} {last told : Option ℕ} {begun greatest : ℕ} {old new : ℕ} {held : Buffered} {request : Request} {E : Type 0} {e : E}
    (mid then : Option (List ℕ)) (tells : Option ℕ) (great : ℕ) (ticked : S) (holds : Buffered)
    → Progress helped tidied limits seat first front left now written before asked clock ticks last told begun greatest old held
    → was ≡ before → NextOf held holds now mid (Ok (Some request)) → then ≡ mid → other ≡ limits → others ≡ seat
    → Exchanged helped tidied other others new front after request was is (Err e)
    → old ≤ new → ClockAnswers old new greatest great → LastGoesOn told tells request old new → AsksOnce asked ticks ticked request old new
    → Enumerates limits after
    → Headline helped tidied limits seat first after left then written is asked clock ticked last begun great end.WriteFault
failed {helped} {tidied} {limits} {other} {seat} {others} {first} {front} {after} {left} {now} {written} {before} {was} {is} {S} {asked} {clock} {ticks} {last} {told} {begun} {greatest} {old} {new} {held} {request} {E} {e} mid then tells great ticked holds p same next rest l s exchanged later answered goes once law =
    let ex : Exchanged helped tidied limits seat new front after request was is (Err e) = exchanged_as l s new front after request was is (Err e) exchanged in
    let read : NextOf held holds now then (Ok (Some request)) = subst (λ (o : Option (List ℕ)). NextOf held holds now o (Ok (Some request))) (sym rest) next in
    let wrote : WroteSoFar written was p.served = subst (λ (o : Option (List ℕ)). WroteSoFar written o p.served) (sym same) p.wrote in
    let m = moved_by helped tidied limits seat first front after left now then was is last told tells begun greatest great old new held holds request (Err e) p.served p.moved read ex later answered goes in
    record {
      served = p.served ++ ex.x ∷ [];
      serves = m.serves;
      enumerates = law;
      reads = reads_fault left then then holds (requests_of (p.served ++ ex.x ∷ [])) m.read;
      writes = writes_cut left then written was is p.served ex.x p.whole ex.written_is wrote (subst (λ (r : Request). WroteSome was is (text ex.x.response r.last)) (sym ex.request_is) ex.wrote);
      moments = moments_of helped tidied limits seat first after left then last tells begun great new holds (p.served ++ ex.x ∷ []) m;
      asks = asks_on asked clock ticks ticked old new request p.served ex.x p.asks p.moved.latest_is ex.request_is ex.moment_is once;
      marks = inr (last_cut p.served ex.x p.whole ex.written_is);
    }

-- the input ended between two requests
pub ended : {helped tidied : Call} {limits : Limits} {seat : ℕ} {first front : History} {left now written before was : Option (List ℕ)} {S : Type 0} {asked : S → Option ℕ → ℕ → S → Type 0} {clock ticks : S} {last told : Option ℕ} {begun greatest : ℕ} {time : ℕ} {held : Buffered}
    (then : Option (List ℕ)) (new : Buffered)
    → Progress helped tidied limits seat first front left now written before asked clock ticks last told begun greatest time held
    → was ≡ before → NextOf held new now then (Ok None) → Enumerates limits front
    → Headline helped tidied limits seat first front left then written was asked clock ticks last begun greatest end.Done
ended {helped} {tidied} {limits} {seat} {first} {front} {left} {now} {written} {before} {was} {S} {asked} {clock} {ticks} {last} {told} {begun} {greatest} {time} {held} then new p same next law =
    let wrote : WroteSoFar written was p.served = subst (λ (o : Option (List ℕ)). WroteSoFar written o p.served) (sym same) p.wrote in
    record {
      served = p.served;
      serves = p.moved.serves;
      enumerates = law;
      reads = reads_done left now then held new (requests_of p.served) p.moved.read next;
      writes = writes_end left then written was was p.served end.Done (λ e. cc) wrote (wrote_none was);
      moments = moments_of helped tidied limits seat first front left now last told begun greatest time held p.served p.moved;
      asks = p.asks;
      marks = p.whole;
    }

-- the wire ended, and its last words were written or cut
pub closed : {helped tidied : Call} {limits : Limits} {seat : ℕ} {first front : History} {left now written before was is : Option (List ℕ)} {S : Type 0} {asked : S → Option ℕ → ℕ → S → Type 0} {clock ticks : S} {last told : Option ℕ} {begun greatest : ℕ} {time : ℕ} {held : Buffered} {wired : WireEnd} {result : ConnEnd}
    (mid then : Option (List ℕ)) (new : Buffered)
    → Progress helped tidied limits seat first front left now written before asked clock ticks last told begun greatest time held
    → was ≡ before → NextOf held new now mid (Err wired) → then ≡ mid → Closed was is wired result → Enumerates limits front
    → Headline helped tidied limits seat first front left then written is asked clock ticks last begun greatest result
closed {helped} {tidied} {limits} {seat} {first} {front} {left} {now} {written} {before} {was} {is} {S} {asked} {clock} {ticks} {last} {told} {begun} {greatest} {time} {held} {wired} {result} mid then new p same next rest closes law =
    let moments = moments_of helped tidied limits seat first front left now last told begun greatest time held p.served p.moved in
    let wrote : WroteSoFar written was p.served = subst (λ (o : Option (List ℕ)). WroteSoFar written o p.served) (sym same) p.wrote in
    let read : NextOf held new now then (Err wired) = subst (λ (o : Option (List ℕ)). NextOf held new now o (Err wired)) (sym rest) next in
    let reads = reads_end left now then held new (requests_of p.served) wired closes.aim p.moved.read read closes.aims in
    let P : ConnEnd → Type 0 = λ r. Headline helped tidied limits seat first front left then written is asked clock ticks last begun greatest r in
    ⊎_elim
    (λ (fine : (result ≡ closes.aim) × Wrote was is (last_words closes.aim)).
    subst P (sym fine.0) (record {
      served = p.served;
      serves = p.moved.serves;
      enumerates = law;
      reads = reads;
      writes = writes_end left then written was is p.served closes.aim (λ e. never_a_fault wired (subst (λ (a : ConnEnd). Aims wired a) e closes.aims)) wrote fine.1;
      moments = moments;
      asks = p.asks;
      marks = marks_at p.served closes.aim p.whole;
    }))
    (λ (cut : (result ≡ end.WriteFault) × WroteSome was is (last_words closes.aim)).
    subst P (sym cut.0) (record {
      served = p.served;
      serves = p.moved.serves;
      enumerates = law;
      reads = reads_fault left now then held (requests_of p.served) p.moved.read;
      writes = writes_fault left then written was is p.served closes.aim p.whole reads wrote cut.1;
      moments = moments;
      asks = p.asks;
      marks = inl p.whole;
    }))
    closes.wrote

-- memory that runs out says nothing of the bytes
pub next_wants : (now after : Option (List ℕ)) (held new : Buffered) → NextOf held new now after (Err wire.NoMemory)
next_wants None after held new = tt
next_wants (Some bytes) after held new = tt
