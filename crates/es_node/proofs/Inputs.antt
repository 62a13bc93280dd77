-- Whole inputs, and two runs over one input.
use Rattle.std.proofs.Common.{◌≡◌, refl, sym, ap, ap₂, subst, ◌∙◌, inl, inr, ⊎_elim, Bool, true, false, ℕ, List, [], ◌∷◌, ◌++◌, take, Option, Some, None, arith}
use Rattle.es_types.specs.declared.limits.TheConstants.{CONNECTION_BYTES}
use Rattle.es_outside.specs.Told.{Rose}
use Rattle.http_wire.specs.declared.request.Request.{Request}
use Rattle.http_wire.specs.Requests.{IsEnd}
use Rattle.http_wire.proofs.OneHead.{ends_apart, spells_one}
use Rattle.list_machine.specs.declared.event.Limits.{Limits}
use Rattle.list_machine.specs.Run.{History}
use Rattle.list_machine.specs.Serving.{Call}
use Rattle.es_rest.specs.declared.connection.ConnEnd.{ConnEnd}
use Rattle.es_rest.specs.declared.connection.ConnEnd.TheVariants as end
use Rattle.es_node.specs.declared.run.Status.{Status}
use Rattle.es_node.specs.declared.run.Status.TheVariants.{Done, ReadFault, WriteFault}
use Rattle.es_rest.specs.Headline.{EndsWith, WroteWords, requests_of, texts_of, last_words}
use Rattle.es_rest.specs.Moments.{moments_of as clock_moments}
use Rattle.es_node.specs.Repeats.{AnyCall, Completes, EndsItself, HasRoom, NeverWants, ServesAlone, moments_of, responses_of}
use Rattle.es_node.specs.Solo.{Helps, Tidies}
use Rattle.es_node.specs.Running.{Replays, ServedOne, end_status, limits}
use Rattle.es_rest.specs.Talk.{Exchange, Serves, Tended}
use Rattle.reply_json.specs.declared.response.Response.{Response}
use Rattle.reply_json.specs.Replies.{text}
use Rattle.es_rest.proofs.Whole.{which_end}
use Rattle.es_node.proofs.Alike.{first_same, no_first, others_same, same_responses}

-- a run over a whole input
completes_one : (bytes : List ℕ) (after written now : Option (List ℕ)) (reads reads_after writes writes_after : ℕ) (status : Status)
    → ServedOne (Some bytes) after written now status
    → (status ≡ ReadFault → Rose reads reads_after) → (status ≡ WriteFault → Rose writes writes_after)
    → Completes (Some bytes) after written now reads reads_after writes writes_after status
completes_one bytes after written now reads reads_after writes writes_after status one read write requests spells room no_read
    no_write =
    ⊎_elim
    (λ wants. inl (one.status_is ∙ ap end_status wants))
    (λ done.
    let is : status ≡ Done = one.status_is ∙ ap end_status done.0 in
    inr (
      is,
      record {
        one = record {
          history = one.history;
          own = one.own;
          kept = one.kept;
          end = one.end;
          status_is = sym is ∙ one.status_is;
          clock = one.clock;
          headline = one.headline;
        };
        all = done.1;
      },
    ))
    (which_end bytes (requests_of one.headline.served) requests one.end one.headline.reads.0 spells room
    (λ e. no_read (read (one.status_is ∙ ap end_status e)))
    (λ e. no_write (write (one.status_is ∙ ap end_status e))))

pub completes : (left after written now : Option (List ℕ)) (reads reads_after writes writes_after : ℕ) (status : Status)
    → Replays left after written now status
    → (status ≡ ReadFault → Rose reads reads_after) → (status ≡ WriteFault → Rose writes writes_after)
    → Completes left after written now reads reads_after writes writes_after status
completes None after written now reads reads_after writes writes_after status replays read write = tt
completes (Some bytes) after written now reads reads_after writes writes_after status replays read write =
    λ requests spells room no_read no_write. ⊎_elim
    (λ one. completes_one bytes after written now reads reads_after writes writes_after status one read write
    requests spells room no_read no_write)
    (λ none. inl none.status_is)
    replays

-- ---- two runs over one input

-- an end of its own accord has a cause in the bytes
is_end : (bytes rest : List ℕ) (ended : ConnEnd) → EndsItself (end_status ended) → EndsWith bytes rest ended → IsEnd rest
is_end bytes rest end.Done itself h = inl (inl h.1)
is_end bytes rest end.Truncated itself h = inl (inr h.2)
is_end bytes rest end.Refused itself h = inr h
is_end bytes rest end.TooMuch itself h = inl h.1
is_end bytes rest end.ReadFault itself h = absurd itself
is_end bytes rest end.WriteFault itself h = absurd itself
is_end bytes rest end.NoMemory itself h = absurd itself

-- and one cause only
one_end : (bytes rest : List ℕ) (a b : ConnEnd) → EndsItself (end_status a) → EndsItself (end_status b) → EndsWith bytes rest a
    → EndsWith bytes rest b → a ≡ b
one_end bytes rest end.Done end.Done i j h k = refl
one_end bytes rest end.Done end.Truncated i j h k = absurd (k.1 h.1)
one_end bytes rest end.Done end.Refused i j h k = absurd (ends_apart rest (inl h.1) k)
one_end bytes rest end.Done end.TooMuch i j h k = absurd (omega (arith, h.0, k.0))
one_end bytes rest end.Truncated end.Done i j h k = absurd (h.1 k.1)
one_end bytes rest end.Truncated end.Truncated i j h k = refl
one_end bytes rest end.Truncated end.Refused i j h k = absurd (ends_apart rest (inr h.2) k)
one_end bytes rest end.Truncated end.TooMuch i j h k = absurd (omega (arith, h.0, k.0))
one_end bytes rest end.Refused end.Done i j h k = absurd (ends_apart rest (inl k.1) h)
one_end bytes rest end.Refused end.Truncated i j h k = absurd (ends_apart rest (inr k.2) h)
one_end bytes rest end.Refused end.Refused i j h k = refl
one_end bytes rest end.Refused end.TooMuch i j h k = absurd (ends_apart rest k.1 h)
one_end bytes rest end.TooMuch end.Done i j h k = absurd (omega (arith, k.0, h.0))
one_end bytes rest end.TooMuch end.Truncated i j h k = absurd (omega (arith, k.0, h.0))
one_end bytes rest end.TooMuch end.Refused i j h k = absurd (ends_apart rest h.1 k)
one_end bytes rest end.TooMuch end.TooMuch i j h k = refl
one_end bytes rest end.ReadFault b i j h k = absurd i
one_end bytes rest end.WriteFault b i j h k = absurd i
one_end bytes rest end.NoMemory b i j h k = absurd i
one_end bytes rest a end.ReadFault i j h k = absurd j
one_end bytes rest a end.WriteFault i j h k = absurd j
one_end bytes rest a end.NoMemory i j h k = absurd j

-- what was written, where nothing failed
wrote_all : (left rest : Option (List ℕ)) (written : List ℕ) (after : Option (List ℕ)) (served : List Exchange) (ended : ConnEnd)
    → EndsItself (end_status ended) → WroteWords left rest written after served ended
    → after ≡ Some (written ++ (texts_of served ++ last_words ended))
wrote_all left rest written after served end.Done itself h = h
wrote_all left rest written after served end.Truncated itself h = h
wrote_all left rest written after served end.Refused itself h = h
wrote_all left rest written after served end.TooMuch itself h = h
wrote_all left rest written after served end.ReadFault itself h = absurd itself
wrote_all left rest written after served end.WriteFault itself h = absurd itself
wrote_all left rest written after served end.NoMemory itself h = absurd itself

-- what is said of help and of the tidying may be left out
tended_any : (helped tidied : Call) (limits : Limits) (moment : ℕ) (written : Bool) (old new : History)
    → Tended helped tidied limits 0 moment written old new → Tended AnyCall AnyCall limits 0 moment written old new
tended_any helped tidied limits moment true old new h = record { between = h.between; help = tt; helps = h.helps; tidy = tt; tidies = h.tidies }
tended_any helped tidied limits moment false old new same = same

serves_any : (helped tidied : Call) (limits : Limits) (old new : History) (served : List Exchange)
    → Serves helped tidied limits 0 old new served → Serves AnyCall AnyCall limits 0 old new served
serves_any helped tidied limits old new [] same = same
serves_any helped tidied limits old new (x ∷ served) h = (
  h.0,
  record {
    answered = h.1.answered;
    responds = h.1.responds;
    tended = tended_any helped tidied limits x.moment x.written h.1.answered h.0 h.1.tended;
  },
  serves_any helped tidied limits h.0 new served h.2,
)

-- a run whose history kept room served alone
served_alone : {left after written now : Option (List ℕ)} {status : Status} (one : ServedOne left after written now status)
    → NeverWants one.headline.served → HasRoom limits one.history → ServesAlone limits one.history one.headline.served
served_alone one ample room =
    record {
      kept = one.kept;
      room = room;
      own = one.own;
      serves = serves_any Helps Tidies limits [] one.history one.headline.served one.headline.serves;
      never_fall = one.headline.moments.never_fall;
      ample = ample;
    }

-- the same responses to the same requests have the same texts
texts_same : (served others : List Exchange) → requests_of served ≡ requests_of others → responses_of served ≡ responses_of others
    → texts_of served ≡ texts_of others
texts_same [] [] requests responses = refl
texts_same [] (y ∷ others) requests responses = absurd (no_first _ _ (sym requests))
texts_same (x ∷ served) [] requests responses = absurd (no_first _ _ requests)
texts_same (x ∷ served) (y ∷ others) requests responses =
    ap₂ (λ (first rest : List ℕ). first ++ rest)
    (ap₂ (λ (r : Response) (q : Request). text r q.last)
    (first_same x.response y.response (responses_of served) (responses_of others) responses)
    (first_same x.request y.request (requests_of served) (requests_of others) requests))
    (texts_same served others (others_same x.request y.request (requests_of served) (requests_of others) requests)
    (others_same x.response y.response (responses_of served) (responses_of others) responses))

pub same_bytes : (bytes written : List ℕ) (left after now later : Option (List ℕ)) (status ended : Status)
    (one : ServedOne (Some bytes) left (Some written) now status)
    (other : ServedOne (Some bytes) after (Some written) later ended)
    → NeverWants one.headline.served → NeverWants other.headline.served → HasRoom limits one.history
    → HasRoom limits other.history
    → EndsItself status → EndsItself ended → (now ≡ later) × (status ≡ ended)
same_bytes bytes written left after now later status ended one other ample enough room free itself too =
    let i : EndsItself (end_status one.end) = subst EndsItself one.status_is itself in
    let j : EndsItself (end_status other.end) = subst EndsItself other.status_is too in
    let h = one.headline.reads.0 in
    let k = other.headline.reads.0 in
    let served = one.headline.served in
    let others = other.headline.served in
    let cut = spells_one (take CONNECTION_BYTES bytes) (requests_of served) (requests_of others) h.rest k.rest
    h.spells (is_end bytes h.rest one.end i h.ends) k.spells (is_end bytes k.rest other.end j k.ends) in
    let end_is : one.end ≡ other.end = one_end bytes k.rest one.end other.end i j
    (subst (λ (l : List ℕ). EndsWith bytes l one.end) cut.1 h.ends) k.ends in
    let moments : moments_of served ≡ moments_of others
    = one.headline.moments.told ∙ (ap (clock_moments 0 0) cut.0 ∙ sym other.headline.moments.told) in
    let same = same_responses limits one.history other.history served others
    (served_alone one ample room) (served_alone other enough free)
    cut.0 moments in
    let texts = texts_same served others cut.0 same in (
      wrote_all _ _ written now served one.end i one.headline.writes
          ∙ ap₂ (λ (l : List ℕ) (e : ConnEnd). Some (written ++ (l ++ last_words e))) texts end_is
          ∙ sym (wrote_all _ _ written later others other.end j other.headline.writes),
      one.status_is ∙ ap end_status end_is ∙ sym other.status_is,
    )
