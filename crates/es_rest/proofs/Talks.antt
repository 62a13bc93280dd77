-- The history while a request is asked.
use Rattle.std.proofs.Common.{◌≡◌, ◌≤◌, ◌<◌, zero, suc, length, slice_get, slice_index, List, [], ◌∷◌, ◌++◌, ℕ, Some, refl, sym, subst, ◌∙◌, ap, ⊎_elim, arith, append_assoc}
use Rattle.std.proofs.lemmas.List.{append-nil}
use Rattle.std.proofs.lemmas.List.Elements.{All-nil}
use Rattle.list_machine.specs.declared.event.Entry.{Entry}
use Rattle.list_machine.specs.declared.event.Event.{Event}
use Rattle.list_machine.specs.declared.event.Event.TheVariants.{Seal}
use Rattle.list_machine.specs.declared.event.Reply.{Reply}
use Rattle.list_machine.specs.declared.event.Reply.TheVariants.{Sealed, Spent}
use Rattle.list_machine.specs.declared.event.Limits.{Limits}
use Rattle.list_machine.specs.Run.{History, reply_of}
use Rattle.list_machine.specs.Serving.{Asked, MayHaveAsked, GrowsBeside, asked}
use Rattle.es_rest.specs.Led.{AreSealed}

-- nothing was added
pub grows_not : (seat most moment : ℕ) (old : History) → GrowsBeside seat most moment old old
grows_not seat most moment old =
    record {
      more = [];
      grows = sym (append-nil old);
      beside = record { none_asked = All-nil _; quiet = All-nil _; few = omega arith };
    }

-- the number at a place
pub at_place : (numbers : List ℕ) (count : ℕ) → count < length numbers → slice_get numbers count ≡ Some (slice_index numbers count)
at_place [] count h = absurd (omega (arith, h))
at_place (n ∷ numbers) zero h = refl
at_place (n ∷ numbers) (suc count) h = at_place numbers count (omega (arith, h))

-- the same entry by another name of its seat and limits
pub asked_as : {limits other : Limits} {seat others : ℕ} → other ≡ limits → others ≡ seat → (moment : ℕ) (event : Event) (old new : History) (reply : Reply)
    → Asked other others 4 old new (asked others moment event) reply → Asked limits seat 4 old new (asked seat moment event) reply
asked_as {limits} {other} {seat} {others} l s moment event old new reply h =
    subst (λ (k : Limits). Asked k seat 4 old new (asked seat moment event) reply) l (subst (λ (i : ℕ). Asked other i 4 old new (asked i moment event) reply) s h)

pub may_have_as : {seat others : ℕ} → others ≡ seat → (moment : ℕ) (event : Event) (old new : History)
    → MayHaveAsked others 4 old new (asked others moment event) → MayHaveAsked seat 4 old new (asked seat moment event)
may_have_as {seat} {others} s moment event old new h = subst (λ (i : ℕ). MayHaveAsked i 4 old new (asked i moment event)) s h

-- a history only grows while something is asked
asked_grows : (limits : Limits) (seat : ℕ) (old new : History) (entry : Entry) (reply : Reply) → Asked limits seat 4 old new entry reply → (more : History) × (new ≡ old ++ more)
asked_grows limits seat old new entry reply was =
    ⊎_elim
    (λ answered. (answered.adds.before ++ entry ∷ answered.adds.after, answered.adds.grows ∙ append_assoc old answered.adds.before (entry ∷ answered.adds.after)))
    (λ spent. (spent.beside.more, spent.beside.grows))
    was

-- what was sealed stays so
pub sealed_later : (limits : Limits) (seat : ℕ) (old new : History) (entry : Entry) (reply : Reply) (index numbers : List ℕ)
    → Asked limits seat 4 old new entry reply → AreSealed limits old index numbers → AreSealed limits new index numbers
sealed_later limits seat old new entry reply index numbers was are = λ shard upto e.
    let grows = asked_grows limits seat old new entry reply was in
    let has = are shard upto e in
    record {
      before = has.before;
      entry = has.entry;
      numbers = has.numbers;
      stands = record { after = has.stands.after ++ grows.0; is = grows.1 ∙ (ap (λ (l : History). l ++ grows.0) has.stands.is ∙ append_assoc has.before (has.entry ∷ has.stands.after) grows.0) };
      seals = has.seals;
      sealed = has.sealed;
      number = has.number;
    }

-- what a Seal answered stands in the history
pub were_sealed : (limits : Limits) (seat moment : ℕ) (old new : History) (index numbers : List ℕ) (reply : Reply)
    → Asked limits seat 4 old new (asked seat moment (Seal index)) reply → reply ≡ Sealed numbers → AreSealed limits new index numbers
were_sealed limits seat moment old new index numbers reply was is = λ shard upto e.
    ⊎_elim
    (λ answered. record {
      before = old ++ answered.adds.before;
      entry = asked seat moment (Seal index);
      numbers = numbers;
      stands = record { after = answered.adds.after; is = answered.adds.grows };
      seals = refl;
      sealed = sym answered.is ∙ is;
      number = e;
    })
    (λ spent. absurd (let e : Spent ≡ Sealed numbers = sym spent.is ∙ is in cc))
    was

-- a Seal that was answered numbers was answered not too many, where the machine answers not too many
pub few_sealed : (limits : Limits) (seat moment most : ℕ) (old new : History) (index numbers : List ℕ) (reply : Reply)
    → ((history : History) (entry : Entry) (index numbers : List ℕ) → entry.event ≡ Seal index → reply_of limits history entry ≡ Sealed numbers → length numbers ≤ most)
    → Asked limits seat 4 old new (asked seat moment (Seal index)) reply → reply ≡ Sealed numbers → length numbers ≤ most
few_sealed limits seat moment most old new index numbers reply law was is =
    ⊎_elim
    (λ answered. law (old ++ answered.adds.before) (asked seat moment (Seal index)) index numbers refl (sym answered.is ∙ is))
    (λ spent. absurd (let e : Spent ≡ Sealed numbers = sym spent.is ∙ is in cc))
    was
