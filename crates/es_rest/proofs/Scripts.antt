-- Scripts, and the parts that were asked of them.
use Rattle.std.proofs.Common.{◌≡◌, refl, sym, ap, subst, ◌∙◌, inl, inr, ℕ, zero, suc, ◌+◌, ◌<◌, ◌≤◌, Bool, true, false, List, [], ◌∷◌, ◌++◌, length, drop, get_or, slice_get, Option, Some, None, ⊎_elim, arith}
use Rattle.std.specs.Prelude.{is_some, if◌then◌else◌}
use Rattle.list_machine.specs.declared.event.Event.{Event}
use Rattle.list_machine.specs.declared.event.Reply.{Reply}
use Rattle.list_machine.specs.declared.event.Reply.TheVariants as reply
use Rattle.list_machine.specs.declared.event.Limits.{Limits}
use Rattle.list_machine.specs.Run.{History}
use Rattle.list_machine.specs.Serving.{Asked, MayHaveAsked, asked}
use Rattle.reply_json.specs.declared.fault.RestFault.{RestFault}
use Rattle.es_rest.specs.declared.refusal.Named.{Named}
use Rattle.es_rest.specs.declared.refusal.Named.TheVariants as named
use Rattle.es_rest.specs.Scripts.{CutShort, Part, Script, Talks, first_of, is_refused, named_by, refusal, refused}

-- ---- refusals

pub first_of-none : (fault : Option RestFault) → first_of fault None ≡ fault
first_of-none None = refl
first_of-none (Some fault) = refl

first-none : (a b : Option RestFault) → first_of a b ≡ None → a ≡ None
first-none None b e = refl
first-none (Some fault) b e = absurd (cc)

rest-none : (a b : Option RestFault) → first_of a b ≡ None → b ≡ None
rest-none None b e = e
rest-none (Some fault) b e = absurd (cc)

-- after a part without a refusal
pub refused-append : (part more : Part) → refused part ≡ None → refused (part ++ more) ≡ refused more
refused-append [] more e = refl
refused-append (said ∷ part) more e =
    ap (λ r. first_of r (refused (part ++ more))) (first-none (refusal (named_by said.0) said.1) (refused part) e)
    ∙ refused-append part more (rest-none (refusal (named_by said.0) said.1) (refused part) e)

-- a refusal is one by whatever name
pub refused_by : (name other : Named) (said : Reply) → is_some (refusal name said) ≡ is_some (refusal other said)
refused_by name other reply.Done = refl
refused_by name other (reply.Wrote result seq) = refl
refused_by name other (reply.Sealed numbers) = refl
refused_by name other (reply.Opened number) = refl
refused_by name other (reply.Found answer) = refl
refused_by name other (reply.Closed freed) = refl
refused_by name other reply.Spent = refl
refused_by name other reply.NoIndex = refl
refused_by name other reply.Exists = refl
refused_by name other reply.Missing = refl
refused_by name other (reply.BadDoc doc) = refl
refused_by name other reply.BadQuery = refl
refused_by name other reply.BadSort = refl
refused_by name other reply.BadAfter = refl
refused_by name other (reply.TooMany limit) = refl
refused_by name other reply.ShardFull = refl

pub none_of : {X : Type 0} (o : Option X) → is_some o ≡ false → o ≡ None
none_of None e = refl
none_of (Some x) e = absurd (cc)

pub not_refused : (name : Named) (said : Reply) → is_refused said ≡ false → refusal name said ≡ None
not_refused name said e = none_of (refusal name said) (refused_by name (named.Context []) said ∙ e)

pub if_false : {A : Type 0} (b : Bool) (x y : A) → b ≡ false → (if b then x else y) ≡ y
if_false false x y e = refl
if_false true x y e = absurd (cc)

pub if_true : {A : Type 0} (b : Bool) (x y : A) → b ≡ true → (if b then x else y) ≡ x
if_true true x y e = refl
if_true false x y e = absurd (cc)

-- ---- lists

pub drop_at : {A : Type 0} (xs : List A) (count : ℕ) (x : A) → slice_get xs count ≡ Some x → drop count xs ≡ x ∷ drop (count + 1) xs
drop_at [] count x e = absurd (cc)
drop_at (y ∷ xs) zero x e = cc
drop_at {A} (y ∷ xs) (suc count) x e =
    let more : suc (count + 1) ≡ suc count + 1 = omega arith in
    drop_at xs count x e ∙ ap (λ (n : ℕ). x ∷ drop n (y ∷ xs)) more

-- the item at a place
pub at_item : {A : Type 0} (xs : List A) (count : ℕ) (x : A) → count < length xs → x ≡ get_or xs count x → slice_get xs count ≡ Some x
at_item [] count x h e = absurd (omega (arith, h))
at_item (y ∷ xs) zero x h e = ap Some (sym e)
at_item (y ∷ xs) (suc count) x h e = at_item xs count x (omega (arith, h)) e

pub drop_all : {A : Type 0} (xs : List A) (count : ℕ) → length xs ≤ count → drop count xs ≡ []
drop_all [] zero h = refl
drop_all [] (suc count) h = refl
drop_all (x ∷ xs) zero h = absurd (omega (arith, h))
drop_all (x ∷ xs) (suc count) h = drop_all xs count (omega (arith, h))

-- ---- talks

module _ (limits : Limits) (seat moment : ℕ) where
  -- the same script by another name
  pub talks_same : (s t : Script) (old new : History) (part : Part) → ((rest : Part) → s rest ≡ t rest)
      → Talks limits seat moment s old new part → Talks limits seat moment t old new part
  talks_same s t old new [] same h = h
  talks_same s t old new (said ∷ part) same h =
      (h.0, sym (same []) ∙ h.1, h.2, talks_same (λ rest. s (said ∷ rest)) (λ rest. t (said ∷ rest)) h.0 new part (λ rest. same (said ∷ rest)) h.3)

  -- after a part another script went on
  pub talks_on : (s t : Script) (old mid new : History) (part more : Part) → Talks limits seat moment s old mid part
      → ((rest : Part) → s (part ++ rest) ≡ t rest) → Talks limits seat moment t mid new more → Talks limits seat moment s old new (part ++ more)
  talks_on s t old mid new [] more h goes k =
      subst (λ (l : History). Talks limits seat moment s l new more) h (talks_same t s mid new more (λ rest. sym (goes rest)) k)
  talks_on s t old mid new (said ∷ part) more h goes k =
      (h.0, h.1, h.2, talks_on (λ rest. s (said ∷ rest)) t h.0 mid new part more h.3 (λ rest. goes rest) k)

  -- one event
  pub talks_one : (s : Script) (old new : History) (event : Event) (said : Reply) → s [] ≡ Some event
      → Asked limits seat 4 old new (asked seat moment event) said → Talks limits seat moment s old new ((event, said) ∷ [])
  talks_one s old new event said next was = (new, next, was, refl)

  -- nothing of a script was asked
  pub cut_none : (s : Script) (old : History) → CutShort limits seat moment s old old
  cut_none s old = record { part = []; mid = old; talks = refl; rest = inl refl }

  -- its first event perhaps
  pub cut_first : (s : Script) (old new : History) (event : Event) → s [] ≡ Some event → MayHaveAsked seat 4 old new (asked seat moment event)
      → CutShort limits seat moment s old new
  cut_first s old new event next tried = record { part = []; mid = old; talks = refl; rest = inr (event, next, tried) }

  -- after a part another script was cut short
  pub cut_on : (s t : Script) (old mid new : History) (part : Part) → Talks limits seat moment s old mid part
      → ((rest : Part) → s (part ++ rest) ≡ t rest) → CutShort limits seat moment t mid new → CutShort limits seat moment s old new
  cut_on s t old mid new part h goes c =
      record {
        part = part ++ c.part;
        mid = c.mid;
        talks = talks_on s t old mid c.mid part c.part h goes c.talks;
        rest = ⊎_elim (λ same. inl same) (λ tried. inr (tried.0, goes c.part ∙ tried.1, tried.2)) c.rest;
      }
