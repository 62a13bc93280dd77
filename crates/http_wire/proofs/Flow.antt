-- How the steps of a call join.
use Rattle.std.proofs.Common.{◌≡◌, ◌≢◌, ℕ, ◌+◌, ◌-◌, ◌<◌, ◌≤◌, List, [], ◌++◌, length, take, drop, Option, Some, None, Ok, true, false, ltb, zero, suc, refl, sym, ap, ◌∙◌, subst, ⊎_elim, arith}
use Rattle.std.proofs.lemmas.List.{append-nil, append_assoc, length-append, length-take, length-take-le, take_all, drop_all, take-append-drop, drop-take, drop-drop, drop-append-le, nil_from_length}
use Rattle.std.proofs.lemmas.Bool.{cases_lt, ltb-true, ltb-false}
use Rattle.std.proofs.Math.Seq.{take-append-add}
use Rattle.http_wire.specs.declared.wire.WireEnd.{WireEnd}
use Rattle.http_wire.specs.declared.wire.WireEnd.TheVariants.{Truncated, NotBuilt, ReadFault, TooMuch, NoMemory}
use Rattle.http_wire.specs.Requests.{HasNoRequest, IsRefused, IsUnfinished}
use Rattle.http_wire.specs.Stream.{Buffered, HasEnded, Wrote, stream_of}
use Rattle.http_wire.specs.Steps.{Came, CameFrom, EndedOf, IsDry, IsNothing, ReadMore}
use Rattle.es_outside.specs.Told.{Gives, Takes}

dry_is : (y z : Option (List ℕ)) (after : List ℕ) → IsDry y z → y ≡ Some after → (after ≡ []) × (z ≡ Some [])
dry_is None z after dry e = let no : ⊥ = cc in absurd no
dry_is (Some l) z after dry e = let same : l ≡ after = cc in (sym same ∙ dry.0, dry.1)

take_nil : (m : ℕ) → ◌≡◌ {A = List ℕ} (take m []) []
take_nil zero = refl
take_nil (suc m) = refl

drop_nil : (m : ℕ) → ◌≡◌ {A = List ℕ} (drop m []) []
drop_nil zero = refl
drop_nil (suc m) = refl

pub take_add : (n m : ℕ) (xs : List ℕ) → take (n + m) xs ≡ take n xs ++ take m (drop n xs)
take_add n m xs =
    ⊎_elim (λ (h : length xs < n).
    let a : length xs ≤ n + m = omega arith in
    let b : length xs ≤ n = omega arith in
    take_all (n + m) xs a ∙ sym (append-nil xs) ∙ sym (ap (λ (l : List ℕ). xs ++ l) (ap (take m) (drop_all n xs b) ∙ take_nil m)) ∙ ap (λ (l : List ℕ). l ++ take m (drop n xs)) (sym (take_all n xs b)))
    (λ (h : n ≤ length xs).
    let long : length (take n xs) ≡ n = length-take-le n xs h in
    ap (take (n + m)) (sym (take-append-drop n xs))
    ∙ ap (λ k. take (k + m) (take n xs ++ drop n xs)) (sym long)
    ∙ take-append-add (take n xs) (drop n xs) m)
    (cases_lt (length xs) n)

from_trans : (a b c : Option (List ℕ)) (xs ys : List ℕ) → CameFrom a b xs → CameFrom b c ys → CameFrom a c (xs ++ ys)
from_trans None b c xs ys p q = tt
from_trans (Some before) None c xs ys p q = let no : ⊥ = cc in absurd no
from_trans (Some before) (Some mid) c xs ys p q =
    let same : p.0 ≡ mid = cc in
    (q.0, p.1 ∙ ap (λ (l : List ℕ). xs ++ l) (same ∙ q.1) ∙ sym (append_assoc xs ys q.0), q.2)

pub came_trans : {a b c : Buffered} {x y z : Option (List ℕ)} → Came a b x y → Came b c y z → Came a c x z
came_trans {a = a} {b = b} {c = c} {x = x} {y = y} {z = z} p q =
    record {
      taken = p.taken ++ q.taken;
      bytes = q.bytes ∙ ap (λ (l : List ℕ). l ++ q.taken) p.bytes ∙ append_assoc a.bytes p.taken q.taken;
      room = omega (arith, p.room, q.room, length-append p.taken q.taken);
      told = from_trans x y z p.taken q.taken p.told q.told;
    }

-- the stream is the same after bytes came
stream_same : (a b : Buffered) (taken after : List ℕ) → b.bytes ≡ a.bytes ++ taken → b.room + length taken ≡ a.room
    → stream_of b after ≡ stream_of a (taken ++ after)
stream_same a b taken after e r =
    let sum : length taken + b.room ≡ a.room = omega arith in
    let front : take a.room (taken ++ after) ≡ taken ++ take b.room after = ap (λ n. take n (taken ++ after)) (sym sum) ∙ take-append-add taken after b.room in
    ap (λ (l : List ℕ). l ++ take b.room after) e ∙ append_assoc a.bytes taken (take b.room after) ∙ ap (λ (l : List ℕ). a.bytes ++ l) (sym front)

ended_told : (a b : Buffered) (taken after : List ℕ) (left : Option (List ℕ)) (end : WireEnd)
    → b.bytes ≡ a.bytes ++ taken → b.room + length taken ≡ a.room → HasEnded b after left end → HasEnded a (taken ++ after) left end
ended_told a b taken after left Truncated e r h =
    let all : b.bytes ++ after ≡ a.bytes ++ (taken ++ after) = ap (λ (l : List ℕ). l ++ after) e ∙ append_assoc a.bytes taken after in
    (omega (arith, h.0, r, length-append taken after), (λ z. h.1 (all ∙ z)), subst IsUnfinished all h.2, h.3)
ended_told a b taken after left NotBuilt e r h = subst IsRefused (stream_same a b taken after e r) h
ended_told a b taken after left TooMuch e r h =
    (omega (arith, h.0, r, length-append taken after), subst HasNoRequest (stream_same a b taken after e r) h.1)
ended_told a b taken after left ReadFault e r h =
    let joined : b.bytes ++ h.0 ≡ a.bytes ++ (taken ++ h.0) = ap (λ (l : List ℕ). l ++ h.0) e ∙ append_assoc a.bytes taken h.0 in (
      taken ++ h.0,
      h.1,
      record { from = ap (λ (l : List ℕ). taken ++ l) h.2.from ∙ sym (append_assoc taken h.0 h.1); within = omega (arith, h.2.within, r, length-append taken h.0) },
      h.3,
      subst HasNoRequest joined h.4,
    )
ended_told a b taken after left NoMemory e r h = tt

-- an end has the same cause, as seen from before bytes came
pub ended_after : (a b : Buffered) (x y z : Option (List ℕ)) (end : WireEnd) → Came a b x y → EndedOf b y z end → EndedOf a x z end
ended_after a b None y z end p q = tt
ended_after a b (Some before) y z end p q =
    let there : HasEnded b p.told.0 z end = subst (λ (l : Option (List ℕ)). EndedOf b l z end) p.told.2 q in
    subst (λ (l : List ℕ). HasEnded a l z end) (sym p.told.1) (ended_told a b p.taken p.told.0 z end p.bytes p.room there)

-- a call that ends at once
pub ended_by_fault : (held : Buffered) (before left : Option (List ℕ)) → left ≡ before → HasNoRequest held.bytes → EndedOf held before left ReadFault
ended_by_fault held None left e h = tt
ended_by_fault held (Some before) left e h = (
  [],
  before,
  record { from = refl; within = omega arith },
  e,
  subst HasNoRequest (sym (append-nil held.bytes)) h,
)

pub ended_by_much : (held : Buffered) (before left : Option (List ℕ)) (room : List ℕ) (count : ℕ) → held.room ≡ 0 → 0 < count
    → Gives before left room count → HasNoRequest held.bytes → EndedOf held before left TooMuch
ended_by_much held None left room count e some gives h = tt
ended_by_much held (Some before) left room count e some gives h =
    let none : take held.room before ≡ [] = ap (λ n. take n before) e in
    let same : stream_of held before ≡ held.bytes = ap (λ (l : List ℕ). held.bytes ++ l) none ∙ append-nil held.bytes in
    (omega (arith, e, some, gives.enough), subst HasNoRequest (sym same) h)

pub ended_by_end : (held : Buffered) (before left : Option (List ℕ)) → IsDry before left → held.bytes ≢ [] → IsUnfinished held.bytes → EndedOf held before left Truncated
ended_by_end held None left dry some h = tt
ended_by_end held (Some before) left dry some h =
    let same : held.bytes ++ before ≡ held.bytes = ap (λ (l : List ℕ). held.bytes ++ l) dry.0 ∙ append-nil held.bytes in
    let none : length before ≡ 0 = ap length dry.0 in
    (omega (arith, none), (λ z. some (sym same ∙ z)), subst IsUnfinished (sym same) h, dry.1)

pub ended_refused : (held : Buffered) (before left : Option (List ℕ)) → ((more : List ℕ) → IsRefused (held.bytes ++ more)) → EndedOf held before left NotBuilt
ended_refused held None left h = tt
ended_refused held (Some before) left h = h (take held.room before)

-- nothing was held or left
pub nothing : (old now : Buffered) (x y z : Option (List ℕ)) → Came old now x y → IsDry y z → now.bytes ≡ [] → IsNothing old x z
nothing old now None y z c dry none = tt
nothing old now (Some before) y z c dry none =
    let both : old.bytes ++ c.taken ≡ [] = sym c.bytes ∙ none in
    let long : length old.bytes + length c.taken ≡ 0 = sym (length-append old.bytes c.taken) ∙ ap length both in
    let left = dry_is y z c.told.0 dry c.told.2 in
    let all : length before ≡ length c.taken + length c.told.0 = ap length c.told.1 ∙ length-append c.taken c.told.0 in
    let zero : length c.told.0 ≡ 0 = ap length left.0 in
    (nil_from_length old.bytes (omega (arith, long)), nil_from_length before (omega (arith, all, zero, long)), left.1)

-- a part of a list, where a first piece is let go
pub advance_bytes : (bytes : List ℕ) (start end count : ℕ) → start + count ≤ end
    → take (end - (start + count)) (drop (start + count) bytes) ≡ drop count (take (end - start) (drop start bytes))
advance_bytes bytes start end count h =
    let sum : end - start ≡ count + (end - (start + count)) = omega arith in
    sym (ap (λ n. drop count (take n (drop start bytes))) sum
    ∙ drop-take count (end - (start + count)) (drop start bytes)
    ∙ ap (take (end - (start + count))) (drop-drop count start bytes))

-- a part of a list that ends further on, where what stands before it stays
pub read_bytes : (mid new : List ℕ) (start end count : ℕ) → start ≤ end → end + count ≤ length new → take end new ≡ take end mid
    → take ((end + count) - start) (drop start new) ≡ take (end - start) (drop start mid) ++ take count (drop end new)
read_bytes mid new start end count order within same =
    let whole : start + ((end + count) - start) ≡ end + count = omega arith in
    let part : start + (end - start) ≡ end = omega arith in
    let wide : start ≤ length (take end new) = omega (arith, length-take end new) in
    let front : drop start (take end new) ≡ take (end - start) (drop start mid)
    = ap (drop start) same ∙ ap (λ n. drop start (take n mid)) (sym part) ∙ drop-take start (end - start) mid in
    sym (drop-take start ((end + count) - start) new)
    ∙ ap (λ n. drop start (take n new)) whole
    ∙ ap (drop start) (take_add end count new)
    ∙ drop-append-le start (take end new) (take count (drop end new)) wide
    ∙ ap (λ (l : List ℕ). l ++ take count (drop end new)) front

told_from : (before left : Option (List ℕ)) (room : List ℕ) (count : ℕ) → Gives before left room count → CameFrom before left (take count room)
told_from None left room count g = tt
told_from (Some before) left room count g =
    (drop count before, sym (take-append-drop count before) ∙ ap (λ (l : List ℕ). l ++ drop count before) (sym g.same), g.left)

dry_from : (before left : Option (List ℕ)) (room : List ℕ) (count : ℕ) → count ≡ 0 → Gives before left room count → IsDry before left
dry_from None left room count z g = tt
dry_from (Some before) left room count z g =
    let none : before ≡ [] = g.end z in
    (none, g.left ∙ ap Some (ap (λ (l : List ℕ). drop count l) none ∙ drop_nil count))

-- what a read of that many bytes gives
pub read_ok : (old new : Buffered) (before left : Option (List ℕ)) (room : List ℕ) (count : ℕ) → new.bytes ≡ old.bytes ++ take count room
    → new.room + count ≡ old.room → count ≤ length room → Gives before left room count → ReadMore old new before left (Ok (ltb 0 count))
read_ok old new before left room count bytes sum within gives =
    elim (ltb 0 count) as (λ v. ltb 0 count ≡ v → ReadMore old new before left (Ok v)) [
      | true ↦ λ e.
          let some : 0 < count = ltb-true 0 count e in (
            record {
              taken = take count room;
              bytes = bytes;
              room = omega (arith, sum, length-take-le count room within);
              told = told_from before left room count gives;
            },
            omega (arith, sum, some),
          )
      | false ↦ λ e. let none : count ≡ 0 = omega (arith, ltb-false 0 count e) in dry_from before left room count none gives
    ] refl

-- what was written, after one more piece
pub wrote_more : (first now after : Option (List ℕ)) (bytes piece : List ℕ) (at count : ℕ) → Wrote first now (take at bytes)
    → Takes now after piece count → piece ≡ drop at bytes → Wrote first after (take (at + count) bytes)
wrote_more None now after bytes piece at count h t e = tt
wrote_more (Some written) None after bytes piece at count h t e = let no : ⊥ = cc in absurd no
wrote_more (Some written) (Some then) after bytes piece at count h t e =
    let same : then ≡ written ++ take at bytes = cc in
    t ∙ ap Some (ap (λ (l : List ℕ). l ++ take count piece) same
    ∙ append_assoc written (take at bytes) (take count piece)
    ∙ ap (λ (l : List ℕ). written ++ l) (ap (λ (l : List ℕ). take at bytes ++ take count l) e ∙ sym (take_add at count bytes)))

-- a count that didn't rise stands as it was
pub unchanged : (old new : ℕ) → old ≤ new → (old < new → ⊥) → new ≡ old
unchanged old new grows none = ⊎_elim (λ (h : old < new). absurd (none h)) (λ (h : new ≤ old). omega arith) (cases_lt old new)
