-- Bytes begin with one head and one request only.
use Rattle.std.proofs.Common.{◌≡◌, ℕ, ◌+◌, ◌≤◌, List, [], ◌∷◌, ◌++◌, length, take, drop, map, filter, Option, Some, None, refl, sym, ap, ◌∙◌, subst, inl, inr, arith}
use Rattle.std.proofs.lemmas.List.{append_cancel_left, length-append, take_all, take_at, drop_at}
use Rattle.es_types.specs.declared.limits.TheConstants.{HEAD_BYTES}
use Rattle.httparse.specs.Grammar.{RequestHead}
use Rattle.httparse.specs.Spans.{name_and_value}
use Rattle.httparse.proofs.GrammarLemmas.{request_unique}
use Rattle.http_wire.specs.declared.request.Request.{Request}
use Rattle.http_wire.specs.Heads.{Head, IsHead, head_len, is_length, is_moment, length_of, moment_of}
use Rattle.http_wire.specs.Requests.{Begins, BeginsWithHead, HasNoRequest, IsEnd, IsRefused, Spells, request_of}

head_same : (a b : Head) → a.method ≡ b.method → a.target ≡ b.target → a.moment ≡ b.moment → a.body ≡ b.body → a ≡ b
head_same a b m t w n =
    ap (λ (x : List ℕ). let h : Head = record { method = x; target = a.target; moment = a.moment; body = a.body } in h) m
    ∙ ap (λ (x : List ℕ). let h : Head = record { method = b.method; target = x; moment = a.moment; body = a.body } in h) t
    ∙ ap (λ (x : Option (List ℕ)). let h : Head = record { method = b.method; target = b.target; moment = x; body = a.body } in h) w
    ∙ ap (λ (x : ℕ). let h : Head = record { method = b.method; target = b.target; moment = b.moment; body = x } in h) n

some_same : {A : Type 0} (m n : A) → ◌≡◌ {A = Option A} (Some m) (Some n) → m ≡ n
some_same m n h = cc

none_some : (n : ℕ) → ◌≡◌ {A = Option ℕ} None (Some n) → ⊥
none_some n h = cc

is_head_unique : (bytes : List ℕ) (a b : Head) → IsHead bytes a → IsHead bytes b → a ≡ b
is_head_unique bytes a b x y =
    let same : x.grammar ≡ y.grammar = (request_unique bytes x.grammar y.grammar [] [] x.reads y.reads).0 in
    head_same a b
    (x.method ∙ ap (λ (g : RequestHead). g.method) same ∙ sym y.method)
    (x.target ∙ ap (λ (g : RequestHead). g.target) same ∙ sym y.target)
    (some_same a.moment b.moment (sym x.moment ∙ ap (λ (g : RequestHead). moment_of (filter is_moment (map name_and_value g.fields))) same ∙ y.moment))
    (some_same a.body b.body (sym x.body ∙ ap (λ (g : RequestHead). length_of (filter is_length (map name_and_value g.fields))) same ∙ y.body))

begins_unique : (stream b c : List ℕ) (g h : Head) → BeginsWithHead stream b g → BeginsWithHead stream c h → (b ≡ c) × (g ≡ h)
begins_unique stream b c g h x y =
    let long : length b ≡ length c = some_same (length b) (length c) (sym x.ends ∙ y.ends) in
    let same : b ≡ c = sym x.first ∙ ap (λ n. take n stream) long ∙ y.first in
    (same, is_head_unique c g h (subst (λ (l : List ℕ). IsHead l g) same x.is) y.is)

split_unique : (a b x y : List ℕ) → a ++ x ≡ b ++ y → length a ≡ length b → (a ≡ b) × (x ≡ y)
split_unique a b x y e long = (
  sym (take_at a x (length a) refl) ∙ ap (take (length a)) e ∙ take_at b y (length a) (sym long),
  sym (drop_at a x (length a) refl) ∙ ap (drop (length a)) e ∙ drop_at b y (length a) (sym long),
)

begins_one : (stream : List ℕ) (r s : Request) (rest other : List ℕ) → Begins stream r rest → Begins stream s other → (r ≡ s) × (rest ≡ other)
begins_one stream r s rest other x y =
    let front = begins_unique stream x.bytes y.bytes x.head y.head x.begins y.begins in
    let body : length x.body ≡ length y.body = x.long ∙ ap (λ (h : Head). h.body) front.1 ∙ sym y.long in
    let head : length x.bytes ≡ length y.bytes = ap length front.0 in
    let long : length (x.bytes ++ x.body) ≡ length (y.bytes ++ y.body)
    = omega (arith, body, head, length-append x.bytes x.body, length-append y.bytes y.body) in
    let parts = split_unique (x.bytes ++ x.body) (y.bytes ++ y.body) rest other (sym x.is ∙ y.is) long in
    let bodies : x.body ≡ y.body = append_cancel_left x.bytes x.body y.body (parts.0 ∙ ap (λ (l : List ℕ). l ++ y.body) (sym front.0)) in (
      x.request_is ∙ ap (λ (h : Head). request_of h x.body) front.1 ∙ ap (request_of y.head) bodies ∙ sym y.request_is,
      parts.1,
    )

begins_long : (stream : List ℕ) (r : Request) (rest : List ℕ) (x : Begins stream r rest) → length x.bytes + x.head.body ≤ length stream
begins_long stream r rest x =
    let all : length stream ≡ length ((x.bytes ++ x.body) ++ rest) = ap length x.is in
    omega (arith, all, length-append (x.bytes ++ x.body) rest, length-append x.bytes x.body, x.long)

-- an end at the front rules a request out
begins_no_end : (stream : List ℕ) (r : Request) (rest : List ℕ) → Begins stream r rest → IsEnd stream → ⊥
begins_no_end stream r rest x (inl (inl empty)) =
    none_some (length x.bytes) (sym (ap (λ (l : List ℕ). head_len (take HEAD_BYTES l)) empty) ∙ x.begins.ends)
begins_no_end stream r rest x (inl (inr (inl none))) =
    let low : length stream ≤ HEAD_BYTES = omega (arith, none.1) in
    none_some (length x.bytes) (sym (ap head_len (take_all HEAD_BYTES stream low) ∙ none.0) ∙ x.begins.ends)
begins_no_end stream r rest x (inl (inr (inr more))) =
    let same = begins_unique stream x.bytes more.0 x.head more.1 x.begins more.2 in
    let long : length x.bytes ≡ length more.0 = ap length same.0 in
    let body : x.head.body ≡ more.1.body = ap (λ (h : Head). h.body) same.1 in
    omega (arith, begins_long stream r rest x, long, body, more.3)
begins_no_end stream r rest x (inr (inl none)) = none_some (length x.bytes) (sym none.0 ∙ x.begins.ends)
begins_no_end stream r rest x (inr (inr last)) =
    let long : last.0 ≡ length x.bytes = some_same last.0 (length x.bytes) (sym last.1 ∙ x.begins.ends) in
    last.2 x.head (subst (λ (l : List ℕ). IsHead l x.head) (sym (ap (λ n. take n stream) long ∙ x.begins.first)) x.begins.is)

pub spells_one : (stream : List ℕ) (requests others : List Request) (rest other : List ℕ)
    → Spells stream requests rest → IsEnd rest → Spells stream others other → IsEnd other → (requests ≡ others) × (rest ≡ other)
spells_one stream [] [] rest other x p y q = (refl, sym x ∙ y)
spells_one stream [] (s ∷ others) rest other x p y q = absurd (begins_no_end stream s y.0 y.1 (subst IsEnd (sym x) p))
spells_one stream (r ∷ requests) [] rest other x p y q = absurd (begins_no_end stream r x.0 x.1 (subst IsEnd (sym y) q))
spells_one stream (r ∷ requests) (s ∷ others) rest other x p y q =
    let one = begins_one stream r s x.0 y.0 x.1 y.1 in
    let more = spells_one x.0 requests others rest other x.2 p (subst (λ (l : List ℕ). Spells l others other) (sym one.1) y.2) q in
    (ap (λ (z : Request). z ∷ requests) one.0 ∙ ap (λ (l : List Request). s ∷ l) more.0, more.1)

-- what is unfinished is not refused
pub ends_apart : (bytes : List ℕ) → HasNoRequest bytes → IsRefused bytes → ⊥
ends_apart bytes (inl empty) (inl none) =
    let long : length bytes ≡ 0 = ap length empty in omega (arith, none.1, long)
ends_apart bytes (inl empty) (inr last) = none_some last.0 (sym (ap (λ (l : List ℕ). head_len (take HEAD_BYTES l)) empty) ∙ last.1)
ends_apart bytes (inr (inl short)) (inl none) = omega (arith, short.1, none.1)
ends_apart bytes (inr (inl short)) (inr last) =
    let low : length bytes ≤ HEAD_BYTES = omega (arith, short.1) in
    none_some last.0 (sym (ap head_len (take_all HEAD_BYTES bytes low) ∙ short.0) ∙ last.1)
ends_apart bytes (inr (inr head)) (inl none) = none_some (length head.0) (sym none.0 ∙ head.2.ends)
ends_apart bytes (inr (inr head)) (inr last) =
    let long : last.0 ≡ length head.0 = some_same last.0 (length head.0) (sym last.1 ∙ head.2.ends) in
    last.2 head.1 (subst (λ (l : List ℕ). IsHead l head.1) (sym (ap (λ n. take n bytes) long ∙ head.2.first)) head.2.is)
