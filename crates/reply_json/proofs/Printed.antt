-- What printing rests on: the phrase of a number that is no status code, a body after its head, and one more
-- piece at the end of a printed list.
use Rattle.std.proofs.Common.{◌≡◌, Bool, true, false, cond, eqb, ltb, List, [], ◌∷◌, ◌++◌, length, take, get_or, ℕ, ◌<◌, ◌≤◌, ◌+◌, Option, Some, None, refl, ap, ◌∙◌, sym, arith, append_assoc, append-nil}
use Rattle.std.specs.Prelude.{codes, decimal, nat_lt, nat_le, IsTrue, unwrap_or}
use Rattle.std.specs.Fmt.{digits}
use Rattle.std.proofs.lemmas.Bool.{le-ltb, leb-true, lt-ltb, ltb-true, ne_eqb}
use Rattle.std.proofs.lemmas.List.{take_more, length-take-le}
use Rattle.http.specs.StatusCode.{IsStatusCode, reason_phrase}
use Rattle.json.specs.Print.{escape_byte, quoted}
use Rattle.es_types.specs.declared.row.Value.{Value}
use Rattle.list_machine.specs.declared.page.request.Hit.{Hit}
use Rattle.reply_json.specs.declared.fault.RestFault.TheVariants.{NoMemory}
use Rattle.reply_json.specs.declared.response.BulkLine.{BulkLine}
use Rattle.reply_json.specs.declared.response.Response.TheVariants.{Fault}
use Rattle.reply_json.specs.Bulk.{line_text, lines_text}
use Rattle.reply_json.specs.Faults.{cause_members, fault_text}
use Rattle.reply_json.specs.Frame.{close_line, crlf, frame}
use Rattle.reply_json.specs.Hits.{hit_text, hits_text, sort_text, value_text, values_text}
use Rattle.reply_json.specs.Pieces.{comma_if, joined}
use Rattle.reply_json.specs.Replies.{text}

-- one code that the number is not
skip : (n k : ℕ) (phrase : List ℕ) (rest : Option (List ℕ)) → (IsStatusCode n → ⊥) → IsTrue (nat_le 100 k) → IsTrue (nat_lt k 1000) → rest ≡ None → cond (eqb n k) (Some phrase) rest ≡ None
skip n k phrase rest none low high empty =
    let least : 100 ≤ k = leb-true 100 k low in
    let greatest : k < 1000 = ltb-true k 1000 high in
    ap (λ b. cond b (Some phrase) rest) (ne_eqb n k (λ e. none (omega arith, omega arith))) ∙ empty

-- a number that is no status code has no phrase
pub no_phrase : (n : ℕ) → (IsStatusCode n → ⊥) → reason_phrase n ≡ None
no_phrase n none =
    skip n 100 _ _ none refl refl (skip n 101 _ _ none refl refl (skip n 102 _ _ none refl refl (skip n 103 _ _ none refl refl (
    skip n 200 _ _ none refl refl (skip n 201 _ _ none refl refl (skip n 202 _ _ none refl refl (skip n 203 _ _ none refl refl (
    skip n 204 _ _ none refl refl (skip n 205 _ _ none refl refl (skip n 206 _ _ none refl refl (skip n 207 _ _ none refl refl (
    skip n 208 _ _ none refl refl (skip n 226 _ _ none refl refl (skip n 300 _ _ none refl refl (skip n 301 _ _ none refl refl (
    skip n 302 _ _ none refl refl (skip n 303 _ _ none refl refl (skip n 304 _ _ none refl refl (skip n 305 _ _ none refl refl (
    skip n 307 _ _ none refl refl (skip n 308 _ _ none refl refl (skip n 400 _ _ none refl refl (skip n 401 _ _ none refl refl (
    skip n 402 _ _ none refl refl (skip n 403 _ _ none refl refl (skip n 404 _ _ none refl refl (skip n 405 _ _ none refl refl (
    skip n 406 _ _ none refl refl (skip n 407 _ _ none refl refl (skip n 408 _ _ none refl refl (skip n 409 _ _ none refl refl (
    skip n 410 _ _ none refl refl (skip n 411 _ _ none refl refl (skip n 412 _ _ none refl refl (skip n 413 _ _ none refl refl (
    skip n 414 _ _ none refl refl (skip n 415 _ _ none refl refl (skip n 416 _ _ none refl refl (skip n 417 _ _ none refl refl (
    skip n 418 _ _ none refl refl (skip n 421 _ _ none refl refl (skip n 422 _ _ none refl refl (skip n 423 _ _ none refl refl (
    skip n 424 _ _ none refl refl (skip n 425 _ _ none refl refl (skip n 426 _ _ none refl refl (skip n 428 _ _ none refl refl (
    skip n 429 _ _ none refl refl (skip n 431 _ _ none refl refl (skip n 451 _ _ none refl refl (skip n 500 _ _ none refl refl (
    skip n 501 _ _ none refl refl (skip n 502 _ _ none refl refl (skip n 503 _ _ none refl refl (skip n 504 _ _ none refl refl (
    skip n 505 _ _ none refl refl (skip n 506 _ _ none refl refl (skip n 507 _ _ none refl refl (skip n 508 _ _ none refl refl (
    skip n 510 _ _ none refl refl (skip n 511 _ _ none refl refl (refl))))))))))))))))))))))))))))))))))))))))))))))))))))))))))))))

joins : (a s sp p c t l n close body : List ℕ) → (a ++ (s ++ (sp ++ (p ++ (c ++ (t ++ (c ++ (l ++ (n ++ (c ++ (close ++ c))))))))))) ++ body ≡ a ++ (((s ++ sp) ++ p) ++ (c ++ (t ++ (c ++ (l ++ (n ++ (c ++ (close ++ (c ++ body)))))))))
joins a s sp p c t l n close body = simp append_assoc

-- a body after its head
pub framed : (status : ℕ) (phrase close head body : List ℕ) (last : Bool) → phrase ≡ unwrap_or (reason_phrase status) (codes "<unknown status code>") → close ≡ close_line last → head ≡ joined (codes "HTTP/1.1 " ∷ decimal status ∷ codes " " ∷ phrase ∷ crlf ∷ codes "content-type: application/json" ∷ crlf ∷ codes "content-length: " ∷ decimal (length body) ∷ crlf ∷ close ∷ crlf ∷ []) → head ++ body ≡ frame status body last
unfolding frame
framed status phrase close head body last is_phrase is_close is_head =
    rw (is_head, is_phrase, is_close) (joins (codes "HTTP/1.1 ") (decimal status) (codes " ") (unwrap_or (reason_phrase status) (codes "<unknown status code>")) crlf (codes "content-type: application/json") (codes "content-length: ") (decimal (length body)) (close_line last) body)

-- the pieces of a list, each after a comma but the first
pub record Lists {A : Type 0} (text : A → List ℕ) (all : Bool → List A → List ℕ) : Type 0 where
  none : (later : Bool) → all later [] ≡ []
  more : (later : Bool) (x : A) (xs : List A) → all later (x ∷ xs) ≡ comma_if later ++ (text x ++ all true xs)

turned : (c t : List ℕ) → c ++ (t ++ []) ≡ [] ++ (c ++ t)
turned c t = ap (λ ys. c ++ ys) (append-nil t)

nested : (c t rest more : List ℕ) → c ++ (t ++ (rest ++ more)) ≡ (c ++ (t ++ rest)) ++ more
nested c t rest more = simp append_assoc

with_one_more : {A : Type 0} (text : A → List ℕ) (all : Bool → List A → List ℕ) → Lists text all → (xs : List A) (x : A) → all true (xs ++ x ∷ []) ≡ all true xs ++ (comma_if true ++ text x)
with_one_more text all lists [] x =
    lists.more true x []
    ∙ ap (λ ys. comma_if true ++ (text x ++ ys)) (lists.none true)
    ∙ turned (comma_if true) (text x)
    ∙ ap (λ ys. ys ++ (comma_if true ++ text x)) (sym (lists.none true))
with_one_more text all lists (y ∷ xs) x =
    lists.more true y (xs ++ x ∷ [])
    ∙ ap (λ ys. comma_if true ++ (text y ++ ys)) (with_one_more text all lists xs x)
    ∙ nested (comma_if true) (text y) (all true xs) (comma_if true ++ text x)
    ∙ ap (λ ys. ys ++ (comma_if true ++ text x)) (sym (lists.more true y xs))

at_end : {A : Type 0} (text : A → List ℕ) (all : Bool → List A → List ℕ) → Lists text all → (xs : List A) (x : A) (i : ℕ) → length xs ≡ i → all false (xs ++ x ∷ []) ≡ all false xs ++ (comma_if (ltb 0 i) ++ text x)
at_end text all lists [] x i len =
    lists.more false x []
    ∙ ap (λ ys. comma_if false ++ (text x ++ ys)) (lists.none true)
    ∙ turned (comma_if false) (text x)
    ∙ ap (λ b. [] ++ (comma_if b ++ text x)) (sym (le-ltb 0 i (omega arith)))
    ∙ ap (λ ys. ys ++ (comma_if (ltb 0 i) ++ text x)) (sym (lists.none false))
at_end text all lists (y ∷ xs) x i len =
    lists.more false y (xs ++ x ∷ [])
    ∙ ap (λ ys. comma_if false ++ (text y ++ ys)) (with_one_more text all lists xs x)
    ∙ nested (comma_if false) (text y) (all true xs) (comma_if true ++ text x)
    ∙ ap (λ ys. ys ++ (comma_if true ++ text x)) (sym (lists.more false y xs))
    ∙ ap (λ b. all false (y ∷ xs) ++ (comma_if b ++ text x)) (sym (lt-ltb 0 i (omega arith)))

-- one more item of a printed list, after what was there
step : {A : Type 0} (text : A → List ℕ) (all : Bool → List A → List ℕ) → Lists text all → (xs : List A) (i : ℕ) (x : A) (start was now : List ℕ) → i < length xs → x ≡ get_or xs i x → was ≡ start ++ all false (take i xs) → now ≡ was ++ (comma_if (ltb 0 i) ++ text x) → now ≡ start ++ all false (take (i + 1) xs)
step text all lists xs i x start was now in_list at so_far put =
    put
    ∙ ap (λ ys. ys ++ (comma_if (ltb 0 i) ++ text x)) so_far
    ∙ append_assoc start (all false (take i xs)) (comma_if (ltb 0 i) ++ text x)
    ∙ ap (λ ys. start ++ ys) (sym (at_end text all lists (take i xs) x i (length-take-le i xs (omega arith))))
    ∙ ap (λ y. start ++ all false (take i xs ++ y ∷ [])) at
    ∙ ap (λ ys. start ++ all false ys) (sym (take_more xs i x in_list))

pub values_step : (values : List Value) (i : ℕ) (value : Value) (start was now : List ℕ) → i < length values → value ≡ get_or values i value → was ≡ start ++ values_text false (take i values) → now ≡ was ++ (comma_if (ltb 0 i) ++ value_text value) → now ≡ start ++ values_text false (take (i + 1) values)
values_step values = step value_text values_text (record { none = λ later. refl; more = λ later x xs. refl }) values

pub hits_step : (hits : List Hit) (i : ℕ) (hit : Hit) (start was now : List ℕ) → i < length hits → hit ≡ get_or hits i hit → was ≡ start ++ hits_text false (take i hits) → now ≡ was ++ (comma_if (ltb 0 i) ++ hit_text hit) → now ≡ start ++ hits_text false (take (i + 1) hits)
hits_step hits = step hit_text hits_text (record { none = λ later. refl; more = λ later x xs. refl }) hits

pub lines_step : (lines : List BulkLine) (i : ℕ) (line : BulkLine) (start was now : List ℕ) → i < length lines → line ≡ get_or lines i line → was ≡ start ++ lines_text false (take i lines) → now ≡ was ++ (comma_if (ltb 0 i) ++ line_text line) → now ≡ start ++ lines_text false (take (i + 1) lines)
lines_step lines = step line_text lines_text (record { none = λ later. refl; more = λ later x xs. refl }) lines

pieces : (old comma a b c d e source sort end : List ℕ) → ((((old ++ comma) ++ (a ++ (b ++ (c ++ (d ++ e))))) ++ source) ++ sort) ++ end ≡ old ++ (comma ++ (a ++ (b ++ (c ++ (d ++ (e ++ (source ++ (sort ++ end))))))))
pieces old comma a b c d e source sort end = simp append_assoc

-- a hit after what was there
pub hit_put : (old comma head sort : List ℕ) (hit : Hit) → head ≡ joined (codes "{\"_index\":" ∷ quoted hit.index ∷ codes ",\"_id\":" ∷ quoted hit.id ∷ codes ",\"_score\":null,\"_source\":" ∷ []) → sort ≡ sort_text hit.shown → ((((old ++ comma) ++ head) ++ hit.source) ++ sort) ++ codes "}" ≡ old ++ (comma ++ hit_text hit)
unfolding hit_text
hit_put old comma head sort hit is_head is_sort =
    rw (is_head, is_sort) (pieces old comma (codes "{\"_index\":") (quoted hit.index) (codes ",\"_id\":") (quoted hit.id) (codes ",\"_score\":null,\"_source\":") hit.source (sort_text hit.shown) (codes "}"))

-- what is said where memory runs out
no_memory_body : fault_text NoMemory ≡ codes "{\"error\":{\"root_cause\":[{\"type\":\"no_memory_exception\",\"reason\":\"no memory\"}],\"type\":\"no_memory_exception\",\"reason\":\"no memory\"},\"status\":503}"
unfolding fault_text cause_members digits escape_byte
no_memory_body = refl

no_memory_head : (body : List ℕ) (last : Bool) → length body ≡ 141 → frame 503 body last ≡ codes "HTTP/1.1 503 Service Unavailable" ++ (crlf ++ (codes "content-type: application/json" ++ (crlf ++ (codes "content-length: 141" ++ (crlf ++ (close_line last ++ (crlf ++ body)))))))
unfolding frame digits
no_memory_head body last len = rw len refl

pub no_memory_said : (last : Bool) → codes "HTTP/1.1 503 Service Unavailable" ++ (crlf ++ (codes "content-type: application/json" ++ (crlf ++ (codes "content-length: 141" ++ (crlf ++ (close_line last ++ (crlf ++ codes "{\"error\":{\"root_cause\":[{\"type\":\"no_memory_exception\",\"reason\":\"no memory\"}],\"type\":\"no_memory_exception\",\"reason\":\"no memory\"},\"status\":503}"))))))) ≡ text (Fault NoMemory) last
no_memory_said last = sym (ap (λ body. frame 503 body last) no_memory_body ∙ no_memory_head (codes "{\"error\":{\"root_cause\":[{\"type\":\"no_memory_exception\",\"reason\":\"no memory\"}],\"type\":\"no_memory_exception\",\"reason\":\"no memory\"},\"status\":503}") last refl)
