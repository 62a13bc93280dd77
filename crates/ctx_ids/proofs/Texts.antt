-- An id's text gives the id back, and no other text does.
use Rattle.std.proofs.Common.{◌≡◌, ℕ, zero, suc, ◌+◌, ◌*◌, ◌/◌, ◌≤◌, ◌<◌, ◌^◌, List, [], ◌∷◌, length, drop, slice_index, Option, Some, None, Result, Ok, Err, ◌≢◌, ◌&&◌, nat_le, inl, inr, IfSome, refl, sym, ap, ◌∙◌, arith}
use Rattle.std.specs.Int.{w64, byte_at, bytes_high_first, from_be_bytes, to_be_bytes}
use Rattle.std.proofs.lemmas.Bool.{and_parts, cases_Bool, cases_eq, eq-eqb, leb-true, ne_eqb}
use Rattle.std.proofs.lemmas.List.{append-nil}
use Rattle.std.proofs.lemmas.Grind.{common_steps}
use Rattle.std.proofs.lemmas.Nat.{be_bytes_8, from_be_bytes-to_be_bytes_8}
use Rattle.es_types.specs.declared.limits.TheConstants.{MOST_ENTRIES}
use Rattle.base64.specs.GeneralPurpose.{IsBytes, decode_of, encode_of}
use Rattle.base64.specs.Engines.{url_safe_no_pad}
use Rattle.base64.specs.declared.decode.DecodeError.{DecodeError}
use Rattle.base64.proofs.EngineFacts.{decode_of-encode_of, decode_of_strict}
use Rattle.base64.proofs.RoundTrip.{length-encode_symbols}
use Rattle.ctx_ids.specs.declared.id.ContextId.{ContextId}
use Rattle.ctx_ids.specs.declared.id.Kind.{Kind}
use Rattle.ctx_ids.specs.declared.id.Kind.TheVariants.{Pit, Scroll, Task}
use Rattle.ctx_ids.specs.Ids.{IsId, id_bytes, id_in, id_of, id_read, id_with, kind_of, letter_of, text_of}

-- a list of bytes, from its head
IsBytes-cons : (x : ℕ) (xs : List ℕ) → x < 256 → IsBytes xs → IsBytes (x ∷ xs)
IsBytes-cons x xs byte rest zero = byte
IsBytes-cons x xs byte rest (suc i) = rest i

-- a letter is a byte
letter_is_byte : (kind : Kind) → letter_of kind < 256
letter_is_byte Pit = omega arith
letter_is_byte Scroll = omega arith
letter_is_byte Task = omega arith

-- a byte of a number is one
byte_at_is : (k number : ℕ) → byte_at k number < 256
byte_at_is zero number = omega arith
byte_at_is (suc k) number = omega arith

-- so are all that are written
high_bytes : (k number : ℕ) → IsBytes (bytes_high_first k number)
high_bytes zero number = λ i. omega arith
high_bytes (suc k) number = IsBytes-cons (byte_at k number) (bytes_high_first k number) (byte_at_is k number) (high_bytes k number)

-- so are an id's
id_is_bytes : (id : ContextId) → IsBytes (id_bytes id)
id_is_bytes id = IsBytes-cons (letter_of id.kind) (to_be_bytes w64 id.number) (letter_is_byte id.kind) (high_bytes 8 id.number)

-- An id's text decodes to its bytes.
pub decode_of-text_of : (id : ContextId) → decode_of url_safe_no_pad (text_of id) ≡ Ok (id_bytes id)
unfolding text_of
decode_of-text_of id = decode_of-encode_of url_safe_no_pad (id_bytes id) refl (id_is_bytes id)

-- a kind's letter stands for it
kind_of-letter_of : (kind : Kind) → kind_of (letter_of kind) ≡ Some kind
kind_of-letter_of Pit = refl
kind_of-letter_of Scroll = refl
kind_of-letter_of Task = refl

-- an id's bytes are read as it
id_in-id_bytes : (id : ContextId) → IsId id → id_in (id_bytes id) ≡ Some id
id_in-id_bytes id is =
    let fits : id.number < 2 ^ 64 = omega arith in
    rw (kind_of-letter_of id.kind, from_be_bytes-to_be_bytes_8 id.number fits) (grind (arith, common_steps))

-- An id's text is read as the id.
pub id_of-text_of : (id : ContextId) → IsId id → id_of (text_of id) ≡ Some id
unfolding id_of
id_of-text_of id is = rw (decode_of-text_of id) (id_in-id_bytes id is)

-- ids of one kind and number are one
same_id : (one other : ContextId) → one.kind ≡ other.kind → one.number ≡ other.number → one ≡ other
same_id one other kind number =
    let whole : (k : Kind) (n : ℕ) → one.kind ≡ k → one.number ≡ n → one ≡ record { kind = k; number = n } = λ k n e f. rw (← e, ← f) refl in
    whole other.kind other.number kind number

-- what a text decodes to is one list
decoded_once : (one other : List ℕ) (read : Result (List ℕ) DecodeError) → read ≡ Ok one → read ≡ Ok other → one ≡ other
decoded_once one other read is is' = cc

-- Two texts that are equal are of one id.
pub text_of-injective : (one other : ContextId) → one.number < 2 ^ 64 → other.number < 2 ^ 64 → text_of one ≡ text_of other → one ≡ other
text_of-injective one other fits fits' same =
    let bytes : id_bytes one ≡ id_bytes other =
    decoded_once _ _ (decode_of url_safe_no_pad (text_of one)) (decode_of-text_of one) (ap (decode_of url_safe_no_pad) same ∙ decode_of-text_of other) in
    let kinds : Some one.kind ≡ Some other.kind = sym (kind_of-letter_of one.kind) ∙ (ap (λ (bs : List ℕ). kind_of (slice_index bs 0)) bytes ∙ kind_of-letter_of other.kind) in
    let number : one.number ≡ other.number =
    sym (from_be_bytes-to_be_bytes_8 one.number fits) ∙ (ap (λ (bs : List ℕ). from_be_bytes w64 (drop 1 bs)) bytes ∙ from_be_bytes-to_be_bytes_8 other.number fits') in
    same_id one other (cc) number

-- a letter that stands for a kind is its letter
kind_of_is : (letter : ℕ) (kind : Kind) → kind_of letter ≡ Some kind → letter ≡ letter_of kind
kind_of_is letter Pit is = grind (arith, common_steps)
kind_of_is letter Scroll is = grind (arith, common_steps)
kind_of_is letter Task is = grind (arith, common_steps)

-- the parts of an id that may be there
abbrev kind_if : Option ContextId → Option Kind
kind_if None = None
kind_if (Some id) = Some id.kind

abbrev number_if : Option ContextId → ℕ
number_if None = 0
number_if (Some id) = id.number

-- an id that is made has the kind and the number that were given, and can be
id_with_is : (kind : Option Kind) (number : ℕ) (id : ContextId) → id_with kind number ≡ Some id → (kind ≡ Some id.kind) × (number ≡ id.number) × IsId id
id_with_is None number id is = cc is
id_with_is (Some kind) number id is = elim (cases_Bool (nat_le 1 number && nat_le number MOST_ENTRIES)) [
  | inl held ↦
      let within = and_parts (nat_le 1 number) (nat_le number MOST_ENTRIES) held in
      let some : 1 ≤ number = leb-true 1 number within.0 in
      let most : number ≤ MOST_ENTRIES = leb-true number MOST_ENTRIES within.1 in
      let made = rw held at is in
      let kinds = ap (λ (it : Option ContextId). kind_if it) made in
      let numbers = ap (λ (it : Option ContextId). number_if it) made in
      (kinds, numbers, record { some = omega arith; most = omega arith })
  | inr fails ↦ cc (rw fails at is)
]

-- bytes of another length are no id
id_in_none : (bytes : List ℕ) → length bytes ≢ 9 → id_in bytes ≡ None
id_in_none bytes other = rw (ne_eqb (length bytes) 9 other) refl

-- bytes that are read as an id are its bytes
id_in_is : (bytes : List ℕ) (id : ContextId) → IsBytes bytes → id_in bytes ≡ Some id → IsId id × (bytes ≡ id_bytes id)
id_in_is [] id all is = cc is
id_in_is (b ∷ rest) id all is = elim (cases_eq (length (b ∷ rest)) 9) [
  | inl nine ↦
      let made : id_with (kind_of b) (from_be_bytes w64 rest) ≡ Some id = rw (eq-eqb (length (b ∷ rest)) 9 nine) at is in
      let parts = id_with_is (kind_of b) (from_be_bytes w64 rest) id made in
      let eight : length rest ≡ 8 = omega arith in
      let number : to_be_bytes w64 id.number ≡ rest = be_bytes_8 rest id.number eight (λ i. all (suc i)) (sym parts.1) in
      (parts.2, rw (kind_of_is b id.kind parts.0) (ap (λ (bs : List ℕ). letter_of id.kind ∷ bs) (sym number)))
  | inr other ↦ cc (sym (id_in_none (b ∷ rest) other) ∙ is)
]

-- how long a text is
length-encode_of : (bytes : List ℕ) → length (encode_of url_safe_no_pad bytes) ≡ (4 * length bytes + 2) / 3
length-encode_of bytes = rw (append-nil, length-encode_symbols) refl

-- A text of another length is no id's.
pub id_of_none : (text : List ℕ) → IsBytes text → length text ≢ 12 → id_of text ≡ None
unfolding id_of
id_of_none text all other = go (decode_of url_safe_no_pad text) refl
  where
    go : (read : Result (List ℕ) DecodeError) → decode_of url_safe_no_pad text ≡ read → id_read read ≡ None
    go (Ok bytes) is =
        let length_is : length text ≡ (4 * length bytes + 2) / 3 = ap length (decode_of_strict url_safe_no_pad text bytes (refl, refl) all is) ∙ length-encode_of bytes in
        id_in_none bytes (λ nine. other (omega arith))
    go (Err e) is = refl

-- A text whose bytes are not nine is no id's.
pub id_of_shorter : (text bytes : List ℕ) → decode_of url_safe_no_pad text ≡ Ok bytes → length bytes ≢ 9 → id_of text ≡ None
unfolding id_of
id_of_shorter text bytes is other = rw is (id_in_none bytes other)

-- A text that does not decode is no id's.
pub id_of_undecoded : (text : List ℕ) (e : DecodeError) → decode_of url_safe_no_pad text ≡ Err e → id_of text ≡ None
unfolding id_of
id_of_undecoded text e is = rw is refl

-- A text is of the id that its bytes are.
pub id_of_bytes : (text bytes : List ℕ) → decode_of url_safe_no_pad text ≡ Ok bytes → id_of text ≡ id_in bytes
unfolding id_of
id_of_bytes text bytes is = rw is refl

-- so are those of an id that may be there
pub found_in : (bytes : List ℕ) (it : Option ContextId) → IsBytes bytes → it ≡ id_in bytes → IfSome it (λ id. IsId id × (bytes ≡ id_bytes id))
found_in bytes None all is = tt
found_in bytes (Some id) all is = id_in_is bytes id all (sym is)

-- A text whose bytes are an id's is the id's text.
pub found_text : (text bytes : List ℕ) (it : Option ContextId) → IsBytes text → decode_of url_safe_no_pad text ≡ Ok bytes
    → IfSome it (λ id. IsId id × (bytes ≡ id_bytes id)) → IfSome it (λ id. IsId id × (text ≡ text_of id))
unfolding text_of
found_text text bytes None all is found = tt
found_text text bytes (Some id) all is found =
    (found.0, decode_of_strict url_safe_no_pad text bytes (refl, refl) all is ∙ ap (encode_of url_safe_no_pad) found.1)

-- A text of an id is read as the id.
pub id_of_whole : (text : List ℕ) (id : ContextId) → IsId id → text ≡ text_of id → id_of text ≡ Some id
id_of_whole text id is same = rw same (id_of-text_of id is)
