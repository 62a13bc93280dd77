-- Where the first empty line ends, as bytes are added and dropped.
use Rattle.std.proofs.Common.{◌≡◌, ℕ, suc, ◌+◌, ◌-◌, ◌<◌, ◌≤◌, Bool, true, false, cond, eqb, List, [], ◌∷◌, ◌++◌, length, take, drop, get_or, Option, Some, None, refl, sym, ap, ◌∙◌, subst, ⊎_elim, zero, arith}
use Rattle.std.specs.Option.{option_map}
use Rattle.std.specs.List.{starts_with}
use Rattle.std.specs.Cmp.Lexicographic.{pointwise}
use Rattle.std.proofs.lemmas.Bool.{cases_lt}
use Rattle.std.proofs.lemmas.Bool.Decides.{Decides-eqb}
use Rattle.std.proofs.lemmas.List.{take-append-le, take-append-drop, length-take-le, length-take, drop_more}
use Rattle.std.proofs.lemmas.Slice.Eq.{starts_is}
use Rattle.http_wire.specs.Heads.{head_end, head_len}

-- whether an empty line stands here
abbrev pub starts : List ℕ → Bool
starts bytes = starts_with eqb bytes head_end

abbrev pub plus : ℕ → Option ℕ → Option ℕ
plus k o = option_map (λ n. n + k) o

abbrev pub step : List ℕ → Bool → Option ℕ
step bytes v = cond v (Some 4) (plus 1 (head_len bytes))

plus_zero : (o : Option ℕ) (k : ℕ) → k ≡ 0 → plus k o ≡ o
plus_zero None k e = refl
plus_zero (Some n) k e = let s : n + k ≡ n = omega arith in ap Some s

plus_plus : (o : Option ℕ) (k j l : ℕ) → l ≡ k + j → plus j (plus k o) ≡ plus l o
plus_plus None k j l e = refl
plus_plus (Some n) k j l e = let s : (n + k) + j ≡ n + l = omega arith in ap Some s

plus_none : (o : Option ℕ) (k : ℕ) → plus k o ≡ None → o ≡ None
plus_none None k e = refl
plus_none (Some n) k e = cc

starts_long : (bytes : List ℕ) → starts bytes ≡ true → 4 ≤ length bytes
starts_long bytes e =
    let split : bytes ≡ head_end ++ drop 4 bytes = (starts_is Decides-eqb bytes head_end (starts bytes) refl).0 e in
    let long : length bytes ≡ length (head_end ++ drop 4 bytes) = ap length split in
    omega (arith, long)

starts_append : (bytes more : List ℕ) → 4 ≤ length bytes → starts (bytes ++ more) ≡ starts bytes
starts_append bytes more h = ap (λ (front : List ℕ). pointwise eqb head_end front) (take-append-le 4 bytes more h)

-- a head has at least four bytes, all of them there
pub head_len_long : (bytes : List ℕ) (n : ℕ) → head_len bytes ≡ Some n → (4 ≤ n) × (n ≤ length bytes)
head_len_long [] n h = let no : ⊥ = cc in absurd no
head_len_long (b ∷ bytes) n h =
    elim (starts (b ∷ bytes)) as (λ v. starts (b ∷ bytes) ≡ v → (4 ≤ n) × (n ≤ length (b ∷ bytes))) [
      | true ↦ λ e.
          let k : Some 4 ≡ Some n = ap (step bytes) (sym e) ∙ h in
          let four : 4 ≡ n = cc in
          let long = starts_long (b ∷ bytes) e in
          (omega arith, omega arith)
      | false ↦ λ e.
          let k : plus 1 (head_len bytes) ≡ Some n = ap (step bytes) (sym e) ∙ h in
          elim (head_len bytes) as (λ o. head_len bytes ≡ o → (4 ≤ n) × (n ≤ length (b ∷ bytes))) [
            | None ↦ λ z. let q : None ≡ Some n = ap (plus 1) (sym z) ∙ k in let no : ⊥ = cc in absurd no
            | Some m ↦ λ z.
                let q : Some (m + 1) ≡ Some n = ap (plus 1) (sym z) ∙ k in
                let p : m + 1 ≡ n = cc in
                let below = head_len_long bytes m z in
                (omega arith, omega arith)
          ] refl
    ] refl

-- bytes after a head change nothing
pub head_len_append : (bytes more : List ℕ) (n : ℕ) → head_len bytes ≡ Some n → head_len (bytes ++ more) ≡ Some n
head_len_append [] more n h = let no : ⊥ = cc in absurd no
head_len_append (b ∷ bytes) more n h =
    elim (starts (b ∷ bytes)) as (λ v. starts (b ∷ bytes) ≡ v → head_len ((b ∷ bytes) ++ more) ≡ Some n) [
      | true ↦ λ e.
          let k : Some 4 ≡ Some n = ap (step bytes) (sym e) ∙ h in
          let same : starts ((b ∷ bytes) ++ more) ≡ true = starts_append (b ∷ bytes) more (starts_long (b ∷ bytes) e) ∙ e in
          ap (step (bytes ++ more)) same ∙ k
      | false ↦ λ e.
          let k : plus 1 (head_len bytes) ≡ Some n = ap (step bytes) (sym e) ∙ h in
          elim (head_len bytes) as (λ o. head_len bytes ≡ o → head_len ((b ∷ bytes) ++ more) ≡ Some n) [
            | None ↦ λ z. let q : None ≡ Some n = ap (plus 1) (sym z) ∙ k in let no : ⊥ = cc in absurd no
            | Some m ↦ λ z.
                let q : Some (m + 1) ≡ Some n = ap (plus 1) (sym z) ∙ k in
                let long = head_len_long bytes m z in
                let wide : 4 ≤ length (b ∷ bytes) = omega arith in
                let same : starts ((b ∷ bytes) ++ more) ≡ false = starts_append (b ∷ bytes) more wide ∙ e in
                ap (step (bytes ++ more)) same ∙ ap (plus 1) (head_len_append bytes more m z) ∙ q
          ] refl
    ] refl

none_parts : (b : ℕ) (bytes : List ℕ) → head_len (b ∷ bytes) ≡ None → (starts (b ∷ bytes) ≡ false) × (head_len bytes ≡ None)
none_parts b bytes h =
    elim (starts (b ∷ bytes)) as (λ v. starts (b ∷ bytes) ≡ v → (v ≡ false) × (head_len bytes ≡ None)) [
      | true ↦ λ e. let k : ◌≡◌ {A = Option ℕ} (Some 4) None = ap (step bytes) (sym e) ∙ h in let no : ⊥ = cc in absurd no
      | false ↦ λ e. (refl, plus_none (head_len bytes) 1 (ap (step bytes) (sym e) ∙ h))
    ] refl

-- without an end so far, the search may go on three bytes before the new ones
skip_at : (bytes more : List ℕ) (k : ℕ) → k ≡ length bytes - 3 → head_len bytes ≡ None
    → plus k (head_len (drop k (bytes ++ more))) ≡ head_len (bytes ++ more)
skip_at [] more k e h = let z : k ≡ 0 = omega (arith, e) in subst (λ j. plus j (head_len (drop j more)) ≡ head_len more) (sym z) (plus_zero (head_len more) 0 refl)
skip_at (b ∷ bytes) more k e h =
    ⊎_elim (λ (short : length bytes < 3).
    let z : k ≡ 0 = omega (arith, e, short) in
    subst (λ j. plus j (head_len (drop j ((b ∷ bytes) ++ more))) ≡ head_len ((b ∷ bytes) ++ more)) (sym z) (plus_zero (head_len ((b ∷ bytes) ++ more)) 0 refl))
    (λ (wide : 3 ≤ length bytes).
    let j : ℕ = length bytes - 3 in
    let up : k ≡ suc j = omega (arith, e, wide) in
    let parts = none_parts b bytes h in
    let four : 4 ≤ length (b ∷ bytes) = omega (arith, wide) in
    let same : starts ((b ∷ bytes) ++ more) ≡ false = starts_append (b ∷ bytes) more four ∙ parts.0 in
    let inner : plus j (head_len (drop j (bytes ++ more))) ≡ head_len (bytes ++ more) = skip_at bytes more j refl parts.1 in
    let sum : suc j ≡ j + 1 = omega arith in
    let whole : plus (suc j) (head_len (drop j (bytes ++ more))) ≡ head_len ((b ∷ bytes) ++ more)
    = sym (plus_plus (head_len (drop j (bytes ++ more))) j 1 (suc j) sum) ∙ ap (plus 1) inner ∙ sym (ap (step (bytes ++ more)) same) in
    subst (λ i. plus i (head_len (drop i ((b ∷ bytes) ++ more))) ≡ head_len ((b ∷ bytes) ++ more)) (sym up) whole)
    (cases_lt (length bytes) 3)

-- the same for a list whose first bytes have no end
pub head_len_skip : (bytes : List ℕ) (seen : ℕ) → seen ≤ length bytes → head_len (take seen bytes) ≡ None
    → plus (seen - 3) (head_len (drop (seen - 3) bytes)) ≡ head_len bytes
head_len_skip bytes seen h none =
    let split : take seen bytes ++ drop seen bytes ≡ bytes = take-append-drop seen bytes in
    let long : length (take seen bytes) ≡ seen = length-take-le seen bytes h in
    let k : seen - 3 ≡ length (take seen bytes) - 3 = omega (arith, long) in
    subst (λ (all : List ℕ). plus (seen - 3) (head_len (drop (seen - 3) all)) ≡ head_len all) split
    (skip_at (take seen bytes) (drop seen bytes) (seen - 3) k none)

pub scan_more : (bytes : List ℕ) (at : ℕ) → at < length bytes → starts (drop at bytes) ≡ false
    → plus at (head_len (drop at bytes)) ≡ plus (at + 1) (head_len (drop (at + 1) bytes))
scan_more bytes at h e =
    let split = drop_more bytes at 0 h in
    let here : starts (get_or bytes at 0 ∷ drop (at + 1) bytes) ≡ false = ap starts (sym split) ∙ e in
    let one : at + 1 ≡ 1 + at = omega arith in
    ap (λ (l : List ℕ). plus at (head_len l)) split ∙ ap (λ v. plus at (step (drop (at + 1) bytes) v)) here
    ∙ plus_plus (head_len (drop (at + 1) bytes)) 1 at (at + 1) one

-- the first bytes of a list, where more follow
pub take_append : (limit : ℕ) (bytes more : List ℕ) → (rest : List ℕ) × (take limit (bytes ++ more) ≡ take limit bytes ++ rest)
take_append zero bytes more = ([], refl)
take_append (suc limit) [] more = (take (suc limit) more, refl)
take_append (suc limit) (b ∷ bytes) more = let r = take_append limit bytes more in (r.0, ap (λ (l : List ℕ). b ∷ l) r.1)

-- a head that ends in time still does when bytes follow
pub head_stays : (limit : ℕ) (bytes more : List ℕ) (n : ℕ) → head_len (take limit bytes) ≡ Some n → head_len (take limit (bytes ++ more)) ≡ Some n
head_stays limit bytes more n h =
    let r = take_append limit bytes more in
    ap head_len r.1 ∙ head_len_append (take limit bytes) r.0 n h

-- it is that long, and all there
pub head_there : (limit : ℕ) (bytes : List ℕ) (n : ℕ) → head_len (take limit bytes) ≡ Some n → (4 ≤ n) × ((n ≤ limit) × (n ≤ length bytes))
head_there limit bytes n h =
    let long = head_len_long (take limit bytes) n h in
    let short = length-take limit bytes in
    (long.0, (omega (arith, long.1, short), omega (arith, long.1, short)))
