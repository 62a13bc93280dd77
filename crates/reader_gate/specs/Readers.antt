-- What contracts see of a holder: which reader it is of, its seat there, and the body that the reader was made with.
use Rattle.std.specs.Prelude.{ℕ, refl}
use Rattle.std.specs.Coded.{Coded, code_by, coded×, coded_ℕ}
use Rattle.atomic_table.specs.Seated.{TableId, table_id_coded}

-- a pass, or a reader that has ended
pub record Held (B : Type 0) : Type 0 where
  pub reader : TableId
  pub seat : ℕ
  pub body : B

-- an owner, with how many passes it has lent
pub record Owned (B : Type 0) : Type 0 where
  pub reader : TableId
  pub seat : ℕ
  pub body : B
  pub lent : ℕ

abbrev pub held_coded : {B : Type 0} → Coded B → Coded (Held B)
held_coded {B} c = code_by (TableId × (ℕ × B)) (coded× table_id_coded (coded× coded_ℕ c)) (λ h. (h.reader, (h.seat, h.body))) (λ p. record { reader = p.0; seat = p.1.0; body = p.1.1 }) (λ _. refl)

abbrev pub owned_coded : {B : Type 0} → Coded B → Coded (Owned B)
owned_coded {B} c = code_by (TableId × (ℕ × (B × ℕ))) (coded× table_id_coded (coded× coded_ℕ (coded× c coded_ℕ))) (λ o. (o.reader, (o.seat, (o.body, o.lent)))) (λ p. record { reader = p.0; seat = p.1.0; body = p.1.1.0; lent = p.1.1.1 }) (λ _. refl)
