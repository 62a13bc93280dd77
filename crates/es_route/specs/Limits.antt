-- Limits that a request breaks, and which of them is told.
use Rattle.std.specs.Prelude.{ℕ, ◌≤◌, nat_le, if◌then◌else◌, List, [], ◌∷◌, All, Result, Ok, Err}
use Rattle.es_types.specs.Name.{is_doc_id, is_index_name}
use Rattle.es_types.specs.declared.limit.LimitName.{LimitName}
use Rattle.es_types.specs.declared.limit.LimitName.TheVariants as limit
use Rattle.doc_json.specs.declared.fault.BodyFault.{BodyFault}
use Rattle.doc_json.specs.declared.fault.BodyFault.TheVariants as body
use Rattle.reply_json.specs.declared.fault.RestFault.{RestFault}
use Rattle.reply_json.specs.declared.fault.RestFault.TheVariants as fault

-- the limit of the least rank is told of all that a request breaks
abbrev pub rank : LimitName → ℕ
rank limit.Moment = 0
rank limit.Index = 1
rank limit.Id = 2
rank limit.Shards = 3
rank limit.Fields = 4
rank limit.KeepAlive = 5
rank limit.Batch = 6
rank limit.Pit = 7
rank limit.From = 8
rank limit.Window = 9
rank limit.Slice = 10
rank limit.Sort = 11

-- the one of two that is told
abbrev pub first_of : LimitName → LimitName → LimitName
first_of one other = if nat_le (rank one) (rank other) then one else other

-- two parts of what is asked for, or the limit that is told of those that they break
abbrev pub both : {A B : Type 0} → Result A LimitName → Result B LimitName → Result (A × B) LimitName
both (Ok one) (Ok other) = Ok (one, other)
both (Ok one) (Err name) = Err name
both (Err name) (Ok other) = Err name
both (Err one) (Err other) = Err (first_of one other)

-- the limit that is told where this one is broken, and perhaps one of a part that was read with it
abbrev pub first_with : {A : Type 0} → Result A LimitName → LimitName → LimitName
first_with (Ok part) name = name
first_with (Err other) name = first_of other name

-- a limit as a refusal
abbrev pub told : {A : Type 0} → Result A LimitName → Result A RestFault
told (Ok asked) = Ok asked
told (Err name) = Err (fault.Limit name)

-- a body's fault as a refusal
abbrev pub body_fault : BodyFault → RestFault
body_fault body.NotJson = fault.BadBody
body_fault body.Shape = fault.BadBody
body_fault (body.Limit name) = fault.Limit name
body_fault body.BadId = fault.BadId

-- ---- names and ids

abbrev pub index_name : List ℕ → Result (List ℕ) LimitName
index_name index = if is_index_name index then Ok index else Err limit.Index

abbrev pub doc_id : List ℕ → Result (List ℕ) LimitName
doc_id id = if is_doc_id id then Ok id else Err limit.Id

abbrev pub named : List ℕ → List ℕ → Result (List ℕ × List ℕ) RestFault
named index id = told (both (index_name index) (doc_id id))

-- ---- all that a request breaks

-- the one of these that is told
abbrev pub first_among : LimitName → List LimitName → LimitName
first_among name [] = name
first_among name (other ∷ more) = first_among (first_of name other) more

-- of any limits the one that is told has the least rank
abbrev pub LeastIsTold : Type 0
LeastIsTold = (name : LimitName) (more : List LimitName) → All (λ other. rank (first_among name more) ≤ rank other) (name ∷ more)
