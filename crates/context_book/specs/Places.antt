-- Where a number stands among those that rise.
use Rattle.std.specs.Prelude.{◌≡◌, ◌≢◌, ℕ, ◌<◌, ◌≤◌, List, length, All, Option, Some, None, slice_get, slice_index_or}
use Rattle.context_book.specs.declared.context.Context.{Context}
use Rattle.context_book.specs.Books.{live_one}

-- the place has the number
pub record HasNumber (contexts : List Context) (number at : ℕ) : Type 0 where
  pub within : at < length contexts
  pub same : (d : Context) → (slice_index_or contexts at d).number ≡ number

-- the place of a number, or nowhere
abbrev pub IsPlaceOf : List Context → ℕ → Option ℕ → Type 0
IsPlaceOf contexts number None = All (λ (context : Context). context.number ≢ number) contexts
IsPlaceOf contexts number (Some at) = HasNumber contexts number at

-- the place of the live one of a number, or nowhere
abbrev pub IsPlace : List Context → ℕ → ℕ → Option ℕ → Type 0
IsPlace contexts number moment None = live_one number moment contexts ≡ None
IsPlace contexts number moment (Some at) = HasNumber contexts number at × (live_one number moment contexts ≡ slice_get contexts at)

-- so many have lower numbers, and none of the others has
pub record IsBorder (contexts : List Context) (number at : ℕ) : Type 0 where
  pub within : at ≤ length contexts
  pub below : (k : ℕ) (d : Context) → k < at → (slice_index_or contexts k d).number < number
  pub above : (k : ℕ) (d : Context) → at ≤ k → k < length contexts → number ≤ (slice_index_or contexts k d).number
