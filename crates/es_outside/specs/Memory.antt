-- What the sources, sinks and clocks in memory hold, and what a call makes of it.
use Rattle.std.specs.Prelude.{◌≡◌, ℕ, ◌+◌, ◌-◌, ◌++◌, List, length, take, drop, max, min, Option, unwrap_or}
use Rattle.es_outside.specs.Told.{last_count}

-- one more, up to the end of the type
abbrev pub counted : ℕ → ℕ
counted n = min (n + 1) last_count

-- the bytes that are left, how many come at a call, which calls fail, and how many calls and faults there were
pub record Feed : Type 0 where
  pub left : List ℕ
  pub piece : ℕ
  pub failing : List ℕ
  pub calls : ℕ
  pub faults : ℕ

-- how many bytes the next call gives into such a room
abbrev pub given : Feed → ℕ → ℕ
given feed room = min (min feed.piece room) (length feed.left)

-- what a call leaves that gave so many bytes
abbrev pub gave : Feed → ℕ → Feed
gave feed count = record { left = drop count feed.left; piece = feed.piece; failing = feed.failing; calls = counted feed.calls; faults = feed.faults }

-- what a call leaves that failed
abbrev pub gave_none : Feed → Feed
gave_none feed = record { left = feed.left; piece = feed.piece; failing = feed.failing; calls = counted feed.calls; faults = counted feed.faults }

-- the same of the bytes that were written, and how many may be
pub record Drain : Type 0 where
  pub written : List ℕ
  pub room : ℕ
  pub piece : ℕ
  pub failing : List ℕ
  pub calls : ℕ
  pub faults : ℕ

-- how many bytes of such a piece the next call takes
abbrev pub taken : Drain → ℕ → ℕ
taken drain count = min (min drain.piece count) (drain.room - length drain.written)

-- what a call leaves that took the first count bytes of the piece
abbrev pub took : Drain → List ℕ → ℕ → Drain
took drain piece count = record { written = drain.written ++ take count piece; room = drain.room; piece = drain.piece; failing = drain.failing; calls = counted drain.calls; faults = drain.faults }

-- what a call leaves that failed
abbrev pub took_none : Drain → Drain
took_none drain = record { written = drain.written; room = drain.room; piece = drain.piece; failing = drain.failing; calls = counted drain.calls; faults = counted drain.faults }

-- the last answer of a clock, and the greatest
pub record Dial : Type 0 where
  pub last : ℕ
  pub greatest : ℕ

-- a question of the clock: it answers what it is told, or its last answer again, and that is its last one then
abbrev pub Asks : Dial → Option ℕ → ℕ → Dial → Type 0
Asks old told answer new = (answer ≡ unwrap_or told old.last) × (new ≡ record { last = answer; greatest = max old.greatest answer })
