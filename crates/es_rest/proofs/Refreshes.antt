-- Refreshes: a Seal, and a Publish of each shard.
use Rattle.std.proofs.Common.{◌≡◌, refl, sym, ap, ◌∙◌, inl, ℕ, ◌+◌, ◌≤◌, true, false, List, [], ◌∷◌, ◌++◌, length, drop, slice_get, Some, None, append_assoc}
use Rattle.std.proofs.lemmas.List.{append-nil}
use Rattle.list_machine.specs.declared.event.Event.TheVariants.{Seal, Publish}
use Rattle.list_machine.specs.declared.event.Reply.{Reply}
use Rattle.list_machine.specs.declared.event.Reply.TheVariants.{Sealed}
use Rattle.list_machine.specs.declared.event.Limits.{Limits}
use Rattle.list_machine.specs.Run.{History}
use Rattle.list_machine.specs.Serving.{Asked, MayHaveAsked, asked}
use Rattle.es_rest.specs.Led.{EndedBy, Published, WasRefreshed}
use Rattle.es_rest.specs.declared.refusal.Named.TheVariants as named
use Rattle.es_rest.specs.Scripts.{CutShort, Part, RanScript, Script, Strayed, Talks, after_seal, is_refused, publishes, refresh, refreshes, refusal, refused}
use Rattle.es_rest.proofs.Scripts.{cut_first, cut_on, drop_all, drop_at, first_of-none, if_false, if_true, not_refused, refused-append, talks_on, talks_one}

module _ (limits : Limits) (seat moment : ℕ) where
  -- ---- the shards of an index

  -- so many first shards were published, and none was refused
  pub record Told (index numbers : List ℕ) (old new : History) (count : ℕ) : Type 0 where
    pub part : Part
    pub talks : (later : Script) → Talks limits seat moment (publishes index 0 numbers later) old new part
    pub goes : (later : Script) (rest : Part) → publishes index 0 numbers later (part ++ rest) ≡ publishes index count (drop count numbers) later rest
    pub fine : refused part ≡ None

  pub told_none : (index numbers : List ℕ) (old : History) → Told index numbers old old 0
  told_none index numbers old = record { part = []; talks = λ later. refl; goes = λ later rest. refl; fine = refl }

  -- what is published next
  next_is : (index numbers : List ℕ) (count upto : ℕ) (later : Script) (rest : Part) → slice_get numbers count ≡ Some upto
      → publishes index count (drop count numbers) later rest ≡ publishes index count (upto ∷ drop (count + 1) numbers) later rest
  next_is index numbers count upto later rest at = ap (λ (l : List ℕ). publishes index count l later rest) (drop_at numbers count upto at)

  told_talks : (index numbers : List ℕ) (old mid new : History) (count upto : ℕ) (said : Reply) (t : Told index numbers old mid count)
      → slice_get numbers count ≡ Some upto → Asked limits seat 4 mid new (asked seat moment (Publish index count upto)) said
      → (later : Script) → Talks limits seat moment (publishes index 0 numbers later) old new (t.part ++ (Publish index count upto, said) ∷ [])
  told_talks index numbers old mid new count upto said t at was later =
      talks_on limits seat moment (publishes index 0 numbers later) (publishes index count (upto ∷ drop (count + 1) numbers) later) old mid new t.part ((Publish index count upto, said) ∷ [])
      (t.talks later) (λ rest. t.goes later rest ∙ next_is index numbers count upto later rest at)
      (talks_one limits seat moment (publishes index count (upto ∷ drop (count + 1) numbers) later) mid new (Publish index count upto) said refl was)

  -- what follows after one more
  told_goes : (index numbers : List ℕ) (old mid : History) (count upto : ℕ) (said : Reply) (t : Told index numbers old mid count)
      → slice_get numbers count ≡ Some upto → (later : Script) (rest : Part)
      → publishes index 0 numbers later ((t.part ++ (Publish index count upto, said) ∷ []) ++ rest)
      ≡ publishes index count (upto ∷ drop (count + 1) numbers) later ((Publish index count upto, said) ∷ rest)
  told_goes index numbers old mid count upto said t at later rest =
      ap (publishes index 0 numbers later) (append_assoc t.part ((Publish index count upto, said) ∷ []) rest)
      ∙ t.goes later ((Publish index count upto, said) ∷ rest)
      ∙ next_is index numbers count upto later ((Publish index count upto, said) ∷ rest) at

  -- one more shard was published
  pub told_more : (index numbers : List ℕ) (old mid new : History) (count upto : ℕ) (said : Reply)
      → Told index numbers old mid count → slice_get numbers count ≡ Some upto → Asked limits seat 4 mid new (asked seat moment (Publish index count upto)) said
      → is_refused said ≡ false → Told index numbers old new (count + 1)
  told_more index numbers old mid new count upto said t at was fine =
      record {
        part = t.part ++ (Publish index count upto, said) ∷ [];
        talks = told_talks index numbers old mid new count upto said t at was;
        goes = λ later rest. told_goes index numbers old mid count upto said t at later rest
            ∙ if_false (is_refused said) None (publishes index (count + 1) (drop (count + 1) numbers) later rest) fine;
        fine = refused-append t.part ((Publish index count upto, said) ∷ []) t.fine ∙ first_of-none (refusal (named.Index index) said) ∙ not_refused (named.Index index) said fine;
      }

  -- all were published
  pub told_all : (index numbers : List ℕ) (old new : History) (count : ℕ) → Told index numbers old new count → length numbers ≤ count
      → Published limits seat moment index numbers old new None
  told_all index numbers old new count t all =
      record {
        part = t.part;
        talks = t.talks;
        goes = λ later rest. t.goes later rest ∙ ap (λ (l : List ℕ). publishes index count l later rest) (drop_all numbers count all);
        fine = t.fine;
      }

  -- a Publish was refused
  pub told_refused : (index numbers : List ℕ) (old mid new : History) (count upto : ℕ) (said : Reply)
      → Told index numbers old mid count → slice_get numbers count ≡ Some upto → Asked limits seat 4 mid new (asked seat moment (Publish index count upto)) said
      → is_refused said ≡ true → Published limits seat moment index numbers old new (Some said)
  told_refused index numbers old mid new count upto said t at was bad = (
    record {
      part = t.part ++ (Publish index count upto, said) ∷ [];
      talks = told_talks index numbers old mid new count upto said t at was;
      all = λ later. ap (publishes index 0 numbers later) (sym (append-nil (t.part ++ (Publish index count upto, said) ∷ [])))
          ∙ told_goes index numbers old mid count upto said t at later []
          ∙ if_true (is_refused said) None (publishes index (count + 1) (drop (count + 1) numbers) later []) bad;
      is = refused-append t.part ((Publish index count upto, said) ∷ []) t.fine ∙ first_of-none (refusal (named.Index index) said);
    },
    bad,
  )

  -- memory ran out between two shards, or at one
  pub told_cut : (index numbers : List ℕ) (old new : History) (count : ℕ) → Told index numbers old new count → Strayed limits seat moment (publishes index 0 numbers) old new
  told_cut index numbers old new count t later = record { part = t.part; mid = new; talks = t.talks later; rest = inl refl }

  pub told_tried : (index numbers : List ℕ) (old mid new : History) (count upto : ℕ) → Told index numbers old mid count → slice_get numbers count ≡ Some upto
      → MayHaveAsked seat 4 mid new (asked seat moment (Publish index count upto)) → Strayed limits seat moment (publishes index 0 numbers) old new
  told_tried index numbers old mid new count upto t at tried later =
      cut_on limits seat moment (publishes index 0 numbers later) (publishes index count (upto ∷ drop (count + 1) numbers) later) old mid new t.part (t.talks later)
      (λ rest. t.goes later rest ∙ next_is index numbers count upto later rest at)
      (cut_first limits seat moment (publishes index count (upto ∷ drop (count + 1) numbers) later) mid new (Publish index count upto) refl tried)

  -- ---- an index

  -- after a Seal all were published
  pub was_refreshed : (index numbers : List ℕ) (old mid new : History) → Asked limits seat 4 old mid (asked seat moment (Seal index)) (Sealed numbers)
      → Published limits seat moment index numbers mid new None → WasRefreshed limits seat moment index old new numbers
  was_refreshed index numbers old mid new was p =
      record {
        went = record {
          part = (Seal index, Sealed numbers) ∷ p.part;
          talks = λ later. (mid, refl, was, p.talks later);
          goes = λ later rest. p.goes later rest;
          fine = p.fine;
        };
        more = p.part;
        first = refl;
      }

  pub ended_later : (index numbers : List ℕ) (old mid new : History) (said : Reply) → Asked limits seat 4 old mid (asked seat moment (Seal index)) (Sealed numbers)
      → Published limits seat moment index numbers mid new (Some said) → EndedBy limits seat moment index old new said
  ended_later index numbers old mid new said was p =
      record {
        stopped = record {
          part = (Seal index, Sealed numbers) ∷ p.0.part;
          talks = λ later. (mid, refl, was, p.0.talks later);
          all = λ later. p.0.all later;
          is = p.0.is;
        };
        first = λ fine. absurd (let e : true ≡ false = sym p.1 ∙ fine in cc);
      }

  -- the Seal was answered no numbers
  pub ended_first : (index : List ℕ) (old new : History) (said : Reply) → Asked limits seat 4 old new (asked seat moment (Seal index)) said
      → ((later : Script) (part : Part) → after_seal index said later part ≡ None) → EndedBy limits seat moment index old new said
  ended_first index old new said was none =
      record {
        stopped = record {
          part = (Seal index, said) ∷ [];
          talks = λ later. (new, refl, was, refl);
          all = λ later. none later [];
          is = first_of-none (refusal (named.Index index) said);
        };
        first = λ fine. refl;
      }

  pub strayed_first : (index : List ℕ) (old new : History) → MayHaveAsked seat 4 old new (asked seat moment (Seal index)) → Strayed limits seat moment (refresh index) old new
  strayed_first index old new tried later = cut_first limits seat moment (refresh index later) old new (Seal index) refl tried

  pub strayed_later : (index numbers : List ℕ) (old mid new : History) → Asked limits seat 4 old mid (asked seat moment (Seal index)) (Sealed numbers)
      → Strayed limits seat moment (publishes index 0 numbers) mid new → Strayed limits seat moment (refresh index) old new
  strayed_later index numbers old mid new was c later =
      cut_on limits seat moment (refresh index later) (publishes index 0 numbers later) old mid new ((Seal index, Sealed numbers) ∷ [])
      (talks_one limits seat moment (refresh index later) old mid (Seal index) (Sealed numbers) refl was) (λ rest. refl) (c later)

  -- ---- several indexes

  -- so many first indexes were refreshed
  pub record Cleared (indexes : List (List ℕ)) (old new : History) (count : ℕ) : Type 0 where
    pub part : Part
    pub talks : Talks limits seat moment (refreshes indexes) old new part
    pub goes : (rest : Part) → refreshes indexes (part ++ rest) ≡ refreshes (drop count indexes) rest
    pub fine : refused part ≡ None

  pub cleared_none : (indexes : List (List ℕ)) (old : History) → Cleared indexes old old 0
  cleared_none indexes old = record { part = []; talks = refl; goes = λ rest. refl; fine = refl }

  after_is : (indexes : List (List ℕ)) (old mid : History) (count : ℕ) (index : List ℕ) (d : Cleared indexes old mid count) → slice_get indexes count ≡ Some index
      → (rest : Part) → refreshes indexes (d.part ++ rest) ≡ refresh index (refreshes (drop (count + 1) indexes)) rest
  after_is indexes old mid count index d at rest = d.goes rest ∙ ap (λ (l : List (List ℕ)). refreshes l rest) (drop_at indexes count index at)

  pub cleared_more : (indexes : List (List ℕ)) (old mid new : History) (count : ℕ) (index numbers : List ℕ) → Cleared indexes old mid count → slice_get indexes count ≡ Some index
      → WasRefreshed limits seat moment index mid new numbers → Cleared indexes old new (count + 1)
  cleared_more indexes old mid new count index numbers d at w =
      let later = refreshes (drop (count + 1) indexes) in
      record {
        part = d.part ++ w.went.part;
        talks = talks_on limits seat moment (refreshes indexes) (refresh index later) old mid new d.part w.went.part d.talks (after_is indexes old mid count index d at) (w.went.talks later);
        goes = λ rest. ap (refreshes indexes) (append_assoc d.part w.went.part rest) ∙ after_is indexes old mid count index d at (w.went.part ++ rest) ∙ w.went.goes later rest;
        fine = refused-append d.part w.went.part d.fine ∙ w.went.fine;
      }

  pub cleared_all : (indexes : List (List ℕ)) (old new : History) (count : ℕ) → Cleared indexes old new count → length indexes ≤ count
      → RanScript limits seat moment (refreshes indexes) old new None
  cleared_all indexes old new count d all =
      record {
        part = d.part;
        talks = d.talks;
        all = ap (refreshes indexes) (sym (append-nil d.part)) ∙ d.goes [] ∙ ap (λ (l : List (List ℕ)). refreshes l []) (drop_all indexes count all);
        is = d.fine;
      }

  pub cleared_ended : (indexes : List (List ℕ)) (old mid new : History) (count : ℕ) (index : List ℕ) (said : Reply) → Cleared indexes old mid count → slice_get indexes count ≡ Some index
      → EndedBy limits seat moment index mid new said → RanScript limits seat moment (refreshes indexes) old new (refusal (named.Index index) said)
  cleared_ended indexes old mid new count index said d at e =
      let later = refreshes (drop (count + 1) indexes) in
      record {
        part = d.part ++ e.stopped.part;
        talks = talks_on limits seat moment (refreshes indexes) (refresh index later) old mid new d.part e.stopped.part d.talks (after_is indexes old mid count index d at) (e.stopped.talks later);
        all = after_is indexes old mid count index d at e.stopped.part ∙ e.stopped.all later;
        is = refused-append d.part e.stopped.part d.fine ∙ e.stopped.is;
      }

  pub cleared_none_more : (indexes : List (List ℕ)) (old new : History) (count : ℕ) → Cleared indexes old new count → CutShort limits seat moment (refreshes indexes) old new
  cleared_none_more indexes old new count d = record { part = d.part; mid = new; talks = d.talks; rest = inl refl }

  pub cleared_cut : (indexes : List (List ℕ)) (old mid new : History) (count : ℕ) (index : List ℕ) → Cleared indexes old mid count → slice_get indexes count ≡ Some index
      → Strayed limits seat moment (refresh index) mid new → CutShort limits seat moment (refreshes indexes) old new
  cleared_cut indexes old mid new count index d at c =
      let later = refreshes (drop (count + 1) indexes) in
      cut_on limits seat moment (refreshes indexes) (refresh index later) old mid new d.part d.talks (after_is indexes old mid count index d at) (c later)
