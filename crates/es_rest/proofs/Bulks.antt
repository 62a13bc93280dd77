-- The items of a bulk, one after the other.
use Rattle.std.proofs.Common.{Option, cond, MatchResult, ◌≡◌, refl, sym, ap, subst, ◌∙◌, inl, inr, ⊎_elim, ℕ, List, [], ◌∷◌, ◌++◌, length, Result, Ok, Err, append_assoc, arith}
use Rattle.std.specs.Prelude.{OnOk, Bool, true, false, ◌||◌, bytes_eq}
use Rattle.std.proofs.lemmas.List.{append-nil}
use Rattle.list_machine.specs.declared.event.Event.{Event}
use Rattle.list_machine.specs.declared.event.Reply.{Reply}
use Rattle.list_machine.specs.declared.event.Limits.{Limits}
use Rattle.list_machine.specs.Run.{History}
use Rattle.list_machine.specs.Serving.{Asked, asked}
use Rattle.doc_json.specs.declared.bulk.BulkItem.{BulkItem}
use Rattle.reply_json.specs.declared.response.BulkLine.{BulkLine}
use Rattle.reply_json.specs.declared.response.BulkOutcome.TheVariants as outcome
use Rattle.reply_json.specs.declared.response.Response.{Response}
use Rattle.es_rest.specs.declared.bulk.Written.{Written}
use Rattle.es_route.specs.Items.{write_of}
use Rattle.es_rest.specs.Items.{changed_and, has_name, changed_by, line_and, line_of, lines_of, outcome_of, with_index, write_and, writes_of}
use Rattle.es_rest.specs.Led.{BulkCut, ItemAsked, ItemCut, ItemDone, ItemRefused, ItemsDone}
use Rattle.es_rest.specs.Scripts.{Part, Script, Talks, each}
use Rattle.es_rest.specs.Talk.{after_each}
use Rattle.es_rest.proofs.Scripts.{cut_first, cut_on, talks_on, talks_one}

-- a list without items
pub none_left : {A : Type 0} (l : List A) → length l ≡ 0 → l ≡ []
none_left [] none = refl
none_left (x ∷ xs) none = absurd (omega (arith, none))

-- ---- names

or_swap : (a b c : Bool) → (a || (b || c)) ≡ (b || (a || c))
or_swap true true c = refl
or_swap true false c = refl
or_swap false true c = refl
or_swap false false c = refl

pub cond-or : (b c : Bool) → cond b true c ≡ (b || c)
cond-or true c = refl
cond-or false c = refl

-- one more name
pub has_name-push : (name more : List ℕ) (names : List (List ℕ)) → has_name name (names ++ more ∷ []) ≡ (bytes_eq more name || has_name name names)
has_name-push name more [] = refl
has_name-push name more (other ∷ names) =
    ap (λ b. bytes_eq other name || b) (has_name-push name more names) ∙ or_swap (bytes_eq other name) (bytes_eq more name) (has_name name names)

-- ---- scripts

each-same : (events : List Event) (f g : List Reply → Script) (part : Part) → ((more : List Reply) (rest : Part) → f more rest ≡ g more rest) → each events f part ≡ each events g part
each-same [] f g part same = same [] part
each-same (event ∷ events) f g [] same = refl
each-same (event ∷ events) f g (said ∷ part) same = each-same events (λ more. f (said.1 ∷ more)) (λ more. g (said.1 ∷ more)) part (λ more rest. same (said.1 ∷ more) rest)

after-same : (events : List Event) (f g : List Reply → Part → Option Response) (part : Part) → ((more : List Reply) (rest : Part) → f more rest ≡ g more rest) → after_each events f part ≡ after_each events g part
after-same [] f g part same = same [] part
after-same (event ∷ events) f g [] same = refl
after-same (event ∷ events) f g (said ∷ part) same = after-same events (λ more rest. f (said.1 ∷ more) rest) (λ more rest. g (said.1 ∷ more) rest) part (λ more rest. same (said.1 ∷ more) rest)

module _ (limits : Limits) (seat moment : ℕ) where
  -- an item whose Write was asked, with its line or without memory for it
  pub item_asked : (old new : History) (item : BulkItem) (event : Event) (said : Reply) (before after : Written) {E : Type 0} (r : Result (Unit {0}) E) → write_of item ≡ Ok event
      → Asked limits seat 4 old new (asked seat moment event) said
      → OnOk r (after.lines.items ≡ before.lines.items ++ line_of item (outcome_of item.index said) ∷ []) → OnOk r (after.changed ≡ with_index before.changed item.index said)
      → MatchResult r (λ _. ItemDone limits seat moment old new item before after) (λ _. ItemCut limits seat moment old new item)
  item_asked old new item event said before after (Ok done) is was lines changed = inr (record { event = event; is = is; said = said; was = was; lines = lines; changed = changed })
  item_asked old new item event said before after (Err e) is was lines changed = inr (event, is, inr (said, was))

  -- some first items were gone through, and these are left
  pub record Gone (all : List BulkItem) (old now : History) (written : Written) (left : List BulkItem) : Type 0 where
    pub part : Part
    pub replies : List Reply
    pub talks : (later : List Reply → Script) → Talks limits seat moment (each (writes_of all) later) old now part
    pub goes : (later : List Reply → Script) (rest : Part) → each (writes_of all) later (part ++ rest) ≡ each (writes_of left) (λ more. later (replies ++ more)) rest
    pub after : (later : List Reply → Part → Option Response) (rest : Part) → after_each (writes_of all) later (part ++ rest) ≡ after_each (writes_of left) (λ more r. later (replies ++ more) r) rest
    pub lines : (more : List Reply) → lines_of all (replies ++ more) ≡ written.lines.items ++ lines_of left more
    pub changed : (more : List Reply) → changed_by [] all (replies ++ more) ≡ changed_by written.changed left more

  pub gone_none : (all : List BulkItem) (old : History) (written : Written) → written.lines.items ≡ [] → written.changed ≡ [] → Gone all old old written all
  gone_none all old written lines changed =
      record {
        part = [];
        replies = [];
        talks = λ later. refl;
        goes = λ later rest. refl;
        after = λ later rest. refl;
        lines = λ more. ap (λ (l : List BulkLine). l ++ lines_of all more) (sym lines);
        changed = λ more. ap (λ (c : List (List ℕ)). changed_by c all more) (sym changed);
      }

  -- one more was refused by itself
  pub gone_refused : (all : List BulkItem) (old now new : History) (before after : Written) (item : BulkItem) (left : List BulkItem)
      → Gone all old now before (item ∷ left) → ItemRefused now new item before after → Gone all old new after left
  gone_refused all old now new before after item left g r =
      let line = line_of item (outcome.Fault r.fault) in
      record {
        part = g.part;
        replies = g.replies;
        talks = λ later. subst (λ (l : History). Talks limits seat moment (each (writes_of all) later) old l g.part) (sym r.same) (g.talks later);
        goes = λ later rest. g.goes later rest ∙ ap (λ w. each (write_and w (writes_of left)) (λ more. later (g.replies ++ more)) rest) r.is;
        after = λ later rest. g.after later rest ∙ ap (λ w. after_each (write_and w (writes_of left)) (λ more p. later (g.replies ++ more) p) rest) r.is;
        lines = λ more. g.lines more ∙ ap (λ w. before.lines.items ++ line_and item (lines_of left) w more) r.is
            ∙ sym (append_assoc before.lines.items (line ∷ []) (lines_of left more)) ∙ ap (λ (l : List BulkLine). l ++ lines_of left more) (sym r.lines);
        changed = λ more. g.changed more ∙ ap (λ w. changed_and before.changed item.index (λ names. changed_by names left) w more) r.is
            ∙ ap (λ (c : List (List ℕ)). changed_by c left more) (sym r.changed);
      }

  -- or its Write was asked
  next_goes : (all : List BulkItem) (old now : History) (before : Written) (item : BulkItem) (left : List BulkItem) (event : Event) (g : Gone all old now before (item ∷ left)) → write_of item ≡ Ok event
      → (later : List Reply → Script) (rest : Part) → each (writes_of all) later (g.part ++ rest) ≡ each (event ∷ writes_of left) (λ more. later (g.replies ++ more)) rest
  next_goes all old now before item left event g is later rest =
      g.goes later rest ∙ ap (λ w. each (write_and w (writes_of left)) (λ more. later (g.replies ++ more)) rest) is

  next_talks : (all : List BulkItem) (old now new : History) (before : Written) (item : BulkItem) (left : List BulkItem) (event : Event) (said : Reply) (g : Gone all old now before (item ∷ left)) → write_of item ≡ Ok event
      → Asked limits seat 4 now new (asked seat moment event) said → (later : List Reply → Script) → Talks limits seat moment (each (writes_of all) later) old new (g.part ++ (event, said) ∷ [])
  next_talks all old now new before item left event said g is was later =
      let script = each (event ∷ writes_of left) (λ more. later (g.replies ++ more)) in
      talks_on limits seat moment (each (writes_of all) later) script old now new g.part ((event, said) ∷ []) (g.talks later) (next_goes all old now before item left event g is later)
      (talks_one limits seat moment script now new event said refl was)

  pub gone_asked : (all : List BulkItem) (old now new : History) (before after : Written) (item : BulkItem) (left : List BulkItem)
      → Gone all old now before (item ∷ left) → ItemAsked limits seat moment now new item before after → Gone all old new after left
  gone_asked all old now new before after item left g r =
      let x : Event × Reply = (r.event, r.said) in
      let line = line_of item (outcome_of item.index r.said) in
      let longer : (more : List Reply) → g.replies ++ r.said ∷ more ≡ (g.replies ++ r.said ∷ []) ++ more = λ more. sym (append_assoc g.replies (r.said ∷ []) more) in
      record {
        part = g.part ++ x ∷ [];
        replies = g.replies ++ r.said ∷ [];
        talks = next_talks all old now new before item left r.event r.said g r.is r.was;
        goes = λ later rest. ap (each (writes_of all) later) (append_assoc g.part (x ∷ []) rest) ∙ next_goes all old now before item left r.event g r.is later (x ∷ rest)
            ∙ each-same (writes_of left) (λ more. later (g.replies ++ r.said ∷ more)) (λ more. later ((g.replies ++ r.said ∷ []) ++ more)) rest (λ more p. ap (λ (l : List Reply). later l p) (longer more));
        after = λ later rest. ap (after_each (writes_of all) later) (append_assoc g.part (x ∷ []) rest) ∙ g.after later (x ∷ rest)
            ∙ ap (λ w. after_each (write_and w (writes_of left)) (λ more p. later (g.replies ++ more) p) (x ∷ rest)) r.is
            ∙ after-same (writes_of left) (λ more p. later (g.replies ++ r.said ∷ more) p) (λ more p. later ((g.replies ++ r.said ∷ []) ++ more) p) rest (λ more p. ap (λ (l : List Reply). later l p) (longer more));
        lines = λ more. ap (lines_of all) (sym (longer more)) ∙ g.lines (r.said ∷ more) ∙ ap (λ w. before.lines.items ++ line_and item (lines_of left) w (r.said ∷ more)) r.is
            ∙ sym (append_assoc before.lines.items (line ∷ []) (lines_of left more)) ∙ ap (λ (l : List BulkLine). l ++ lines_of left more) (sym r.lines);
        changed = λ more. ap (changed_by [] all) (sym (longer more)) ∙ g.changed (r.said ∷ more) ∙ ap (λ w. changed_and before.changed item.index (λ names. changed_by names left) w (r.said ∷ more)) r.is
            ∙ ap (λ (c : List (List ℕ)). changed_by c left more) (sym r.changed);
      }

  pub gone_done : (all : List BulkItem) (old now new : History) (before after : Written) (item : BulkItem) (left : List BulkItem)
      → Gone all old now before (item ∷ left) → ItemDone limits seat moment now new item before after → Gone all old new after left
  gone_done all old now new before after item left g done =
      ⊎_elim (gone_refused all old now new before after item left g) (gone_asked all old now new before after item left g) done

  -- none is left
  pub gone_all : (all : List BulkItem) (old new : History) (written : Written) → Gone all old new written [] → ItemsDone limits seat moment all old new written
  gone_all all old new written g =
      record {
        replies = g.replies;
        led = record {
          part = g.part;
          talks = g.talks;
          goes = λ later rest. g.goes later rest ∙ ap (λ (l : List Reply). later l rest) (append-nil g.replies);
          after = λ later rest. g.after later rest ∙ ap (λ (l : List Reply). later l rest) (append-nil g.replies);
        };
        lines = sym (append-nil written.lines.items) ∙ sym (g.lines []) ∙ ap (lines_of all) (append-nil g.replies);
        changed = sym (g.changed []) ∙ ap (changed_by [] all) (append-nil g.replies);
      }

  -- memory ran out between two items, or at one
  pub gone_so_far : (all : List BulkItem) (old new : History) (written : Written) (left : List BulkItem) → Gone all old new written left → BulkCut limits seat moment all old new
  gone_so_far all old new written left g later = record { part = g.part; mid = new; talks = g.talks later; rest = inl refl }

  pub gone_cut : (all : List BulkItem) (old now new : History) (before : Written) (item : BulkItem) (left : List BulkItem)
      → Gone all old now before (item ∷ left) → ItemCut limits seat moment now new item → BulkCut limits seat moment all old new
  gone_cut all old now new before item left g cut later =
      ⊎_elim
      (λ same. record { part = g.part; mid = now; talks = g.talks later; rest = inl same })
      (λ at. ⊎_elim
      (λ tried.
      let script = each (at.0 ∷ writes_of left) (λ more. later (g.replies ++ more)) in
      cut_on limits seat moment (each (writes_of all) later) script old now new g.part (g.talks later) (next_goes all old now before item left at.0 g at.1 later)
      (cut_first limits seat moment script now new at.0 refl tried))
      (λ was. record { part = g.part ++ (at.0, was.0) ∷ []; mid = new; talks = next_talks all old now new before item left at.0 was.0 g at.1 was.1 later; rest = inl refl })
      at.2)
      cut
