-- From the items of a bulk to its response.
use Rattle.std.proofs.Common.{◌≡◌, sym, ap, subst, ◌∙◌, ℕ, Bool, List, [], Option, Some, Ok}
use Rattle.std.specs.Prelude.{if◌then◌else◌}
use Rattle.list_machine.specs.declared.event.Limits.{Limits}
use Rattle.list_machine.specs.Run.{History}
use Rattle.doc_json.specs.declared.bulk.BulkAction.{BulkAction}
use Rattle.doc_json.specs.declared.bulk.BulkItem.{BulkItem}
use Rattle.reply_json.specs.declared.fault.RestFault.{RestFault}
use Rattle.reply_json.specs.declared.response.BulkLine.{BulkLine}
use Rattle.reply_json.specs.declared.response.Response.{Response}
use Rattle.reply_json.specs.declared.response.Response.TheVariants as response
use Rattle.es_route.specs.declared.ask.Ask.TheVariants.{Bulk}
use Rattle.es_rest.specs.declared.bulk.Written.{Written}
use Rattle.es_route.specs.Items.{items_in, items_of}
use Rattle.es_rest.specs.Items.{changed_by, lines_of, writes_of}
use Rattle.es_rest.specs.Led.{BulkCut, ItemsDone, Led}
use Rattle.es_rest.specs.Scripts.{CutShort, RanScript, each, refreshes}
use Rattle.es_rest.specs.Talk.{Conversation, Interrupted, events_of, or_fault, refreshed_of}
use Rattle.es_rest.proofs.Led.{led_cut, led_ran, led_strayed}

module _ (limits : Limits) (seat moment : ℕ) (index : Option (List ℕ)) (body : List ℕ) (refresh : Bool) (actions : List BulkAction) (items : List BulkItem) (are : items_of index body ≡ Ok items) where
  -- the items that the body is
  these : items ≡ items_in (items_of index body)
  these = sym (ap items_in are)

  -- memory ran out at the items
  pub bulk_cut : (old new : History) → BulkCut limits seat moment items old new → Interrupted limits seat moment (Bulk index body refresh actions) old new
  bulk_cut old new cut =
      led_cut limits seat moment (Bulk index body refresh actions) old new
      (λ later. subst (λ (l : List BulkItem). CutShort limits seat moment (each (writes_of l) later) old new) these (cut later))

  led_items : (old mid : History) (written : Written) (d : ItemsDone limits seat moment items old mid written) → Led limits seat moment (events_of (Bulk index body refresh actions)) old mid d.replies
  led_items old mid written d = subst (λ (l : List BulkItem). Led limits seat moment (writes_of l) old mid d.replies) these d.led

  -- the indexes that are refreshed then
  these_indexes : (old mid : History) (written : Written) (indexes : List (List ℕ)) (d : ItemsDone limits seat moment items old mid written) → indexes ≡ (if refresh then written.changed else [])
      → indexes ≡ refreshed_of (Bulk index body refresh actions) d.replies
  these_indexes old mid written indexes d is =
      is ∙ ap (λ (names : List (List ℕ)). if refresh then names else []) (d.changed ∙ ap (λ (l : List BulkItem). changed_by [] l d.replies) these)

  -- or at a refresh
  pub bulk_strayed : (old mid new : History) (written : Written) (indexes : List (List ℕ)) → ItemsDone limits seat moment items old mid written → indexes ≡ (if refresh then written.changed else [])
      → CutShort limits seat moment (refreshes indexes) mid new → Interrupted limits seat moment (Bulk index body refresh actions) old new
  bulk_strayed old mid new written indexes d is cut =
      led_strayed limits seat moment (Bulk index body refresh actions) old mid new d.replies (led_items old mid written d)
      (subst (λ (l : List (List ℕ)). CutShort limits seat moment (refreshes l) mid new) (these_indexes old mid written indexes d is) cut)

  -- all was asked
  pub bulk_done : (old mid new : History) (written : Written) (indexes : List (List ℕ)) (fault : Option RestFault) (answer : Response) → ItemsDone limits seat moment items old mid written → indexes ≡ (if refresh then written.changed else [])
      → RanScript limits seat moment (refreshes indexes) mid new fault → or_fault fault (Some (response.Bulk written.lines.items)) ≡ Some answer → Conversation limits seat moment (Bulk index body refresh actions) old new answer
  bulk_done old mid new written indexes fault answer d is ran said =
      led_ran limits seat moment (Bulk index body refresh actions) old mid new d.replies fault answer (led_items old mid written d)
      (subst (λ (l : List (List ℕ)). RanScript limits seat moment (refreshes l) mid new fault) (these_indexes old mid written indexes d is) ran)
      (ap (λ (lines : List BulkLine). or_fault fault (Some (response.Bulk lines))) (sym (d.lines ∙ ap (λ (l : List BulkItem). lines_of l d.replies) these)) ∙ said)
