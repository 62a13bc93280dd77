-- The bytes of a response.
use Rattle.std.specs.Prelude.{ℕ, Bool, List, [], length}
use Rattle.list_machine.specs.declared.event.Reply.{Reply}
use Rattle.list_machine.specs.declared.event.Reply.TheVariants.{Done, Wrote, Sealed, Opened, Found, Closed}
use Rattle.reply_json.specs.declared.response.Response.{Response}
use Rattle.reply_json.specs.declared.response.Response.TheVariants.{Json, Bulk, Fault}
use Rattle.reply_json.specs.declared.response.RouteName.{RouteName}
use Rattle.reply_json.specs.declared.response.RouteName.TheVariants.{Create, Put, Remove, Refresh, OpenPit, ClosePit, Search}
use Rattle.reply_json.specs.Bulk.{bulk_text}
use Rattle.reply_json.specs.Documents.{closed_text, created_text, opened_text, refreshed_text, wrote_text}
use Rattle.reply_json.specs.Faults.{fault_status, fault_text}
use Rattle.reply_json.specs.Frame.{frame}
use Rattle.reply_json.specs.Hits.{found_text, lead_of}

-- the body of a reply that its route gives a text
abbrev pub reply_text : RouteName → Reply → List ℕ
reply_text (Create index) Done = created_text index
reply_text (Put index id) (Wrote result seq) = wrote_text index id result seq
reply_text (Remove index id) (Wrote result seq) = wrote_text index id result seq
reply_text Refresh (Sealed numbers) = refreshed_text (length numbers)
reply_text OpenPit (Opened number) = opened_text number
reply_text ClosePit (Closed freed) = closed_text freed
reply_text (Search pit) (Found answer) = found_text (lead_of pit) answer
reply_text route reply = []

-- the bytes of a response, which may be the last of its connection
abbrev pub text : Response → Bool → List ℕ
text (Json status reply route) last = frame status (reply_text route reply) last
text (Bulk lines) last = frame 200 (bulk_text lines) last
text (Fault fault) last = frame (fault_status fault) (fault_text fault) last
