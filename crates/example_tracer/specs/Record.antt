-- The record of a conversation.
use Rattle.std.specs.Prelude.{ℕ, ◌&&◌, List, [], ◌∷◌, ◌++◌, Option, Some, None, codes, is_some, unwrap_or, if◌then◌else◌}
use Rattle.std.specs.List.{flat_map}
use Rattle.csv.specs.Writing.{default_writer, row_text}
use Rattle.example_tracer.specs.declared.exchange.Exchange.{Exchange}
use Rattle.example_tracer.specs.Exchange.{Seen, first_word, behind, is_text, sent_by, received_by}

-- The names of the columns.
abbrev pub header : List (List ℕ)
header = codes "line" ∷ codes "reply" ∷ codes "kind" ∷ codes "port" ∷ codes "value" ∷ codes "delivered" ∷ []

-- The values of a message, if they are known.
abbrev pub told : Option Seen → List ℕ
told None = []
told (Some message) = unwrap_or message.values []

-- The values of the first message, or of the other one if there is no first.
abbrev pub told_first : Option Seen → Option Seen → List ℕ
told_first None other = told other
told_first (Some message) other = told (Some message)

-- The values that were sent or received.
abbrev pub values_of : Exchange → List ℕ
values_of it = told_first (sent_by it.line.now it.reply.now) (received_by it.line.now it.reply.now)

-- How many mailboxes took the message that was sent.
abbrev pub delivered_of : Exchange → List ℕ
delivered_of it = if is_some (sent_by it.line.now it.reply.now)
    && is_text (first_word it.reply.now) (codes "ok") then behind it.reply.now else []

-- The row of a line and its reply: these two, and what they say.
abbrev pub fields_of : Exchange → List (List ℕ)
fields_of it = it.line.now ∷ it.reply.now ∷ first_word it.line.now ∷ first_word (behind it.line.now) ∷ values_of it ∷ delivered_of it ∷ []

-- The table: the header, and a row for each line.
abbrev pub table_of : List Exchange → List ℕ
table_of conversation = row_text default_writer header ++ flat_map (λ it. row_text default_writer (fields_of it)) conversation
