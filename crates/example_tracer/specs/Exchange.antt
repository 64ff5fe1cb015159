-- What a line of a script and its reply say of a message.
use Rattle.std.specs.Prelude.{ℕ, Bool, ◌==◌, ◌&&◌, ◌||◌, List, Option, Some, None, codes, if◌then◌else◌, nat_eq}
use Rattle.std.specs.Cmp.Lexicographic.{pointwise}
use Rattle.std.specs.List.{before_first, after_first}
use Rattle.std.specs.Option.{option_map}
use Rattle.example_tracer.specs.declared.exchange.Message.{Message}

-- Whether the byte is this one.
abbrev pub is_byte : ℕ → ℕ → Bool
is_byte byte b = b == byte

-- The first word of a text.
abbrev pub first_word : List ℕ → List ℕ
first_word text = before_first (is_byte 32) text

-- What follows the space after the first word.
abbrev pub behind : List ℕ → List ℕ
behind text = after_first (is_byte 32) text

-- Whether a text is this one, byte by byte.
abbrev pub is_text : List ℕ → List ℕ → Bool
is_text text wanted = pointwise nat_eq text wanted

-- The port that sent or received, and the values, if the line and its reply have them.
pub record Seen : Type 0 where
  pub port : List ℕ
  pub values : Option (List ℕ)

-- A message as clauses see it.
abbrev pub seen : Message → Seen
seen message = record { port = message.port.now; values = option_map (λ values. values.now) message.values }

-- Whether the reply says that a message is on its way: some mailboxes took it, or the send is blocked, or it couldn't deliver to all.
abbrev pub is_sent : List ℕ → Bool
is_sent reply = is_text (first_word reply) (codes "ok") || is_text reply (codes "blocked")
    || is_text reply (codes "err SendError::UnableToDeliver")

-- The message that a line sent, if it sent one.
abbrev pub sent_by : List ℕ → List ℕ → Option Seen
sent_by line reply =
    if is_sent reply then
    (if is_text (first_word line) (codes "put") then Some (record { port = first_word (behind line); values = Some (behind (behind line)) })
    else (if is_text (first_word line) (codes "send") then Some (record { port = first_word (behind line); values = None })
    else None))
    else None

-- The message that a line received, if it received one.
abbrev pub received_by : List ℕ → List ℕ → Option Seen
received_by line reply =
    if is_text (first_word line) (codes "receive")
    && is_text (first_word reply) (codes "ok") then Some (record { port = behind line; values = Some (behind (behind reply)) })
    else None
