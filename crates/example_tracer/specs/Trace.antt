-- Which line of a conversation sent what a line received.
use Rattle.std.specs.Prelude.{ℕ, suc, Bool, true, false, not, ◌≡◌, ◌<◌, ◌⊎◌, ◌&&◌, List, [], ◌∷◌, ◌++◌, Option, Some, None, IfSome}
use Rattle.std.specs.Prelude.{is_some, is_none, nat_le, nat_lt, slice_get, length, take}
use Rattle.std.specs.List.{list_any}
use Rattle.std.specs.Option.{option_and_then}
use Rattle.std.specs.List.{slice_index_or}
use Rattle.example_tracer.specs.declared.exchange.Exchange.{Exchange}
use Rattle.example_tracer.specs.declared.arrows.Arrow.{Arrow}
use Rattle.example_tracer.specs.Exchange.{Seen, sent_by, received_by, is_text}

-- The message that an exchange sent, if it sent one.
abbrev pub sent_of : Exchange → Option Seen
sent_of it = sent_by it.line.now it.reply.now

-- The message that an exchange received, if it received one.
abbrev pub received_of : Exchange → Option Seen
received_of it = received_by it.line.now it.reply.now

-- Whether an exchange received a sample.
abbrev pub gives_sample : Exchange → Bool
gives_sample it = is_some (received_of it)

-- The message that a line sent, if it sent one.
abbrev pub sent_at : List Exchange → ℕ → Option Seen
sent_at conversation line = option_and_then sent_of (slice_get conversation line)

-- The message that a line received, if it received one.
abbrev pub received_at : List Exchange → ℕ → Option Seen
received_at conversation line = option_and_then received_of (slice_get conversation line)

-- Whether the values may be the same: unknown ones fit all.
abbrev pub values_fit : Option (List ℕ) → Option (List ℕ) → Bool
values_fit None those = true
values_fit (Some these) None = true
values_fit (Some these) (Some those) = is_text these those

-- Whether the message that was sent may be the one that was received, by its values.
abbrev pub fits : Seen → Seen → Bool
fits sent received = values_fit sent.values received.values

-- Whether a line isn't after the origin, if that is known.
abbrev pub up_to : ℕ → Option ℕ → Bool
up_to line None = false
up_to line (Some origin) = nat_le line origin

-- Whether an arrow shows that the subscriber received this line's message of the publisher, or a later one.
abbrev pub passes : Arrow → List ℕ → List ℕ → ℕ → Bool
passes arrow subscriber publisher line = up_to line arrow.origin && is_text arrow.subscriber.now subscriber
    && is_text arrow.publisher.now publisher

-- Whether a line's message may be the one that was received, after what the arrows show.
abbrev pub may_come : List Arrow → Seen → ℕ → Option Seen → Bool
may_come arrows received line None = false
may_come arrows received line (Some sent) = fits sent received && not (list_any (λ arrow. passes arrow received.port sent.port line) arrows)

-- Whether the message of a line of the conversation may be the one that was received.
abbrev pub may_be : List Exchange → List Arrow → Seen → ℕ → Bool
may_be conversation arrows received line = may_come arrows received line (sent_at conversation line)

-- No number below n passes the test, or at least two do.
abbrev pub NoneOrTwo : (ℕ → Bool) → ℕ → Type 0
NoneOrTwo test n = ((k : ℕ) → k < n → test k ≡ false) ⊎ ((j : ℕ) × (k : ℕ) × (j < k) × (k < n) × (test j ≡ true) × (test k ≡ true))

-- The only number below n that passes the test, if there is exactly one.
abbrev pub IsOnly : (ℕ → Bool) → ℕ → Option ℕ → Type 0
IsOnly test n None = NoneOrTwo test n
IsOnly test n (Some k) = (k < n) × (test k ≡ true) × ((j : ℕ) → j < n → test j ≡ true → j ≡ k)

-- The arrow of what a line received, if `arrows` are those of the lines before it.
pub record IsArrow (conversation : List Exchange) (arrows : List Arrow) (line : ℕ) (received : Seen) (arrow : Arrow) : Type 0 where
  pub receipt : arrow.receipt ≡ line
  pub subscriber : arrow.subscriber.now ≡ received.port
  pub origin : IsOnly (may_be conversation arrows received) line arrow.origin
  pub publisher : IfSome arrow.origin (λ k. IfSome (sent_at conversation k) (λ sent. arrow.publisher.now ≡ sent.port))

-- The arrows of the first n lines: one for each received sample, in order.
pub data Trace (conversation : List Exchange) : ℕ → List Arrow → Type 0 where
  start : Trace conversation 0 []
  silent : {n : ℕ} {arrows : List Arrow} → Trace conversation n arrows → received_at conversation n ≡ None
      → Trace conversation (suc n) arrows
  sample : {n : ℕ} {arrows : List Arrow} {arrow : Arrow} {received : Seen} → Trace conversation n arrows
      → received_at conversation n ≡ Some received → IsArrow conversation arrows n received arrow
      → Trace conversation (suc n) (arrows ++ arrow ∷ [])

-- An arrow ends at a line that received a sample; if its origin is known, that is an earlier line that sent a message, and the values fit.
abbrev pub Joins : List Exchange → Arrow → Type 0
Joins conversation arrow =
    (received : Seen) × (received_at conversation arrow.receipt ≡ Some received) × (arrow.subscriber.now ≡ received.port)
    × IfSome arrow.origin (λ line. (line < arrow.receipt)
    × ((sent : Seen) × (sent_at conversation line ≡ Some sent) × (arrow.publisher.now ≡ sent.port) × (fits sent received ≡ true)))

-- Between the same two ports the later arrow begins at the later line.
abbrev pub Follows : Option ℕ → Option ℕ → Type 0
Follows None later = Unit {0}
Follows (Some first) None = Unit {0}
Follows (Some first) (Some later) = first < later

-- Of two arrows between the same ports, the message that was received second was also sent second.
abbrev pub KeepsOrder : Arrow → Arrow → Type 0
KeepsOrder first later = first.subscriber.now ≡ later.subscriber.now → first.publisher.now ≡ later.publisher.now
    → Follows first.origin later.origin

-- Whether the subscriber received, after this line, a message of unknown origin.
abbrev pub untold : Arrow → List ℕ → ℕ → Bool
untold arrow subscriber line = is_none arrow.origin && nat_lt line arrow.receipt && is_text arrow.subscriber.now subscriber

-- Whether a line is before the origin, if that is known.
abbrev pub before_it : ℕ → Option ℕ → Bool
before_it line None = false
before_it line (Some origin) = nat_lt line origin

-- Whether an arrow shows that its subscriber, which was created at line `since`, never gets the message of a line.
abbrev pub is_lost : List Arrow → Arrow → ℕ → ℕ → Option Seen → Bool
is_lost before arrow line since None = false
is_lost before arrow line since (Some sent) =
    nat_lt since line && before_it line arrow.origin && is_text sent.port arrow.publisher.now
    && not (list_any (λ earlier. passes earlier arrow.subscriber.now arrow.publisher.now line) before)
    && not (list_any (λ earlier. untold earlier arrow.subscriber.now line) before)

-- The other arrow, if it is between the same ports, doesn't begin at this line.
abbrev pub LeadsElsewhere : Arrow → Arrow → ℕ → Type 0
LeadsElsewhere arrow other line = other.subscriber.now ≡ arrow.subscriber.now → other.publisher.now ≡ arrow.publisher.now
    → other.origin ≡ Some line → ⊥

-- A message that an arrow shows as lost isn't the origin of any arrow between the same ports.
abbrev pub LostForGood : List Exchange → List Arrow → Type 0
LostForGood conversation arrows = (i j line since : ℕ) (d : Arrow) → i < length arrows → j < length arrows
    → is_lost (take i arrows) (slice_index_or arrows i d) line since (sent_at conversation line) ≡ true
    → LeadsElsewhere (slice_index_or arrows i d) (slice_index_or arrows j d) line
