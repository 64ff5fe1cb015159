-- One connection by the slots that it holds: its mailbox, the borrowed slots, and the slots that its subscriber returned and
-- the publisher hasn't taken back yet.
use Rattle.std.specs.Prelude.{ℕ, ◌+◌, ◌<◌, ◌≤◌, ◌≡◌, ◌^◌, Bool, true, false, List, [], ◌∷◌, ◌++◌, length, get_or, nat_lt, Option, None}
use Rattle.std.specs.Prelude.{Some, map, option_to_list, if◌then◌else◌}
use Rattle.iox_domain_slots.specs.Waiting.{put, put_over}
use Rattle.iox_domain_slots.specs.Uses.{Uses, Connection, nobody}
use Rattle.iox_domain_slots.specs.Counting.{SlotsState, times, uses_of}
use Rattle.iox_domain_slots.specs.declared.stage.Stage.TheVariants as stage
use Rattle.iox_domain_slots.specs.declared.mailbox.Put.{Put}
use Rattle.iox_domain_slots.specs.declared.mailbox.Put.TheVariants.{Taken, TakenFor, Refused}

-- The mailbox after `slot` was put into it. If it is full and overflows, its oldest slot is dropped; if it is full and doesn't
-- overflow, it is unchanged.
abbrev pub put_into : Bool → ℕ → List ℕ → ℕ → List ℕ
put_into overflows limit waiting slot = if overflows then put_over limit waiting slot else put limit waiting slot

-- What that put answers: taken, taken in exchange for the oldest slot (the number of which it returns), or refused.
abbrev pub put_answer : Bool → ℕ → List ℕ → ℕ → Put
put_answer overflows limit waiting slot =
    if nat_lt (length waiting) limit then Taken
    else if overflows then TakenFor (get_or (waiting ++ slot ∷ []) 0 0)
    else Refused

-- An existing connection. `returned` has the slots that its subscriber released and the publisher hasn't taken back yet;
-- `delivered` says whether a message was put into the mailbox since the publisher last took them back.
pub record LinkState : Type 0 where
  pub ended : Bool
  pub overflows : Bool
  pub limit : ℕ
  pub most_borrowed : ℕ
  pub waiting : List ℕ
  pub borrowed : List ℕ
  pub returned : List ℕ
  pub delivered : Bool

-- The slots of which the connection has a use: those that wait, are borrowed or were returned.
abbrev pub all_of : LinkState → List ℕ
all_of link = link.waiting ++ (link.borrowed ++ link.returned)

-- The connection as its publisher and its subscriber see it, without the returned slots.
abbrev pub connection_of : LinkState → Connection ℕ
connection_of link = record {
  stage = if link.ended then stage.Ended else stage.Live;
  limit = link.limit;
  waiting = link.waiting;
  borrowed = link.borrowed;
}

-- The maximum number of slots that the connection has uses of at once.
abbrev pub room_of : LinkState → ℕ
room_of link = link.limit + link.most_borrowed + 1

-- The numbers of waiting and of borrowed slots are within their limits, and all slots of the connection together within
-- `room_of`.
abbrev pub IsFit : LinkState → Type 0
IsFit link = (length link.waiting ≤ link.limit) × (length link.borrowed ≤ link.most_borrowed) × (length (all_of link) ≤ room_of link)

-- Both states of the connection differ at most in what waits, is borrowed or was returned, and in `delivered`.
abbrev pub IsSameLink : LinkState → LinkState → Type 0
IsSameLink old new = (new.ended ≡ old.ended) × (new.overflows ≡ old.overflows) × (new.limit ≡ old.limit)
    × (new.most_borrowed ≡ old.most_borrowed)

-- The connections of a publisher: each index has one or none.
pub record LinksState : Type 0 where
  pub overflows : Bool
  pub most_waiting : ℕ
  pub most_borrowed : ℕ
  pub links : List (Option LinkState)

-- What publisher and subscriber see at an index with this connection, or with none.
abbrev pub seen : Option LinkState → Connection ℕ
seen None = nobody
seen (Some link) = connection_of link

-- The slots of which the connection at an index, if one exists, has a use.
abbrev pub slots_at : Option LinkState → List ℕ
slots_at None = []
slots_at (Some link) = all_of link

-- The slots of which any connection of the list has a use.
abbrev pub all_slots : List (Option LinkState) → List ℕ
all_slots [] = []
all_slots (at ∷ rest) = slots_at at ++ all_slots rest

-- The connection, if one exists, after all its returned slots were taken back.
abbrev pub taken_back : Option LinkState → Option LinkState
taken_back None = None
taken_back (Some link) = Some (record link { returned = []; delivered = false })

-- If the connection ended, nothing waits in it, and no returned slot is left in it.
abbrev pub IsOverIfEnded : LinkState → Type 0
IsOverIfEnded link = link.ended ≡ true → (link.waiting ≡ []) × (link.returned ≡ [])

-- If a connection exists here, its settings are these of the publisher, its limit is at most `most_waiting`, and it is in
-- order: `IsOverIfEnded` and `IsFit`.
abbrev pub IsOf : Bool → ℕ → ℕ → Option LinkState → Type 0
IsOf overflows most_waiting most_borrowed None = Unit {0}
IsOf overflows most_waiting most_borrowed (Some link) =
    (link.overflows ≡ overflows) × (link.limit ≤ most_waiting) × (link.most_borrowed ≡ most_borrowed) × IsOverIfEnded link × IsFit link

-- A connection exists here that ended and has a use of no slot.
abbrev pub IsGone : Option LinkState → Type 0
IsGone None = ⊥
IsGone (Some link) = (link.ended ≡ true) × (all_of link ≡ [])

-- If a connection exists here, no returned slot is left in it.
abbrev pub IsTakenBack : Option LinkState → Type 0
IsTakenBack None = Unit {0}
IsTakenBack (Some link) = link.returned ≡ []

-- Who uses which slot of a publisher, as seen from outside its bookkeeping.
abbrev pub seen_uses : SlotsState → Option ℕ → LinksState → Uses ℕ ℕ
seen_uses slots sending links = record {
  first = slots.first;
  size = slots.size;
  most_loans = slots.most_loans;
  kept = slots.kept;
  most_waiting = links.most_waiting;
  most_borrowed = links.most_borrowed;
  overflows = links.overflows;
  sending = sending;
  loans = slots.loans;
  history = slots.history;
  connections = map seen links.links;
}

-- The number of uses of each slot is how often it occurs in the send, the loans, the history and the connections together.
abbrev pub IsTally : SlotsState → Option ℕ → LinksState → Type 0
IsTally slots sending links = (slot : ℕ) → uses_of slot slots ≡
    times slot (option_to_list sending) + (times slot slots.loans + (times slot slots.history + times slot (all_slots links.links)))

-- The numbers of loans and of remembered messages are within their limits, and these limits are below 2^32.
abbrev pub IsSmall : SlotsState → Type 0
IsSmall slots = (length slots.loans ≤ slots.most_loans) × (slots.most_loans < 2 ^ 32) × (length slots.history ≤ slots.kept)
    × (slots.kept < 2 ^ 32)
