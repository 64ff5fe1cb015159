-- Who uses the messages of one publisher. The type `L` identifies a loan, and `X` a message: both are slot numbers here, and the
-- contents of a loan or message in the crates above.
use Rattle.std.specs.Prelude.{ℕ, ◌+◌, ◌-◌, ◌*◌, Bool, true, false, ◌||◌, ◌==◌, List, [], ◌∷◌, ◌++◌, length, drop, take, get_or, set}
use Rattle.std.specs.Prelude.{remove, nat_lt, count_by, Option, None, Some, option_to_list, if◌then◌else◌}
use Rattle.iox_domain_slots.specs.Waiting.{put, put_over}
use Rattle.iox_domain_slots.specs.declared.stage.Stage.{Stage}
use Rattle.iox_domain_slots.specs.declared.stage.Stage.TheVariants as stage

-- A connection: the maximum number of waiting messages, the messages that wait, the oldest first, and those that its subscriber
-- holds.
pub record Connection (X : Type 0) : Type 0 where
  pub stage : Stage
  pub limit : ℕ
  pub waiting : List X
  pub borrowed : List X

-- No connection.
abbrev pub nobody : {X : Type 0} → Connection X
nobody = record { stage = stage.Vacant; limit = 0; waiting = []; borrowed = [] }

-- One publisher. Its slots come in segments of `size` slots; `first` is the first slot of the current segment. At most
-- `most_loans` loans exist at once, and the last `kept` messages are its history. At most `most_waiting` messages wait in a
-- connection, and its subscriber holds at most `most_borrowed`.
pub record Uses (L X : Type 0) : Type 0 where
  pub first : ℕ
  pub size : ℕ
  pub most_loans : ℕ
  pub kept : ℕ
  pub most_waiting : ℕ
  pub most_borrowed : ℕ
  pub overflows : Bool
  pub sending : Option X
  pub loans : List L
  pub history : List X
  pub connections : List (Connection X)

-- What a connection keeps in use: the messages that wait in it or are borrowed.
abbrev pub held_by : {X : Type 0} → Connection X → List X
held_by connection = connection.waiting ++ connection.borrowed

-- What the connections of the list keep in use.
abbrev pub held : {X : Type 0} → List (Connection X) → List X
held [] = []
held (connection ∷ connections) = held_by connection ++ held connections

-- What is in use: the message that is being sent, the loans, the history, and the messages that wait or are borrowed.
abbrev pub in_use : {X : Type 0} → Uses X X → List X
in_use uses = option_to_list uses.sending ++ (uses.loans ++ (uses.history ++ held uses.connections))

-- The last `n` elements of the list, or the whole list if it is shorter.
abbrev pub newest : {X : Type 0} → ℕ → List X → List X
newest n xs = drop (length xs - n) xs

-- The publisher after this loan was made.
abbrev pub loaned : {L X : Type 0} → L → Uses L X → Uses L X
loaned loan uses = record uses { loans = uses.loans ++ loan ∷ [] }

-- The publisher after a new segment of the same size was opened; it follows the others, and is the current one from now on.
abbrev pub segment_opened : {L X : Type 0} → Uses L X → Uses L X
segment_opened uses = record uses { first = uses.first + uses.size }

-- The publisher after the loan at this place of the list was dropped.
abbrev pub dropped : {L X : Type 0} → ℕ → Uses L X → Uses L X
dropped at uses = record uses { loans = remove uses.loans at }

-- The publisher after the send of the loan at place `at` began: its message is being sent, is no longer a loan, and is the
-- newest of the history.
abbrev pub begun : {L X : Type 0} → ℕ → X → Uses L X → Uses L X
begun at message uses = record uses {
  sending = Some message;
  loans = remove uses.loans at;
  history = newest uses.kept (uses.history ++ message ∷ []);
}

-- The publisher after the send was finished.
abbrev pub finished : {L X : Type 0} → Uses L X → Uses L X
finished uses = record uses { sending = None }

-- The connection at this index, or `nobody` if none exists there.
abbrev pub connection_at : {L X : Type 0} → ℕ → Uses L X → Connection X
connection_at index uses = get_or uses.connections index nobody

-- The publisher with `connection` at this index.
abbrev pub with_connection : {L X : Type 0} → ℕ → Connection X → Uses L X → Uses L X
with_connection index connection uses = record uses { connections = set uses.connections index connection }

-- Whether the connection accepts a message: its mailbox overflows, or isn't full.
abbrev pub accepts : {X : Type 0} → Bool → Connection X → Bool
accepts overflows connection = overflows || nat_lt (length connection.waiting) connection.limit

-- The connection after `message` was put into its mailbox. If the mailbox is full and overflows, its oldest message is dropped;
-- if it is full and doesn't overflow, it is unchanged.
abbrev pub offered : {X : Type 0} → Bool → X → Connection X → Connection X
offered overflows message connection = record connection {
  waiting = if overflows then put_over connection.limit connection.waiting message
      else put connection.limit connection.waiting message;
}

-- The connection after its subscriber borrowed the oldest waiting message, if one waited.
abbrev pub taken : {X : Type 0} → Connection X → Connection X
taken connection = record connection {
  waiting = drop 1 connection.waiting;
  borrowed = connection.borrowed ++ take 1 connection.waiting;
}

-- The connection with this stage, limit and these messages; none at all if it ended and nothing of it is borrowed.
abbrev pub settled : {X : Type 0} → Stage → ℕ → List X → List X → Connection X
settled stage.Ended limit waiting [] = nobody
settled now limit waiting borrowed = record { stage = now; limit = limit; waiting = waiting; borrowed = borrowed }

-- The connection after the borrowed message at this place of the list was released.
abbrev pub given_back : {X : Type 0} → ℕ → Connection X → Connection X
given_back at connection = settled connection.stage connection.limit connection.waiting (remove connection.borrowed at)

-- The connection after it ended: what waited is lost, and what is borrowed stays in use.
abbrev pub ended : {X : Type 0} → Connection X → Connection X
ended connection = settled stage.Ended connection.limit [] connection.borrowed

-- The connection after all its waiting messages were lost.
abbrev pub emptied : {X : Type 0} → Connection X → Connection X
emptied connection = record connection { waiting = [] }

-- A new connection with this limit, in which nothing waits.
abbrev pub connected : {X : Type 0} → ℕ → Connection X
connected limit = record { stage = stage.Live; limit = limit; waiting = []; borrowed = [] }

-- The list after the connection was put at this index of it, or appended if the index is the length of the list.
abbrev pub placed : {X : Type 0} → ℕ → Connection X → List (Connection X) → List (Connection X)
placed index connection connections =
    if index == length connections then connections ++ connection ∷ [] else set connections index connection

-- The new connection after it got the newest messages of the history, as many as its limit, the oldest first.
abbrev pub welcomed : {X : Type 0} → List X → Connection X → Connection X
welcomed history connection = record connection { waiting = newest connection.limit history }

-- Whether this is the stage of an existing connection.
abbrev pub is_open : Stage → Bool
is_open stage.Vacant = false
is_open stage.Live = true
is_open stage.Ended = true

-- Whether the connection exists: it is live, or it ended and some of its messages are still borrowed.
abbrev pub is_there : {X : Type 0} → Connection X → Bool
is_there connection = is_open connection.stage

-- How many connections of the list exist.
abbrev pub how_many : {X : Type 0} → List (Connection X) → ℕ
how_many connections = count_by is_there connections

-- How many slots suffice in the worst case: for all that may wait in the connections and be borrowed from them, for the history
-- and for the loans.
abbrev pub worst_case : {L X : Type 0} → Uses L X → ℕ
worst_case uses = how_many uses.connections * (uses.most_waiting + uses.most_borrowed) + (uses.kept + uses.most_loans)
