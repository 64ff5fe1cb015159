-- The messages that lanes leave.
use Rattle.std.proofs.Common.{◌≡◌, ◌-◌, ◌∷◌, [], ◌++◌, ℕ, zero, suc, Bool, true, false, nat_lt, if◌then◌else◌, List, length, get_or, refl}
use Rattle.std.proofs.Common.{Option, None, Some, ◌+◌, set, sym, ap, ◌∙◌}
use Rattle.std.specs.List.{All, list_any}
use Rattle.std.proofs.Math.Dec.{eqb}
use Rattle.std.proofs.lemmas.List.Elements.{All-nil, All-cons, All-head, All-tail, All-set, All-drop, All-push}
use Rattle.iox_domain_ports.specs.DomainSlots.Waiting.{put, put_over}
use Rattle.iox_domain_ports.specs.DomainSlots.Uses.{Uses, Connection, nobody, connection_at, with_connection, offered, newest, finished}
use Rattle.iox_domain_ports.specs.Messages.{Message, Loan}
use Rattle.iox_domain_ports.specs.MessagesSending.{SenderState, with_uses, IsIfInSlot, StandsAlone}
use Rattle.iox_lanes_machine.specs.LanesBase.Table.{TableWords}
use Rattle.iox_lanes_opening.specs.Leaving.{message_in, user_header_in, elements_in, payload_in}
use Rattle.iox_lanes_opening.specs.Restoring.{IsLeft, AreLeft}

all_weak : {X : Type 0} (P Q : X → Type 0) → ((x : X) → P x → Q x) → (xs : List X) → All P xs → All Q xs
all_weak P Q weaker [] all = All-nil Q
all_weak P Q weaker (x ∷ xs) all = All-cons Q x xs (weaker x (All-head P x xs all)) (all_weak P Q weaker xs (All-tail P x xs all))

all_get : {X : Type 0} (P : X → Type 0) (xs : List X) (i : ℕ) (d : X) → All P xs → P d → P (get_or xs i d)
all_get P [] i d all rest = rest
all_get P (x ∷ xs) zero d all rest = All-head P x xs all
all_get P (x ∷ xs) (suc i) d all rest = all_get P xs i d (All-tail P x xs all) rest

all_offered : {X : Type 0} (P : X → Type 0) (overflows : Bool) (limit : ℕ) (waiting : List X) (message : X) → All P waiting → P message
    → All P (if overflows then put_over limit waiting message else put limit waiting message)
all_offered P overflows limit waiting message all this = at overflows (nat_lt (length waiting) limit) refl
  where
    at : (overflows room : Bool) → nat_lt (length waiting) limit ≡ room
        → All P (if overflows then put_over limit waiting message else put limit waiting message)
    at true true is = rw is (All-push P waiting message all this)
    at true false is = rw is (All-drop P 1 (waiting ++ message ∷ []) (All-push P waiting message all this))
    at false true is = rw is (All-push P waiting message all this)
    at false false is = rw is all

-- a message of these parts
abbrev message_with : {T U : Type 0} → ℕ → Option ℕ × U → ℕ → List T → Message T U
message_with slot middle elements values
    = record { slot = slot; sequence = middle.0; elements = elements; user_header = middle.1; values = values }

module _ {T U : Type 0} (value_of : List ℕ → T) (header_of : List ℕ → Option ℕ × U) (table : TableWords) (first : ℕ) where
  left : Message T U → Type 0
  left = IsLeft value_of header_of table first

  -- the messages of a connection are those that lie in their slots
  abbrev LeftAt : Connection (Message T U) → Type 0
  LeftAt connection = All (IsLeft value_of header_of table first) connection.waiting
      × All (IsLeft value_of header_of table first) connection.borrowed

  -- a message that lies in its slot stands there alone, among such messages
  pub left_alone : (uses : Uses (Loan T U) (Message T U)) (slot : ℕ) → uses.loans ≡ [] → AreLeft value_of header_of table first uses
      → StandsAlone (message_in value_of header_of table first slot) uses
  left_alone uses slot unlent are = record {
    loans = ap (λ loans. list_any (λ loan. eqb slot loan.slot) loans) unlent;
    history = all_weak (IsLeft value_of header_of table first) (IsIfInSlot (message_in value_of header_of table first slot)) same
        uses.history are.history;
    connections = all_weak LeftAt (λ c. All (IsIfInSlot (message_in value_of header_of table first slot)) c.waiting
        × All (IsIfInSlot (message_in value_of header_of table first slot)) c.borrowed)
        (λ c both. (
          all_weak (IsLeft value_of header_of table first) (IsIfInSlot (message_in value_of header_of table first slot)) same
              c.waiting both.0,
          all_weak (IsLeft value_of header_of table first) (IsIfInSlot (message_in value_of header_of table first slot)) same c.borrowed
              both.1,
        ))
        uses.connections are.connections;
  }
    where
      same : (other : Message T U) → IsLeft value_of header_of table first other
          → IsIfInSlot (message_in value_of header_of table first slot) other
      same other is = λ at. is ∙ ap (message_in value_of header_of table first) at

  -- so they are once one more waits
  pub left_put : (uses : Uses (Loan T U) (Message T U)) (index slot : ℕ) (overflows : Bool) → AreLeft value_of header_of table first uses
      → AreLeft value_of header_of table first
      (with_connection index (offered overflows (message_in value_of header_of table first slot) (connection_at index uses)) uses)
  left_put uses index slot overflows are =
      let here : LeftAt (connection_at index uses)
      = all_get LeftAt uses.connections index nobody are.connections
      (All-nil (IsLeft value_of header_of table first), All-nil (IsLeft value_of header_of table first)) in
      record {
        history = are.history;
        connections = All-set LeftAt uses.connections index
            (offered overflows (message_in value_of header_of table first slot) (connection_at index uses)) (
              all_offered (IsLeft value_of header_of table first) overflows (connection_at index uses).limit
                  (connection_at index uses).waiting (message_in value_of header_of table first slot) here.0 refl,
              here.1,
            )
            are.connections;
      }

  -- so they are once one more is remembered
  pub left_remembered : (uses : Uses (Loan T U) (Message T U)) (slot : ℕ) → AreLeft value_of header_of table first uses
      → AreLeft value_of header_of table first
      (record uses { history = newest uses.kept (uses.history ++ message_in value_of header_of table first slot ∷ []) })
  left_remembered uses slot are = record {
    history = All-drop (IsLeft value_of header_of table first)
        (length (uses.history ++ message_in value_of header_of table first slot ∷ []) - uses.kept)
        (uses.history ++ message_in value_of header_of table first slot ∷ [])
        (All-push (IsLeft value_of header_of table first) uses.history (message_in value_of header_of table first slot) are.history refl);
    connections = are.connections;
  }

  -- the parts of a message are those that lie in its slot
  pub is_message : (slot : ℕ) (middle : Option ℕ × U) (elements : ℕ) (values : List T)
      → middle ≡ header_of (user_header_in table (first + slot)) → elements ≡ elements_in table (first + slot)
      → values ≡ value_of (payload_in table (first + slot)) ∷ []
      → message_with slot middle elements values ≡ message_in value_of header_of table first slot
  is_message slot middle elements values between count are = λ i. message_with slot (between i) (count i) (are i)

-- a publisher that sent a message again to a connection alone
pub is_put : {T U : Type 0} (index : ℕ) (message : Message T U) (old begun mid done : SenderState T U) → old.uses.sending ≡ None
    → begun ≡ with_uses (record old.uses { sending = Some message }) old
    → ((m : Message T U) → begun.uses.sending ≡ Some m
    → mid ≡ with_uses (with_connection index (offered begun.uses.overflows m (connection_at index begun.uses)) begun.uses) begun)
    → done ≡ with_uses (finished mid.uses) mid
    → done ≡ with_uses (with_connection index (offered old.uses.overflows message (connection_at index old.uses)) old.uses) old
is_put index message old begun mid done idle starts puts ends =
    ends ∙ ap (λ s. with_uses (finished s.uses) s) (puts message (ap (λ s. s.uses.sending) starts))
    ∙ ap (λ s. with_uses (finished (with_connection index (offered s.uses.overflows message (connection_at index s.uses)) s.uses)) s) starts
    ∙ ap (λ it. with_uses (record old.uses {
      sending = it;
      connections = set old.uses.connections index (offered old.uses.overflows message (connection_at index old.uses));
    }) old) (sym idle)

-- one that remembered it alone
pub is_remembered : {T U : Type 0} (message : Message T U) (old begun mid done : SenderState T U) → old.uses.sending ≡ None
    → begun ≡ with_uses (record old.uses { sending = Some message }) old
    → ((m : Message T U) → begun.uses.sending ≡ Some m
    → mid ≡ with_uses (record begun.uses { history = newest begun.uses.kept (begun.uses.history ++ m ∷ []) }) begun)
    → done ≡ with_uses (finished mid.uses) mid
    → done ≡ with_uses (record old.uses { history = newest old.uses.kept (old.uses.history ++ message ∷ []) }) old
is_remembered message old begun mid done idle starts keeps ends =
    ends ∙ ap (λ s. with_uses (finished s.uses) s) (keeps message (ap (λ s. s.uses.sending) starts))
    ∙ ap (λ s. with_uses (finished (record s.uses { history = newest s.uses.kept (s.uses.history ++ message ∷ []) })) s) starts
    ∙ ap (λ it. with_uses (record old.uses { sending = it; history = newest old.uses.kept (old.uses.history ++ message ∷ []) }) old)
    (sym idle)
