-- Names that agree on what is in use name the same uses.
use Rattle.std.proofs.Common.{arith, ◌≡◌, ◌+◌, ◌<◌, ◌∷◌, [], ℕ, List, map, Option, None, Some, option_map, refl, ap, ◌∙◌}
use Rattle.std.specs.Option.{option_to_list}
use Rattle.iox_domain_slots.specs.Uses.{Uses, Connection, held, held_by, in_use}
use Rattle.iox_domain_slots.specs.Counting.{times}
use Rattle.iox_domain_slots.proofs.Counts.{times_append, times_cons, one_same}
use Rattle.iox_domain_slots.proofs.Publishing.{in_use_times}
use Rattle.iox_domain_ports.specs.Messages.{Message, Loan}
use Rattle.iox_domain_ports.specs.MessagesSending.{Store, seen_sender, slots_of, uses_by, connection_by, loan_in, message_in}

pub map_agree : {Y : Type 0} (f g : ℕ → Y) (xs : List ℕ) → ((k : ℕ) → 0 < times k xs → f k ≡ g k) → map f xs ≡ map g xs
map_agree f g [] same = refl
map_agree f g (x ∷ xs) same =
    ap (λ y. y ∷ map f xs) (same x (omega (arith, times_cons x x xs, one_same x)))
    ∙ ap (λ ys. g x ∷ ys) (map_agree f g xs (λ k inside. same k (omega (arith, inside, times_cons k x xs))))

option_agree : {Y : Type 0} (f g : ℕ → Y) (one : Option ℕ) → ((k : ℕ) → 0 < times k (option_to_list one) → f k ≡ g k)
    → option_map f one ≡ option_map g one
option_agree f g None same = refl
option_agree f g (Some x) same = ap Some (same x (omega (arith, times_cons x x [], one_same x)))

connections_agree : {Y : Type 0} (f g : ℕ → Y) (connections : List (Connection ℕ)) → ((k : ℕ) → 0 < times k (held connections) → f k ≡ g k)
    → map (connection_by f) connections ≡ map (connection_by g) connections
connections_agree f g [] same = refl
connections_agree f g (c ∷ rest) same =
    let here : (k : ℕ) → 0 < times k (held_by c)
    → f k ≡ g k = λ k inside. same k (omega (arith, inside, times_append k (held_by c) (held rest))) in
    ap (λ waiting. (record { stage = c.stage; limit = c.limit; waiting = waiting; borrowed = map f c.borrowed })
    ∷ map (connection_by f) rest)
    (map_agree f g c.waiting (λ k inside. here k (omega (arith, inside, times_append k c.waiting c.borrowed))))
    ∙ ap (λ borrowed. (record { stage = c.stage; limit = c.limit; waiting = map g c.waiting; borrowed = borrowed })
    ∷ map (connection_by f) rest)
    (map_agree f g c.borrowed (λ k inside. here k (omega (arith, inside, times_append k c.waiting c.borrowed))))
    ∙ ap (λ cs. connection_by g c ∷ cs)
    (connections_agree f g rest (λ k inside. same k (omega (arith, inside, times_append k (held_by c) (held rest)))))

-- all but the loans
abbrev pub other_uses : {L X M Y : Type 0} → List M → (X → Y) → Uses L X → Uses M Y
other_uses loans message uses = record {
  first = uses.first;
  size = uses.size;
  most_loans = uses.most_loans;
  kept = uses.kept;
  most_waiting = uses.most_waiting;
  most_borrowed = uses.most_borrowed;
  overflows = uses.overflows;
  sending = option_map message uses.sending;
  loans = loans;
  history = map message uses.history;
  connections = map (connection_by message) uses.connections;
}

pub messages_agree : {M Y : Type 0} (loans : List M) (f g : ℕ → Y) (uses : Uses ℕ ℕ)
    → ((k : ℕ) → 0 < times k (option_to_list uses.sending) + (times k uses.history + times k (held uses.connections)) → f k ≡ g k)
    → other_uses loans f uses ≡ other_uses loans g uses
messages_agree loans f g uses same =
    ap (λ sending. record (other_uses loans f uses) { sending = sending })
    (option_agree f g uses.sending (λ k inside. same k (omega (arith, inside))))
    ∙ ap (λ history. record (other_uses loans f uses) { sending = option_map g uses.sending; history = history })
    (map_agree f g uses.history (λ k inside. same k (omega (arith, inside))))
    ∙ ap (λ connections. record (other_uses loans f uses)
    { sending = option_map g uses.sending; history = map g uses.history; connections = connections })
    (connections_agree f g uses.connections (λ k inside. same k (omega (arith, inside))))

pub uses_agree : {M Y : Type 0} (loan other : ℕ → M) (f g : ℕ → Y) (uses : Uses ℕ ℕ)
    → ((k : ℕ) → 0 < times k (in_use uses) → (loan k ≡ other k) × (f k ≡ g k)) → uses_by loan f uses ≡ uses_by other g uses
uses_agree loan other f g uses same =
    ap (λ loans. other_uses loans f uses)
    (map_agree loan other uses.loans (λ k inside. (same k (omega (arith, inside, in_use_times uses k))).0))
    ∙ messages_agree (map other uses.loans) f g uses (λ k inside. (same k (omega (arith, inside, in_use_times uses k))).1)

-- what is seen in slots stands in these slots
same_slots : {Y : Type 0} (slot : Y → ℕ) (name : ℕ → Y) → ((k : ℕ) → slot (name k) ≡ k) → (xs : List ℕ) → map slot (map name xs) ≡ xs
same_slots slot name back [] = refl
same_slots slot name back (x ∷ xs) = ap (λ y. y ∷ map slot (map name xs)) (back x) ∙ ap (λ ys. x ∷ ys) (same_slots slot name back xs)

same_connections : {Y : Type 0} (slot : Y → ℕ) (name : ℕ → Y) → ((k : ℕ) → slot (name k) ≡ k) → (cs : List (Connection ℕ))
    → map (connection_by slot) (map (connection_by name) cs) ≡ cs
same_connections slot name back [] = refl
same_connections slot name back (c ∷ cs) =
    ap (λ waiting. (record { stage = c.stage; limit = c.limit; waiting = waiting; borrowed = map slot (map name c.borrowed) })
    ∷ map (connection_by slot) (map (connection_by name) cs))
    (same_slots slot name back c.waiting)
    ∙ ap (λ borrowed. (record { stage = c.stage; limit = c.limit; waiting = c.waiting; borrowed = borrowed })
    ∷ map (connection_by slot) (map (connection_by name) cs))
    (same_slots slot name back c.borrowed)
    ∙ ap (λ rest. c ∷ rest) (same_connections slot name back cs)

same_sending : {Y : Type 0} (slot : Y → ℕ) (name : ℕ → Y) → ((k : ℕ) → slot (name k) ≡ k) → (one : Option ℕ)
    → option_map slot (option_map name one) ≡ one
same_sending slot name back None = refl
same_sending slot name back (Some x) = ap Some (back x)

pub slots_seen : {T U : Type 0} (store : Store T U) (uses : Uses ℕ ℕ) → slots_of (seen_sender store uses) ≡ uses
slots_seen {T = T} {U = U} store uses =
    ap (λ loans. record (slots_of (seen_sender store uses)) { loans = loans }) (same_slots loan_slot (loan_in store) (λ k. refl) uses.loans)
    ∙ ap (λ sending. record (slots_of (seen_sender store uses)) { loans = uses.loans; sending = sending })
    (same_sending message_slot (message_in store) (λ k. refl) uses.sending)
    ∙ ap (λ history. record (slots_of (seen_sender store uses)) { loans = uses.loans; sending = uses.sending; history = history })
    (same_slots message_slot (message_in store) (λ k. refl) uses.history)
    ∙ ap (λ connections. record (slots_of (seen_sender store uses))
    { loans = uses.loans; sending = uses.sending; history = uses.history; connections = connections })
    (same_connections message_slot (message_in store) (λ k. refl) uses.connections)
  where
    loan_slot : Loan T U → ℕ
    loan_slot loan = loan.slot

    message_slot : Message T U → ℕ
    message_slot message = message.slot
