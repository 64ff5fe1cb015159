-- A message is put into the mailbox of one connection, of a domain and of the machine.
use Rattle.std.proofs.Common.{◌≡◌, ◌≤◌, ◌<◌, ◌+◌, ◌-◌, ◌∷◌, [], ◌++◌, ◌||◌, ℕ, zero, suc, Bool, true, false, List, length, drop, map}
use Rattle.std.proofs.Common.{nat_lt, nat_le, None, Some, refl, sym, ap, ◌∙◌, arith, if◌then◌else◌}
use Rattle.std.proofs.lemmas.List.{map-append, drop-map, length-map, length-append, length-drop}
use Rattle.iox_domain.proofs.DomainSlots.Counts.{one, times_append, times_cons, times_end}
use Rattle.iox_domain.specs.DomainPorts.Messages as domain
use Rattle.iox_domain.specs.DomainSlots.Counting.{times}
use Rattle.iox_domain.specs.DomainSlots.Uses.{Connection, accepts, held_by, offered}
use Rattle.iox_domain_machine.specs.Naming.{message_as, mailbox_as}
use Rattle.iox_domain_machine.proofs.Found.{never_true}
use Rattle.iox_domain_machine.proofs.LendingUses.{message_slots}
use Rattle.iox_machine.specs.Mailbox.{newest, put}
use Rattle.iox_machine.specs.Message.{Message}

module _ {T U : Type 0} (name : ℕ → ℕ) (message : domain.Message T U) where
  abbrev by_name : domain.Message T U → Message T
  by_name = message_as name

  -- with one more after the others, and of these the newest
  last_by : (limit count : ℕ) (waits : List (domain.Message T U)) → length (waits ++ message ∷ []) - limit ≡ count
      → newest limit (map by_name waits ++ by_name message ∷ []) ≡ map by_name (drop count (waits ++ message ∷ []))
  last_by limit count waits is =
      ap (newest limit) (sym (map-append by_name waits (message ∷ [])))
      ∙ ap (λ n. drop (n - limit) (map by_name (waits ++ message ∷ []))) (length-map (waits ++ message ∷ []) by_name)
      ∙ ap (λ n. drop n (map by_name (waits ++ message ∷ []))) is
      ∙ drop-map by_name count (waits ++ message ∷ [])

  -- the newest of a list are the newest of the same by names
  pub newest_as : (limit : ℕ) (messages : List (domain.Message T U))
      → newest limit (map by_name messages ++ by_name message ∷ [])
      ≡ map by_name (drop (length (messages ++ message ∷ []) - limit) (messages ++ message ∷ []))
  newest_as limit messages = last_by limit (length (messages ++ message ∷ []) - limit) messages refl

  longer : (waits : List (domain.Message T U)) → length (waits ++ message ∷ []) ≡ length waits + 1
  longer waits = length-append waits (message ∷ [])

  over_by : (fits : Bool) (limit : ℕ) (waits : List (domain.Message T U)) → nat_lt (length waits) limit ≡ fits → length waits ≤ limit
      → newest limit (map by_name waits ++ by_name message ∷ [])
      ≡ map by_name (if fits then waits ++ message ∷ [] else drop 1 (waits ++ message ∷ []))
  over_by true limit waits fits within =
      let less : length waits < limit = grind (arith, fits) in
      last_by limit 0 waits (omega (arith, less, longer waits))
  over_by false limit waits full within =
      let least : limit ≤ length waits = grind (arith, full) in
      last_by limit 1 waits (omega (arith, least, within, longer waits))

  takes_by : (overflows fits : Bool) (connection : Connection (domain.Message T U))
      → nat_lt (length connection.waiting) connection.limit ≡ fits → (overflows || fits) ≡ true
      → length connection.waiting ≤ connection.limit
      → put overflows (by_name message) (mailbox_as name connection) ≡ Some (mailbox_as name (offered overflows message connection))
  takes_by true fits connection is accepted within =
      ap (λ (waits : List (Message T)). Some (record (mailbox_as name connection) { waiting = waits }))
      (over_by (nat_lt (length connection.waiting) connection.limit) connection.limit connection.waiting refl within)
  takes_by false false connection is accepted within = never_true accepted
  takes_by false true connection fits accepted within =
      let less : length connection.waiting < connection.limit = grind (arith, fits) in
      let more : nat_le connection.limit (length (map by_name connection.waiting)) ≡ false =
      ap (nat_le connection.limit) (length-map connection.waiting by_name) ∙ grind (arith, less) in
      ap (λ full. if full then None else Some (record (mailbox_as name connection) {
        waiting = newest connection.limit (map by_name connection.waiting ++ by_name message ∷ []);
      })) more
      ∙ ap (λ (waits : List (Message T)). Some (record (mailbox_as name connection) { waiting = waits }))
      (over_by true connection.limit connection.waiting fits within)
      ∙ ap (λ room. Some (record (mailbox_as name connection) {
        waiting = map by_name (if room then connection.waiting ++ message ∷ [] else connection.waiting);
      })) (sym fits)

  -- where the connection accepts the message, the mailbox takes it
  pub takes : (overflows : Bool) (connection : Connection (domain.Message T U)) → accepts overflows connection ≡ true
      → length connection.waiting ≤ connection.limit
      → put overflows (by_name message) (mailbox_as name connection) ≡ Some (mailbox_as name (offered overflows message connection))
  takes overflows connection accepted within =
      takes_by overflows (nat_lt (length connection.waiting) connection.limit) connection refl accepted within

  full_by : (overflows fits : Bool) (connection : Connection (domain.Message T U))
      → nat_lt (length connection.waiting) connection.limit ≡ fits → (overflows || fits) ≡ false
      → put overflows (by_name message) (mailbox_as name connection) ≡ None
  full_by true fits connection is refused = never_true (sym refused)
  full_by false true connection is refused = never_true (sym refused)
  full_by false false connection full refused =
      let least : connection.limit ≤ length connection.waiting = grind (arith, full) in
      let all : nat_le connection.limit (length (map by_name connection.waiting)) ≡ true =
      ap (nat_le connection.limit) (length-map connection.waiting by_name) ∙ grind (arith, least) in
      ap (λ full. if full then None else Some (record (mailbox_as name connection) {
        waiting = newest connection.limit (map by_name connection.waiting ++ by_name message ∷ []);
      })) all

  -- where it doesn't, the mailbox is full
  pub is_full : (overflows : Bool) (connection : Connection (domain.Message T U)) → accepts overflows connection ≡ false
      → put overflows (by_name message) (mailbox_as name connection) ≡ None
  is_full overflows connection refused =
      full_by overflows (nat_lt (length connection.waiting) connection.limit) connection refl refused

module _ {T U : Type 0} (message : domain.Message T U) where
  -- what is after the first of a list is there no more often
  pub fewer_behind : (count slot : ℕ) (messages : List (domain.Message T U))
      → times slot (message_slots (drop count messages)) ≤ times slot (message_slots messages)
  fewer_behind zero slot messages = omega arith
  fewer_behind (suc count) slot [] = omega arith
  fewer_behind (suc count) slot (first ∷ rest) =
      omega (arith, fewer_behind count slot rest, times_cons slot first.slot (message_slots rest))

  pub one_more : (slot : ℕ) (waits : List (domain.Message T U))
      → times slot (message_slots (waits ++ message ∷ [])) ≡ times slot (message_slots waits) + one slot message.slot
  one_more slot waits =
      ap (times slot) (map-append (λ (one : domain.Message T U). one.slot) waits (message ∷ []))
      ∙ times_end slot (message_slots waits) message.slot

  waits_by : (overflows fits : Bool) (slot : ℕ) (waits : List (domain.Message T U))
      → times slot (message_slots (if overflows then (if fits then waits ++ message ∷ [] else drop 1 (waits ++ message ∷ []))
      else (if fits then waits ++ message ∷ [] else waits)))
      ≤ times slot (message_slots waits) + one slot message.slot
  waits_by true true slot waits = omega (arith, one_more slot waits)
  waits_by true false slot waits = omega (arith, one_more slot waits, fewer_behind 1 slot (waits ++ message ∷ []))
  waits_by false true slot waits = omega (arith, one_more slot waits)
  waits_by false false slot waits = omega arith

  held_split : (slot : ℕ) (connection : Connection (domain.Message T U))
      → times slot (message_slots (held_by connection))
      ≡ times slot (message_slots connection.waiting) + times slot (message_slots connection.borrowed)
  held_split slot connection =
      ap (times slot) (map-append (λ (one : domain.Message T U). one.slot) connection.waiting connection.borrowed)
      ∙ times_append slot (message_slots connection.waiting) (message_slots connection.borrowed)

  -- a message that is put is held once more, and none other is held more often
  pub held_more : (overflows : Bool) (slot : ℕ) (connection : Connection (domain.Message T U))
      → times slot (message_slots (held_by (offered overflows message connection)))
      ≤ times slot (message_slots (held_by connection)) + one slot message.slot
  held_more overflows slot connection =
      let more = waits_by overflows (nat_lt (length connection.waiting) connection.limit) slot connection.waiting in
      omega (arith, more, held_split slot connection, held_split slot (offered overflows message connection))

  within_by : (overflows fits : Bool) (limit : ℕ) (waits : List (domain.Message T U)) → nat_lt (length waits) limit ≡ fits
      → length waits ≤ limit
      → length (if overflows then (if fits then waits ++ message ∷ [] else drop 1 (waits ++ message ∷ []))
      else (if fits then waits ++ message ∷ [] else waits)) ≤ limit
  within_by true true limit waits fits within =
      let less : length waits < limit = grind (arith, fits) in omega (arith, less, length-append waits (message ∷ []))
  within_by true false limit waits full within =
      omega (arith, within, length-drop 1 (waits ++ message ∷ []), length-append waits (message ∷ []))
  within_by false true limit waits fits within =
      let less : length waits < limit = grind (arith, fits) in omega (arith, less, length-append waits (message ∷ []))
  within_by false false limit waits full within = within

  -- no more wait then than may
  pub still_within : (overflows : Bool) (connection : Connection (domain.Message T U)) → length connection.waiting ≤ connection.limit
      → length (offered overflows message connection).waiting ≤ connection.limit
  still_within overflows connection within =
      within_by overflows (nat_lt (length connection.waiting) connection.limit) connection.limit connection.waiting refl within
