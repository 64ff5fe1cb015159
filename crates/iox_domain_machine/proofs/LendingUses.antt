-- Which messages of a publisher of the machine are in use: those in the slots that are, of a publisher of a domain.
use Rattle.std.proofs.Common.{◌≡◌, ◌≢◌, ◌<◌, ◌∷◌, [], ◌++◌, ◌⊎◌, ℕ, zero, suc, Bool, true, false, cond, List, get_or, map, Option, refl}
use Rattle.std.proofs.Common.{sym, ap, inl, inr, ◌∙◌, arith}
use Rattle.std.proofs.Math.Logic.{⊎_elim}
use Rattle.std.proofs.lemmas.Bool.{cases_Bool, cases_eq}
use Rattle.std.proofs.lemmas.Bool.Decides.{eqb_tells}
use Rattle.std.proofs.lemmas.List.{map-append}
use Rattle.std.specs.Prelude.{filter, flat_map, is_some, unwrap_or, ◌==◌}
use Rattle.iox_domain.proofs.DomainSlots.Counts.{one, times_cons, times_append}
use Rattle.iox_domain.specs.DomainPorts.Messages as domain
use Rattle.iox_domain.specs.DomainPorts.MessagesSending.{connection_by}
use Rattle.iox_domain.specs.DomainSlots.Counting.{times}
use Rattle.iox_domain.specs.DomainSlots.Uses.{Connection, nobody, held, held_by, is_there}
use Rattle.iox_domain_machine.specs.Naming.{message_as}
use Rattle.iox_domain_machine.proofs.Found.{never_true, at_behind}
use Rattle.iox_domain_machine.proofs.LendingTally.{is_none, some_or_none}
use Rattle.iox_machine.specs.Mailbox.{Mailbox}
use Rattle.iox_machine.specs.Message.{Message}
use Rattle.iox_machine.specs.Service.{Subscriber}
use Rattle.iox_machine.specs.Table.{at}

one_of : (number other : ℕ) → other ≡ number → one number other ≡ 1
one_of number other same = ⊎_elim (λ is. ap (λ b. cond b 1 0) is.0) (λ not. absurd (not.1 (sym same))) (eqb_tells number other)

-- what goes by a name in a list of names
pub named_from : (name : ℕ → ℕ) (number : ℕ) (slots : List ℕ) → 0 < times number (map name slots)
    → (slot : ℕ) × (0 < times slot slots) × (name slot ≡ number)
named_from name number [] is = absurd (omega (arith, is))
named_from name number (slot ∷ more) is = ⊎_elim
    (λ same. (slot, omega (arith, times_cons slot slot more, one_of slot slot refl), same))
    (λ off.
    let rest = named_from name number more
    (omega (arith, is, times_cons number (name slot) (map name more), is_none number (name slot) off)) in
    (rest.0, omega (arith, rest.1, times_cons rest.0 slot more), rest.2))
    (cases_eq (name slot) number)

pub named_to : (name : ℕ → ℕ) (slot : ℕ) (slots : List ℕ) → 0 < times slot slots → 0 < times (name slot) (map name slots)
named_to name slot [] is = absurd (omega (arith, is))
named_to name slot (other ∷ more) is = ⊎_elim
    (λ same. omega (arith, times_cons (name slot) (name other) (map name more), one_of (name slot) (name other) (ap name same)))
    (λ off.
    let rest = named_to name slot more (omega (arith, is, times_cons slot other more, is_none slot other off)) in
    omega (arith, rest, times_cons (name slot) (name other) (map name more)))
    (cases_eq other slot)

-- what passes a test is there as often
filtered_by : (test : ℕ → Bool) (number : ℕ) (b : Bool) (other : ℕ) (more : List ℕ) → test other ≡ b
    → times number (filter test more) ≡ cond (test number) (times number more) 0
    → times number (cond b (other ∷ filter test more) (filter test more)) ≡ cond (test number) (times number (other ∷ more)) 0
filtered_by test number true other more is rest = ⊎_elim
    (λ passes. let here = rest ∙ ap (λ b. cond b (times number more) 0) passes in
    omega (arith, times_cons number other (filter test more), times_cons number other more, here)
    ∙ sym (ap (λ b. cond b (times number (other ∷ more)) 0) passes))
    (λ fails. let here = rest ∙ ap (λ b. cond b (times number more) 0) fails in
    omega (arith, times_cons number other (filter test more), is_none number other (apart fails), here)
    ∙ sym (ap (λ b. cond b (times number (other ∷ more)) 0) fails))
    (cases_Bool (test number))
  where
    apart : test number ≡ false → other ≢ number
    apart fails same = never_true (sym fails ∙ sym (ap test same) ∙ is)
filtered_by test number false other more is rest = rest ∙ ⊎_elim
    (λ passes. ap (λ b. cond b (times number more) 0) passes
    ∙ omega (arith, times_cons number other more, is_none number other (apart passes))
    ∙ sym (ap (λ b. cond b (times number (other ∷ more)) 0) passes))
    (λ fails. ap (λ b. cond b (times number more) 0) fails ∙ sym (ap (λ b. cond b (times number (other ∷ more)) 0) fails))
    (cases_Bool (test number))
  where
    apart : test number ≡ true → other ≢ number
    apart passes same = never_true (sym is ∙ ap test same ∙ passes)

pub filtered : (test : ℕ → Bool) (number : ℕ) (all : List ℕ)
    → times number (filter test all) ≡ cond (test number) (times number all) 0
filtered test number [] = ⊎_elim (λ is. sym (ap (λ b. cond b 0 0) is)) (λ is. sym (ap (λ b. cond b 0 0) is)) (cases_Bool (test number))
filtered test number (other ∷ more) = filtered_by test number (test other) other more refl (filtered test number more)

-- the numbers of messages
abbrev pub numbers : {T : Type 0} → List (Message T) → List ℕ
numbers messages = map (λ (message : Message _). message.number) messages

module _ {T U : Type 0} where
  -- the slots of messages
  abbrev pub message_slots : List (domain.Message T U) → List ℕ
  message_slots messages = map (λ (message : domain.Message T U). message.slot) messages

  pub numbers_named : (name : ℕ → ℕ) (messages : List (domain.Message T U))
      → numbers (map (message_as name) messages) ≡ map name (message_slots messages)
  numbers_named name [] = refl
  numbers_named name (message ∷ more) = ap (λ rest. name message.slot ∷ rest) (numbers_named name more)

  -- what is held is held at some connection
  pub held_from : (slot : ℕ) (connections : List (Connection (domain.Message T U)))
      → 0 < times slot (held (map (connection_by (λ (message : domain.Message T U). message.slot)) connections))
      → (index : ℕ) × (0 < times slot (message_slots (held_by (get_or connections index nobody))))
  held_from slot [] is = absurd (omega (arith, is))
  held_from slot (connection ∷ more) is = some_or_none (times slot (message_slots (held_by connection)))
      (λ some. (0, some))
      (λ none.
      let rest = held_from slot more (omega (
        arith,
        is,
        none,
        times_append slot (message_slots connection.waiting ++ message_slots connection.borrowed)
            (held (map (connection_by (λ (message : domain.Message T U). message.slot)) more)),
        ap (times slot) (map-append (λ (message : domain.Message T U). message.slot) connection.waiting connection.borrowed),
      )) in
      (suc rest.0, rest.1))

  pub held_to : (slot index : ℕ) (connections : List (Connection (domain.Message T U)))
      → 0 < times slot (message_slots (held_by (get_or connections index nobody)))
      → 0 < times slot (held (map (connection_by (λ (message : domain.Message T U). message.slot)) connections))
  held_to slot index [] is = absurd (omega (arith, is))
  held_to slot zero (connection ∷ more) is =
      omega (
        arith,
        is,
        times_append slot (message_slots connection.waiting ++ message_slots connection.borrowed)
            (held (map (connection_by (λ (message : domain.Message T U). message.slot)) more)),
        ap (times slot) (map-append (λ (message : domain.Message T U). message.slot) connection.waiting connection.borrowed),
      )
  held_to slot (suc index) (connection ∷ more) is =
      omega (
        arith,
        held_to slot index more is,
        times_append slot (message_slots connection.waiting ++ message_slots connection.borrowed)
            (held (map (connection_by (λ (message : domain.Message T U). message.slot)) more)),
      )

  -- a connection is that of a subscriber, or none is
  pub joins : (reader : ℕ → ℕ) (other : ℕ) (connections : List (Connection (domain.Message T U)))
      → ((index : ℕ) × (is_there (get_or connections index nobody) ≡ true) × (reader index ≡ other))
      ⊎ ((index : ℕ) → is_there (get_or connections index nobody) ≡ true → reader index ≢ other)
  joins reader other [] = inr (λ index is. never_true is)
  joins reader other (connection ∷ more) = ⊎_elim
      (λ rest. inl (suc rest.0, rest.1, rest.2))
      (λ none. first none (is_there connection) (reader 0 == other) refl (eqb_tells (reader 0) other))
      (joins (λ index. reader (suc index)) other more)
    where
      first : ((index : ℕ) → is_there (get_or more index nobody) ≡ true → reader (suc index) ≢ other) → (there same : Bool)
          → is_there connection ≡ there
          → (((reader 0 == other) ≡ true) × (reader 0 ≡ other)) ⊎ (((reader 0 == other) ≡ false) × (reader 0 ≢ other))
          → ((index : ℕ) × (is_there (get_or (connection ∷ more) index nobody) ≡ true) × (reader index ≡ other))
          ⊎ ((index : ℕ) → is_there (get_or (connection ∷ more) index nobody) ≡ true → reader index ≢ other)
      first none true same is (inl it) = inl (0, is, it.1)
      first none true same is (inr not) = inr each
        where
          each : (index : ℕ) → is_there (get_or (connection ∷ more) index nobody) ≡ true → reader index ≢ other
          each zero there = not.1
          each (suc index) there = none index there
      first none false same is it = inr each
        where
          each : (index : ℕ) → is_there (get_or (connection ∷ more) index nobody) ≡ true → reader index ≢ other
          each zero there = never_true (sym is ∙ there)
          each (suc index) there = none index there

-- a mailbox; one for no messages where there is none
abbrev pub box_of : {T : Type 0} → Option (Mailbox T) → Mailbox T
box_of found = unwrap_or found (record { limit = 0; waiting = []; borrowed = [] })

-- what waits there and is borrowed
abbrev pub kept_in : {T : Type 0} → Option (Mailbox T) → List (Message T)
kept_in found = (box_of found).waiting ++ (box_of found).borrowed

module _ {T : Type 0} (mailboxes : ℕ → Option (Mailbox T)) where
  -- what is kept for a subscriber
  abbrev pub kept_at : ℕ → List (Message T)
  kept_at other = kept_in (mailboxes other)

  -- what is kept of all is kept of one
  pub kept_from : (number : ℕ) (subscribers : List (ℕ × Subscriber))
      → 0 < times number (numbers (flat_map (λ (entry : ℕ × Subscriber). kept_at entry.0) subscribers))
      → (other : ℕ) × (0 < times number (numbers (kept_at other)))
  kept_from number [] is = absurd (omega (arith, is))
  kept_from number (entry ∷ more) is = some_or_none (times number (numbers (kept_at entry.0)))
      (λ some. (entry.0, some))
      (λ none. kept_from number more (omega (
        arith,
        is,
        none,
        ap (times number) (map-append (λ (message : Message T). message.number) (kept_at entry.0)
            (flat_map (λ (one : ℕ × Subscriber). kept_at one.0) more)),
        times_append number (numbers (kept_at entry.0)) (numbers (flat_map (λ (one : ℕ × Subscriber). kept_at one.0) more)),
      )))

  pub kept_to : (number other : ℕ) (subscribers : List (ℕ × Subscriber)) → is_some (at other subscribers) ≡ true
      → 0 < times number (numbers (kept_at other))
      → 0 < times number (numbers (flat_map (λ (entry : ℕ × Subscriber). kept_at entry.0) subscribers))
  kept_to number other [] there is = never_true there
  kept_to number other (entry ∷ more) there is =
      let all = ap (times number) (map-append (λ (message : Message T). message.number) (kept_at entry.0)
      (flat_map (λ (entry : ℕ × Subscriber). kept_at entry.0) more)) in
      let both = times_append number (numbers (kept_at entry.0))
      (numbers (flat_map (λ (entry : ℕ × Subscriber). kept_at entry.0) more)) in
      ⊎_elim
      (λ same. let here = ap (λ n. times number (numbers (kept_at n))) same.1 in omega (arith, is, here, all, both))
      (λ off.
      let rest = kept_to number other more (sym (ap is_some (at_behind other entry more off.0)) ∙ there) is in
      omega (arith, rest, all, both))
      (eqb_tells entry.0 other)
