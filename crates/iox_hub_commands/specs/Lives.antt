-- What numbers name, from one moment of a hub to a later one.
use Rattle.std.specs.Prelude.{ℕ, ◌≡◌, ◌+◌, ◌<◌, ◌≤◌, ◌++◌, [], ◌∷◌, ◌⊎◌, None, nat_eq}
use Rattle.std.specs.Map.{remove_entry}
use Rattle.iox_hub_commands.specs.declared.ports.made.Made.{Made}
use Rattle.iox_delivery.specs.Container.NumberTable.{NumberTable, Rises, value_at}
use Rattle.iox_hub_commands.specs.declared.numbered_hub.NumberedHub.{NumberedHub}

module _ {V : Type 0} where
  -- The table has the same values under the same numbers, and the same next number.
  abbrev pub Stays : NumberTable V → NumberTable V → Type 0
  Stays old new = (new.entries ≡ old.entries) × (new.next ≡ old.next)

  -- The table has one more value, under the number that was next before.
  abbrev pub GetsOne : NumberTable V → NumberTable V → Type 0
  GetsOne old new = (value : V) × (new.entries ≡ old.entries ++ (old.next, value) ∷ []) × (new.next ≡ old.next + 1)

  -- The table has lost the value of one number, if there was one.
  abbrev pub LosesOne : NumberTable V → NumberTable V → Type 0
  LosesOne old new = (number : ℕ) × (new.entries ≡ remove_entry (nat_eq number) old.entries) × (new.next ≡ old.next)

  -- The table has one more value, one value fewer, or the same values.
  abbrev pub ChangesOne : NumberTable V → NumberTable V → Type 0
  ChangesOne old new = Stays old new ⊎ (GetsOne old new ⊎ LosesOne old new)

  -- If the numbers of the table rise, they still rise later; no number is given again; and each number names what it named, or nothing.
  abbrev pub GoesOn : NumberTable V → NumberTable V → Type 0
  GoesOn old new =
      Rises 1 old.entries old.next
      → Rises 1 new.entries new.next × (old.next ≤ new.next)
      × ((number : ℕ) → number < old.next → (value_at new number ≡ value_at old number) ⊎ (value_at new number ≡ None))

-- Ports, loans and samples have the numbers that they had, and no number was given.
abbrev pub AllStay : Made → Made → Type 0
AllStay old new = Stays old.publishers new.publishers × Stays old.subscribers new.subscribers × Stays old.loans new.loans
    × Stays old.samples new.samples

-- At most one port, loan or sample was added or removed, and all others stay.
abbrev pub OneChanges : Made → Made → Type 0
OneChanges old new =
    (ChangesOne old.publishers new.publishers × Stays old.subscribers new.subscribers × Stays old.loans new.loans
    × Stays old.samples new.samples)
    ⊎ ((Stays old.publishers new.publishers × ChangesOne old.subscribers new.subscribers × Stays old.loans new.loans
    × Stays old.samples new.samples)
    ⊎ ((Stays old.publishers new.publishers × Stays old.subscribers new.subscribers × ChangesOne old.loans new.loans
    × Stays old.samples new.samples)
    ⊎ (Stays old.publishers new.publishers × Stays old.subscribers new.subscribers × Stays old.loans new.loans
    × ChangesOne old.samples new.samples)))

module _ {T U B D : Type 0} where
  -- For each kind except nodes, the numbers rise from 1, and stay below the next one.
  abbrev pub NumbersRise : NumberedHub T U B D → Type 0
  NumbersRise hub =
      Rises 1 hub.factories.made.entries hub.factories.made.next
      × Rises 1 hub.made.publishers.entries hub.made.publishers.next × Rises 1 hub.made.subscribers.entries hub.made.subscribers.next
      × Rises 1 hub.made.loans.entries hub.made.loans.next × Rises 1 hub.made.samples.entries hub.made.samples.next

  -- At most one factory, port, loan or sample is added or removed, and all others stay.
  abbrev pub ChangesOneThing : NumberedHub T U B D → NumberedHub T U B D → Type 0
  ChangesOneThing old new =
      (ChangesOne old.factories.made new.factories.made × AllStay old.made new.made)
      ⊎ (Stays old.factories.made new.factories.made × OneChanges old.made new.made)

  -- For each kind except nodes, no number is given again, and each number names what it named, or nothing.
  abbrev pub NumbersGoOn : NumberedHub T U B D → NumberedHub T U B D → Type 0
  NumbersGoOn old new =
      GoesOn old.factories.made new.factories.made
      × GoesOn old.made.publishers new.made.publishers × GoesOn old.made.subscribers new.made.subscribers
      × GoesOn old.made.loans new.made.loans × GoesOn old.made.samples new.made.samples
