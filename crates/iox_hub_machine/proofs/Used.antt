-- What keeps a factory from being closed, of a domain and of the service of the machine that it is.
use Rattle.std.proofs.Common.{◌≡◌, ◌<◌, ◌⊎◌, ℕ, zero, suc, Bool, true, false, cond, ◌&&◌, ◌||◌, List, [], ◌∷◌, length, map, Option, None}
use Rattle.std.proofs.Common.{Some, refl, sym, ap, subst, ◌∙◌, inl, inr, arith, true≢false}
use Rattle.std.proofs.Math.Logic.{⊎_elim}
use Rattle.std.proofs.lemmas.Bool.{and_from, eq-eqb, eqb-true, or_cases, or_left, or_right}
use Rattle.std.proofs.lemmas.Bool.Decides.{eqb_tells}
use Rattle.std.proofs.lemmas.List.Sums.{sum_by-cons}
use Rattle.std.specs.BTreeMap.{is_at}
use Rattle.std.specs.Cmp.{unsigned_tied}
use Rattle.std.specs.List.{list_any}
use Rattle.std.specs.Map.{lookup, values_of}
use Rattle.std.specs.Option.{option_map, option_map_or}
use Rattle.std.specs.Ordering.{nat_cmp}
use Rattle.std.specs.Prelude.{◌==◌, filter, is_some, sum_by}
use Rattle.iox_domain.specs.DomainPorts.Living.{counted, living_of_publisher, living_of_subscriber, living_publishers}
use Rattle.iox_domain.specs.DomainPorts.Publishers.{port_of}
use Rattle.iox_domain.specs.DomainPorts.declared.attached.Taken.{Taken}
use Rattle.iox_domain.specs.DomainPorts.declared.publisher_port.PublisherPort.{PublisherPort}
use Rattle.iox_domain.specs.DomainPorts.declared.subscriber_port.SubscriberPort.{SubscriberPort}
use Rattle.iox_domain.specs.Living.{living}
use Rattle.iox_domain.specs.Subscribers.{subscriber_of}
use Rattle.iox_domain.specs.declared.ports.service_ports.ServicePorts.{ServicePorts}
use Rattle.iox_domain_machine.specs.Naming.{Naming}
use Rattle.iox_domain_machine.specs.Services.{ComesOnce}
use Rattle.iox_domain_machine.specs.Standing.{StandsFor, PublisherIs, SubscriberIs}
use Rattle.iox_domain_machine.specs.Tables.{LentSlot, slots_lent_by, samples_held_by, loans_at_port, held_at_port, loan_as, sample_as}
use Rattle.iox_domain_machine.proofs.Found.{same_some, never_some, at_head, at_behind, at_mapped}
use Rattle.iox_hub_base.specs.Numbered.{not_number}
use Rattle.iox_hub_machine.proofs.Absent.{AreThere, are_there}
use Rattle.iox_machine.specs.Closing.{is_used_by}
use Rattle.iox_machine.specs.Message.{Loan, Sample}
use Rattle.iox_machine.specs.Service.{Service, Publisher, Subscriber}
use Rattle.iox_machine.specs.Table.{at}

-- ---- entries of tables

module _ {V : Type 0} where
  pub all_go : (table : List (ℕ × V)) → ComesOnce table → AreThere table table
  all_go table once = are_there table table once (λ number some. refl)

  -- a number is found in a table of a domain as in one of the machine
  pub found_alike : (number : ℕ) (entries : List (ℕ × V)) → at number entries ≡ lookup (is_at (nat_cmp number)) entries
  found_alike number [] = refl
  found_alike number (entry ∷ entries) = ⊎_elim
      (λ same. at_head number entry entries same.0
      ∙ ap (λ (b : Bool). cond b (Some entry.1) (lookup (is_at (nat_cmp number)) entries))
      (sym (unsigned_tied number entry.0 ∙ eq-eqb number entry.0 (sym same.1))))
      (λ off. at_behind number entry entries off.0 ∙ found_alike number entries
      ∙ ap (λ (b : Bool). cond b (Some entry.1) (lookup (is_at (nat_cmp number)) entries))
      (sym (not_number number entry.0 (λ same. off.1 (sym same))))) (eqb_tells entry.0 number)

  -- where something is counted, one is
  some_counts : (f : V → ℕ) (whole entries : List (ℕ × V)) → AreThere whole entries → 0 < sum_by f (values_of entries)
      → (number : ℕ) × (v : V) × (at number whole ≡ Some v) × (0 < f v)
  some_counts f whole [] there some = absurd (omega (arith, some))
  some_counts f whole (entry ∷ entries) there some =
      counts_by (f entry.1) refl (λ more. some_counts f whole entries there.1 more)
    where
      counts_by : (n : ℕ) → f entry.1 ≡ n
          → (0 < sum_by f (values_of entries) → (number : ℕ) × (v : V) × (at number whole ≡ Some v) × (0 < f v))
          → (number : ℕ) × (v : V) × (at number whole ≡ Some v) × (0 < f v)
      counts_by zero is later = later (omega (arith, some, is, sum_by-cons f entry.1 (values_of entries)))
      counts_by (suc n) is later = (entry.0, entry.1, there.0, omega (arith, is))

  one_counts : (f : V → ℕ) (number : ℕ) (v : V) (entries : List (ℕ × V)) → at number entries ≡ Some v → 0 < f v
      → 0 < sum_by f (values_of entries)
  one_counts f number v [] found some = never_some v found
  one_counts f number v (entry ∷ entries) found some = ⊎_elim
      (λ same. omega (
        arith,
        some,
        ap f (same_some entry.1 v (sym (at_head number entry entries same.0) ∙ found)),
        sum_by-cons f entry.1 (values_of entries),
      ))
      (λ off. omega (
        arith,
        one_counts f number v entries (sym (at_behind number entry entries off.0) ∙ found) some,
        sum_by-cons f entry.1 (values_of entries),
      )) (eqb_tells entry.0 number)

  pub one_passes : (test : V → Bool) (number : ℕ) (v : V) (table : List (ℕ × V)) → at number table ≡ Some v → test v ≡ true
      → list_any (λ (entry : ℕ × V). test entry.1) table ≡ true
  one_passes test number v [] found is = never_some v found
  one_passes test number v (entry ∷ table) found is = ⊎_elim
      (λ same. or_left (test entry.1) (list_any (λ (one : ℕ × V). test one.1) table)
      (ap test (same_some entry.1 v (sym (at_head number entry table same.0) ∙ found)) ∙ is))
      (λ off. or_right (test entry.1) (list_any (λ (one : ℕ × V). test one.1) table)
      (one_passes test number v table (sym (at_behind number entry table off.0) ∙ found) is)) (eqb_tells entry.0 number)

  pub some_passes : (test : V → Bool) (whole table : List (ℕ × V)) → AreThere whole table
      → list_any (λ (entry : ℕ × V). test entry.1) table ≡ true → (number : ℕ) × (v : V) × (at number whole ≡ Some v) × (test v ≡ true)
  some_passes test whole [] there is = absurd (true≢false (sym is))
  some_passes test whole (entry ∷ table) there is = ⊎_elim
      (λ passes. (entry.0, entry.1, there.0, passes))
      (λ later. some_passes test whole table there.1 later)
      (or_cases (test entry.1) (list_any (λ (one : ℕ × V). test one.1) table) is)

  mapped_passes : {W : Type 0} (f : V → W) (test : W → Bool) (table : List (ℕ × V))
      → list_any (λ (entry : ℕ × W). test entry.1) (map (λ (entry : ℕ × V). (entry.0, f entry.1)) table)
      ≡ list_any (λ (entry : ℕ × V). test (f entry.1)) table
  mapped_passes f test [] = refl
  mapped_passes f test (entry ∷ table) = ap (λ (b : Bool). test (f entry.1) || b) (mapped_passes f test table)

pub both_pass : (one other : Bool) → (one && other) ≡ true → (one ≡ true) × (other ≡ true)
both_pass true other is = (refl, is)
both_pass false other is = absurd (true≢false (sym is))

some_mapped : {X Y : Type 0} (f : X → Y) (xs : List X) → 0 < length xs → map f xs ≡ [] → ⊥
some_mapped f [] some is = omega (arith, some)
some_mapped f (x ∷ xs) some is = cc

some_of_mapped : {X Y : Type 0} (f : X → Y) (xs : List X) → (map f xs ≡ [] → ⊥) → 0 < length xs
some_of_mapped f [] some = absurd (some refl)
some_of_mapped f (x ∷ xs) some = omega arith

-- one for a test that passes
abbrev pub one_if : Bool → ℕ
one_if b = cond b 1 0

-- ---- what is lent and held

abbrev bare_slots : List (ℕ × LentSlot) → List ℕ
bare_slots table = map (λ (entry : ℕ × LentSlot). entry.1.slot) table

abbrev lent_by : ℕ → List (ℕ × LentSlot) → List (ℕ × LentSlot)
lent_by publisher table = filter (λ (entry : ℕ × LentSlot). entry.1.publisher == publisher) table

lent_there : (publisher : ℕ) (whole table : List (ℕ × LentSlot)) → AreThere whole table → (slots_lent_by publisher table ≡ [] → ⊥)
    → (number : ℕ) × (out : LentSlot) × (at number whole ≡ Some out) × (out.publisher ≡ publisher)
lent_there publisher whole [] there some = absurd (some refl)
lent_there publisher whole (entry ∷ table) there some = ⊎_elim
    (λ same. (entry.0, entry.1, there.0, same.1))
    (λ off. lent_there publisher whole table there.1
    (λ none. some (ap (λ (b : Bool). bare_slots (cond b (entry ∷ lent_by publisher table) (lent_by publisher table))) off.0 ∙ none)))
    (eqb_tells entry.1.publisher publisher)

-- what is lent is lent by its publisher
one_lent : (test : LentSlot → Bool) (table : List (ℕ × LentSlot)) → list_any (λ (entry : ℕ × LentSlot). test entry.1) table ≡ true
    → (out : LentSlot) × (test out ≡ true) × (slots_lent_by out.publisher table ≡ [] → ⊥)
one_lent test [] is = absurd (true≢false (sym is))
one_lent test (entry ∷ table) is = ⊎_elim
    (λ passes. (
      entry.1,
      passes,
      λ none. filled (entry.1.publisher == entry.1.publisher) (eq-eqb entry.1.publisher entry.1.publisher refl)
          none,
    ))
    (λ later.
    let (out, passes, some) = one_lent test table later in
    (out, passes, λ none. some (emptied (entry.1.publisher == out.publisher) out none)))
    (or_cases (test entry.1) (list_any (λ (one : ℕ × LentSlot). test one.1) table) is)
  where
    filled : (b : Bool) → b ≡ true
        → bare_slots (cond b (entry ∷ lent_by entry.1.publisher table) (lent_by entry.1.publisher table)) ≡ [] → ⊥
    filled true on none = cc
    filled false on none = true≢false (sym on)

    emptied : (b : Bool) (out : LentSlot)
        → bare_slots (cond b (entry ∷ lent_by out.publisher table) (lent_by out.publisher table)) ≡ []
        → slots_lent_by out.publisher table ≡ []
    emptied true out none = cc
    emptied false out none = none

abbrev counts_held : ℕ → ℕ × Taken → ℕ
counts_held subscriber entry = one_if (entry.1.subscriber == subscriber)

held_there : (subscriber : ℕ) (whole table : List (ℕ × Taken)) → AreThere whole table → 0 < samples_held_by subscriber table
    → (number : ℕ) × (taken : Taken) × (at number whole ≡ Some taken) × (taken.subscriber ≡ subscriber)
held_there subscriber whole [] there some = absurd (omega (arith, some))
held_there subscriber whole (entry ∷ table) there some = ⊎_elim
    (λ same. (entry.0, entry.1, there.0, same.1))
    (λ off. held_there subscriber whole table there.1
    (omega (arith, some, sum_by-cons (counts_held subscriber) entry table, ap one_if off.0)))
    (eqb_tells entry.1.subscriber subscriber)

one_held : (test : Taken → Bool) (table : List (ℕ × Taken)) → list_any (λ (entry : ℕ × Taken). test entry.1) table ≡ true
    → (taken : Taken) × (test taken ≡ true) × (0 < samples_held_by taken.subscriber table)
one_held test [] is = absurd (true≢false (sym is))
one_held test (entry ∷ table) is = ⊎_elim
    (λ passes. (
      entry.1,
      passes,
      omega (
        arith,
        sum_by-cons (counts_held entry.1.subscriber) entry table,
        ap one_if (eq-eqb entry.1.subscriber entry.1.subscriber refl),
      ),
    ))
    (λ later.
    let (taken, passes, some) = one_held test table later in
    (taken, passes, omega (arith, some, sum_by-cons (counts_held taken.subscriber) entry table)))
    (or_cases (test entry.1) (list_any (λ (one : ℕ × Taken). test one.1) table) is)

-- ---- what lives

-- one of these owners is counted
abbrev pub IsCounted : Option ℕ → ℕ → Type 0
IsCounted None number = Unit {0}
IsCounted (Some owner) number = owner ≡ number

is_counted : (owner : Option ℕ) (number count : ℕ) → 0 < counted owner number count → (0 < count) × IsCounted owner number
is_counted None number count some = (some, tt)
is_counted (Some owner) number count some = ⊎_elim
    (λ same. (omega (arith, some, ap (λ (b : Bool). cond b count 0) same.0), same.1))
    (λ off. absurd (omega (arith, some, ap (λ (b : Bool). cond b count 0) off.0))) (eqb_tells owner number)

counts_own : (owner number count : ℕ) → number ≡ owner → counted (Some owner) number count ≡ count
counts_own owner number count is = ap (λ (b : Bool). cond b count 0) (eq-eqb owner number (sym is))

module _ {T U : Type 0} where
  -- something of an owner lives in a domain: a publisher or something of it, or a subscriber or something of it
  abbrev pub Lives : ℕ → ServicePorts T U → Type 0
  Lives owner ports =
      ((number : ℕ) × (port : PublisherPort T U) × (port_of number ports.publishers ≡ Some port) × (0 < living_of_publisher port)
      × (port.owner.number ≡ owner))
      ⊎ ((number : ℕ) × (port : SubscriberPort) × (subscriber_of number ports.subscribers ≡ Some port) × (0 < living_of_subscriber port)
      × (port.owner.number ≡ owner))

  pub some_lives : (owner : Option ℕ) (ports : ServicePorts T U) → ComesOnce ports.publishers → ComesOnce ports.subscribers
      → 0 < living owner ports → (one : ℕ) × IsCounted owner one × Lives one ports
  some_lives owner ports once once_subscribers some = lives_by (living_publishers owner ports.publishers) refl
    where
      lives_by : (n : ℕ) → living_publishers owner ports.publishers ≡ n → (one : ℕ) × IsCounted owner one × Lives one ports
      lives_by zero is =
          let (number, port, found, counts) =
          some_counts (λ (one : SubscriberPort). counted owner one.owner.number (living_of_subscriber one)) ports.subscribers
          ports.subscribers (all_go ports.subscribers once_subscribers) (omega (arith, some, is)) in
          let so = is_counted owner port.owner.number (living_of_subscriber port) counts in
          (port.owner.number, so.1, inr (number, port, sym (found_alike number ports.subscribers) ∙ found, so.0, refl))
      lives_by (suc n) is =
          let (number, port, found, counts) =
          some_counts (λ (one : PublisherPort T U). counted owner one.owner.number (living_of_publisher one)) ports.publishers
          ports.publishers (all_go ports.publishers once) (omega (arith, is)) in
          let so = is_counted owner port.owner.number (living_of_publisher port) counts in
          (port.owner.number, so.1, inl (number, port, sym (found_alike number ports.publishers) ∙ found, so.0, refl))

  pub lives_counts : (owner : ℕ) (ports : ServicePorts T U) → Lives owner ports → 0 < living (Some owner) ports
  lives_counts owner ports (inl (number, port, found, some, is)) =
      let counts = one_counts (λ (one : PublisherPort T U). counted (Some owner) one.owner.number (living_of_publisher one)) number port
      ports.publishers (found_alike number ports.publishers ∙ found)
      (subst (λ (n : ℕ). 0 < n) (sym (counts_own owner port.owner.number (living_of_publisher port) is)) some) in
      omega (arith, counts)
  lives_counts owner ports (inr (number, port, found, some, is)) =
      let counts = one_counts (λ (one : SubscriberPort). counted (Some owner) one.owner.number (living_of_subscriber one)) number port
      ports.subscribers (found_alike number ports.subscribers ∙ found)
      (subst (λ (n : ℕ). 0 < n) (sym (counts_own owner port.owner.number (living_of_subscriber port) is)) some) in
      omega (arith, counts)

-- ---- what the machine uses

module _ {T : Type 0} where
  -- a publisher of a factory stands or lends, or a subscriber of it stands or holds
  abbrev pub Uses : ℕ → Service T → Type 0
  Uses factory service =
      ((number : ℕ) × (one : Publisher T) × (at number service.publishers ≡ Some one) × (one.factory ≡ factory)
      × ((one.stands ≡ true)
      ⊎ ((loan : ℕ) × (out : Loan T) × (at loan service.loans ≡ Some out) × (out.publisher ≡ number))))
      ⊎ ((number : ℕ) × (one : Subscriber) × (at number service.subscribers ≡ Some one) × (one.factory ≡ factory)
      × ((one.stands ≡ true)
      ⊎ ((sample : ℕ) × (held : Sample T) × (at sample service.samples ≡ Some held) × (held.subscriber ≡ number))))

  module _ (factory : ℕ) (service : Service T) where
    abbrev publisher_passes : Publisher T → Bool
    publisher_passes one = one.stands && one.factory == factory

    abbrev subscriber_passes : Subscriber → Bool
    subscriber_passes one = one.stands && one.factory == factory

    abbrev lender_passes : Option (Publisher T) → Bool
    lender_passes found = option_map_or (λ (one : Publisher T). one.factory == factory) found false

    abbrev holder_passes : Option Subscriber → Bool
    holder_passes found = option_map_or (λ (one : Subscriber). one.factory == factory) found false

    abbrev loan_passes : Loan T → Bool
    loan_passes out = lender_passes (at out.publisher service.publishers)

    abbrev sample_passes : Sample T → Bool
    sample_passes held = holder_passes (at held.subscriber service.subscribers)

    abbrev publishers_pass : Bool
    publishers_pass = list_any (λ (entry : ℕ × Publisher T). publisher_passes entry.1) service.publishers

    abbrev subscribers_pass : Bool
    subscribers_pass = list_any (λ (entry : ℕ × Subscriber). subscriber_passes entry.1) service.subscribers

    abbrev loans_pass : Bool
    loans_pass = list_any (λ (entry : ℕ × Loan T). loan_passes entry.1) service.loans

    abbrev samples_pass : Bool
    samples_pass = list_any (λ (entry : ℕ × Sample T). sample_passes entry.1) service.samples

    pub uses_used : Uses factory service → is_used_by factory service ≡ true
    uses_used (inl (number, one, found, is, inl up)) =
        or_left publishers_pass (subscribers_pass || (loans_pass || samples_pass))
        (one_passes publisher_passes number one service.publishers found
        (and_from one.stands (one.factory == factory) up (eq-eqb one.factory factory is)))
    uses_used (inl (number, one, found, is, inr (loan, out, there, whose))) =
        or_right publishers_pass (subscribers_pass || (loans_pass || samples_pass))
        (or_right subscribers_pass (loans_pass || samples_pass)
        (or_left loans_pass samples_pass
        (one_passes loan_passes loan out service.loans there
        (ap (λ (n : ℕ). lender_passes (at n service.publishers)) whose ∙ ap lender_passes found ∙ eq-eqb one.factory factory is))))
    uses_used (inr (number, one, found, is, inl up)) =
        or_right publishers_pass (subscribers_pass || (loans_pass || samples_pass))
        (or_left subscribers_pass (loans_pass || samples_pass)
        (one_passes subscriber_passes number one service.subscribers found
        (and_from one.stands (one.factory == factory) up (eq-eqb one.factory factory is))))
    uses_used (inr (number, one, found, is, inr (sample, held, there, whose))) =
        or_right publishers_pass (subscribers_pass || (loans_pass || samples_pass))
        (or_right subscribers_pass (loans_pass || samples_pass)
        (or_right loans_pass samples_pass
        (one_passes sample_passes sample held service.samples there
        (ap (λ (n : ℕ). holder_passes (at n service.subscribers)) whose ∙ ap holder_passes found ∙ eq-eqb one.factory factory is))))

-- ---- both

module _ {T U : Type 0} (names : Naming) (lent : List (ℕ × LentSlot)) (held : List (ℕ × Taken)) (buffer : ℕ) (ports : ServicePorts T U)
    (service : Service T) (stands : StandsFor names lent held buffer ports service) (owner : ℕ) where
  lender_uses : (number : ℕ) (port : PublisherPort T U) → port_of number ports.publishers ≡ Some port → 0 < living_of_publisher port
      → port.owner.number ≡ owner → PublisherIs names ports service number port → Uses owner service
  lender_uses number port found some is (publisher, there, it, boxes) =
      inl (names.publisher number, publisher, there, it.factory ∙ is, up_or_lends port.stands refl)
    where
      up_or_lends : (b : Bool) → port.stands ≡ b → (publisher.stands ≡ true)
          ⊎ ((loan : ℕ) × (out : Loan T) × (at loan service.loans ≡ Some out) × (out.publisher ≡ names.publisher number))
      up_or_lends true up = inl (it.stands ∙ up)
      up_or_lends false down =
          let lends : 0 < length port.sender.uses.loans = omega (
            arith,
            some,
            ap one_if down,
            ap (λ sent. one_if (is_some sent)) (it.left down),
          ) in
          let (loan, out, goes, whose) = lent_there number lent lent (all_go lent stands.loans.once)
          (λ none. some_mapped (λ one. one.slot) port.sender.uses.loans lends
          (sym (ap loans_at_port found) ∙ sym (stands.loans.all number) ∙ none)) in
          inr (
            loan,
            loan_as names ports out,
            ap (at loan) stands.loans.same ∙ at_mapped (loan_as names ports) loan lent ∙ ap (option_map (loan_as names ports)) goes,
            ap names.publisher whose,
          )

  holder_uses : (number : ℕ) (port : SubscriberPort) → subscriber_of number ports.subscribers ≡ Some port
      → 0 < living_of_subscriber port → port.owner.number ≡ owner → SubscriberIs names ports service number port → Uses owner service
  holder_uses number port found some is (subscriber, there, it) =
      inr (names.subscriber number, subscriber, there, it.factory ∙ is, up_or_holds port.stands refl)
    where
      up_or_holds : (b : Bool) → port.stands ≡ b → (subscriber.stands ≡ true)
          ⊎ ((sample : ℕ) × (one : Sample T) × (at sample service.samples ≡ Some one) × (one.subscriber ≡ names.subscriber number))
      up_or_holds true up = inl (it.stands ∙ up)
      up_or_holds false down =
          let (sample, taken, goes, whose) = held_there number held held (all_go held stands.samples.once)
          (omega (arith, some, ap one_if down, stands.samples.counted number, ap held_at_port found)) in
          inr (
            sample,
            sample_as names ports taken,
            ap (at sample) stands.samples.same ∙ at_mapped (sample_as names ports) sample held
                ∙ ap (option_map (sample_as names ports)) goes,
            ap names.subscriber whose,
          )

  -- what lives of an owner the machine uses
  pub lives_uses : Lives owner ports → Uses owner service
  lives_uses (inl (number, port, found, some, is)) = lender_uses number port found some is (stands.publishers number port found)
  lives_uses (inr (number, port, found, some, is)) = holder_uses number port found some is (stands.subscribers number port found)

  module _ (once : ComesOnce service.publishers) (once_subscribers : ComesOnce service.subscribers) where
    publisher_lives : (number : ℕ) (one : Publisher T) → at number service.publishers ≡ Some one
        → (one.stands && one.factory == owner) ≡ true → Lives owner ports
    publisher_lives number one found passes =
        let (port, named, some) = stands.named_publishers.each number (ap is_some found) in
        lives_if port (ap (λ (n : ℕ). at n service.publishers) named ∙ found) (port_of port ports.publishers) refl
      where
        both : (one.stands ≡ true) × ((one.factory == owner) ≡ true)
        both = both_pass one.stands (one.factory == owner) passes

        lives_if : (port : ℕ) → at (names.publisher port) service.publishers ≡ Some one → (found : Option (PublisherPort T U))
            → port_of port ports.publishers ≡ found → Lives owner ports
        lives_if port there None none =
            absurd (true≢false (sym both.0 ∙ stands.gone_publishers port one none there))
        lives_if port there (Some it) is =
            let (publisher, has, its, boxes) = stands.publishers port it is in
            let same : publisher ≡ one = same_some publisher one (sym has ∙ there) in
            let up : it.stands ≡ true = sym its.stands ∙ ap (λ (p : Publisher T). p.stands) same ∙ both.0 in
            inl (
              port,
              it,
              is,
              omega (arith, ap one_if up),
              sym its.factory ∙ ap (λ (p : Publisher T). p.factory) same ∙ eqb-true one.factory owner both.1,
            )

    subscriber_lives : (number : ℕ) (one : Subscriber) → at number service.subscribers ≡ Some one
        → (one.stands && one.factory == owner) ≡ true → Lives owner ports
    subscriber_lives number one found passes =
        let (port, named, some) = stands.named_subscribers.each number (ap is_some found) in
        lives_if port (ap (λ (n : ℕ). at n service.subscribers) named ∙ found) (subscriber_of port ports.subscribers) refl
      where
        both : (one.stands ≡ true) × ((one.factory == owner) ≡ true)
        both = both_pass one.stands (one.factory == owner) passes

        lives_if : (port : ℕ) → at (names.subscriber port) service.subscribers ≡ Some one → (found : Option SubscriberPort)
            → subscriber_of port ports.subscribers ≡ found → Lives owner ports
        lives_if port there None none =
            absurd (true≢false (sym both.0 ∙ stands.gone_subscribers port one none there))
        lives_if port there (Some it) is =
            let (subscriber, has, its) = stands.subscribers port it is in
            let same : subscriber ≡ one = same_some subscriber one (sym has ∙ there) in
            let up : it.stands ≡ true = sym its.stands ∙ ap (λ (s : Subscriber). s.stands) same ∙ both.0 in
            inr (
              port,
              it,
              is,
              omega (arith, ap one_if up),
              sym its.factory ∙ ap (λ (s : Subscriber). s.factory) same ∙ eqb-true one.factory owner both.1,
            )

    loan_lives : (out : LentSlot) → loan_passes owner service (loan_as names ports out) ≡ true
        → (slots_lent_by out.publisher lent ≡ [] → ⊥) → Lives owner ports
    loan_lives out passes some = lives_if (port_of out.publisher ports.publishers) refl
      where
        lives_if : (found : Option (PublisherPort T U)) → port_of out.publisher ports.publishers ≡ found → Lives owner ports
        lives_if None none = absurd (some (stands.loans.all out.publisher ∙ ap loans_at_port none))
        lives_if (Some it) is =
            let (publisher, has, its, boxes) = stands.publishers out.publisher it is in
            let lends : 0 < length it.sender.uses.loans = some_of_mapped (λ one. one.slot) it.sender.uses.loans
            (λ none. some (stands.loans.all out.publisher ∙ ap loans_at_port is ∙ none)) in
            inl (
              out.publisher,
              it,
              is,
              omega (arith, lends),
              sym its.factory ∙ eqb-true publisher.factory owner (sym (ap (lender_passes owner service) has) ∙ passes),
            )

    sample_lives : (taken : Taken) → sample_passes owner service (sample_as names ports taken) ≡ true
        → 0 < samples_held_by taken.subscriber held → Lives owner ports
    sample_lives taken passes some = lives_if (subscriber_of taken.subscriber ports.subscribers) refl
      where
        lives_if : (found : Option SubscriberPort) → subscriber_of taken.subscriber ports.subscribers ≡ found → Lives owner ports
        lives_if None none = absurd (omega (arith, some, stands.samples.counted taken.subscriber, ap held_at_port none))
        lives_if (Some it) is =
            let (subscriber, has, its) = stands.subscribers taken.subscriber it is in
            inr (
              taken.subscriber,
              it,
              is,
              omega (arith, some, stands.samples.counted taken.subscriber, ap held_at_port is),
              sym its.factory ∙ eqb-true subscriber.factory owner (sym (ap (holder_passes owner service) has) ∙ passes),
            )

    -- what the machine uses of an owner lives
    pub used_lives : is_used_by owner service ≡ true → Lives owner ports
    used_lives used = ⊎_elim
        (λ is. let (number, one, found, passes) = some_passes (publisher_passes owner service) service.publishers service.publishers
        (all_go service.publishers once) is in publisher_lives number one found passes)
        (λ rest. ⊎_elim
        (λ is. let (number, one, found, passes) = some_passes (subscriber_passes owner service) service.subscribers service.subscribers
        (all_go service.subscribers once_subscribers) is in subscriber_lives number one found passes)
        (λ more. ⊎_elim
        (λ is. let (out, passes, some) = one_lent (λ (one : LentSlot). loan_passes owner service (loan_as names ports one)) lent
        (sym (ap (λ (table : List (ℕ × Loan T)). list_any (λ (entry : ℕ × Loan T). loan_passes owner service entry.1) table)
        stands.loans.same
        ∙ mapped_passes (loan_as names ports) (loan_passes owner service) lent) ∙ is) in loan_lives out passes some)
        (λ is. let (taken, passes, some) = one_held (λ (one : Taken). sample_passes owner service (sample_as names ports one)) held
        (sym (ap (λ (table : List (ℕ × Sample T)). list_any (λ (entry : ℕ × Sample T). sample_passes owner service entry.1) table)
        stands.samples.same
        ∙ mapped_passes (sample_as names ports) (sample_passes owner service) held) ∙ is) in sample_lives taken passes some)
        (or_cases (loans_pass owner service) (samples_pass owner service) more))
        (or_cases (subscribers_pass owner service) (loans_pass owner service || samples_pass owner service) rest))
        (or_cases (publishers_pass owner service)
        (subscribers_pass owner service || (loans_pass owner service || samples_pass owner service)) used)

-- ---- what goes by numbers

found_lent : (number : ℕ) (out : LentSlot) (table : List (ℕ × LentSlot)) → at number table ≡ Some out
    → slots_lent_by out.publisher table ≡ [] → ⊥
found_lent number out [] found none = never_some out found
found_lent number out (entry ∷ table) found none = ⊎_elim
    (λ same. lent_by_test (entry.1.publisher == out.publisher)
    (eq-eqb entry.1.publisher out.publisher
    (ap (λ (one : LentSlot). one.publisher) (same_some entry.1 out (sym (at_head number entry table same.0) ∙ found)))) none)
    (λ off. found_lent number out table (sym (at_behind number entry table off.0) ∙ found)
    (rest_by (entry.1.publisher == out.publisher) none)) (eqb_tells entry.0 number)
  where
    lent_by_test : (b : Bool) → b ≡ true
        → bare_slots (cond b (entry ∷ lent_by out.publisher table) (lent_by out.publisher table)) ≡ [] → ⊥
    lent_by_test true on is = cc
    lent_by_test false on is = true≢false (sym on)

    rest_by : (b : Bool) → bare_slots (cond b (entry ∷ lent_by out.publisher table) (lent_by out.publisher table)) ≡ []
        → slots_lent_by out.publisher table ≡ []
    rest_by true is = cc
    rest_by false is = is

found_held : (number : ℕ) (taken : Taken) (table : List (ℕ × Taken)) → at number table ≡ Some taken
    → 0 < samples_held_by taken.subscriber table
found_held number taken [] found = never_some taken found
found_held number taken (entry ∷ table) found = ⊎_elim
    (λ same. omega (
      arith,
      sum_by-cons (counts_held taken.subscriber) entry table,
      ap one_if (eq-eqb entry.1.subscriber taken.subscriber
          (ap (λ (one : Taken). one.subscriber) (same_some entry.1 taken (sym (at_head number entry table same.0) ∙ found)))),
    ))
    (λ off. omega (
      arith,
      sum_by-cons (counts_held taken.subscriber) entry table,
      found_held number taken table (sym (at_behind number entry table off.0) ∙ found),
    )) (eqb_tells entry.0 number)

module _ {T U : Type 0} (names : Naming) (lent : List (ℕ × LentSlot)) (held : List (ℕ × Taken)) (buffer : ℕ) (ports : ServicePorts T U)
    (service : Service T) (stands : StandsFor names lent held buffer ports service) (number : ℕ) where
  -- the owner of a loan lives
  pub lent_lives : (out : LentSlot) → at number lent ≡ Some out → (owner : ℕ) × Lives owner ports
  lent_lives out found = lives_if (port_of out.publisher ports.publishers) refl
    where
      some : slots_lent_by out.publisher lent ≡ [] → ⊥
      some = found_lent number out lent found

      lives_if : (port : Option (PublisherPort T U)) → port_of out.publisher ports.publishers ≡ port → (owner : ℕ) × Lives owner ports
      lives_if None none = absurd (some (stands.loans.all out.publisher ∙ ap loans_at_port none))
      lives_if (Some it) is =
          let lends : 0 < length it.sender.uses.loans = some_of_mapped (λ one. one.slot) it.sender.uses.loans
          (λ none. some (stands.loans.all out.publisher ∙ ap loans_at_port is ∙ none)) in
          (it.owner.number, inl (out.publisher, it, is, omega (arith, lends), refl))

  -- so does that of a sample
  pub held_lives : (taken : Taken) → at number held ≡ Some taken → (owner : ℕ) × Lives owner ports
  held_lives taken found = lives_if (subscriber_of taken.subscriber ports.subscribers) refl
    where
      some : 0 < samples_held_by taken.subscriber held
      some = found_held number taken held found

      lives_if : (port : Option SubscriberPort) → subscriber_of taken.subscriber ports.subscribers ≡ port → (owner : ℕ) × Lives owner ports
      lives_if None none = absurd (omega (arith, some, stands.samples.counted taken.subscriber, ap held_at_port none))
      lives_if (Some it) is = (
        it.owner.number,
        inr (taken.subscriber, it, is, omega (arith, some, stands.samples.counted taken.subscriber, ap held_at_port is), refl),
      )
