-- Domains that represent the services of a machine, one of which makes a step.
use Rattle.std.proofs.Common.{◌≡◌, ◌≢◌, ◌≤◌, ◌<◌, ℕ, Bool, true, false, cond, ◌||◌, List, [], ◌∷◌, ◌++◌, map, Option, None, Some, refl}
use Rattle.std.proofs.Common.{sym, ap, subst, ◌∙◌, arith, true≢false}
use Rattle.std.proofs.Math.Logic.{⊎_elim}
use Rattle.std.proofs.lemmas.Bool.Decides.{eqb_tells}
use Rattle.std.specs.List.{list_any}
use Rattle.std.specs.Map.{keys_of}
use Rattle.std.specs.Prelude.{filter, is_some, option_and_then, ◌==◌, if◌then◌else◌}
use Rattle.iox_command.specs.NegotiateBase.DescribeBase.declared.message_type.MessageTypeDetails.{MessageTypeDetails}
use Rattle.iox_command.specs.declared.command.Command.{Command}
use Rattle.iox_command.specs.declared.command.Command.TheVariants as command
use Rattle.iox_command.specs.declared.port.PortNumber.TheVariants as port
use Rattle.iox_command.specs.declared.reply.Reply.{Reply}
use Rattle.iox_domain.specs.DomainPorts.declared.attached.Taken.{Taken}
use Rattle.iox_domain.specs.Tries.{how_often}
use Rattle.iox_domain.specs.declared.ports.service_ports.ServicePorts.{ServicePorts}
use Rattle.iox_domain_machine.specs.Laws.{Matches}
use Rattle.iox_domain_machine.specs.Naming.{Naming, with_name}
use Rattle.iox_domain_machine.specs.ServiceLaws.{IsNamed, GoesBy, NamesOf, ChangesAt, AmongOthersMatches}
use Rattle.iox_domain_machine.specs.Services.{those_of, AreNamedApart, ComesOnce, StandInTurn, DomainsStandFor}
use Rattle.iox_domain_machine.specs.Standing.{StandsFor}
use Rattle.iox_domain_machine.specs.Tables.{LentSlot}
use Rattle.iox_machine.specs.Choices.{Choices}
use Rattle.iox_machine.specs.AmongLaws.{StepsAmong}
use Rattle.iox_machine.specs.Named.{is_on_ports, has_named}
use Rattle.iox_machine.specs.Ports.{publisher_in, subscriber_in}
use Rattle.iox_machine.specs.Run.{Step}
use Rattle.iox_machine.specs.Service.{Service, Publisher, Subscriber}
use Rattle.iox_machine.specs.State.{State, Factory, counted}
use Rattle.iox_machine.specs.Table.{at}
use Rattle.iox_domain_machine.proofs.Found.{same_some, never_some, same_everywhere, at_head, at_behind}

-- ---- numbers that come once

once_behind : {V : Type 0} (entry : ℕ × V) (table : List (ℕ × V)) → ComesOnce (entry ∷ table) → ComesOnce table
once_behind entry table once number = omega (arith, once number)

abbrev one_if : Bool → ℕ
one_if b = cond b 1 0

-- whether two numbers are one, counted
abbrev tick : ℕ → ℕ → ℕ
tick number key = if number == key then 1 else 0

counts_itself : (number : ℕ) → tick number number ≡ 1
counts_itself number = ⊎_elim (λ same. ap one_if same.0) (λ other. absurd (other.1 refl)) (eqb_tells number number)

counts : {V : Type 0} (number : ℕ) (v : V) (table : List (ℕ × V)) → at number table ≡ Some v → 0 < how_often number (keys_of table)
counts number v [] is = never_some v is
counts number v (entry ∷ table) is = ⊎_elim
    (λ same. omega (arith, ap (tick number) same.1, counts_itself number))
    (λ other. omega (arith, counts number v table (sym (at_behind number entry table other.0) ∙ is)))
    (eqb_tells entry.0 number)

comes_in : {V : Type 0} (number : ℕ) (v : V) (before behind : List (ℕ × V))
    → 0 < how_often number (keys_of (before ++ (number, v) ∷ behind))
comes_in number v [] behind = omega (arith, counts_itself number)
comes_in number v (entry ∷ before) behind = omega (arith, comes_in number v before behind)

-- where a number comes once, it doesn't come before or after
comes_not : {V : Type 0} (number : ℕ) (v : V) (before behind : List (ℕ × V))
    → how_often number (keys_of (before ++ (number, v) ∷ behind)) ≤ 1
    → (how_often number (keys_of before) ≡ 0) × (how_often number (keys_of behind) ≡ 0)
comes_not number v [] behind once = (refl, omega (arith, once, counts_itself number))
comes_not number v (entry ∷ before) behind once =
    let rest = comes_not number v before behind (omega (arith, once)) in
    (omega (arith, rest.0, once, comes_in number v before behind), rest.1)

same_keys : {V : Type 0} (number : ℕ) (v w : V) (before behind : List (ℕ × V))
    → keys_of (before ++ (number, w) ∷ behind) ≡ keys_of (before ++ (number, v) ∷ behind)
same_keys number v w [] behind = refl
same_keys number v w (entry ∷ before) behind = ap (λ (keys : List ℕ). entry.0 ∷ keys) (same_keys number v w before behind)

-- ---- what is a domain's

module _ {V : Type 0} (domain number : ℕ) (v : V) where
  both : (one : ℕ × V) → one.0 ≡ domain → one.1 ≡ v → one ≡ (domain, v)
  both one same it = λ i. (same i, it i)

  -- the first is the domain's own
  mine : (entry : ℕ × (ℕ × V)) (table : List (ℕ × (ℕ × V))) → entry.1.0 ≡ domain
      → (at number (those_of domain table) ≡ Some v → at number table ≡ Some (domain, v))
      → at number ((entry.0, entry.1.1) ∷ those_of domain table) ≡ Some v → at number (entry ∷ table) ≡ Some (domain, v)
  mine entry table its rest found = ⊎_elim
      (λ same. at_head number entry table same.0 ∙ ap Some (both entry.1 its
      (same_some entry.1.1 v (sym (at_head number (entry.0, entry.1.1) (those_of domain table) same.0) ∙ found))))
      (λ other. at_behind number entry table other.0 ∙ rest
      (sym (at_behind number (entry.0, entry.1.1) (those_of domain table) other.0) ∙ found))
      (eqb_tells entry.0 number)

  -- the first is another's
  another : (entry : ℕ × (ℕ × V)) (table : List (ℕ × (ℕ × V))) → ComesOnce (entry ∷ table) → at number table ≡ Some (domain, v)
      → at number (entry ∷ table) ≡ Some (domain, v)
  another entry table once found = ⊎_elim
      (λ same. absurd (omega (arith, once number, counts number (domain, v) table found, ap (tick number) same.1, counts_itself number)))
      (λ other. at_behind number entry table other.0 ∙ found)
      (eqb_tells entry.0 number)

  -- what goes by a number at a domain goes by it
  pub goes_by : (table : List (ℕ × (ℕ × V))) → ComesOnce table → at number (those_of domain table) ≡ Some v
      → at number table ≡ Some (domain, v)
  goes_by [] once is = never_some v is
  goes_by (entry ∷ table) once is =
      let rest = goes_by table (once_behind entry table once) in
      ⊎_elim
      (λ its. mine entry table its.1 rest (sym (by its.0) ∙ is))
      (λ off. another entry table once (rest (sym (by off.0) ∙ is)))
      (eqb_tells entry.1.0 domain)
    where
      others : List (ℕ × (ℕ × V))
      others = filter (λ (one : ℕ × (ℕ × V)). one.1.0 == domain) table

      by : {b c : Bool} → b ≡ c
          → at number (map (λ (one : ℕ × (ℕ × V)). (one.0, one.1.1)) (cond b (entry ∷ others) others))
          ≡ at number (map (λ (one : ℕ × (ℕ × V)). (one.0, one.1.1)) (cond c (entry ∷ others) others))
      by same = ap (λ (it : Bool). at number (map (λ (one : ℕ × (ℕ × V)). (one.0, one.1.1)) (cond it (entry ∷ others) others))) same

-- ---- services in turn

module _ {T U : Type 0} (names : ℕ → Naming) (lent : List (ℕ × (ℕ × LentSlot))) (held : List (ℕ × (ℕ × Taken))) (buffer : ℕ) where
  -- a domain stands for a service with what is its own
  abbrev pub Stands : ℕ × ServicePorts T U → Service T → Type 0
  Stands domain service = StandsFor (names domain.0) (those_of domain.0 lent) (those_of domain.0 held) buffer domain.1 service

  -- the services of the domains before one, its own, and those of the domains after it
  pub parted : (before behind : List (ℕ × ServicePorts T U)) (domain : ℕ × ServicePorts T U) (services : List (Service T))
      → StandInTurn names lent held buffer (before ++ domain ∷ behind) services
      → (first : List (Service T)) × (service : Service T) × (last : List (Service T)) × (services ≡ first ++ service ∷ last)
      × StandInTurn names lent held buffer before first × Stands domain service × StandInTurn names lent held buffer behind last
  parted [] behind domain [] stands = absurd stands
  parted [] behind domain (service ∷ services) (it, rest) = ([], service, services, refl, refl, it, rest)
  parted (one ∷ before) behind domain [] stands = absurd stands
  parted (one ∷ before) behind domain (service ∷ services) (it, rest) =
      let (first, own, last, same, one_before, its, one_behind) = parted before behind domain services rest in
      (service ∷ first, own, last, ap (λ (more : List (Service T)). service ∷ more) same, (it, one_before), its, one_behind)

  pub joined : (before behind : List (ℕ × ServicePorts T U)) (domain : ℕ × ServicePorts T U) (first : List (Service T))
      (service : Service T)
      (last : List (Service T))
      → StandInTurn names lent held buffer before first → Stands domain service → StandInTurn names lent held buffer behind last
      → StandInTurn names lent held buffer (before ++ domain ∷ behind) (first ++ service ∷ last)
  joined [] behind domain [] service last one_before its one_behind = (its, one_behind)
  joined [] behind domain (other ∷ first) service last one_before its one_behind = absurd (never one_before)
    where
      never : (other ∷ first) ≡ [] → ⊥
      never e = cc
  joined (one ∷ before) behind domain [] service last one_before its one_behind = absurd one_before
  joined (one ∷ before) behind domain (other ∷ first) service last (it, rest) its one_behind =
      (it, joined before behind domain first service last rest its one_behind)

  -- no service passes a test where those of the domains that aren't one don't
  pub none_passes : (test : Service T → Bool) (domain : ℕ)
      → ((other : ℕ × ServicePorts T U) (service : Service T) → other.0 ≢ domain → Stands other service → test service ≡ false)
      → (domains : List (ℕ × ServicePorts T U)) (services : List (Service T)) → how_often domain (keys_of domains) ≡ 0
      → StandInTurn names lent held buffer domains services → list_any test services ≡ false
  none_passes test domain fails [] services none stands = ap (list_any test) stands
  none_passes test domain fails (one ∷ domains) [] none stands = absurd stands
  none_passes test domain fails (one ∷ domains) (service ∷ services) none (it, rest) =
      ap (λ (b : Bool). b || list_any test services)
      (fails one service (λ same. omega (arith, none, ap (tick domain) same, counts_itself domain)) it)
      ∙ none_passes test domain fails domains services (omega (arith, none)) rest

-- other domains stand as they stood
pub others_stand : {T U : Type 0} (names later : ℕ → Naming) (lent lent_then : List (ℕ × (ℕ × LentSlot)))
    (held held_then : List (ℕ × (ℕ × Taken))) (buffer domain : ℕ)
    → ((other : ℕ) → other ≢ domain → later other ≡ names other)
    → ((other : ℕ) → other ≢ domain → those_of other lent_then ≡ those_of other lent)
    → ((other : ℕ) → other ≢ domain → those_of other held_then ≡ those_of other held)
    → (domains : List (ℕ × ServicePorts T U)) (services : List (Service T)) → how_often domain (keys_of domains) ≡ 0
    → StandInTurn names lent held buffer domains services → StandInTurn later lent_then held_then buffer domains services
others_stand names later lent lent_then held held_then buffer domain named loans samples [] services none stands = stands
others_stand names later lent lent_then held held_then buffer domain named loans samples (one ∷ domains) [] none stands = absurd stands
others_stand {T} {U} names later lent lent_then held held_then buffer domain named loans samples (one ∷ domains) (service ∷ services) none
    (it, rest) = (
      here,
      others_stand names later lent lent_then held held_then buffer domain named loans samples domains services (omega (arith, none))
          rest,
    )
  where
    off : one.0 ≢ domain
    off same = omega (arith, none, ap (tick domain) same, counts_itself domain)

    here : StandsFor (later one.0) (those_of one.0 lent_then) (those_of one.0 held_then) buffer one.1 service
    here =
        subst (λ (n : Naming). StandsFor n (those_of one.0 lent_then) (those_of one.0 held_then) buffer one.1 service)
        (sym (named one.0 off))
        (subst (λ (l : List (ℕ × LentSlot)). StandsFor (names one.0) l (those_of one.0 held_then) buffer one.1 service)
        (sym (loans one.0 off))
        (subst (λ (h : List (ℕ × Taken)). StandsFor (names one.0) (those_of one.0 lent) h buffer one.1 service)
        (sym (samples one.0 off)) it))

-- ---- nobody else has what is named

is_false : (b : Bool) → (b ≡ true → ⊥) → b ≡ false
is_false true never = absurd (never refl)
is_false false never = refl

only_some : {V W : Type 0} (f : V → Option W) (o : Option V) → is_some (option_and_then f o) ≡ true → is_some o ≡ true
only_some f None is = absurd (true≢false (sym is))
only_some f (Some v) is = refl

some_there : {V : Type 0} (o : Option V) → is_some o ≡ true → (v : V) × (o ≡ Some v)
some_there None is = absurd (true≢false (sym is))
some_there (Some v) is = (v, refl)

mapped_at : {V W : Type 0} (f : V → W) (number : ℕ) (table : List (ℕ × V)) (w : W)
    → at number (map (λ (entry : ℕ × V). (entry.0, f entry.1)) table) ≡ Some w → (v : V) × (at number table ≡ Some v)
mapped_at f number [] w is = never_some w is
mapped_at {V} {W} f number (entry ∷ table) w is = ⊎_elim
    (λ same. (entry.1, at_head number entry table same.0))
    (λ other. let (v, found) = mapped_at f number table w
    (sym (at_behind number (entry.0, f entry.1) (map (λ (one : ℕ × V). (one.0, f one.1)) table) other.0) ∙ is) in
    (v, at_behind number entry table other.0 ∙ found))
    (eqb_tells entry.0 number)

module _ {T U : Type 0} (names : ℕ → Naming) (lent : List (ℕ × (ℕ × LentSlot))) (held : List (ℕ × (ℕ × Taken))) (buffer domain : ℕ)
    (publishers : AreNamedApart (λ one. (names one).publisher)) (subscribers : AreNamedApart (λ one. (names one).subscriber))
    (loans : ComesOnce lent) (samples : ComesOnce held)
    (other : ℕ × ServicePorts T U) (service : Service T) (off : other.0 ≢ domain)
    (stands : StandsFor (names other.0) (those_of other.0 lent) (those_of other.0 held) buffer other.1 service) where
  no_publisher : (number : ℕ) → IsNamed (names domain).publisher number → is_some (publisher_in number service) ≡ false
  no_publisher number (port, same, some) =
      is_false (is_some (publisher_in number service))
      (λ is.
      let (mine, named, rest) = stands.named_publishers.each number
      (only_some (λ (one : Publisher T). cond one.stands (Some one) None) (at number service.publishers) is) in
      off (sym (publishers domain other.0 port mine (λ zero. some (sym same ∙ zero)) (same ∙ sym named))))

  no_subscriber : (number : ℕ) → IsNamed (names domain).subscriber number → is_some (subscriber_in number service) ≡ false
  no_subscriber number (port, same, some) =
      is_false (is_some (subscriber_in number service))
      (λ is.
      let (mine, named, rest) = stands.named_subscribers.each number
      (only_some (λ (one : Subscriber). cond one.stands (Some one) None) (at number service.subscribers) is) in
      off (sym (subscribers domain other.0 port mine (λ zero. some (sym same ∙ zero)) (same ∙ sym named))))

  no_loan : (number : ℕ) → GoesBy domain number lent → is_some (at number service.loans) ≡ false
  no_loan number (lent_slot, found) =
      is_false (is_some (at number service.loans))
      (λ is.
      let (loan, there) = some_there (at number service.loans) is in
      let (slot, mine) = mapped_at _ number (those_of other.0 lent) loan (sym (ap (at number) stands.loans.same) ∙ there) in
      off (ap (λ (one : ℕ × LentSlot). one.0)
      (same_some (other.0, slot) (domain, lent_slot) (sym (goes_by other.0 number slot lent loans mine) ∙ found))))

  no_sample : (number : ℕ) → GoesBy domain number held → is_some (at number service.samples) ≡ false
  no_sample number (taken, found) =
      is_false (is_some (at number service.samples))
      (λ is.
      let (sample, there) = some_there (at number service.samples) is in
      let (one, mine) = mapped_at _ number (those_of other.0 held) sample (sym (ap (at number) stands.samples.same) ∙ there) in
      off (ap (λ (one : ℕ × Taken). one.0)
      (same_some (other.0, one) (domain, taken) (sym (goes_by other.0 number one held samples mine) ∙ found))))

  pub has_none : (factories : List (ℕ × Factory)) (asked : Command T) → NamesOf domain (names domain) lent held asked
      → has_named factories asked service ≡ false
  has_none factories command.Node named = absurd named
  has_none factories (command.Create node name options attributes steps) named = absurd named
  has_none factories (command.Open node name options required steps) named = absurd named
  has_none factories (command.OpenOrCreate node name options required steps) named = absurd named
  has_none factories (command.Foreign pattern name steps) named = absurd named
  has_none factories (command.Close factory) named = absurd named
  has_none factories (command.Publisher factory options) named = absurd named
  has_none factories (command.Subscriber factory options) named = absurd named
  has_none factories (command.Loan publisher count) named = no_publisher publisher named
  has_none factories (command.LoanUninit publisher count) named = no_publisher publisher named
  has_none factories (command.Set loan place value) named = no_loan loan named
  has_none factories (command.Fill loan values) named = no_loan loan named
  has_none factories (command.Drop loan) named = no_loan loan named
  has_none factories (command.Send loan) named = no_loan loan named
  has_none factories (command.Put publisher values) named = no_publisher publisher named
  has_none factories (command.Retry publisher nanoseconds) named = no_publisher publisher named
  has_none factories (command.GiveUp publisher) named = no_publisher publisher named
  has_none factories (command.Receive subscriber) named = no_subscriber subscriber named
  has_none factories (command.Read sample) named = no_sample sample named
  has_none factories (command.Sequence sample) named = no_sample sample named
  has_none factories (command.Release sample) named = no_sample sample named
  has_none factories (command.Update (port.Publisher publisher)) named = no_publisher publisher named
  has_none factories (command.Update (port.Subscriber subscriber)) named = no_subscriber subscriber named
  has_none factories (command.Leave (port.Publisher publisher)) named = no_publisher publisher named
  has_none factories (command.Leave (port.Subscriber subscriber)) named = no_subscriber subscriber named
  has_none factories (command.Has subscriber) named = no_subscriber subscriber named

on_ports : {T : Type 0} (domain : ℕ) (names : Naming) (lent : List (ℕ × (ℕ × LentSlot))) (held : List (ℕ × (ℕ × Taken)))
    (asked : Command T) → NamesOf domain names lent held asked → is_on_ports asked ≡ true
on_ports domain names lent held command.Node named = absurd named
on_ports domain names lent held (command.Create node name options attributes steps) named = absurd named
on_ports domain names lent held (command.Open node name options required steps) named = absurd named
on_ports domain names lent held (command.OpenOrCreate node name options required steps) named = absurd named
on_ports domain names lent held (command.Foreign pattern name steps) named = absurd named
on_ports domain names lent held (command.Close factory) named = absurd named
on_ports domain names lent held (command.Publisher factory options) named = refl
on_ports domain names lent held (command.Subscriber factory options) named = refl
on_ports domain names lent held (command.Loan publisher count) named = refl
on_ports domain names lent held (command.LoanUninit publisher count) named = refl
on_ports domain names lent held (command.Set loan place value) named = refl
on_ports domain names lent held (command.Fill loan values) named = refl
on_ports domain names lent held (command.Drop loan) named = refl
on_ports domain names lent held (command.Send loan) named = refl
on_ports domain names lent held (command.Put publisher values) named = refl
on_ports domain names lent held (command.Retry publisher nanoseconds) named = refl
on_ports domain names lent held (command.GiveUp publisher) named = refl
on_ports domain names lent held (command.Receive subscriber) named = refl
on_ports domain names lent held (command.Read sample) named = refl
on_ports domain names lent held (command.Sequence sample) named = refl
on_ports domain names lent held (command.Release sample) named = refl
on_ports domain names lent held (command.Update which) named = refl
on_ports domain names lent held (command.Leave which) named = refl
on_ports domain names lent held (command.Has subscriber) named = refl

-- ---- one domain among others

named_then : (domain other : ℕ) (names : ℕ → Naming) (later : Naming) → other ≢ domain → with_name domain later names other ≡ names other
named_then domain other names later off = ⊎_elim
    (λ same. absurd (off same.1)) (λ not. ap (λ (b : Bool). cond b later (names other)) not.0) (eqb_tells other domain)

named_there : (domain : ℕ) (names : ℕ → Naming) (later : Naming) → with_name domain later names domain ≡ later
named_there domain names later = ⊎_elim
    (λ same. ap (λ (b : Bool). cond b later (names domain)) same.0) (λ not. absurd (not.1 refl)) (eqb_tells domain domain)

-- where a domain's ports have the names that they had, all have
names_stay : (of : Naming → ℕ → ℕ) (domain : ℕ) (names : ℕ → Naming) (later : Naming) → of later ≡ of (names domain)
    → ◌≡◌ {A = ℕ → ℕ → ℕ} (λ (one : ℕ). of (with_name domain later names one)) (λ (one : ℕ). of (names one))
names_stay of domain names later same =
    same_everywhere (λ (one : ℕ). of (with_name domain later names one)) (λ (one : ℕ). of (names one))
    (λ one. ⊎_elim
    (λ is. ap (λ (b : Bool). of (cond b later (names one))) is.0 ∙ (same ∙ ap (λ (n : ℕ). of (names n)) (sym is.1)))
    (λ not. ap (λ (b : Bool). of (cond b later (names one))) not.0) (eqb_tells one domain))

module _ (T U : Type 0) (choices : Choices T) (steps_among : StepsAmong choices) (types : MessageTypeDetails) (buffer : ℕ)
    (names : ℕ → Naming) (lent lent_then : List (ℕ × (ℕ × LentSlot))) (held held_then : List (ℕ × (ℕ × Taken)))
    (before behind : List (ℕ × ServicePorts T U)) (domain : ℕ) (old new : ServicePorts T U) (state : State T) (asked : Command T)
    (answer : Reply T) (all : DomainsStandFor names lent held buffer (before ++ (domain, old) ∷ behind) state.services)
    (named : NamesOf domain (names domain) lent held asked) (loans : ChangesAt domain lent lent_then)
    (samples : ChangesAt domain held held_then) where
  -- a domain's own ports match, by some names then
  abbrev Its : Naming → Service T → Type 0
  Its later service = Matches T U choices types buffer asked answer state service later (those_of domain lent_then)
      (those_of domain held_then) new

  abbrev Does : Naming → Type 0
  Does later = (services : List (Service T))
      × Step types choices buffer asked state answer (record state { made = counted answer state.made; services = services })
      × DomainsStandFor (with_name domain later names) lent_then held_then buffer (before ++ (domain, new) ∷ behind) services

  among_there : (first : List (Service T)) (service : Service T) (last : List (Service T)) → state.services ≡ first ++ service ∷ last
      → StandInTurn names lent held buffer before first → StandInTurn names lent held buffer behind last → (later : Naming)
      → later.publisher ≡ (names domain).publisher → later.subscriber ≡ (names domain).subscriber → Its later service → Does later
  among_there first service last are stand_before stand_behind later same_publishers same_subscribers (after, does, stands) =
      let apart = comes_not domain old before behind (all.once domain) in
      let fails : (other : ℕ × ServicePorts T U) (one : Service T) → other.0 ≢ domain
      → StandsFor (names other.0) (those_of other.0 lent) (those_of other.0 held) buffer other.1 one
      → has_named state.factories asked one ≡ false =
      (λ other one off its. has_none names lent held buffer domain all.publishers all.subscribers all.loans all.samples other one off its
      state.factories asked named) in
      let stay = others_stand {T = T} {U = U} names (with_name domain later names) lent lent_then held held_then buffer domain
      (λ other off. named_then domain other names later off) loans.0 samples.0 in (
        first ++ after ∷ last,
        subst (λ (services : List (Service T)). Step types choices buffer asked (record state { services = services }) answer
            (record state { made = counted answer state.made; services = first ++ after ∷ last })) (sym are)
            (steps_among types buffer asked state answer first last service after
            (on_ports domain (names domain) lent held asked named)
            (none_passes names lent held buffer (has_named state.factories asked) domain fails before first apart.0 stand_before)
            (none_passes names lent held buffer (has_named state.factories asked) domain fails behind last apart.1 stand_behind) does),
        record {
          each = joined (with_name domain later names) lent_then held_then buffer before behind (domain, new) first after last
              (stay before first apart.0 stand_before)
              (subst (λ (n : Naming). StandsFor n (those_of domain lent_then) (those_of domain held_then) buffer new after)
              (sym (named_there domain names later)) stands)
              (stay behind last apart.1 stand_behind);
          once = λ number. subst (λ (keys : List ℕ). how_often number keys ≤ 1) (sym (same_keys domain old new before behind))
              (all.once number);
          loans = loans.1;
          samples = samples.1;
          publishers = subst AreNamedApart (sym (names_stay (λ (n : Naming). n.publisher) domain names later same_publishers))
              all.publishers;
          subscribers = subst AreNamedApart (sym (names_stay (λ (n : Naming). n.subscriber) domain names later same_subscribers))
              all.subscribers;
        },
      )

  -- What a domain's own ports match may have other names at its service: its ports keep theirs.
  pub among_others_named : ((first : List (Service T)) (service : Service T) (last : List (Service T))
      → state.services ≡ first ++ service ∷ last
      → StandsFor (names domain) (those_of domain lent) (those_of domain held) buffer old service
      → (later : Naming) × (later.publisher ≡ (names domain).publisher) × (later.subscriber ≡ (names domain).subscriber)
      × Its later service)
      → (later : Naming) × (later.publisher ≡ (names domain).publisher) × (later.subscriber ≡ (names domain).subscriber) × Does later
  among_others_named matches =
      let (first, service, last, are, stand_before, it, stand_behind) =
      parted names lent held buffer before behind (domain, old) state.services all.each in
      let (later, same_publishers, same_subscribers, its) = matches first service last are it in (
        later,
        same_publishers,
        same_subscribers,
        among_there first service last are stand_before stand_behind later same_publishers same_subscribers its,
      )

pub among_others : (T U : Type 0) (choices : Choices T) → StepsAmong choices → AmongOthersMatches T U choices
among_others T U choices steps_among types buffer names lent lent_then held held_then before behind domain old new state asked answer
    later all named same_publishers same_subscribers loans samples matches =
    let (first, service, last, are, stand_before, it, stand_behind) =
    parted names lent held buffer before behind (domain, old) state.services all.each in
    among_there T U choices steps_among types buffer names lent lent_then held held_then before behind domain old new state asked answer
    all named loans samples first service last are stand_before stand_behind later same_publishers same_subscribers
    (matches first service last are it)
