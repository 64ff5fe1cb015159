-- A publish-subscribe service is open in a hub just if a machine has it.
use Rattle.std.proofs.Common.{◌≡◌, ℕ, Bool, true, false, cond, ◌||◌, List, [], ◌∷◌, Some, is_some, refl, sym, ap, subst, ◌∙◌}
use Rattle.std.proofs.Math.Logic.{⊎_elim}
use Rattle.std.specs.List.{IsAmong, list_any}
use Rattle.std.proofs.lemmas.Bool.Decides.{eqb_tells}
use Rattle.iox_command.specs.NegotiateBase.Describe.Line.{line}
use Rattle.iox_command.specs.NegotiateBase.DescribeBase.Hash.{service_hash_of}
use Rattle.iox_command.specs.NegotiateBase.DescribeBase.declared.pattern.MessagingPattern.{MessagingPattern}
use Rattle.iox_command.specs.NegotiateBase.DescribeBase.declared.pattern.MessagingPattern.TheVariants.{PublishSubscribe}
use Rattle.iox_command.specs.NegotiateBase.declared.request.Opened.{Opened}
use Rattle.iox_container.specs.NumberTable.{value_at}
use Rattle.iox_domain.specs.declared.ports.service_ports.ServicePorts.{ServicePorts}
use Rattle.iox_domain_machine.proofs.Found.{at_behind, at_head, never_true}
use Rattle.iox_hub_base.specs.Open.{OpenServices, presence_of}
use Rattle.iox_hub_base.specs.ServicesOpening.{is_open}
use Rattle.iox_hub_base.specs.declared.presence.Presence.{Presence}
use Rattle.iox_hub_base.specs.declared.presence.Presence.TheVariants.{Here, Out}
use Rattle.iox_hub_commands.specs.AgreementLaws.{carried_by, service_of}
use Rattle.iox_hub_commands.specs.ServicesTables.{FactoryTable, parts_of, pattern_in}
use Rattle.iox_hub_commands.specs.declared.services.made.MadeFactory.{MadeFactory}
use Rattle.iox_hub_machine.specs.Ports.{AreHere, ports_here}
use Rattle.iox_hub_machine.specs.Services.{AreServedInTurn, FactoryStands, IsServedBy}
use Rattle.iox_machine.specs.Phase.{Phase, Published}
use Rattle.iox_machine.specs.Service.{Service}
use Rattle.iox_machine.specs.State.{State}
use Rattle.std.specs.Prelude.{bytes_eq, ◌==◌}
use Rattle.iox_machine.specs.Table.{at}
use Rattle.iox_negotiate.proofs.Lives.{one-life}
use Rattle.iox_negotiate_machine.proofs.Acted.{name-is}
use Rattle.iox_negotiate_machine.proofs.Acting.{name-itself}
use Rattle.iox_negotiate_machine.proofs.Seats.{same-bool, tested}
use Rattle.iox_negotiate_machine.specs.CallLaws.{IsServiceIn}
use Rattle.iox_negotiate_machine.specs.Laws.{HaveOwnHashes}
use Rattle.iox_negotiate_machine.specs.Standing.{IsLast, PhaseStands, TableStands, description_of}
use Rattle.iox_negotiate_table.specs.Contents.{Contents, entry_at}
use Rattle.iox_negotiate_table.specs.declared.entry.Entry.TheVariants.{Described}

-- two numbers that were taken last are one
pub one_last : (one other : ℕ) (numbers : List ℕ) → IsLast (λ number. one ≡ number) numbers → IsLast (λ number. other ≡ number) numbers
    → one ≡ other
one_last one other [] is same = absurd is
one_last one other (number ∷ before) is same = is ∙ sym same

-- what is opened in a phase is described in the table
described_so : (pattern : MessagingPattern) (name : List ℕ) (table : Contents) (node : ℕ) (opened : Opened) (phase : Phase)
    (numbers : List ℕ) → PhaseStands pattern name table numbers phase → IsServiceIn node pattern name phase numbers opened
    → (bytes : List ℕ) × (entry_at (service_hash_of pattern name) table ≡ Some (Described opened.number bytes))
described_so pattern name table node opened (Published life agreed nodes) [] stands is = absurd stands.lies
described_so pattern name table node opened (Published life agreed nodes) (number ∷ before) stands is = (
  line stands.lies.0.version (description_of pattern name agreed),
  stands.lies.0.described ∙ ap (λ (n : ℕ). Some (Described n (line stands.lies.0.version (description_of pattern name agreed)))) (sym is.1),
)
described_so pattern name table node opened phase numbers stands is = absurd is

module _ {T U B D : Type 0} where
  here_there : (number key : ℕ) (presence : Presence T U B D) (services : List (ℕ × Presence T U B D)) (b : Bool)
      → (key == number) ≡ b → AreHere ((key, presence) ∷ services)
      → (is_some (presence_of number services) ≡ true → is_some (at number (ports_here services)) ≡ true)
      → is_some (cond b (Some presence) (presence_of number services)) ≡ true
      → is_some (at number (ports_here ((key, presence) ∷ services))) ≡ true
  here_there number key (Here domain) services true is here later found =
      ap is_some (at_head number (key, domain.state.ports) (ports_here services) is)
  here_there number key (Here domain) services false is here later found =
      ap is_some (at_behind number (key, domain.state.ports) (ports_here services) is) ∙ later found
  here_there number key (Out agreed) services b is here later found = never_true here.0

  -- the ports of an open service go by its number
  open_here : (number : ℕ) (services : List (ℕ × Presence T U B D)) → AreHere services → is_some (presence_of number services) ≡ true
      → is_some (at number (ports_here services)) ≡ true
  open_here number [] here found = never_true found
  open_here number ((key, presence) ∷ services) here found =
      here_there number key presence services (key == number) refl here (open_here number services here.1)
      (sym (ap (λ (b : Bool). is_some (cond b (Some presence) (presence_of number services))) (tested number key)) ∙ found)

  module _ (table : FactoryTable) (open_ones : OpenServices T U B D) (name : List ℕ) where
    -- what goes by a number serves some service
    served_by : (number : ℕ) (order : List (ℕ × ServicePorts T U)) (services : List (Service T))
        → AreServedInTurn table open_ones order services → is_some (at number order) ≡ true
        → ((service : Service T) → IsServedBy table open_ones number service → bytes_eq service.name name ≡ true)
        → list_any (λ (service : Service T). bytes_eq service.name name) services ≡ true
    served_by number [] services served found so = never_true found
    served_by number (domain ∷ order) [] served found so = absurd served
    served_by number (domain ∷ order) (service ∷ services) (one, rest) found so = ⊎_elim
        (λ same. ap (λ (b : Bool). b || list_any (λ (other : Service T). bytes_eq other.name name) services)
        (so service (subst (λ (n : ℕ). IsServedBy table open_ones n service) same.1 one)))
        (λ off. second (bytes_eq service.name name)
        (served_by number order services rest (sym (ap is_some (at_behind number domain order off.0)) ∙ found) so))
        (eqb_tells domain.0 number)
      where
        second : (b : Bool) → list_any (λ (other : Service T). bytes_eq other.name name) services ≡ true
            → (b || list_any (λ (other : Service T). bytes_eq other.name name) services) ≡ true
        second true is = refl
        second false is = is

    -- a service of this name is served by some domain
    served_named : (order : List (ℕ × ServicePorts T U)) (services : List (Service T))
        → AreServedInTurn table open_ones order services
        → list_any (λ (service : Service T). bytes_eq service.name name) services ≡ true
        → (number : ℕ) × (service : Service T) × IsServedBy table open_ones number service × (bytes_eq service.name name ≡ true)
    served_named [] services served some =
        never_true (sym (ap (list_any (λ (service : Service T). bytes_eq service.name name)) served) ∙ some)
    served_named (domain ∷ order) [] served some = absurd served
    served_named (domain ∷ order) (service ∷ services) (one, rest) some =
        here (bytes_eq service.name name) refl some (λ any. served_named order services rest any)
      where
        here : (b : Bool) → bytes_eq service.name name ≡ b
            → (b || list_any (λ (other : Service T). bytes_eq other.name name) services) ≡ true
            → (list_any (λ (other : Service T). bytes_eq other.name name) services ≡ true
            → (number : ℕ) × (other : Service T) × IsServedBy table open_ones number other × (bytes_eq other.name name ≡ true))
            → (number : ℕ) × (other : Service T) × IsServedBy table open_ones number other × (bytes_eq other.name name ≡ true)
        here true is any later = (domain.0, service, one, is)
        here false is any later = later any

  module _ (names : List (List ℕ)) (own : HaveOwnHashes names) (pattern : MessagingPattern) (kind : pattern ≡ PublishSubscribe)
      (name : List ℕ) (asked : IsAmong names name) (since : MessagingPattern → List ℕ → List ℕ) (table : Contents) (state : State T)
      (stands : TableStands names since table state) (node : ℕ) (opened : Opened)
      (serves : IsServiceIn node pattern name (state.phases pattern name) (since pattern name) opened)
      (factories : FactoryTable) (open_ones : OpenServices T U B D)
      (each : (number : ℕ) (made : MadeFactory) → value_at factories number ≡ Some made → FactoryStands names since table state number made)
    where
      -- a factory of the service of this number is of this name
      named_so : (number : ℕ) (made : MadeFactory) → value_at factories number ≡ Some made → service_of made ≡ opened.number
          → (carried_by made).name ≡ name
      named_so number made found same =
          let it = each number made found in
          let one = described_so (pattern_in made) (carried_by made).name table (parts_of made).0.node (parts_of made).0.service
          (state.phases (pattern_in made) (carried_by made).name) (since (pattern_in made) (carried_by made).name)
          (stands.phases (pattern_in made) (carried_by made).name it.asked) it.serves in
          let other = described_so pattern name table node opened (state.phases pattern name) (since pattern name)
          (stands.phases pattern name asked) serves in
          (own (pattern_in made) pattern (carried_by made).name name it.asked asked
          (one-life table table [] (service_hash_of pattern name) (service_hash_of (pattern_in made) (carried_by made).name)
          (Described opened.number other.0) (Described (service_of made) one.0) stands.reached refl other.1 one.1 same).0).1

      -- a publish-subscribe factory of this name is of the service of this number
      numbered_so : (number : ℕ) (made : MadeFactory) → value_at factories number ≡ Some made → pattern_in made ≡ PublishSubscribe
          → (carried_by made).name ≡ name → service_of made ≡ opened.number
      numbered_so number made found is same =
          one_last (service_of made) opened.number (since pattern name) (last_of made (each number made found).serves is same)
          (last_in (state.phases pattern name) serves)
        where
          last_in : (phase : Phase) → IsServiceIn node pattern name phase (since pattern name) opened
              → IsLast (λ one. opened.number ≡ one) (since pattern name)
          last_in (Published life agreed nodes) so = so.1
          last_in phase so = absurd so

          last_at : (by : ℕ) (one : MessagingPattern) (other : List ℕ) (service : Opened) (phase : Phase)
              → IsServiceIn by one other phase (since one other) service → IsLast (λ n. service.number ≡ n) (since one other)
          last_at by one other service (Published life agreed nodes) so = so.1
          last_at by one other service phase so = absurd so

          last_of : (one : MadeFactory)
              → IsServiceIn (parts_of one).0.node (pattern_in one) (carried_by one).name
              (state.phases (pattern_in one) (carried_by one).name) (since (pattern_in one) (carried_by one).name) (parts_of one).0.service
              → pattern_in one ≡ PublishSubscribe → (carried_by one).name ≡ name
              → IsLast (λ n. service_of one ≡ n) (since pattern name)
          last_of one so its named =
              subst (λ (p : MessagingPattern). IsLast (λ n. service_of one ≡ n) (since p name)) (its ∙ sym kind)
              (subst (λ (n : List ℕ). IsLast (λ k. service_of one ≡ k) (since (pattern_in one) n)) named
              (last_at (parts_of one).0.node (pattern_in one) (carried_by one).name (parts_of one).0.service
              (state.phases (pattern_in one) (carried_by one).name) so))

      module _ (order : List (ℕ × ServicePorts T U)) (services : List (Service T))
          (served : AreServedInTurn factories open_ones order services) (here : AreHere open_ones.domains)
          (same : (number : ℕ) → at number order ≡ at number (ports_here open_ones.domains))
          (all_open : (number : ℕ) (made : MadeFactory) → value_at factories number ≡ Some made → pattern_in made ≡ PublishSubscribe
          → is_open (service_of made) open_ones ≡ true) where
        -- the service is open in the hub just if the machine has one of its name
        pub open_so : is_open opened.number open_ones ≡ list_any (λ (service : Service T). bytes_eq service.name name) services
        open_so = same-bool _ _
            (λ is. served_by factories open_ones name opened.number order services served
            (ap is_some (same opened.number) ∙ open_here opened.number open_ones.domains here is)
            (λ service one. ap (λ (n : List ℕ). bytes_eq n name) (one.name ∙ named_so one.factory one.made one.found one.number_is)
            ∙ name-itself name))
            (λ some. let (number, service, one, is) = served_named factories open_ones name order services served some in
            subst (λ (n : ℕ). is_open n open_ones ≡ true)
            (numbered_so one.factory one.made one.found one.pattern (sym one.name ∙ name-is service.name name is))
            (all_open one.factory one.made one.found one.pattern))
