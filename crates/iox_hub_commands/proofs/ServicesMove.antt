-- What the commands on services do to the domains of a hub: one comes without ports, or goes.
use Rattle.std.proofs.Common.{◌≡◌, ◌∙◌, ◌==◌, ℕ, Bool, true, false, cond, List, [], ◌∷◌, Option, None, Result, Ok, inl, inr, refl, sym}
use Rattle.std.proofs.Common.{ap, Some}
use Rattle.std.proofs.lemmas.Bool.{eqb-true}
use Rattle.std.specs.BTreeMap.{is_at}
use Rattle.std.specs.Map.{remove_entry}
use Rattle.std.specs.Ordering.{nat_cmp}
use Rattle.iox_command.specs.declared.refusal.HubError.{HubError}
use Rattle.iox_command.specs.declared.refusal.Refusal.{Refusal}
use Rattle.iox_command.specs.declared.step.ForeignStep.{ForeignStep as Named}
use Rattle.iox_command.specs.declared.step.StepBefore.{StepBefore}
use Rattle.iox_delivery.specs.DescribeBase.Attributes.{Required}
use Rattle.iox_delivery.specs.DescribeBase.Detail.{Detail}
use Rattle.iox_delivery.specs.DescribeBase.declared.attribute.Attribute.{Attribute}
use Rattle.iox_delivery.specs.DescribeBase.declared.message_type.MessageTypeDetails.{MessageTypeDetails}
use Rattle.iox_delivery.specs.DescribeBase.declared.pattern.MessagingPattern.{MessagingPattern}
use Rattle.iox_delivery.specs.DescribeSettings.declared.static_config.Settings.{Settings}
use Rattle.iox_delivery.specs.Domain.declared.domain_id.DomainId.{DomainId}
use Rattle.iox_hub_base.specs.declared.hub.Hub.{Hub}
use Rattle.iox_hub_base.specs.ServicesAsHome.{domain_at}
use Rattle.iox_hub_base.specs.Numbered.{is_number, not_number, others_beside}
use Rattle.iox_hub_base.specs.Open.{OpenServices, here_if, presence_of, domain_of}
use Rattle.iox_hub_base.specs.ServicesOpening.{Opens, without_service}
use Rattle.iox_hub_base.specs.declared.presence.Presence.{Presence}
use Rattle.iox_hub_base.specs.declared.presence.Presence.TheVariants.{Here}
use Rattle.iox_hub_commands.specs.Closing.{ClosesNumbered}
use Rattle.iox_hub_commands.specs.Creating.{CreatesNumbered}
use Rattle.iox_hub_commands.specs.Either.{EitherNumbered}
use Rattle.iox_hub_commands.specs.Foreign.{ActsNamed}
use Rattle.iox_hub_commands.specs.Opening.{OpensNumbered}
use Rattle.iox_hub_commands.specs.ServicesTables.{FactoryTable}
use Rattle.iox_hub_commands.specs.declared.services.asked.ServiceAsked.{ServiceAsked}
use Rattle.iox_hub_commands.specs.declared.services.made.MadeFactory.{MadeFactory}
use Rattle.iox_negotiate.specs.NegotiateBase.declared.errors.close.CloseError.{CloseError}
use Rattle.iox_hub_commands.specs.Grown.{HaveGrown}
use Rattle.iox_hub_commands.proofs.Grown.{Serves, leads_nowhere, grown_come, grown_gone}
use Rattle.iox_hub_commands.proofs.ServicesGo.{create_go, open_go, either_go, close_go, foreign_go}

module _ {T U B D : Type 0} where
  opened_apart : (number hub : ℕ) (other : DomainId) (old new : OpenServices T U B D) (is : Bool) → (other.hub == hub) ≡ is
      → (record { hub = hub; service = number } ≡ other → ⊥)
      → ((other : ℕ) → (number ≡ other → ⊥) → presence_of other new.domains ≡ presence_of other old.domains)
      → cond is (domain_of other.service new.domains) None ≡ cond is (domain_of other.service old.domains) None
  opened_apart number hub other old new true is apart stay =
      ap here_if (stay other.service (λ same. apart
      (ap (λ h. record { hub = h; service = number }) (sym (eqb-true other.hub hub is)) ∙ ap
      (λ n. record { hub = other.hub; service = n }) same)))
  opened_apart number hub other old new false is apart stay = refl

  -- what stands under all other numbers stays, and so do all other domains
  others_apart : (number : ℕ) (old new : OpenServices T U B D) → new.hub ≡ old.hub
      → ((other : ℕ) → (number ≡ other → ⊥) → presence_of other new.domains ≡ presence_of other old.domains)
      → (other : DomainId) → (record { hub = old.hub; service = number } ≡ other → ⊥) → domain_at other new ≡ domain_at other old
  others_apart number old new same stay other apart =
      ap (λ hub. cond (other.hub == hub) (domain_of other.service new.domains) None) same ∙ opened_apart number old.hub other old new
      (other.hub == old.hub) refl apart stay

  opens_move : (payload user_header : Detail) (buffer number : ℕ) (settings : Settings) (old new : OpenServices T U B D)
      → Opens payload user_header buffer number settings old (Ok tt) new
      → ((other : DomainId) → (record { hub = old.hub; service = number } ≡ other → ⊥) → domain_at other new ≡ domain_at other old)
      × (HaveGrown old.domains → HaveGrown new.domains)
  opens_move payload user_header buffer number settings old new (inl (why, same))
      = (λ other apart. ap (domain_at other) same, λ grown. rw same grown)
  opens_move payload user_header buffer number settings old new (inr (closed, fits, (domain, is_new, is))) = (
    others_apart number old new (ap (λ services. services.hub) is)
        (λ other apart. ap (λ services. presence_of other services.domains) is ∙ others_beside number other old.domains (Here domain)
        apart),
    λ grown. rw is (grown_come number old.domains (Here domain) grown (buffer, rw is_new.ports (leads_nowhere _))),
  )

  left_here : (number other key : ℕ) (x : Presence T U B D) (rest left : List (ℕ × Presence T U B D)) (is : Bool)
      → is_at (nat_cmp number) key ≡ is → (number ≡ other → ⊥) → presence_of other left ≡ presence_of other rest
      → presence_of other (cond is rest ((key, x) ∷ left)) ≡ presence_of other ((key, x) ∷ rest)
  left_here number other key x rest left true is apart later =
      let off : is_at (nat_cmp other) key ≡ false = not_number other key (λ same. apart (is_number number key is ∙ sym same)) in
      rw off refl
  left_here number other key x rest left false is apart later = ap (cond (is_at (nat_cmp other) key) (Some x)) later

  -- what stands under another number than the one that goes
  others_left : (number other : ℕ) (domains : List (ℕ × Presence T U B D)) → (number ≡ other → ⊥)
      → presence_of other (remove_entry (is_at (nat_cmp number)) domains) ≡ presence_of other domains
  others_left number other [] apart = refl
  others_left number other (service ∷ services) apart =
      left_here number other service.0 service.1 services (remove_entry (is_at (nat_cmp number)) services)
      (is_at (nat_cmp number) service.0) refl apart (others_left number other services apart)

  -- one domain at most comes or goes
  abbrev pub ServesIn : OpenServices T U B D → OpenServices T U B D → Type 0
  ServesIn old new = (id : DomainId) ×
      (((other : DomainId) → (id ≡ other → ⊥) → domain_at other new ≡ domain_at other old)
      × (HaveGrown old.domains → HaveGrown new.domains))

  still_serves : (old new : OpenServices T U B D) → new ≡ old → ServesIn old new
  still_serves old new is = (record { hub = 0; service = 0 }, (λ other apart. ap (domain_at other) is, λ grown. rw is grown))

  opened_serves : (payload user_header : Detail) (buffer number : ℕ) (settings : Settings) (old new : OpenServices T U B D)
      → Opens payload user_header buffer number settings old (Ok tt) new → ServesIn old new
  opened_serves payload user_header buffer number settings old new opens
      = (record { hub = old.hub; service = number }, opens_move payload user_header buffer number settings old new opens)

  gone_serves : (number : ℕ) (old : OpenServices T U B D) → ServesIn old (without_service number old)
  gone_serves number old = (
    record { hub = old.hub; service = number },
    (
      others_apart number old (without_service number old) refl (λ other apart. others_left number other old.domains apart),
      grown_gone
          number old.domains,
    ),
  )

  pub create_moves : (is_node : Bool) (payload user_header : Detail) (types : MessageTypeDetails) (asked : ServiceAsked)
      (attributes : List Attribute) (steps : List StepBefore) (table after : FactoryTable) (old new : Hub T U B D)
      (answer : Option (Result ℕ Refusal))
      → CreatesNumbered is_node payload user_header types asked attributes steps table old answer after new → Serves old new
  create_moves = create_go ServesIn still_serves opened_serves gone_serves

  pub open_moves : (is_node : Bool) (payload user_header : Detail) (types : MessageTypeDetails) (asked : ServiceAsked)
      (attributes : Required) (steps : List StepBefore) (table after : FactoryTable) (old new : Hub T U B D)
      (answer : Option (Result ℕ Refusal))
      → OpensNumbered is_node payload user_header types asked attributes steps table old answer after new → Serves old new
  open_moves = open_go ServesIn still_serves opened_serves gone_serves

  pub either_moves : (is_node : Bool) (payload user_header : Detail) (types : MessageTypeDetails) (asked : ServiceAsked)
      (attributes : Required) (steps : List StepBefore) (table after : FactoryTable) (old new : Hub T U B D)
      (answer : Option (Result ℕ Refusal))
      → EitherNumbered is_node payload user_header types asked attributes steps table old answer after new → Serves old new
  either_moves = either_go ServesIn still_serves opened_serves gone_serves

  pub close_moves : (number : ℕ) (found : Option MadeFactory) (table after : FactoryTable) (old new : Hub T U B D)
      (answer : Option (Result (Unit {0}) CloseError)) → ClosesNumbered number found table old answer after new → Serves old new
  close_moves = close_go ServesIn still_serves opened_serves gone_serves

  pub foreign_moves : (pattern : MessagingPattern) (name : List ℕ) (types : MessageTypeDetails) (steps : List Named)
      (old new : Hub T U B D) (answer : Result (Unit {0}) HubError) → ActsNamed pattern name types steps old answer new → Serves old new
  foreign_moves = foreign_go ServesIn still_serves opened_serves gone_serves
