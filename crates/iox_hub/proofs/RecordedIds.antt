-- No call of a hub changes what tells it apart.
use Rattle.std.proofs.Common.{◌≡◌, ◌∙◌, ℕ, Bool, true, false, List, [], length, Option, None, Some, Result, Ok, Err, ap, inl, inr, refl}
use Rattle.iox_command.specs.NegotiateBase.declared.errors.close.CloseError.{CloseError}
use Rattle.iox_command.specs.declared.refusal.HubError.{HubError}
use Rattle.iox_command.specs.declared.service.PublishSubscribeOptions.{PublishSubscribeOptions}
use Rattle.iox_command.specs.declared.service.ServiceOptions.TheVariants as options
use Rattle.iox_command.specs.declared.step.ForeignStep.{ForeignStep}
use Rattle.iox_delivery.specs.Publishing.{RetriesSend, changed_at}
use Rattle.iox_delivery.specs.Slices.{LendsDefaults, SendsSlice}
use Rattle.iox_delivery.specs.Subscribing.{DropsAt, ReceivesSample}
use Rattle.iox_delivery.specs.declared.kind.Slice.{Slice}
use Rattle.iox_delivery.specs.declared.loan.Loan.{Loan as Lent}
use Rattle.iox_delivery.specs.declared.loan.Written.{Written}
use Rattle.iox_delivery.specs.declared.port_id.PortId.{PortId}
use Rattle.iox_delivery.specs.declared.sample.Sample.{Sample}
use Rattle.iox_delivery.specs.declared.sent.Sent.{Sent}
use Rattle.iox_domain.specs.AtHomes.{AtDomain, LeavesDomain, MakesAt}
use Rattle.iox_domain.specs.DomainPorts.declared.attached.Taken.{Taken}
use Rattle.iox_domain.specs.Steps.{LoansBy, ReceivesBy, RetriesBy, SendsBy}
use Rattle.iox_domain.specs.declared.domain_id.DomainId.{DomainId}
use Rattle.iox_domain.specs.declared.ports.service_ports.ServicePorts.{ServicePorts}
use Rattle.iox_hub_base.proofs.SameTable.{acts-keep, sights-keep, went-keeps}
use Rattle.iox_hub_base.specs.AsHome.{hub_ports, with_hub_ports}
use Rattle.iox_hub_base.specs.Closing.{ClosesIf}
use Rattle.iox_hub_base.specs.DescribeBase.Hash.{service_hash_of}
use Rattle.iox_hub_base.specs.Opening.{Enters, Made as Opened, Settles}
use Rattle.iox_hub_base.specs.declared.hub.Hub.{Hub}
use Rattle.iox_hub_commands.specs.CommandSteps.{publisher_may_decide, publisher_may_degrade, subscriber_may_degrade}
use Rattle.iox_hub_commands.specs.Creating.{CreatesAs}
use Rattle.iox_hub_commands.specs.DescribeBase.Attributes.{Required}
use Rattle.iox_hub_commands.specs.DescribeBase.Detail.{Detail}
use Rattle.iox_hub_commands.specs.DescribeBase.declared.attribute.Attribute.{Attribute}
use Rattle.iox_hub_commands.specs.DescribeBase.declared.message_type.MessageTypeDetails.{MessageTypeDetails}
use Rattle.iox_hub_commands.specs.DescribeBase.declared.pattern.MessagingPattern.{MessagingPattern}
use Rattle.iox_hub_commands.specs.DomainValues.declared.backpressure.BackpressureDecision.{BackpressureDecision}
use Rattle.iox_hub_commands.specs.DomainValues.declared.backpressure.BackpressureInfo.{BackpressureInfo}
use Rattle.iox_hub_commands.specs.DomainValues.declared.degradation.DegradationAction.{DegradationAction}
use Rattle.iox_hub_commands.specs.DomainValues.declared.degradation.DegradationCause.{DegradationCause}
use Rattle.iox_hub_commands.specs.DomainValues.declared.degradation.DegradationInfo.{DegradationInfo}
use Rattle.iox_hub_commands.specs.DomainValues.declared.port_error.LoanError.{LoanError}
use Rattle.iox_hub_commands.specs.DomainValues.declared.port_error.ReceiveError.{ReceiveError}
use Rattle.iox_hub_commands.specs.DomainValues.declared.port_error.SendError.{SendError}
use Rattle.iox_hub_commands.specs.Either.{EitherAs}
use Rattle.iox_hub_commands.specs.Foreign.{ActsNamed}
use Rattle.iox_hub_commands.specs.Opening.{OpensAs}
use Rattle.iox_hub_commands.specs.Steps.{list_of}
use Rattle.iox_command.specs.declared.refusal.Refusal.{Refusal}
use Rattle.iox_hub_commands.specs.ServicesTables.{FactoryTable}
use Rattle.iox_negotiate.specs.declared.factory.Membership.{Membership}

module _ {T U B D : Type 0} where
  same_id : {old new : Hub T U B D} → new ≡ old → new.table.id ≡ old.table.id
  same_id is = ap (λ hub. hub.table.id) is

  -- a call at a domain
  pub at_keeps : {A : Type 0} (domain : DomainId) (step : ServicePorts T U → Option A → ServicePorts T U → Type 0)
      (found : Option (ServicePorts T U)) (old new : Hub T U B D) (answer : Option A)
      → AtDomain (λ after. with_hub_ports domain after old) step found old answer new → new.table.id ≡ old.table.id
  at_keeps domain step None old new answer (none, is) = same_id is
  at_keeps domain step (Some ports) old new answer (after, did, is) = ap (λ hub. hub.table.id) is

  pub changed_keeps : (domain : DomainId) (change : ServicePorts T U → ServicePorts T U) (found : Option (ServicePorts T U))
      (old : Hub T U B D)
      → (changed_at (λ after. with_hub_ports domain after old) change found old).table.id ≡ old.table.id
  changed_keeps domain change None old = refl
  changed_keeps domain change (Some ports) old = refl

  -- a port that leaves, and who decided for it
  pub leaves_keeps : (domain : DomainId) (without : Hub T U B D → Hub T U B D)
      → ((hub : Hub T U B D) → (without hub).table.id ≡ hub.table.id) → (step : ServicePorts T U → Bool → ServicePorts T U → Type 0)
      (found : Option (ServicePorts T U)) (old new : Hub T U B D) (left : Bool)
      → LeavesDomain (λ after. with_hub_ports domain after old) without step found old left new → new.table.id ≡ old.table.id
  leaves_keeps domain without same step None old new left (none, is) = same_id is
  leaves_keeps domain without same step (Some ports) old new true (after, did, is) = ap (λ hub. hub.table.id) is
      ∙ same (with_hub_ports domain after old)
  leaves_keeps domain without same step (Some ports) old new false (after, did, is) = ap (λ hub. hub.table.id) is

  -- a port that comes, and who decides for it
  pub makes_keeps : {E : Type 0} (domain : DomainId) (keeping : ℕ → Hub T U B D → Hub T U B D)
      → ((number : ℕ) (hub : Hub T U B D) → (keeping number hub).table.id ≡ hub.table.id)
      → (step : ServicePorts T U → ℕ → ServicePorts T U → Type 0) (why : ServicePorts T U → E) (found : Option (ServicePorts T U))
      (old new : Hub T U B D) (answer : Option (Result ℕ E))
      → MakesAt (λ after. with_hub_ports domain after old) keeping step why found old answer new → new.table.id ≡ old.table.id
  makes_keeps domain keeping same step why None old new answer (none, is) = same_id is
  makes_keeps domain keeping same step why (Some ports) old new None makes = absurd makes
  makes_keeps domain keeping same step why (Some ports) old new (Some (Ok number)) (after, did, is) =
      ap (λ hub. hub.table.id) is ∙ same number (with_hub_ports domain after old)
  makes_keeps domain keeping same step why (Some ports) old new (Some (Err error)) (none, is) = same_id is

  pub drops_keeps : (domain : DomainId) (number : ℕ) (taken : Taken) (found : Option (ServicePorts T U)) (old new : Hub T U B D)
      (released : Bool) → DropsAt (λ after. with_hub_ports domain after old) number taken found old released new
      → new.table.id ≡ old.table.id
  drops_keeps domain number taken None old new released (none, is) = same_id is
  drops_keeps domain number taken (Some ports) old new released (after, did, is) = ap (λ hub. hub.table.id) is

  -- values that are lent, written and sent
  pub slice_keeps : (degrades : B → DegradationCause → DegradationInfo → DegradationAction → Type 0)
      (decides : B → BackpressureInfo → BackpressureDecision → Type 0) (port : PortId) (values : List T) (old new : Hub T U B D)
      (answer : Result (Sent T U) SendError)
      → SendsSlice hub_ports with_hub_ports (publisher_may_degrade degrades) (publisher_may_decide decides) port values old answer new
      → new.table.id ≡ old.table.id
  slice_keeps degrades decides port values old new answer (Ok slot, middle, lends, (later, writes, (outcome, sends, is))) =
      at_keeps port.domain (SendsBy (publisher_may_degrade degrades port.domain port.number later)
      (publisher_may_decide decides port.domain port.number later) port.number slot) (hub_ports port.domain later) later new (Some outcome)
      sends
      ∙ (ap (λ hub. hub.table.id) writes ∙ (changed_keeps port.domain _ (hub_ports port.domain middle) middle
      ∙ at_keeps port.domain (LoansBy port.number (length values) (length values)) (hub_ports port.domain old) old middle
      (Some (Ok slot)) lends))
  slice_keeps degrades decides port values old new answer (Err why, middle, lends, (is, same)) =
      same_id same ∙ at_keeps port.domain (LoansBy port.number (length values) (length values)) (hub_ports port.domain old) old middle
      (Some (Err why)) lends

  -- defaults that are lent
  pub defaults_keep : (is_default : T → Type 0) (port : PortId) (len : ℕ) (old new : Hub T U B D)
      (answer : Result (Lent T U Slice Written) LoanError)
      → LendsDefaults hub_ports with_hub_ports is_default port len old answer new → new.table.id ≡ old.table.id
  defaults_keep is_default port len old new answer (value, default, lent, (Ok slot, middle, lends, ((writes, has), told)), is) =
      ap (λ hub. hub.table.id) writes ∙ (changed_keeps port.domain _ (hub_ports port.domain middle) middle
      ∙ at_keeps port.domain (LoansBy port.number len len) (hub_ports port.domain old) old middle (Some (Ok slot)) lends)
  defaults_keep is_default port len old new answer (value, default, lent, (Err why, middle, lends, (told, same)), is) =
      same_id same ∙ at_keeps port.domain (LoansBy port.number len len) (hub_ports port.domain old) old middle (Some (Err why)) lends

  pub retry_keeps : (decides : B → BackpressureInfo → BackpressureDecision → Type 0) (port : PortId) (elapsed : ℕ) (old new : Hub T U B D)
      (answer : Result (Sent T U) SendError)
      → RetriesSend hub_ports with_hub_ports (publisher_may_decide decides) port elapsed old answer new → new.table.id ≡ old.table.id
  retry_keeps decides port elapsed old new answer (outcome, tries, is) =
      at_keeps port.domain (RetriesBy (publisher_may_decide decides port.domain port.number old) port.number elapsed)
      (hub_ports port.domain old) old new (Some outcome) tries

  pub receive_keeps : (degrades : D → DegradationCause → DegradationInfo → DegradationAction → Type 0) (port : PortId)
      (old new : Hub T U B D) (answer : Result (Option (Sample T U Slice)) ReceiveError)
      → ReceivesSample hub_ports with_hub_ports (subscriber_may_degrade degrades) port old answer new → new.table.id ≡ old.table.id
  receive_keeps degrades port old new answer (received, takes, is) =
      at_keeps port.domain (ReceivesBy (subscriber_may_degrade degrades port.domain port.number old) port.number)
      (hub_ports port.domain old) old new (Some received) takes

  enters_keeps : (payload user_header : Detail) (member : Membership) (entered : Result Opened Bool) (old new : Hub T U B D)
      → Enters payload user_header member old entered new → new.table.id ≡ old.table.id
  enters_keeps payload user_header member (Ok made) old new (made_is, opens, is) = ap (λ hub. hub.table.id) is
  enters_keeps payload user_header member (Err was_new) old new (is, wants, ((closed, closes), same)) =
      sights-keep closes.made old.table new.table closes.went

  settles_keeps : {E : Type 0} (payload user_header : Detail) (lacking : Bool → E) (member : Result Membership E) (old new : Hub T U B D)
      (answer : Result Opened E) → Settles payload user_header lacking member old answer new → new.table.id ≡ old.table.id
  settles_keeps payload user_header lacking (Ok member) old new answer (entered, enters, is) =
      enters_keeps payload user_header member entered old new enters
  settles_keeps payload user_header lacking (Err error) old new answer (is, same) = same_id same

  -- a service that is created
  pub creates_keeps : (payload user_header : Detail) (types : MessageTypeDetails) (node : ℕ) (name : List ℕ)
      (named : PublishSubscribeOptions) (attributes : List Attribute) (table after : FactoryTable) (old new : Hub T U B D)
      (answer : Result ℕ Refusal)
      → CreatesAs (options.PublishSubscribe named) payload user_header types node name attributes [] table old answer after new
      → new.table.id ≡ old.table.id
  creates_keeps payload user_header types node name named attributes table after old new answer (opened, inr (can, is, same), numbers) =
      same_id same
  creates_keeps payload user_header types node name named attributes table after old new answer (opened, inl opens, numbers) =
      settles_keeps payload user_header _ opens.answer (record old { table = opens.mid.table }) new opened opens.settled
      ∙ went-keeps opens.negotiated.negotiated.done.made (record { table = old.table; lists = [] }) opens.mid
      opens.negotiated.negotiated.done.went

  -- a service that is opened
  pub opens_keeps : (payload user_header : Detail) (types : MessageTypeDetails) (node : ℕ) (name : List ℕ)
      (named : PublishSubscribeOptions) (required : Required) (table after : FactoryTable) (old new : Hub T U B D)
      (answer : Result ℕ Refusal)
      → OpensAs (options.PublishSubscribe named) payload user_header types node name required [] table old answer after new
      → new.table.id ≡ old.table.id
  opens_keeps payload user_header types node name named required table after old new answer (opened, inr (can, is, same), numbers) =
      same_id same
  opens_keeps payload user_header types node name named required table after old new answer (opened, inl opens, numbers) =
      settles_keeps payload user_header _ opens.answer (record old { table = opens.mid.table }) new opened opens.settled
      ∙ went-keeps opens.negotiated.done.made (record { table = old.table; lists = [] }) opens.mid opens.negotiated.done.went

  -- a service that is opened, or created
  pub either_keeps : (payload user_header : Detail) (types : MessageTypeDetails) (node : ℕ) (name : List ℕ)
      (named : PublishSubscribeOptions) (required : Required) (table after : FactoryTable) (old new : Hub T U B D)
      (answer : Result ℕ Refusal)
      → EitherAs (options.PublishSubscribe named) payload user_header types node name required [] table old answer after new
      → new.table.id ≡ old.table.id
  either_keeps payload user_header types node name named required table after old new answer (opened, inr (can, is, same), numbers) =
      same_id same
  either_keeps payload user_header types node name named required table after old new answer (opened, inl opens, numbers) =
      settles_keeps payload user_header _ opens.answer (record old { table = opens.mid.table }) new opened opens.settled
      ∙ went-keeps opens.negotiated.negotiated.done.made (record { table = old.table; lists = [] }) opens.mid
      opens.negotiated.negotiated.done.went

  -- a factory that is closed, or is in use
  pub closes_keeps : {F : Type 0} (used : Bool) (member : Membership) (factory : F) (old new : Hub T U B D)
      (answer : Result (Unit {0}) (CloseError × Option F)) → ClosesIf used member factory old answer new → new.table.id ≡ old.table.id
  closes_keeps true member factory old new answer (is, same) = same_id same
  closes_keeps false member factory old new answer (closed, leaves, is, same) =
      sights-keep leaves.made old.table new.table leaves.went

  -- nodes outside the hub that act
  pub foreign_keeps : (kind : MessagingPattern) (name : List ℕ) (types : MessageTypeDetails) (steps : List ForeignStep)
      (old new : Hub T U B D) (answer : Result (Unit {0}) HubError) → ActsNamed kind name types steps old answer new
      → new.table.id ≡ old.table.id
  foreign_keeps kind name types steps old new answer (inl (((happened, acts, told), is), formed)) =
      acts-keep (service_hash_of kind name) (list_of name types steps) old.table new.table happened acts
  foreign_keeps kind name types steps old new answer (inr (some, is, same)) = same_id same
