-- Creating or opening a service in a hub.
use Rattle.std.specs.Prelude.{ℕ, ◌≡◌, ◌⊎◌, Bool, true, false, List, Result, Ok, Err}
use Rattle.std.specs.Result.{result_map_both}
use Rattle.iox_delivery_factories.specs.DescribeBase.Detail.{Detail}
use Rattle.iox_delivery_factories.specs.Domain.Fitting.{Fits}
use Rattle.iox_hub_base.specs.ServicesOpening.{is_open, Opens}
use Rattle.iox_negotiate.specs.Factory.{Closes}
use Rattle.iox_negotiate.specs.declared.factory.Membership.{Membership}
use Rattle.iox_command.specs.NegotiateBase.declared.errors.close.CloseError.{CloseError}
use Rattle.iox_negotiate_table.specs.NegotiateBase.Runs.{Does}
use Rattle.iox_negotiate_table.specs.NegotiateBase.declared.failure.CreateFailure.TheVariants as uncreated
use Rattle.iox_negotiate_table.specs.NegotiateBase.declared.failure.OpenFailure.TheVariants as unopened
use Rattle.iox_negotiate_table.specs.NegotiateBase.declared.failure.OpenOrCreateFailure.{OpenOrCreateFailure}
use Rattle.iox_negotiate_table.specs.NegotiateBase.declared.failure.OpenOrCreateFailure.TheVariants as either
use Rattle.iox_negotiate_table.specs.Sights.{Sight}
use Rattle.iox_negotiate_table.specs.Stepped.{Steps}
use Rattle.iox_negotiate_table.specs.declared.step.ForeignStep.{ForeignStep}
use Rattle.iox_hub_base.specs.Hubs.{one_more, with_factory}
use Rattle.iox_hub_base.specs.declared.hub.Hub.{Hub}

-- A factory of a hub: which node is in which service, and the factory's own number.
abbrev pub Made : Type 0
Made = Membership × ℕ

-- The factory is closed again in the table, whatever the table answers, and all else of the hub stays.
abbrev pub IsClosedAgain : {T U B D : Type 0} → Membership → Hub T U B D → Hub T U B D → Type 0
IsClosedAgain member old new =
    ((closed : Result (Unit {0}) CloseError)
    × Does Sight old.table (λ accesses. Closes member.service.description.service_hash member.service.number member.node accesses
    closed) new.table)
    × (new ≡ record old { table = new.table })

-- A domain is to be made for the service: no service of its number is open, and its settings fit.
abbrev pub WantsDomain : {T U B D : Type 0} → Detail → Detail → Membership → Hub T U B D → Type 0
WantsDomain payload user_header member hub =
    (is_open member.service.number hub.services ≡ false) × Fits payload user_header member.service.description.settings

-- A node is in a service. Either the service has one more factory, which gets the hub's next number, and its domain is made if the settings
-- fit and the service isn't open yet. Or memory runs out for this domain, and the factory is closed again.
abbrev pub Enters : {T U B D : Type 0} → Detail → Detail → Membership → Hub T U B D → Result Made Bool → Hub T U B D → Type 0
Enters payload user_header member old (Ok made) new =
    (made ≡ (member, one_more old.factories))
    × Opens payload user_header old.expired_connection_buffer member.service.number member.service.description.settings old.services
    (Ok tt) new.services
    × (new ≡ record old {
      factories = one_more old.factories;
      factory_counts
          = with_factory member.service.number old.factory_counts;
      services = new.services;
    })
Enters payload user_header member old (Err was_new) new =
    (was_new ≡ member.service.is_new) × WantsDomain payload user_header member old × IsClosedAgain member old new

-- The hub reports an error of the negotiation, or makes a factory for the service that was negotiated. Which error is reported if memory
-- runs out there depends on whether the service was created.
abbrev pub Settles : {T U B D E : Type 0} → Detail → Detail → (Bool → E) → Result Membership E → Hub T U B D → Result Made E
    → Hub T U B D → Type 0
Settles payload user_header lacking (Err error) old result new = (result ≡ Err error) × (new ≡ old)
Settles payload user_header lacking (Ok member) old result new =
    (entered : Result Made Bool) × Enters payload user_header member old entered new
    × (result ≡ result_map_both (λ made. made) lacking entered)

-- The service is negotiated over the hub's table, and these lists of actions of other nodes are done before the storage operations.
pub record NegotiatesInHub {T U B D E : Type 0} (payload user_header : Detail) (lacking : Bool → E)
    (negotiates : Steps → Result Membership E → Steps → Type 0) (lists : List (List ForeignStep))
    (old : Hub T U B D) (result : Result Made E) (new : Hub T U B D) : Type 0 where
  pub answer : Result Membership E
  pub mid : Steps
  pub negotiated : negotiates (record { table = old.table; lists = lists }) answer mid
  pub settled : Settles payload user_header lacking answer (record old { table = mid.table }) result new

-- Either the service is negotiated. Or memory runs out for its entry before the table is touched, if the request itself is possible, and
-- nothing changes.
abbrev pub OpensInHub : {T U B D E : Type 0} → Detail → Detail → Type 0 → (Bool → E)
    → (Steps → Result Membership E → Steps → Type 0) → List (List ForeignStep) → Hub T U B D → Result Made E → Hub T U B D → Type 0
OpensInHub payload user_header can_be lacking negotiates lists old result new =
    NegotiatesInHub payload user_header lacking negotiates lists old result new
    ⊎ (can_be × (result ≡ Err (lacking false)) × (new ≡ old))

-- The error of a call that opens or creates, if memory runs out after its last storage operation: of the creation, or else of the opening.
abbrev pub lacking_either : {V : Type 0} → Bool → OpenOrCreateFailure V
lacking_either true = either.Create uncreated.OutOfMemory
lacking_either false = either.Open unopened.OutOfMemory
