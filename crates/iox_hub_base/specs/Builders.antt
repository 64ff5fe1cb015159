-- Builders of the ports of a factory's service.
use Rattle.std.specs.Prelude.{ℕ, Option, None, Some}
use Rattle.iox_delivery_factories.specs.Factories.{value_publishers, slice_publishers, value_subscribers, slice_subscribers}
use Rattle.iox_delivery_factories.specs.Delivery.declared.kind.Single.{Single}
use Rattle.iox_delivery_factories.specs.Delivery.declared.kind.Slice.{Slice}
use Rattle.iox_delivery_factories.specs.declared.publisher.PortFactoryPublisher.{PortFactoryPublisher}
use Rattle.iox_delivery_factories.specs.declared.subscriber.PortFactorySubscriber.{PortFactorySubscriber}
use Rattle.iox_delivery_factories.specs.Domain.DescribeBase.Detail.{Detail}
use Rattle.iox_delivery_factories.specs.Domain.declared.domain.Domain.{Domain}
use Rattle.iox_command.specs.DomainValues.declared.degradation_handler.DegradationHandler.{DegradationHandler}
use Rattle.iox_command.specs.DomainValues.declared.handlers.Handlers.{Handlers}
use Rattle.iox_command.specs.DomainValues.declared.samples_override.PreallocatedSamplesOverride.{PreallocatedSamplesOverride}

-- The builder of publishers of single values of this domain, for a node and an owner, whose values have this size in bytes. None if the
-- domain isn't in the hub, or agreed on slices.
abbrev pub publishers_of : {T U B D X Y Z : Type 0} {F : X → Type 0} {G : Y → Type 0} {K : Z → Type 0} → ℕ → ℕ → ℕ
    → Option (Domain T U B D) → Option (PortFactoryPublisher T U (Handlers X Y F G) (PreallocatedSamplesOverride Z K) Single)
publishers_of size node owner None = None
publishers_of size node owner (Some domain) = value_publishers size node owner domain

-- The builder of publishers of slices of this domain, for a node and an owner, whose values are of this type. None if the domain isn't in
-- the hub, or agreed on single values.
abbrev pub slice_publishers_of : {T U B D X Y Z : Type 0} {F : X → Type 0} {G : Y → Type 0} {K : Z → Type 0} → Detail → ℕ → ℕ
    → Option (Domain T U B D) → Option (PortFactoryPublisher T U (Handlers X Y F G) (PreallocatedSamplesOverride Z K) Slice)
slice_publishers_of value node owner None = None
slice_publishers_of value node owner (Some domain) = slice_publishers value node owner domain

-- The builder of subscribers of single values of this domain, for a node and an owner, whose values have this size in bytes. None if the
-- domain isn't in the hub, or agreed on slices.
abbrev pub subscribers_of : {T U B D Y : Type 0} {G : Y → Type 0} → ℕ → ℕ → ℕ → Option (Domain T U B D)
    → Option (PortFactorySubscriber T U (DegradationHandler Y G) Single)
subscribers_of size node owner None = None
subscribers_of size node owner (Some domain) = value_subscribers size node owner domain

-- The builder of subscribers of slices of this domain, for a node and an owner, whose values are of this type. None if the domain isn't in
-- the hub, or agreed on single values.
abbrev pub slice_subscribers_of : {T U B D Y : Type 0} {G : Y → Type 0} → Detail → ℕ → ℕ → Option (Domain T U B D)
    → Option (PortFactorySubscriber T U (DegradationHandler Y G) Slice)
slice_subscribers_of value node owner None = None
slice_subscribers_of value node owner (Some domain) = slice_subscribers value node owner domain
