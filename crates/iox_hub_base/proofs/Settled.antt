-- What a hub answers of a service that was negotiated over its table.
use Rattle.std.proofs.Common.{ℕ, ◌≡◌, Bool, List, Result, inl, sym, ap, ap₂, subst, ◌∙◌}
use Rattle.iox_delivery_factories.specs.DescribeBase.Detail.{Detail}
use Rattle.iox_negotiate.specs.declared.factory.Membership.{Membership}
use Rattle.iox_negotiate_table.specs.Stepped.{Steps}
use Rattle.iox_negotiate_table.specs.declared.step.ForeignStep.{ForeignStep}
use Rattle.iox_hub_base.specs.Open.{OpenServices}
use Rattle.iox_hub_base.specs.Opening.{Made, Settles, OpensInHub}
use Rattle.iox_hub_base.specs.declared.hub.Hub.{Hub}

-- what a call has before its first storage operation: the table of a hub, and the lists of steps
abbrev pub begun : {T U B D : Type 0} → List (List ForeignStep) → Hub T U B D → Steps
begun lists hub = record { table = hub.table; lists = lists }

-- what a hub lent makes it whole again
pub whole-with : {T U B D : Type 0} (old roomy lent : Hub T U B D) (counts : List (ℕ × ℕ)) (services : OpenServices T U B D)
    → (counts ≡ old.factory_counts) × (services ≡ old.services)
    → roomy ≡ record old { factory_counts = roomy.factory_counts; services = roomy.services }
    → lent ≡ record roomy { table = lent.table }
    → old ≡ record lent { table = old.table; factory_counts = counts; services = services }
whole-with {T} {U} {B} {D} old roomy lent counts services same room rest =
    sym (ap {A = Hub T U B D} (λ hub. record hub { table = old.table; factory_counts = counts; services = services }) rest
    ∙ ap {A = Hub T U B D} (λ hub. record hub { table = old.table; factory_counts = counts; services = services }) room
    ∙ ap₂ (λ all them. record old { factory_counts = all; services = them }) same.0 same.1)

-- The service is negotiated over the table that a hub lent, which is put back with what else was lent, and what that comes to is settled.
pub opens-in-hub : {T U B D E : Type 0} (payload user_header : Detail) (can_be : Type 0) (lacking : Bool → E)
    (negotiates : Steps → Result Membership E → Steps → Type 0) (lists : List (List ForeignStep)) (old lent : Hub T U B D)
    (counts : List (ℕ × ℕ)) (services : OpenServices T U B D) (start mid : Steps) (answer : Result Membership E) (result : Result Made E)
    (new : Hub T U B D)
    → start ≡ begun lists old → old ≡ record lent { table = old.table; factory_counts = counts; services = services }
    → negotiates start answer mid
    → Settles payload user_header lacking answer (record lent { table = mid.table; factory_counts = counts; services = services })
    result new
    → OpensInHub payload user_header can_be lacking negotiates lists old result new
opens-in-hub {T} {U} {B} {D} payload user_header can_be lacking negotiates lists old lent counts services start mid answer result new begins
    rest went settles =
    inl (record {
      answer = answer;
      mid = mid;
      negotiated = subst (λ steps. negotiates steps answer mid) begins went;
      settled = subst (λ hub. Settles payload user_header lacking answer hub result new)
          (sym (ap {A = Hub T U B D} (λ hub. record hub { table = mid.table }) rest)) settles;
    })
