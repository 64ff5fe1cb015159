-- A service that a node creates or opens in a hub is as it was asked for, and its factory is of that hub.
use Rattle.std.proofs.Common.{◌≡◌, ℕ, ◌⊎◌, ⊎_elim, Bool, List, [], Option, None, Some, Result, Ok, Err, IfOk, IfSome, refl, sym, subst}
use Rattle.std.proofs.Common.{inl, inr}
use Rattle.std.specs.Result.{result_map_both}
use Rattle.iox_hub_base.specs.DescribeSettings.Agreement.{Agreement}
use Rattle.iox_hub_base.specs.Opening.{Enters, Settles}
use Rattle.iox_hub_base.specs.Opening.{Made as Entered}
use Rattle.iox_hub_base.specs.declared.hub.Hub.{Hub}
use Rattle.iox_hub_commands.specs.Creating.{CreatesAgreed}
use Rattle.iox_hub_commands.specs.DescribeBase.Detail.{Detail}
use Rattle.iox_hub_commands.specs.DescribeBase.declared.hash.ServiceHash.{ServiceHash}
use Rattle.iox_hub_commands.specs.Either.{EitherJudged}
use Rattle.iox_hub_base.specs.OfPattern.{OpensJudged}
use Rattle.iox_negotiate.proofs.Meeting.{either-met, opens-met}
use Rattle.iox_negotiate.specs.Factory.{membership}
use Rattle.iox_negotiate.specs.Laws.{IsMet}
use Rattle.iox_negotiate.specs.Negotiation.{Negotiates}
use Rattle.iox_negotiate.specs.declared.factory.Membership.{Membership}
use Rattle.iox_negotiate_base.proofs.Counting.{creates-service}
use Rattle.iox_negotiate_base.specs.Access.{Access}
use Rattle.iox_negotiate_base.specs.Creating.{CreatesIf}
use Rattle.iox_negotiate_base.specs.Opening.{Opens, OpensOrCreates as Rounds}
use Rattle.iox_negotiate_base.specs.declared.failure.CreateFailure.{CreateFailure}
use Rattle.iox_negotiate_base.specs.declared.failure.OpenFailure.{OpenFailure}
use Rattle.iox_negotiate_base.specs.declared.failure.OpenOrCreateFailure.{OpenOrCreateFailure}
use Rattle.iox_negotiate_base.specs.declared.request.Opened.{Opened}
use Rattle.iox_hub.specs.RecordedNames.{named_by}
use Rattle.iox_hub.specs.declared.recorded.named.Number.{Number}

-- what is so of each service that rounds answer is so of what a builder answers, which is of the storage
came_so : {S F E : Type 0} (gives : S → Access → S → Type 0) (storage node : ℕ) (error : F → E)
    (rounds : List Access → Result Opened F → Type 0) (P : Membership → Type 0)
    → ((made : List Access) (service : Opened) → rounds made (Ok service) → P (membership storage node service)) → (old new : S)
    (answer : Result Membership E) → Negotiates gives storage node error rounds old answer new → IfOk answer P
came_so {S} {F} {E} gives storage node error rounds P so old new answer it =
    subst (λ (one : Result Membership E). IfOk one P) (sym it.told) (by it.answer it.done.told)
  where
    by : (given : Result Opened F) → rounds it.done.made given → IfOk (result_map_both (membership storage node) error given) P
    by (Ok service) does = so it.done.made service does
    by (Err why) does = tt

-- what is so of what was negotiated is so of what the hub answers
module _ {T U B D E : Type 0} (payload user_header : Detail) (lacking : Bool → E) (P : Membership → Type 0) (result : Result Entered E)
    (old new : Hub T U B D) where
  refused_so : (why : E) → result ≡ Err why → IfOk result (λ made. P made.0)
  refused_so why is = subst (λ (one : Result Entered E). IfOk one (λ made. P made.0)) (sym is) tt

  entered_so : (member : Membership) (entered : Result Entered Bool) → P member
      → Enters payload user_header member old entered new → result ≡ result_map_both (λ made. made) lacking entered
      → IfOk result (λ made. P made.0)
  entered_so member (Ok made) so enters is =
      subst (λ (one : Result Entered E). IfOk one (λ made. P made.0)) (sym is)
      (subst (λ (one : Entered). P one.0) (sym enters.0) so)
  entered_so member (Err was_new) so enters is = refused_so (lacking was_new) is

  settled_so : (answer : Result Membership E) → IfOk answer P → Settles payload user_header lacking answer old result new
      → IfOk result (λ made. P made.0)
  settled_so (Ok member) so (entered, enters, is) = entered_so member entered so enters is
  settled_so (Err why) so (is, same) = refused_so why is

module _ {T U B D E : Type 0} (payload user_header : Detail) (hash : ServiceHash) (node : ℕ) (result : Result Entered E)
    (old new : Hub T U B D) where
  -- a factory is of this hub, and this is so of its service
  abbrev Comes : (Opened → Type 0) → Type 0
  Comes P = IfOk result (λ made. (made.0.storage ≡ old.table.id) × P made.0.service)

  pub creates_so : (error : CreateFailure → E) (agreed : Agreement)
      → CreatesAgreed payload user_header error hash node agreed [] old result new → Comes (λ service. service.description ≡ agreed)
  creates_so error agreed (inl opens) =
      settled_so payload user_header _ (λ member. (member.storage ≡ old.table.id) × (member.service.description ≡ agreed)) result
      (record old { table = opens.mid.table }) new opens.answer
      (came_so _ old.table.id node error (λ made answer. CreatesIf hash node agreed opens.negotiated.refusal made answer)
      (λ member. (member.storage ≡ old.table.id) × (member.service.description ≡ agreed))
      (λ made service does. (refl, (creates-service hash node agreed opens.negotiated.refusal made service does).1)) _ opens.mid
      opens.answer opens.negotiated.negotiated) opens.settled
  creates_so error agreed (inr (can, is, same)) =
      subst (λ (one : Result Entered E). IfOk one (λ made. (made.0.storage ≡ old.table.id)
      × (made.0.service.description ≡ agreed))) (sym is) tt

  module _ {V : Type 0} (verdict : Agreement → Result (Unit {0}) V) where
    pub opens_so : (error : OpenFailure V → E) → OpensJudged payload user_header error hash node verdict [] old result new
        → Comes (λ service. IsMet hash verdict service)
    opens_so error (inl opens) =
        settled_so payload user_header _ (λ member. (member.storage ≡ old.table.id) × IsMet hash verdict member.service) result
        (record old { table = opens.mid.table }) new opens.answer
        (came_so _ old.table.id node error (λ made answer. Opens hash node verdict made answer)
        (λ member. (member.storage ≡ old.table.id) × IsMet hash verdict member.service)
        (λ made service does. (refl, opens-met V hash node verdict made service does)) _ opens.mid opens.answer opens.negotiated)
        opens.settled
    opens_so error (inr (can, is, same)) =
        subst (λ (one : Result Entered E). IfOk one (λ made. (made.0.storage ≡ old.table.id)
        × IsMet hash verdict made.0.service)) (sym is) tt

    -- an opened service meets what is asked, or was created so
    abbrev Met : Agreement → Opened → Type 0
    Met agreed service = IsMet hash verdict service ⊎ (service.description ≡ agreed)

    pub either_so : (error : OpenOrCreateFailure V → E) (agreed : Agreement)
        → EitherJudged payload user_header error hash node verdict agreed [] old result new → Comes (Met agreed)
    either_so error agreed (inl opens) =
        settled_so payload user_header _ (λ member. (member.storage ≡ old.table.id) × Met agreed member.service) result
        (record old { table = opens.mid.table }) new opens.answer
        (came_so _ old.table.id node error (λ made answer. Rounds hash node verdict agreed opens.negotiated.refusal made answer)
        (λ member. (member.storage ≡ old.table.id) × Met agreed member.service)
        (λ made service does. (
          refl,
          ⊎_elim (λ met. inl met) (λ made. inr made.0)
              (either-met V hash node verdict agreed opens.negotiated.refusal made service does),
        )) _ opens.mid opens.answer opens.negotiated.negotiated) opens.settled
    either_so error agreed (inr (can, is, same)) =
        subst (λ (one : Result Entered E). IfOk one (λ made. (made.0.storage ≡ old.table.id)
        × Met agreed made.0.service)) (sym is) tt

-- what is so of the parts of a factory is so of it
pub of_parts : {F E : Type 0} (parts : F → Entered) (P : Entered → Type 0) (Q : F → Type 0)
    → ((factory : F) → P (parts factory) → Q factory) → (answer : Result F E)
    → IfOk (result_map_both parts (λ error. error) answer) P → IfOk answer Q
of_parts parts P Q on (Ok factory) so = on factory so
of_parts parts P Q on (Err why) so = tt

-- what is so of what was made is so of it with its number
pub named_so : {S E : Type 0} (number : Number) (P : S → Type 0) (answer : Option (Result S E)) → IfSome answer (λ it. IfOk it P)
    → IfSome (named_by number answer) (λ it. IfOk it (λ made. P made.it))
named_so number P None so = tt
named_so number P (Some (Ok made)) so = so
named_so number P (Some (Err why)) so = tt
