-- What a call comes to where no memory is found before its first storage operation.
use Rattle.std.proofs.Common.{◌≡◌, ℕ, List, [], ◌∷◌, Bool, true, false, Option, None, Some, Result, Ok, Err, inl, inr, refl}
use Rattle.std.proofs.Common.{sym, subst, arith}
use Rattle.std.specs.Prelude.{drop, if◌then◌else◌}
use Rattle.std.specs.Option.{unwrap_or}
use Rattle.iox_delivery_factories.specs.DescribeBase.Detail.{Detail}
use Rattle.iox_delivery_factories.specs.DescribeBase.declared.hash.ServiceHash.{ServiceHash}
use Rattle.iox_delivery_factories.specs.DescribeSettings.Agreement.{Agreement}
use Rattle.iox_negotiate.specs.Asked.{IsRefusal}
use Rattle.iox_negotiate.specs.Negotiation.{Creates, Either}
use Rattle.iox_negotiate_table.specs.Contents.{entry_at}
use Rattle.iox_negotiate_table.specs.Describe.Within.{IsWithinLimits}
use Rattle.iox_negotiate_table.specs.NegotiateBase.Access.{Look}
use Rattle.iox_negotiate_table.specs.NegotiateBase.Opening.{EitherSeen, OpensSeen}
use Rattle.iox_negotiate_table.specs.NegotiateBase.Runs.{Went}
use Rattle.iox_negotiate_table.specs.NegotiateBase.Sight.{IsSight}
use Rattle.iox_negotiate_table.specs.NegotiateBase.declared.answer.LookAnswer.{LookAnswer}
use Rattle.iox_negotiate_table.specs.NegotiateBase.declared.answer.LookAnswer.TheVariants as look
use Rattle.iox_negotiate_table.specs.NegotiateBase.declared.failure.CreateFailure.{CreateFailure}
use Rattle.iox_negotiate_table.specs.NegotiateBase.declared.failure.CreateFailure.TheVariants.{OutOfMemory}
use Rattle.iox_negotiate_table.specs.NegotiateBase.declared.failure.OpenFailure.{OpenFailure}
use Rattle.iox_negotiate_table.specs.NegotiateBase.declared.failure.OpenFailure.TheVariants as unopened
use Rattle.iox_negotiate_table.specs.NegotiateBase.declared.failure.OpenOrCreateFailure.{OpenOrCreateFailure}
use Rattle.iox_negotiate_table.specs.NegotiateBase.declared.failure.OpenOrCreateFailure.TheVariants as neither
use Rattle.iox_negotiate_table.specs.NegotiateBase.declared.sight.Sight.{Sight}
use Rattle.iox_negotiate_table.specs.NegotiateBase.declared.sight.Sight.TheVariants as sight
use Rattle.iox_negotiate_table.specs.NegotiateBase.declared.sight.SightFailure.TheVariants as unseen
use Rattle.iox_negotiate_table.specs.Sights.{Looks}
use Rattle.iox_negotiate_table.specs.Stepped.{SteppedSight, next_list}
use Rattle.iox_negotiate_table.specs.declared.entry.Entry.{Entry}
use Rattle.iox_negotiate_table.specs.declared.entry.Entry.TheVariants as lying
use Rattle.iox_negotiate_table.specs.declared.step.ForeignStep.{ForeignStep}
use Rattle.iox_hub_base.specs.FirstLook.{MayBeEither, MayBeOpened, acts_first, either_failure, found_first, opening_failure}
use Rattle.iox_hub_base.specs.Hubs.{hash_state}
use Rattle.iox_hub_base.specs.OfPattern.{OpensJudged}
use Rattle.iox_hub_base.specs.Opening.{Made, OpensInHub, lacking_either}
use Rattle.iox_hub_base.specs.declared.hub.Hub.{Hub}
use Rattle.iox_hub_base.specs.declared.hub.HashState.{HashState}
use Rattle.iox_hub_base.specs.declared.hub.HashState.TheVariants as state

module _ (hash : ServiceHash) (node : ℕ) (agreed : Agreement) {E : Type 0} (is_within is_history_too_long : Type 0)
    (error : CreateFailure → E) where
  -- a call that creates, for which there was no room: nothing was touched
  pub lacks_creating : {T U B D : Type 0} (payload user_header : Detail) (lists : List (List ForeignStep)) (old new : Hub T U B D)
      (result : Result Made E) (refusal : Option CreateFailure) → IsRefusal is_within is_history_too_long refusal
      → result ≡ Err (error (unwrap_or refusal OutOfMemory)) → new ≡ old
      → OpensInHub payload user_header (IsRefusal is_within is_history_too_long None) (λ was_new. error OutOfMemory)
      (λ before answer after. Creates SteppedSight before.table.id hash node agreed is_within is_history_too_long error before answer
      after) lists old result new
  lacks_creating payload user_header lists old new result None refused is same = inr (refused, is, same)
  lacks_creating payload user_header lists old new result (Some failure) refused is same =
      inl (record {
        answer = Err (error failure);
        mid = record { table = old.table; lists = lists };
        negotiated = record {
          refusal = Some failure;
          refused = refused;
          within = λ none. absurd cc;
          negotiated = record {
            answer = Err failure;
            done = record { made = []; went = refl; told = (refl, refl) };
            told = refl;
          };
        };
        settled = (is, same);
      })

-- ---- what the first lookup decides

none_next : (lists : List (List ForeignStep)) → acts_first lists ≡ false → next_list lists ≡ []
none_next [] none = refl
none_next ([] ∷ lists) none = refl
none_next ((step ∷ more) ∷ lists) none = absurd cc

-- what is found before other nodes act lies under the hash
parts : {T U B D : Type 0} (acts : Bool) (hash : ServiceHash) (hub : Hub T U B D) (found : HashState)
    → found_first acts hash hub ≡ Some found → (acts ≡ false) × (hash_state (entry_at hash hub.table) ≡ found)
parts true hash hub found is = absurd cc
parts false hash hub found is = (refl, cc)

looks_absent : (entry : Option Entry) → hash_state entry ≡ state.Absent → Looks entry look.Absent
looks_absent None is = refl
looks_absent (Some (lying.Locked node number)) is = absurd cc
looks_absent (Some (lying.Described number bytes)) is = absurd cc

looks_locked : (entry : Option Entry) → hash_state entry ≡ state.Locked → Looks entry look.Locked
looks_locked None is = absurd cc
looks_locked (Some (lying.Locked node number)) is = refl
looks_locked (Some (lying.Described number bytes)) is = absurd cc

module _ {T U B D : Type 0} (payload user_header : Detail) (hash : ServiceHash) (node : ℕ) (lists : List (List ForeignStep))
    (old new : Hub T U B D) (same : new ≡ old) where
  -- a call that makes one lookup, before which no other node acts
  module _ (answer : LookAnswer) (shown : Sight) (none : next_list lists ≡ []) (looks : Looks (entry_at hash old.table) answer)
      (is_sight : IsSight hash answer shown) where
    went : Went SteppedSight (record { table = old.table; lists = lists }) (Look hash answer ∷ [])
        (record { table = old.table; lists = drop 1 lists })
    went = (record { table = old.table; lists = drop 1 lists }, (old.table, Ok tt, rw none (refl, refl), (looks, refl), refl), refl)

    open_ends : {V E : Type 0} (error : OpenFailure V → E) (verdict : Agreement → Result (Unit {0}) V) (failure : OpenFailure V)
        (result : Result Made E) → OpensSeen hash node verdict shown [] (Some (Err failure)) → result ≡ Err (error failure)
        → OpensJudged payload user_header error hash node verdict lists old result new
    open_ends error verdict failure result seen is =
        inl (record {
          answer = Err (error failure);
          mid = record { table = old.table; lists = drop 1 lists };
          negotiated = record {
            answer = Err failure;
            done = record {
              made = Look hash answer ∷ [];
              went = went;
              told = record {
                count = 0;
                before = [];
                last = Look hash answer ∷ [];
                all = refl;
                led = refl;
                ends = inl (omega arith, (shown, refl, is_sight, seen));
              };
            };
            told = refl;
          };
          settled = (is, same);
        })

    either_ends : {V E : Type 0} (can_be : Type 0) (error : OpenOrCreateFailure V → E) (verdict : Agreement → Result (Unit {0}) V)
        (agreed : Agreement) (is_within is_too_long : Type 0) (refusal : Option CreateFailure) (failure : OpenOrCreateFailure V)
        (result : Result Made E) → IsRefusal is_within is_too_long refusal → (refusal ≡ None → IsWithinLimits agreed)
        → EitherSeen hash node verdict agreed refusal shown [] (Some (Err failure)) → result ≡ Err (error failure)
        → OpensInHub payload user_header can_be (λ was_new. error (lacking_either was_new))
        (λ before came after. Either SteppedSight before.table.id hash node verdict agreed is_within is_too_long error before came after)
        lists old result new
    either_ends can_be error verdict agreed is_within is_too_long refusal failure result refused within seen is =
        inl (record {
          answer = Err (error failure);
          mid = record { table = old.table; lists = drop 1 lists };
          negotiated = record {
            refusal = refusal;
            refused = refused;
            within = within;
            negotiated = record {
              answer = Err failure;
              done = record {
                made = Look hash answer ∷ [];
                went = went;
                told = record {
                  count = 0;
                  before = [];
                  last = Look hash answer ∷ [];
                  all = refl;
                  led = refl;
                  ends = inl (omega arith, (shown, refl, is_sight, seen));
                };
              };
              told = refl;
            };
          };
          settled = (is, same);
        })

  -- an opening for which there was no room
  pub lacks_opening : {V E : Type 0} (error : OpenFailure V → E) (verdict : Agreement → Result (Unit {0}) V) (result : Result Made E)
      → result ≡ Err (error (opening_failure (found_first (acts_first lists) hash old)))
      → OpensJudged payload user_header error hash node verdict lists old result new
  lacks_opening {V} {E} error verdict result is = among (found_first (acts_first lists) hash old) refl is
    where
      undecided : (found : Option HashState) → found_first (acts_first lists) hash old ≡ found → MayBeOpened found
          → result ≡ Err (error unopened.OutOfMemory) → OpensJudged payload user_header error hash node verdict lists old result new
      undecided found finds may is = inr (subst (λ (it : Option HashState). MayBeOpened it) (sym finds) may, is, same)

      among : (found : Option HashState) → found_first (acts_first lists) hash old ≡ found
          → result ≡ Err (error (opening_failure found)) → OpensJudged payload user_header error hash node verdict lists old result new
      among None finds is = undecided None finds tt is
      among (Some state.Described) finds is = undecided (Some state.Described) finds tt is
      among (Some state.Absent) finds is =
          let it = parts (acts_first lists) hash old state.Absent finds in
          open_ends look.Absent sight.Absent (none_next lists it.0) (looks_absent _ it.1) refl error verdict unopened.DoesNotExist result
          (refl, refl) is
      among (Some state.Locked) finds is =
          let it = parts (acts_first lists) hash old state.Locked finds in
          open_ends look.Locked (sight.Failed unseen.HangsInCreation) (none_next lists it.0) (looks_locked _ it.1) refl error verdict
          unopened.HangsInCreation result (refl, refl) is

  -- a call that opens or creates, and for which there was no room
  pub lacks_either : {V E : Type 0} (error : OpenOrCreateFailure V → E) (verdict : Agreement → Result (Unit {0}) V) (agreed : Agreement)
      (is_within is_too_long : Type 0) (refusal : Option CreateFailure) (result : Result Made E)
      → IsRefusal is_within is_too_long refusal → (refusal ≡ None → IsWithinLimits agreed)
      → result ≡ Err (error (either_failure refusal (found_first (acts_first lists) hash old)))
      → OpensInHub payload user_header (MayBeEither is_within is_too_long (found_first (acts_first lists) hash old))
      (λ was_new. error (lacking_either was_new))
      (λ before came after. Either SteppedSight before.table.id hash node verdict agreed is_within is_too_long error before came after)
      lists old result new
  lacks_either {V} {E} error verdict agreed is_within is_too_long refusal result refused within is =
      among refusal refused within (found_first (acts_first lists) hash old) refl is
    where
      Lacks : Type 0
      Lacks = OpensInHub payload user_header (MayBeEither is_within is_too_long (found_first (acts_first lists) hash old))
          (λ was_new. error (lacking_either was_new))
          (λ before came after. Either SteppedSight before.table.id hash node verdict agreed is_within is_too_long error before came after)
          lists old result new

      undecided : (found : Option HashState) → found_first (acts_first lists) hash old ≡ found
          → MayBeEither is_within is_too_long found → result ≡ Err (error (neither.Open unopened.OutOfMemory)) → Lacks
      undecided found finds may is =
          inr (subst (λ (it : Option HashState). MayBeEither is_within is_too_long it) (sym finds) may, is, same)

      locked : (refusal : Option CreateFailure) → IsRefusal is_within is_too_long refusal → (refusal ≡ None → IsWithinLimits agreed)
          → found_first (acts_first lists) hash old ≡ Some state.Locked
          → result ≡ Err (error (neither.Open unopened.HangsInCreation)) → Lacks
      locked refusal refused within finds is =
          let it = parts (acts_first lists) hash old state.Locked finds in
          either_ends look.Locked (sight.Failed unseen.HangsInCreation) (none_next lists it.0) (looks_locked _ it.1) refl _ error verdict
          agreed is_within is_too_long refusal (neither.Open unopened.HangsInCreation) result refused within (refl, refl) is

      among : (refusal : Option CreateFailure) → IsRefusal is_within is_too_long refusal → (refusal ≡ None → IsWithinLimits agreed)
          → (found : Option HashState) → found_first (acts_first lists) hash old ≡ found
          → result ≡ Err (error (either_failure refusal found)) → Lacks
      among None refused within None finds is = undecided None finds tt is
      among (Some failure) refused within None finds is = undecided None finds tt is
      among None refused within (Some state.Described) finds is = undecided (Some state.Described) finds tt is
      among (Some failure) refused within (Some state.Described) finds is = undecided (Some state.Described) finds tt is
      among None refused within (Some state.Absent) finds is = undecided (Some state.Absent) finds refused is
      among (Some failure) refused within (Some state.Absent) finds is =
          let it = parts (acts_first lists) hash old state.Absent finds in
          either_ends look.Absent sight.Absent (none_next lists it.0) (looks_absent _ it.1) refl _ error verdict agreed is_within
          is_too_long (Some failure) (neither.Create failure) result refused within (refl, refl) is
      among None refused within (Some state.Locked) finds is = locked None refused within finds is
      among (Some failure) refused within (Some state.Locked) finds is = locked (Some failure) refused within finds is
