-- What is opened was read, and meets what is asked.
use Rattle.std.proofs.Common.{rules, IsSome, ◌≡◌, ℕ, List, ◌∷◌, ◌⊎◌, ⊎_elim, inl, inr, Option, None, Some, Result, Ok, Err, refl, sym, ap}
use Rattle.std.proofs.Common.{subst, ◌∙◌}
use Rattle.iox_negotiate_base.specs.DescribeBase.declared.hash.ServiceHash.{ServiceHash}
use Rattle.iox_negotiate_base.specs.DescribeSettings.Agreement.{Agreement}
use Rattle.iox_negotiate_base.specs.Describe.Within.{IsWithinLimits}
use Rattle.iox_negotiate_base.specs.Access.{Access, Look, OpenSegment}
use Rattle.iox_negotiate_base.specs.Failing.{opened, entered, created, created_or_again, opened_or_again}
use Rattle.iox_negotiate_base.specs.Opening.{Registers, OpensJudged, OpensSeen, OpenRound, EitherCreates, EitherSeen, EitherRound}
use Rattle.iox_negotiate_base.specs.Sight.{IsSight}
use Rattle.iox_negotiate_base.specs.declared.answer.LookAnswer.{LookAnswer}
use Rattle.iox_negotiate_base.specs.declared.answer.LookAnswer.TheVariants as look
use Rattle.iox_negotiate_base.specs.declared.answer.OpenSegmentAnswer.{OpenSegmentAnswer}
use Rattle.iox_negotiate_base.specs.declared.answer.OpenSegmentAnswer.TheVariants as opening
use Rattle.iox_negotiate_base.specs.declared.sight.Sight.{Sight}
use Rattle.iox_negotiate_base.specs.declared.sight.Sight.TheVariants as sight
use Rattle.iox_negotiate_base.specs.declared.sight.SightFailure.{SightFailure}
use Rattle.iox_negotiate_base.specs.declared.creation.Attempt.{Attempt}
use Rattle.iox_negotiate_base.specs.declared.creation.Attempt.TheVariants as attempt
use Rattle.iox_negotiate_base.specs.declared.failure.CreateFailure.{CreateFailure}
use Rattle.iox_negotiate_base.specs.declared.failure.OpenFailure.{OpenFailure}
use Rattle.iox_negotiate_base.specs.declared.request.Opened.{Opened}
use Rattle.iox_negotiate_base.proofs.Counting.{creates-service}
use Rattle.iox_negotiate.specs.Laws.{IsMet, OpenedIsMet, EitherIsMet}

-- of what is Some or Ok nothing else is
not-some-err : {E : Type 0} (service : Opened) (failure : E) → Some (Ok service) ≡ Some (Err failure) → ⊥
not-some-err service failure h = cc

abbrev answered : (E : Type 0) → Opened → Option (Result Opened E)
answered E service = Some (Ok service)

not-none : {E : Type 0} (service : Opened) → answered E service ≡ None → ⊥
not-none service h = cc

not-ok-err : {E : Type 0} (service : Opened) (failure : E) → Ok service ≡ Err failure → ⊥
not-ok-err service failure h = cc

same-service : {E : Type 0} (one other : Opened) → answered E one ≡ answered E other → one ≡ other
same-service one other h = cc

not-failed : (number : ℕ) (agreed : Agreement) (failure : SightFailure) → sight.Standing number agreed ≡ sight.Failed failure → ⊥
not-failed number agreed failure h = cc

not-absent : (number : ℕ) (agreed : Agreement) → sight.Standing number agreed ≡ sight.Absent → ⊥
not-absent number agreed h = cc

-- what was read under a hash is of that hash, and within the limits
sight-hash : (hash : ServiceHash) (answer : LookAnswer) (number : ℕ) (agreed : Agreement)
    → IsSight hash answer (sight.Standing number agreed) → (agreed.service_hash ≡ hash) × IsWithinLimits agreed
sight-hash hash look.Absent number agreed h = absurd (not-absent _ _ h)
sight-hash hash (look.Found from bytes) number agreed h = (h.1.own, h.1.within)
sight-hash hash look.Locked number agreed h = absurd (not-failed _ _ _ h)
sight-hash hash look.Denied number agreed h = absurd (not-failed _ _ _ h)
sight-hash hash look.Broken number agreed h = absurd (not-failed _ _ _ h)
sight-hash hash look.OutOfMemory number agreed h = absurd (not-failed _ _ _ h)

module _ {V : Type 0} (hash : ServiceHash) (node : ℕ) (verdict : Agreement → Result (Unit {0}) V) where
  entered-is : (number : ℕ) (agreed : Agreement) (answer : OpenSegmentAnswer) (service : Opened)
      → Some (Ok service) ≡ entered {V = V} number agreed answer
      → service.description ≡ agreed
  entered-is number agreed opening.Registered service h = ap (λ s. s.description) (same-service service (opened number agreed) h)
  entered-is number agreed opening.Absent service h = absurd (not-none service h)
  entered-is number agreed opening.Marked service h = absurd (not-some-err service _ h)
  entered-is number agreed opening.Full service h = absurd (not-some-err service _ h)
  entered-is number agreed opening.Denied service h = absurd (not-some-err service _ h)
  entered-is number agreed opening.Fault service h = absurd (not-some-err service _ h)
  entered-is number agreed opening.OutOfMemory service h = absurd (not-some-err service _ h)

  registers-is : (number : ℕ) (agreed : Agreement) (made : List Access) (service : Opened)
      → Registers hash node verdict number agreed made (Some (Ok service))
      → service.description ≡ agreed
  registers-is number agreed (OpenSegment under of by answer ∷ rest) service h = entered-is number agreed answer service h.4
  registers-is number agreed made service h = absurd h

  judged-is : (number : ℕ) (agreed : Agreement) (judged : Result (Unit {0}) V) (made : List Access) (service : Opened)
      → verdict agreed ≡ judged
      → OpensJudged hash node verdict number agreed judged made (Some (Ok service)) → (service.description ≡ agreed)
      × (verdict agreed ≡ Ok tt)
  judged-is number agreed (Ok met) made service is h = (registers-is number agreed made service h, is)
  judged-is number agreed (Err unmet) made service is h = absurd (not-some-err service _ h.1)

  standing-is : (answer : LookAnswer) (number : ℕ) (agreed : Agreement) (made : List Access) (service : Opened)
      → IsSight hash answer (sight.Standing number agreed)
      → OpensJudged hash node verdict number agreed (verdict agreed) made (Some (Ok service)) → IsMet hash verdict service
  standing-is answer number agreed made service seen h =
      let j = judged-is number agreed (verdict agreed) made service refl h in
      let s = sight-hash hash answer number agreed seen in
      (ap (λ a. a.service_hash) j.0 ∙ s.0, ap (λ a. verdict a) j.0 ∙ j.1, subst (λ a. IsWithinLimits a) (sym j.0) s.1)

  seen-is : (answer : LookAnswer) (shown : Sight) (made : List Access) (service : Opened) → IsSight hash answer shown
      → OpensSeen hash node verdict shown made (Some (Ok service)) → IsMet hash verdict service
  seen-is answer sight.Absent made service seen h = absurd (not-some-err service _ h.1)
  seen-is answer (sight.Standing number agreed) made service seen h = standing-is answer number agreed made service seen h
  seen-is answer (sight.Failed failure) made service seen h = absurd (not-some-err service _ h.1)

  round-is : (made : List Access) (service : Opened) → OpenRound hash node verdict made (Some (Ok service)) → IsMet hash verdict service
  round-is (Look under answer ∷ rest) service h = seen-is answer h.0 rest service h.2 h.3
  round-is made service h = absurd h

  -- an opening that comes to a service passes it on
  passed-on : (answer : Option (Result Opened (OpenFailure V))) (service : Opened) → Some (Ok service) ≡ opened_or_again answer
      → answer ≡ Some (Ok service)
  passed-on None service h = absurd (not-none service h)
  passed-on (Some (Ok other)) service h = ap (λ s. Some (Ok s)) (sym (same-service service other h))
  passed-on (Some (Err failure)) service h = absurd (not-some-err service _ h)

  -- and so does an attempt
  created-is : (came : Attempt) (service : Opened) → Some (Ok service) ≡ created_or_again {V = V} came → Ok service ≡ created came
  created-is (attempt.Made made) service h = ap (λ s. Ok s) (same-service service made h)
  created-is attempt.IsLocked service h = absurd (not-none service h)
  created-is attempt.Exists service h = absurd (not-none service h)
  created-is (attempt.Failed failure) service h = absurd (not-some-err service _ h)

  module _ (agreed : Agreement) (refusal : Option CreateFailure) where
    either-creates-is : (refused : Option CreateFailure) (made : List Access) (service : Opened)
        → EitherCreates hash node verdict agreed refusal refused made (Some (Ok service)) → (service.description ≡ agreed)
        × (refused ≡ None)
    either-creates-is (Some failure) made service h = absurd (not-some-err service _ h.1)
    either-creates-is None made service h =
        let p = creates-service hash node agreed None (Look hash look.Absent ∷ made) service
        (sight.Absent, h.0, refl, refl, h.1, created-is h.0 service h.2) in (p.1, refl)

    either-seen-is : (answer : LookAnswer) (shown : Sight) (made : List Access) (service : Opened) → IsSight hash answer shown
        → EitherSeen hash node verdict agreed refusal shown made (Some (Ok service)) → IsMet hash verdict service
        ⊎ ((service.description ≡ agreed) × (refusal ≡ None))
    either-seen-is answer sight.Absent made service seen h = inr (either-creates-is refusal made service h)
    either-seen-is answer (sight.Standing number other) made service seen (came, judged, is) =
        let P : Option (Result Opened (OpenFailure V)) → Type 0 = λ a. OpensJudged hash node verdict number other (verdict other) made a in
        inl (standing-is answer number other made service seen (subst P (passed-on came service is) judged))
    either-seen-is answer (sight.Failed failure) made service seen h = absurd (not-some-err service _ h.1)

    either-is : (made : List Access) (service : Opened) → EitherRound hash node verdict agreed refusal made (Some (Ok service))
        → IsMet hash verdict service ⊎ ((service.description ≡ agreed) × (refusal ≡ None))
    either-is (Look under answer ∷ rest) service h = either-seen-is answer h.0 rest service h.2 h.3
    either-is made service h = absurd h

pub opens-met : (V : Type 0) → OpenedIsMet V
opens-met V hash node verdict made service h =
    ⊎_elim (λ ending. round-is hash node verdict h.last service ending.1) (λ ending. absurd (not-ok-err service _ ending.2)) h.ends

pub either-met : (V : Type 0) → EitherIsMet V
either-met V hash node verdict agreed refusal made service h =
    ⊎_elim (λ ending. either-is hash node verdict agreed refusal h.last service ending.1)
    (λ ending. absurd (not-ok-err service _ ending.2)) h.ends

-- what is known to be Some is
pub some-is : {T : Type 0} (found : Option T) (value : T) → found ≡ Some value → IsSome found
some-is found value is = search rules
