-- The steps of each call on a container are those that its value asked for, after one more step.
use Rattle.std.proofs.Common.{◌≡◌, ℕ, Bool, true, false, Option, Some, None, List, [], ◌∷◌, ◌++◌, length, drop, refl, sym, ◌∙◌, ap}
use Rattle.std.proofs.Common.{subst, arith}
use Rattle.std.specs.Global.{Vec}
use Rattle.std.proofs.Math.Seq.{take-append_seam}
use Rattle.std.proofs.lemmas.List.{take-append-le}
use Rattle.iox_queues.specs.Recorded.{local_step}
use Rattle.iox_queues.specs.Spans.{AreWithin}
use Rattle.iox_queues.specs.Told.{own}
use Rattle.iox_queues.specs.declared.bits.machine.Event.{Event}
use Rattle.iox_robust_steps.specs.ContainerAsked.{AreMembersAsked, IsMemberAsked, IsMemberAskedSoFar, MemberGoes}
use Rattle.iox_robust_steps.specs.ContainerMachine.{member_ended}
use Rattle.iox_robust_steps.specs.ContainerStays.{member_spans}
use Rattle.iox_robust_steps.specs.ContainerSteps.{member_begun, member_in_hand, member_is_over, member_next, member_take}
use Rattle.iox_robust_steps.specs.declared.call.Answer.{Answer}
use Rattle.iox_robust_steps.specs.declared.container.call.ContainerCall.{ContainerCall}
use Rattle.iox_robust_steps.specs.declared.container.call.ContainerCall.TheVariants as stage
use Rattle.iox_robust_steps.specs.declared.container.call.MemberCall.{MemberCall}
use Rattle.iox_robust_steps.specs.declared.container.MemberFinished.{MemberFinished}
use Rattle.iox_robust_steps.proofs.ContainerCalls.{begun_call, same_call}

-- a call that is over is none afterwards
over_idle : (n width saw : ℕ) (got : Option Answer) (finds : Bool) (answer : ℕ) (t : ContainerCall) → member_is_over t ≡ true
    → member_take n width saw got finds t answer ≡ stage.Idle
over_idle n width saw got finds answer stage.Idle h = refl
over_idle n width saw got finds answer (stage.Enter number owner) h = absurd (cc)
over_idle n width saw got finds answer (stage.Fill number owner index next) h = absurd (cc)
over_idle n width saw got finds answer (stage.Show number owner index seen) h = absurd (cc)
over_idle n width saw got finds answer (stage.Sink owner index mode) h = absurd (cc)
over_idle n width saw got finds answer (stage.Hide owner index mode seen) h = absurd (cc)
over_idle n width saw got finds answer (stage.Leave owner index mode) h = absurd (cc)
over_idle n width saw got finds answer (stage.Drop owner index mode) h = absurd (cc)
over_idle n width saw got finds answer (stage.Count c a) h = absurd (cc)
over_idle n width saw got finds answer (stage.Raise c a seen) h = absurd (cc)
over_idle n width saw got finds answer stage.Look h = absurd (cc)
over_idle n width saw got finds answer (stage.Visit i) h = absurd (cc)
over_idle n width saw got finds answer (stage.Gather i seen next) h = absurd (cc)
over_idle n width saw got finds answer (stage.Search o j mode) h = absurd (cc)
over_idle n width saw got finds answer (stage.Watch o j mode i) h = absurd (cc)
over_idle n width saw got finds answer (stage.Ask o j mode i seen) h = absurd (cc)
over_idle n width saw got finds answer (stage.Expel o j mode i seen) h = absurd (cc)
over_idle n width saw got finds answer (stage.Clear o j mode i) h = absurd (cc)
over_idle n width saw got finds answer (stage.Close o j mode) h = absurd (cc)
over_idle n width saw got finds answer (stage.Done c a) h = refl

module _ (n width : ℕ) (values : List (Vec ℕ)) where
  abbrev pub SoFar : ℕ → Option MemberCall → ContainerCall → List Event → Type 0
  SoFar party o t events = IsMemberAskedSoFar n width values party o t events

  module _ (saw : ℕ) (got : Option Answer) (finds : Bool) (e : Event) (t : ContainerCall) (is : e.access ≡ member_next n width values t)
    where
      abbrev next : ContainerCall
      next = member_take n width saw got finds t e.answer

      goes_more : (events : List Event) (s : ContainerCall) → MemberGoes n width values s events t
          → MemberGoes n width values s (events ++ e ∷ []) next
      goes_more [] s h = (
        is ∙ ap (λ (u : ContainerCall). member_next n width values u) h,
        saw,
        got,
        finds,
        ap (λ (u : ContainerCall). member_take n width saw got finds u e.answer) h,
      )
      goes_more (x ∷ events) s h = (h.0, h.1, h.2, h.3, goes_more events (member_take n width h.1 h.2 h.3 s x.answer) h.4)

      asked_more : (party : ℕ) (c : MemberCall) (events : List Event) → IsMemberAsked n width values party c t events
          → IsMemberAsked n width values party c next (events ++ e ∷ [])
      asked_more party c events a = record {
        between = a.between ++ e ∷ [];
        whole = ap (λ (es : List Event). es ++ e ∷ []) a.whole;
        goes = goes_more a.between (member_begun c) a.goes;
      }

      pub member_asked_next : (party : ℕ) (events : List Event) → SoFar party (member_in_hand t) t events
          → SoFar party (member_in_hand next) next (events ++ e ∷ [])
      member_asked_next party events a = of (member_is_over t) refl
        where
          still : (o : Option MemberCall) → SoFar party o t events → SoFar party o next (events ++ e ∷ [])
          still None h = tt
          still (Some c) h = asked_more party c events h

          of : (b : Bool) → member_is_over t ≡ b → SoFar party (member_in_hand next) next (events ++ e ∷ [])
          of true over = subst (λ (u : ContainerCall). SoFar party (member_in_hand u) u (events ++ e ∷ []))
              (sym (over_idle n width saw got finds e.answer t over)) tt
          of false over = subst (λ (o : Option MemberCall). SoFar party o next (events ++ e ∷ []))
              (sym (same_call n width saw got finds t e.answer over)) (still (member_in_hand t) a)

  -- a call that begins
  pub member_asked_first : (party : ℕ) (c : MemberCall)
      → SoFar party (member_in_hand (member_begun c)) (member_begun c) (local_step party ∷ [])
  member_asked_first party c = subst (λ (o : Option MemberCall). SoFar party o (member_begun c) (local_step party ∷ []))
      (sym (begun_call c)) (record { between = []; whole = refl; goes = refl })

  -- calls that ended
  pub members_asked_on : (events : List Event) (e : Event) (finished : List MemberFinished) → AreWithin events (member_spans finished)
      → AreMembersAsked n width values events finished → AreMembersAsked n width values (events ++ e ∷ []) finished
  members_asked_on events e [] within h = tt
  members_asked_on events e (f ∷ finished) within h = (
    subst (λ (es : List Event). IsMemberAsked n width values f.party f.call (stage.Done f.call f.answer) (own f.party (drop f.first es)))
        (sym (take-append-le f.last events (e ∷ []) (omega (arith, within.0.ended)))) h.0,
    members_asked_on events e finished within.1 h.1,
  )

  pub members_asked_append : (events : List Event) (xs ys : List MemberFinished) → AreMembersAsked n width values events xs
      → AreMembersAsked n width values events ys → AreMembersAsked n width values events (xs ++ ys)
  members_asked_append events [] ys h g = g
  members_asked_append events (x ∷ xs) ys h g = (h.0, members_asked_append events xs ys h.1 g)

  pub member_call_asked : (party first : ℕ) (events : List Event) (e : Event) (t : ContainerCall)
      → SoFar party (member_in_hand t) t (own party (drop first events))
      → AreMembersAsked n width values (events ++ e ∷ []) (member_ended party first (length events) t)
  member_call_asked party first events e stage.Idle a = tt
  member_call_asked party first events e (stage.Enter number owner) a = tt
  member_call_asked party first events e (stage.Fill number owner index j) a = tt
  member_call_asked party first events e (stage.Show number owner index seen) a = tt
  member_call_asked party first events e (stage.Sink owner index mode) a = tt
  member_call_asked party first events e (stage.Hide owner index mode seen) a = tt
  member_call_asked party first events e (stage.Leave owner index mode) a = tt
  member_call_asked party first events e (stage.Drop owner index mode) a = tt
  member_call_asked party first events e (stage.Count c answer) a = tt
  member_call_asked party first events e (stage.Raise c answer seen) a = tt
  member_call_asked party first events e stage.Look a = tt
  member_call_asked party first events e (stage.Visit i) a = tt
  member_call_asked party first events e (stage.Gather i seen j) a = tt
  member_call_asked party first events e (stage.Search o j mode) a = tt
  member_call_asked party first events e (stage.Watch o j mode i) a = tt
  member_call_asked party first events e (stage.Ask o j mode i seen) a = tt
  member_call_asked party first events e (stage.Expel o j mode i seen) a = tt
  member_call_asked party first events e (stage.Clear o j mode i) a = tt
  member_call_asked party first events e (stage.Close o j mode) a = tt
  member_call_asked party first events e (stage.Done c answer) a = (
    subst (λ (es : List Event). IsMemberAsked n width values party c (stage.Done c answer) (own party (drop first es)))
        (sym (take-append_seam events (e ∷ []))) a,
    tt,
  )
