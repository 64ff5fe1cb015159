-- What a loan of a port in threads answers.
use Rattle.std.proofs.Common.{ℕ, ◌≡◌, Bool, true, List, slice_get, Option, Some, None, sym, subst, inl, inr}
use Rattle.iox_lanes_machine.specs.QueuesSteps.Access.{successor}
use Rattle.iox_lanes_machine.specs.QueuesSteps.declared.order.PopAnswer.{PopAnswer}
use Rattle.iox_lanes_machine.specs.QueuesSteps.declared.order.PopAnswer.TheVariants.{Got, Saw}
use Rattle.iox_lanes_machine.specs.QueuesSteps.Refusing as refusing
use Rattle.iox_lanes_machine.specs.QueuesSteps.declared.rings.refusing.pop.Pop.{Pop}
use Rattle.iox_lanes_machine.specs.LanesBase.Answers.{refusing_pop_answer}
use Rattle.iox_lanes_machine.specs.LanesBase.Publishing.{publisher_take, publisher_is_over, loan_from, loan_reclaimed}
use Rattle.iox_lanes_machine.specs.LanesBase.declared.calls.publisher.PublisherCall.{PublisherCall}
use Rattle.iox_lanes_machine.specs.LanesBase.declared.calls.publisher.PublisherCall.TheVariants as publishing
use Rattle.iox_lanes_machine.specs.LanesBase.declared.calls.route.Route.{Route}
use Rattle.iox_lanes_machine.specs.LanesParties.Publishers.{words_of as call_words}
use Rattle.iox_lanes_machine.specs.LanesParties.declared.publisher.slot_book.LoanAnswer.{LoanAnswer}
use Rattle.iox_lanes_machine.specs.LanesParties.declared.publisher.slot_book.LoanAnswer.TheVariants as loan_answer
use Rattle.iox_lanes_machine.specs.LanesParties.Parties.{PublisherLaneState, publisher_fits, publisher_begun, publisher_answer, lent}
use Rattle.iox_lanes_machine.specs.LanesParties.declared.call.Answer.{Answer}
use Rattle.iox_lanes_machine.specs.LanesParties.declared.call.Answer.TheVariants as answer
use Rattle.iox_lanes_machine.specs.LanesParties.declared.call.Call.TheVariants as call
use Rattle.iox_lanes_machine.specs.LanesParties.declared.call.Move.TheVariants.{Begin}
use Rattle.iox_lanes_threads_rule.specs.declared.view.Port.{Port}
use Rattle.iox_lanes_threads_ports.specs.Paces.{loan_steps, PublisherEnds}
use Rattle.iox_lanes_threads_ports.specs.Ports.{PublisherStands}
use Rattle.iox_lanes_threads_ports.specs.Values.{PublisherPort, PublisherDoes, lent_of, Loans}
use Rattle.iox_lanes_threads_ports.proofs.KnownWrites.{publisher_along}
use Rattle.iox_lanes_threads_ports.proofs.Running.{publisher_begun_stands}

-- the stages of a loan
abbrev InLoan : PublisherCall → Type 0
InLoan publishing.Idle = Unit {0}
InLoan (publishing.LoanReclaims place route pop) = Unit {0}
InLoan publishing.Lending = Unit {0}
InLoan (publishing.Writing slot word value) = ⊥
InLoan (publishing.Written slot) = ⊥
InLoan (publishing.Heading slot word value) = ⊥
InLoan (publishing.Remembering slot) = ⊥
InLoan (publishing.SendReclaims slot place route pop) = ⊥
InLoan (publishing.Pushing slot place route push delivery) = ⊥
InLoan (publishing.Sent slot delivery) = ⊥
InLoan (publishing.Dropping slot) = ⊥

begins_loan : (place : ℕ) (at : Option Route) → InLoan (loan_from place at)
begins_loan place None = tt
begins_loan place (Some route) = tt

reclaims_loan : (routes : List Route) (place : ℕ) (route : Route) (pop : Pop) (a : Option PopAnswer)
    → InLoan (loan_reclaimed routes place route pop a)
reclaims_loan routes place route pop None = tt
reclaims_loan routes place route pop (Some (Got (Some slot))) = tt
reclaims_loan routes place route pop (Some (Got None)) = begins_loan (successor place) (slice_get routes (successor place))
reclaims_loan routes place route pop (Some (Saw some)) = begins_loan (successor place) (slice_get routes (successor place))

loan_goes : (routes : List Route) (words : List ℕ) (c : PublisherCall) (n : ℕ) → InLoan c → InLoan (publisher_take routes words c n)
loan_goes routes words publishing.Idle n h = tt
loan_goes routes words (publishing.LoanReclaims place route pop) n h
    = reclaims_loan routes place route (refusing.pop_take pop n) (refusing_pop_answer (refusing.pop_take pop n))
loan_goes routes words publishing.Lending n h = tt
loan_goes routes words (publishing.Writing slot word value) n h = absurd h
loan_goes routes words (publishing.Written slot) n h = absurd h
loan_goes routes words (publishing.Heading slot word value) n h = absurd h
loan_goes routes words (publishing.Remembering slot) n h = absurd h
loan_goes routes words (publishing.SendReclaims slot place route pop) n h = absurd h
loan_goes routes words (publishing.Pushing slot place route push delivery) n h = absurd h
loan_goes routes words (publishing.Sent slot delivery) n h = absurd h
loan_goes routes words (publishing.Dropping slot) n h = absurd h

lends : (loan : Option LoanAnswer) (a : Answer) → Some (lent loan) ≡ Some a → (given : LoanAnswer) × (a ≡ answer.Lent given)
lends None a e = (loan_answer.OutOfMemory, cc e)
lends (Some given) a e = (given, cc e)

over_answer : (fails : Bool) (c : PublisherCall) (loan : Option LoanAnswer) (a : Answer) → InLoan c → publisher_is_over c ≡ true
    → publisher_answer fails c loan ≡ Some a → (given : LoanAnswer) × (a ≡ answer.Lent given)
over_answer fails publishing.Idle loan a h over e = absurd (cc e)
over_answer fails (publishing.LoanReclaims place route pop) loan a h over e = absurd (cc over)
over_answer fails publishing.Lending loan a h over e = lends loan a e
over_answer fails (publishing.Writing slot word value) loan a h over e = absurd h
over_answer fails (publishing.Written slot) loan a h over e = absurd h
over_answer fails (publishing.Heading slot word value) loan a h over e = absurd h
over_answer fails (publishing.Remembering slot) loan a h over e = absurd h
over_answer fails (publishing.SendReclaims slot place route pop) loan a h over e = absurd h
over_answer fails (publishing.Pushing slot place route push delivery) loan a h over e = absurd h
over_answer fails (publishing.Sent slot delivery) loan a h over e = absurd h
over_answer fails (publishing.Dropping slot) loan a h over e = absurd h

loan_ends : (most : ℕ) (p : Port) (lane : PublisherLaneState) (q : Port) (now : PublisherLaneState) (a : Answer)
    → PublisherStands p lane → publisher_fits lane (Begin call.LoanUninit) ≡ true
    → PublisherEnds most p (publisher_begun 0 call.LoanUninit lane) q now a
    → (given : LoanAnswer) × (a ≡ answer.Lent given)
loan_ends most p lane q now a stands fit run =
    let end = publisher_along (λ z l. InLoan l.port.call)
    (λ z l n there told h. loan_goes l.port.routes (call_words l.port) l.port.call n h) p (publisher_begun 0 call.LoanUninit lane) q
    run.last run.goes
    (publisher_begun_stands p lane (Begin call.LoanUninit) stands fit) (begins_loan 0 (slice_get lane.port.routes 0)) in
    over_answer run.last.fails run.last.port.call now.port.book.answer a end.1 run.ends run.answers

-- what a loan does
pub loan_called : (old new : PublisherPort) (given : Option Answer) → PublisherStands old.port old.lane → new.table ≡ old.table
    → PublisherDoes (loan_steps old.port.service.sizes) old.port old.lane (Begin call.LoanUninit) new.port new.lane given
    → Loans old new (lent_of given)
loan_called old new None stands table does = elim does [
  | inl none ↦ inl (none.0, (table, none.2, none.3))
  | inr inside ↦ inr inside
]
loan_called old new (Some a) stands table does = elim does [
  | inl none ↦ absurd (cc none.1)
  | inr done ↦
      let told = loan_ends (loan_steps old.port.service.sizes) old.port old.lane new.port new.lane a stands done.0 done.1 in
      subst (λ (x : Answer). Loans old new (lent_of (Some x))) (sym told.1) (
        done.0,
        subst (λ (x : Answer). PublisherEnds (loan_steps old.port.service.sizes) old.port
            (publisher_begun 0 call.LoanUninit old.lane) new.port new.lane x) told.1 done.1,
      )
]
