-- A new life of a name has nothing of the lives before.
use Rattle.std.proofs.Common.{◌≡◌, ◌≤◌, ◌<◌, ◌+◌, ℕ, Bool, true, false, ◌&&◌, ◌||◌, List, [], ◌∷◌, Some, refl, sym, ap, subst, inl, inr}
use Rattle.std.proofs.Common.{arith, ◌∙◌, true≢false}
use Rattle.std.proofs.lemmas.Bool.{eqb-true, eq-eqb, false_from_ne_true}
use Rattle.std.specs.List.{AllByRecursion, list_any}
use Rattle.iox_machine.proofs.Shorthands.{factory_of}
use Rattle.iox_machine.specs.Choices.{Choices}
use Rattle.iox_machine.specs.AgreementLaws.{AreAbove, IsLaterThan, LivesStartAnew}
use Rattle.iox_machine.specs.NumberLaws.{publisher_told, subscriber_told, loan_told, sample_told}
use Rattle.iox_machine.specs.Phase.{same_pattern}
use Rattle.iox_machine.specs.Run.{Step, Runs}
use Rattle.iox_machine.specs.Service.{Service}
use Rattle.iox_machine.specs.State.{State, Made, Factory, new_state, counted, is_service_of}
use Rattle.std.specs.Prelude.{bytes_eq, ◌==◌}
use Rattle.iox_machine.proofs.Agreed.{new-stands, runs-stand}
use Rattle.iox_machine.proofs.Beginning.{or-first, or-second}
use Rattle.iox_machine.proofs.Cases.{both-true, same-some, never-some}
use Rattle.iox_machine.proofs.Counts.{has, added}
use Rattle.iox_machine.proofs.Kept.{Kept, IsNext, port-next}
use Rattle.iox_machine.proofs.Lists.{all-weaker}
use Rattle.iox_machine.proofs.Moving.{Keeps, IsNegotiated, creates, opens, opens-or-creates, negotiated-keeps, closed, closed-keeps}
use Rattle.iox_machine.proofs.Moving.{replaced-keeps, skipped-keeps}
use Rattle.iox_machine.proofs.Names.{and-true, name-is}
use Rattle.iox_machine.proofs.Ported.{IsBeside, ports-move}
use Rattle.iox_machine.proofs.Stands.{Stands, any-weaker}
use Rattle.iox_command.specs.NegotiateBase.DescribeBase.declared.message_type.MessageTypeDetails.{MessageTypeDetails}
use Rattle.iox_command.specs.NegotiateBase.DescribeBase.declared.pattern.MessagingPattern.TheVariants as messaging
use Rattle.iox_command.specs.declared.command.Command.{Command}
use Rattle.iox_command.specs.declared.command.Command.TheVariants as command
use Rattle.iox_command.specs.declared.reply.Reply.{Reply}
use Rattle.iox_command.specs.declared.reply.Reply.TheVariants as reply

none-passes : {X : Type 0} (test : X → Bool) (xs : List X) → AllByRecursion (λ (x : X). test x ≡ false) xs → list_any test xs ≡ false
none-passes test [] all = refl
none-passes test (x ∷ xs) all = λ i. all.0 i || none-passes test xs all.1 i

module _ {V : Type 0} (bound : ℕ) where
  above-all : (table : List (ℕ × V)) → ((number : ℕ) → has number table ≡ true → bound < number) → AreAbove bound table
  above-all [] h = tt
  above-all (entry ∷ more) h = (
    h entry.0 (or-first (entry.0 == entry.0) (has entry.0 more) (eq-eqb entry.0 entry.0 refl)),
    above-all more (λ number is. h number (or-second (entry.0 == number) (has number more) is)),
  )

  above-has : (table : List (ℕ × V)) → AreAbove bound table → (number : ℕ) → has number table ≡ true → bound < number
  above-has [] above number is = absurd (true≢false (sym is))
  above-has (entry ∷ more) above number is = here (entry.0 == number) refl is (above-has more above.1 number)
    where
      here : (b : Bool) → (entry.0 == number) ≡ b → (b || has number more) ≡ true → (has number more ≡ true → bound < number)
          → bound < number
      here true same found on = subst (λ (n : ℕ). bound < n) (eqb-true entry.0 number same) above.0
      here false same found on = on found

-- So much was made before.
abbrev Before : Made → Made → Type 0
Before bound made =
    (bound.publishers ≤ made.publishers) × (bound.subscribers ≤ made.subscribers) × (bound.loans ≤ made.loans)
    × (bound.samples ≤ made.samples)

before-counted : {T : Type 0} (bound : Made) (answer : Reply T) (made : Made) → Before bound made → Before bound (counted answer made)
before-counted bound (reply.PublisherMade number) made h = (
  let p : bound.publishers ≤ made.publishers = h.0 in omega
      (arith, p),
  h.1,
  h.2,
  h.3,
)
before-counted bound (reply.SubscriberMade number) made h =
    (h.0, let p : bound.subscribers ≤ made.subscribers = h.1 in omega (arith, p), h.2, h.3)
before-counted bound (reply.LoanMade number) made h = (h.0, h.1, let p : bound.loans ≤ made.loans = h.2 in omega (arith, p), h.3)
before-counted bound (reply.Received number values) made h =
    (h.0, h.1, h.2, let p : bound.samples ≤ made.samples = h.3 in omega (arith, p))
before-counted bound other made h = h

next-above : (low high number : ℕ) → low ≤ high → number ≡ high + 1 → low < number
next-above low high number h is = omega (arith, h, is)

publisher-next : {T : Type 0} (made : Made) (answer : Reply T) (number : ℕ) → publisher_told answer ≡ Some number → IsNext made answer
    → number ≡ made.publishers + 1
publisher-next made (reply.PublisherMade told) number is next = sym (same-some told number is) ∙ next
publisher-next made other number is next = never-some number is

subscriber-next : {T : Type 0} (made : Made) (answer : Reply T) (number : ℕ) → subscriber_told answer ≡ Some number → IsNext made answer
    → number ≡ made.subscribers + 1
subscriber-next made (reply.SubscriberMade told) number is next = sym (same-some told number is) ∙ next
subscriber-next made other number is next = never-some number is

loan-next : {T : Type 0} (made : Made) (answer : Reply T) (number : ℕ) → loan_told answer ≡ Some number → IsNext made answer
    → number ≡ made.loans + 1
loan-next made (reply.LoanMade told) number is next = sym (same-some told number is) ∙ next
loan-next made other number is next = never-some number is

sample-next : {T : Type 0} (made : Made) (answer : Reply T) (number : ℕ) → sample_told answer ≡ Some number → IsNext made answer
    → number ≡ made.samples + 1
sample-next made (reply.Received told values) number is next = sym (same-some told number is) ∙ next
sample-next made other number is next = never-some number is

module _ {T : Type 0} (name : List ℕ) (bound : Made) where
  -- A service of this name goes by later numbers.
  abbrev Later : Service T → Type 0
  Later service = bytes_eq service.name name ≡ true → IsLaterThan bound service

  kept-later : (made : Made) (service : Service T) (answer : Reply T) (after : Service T) → Kept made service answer after
      → Before bound made → Later service → Later after
  kept-later made service answer after kept before later is =
      let was : IsLaterThan bound service = later (subst (λ (n : List ℕ). bytes_eq n name ≡ true) kept.name is) in (
        above-all bound.publishers after.publishers (λ number found. elim
            (added number service.publishers (publisher_told answer) after.publishers kept.publishers found) [
              | inl there ↦ above-has bound.publishers service.publishers was.0 number there
              | inr told ↦ next-above bound.publishers made.publishers number before.0
                  (publisher-next made answer number told (port-next made answer kept.next))
            ]),
        above-all bound.subscribers after.subscribers (λ number found. elim
            (added number service.subscribers (subscriber_told answer) after.subscribers kept.subscribers found) [
              | inl there ↦ above-has bound.subscribers service.subscribers was.1 number there
              | inr told ↦ next-above bound.subscribers made.subscribers number before.1
                  (subscriber-next made answer number told (port-next made answer kept.next))
            ]),
        above-all bound.loans after.loans (λ number found. elim
            (added number service.loans (loan_told answer) after.loans kept.loans found) [
              | inl there ↦ above-has bound.loans service.loans was.2 number there
              | inr told ↦ next-above bound.loans made.loans number before.2
                  (loan-next made answer number told (port-next made answer kept.next))
            ]),
        above-all bound.samples after.samples (λ number found. elim
            (added number service.samples (sample_told answer) after.samples kept.samples found) [
              | inl there ↦ above-has bound.samples service.samples was.3 number there
              | inr told ↦ next-above bound.samples made.samples number before.3
                  (sample-next made answer number told (port-next made answer kept.next))
            ]),
      )

  module _ (types : MessageTypeDetails) (choices : Choices T) (buffer : ℕ) where
    beside : (asked : Command T) (old : State T) (answer : Reply T) (new : State T) → Before bound old.made
        → IsBeside asked old answer new
        → AllByRecursion Later old.services → Keeps Later old answer new
    beside asked old answer new before (inl skipped) all = skipped-keeps Later old answer new skipped all
    beside asked old answer new before (inr (has_it, service, after, first, kept, off, came)) all = (
      subst (λ (state : State T). AllByRecursion Later state.services) (sym came)
          (replaced-keeps Later Later has_it service after old.services (λ it later. later)
          (kept-later old.made service answer after kept before) first all),
      ap (λ (state : State T). state.made) came,
    )

    negotiating : (factory : Factory) (old : State T) (answer : Reply T) (new : State T) → IsNegotiated factory old answer new
        → AllByRecursion Later old.services → Keeps Later old answer new
    negotiating factory old answer new h all = negotiated-keeps Later factory (λ c is. (tt, tt, tt, tt)) old answer new h all

    steps-later : (asked : Command T) (old : State T) (answer : Reply T) (new : State T) → Before bound old.made
        → Step types choices buffer asked old answer new → AllByRecursion Later old.services → Keeps Later old answer new
    steps-later command.Node old answer new before (inl (told, came)) all =
        (subst (λ (state : State T). AllByRecursion Later state.services) (sym came) all, ap (λ (state : State T). state.made) came)
    steps-later command.Node old answer new before (inr refused) all = (
      subst (λ (state : State T). AllByRecursion Later state.services) (sym refused.1) all,
      ap (λ (state : State T). state.made) refused.1 ∙ ap (λ (it : Reply T). counted it old.made) (sym refused.0),
    )
    steps-later (command.Create node other options attributes steps) old answer new before h all =
        negotiating (factory_of node other options) old answer new
        (creates types steps (factory_of node other options) old answer new options attributes h) all
    steps-later (command.Open node other options required steps) old answer new before h all =
        negotiating (factory_of node other options) old answer new
        (opens types steps (factory_of node other options) old answer new options required h) all
    steps-later (command.OpenOrCreate node other options required steps) old answer new before h all =
        negotiating (factory_of node other options) old answer new
        (opens-or-creates types steps (factory_of node other options) old answer new options required h) all
    steps-later (command.Foreign pattern other steps) old answer new before (inl (told, came)) all = (
      subst (λ (state : State T). AllByRecursion Later state.services) (sym came) all,
      ap (λ (state : State T). state.made) came ∙ ap (λ (it : Reply T). counted it old.made) (sym told),
    )
    steps-later (command.Foreign pattern other steps) old answer new before (inr (done, few, refused)) all = (
      subst (λ (state : State T). AllByRecursion Later state.services) (sym refused.1) all,
      ap (λ (state : State T). state.made) refused.1 ∙ ap (λ (it : Reply T). counted it old.made) (sym refused.0),
    )
    steps-later (command.Close factory) old answer new before h all =
        closed-keeps Later factory old answer new (closed factory old answer new h) all
    steps-later asked old answer new before h all =
        beside asked old answer new before (ports-move types choices buffer asked old answer new refl h) all

    runs-later : (asked : List (Command T)) (old : State T) (answers : List (Reply T)) (new : State T) → Before bound old.made
        → Runs types choices buffer asked old answers new → AllByRecursion Later old.services → AllByRecursion Later new.services
    runs-later [] old answers new before run all = subst (λ (state : State T). AllByRecursion Later state.services) (sym run.1) all
    runs-later (one ∷ more) old answers new before run all =
        let kept : Keeps Later old run.0 run.1 = steps-later one old run.0 run.1 before run.3 all in
        runs-later more run.1 run.2 new
        (subst (λ (made : Made). Before bound made) (sym kept.1) (before-counted bound run.0 old.made before)) run.4 kept.0

-- whether a factory is of the publish-subscribe service of a name
abbrev names : List ℕ → Factory → Bool
names name factory = same_pattern factory.pattern messaging.PublishSubscribe && bytes_eq name factory.name

no-service : {T : Type 0} (state : State T) (name : List ℕ) → Stands state
    → list_any (λ (entry : ℕ × Factory). names name entry.1) state.factories ≡ false
    → AllByRecursion (λ (service : Service T). bytes_eq service.name name ≡ false) state.services
no-service {T} state name stands none =
    all-weaker (λ (service : Service T). list_any (λ (entry : ℕ × Factory). is_service_of entry.1 service) state.factories ≡ true)
    (λ (service : Service T). bytes_eq service.name name ≡ false)
    (λ service manned. false_from_ne_true (bytes_eq service.name name) (λ is. true≢false (sym (any-weaker
    (λ (entry : ℕ × Factory). is_service_of entry.1 service) (λ (entry : ℕ × Factory). names name entry.1)
    (λ entry of. and-true (same_pattern entry.1.pattern messaging.PublishSubscribe) (bytes_eq name entry.1.name)
    (both-true (same_pattern entry.1.pattern messaging.PublishSubscribe) (bytes_eq service.name entry.1.name) of).0
    (subst (λ (n : List ℕ). bytes_eq n entry.1.name ≡ true) (name-is service.name name is)
    (both-true (same_pattern entry.1.pattern messaging.PublishSubscribe) (bytes_eq service.name entry.1.name) of).1))
    state.factories manned) ∙ none))) state.services stands.manned

pub lives-start-anew : {T : Type 0} (choices : Choices T) → LivesStartAnew choices
lives-start-anew {T} choices types buffer before told old run name none =
    let gone : AllByRecursion (λ (service : Service T). bytes_eq service.name name ≡ false) old.services =
    no-service old name (runs-stand types choices buffer before new_state told old run new-stands) none in (
      none-passes (λ (service : Service T). bytes_eq service.name name) old.services gone,
      (λ asked answers new ran. runs-later name old.made types choices buffer asked old answers new
          (omega arith, omega arith, omega arith, omega arith) ran
          (all-weaker (λ (service : Service T). bytes_eq service.name name ≡ false) (Later name old.made)
          (λ service off is. absurd (true≢false (sym is ∙ off))) old.services gone)),
    )
