-- What a service does alone it does among others.
use Rattle.std.proofs.Common.{◌≡◌, ◌+◌, ℕ, Bool, true, false, cond, ◌&&◌, ◌||◌, List, [], ◌∷◌, ◌++◌, length, map, set, Option, None, Some}
use Rattle.std.proofs.Common.{refl, sym, ap, subst, inl, inr, ◌∙◌, true≢false}
use Rattle.std.specs.Global.{Vec}
use Rattle.std.specs.List.{list_any}
use Rattle.std.specs.Option.{option_map_or}
use Rattle.std.specs.Prelude.{◌==◌, nat_lt, is_some, find, MatchOption}
use Rattle.std.specs.Vec.{vec_items}
use Rattle.iox_machine.specs.Choices.{Choices}
use Rattle.iox_machine.specs.AmongLaws.{with_services, StepsAmong, UnknownIsSkipped}
use Rattle.iox_machine.specs.Arriving.{PublisherArrives, SubscriberArrives, new_publisher, new_subscriber}
use Rattle.iox_machine.specs.Message.{Loan, Sample}
use Rattle.iox_machine.specs.RunLaws.{is_written}
use Rattle.iox_machine.specs.Named.{is_on_ports, has_named}
use Rattle.iox_machine.specs.Ports.{publisher_in, subscriber_in, LendsLoan, Puts, SendsLoan, Writes, Releases}
use Rattle.iox_machine.specs.PublisherUpdate as publishing
use Rattle.iox_machine.specs.Receiving.{Receives, has_samples}
use Rattle.iox_machine.specs.Run.{Step, AtFactory}
use Rattle.iox_machine.specs.Sending.{GoesOn}
use Rattle.iox_machine.specs.Service.{Service, Publisher, Subscriber, Send}
use Rattle.iox_machine.proofs.Shorthands.{with_publisher, with_subscriber, left, IsSkipped, AtFree, AtBlocked}
use Rattle.iox_machine.specs.State.{State, Factory, Made, AtOne, counted, replaced, is_service_of}
use Rattle.iox_machine.specs.SubscriberUpdate as subscribing
use Rattle.iox_machine.specs.Table.{at, removed}
use Rattle.iox_machine.proofs.Cases.{by-option, never-some}
use Rattle.iox_command.specs.DomainValues.declared.port_error.ReceiveError.TheVariants as receive_error
use Rattle.iox_command.specs.NegotiateBase.DescribeBase.declared.message_type.MessageTypeDetails.{MessageTypeDetails}
use Rattle.iox_command.specs.declared.command.Command.{Command}
use Rattle.iox_command.specs.declared.command.Command.TheVariants as command
use Rattle.iox_command.specs.declared.port.PortNumber.TheVariants as port
use Rattle.iox_command.specs.declared.refusal.Refusal.TheVariants as refusal
use Rattle.iox_command.specs.declared.reply.Reply.{Reply}
use Rattle.iox_command.specs.declared.reply.Reply.TheVariants as reply

-- ---- lists

neither : (one other : Bool) → (one || other) ≡ false → (one ≡ false) × (other ≡ false)
neither true other none = absurd (true≢false none)
neither false other none = (refl, none)

find-past : {X : Type 0} (has : X → Bool) (before more : List X) → list_any has before ≡ false
    → find has (before ++ more) ≡ find has more
find-past has [] more none = refl
find-past has (x ∷ before) more none =
    ap (λ (b : Bool). cond b (Some x) (find has (before ++ more))) (neither (has x) (list_any has before) none).0
    ∙ find-past has before more (neither (has x) (list_any has before) none).1

find-nothing : {X : Type 0} (has : X → Bool) (xs : List X) → list_any has xs ≡ false → find has xs ≡ None
find-nothing has [] none = refl
find-nothing has (x ∷ xs) none =
    ap (λ (b : Bool). cond b (Some x) (find has xs)) (neither (has x) (list_any has xs) none).0
    ∙ find-nothing has xs (neither (has x) (list_any has xs) none).1

replaced-past : {T : Type 0} (has : Service T → Bool) (after service : Service T) (before behind : List (Service T))
    → list_any has before ≡ false → has service ≡ true
    → replaced has after (before ++ service ∷ behind) ≡ before ++ after ∷ behind
replaced-past has after service [] behind none is =
    ap (λ (b : Bool). cond b (after ∷ behind) (service ∷ replaced has after behind)) is
replaced-past has after service (one ∷ before) behind none is =
    ap (λ (b : Bool). cond b (after ∷ (before ++ service ∷ behind)) (one ∷ replaced has after (before ++ service ∷ behind)))
    (neither (has one) (list_any has before) none).0
    ∙ ap (λ (more : List (Service _)). one ∷ more)
    (replaced-past has after service before behind (neither (has one) (list_any has before) none).1 is)

abbrev first : {X : Type 0} → X → List X → X
first default [] = default
first default (x ∷ xs) = x

is-some-cond : {X : Type 0} (b : Bool) (x : X) → is_some (cond b (Some x) None) ≡ b
is-some-cond true x = refl
is-some-cond false x = refl

module _ {T : Type 0} (state : State T) (answer : Reply T) (before behind : List (Service T)) (service after : Service T) where
  abbrev alone : State T
  alone = with_services (service ∷ []) state

  abbrev alone_then : State T
  alone_then = record (with_services (after ∷ []) state) { made = counted answer state.made }

  abbrev among : State T
  among = with_services (before ++ service ∷ behind) state

  abbrev among_then : State T
  among_then = record (with_services (before ++ after ∷ behind) state) { made = counted answer state.made }

  abbrev first_service : State T → Service T
  first_service one = first service one.services

  skipped : IsSkipped alone answer alone_then → IsSkipped among answer among_then
  skipped (told, same) = (
    told,
    λ i. record (with_services (before ++ ap first_service same i ∷ behind) state)
        { made = ap (λ (one : State T). one.made) same i },
  )

  module _ {V : Type 0} (found : Service T → Option V) (Does : V → Service T → Reply T → Service T → Type 0) where
    abbrev has : Service T → Bool
    has other = is_some (found other)

    -- what a service does that was found
    abbrev Done : State T → State T → Service T → Type 0
    Done old new one =
        (later : Service T) × MatchOption (found one) ⊥ (λ v. Does v one answer later)
        × (new ≡ record old { made = counted answer old.made; services = replaced has later old.services })

    one-among : list_any has before ≡ false → list_any has behind ≡ false → AtOne found Does alone answer alone_then
        → AtOne found Does among answer among_then
    one-among none nothing h =
        elim (by-option (find has (service ∷ [])) (IsSkipped alone answer alone_then) (Done alone alone_then) h) [
          | inl w ↦ absent (has service) refl w.0 w.1
          | inr w ↦ there w.0 (has service) refl w.1 w.2
        ]
      where
        found_or : {o p : Option (Service T)} → o ≡ p
            → MatchOption p (IsSkipped among answer among_then) (Done among among_then)
            → MatchOption o (IsSkipped among answer among_then) (Done among among_then)
        found_or same it =
            subst (λ (o : Option (Service T)). MatchOption o (IsSkipped among answer among_then) (Done among among_then)) (sym same) it

        -- where the search ends that passed those before
        past : (b : Bool) → has service ≡ b → find has (before ++ service ∷ behind) ≡ cond b (Some service) (find has behind)
        past b is = find-past has before (service ∷ behind) none ∙ ap (λ (it : Bool). cond it (Some service) (find has behind)) is

        absent : (b : Bool) → has service ≡ b → cond b (Some service) None ≡ None → IsSkipped alone answer alone_then
            → AtOne found Does among answer among_then
        absent true is gone skips = never-some service (sym gone)
        absent false is gone skips = found_or (past false is ∙ find-nothing has behind nothing) (skipped skips)

        there : (one : Service T) (b : Bool) → has service ≡ b → cond b (Some service) None ≡ Some one → Done alone alone_then one
            → AtOne found Does among answer among_then
        there one false is met did = never-some one met
        there one true is met (later, does, new) =
            found_or (past true is ∙ met) (
              later,
              does,
              ap (λ (it : Service T). record (with_services (before ++ it ∷ behind) state) { made = counted answer state.made })
                  (ap first_service new ∙ ap (λ (b : Bool). first service (cond b (later ∷ []) (service ∷ []))) is)
                  ∙ ap (λ (services : List (Service T)). record (with_services services state) { made = counted answer state.made })
                  (sym (replaced-past has later service before behind none is)),
            )

  module _ (types : MessageTypeDetails) (choices : Choices T) (buffer : ℕ) where
    at-factory-among : (number : ℕ) (Does : Service T → Reply T → Service T → Type 0)
        → list_any (λ (other : Service T). option_map_or (λ (one : Factory). is_service_of one other) (at number state.factories) false)
        before ≡ false
        → list_any (λ (other : Service T). option_map_or (λ (one : Factory). is_service_of one other) (at number state.factories) false)
        behind ≡ false
        → AtFactory types choices buffer number Does alone answer alone_then
        → AtFactory types choices buffer number Does among answer among_then
    at-factory-among number Does none nothing h =
        elim (by-option (at number state.factories) (IsSkipped alone answer alone_then)
        (λ factory. AtOne (λ (other : Service T). cond (is_service_of factory other) (Some other) None)
        (λ (other : Service T). Does) alone answer alone_then) h) [
          | inl w ↦ go w.0 (skipped w.1)
          | inr w ↦ go w.1 (one-among (λ (other : Service T). cond (is_service_of w.0 other) (Some other) None)
              (λ (other : Service T). Does)
              (of w.0 w.1 before none) (of w.0 w.1 behind nothing) w.2)
        ]
      where
        go : {o : Option Factory} → at number state.factories ≡ o
            → MatchOption o (IsSkipped among answer among_then)
            (λ factory. AtOne (λ (other : Service T). cond (is_service_of factory other) (Some other) None)
            (λ (other : Service T). Does) among answer among_then)
            → AtFactory types choices buffer number Does among answer among_then
        go same it =
            subst (λ (o : Option Factory). MatchOption o (IsSkipped among answer among_then)
            (λ factory. AtOne (λ (other : Service T). cond (is_service_of factory other) (Some other) None)
            (λ (other : Service T). Does) among answer among_then)) (sym same) it

        of : (factory : Factory) → at number state.factories ≡ Some factory → (services : List (Service T))
            → list_any (λ (other : Service T). option_map_or (λ (one : Factory). is_service_of one other) (at number state.factories)
            false) services ≡ false
            → list_any (λ (other : Service T). is_some (cond (is_service_of factory other) (Some other) None)) services ≡ false
        of factory found services is =
            ap (λ (test : Service T → Bool). list_any test services)
            (λ i other. (is-some-cond (is_service_of factory other) other
            ∙ sym (ap (λ (o : Option Factory). option_map_or (λ (one : Factory). is_service_of one other) o false) found)) i) ∙ is

-- ---- each command on ports, loans and samples

module _ {T : Type 0} (types : MessageTypeDetails) (choices : Choices T) (buffer : ℕ) (factories : List (ℕ × Factory))
    (Has : (Service T → Bool) → Type 0) (Result : (State T → Reply T → State T → Type 0) → Type 0)
    (one : (V : Type 0) (found : Service T → Option V) (Does : Made → V → Service T → Reply T → Service T → Type 0)
    → Has (λ other. is_some (found other)) → Result (λ old answer new. AtOne found (Does old.made) old answer new))
    (at_one_of : (number : ℕ) (Does : Made → Service T → Reply T → Service T → Type 0)
    → Has (λ other. option_map_or (λ (factory : Factory). is_service_of factory other) (at number factories) false)
    → Result (λ old answer new. AtFactory types choices buffer number (Does old.made) old answer new))
    (some : (Does : T → State T → Reply T → State T → Type 0) → ((value : T) → Result (Does value))
    → Result (λ old answer new. (value : T) × choices.is_default value × Does value old answer new)) where
  free : (number : ℕ) (Does : Made → Publisher T → Service T → Reply T → Service T → Type 0)
      → Has (λ (other : Service T). is_some (publisher_in number other))
      → Result (λ old answer new. AtFree number (Does old.made) old answer new)
  free number Does its =
      one (Publisher T) (publisher_in number)
      (λ made publisher old answer new. MatchOption publisher.blocked (Does made publisher old answer new)
      (λ send. IsSkipped old answer new)) its

  blocked : (number : ℕ) (Does : Publisher T → Send T → Service T → Reply T → Service T → Type 0)
      → Has (λ (other : Service T). is_some (publisher_in number other)) → Result (λ old answer new. AtBlocked number Does old answer new)
  blocked number Does its =
      one (Publisher T) (publisher_in number)
      (λ made publisher old answer new. MatchOption publisher.blocked (IsSkipped old answer new)
      (λ send. Does publisher send old answer new)) its

  loaned : (number : ℕ) (Does : Loan T → Service T → Reply T → Service T → Type 0)
      → Has (λ (other : Service T). is_some (at number other.loans))
      → Result (λ old answer new. AtOne (λ (other : Service T). at number other.loans) Does old answer new)
  loaned number Does its = one (Loan T) (λ (other : Service T). at number other.loans) (λ made. Does) its

  -- what holds of each command at one service holds of all commands on ports, loans and samples
  each-step : (asked : Command T) → is_on_ports asked ≡ true → Has (has_named factories asked) → Result (Step types choices buffer asked)
  each-step command.Node on its = absurd (true≢false (sym on))
  each-step (command.Create node name options attributes steps) on its = absurd (true≢false (sym on))
  each-step (command.Open node name options required steps) on its = absurd (true≢false (sym on))
  each-step (command.OpenOrCreate node name options required steps) on its = absurd (true≢false (sym on))
  each-step (command.Foreign pattern name steps) on its = absurd (true≢false (sym on))
  each-step (command.Close factory) on its = absurd (true≢false (sym on))
  each-step (command.Publisher factory options) on its =
      at_one_of factory
      (λ made other. PublisherArrives (made.publishers + 1) (new_publisher factory options other.settings) other) its
  each-step (command.Subscriber factory options) on its =
      at_one_of factory
      (λ made other. SubscriberArrives buffer (made.subscribers + 1) (new_subscriber factory options other.settings) other) its
  each-step (command.Loan publisher count) on its =
      some (λ value old answer new. AtFree publisher (LendsLoan (old.made.loans + 1) publisher count (Some value)) old answer new)
      (λ value. free publisher (λ made. LendsLoan (made.loans + 1) publisher count (Some value)) its)
  each-step (command.LoanUninit publisher count) on its = free publisher (λ made. LendsLoan (made.loans + 1) publisher count None) its
  each-step (command.Set loan place value) on its =
      loaned loan
      (λ it. Writes loan it (is_written it && nat_lt place (length it.values)) (set it.values place (Some value))) its
  each-step (command.Fill loan values) on its =
      loaned loan (λ it. Writes loan it (length values == length it.values) (map Some values)) its
  each-step (command.Drop loan) on its =
      loaned loan (λ it old answer new. (answer ≡ reply.Done) × (new ≡ record old { loans = removed loan old.loans })) its
  each-step (command.Send loan) on its = loaned loan (SendsLoan choices loan) its
  each-step (command.Put publisher values) on its = free publisher (λ made. Puts choices publisher values) its
  each-step (command.Retry publisher nanoseconds) on its =
      blocked publisher (λ it send. GoesOn choices publisher it (record send { retries = send.retries + 1; elapsed = nanoseconds })) its
  each-step (command.GiveUp publisher) on its =
      blocked publisher
      (λ it send old answer new. (answer ≡ reply.Delivered send.delivered)
      × (new ≡ with_publisher publisher (record it { blocked = None }) old)) its
  each-step (command.Receive subscriber) on its =
      one Subscriber (subscriber_in subscriber)
      (λ made. subscribing.UpdatesFirst choices buffer subscriber (λ failure. refusal.Receive (receive_error.ConnectionFailure failure))
      (Receives subscriber (made.samples + 1))) its
  each-step (command.Read sample) on its =
      one (Sample T) (λ (other : Service T). at sample other.samples)
      (λ made it old answer new. (values : Vec T) × (vec_items values ≡ it.message.values) × (answer ≡ reply.Values values)
      × (new ≡ old)) its
  each-step (command.Sequence sample) on its =
      one (Sample T) (λ (other : Service T). at sample other.samples)
      (λ made it old answer new. (answer ≡ reply.Sequence it.message.sequence) × (new ≡ old)) its
  each-step (command.Release sample) on its = one (Sample T) (λ (other : Service T). at sample other.samples) (λ made. Releases sample) its
  each-step (command.Update (port.Publisher number)) on its =
      free number
      (λ made. publishing.UpdatesFirst choices number refusal.Connection (λ it old answer new. (answer ≡ reply.Done) × (new ≡ old))) its
  each-step (command.Update (port.Subscriber number)) on its =
      one Subscriber (subscriber_in number)
      (λ made. subscribing.UpdatesFirst choices buffer number refusal.Connection
      (λ it old answer new. (answer ≡ reply.Done) × (new ≡ old))) its
  each-step (command.Leave (port.Publisher number)) on its =
      free number
      (λ made it old answer new. (answer ≡ reply.Done)
      × (new ≡ with_publisher number (record it { stands = false }) (record old { publisher_list = left number old.publisher_list }))) its
  each-step (command.Leave (port.Subscriber number)) on its =
      one Subscriber (subscriber_in number)
      (λ made it old answer new. (answer ≡ reply.Done)
      × (new ≡ with_subscriber number (record it { stands = false })
      (record old { subscriber_list = left number old.subscriber_list }))) its
  each-step (command.Has subscriber) on its =
      one Subscriber (subscriber_in subscriber)
      (λ made. subscribing.UpdatesFirst choices buffer subscriber refusal.Connection
      (λ it old answer new. (answer ≡ reply.Has (has_samples subscriber it old)) × (new ≡ old))) its

-- ---- among others, and where nobody its what is named

pub steps-among : {T : Type 0} (choices : Choices T) → StepsAmong choices
steps-among {T} choices types buffer asked state answer before behind service after on none nothing h =
    each-step types choices buffer state.factories
    (λ test. (list_any test before ≡ false) × (list_any test behind ≡ false))
    (λ Does. Does (alone state answer before behind service after) answer (alone_then state answer before behind service after)
    → Does (among state answer before behind service after) answer (among_then state answer before behind service after))
    (λ V found Does its. one-among state answer before behind service after found (Does state.made) its.0 its.1)
    (λ number Does its. at-factory-among state answer before behind service after types choices buffer number (Does state.made) its.0
    its.1)
    (λ Does on_each did. (did.0, did.1, on_each did.0 did.2))
    asked on (none, nothing) h

module _ {T : Type 0} (state : State T) where
  abbrev skips : Reply T
  skips = reply.Skipped

  one-skipped : {V : Type 0} (found : Service T → Option V) (Does : V → Service T → Reply T → Service T → Type 0)
      → list_any (λ (other : Service T). is_some (found other)) state.services ≡ false → AtOne found Does state skips state
  one-skipped found Does none =
      subst (λ (o : Option (Service T)). MatchOption o (IsSkipped state skips state)
      (λ service. (after : Service T) × MatchOption (found service) ⊥ (λ one. Does one service skips after)
      × (state ≡ record state { services = replaced (λ (other : Service T). is_some (found other)) after state.services })))
      (sym (find-nothing (λ (other : Service T). is_some (found other)) state.services none)) (refl, refl)

  factory-skipped : (types : MessageTypeDetails) (choices : Choices T) (buffer number : ℕ)
      (Does : Service T → Reply T → Service T → Type 0)
      → list_any (λ (other : Service T). option_map_or (λ (one : Factory). is_service_of one other) (at number state.factories) false)
      state.services ≡ false
      → AtFactory types choices buffer number Does state skips state
  factory-skipped types choices buffer number Does none = by_factory (at number state.factories) refl
    where
      went : {o : Option Factory} → at number state.factories ≡ o
          → MatchOption o (IsSkipped state skips state)
          (λ factory. AtOne (λ (other : Service T). cond (is_service_of factory other) (Some other) None)
          (λ (other : Service T). Does) state skips state)
          → AtFactory types choices buffer number Does state skips state
      went same it =
          subst (λ (o : Option Factory). MatchOption o (IsSkipped state skips state)
          (λ factory. AtOne (λ (other : Service T). cond (is_service_of factory other) (Some other) None)
          (λ (other : Service T). Does) state skips state)) (sym same) it

      by_factory : (o : Option Factory) → at number state.factories ≡ o
          → AtFactory types choices buffer number Does state skips state
      by_factory None gone = went gone (refl, refl)
      by_factory (Some factory) there =
          went there
          (one-skipped (λ (other : Service T). cond (is_service_of factory other) (Some other) None) (λ (other : Service T). Does)
          (ap (λ (test : Service T → Bool). list_any test state.services)
          (λ i other. (is-some-cond (is_service_of factory other) other
          ∙ sym (ap (λ (o : Option Factory). option_map_or (λ (one : Factory). is_service_of one other) o false) there)) i) ∙ none))

pub unknown-skipped : {T : Type 0} (choices : Choices T) → UnknownIsSkipped choices
unknown-skipped {T} choices types buffer asked state value is on none =
    each-step types choices buffer state.factories (λ test. list_any test state.services ≡ false) (λ Does. Does state (skips state) state)
    (λ V found Does its. one-skipped state found (Does state.made) its)
    (λ number Does its. factory-skipped state types choices buffer number (Does state.made) its)
    (λ Does on_each. (value, is, on_each value))
    asked on none
