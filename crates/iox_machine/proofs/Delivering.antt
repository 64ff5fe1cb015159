-- What an update and a send come to, by what was answered and decided.
use Rattle.std.proofs.Common.{◌≡◌, ◌+◌, ◌⊎◌, ℕ, true, List, [], ◌∷◌, Option, None, Some, Result, Ok, Err, refl, sym, subst, inl, inr}
use Rattle.std.proofs.Common.{cond, Bool, false}
use Rattle.std.specs.Prelude.{◌++◌, drop, is_some, slice_get, MatchBool, MatchOption, MatchResult}
use Rattle.iox_machine.specs.Choices.{Choices}
use Rattle.iox_machine.specs.Mailbox.{Mailbox, newest, put}
use Rattle.iox_machine.specs.Message.{Message}
use Rattle.iox_machine.specs.PortList.{those}
use Rattle.iox_machine.specs.PublisherUpdate.{UpdateAnswers, UpdatesFirst}
use Rattle.iox_machine.specs.Sending.{Begins, Delivers, GoesOn, MayDecide, Sends}
use Rattle.iox_machine.specs.RunLaws.{numbered, has_begun}
use Rattle.iox_machine.specs.Service.{Service, Publisher, Send, mailbox, with_mailbox}
use Rattle.iox_machine.proofs.Shorthands.{with_publisher, IsRefused, is_used_up}
use Rattle.iox_command.specs.DomainValues.Sequences.{next_sequence}
use Rattle.iox_command.specs.DomainValues.declared.backpressure.BackpressureDecision.{BackpressureDecision}
use Rattle.iox_command.specs.DomainValues.declared.backpressure.BackpressureDecision.TheVariants.{Retry, DiscardData, DiscardDataAndFail}
use Rattle.iox_command.specs.DomainValues.declared.connection_failure.ConnectionFailure.{ConnectionFailure}
use Rattle.iox_command.specs.DomainValues.declared.degradation.DegradationAction.{DegradationAction}
use Rattle.iox_command.specs.DomainValues.declared.port_error.SendError.{SendError}
use Rattle.iox_command.specs.DomainValues.declared.port_error.SendError.TheVariants as error
use Rattle.iox_command.specs.declared.refusal.Refusal.TheVariants as refusal
use Rattle.iox_command.specs.declared.reply.Reply.{Reply}
use Rattle.iox_command.specs.declared.reply.Reply.TheVariants as reply

-- An update answers something that it may, and this comes of it.
abbrev pub Outcomes : (DegradationAction → Type 0) → List (Option ℕ × Option ℕ) → (Unit {0} → Type 0) → (ConnectionFailure → Type 0)
    → Type 0
Outcomes May places A B = (outcome : Result (Unit {0}) ConnectionFailure) × UpdateAnswers May places outcome × MatchResult outcome A B

pub by-outcome : (May : DegradationAction → Type 0) (places : List (Option ℕ × Option ℕ)) (A : Unit {0} → Type 0)
    (B : ConnectionFailure → Type 0) → Outcomes May places A B
    → ((v : Unit {0}) × UpdateAnswers May places (Ok tt) × A v) ⊎ ((e : ConnectionFailure) × UpdateAnswers May places (Err e) × B e)
by-outcome May places A B (Ok tt, answers, m) = inl (tt, answers, m)
by-outcome May places A B (Err e, answers, m) = inr (e, answers, m)

-- the first decision, if there is one
abbrev pub first_of : List BackpressureDecision → BackpressureDecision
first_of [] = DiscardData
first_of (decision ∷ more) = decision

module _ {T : Type 0} (number : ℕ) where
  -- What comes of a send at a subscriber, where this is decided if its mailbox is full.
  abbrev pub offered : Option (Mailbox T) → BackpressureDecision → ℕ → List ℕ → (Send T → Service T → Send T × Service T) → Send T
      → Service T → Send T × Service T
  offered (Some box) decision subscriber more goes_on send service =
      goes_on (record send { retries = 0; elapsed = 0; delivered = send.delivered + 1 }) (with_mailbox number subscriber box service)
  offered None Retry subscriber more goes_on send service = (record send { left = subscriber ∷ more }, service)
  offered None DiscardData subscriber more goes_on send service = goes_on (record send { retries = 0; elapsed = 0 }) service
  offered None DiscardDataAndFail subscriber more goes_on send service = goes_on
      (record send { retries = 0; elapsed = 0; fails = true }) service

  -- A message goes to some subscribers, and these are the decisions at them.
  abbrev pub deliver : List BackpressureDecision → List ℕ → Send T → Service T → Send T × Service T
  deliver decisions [] send service = (record send { left = [] }, service)
  deliver decisions (subscriber ∷ more) send service =
      offered (put service.settings.enable_safe_overflow send.message (mailbox number subscriber service))
      (first_of decisions) subscriber more (deliver (drop 1 decisions) more) send service

  -- A send goes on with these decisions.
  abbrev pub GoesOnSo : List BackpressureDecision → Publisher T → Send T → Service T → Reply T → Service T → Type 0
  GoesOnSo decisions publisher send old answer new =
      let after = deliver decisions send.left send old in
      (answer ≡ cond (is_some (slice_get after.0.left 0)) reply.Blocked
      (cond after.0.fails (reply.Refused (refusal.Send error.UnableToDeliver)) (reply.Delivered after.0.delivered)))
      × (new ≡ with_publisher number (record publisher {
        blocked = cond (is_some (slice_get after.0.left 0)) (Some after.0) None;
      }) after.1)

module _ {T : Type 0} (choices : Choices T) (number : ℕ) where
  -- by which decisions a message went to some subscribers
  delivers-so : (publisher : Publisher T) (left : List ℕ) (send : Send T) (old : Service T) (after : Send T) (new : Service T)
      → Delivers choices number publisher left send old after new
      → (decisions : List BackpressureDecision) × (deliver number decisions left send old ≡ (after, new))
  delivers-so publisher [] send old after new (is, same) = ([], λ i. (sym is i, sym same i))
  delivers-so publisher (subscriber ∷ more) send old after new h =
      here (λ next mid. delivers-so publisher more next mid after new)
      (put old.settings.enable_safe_overflow send.message (mailbox number subscriber old)) refl h
    where
      Went : Option (Mailbox T) → List BackpressureDecision → Type 0
      Went met decisions =
          offered number met (first_of decisions) subscriber more (deliver number (drop 1 decisions) more) send old ≡ (after, new)

      here : ((next : Send T) (mid : Service T) → Delivers choices number publisher more next mid after new
          → (decisions : List BackpressureDecision) × (deliver number decisions more next mid ≡ (after, new)))
          → (met : Option (Mailbox T)) → put old.settings.enable_safe_overflow send.message (mailbox number subscriber old) ≡ met
          → MatchOption met
          ((MayDecide choices number publisher subscriber send old Retry × (after ≡ record send { left = subscriber ∷ more }) × (new ≡ old))
          ⊎ (MayDecide choices number publisher subscriber send old DiscardData
          × Delivers choices number publisher more (record send { retries = 0; elapsed = 0 }) old after new)
          ⊎ (MayDecide choices number publisher subscriber send old DiscardDataAndFail
          × Delivers choices number publisher more (record send { retries = 0; elapsed = 0; fails = true }) old after new))
          (λ box. Delivers choices number publisher more (record send { retries = 0; elapsed = 0; delivered = send.delivered + 1 })
          (with_mailbox number subscriber box old) after new)
          → (decisions : List BackpressureDecision) × (deliver number decisions (subscriber ∷ more) send old ≡ (after, new))
      here goes (Some box) met went =
          let on = goes (record send { retries = 0; elapsed = 0; delivered = send.delivered + 1 }) (with_mailbox number subscriber box old)
          went in
          (DiscardData ∷ on.0, subst (λ (o : Option (Mailbox T)). Went o (DiscardData ∷ on.0)) (sym met) on.1)
      here goes None met (inl (may, is, same)) =
          (Retry ∷ [], subst (λ (o : Option (Mailbox T)). Went o (Retry ∷ [])) (sym met) (λ i. (sym is i, sym same i)))
      here goes None met (inr (inl (may, went))) =
          let on = goes (record send { retries = 0; elapsed = 0 }) old went in
          (DiscardData ∷ on.0, subst (λ (o : Option (Mailbox T)). Went o (DiscardData ∷ on.0)) (sym met) on.1)
      here goes None met (inr (inr (may, went))) =
          let on = goes (record send { retries = 0; elapsed = 0; fails = true }) old went in
          (DiscardDataAndFail ∷ on.0, subst (λ (o : Option (Mailbox T)). Went o (DiscardDataAndFail ∷ on.0)) (sym met) on.1)

  -- by which decisions a send went on
  pub goes-on-so : (publisher : Publisher T) (send : Send T) (old : Service T) (answer : Reply T) (new : Service T)
      → GoesOn choices number publisher send old answer new
      → (decisions : List BackpressureDecision) × GoesOnSo number decisions publisher send old answer new
  goes-on-so publisher send old answer new (after, mid, went, told, came) =
      let on = delivers-so publisher send.left send old after mid went in (
        on.0,
        subst (λ (pair : Send T × Service T).
            (answer ≡ cond (is_some (slice_get pair.0.left 0)) reply.Blocked
            (cond pair.0.fails (reply.Refused (refusal.Send error.UnableToDeliver)) (reply.Delivered pair.0.delivered)))
            × (new ≡ with_publisher number (record publisher {
              blocked = cond (is_some (slice_get pair.0.left 0)) (Some pair.0) None;
            }) pair.1)) (sym on.1) (told, came),
      )

-- ---- a send begins, or is refused at once

-- why a send is refused before it brings its connections up to date: no number is left, or its publisher left
abbrev pub at_once : Bool → SendError
at_once used_up = cond used_up error.InternalError error.ConnectionBrokenSinceSenderNoLongerExists

pub at-once-silent : (T : Type 0) (used_up : Bool) → has_begun {T = T} (reply.Refused (refusal.Send (at_once used_up))) ≡ false
at-once-silent T true = refl
at-once-silent T false = refl

module _ {T : Type 0} where
  -- a publisher whose send of a message begins
  abbrev pub keeping : Message T → Publisher T → Service T → Publisher T
  keeping message publisher service = record publisher {
    last_sequence = next_sequence publisher.last_sequence;
    history = newest service.settings.history_size (publisher.history ++ numbered publisher message ∷ []);
  }

  -- that send
  abbrev pub sending : Message T → Publisher T → Send T
  sending message publisher = record {
    message = numbered publisher message;
    left = those publisher.connected;
    retries = 0;
    elapsed = 0;
    delivered = 0;
    fails = false;
  }

  pub by-send : (choices : Choices T) (number : ℕ) (message : Message T) (publisher : Publisher T) (old : Service T) (answer : Reply T)
      (new : Service T)
      → Sends choices number message publisher old answer new
      → UpdatesFirst choices number (λ failure. refusal.Send (error.ConnectionError failure)) (Begins choices number message) publisher old
      answer new
      ⊎ ((used_up : Bool) × IsRefused (refusal.Send (at_once used_up)) old answer new)
  by-send choices number message publisher old answer new h =
      stood publisher.stands (is_used_up publisher.last_sequence) h
    where
      stood : (stands used_up : Bool)
          → MatchBool stands (MatchBool used_up (IsRefused (refusal.Send error.InternalError) old answer new)
          (UpdatesFirst choices number (λ failure. refusal.Send (error.ConnectionError failure)) (Begins choices number message)
          publisher old answer new))
          (IsRefused (refusal.Send error.ConnectionBrokenSinceSenderNoLongerExists) old answer new)
          → UpdatesFirst choices number (λ failure. refusal.Send (error.ConnectionError failure)) (Begins choices number message) publisher
          old answer new
          ⊎ ((used_up : Bool) × IsRefused (refusal.Send (at_once used_up)) old answer new)
      stood true true refused = inr (true, refused)
      stood true false updates = inl updates
      stood false used_up refused = inr (false, refused)
