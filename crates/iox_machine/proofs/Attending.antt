-- What a subscriber does first: it updates its connections, just as it would be asked to update them alone.
use Rattle.std.proofs.Common.{◌≡◌, ◌⊎◌, ℕ, Bool, true, false, cond, not, ◌&&◌, Option, None, Some, Ok, Err, refl, sym, ap, subst, inl, inr}
use Rattle.std.proofs.Common.{◌∙◌}
use Rattle.std.specs.Prelude.{◌==◌, find, is_some, option_and_then, zip, MatchOption}
use Rattle.iox_machine.proofs.Cases.{by-bool}
use Rattle.iox_machine.proofs.Delivering.{Outcomes, by-outcome}
use Rattle.iox_machine.proofs.Frames.{BySubscriber, holder_of, soft-follows, subscriber-stands}
use Rattle.iox_machine.proofs.Own.{into-bool}
use Rattle.iox_machine.proofs.Shorthands.{IsRefused, IsSkipped}
use Rattle.iox_machine.specs.Choices.{Choices}
use Rattle.iox_machine.specs.Ports.{subscriber_in}
use Rattle.iox_machine.specs.Run.{Step}
use Rattle.iox_machine.specs.Service.{Service, Subscriber}
use Rattle.iox_machine.specs.State.{AtOne, State, counted, replaced}
use Rattle.iox_machine.specs.SubscriberUpdate as subscribing
use Rattle.iox_machine.specs.Table.{at}
use Rattle.iox_command.specs.DomainValues.declared.connection_failure.ConnectionFailure.{ConnectionFailure}
use Rattle.iox_command.specs.NegotiateBase.DescribeBase.declared.message_type.MessageTypeDetails.{MessageTypeDetails}
use Rattle.iox_command.specs.declared.command.Command.TheVariants as command
use Rattle.iox_command.specs.declared.port.PortNumber.TheVariants as port
use Rattle.iox_command.specs.declared.refusal.Refusal.{Refusal}
use Rattle.iox_command.specs.declared.refusal.Refusal.TheVariants as refusal
use Rattle.iox_command.specs.declared.reply.Reply.{Reply}
use Rattle.iox_command.specs.declared.reply.Reply.TheVariants as reply

module _ {T : Type 0} where
  -- what is done at the service that has what is named, is done in the state
  pub at-found : {V : Type 0} (found : Service T → Option V) (Does : V → Service T → Reply T → Service T → Type 0) (old : State T)
      (answer : Reply T) (service : Service T) (one : V) (after : Service T)
      → find (λ (other : Service T). is_some (found other)) old.services ≡ Some service → found service ≡ Some one
      → Does one service answer after
      → AtOne found Does old answer (record old {
        made = counted answer old.made;
        services = replaced (λ (other : Service T). is_some (found other)) after old.services;
      })
  at-found {V} found Does old answer service one after first there did =
      subst (λ (o : Option (Service T)). MatchOption o (IsSkipped old answer new)
      (λ it. (end : Service T) × MatchOption (found it) ⊥ (λ v. Does v it answer end)
      × (new ≡ record old {
        made = counted answer old.made;
        services = replaced (λ (other : Service T). is_some (found other)) end old.services;
      }))) (sym first)
      (after, subst (λ (o : Option V). MatchOption o ⊥ (λ v. Does v service answer after)) (sym there) did, refl)
    where
      new : State T
      new = record old {
        made = counted answer old.made;
        services = replaced (λ (other : Service T). is_some (found other)) after old.services;
      }

  -- what an update alone does
  abbrev pub UpdatesAlone : Subscriber → Service T → Reply T → Service T → Type 0
  UpdatesAlone it mid answered end = (answered ≡ reply.Done) × (end ≡ mid)

  module _ (choices : Choices T) (buffer number : ℕ) where
    abbrev pub Attends : Subscriber → Service T → Reply T → Service T → Type 0
    Attends = subscribing.UpdatesFirst choices buffer number refusal.Connection UpdatesAlone

    pub attends-first : (told : ConnectionFailure → Refusal) (Does : Subscriber → Service T → Reply T → Service T → Type 0)
        (one : Subscriber) (old : Service T) (answer : Reply T) (new : Service T) → subscriber_in number old ≡ Some one
        → subscribing.UpdatesFirst choices buffer number told Does one old answer new
        → ((failure : ConnectionFailure) × (answer ≡ reply.Refused (told failure))
        × Attends one old (reply.Refused (refusal.Connection failure)) new)
        ⊎ ((next : Subscriber) × (mid : Service T) × (subscriber_in number mid ≡ Some next) × Attends one old reply.Done mid
        × Does next mid answer new)
    attends-first told Does one old answer new there h =
        elim (by-bool is_new (Does one old answer new) (Updated answer (λ after mid. Does after mid answer new) told new) h) [
          | inl w ↦ inr (
            one,
            old,
            there,
            into-bool is_new (UpdatesAlone one old reply.Done old)
                (Updated reply.Done (λ after mid. UpdatesAlone after mid reply.Done old) refusal.Connection old) (inl (w.0, (refl, refl))),
            w.1,
          )
          | inr w ↦ followed w.0 w.1.0 w.1.1 w.1.2 w.1.3
        ]
      where
        is_new : Bool
        is_new = (one.seen == old.publisher_list.changes) && not one.again

        Updated : Reply T → (Subscriber → Service T → Type 0) → (ConnectionFailure → Refusal) → Service T → Type 0
        Updated told_so Then why end =
            (after : Subscriber) × (mid : Service T) × subscribing.Follows buffer number one old after mid
            × Outcomes (choices.subscriber_acts number one.degradation) (zip old.publisher_list.places after.connected)
            (λ done. Then after mid) (λ failure. IsRefused (why failure) mid told_so end)

        standing : (after : Subscriber) (o : Option Subscriber) → o ≡ Some after → after.stands ≡ true
            → option_and_then (λ (s : Subscriber). cond s.stands (Some s) None) o ≡ Some after
        standing after o is stands =
            ap (option_and_then (λ (s : Subscriber). cond s.stands (Some s) None)) is ∙ ap (λ (b : Bool). cond b (Some after) None) stands

        followed : is_new ≡ false → (after : Subscriber) (mid : Service T) → subscribing.Follows buffer number one old after mid
            → Outcomes (choices.subscriber_acts number one.degradation) (zip old.publisher_list.places after.connected)
            (λ done. Does after mid answer new) (λ failure. IsRefused (told failure) mid answer new)
            → ((failure : ConnectionFailure) × (answer ≡ reply.Refused (told failure))
            × Attends one old (reply.Refused (refusal.Connection failure)) new)
            ⊎ ((next : Subscriber) × (mid : Service T) × (subscriber_in number mid ≡ Some next) × Attends one old reply.Done mid
            × Does next mid answer new)
        followed off after mid came told_so =
            elim (by-outcome (choices.subscriber_acts number one.degradation) (zip old.publisher_list.places after.connected)
            (λ done. Does after mid answer new) (λ failure. IsRefused (told failure) mid answer new) told_so) [
              | inl r ↦
                  let was : (at number old.subscribers ≡ Some one) × (one.stands ≡ true) = subscriber-stands number old one there in
                  let on : BySubscriber old mid × (at number mid.subscribers ≡ Some after) × (holder_of after ≡ holder_of one) =
                  soft-follows buffer number one old after mid was.0 came in
                  inr (
                    after,
                    mid,
                    standing after (at number mid.subscribers) on.1 (ap (λ (it : ℕ × Bool). it.1) on.2 ∙ was.1),
                    into-bool is_new (UpdatesAlone one old reply.Done mid)
                        (Updated reply.Done (λ next it. UpdatesAlone next it reply.Done mid) refusal.Connection mid)
                        (inr (off, (after, mid, came, (Ok tt, r.1, (refl, refl))))),
                    r.2,
                  )
              | inr r ↦ inl (
                r.0,
                r.2.0,
                into-bool is_new (UpdatesAlone one old (reply.Refused (refusal.Connection r.0)) new)
                    (Updated (reply.Refused (refusal.Connection r.0))
                    (λ next it. UpdatesAlone next it (reply.Refused (refusal.Connection r.0)) new) refusal.Connection new)
                    (inr (off, (after, mid, came, (Err r.0, r.1, (refl, r.2.1))))),
              )
            ]

    -- The state that an update alone leads to.
    pub attended-state : (types : MessageTypeDetails) (old : State T) (answer : Reply T) (service : Service T) (one : Subscriber)
        (mid : Service T) → find (λ (other : Service T). is_some (subscriber_in number other)) old.services ≡ Some service
        → subscriber_in number service ≡ Some one → Attends one service answer mid
        → Step types choices buffer (command.Update (port.Subscriber number)) old answer (record old {
          made = counted answer old.made;
          services = replaced (λ (other : Service T). is_some (subscriber_in number other)) mid old.services;
        })
    attended-state types old answer service one mid first there did =
        at-found (subscriber_in number) Attends old answer service one mid first there did
