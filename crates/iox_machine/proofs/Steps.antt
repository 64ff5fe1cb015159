-- Each step keeps what holds of each service.
use Rattle.std.proofs.Common.{◌≡◌, ◌+◌, ℕ, false, inl, inr, length, Option, None, Some, refl, sym, ap, subst, arith, ◌∙◌, ◌≤◌, ◌∷◌}
use Rattle.std.proofs.Common.{◌++◌, List, []}
use Rattle.std.proofs.Common.{not}
use Rattle.std.specs.Global.{Vec}
use Rattle.std.specs.List.{AllByRecursion}
use Rattle.std.specs.Prelude.{⊤, ◌==◌, MatchOption, unwrap_or}
use Rattle.std.specs.Vec.{vec_items}
use Rattle.iox_machine.proofs.Shorthands.{left, given_back, taken}
use Rattle.iox_machine.specs.Choices.{Choices}
use Rattle.iox_machine.specs.DefaultLaws.{IsNamedAs}
use Rattle.iox_machine.specs.Message.{Message, Sample}
use Rattle.iox_machine.specs.Run.{Step}
use Rattle.iox_machine.specs.RunLaws.{BeginsToSend, ComesAs, numbered}
use Rattle.iox_machine.specs.Service.{Service, Publisher, Subscriber, Send, mailbox}
use Rattle.iox_machine.specs.State.{State, Factory}
use Rattle.iox_machine.specs.Table.{at, removed}
use Rattle.iox_machine.proofs.Moving.{Keeps}
use Rattle.iox_machine.proofs.Sound.{Sound, new-sound, publisher-changed, subscriber-changed, box-changed, box-fits, follows, put-fits}
use Rattle.iox_machine.proofs.Sound.{subscriber-follows, taken-fits, PublisherFits, SampleFits, SubscriberFits}
use Rattle.iox_machine.proofs.Delivering.{keeping, sending}
use Rattle.iox_command.specs.NegotiateBase.DescribeBase.declared.message_type.MessageTypeDetails.{MessageTypeDetails}
use Rattle.iox_command.specs.NegotiateBase.DescribeSettings.declared.static_config.publish_subscribe.StaticConfig.{StaticConfig}
use Rattle.iox_command.specs.declared.command.Command.{Command}
use Rattle.iox_command.specs.declared.port.PublisherOptions.{PublisherOptions}
use Rattle.iox_command.specs.declared.reply.Reply.{Reply}
use Rattle.iox_command.specs.declared.reply.Reply.TheVariants as reply
use Rattle.iox_machine.proofs.Lists.{all-at, all-filtered, all-joined, all-newest, filter-fits, first-of, newest-fits}
use Rattle.iox_machine.proofs.MoveForms.{Done, IsNumbered, Loud, Loudly, Quiet, Quietly, Walk, with_send}
use Rattle.iox_machine.proofs.MoveForms as move
use Rattle.iox_machine.proofs.MoveLaws.{becomes-keeps}
use Rattle.iox_machine.proofs.MoveSteps.{step-moves}
use Rattle.iox_machine.proofs.Moves.{IsTold, Walks}
use Rattle.iox_machine.specs.Mailbox.{Mailbox}

module _ {T : Type 0} (Good : ℕ → Message T → Type 0) (Fine : ℕ → Sample T → Type 0) (Named : ℕ → PublisherOptions → Type 0) where
  abbrev IsSound : Service T → Type 0
  IsSound service = Sound Good Fine Named service

  fits-at : (number : ℕ) (one : Publisher T) (service : Service T) → at number service.publishers ≡ Some one → IsSound service
      → PublisherFits Good Fine Named service.settings number one
  fits-at number one service found sound =
      all-at (PublisherFits Good Fine Named service.settings) number one service.publishers found sound.1

  small-at : (number : ℕ) (one : Subscriber) (service : Service T) → at number service.subscribers ≡ Some one → IsSound service
      → one.buffer_size ≤ service.settings.subscriber_max_buffer_size
  small-at number one service found sound =
      all-at (SubscriberFits Good Fine Named service.settings) number one service.subscribers found sound.2

  -- a publisher is another, that is as large, keeps such a history, and sends a good message, if any
  sends-so : (number : ℕ) (one : Publisher T) (blocked : Option (Send T)) (service : Service T) → at number service.publishers ≡ Some one
      → MatchOption blocked ⊤ (λ it. Good number it.message) → IsSound service → IsSound (with_send number one blocked service)
  sends-so number one blocked service found good sound =
      let fits : PublisherFits Good Fine Named service.settings number one = fits-at number one service found sound in
      publisher-changed Good Fine Named number (record one { blocked = blocked }) service sound (fits.0, fits.1, good, fits.3)

  good-send : (number : ℕ) (one : Publisher T) (send : Send T) (service : Service T) → at number service.publishers ≡ Some one
      → one.blocked ≡ Some send → IsSound service → Good number send.message
  good-send number one send service found is sound =
      subst (λ (o : Option (Send T)). MatchOption o ⊤ (λ it. Good number it.message)) is (fits-at number one service found sound).2

  numbered-fits : (number : ℕ) (was after : Publisher T) (settings : StaticConfig) → IsNumbered was after
      → PublisherFits Good Fine Named settings number was → PublisherFits Good Fine Named settings number after
  numbered-fits number was after settings (room, segments, first, grown, is) fits =
      let named : IsNamedAs fits.3.0 was = fits.3.2.1 in
      let roomy : (1 ≤ segments) × (segments ≡ 1 → room ≡ unwrap_or fits.3.0.initial_max_slice_len 1) =
      elim grown [
        | inl same ↦ (
          subst (λ (count : ℕ). 1 ≤ count) (sym same.1) named.4,
          λ one. same.0 ∙ named.5 (sym same.1 ∙ one),
        )
        | inr more ↦ (
          subst (λ (count : ℕ). 1 ≤ count) (sym more.0) (some was.segments),
          λ one. absurd (further was.segments named.4 (sym more.0 ∙ one)),
        )
      ] in
      subst (λ (p : Publisher T). PublisherFits Good Fine Named settings number p) (sym is) (
        fits.0,
        fits.1,
        fits.2,
        (fits.3.0, fits.3.1, (fits.3.2.0, (named.0, named.1, named.2, named.3, roomy.0, roomy.1))),
      )
    where
      some : (count : ℕ) → 1 ≤ count + 1
      some count = omega arith

      further : (count : ℕ) → 1 ≤ count → count + 1 ≡ 1 → ⊥
      further count least is = omega (arith, least, is)

  sound-quiet : (one : Quiet T) (old new : Service T) → Quietly one old new → IsSound old → IsSound new
  sound-quiet (move.Retries number one send elapsed) old new (on, came) sound =
      subst IsSound (sym came) (sends-so number one _ old on.0 (good-send number one send old on.0 on.1 sound) sound)
  sound-quiet (move.Puts number one send subscriber more box) old new (on, left, took, came) sound =
      let good : Good number send.message = good-send number one send old on.0 on.1 sound in
      let next : Send T = record send { left = more; retries = 0; elapsed = 0; delivered = send.delivered + 1 } in
      subst IsSound (sym came)
      (box-changed Good Fine Named number subscriber box (with_send number one (Some next) old)
      (sends-so number one (Some next) old on.0 good sound)
      (put-fits Good Fine Named number old.settings old.settings.enable_safe_overflow send.message (mailbox number subscriber old) box took
      (box-fits Good Fine Named number subscriber old sound) good))
  sound-quiet (move.Passes number one send subscriber more fails) old new (on, left, full, came) sound =
      subst IsSound (sym came) (sends-so number one _ old on.0 (good-send number one send old on.0 on.1 sound) sound)
  sound-quiet (move.Concludes number one) old new (found, came) sound =
      subst IsSound (sym came) (sends-so number one None old found tt sound)
  sound-quiet (move.Follows number was after) old new ((found, free), does, is, came) sound =
      (follows Good Fine Named number was old after new (sound, fits-at number was old found sound) does).0
  sound-quiet (move.Attends buffer number was after) old new (found, does, is, came) sound =
      (subscriber-follows Good Fine Named buffer number was old after new (sound, small-at number was old found sound) does).0
  sound-quiet (move.Sweeps number was expired) old new (found, came) sound =
      subst IsSound (sym came)
      (subscriber-changed Good Fine Named number (record was { expired = expired }) old sound (small-at number was old found sound))

  sound-done : (moves : List (Quiet T)) (old new : Service T) → Done moves old new → IsSound old → IsSound new
  sound-done [] old new h sound = subst IsSound (sym h) sound
  sound-done (one ∷ more) old new h sound = sound-done more h.0 new h.2 (sound-quiet one old h.0 h.1 sound)

  module _ (asked : Command T) (st : State T) (answer : Reply T)
      (good : (publisher : ℕ) (message : Message T) → BeginsToSend publisher message.values asked st answer → Good publisher message)
      (fine : (one : Sample T) (values : Vec T) → answer ≡ reply.Received (st.made.samples + 1) values
      → vec_items values ≡ one.message.values → Fine (st.made.samples + 1) one)
      (named : (number : ℕ) (options : PublisherOptions) → ComesAs number options asked answer → Named number options) where
    sound-loud : (factories : List (ℕ × Factory)) (one : Loud T) (old new : Service T) → IsTold asked st answer one
        → Loudly factories one old new → IsSound old → IsSound new
    sound-loud factories (move.Lends number was after loan made) old new told (found, up, (taken_one, lent), by, next, came) sound =
        subst IsSound (sym came) (publisher-changed Good Fine Named number after old sound
        (numbered-fits number was after old.settings taken_one (fits-at number was old found sound)))
    sound-loud factories (move.Numbers number was after) old new told (found, taken_one, came) sound =
        subst IsSound (sym came) (publisher-changed Good Fine Named number after old sound
        (numbered-fits number was after old.settings taken_one (fits-at number was old found sound)))
    sound-loud factories (move.Writes loan one values) old new told (found, came) sound = subst IsSound (sym came) sound
    sound-loud factories (move.Spends loan one) old new told (found, came) sound = subst IsSound (sym came) sound
    sound-loud factories (move.Begins number one message) old new told (found, free, came) sound =
        let fits : PublisherFits Good Fine Named old.settings number one = fits-at number one old found sound in
        let sent : Message T = numbered one message in
        let fair : Good number sent = good number sent told in
        let kept : List (Message T) = one.history ++ sent ∷ [] in
        subst IsSound (sym came) (publisher-changed Good Fine Named number
        (record (keeping message one old) { blocked = Some (sending message one) }) old sound (
          newest-fits old.settings.history_size kept,
          all-newest (Good number) old.settings.history_size kept (all-joined (Good number) one.history (sent ∷ []) fits.1 (fair, tt)),
          fair,
          fits.3,
        ))
    sound-loud factories (move.Takes number sample) old new (asks, next, (values, same, told))
        (holder, (first, few), came) sound =
        let box : Mailbox T = mailbox sample.publisher sample.subscriber old in
        let fits = box-fits Good Fine Named sample.publisher sample.subscriber old sound in
        let more : Service T = record old { samples = old.samples ++ (number, sample) ∷ [] } in
        let on : IsSound more = (
          sound.0,
          sound.1,
          sound.2,
          all-joined (λ (entry : ℕ × Sample T). SampleFits Good Fine Named entry.0 entry.1) old.samples ((number, sample) ∷ []) sound.3 (
            (
              subst (λ (k : ℕ). Fine k sample) (sym next) (fine sample values
                  (told ∙ ap (λ (k : ℕ). reply.Received k values) next) same),
              first-of (Good sample.publisher) box.waiting sample.message first fits.3,
            ),
            tt,
          ),
        ) in
        subst IsSound (sym came) (box-changed Good Fine Named sample.publisher sample.subscriber (taken box) more on
        (taken-fits Good Fine Named sample.publisher old.settings box fits few))
    sound-loud factories (move.Releases number sample) old new told (found, came) sound =
        let box : Mailbox T = mailbox sample.publisher sample.subscriber old in
        let fits = box-fits Good Fine Named sample.publisher sample.subscriber old sound in
        let fewer : Service T = record old { samples = removed number old.samples } in
        let on : IsSound fewer = (
          sound.0,
          sound.1,
          sound.2,
          all-filtered (λ (entry : ℕ × Sample T). SampleFits Good Fine Named entry.0 entry.1)
              (λ (entry : ℕ × Sample T). not (entry.0 == number)) old.samples sound.3,
        ) in
        subst IsSound (sym came)
        (box-changed Good Fine Named sample.publisher sample.subscriber (given_back sample.message.number box) fewer on (
          fits.0,
          (let most : length box.borrowed ≤ old.settings.subscriber_max_borrowed_samples = fits.1 in
              omega (arith, filter-fits (λ (message : Message T). not (message.number == sample.message.number)) box.borrowed)),
          fits.2,
          fits.3,
          all-filtered (Good sample.publisher) (λ (message : Message T). not (message.number == sample.message.number)) box.borrowed
              fits.4,
        ))
    sound-loud factories (move.Publishes place number options one after) old new told
        (open_one, (made, free, mid, does, listed), is, came) sound =
        let comes : ComesAs number options asked answer =
        subst (λ (it : Command T). ComesAs number options it answer) (sym told.0) (refl, told.2) in
        let fit : PublisherFits Good Fine Named old.settings number one =
        subst (λ (p : Publisher T). PublisherFits Good Fine Named old.settings number p) (sym made.0)
        (omega arith, tt, tt, (options, named number options comes, ((refl, refl), (refl, refl, refl, refl, omega arith, λ one. refl)))) in
        let on : IsSound (record old { publishers = old.publishers ++ (number, one) ∷ [] }) = (
          sound.0,
          all-joined (λ (entry : ℕ × Publisher T). PublisherFits Good Fine Named old.settings entry.0 entry.1) old.publishers
              ((number, one) ∷ []) sound.1 (fit, tt),
          sound.2,
          sound.3,
        ) in
        subst IsSound (sym listed) (follows Good Fine Named number one (record old {
          publishers = old.publishers ++ (number, one) ∷ [];
        }) after mid (on, fit) does).0
    sound-loud factories (move.Subscribes buffer place number options one after) old new told
        (open_one, (made, small, free, mid, does, listed), is, came) sound =
        let on : IsSound (record old { subscribers = old.subscribers ++ (number, one) ∷ [] }) = (
          sound.0,
          sound.1,
          all-joined (λ (entry : ℕ × Subscriber). SubscriberFits Good Fine Named old.settings entry.0 entry.1) old.subscribers
              ((number, one) ∷ []) sound.2 (small, tt),
          sound.3,
        ) in
        subst IsSound (sym listed) (subscriber-follows Good Fine Named buffer number one (record old {
          subscribers = old.subscribers ++ (number, one) ∷ [];
        }) after mid (on, small) does).0
    sound-loud factories (move.Unpublishes number one) old new told (found, came) sound =
        subst IsSound (sym came) (publisher-changed Good Fine Named number (record one { stands = false }) old sound
        (fits-at number one old found sound))
    sound-loud factories (move.Unsubscribes number one) old new told (found, came) sound =
        subst IsSound (sym came) (subscriber-changed Good Fine Named number (record one { stands = false }) old sound
        (small-at number one old found sound))

    sound-walk : (factories : List (ℕ × Factory)) (loud : List (Loud T)) (old new : Service T)
        → AllByRecursion (IsTold asked st answer) loud → Walk factories loud old new → IsSound old → IsSound new
    sound-walk factories [] old new told h sound = sound-done h.0 old new h.1 sound
    sound-walk factories (one ∷ more) old new told h sound =
        sound-walk factories more h.1 new told.1 h.4
        (sound-loud factories one h.0 h.1 told.0 h.3 (sound-done h.2.0 old h.0 h.2.1 sound))

  module _ (types : MessageTypeDetails) (choices : Choices T) (buffer : ℕ) where
    -- Each step keeps that all services are sound, if the message whose send it begins is good, the sample that it makes is fine, and
    -- what it names for a publisher that comes is so.
    pub step-sound : (asked : Command T) (old : State T) (answer : Reply T) (new : State T)
        → ((publisher : ℕ) (message : Message T) → BeginsToSend publisher message.values asked old answer → Good publisher message)
        → ((one : Sample T) (values : Vec T) → answer ≡ reply.Received (old.made.samples + 1) values → vec_items values ≡ one.message.values
        → Fine (old.made.samples + 1) one)
        → ((number : ℕ) (options : PublisherOptions) → ComesAs number options asked answer → Named number options)
        → Step types choices buffer asked old answer new → AllByRecursion IsSound old.services → Keeps IsSound old answer new
    step-sound asked old answer new good fine named h all =
        becomes-keeps (Walks asked old answer) IsSound (new-sound Good Fine Named) asked old answer new
        (λ has service after first walks sound.
        sound-walk asked old answer good fine named old.factories walks.0 service after walks.1.5 walks.2 sound)
        (step-moves types choices buffer asked old answer new h) all
