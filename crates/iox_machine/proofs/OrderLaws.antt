-- In every run a subscriber gets what its service's publishers sent, in the order of sending.
use Rattle.std.proofs.Common.{◌≡◌, ◌⊎◌, ◌≤◌, ◌+◌, ℕ, Bool, true, false, cond, List, [], ◌∷◌, ◌++◌, Option, None, Some, refl, sym, ap}
use Rattle.std.proofs.Common.{subst, inl, inr, arith, ◌∙◌, append_assoc, append-nil}
use Rattle.std.proofs.lemmas.Bool.{ne_eqb}
use Rattle.std.specs.List.{AllByRecursion}
use Rattle.std.specs.Prelude.{⊤, ◌==◌, is_some, find, slice_get, option_map, MatchOption}
use Rattle.iox_machine.specs.Choices.{Choices}
use Rattle.iox_machine.specs.Message.{Message, Sample}
use Rattle.iox_machine.specs.MessageLaws.{IsPartOf, with_one, begun_by, received_by, sent_by, received_from, IsOfService, StaysOfService}
use Rattle.iox_machine.specs.MessageLaws.{BeganIn, ReceivedInOrder}
use Rattle.iox_machine.specs.PortList.{those}
use Rattle.iox_machine.specs.Ports.{subscriber_in}
use Rattle.iox_machine.specs.Run.{Runs}
use Rattle.iox_machine.specs.RunLaws.{BeginsToSend}
use Rattle.iox_machine.specs.Service.{Service, Publisher, Send}
use Rattle.iox_machine.specs.State.{State, new_state}
use Rattle.iox_machine.specs.Table.{at}
use Rattle.iox_machine.proofs.Cases.{same-some, never-some}
use Rattle.iox_machine.proofs.Frames.{waiting_in}
use Rattle.iox_machine.proofs.Lists.{all-weaker}
use Rattle.iox_machine.proofs.Order.{IsUnder, MayCome}
use Rattle.iox_machine.proofs.OrderCommands.{step-ordered}
use Rattle.iox_machine.proofs.OrderSteps.{noted, Lacks, Fits, IsOfOne, IsOrdered, has_it}
use Rattle.iox_machine.proofs.Parts.{Once}
use Rattle.iox_machine.proofs.Runs.{AnyMessage, AnyOptions, AreSound, Numbered, all-found, runs-numbered}
use Rattle.iox_machine.proofs.Sound.{Sound, SampleFits}
use Rattle.iox_command.specs.NegotiateBase.DescribeBase.declared.message_type.MessageTypeDetails.{MessageTypeDetails}
use Rattle.iox_command.specs.NegotiateBase.DescribeSettings.declared.static_config.publish_subscribe.StaticConfig.{StaticConfig}
use Rattle.iox_command.specs.declared.command.Command.{Command}
use Rattle.iox_command.specs.declared.reply.Reply.{Reply}

-- what holds of all of a list holds of what is part of it
pub part-all : {X : Type 0} (P : X → Type 0) (part whole : List X) → IsPartOf part whole → AllByRecursion P whole → AllByRecursion P part
part-all P part [] h all = subst (AllByRecursion P) (sym h) tt
part-all P part (x ∷ whole) (inl h) all = part-all P part whole h all.1
part-all P part (x ∷ whole) (inr (rest, e, h)) all =
    subst (AllByRecursion P) (sym e) (all.0, part-all P rest whole h all.1)

pub all-behind : {X : Type 0} (P : X → Type 0) (xs ys : List X) → AllByRecursion P (xs ++ ys) → AllByRecursion P ys
all-behind P [] ys all = all
all-behind P (x ∷ xs) ys all = all-behind P xs ys all.1

first-all : {X : Type 0} (P : X → Type 0) (xs : List X) (x : X) → slice_get xs 0 ≡ Some x → AllByRecursion P xs → P x
first-all P [] x e all = never-some x e
first-all P (y ∷ xs) x e all = subst P (same-some y x e) all.0

pub noted-more : {X : Type 0} (xs : List X) (o : Option X) (more : List X) → noted xs o ++ more ≡ xs ++ with_one o more
noted-more xs None more = refl
noted-more xs (Some x) more = append_assoc xs (x ∷ []) more

none-above : {V : Type 0} (table : List (ℕ × V)) (count number : ℕ) → number ≡ count + 1
    → AllByRecursion (λ entry. entry.0 ≤ count) table → at number table ≡ None
none-above [] count number next all = refl
none-above (entry ∷ table) count number next all =
    ap (λ (b : Bool). option_map (λ (it : ℕ × _). it.1) (cond b (Some entry) (find (λ (it : ℕ × _). it.0 == number) table)))
    (ne_eqb entry.0 number (λ same. apart entry.0 count number next all.0 same))
    ∙ none-above table count number next all.1
  where
    apart : (one count number : ℕ) → number ≡ count + 1 → one ≤ count → one ≡ number → ⊥
    apart one count number next few same = omega (arith, next, few, same)

module _ {T : Type 0} (p s : ℕ) where
  -- what is good in a service may become better where the publisher is of it
  one-better : (G H : List ℕ → StaticConfig → Message T → Type 0) (state : State T) (sent received : List (Message T))
      (services : List (Service T))
      → ((it : Service T) → find (has_it p s G) services ≡ Some it → (message : Message T) → G it.name it.settings message
      → H it.name it.settings message)
      → IsOfOne p s G state.made sent received services → IsOfOne p s H state.made sent received services
  one-better G H state sent received [] on one = tt
  one-better G H state sent received (service ∷ more) on (inl (lacks, one)) = inl (
    lacks,
    one-better G H state sent received more
        (λ it e. on it (ap (λ (o : Option (Publisher T)). cond (is_some o) (Some service) (find (has_it p s G) more)) lacks.0 ∙ e)) one,
  )
  one-better G H state sent received (service ∷ more) on (inr (fits, all)) = inr (
    (
      fits.0,
      fits.1,
      all-weaker (G service.name service.settings) (H service.name service.settings)
          (on service (ap (λ (o : Option (Publisher T)). cond (is_some o) (Some service) (find (has_it p s G) more)) fits.0.1)) sent fits.2,
    ),
    all,
  )

  ordered-better : (G H : List ℕ → StaticConfig → Message T → Type 0) (state : State T) (sent received : List (Message T))
      → ((it : Service T) → find (has_it p s G) state.services ≡ Some it → (message : Message T) → G it.name it.settings message
      → H it.name it.settings message)
      → IsOrdered p s G sent received state → IsOrdered p s H sent received state
  ordered-better G H state sent received on ordered =
      (one-better G H state sent received state.services on ordered.0, ordered.1, ordered.2, ordered.3)

  -- the service that is found lacks the publisher, or it is the first that has it
  pub one-found : (G : List ℕ → StaticConfig → Message T → Type 0) (state : State T) (sent received : List (Message T))
      (has : Service T → Bool) (service : Service T) (services : List (Service T)) → find has services ≡ Some service
      → IsOfOne p s G state.made sent received services
      → Lacks p s state.made.subscribers service
      ⊎ (Fits p s G state.made sent received service × (find (has_it p s G) services ≡ Some service))
  one-found G state sent received has service [] e one = never-some service e
  one-found G state sent received has service (it ∷ more) e (inl (lacks, one)) =
      step (one-found G state sent received has service more) (has it) e
    where
      step : (find has more ≡ Some service → IsOfOne p s G state.made sent received more
          → Lacks p s state.made.subscribers service
          ⊎ (Fits p s G state.made sent received service × (find (has_it p s G) more ≡ Some service))) → (b : Bool)
          → cond b (Some it) (find has more) ≡ Some service
          → Lacks p s state.made.subscribers service
          ⊎ (Fits p s G state.made sent received service × (find (has_it p s G) (it ∷ more) ≡ Some service))
      step next true same = inl (subst (Lacks p s state.made.subscribers) (same-some it service same) lacks)
      step next false same = elim (next same one) [
        | inl is ↦ inl is
        | inr is ↦ inr (
          is.0,
          ap (λ (o : Option (Publisher T)). cond (is_some o) (Some it) (find (has_it p s G) more)) lacks.0 ∙ is.1,
        )
      ]
  one-found G state sent received has service (it ∷ more) e (inr (fits, all)) = step (has it) e
    where
      here : find (has_it p s G) (it ∷ more) ≡ Some it
      here = ap (λ (o : Option (Publisher T)). cond (is_some o) (Some it) (find (has_it p s G) more)) fits.0.1

      step : (b : Bool) → cond b (Some it) (find has more) ≡ Some service
          → Lacks p s state.made.subscribers service
          ⊎ (Fits p s G state.made sent received service × (find (has_it p s G) (it ∷ more) ≡ Some service))
      step true same = inr (subst (Fits p s G state.made sent received) (same-some it service same) fits, here ∙ same)
      step false same = inl (all-found (Lacks p s state.made.subscribers) has more service same all)

  module _ (types : MessageTypeDetails) (choices : Choices T) (buffer : ℕ) where
    pub fresh-numbers : (state : State T) → AreSound AnyMessage (Numbered types choices buffer state) state
        → AllByRecursion (λ (other : Service T). at (state.made.samples + 1) other.samples ≡ None) state.services
    fresh-numbers state sound =
        all-weaker (Sound AnyMessage (Numbered types choices buffer state) AnyOptions)
        (λ (other : Service T). at (state.made.samples + 1) other.samples ≡ None)
        (λ service fits. none-above service.samples state.made.samples (state.made.samples + 1) refl
        (all-weaker (λ (entry : ℕ × Sample T). SampleFits AnyMessage (Numbered types choices buffer state) AnyOptions entry.0 entry.1)
        (λ (entry : ℕ × Sample T). entry.0 ≤ state.made.samples) (λ entry it. it.0) service.samples fits.3))
        state.services sound

    -- what is good after a run: what was good before it, of a publisher that stays of its service, or a message of which the send began
    abbrev pub After : (List ℕ → StaticConfig → Message T → Type 0) → (asked : List (Command T)) (old : State T) (answers : List (Reply T))
        (new : State T) → Runs types choices buffer asked old answers new → List ℕ → StaticConfig → Message T → Type 0
    After G asked old answers new run name c message =
        (G name c message × StaysOfService types choices buffer p name c asked old answers new run)
        ⊎ BeganIn types choices buffer p name c message.values asked old answers new run

    run-ordered : (G : List ℕ → StaticConfig → Message T → Type 0) (sent received : List (Message T)) (asked : List (Command T))
        (old : State T) (answers : List (Reply T)) (new : State T) (run : Runs types choices buffer asked old answers new)
        → AreSound AnyMessage (Numbered types choices buffer old) old → IsOrdered p s G sent received old
        → IsOrdered p s (After G asked old answers new run)
        (sent ++ sent_by types choices buffer p asked old answers new run)
        (received ++ received_from types choices buffer p s asked old answers new run) new
    run-ordered G sent received [] old answers new run sound ordered =
        subst (λ (l : List (Message T)). IsOrdered p s (After G [] old answers new run) l (received ++ []) new) (sym (append-nil sent))
        (subst (λ (l : List (Message T)). IsOrdered p s (After G [] old answers new run) sent l new) (sym (append-nil received))
        (subst (IsOrdered p s (After G [] old answers new run) sent received) (sym run.1)
        (ordered-better G (After G [] old answers new run) old sent received
        (λ it first message good. inl (good, (it, first, refl, refl))) ordered)))
    run-ordered G sent received (one ∷ more) old answers new run sound ordered =
        let Next : List ℕ → StaticConfig → Message T → Type 0 =
        λ name c message. (G name c message ⊎ BeginsToSend p message.values one old run.0) × IsOfService p name c old in
        let before : IsOrdered p s Next sent received old =
        ordered-better G Next old sent received (λ it first message good. (inl good, (it, first, refl, refl))) ordered in
        let sending : Option (Message T) = begun_by p one old run.0 in
        let receiving : Option (Message T) = received_by p s one run.0 run.1 in
        let mid : IsOrdered p s Next (noted sent sending) (noted received receiving) run.1 =
        step-ordered p s Next sent received types choices buffer one old run.0 run.1
        (λ message it begins first. (inr begins, (it, first, refl, refl))) (fresh-numbers old sound) run.3 before in
        let numbered : AreSound AnyMessage (Numbered types choices buffer run.1) run.1 =
        runs-numbered types choices buffer (one ∷ []) old (run.0 ∷ []) run.1 (run.0, run.1, [], run.3, (refl, refl), refl) sound in
        let end : IsOrdered p s (After Next more run.1 run.2 new run.4)
        (noted sent sending ++ sent_by types choices buffer p more run.1 run.2 new run.4)
        (noted received receiving ++ received_from types choices buffer p s more run.1 run.2 new run.4) new =
        run-ordered Next (noted sent sending) (noted received receiving) more run.1 run.2 new run.4 numbered mid in
        ordered-better (After Next more run.1 run.2 new run.4) (After G (one ∷ more) old answers new run) new
        (sent ++ sent_by types choices buffer p (one ∷ more) old answers new run)
        (received ++ received_from types choices buffer p s (one ∷ more) old answers new run)
        (λ it first message good. elim good [
          | inl was ↦ elim was.0.0 [
            | inl good_so ↦ inl (good_so, (was.0.1, was.1))
            | inr begins ↦ inr (inl (begins, (was.0.1, was.1)))
          ]
          | inr began ↦ inr (inr began)
        ])
        (subst (λ (l : List (Message T)). IsOrdered p s (After Next more run.1 run.2 new run.4) l
        (received ++ received_from types choices buffer p s (one ∷ more) old answers new run) new)
        (noted-more sent sending (sent_by types choices buffer p more run.1 run.2 new run.4))
        (subst (λ (l : List (Message T)). IsOrdered p s (After Next more run.1 run.2 new run.4)
        (noted sent sending ++ sent_by types choices buffer p more run.1 run.2 new run.4) l new)
        (noted-more received receiving (received_from types choices buffer p s more run.1 run.2 new run.4)) end))

    pub new-ordered : (G : List ℕ → StaticConfig → Message T → Type 0) (asked : List (Command T)) (answers : List (Reply T)) (new : State T)
        (run : Runs types choices buffer asked new_state answers new)
        → IsOrdered p s (After G asked new_state answers new run) (sent_by types choices buffer p asked new_state answers new run)
        (received_from types choices buffer p s asked new_state answers new run) new
    new-ordered G asked answers new run =
        run-ordered G [] [] asked new_state answers new run tt (tt, (λ early. (refl, refl)), refl, (false, tt))

pub received-in-order : {T : Type 0} (choices : Choices T) → ReceivedInOrder choices
received-in-order {T} choices types buffer asked answers new run publisher subscriber =
    (new-ordered publisher subscriber types choices buffer (λ name c message. ⊤) asked answers new run).2

module _ {T : Type 0} (choices : Choices T) (types : MessageTypeDetails) (buffer : ℕ) (asked : List (Command T))
    (answers : List (Reply T)) (old : State T) (run : Runs types choices buffer asked new_state answers old) where
  abbrev pub Never : List ℕ → StaticConfig → Message T → Type 0
  Never name c message = ⊥

  -- What is first in a mailbox was sent, in the service of both, of which the publisher is since.
  pub first-sent : (subscriber publisher : ℕ) (service : Service T) (message : Message T)
      → find (λ (other : Service T). is_some (subscriber_in subscriber other)) old.services ≡ Some service
      → slice_get (waiting_in (service.mailboxes publisher subscriber)) 0 ≡ Some message
      → (find (λ (other : Service T). is_some (at publisher other.publishers)) old.services ≡ Some service)
      × BeganIn types choices buffer publisher service.name service.settings message.values asked new_state answers old run
  first-sent subscriber publisher service message first waits =
      let Good : List ℕ → StaticConfig → Message T → Type 0 =
      After publisher subscriber types choices buffer Never asked new_state answers old run in
      let sent : List (Message T) = sent_by types choices buffer publisher asked new_state answers old run in
      let received : List (Message T) = received_from types choices buffer publisher subscriber asked new_state answers old run in
      elim (one-found publisher subscriber Good old sent received (λ (other : Service T). is_some (subscriber_in subscriber other)) service
      old.services first (new-ordered publisher subscriber types choices buffer Never asked answers old run).0) [
        | inl lacks ↦ never-some message (sym (ap (λ (l : List (Message T)). slice_get l 0) lacks.1) ∙ waits)
        | inr fits ↦ (
          fits.1,
          began service message (first-all (Good service.name service.settings)
              (waiting_in (service.mailboxes publisher subscriber)) message waits
              (all-behind (Good service.name service.settings) received (waiting_in (service.mailboxes publisher subscriber))
              (part-all (Good service.name service.settings)
              (received ++ waiting_in (service.mailboxes publisher subscriber)) sent fits.0.0.2.waits fits.0.2))),
        )
      ]
    where
      began : (service : Service T) (message : Message T)
          → (⊥ × StaysOfService types choices buffer publisher service.name service.settings asked new_state answers old run)
          ⊎ BeganIn types choices buffer publisher service.name service.settings message.values asked new_state answers old run
          → BeganIn types choices buffer publisher service.name service.settings message.values asked new_state answers old run
      began service message (inl w) = absurd w.0
      began service message (inr it) = it

  -- A subscriber is listed once at most, and a publisher is connected to it once at most.
  pub connects-once : (subscriber publisher : ℕ) (has : Service T → Bool) (service : Service T) (one : Publisher T)
      → find has old.services ≡ Some service → at publisher service.publishers ≡ Some one
      → Once subscriber (those service.subscriber_list.places) × Once subscriber (those one.connected)
  connects-once subscriber publisher has service one first found =
      let Good : List ℕ → StaticConfig → Message T → Type 0 =
      After publisher subscriber types choices buffer Never asked new_state answers old run in
      let sent : List (Message T) = sent_by types choices buffer publisher asked new_state answers old run in
      let received : List (Message T) = received_from types choices buffer publisher subscriber asked new_state answers old run in
      elim (one-found publisher subscriber Good old sent received has service old.services first
      (new-ordered publisher subscriber types choices buffer Never asked answers old run).0) [
        | inl lacks ↦ never-some one (sym lacks.0 ∙ found)
        | inr fits ↦ (
          fits.0.0.2.listed_once,
          subst (λ (it : Publisher T). Once subscriber (those it.connected)) (same-some fits.0.0.0 one (sym fits.0.0.1 ∙ found))
              fits.0.0.2.connected_once,
        )
      ]

  -- So it is of those that are left to a send that is blocked.
  pub waits-once : (subscriber publisher : ℕ) (has : Service T → Bool) (service : Service T) (one : Publisher T) (send : Send T)
      → find has old.services ≡ Some service → at publisher service.publishers ≡ Some one → one.blocked ≡ Some send
      → Once subscriber send.left
  waits-once subscriber publisher has service one send first found waits =
      let Good : List ℕ → StaticConfig → Message T → Type 0 =
      After publisher subscriber types choices buffer Never asked new_state answers old run in
      let sent : List (Message T) = sent_by types choices buffer publisher asked new_state answers old run in
      let received : List (Message T) = received_from types choices buffer publisher subscriber asked new_state answers old run in
      elim (one-found publisher subscriber Good old sent received has service old.services first
      (new-ordered publisher subscriber types choices buffer Never asked answers old run).0) [
        | inl lacks ↦ never-some one (sym lacks.0 ∙ found)
        | inr fits ↦ (subst (λ (o : Option (Send T)). MatchOption o ⊤ (IsUnder T subscriber
            (MayCome subscriber old.made.subscribers service.subscriber_list.places) sent received fits.0.0.0.connected
            (service.mailboxes publisher subscriber)))
            (ap (λ (it : Publisher T). it.blocked) (same-some fits.0.0.0 one (sym fits.0.0.1 ∙ found)) ∙ waits)
            fits.0.0.2.under).2.once
      ]
