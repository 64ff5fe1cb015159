-- What is lost to a subscriber: each message that was sent was received, is on its way, or was lost.
use Rattle.std.proofs.Common.{◌≡◌, ◌⊎◌, ℕ, Bool, true, false, cond, not, ◌||◌, List, [], ◌∷◌, ◌++◌, map, Option, None, Some, refl, sym, ap}
use Rattle.std.proofs.Common.{subst, inl, inr, ◌∙◌, append_assoc, append-nil}
use Rattle.std.proofs.lemmas.Bool.{cases_Bool, eq-eqb, eqb-true, or_left, or_right, true≢false}
use Rattle.std.specs.List.{AllByRecursion}
use Rattle.std.specs.Option.{option_map_or}
use Rattle.std.specs.Prelude.{⊤, ◌==◌, filter, find, is_some, option_and_then, MatchOption}
use Rattle.iox_machine.specs.Choices.{Choices}
use Rattle.iox_machine.specs.Mailbox.{Mailbox}
use Rattle.iox_machine.specs.Message.{Message}
use Rattle.iox_machine.specs.MessageLaws.{IsPartOf, begun_by, received_by, received_from, sent_by, with_one}
use Rattle.iox_machine.specs.Run.{Runs}
use Rattle.iox_machine.specs.SequenceLaws.{still_brought, dropped_by, has_message, lost_to, on_way, passed_by, to_come, waiting_for}
use Rattle.iox_machine.specs.Service.{Publisher, Send, Service, mailbox}
use Rattle.iox_machine.specs.State.{Made, State}
use Rattle.iox_machine.specs.Table.{at, contains}
use Rattle.iox_machine.proofs.Frames.{waiting_in}
use Rattle.iox_machine.proofs.Lists.{all-filtered, all-joined, all-weaker}
use Rattle.iox_machine.proofs.Order.{Between, IsUnder, MayCome}
use Rattle.iox_machine.proofs.OrderCommands.{step-ordered}
use Rattle.iox_machine.proofs.OrderLaws.{all-behind, fresh-numbers, noted-more, part-all}
use Rattle.iox_machine.proofs.OrderSteps.{noted, IsOfOne, IsOrdered}
use Rattle.iox_machine.proofs.Parts.{part-last}
use Rattle.iox_machine.proofs.Runs.{AnyMessage, AreSound, Numbered, runs-numbered}
use Rattle.iox_command.specs.NegotiateBase.DescribeBase.declared.message_type.MessageTypeDetails.{MessageTypeDetails}
use Rattle.iox_command.specs.NegotiateBase.DescribeSettings.declared.static_config.publish_subscribe.StaticConfig.{StaticConfig}
use Rattle.iox_command.specs.declared.command.Command.{Command}
use Rattle.iox_command.specs.declared.reply.Reply.{Reply}

pub all-front : {X : Type 0} (P : X → Type 0) (xs ys : List X) → AllByRecursion P (xs ++ ys) → AllByRecursion P xs
all-front P [] ys all = tt
all-front P (x ∷ xs) ys all = (all.0, all-front P xs ys all.1)

or-assoc : (a b c : Bool) → (a || (b || c)) ≡ ((a || b) || c)
or-assoc true b c = refl
or-assoc false b c = refl

or-none : (a : Bool) → (a || false) ≡ a
or-none true = refl
or-none false = refl

module _ {T : Type 0} where
  -- ---- which messages are among others

  pub among-joined : (x : Message T) (xs ys : List (Message T)) → has_message (xs ++ ys) x ≡ (has_message xs x || has_message ys x)
  among-joined x [] ys = refl
  among-joined x (y ∷ xs) ys =
      ap (λ (b : Bool). (y.number == x.number) || b) (among-joined x xs ys)
      ∙ or-assoc (y.number == x.number) (has_message xs x) (has_message ys x)

  among-one : (x : Message T) (o : Option (Message T)) (xs : List (Message T))
      → has_message (with_one o xs) x ≡ (has_message (with_one o []) x || has_message xs x)
  among-one x None xs = refl
  among-one x (Some y) xs = ap (λ (b : Bool). b || has_message xs x) (sym (or-none (y.number == x.number)))

  among-noted : (x : Message T) (xs : List (Message T)) (o : Option (Message T))
      → has_message (noted xs o) x ≡ (has_message xs x || has_message (with_one o []) x)
  among-noted x xs None = sym (or-none (has_message xs x))
  among-noted x xs (Some y) = among-joined x xs (y ∷ [])

  -- of messages that are left out since they are among others, each is among these
  pub left-out : (x : Message T) (others xs : List (Message T)) → has_message xs x ≡ true → has_message others x ≡ false
      → has_message (filter (λ (y : Message T). not (has_message others y)) xs) x ≡ true
  left-out x others [] is off = absurd (true≢false (sym is))
  left-out x others (y ∷ xs) is off =
      let rest : List (Message T) = filter (λ (z : Message T). not (has_message others z)) xs in
      elim (cases_Bool (y.number == x.number)) [
        | inl same ↦ subst (λ (b : Bool). has_message (cond (not b) (y ∷ rest) rest) x ≡ true)
            (sym (ap (λ (n : ℕ). contains (map (λ (z : Message T). z.number) others) n) (eqb-true y.number x.number same) ∙ off))
            (or_left (y.number == x.number) (has_message rest x) same)
        | inr other ↦ either (has_message others y) rest
            (left-out x others xs (sym (ap (λ (b : Bool). b || has_message xs x) other) ∙ is) off)
      ]
    where
      either : (b : Bool) (rest : List (Message T)) → has_message rest x ≡ true → has_message (cond (not b) (y ∷ rest) rest) x ≡ true
      either true rest on = on
      either false rest on = or_right (y.number == x.number) (has_message rest x) on

  -- ---- each message was received, is on its way, or was lost

  abbrev pub AreAccounted : List (Message T) → List (Message T) → List (Message T) → List (Message T) → Type 0
  AreAccounted sent received way lost = AllByRecursion (λ x. has_message ((received ++ way) ++ lost) x ≡ true) sent

  -- what is dropped where so much waited, and so much was received and waits then
  abbrev drops : List (Message T) → Option (Message T) → List (Message T) → List (Message T)
  drops waiting receiving waits = filter (λ message. not (has_message (with_one receiving waits) message)) waiting

  -- what is passed over where so much was to come and was begun, and so much is on its way then
  abbrev passes : List (Message T) → Option (Message T) → List (Message T) → List (Message T)
  passes coming sending way = filter (λ message. not (has_message way message)) (coming ++ with_one sending [])

  -- what was received, is on its way and was lost after a command
  abbrev after_it : List (Message T) → List (Message T) → List (Message T) → List (Message T) → List (Message T) → List (Message T)
      → Option (Message T) → Option (Message T) → List (Message T)
  after_it received waiting coming lost waits comes sending receiving =
      (noted received receiving ++ (waits ++ comes)) ++ (lost ++ (drops waiting receiving waits ++ passes coming sending (waits ++ comes)))

  accounted-on : (x : Message T) (received waiting coming lost waits comes : List (Message T)) (sending receiving : Option (Message T))
      → (has_message ((received ++ (waiting ++ coming)) ++ lost) x ≡ true) ⊎ (has_message (with_one sending []) x ≡ true)
      → has_message (after_it received waiting coming lost waits comes sending receiving) x ≡ true
  accounted-on x received waiting coming lost waits comes sending receiving h =
      let dropping : List (Message T) = drops waiting receiving waits in
      let passing : List (Message T) = passes coming sending (waits ++ comes) in
      among-joined x (noted received receiving ++ (waits ++ comes)) (lost ++ (dropping ++ passing))
      ∙ (ap (λ (b : Bool). b || has_message (lost ++ (dropping ++ passing)) x)
      (among-joined x (noted received receiving) (waits ++ comes)
      ∙ (ap (λ (b : Bool). b || has_message (waits ++ comes) x) (among-noted x received receiving)
      ∙ ap (λ (b : Bool). (has_message received x || has_message (with_one receiving []) x) || b) (among-joined x waits comes)))
      ∙ (ap (λ (b : Bool). ((has_message received x || has_message (with_one receiving []) x)
      || (has_message waits x || has_message comes x)) || b)
      (among-joined x lost (dropping ++ passing) ∙ ap (λ (b : Bool). has_message lost x || b) (among-joined x dropping passing))
      ∙ by-cases (has_message received x) (has_message (with_one receiving []) x) (has_message waits x) (has_message comes x)
      (has_message lost x)
      (has_message dropping x) (has_message passing x) (has_message waiting x) (has_message (coming ++ with_one sending []) x)
      (ap (λ (b : Bool). ((has_message received x || has_message waiting x) || has_message lost x) || b)
      (among-joined x coming (with_one sending [])) ∙ was h)
      (λ gone is. left-out x (with_one receiving waits) waiting is (among-one x receiving waits ∙ gone))
      (λ gone is. left-out x (waits ++ comes) (coming ++ with_one sending []) is (among-joined x waits comes ∙ gone))))
    where
      by-cases : (a r w c l d q v k : Bool) → (((a || v) || l) || k) ≡ true → ((r || w) ≡ false → v ≡ true → d ≡ true)
          → ((w || c) ≡ false → k ≡ true → q ≡ true) → (((a || r) || (w || c)) || (l || (d || q))) ≡ true
      by-cases true r w c l d q v k is drop pass = refl
      by-cases false true w c l d q v k is drop pass = refl
      by-cases false false true c l d q v k is drop pass = refl
      by-cases false false false c true d q v k is drop pass = or_right c true refl
      by-cases false false false c false d q true k is drop pass = or_right c (d || q) (or_left d q (drop refl refl))
      by-cases false false false true false d q false k is drop pass = refl
      by-cases false false false false false d q false k is drop pass = or_right d q (pass refl is)

      joins : (a v c l b : Bool) → ((a || (v || c)) || l) ≡ true → (((a || v) || l) || (c || b)) ≡ true
      joins true v c l b is = refl
      joins false true c l b is = refl
      joins false false true l b is = or_right l true refl
      joins false false false l b is = or_left l b is

      was : (has_message ((received ++ (waiting ++ coming)) ++ lost) x ≡ true) ⊎ (has_message (with_one sending []) x ≡ true)
          → (((has_message received x || has_message waiting x) || has_message lost x)
          || (has_message coming x || has_message (with_one sending []) x)) ≡ true
      was (inl e) =
          joins (has_message received x) (has_message waiting x) (has_message coming x) (has_message lost x)
          (has_message (with_one sending []) x)
          (sym (among-joined x (received ++ (waiting ++ coming)) lost
          ∙ ap (λ (b : Bool). b || has_message lost x) (among-joined x received (waiting ++ coming)
          ∙ ap (λ (b : Bool). has_message received x || b) (among-joined x waiting coming))) ∙ e)
      was (inr e) =
          or_right ((has_message received x || has_message waiting x) || has_message lost x)
          (has_message coming x || has_message (with_one sending []) x)
          (or_right (has_message coming x) (has_message (with_one sending []) x) e)

  accounted-step : (sent received waiting coming lost waits comes : List (Message T)) (sending receiving : Option (Message T))
      → AreAccounted sent received (waiting ++ coming) lost
      → AreAccounted (noted sent sending) (noted received receiving) (waits ++ comes)
      (lost ++ (drops waiting receiving waits ++ passes coming sending (waits ++ comes)))
  accounted-step sent received waiting coming lost waits comes sending receiving all = begun sending refl
    where
      before : AllByRecursion (λ x. has_message (after_it received waiting coming lost waits comes sending receiving) x ≡ true) sent
      before = all-weaker (λ x. has_message ((received ++ (waiting ++ coming)) ++ lost) x ≡ true)
          (λ x. has_message (after_it received waiting coming lost waits comes sending receiving) x ≡ true)
          (λ x is. accounted-on x received waiting coming lost waits comes sending receiving (inl is)) sent all

      begun : (o : Option (Message T)) → sending ≡ o
          → AllByRecursion (λ x. has_message (after_it received waiting coming lost waits comes sending receiving) x ≡ true) (noted sent o)
      begun None is = before
      begun (Some message) is =
          all-joined (λ x. has_message (after_it received waiting coming lost waits comes sending receiving) x ≡ true) sent (message ∷ [])
          before (
            accounted-on message received waiting coming lost waits comes sending receiving
                (inr (ap (λ (o : Option (Message T)). has_message (with_one o []) message) is
                ∙ or_left (message.number == message.number) false (eq-eqb message.number message.number refl))),
            tt,
          )

  -- ---- what is on its way was sent

  way-between : (s : ℕ) (switch : Bool) (last : Option ℕ) (sent received : List (Message T)) (born : ℕ) (history : List (Message T))
      (connected : List (Option ℕ)) (blocked : Option (Send T)) (box : Option (Mailbox T)) (places : List (Option ℕ))
      → Between T s switch last sent received born history connected blocked box places
      → IsPartOf (received ++ (waiting_in box ++ still_brought s blocked)) sent
  way-between s switch last sent received born history connected blocked box places b = here blocked b.under
    where
      none : (l : List (Message T)) → l ≡ [] → IsPartOf (received ++ (waiting_in box ++ l)) sent
      none l e =
          subst (λ (it : List (Message T)). IsPartOf (received ++ (waiting_in box ++ it)) sent) (sym e)
          (subst (λ (it : List (Message T)). IsPartOf (received ++ it) sent) (sym (append-nil (waiting_in box))) b.waits)

      here : (o : Option (Send T)) → MatchOption o ⊤ (IsUnder T s (MayCome s born places) sent received connected box)
          → IsPartOf (received ++ (waiting_in box ++ still_brought s o)) sent
      here None u = none [] refl
      here (Some send) (before, is, u) = elim (cases_Bool (contains send.left s)) [
        | inl left ↦ subst (λ (c : Bool). IsPartOf (received ++ (waiting_in box ++ cond c (send.message ∷ []) [])) sent) (sym left)
            (subst (λ (l : List (Message T)). IsPartOf l sent) (append_assoc received (waiting_in box) (send.message ∷ []))
            (subst (λ (l : List (Message T)). IsPartOf ((received ++ waiting_in box) ++ send.message ∷ []) l) (sym is)
            (part-last send.message (received ++ waiting_in box) before (u.from_before left))))
        | inr other ↦ none (still_brought s (Some send)) (ap (λ (c : Bool). cond c (send.message ∷ []) []) other)
      ]

module _ {T : Type 0} (p s : ℕ) where
  abbrev pub Anything : List ℕ → StaticConfig → Message T → Type 0
  Anything name c message = ⊤

  -- what is on its way at the service that is found
  abbrev way_at : Option (Service T) → List (Message T)
  way_at found =
      option_map_or (λ service. (mailbox p s service).waiting) found []
      ++ option_map_or (λ (one : Publisher T). still_brought s one.blocked)
      (option_and_then (λ (service : Service T). at p service.publishers) found) []

  way-one : (G : List ℕ → StaticConfig → Message T → Type 0) (made : Made) (sent received : List (Message T)) (services : List (Service T))
      → IsPartOf received sent → IsOfOne p s G made sent received services
      → IsPartOf (received ++ way_at (find (λ (service : Service T). is_some (at p service.publishers)) services)) sent
  way-one G made sent received [] h one = subst (λ (l : List (Message T)). IsPartOf l sent) (sym (append-nil received)) h
  way-one G made sent received (service ∷ more) h (inl (lacks, one)) =
      subst (λ (o : Option (Service T)). IsPartOf (received ++ way_at o) sent)
      (sym (ap (λ (o : Option (Publisher T)). cond (is_some o) (Some service)
      (find (λ (it : Service T). is_some (at p it.publishers)) more)) lacks.0))
      (way-one G made sent received more h one)
  way-one G made sent received (service ∷ more) h (inr (fits, all)) =
      subst (λ (o : Option (Service T)). IsPartOf (received ++ way_at o) sent)
      (sym (ap (λ (o : Option (Publisher T)). cond (is_some o) (Some service)
      (find (λ (it : Service T). is_some (at p it.publishers)) more)) fits.0.1))
      (subst (λ (o : Option (Publisher T)). IsPartOf (received ++ ((mailbox p s service).waiting
      ++ option_map_or (λ (one : Publisher T). still_brought s one.blocked) o [])) sent) (sym fits.0.1)
      (way-between s service.settings.sequence_numbers fits.0.0.last_sequence sent received made.subscribers fits.0.0.history
      fits.0.0.connected fits.0.0.blocked (service.mailboxes p s) service.subscriber_list.places fits.0.2))

  pub way-sent : (G : List ℕ → StaticConfig → Message T → Type 0) (sent received : List (Message T)) (state : State T)
      → IsOrdered p s G sent received state → IsPartOf (received ++ on_way p s state) sent
  way-sent G sent received state ordered = way-one G state.made sent received state.services ordered.2 ordered.0

  module _ (types : MessageTypeDetails) (choices : Choices T) (buffer : ℕ) where
    pub run-accounted : (sent received lost : List (Message T)) (asked : List (Command T)) (old : State T) (answers : List (Reply T))
        (new : State T) (run : Runs types choices buffer asked old answers new)
        → AreAccounted sent received (on_way p s old) lost
        → AreAccounted (sent ++ sent_by types choices buffer p asked old answers new run)
        (received ++ received_from types choices buffer p s asked old answers new run) (on_way p s new)
        (lost ++ lost_to types choices buffer p s asked old answers new run)
    run-accounted sent received lost [] old answers new run all =
        subst (λ (l : List (Message T)). AreAccounted l (received ++ []) (on_way p s new) (lost ++ [])) (sym (append-nil sent))
        (subst (λ (l : List (Message T)). AreAccounted sent l (on_way p s new) (lost ++ [])) (sym (append-nil received))
        (subst (λ (l : List (Message T)). AreAccounted sent received (on_way p s new) l) (sym (append-nil lost))
        (subst (λ (state : State T). AreAccounted sent received (on_way p s state) lost) (sym run.1) all)))
    run-accounted sent received lost (one ∷ more) old answers new run all =
        let sending : Option (Message T) = begun_by p one old run.0 in
        let receiving : Option (Message T) = received_by p s one run.0 run.1 in
        let here : List (Message T) = dropped_by p s one old run.0 run.1 ++ passed_by p s one old run.0 run.1 in
        subst (λ (l : List (Message T)). AreAccounted l
        (received ++ received_from types choices buffer p s (one ∷ more) old answers new run)
        (on_way p s new) (lost ++ lost_to types choices buffer p s (one ∷ more) old answers new run))
        (noted-more sent sending (sent_by types choices buffer p more run.1 run.2 new run.4))
        (subst (λ (l : List (Message T)). AreAccounted (noted sent sending ++ sent_by types choices buffer p more run.1 run.2 new run.4) l
        (on_way p s new) (lost ++ lost_to types choices buffer p s (one ∷ more) old answers new run))
        (noted-more received receiving (received_from types choices buffer p s more run.1 run.2 new run.4))
        (subst (λ (l : List (Message T)). AreAccounted (noted sent sending ++ sent_by types choices buffer p more run.1 run.2 new run.4)
        (noted received receiving ++ received_from types choices buffer p s more run.1 run.2 new run.4) (on_way p s new) l)
        (append_assoc lost here (lost_to types choices buffer p s more run.1 run.2 new run.4))
        (run-accounted (noted sent sending) (noted received receiving) (lost ++ here) more run.1 run.2 new run.4
        (accounted-step sent received (waiting_for p s old) (to_come p s old) lost (waiting_for p s run.1) (to_come p s run.1) sending
        receiving all))))

    -- what is said of all that was sent is so of what was lost
    pub run-lost : (P : Message T → Type 0) (sent received : List (Message T)) (asked : List (Command T)) (old : State T)
        (answers : List (Reply T)) (new : State T) (run : Runs types choices buffer asked old answers new)
        → AreSound AnyMessage (Numbered types choices buffer old) old → IsOrdered p s Anything sent received old
        → AllByRecursion P (sent ++ sent_by types choices buffer p asked old answers new run)
        → AllByRecursion P (lost_to types choices buffer p s asked old answers new run)
    run-lost P sent received [] old answers new run sound ordered all = tt
    run-lost P sent received (one ∷ more) old answers new run sound ordered all =
        let sending : Option (Message T) = begun_by p one old run.0 in
        let receiving : Option (Message T) = received_by p s one run.0 run.1 in
        let mid : IsOrdered p s Anything (noted sent sending) (noted received receiving) run.1 =
        step-ordered p s Anything sent received types choices buffer one old run.0 run.1
        (λ message it begins first. tt) (fresh-numbers p s types choices buffer old sound) run.3 ordered in
        let numbered_on : AreSound AnyMessage (Numbered types choices buffer run.1) run.1 =
        runs-numbered types choices buffer (one ∷ []) old (run.0 ∷ []) run.1 (run.0, run.1, [], run.3, (refl, refl), refl) sound in
        let all_so : AllByRecursion P (noted sent sending ++ sent_by types choices buffer p more run.1 run.2 new run.4) =
        subst (AllByRecursion P) (sym (noted-more sent sending (sent_by types choices buffer p more run.1 run.2 new run.4))) all in
        let way : AllByRecursion P (waiting_for p s old ++ to_come p s old) =
        all-behind P received (on_way p s old) (part-all P (received ++ on_way p s old) sent (way-sent Anything sent received old ordered)
        (all-front P sent (sent_by types choices buffer p (one ∷ more) old answers new run) all)) in
        all-joined P (dropped_by p s one old run.0 run.1 ++ passed_by p s one old run.0 run.1)
        (lost_to types choices buffer p s more run.1 run.2 new run.4)
        (all-joined P (dropped_by p s one old run.0 run.1) (passed_by p s one old run.0 run.1)
        (all-filtered P (λ (message : Message T). not (has_message (with_one receiving (waiting_for p s run.1)) message))
        (waiting_for p s old) (all-front P (waiting_for p s old) (to_come p s old) way))
        (all-filtered P (λ (message : Message T). not (has_message (on_way p s run.1) message)) (to_come p s old ++ with_one sending [])
        (all-joined P (to_come p s old) (with_one sending []) (all-behind P (waiting_for p s old) (to_come p s old) way)
        (begun sending (sent_by types choices buffer p more run.1 run.2 new run.4)
        (all-behind P sent (sent_by types choices buffer p (one ∷ more) old answers new run) all)))))
        (run-lost P (noted sent sending) (noted received receiving) more run.1 run.2 new run.4 numbered_on mid all_so)
      where
        begun : (o : Option (Message T)) (xs : List (Message T)) → AllByRecursion P (with_one o xs) → AllByRecursion P (with_one o [])
        begun None xs all = tt
        begun (Some message) xs all = (all.0, tt)
