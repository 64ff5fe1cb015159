-- No message is both dropped for good and passed over for good.
use Rattle.std.proofs.Common.{◌≡◌, ℕ, Bool, true, false, cond, not, ◌||◌, List, [], ◌∷◌, ◌++◌, map, Option, None, Some, refl, sym, ap}
use Rattle.std.proofs.Common.{subst, inl, inr, ◌∙◌}
use Rattle.std.proofs.lemmas.Bool.{cases_Bool, eqb-true, or_left, or_right}
use Rattle.std.specs.List.{AllByRecursion, IsDistinct}
use Rattle.std.specs.Prelude.{◌==◌, filter}
use Rattle.iox_machine.specs.Choices.{Choices}
use Rattle.iox_machine.specs.LossLaws.{IsDropped, IsLostBy, IsPassedOver, StaysOff}
use Rattle.iox_machine.specs.Message.{Message}
use Rattle.iox_machine.specs.MessageLaws.{IsPartOf, begun_by, received_by, sent_by, with_one}
use Rattle.iox_machine.specs.Run.{Runs}
use Rattle.iox_machine.specs.SequenceLaws.{has_message, on_way, to_come, waiting_for}
use Rattle.iox_machine.specs.State.{State}
use Rattle.iox_machine.proofs.Causes.{among-back, among-either, among-front, none-among, part-itself}
use Rattle.iox_machine.proofs.Gaps.{from-map, not-among, part-not-among}
use Rattle.iox_machine.proofs.Lists.{all-weaker}
use Rattle.iox_machine.proofs.Losses.{Anything, way-sent}
use Rattle.iox_machine.proofs.Order.{absurd-both}
use Rattle.iox_machine.proofs.OrderCommands.{step-ordered}
use Rattle.iox_machine.proofs.OrderLaws.{all-behind, fresh-numbers, noted-more, part-all}
use Rattle.iox_machine.proofs.OrderSteps.{IsOrdered, noted}
use Rattle.iox_machine.proofs.Parts.{part-more}
use Rattle.iox_machine.proofs.Runs.{AnyMessage, AreSound, Numbered, runs-numbered}
use Rattle.iox_command.specs.NegotiateBase.DescribeBase.declared.message_type.MessageTypeDetails.{MessageTypeDetails}
use Rattle.iox_command.specs.declared.command.Command.{Command}
use Rattle.iox_command.specs.declared.reply.Reply.{Reply}

module _ {T : Type 0} where
  -- the messages have different numbers
  abbrev pub AreApart : List (Message T) → Type 0
  AreApart messages = IsDistinct (λ one other. one == other) (map (λ (x : Message T). x.number) messages)

  pub part-behind : (part front back : List (Message T)) → IsPartOf part back → IsPartOf part (front ++ back)
  part-behind part [] back h = h
  part-behind part (x ∷ front) back h = inl (part-behind part front back h)

  part-among : (x : Message T) (part whole : List (Message T)) → IsPartOf part whole → has_message part x ≡ true
      → has_message whole x ≡ true
  part-among x part whole h is = elim (cases_Bool (has_message whole x)) [
    | inl there ↦ there
    | inr off ↦ absurd-both (has_message part x) is (part-not-among x part whole h off)
  ]

  to-map : (P : ℕ → Type 0) (xs : List (Message T)) → AllByRecursion (λ (x : Message T). P x.number) xs
      → AllByRecursion P (map (λ (x : Message T). x.number) xs)
  to-map P [] all = tt
  to-map P (x ∷ xs) all = (all.0, to-map P xs all.1)

  distinct-part : (part whole : List (Message T)) → IsPartOf part whole → AreApart whole → AreApart part
  unfolding IsDistinct
  distinct-part part [] h apart = subst AreApart (sym h) tt
  distinct-part part (x ∷ whole) (inl h) apart = distinct-part part whole h apart.1
  distinct-part part (x ∷ whole) (inr (rest, e, h)) apart =
      subst AreApart (sym e) (
        to-map (λ (n : ℕ). (x.number == n) ≡ false) rest
            (part-all (λ (y : Message T). (x.number == y.number) ≡ false) rest whole h
            (from-map (λ (n : ℕ). (x.number == n) ≡ false) whole apart.0)),
        distinct-part rest whole h apart.1,
      )

  never-twice : {A : Type 0} (x : Message T) (xs ys : List (Message T)) → AreApart (xs ++ ys) → has_message xs x ≡ true
      → has_message ys x ≡ true → A
  unfolding IsDistinct
  never-twice x [] ys apart is also = absurd-both false is refl
  never-twice x (z ∷ xs) ys apart is also = elim (cases_Bool (z.number == x.number)) [
    | inl same ↦ absurd-both (has_message ys x) also
        (not-among x ys
        (all-weaker (λ (y : Message T). (z.number == y.number) ≡ false) (λ (y : Message T). (x.number == y.number) ≡ false)
        (λ y off. subst (λ (n : ℕ). (n == y.number) ≡ false) (eqb-true z.number x.number same) off) ys
        (all-behind (λ (y : Message T). (z.number == y.number) ≡ false) xs ys
        (from-map (λ (n : ℕ). (z.number == n) ≡ false) (xs ++ ys) apart.0))))
    | inr other ↦ never-twice x xs ys apart.1 (sym (ap (λ (b : Bool). b || has_message xs x) other) ∙ is) also
  ]

  begun-twice : {A : Type 0} (x : Message T) (sent : List (Message T)) (o : Option (Message T)) (rest : List (Message T))
      → has_message sent x ≡ true → has_message (with_one o []) x ≡ true → AreApart (sent ++ with_one o rest) → A
  begun-twice x sent None rest is also apart = absurd-both false also refl
  begun-twice x sent (Some y) rest is also apart =
      never-twice x sent (y ∷ rest) apart is (among-front x (y ∷ []) rest also)

  noted-among : (x : Message T) (sent : List (Message T)) (o : Option (Message T)) → has_message sent x ≡ true
      → has_message (noted sent o) x ≡ true
  noted-among x sent None is = is
  noted-among x sent (Some y) is = among-front x sent (y ∷ []) is

  filter-among : (test : Message T → Bool) (xs : List (Message T)) (x : Message T) → has_message (filter test xs) x ≡ true
      → has_message xs x ≡ true
  filter-among test [] x is = is
  filter-among test (y ∷ xs) x is = step (filter-among test xs x) (test y) is
    where
      step : (has_message (filter test xs) x ≡ true → has_message xs x ≡ true) → (b : Bool)
          → has_message (cond b (y ∷ filter test xs) (filter test xs)) x ≡ true → has_message (y ∷ xs) x ≡ true
      step on true is = elim (cases_Bool (y.number == x.number)) [
        | inl same ↦ or_left (y.number == x.number) (has_message xs x) same
        | inr other ↦ or_right (y.number == x.number) (has_message xs x)
            (on (sym (ap (λ (b : Bool). b || has_message (filter test xs) x) other) ∙ is))
      ]
      step on false is = or_right (y.number == x.number) (has_message xs x) (on is)

module _ {T : Type 0} (p s : ℕ) (types : MessageTypeDetails) (choices : Choices T) (buffer : ℕ) where
  -- what is passed over was still to come, or is begun
  passed-among : (x : Message T) (asked : Command T) (old : State T) (answer : Reply T) (new : State T)
      → IsPassedOver p s x asked old answer new
      → has_message (to_come p s old ++ with_one (begun_by p asked old answer) []) x ≡ true
  passed-among x asked old answer new passed =
      filter-among (λ (message : Message T). not (has_message (on_way p s new) message))
      (to_come p s old ++ with_one (begun_by p asked old answer) []) x passed.0

  off-dropped : {A : Type 0} (x : Message T) (asked : List (Command T)) (old : State T) (answers : List (Reply T)) (new : State T)
      (run : Runs types choices buffer asked old answers new) → StaysOff types choices buffer p s x asked old answers new run
      → IsLostBy types choices buffer IsDropped p s x asked old answers new run → A
  off-dropped x [] old answers new run off lost = absurd lost
  off-dropped x (one ∷ more) old answers new run off (inl (dropped, stays)) =
      absurd-both (has_message (waiting_for p s old) x) dropped.0 (none-among x (waiting_for p s old) (to_come p s old) off.0).0
  off-dropped x (one ∷ more) old answers new run off (inr later) = off-dropped x more run.1 run.2 new run.4 off.1 later

  off-passed : {A : Type 0} (x : Message T) (sent : List (Message T)) (asked : List (Command T)) (old : State T)
      (answers : List (Reply T)) (new : State T) (run : Runs types choices buffer asked old answers new) → has_message sent x ≡ true
      → AreApart (sent ++ sent_by types choices buffer p asked old answers new run)
      → StaysOff types choices buffer p s x asked old answers new run
      → IsLostBy types choices buffer IsPassedOver p s x asked old answers new run → A
  off-passed x sent [] old answers new run is apart off lost = absurd lost
  off-passed x sent (one ∷ more) old answers new run is apart off (inl (passed, stays)) =
      begun-twice x sent (begun_by p one old run.0) (sent_by types choices buffer p more run.1 run.2 new run.4) is
      (among-either x (to_come p s old) (with_one (begun_by p one old run.0) []) (passed-among x one old run.0 run.1 passed)
      (none-among x (waiting_for p s old) (to_come p s old) off.0).1) apart
  off-passed x sent (one ∷ more) old answers new run is apart off (inr later) =
      off-passed x (noted sent (begun_by p one old run.0)) more run.1 run.2 new run.4 (noted-among x sent (begun_by p one old run.0) is)
      (subst AreApart
      (sym (noted-more sent (begun_by p one old run.0) (sent_by types choices buffer p more run.1 run.2 new run.4))) apart)
      off.1 later

  pub never-both : {A : Type 0} (x : Message T) (sent received : List (Message T)) (asked : List (Command T)) (old : State T)
      (answers : List (Reply T)) (new : State T) (run : Runs types choices buffer asked old answers new)
      → AreSound AnyMessage (Numbered types choices buffer old) old → IsOrdered p s (Anything p s) sent received old
      → AreApart (sent ++ sent_by types choices buffer p asked old answers new run)
      → IsLostBy types choices buffer IsDropped p s x asked old answers new run
      → IsLostBy types choices buffer IsPassedOver p s x asked old answers new run → A
  never-both x sent received [] old answers new run sound ordered apart dropped passed = absurd dropped
  never-both x sent received (one ∷ more) old answers new run sound ordered apart (inr later) (inl (passed, stays)) =
      off-dropped x more run.1 run.2 new run.4 stays later
  never-both x sent received (one ∷ more) old answers new run sound ordered apart (inr later) (inr too) =
      let mid : IsOrdered p s (Anything p s) (noted sent (begun_by p one old run.0)) (noted received (received_by p s one run.0 run.1))
      run.1 =
      step-ordered p s (Anything p s) sent received types choices buffer one old run.0 run.1
      (λ message it begins first. tt) (fresh-numbers p s types choices buffer old sound) run.3 ordered in
      let numbered_on : AreSound AnyMessage (Numbered types choices buffer run.1) run.1 =
      runs-numbered types choices buffer (one ∷ []) old (run.0 ∷ []) run.1 (run.0, run.1, [], run.3, (refl, refl), refl) sound in
      never-both x (noted sent (begun_by p one old run.0)) (noted received (received_by p s one run.0 run.1)) more run.1 run.2 new run.4
      numbered_on mid
      (subst AreApart
      (sym (noted-more sent (begun_by p one old run.0) (sent_by types choices buffer p more run.1 run.2 new run.4))) apart)
      later too
  never-both {A} x sent received (one ∷ more) old answers new run sound ordered apart (inl (dropped, stays)) passed = here passed
    where
      part : IsPartOf (received ++ on_way p s old) sent
      part = way-sent p s (Anything p s) sent received old ordered

      was_sent : has_message sent x ≡ true
      was_sent =
          part-among x (received ++ on_way p s old) sent part
          (among-back x received (on_way p s old) (among-front x (waiting_for p s old) (to_come p s old) dropped.0))

      apart_sent : AreApart sent
      apart_sent =
          distinct-part sent (sent ++ sent_by types choices buffer p (one ∷ more) old answers new run)
          (part-more sent sent (sent_by types choices buffer p (one ∷ more) old answers new run) (part-itself sent)) apart

      apart_way : AreApart (on_way p s old)
      apart_way =
          distinct-part (on_way p s old) (received ++ on_way p s old)
          (part-behind (on_way p s old) received (on_way p s old) (part-itself (on_way p s old)))
          (distinct-part (received ++ on_way p s old) sent part apart_sent)

      here : IsLostBy types choices buffer IsPassedOver p s x (one ∷ more) old answers new run → A
      here (inl (over, also)) = elim (cases_Bool (has_message (to_come p s old) x)) [
        | inl comes ↦ never-twice x (waiting_for p s old) (to_come p s old) apart_way dropped.0 comes
        | inr off ↦ begun-twice x sent (begun_by p one old run.0) (sent_by types choices buffer p more run.1 run.2 new run.4) was_sent
            (among-either x (to_come p s old) (with_one (begun_by p one old run.0) []) (passed-among x one old run.0 run.1 over) off) apart
      ]
      here (inr later) =
          off-passed x (noted sent (begun_by p one old run.0)) more run.1 run.2 new run.4
          (noted-among x sent (begun_by p one old run.0) was_sent)
          (subst AreApart
          (sym (noted-more sent (begun_by p one old run.0) (sent_by types choices buffer p more run.1 run.2 new run.4))) apart)
          stays later
