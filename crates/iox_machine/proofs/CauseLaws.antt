-- In every run each message of which a gap in sequence numbers tells was dropped, or passed over.
use Rattle.std.proofs.Common.{◌≡◌, ◌⊎◌, ◌≤◌, ◌<◌, ◌+◌, ℕ, suc, Bool, true, false, List, [], ◌∷◌, ◌++◌, length, map, None, Some, refl, sym}
use Rattle.std.proofs.Common.{Option, ap, subst, inl, inr, arith, ◌∙◌, append_assoc}
use Rattle.std.specs.List.{AllByRecursion, IsDistinct}
use Rattle.std.specs.Prelude.{◌==◌, filter, find, is_some, option_and_then, MatchOption}
use Rattle.iox_machine.specs.Choices.{Choices}
use Rattle.iox_machine.specs.LossLaws.{GapsHaveCauses, IsDropped, IsLostBy, IsPassedOver}
use Rattle.iox_machine.specs.Message.{Message, Sample}
use Rattle.iox_machine.specs.MessageLaws.{IsPartOf, first_in, received_from, sent_by}
use Rattle.iox_machine.specs.Run.{Step}
use Rattle.iox_machine.specs.SequenceLaws.{GoOnBehind, has_message, is_between}
use Rattle.iox_machine.specs.Service.{Service}
use Rattle.iox_machine.specs.State.{State, counted, new_state, replaced}
use Rattle.iox_machine.specs.Table.{at}
use Rattle.iox_machine.proofs.Cases.{by-option, never-some, same-some}
use Rattle.iox_machine.proofs.CauseOnce.{never-both, part-behind}
use Rattle.iox_machine.proofs.CauseRuns.{LostIn, new-due}
use Rattle.iox_machine.proofs.Gaps.{AllOutside, Rises, aside, count-from, ends, goes-on, none-numbered, outside, over-high, part-rises}
use Rattle.iox_machine.proofs.Gaps.{under-low}
use Rattle.iox_machine.proofs.Lists.{all-both, all-joined, all-weaker}
use Rattle.iox_machine.proofs.Losses.{Anything, all-front}
use Rattle.iox_machine.proofs.Once.{messages-go-once}
use Rattle.iox_machine.proofs.Order.{absurd-both}
use Rattle.iox_machine.proofs.OrderLaws.{After, all-behind, new-ordered, part-all}
use Rattle.iox_machine.proofs.OrderSteps.{IsOrdered}
use Rattle.iox_machine.proofs.Parts.{part-more}
use Rattle.iox_machine.proofs.Sequences.{all-passing}
use Rattle.iox_command.specs.DomainValues.Sequences.{before_first}
use Rattle.iox_command.specs.NegotiateBase.DescribeBase.declared.message_type.MessageTypeDetails.{MessageTypeDetails}
use Rattle.iox_command.specs.declared.command.Command.TheVariants as command
use Rattle.iox_command.specs.declared.reply.Reply.{Reply}
use Rattle.iox_machine.proofs.Shorthands.{IsSkipped}
use Rattle.iox_command.specs.declared.reply.Reply.TheVariants as reply

module _ {T : Type 0} where
  -- the numbers of the first of some messages, and of those after them
  goes-front : (last : ℕ) (xs ys : List (Message T)) → GoOnBehind (Some last) (xs ++ ys) → GoOnBehind (Some last) xs
  goes-front last [] ys on = tt
  goes-front last (x ∷ xs) ys on =
      (on.0, subst (λ (o : _). GoOnBehind o xs) (sym on.0) (goes-front (last + 1) xs ys (goes-on last x (xs ++ ys) on)))

  goes-back : (last : ℕ) (xs ys : List (Message T)) → GoOnBehind (Some last) (xs ++ ys) → GoOnBehind (Some (last + length xs)) ys
  goes-back last [] ys on = subst (λ (n : ℕ). GoOnBehind (Some n) ys) (none last) on
    where
      none : (n : ℕ) → n ≡ n + 0
      none n = omega arith
  goes-back last (x ∷ xs) ys on =
      subst (λ (n : ℕ). GoOnBehind (Some n) ys) (more last (length xs)) (goes-back (last + 1) xs ys (goes-on last x (xs ++ ys) on))
    where
      more : (last n : ℕ) → (last + 1) + n ≡ last + suc n
      more last n = omega arith

  all-under : (low high last : ℕ) (xs : List (Message T)) → last + length xs ≤ low → GoOnBehind (Some last) xs
      → AllByRecursion (λ x. is_between low high x ≡ false) xs
  all-under low high last [] few on = tt
  all-under low high last (x ∷ xs) few on = (
    under-low low high (last + 1) x on.0 (here last (length xs) low few),
    all-under low high (last + 1) xs (next last (length xs) low few) (goes-on last x xs on),
  )
    where
      here : (last n low : ℕ) → last + suc n ≤ low → last + 1 ≤ low
      here last n low h = omega (arith, h)

      next : (last n low : ℕ) → last + suc n ≤ low → (last + 1) + n ≤ low
      next last n low h = omega (arith, h)

  all-over : (low high last : ℕ) (xs : List (Message T)) → high ≤ last → GoOnBehind (Some last) xs
      → AllByRecursion (λ x. is_between low high x ≡ false) xs
  all-over low high last [] many on = tt
  all-over low high last (x ∷ xs) many on = (
    over-high low high (last + 1) x on.0 (up high last many),
    all-over low high (last + 1) xs (up high last many) (goes-on last x xs on),
  )
    where
      up : (high last : ℕ) → high ≤ last → high ≤ last + 1
      up high last h = omega (arith, h)

  module _ (D : Message T → Type 0) (sent received earlier later : List (Message T)) (one next : Message T) (low high : ℕ)
      (is : received ≡ earlier ++ one ∷ next ∷ later) (first : one.sequence ≡ Some low) (second : next.sequence ≡ Some high)
      (apart : IsDistinct (λ one other. one == other) (map (λ (x : Message T). x.number) sent)) where
    abbrev IsCaused : Type 0
    IsCaused = (length (filter (is_between low high) sent) + low + 1 ≡ high) × AllByRecursion D (filter (is_between low high) sent)

    -- a message between both is due, and neither was received nor is on its way
    caused-numbered : (last early due after : List (Message T)) → sent ≡ early ++ (due ++ after) → IsPartOf (received ++ last) due
        → AllByRecursion (λ x. (has_message (received ++ last) x ≡ true) ⊎ ((has_message (received ++ last) x ≡ false) × D x)) due
        → GoOnBehind (Some 0) sent → IsCaused
    caused-numbered last early due after whole part told on =
        let split : GoOnBehind (Some 0) (early ++ (due ++ after)) = subst (GoOnBehind (Some 0)) whole on in
        let a : ℕ = 0 + length early in
        let behind : GoOnBehind (Some a) (due ++ after) = goes-back 0 early (due ++ after) split in
        let on_due : GoOnBehind (Some a) due = goes-front a due after behind in
        let same : received ++ last ≡ earlier ++ one ∷ next ∷ (later ++ last) =
        ap (λ (l : List (Message T)). l ++ last) is ∙ append_assoc earlier (one ∷ next ∷ later) last in
        let part_so : IsPartOf (earlier ++ one ∷ next ∷ (later ++ last)) due =
        subst (λ (l : List (Message T)). IsPartOf l due) same part in
        let rises : Rises (a + length due) a (earlier ++ one ∷ next ∷ (later ++ last)) =
        part-rises (a + length due) a (earlier ++ one ∷ next ∷ (later ++ last)) due (omega arith) on_due part_so in
        let reach : (a < low) × (low < high) × (high ≤ a + length due) =
        ends (a + length due) a low high earlier (later ++ last) one next first second rises in
        let out : AllOutside low high (received ++ last) =
        subst (AllOutside low high) (sym same)
        (outside (a + length due) a low high earlier (later ++ last) one next first second rises) in
        let of_sent : IsPartOf (received ++ last) sent =
        subst (IsPartOf (received ++ last)) (sym whole)
        (part-behind (received ++ last) early (due ++ after) (part-more (received ++ last) due after part)) in
        let off : AllByRecursion (λ x. is_between low high x ≡ true → has_message (received ++ last) x ≡ false)
        (early ++ (due ++ after)) =
        subst (AllByRecursion (λ x. is_between low high x ≡ true → has_message (received ++ last) x ≡ false)) whole
        (aside (is_between low high) (received ++ last) sent apart of_sent out) in
        let on_all : AllByRecursion (λ x. is_between low high x ≡ true → D x) (early ++ (due ++ after)) =
        all-joined (λ x. is_between low high x ≡ true → D x) early (due ++ after)
        (all-weaker (λ x. is_between low high x ≡ false) (λ x. is_between low high x ≡ true → D x)
        (λ x none some. absurd-both (is_between low high x) some none) early
        (all-under low high 0 early (less low (length early) reach.0) (goes-front 0 early (due ++ after) split)))
        (all-joined (λ x. is_between low high x ≡ true → D x) due after
        (all-both (λ x. (has_message (received ++ last) x ≡ true) ⊎ ((has_message (received ++ last) x ≡ false) × D x))
        (λ x. is_between low high x ≡ true → has_message (received ++ last) x ≡ false) (λ x. is_between low high x ≡ true → D x)
        (λ x has free some. elim has [
          | inl among ↦ absurd-both (has_message (received ++ last) x) among (free some)
          | inr lost ↦ lost.1
        ]) due told
        (all-front (λ x. is_between low high x ≡ true → has_message (received ++ last) x ≡ false) due after
        (all-behind (λ x. is_between low high x ≡ true → has_message (received ++ last) x ≡ false) early (due ++ after) off)))
        (all-weaker (λ x. is_between low high x ≡ false) (λ x. is_between low high x ≡ true → D x)
        (λ x none some. absurd-both (is_between low high x) some none) after
        (all-over low high (a + length due) after reach.2 (goes-back a due after behind)))) in (
          count-from low high 0 sent (omega arith) reach.1
              (enough (length sent) (length early) (length due) high (sent_length whole) reach.2) on,
          all-passing (is_between low high) D sent
              (subst (AllByRecursion (λ x. is_between low high x ≡ true → D x)) (sym whole) on_all),
        )
      where
        less : (low n : ℕ) → 0 + n < low → 0 + n ≤ low
        less low n h = omega (arith, h)

        joined : (xs ys : List (Message T)) → length (xs ++ ys) ≡ length xs + length ys
        joined [] ys = zero_plus (length ys)
          where
            zero_plus : (n : ℕ) → n ≡ 0 + n
            zero_plus n = omega arith
        joined (x ∷ xs) ys = up (length (xs ++ ys)) (length xs) (length ys) (joined xs ys)
          where
            up : (n k l : ℕ) → n ≡ k + l → suc n ≡ suc k + l
            up n k l e = omega (arith, e)

        sent_length : sent ≡ early ++ (due ++ after) → length early + length due ≤ length sent
        sent_length e =
            least (length sent) (length early) (length due) (length after) (length (due ++ after))
            (ap length e ∙ joined early (due ++ after)) (joined due after)
          where
            least : (n a b c d : ℕ) → n ≡ a + d → d ≡ b + c → a + b ≤ n
            least n a b c d h k = omega (arith, h, k)

        enough : (n a b high : ℕ) → a + b ≤ n → high ≤ (0 + a) + b → high ≤ 0 + n
        enough n a b high h k = omega (arith, h, k)

    caused : (switch : Bool) (last early due after : List (Message T)) → sent ≡ early ++ (due ++ after)
        → IsPartOf (received ++ last) due
        → AllByRecursion (λ x. (has_message (received ++ last) x ≡ true) ⊎ ((has_message (received ++ last) x ≡ false) × D x)) due
        → IsPartOf received sent → GoOnBehind (before_first switch 1) sent → IsCaused
    caused true last early due after whole part told of_sent on = caused-numbered last early due after whole part told on
    caused false last early due after whole part told of_sent on =
        let none : AllByRecursion (λ x. x.sequence ≡ None) (earlier ++ one ∷ next ∷ later) =
        subst (AllByRecursion (λ x. x.sequence ≡ None)) is
        (part-all (λ x. x.sequence ≡ None) received sent of_sent (none-numbered sent on)) in
        never-some low (sym (all-behind (λ x. x.sequence ≡ None) earlier (one ∷ next ∷ later) none).0 ∙ first)

module _ {T : Type 0} (types : MessageTypeDetails) (choices : Choices T) (buffer : ℕ) where
  -- a sample tells the number of its message
  tells-number : (sample : ℕ) (it : Sample T) (state : State T) (answer : Reply T) (after : State T)
      → first_in (λ (service : Service T). at sample service.samples) state ≡ Some it
      → Step types choices buffer (command.Sequence sample) state answer after → answer ≡ reply.Sequence it.message.sequence
  tells-number sample it state answer after first h =
      elim (by-option (find (λ (other : Service T). is_some (at sample other.samples)) state.services) (IsSkipped state answer after)
      (λ (service : Service T). (then_service : Service T)
      × MatchOption (at sample service.samples) ⊥
      (λ (one : Sample T). (answer ≡ reply.Sequence one.message.sequence) × (then_service ≡ service))
      × (after ≡ record state {
        made = counted answer state.made;
        services = replaced (λ (other : Service T). is_some (at sample other.samples)) then_service state.services;
      })) h) [
        | inl w ↦ never-some it (sym (ap (option_and_then (λ (service : Service T). at sample service.samples)) w.0) ∙ first)
        | inr w ↦ elim (by-option (at sample w.0.samples) ⊥
            (λ (one : Sample T). (answer ≡ reply.Sequence one.message.sequence) × (w.2.0 ≡ w.0)) w.2.1) [
              | inl k ↦ absurd k.1
              | inr k ↦ k.2.0
                  ∙ ap (λ (one : Sample T). reply.Sequence one.message.sequence)
                  (same-some k.0 it
                  (sym k.1 ∙ (sym (ap (option_and_then (λ (service : Service T). at sample service.samples)) w.1) ∙ first)))
            ]
      ]

pub gaps-have-causes : {T : Type 0} (choices : Choices T) → GapsHaveCauses choices
gaps-have-causes {T} choices types buffer asked answers new run publisher subscriber earlier later one next low high is first second =
    let sent : List (Message T) = sent_by types choices buffer publisher asked new_state answers new run in
    let received : List (Message T) = received_from types choices buffer publisher subscriber asked new_state answers new run in
    let ordered : IsOrdered publisher subscriber
    (After publisher subscriber types choices buffer (Anything publisher subscriber) asked new_state answers new run) sent received new =
    new-ordered publisher subscriber types choices buffer (Anything publisher subscriber) asked answers new run in
    let apart = (messages-go-once choices types buffer asked answers new run publisher subscriber).0 in
    let (last, early, due, after, (whole, part, told)) = new-due publisher subscriber types choices buffer asked answers new run apart in
    let done = caused (LostIn publisher subscriber types choices buffer (λ x. ⊥) asked new_state answers new run) sent received earlier
    later one next low high is first second
    apart ordered.3.0 last early due after whole part
    told ordered.2 ordered.3.1 in (
      (λ sample answer then_new held h.
          tells-number types choices buffer sample (record { publisher = publisher; subscriber = subscriber; message = one }) new answer
          then_new held h
          ∙ ap (λ (o : Option ℕ). reply.Sequence o) first),
      (λ sample answer then_new held h.
          tells-number types choices buffer sample (record { publisher = publisher; subscriber = subscriber; message = next }) new answer
          then_new held h
          ∙ ap (λ (o : Option ℕ). reply.Sequence o) second),
      done.0,
      all-weaker (LostIn publisher subscriber types choices buffer (λ x. ⊥) asked new_state answers new run)
          (λ x. (IsLostBy types choices buffer IsDropped publisher subscriber x asked new_state answers new run
          × (IsLostBy types choices buffer IsPassedOver publisher subscriber x asked new_state answers new run → ⊥))
          ⊎ (IsLostBy types choices buffer IsPassedOver publisher subscriber x asked new_state answers new run
          × (IsLostBy types choices buffer IsDropped publisher subscriber x asked new_state answers new run → ⊥)))
          (λ x lost. elim lost [
            | inl never ↦ absurd never.0
            | inr cause ↦ elim cause [
              | inl dropped ↦ inl (dropped, λ passed. either x dropped passed)
              | inr passed ↦ inr (passed, λ dropped. either x dropped passed)
            ]
          ])
          (filter (is_between low high) sent) done.1,
    )
  where
    either : (x : Message T) → IsLostBy types choices buffer IsDropped publisher subscriber x asked new_state answers new run
        → IsLostBy types choices buffer IsPassedOver publisher subscriber x asked new_state answers new run → ⊥
    either x dropped passed =
        never-both publisher subscriber types choices buffer x [] [] asked new_state answers new run tt
        (tt, (λ early. (refl, refl)), refl, (false, tt))
        (messages-go-once choices types buffer asked answers new run publisher subscriber).0 dropped passed
