-- In every run sequence numbers go up one by one, and those of which a gap tells were lost.
use Rattle.std.proofs.Common.{◌≡◌, ◌≤◌, ◌<◌, ◌+◌, ℕ, Bool, true, false, cond, ◌||◌, List, [], ◌∷◌, ◌++◌, length, map, None, Some}
use Rattle.std.proofs.Common.{refl, sym, ap, subst, inl, inr, arith, ◌∙◌, append_assoc}
use Rattle.std.proofs.lemmas.Bool.{eq-eqb, or_left, or_right}
use Rattle.std.specs.List.{AllByRecursion, IsDistinct}
use Rattle.std.specs.Prelude.{◌==◌, filter, is_some}
use Rattle.iox_machine.specs.Choices.{Choices}
use Rattle.iox_machine.specs.Message.{Message}
use Rattle.iox_machine.specs.MessageLaws.{IsPartOf, received_from, sent_by}
use Rattle.iox_machine.specs.SequenceLaws.{GapsAreLosses, GoOnBehind, SequencesGoUp, has_message, is_between, lost_to, on_way}
use Rattle.iox_machine.specs.Service.{Publisher, Service}
use Rattle.iox_machine.specs.State.{new_state}
use Rattle.iox_machine.specs.Table.{at}
use Rattle.iox_machine.proofs.Cases.{never-some, same-some}
use Rattle.iox_machine.proofs.Gaps.{AllOutside, Rises, aside, count-from, ends, none-numbered, outside, part-rises}
use Rattle.iox_machine.proofs.Losses.{Anything, among-joined, run-accounted, run-lost, way-sent}
use Rattle.iox_machine.proofs.Once.{messages-go-once}
use Rattle.iox_machine.proofs.OrderLaws.{After, all-behind, new-ordered, one-found, part-all}
use Rattle.iox_machine.proofs.OrderSteps.{IsOrdered}
use Rattle.iox_command.specs.DomainValues.Sequences.{before_first}

lost-then : (part lost : Bool) → (part || lost) ≡ true → part ≡ false → lost ≡ true
lost-then part lost is off = sym (ap (λ (b : Bool). b || lost) off) ∙ is

module _ {T : Type 0} where
  -- ---- what passes a test

  -- what holds of all that passes a test
  pub all-passing : (Q : Message T → Bool) (P : Message T → Type 0) (xs : List (Message T)) → AllByRecursion (λ x. Q x ≡ true → P x) xs
      → AllByRecursion P (filter Q xs)
  all-passing Q P [] all = tt
  all-passing Q P (x ∷ xs) all = here (Q x) all.0 (all-passing Q P xs all.1)
    where
      here : (b : Bool) → (b ≡ true → P x) → AllByRecursion P (filter Q xs) → AllByRecursion P (cond b (x ∷ filter Q xs) (filter Q xs))
      here true on rest = (on refl, rest)
      here false on rest = rest

  -- each that passes is among those that pass
  passing-among : (Q : Message T → Bool) (xs : List (Message T)) → AllByRecursion (λ x. Q x ≡ true → has_message (filter Q xs) x ≡ true) xs
  passing-among Q [] = tt
  passing-among Q (x ∷ xs) = (
    (λ passes. subst (λ (b : Bool). has_message (cond b (x ∷ filter Q xs) (filter Q xs)) x ≡ true) (sym passes)
        (or_left (x.number == x.number) (has_message (filter Q xs) x) (eq-eqb x.number x.number refl))),
    more xs (filter Q xs) (λ y on. either (Q x) y on) (passing-among Q xs),
  )
    where
      either : (b : Bool) (y : Message T) → has_message (filter Q xs) y ≡ true
          → has_message (cond b (x ∷ filter Q xs) (filter Q xs)) y ≡ true
      either true y on = or_right (x.number == y.number) (has_message (filter Q xs) y) on
      either false y on = on

      more : (ys few : List (Message T))
          → ((y : Message T) → has_message few y ≡ true → has_message (cond (Q x) (x ∷ filter Q xs) (filter Q xs)) y ≡ true)
          → AllByRecursion (λ y. Q y ≡ true → has_message few y ≡ true) ys
          → AllByRecursion (λ y. Q y ≡ true → has_message (cond (Q x) (x ∷ filter Q xs) (filter Q xs)) y ≡ true) ys
      more [] few on all = tt
      more (y ∷ ys) few on all = ((λ passes. on y (all.0 passes)), more ys few on all.1)

  -- ---- a gap

  -- What a gap between two sequence numbers tells: how many messages lie in it, that each was lost, and isn't among others, and that no
  -- other was lost.
  abbrev IsGap : ℕ → ℕ → List (Message T) → List (Message T) → List (Message T) → Type 0
  IsGap low high sent part lost =
      (length (filter (is_between low high) sent) + low + 1 ≡ high)
      × AllByRecursion (λ message. (has_message lost message ≡ true) × (has_message part message ≡ false))
      (filter (is_between low high) sent)
      × AllByRecursion (λ message. is_between low high message ≡ true → has_message (filter (is_between low high) sent) message ≡ true) lost

  all-lost : (Q : Message T → Bool) (part lost : List (Message T)) (xs : List (Message T))
      → AllByRecursion (λ x. has_message (part ++ lost) x ≡ true) xs → AllByRecursion (λ x. Q x ≡ true → has_message part x ≡ false) xs
      → AllByRecursion (λ x. Q x ≡ true → (has_message lost x ≡ true) × (has_message part x ≡ false)) xs
  all-lost Q part lost [] accounted off = tt
  all-lost Q part lost (x ∷ xs) accounted off = (
    (λ passes. (
      lost-then (has_message part x) (has_message lost x) (sym (among-joined x part lost) ∙ accounted.0) (off.0 passes),
      off.0 passes,
    )),
    all-lost Q part lost xs accounted.1 off.1,
  )

  gap-numbered : (sent part lost earlier later : List (Message T)) (one next : Message T) (low high : ℕ)
      → part ≡ earlier ++ one ∷ next ∷ later → one.sequence ≡ Some low → next.sequence ≡ Some high → IsPartOf part sent
      → IsDistinct (λ one other. one == other) (map (λ (x : Message T). x.number) sent)
      → AllByRecursion (λ x. has_message (part ++ lost) x ≡ true) sent
      → ((P : Message T → Type 0) → AllByRecursion P sent → AllByRecursion P lost) → GoOnBehind (Some 0) sent
      → IsGap low high sent part lost
  gap-numbered sent part lost earlier later one next low high is first second of_sent apart accounted from_sent on =
      let whole : IsPartOf (earlier ++ one ∷ next ∷ later) sent = subst (λ (l : List (Message T)). IsPartOf l sent) is of_sent in
      let rises : Rises (length sent) 0 (earlier ++ one ∷ next ∷ later) =
      part-rises (length sent) 0 (earlier ++ one ∷ next ∷ later) sent (omega arith) on whole in
      let reach : (0 < low) × (low < high) × (high ≤ length sent) =
      ends (length sent) 0 low high earlier later one next first second rises in
      let out : AllOutside low high part =
      subst (AllOutside low high) (sym is) (outside (length sent) 0 low high earlier later one next first second rises) in
      let gap : List (Message T) = filter (is_between low high) sent in (
        count-from low high 0 sent (omega arith) reach.1 (omega (arith, reach.2)) on,
        all-passing (is_between low high) (λ message. (has_message lost message ≡ true) × (has_message part message ≡ false)) sent
            (all-lost (is_between low high) part lost sent accounted (aside (is_between low high) part sent apart of_sent out)),
        from_sent (λ message. is_between low high message ≡ true → has_message gap message ≡ true)
            (passing-among (is_between low high) sent),
      )

  gap-of : (switch : Bool) (sent part lost earlier later : List (Message T)) (one next : Message T) (low high : ℕ)
      → part ≡ earlier ++ one ∷ next ∷ later → one.sequence ≡ Some low → next.sequence ≡ Some high → IsPartOf part sent
      → IsDistinct (λ one other. one == other) (map (λ (x : Message T). x.number) sent)
      → AllByRecursion (λ x. has_message (part ++ lost) x ≡ true) sent
      → ((P : Message T → Type 0) → AllByRecursion P sent → AllByRecursion P lost) → GoOnBehind (before_first switch 1) sent
      → IsGap low high sent part lost
  gap-of true sent part lost earlier later one next low high is first second of_sent apart accounted from_sent on =
      gap-numbered sent part lost earlier later one next low high is first second of_sent apart accounted from_sent on
  gap-of false sent part lost earlier later one next low high is first second of_sent apart accounted from_sent on =
      let none : AllByRecursion (λ x. x.sequence ≡ None) (earlier ++ one ∷ next ∷ later) =
      subst (AllByRecursion (λ x. x.sequence ≡ None)) is
      (part-all (λ x. x.sequence ≡ None) part sent of_sent (none-numbered sent on)) in
      never-some low (sym (all-behind (λ x. x.sequence ≡ None) earlier (one ∷ next ∷ later) none).0 ∙ first)

pub gaps-are-losses : {T : Type 0} (choices : Choices T) → GapsAreLosses choices
gaps-are-losses {T} choices types buffer asked answers new run publisher subscriber earlier later one next low high is first second =
    let sent : List (Message T) = sent_by types choices buffer publisher asked new_state answers new run in
    let received : List (Message T) = received_from types choices buffer publisher subscriber asked new_state answers new run in
    let lost : List (Message T) = lost_to types choices buffer publisher subscriber asked new_state answers new run in
    let way : List (Message T) = on_way publisher subscriber new in
    let ordered : IsOrdered publisher subscriber
    (After publisher subscriber types choices buffer (Anything publisher subscriber) asked new_state answers new run) sent received new =
    new-ordered publisher subscriber types choices buffer (Anything publisher subscriber) asked answers new run in
    gap-of ordered.3.0 sent (received ++ way) lost earlier (later ++ way) one next low high
    (ap (λ (l : List (Message T)). l ++ way) is ∙ append_assoc earlier (one ∷ next ∷ later) way) first second
    (way-sent publisher subscriber
    (After publisher subscriber types choices buffer (Anything publisher subscriber) asked new_state answers new run) sent received new
    ordered)
    (messages-go-once choices types buffer asked answers new run publisher subscriber).0
    (run-accounted publisher subscriber types choices buffer [] [] [] asked new_state answers new run tt)
    (λ P all. run-lost publisher subscriber types choices buffer P [] [] asked new_state answers new run tt
    (tt, (λ early. (refl, refl)), refl, (false, tt)) all)
    ordered.3.1

pub sequences-go-up : {T : Type 0} (choices : Choices T) → SequencesGoUp choices
sequences-go-up {T} choices types buffer asked answers new run publisher =
    let sent : List (Message T) = sent_by types choices buffer publisher asked new_state answers new run in
    let received : List (Message T) = received_from types choices buffer publisher 0 asked new_state answers new run in
    let ordered : IsOrdered publisher 0
    (After publisher 0 types choices buffer (Anything publisher 0) asked new_state answers new run) sent received new =
    new-ordered publisher 0 types choices buffer (Anything publisher 0) asked answers new run in (
      ordered.3,
      (λ service one first found. elim (one-found publisher 0
          (After publisher 0 types choices buffer (Anything publisher 0) asked new_state answers new run) new sent received
          (λ (other : Service T). is_some (at publisher other.publishers)) service new.services first ordered.0) [
            | inl lacks ↦ never-some one (sym lacks.0 ∙ found)
            | inr fits ↦ (
              fits.0.0.2.numbered_so.0,
              ap (λ (it : Publisher T). it.last_sequence) (sym (same-some fits.0.0.0 one (sym fits.0.0.1 ∙ found)))
                  ∙ fits.0.0.2.numbered_so.1,
            )
          ]),
    )
