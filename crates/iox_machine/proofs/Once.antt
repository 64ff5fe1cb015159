-- A message is sent once at most, and so received once at most.
use Rattle.std.proofs.Common.{◌≡◌, ◌≤◌, ◌⊎◌, ◌+◌, ℕ, Bool, true, false, cond, ◌&&◌, List, [], ◌∷◌, ◌++◌, map, Option, None, Some, refl, sym}
use Rattle.std.proofs.Common.{ap, subst, inl, inr, arith, ◌∙◌}
use Rattle.std.proofs.lemmas.Bool.{cases_Bool, eqb-false, or_parts}
use Rattle.std.specs.List.{cons_option, list_any}
use Rattle.std.specs.Prelude.{◌==◌, filter, filter_map}
use Rattle.iox_machine.proofs.Counted.{distinct, numbers-go-up, step-passes, told-once}
use Rattle.iox_machine.proofs.Counts.{longer, of_told, one_if, past, times}
use Rattle.iox_machine.proofs.MoveForms.{Loud, Loudly, Quiets, Walk, came, came_of, gone, gone_of, if_it, is_write, writes_late}
use Rattle.iox_machine.proofs.MoveForms as move
use Rattle.iox_machine.proofs.MoveLaws.{Lasts, by-quiets}
use Rattle.iox_machine.proofs.MoveSteps.{step-moves}
use Rattle.iox_machine.proofs.Moves.{IsOpened, IsShut, IsStill, Moves}
use Rattle.iox_machine.proofs.Nexts.{Same, next_at, next_of, same-both, same-itself, same-set}
use Rattle.iox_machine.proofs.OrderLaws.{received-in-order}
use Rattle.iox_machine.proofs.Shorthands.{with_publisher}
use Rattle.iox_machine.proofs.Spent.{lent, lent-total}
use Rattle.iox_machine.proofs.StillSent.{come-next, is_it, left_in, loaned, loaned-joined, loaned-removed, loaned-written, same-left}
use Rattle.iox_machine.proofs.StillSent.{to_come, to-come-once}
use Rattle.iox_machine.proofs.Tables.{at-appended-other, at-changed-other}
use Rattle.iox_machine.proofs.Totals.{total, total-filtered, total-open, total-part, total-replaced}
use Rattle.iox_machine.specs.Choices.{Choices}
use Rattle.iox_machine.specs.Message.{Loan, Message}
use Rattle.iox_machine.specs.MessageLaws.{IsPartOf, begun_by, received_from, sent_by, with_one}
use Rattle.iox_machine.specs.NumberLaws.{loan_told, numbers_in, publisher_told}
use Rattle.iox_machine.specs.OnceLaws.{MessagesGoOnce}
use Rattle.iox_machine.specs.Run.{Runs}
use Rattle.iox_machine.specs.Service.{Publisher, Service}
use Rattle.iox_machine.specs.State.{Factory, State, new_state, replaced}
use Rattle.iox_machine.specs.Table.{at, changed, removed}
use Rattle.iox_command.specs.NegotiateBase.DescribeBase.declared.message_type.MessageTypeDetails.{MessageTypeDetails}
use Rattle.iox_command.specs.declared.command.Command.{Command}
use Rattle.iox_command.specs.declared.reply.Reply.{Reply}

module _ {T : Type 0} where
  -- Quiet moves leave loans and next numbers.
  same-lasts : Lasts (Same {T = T})
  same-lasts = record {
    none = same-itself;
    both = same-both;
    boxed = λ boxes service. (refl, λ number. refl);
    alike = λ number was after service found is. same-set number after service
        (ap next_of found ∙ ap (λ (it : Publisher T). Some it.next) (sym is));
    turned = λ number was after service found is. (refl, λ other. refl);
  }

  -- no two loans go by one number
  abbrev pub AreSingle : Service T → Type 0
  AreSingle service = (loan : ℕ) → times loan (numbers_in service.loans) ≤ 1

module _ {T : Type 0} (p n : ℕ) where
  -- The message may be sent less often after a move by which it goes out of hand.
  abbrev Goes : Loud T → Service T → Service T → Type 0
  Goes one old new = left_in p n new + gone p n one ≤ left_in p n old + came p one

  as-left : (old new : Service T) → Same old new → left_in p n new + 0 ≤ left_in p n old + 0
  as-left old new same = plain (left_in p n new) (left_in p n old) (same-left p n old new same)
    where
      plain : (x y : ℕ) → x ≡ y → x + 0 ≤ y + 0
      plain x y is = omega (arith, is)

  turned : (number : ℕ) (was after : Publisher T) (old : Service T) → at number old.publishers ≡ Some was → after.next ≡ was.next
      → Same old (with_publisher number after old)
  turned number was after old found is =
      same-set number after old (ap next_of found ∙ ap (λ (k : ℕ). Some k) (sym is))

  loud-goes : (factories : List (ℕ × Factory)) (one : Loud T) (old new : Service T) → (is_write one ≡ true → AreSingle old)
      → Loudly factories one old new → Goes one old new
  loud-goes factories (move.Lends number was after loan made) old new single
      (found, up, ((room, segments, first, grown, is), lent), by, next, came) =
      subst (λ (s : Service T). left_in p n s + 0 ≤ left_in p n old + 0) (sym came)
      (less (to_come n (next_at p (with_publisher number after old))) (to_come n (next_at p old))
      (one_if ((number == p) && (was.next == n))) (loaned p n (old.loans ++ (loan, made) ∷ [])) (loaned p n old.loans)
      (come-next p n number was after old found (ap (λ (it : Publisher T). it.next) is))
      (subst (λ (k : ℕ). loaned p n (old.loans ++ (loan, made) ∷ []) ≡ loaned p n old.loans + one_if ((k == p) && (was.next == n))) by
      (subst (λ (k : ℕ). loaned p n (old.loans ++ (loan, made) ∷ []) ≡ loaned p n old.loans
      + one_if ((made.publisher == p) && (k == n))) next (loaned-joined p n loan made old.loans))))
    where
      less : (x y c l m : ℕ) → x + c ≤ y → l ≡ m + c → (x + l) + 0 ≤ (y + m) + 0
      less x y c l m h is = omega (arith, h, is)
  loud-goes factories (move.Numbers number was after) old new single (found, (room, segments, first, grown, is), came) =
      subst (λ (s : Service T). left_in p n s + one_if ((number == p) && (was.next == n)) ≤ left_in p n old + 0) (sym came)
      (less (to_come n (next_at p (with_publisher number after old))) (to_come n (next_at p old))
      (one_if ((number == p) && (was.next == n))) (loaned p n old.loans)
      (come-next p n number was after old found (ap (λ (it : Publisher T). it.next) is)))
    where
      less : (x y c l : ℕ) → x + c ≤ y → (x + l) + c ≤ (y + l) + 0
      less x y c l h = omega (arith, h)
  loud-goes factories (move.Writes loan one values) old new single (found, came) =
      subst (λ (s : Service T). left_in p n s + 0 ≤ left_in p n old + 0) (sym came)
      (less (to_come n (next_at p old)) (loaned p n _) (loaned p n old.loans)
      (loaned-written p n loan one (record one { values = values }) old.loans refl found (single refl loan)))
    where
      less : (x l m : ℕ) → l ≡ m → (x + l) + 0 ≤ (x + m) + 0
      less x l m is = omega (arith, is)
  loud-goes factories (move.Spends loan one) old new single (found, came) =
      subst (λ (s : Service T). left_in p n s + one_if (is_it p n one) ≤ left_in p n old + 0) (sym came)
      (less (to_come n (next_at p old)) (loaned p n (removed loan old.loans)) (loaned p n old.loans) (one_if (is_it p n one))
      (loaned-removed p n loan one old.loans found))
    where
      less : (x l m c : ℕ) → l + c ≤ m → (x + l) + c ≤ (x + m) + 0
      less x l m c h = omega (arith, h)
  loud-goes factories (move.Begins number one message) old new single (found, free, came) =
      as-left old new (subst (λ (s : Service T). Same old s) (sym came) (turned number one _ old found refl))
  loud-goes factories (move.Takes number sample) old new single (one, first, came) =
      as-left old new (subst (λ (s : Service T). Same old s) (sym came) (refl, λ other. refl))
  loud-goes factories (move.Releases number sample) old new single (found, came) =
      as-left old new (subst (λ (s : Service T). Same old s) (sym came) (refl, λ other. refl))
  loud-goes factories (move.Publishes place number options one after) old new single (open_one, follows, is, came) =
      subst (λ (s : Service T). left_in p n s + 0 ≤ left_in p n old + one_if (number == p)) (sym came)
      (elim (cases_Bool (number == p)) [
        | inl same ↦ subst (λ (b : Bool). left_in p n mid + 0 ≤ left_in p n old + one_if b) (sym same)
            (less (to_come n (next_at p mid)) (to_come n (next_at p old)) (loaned p n old.loans) (to-come-once n (next_at p mid)))
        | inr off ↦ subst (λ (b : Bool). left_in p n mid + 0 ≤ left_in p n old + one_if b) (sym off)
            (plain (to_come n (next_at p mid)) (to_come n (next_at p old)) (loaned p n old.loans)
            (ap (λ (o : Option (Publisher T)). to_come n (next_of o))
            (at-changed-other number p after (old.publishers ++ (number, one) ∷ []) (λ same. eqb-false number p off (sym same))
            ∙ at-appended-other number p one old.publishers (λ same. eqb-false number p off (sym same)))))
      ])
    where
      mid : Service T
      mid = record old { publishers = changed number after (old.publishers ++ (number, one) ∷ []) }

      plain : (x y l : ℕ) → x ≡ y → (x + l) + 0 ≤ (y + l) + 0
      plain x y l is = omega (arith, is)

      less : (x y l : ℕ) → x ≤ 1 → (x + l) + 0 ≤ (y + l) + 1
      less x y l h = omega (arith, h)
  loud-goes factories (move.Subscribes buffer place number options one after) old new single (open_one, follows, is, came) =
      as-left old new (subst (λ (s : Service T). Same old s) (sym came) (refl, λ other. refl))
  loud-goes factories (move.Unpublishes number one) old new single (found, came) =
      as-left old new (subst (λ (s : Service T). Same old s) (sym came)
      (let on : Same old (with_publisher number (record one { stands = false }) old) = turned number one _ old found refl in
      (on.0, on.1)))
  loud-goes factories (move.Unsubscribes number one) old new single (found, came) =
      as-left old new (subst (λ (s : Service T). Same old s) (sym came) (refl, λ other. refl))

  abbrev WalkGoes : List (Loud T) → Service T → Service T → Type 0
  WalkGoes loud old new = left_in p n new + gone_of p n loud ≤ left_in p n old + came_of p loud

  one-more : (factories : List (ℕ × Factory)) (one : Loud T) (more : List (Loud T)) (old before after new : Service T)
      → Quiets old before → (is_write one ≡ true → AreSingle before) → Loudly factories one before after → WalkGoes more after new
      → WalkGoes (one ∷ more) old new
  one-more factories one more old before after new quiet single did rest =
      both (left_in p n old) (left_in p n before) (left_in p n after) (left_in p n new) (gone p n one) (gone_of p n more) (came p one)
      (came_of p more) (same-left p n old before (by-quiets Same same-lasts old before quiet))
      (loud-goes factories one before after single did) rest
    where
      both : (x y z w c d e f : ℕ) → y ≡ x → z + c ≤ y + e → w + d ≤ z + f → w + (c + d) ≤ x + (e + f)
      both x y z w c d e f is h k = omega (arith, is, h, k)

  rest-goes : (factories : List (ℕ × Factory)) (loud : List (Loud T)) (old new : Service T) → list_any is_write loud ≡ false
      → Walk factories loud old new → WalkGoes loud old new
  rest-goes factories [] old new none h = as-left old new (by-quiets Same same-lasts old new h)
  rest-goes factories (one ∷ more) old new none (before, after, quiet, did, h) =
      let both : (is_write one ≡ false) × (list_any is_write more ≡ false) = or_parts (is_write one) (list_any is_write more) none in
      one-more factories one more old before after new quiet (λ is. never (sym is ∙ both.0)) did
      (rest-goes factories more after new both.1 h)
    where
      never : {A : Type 0} → true ≡ false → A
      never e = absurd (differ e)
        where
          differ : true ≡ false → ⊥
          differ e = cc

  walk-goes : (factories : List (ℕ × Factory)) (loud : List (Loud T)) (old new : Service T) → AreSingle old → writes_late loud ≡ false
      → Walk factories loud old new → WalkGoes loud old new
  walk-goes factories [] old new single none h = as-left old new (by-quiets Same same-lasts old new h)
  walk-goes factories (one ∷ more) old new single none (before, after, quiet, did, h) =
      one-more factories one more old before after new quiet
      (λ is loan. subst (λ (l : List (ℕ × Loan T)). times loan (numbers_in l) ≤ 1)
      (sym (by-quiets Same same-lasts old before quiet).0) (single loan)) did
      (rest-goes factories more after new none h)

  -- ---- a step

  step-goes : (asked : Command T) (old : State T) (answer : Reply T) (new : State T)
      → ((number : ℕ) → times number (lent old) ≤ 1) → Moves asked old answer new
      → total (left_in p n) new.services + if_it n (begun_by p asked old answer)
      ≤ total (left_in p n) old.services + of_told (publisher_told answer) p
  step-goes asked old answer new once (made, inl (told, still)) =
      plain (total (left_in p n) new.services) (total (left_in p n) old.services) (if_it n (begun_by p asked old answer))
      (of_told (publisher_told answer) p) (fewer still)
      (subst (λ (o : Option (Message T)). if_it n o ≤ 0) (sym (told.0 p)) (omega arith))
    where
      plain : (x y c e : ℕ) → x ≤ y → c ≤ 0 → x + c ≤ y + e
      plain x y c e h k = omega (arith, h, k)

      same : (x : ℕ) → x ≤ x
      same x = omega arith

      shut : (b : Bool) (test : Service T → Bool)
          → total (left_in p n) (cond b old.services (filter test old.services)) ≤ total (left_in p n) old.services
      shut true test = same (total (left_in p n) old.services)
      shut false test = total-filtered (left_in p n) test old.services

      fewer : (IsStill old new ⊎ (IsOpened old new ⊎ IsShut old new)) → total (left_in p n) new.services ≤ total (left_in p n) old.services
      fewer (inl (services, factories)) =
          subst (λ (l : List (Service T)). total (left_in p n) l ≤ total (left_in p n) old.services) (sym services)
          (same (total (left_in p n) old.services))
      fewer (inr (inl (factory, phase, factories, services))) =
          subst (λ (l : List (Service T)). total (left_in p n) l ≤ total (left_in p n) old.services) (sym services)
          (total-open (left_in p n) factory.name phase old.services (λ c. refl))
      fewer (inr (inr (number, factory, found, unused, factories, services))) =
          subst (λ (l : List (Service T)). total (left_in p n) l ≤ total (left_in p n) old.services) (sym services) (shut _ _)
  step-goes asked old answer new once (made, inr (has, service, after, first, (loud, told, walk), came)) =
      subst (λ (s : State T). total (left_in p n) s.services + if_it n (begun_by p asked old answer)
      ≤ total (left_in p n) old.services + of_told (publisher_told answer) p) (sym came)
      (less (total (left_in p n) (replaced has after old.services)) (total (left_in p n) old.services)
      (if_it n (begun_by p asked old answer)) (gone_of p n loud) (came_of p loud) (of_told (publisher_told answer) p)
      (total-replaced (left_in p n) (gone_of p n loud) (came_of p loud) has service after old.services first
      (walk-goes old.factories loud service after single told.4 walk))
      (subst (λ (o : Option (Message T)). if_it n o ≤ gone_of p n loud) (sym (told.0 p)) (told.1 p n)) (told.2 p))
    where
      less : (x y c d e f : ℕ) → x + d ≤ y + e → c ≤ d → e ≤ f → x + c ≤ y + f
      less x y c d e f h k l = omega (arith, h, k, l)

      -- a loan is there once in a service, if it is once in all
      single : AreSingle service
      single loan = within (times loan (numbers_in service.loans)) (times loan (lent old))
          (total (λ (it : Service T). times loan (numbers_in it.loans)) old.services)
          (total-part (λ (it : Service T). times loan (numbers_in it.loans)) has service old.services first)
          (lent-total loan old.services) (once loan)
        where
          within : (x y z : ℕ) → x ≤ z → y ≡ z → y ≤ 1 → x ≤ 1
          within x y z h is k = omega (arith, h, is, k)

  module _ (types : MessageTypeDetails) (choices : Choices T) (buffer : ℕ) where
    -- ---- a run

    -- the numbers of messages
    abbrev numbers_of : List (Message T) → List ℕ
    numbers_of messages = map (λ (message : Message T). message.number) messages

    run-goes : (asked : List (Command T)) (old : State T) (answers : List (Reply T)) (new : State T)
        (run : Runs types choices buffer asked old answers new)
        → ((number : ℕ) → times number (lent old) + times number (filter_map loan_told answers) ≤ 1)
        → total (left_in p n) new.services + times n (numbers_of (sent_by types choices buffer p asked old answers new run))
        ≤ total (left_in p n) old.services + times p (filter_map publisher_told answers)
    run-goes [] old answers new run once =
        subst (λ (it : State T). total (left_in p n) it.services + 0
        ≤ total (left_in p n) old.services + times p (filter_map publisher_told answers))
        (sym run.1) (plain (total (left_in p n) old.services) (times p (filter_map publisher_told answers)))
      where
        plain : (x e : ℕ) → x + 0 ≤ x + e
        plain x e = omega arith
    run-goes (one ∷ more) old answers new run once =
        subst (λ (it : List (Reply T)). total (left_in p n) new.services
        + times n (numbers_of (with_one (begun_by p one old run.0) (sent_by types choices buffer p more run.1 run.2 new run.4)))
        ≤ total (left_in p n) old.services + times p (filter_map publisher_told it)) (sym run.5)
        (both (total (left_in p n) old.services) (total (left_in p n) run.1.services) (total (left_in p n) new.services)
        (if_it n (begun_by p one old run.0)) (times n (numbers_of (sent_by types choices buffer p more run.1 run.2 new run.4)))
        (times n (numbers_of (with_one (begun_by p one old run.0) (sent_by types choices buffer p more run.1 run.2 new run.4))))
        (of_told (publisher_told run.0) p) (times p (filter_map publisher_told run.2))
        (times p (cons_option (publisher_told run.0) (filter_map publisher_told run.2)))
        (step-goes one old run.0 run.1 (λ number. now number) (step-moves types choices buffer one old run.0 run.1 run.3)) (run-goes more
        run.1 run.2 new run.4 (λ number. later number))
        (with-first (begun_by p one old run.0) (sent_by types choices buffer p more run.1 run.2 new run.4))
        (told-first p (publisher_told run.0) (filter_map publisher_told run.2)))
      where
        both : (x y z c d cd e f ef : ℕ) → y + c ≤ x + e → z + d ≤ y + f → cd ≡ c + d → ef ≡ e + f → z + cd ≤ x + ef
        both x y z c d cd e f ef h k l m = omega (arith, h, k, l, m)

        with-first : (o : Option (Message T)) (xs : List (Message T))
            → times n (numbers_of (with_one o xs)) ≡ if_it n o + times n (numbers_of xs)
        with-first None xs = omega arith
        with-first (Some message) xs = refl

        told-first : (number : ℕ) (o : Option ℕ) (xs : List ℕ) → times number (cons_option o xs) ≡ of_told o number + times number xs
        told-first number None xs = omega arith
        told-first number (Some told) xs = refl

        all : (number : ℕ) → times number (lent old) + (of_told (loan_told run.0) number + times number (filter_map loan_told run.2)) ≤ 1
        all number =
            subst (λ (k : ℕ). times number (lent old) + k ≤ 1) (told-first number (loan_told run.0) (filter_map loan_told run.2))
            (subst (λ (it : List (Reply T)). times number (lent old) + times number (filter_map loan_told it) ≤ 1) run.5 (once number))

        now : (number : ℕ) → times number (lent old) ≤ 1
        now number =
            first (times number (lent old)) (of_told (loan_told run.0) number + times number (filter_map loan_told run.2)) (all number)
          where
            first : (x e : ℕ) → x + e ≤ 1 → x ≤ 1
            first x e h = omega (arith, h)

        later : (number : ℕ) → times number (lent run.1) + times number (filter_map loan_told run.2) ≤ 1
        later number =
            next (times number (lent old)) (times number (lent run.1)) (of_told (loan_told run.0) number)
            (times number (filter_map loan_told run.2)) (all number)
            ((step-passes types choices buffer one old run.0 run.1 run.3).loans number)
          where
            next : (x y e f : ℕ) → x + (e + f) ≤ 1 → y ≤ x + e → y + f ≤ 1
            next x y e f h k = omega (arith, h, k)

-- ---- the law

part-fewer : {T : Type 0} (n : ℕ) (part whole : List (Message T)) → IsPartOf part whole
    → times n (map (λ (message : Message T). message.number) part) ≤ times n (map (λ (message : Message T). message.number) whole)
part-fewer n part [] h =
    subst (λ (l : List (Message _)). times n (map (λ (message : Message _). message.number) l) ≤ 0) (sym h) (omega arith)
part-fewer n part (message ∷ whole) (inl h) =
    past (one_if (message.number == n)) (times n (map (λ (it : Message _). it.number) part))
    (times n (map (λ (it : Message _). it.number) whole)) (part-fewer n part whole h)
part-fewer n part (message ∷ whole) (inr (rest, e, h)) =
    subst (λ (l : List (Message _)). times n (map (λ (it : Message _). it.number) l)
    ≤ one_if (message.number == n) + times n (map (λ (it : Message _). it.number) whole)) (sym e)
    (longer (one_if (message.number == n)) (times n (map (λ (it : Message _). it.number) rest))
    (times n (map (λ (it : Message _). it.number) whole)) (part-fewer n rest whole h))

pub messages-once : {T : Type 0} (choices : Choices T) (types : MessageTypeDetails) (buffer : ℕ) (asked : List (Command T))
    (answers : List (Reply T)) (new : State T) (run : Runs types choices buffer asked new_state answers new) (publisher subscriber : ℕ)
    → ((n : ℕ) → times n (map (λ (message : Message T). message.number)
    (sent_by types choices buffer publisher asked new_state answers new run)) ≤ 1)
    × ((n : ℕ) → times n (map (λ (message : Message T). message.number)
    (received_from types choices buffer publisher subscriber asked new_state answers new run)) ≤ 1)
messages-once {T} choices types buffer asked answers new run publisher subscriber = (
  (λ n. sent-once n),
  (λ n. within (times n (map (λ (message : Message T). message.number) received))
      (times n (map (λ (message : Message T). message.number) sent))
      (part-fewer n received sent (received-in-order choices types buffer asked answers new run publisher subscriber)) (sent-once n)),
)
  where
    sent : List (Message T)
    sent = sent_by types choices buffer publisher asked new_state answers new run

    received : List (Message T)
    received = received_from types choices buffer publisher subscriber asked new_state answers new run

    within : (x y : ℕ) → x ≤ y → y ≤ 1 → x ≤ 1
    within x y h k = omega (arith, h, k)

    few : (x c e : ℕ) → x + c ≤ 0 + e → e ≤ 1 → c ≤ 1
    few x c e h k = omega (arith, h, k)

    told : (number : ℕ) → 0 + times number (filter_map loan_told answers) ≤ 1
    told number = plain (times number (filter_map loan_told answers))
        (told-once 0 (filter_map loan_told answers) (numbers-go-up choices types buffer asked answers new run).4 number)
      where
        plain : (x : ℕ) → x ≤ 1 → 0 + x ≤ 1
        plain x h = omega (arith, h)

    sent-once : (n : ℕ) → times n (map (λ (message : Message T). message.number) sent) ≤ 1
    sent-once n =
        few (total (left_in publisher n) new.services) (times n (map (λ (message : Message T). message.number) sent))
        (times publisher (filter_map publisher_told answers))
        (run-goes publisher n types choices buffer asked new_state answers new run told)
        (told-once 0 (filter_map publisher_told answers) (numbers-go-up choices types buffer asked answers new run).2 publisher)

pub messages-go-once : {T : Type 0} (choices : Choices T) → MessagesGoOnce choices
messages-go-once {T} choices types buffer asked answers new run publisher subscriber =
    let once = messages-once choices types buffer asked answers new run publisher subscriber in (
      distinct (map (λ (message : Message T). message.number)
          (sent_by types choices buffer publisher asked new_state answers new run)) (λ n. once.0 n),
      distinct (map (λ (message : Message T). message.number)
          (received_from types choices buffer publisher subscriber asked new_state answers new run)) (λ n. once.1 n),
    )
