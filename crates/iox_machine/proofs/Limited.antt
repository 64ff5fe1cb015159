-- In every run of a new machine, no more loans of a publisher are out than its limit.
use Rattle.std.proofs.Common.{◌≡◌, ◌≤◌, ◌+◌, ℕ, Bool, List, [], ◌∷◌, Option, None, Some, refl, sym, ap, subst, inl, inr, arith, ◌∙◌}
use Rattle.std.proofs.lemmas.Bool.{eq-eqb}
use Rattle.std.specs.List.{AllByRecursion, cons_option}
use Rattle.std.specs.Prelude.{filter_map, find, option_map}
use Rattle.iox_machine.proofs.Cases.{never-some}
use Rattle.iox_machine.proofs.Counted.{numbers-go-up, standing, step-passes, told-once}
use Rattle.iox_machine.proofs.Counts.{of_told, one_if, times}
use Rattle.iox_machine.proofs.Limiting.{IsGood, good-port, most_of, nowhere, there-few, walk-good}
use Rattle.iox_machine.proofs.Lists.{all-weaker}
use Rattle.iox_machine.proofs.MoveForms.{Loud}
use Rattle.iox_machine.proofs.MoveForms as move
use Rattle.iox_machine.proofs.MoveLaws.{becomes-keeps}
use Rattle.iox_machine.proofs.MoveSteps.{step-parts}
use Rattle.iox_machine.proofs.Moves.{Acts, IsTold}
use Rattle.iox_machine.proofs.Moving.{Keeps}
use Rattle.iox_machine.proofs.Once.{AreSingle}
use Rattle.iox_machine.proofs.Spent.{lent}
use Rattle.iox_machine.specs.Choices.{Choices}
use Rattle.iox_machine.specs.LoanLaws.{loans_out}
use Rattle.iox_machine.specs.LimitLaws.{LoansAreLimited}
use Rattle.iox_machine.specs.NumberLaws.{GoOn, factory_told, loan_told, node_told, publisher_told, sample_told, subscriber_told}
use Rattle.iox_machine.specs.Run.{Runs, Step}
use Rattle.iox_machine.specs.Service.{Publisher, Service, new_service}
use Rattle.iox_machine.specs.State.{State, new_state}
use Rattle.iox_machine.specs.Table.{at}
use Rattle.iox_command.specs.NegotiateBase.DescribeBase.declared.message_type.MessageTypeDetails.{MessageTypeDetails}
use Rattle.iox_command.specs.NegotiateBase.DescribeSettings.declared.static_config.publish_subscribe.StaticConfig.{StaticConfig}
use Rattle.iox_command.specs.declared.command.Command.{Command}
use Rattle.iox_command.specs.declared.port.PublisherOptions.{PublisherOptions}
use Rattle.iox_command.specs.declared.reply.Reply.{Reply}

-- ---- a step

new-good : (T : Type 0) (name : List ℕ) (c : StaticConfig) → IsGood {T = T} (new_service name c)
new-good T name c = (tt, λ number most is. never-some most is)

module _ {T : Type 0} where
  abbrev AreGood : State T → Type 0
  AreGood state = AllByRecursion IsGood state.services

  abbrev publishing_of : State T → List ℕ
  publishing_of state = standing (λ (service : Service T). service.publishers) state.services

  -- the number of a publisher that comes is none of the service
  unknown : (asked : Command T) (state : State T) (answer : Reply T) (has : Service T → Bool) (service : Service T)
      → find has state.services ≡ Some service
      → ((number : ℕ) → times number (publishing_of state) + of_told (publisher_told answer) number ≤ 1)
      → (one : Loud T) → IsTold asked state answer one
      → (place number : ℕ) (options : PublisherOptions) (it after : Publisher T) → one ≡ move.Publishes place number options it after
      → at number service.publishers ≡ None
  unknown asked state answer has service first fresh one told place number options it after same =
      nowhere number service.publishers
      (there-few (λ (other : Service T). other.publishers) number 0 has service state.services first
      (none (times number (publishing_of state)) (of_told (publisher_told answer) number) (fresh number)
      (ap (λ (said : Reply T). of_told (publisher_told said) number)
      (subst (λ (it_did : Loud T). IsTold asked state answer it_did) same told).2 ∙ ap one_if (eq-eqb number number refl))))
    where
      none : (x y : ℕ) → x + y ≤ 1 → y ≡ 1 → x ≤ 0
      none x y h is = omega (arith, h, is)

  acts-good : (asked : Command T) (state : State T) (answer : Reply T) (has : Service T → Bool) (service after : Service T)
      → find has state.services ≡ Some service
      → ((number : ℕ) → times number (publishing_of state) + of_told (publisher_told answer) number ≤ 1)
      → AreSingle service → Acts asked state answer service after → IsGood service → IsGood after
  acts-good asked state answer has service after first fresh single (inl (loud, beside, told, walk)) good =
      walk-good state.factories loud service after beside told.4 single walk good
  acts-good asked state answer has service after first fresh single (inr (one, is, told, did)) good =
      good-port state.factories one service after is (unknown asked state answer has service first fresh one told.5.0) did good

  module _ (types : MessageTypeDetails) (choices : Choices T) (buffer : ℕ) where
    step-good : (asked : Command T) (old : State T) (answer : Reply T) (new : State T)
        → ((number : ℕ) → times number (lent old) ≤ 1)
        → ((number : ℕ) → times number (publishing_of old) + of_told (publisher_told answer) number ≤ 1)
        → Step types choices buffer asked old answer new → AreGood old → Keeps IsGood old answer new
    step-good asked old answer new once fresh h all =
        becomes-keeps (Acts asked old answer) IsGood (new-good T) asked old answer new
        (λ has service after first acts good. acts-good asked old answer has service after first fresh
        (λ loan. there-few (λ (it : Service T). it.loans) loan 1 has service old.services first (once loan)) acts good)
        (step-parts types choices buffer asked old answer new h) all

    -- ---- a run

    told-first : (number : ℕ) (o : Option ℕ) (xs : List ℕ) → times number (cons_option o xs) ≡ of_told o number + times number xs
    told-first number None xs = omega arith
    told-first number (Some told) xs = refl

    runs-good : (asked : List (Command T)) (old : State T) (answers : List (Reply T)) (new : State T)
        → Runs types choices buffer asked old answers new
        → ((number : ℕ) → times number (lent old) + times number (filter_map loan_told answers) ≤ 1)
        → ((number : ℕ) → times number (publishing_of old) + times number (filter_map publisher_told answers) ≤ 1)
        → AreGood old → AreGood new
    runs-good [] old answers new run once fresh all = subst AreGood (sym run.1) all
    runs-good (one ∷ more) old answers new run once fresh all =
        runs-good more run.1 run.2 new run.4 (λ number. rest number) (λ number. others number)
        (step-good one old run.0 run.1 (λ number. now number) (λ number. newly number) run.3 all).0
      where
        first : (x e : ℕ) → x + e ≤ 1 → x ≤ 1
        first x e h = omega (arith, h)

        next : (x y e f : ℕ) → x + (e + f) ≤ 1 → y ≤ x + e → y + f ≤ 1
        next x y e f h k = omega (arith, h, k)

        both : (x e f : ℕ) → x + (e + f) ≤ 1 → x + e ≤ 1
        both x e f h = omega (arith, h)

        loans : (number : ℕ) → times number (lent old) + (of_told (loan_told run.0) number + times number (filter_map loan_told run.2)) ≤ 1
        loans number =
            subst (λ (k : ℕ). times number (lent old) + k ≤ 1) (told-first number (loan_told run.0) (filter_map loan_told run.2))
            (subst (λ (it : List (Reply T)). times number (lent old) + times number (filter_map loan_told it) ≤ 1) run.5 (once number))

        ports : (number : ℕ) → times number (publishing_of old)
            + (of_told (publisher_told run.0) number + times number (filter_map publisher_told run.2)) ≤ 1
        ports number =
            subst (λ (k : ℕ). times number (publishing_of old) + k ≤ 1)
            (told-first number (publisher_told run.0) (filter_map publisher_told run.2))
            (subst (λ (it : List (Reply T)). times number (publishing_of old) + times number (filter_map publisher_told it) ≤ 1) run.5
            (fresh number))

        now : (number : ℕ) → times number (lent old) ≤ 1
        now number =
            first (times number (lent old)) (of_told (loan_told run.0) number + times number (filter_map loan_told run.2)) (loans number)

        newly : (number : ℕ) → times number (publishing_of old) + of_told (publisher_told run.0) number ≤ 1
        newly number =
            both (times number (publishing_of old)) (of_told (publisher_told run.0) number)
            (times number (filter_map publisher_told run.2)) (ports number)

        rest : (number : ℕ) → times number (lent run.1) + times number (filter_map loan_told run.2) ≤ 1
        rest number =
            next (times number (lent old)) (times number (lent run.1)) (of_told (loan_told run.0) number)
            (times number (filter_map loan_told run.2)) (loans number)
            ((step-passes types choices buffer one old run.0 run.1 run.3).loans number)

        others : (number : ℕ) → times number (publishing_of run.1) + times number (filter_map publisher_told run.2) ≤ 1
        others number =
            next (times number (publishing_of old)) (times number (publishing_of run.1)) (of_told (publisher_told run.0) number)
            (times number (filter_map publisher_told run.2)) (ports number)
            ((step-passes types choices buffer one old run.0 run.1 run.3).publishers number)

pub loans-are-limited : {T : Type 0} (choices : Choices T) → LoansAreLimited choices
loans-are-limited {T} choices types buffer asked answers new run =
    all-weaker IsGood
    (λ (service : Service T). (number : ℕ) (one : Publisher T) → at number service.publishers ≡ Some one
    → loans_out number one service ≤ one.max_loaned_samples)
    (λ service good number one found. good.1 number one.max_loaned_samples (ap (option_map most_of) found)) new.services
    (runs-good types choices buffer asked new_state answers new run
    (λ number. none (times number (filter_map loan_told answers)) (told-once 0 (filter_map loan_told answers) numbers.4 number))
    (λ number. none (times number (filter_map publisher_told answers)) (told-once 0 (filter_map publisher_told answers) numbers.2 number))
    tt)
  where
    none : (x : ℕ) → x ≤ 1 → 0 + x ≤ 1
    none x h = omega (arith, h)

    numbers : GoOn 0 (filter_map node_told answers) × GoOn 0 (filter_map factory_told answers) × GoOn 0 (filter_map publisher_told answers)
        × GoOn 0 (filter_map subscriber_told answers) × GoOn 0 (filter_map loan_told answers) × GoOn 0 (filter_map sample_told answers)
    numbers = numbers-go-up choices types buffer asked answers new run
