-- Names of ports stay within the numbers that were given.
use Rattle.std.proofs.Common.{◌≡◌, ◌≤◌, ℕ, sym, subst, arith}
use Rattle.iox_command.specs.declared.reply.Reply.{Reply}
use Rattle.iox_command.specs.declared.reply.Reply.TheVariants as reply
use Rattle.iox_domain_machine.specs.Naming.{Naming}
use Rattle.iox_hub_machine.specs.Standing.{AreNamedWithin}
use Rattle.iox_machine.specs.State.{Made, counted}

-- as many ports were made, or more
counted_up : {T : Type 0} (answer : Reply T) (made : Made)
    → (made.publishers ≤ (counted answer made).publishers) × (made.subscribers ≤ (counted answer made).subscribers)
counted_up (reply.NodeMade number) made = (omega arith, omega arith)
counted_up (reply.FactoryMade number) made = (omega arith, omega arith)
counted_up (reply.PublisherMade number) made = (omega arith, omega arith)
counted_up (reply.SubscriberMade number) made = (omega arith, omega arith)
counted_up (reply.LoanMade number) made = (omega arith, omega arith)
counted_up (reply.Received number values) made = (omega arith, omega arith)
counted_up other made = (omega arith, omega arith)

-- so it is where ports keep their names
pub stay_within : {T : Type 0} (naming later : ℕ → Naming) (answer : Reply T) (made : Made)
    → ((service : ℕ) → (later service).publisher ≡ (naming service).publisher)
    → ((service : ℕ) → (later service).subscriber ≡ (naming service).subscriber)
    → AreNamedWithin naming made → AreNamedWithin later (counted answer made)
stay_within naming later answer made publishers subscribers within =
    let up = counted_up answer made in record {
      publishers = λ service number.
          subst (λ (name : ℕ → ℕ). name number ≤ (counted answer made).publishers) (sym (publishers service))
          (omega (arith, within.publishers service number, up.0));
      subscribers = λ service number.
          subst (λ (name : ℕ → ℕ). name number ≤ (counted answer made).subscribers) (sym (subscribers service))
          (omega (arith, within.subscribers service number, up.1));
    }
