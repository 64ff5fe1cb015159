-- Alone, what a service is asked is answered as among others, with all numbers counted anew.
use Rattle.std.proofs.Common.{◌≡◌, ◌≤◌, ◌<◌, ◌+◌, ℕ, Bool, true, false, cond, List, [], ◌∷◌, map, None, refl, sym, ap, subst, inl, inr}
use Rattle.std.proofs.Common.{arith, ◌∙◌, true≢false, eq-or-lt_of_le}
use Rattle.std.proofs.lemmas.Bool.{eqb-true, eq-eqb, ne_eqb}
use Rattle.std.specs.Prelude.{◌==◌, filter}
use Rattle.iox_machine.proofs.Shorthands.{factory_of}
use Rattle.iox_machine.specs.Choices.{Choices}
use Rattle.iox_machine.specs.IndependenceLaws.{is_of, concerns, commands_concerning, answers_concerning, NumbersAreCountedAnew}
use Rattle.iox_machine.specs.NumberLaws.{node_told}
use Rattle.iox_machine.specs.Renaming.{IsOneToOne, renamed}
use Rattle.iox_machine.specs.Run.{Step, Runs}
use Rattle.iox_machine.specs.State.{State, Made, Factory, new_state, counted}
use Rattle.iox_machine.proofs.Agreed.{step-stands, new-stands}
use Rattle.iox_machine.proofs.Alone.{own_of, own-phase, own-left, own-step, left-asks, own-new}
use Rattle.iox_machine.proofs.Cases.{never-some}
use Rattle.iox_machine.proofs.Counted.{Passes, step-passes}
use Rattle.iox_machine.proofs.Kept.{IsNext, IsPortNext}
use Rattle.iox_machine.proofs.Left.{step-left}
use Rattle.iox_machine.proofs.Moving.{IsNegotiated, IsClosed, creates, opens, opens-or-creates, closed}
use Rattle.iox_machine.proofs.Ported.{IsBeside, ports-move}
use Rattle.iox_machine.proofs.Renumbered.{other_choices, Numbering, Numberings, renaming_of, other_reply, renumbered}
use Rattle.iox_machine.proofs.RenumberedCommands.{step-by}
use Rattle.iox_machine.proofs.RenumberedSteps.{other_state, other_end}
use Rattle.iox_machine.proofs.Stands.{Stands}
use Rattle.iox_command.specs.NegotiateBase.DescribeBase.declared.message_type.MessageTypeDetails.{MessageTypeDetails}
use Rattle.iox_command.specs.NegotiateBase.DescribeBase.declared.pattern.MessagingPattern.{MessagingPattern}
use Rattle.iox_command.specs.declared.command.Command.{Command}
use Rattle.iox_command.specs.declared.command.Command.TheVariants as command
use Rattle.iox_command.specs.declared.reply.Reply.{Reply}
use Rattle.iox_command.specs.declared.reply.Reply.TheVariants as reply

-- ---- two numbers change places

abbrev exchanged : ℕ → ℕ → ℕ → ℕ
exchanged one other n = cond (n == one) other (cond (n == other) one n)

at-first : (one other : ℕ) → exchanged one other one ≡ other
at-first one other = ap (λ (b : Bool). cond b other (cond (one == other) one one)) (eq-eqb one one refl)

at-second : (one other : ℕ) → exchanged one other other ≡ one
at-second one other = here (other == one) refl
  where
    here : (b : Bool) → (other == one) ≡ b → cond b other (cond (other == other) one other) ≡ one
    here true is = eqb-true other one is
    here false is = ap (λ (b : Bool). cond b one other) (eq-eqb other other refl)

elsewhere : (one other n : ℕ) → (n ≡ one → ⊥) → (n ≡ other → ⊥) → exchanged one other n ≡ n
elsewhere one other n off out =
    ap (λ (b : Bool). cond b other (cond (n == other) one n)) (ne_eqb n one off) ∙ ap (λ (b : Bool). cond b one n) (ne_eqb n other out)

exchanged-twice : (one other n : ℕ) → exchanged one other (exchanged one other n) ≡ n
exchanged-twice one other n = here (n == one) refl (n == other) refl
  where
    here : (b : Bool) → (n == one) ≡ b → (c : Bool) → (n == other) ≡ c → exchanged one other (cond b other (cond c one n)) ≡ n
    here true is c also = at-second one other ∙ sym (eqb-true n one is)
    here false off true is = at-first one other ∙ sym (eqb-true n other is)
    here false off false out =
        ap (λ (b : Bool). cond b other (cond (n == other) one n)) off ∙ ap (λ (b : Bool). cond b one n) out

-- The number goes by this one, and who went by this one by that by which the number went.
abbrev turned : Numbering → ℕ → ℕ → Numbering
turned one n k = record {
  to = λ m. exchanged k (one.to n) (one.to m);
  from = λ m. one.from (exchanged k (one.to n) m);
  back = λ m. ap one.from (exchanged-twice k (one.to n) (one.to m)) ∙ one.back m;
  forth = λ m. ap (exchanged k (one.to n)) (one.forth (exchanged k (one.to n) m)) ∙ exchanged-twice k (one.to n) m;
}

turned-from : (one : Numbering) (n k : ℕ) → (turned one n k).from k ≡ n
turned-from one n k = ap one.from (at-first k (one.to n)) ∙ one.back n

-- ---- numbers that are counted anew

-- What goes by the first n numbers are some of the first n.
abbrev IsWithin : Numbering → ℕ → ℕ → Type 0
IsWithin one last made = (k : ℕ) → k ≤ last → one.from k ≤ made

-- By the first n numbers goes the same.
abbrev Agrees : Numbering → Numbering → ℕ → Type 0
Agrees one other last = (k : ℕ) → k ≤ last → other.from k ≡ one.from k

agrees-turned : (one : Numbering) (last made n : ℕ) → n ≡ made + 1 → IsWithin one last made → Agrees one (turned one n (last + 1)) last
agrees-turned one last made n next within k few =
    ap one.from (elsewhere (last + 1) (one.to n) k (λ same. after k last few same)
    (λ same. beyond (one.from k) made n (within k few) next (ap one.from same ∙ one.back n)))
  where
    after : (k last : ℕ) → k ≤ last → k ≡ last + 1 → ⊥
    after k last few same = omega (arith, few, same)

    beyond : (k made n : ℕ) → k ≤ made → n ≡ made + 1 → k ≡ n → ⊥
    beyond k made n few next same = omega (arith, few, next, same)

within-turned : (one : Numbering) (last made n : ℕ) → n ≡ made + 1 → IsWithin one last made
    → IsWithin (turned one n (last + 1)) (last + 1) (made + 1)
within-turned one last made n next within k few =
    elim (eq-or-lt_of_le few) [
      | inl same ↦ there ((turned one n (last + 1)).from k) n made
          (ap (turned one n (last + 1)).from same ∙ turned-from one n (last + 1)) next
      | inr less ↦ here ((turned one n (last + 1)).from k) (one.from k) made
          (agrees-turned one last made n next within k (before k last less)) (within k (before k last less))
    ]
  where
    before : (k last : ℕ) → k < last + 1 → k ≤ last
    before k last less = omega (arith, less)

    there : (k n made : ℕ) → k ≡ n → n ≡ made + 1 → k ≤ made + 1
    there k n made same next = omega (arith, same, next)

    here : (k m made : ℕ) → k ≡ m → m ≤ made → k ≤ made + 1
    here k m made same few = omega (arith, same, few)

-- The number goes by the one that it was given.
named : (one final : Numbering) (k n : ℕ) → Agrees (turned one n k) final k → final.to n ≡ k
named one final k n agrees = ap final.to (sym (agrees k (same k) ∙ turned-from one n k)) ∙ final.forth k
  where
    same : (k : ℕ) → k ≤ k
    same k = omega arith

-- ---- of all five kinds

abbrev AllWithin : Numberings → Made → Made → Type 0
AllWithin by counts made =
    IsWithin by.factories counts.factories made.factories × IsWithin by.publishers counts.publishers made.publishers
    × IsWithin by.subscribers counts.subscribers made.subscribers × IsWithin by.loans counts.loans made.loans
    × IsWithin by.samples counts.samples made.samples

abbrev AllAgree : Numberings → Numberings → Made → Type 0
AllAgree one other counts =
    Agrees one.factories other.factories counts.factories × Agrees one.publishers other.publishers counts.publishers
    × Agrees one.subscribers other.subscribers counts.subscribers × Agrees one.loans other.loans counts.loans
    × Agrees one.samples other.samples counts.samples

-- No fewer were made of each kind.
abbrev IsNoFewer : Made → Made → Type 0
IsNoFewer made later =
    (made.factories ≤ later.factories) × (made.publishers ≤ later.publishers) × (made.subscribers ≤ later.subscribers)
    × (made.loans ≤ later.loans) × (made.samples ≤ later.samples)

as-many : (made : Made) → IsNoFewer made made
as-many made = (omega arith, omega arith, omega arith, omega arith, omega arith)

all-agree : (by : Numberings) (counts : Made) → AllAgree by by counts
all-agree by counts = (λ k few. refl, λ k few. refl, λ k few. refl, λ k few. refl, λ k few. refl)

reaches : (k few many : ℕ) → k ≤ few → few ≤ many → k ≤ many
reaches k few many h g = omega (arith, h, g)

agree-on : (one mid other : Numberings) (counts later : Made) → IsNoFewer counts later → AllAgree one mid counts → AllAgree mid other later
    → AllAgree one other counts
agree-on one mid other counts later fewer first second = (
  λ k few. second.0 k (reaches k counts.factories later.factories few fewer.0) ∙ first.0 k few,
  λ k few. second.1 k (reaches k counts.publishers later.publishers few fewer.1) ∙ first.1 k few,
  λ k few. second.2 k (reaches k counts.subscribers later.subscribers few fewer.2) ∙ first.2 k few,
  λ k few. second.3 k (reaches k counts.loans later.loans few fewer.3) ∙ first.3 k few,
  λ k few. second.4 k (reaches k counts.samples later.samples few fewer.4) ∙ first.4 k few,
)

within-later : (by : Numberings) (counts made later : Made) → IsNoFewer made later → AllWithin by counts made → AllWithin by counts later
within-later by counts made later fewer within = (
  λ k few. reaches (by.factories.from k) made.factories later.factories (within.0 k few) fewer.0,
  λ k few. reaches (by.publishers.from k) made.publishers later.publishers (within.1 k few) fewer.1,
  λ k few. reaches (by.subscribers.from k) made.subscribers later.subscribers (within.2 k few) fewer.2,
  λ k few. reaches (by.loans.from k) made.loans later.loans (within.3 k few) fewer.3,
  λ k few. reaches (by.samples.from k) made.samples later.samples (within.4 k few) fewer.4,
)

module _ {T : Type 0} where
  -- the numberings once a reply told a number, where n were counted anew
  abbrev turned_by : Reply T → Made → Numberings → Numberings
  turned_by (reply.FactoryMade number) counts by = record by { factories = turned by.factories number (counts.factories + 1) }
  turned_by (reply.PublisherMade number) counts by = record by { publishers = turned by.publishers number (counts.publishers + 1) }
  turned_by (reply.SubscriberMade number) counts by = record by { subscribers = turned by.subscribers number (counts.subscribers + 1) }
  turned_by (reply.LoanMade number) counts by = record by { loans = turned by.loans number (counts.loans + 1) }
  turned_by (reply.Received number values) counts by = record by { samples = turned by.samples number (counts.samples + 1) }
  turned_by other counts by = by

  no-fewer : (answer : Reply T) (made : Made) → IsNoFewer made (counted answer made)
  no-fewer (reply.FactoryMade number) made = (omega arith, omega arith, omega arith, omega arith, omega arith)
  no-fewer (reply.PublisherMade number) made = (omega arith, omega arith, omega arith, omega arith, omega arith)
  no-fewer (reply.SubscriberMade number) made = (omega arith, omega arith, omega arith, omega arith, omega arith)
  no-fewer (reply.LoanMade number) made = (omega arith, omega arith, omega arith, omega arith, omega arith)
  no-fewer (reply.Received number values) made = (omega arith, omega arith, omega arith, omega arith, omega arith)
  no-fewer other made = as-many made

  all-turned : (answer : Reply T) (counts made : Made) (by : Numberings) → IsNext made answer → AllWithin by counts made
      → AllAgree by (turned_by answer counts by) counts
  all-turned (reply.FactoryMade number) counts made by next within = (
    agrees-turned by.factories counts.factories made.factories number next within.0,
    λ k few. refl,
    λ k few. refl,
    λ k few. refl,
    λ k few. refl,
  )
  all-turned (reply.PublisherMade number) counts made by next within = (
    λ k few. refl,
    agrees-turned by.publishers counts.publishers made.publishers number next within.1,
    λ k few. refl,
    λ k few. refl,
    λ k few. refl,
  )
  all-turned (reply.SubscriberMade number) counts made by next within = (
    λ k few. refl,
    λ k few. refl,
    agrees-turned by.subscribers counts.subscribers made.subscribers number next within.2,
    λ k few. refl,
    λ k few. refl,
  )
  all-turned (reply.LoanMade number) counts made by next within =
      (λ k few. refl, λ k few. refl, λ k few. refl, agrees-turned by.loans counts.loans made.loans number next within.3, λ k few. refl)
  all-turned (reply.Received number values) counts made by next within = (
    λ k few. refl,
    λ k few. refl,
    λ k few. refl,
    λ k few. refl,
    agrees-turned by.samples counts.samples made.samples number next within.4,
  )
  all-turned other counts made by next within = all-agree by counts

  all-within : (answer : Reply T) (counts made : Made) (by : Numberings) → IsNext made answer → AllWithin by counts made
      → AllWithin (turned_by answer counts by) (counted answer counts) (counted answer made)
  all-within (reply.FactoryMade number) counts made by next within =
      (within-turned by.factories counts.factories made.factories number next within.0, within.1, within.2, within.3, within.4)
  all-within (reply.PublisherMade number) counts made by next within =
      (within.0, within-turned by.publishers counts.publishers made.publishers number next within.1, within.2, within.3, within.4)
  all-within (reply.SubscriberMade number) counts made by next within =
      (within.0, within.1, within-turned by.subscribers counts.subscribers made.subscribers number next within.2, within.3, within.4)
  all-within (reply.LoanMade number) counts made by next within =
      (within.0, within.1, within.2, within-turned by.loans counts.loans made.loans number next within.3, within.4)
  all-within (reply.Received number values) counts made by next within =
      (within.0, within.1, within.2, within.3, within-turned by.samples counts.samples made.samples number next within.4)
  all-within other counts made by next within = within

  -- What a reply tells is the next number of those that are counted anew.
  next-anew : (answer : Reply T) (counts made : Made) (by final : Numberings) → counts.nodes ≡ made.nodes → IsNext made answer
      → AllAgree (turned_by answer counts by) final (counted answer counts) → IsNext counts (other_reply final answer)
  next-anew (reply.NodeMade number) counts made by final nodes next agree = next ∙ ap (λ (count : ℕ). count + 1) (sym nodes)
  next-anew (reply.FactoryMade number) counts made by final nodes next agree =
      named by.factories final.factories (counts.factories + 1) number agree.0
  next-anew (reply.PublisherMade number) counts made by final nodes next agree =
      named by.publishers final.publishers (counts.publishers + 1) number agree.1
  next-anew (reply.SubscriberMade number) counts made by final nodes next agree =
      named by.subscribers final.subscribers (counts.subscribers + 1) number agree.2
  next-anew (reply.LoanMade number) counts made by final nodes next agree =
      named by.loans final.loans (counts.loans + 1) number agree.3
  next-anew (reply.Received number values) counts made by final nodes next agree =
      named by.samples final.samples (counts.samples + 1) number agree.4
  next-anew other counts made by final nodes next agree = tt

  counted-same : (answer : Reply T) (counts : Made) (by : Numberings) → counted (other_reply by answer) counts ≡ counted answer counts
  counted-same (reply.NodeMade number) counts by = refl
  counted-same (reply.FactoryMade number) counts by = refl
  counted-same (reply.PublisherMade number) counts by = refl
  counted-same (reply.SubscriberMade number) counts by = refl
  counted-same (reply.LoanMade number) counts by = refl
  counted-same (reply.Received number values) counts by = refl
  counted-same other counts by = refl

  nodes-counted : (answer : Reply T) (counts made : Made) → counts.nodes ≡ made.nodes
      → (counted answer counts).nodes ≡ (counted answer made).nodes
  nodes-counted (reply.NodeMade number) counts made same = ap (λ (count : ℕ). count + 1) same
  nodes-counted (reply.FactoryMade number) counts made same = same
  nodes-counted (reply.PublisherMade number) counts made same = same
  nodes-counted (reply.SubscriberMade number) counts made same = same
  nodes-counted (reply.LoanMade number) counts made same = same
  nodes-counted (reply.Received number values) counts made same = same
  nodes-counted other counts made same = same

  nodes-stay : (answer : Reply T) (made : Made) → node_told answer ≡ None → (counted answer made).nodes ≡ made.nodes
  nodes-stay (reply.NodeMade number) made none = never-some number (sym none)
  nodes-stay (reply.FactoryMade number) made none = refl
  nodes-stay (reply.PublisherMade number) made none = refl
  nodes-stay (reply.SubscriberMade number) made none = refl
  nodes-stay (reply.LoanMade number) made none = refl
  nodes-stay (reply.Received number values) made none = refl
  nodes-stay other made none = refl

  -- ---- who makes no node

  of-port : (made : Made) (answer : Reply T) → IsPortNext made answer → node_told answer ≡ None
  of-port made (reply.NodeMade number) next = absurd next
  of-port made other next = refl

  beside-no-node : (asked : Command T) (old : State T) (answer : Reply T) (new : State T) → IsBeside asked old answer new
      → node_told answer ≡ None
  beside-no-node asked old answer new (inl (told, same)) = ap node_told told
  beside-no-node asked old answer new (inr (has_it, service, after, first, kept, off, came)) = of-port old.made answer kept.next

  negotiated-no-node : (factory : Factory) (old : State T) (answer : Reply T) (new : State T) → IsNegotiated factory old answer new
      → node_told answer ≡ None
  negotiated-no-node factory old answer new (inl (told, same)) = ap node_told told
  negotiated-no-node factory old answer new (inr (inl (why, (told, same)))) = ap node_told told
  negotiated-no-node factory old answer new (inr (inr (inl (phase, why, (told, same))))) = ap node_told told
  negotiated-no-node factory old answer new (inr (inr (inr (phase, told, came)))) = ap node_told told

  closed-no-node : (number : ℕ) (old : State T) (answer : Reply T) (new : State T) → IsClosed number old answer new
      → node_told answer ≡ None
  closed-no-node number old answer new (inl (told, same)) = ap node_told told
  closed-no-node number old answer new (inr (inl (told, same))) = ap node_told told
  closed-no-node number old answer new (inr (inr (factory, found, unused, told, came))) = ap node_told told

  module _ (types : MessageTypeDetails) (choices : Choices T) (buffer : ℕ) (pattern : MessagingPattern) (name : List ℕ) where
    no-node : (asked : Command T) (old : State T) (answer : Reply T) (new : State T) → concerns pattern name asked old ≡ false
        → Step types choices buffer asked old answer new → node_told answer ≡ None
    no-node command.Node old answer new off h = absurd (true≢false off)
    no-node (command.Create node other options attributes steps) old answer new off h =
        negotiated-no-node (factory_of node other options) old answer new
        (creates types steps (factory_of node other options) old answer new options attributes h)
    no-node (command.Open node other options required steps) old answer new off h =
        negotiated-no-node (factory_of node other options) old answer new
        (opens types steps (factory_of node other options) old answer new options required h)
    no-node (command.OpenOrCreate node other options required steps) old answer new off h =
        negotiated-no-node (factory_of node other options) old answer new
        (opens-or-creates types steps (factory_of node other options) old answer new options required h)
    no-node (command.Foreign one other steps) old answer new off (inl (told, came)) = ap node_told told
    no-node (command.Foreign one other steps) old answer new off (inr (done, few, (told, came))) = ap node_told told
    no-node (command.Close factory) old answer new off h = closed-no-node factory old answer new (closed factory old answer new h)
    no-node asked old answer new off h = beside-no-node asked old answer new (ports-move types choices buffer asked old answer new refl h)

    -- ---- a run

    -- What concerns the service in a run is a run of who knows it alone and counted n, by numberings that go on from these.
    abbrev IsAnew : (asked : List (Command T)) (old : State T) (answers : List (Reply T)) (new : State T)
        → Runs types choices buffer asked old answers new → Made → Numberings → State T → Type 0
    IsAnew asked old answers new run counts given own =
        (by : Numberings) × AllAgree given by counts × (last : Made)
        × Runs types (other_choices by choices) buffer
        (map (renamed (renaming_of by)) (commands_concerning types choices buffer pattern name asked old answers new run))
        (other_state by counts own)
        (map (other_reply by) (answers_concerning types choices buffer pattern name asked old answers new run))
        (other_state by last (own_of pattern name new))

    anew : (asked : List (Command T)) (old : State T) (answers : List (Reply T)) (new : State T)
        (run : Runs types choices buffer asked old answers new) (counts : Made) (given : Numberings)
        → Stands old → counts.nodes ≡ old.made.nodes → AllWithin given counts old.made
        → IsAnew asked old answers new run counts given (own_of pattern name old)
    anew [] old answers new run counts given stands nodes within =
        (given, all-agree given counts, counts, (refl, ap (λ (it : State T). other_state given counts (own_of pattern name it)) run.1))
    anew (one ∷ more) old answers new run counts given stands nodes within =
        here (concerns pattern name one old) refl
        (λ later numbered same inside. anew more run.1 run.2 new run.4 later numbered
        (step-stands types choices buffer one old run.0 run.1 run.3 stands) same inside)
      where
        answer : Reply T
        answer = run.0

        mid : State T
        mid = run.1

        stood : Stands mid
        stood = step-stands types choices buffer one old answer mid run.3 stands

        passed : Passes old answer mid
        passed = step-passes types choices buffer one old answer mid run.3

        rest_commands : List (Command T)
        rest_commands = commands_concerning types choices buffer pattern name more mid run.2 new run.4

        rest_answers : List (Reply T)
        rest_answers = answers_concerning types choices buffer pattern name more mid run.2 new run.4

        here : (b : Bool) → concerns pattern name one old ≡ b
            → ((later : Made) (numbered : Numberings) → later.nodes ≡ mid.made.nodes → AllWithin numbered later mid.made
            → IsAnew more mid run.2 new run.4 later numbered (own_of pattern name mid))
            → (by : Numberings) × AllAgree given by counts × (last : Made)
            × Runs types (other_choices by choices) buffer (map (renamed (renaming_of by)) (cond b (one ∷ rest_commands) rest_commands))
            (other_state by counts (own_of pattern name old)) (map (other_reply by) (cond b (answer ∷ rest_answers) rest_answers))
            (other_state by last (own_of pattern name new))
        here true on rest =
            let it : IsAnew more mid run.2 new run.4 (counted answer counts) (turned_by answer counts given) (own_of pattern name mid) =
            rest (counted answer counts) (turned_by answer counts given)
            (nodes-counted answer counts old.made nodes ∙ ap (λ (made : Made). made.nodes) (sym passed.made))
            (subst (λ (made : Made). AllWithin (turned_by answer counts given) (counted answer counts) made) (sym passed.made)
            (all-within answer counts old.made given passed.next within)) in (
              it.0,
              agree-on given (turned_by answer counts given) it.0 counts (counted answer counts) (no-fewer answer counts)
                  (all-turned answer counts old.made given passed.next within) it.1,
              it.2,
              (
                other_reply it.0 answer,
                other_end it.0 counts answer (own_of pattern name mid),
                map (other_reply it.0) rest_answers,
                step-by it.0 types choices buffer counts one (own_of pattern name old) answer (own_of pattern name mid) nodes
                    (next-anew answer counts old.made given it.0 nodes passed.next it.1)
                    (own-step pattern name types choices buffer one old answer mid stood run.3 on),
                subst (λ (made : Made). Runs types (other_choices it.0 choices) buffer (map (renamed (renaming_of it.0)) rest_commands)
                    (other_state it.0 made (own_of pattern name mid)) (map (other_reply it.0) rest_answers)
                    (other_state it.0 it.2 (own_of pattern name new)))
                    (sym (counted-same answer counts it.0)) it.3,
                refl,
              ),
            )
        here false off rest =
            let it : IsAnew more mid run.2 new run.4 counts given (own_of pattern name mid) =
            rest counts given
            (nodes
            ∙ sym (ap (λ (made : Made). made.nodes) passed.made
            ∙ nodes-stay answer old.made (no-node one old answer mid off run.3)))
            (within-later given counts old.made mid.made
            (subst (λ (made : Made). IsNoFewer old.made made) (sym passed.made) (no-fewer answer old.made)) within) in (
              it.0,
              it.1,
              it.2,
              subst (λ (own : State T). Runs types (other_choices it.0 choices) buffer (map (renamed (renaming_of it.0)) rest_commands)
                  (other_state it.0 counts own) (map (other_reply it.0) rest_answers)
                  (other_state it.0 it.2 (own_of pattern name new)))
                  (own-left pattern name old mid
                  (step-left pattern name types choices buffer one old answer mid stands run.3
                  (left-asks pattern name types choices buffer one old off))) it.3,
            )

-- each number goes by itself
abbrev unchanged : Numbering
unchanged = record { to = λ n. n; from = λ n. n; back = λ n. refl; forth = λ n. refl }

apart : (one : Numbering) → IsOneToOne one.to
apart one n m same = sym (one.back n) ∙ (ap one.from same ∙ one.back m)

none-made : (made : ℕ) → IsWithin unchanged 0 made
none-made made k few = below k made few
  where
    below : (k made : ℕ) → k ≤ 0 → k ≤ made
    below k made few = omega (arith, few)

pub counted-anew : {T : Type 0} (choices : Choices T) → NumbersAreCountedAnew choices
counted-anew {T} choices types buffer asked answers new run pattern name =
    let it : IsAnew types choices buffer pattern name asked new_state answers new run none given (own_of pattern name new_state) =
    anew types choices buffer pattern name asked new_state answers new run none given new-stands refl
    (none-made 0, none-made 0, none-made 0, none-made 0, none-made 0) in (
      renaming_of it.0,
      other_state it.0 it.2 (own_of pattern name new),
      (apart it.0.factories, apart it.0.publishers, apart it.0.subscribers, apart it.0.loans, apart it.0.samples),
      subst (λ (own : State T). Runs types (other_choices it.0 choices) buffer
          (map (renamed (renaming_of it.0))
          (commands_concerning types choices buffer pattern name asked new_state answers new run))
          (other_state it.0 none own)
          (map (other_reply it.0) (answers_concerning types choices buffer pattern name asked new_state answers new run))
          (other_state it.0 it.2 (own_of pattern name new)))
          (own-new pattern name) it.3,
      (own-phase pattern name new, refl, renumbered it.0 (filter (is_of pattern name) new.services)),
    )
  where
    none : Made
    none = record { nodes = 0; factories = 0; publishers = 0; subscribers = 0; loans = 0; samples = 0 }

    given : Numberings
    given = record {
      factories = unchanged;
      publishers = unchanged;
      subscribers = unchanged;
      loans = unchanged;
      samples = unchanged;
    }
