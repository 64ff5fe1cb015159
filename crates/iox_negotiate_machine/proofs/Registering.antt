-- A node of the hub registers in the service that it saw.
use Rattle.std.proofs.Common.{◌≡◌, ℕ, ◌+◌, ◌-◌, ◌^◌, ◌<◌, Bool, true, false, cond, ◌||◌, List, [], ◌∷◌, ◌++◌, Option, None, Some, Ok, Err}
use Rattle.std.proofs.Common.{length, length-append, nat_eq, nat_lt, refl, sym, ap, subst, ◌∙◌, ◌⊎◌, inl, inr, arith}
use Rattle.std.proofs.lemmas.Bool.{eq-eqb}
use Rattle.std.specs.List.{AllByRecursion}
use Rattle.iox_command.specs.NegotiateBase.DescribeBase.Hash.{service_hash_of}
use Rattle.iox_command.specs.NegotiateBase.DescribeBase.declared.hash.ServiceHash.{ServiceHash}
use Rattle.iox_command.specs.NegotiateBase.DescribeBase.declared.message_type.MessageTypeDetails.{MessageTypeDetails}
use Rattle.iox_command.specs.NegotiateBase.DescribeBase.declared.pattern.MessagingPattern.{MessagingPattern}
use Rattle.iox_command.specs.NegotiateBase.DescribeSettings.Agreement.{Agreement as Description, max_nodes_of}
use Rattle.iox_machine.specs.Agreement.{Agreement}
use Rattle.iox_machine.specs.AgreementLaws.{life_of}
use Rattle.iox_machine.specs.Negotiation.{Answer, registered}
use Rattle.iox_machine.specs.Phase.{Node, Own, Phase, Absent, BeingMade, Published, Emptied, entered as come_in, is_in}
use Rattle.iox_negotiate.proofs.Maps.{on}
use Rattle.iox_negotiate_machine.proofs.Acting.{emptied, last, reopened, undescribed}
use Rattle.iox_negotiate_machine.proofs.Meanwhile.{IsSince}
use Rattle.iox_negotiate_machine.proofs.OwnSeats.{counts-some, entered-in, own-again, own-comes, own-in}
use Rattle.iox_negotiate_machine.proofs.Rounds.{round_answer}
use Rattle.iox_negotiate_machine.specs.CallLaws.{HasFewFactories, IsServiceIn}
use Rattle.iox_negotiate_machine.specs.Standing.{AreFalling, IsDescribed, IsLast, IsOpenTo, NodesStand, PhaseStands, description_of}
use Rattle.iox_negotiate_machine.specs.Standing.{table_node_of}
use Rattle.iox_negotiate_table.specs.Contents.{Contents, is_published, segment_at, with_segment}
use Rattle.iox_negotiate_table.specs.NegotiateBase.Failing.{entered, opened}
use Rattle.iox_negotiate_table.specs.NegotiateBase.declared.answer.OpenSegmentAnswer.{OpenSegmentAnswer}
use Rattle.iox_negotiate_table.specs.NegotiateBase.declared.answer.OpenSegmentAnswer.TheVariants as opening
use Rattle.iox_negotiate_table.specs.NegotiateBase.declared.failure.OpenFailure.{OpenFailure}
use Rattle.iox_negotiate_table.specs.NegotiateBase.declared.failure.OpenFailure.TheVariants as unopened
use Rattle.iox_negotiate_table.specs.Nodes.{EntersAgain, EntersFirst, EntersWith, Nodes, count_in, factories_of, with_factories, with_node}
use Rattle.iox_negotiate_table.specs.Segments.{Opens}
use Rattle.iox_negotiate_table.specs.Sights.{OpensAt, OpensPublished}
use Rattle.iox_negotiate_table.specs.declared.segment.Segment.{Segment}
use Rattle.iox_negotiate_table.specs.declared.segment.Segment.TheVariants as segment

-- ---- which number it saw

-- a number that was taken before is below the bound
below : (bound : ℕ) (since before : List ℕ) (number : ℕ) → AreFalling bound (since ++ before) → IsLast (λ one. one ≡ number) before
    → number < bound
below bound [] [] number falling at = absurd at
below bound [] (one ∷ before) number falling at = omega (arith, falling.0, at)
below bound (one ∷ since) before number falling at = omega (arith, falling.0, below one since before number falling.1 at)

-- The last number is the one that was seen, in the life that was seen; or the life is a later one, and no number is it.
abbrev pub StillOrLater : ℕ → ℕ → ℕ → List ℕ → Type 0
StillOrLater life number now numbers =
    ((now ≡ life) × IsLast (λ one. one ≡ number) numbers) ⊎ ((life < now) × IsLast (λ one. nat_eq one number ≡ false) numbers)

apart : (one number : ℕ) → number < one → nat_eq one number ≡ false
apart one number less = grind (arith, less)

pub still-or-later : (life number now bound : ℕ) (since before : List ℕ) → life ≡ length before → IsLast (λ one. one ≡ number) before
    → now ≡ length (since ++ before) → AreFalling bound (since ++ before) → StillOrLater life number now (since ++ before)
still-or-later life number now bound [] before lived at is falling = inl (is ∙ sym lived, at)
still-or-later life number now bound (one ∷ since) before lived at is falling = inr (
  omega (arith, lived, is, length-append since before),
  apart one number (below one since before number falling.1 at),
)

module _ (types : MessageTypeDetails) (pattern : MessagingPattern) (name : List ℕ) (node number life : ℕ) (agreed : Agreement)
    (V : Type 0) where
  abbrev hash : ServiceHash
  hash = service_hash_of pattern name

  abbrev description : Description
  description = description_of pattern name agreed

  -- What an answer means: the node is in the service of the phase, or may look again.
  abbrev pub Means : OpenSegmentAnswer → Phase → List ℕ → Type 0
  Means opening.Registered phase numbers = IsServiceIn node pattern name phase numbers (opened number description)
  Means opening.Absent phase numbers = HasFewFactories node phase
  Means other phase numbers = Unit {0}

  -- The answer is that of the machine, whose phase the table has then.
  abbrev pub By : OpenSegmentAnswer → Contents → Contents → List ℕ → Answer (OpenFailure V) × Phase → Type 0
  By answer old new numbers found =
      (round_answer {F = OpenFailure V} (entered number description answer) ≡ found.0) × PhaseStands pattern name new numbers found.1
      × (new.next ≡ old.next) × Means answer found.1 numbers

  -- so it is, or no memory is found, and the phase stays
  abbrev pub Registers : OpenSegmentAnswer → Contents → Contents → List ℕ → Phase → Type 0
  Registers answer old new numbers phase =
      By answer old new numbers (registered {V = V} life (Own node) phase)
      ⊎ ((answer ≡ opening.OutOfMemory) × PhaseStands pattern name new numbers phase)

  module _ (old new : Contents) (numbers : List ℕ) (answer : OpenSegmentAnswer) where
    -- where another life is there, or none, nothing is found
    away : (phase : Phase) → HasFewFactories node phase → PhaseStands pattern name old numbers phase → is_published hash number old ≡ false
        → OpensAt (is_published hash number old) (segment_at hash number old) hash number node old answer new
        → By answer old new numbers (None, phase)
    away phase few stands unpublished h =
        there (subst (λ (s : Option Segment). OpensAt false s hash number node old answer new) (stands.segments number unpublished)
        (subst (λ (b : Bool). OpensAt b (segment_at hash number old) hash number node old answer new) unpublished h))
      where
        there : (answer ≡ opening.Absent) × (new ≡ old) → By answer old new numbers (None, phase)
        there (is, same) = subst (λ (a : OpenSegmentAnswer). By a old new numbers (None, phase)) (sym is) (
          refl,
          subst (λ (t : Contents). PhaseStands pattern name t numbers phase) (sym same) stands,
          ap (λ (t : Contents). t.next) same,
          few,
        )

    -- in the life that was seen
    module _ (now : ℕ) (given : Agreement) (lived : now ≡ length numbers) (falling : AreFalling old.next numbers)
        (at : IsLast (λ one. one ≡ number) numbers) (is : IsDescribed pattern name old given number) (agrees : given ≡ agreed)
        (only : (n : ℕ) → is_published hash n old ≡ false → segment_at hash n old ≡ None) where
      itself : is_published hash number old ≡ true
      itself = rw is.described (eq-eqb number number refl)

      module _ (nodes : List (Node × ℕ)) (here : IsOpenTo pattern name old given nodes number) where
        -- the segment has other nodes
        turned : (after : List (Node × ℕ)) (seated : Nodes) → NodesStand seated after → seated.max_nodes ≡ here.seated.max_nodes
            → new ≡ with_segment hash number (segment.Open seated) old → PhaseStands pattern name new numbers (Published now given after)
        turned after seated stand same new_is =
            reopened pattern name old new numbers now given number (segment.Open here.seated) lived falling at is here.stands only after
            seated
            stand (same ∙ here.room) new_is

        abbrev Chosen : Bool → Answer (OpenFailure V) × Phase
        Chosen b = cond b (Some (Ok false), Published now given (come_in (Own node) nodes))
            (Some (Err unopened.ExceedsMaxNumberOfNodes), Published now given nodes)

        abbrev Here : OpenSegmentAnswer → Type 0
        Here a = By a old new numbers (Chosen (is_in (Own node) nodes || nat_lt (length nodes) (max_nodes_of given.settings)))
            ⊎ ((a ≡ opening.OutOfMemory) × PhaseStands pattern name new numbers (Published now given nodes))

        next-same : (after : Segment) → new ≡ with_segment hash number after old → new.next ≡ old.next
        next-same after new_is = ap (λ (t : Contents). t.next) new_is

        service : (after : List (Node × ℕ)) → is_in (Own node) after ≡ true
            → IsServiceIn node pattern name (Published now given after) numbers (opened number description)
        service after is_there = (is_there, last-of numbers at, ap (λ (a : Agreement). description_of pattern name a) (sym agrees))
          where
            last-of : (numbers : List ℕ) → IsLast (λ one. one ≡ number) numbers → IsLast (λ one. number ≡ one) numbers
            last-of [] at = absurd at
            last-of (one ∷ before) at = sym at

        -- the node comes in, for the first time or again
        enters : (seated : Nodes) → NodesStand seated (come_in (Own node) nodes) → seated.max_nodes ≡ here.seated.max_nodes
            → new ≡ with_segment hash number (segment.Open seated) old
            → (is_in (Own node) nodes || nat_lt (length nodes) (max_nodes_of given.settings)) ≡ true → Here opening.Registered
        enters seated stand same new_is test = inl (subst (λ (b : Bool). By opening.Registered old new numbers (Chosen b)) (sym test) (
          refl,
          turned (come_in (Own node) nodes) seated stand same new_is,
          next-same (segment.Open seated) new_is,
          service (come_in (Own node) nodes) (entered-in (Own node) nodes),
        ))

        in-again : (count : ℕ) → factories_of here.seated node ≡ Some count
            → (is_in (Own node) nodes || nat_lt (length nodes) (max_nodes_of given.settings)) ≡ true
        in-again count has = rw (own-in node here.seated nodes here.nodes_stand) (rw has refl)

        room-is : factories_of here.seated node ≡ None → (is_in (Own node) nodes || nat_lt (length nodes) (max_nodes_of given.settings))
            ≡ nat_lt (count_in here.seated) here.seated.max_nodes
        room-is none = rw (own-in node here.seated nodes here.nodes_stand) (rw none (rw here.nodes_stand.many (rw here.room refl)))

        first-time : factories_of here.seated node ≡ None → (b : Bool) → nat_lt (count_in here.seated) here.seated.max_nodes ≡ b
            → (after : Nodes)
            → new ≡ with_segment hash number (segment.Open after) old → EntersFirst b node here.seated answer after → Here answer
        first-time none true room after new_is (inl (is, same)) =
            subst Here (sym is) (enters (with_node node here.seated) (own-comes node here.seated nodes here.nodes_stand none) refl
            (new_is ∙ ap (λ (n : Nodes). with_segment hash number (segment.Open n) old) same) (room-is none ∙ room))
        first-time none true room after new_is (inr (is, same)) =
            inr (
              is,
              turned nodes here.seated here.nodes_stand refl
                  (new_is ∙ ap (λ (n : Nodes). with_segment hash number (segment.Open n) old) same),
            )
        first-time none false room after new_is (is, same) =
            subst Here (sym is) (inl (subst (λ (b : Bool). By opening.Full old new numbers (Chosen b)) (sym (room-is none ∙ room)) (
              refl,
              turned nodes here.seated here.nodes_stand refl
                  (new_is ∙ ap (λ (n : Nodes). with_segment hash number (segment.Open n) old) same),
              next-same (segment.Open after) new_is,
              tt,
            )))

        few-there : (count : ℕ) → factories_of here.seated node ≡ Some count → HasFewFactories node (Published now given nodes)
            → nat_eq count (2 ^ 64 - 1) ≡ false
        few-there count has few = there (subst (λ (l : List ℕ). AllByRecursion (λ c. c < 2 ^ 64 - 1) l)
            (counts-some node here.seated nodes here.nodes_stand count has) few).0
          where
            there : count < 2 ^ 64 - 1 → nat_eq count (2 ^ 64 - 1) ≡ false
            there less = grind (arith, less)

        by-count : (found : Option ℕ) → factories_of here.seated node ≡ found → HasFewFactories node (Published now given nodes)
            → (after : Nodes)
            → new ≡ with_segment hash number (segment.Open after) old → EntersWith found node here.seated answer after → Here answer
        by-count None has few after new_is h = first-time has (nat_lt (count_in here.seated) here.seated.max_nodes) refl after new_is h
        by-count (Some count) has few after new_is h = there (nat_eq count (2 ^ 64 - 1)) (few-there count has few) h
          where
            there : (b : Bool) → b ≡ false → EntersAgain count b node here.seated answer after → Here answer
            there true is h = on is
            there false is (is_answer, same) =
                subst Here (sym is_answer) (enters (with_factories node (count + 1) here.seated)
                (own-again node here.seated nodes here.nodes_stand count has) refl
                (new_is ∙ ap (λ (n : Nodes). with_segment hash number (segment.Open n) old) same) (in-again count has))

        by-segment : HasFewFactories node (Published now given nodes) → (after : Segment)
            → Opens node (segment.Open here.seated) answer after
            → new ≡ with_segment hash number after old → Here answer
        by-segment few (segment.Open after) h new_is = by-count (factories_of here.seated node) refl few after new_is h
        by-segment few (segment.Emptied by) h new_is = absurd h

        opens-here : HasFewFactories node (Published now given nodes)
            → OpensAt (is_published hash number old) (segment_at hash number old) hash number node old answer new → Here answer
        opens-here few h =
            let found : OpensPublished (Some (segment.Open here.seated)) hash number node old answer new =
            subst (λ (s : Option Segment). OpensPublished s hash number node old answer new) here.stands
            (subst (λ (b : Bool). OpensAt b (segment_at hash number old) hash number node old answer new) itself h) in
            by-segment few found.0 found.1 found.2

      -- the last node left
      over : (by : Node) → segment_at hash number old ≡ Some (segment.Emptied (table_node_of by))
          → OpensAt (is_published hash number old) (segment_at hash number old) hash number node old answer new
          → By answer old new numbers (Some (Err unopened.IsMarkedForDestruction), Emptied now given by)
      over by stood h =
          let found : OpensPublished (Some (segment.Emptied (table_node_of by))) hash number node old answer new =
          subst (λ (s : Option Segment). OpensPublished s hash number node old answer new) stood
          (subst (λ (b : Bool). OpensAt b (segment_at hash number old) hash number node old answer new) itself h) in
          let new_is : new ≡ with_segment hash number (segment.Emptied (table_node_of by)) old =
          found.2 ∙ ap (λ (s : Segment). with_segment hash number s old) found.1.1 in
          subst (λ (a : OpenSegmentAnswer). By a old new numbers (Some (Err unopened.IsMarkedForDestruction), Emptied now given by))
          (sym found.1.0) (
            refl,
            emptied pattern name old new numbers now given number (segment.Emptied (table_node_of by)) lived falling at is stood only by
                new_is,
            ap (λ (t : Contents). t.next) new_is,
            tt,
          )

    abbrev Found : Type 0
    Found = OpensAt (is_published hash number old) (segment_at hash number old) hash number node old answer new

    same-life : (now : ℕ) → now ≡ life → nat_eq now life ≡ true
    same-life now same = eq-eqb now life same

    other-life : (now : ℕ) → life < now → nat_eq now life ≡ false
    other-life now less = apart now life less

    agreed-still : (now : ℕ) (given : Agreement) → now ≡ life → (life < now) ⊎ ((now ≡ life) × (given ≡ agreed)) → given ≡ agreed
    agreed-still now given same (inl less) = absurd (omega (arith, less, same))
    agreed-still now given same (inr is) = is.1

    to-number : (So : ℕ → Type 0) (numbers : List ℕ) → IsLast (λ one. one ≡ number) numbers → IsLast So numbers → So number
    to-number So [] at so = absurd so
    to-number So (one ∷ before) at so = subst So at so

    unlike : {So : ℕ → Type 0} (numbers : List ℕ) → IsLast (λ one. nat_eq one number ≡ false) numbers → IsLast So numbers
        → (one : ℕ) × So one × (nat_eq one number ≡ false)
    unlike [] differ so = absurd so
    unlike (one ∷ before) differ so = (one, so, differ)

    -- ---- by the phase then

    pub registers : (phase : Phase) → PhaseStands pattern name old numbers phase → HasFewFactories node phase
        → IsSince types pattern life agreed phase → StillOrLater life number (life_of phase) numbers → Found
        → Registers answer old new numbers phase
    registers (Absent lives) stands few since turn h = inl (away (Absent lives) tt stands (undescribed hash old stands.lies number refl) h)
    registers (BeingMade now by) stands few since turn h =
        inl (away (BeingMade now by) tt stands (undescribed hash old (last numbers stands.lies).1 number refl) h)
    registers (Published now given nodes) stands few since (inl (same, at)) h =
        subst (λ (b : Bool). By answer old new numbers
        (cond b (Chosen now given stands.lives stands.falling at there.0 agrees stands.segments nodes there.1
        (is_in (Own node) nodes || nat_lt (length nodes) (max_nodes_of given.settings)))
        (None, Published now given nodes))
        ⊎ ((answer ≡ opening.OutOfMemory) × PhaseStands pattern name new numbers (Published now given nodes))) (sym (same-life now same))
        (opens-here now given stands.lives stands.falling at there.0 agrees stands.segments nodes there.1 few h)
      where
        there : IsDescribed pattern name old given number × IsOpenTo pattern name old given nodes number
        there = to-number _ numbers at stands.lies

        agrees : given ≡ agreed
        agrees = agreed-still now given same since
    registers (Published now given nodes) stands few since (inr (later, differ)) h =
        let one = unlike numbers differ stands.lies in
        inl (subst (λ (b : Bool). By answer old new numbers
        (cond b (cond (is_in (Own node) nodes || nat_lt (length nodes) (max_nodes_of given.settings))
        (Some (Ok false), Published now given (come_in (Own node) nodes))
        (Some (Err unopened.ExceedsMaxNumberOfNodes), Published now given nodes)) (None, Published now given nodes)))
        (sym (other-life now later))
        (away (Published now given nodes) few stands (undescribed hash old one.1.0.described number one.2) h))
    registers (Emptied now given by) stands few since (inl (same, at)) h =
        let there = to-number _ numbers at stands.lies in
        inl (subst (λ (b : Bool). By answer old new numbers
        (cond b (Some (Err unopened.IsMarkedForDestruction)) None, Emptied now given by)) (sym (same-life now same))
        (over now given stands.lives stands.falling at there.0 (agreed-still now given same since) stands.segments by there.1 h))
    registers (Emptied now given by) stands few since (inr (later, differ)) h =
        let one = unlike numbers differ stands.lies in
        inl (subst (λ (b : Bool). By answer old new numbers
        (cond b (Some (Err unopened.IsMarkedForDestruction)) None, Emptied now given by)) (sym (other-life now later))
        (away (Emptied now given by) tt stands (undescribed hash old one.1.0.described number one.2) h))
