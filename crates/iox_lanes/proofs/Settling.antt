-- What lanes say of the publishers of a domain that they are built of.
use Rattle.std.proofs.Common.{arith, ℕ, zero, suc, ◌≡◌, ◌<◌, ◌≤◌, ◌==◌, ◌&&◌, Bool, true, false, nat_le, List, [], ◌∷◌, length, map, set}
use Rattle.std.proofs.Common.{replicate, slice_get, slice_index, Option, None, Some, option_map, refl, sym, ◌∙◌, ap, subst, inl, inr}
use Rattle.std.proofs.lemmas.Bool.{le-leb}
use Rattle.std.proofs.lemmas.Bool.Decides.{eqb_tells}
use Rattle.std.proofs.lemmas.List.{length-replicate}
use Rattle.std.proofs.lemmas.Option.{slice_get-map, slice_get-get_or}
use Rattle.iox_domain.specs.DomainValues.declared.backpressure.BackpressureDecision.{BackpressureDecision}
use Rattle.iox_domain.specs.DomainPorts.Messages.{Message}
use Rattle.iox_domain.specs.DomainPorts.Publishers.{port_of}
use Rattle.iox_domain.specs.DomainPorts.declared.publisher_port.PublisherPort.{PublisherPort}
use Rattle.iox_domain.specs.DomainPorts.declared.subscriber_port.SubscriberPort.{SubscriberPort}
use Rattle.iox_domain.specs.Kept.{kept_under}
use Rattle.iox_domain.specs.Subscribers.{subscriber_of}
use Rattle.iox_domain.specs.declared.domain.Domain.{Domain}
use Rattle.iox_lanes_machine.specs.LanesParties.Parties.{PublisherLaneState, lane_named, lane_resized}
use Rattle.iox_lanes_machine.specs.LanesParties.PublisherKeeping.{are_unused}
use Rattle.iox_lanes_machine.specs.LanesParties.declared.publisher.slot_book.LoanMark.{LoanMark}
use Rattle.iox_lanes_machine.specs.Findings.{finds, is_there, named_of, resized_of, resizes_of}
use Rattle.iox_lanes_machine.specs.Made.{publisher_at, start}
use Rattle.iox_lanes_machine.specs.World.{World}
use Rattle.iox_lanes_machine.specs.declared.found.Found.{Found}
use Rattle.iox_lanes_machine.specs.declared.found.Found.TheVariants as found
use Rattle.iox_lanes_machine.specs.declared.sizes.LaneSizes.{LaneSizes}
use Rattle.iox_lanes_machine.proofs.FoundKeptWhole.{found_moments}
use Rattle.iox_lanes_machine.proofs.Start.{listed_at}
use Rattle.iox_lanes_opening.specs.Deciding.{would_fail}
use Rattle.iox_lanes.specs.Behind.{behind_findings, behind_finding}
use Rattle.iox_lanes.specs.Laid.{first_slot, flat_listed, history_findings, link_findings, message_findings, messages_behind}
use Rattle.iox_lanes.specs.Laid.{publisher_behind, publishers_behind, sender_behind, slot_in, slots_in}
use Rattle.iox_lanes.specs.Built.{HaveSlots}
use Rattle.iox_lanes.specs.Spelling.{Spelling}
use Rattle.iox_lanes.specs.Tied.{tie_for}
use Rattle.iox_lanes.proofs.Each.{each_leaves, each_of, each_word, Each}
use Rattle.iox_lanes.proofs.Moving.{Moves, behind_by, behind_fits, others_same, seen_same, set_other, who_of}

-- What lanes say of a publisher that no message changes: where its slots begin, how many loans may be out, which slots are out, and the
-- headers of its messages.
pub record LaneSays : Type 0 where
  pub first : ℕ
  pub most_loans : ℕ
  pub loans : List LoanMark
  pub heads : List (List ℕ)
  pub last : Option ℕ

abbrev pub said : PublisherLaneState → LaneSays
said lane = record {
  first = lane.port.book.first;
  most_loans = lane.port.book.most_loans;
  loans = lane.port.book.loans;
  heads = lane.heads;
  last = lane.last;
}

-- a publisher as it was made, and told its slots, loans, node and number
abbrev pub introduced : {T U : Type 0} → LaneSizes → ℕ → Bool → PublisherPort T U → PublisherLaneState
introduced sizes place fails port = lane_named port.owner.node_id port.number fails port.last_sequence
    (lane_resized (slots_in port) port.sender.uses.most_loans (publisher_at sizes place))

-- what a finding is that is found of a message of the publisher at a place
abbrev pub IsOfMessage : ℕ → Found → Type 0
IsOfMessage who (found.Waiting publisher place slot) = publisher ≡ who
IsOfMessage who (found.GivenBack publisher place slot) = ⊥
IsOfMessage who (found.Newest publisher slot) = publisher ≡ who
IsOfMessage who (found.Held slot word value) = Unit {0}
IsOfMessage who (found.Buffer publisher place messages) = publisher ≡ who
IsOfMessage who (found.Slots publisher slots most_loans) = ⊥
IsOfMessage who (found.Sender publisher node_id publisher_id fails last) = ⊥
IsOfMessage who (found.Swapped subscriber one other) = ⊥

-- it leaves what lanes say, and each other publisher whole
pub record StaySaid (who : ℕ) (m n : World) : Type 0 where
  pub moments : n.moments ≡ m.moments
  pub says : map said n.publishers ≡ map said m.publishers
  pub others : (place : ℕ) → (who ≡ place → ⊥) → slice_get n.publishers place ≡ slice_get m.publishers place

said_by : (who : ℕ) (f : Found) (lane after : PublisherLaneState) → IsOfMessage who f → Moves f lane after → said after ≡ said lane
said_by who (found.Waiting publisher place slot) lane after of_it moves = ap said moves
said_by who (found.GivenBack publisher place slot) lane after of_it moves = absurd of_it
said_by who (found.Newest publisher slot) lane after of_it moves = ap said moves
said_by who (found.Held slot word value) lane after of_it moves = absurd moves
said_by who (found.Buffer publisher place messages) lane after of_it moves = ap said moves.1
said_by who (found.Slots publisher slots most_loans) lane after of_it moves = absurd of_it
said_by who (found.Sender publisher node_id publisher_id fails last) lane after of_it moves = absurd of_it
said_by who (found.Swapped subscriber one other) lane after of_it moves = absurd of_it

about : (who : ℕ) (f : Found) (lane after : PublisherLaneState) → IsOfMessage who f → Moves f lane after → who_of f ≡ who
about who (found.Waiting publisher place slot) lane after of_it moves = of_it
about who (found.GivenBack publisher place slot) lane after of_it moves = absurd of_it
about who (found.Newest publisher slot) lane after of_it moves = of_it
about who (found.Held slot word value) lane after of_it moves = absurd moves
about who (found.Buffer publisher place messages) lane after of_it moves = of_it
about who (found.Slots publisher slots most_loans) lane after of_it moves = absurd of_it
about who (found.Sender publisher node_id publisher_id fails last) lane after of_it moves = absurd of_it
about who (found.Swapped subscriber one other) lane after of_it moves = absurd of_it

stay_on : (who : ℕ) (m n : World) (f : Found) → IsOfMessage who f → StaySaid who m n → StaySaid who m (behind_finding n f)
stay_on who m n f of_it stay = behind_by (StaySaid who m) n f stay (λ fits. record {
  moments = found_moments n f ∙ stay.moments;
  says = seen_same said n f (λ lane after moves. said_by who f lane after of_it moves) ∙ stay.says;
  others = λ place apart. others_same n f place (λ lane after moves same. apart (sym (about who f lane after of_it moves) ∙ same)) ∙
      stay.others place apart;
})

module _ {T U : Type 0} (spelling : Spelling T U) (place first : ℕ) (port : PublisherPort T U) where
  words_of_message : (message : Message T U)
      → Each (IsOfMessage place) (message_findings spelling first port message)
  words_of_message message =
      each_word spelling (IsOfMessage place) (slot_in first message.slot)
      port.owner.node_id port.number message.elements (message.sequence, message.user_header) message.values tt tt tt
      (λ word below. tt) (λ word below value there. tt)

  -- the messages of a publisher leave what lanes say
  pub messages_stay : (readers : List (ℕ × SubscriberPort)) (subscribers : List ℕ) (m : World)
      → StaySaid place m (messages_behind spelling readers subscribers place port first m)
  messages_stay readers subscribers m =
      let tie : ℕ → ℕ = λ other. tie_for port (subscriber_of (slice_index subscribers other) readers) in
      let all = each_of spelling (IsOfMessage place) place first port tie
      (length subscribers) (λ at message there. words_of_message message)
      (λ other below at message there. words_of_message message) (λ slot. refl) (λ other slot. refl) (λ other messages. refl) in
      let kept = behind_findings m (history_findings spelling place first port port.sender.uses.history) in
      each_leaves (IsOfMessage place) (StaySaid place m) (λ n f of_it stay. stay_on place m n f of_it stay)
      (flat_listed (λ other. link_findings spelling place other first port (tie other)) (length subscribers)) kept all.1
      (each_leaves (IsOfMessage place) (StaySaid place m) (λ n f of_it stay. stay_on place m n f of_it stay)
      (history_findings spelling place first port port.sender.uses.history) m all.0
      (record { moments = refl; says = refl; others = λ other apart. refl }))

-- lanes after a publisher's slots, loans, node and number
pub record Introduced {T U : Type 0} (sizes : LaneSizes) (m : World) (place : ℕ) (fails : Bool) (port : PublisherPort T U) (n : World) :
    Type 0 where
  pub moments : n.moments ≡ 0
  pub table : n.table ≡ m.table
  pub here : slice_get n.publishers place ≡ Some (introduced sizes place fails port)
  pub others : (other : ℕ) → (place ≡ other → ⊥) → slice_get n.publishers other ≡ slice_get m.publishers other

both : (a b : Bool) → a ≡ true → b ≡ true → (a && b) ≡ true
both true b one other = other
both false b one other = absurd (cc one)

unused_yet : (count : ℕ) → are_unused (replicate count 0) ≡ true
unused_yet zero = refl
unused_yet (suc count) = unused_yet count

pub set_there : {X : Type 0} (xs : List X) (at : ℕ) (old x : X) → slice_get xs at ≡ Some old → slice_get (set xs at x) at ≡ Some x
set_there [] at old x there = absurd (cc there)
set_there (y ∷ ys) zero old x there = refl
set_there (y ∷ ys) (suc at) old x there = set_there ys at old x there

pub introduces : {T U : Type 0} (sizes : LaneSizes) (m : World) (place : ℕ) (fails : Bool) (port : PublisherPort T U) → m.moments ≡ 0
    → slice_get m.publishers place ≡ Some (publisher_at sizes place)
    → slots_in port ≤ sizes.slots → Introduced sizes m place fails port (sender_behind m place fails port)
introduces {T} {U} sizes m place fails port fresh there room = subst (Introduced sizes m place fails port) (sym whole) (record {
  moments = fresh;
  table = refl;
  here = set_there sized.publishers place lane (introduced sizes place fails port) stands;
  others = λ other apart. set_other sized.publishers place other (introduced sizes place fails port) apart ∙ set_other m.publishers
      place other lane apart;
})
  where
    lane : PublisherLaneState
    lane = lane_resized (slots_in port) port.sender.uses.most_loans (publisher_at sizes place)

    sized : World
    sized = record m { publishers = set m.publishers place lane }

    named : World
    named = record sized { publishers = set sized.publishers place (introduced sizes place fails port) }

    stands : slice_get sized.publishers place ≡ Some lane
    stands = set_there m.publishers place (publisher_at sizes place) lane there

    slots : Found
    slots = found.Slots place (slots_in port) port.sender.uses.most_loans

    sender : Found
    sender = found.Sender place port.owner.node_id port.number fails port.last_sequence

    zeros : List ℕ
    zeros = replicate sizes.slots 0

    few : slots_in port ≤ length zeros
    few = omega (arith, room, length-replicate sizes.slots zero)

    resizes : finds m slots ≡ true
    resizes = both (m.moments == 0) (resizes_of (slots_in port) (slice_get m.publishers place)) (ap (λ (n : ℕ). n == 0) fresh)
        (ap (resizes_of (slots_in port)) there ∙ both (nat_le (slots_in port) (length zeros)) (are_unused zeros)
        (le-leb (slots_in port) (length zeros) few) (unused_yet sizes.slots))

    names : finds sized sender ≡ true
    names = both (sized.moments == 0) (is_there (slice_get sized.publishers place)) (ap (λ (n : ℕ). n == 0) fresh) (ap is_there stands)

    whole : sender_behind m place fails port ≡ named
    whole = ap (λ w. behind_finding w sender)
        (behind_fits m slots resizes ∙ ap (resized_of m place (slots_in port) port.sender.uses.most_loans) there)
        ∙ behind_fits sized sender names ∙ ap (named_of sized place port.owner.node_id port.number fails port.last_sequence) stands

pub seen_at : (m : World) (place : ℕ) (lane : PublisherLaneState) → slice_get m.publishers place ≡ Some lane
    → slice_get (map said m.publishers) place ≡ Some (said lane)
seen_at m place lane there = slice_get-map said m.publishers place ∙ ap (option_map said) there

-- what lanes say of a publisher, if it is in the domain
abbrev pub says_if : {T U : Type 0} → LaneSizes → ℕ → Bool → Option (PublisherPort T U) → LaneSays
says_if sizes place fails None = said (publisher_at sizes place)
says_if sizes place fails (Some port) = said (introduced sizes place fails port)

module _ {T U B D : Type 0} (decision : B → Option BackpressureDecision) (spelling : Spelling T U) (domain : Domain T U B D)
    (publishers subscribers : List ℕ) (sizes : LaneSizes) (as_many : sizes.publishers ≡ length publishers)
    (room : HaveSlots domain.state.ports.publishers publishers sizes.slots) where
  abbrev ports : List (ℕ × PublisherPort T U)
  ports = domain.state.ports.publishers

  abbrev fails_at : ℕ → Bool
  fails_at place = would_fail decision (kept_under (slice_index publishers place) domain.state.publisher_handlers)

  -- lanes after the first n publishers
  abbrev pub lanes_at : ℕ → World
  lanes_at count = publishers_behind decision spelling domain publishers subscribers (start sizes) count

  -- what they say of these, and that each other publisher is as it was made
  pub record AreSettled (m : World) (count : ℕ) : Type 0 where
    pub moments : m.moments ≡ 0
    pub says : (place : ℕ) → place < count
        → slice_get (map said m.publishers) place
        ≡ Some (says_if sizes place (fails_at place) (port_of (slice_index publishers place) ports))
    pub rest : (place : ℕ) → count ≤ place → slice_get m.publishers place ≡ slice_get (start sizes).publishers place

  made_at : (count : ℕ) → count < length publishers → slice_get (start sizes).publishers count ≡ Some (publisher_at sizes count)
  made_at count below = listed_at (publisher_at sizes) sizes.publishers count (omega (arith, below, as_many))

  fits_in : (count : ℕ) (port : PublisherPort T U) → count < length publishers
      → port_of (slice_index publishers count) ports ≡ Some port → slots_in port ≤ sizes.slots
  fits_in count port below is = room count (slice_index publishers count) port (slice_get-get_or publishers count 0 below) is

  settle_one : (m : World) (count : ℕ) (port : Option (PublisherPort T U)) → count < length publishers
      → port_of (slice_index publishers count) ports ≡ port → AreSettled m count
      → AreSettled (publisher_behind spelling domain.state.ports.subscribers subscribers m count (fails_at count) port) (suc count)
  settle_one m count None below is sofar = record {
    moments = sofar.moments;
    says = λ place within. elim (eqb_tells place count) [
      | inl same ↦ subst (λ (n : ℕ). slice_get (map said m.publishers) n
          ≡ Some (says_if sizes n (fails_at n) (port_of (slice_index publishers n) ports))) (sym same.1)
          (seen_at m count (publisher_at sizes count) (sofar.rest count (omega arith) ∙ made_at count below) ∙ ap
          (λ p. Some (says_if sizes count (fails_at count) p)) (sym is))
      | inr apart ↦ sofar.says place (omega (arith, within, apart.1))
    ];
    rest = λ place beyond. sofar.rest place (omega (arith, beyond));
  }
  settle_one m count (Some port) below is sofar =
      let there = sofar.rest count (omega arith) ∙ made_at count below in
      let begun = sender_behind m count (fails_at count) port in
      let intro = introduces sizes m count (fails_at count) port sofar.moments there (fits_in count port below is) in
      let stay = messages_stay spelling count
      (first_slot (slice_get begun.publishers count)) port domain.state.ports.subscribers subscribers begun in
      let after = publisher_behind spelling domain.state.ports.subscribers subscribers m count (fails_at count) (Some port) in
      record {
        moments = stay.moments ∙ intro.moments;
        says = λ place within. elim (eqb_tells place count) [
          | inl same ↦ subst (λ (n : ℕ). slice_get (map said after.publishers) n
              ≡ Some (says_if sizes n (fails_at n) (port_of (slice_index publishers n) ports))) (sym same.1)
              (ap (λ xs. slice_get xs count) stay.says ∙ seen_at begun count (introduced sizes count (fails_at count) port) intro.here ∙
              ap (λ p. Some (says_if sizes count (fails_at count) p)) (sym is))
          | inr apart ↦
              ap (λ xs. slice_get xs place) stay.says ∙ slice_get-map said begun.publishers place ∙ ap (option_map said)
              (intro.others place (λ same. apart.1 (sym same)))
              ∙ sym (slice_get-map said m.publishers place) ∙ sofar.says place (omega (arith, within, apart.1))
        ];
        rest = λ place beyond.
            let apart : count ≡ place → ⊥ = λ same. absurd (omega (arith, beyond, same)) in
            stay.others place apart ∙ intro.others place apart ∙ sofar.rest place (omega (arith, beyond));
      }

  pub settle : (count : ℕ) → count ≤ length publishers → AreSettled (lanes_at count) count
  settle zero few = record { moments = refl; says = λ place below. absurd (omega (arith, below)); rest = λ place beyond. refl }
  settle (suc count) few =
      settle_one (lanes_at count) count (port_of (slice_index publishers count) ports) (omega (arith, few)) refl
      (settle count (omega (arith, few)))
