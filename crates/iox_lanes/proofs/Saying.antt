-- What lanes that are built of a domain say of its publishers.
use Rattle.std.proofs.Common.{arith, ℕ, zero, suc, ◌≡◌, ◌+◌, ◌*◌, ◌<◌, ◌≤◌, ◌^◌, true, nat_lt, List, [], ◌∷◌, length, map, set, replicate}
use Rattle.std.proofs.Common.{Bool}
use Rattle.std.proofs.Common.{slice_get, slice_index, Option, None, Some, refl, sym, ◌∙◌, ap, subst, length-append}
use Rattle.std.proofs.lemmas.Bool.{cond-true, lt-ltb}
use Rattle.std.proofs.lemmas.List.{length-replicate, take-replicate}
use Rattle.std.proofs.lemmas.Nat.{mul-le}
use Rattle.std.proofs.lemmas.Option.{get_or_from_slice_get, slice_get_within}
use Rattle.iox_domain.specs.DomainValues.declared.backpressure.BackpressureDecision.{BackpressureDecision}
use Rattle.iox_domain.specs.DomainPorts.Publishers.{port_of}
use Rattle.iox_domain.specs.DomainPorts.declared.publisher_port.PublisherPort.{PublisherPort}
use Rattle.iox_domain.specs.Kept.{kept_under}
use Rattle.iox_domain.specs.declared.domain.Domain.{Domain}
use Rattle.iox_lanes_machine.specs.LanesBase.Numbers.{slot_words, words_of}
use Rattle.iox_lanes_machine.specs.LanesParties.Parties.{PublisherLaneState, with_origin}
use Rattle.iox_lanes_machine.specs.LanesParties.declared.publisher.slot_book.LoanMark.TheVariants as mark
use Rattle.iox_lanes_machine.specs.Made.{first_head, table_sizes}
use Rattle.iox_lanes_machine.specs.World.{World}
use Rattle.iox_lanes_machine.specs.declared.found.Found.TheVariants as found
use Rattle.iox_lanes_machine.specs.declared.sizes.LaneSizes.{LaneSizes}
use Rattle.iox_lanes_machine.proofs.Ends.{some_is}
use Rattle.iox_lanes_opening.specs.Deciding.{would_fail}
use Rattle.iox_lanes.specs.Built.{AreBuilt}
use Rattle.iox_lanes.specs.Holding.{IsNamed, IsNamedIf}
use Rattle.iox_lanes.specs.Laid.{slots_in}
use Rattle.iox_lanes.specs.Spelling.{Spelling}
use Rattle.iox_lanes.proofs.Each.{readers_leave}
use Rattle.iox_lanes.proofs.Moving.{behind_by, swaps_of}
use Rattle.iox_lanes.proofs.Settling.{introduced, lanes_at, said, says_if, seen_at, settle}

-- the slots of lanes whose words have numbers have numbers
pub few_slots : (sizes : LaneSizes) → 0 < sizes.publishers → words_of (table_sizes sizes) < 2 ^ 64 → sizes.slots + 1 < 2 ^ 64
few_slots sizes some small =
    let one = mul-le 1 sizes.slots sizes.publishers sizes.slots (omega (arith, some)) (omega arith) in
    let all = mul-le (sizes.publishers * sizes.slots) 1 (sizes.publishers * sizes.slots) (slot_words (table_sizes sizes)) (omega arith)
    (omega arith) in
    omega (arith, one, all, small)

-- so are all slots of a publisher counted
pub counted : {T U : Type 0} (port : PublisherPort T U) (slots : ℕ) → slots_in port ≤ slots → slots + 1 < 2 ^ 64
    → slots_in port ≡ port.sender.uses.first + port.sender.uses.size
counted port slots fit few = omega (arith, fit, few)

map_replicate : {X Y : Type 0} (f : X → Y) (count : ℕ) (x : X) → map f (replicate count x) ≡ replicate count (f x)
map_replicate f zero x = refl
map_replicate f (suc count) x = ap (λ ys. f x ∷ ys) (map_replicate f count x)

all_same : {X : Type 0} (count at : ℕ) (x y : X) → slice_get (replicate count x) at ≡ Some y → y ≡ x
all_same zero at x y there = absurd (cc there)
all_same (suc count) zero x y there = sym (some_is x y there)
all_same (suc count) (suc at) x y there = all_same count at x y there

named_head : {T U : Type 0} (sizes : LaneSizes) (place : ℕ) (port : PublisherPort T U)
    → IsNamed port (with_origin port.owner.node_id port.number (first_head sizes place))
named_head sizes place port =
    let head = first_head sizes place in
    let long : nat_lt 1 (length head) ≡ true
    = lt-ltb 1 (length head) (omega (arith, length-append (0 ∷ place ∷ 1 ∷ []) (replicate sizes.user_header_words 0))) in
    subst (IsNamed port) (sym (cond-true (nat_lt 1 (length head)) (set (set head 0 port.owner.node_id) 1 port.number) head long))
    (refl, refl)

named_all : {T U : Type 0} (sizes : LaneSizes) (place count : ℕ) (port : PublisherPort T U) (heads : List (List ℕ))
    → heads ≡ replicate count (with_origin port.owner.node_id port.number (first_head sizes place))
    → (at : ℕ) → IsNamedIf port (slice_get heads at)
named_all sizes place count port heads are at = by (slice_get heads at) refl
  where
    by : (head : Option (List ℕ)) → slice_get heads at ≡ head → IsNamedIf port head
    by None there = tt
    by (Some head) there = subst (IsNamed port)
        (sym (all_same count at (with_origin port.owner.node_id port.number (first_head sizes place)) head
        (ap (λ hs. slice_get hs at) (sym are) ∙ there))) (named_head sizes place port)

-- As many slots and loans as a publisher has, from the place on where its slots begin, headers of its node and number, and its last number.
pub record IsTold {T U : Type 0} (sizes : LaneSizes) (place : ℕ) (port : PublisherPort T U) (lane : PublisherLaneState) : Type 0 where
  pub first : lane.port.book.first ≡ place * sizes.slots
  pub slots : length lane.port.book.loans ≡ port.sender.uses.first + port.sender.uses.size
  pub fit : port.sender.uses.first + port.sender.uses.size ≤ sizes.slots
  pub most_loans : lane.port.book.most_loans ≡ port.sender.uses.most_loans
  pub named : (at : ℕ) → IsNamedIf port (slice_get lane.heads at)
  pub last : lane.last ≡ port.last_sequence

module _ {T U B D : Type 0} (decision : B → Option BackpressureDecision) (spelling : Spelling T U) (domain : Domain T U B D)
    (publishers subscribers : List ℕ) (lanes : World)
    (built : AreBuilt decision spelling domain publishers subscribers lanes) where
  abbrev pub found_at : ℕ → World
  found_at count = lanes_at decision spelling domain publishers subscribers (built.sized).sizes
      ((built.sized).are_agreed).as_many_publishers built.room count

  orders_leave : lanes.publishers ≡ (found_at (length publishers)).publishers
  orders_leave = ap (λ w. w.publishers) built.behind
      ∙ readers_leave (λ w. w.publishers ≡ (found_at (length publishers)).publishers)
      (λ m who one other is. behind_by (λ w. w.publishers ≡ (found_at (length publishers)).publishers) m (found.Swapped who one other)
      is (λ fits. swaps_of m who one other (slice_get m.subscribers who) ∙ is))
      publishers domain.state.ports.subscribers subscribers (found_at (length publishers)) (length subscribers) refl

  pub told : (place number : ℕ) (port : PublisherPort T U) (lane : PublisherLaneState) → slice_get publishers place ≡ Some number
      → port_of number domain.state.ports.publishers ≡ Some port
      → slice_get lanes.publishers place ≡ Some lane → IsTold (built.sized).sizes place port lane
  told place number port lane listed found there = record {
    first = ap (λ s. s.first) says;
    slots = ap (λ s. length s.loans) says ∙ ap length (take-replicate (slots_in port) ((built.sized).sizes).slots mark.No fit) ∙
        length-replicate (slots_in port) mark.No ∙ whole;
    fit = subst (λ n. n ≤ ((built.sized).sizes).slots) whole fit;
    most_loans = ap (λ s. s.most_loans) says;
    named = named_all (built.sized).sizes place (slots_in port) port lane.heads
        (ap (λ s. s.heads) says ∙ ap (map (with_origin port.owner.node_id port.number))
        (take-replicate (slots_in port) ((built.sized).sizes).slots (first_head (built.sized).sizes place) fit)
        ∙ map_replicate (with_origin port.owner.node_id port.number) (slots_in port) (first_head (built.sized).sizes place));
    last = ap (λ s. s.last) says;
  }
    where
      below : place < length publishers
      below = slice_get_within publishers place number listed

      number_is : slice_index publishers place ≡ number
      number_is = get_or_from_slice_get publishers place number 0 listed

      port_is : port_of (slice_index publishers place) domain.state.ports.publishers ≡ Some port
      port_is = ap (λ n. port_of n domain.state.ports.publishers) number_is ∙ found

      says : said lane ≡ said (introduced (built.sized).sizes place
          (would_fail decision (kept_under (slice_index publishers place) domain.state.publisher_handlers)) port)
      says =
          let settled = settle decision spelling domain publishers subscribers (built.sized).sizes
          ((built.sized).are_agreed).as_many_publishers built.room (length publishers) (omega arith) in
          let fails = would_fail decision (kept_under (slice_index publishers place) domain.state.publisher_handlers) in
          some_is (said lane) (said (introduced (built.sized).sizes place fails port))
          (sym (seen_at lanes place lane there) ∙ ap (λ xs. slice_get (map said xs) place) orders_leave ∙ settled.says place below ∙ ap
          (λ p. Some (says_if (built.sized).sizes place fails p)) port_is)

      fit : slots_in port ≤ ((built.sized).sizes).slots
      fit = built.room place number port listed found

      whole : slots_in port ≡ port.sender.uses.first + port.sender.uses.size
      whole = counted port ((built.sized).sizes).slots fit
          (few_slots (built.sized).sizes (omega (arith, below, ((built.sized).are_agreed).as_many_publishers)) built.small)
