-- What subscribers of lanes in turn do is recorded as the machine does it.
use Rattle.std.proofs.Common.{ℕ, suc, ◌≡◌, ◌+◌, ◌≤◌, true, List, [], ◌∷◌, ◌++◌, length}
use Rattle.std.proofs.Common.{drop-drop, slice_get, Option, None, Some, refl, sym, ◌∙◌, ap, subst, arith}
use Rattle.std.specs.Global.{Vec}
use Rattle.std.specs.Prelude.{IfOk, IfSome, MatchOption, MatchResult, Result, Ok, Err, drop}
use Rattle.std.specs.Vec.{vec_items}
use Rattle.iox_command.specs.DomainValues.declared.port_error.ReceiveError.TheVariants.{ExceedsMaxBorrows}
use Rattle.iox_command.specs.NegotiateBase.DescribeBase.declared.message_type.MessageTypeDetails.{MessageTypeDetails}
use Rattle.iox_command.specs.declared.command.Command.TheVariants as command
use Rattle.iox_command.specs.declared.refusal.Refusal.TheVariants as refusal
use Rattle.iox_command.specs.declared.reply.Reply.TheVariants as reply
use Rattle.iox_lanes_machine.specs.LanesBase.Table.{TableWords}
use Rattle.iox_lanes_machine.specs.LanesBase.declared.calls.subscriber.Receipt.{Receipt}
use Rattle.iox_lanes_machine.specs.LanesBase.declared.calls.subscriber.Receipt.TheVariants as receipt
use Rattle.iox_lanes_machine.specs.LanesParties.Parties.{SubscriberLaneState}
use Rattle.iox_lanes_machine.specs.LanesParties.declared.call.Answer.TheVariants as answer
use Rattle.iox_lanes_machine.specs.LanesParties.declared.call.Call.TheVariants as call
use Rattle.iox_lanes_machine.specs.LanesParties.declared.call.Party.TheVariants.{Subscriber}
use Rattle.iox_lanes_machine.specs.World.{World}
use Rattle.iox_lanes_laws.specs.Messages.{payload_held}
use Rattle.iox_lanes_laws.proofs.Ends.{subscriber_there}
use Rattle.iox_lanes_service.specs.InTurn.{Turns, turned}
use Rattle.iox_lanes_service.specs.Laws.{AreTaken, IsLaneStep, payload_read, publisher_over, received_as, with_received}
use Rattle.iox_lanes_service.specs.Naming.{LaneSample}
use Rattle.iox_lanes_service.specs.Turning.{AreTurns, NumbersLow, TurnEnds, TurnsStand}
use Rattle.iox_lanes_service.specs.Turning.{lane_route, named_so, sample_taken, taken_as, turn_choices}
use Rattle.iox_lanes_service.specs.declared.number.TurnNumber.{TurnNumber}
use Rattle.iox_lanes_service.proofs.Chaining.{none_above, sizes_stay, vector_of}
use Rattle.iox_lanes_service.proofs.Filling.{written_beside}
use Rattle.iox_lanes_service.proofs.Moving.{turn_moves}
use Rattle.iox_lanes_service.proofs.Reading.{reads_are_steps}
use Rattle.iox_lanes_service.proofs.Receiving.{receives_are_steps}
use Rattle.iox_lanes_service.proofs.Releasing.{releases_are_steps}
use Rattle.iox_lanes_service.proofs.Tables.{appended_entry, left_entry}
use Rattle.iox_lanes_service.proofs.Turns.{NextStands, answer_is, at_appended, ends_well, goes_on}
use Rattle.iox_machine.specs.State.{State}
use Rattle.iox_machine.specs.Table.{at, removed}

-- values of a message, whose value is these words
pub one_value : List ℕ → Vec (List ℕ)
one_value words = (vector_of (words ∷ []) (omega arith)).0

pub one_value_is : (words : List ℕ) → vec_items (one_value words) ≡ words ∷ []
unfolding one_value
one_value_is words = (vector_of (words ∷ []) (omega arith)).1

-- the record where a subscriber was asked to receive, and this was its answer, from these lanes
abbrev pub received : ℕ → Receipt → World → Turns → Turns
received place (receipt.Taken at_place slot) m turns =
    sample_taken (publisher_over m.links (lane_route at_place (slice_get m.subscribers place))) place slot
    (one_value (payload_held m.table slot)) turns
received place receipt.Nothing m turns = turned (command.Receive (suc place)) reply.NothingWaits turns
received place receipt.ExceedsMaxBorrows m turns =
    turned (command.Receive (suc place)) (reply.Refused (refusal.Receive ExceedsMaxBorrows)) turns

-- the values of what was received
abbrev values_for : TableWords → Receipt → Vec (List ℕ)
values_for table (receipt.Taken at_place slot) = one_value (payload_held table slot)
values_for table receipt.Nothing = one_value []
values_for table receipt.ExceedsMaxBorrows = one_value []

values_taken_for : (table : TableWords) (given : Receipt) → AreTaken (λ words. words) table given (values_for table given)
values_taken_for table (receipt.Taken at_place slot) = one_value_is (payload_held table slot)
values_taken_for table receipt.Nothing = tt
values_taken_for table receipt.ExceedsMaxBorrows = tt

received_same : (one other : Receipt) → answer.Received one ≡ answer.Received other → one ≡ other
received_same one other e = cc e

-- a receive is told as its subscriber answered
pub received_told : (place : ℕ) (given : Receipt) (number : TurnNumber) (m : World) (turns : Turns)
    → MatchResult (taken_as place given number)
    (λ came. MatchOption came (received place given m turns ≡ turned (command.Receive (suc place)) reply.NothingWaits turns)
    (λ sample. (publisher : ℕ) × (values : Vec (List ℕ))
    × (received place given m turns ≡ sample_taken publisher place sample.slot values turns)))
    (λ why. received place given m turns ≡ turned (command.Receive (suc place)) (reply.Refused (refusal.Receive why)) turns)
received_told place (receipt.Taken at_place slot) number m turns = (
  publisher_over m.links (lane_route at_place (slice_get m.subscribers place)),
  one_value (payload_held m.table slot),
  refl,
)
received_told place receipt.Nothing number m turns = refl
received_told place receipt.ExceedsMaxBorrows number m turns = refl

pub received_numbered : (place : ℕ) (given : Receipt) (number : TurnNumber) (m : World) (turns : Turns) → NumbersLow turns
    → number.value ≡ turns.samples + 1 → IfOk (taken_as place given number) (λ came. IfSome came (λ sample.
    (sample.subscriber ≡ place) × (sample.number.value ≡ turns.samples + 1)
    × ((publisher : ℕ) × (at sample.number.value (received place given m turns).held
    ≡ Some (record { publisher = publisher; subscriber = place; slot = sample.slot })))))
received_numbered place (receipt.Taken at_place slot) number m turns low is =
    let publisher : ℕ = publisher_over m.links (lane_route at_place (slice_get m.subscribers place)) in
    let one : LaneSample = record { publisher = publisher; subscriber = place; slot = slot } in (
      refl,
      is,
      (
        publisher,
        subst (λ (x : ℕ). at x (turns.held ++ (turns.samples + 1, one) ∷ []) ≡ Some one) (sym is)
            (at_appended (turns.samples + 1) one turns.held
            (none_above turns.held turns.samples (turns.samples + 1) low.samples (omega arith))),
      ),
    )
received_numbered place receipt.Nothing number m turns low is = tt
received_numbered place receipt.ExceedsMaxBorrows number m turns low is = tt

module _ (turns : Turns) (m n : World) (place : ℕ) where
  received_sizes : (given : Receipt) → (received place given m turns).sizes ≡ turns.sizes
  received_sizes (receipt.Taken at_place slot) = refl
  received_sizes receipt.Nothing = refl
  received_sizes receipt.ExceedsMaxBorrows = refl

  received_still : (given : Receipt) → ((received place given m turns).stuck ≡ turns.stuck)
      × ((received place given m turns).ran_out ≡ turns.ran_out)
  received_still (receipt.Taken at_place slot) = (refl, refl)
  received_still receipt.Nothing = (refl, refl)
  received_still receipt.ExceedsMaxBorrows = (refl, refl)

  received_lent : (given : Receipt) → (received place given m turns).lent ≡ turns.lent
  received_lent (receipt.Taken at_place slot) = refl
  received_lent receipt.Nothing = refl
  received_lent receipt.ExceedsMaxBorrows = refl

  received_written : (given : Receipt) → (received place given m turns).written ≡ turns.written
  received_written (receipt.Taken at_place slot) = refl
  received_written receipt.Nothing = refl
  received_written receipt.ExceedsMaxBorrows = refl

  received_loans : (given : Receipt) → (received place given m turns).loans ≡ turns.loans
  received_loans (receipt.Taken at_place slot) = refl
  received_loans receipt.Nothing = refl
  received_loans receipt.ExceedsMaxBorrows = refl

  received_asked : (given : Receipt) → (received place given m turns).asked ≡ turns.asked ++ command.Receive (suc place) ∷ []
  received_asked (receipt.Taken at_place slot) = refl
  received_asked receipt.Nothing = refl
  received_asked receipt.ExceedsMaxBorrows = refl

  received_answers : (given : Receipt) → (received place given m turns).answers
      ≡ turns.answers ++ received_as (turns.samples + 1) (values_for m.table given) given ∷ []
  received_answers (receipt.Taken at_place slot) = refl
  received_answers receipt.Nothing = refl
  received_answers receipt.ExceedsMaxBorrows = refl

  received_next : (given : Receipt) (types : MessageTypeDetails) (buffer : ℕ) (state : State (List ℕ)) (s : TurnsStand turns m state)
      (lane : SubscriberLaneState) → slice_get m.subscribers place ≡ Some lane
      → IsLaneStep turn_choices (λ words. words) types buffer (command.Receive (suc place))
      (received_as (turns.samples + 1) (values_for m.table given) given) state s.service (named_so s.message) turns.lent
      (with_received (turns.samples + 1) place m.links lane given turns.held) n
      → NextStands types buffer (received place given m turns) n (command.Receive (suc place))
      (received_as (turns.samples + 1) (values_for m.table given) given) state s.service
  received_next (receipt.Taken at_place slot) types buffer state s lane found step = record {
    message = s.message;
    step = subst (λ (p : ℕ). IsLaneStep turn_choices (λ words. words) types buffer (command.Receive (suc place))
        (reply.Received (turns.samples + 1) (one_value (payload_held m.table slot))) state s.service (named_so s.message) turns.lent
        (turns.held ++ (turns.samples + 1, record { publisher = p; subscriber = place; slot = slot }) ∷ []) n)
        (sym (ap (λ (o : Option SubscriberLaneState). publisher_over m.links (lane_route at_place o)) found)) step;
    made = record {
      loans = s.made.loans;
      samples = appended_entry (
        turns.samples + 1,
        record {
          publisher = publisher_over m.links (lane_route at_place (slice_get m.subscribers place));
          subscriber = place;
          slot = slot;
        },
      ) turns.held (λ entry. entry.0 ≤ state.made.samples + 1)
          (λ index entry is. let low = s.made.samples index entry is in omega (arith, low)) (omega (arith, s.samples));
    };
    loans = s.loans;
    samples = ap (λ (x : ℕ). x + 1) s.samples;
  }
  received_next receipt.Nothing types buffer state s lane found step = record {
    message = s.message;
    step = step;
    made = record { loans = s.made.loans; samples = s.made.samples };
    loans = s.loans;
    samples = s.samples;
  }
  received_next receipt.ExceedsMaxBorrows types buffer state s lane found step = record {
    message = s.message;
    step = step;
    made = record { loans = s.made.loans; samples = s.made.samples };
    loans = s.loans;
    samples = s.samples;
  }

  received_low : (given : Receipt) → NumbersLow turns → NumbersLow (received place given m turns)
  received_low (receipt.Taken at_place slot) low = record {
    loans = low.loans;
    samples = appended_entry (
      turns.samples + 1,
      record {
        publisher = publisher_over m.links (lane_route at_place (slice_get m.subscribers place));
        subscriber = place;
        slot = slot;
      },
    ) turns.held (λ entry. entry.0 ≤ turns.samples + 1)
        (λ index entry is. let most = low.samples index entry is in omega (arith, most)) (omega arith);
  }
  received_low receipt.Nothing low = record { loans = low.loans; samples = low.samples }
  received_low receipt.ExceedsMaxBorrows low = record { loans = low.loans; samples = low.samples }

  pub receive_recorded : (given : Receipt) → AreTurns None turns m
      → TurnEnds m (Subscriber place) call.Receive (answer.Received given) n → AreTurns None (received place given m turns) n
  receive_recorded given a t =
      let lane = subscriber_there m place call.Receive (slice_get m.subscribers place) refl t.in_turn.begins.0 in
      goes_on turns (received place given m turns) m n a (ends_well turns.sizes m n (Subscriber place) call.Receive t.in_turn (a.goes refl))
      (command.Receive (suc place)) (received_as (turns.samples + 1) (values_for m.table given) given) (received_still given)
      (received_sizes given)
      (received_asked given) (received_answers given) (received_low given a.low)
      (written_beside turns (received place given m turns) m n place call.Receive t.in_turn (received_lent given) (received_written given)
      (received_loans given) (a.written refl))
      (turn_moves turns.sizes m (Subscriber place) call.Receive n (a.goes refl) t.in_turn)
      (λ types buffer state s.
      let fresh = none_above turns.held state.made.samples (state.made.samples + 1) s.made.samples (omega arith) in
      let law = receives_are_steps turn_choices (λ words. words) types buffer (named_so s.message) turns.lent turns.held m n s.service
      state place lane.0 s.stands t.in_turn lane.1 fresh in
      let same : law.0 ≡ given = received_same law.0 given
      (answer_is m n (Subscriber place) call.Receive (answer.Received law.0) (answer.Received given) law.1 t) in
      received_next given types buffer state s lane.0 lane.1
      (subst (λ (g : Receipt). IsLaneStep turn_choices (λ words. words) types buffer (command.Receive (suc place))
      (received_as (turns.samples + 1) (values_for m.table g) g) state s.service (named_so s.message) turns.lent
      (with_received (turns.samples + 1) place m.links lane.0 g turns.held) n) same
      (subst (λ (x : ℕ). IsLaneStep turn_choices (λ words. words) types buffer (command.Receive (suc place))
      (received_as (x + 1) (values_for m.table law.0) law.0) state s.service (named_so s.message) turns.lent
      (with_received (x + 1) place m.links lane.0 law.0 turns.held) n) s.samples
      (law.2 (values_for m.table law.0) (values_taken_for m.table law.0)))))

-- ---- a sample that goes by a number

-- a sample is released: it goes by no number then
abbrev pub without_sample : ℕ → Turns → Turns
without_sample number turns = record (turned (command.Release number) reply.Done turns) { held = removed number turns.held }

read_same : (one other : ℕ) → answer.Read one ≡ answer.Read other → one ≡ other
read_same one other e = cc e

module _ (turns : Turns) (m n : World) (number publisher place slot : ℕ) (a : AreTurns None turns m)
    (there : at number turns.held ≡ Some (record { publisher = publisher; subscriber = place; slot = slot })) where
  pub release_recorded : TurnEnds m (Subscriber place) (call.Release slot) (answer.Released true) n
      → AreTurns None (without_sample number turns) n
  release_recorded t = goes_on turns (without_sample number turns) m n a
      (ends_well turns.sizes m n (Subscriber place) (call.Release slot) t.in_turn (a.goes refl)) (command.Release number) reply.Done
      (refl, refl) refl refl refl
      (record {
        loans = a.low.loans;
        samples = λ index entry is. let was = left_entry number turns.held index entry is in a.low.samples was.0 entry was.1;
      })
      (written_beside turns (without_sample number turns) m n place (call.Release slot) t.in_turn refl refl refl (a.written refl))
      (turn_moves turns.sizes m (Subscriber place) (call.Release slot) n (a.goes refl) t.in_turn)
      (λ types buffer state s.
      let law = releases_are_steps turn_choices (λ words. words) types buffer (named_so s.message) turns.lent turns.held m n s.service
      state number (record { publisher = publisher; subscriber = place; slot = slot }) s.stands there t.in_turn in
      record {
        message = s.message;
        step = law.1;
        made = record {
          loans = s.made.loans;
          samples = λ index entry is. let was = left_entry number turns.held index entry is in s.made.samples was.0 entry was.1;
        };
        loans = s.loans;
        samples = s.samples;
      })

  pub read_recorded : (from : ℕ) (words : List ℕ) → words ≡ drop n.table.sizes.user_header_words (drop 3 (drop from n.read))
      → TurnEnds m (Subscriber place) (call.Read slot) (answer.Read from) n
      → AreTurns None (turned (command.Read number) (reply.Values (one_value words)) turns) n
  read_recorded from words are t = goes_on turns (turned (command.Read number) (reply.Values (one_value words)) turns) m n a
      (ends_well turns.sizes m n (Subscriber place) (call.Read slot) t.in_turn (a.goes refl)) (command.Read number) (reply.Values
      (one_value words))
      (refl, refl) refl refl refl (record { loans = a.low.loans; samples = a.low.samples })
      (written_beside turns (turned (command.Read number) (reply.Values (one_value words)) turns) m n place (call.Read slot) t.in_turn refl
      refl refl (a.written refl))
      (turn_moves turns.sizes m (Subscriber place) (call.Read slot) n (a.goes refl) t.in_turn)
      (λ types buffer state s.
      let law = reads_are_steps turn_choices (λ words. words) types buffer (named_so s.message) turns.lent turns.held m n s.service
      state number (record { publisher = publisher; subscriber = place; slot = slot }) s.stands there t.in_turn in
      let same : length m.read ≡ from = read_same (length m.read) from
      (answer_is m n (Subscriber place) (call.Read slot) (answer.Read (length m.read)) (answer.Read from) law.0 t) in
      let read : words ≡ payload_read m n =
      are ∙ ap (λ sizes. drop sizes.user_header_words (drop 3 (drop from n.read)))
      (sizes_stay m n (Subscriber place) (call.Read slot) t.in_turn)
      ∙ ap (λ (x : ℕ). drop m.table.sizes.user_header_words (drop 3 (drop x n.read))) (sym same)
      ∙ drop-drop m.table.sizes.user_header_words 3 (drop (length m.read) n.read) in
      record {
        message = s.message;
        step = law.1 (one_value words) (one_value_is words ∙ ap (λ (xs : List ℕ). xs ∷ []) read);
        made = record { loans = s.made.loans; samples = s.made.samples };
        loans = s.loans;
        samples = s.samples;
      })

-- a vector of the words that were read has the value that the machine answers
pub read_told : {E : Type 0} (words : List ℕ) (copied : Result (Vec ℕ) E) → IfOk copied (λ made. made.items ≡ words)
    → IfOk copied (λ made. vec_items (one_value words) ≡ made.items ∷ [])
read_told words (Ok made) is = one_value_is words ∙ ap (λ (xs : List ℕ). xs ∷ []) (sym is)
read_told words (Err why) is = tt
