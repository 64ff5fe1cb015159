-- What lanes in turn record is a run of the machine.
use Rattle.std.proofs.Common.{ℕ, zero, suc, ◌≡◌, ◌+◌, ◌*◌, ◌<◌, ◌≤◌, ◌^◌, ◌==◌, cond, Bool, true, false, List, [], ◌∷◌, ◌++◌, length}
use Rattle.std.proofs.Common.{get_or, slice_get, Option, None, Some, is_some, refl, sym, ◌∙◌, ap, subst, inl, inr, arith, length-append}
use Rattle.std.specs.Global.{Vec}
use Rattle.std.specs.Prelude.{IfOk, MatchResult, find, option_map}
use Rattle.std.proofs.lemmas.Bool.{eq-eqb}
use Rattle.std.proofs.lemmas.Bool.Decides.{eqb_tells}
use Rattle.iox_command.specs.NegotiateBase.DescribeBase.declared.message_type.MessageTypeDetails.{MessageTypeDetails}
use Rattle.iox_command.specs.declared.command.Command.{Command}
use Rattle.iox_command.specs.declared.command.Command.TheVariants as command
use Rattle.iox_command.specs.declared.refusal.Refusal.TheVariants as refusal
use Rattle.iox_command.specs.declared.reply.Reply.{Reply}
use Rattle.iox_command.specs.declared.reply.Reply.TheVariants as reply
use Rattle.iox_lanes_machine.specs.LanesBase.Publishing.{publisher_is_idle}
use Rattle.iox_lanes_machine.specs.LanesBase.Subscribing.{subscriber_is_idle}
use Rattle.iox_lanes_machine.specs.LanesBase.declared.calls.route.Route.{Route}
use Rattle.iox_lanes_machine.specs.LanesParties.Parties.{PublisherLaneState, SubscriberLaneState}
use Rattle.iox_lanes_machine.specs.LanesParties.Within.{IsPublisher}
use Rattle.iox_lanes_machine.specs.LanesParties.declared.call.Answer.{Answer}
use Rattle.iox_lanes_machine.specs.LanesParties.declared.call.Answer.TheVariants as answer
use Rattle.iox_lanes_machine.specs.LanesParties.declared.call.Call.{Call}
use Rattle.iox_lanes_machine.specs.LanesParties.declared.call.Call.TheVariants as call
use Rattle.iox_lanes_machine.specs.LanesParties.declared.call.FinishedCall.{FinishedCall}
use Rattle.iox_lanes_machine.specs.LanesParties.declared.call.Party.{Party}
use Rattle.iox_lanes_machine.specs.LanesParties.declared.call.Party.TheVariants.{Publisher, Subscriber}
use Rattle.iox_lanes_machine.specs.LanesParties.declared.call.SendAnswer.{SendAnswer}
use Rattle.iox_lanes_machine.specs.LanesParties.declared.call.SendAnswer.TheVariants as sent
use Rattle.iox_lanes_machine.specs.LanesParties.declared.publisher.slot_book.LoanAnswer.{LoanAnswer}
use Rattle.iox_lanes_machine.specs.LanesParties.declared.publisher.slot_book.LoanAnswer.TheVariants as loan
use Rattle.iox_lanes_machine.specs.Made.{publisher_at, route_to, start, subscriber_at}
use Rattle.iox_lanes_machine.specs.Resting.{AllBetween}
use Rattle.iox_lanes_machine.specs.World.{World}
use Rattle.iox_lanes_machine.specs.declared.sizes.LaneSizes.{LaneSizes}
use Rattle.iox_lanes_machine.proofs.Ends.{some_is}
use Rattle.iox_lanes_machine.proofs.LanesParties.Rings.{all_at}
use Rattle.iox_lanes_machine.proofs.Paces.{came_kept}
use Rattle.iox_lanes_machine.proofs.Start.{listed_is, listed_length}
use Rattle.iox_lanes_laws.specs.Turns.{IsAnswered, IsInTurn}
use Rattle.iox_lanes_laws.proofs.Chains.{all_from}
use Rattle.iox_lanes_laws.proofs.Ends.{calls_end_in_turn, publisher_there, subscriber_there}
use Rattle.iox_lanes_laws.proofs.Payloads.{publishers_stay_in_turn, subscribers_stay_in_turn}
use Rattle.iox_lanes_laws.proofs.Publishers as publishers
use Rattle.iox_lanes_laws.proofs.Subscribers as subscribers
use Rattle.iox_lanes_service.specs.NewLanes.{IsUnusedFor}
use Rattle.iox_lanes_service.specs.InTurn.{BeginsTurns, ComesToReceive, ComesToSend, Turns, most_steps, turned}
use Rattle.iox_lanes_service.specs.Laws.{IsLaneStep, loan_replied, send_replied, with_lent_slot}
use Rattle.iox_lanes_service.specs.Naming.{LaneLoan, LaneSample}
use Rattle.iox_lanes_service.specs.TurnLaws.{AreMade}
use Rattle.iox_lanes_service.specs.Turning.{AreTurns, AreWritten, HasStopped, NumbersLow, StopsWithin, TurnEnds, TurnsGoOn, TurnsStand}
use Rattle.iox_lanes_service.specs.Turning.{lent_as, loan_spent}
use Rattle.iox_lanes_service.specs.Turning.{loan_written}
use Rattle.iox_lanes_service.specs.Turning.{loaned, named_so, sent_as, slot_lent, turn_choices, turn_names}
use Rattle.iox_lanes_service.specs.declared.in_turn.RanOut.{RanOut}
use Rattle.iox_lanes_service.specs.declared.number.TurnNumber.{TurnNumber}
use Rattle.iox_lanes_service.proofs.Beginning.{new_lanes_stand}
use Rattle.iox_lanes_service.proofs.Chaining.{none_above}
use Rattle.iox_lanes_service.proofs.Lending.{loans_are_steps}
use Rattle.iox_lanes_service.proofs.Dropping.{drops_are_steps}
use Rattle.iox_lanes_service.proofs.Filling.{drop_leaves, loan_leaves, send_leaves, write_leaves}
use Rattle.iox_lanes_service.proofs.Fitting.{turns_fixed, turns_stand}
use Rattle.iox_lanes_service.proofs.Moving.{turn_moves}
use Rattle.iox_lanes_service.proofs.Sending.{sends_are_steps}
use Rattle.iox_lanes_service.proofs.Writing.{writes_are_steps}
use Rattle.iox_lanes_service.proofs.Tables.{appended_entry, left_entry, not_both, stands_at_index}
use Rattle.iox_machine.specs.Run.{Runs, Step}
use Rattle.iox_machine.specs.Service.{Service}
use Rattle.iox_machine.specs.State.{Made, State, counted}
use Rattle.iox_machine.specs.Table.{at, removed}

-- ---- one command more

runs_behind : (types : MessageTypeDetails) (buffer : ℕ) (asked : List (Command (List ℕ))) (state mid : State (List ℕ))
    (answers : List (Reply (List ℕ))) (next : Command (List ℕ)) (replied : Reply (List ℕ)) (after : State (List ℕ))
    → Runs types turn_choices buffer asked state answers mid → Step types turn_choices buffer next mid replied after
    → Runs types turn_choices buffer (asked ++ next ∷ []) state (answers ++ replied ∷ []) after
runs_behind types buffer [] state mid answers next replied after (none, is) step = (
  replied,
  after,
  [],
  subst (λ (s : State (List ℕ)). Step types turn_choices buffer next s replied after) is step,
  (refl, refl),
  ap (λ (xs : List (Reply (List ℕ))). xs ++ replied ∷ []) none,
)
runs_behind types buffer (one ∷ more) state mid answers next replied after (first, between, rest, step, runs, is) last = (
  first,
  between,
  rest ++ replied ∷ [],
  step,
  runs_behind types buffer more between mid rest next replied after runs last,
  ap (λ (xs : List (Reply (List ℕ))). xs ++ replied ∷ []) is,
)

-- A command is a step, after which the lanes stand for what the machine has, by the numbers of this record.
pub record NextStands (types : MessageTypeDetails) (buffer : ℕ) (new : Turns) (n : World) (asked : Command (List ℕ))
    (replied : Reply (List ℕ)) (state : State (List ℕ)) (service : Service (List ℕ)) : Type 0 where
  pub message : ℕ → ℕ
  pub step : IsLaneStep turn_choices (λ words. words) types buffer asked replied state service (named_so message) new.lent new.held n
  pub made : AreMade (record { names = named_so message; lent = new.lent; held = new.held }) (counted replied state.made)
  pub loans : (counted replied state.made).loans ≡ new.loans
  pub samples : (counted replied state.made).samples ≡ new.samples

pub goes_on : (turns new : Turns) (m n : World) → AreTurns None turns m → TurnsGoOn turns.sizes n → (asked : Command (List ℕ))
    (replied : Reply (List ℕ)) → (new.stuck ≡ turns.stuck) × (new.ran_out ≡ turns.ran_out)
    → new.sizes ≡ turns.sizes → new.asked ≡ turns.asked ++ asked ∷ []
    → new.answers ≡ turns.answers ++ replied ∷ []
    → NumbersLow new → AreWritten new n → (most_steps turns.sizes < 2 ^ 61 → n.moments ≤ m.moments + most_steps turns.sizes)
    → ((types : MessageTypeDetails) (buffer : ℕ) (state : State (List ℕ)) (s : TurnsStand turns m state)
    → NextStands types buffer new n asked replied state s.service)
    → AreTurns None new n
goes_on turns new m n a c asked replied still sized asked_is answers_are low written moves each = record {
  told = still.0 ∙ a.told;
  why = still.1 ∙ a.why;
  stopped = λ reason none. absurd (cc none);
  runs = λ types buffer state begins.
      let before = a.runs types buffer state (subst (λ (sizes : LaneSizes). BeginsTurns sizes state) sized begins) in
      let s : TurnsStand turns m before.0 = before.2 refl in
      let next : NextStands types buffer new n asked replied before.0 s.service = each types buffer before.0 s in
      let after : State (List ℕ) = record before.0 { made = counted replied (before.0).made; services = next.step.0 ∷ [] } in (
        after,
        subst (λ (xs : List (Command (List ℕ))). Runs types turn_choices buffer xs state new.answers after) (sym asked_is)
            (subst (λ (ys : List (Reply (List ℕ))). Runs types turn_choices buffer (turns.asked ++ asked ∷ []) state ys after)
            (sym answers_are)
            (runs_behind types buffer turns.asked state before.0 turns.answers asked replied after before.1
            (subst (λ (services : List (Service (List ℕ))). Step types turn_choices buffer asked
            (record before.0 { services = services }) replied after) (sym s.alone) next.step.1))),
        λ going. record {
          service = next.step.0;
          alone = refl;
          message = next.message;
          stands = next.step.2;
          made = next.made;
          loans = next.loans;
          samples = next.samples;
        },
      );
  goes = λ going. subst (λ (sizes : LaneSizes). TurnsGoOn sizes n) (sym sized) c;
  low = low;
  written = λ going. written;
  moved = λ going few.
      let same : most_steps new.sizes ≡ most_steps turns.sizes = ap most_steps sized in
      let one_more : length new.asked ≡ length turns.asked + 1 =
      ap (λ (xs : List (Command (List ℕ))). length xs) asked_is ∙ length-append turns.asked (asked ∷ []) in
      let all : length new.asked * most_steps new.sizes ≡ (length turns.asked + 1) * most_steps turns.sizes =
      ap (λ (k : ℕ). k * most_steps new.sizes) one_more ∙ ap (λ (k : ℕ). (length turns.asked + 1) * k) same in
      let small : most_steps turns.sizes < 2 ^ 61 = omega (arith, few, same) in
      moves_on (length turns.asked) (most_steps turns.sizes) _ _ _ (a.moved refl small) (moves small) all;
}
  where
    moves_on : (count most before after all : ℕ) → before ≤ count * most → after ≤ before + most → all ≡ (count + 1) * most → after ≤ all
    moves_on count most before after all was more is = omega (arith, was, more, is)

-- each port has as many connections as before
routes_stay : (sizes : LaneSizes) (m n : World) (party : Party) (asking : Call) → IsInTurn m party asking n → TurnsGoOn sizes m
    → ((place : ℕ) (lane : PublisherLaneState) → slice_get n.publishers place ≡ Some lane → length lane.port.routes ≡ sizes.subscribers)
    × ((place : ℕ) (lane : SubscriberLaneState) → slice_get n.subscribers place ≡ Some lane → length lane.port.routes ≡ sizes.publishers)
routes_stay sizes m n (Publisher who) asking t c =
    let before = publisher_there m who asking (slice_get m.publishers who) refl t.begins.0 in
    let after = (publishers_stay_in_turn m n who asking before.0 t before.1).1 in
    let others = (publishers.whole m who asking before.0 n after.0 t before.1 after.1).others in (
      λ at x there. elim (eqb_tells at who) [
        | inl same ↦ ap (λ (it : PublisherLaneState). length it.port.routes)
            (some_is x after.0 (sym there ∙ ap (slice_get n.publishers) same.1 ∙ after.1))
            ∙ ap (λ (rs : List Route). length rs) (after.2).routes ∙ c.sending who before.0 before.1
        | inr other ↦ c.sending at x (sym (others.publishers at other.1) ∙ there)
      ],
      λ at x there. c.receiving at x (sym (ap (λ (xs : List SubscriberLaneState). slice_get xs at) others.subscribers) ∙ there),
    )
routes_stay sizes m n (Subscriber who) asking t c =
    let before = subscriber_there m who asking (slice_get m.subscribers who) refl t.begins.0 in
    let after = (subscribers_stay_in_turn m n who asking before.0 t before.1).1 in
    let others = (subscribers.whole m who asking before.0 (λ k lane. Unit {0}) n after.0 (λ k lane a a' bound next over s. tt)
    (λ may k bound. tt) t before.1 after.1).others in (
      λ at x there. c.sending at x (sym (ap (λ (xs : List PublisherLaneState). slice_get xs at) others.publishers) ∙ there),
      λ at x there. elim (eqb_tells at who) [
        | inl same ↦ ap (λ (it : SubscriberLaneState). length it.port.routes)
            (some_is x after.0 (sym there ∙ ap (slice_get n.subscribers) same.1 ∙ after.1))
            ∙ ap (λ (rs : List Route). length rs) (after.2).routes ∙ c.receiving who before.0 before.1
        | inr other ↦ c.receiving at x (sym (others.subscribers at other.1) ∙ there)
      ],
    )

-- lanes go on after a turn
pub ends_well : (sizes : LaneSizes) (m n : World) (party : Party) (asking : Call) → IsInTurn m party asking n → TurnsGoOn sizes m
    → TurnsGoOn sizes n
ends_well sizes m n party asking t c =
    let e = calls_end_in_turn m party asking n t in
    let fixed = turns_fixed m n party asking t in
    let routes = routes_stay sizes m n party asking t c in
    record {
      came = e.0;
      between = e.1;
      publishers = fixed.publisher_count ∙ c.publishers;
      subscribers = fixed.subscriber_count ∙ c.subscribers;
      sending = routes.0;
      receiving = routes.1;
      table = fixed.sizes ∙ c.table;
      small = subst (λ words. words.slots < 2 ^ 64) (sym fixed.sizes) c.small;
    }

-- what is got at a place below the length stands there
pub get_there : {X : Type 0} (xs : List X) (index : ℕ) (x : X) → index < length xs → x ≡ get_or xs index x
    → slice_get xs index ≡ Some x
get_there [] index x low is = absurd (omega (arith, low))
get_there (y ∷ xs) zero x low is = ap Some (sym is)
get_there (y ∷ xs) (suc index) x low is = get_there xs index x (omega (arith, low)) is

last_there : (calls : List FinishedCall) (one : FinishedCall) → slice_get (calls ++ one ∷ []) (length calls) ≡ Some one
last_there [] one = refl
last_there (first ∷ calls) one = last_there calls one

-- what a call is answered is what was read of the calls that ended
pub answer_is : (m n : World) (party : Party) (asking : Call) (given other : Answer) → IsAnswered m party asking given n
    → TurnEnds m party asking other n → given ≡ other
answer_is m n party asking given other a t =
    sym a.answered
    ∙ ap (λ (one : FinishedCall). one.answer) (some_is a.call t.call (sym (last_there m.finished a.call)
    ∙ ap (λ (calls : List FinishedCall). slice_get calls (length m.finished)) (sym a.more) ∙ t.ended))
    ∙ t.answered

-- ---- no command

-- what was asked and answered is a run
pub ran_so : (ran_out : Option RanOut) (turns : Turns) (m : World) → AreTurns ran_out turns m → (types : MessageTypeDetails) (buffer : ℕ)
    (state : State (List ℕ)) → BeginsTurns turns.sizes state
    → (after : State (List ℕ)) × Runs types turn_choices buffer turns.asked state turns.answers after
ran_so ran_out turns m a types buffer state begins = let ran = a.runs types buffer state begins in (ran.0, ran.1)

-- as long as no turn got stuck, a turn is said of that
pub kept_going : (ran_out : Option RanOut) (turns new : Turns) (m n : World) → ran_out ≡ None
    → (AreTurns None turns m → AreTurns None new n) → AreTurns ran_out turns m → AreTurns ran_out new n
kept_going (Some why) turns new m n is on a = absurd (cc is)
kept_going None turns new m n is on a = on a

-- nothing ran out where lanes aren't stuck
pub none_out : (ran_out : Option RanOut) → is_some ran_out ≡ false → ran_out ≡ None
none_out None is = refl
none_out (Some why) is = absurd (cc is)

-- a turn stopped within its call
pub stuck_since : (ran_out : Option RanOut) (turns : Turns) (m n : World) (party : Party) (asking : Call) (why : RanOut)
    → AreTurns ran_out turns m → StopsWithin m party asking why n
    → AreTurns (Some why) (record turns { stuck = true; ran_out = Some why }) n
stuck_since ran_out turns m n party asking why a stops = record {
  told = refl;
  why = refl;
  stopped = λ reason is.
      subst (λ (it : RanOut). HasStopped it n) (some_is why reason is) (m, party, asking, stops);
  runs = λ types buffer state begins.
      let before = a.runs types buffer state begins in (before.0, before.1, λ going. absurd (cc going));
  goes = λ going. absurd (cc going);
  low = record { loans = a.low.loans; samples = a.low.samples };
  written = λ going. absurd (cc going);
  moved = λ going few. absurd (cc going);
}

-- nothing was asked of lanes
abbrev pub unasked : LaneSizes → Turns
unasked sizes = record {
  sizes = sizes;
  asked = [];
  answers = [];
  loans = 0;
  samples = 0;
  lent = [];
  held = [];
  written = [];
  stuck = false;
  ran_out = None;
}

-- nobody is inside a call on new lanes
start_between : (sizes : LaneSizes) → AllBetween (start sizes)
start_between sizes = record {
  publishers = all_from (λ (lane : PublisherLaneState). publisher_is_idle lane.port.call ≡ true) (start sizes).publishers
      (λ place lane found. ap (λ (l : PublisherLaneState). publisher_is_idle l.port.call)
      (listed_is (publisher_at sizes) sizes.publishers place lane found).1);
  subscribers = all_from (λ (lane : SubscriberLaneState). subscriber_is_idle lane.port.call ≡ true) (start sizes).subscribers
      (λ place lane found. ap (λ (l : SubscriberLaneState). subscriber_is_idle l.port.call)
      (listed_is (subscriber_at sizes) sizes.subscribers place lane found).1);
}

-- the machine's service is one for which new lanes stand
unused_so : (sizes : LaneSizes) (state : State (List ℕ)) (b : BeginsTurns sizes state)
    → IsUnusedFor turn_choices turn_names sizes b.service
unused_so sizes state b = record {
  unnumbered = refl;
  publishers = λ place low.
      let it = b.publishers place low in
      let comes : ComesToSend sizes b.service it.0 = it.2 in (
        it.0,
        it.1,
        record {
          stands = comes.stands;
          free = comes.free;
          seen = comes.seen;
          most_loans = comes.most_loans;
          slots = comes.slots;
          room = comes.room;
          connected = comes.connected;
          last = comes.last;
          history = comes.history;
          ahead = comes.ahead;
          decides = λ refuses. sym (comes.discards refuses);
        },
      );
  subscribers = λ place low.
      let it = b.subscribers place low in
      let comes : ComesToReceive sizes b.service it.0 = it.2 in (
        it.0,
        it.1,
        record {
          stands = comes.stands;
          seen = comes.seen;
          done = comes.done;
          expired = comes.expired;
          connected = comes.connected;
        },
      );
  publishers_apart = λ one other low below e. omega (arith, e);
  subscribers_apart = λ one other low below e. omega (arith, e);
  history = b.history;
  most_borrowed = b.most_borrowed;
  kind = b.kind;
  mailboxes = b.mailboxes;
  others = b.others;
  loans = b.loans;
  samples = b.samples;
}

pub new_turns : (sizes : LaneSizes) (m : World) → m ≡ start sizes → 0 < sizes.buffer → sizes.buffer < 2 ^ 61 → sizes.most_borrowed < 2 ^ 61
    → sizes.subscribers < 2 ^ 61 → sizes.publishers * sizes.slots < 2 ^ 64
    → AreTurns None (unasked sizes) m
new_turns sizes m is some low borrowed ports small =
    subst (AreTurns None (unasked sizes)) (sym is)
    (record {
      told = refl;
      why = refl;
      stopped = λ reason none. absurd (cc none);
      runs = λ types buffer state begins. (
        state,
        (refl, refl),
        λ going. record {
          service = begins.service;
          alone = begins.alone;
          message = λ slot. 0;
          stands = new_lanes_stand turn_choices (λ words. words) turn_names sizes begins.service (unused_so sizes state begins);
          made = record {
            loans = λ index entry there. absurd (none_lent index entry there);
            samples = λ index entry there. absurd (none_held index entry there);
          };
          loans = begins.no_loans;
          samples = begins.no_samples;
        },
      );
      goes = λ going. record {
        came = record {
          sizes = sizes;
          some = some;
          ports = ports;
          small = omega (arith, low, borrowed);
          found = [];
          begun = start sizes;
          finds = refl;
          schedule = [];
          made = 0;
          runs = (refl, refl);
        };
        between = start_between sizes;
        publishers = listed_length (publisher_at sizes) sizes.publishers;
        subscribers = listed_length (subscriber_at sizes) sizes.subscribers;
        sending = λ place lane found. ap (λ (it : PublisherLaneState). length it.port.routes)
            (listed_is (publisher_at sizes) sizes.publishers place lane found).1
            ∙ listed_length (λ subscriber. route_to sizes (place * sizes.subscribers + subscriber)) sizes.subscribers;
        receiving = λ place lane found. ap (λ (it : SubscriberLaneState). length it.port.routes)
            (listed_is (subscriber_at sizes) sizes.subscribers place lane found).1
            ∙ listed_length (λ publisher. route_to sizes (publisher * sizes.subscribers + place)) sizes.publishers;
        table = refl;
        small = small;
      };
      low = record {
        loans = λ index entry there. absurd (none_lent index entry there);
        samples = λ index entry there. absurd (none_held index entry there);
      };
      written = λ going. record {
        each = λ index entry there. absurd (none_lent index entry there);
        low = λ number has. absurd (cc has);
      };
      moved = λ going few. omega arith;
    })
  where
    none_lent : (index : ℕ) (entry : ℕ × LaneLoan) → slice_get [] index ≡ Some entry → ⊥
    none_lent index entry there = cc there

    none_held : (index : ℕ) (entry : ℕ × LaneSample) → slice_get [] index ≡ Some entry → ⊥
    none_held index entry there = cc there

-- ---- a loan

lent_same : (one other : LoanAnswer) → answer.Lent one ≡ answer.Lent other → one ≡ other
lent_same one other e = cc e

-- a loan is told as its publisher answered
pub lent_told : (place : ℕ) (given : LoanAnswer) (number : TurnNumber) (turns : Turns) → MatchResult (lent_as place given number)
    (λ it. loaned place given turns ≡ slot_lent place it.slot turns)
    (λ why. loaned place given turns ≡ turned (command.LoanUninit (suc place) 1) (reply.Refused (refusal.Loan why)) turns)
lent_told place (loan.Slot slot) number turns = refl
lent_told place loan.ExceedsMaxLoans number turns = refl
lent_told place loan.OutOfMemory number turns = refl

-- what comes after others under a number that none of them has goes by it
pub at_appended : {V : Type 0} (number : ℕ) (v : V) (table : List (ℕ × V)) → at number table ≡ None
    → at number (table ++ (number, v) ∷ []) ≡ Some v
at_appended {V} number v [] none = by_test (number == number) (eq-eqb number number refl)
  where
    by_test : (b : Bool) → b ≡ true → option_map (λ (it : ℕ × V). it.1) (cond b (Some (number, v)) None) ≡ Some v
    by_test true is = refl
    by_test false is = not_both false is refl
at_appended {V} number v (first ∷ table) none = by_test (first.0 == number) (at_appended number v table) none
  where
    by_test : (b : Bool) → (at number table ≡ None → at number (table ++ (number, v) ∷ []) ≡ Some v)
        → option_map (λ (it : ℕ × V). it.1) (cond b (Some first) (find (λ (it : ℕ × V). it.0 == number) table)) ≡ None
        → option_map (λ (it : ℕ × V). it.1)
        (cond b (Some first) (find (λ (it : ℕ × V). it.0 == number) (table ++ (number, v) ∷ []))) ≡ Some v
    by_test true more none = cc none
    by_test false more none = more none

pub lent_numbered : (place : ℕ) (given : LoanAnswer) (number : TurnNumber) (turns : Turns) → NumbersLow turns
    → number.value ≡ turns.loans + 1 → IfOk (lent_as place given number)
    (λ it. (it.publisher ≡ place) × (it.number.value ≡ turns.loans + 1)
    × (at it.number.value (loaned place given turns).lent ≡ Some (record { publisher = place; slot = it.slot })))
lent_numbered place (loan.Slot slot) number turns low is = (
  refl,
  is,
  subst (λ (x : ℕ). at x (turns.lent ++ (turns.loans + 1, record { publisher = place; slot = slot }) ∷ [])
      ≡ Some (record { publisher = place; slot = slot })) (sym is)
      (at_appended (turns.loans + 1) (record { publisher = place; slot = slot }) turns.lent
      (none_above turns.lent turns.loans (turns.loans + 1) low.loans (omega arith))),
)
lent_numbered place loan.ExceedsMaxLoans number turns low is = tt
lent_numbered place loan.OutOfMemory number turns low is = tt

module _ (turns : Turns) (m n : World) (place : ℕ) where
  loaned_sizes : (given : LoanAnswer) → (loaned place given turns).sizes ≡ turns.sizes
  loaned_sizes (loan.Slot slot) = refl
  loaned_sizes loan.ExceedsMaxLoans = refl
  loaned_sizes loan.OutOfMemory = refl

  loaned_still : (given : LoanAnswer) → ((loaned place given turns).stuck ≡ turns.stuck)
      × ((loaned place given turns).ran_out ≡ turns.ran_out)
  loaned_still (loan.Slot slot) = (refl, refl)
  loaned_still loan.ExceedsMaxLoans = (refl, refl)
  loaned_still loan.OutOfMemory = (refl, refl)

  loaned_asked : (given : LoanAnswer) → (loaned place given turns).asked ≡ turns.asked ++ command.LoanUninit (suc place) 1 ∷ []
  loaned_asked (loan.Slot slot) = refl
  loaned_asked loan.ExceedsMaxLoans = refl
  loaned_asked loan.OutOfMemory = refl

  loaned_answers : (given : LoanAnswer) → (loaned place given turns).answers ≡ turns.answers ++ loan_replied (turns.loans + 1) given ∷ []
  loaned_answers (loan.Slot slot) = refl
  loaned_answers loan.ExceedsMaxLoans = refl
  loaned_answers loan.OutOfMemory = refl

  loaned_next : (given : LoanAnswer) (types : MessageTypeDetails) (buffer : ℕ) (state : State (List ℕ)) (s : TurnsStand turns m state)
      (message : ℕ → ℕ)
      → IsLaneStep turn_choices (λ words. words) types buffer (command.LoanUninit (suc place) 1) (loan_replied (turns.loans + 1) given)
      state s.service (named_so message) (with_lent_slot (turns.loans + 1) place given turns.lent) turns.held n
      → NextStands types buffer (loaned place given turns) n (command.LoanUninit (suc place) 1) (loan_replied (turns.loans + 1) given)
      state s.service
  loaned_next (loan.Slot slot) types buffer state s message step = record {
    message = message;
    step = step;
    made = record {
      loans = appended_entry (turns.loans + 1, record { publisher = place; slot = slot }) turns.lent
          (λ entry. entry.0 ≤ state.made.loans + 1)
          (λ index entry is. let low = s.made.loans index entry is in omega (arith, low)) (omega (arith, s.loans));
      samples = s.made.samples;
    };
    loans = ap (λ (x : ℕ). x + 1) s.loans;
    samples = s.samples;
  }
  loaned_next loan.ExceedsMaxLoans types buffer state s message step = record {
    message = message;
    step = step;
    made = record { loans = s.made.loans; samples = s.made.samples };
    loans = s.loans;
    samples = s.samples;
  }
  loaned_next loan.OutOfMemory types buffer state s message step = record {
    message = message;
    step = step;
    made = record { loans = s.made.loans; samples = s.made.samples };
    loans = s.loans;
    samples = s.samples;
  }

  loaned_low : (given : LoanAnswer) → NumbersLow turns → NumbersLow (loaned place given turns)
  loaned_low (loan.Slot slot) low = record {
    loans = appended_entry (turns.loans + 1, record { publisher = place; slot = slot }) turns.lent (λ entry. entry.0 ≤ turns.loans + 1)
        (λ index entry is. let most = low.loans index entry is in omega (arith, most)) (omega arith);
    samples = low.samples;
  }
  loaned_low loan.ExceedsMaxLoans low = record { loans = low.loans; samples = low.samples }
  loaned_low loan.OutOfMemory low = record { loans = low.loans; samples = low.samples }

  pub loan_recorded : (given : LoanAnswer) → AreTurns None turns m
      → TurnEnds m (Publisher place) call.LoanUninit (answer.Lent given) n → AreTurns None (loaned place given turns) n
  loan_recorded given a t =
      let goes : TurnsGoOn turns.sizes m = a.goes refl in
      let lane = publisher_there m place call.LoanUninit (slice_get m.publishers place) refl t.in_turn.begins.0 in
      let p : IsPublisher m.table.sizes lane.0
      = all_at (IsPublisher m.table.sizes) m.publishers place lane.0 lane.1 ((came_kept m goes.came).0).within.publishers in
      goes_on turns (loaned place given turns) m n a (ends_well turns.sizes m n (Publisher place) call.LoanUninit t.in_turn goes)
      (command.LoanUninit (suc place) 1) (loan_replied (turns.loans + 1) given) (loaned_still given) (loaned_sizes given) (loaned_asked
      given)
      (loaned_answers given) (loaned_low given a.low)
      (loan_leaves turns m n place (a.written refl) given t.in_turn goes.small
      (λ other is. lent_same other given (answer_is m n (Publisher place) call.LoanUninit (answer.Lent other) (answer.Lent given) is t)))
      (turn_moves turns.sizes m (Publisher place) call.LoanUninit n goes t.in_turn)
      (λ types buffer state s.
      let fresh = none_above turns.lent state.made.loans (state.made.loans + 1) s.made.loans (omega arith) in
      let law = loans_are_steps turn_choices (λ words. words) types buffer (named_so s.message) turns.lent turns.held m n s.service
      state place lane.0 s.stands t.in_turn lane.1 (omega (arith, p.slots, goes.small)) fresh in
      let same : law.0 ≡ given = lent_same law.0 given
      (answer_is m n (Publisher place) call.LoanUninit (answer.Lent law.0) (answer.Lent given) law.1 t) in
      loaned_next given types buffer state s law.2.0
      (subst (λ (g : LoanAnswer). IsLaneStep turn_choices (λ words. words) types buffer (command.LoanUninit (suc place) 1)
      (loan_replied (turns.loans + 1) g) state s.service (named_so law.2.0) (with_lent_slot (turns.loans + 1) place g turns.lent)
      turns.held n) same
      (subst (λ (x : ℕ). IsLaneStep turn_choices (λ words. words) types buffer (command.LoanUninit (suc place) 1)
      (loan_replied (x + 1) law.0) state s.service (named_so law.2.0) (with_lent_slot (x + 1) place law.0 turns.lent)
      turns.held n) s.loans law.2.2)))

-- ---- a loan that goes by a number

module _ (turns : Turns) (m n : World) (number place slot : ℕ) (a : AreTurns None turns m)
    (there : at number turns.lent ≡ Some (record { publisher = place; slot = slot })) where
  -- a loan goes by no number any longer
  fewer_made : (state : State (List ℕ)) (s : TurnsStand turns m state)
      → AreMade (record { names = named_so s.message; lent = removed number turns.lent; held = turns.held }) state.made
  fewer_made state s = record {
    loans = λ index entry is. let was = left_entry number turns.lent index entry is in s.made.loans was.0 entry was.1;
    samples = s.made.samples;
  }

  fewer_low : (asked : Command (List ℕ)) (replied : Reply (List ℕ)) → NumbersLow (loan_spent number asked replied turns)
  fewer_low asked replied = record {
    loans = λ index entry is. let was = left_entry number turns.lent index entry is in a.low.loans was.0 entry was.1;
    samples = a.low.samples;
  }

  pub drop_recorded : TurnEnds m (Publisher place) (call.DropLoan slot) answer.Dropped n
      → AreTurns None (loan_spent number (command.Drop number) reply.Done turns) n
  drop_recorded t = goes_on turns (loan_spent number (command.Drop number) reply.Done turns) m n a
      (ends_well turns.sizes m n (Publisher place) (call.DropLoan slot) t.in_turn (a.goes refl))
      (command.Drop number) reply.Done (refl, refl) refl refl refl (fewer_low (command.Drop number) reply.Done)
      (drop_leaves turns m n place (a.written refl) number slot there (turns_stand None turns m a refl).0
      (turns_stand None turns m a refl).1 (command.Drop number) reply.Done t.in_turn)
      (turn_moves turns.sizes m (Publisher place) (call.DropLoan slot) n (a.goes refl) t.in_turn)
      (λ types buffer state s.
      let law = drops_are_steps turn_choices (λ words. words) types buffer (named_so s.message) turns.lent turns.held m n s.service
      state number (record { publisher = place; slot = slot }) s.stands there t.in_turn in
      record { message = s.message; step = law.1; made = fewer_made state s; loans = s.loans; samples = s.samples })

  pub send_recorded : (given : SendAnswer) → TurnEnds m (Publisher place) (call.Send slot) (answer.Sent given) n
      → AreTurns None (loan_spent number (command.Send number) (send_replied given) turns) n
  send_recorded given t = goes_on turns (loan_spent number (command.Send number) (send_replied given) turns) m n a
      (ends_well turns.sizes m n (Publisher place) (call.Send slot) t.in_turn (a.goes refl)) (command.Send number) (send_replied given)
      (refl, refl) refl refl refl
      (fewer_low (command.Send number) (send_replied given))
      (send_leaves turns m n place (a.written refl) number slot there (turns_stand None turns m a refl).0
      (turns_stand None turns m a refl).1 (command.Send number) (send_replied given) t.in_turn)
      (turn_moves turns.sizes m (Publisher place) (call.Send slot) n (a.goes refl) t.in_turn)
      (λ types buffer state s.
      let law = sends_are_steps turn_choices (λ words. words) types buffer (named_so s.message) turns.lent turns.held m n s.service
      state number (record { publisher = place; slot = slot }) s.stands there t.in_turn in
      let same : law.0 ≡ given = sent_same law.0 given
      (answer_is m n (Publisher place) (call.Send slot) (answer.Sent law.0) (answer.Sent given) law.1 t) in
      record {
        message = s.message;
        step = subst (λ (g : SendAnswer). IsLaneStep turn_choices (λ words. words) types buffer (command.Send number)
            (send_replied g) state s.service (named_so s.message) (removed number turns.lent) turns.held n) same law.2;
        made = subst (AreMade (record { names = named_so s.message; lent = removed number turns.lent; held = turns.held }))
            (sym (none_counted given state.made)) (fewer_made state s);
        loans = ap (λ (made : Made). made.loans) (none_counted given state.made) ∙ s.loans;
        samples = ap (λ (made : Made). made.samples) (none_counted given state.made) ∙ s.samples;
      })
    where
      none_counted : (it : SendAnswer) (made : Made) → counted (send_replied {T = List ℕ} it) made ≡ made
      none_counted (sent.Delivered delivery) made = refl
      none_counted (sent.UnableToDeliver delivery) made = refl

      sent_same : (one other : SendAnswer) → answer.Sent one ≡ answer.Sent other → one ≡ other
      sent_same one other e = cc e

  pub write_recorded : (payload user_header : Vec ℕ)
      → TurnEnds m (Publisher place) (call.Write slot payload user_header) answer.Written n
      → AreTurns None (loan_written number payload.items turns) n
  write_recorded payload user_header t = goes_on turns (loan_written number payload.items turns) m n a
      (ends_well turns.sizes m n (Publisher place) (call.Write slot payload user_header) t.in_turn (a.goes refl))
      (command.Fill number (payload.items ∷ [])) reply.Done (refl, refl) refl refl refl
      (record { loans = a.low.loans; samples = a.low.samples })
      (write_leaves turns m n place (a.written refl) number slot there (turns_stand None turns m a refl).0
      (turns_stand None turns m a refl).1 payload user_header t.in_turn
      (let index = stands_at_index number (record { publisher = place; slot = slot }) turns.lent there in
      a.low.loans index.0 (number, record { publisher = place; slot = slot }) index.1))
      (turn_moves turns.sizes m (Publisher place) (call.Write slot payload user_header) n (a.goes refl) t.in_turn)
      (λ types buffer state s.
      let law = writes_are_steps turn_choices (λ words. words) types buffer (named_so s.message) turns.lent turns.held m n s.service
      state number (record { publisher = place; slot = slot }) payload user_header s.stands there t.in_turn in
      record {
        message = s.message;
        step = law.1;
        made = record { loans = s.made.loans; samples = s.made.samples };
        loans = s.loans;
        samples = s.samples;
      })

-- a send is told as its publisher answered
pub sent_told : (number : ℕ) (given : SendAnswer) (turns : Turns) → MatchResult (sent_as given)
    (λ taken. loan_spent number (command.Send number) (send_replied given) turns
    ≡ loan_spent number (command.Send number) (reply.Delivered taken) turns)
    (λ why. loan_spent number (command.Send number) (send_replied given) turns
    ≡ loan_spent number (command.Send number) (reply.Refused (refusal.Send why)) turns)
sent_told number (sent.Delivered delivery) turns = refl
sent_told number (sent.UnableToDeliver delivery) turns = refl
