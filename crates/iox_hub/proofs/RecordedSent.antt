-- What is read of a sample was sent before, by a publisher of the subscriber's own service.
use Rattle.std.proofs.Common.{◌≡◌, ◌∙◌, ◌<◌, ◌⊎◌, ℕ, zero, suc, true, false, List, [], ◌∷◌, ◌++◌, length, take, Some, refl, sym, ap, subst}
use Rattle.std.proofs.Common.{Option, None}
use Rattle.std.proofs.Common.{append-nil, append_assoc, arith, inl, inr, ⊎_elim}
use Rattle.std.specs.Global.{Vec}
use Rattle.std.specs.List.{list_all}
use Rattle.std.specs.Prelude.{filter_map, find, is_some, map, slice_get}
use Rattle.std.specs.Vec.{vec_items}
use Rattle.iox_command.specs.NegotiateBase.DescribeSettings.declared.static_config.publish_subscribe.StaticConfig.{StaticConfig}
use Rattle.iox_command.specs.declared.command.Command.{Command}
use Rattle.iox_command.specs.declared.command.Command.TheVariants as command
use Rattle.iox_command.specs.declared.refusal.Refusal.TheVariants as refusal
use Rattle.iox_command.specs.declared.reply.Reply.{Reply}
use Rattle.iox_command.specs.declared.reply.Reply.TheVariants as reply
use Rattle.iox_hub_commands.specs.DescribeBase.declared.message_type.MessageTypeDetails.{MessageTypeDetails}
use Rattle.iox_hub_commands.specs.DomainValues.declared.port_error.SendError.TheVariants.{UnableToDeliver}
use Rattle.iox_machine.specs.Choices.{Choices}
use Rattle.iox_machine.specs.Message.{Loan}
use Rattle.iox_machine.specs.MessageLaws.{BeganIn, ReceivedWasSent}
use Rattle.iox_machine.specs.Run.{Answers, Runs, Step}
use Rattle.iox_machine.specs.RunLaws.{BeginsToSend, SamplesReadTheSame, has_begun}
use Rattle.iox_machine.specs.Service.{Service}
use Rattle.iox_machine.specs.State.{State, new_state}
use Rattle.iox_machine.specs.Table.{at}
use Rattle.iox_hub.proofs.RecordedReading.{cancel, cut, read_so}
use Rattle.iox_hub.specs.RecordedLaws.{WasSentBefore}
use Rattle.iox_hub.specs.Recording.{HasCome}

-- by which answers a send began
begun_so : {T : Type 0} (answer : Reply T) → has_begun answer ≡ true
    → (answer ≡ reply.Blocked) ⊎ (answer ≡ reply.Refused (refusal.Send UnableToDeliver))
    ⊎ ((count : ℕ) × (answer ≡ reply.Delivered count))
begun_so reply.Blocked is = inl refl
begun_so (reply.Refused (refusal.Send UnableToDeliver)) is = inr (inl refl)
begun_so (reply.Delivered count) is = inr (inr (count, refl))
begun_so other is = cc

-- ---- places

module _ {X : Type 0} where
  found_ahead : (xs ys : List X) (place : ℕ) (x : X) → slice_get xs place ≡ Some x → slice_get (xs ++ ys) place ≡ Some x
  found_ahead [] ys place x is = cc
  found_ahead (first ∷ xs) ys zero x is = is
  found_ahead (first ∷ xs) ys (suc place) x is = found_ahead xs ys place x is

  found_behind : (xs ys : List X) (x : X) → slice_get (xs ++ x ∷ ys) (length xs) ≡ Some x
  found_behind [] ys x = refl
  found_behind (first ∷ xs) ys x = found_behind xs ys x

  taken_ahead : (xs ys : List X) → take (length xs) (xs ++ ys) ≡ xs
  taken_ahead [] ys = refl
  taken_ahead (first ∷ xs) ys = ap (λ (rest : List X). first ∷ rest) (taken_ahead xs ys)

  taken_within : (xs ys : List X) (count : ℕ) → count < length xs → take count (xs ++ ys) ≡ take count xs
  taken_within [] ys count within = absurd (omega (arith, within))
  taken_within (first ∷ xs) ys zero within = refl
  taken_within (first ∷ xs) ys (suc count) within =
      ap (λ (rest : List X). first ∷ rest) (taken_within xs ys count (omega (arith, within)))

  regrouped : (xs ys zs : List X) (x : X) → (xs ++ x ∷ ys) ++ zs ≡ (xs ++ x ∷ []) ++ ys ++ zs
  regrouped xs ys zs x = ap (λ (all : List X). all ++ zs) (sym (append_assoc xs (x ∷ []) ys))

-- a loan that is written has just the values that are sent of it
all_written : {X : Type 0} (values : List (Option X)) → list_all is_some values ≡ true
    → values ≡ map Some (filter_map (λ value. value) values)
all_written [] all = refl
all_written (Some value ∷ values) all = ap (λ (rest : List (Option _)). Some value ∷ rest) (all_written values all)
all_written (None ∷ values) all = cc

module _ {T : Type 0} (choices : Choices T) (types : MessageTypeDetails) (buffer : ℕ) where
  -- these values are sent by the command at a place of a run, from this state
  abbrev IsSentAt : ℕ → List T → List (Command T) → ℕ → State T → Type 0
  IsSentAt publisher values asked place sending = (slice_get asked place ≡ Some (command.Put publisher values))
      ⊎ ((loan : ℕ) × (lender : Service T) × (one : Loan T) × (slice_get asked place ≡ Some (command.Send loan))
      × (find (λ other. is_some (at loan other.loans)) sending.services ≡ Some lender) × (at loan lender.loans ≡ Some one)
      × (one.publisher ≡ publisher) × (one.values ≡ map Some values))

  -- A publisher began a send of values in a run.
  record SentAt (publisher : ℕ) (values : List T) (asked : List (Command T)) (old : State T) (answers : List (Reply T)) : Type 0 where
    sent : ℕ
    within : sent < length asked
    answer : Reply T
    sending : State T
    ran_first : Runs types choices buffer (take sent asked) old (take sent answers) sending
    is_sent : IsSentAt publisher values asked sent sending
    is_answered : slice_get answers sent ≡ Some answer
    begun : has_begun answer ≡ true

  sent_so : (publisher : ℕ) (values : List T) (one : Command T) (more : List (Command T)) (answer : Reply T) (answers : List (Reply T))
      (old : State T) → BeginsToSend publisher values one old answer → SentAt publisher values (one ∷ more) old (answer ∷ answers)
  sent_so publisher values (command.Put number given) more answer answers old (same, are, begun) = record {
    sent = 0;
    within = omega arith;
    answer = answer;
    sending = old;
    ran_first = (refl, refl);
    is_sent = inl cc;
    is_answered = refl;
    begun = begun;
  }
  sent_so publisher values (command.Send loan) more answer answers old (service, one, found, is, own, written, are, begun) = record {
    sent = 0;
    within = omega arith;
    answer = answer;
    sending = old;
    ran_first = (refl, refl);
    is_sent = inr (
      loan,
      service,
      one,
      refl,
      found,
      is,
      own,
      all_written one.values written ∙ ap (λ (all : List T). map Some all) are,
    );
    is_answered = refl;
    begun = begun;
  }
  sent_so publisher values other more answer answers old began = absurd began

  later_so : (publisher : ℕ) (values : List T) (one : Command T) (more : List (Command T)) (place : ℕ) (sending : State T)
      → IsSentAt publisher values more place sending → IsSentAt publisher values (one ∷ more) (suc place) sending
  later_so publisher values one more place sending sent = sent

  sent_later : (publisher : ℕ) (values : List T) (one : Command T) (more : List (Command T)) (answer : Reply T) (answers : List (Reply T))
      (old mid : State T) → Step types choices buffer one old answer mid → SentAt publisher values more mid answers
      → SentAt publisher values (one ∷ more) old (answer ∷ answers)
  sent_later publisher values one more answer answers old mid did was = record {
    sent = suc was.sent;
    within = omega (arith, was.within);
    answer = was.answer;
    sending = was.sending;
    ran_first = (answer, mid, take was.sent answers, did, was.ran_first, refl);
    is_sent = was.is_sent;
    is_answered = was.is_answered;
    begun = was.begun;
  }

  began_so : (publisher : ℕ) (name : List ℕ) (settings : StaticConfig) (values : List T) (asked : List (Command T)) (old new : State T)
      (answers : List (Reply T)) (run : Runs types choices buffer asked old answers new)
      → BeganIn types choices buffer publisher name settings values asked old answers new run → SentAt publisher values asked old answers
  began_so publisher name settings values [] old new answers run began = absurd began
  began_so publisher name settings values (one ∷ more) old new answers (answer, mid, rest, did, runs, is) began =
      subst (λ (all : List (Reply T)). SentAt publisher values (one ∷ more) old all) (sym is)
      (⊎_elim (λ now. sent_so publisher values one more answer rest old now.0)
      (λ later. sent_later publisher values one more answer rest old mid did
      (began_so publisher name settings values more mid new rest runs later)) began)

  sent_ahead : (publisher : ℕ) (values others : List T) (asked more : List (Command T)) (place : ℕ) (sending : State T) → values ≡ others
      → IsSentAt publisher values asked place sending → IsSentAt publisher others (asked ++ more) place sending
  sent_ahead publisher values others asked more place sending same (inl put) =
      inl (subst (λ (it : List T). slice_get (asked ++ more) place ≡ Some (command.Put publisher it)) same
      (found_ahead asked more place (command.Put publisher values) put))
  sent_ahead publisher values others asked more place sending same (inr (loan, lender, one, send, found, is, own, are)) =
      inr (
        loan,
        lender,
        one,
        found_ahead asked more place (command.Send loan) send,
        found,
        is,
        own,
        are ∙ ap (λ (it : List T). map Some it) same,
      )

  module _ (received : ReceivedWasSent choices) (the_same : SamplesReadTheSame choices) (asked : List (Command T))
      (answers : List (Reply T)) (sample : ℕ) (read : Vec T) (came : HasCome sample asked answers) where
    -- the first step after what was asked before the sample came
    first_step : (mid new : State T) (late more : List (Reply T)) (commands : List (Command T))
        → reply.Received sample came.values ∷ more ≡ late
        → Runs types choices buffer (command.Receive came.subscriber ∷ commands) mid late new
        → (after : State T)
        × Step types choices buffer (command.Receive came.subscriber) mid (reply.Received sample came.values) after
    first_step mid new late more commands are (its, after, rest, did, runs, is) =
        let told : its ≡ reply.Received sample came.values = cc in
        (after, subst (λ (it : Reply T). Step types choices buffer (command.Receive came.subscriber) mid it after) told did)

    sent_before : (new : State T)
        → Runs types choices buffer (asked ++ command.Read sample ∷ []) new_state (answers ++ reply.Values read ∷ []) new
        → WasSentBefore types choices buffer sample (vec_items read) asked answers
    sent_before new runs =
        let behind : List (Command T) = came.later ++ command.Read sample ∷ [] in
        let told_behind : List (Reply T) = came.told ++ reply.Values read ∷ [] in
        let are : asked ++ command.Read sample ∷ [] ≡ came.before ++ command.Receive came.subscriber ∷ behind =
        ap (λ (all : List (Command T)). all ++ command.Read sample ∷ []) came.are
        ∙ append_assoc came.before (command.Receive came.subscriber ∷ came.later) (command.Read sample ∷ []) in
        let told : answers ++ reply.Values read ∷ [] ≡ came.first ++ reply.Received sample came.values ∷ told_behind =
        ap (λ (all : List (Reply T)). all ++ reply.Values read ∷ []) came.answered
        ∙ append_assoc came.first (reply.Received sample came.values ∷ came.told) (reply.Values read ∷ []) in
        let whole = subst (λ all. Runs types choices buffer all new_state
        (came.first ++ reply.Received sample came.values ∷ told_behind) new) are
        (subst (λ all. Runs types choices buffer (asked ++ command.Read sample ∷ []) new_state all new) told runs) in
        let parts = cut choices types buffer came.before (command.Receive came.subscriber ∷ behind) new_state new
        (came.first ++ reply.Received sample came.values ∷ told_behind) whole in
        let (first, ends) = cancel came.first parts.early (reply.Received sample came.values ∷ told_behind) parts.late
        (omega (arith, came.long, parts.long)) parts.are in
        let (after, step) = first_step parts.mid new parts.late told_behind behind ends parts.goes in
        let (publisher, service, message, of_subscriber, of_publisher, taken, given, began) =
        received types buffer came.before parts.early parts.mid parts.went came.subscriber sample came.values after step in
        let sent = began_so publisher service.name service.settings message.values came.before new_state parts.mid parts.early parts.went
        began in
        let reads : vec_items read ≡ vec_items came.values =
        read_so choices types buffer the_same came.before came.later came.first came.told came.subscriber sample came.values read new
        came.long
        (subst (λ all. Runs types choices buffer all new_state
        ((came.first ++ reply.Received sample came.values ∷ []) ++ came.told ++ reply.Values read ∷ []) new)
        (ap (λ (all : List (Command T)). all ++ command.Read sample ∷ []) came.are
        ∙ regrouped came.before came.later (command.Read sample ∷ []) (command.Receive came.subscriber))
        (subst (λ all. Runs types choices buffer (asked ++ command.Read sample ∷ []) new_state all new)
        (ap (λ (all : List (Reply T)). all ++ reply.Values read ∷ []) came.answered
        ∙ regrouped came.first came.told (reply.Values read ∷ []) (reply.Received sample came.values)) runs)) in
        let values : message.values ≡ vec_items read = sym given ∙ sym reads in
        subst (λ (all : List (Command T)). WasSentBefore types choices buffer sample (vec_items read) all answers) (sym came.are)
        (subst (λ (all : List (Reply T)). WasSentBefore types choices buffer sample (vec_items read)
        (came.before ++ command.Receive came.subscriber ∷ came.later) all) (sym came.answered) (record {
          received = length came.before;
          subscriber = came.subscriber;
          told = came.values;
          is_received = found_behind came.before came.later (command.Receive came.subscriber);
          is_told = subst (λ (n : ℕ). slice_get (came.first ++ reply.Received sample came.values ∷ came.told) n
              ≡ Some (reply.Received sample came.values)) came.long
              (found_behind came.first came.told (reply.Received sample came.values));
          same = sym reads;
          sent = sent.sent;
          publisher = publisher;
          answer = sent.answer;
          before = sent.within;
          sending = sent.sending;
          ran_first = subst (λ (all : List (Command T)). Runs types choices buffer all new_state
              (take sent.sent (came.first ++ reply.Received sample came.values ∷ came.told)) sent.sending)
              (sym (taken_within came.before (command.Receive came.subscriber ∷ came.later) sent.sent sent.within))
              (subst (λ (all : List (Reply T)). Runs types choices buffer (take sent.sent came.before) new_state all sent.sending)
              (sym (taken_within came.first (reply.Received sample came.values ∷ came.told) sent.sent
              (omega (arith, sent.within, came.long)) ∙ ap (λ (all : List (Reply T)). take sent.sent all) first)) sent.ran_first);
          is_sent = sent_ahead publisher message.values (vec_items read) came.before (command.Receive came.subscriber ∷ came.later)
              sent.sent sent.sending values sent.is_sent;
          is_answered = found_ahead came.first (reply.Received sample came.values ∷ came.told) sent.sent sent.answer
              (subst (λ (all : List (Reply T)). slice_get all sent.sent ≡ Some sent.answer) (sym first) sent.is_answered);
          begun = begun_so sent.answer sent.begun;
          state = parts.mid;
          ran = subst (λ (all : List (Command T)). Runs types choices buffer all new_state
              (take (length came.before) (came.first ++ reply.Received sample came.values ∷ came.told)) parts.mid)
              (sym (taken_ahead came.before (command.Receive came.subscriber ∷ came.later)))
              (subst (λ (all : List (Reply T)). Runs types choices buffer came.before new_state all parts.mid)
              (sym (ap (λ (n : ℕ). take n (came.first ++ reply.Received sample came.values ∷ came.told)) (sym came.long)
              ∙ (taken_ahead came.first (reply.Received sample came.values ∷ came.told) ∙ first))) parts.went);
          service = service;
          of_subscriber = of_subscriber;
          of_publisher = of_publisher;
        }))

-- where the machine may answer so to commands, and to the read of a sample that came by one of them, what is read was sent before
pub reads_as_sent : {T : Type 0} (choices : Choices T) → ReceivedWasSent choices → SamplesReadTheSame choices
    → (types : MessageTypeDetails) (buffer : ℕ) (asked : List (Command T)) (answers : List (Reply T)) (sample : ℕ) (read : Vec T)
    → HasCome sample asked answers
    → Answers types choices buffer (asked ++ command.Read sample ∷ []) false (answers ++ reply.Values read ∷ [])
    → WasSentBefore types choices buffer sample (vec_items read) asked answers
reads_as_sent choices received the_same types buffer asked answers sample read came (some, rest, new, are, none, runs) =
    sent_before choices types buffer received the_same asked answers sample read came new
    (subst (λ all. Runs types choices buffer all new_state (answers ++ reply.Values read ∷ []) new)
    (sym (are ∙ (ap (λ more. some ++ more) none ∙ append-nil some))) runs)
