-- Runs of lanes that keep messages, one step after the other.
use Rattle.std.proofs.Common.{ℕ, zero, suc, ◌≡◌, ◌+◌, ◌<◌, ◌≤◌, ◌^◌, ◌==◌, ◌&&◌, Bool, true, false, nat_le, if◌then◌else◌, List, [], ◌∷◌}
use Rattle.std.proofs.Common.{◌++◌, length, take, get_or, slice_get, Option, None, Some, append_assoc, append-nil, refl, sym, ◌∙◌, ap, ap₂}
use Rattle.std.proofs.Common.{subst, inl, inr, arith}
use Rattle.std.specs.List.{All}
use Rattle.std.proofs.lemmas.Bool.{le-leb}
use Rattle.std.proofs.lemmas.Bool.Decides.{eqb_tells}
use Rattle.std.proofs.lemmas.List.{take_all, take_more}
use Rattle.std.proofs.lemmas.List.Elements.{All-append, All-cons, All-get_or, All-nil, All-weaker}
use Rattle.std.proofs.lemmas.Option.{slice_get-get_or}
use Rattle.iox_lanes_machine.specs.QueuesSteps.Schedule.{count_of}
use Rattle.iox_lanes_machine.specs.QueuesSteps.declared.schedule.Stepped.{Stepped}
use Rattle.iox_lanes_machine.specs.QueuesSteps.declared.schedule.Stepped.TheVariants as stepped
use Rattle.iox_lanes_machine.specs.LanesParties.Parties.{PublisherLaneState}
use Rattle.iox_lanes_machine.specs.LanesParties.declared.call.Call.{Call}
use Rattle.iox_lanes_machine.specs.LanesParties.declared.call.Call.TheVariants as call
use Rattle.iox_lanes_machine.specs.LanesParties.declared.call.CallName.TheVariants as name
use Rattle.iox_lanes_machine.specs.LanesParties.declared.call.Entry.{Entry}
use Rattle.iox_lanes_machine.specs.LanesParties.declared.call.FinishedCall.{FinishedCall}
use Rattle.iox_lanes_machine.specs.LanesParties.declared.call.Move.{Move}
use Rattle.iox_lanes_machine.specs.LanesParties.declared.call.Move.TheVariants.{Begin, GoOn}
use Rattle.iox_lanes_machine.specs.LanesParties.declared.call.Party.{Party}
use Rattle.iox_lanes_machine.specs.LanesParties.declared.call.Party.TheVariants.{Publisher, Subscriber}
use Rattle.iox_lanes_machine.specs.Held.{slot_held}
use Rattle.iox_lanes_machine.specs.Resting.{AllBetween}
use Rattle.iox_lanes_machine.specs.WholeReads.{CameTo}
use Rattle.iox_lanes_machine.specs.World.{World, fits, happens}
use Rattle.iox_lanes_machine.proofs.Held.{none_more}
use Rattle.iox_lanes_machine.proofs.Steps.{happens_moments}
use Rattle.iox_lanes_laws.specs.Messages.{MessageState, begun_messages, last_in, message_of, sent_by}
use Rattle.iox_lanes_laws.specs.Numbered.{last_number, was_sent_by}
use Rattle.iox_lanes_laws.specs.Recorded.{RecordState, recorded_after, RecordsTo, RecordsRun, AreAsHeld, ArePast, ReadsGiveMessages}
use Rattle.iox_lanes_laws.specs.Recorded.{ReadsGiveWhatIsKept}
use Rattle.iox_lanes_laws.specs.WholeMessages.{SendsThrough}
use Rattle.iox_lanes_laws.proofs.Founds.{last_held}
use Rattle.iox_lanes_laws.proofs.Whole.{few_before, grows, reads_give_what_was_sent, up}
use Rattle.iox_lanes_laws.proofs.Words.{last_append, last_other, last_same}

made_of : (n : RecordState) (lanes : World) (messages : List MessageState) → n.lanes ≡ lanes → n.messages ≡ messages
    → n ≡ record { lanes = lanes; messages = messages }
made_of n lanes messages e f = ap₂ (λ (l : World) (ms : List MessageState). record { lanes = l; messages = ms }) e f

-- a step, and a run of the rest
pub run_more : (r : RecordState) (entry : Entry) (entries : List Entry) (answer : Stepped) (next n : RecordState) (k made : ℕ)
    → RecordsTo r entry.party entry.step answer next → made ≡ count_of answer + k → RecordsRun next entries k n
    → RecordsRun r (entry ∷ entries) made n
run_more r entry entries stepped.Went next n k made h e g
    = inr (inl (
      h.0.0,
      (
        k,
        omega arith,
        subst (λ (x : RecordState). RecordsRun x entries k n)
            (made_of next (happens r.lanes entry.party entry.step) (r.messages ++ begun_messages r.lanes entry.party entry.step) h.0.2
            h.1) g,
      ),
    ))
run_more r entry entries stepped.Finished next n k made h e g
    = inr (inl (
      h.0.0,
      (
        k,
        omega arith,
        subst (λ (x : RecordState). RecordsRun x entries k n)
            (made_of next (happens r.lanes entry.party entry.step) (r.messages ++ begun_messages r.lanes entry.party entry.step) h.0.2
            h.1) g,
      ),
    ))
run_more r entry entries stepped.Skipped next n k made h e g =
    inl (h.0, subst (λ (i : ℕ). RecordsRun r entries i n) (omega arith) (subst (λ (x : RecordState). RecordsRun x entries k n) h.1 g))
run_more r entry entries stepped.NoMemory next n k made h e g =
    inr (inr (
      h.0,
      h.1,
      subst (λ (i : ℕ). RecordsRun r entries i n) (omega arith)
          (subst (λ (x : RecordState). RecordsRun x entries k n) h.2 g),
    ))

-- what a run leaves, told of the lanes alone
pub record Sends (r n : RecordState) : Type 0 where
  pub entries : List Entry
  pub sent : List MessageState
  pub through : SendsThrough r.lanes entries sent n.lanes
  pub kept : n.messages ≡ r.messages ++ sent

none_sent : (r n : RecordState) → n ≡ r → Sends r n
none_sent r n h = record {
  entries = [];
  sent = [];
  through = (refl, ap (λ (x : RecordState). x.lanes) h);
  kept
      = ap (λ (x : RecordState). x.messages) h ∙ sym (append-nil r.messages);
}

pub sends : (r : RecordState) (entries : List Entry) (made : ℕ) (n : RecordState) → RecordsRun r entries made n → Sends r n
sends r [] made n h = none_sent r n h.1
sends r (entry ∷ entries) made n (inl h) = sends r entries made n h.1
sends r (entry ∷ entries) made n (inr (inl h)) =
    let rest = sends (recorded_after r entry.party entry.step) entries (h.1).0 n (h.1).2 in
    record {
      entries = entry ∷ rest.entries;
      sent = begun_messages r.lanes entry.party entry.step ++ rest.sent;
      through = inr (h.0, (rest.sent, refl, rest.through));
      kept = rest.kept ∙ append_assoc r.messages (begun_messages r.lanes entry.party entry.step) rest.sent;
    }
sends r (entry ∷ entries) made n (inr (inr h)) = sends r entries made n h.2

-- what was kept as slots held it says of no slot but what it held
kept_last : (held : List ℕ) (r n : RecordState) (sent : List MessageState) (slot : ℕ) → held ≡ slot_held r.lanes.table slot
    → AreAsHeld r.lanes r.messages → n.messages ≡ r.messages ++ sent → last_in held n.messages slot ≡ last_in held sent slot
kept_last held r n sent slot is kept_so kept =
    ap (λ (ms : List MessageState). last_in held ms slot) kept ∙ last_append held r.messages sent slot
    ∙ ap (λ (ws : List ℕ). last_in ws sent slot) (last_held r.lanes.table held r.messages slot kept_so is ∙ sym is)

-- a read that ends at a step that fits
read_kept : (r : RecordState) (entries : List Entry) (made : ℕ) (n : RecordState) → CameTo r.lanes → AllBetween r.lanes
    → AreAsHeld r.lanes r.messages → RecordsRun r entries made n → n.lanes.moments ≤ 2 ^ 63 → (party : Party) (step : Move)
    → (after : World) → fits n.lanes party step ≡ true → after ≡ happens n.lanes party step → (ended : FinishedCall) (slot : ℕ)
    → after.finished ≡ n.lanes.finished ++ ended ∷ [] → ended.call ≡ name.Read slot
    → after.read ≡ n.lanes.read ++ last_in (slot_held r.lanes.table slot) n.messages slot
read_kept r entries made n came between held run few party step after fit same ended slot more is =
    let s = sends r entries made n run in
    let now : (happens n.lanes party step).finished ≡ n.lanes.finished ++ ended ∷ [] = ap (λ (x : World). x.finished) (sym same) ∙ more in
    ap (λ (x : World). x.read) same ∙ reads_give_what_was_sent r.lanes came between s.entries s.sent n.lanes s.through few party step
    ended slot fit now is
    ∙ ap (λ (ws : List ℕ). n.lanes.read ++ ws) (sym (kept_last (slot_held r.lanes.table slot) r n s.sent slot refl held s.kept))

pub reads_give_what_is_kept : ReadsGiveWhatIsKept
reads_give_what_is_kept r entries made n came between held run few party step stepped.Went after h ended slot more is
    = read_kept r entries made n came between held run few party step after.lanes h.0.0 h.0.2 ended slot more is
reads_give_what_is_kept r entries made n came between held run few party step stepped.Finished after h ended slot more is
    = read_kept r entries made n came between held run few party step after.lanes h.0.0 h.0.2 ended slot more is
reads_give_what_is_kept r entries made n came between held run few party step stepped.Skipped after h ended slot more is
    = absurd (none_more n.lanes.finished ended (sym (ap (λ (x : RecordState). x.lanes.finished) h.1) ∙ more))
reads_give_what_is_kept r entries made n came between held run few party step stepped.NoMemory after h ended slot more is
    = absurd (none_more n.lanes.finished ended (sym (ap (λ (x : RecordState). x.lanes.finished) h.2) ∙ more))

-- so is nothing
none_early : (m : World) → ArePast m []
none_early m = All-nil (λ message. message.moment ≤ m.moments)

-- what begins begins now
begun_early : (m : World) (place : ℕ) (c : Call) (at : Option PublisherLaneState) → ArePast m (sent_by m place c at)
begun_early m place c None = none_early m
begun_early m place call.LoanUninit (Some lane) = none_early m
begun_early m place (call.Write loan payload user_header) (Some lane) = none_early m
begun_early m place (call.Send loan) (Some lane) =
    All-cons (λ message. message.moment ≤ m.moments) (message_of m.table m.moments place loan lane) [] (omega arith) (none_early m)
begun_early m place (call.DropLoan loan) (Some lane) = none_early m
begun_early m place call.Receive (Some lane) = none_early m
begun_early m place (call.Read sample) (Some lane) = none_early m
begun_early m place (call.Release sample) (Some lane) = none_early m

pub step_early : (m : World) (party : Party) (step : Move) → ArePast m (begun_messages m party step)
step_early m (Publisher place) (Begin c) = begun_early m place c (slice_get m.publishers place)
step_early m (Publisher place) GoOn = none_early m
step_early m (Subscriber place) step = none_early m

-- and then it is early, as all else is
pub later : (now late : ℕ) (one other : List MessageState) → now ≤ late → All (λ (message : MessageState). message.moment ≤ now) one
    → All (λ (message : MessageState). message.moment ≤ now) other
    → All (λ (message : MessageState). message.moment ≤ late) (one ++ other)
later now late one other up early more =
    All-weaker (λ (message : MessageState). message.moment ≤ now) (λ (message : MessageState). message.moment ≤ late)
    (λ message before. omega (arith, up, before)) (one ++ other)
    (All-append (λ (message : MessageState). message.moment ≤ now) one other early more)

run_early : (r : RecordState) (entries : List Entry) (made : ℕ) (n : RecordState) → RecordsRun r entries made n → n.lanes.moments ≤ 2 ^ 63
    → ArePast r.lanes r.messages → ArePast n.lanes n.messages
run_early r [] made n h few early = subst (λ (x : RecordState). ArePast x.lanes x.messages) (sym h.1) early
run_early r (entry ∷ entries) made n (inl h) few early = run_early r entries made n h.1 few early
run_early r (entry ∷ entries) made n (inr (inl h)) few early =
    let after = recorded_after r entry.party entry.step in
    let s = sends after entries (h.1).0 n (h.1).2 in
    let rest = grows after.lanes s.entries s.sent n.lanes s.through few in
    let next = happens_moments r.lanes entry.party entry.step h.0 in
    let bound : r.lanes.moments < 2 ^ 63 = few_before r.lanes.moments n.lanes.moments (omega (arith, next, rest)) few in
    run_early after entries (h.1).0 n (h.1).2 few
    (later r.lanes.moments after.lanes.moments r.messages (begun_messages r.lanes entry.party entry.step)
    (omega (arith, next, up r.lanes.moments bound)) early (step_early r.lanes entry.party entry.step))
run_early r (entry ∷ entries) made n (inr (inr h)) few early = run_early r entries made n h.2 few early

-- the message of the number that a slot has by now is the last one that is in it
number_words : (before : List ℕ) (messages : List MessageState) (slot moment count number : ℕ) (message : MessageState)
    → count ≤ length messages → All (λ (one : MessageState). one.moment ≤ moment) messages → last_number messages slot moment count
    ≡ Some number
    → slice_get messages number ≡ Some message → last_in before (take count messages) slot ≡ message.words
number_words before messages slot moment zero number message within early last at = absurd (cc last)
number_words before messages slot moment (suc count) number message within early last at =
    let there : count < length messages = omega (arith, within) in
    let here : MessageState = get_or messages count message in
    let got : slice_get messages count ≡ Some here = slice_get-get_or messages count message there in
    let on : suc count ≡ count + 1 = omega arith in
    let split : last_in before (take (suc count) messages) slot ≡ last_in (last_in before (take count messages) slot) (here ∷ []) slot =
    ap (λ (i : ℕ). last_in before (take i messages) slot) on
    ∙ ap (λ (ms : List MessageState). last_in before ms slot) (take_more messages count message there)
    ∙ last_append before (take count messages) (here ∷ []) slot in
    let early_here : nat_le here.moment moment ≡ true = le-leb here.moment moment
    (All-get_or (λ (one : MessageState). one.moment ≤ moment) messages count message there early) in
    let asked : was_sent_by slot moment (slice_get messages count) ≡ (here.slot == slot) && nat_le here.moment moment
    = ap (was_sent_by slot moment) got in
    elim (eqb_tells here.slot slot) [
      | inl same ↦
          let yes_sent : was_sent_by slot moment (slice_get messages count) ≡ true
          = asked ∙ ap (λ (b : Bool). b && nat_le here.moment moment) same.0 ∙ early_here in
          let is : Some count ≡ Some number
          = sym (ap (λ (b : Bool). if b then Some count else last_number messages slot moment count) yes_sent)
          ∙ last in
          let same_number : count ≡ number = cc is in
          let is_message : Some here ≡ Some message = sym got ∙ ap (slice_get messages) same_number ∙ at in
          split ∙ last_same (last_in before (take count messages) slot) here slot same.1 ∙ ap words_or_none is_message
      | inr other ↦
          let not_sent : was_sent_by slot moment (slice_get messages count) ≡ false
          = asked ∙ ap (λ (b : Bool). b && nat_le here.moment moment) other.0 in
          let earlier : last_number messages slot moment count ≡ Some number
          = sym (ap (λ (b : Bool). if b then Some count else last_number messages slot moment count) not_sent) ∙ last in
          split ∙ last_other (last_in before (take count messages) slot) here slot other.1
          ∙ number_words before messages slot moment count number message (omega (arith, within)) early earlier at
    ]
  where
    words_or_none : Option MessageState → List ℕ
    words_or_none None = []
    words_or_none (Some one) = one.words

-- a read that ends gives the message of the number that its slot has
read_message : (r : RecordState) (entries : List Entry) (made : ℕ) (n : RecordState) → ArePast r.lanes r.messages
    → RecordsRun r entries made n → n.lanes.moments ≤ 2 ^ 63 → (slot number : ℕ) (message : MessageState)
    → last_number n.messages slot n.lanes.moments (length n.messages) ≡ Some number → slice_get n.messages number ≡ Some message
    → last_in (slot_held r.lanes.table slot) n.messages slot ≡ message.words
read_message r entries made n early run few slot number message last at =
    ap (λ (ms : List MessageState). last_in (slot_held r.lanes.table slot) ms slot)
    (sym (take_all (length n.messages) n.messages (omega arith)))
    ∙ number_words (slot_held r.lanes.table slot) n.messages slot n.lanes.moments (length n.messages) number message (omega arith)
    (run_early r entries made n run few early) last at

pub reads_give_messages : ReadsGiveMessages
reads_give_messages r entries made n came between held early run few party step answer after h ended slot more is number message last at =
    reads_give_what_is_kept r entries made n came between held run few party step answer after h ended slot more is
    ∙ ap (λ (ws : List ℕ). n.lanes.read ++ ws) (read_message r entries made n early run few slot number message last at)
