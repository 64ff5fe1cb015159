-- The laws of sequence numbers: how they go on, that they stay, and that a read gives them.
use Rattle.std.proofs.Common.{ℕ, ◌≡◌, ◌+◌, ◌<◌, ◌≤◌, ◌^◌, List, [], ◌∷◌, ◌++◌, length, map, drop, get_or, slice_get, Some}
use Rattle.std.proofs.Common.{◌⊎◌, true, Option, None, append-nil, refl, sym, ◌∙◌, ap, subst, inl, inr, arith}
use Rattle.std.proofs.lemmas.List.{get_or-append-add}
use Rattle.iox_lanes_machine.specs.LanesBase.declared.words.sizes.TableSizes.{TableSizes}
use Rattle.iox_lanes_machine.specs.LanesParties.Parties.{PublisherLaneState}
use Rattle.iox_lanes_machine.specs.LanesParties.declared.call.Call.{Call}
use Rattle.iox_lanes_machine.specs.LanesParties.declared.call.Call.TheVariants as call
use Rattle.iox_lanes_machine.specs.LanesParties.declared.call.Move.{Move}
use Rattle.iox_lanes_machine.specs.LanesParties.declared.call.Move.TheVariants.{Begin, GoOn}
use Rattle.iox_lanes_machine.specs.LanesParties.declared.call.Party.{Party}
use Rattle.iox_lanes_machine.specs.LanesParties.declared.call.Party.TheVariants.{Publisher, Subscriber}
use Rattle.iox_lanes_machine.specs.QueuesSteps.declared.schedule.Stepped.TheVariants as stepped
use Rattle.iox_lanes_machine.specs.Alone.{IsAtConnection, IsRemembered}
use Rattle.iox_lanes_machine.specs.WholeReads.{CameTo}
use Rattle.iox_lanes_machine.specs.World.{fits, World}
use Rattle.iox_lanes_machine.proofs.Ends.{some_is}
use Rattle.iox_lanes_machine.proofs.Paces.{came_kept}
use Rattle.iox_lanes_machine.proofs.ReturnSteps.{happens_ends}
use Rattle.iox_lanes_laws.specs.Messages.{begun_messages, message_of, MessageState, sent_by}
use Rattle.iox_lanes_laws.specs.Numbered.{last_number}
use Rattle.iox_lanes_laws.specs.Recorded.{ArePast, RecordState}
use Rattle.iox_lanes_laws.specs.Sequences.{UsedSlotsKeepMessages, CountUp, messages_of, ReadsGiveSequences, sent_between, sequence_of}
use Rattle.iox_lanes_laws.specs.Sequences.{SequencesCountUp}
use Rattle.iox_lanes_laws.proofs.NumberedOrders.{in_another, late_number, same_last}
use Rattle.iox_lanes_laws.proofs.Records.{reads_give_messages}
use Rattle.iox_lanes_laws.proofs.SequenceRuns.{CountsOn, run_leads, step_counts, StepsKeep}
use Rattle.iox_lanes_laws.proofs.Whole.{used_slots_send_nothing}

pub drop_first : (xs ys : List MessageState) → drop (length xs) (xs ++ ys) ≡ ys
drop_first [] ys = refl
drop_first (x ∷ xs) ys = drop_first xs ys

-- headers have room for a number, and the numbers of a publisher count up
abbrev pub Counted : ℕ → ℕ → World → List MessageState → List MessageState → Type 0
Counted who last m ms sent = (0 < m.table.sizes.user_header_words) × CountsOn who last m.publishers m.moments sent

pub counted_on : (who last : ℕ) → last < 2 ^ 63 → StepsKeep (Counted who last)
counted_on who last low m party step ms sent fit k less h = (
  subst (λ (sizes : TableSizes). 0 < sizes.user_header_words) (sym (happens_ends m party step fit k.returns).sizes) h.0,
  step_counts who last m party step sent fit k less low h.0 h.1,
)

pub counted_first : (who last : ℕ) (m : World) (lane : PublisherLaneState) → slice_get m.publishers who ≡ Some lane
    → lane.last ≡ Some last → CountsOn who last m.publishers m.moments []
counted_first who last m lane found gave = record {
  given = λ now at. ap (λ (l : PublisherLaneState). l.last) (some_is now lane (sym at ∙ found)) ∙ gave
      ∙ ap (λ (n : ℕ). Some n) (omega arith);
  counts = tt;
  few = omega arith;
}

pub sequences_count_up : SequencesCountUp
sequences_count_up r entries made n came run few wide who last lane found gave low =
    let k = (came_kept r.lanes came).0 in
    let led = run_leads (Counted who last) (counted_on who last low) r.messages r entries made n run few k []
    (sym (append-nil r.messages)) (wide, counted_first who last r.lanes lane found gave) in
    let are : sent_between r n who ≡ messages_of who led.sent
    = ap (messages_of who) (ap (drop (length r.messages)) led.are ∙ drop_first r.messages led.sent) in
    let on : CountsOn who last n.lanes.publishers n.lanes.moments led.sent = (led.holds).1 in (
      subst (λ (xs : List MessageState). CountUp last (map sequence_of xs)) (sym are) on.counts,
      λ after at. on.given after at ∙ ap (λ (xs : List MessageState). Some (last + length xs)) (sym are),
    )

pub reads_give_sequences : ReadsGiveSequences
reads_give_sequences r entries made n came between held early run few party step answer after h call slot more is number message last at =
    ap (λ (ws : List ℕ). get_or ws (length n.lanes.read + 3) 0)
    (reads_give_messages r entries made n came between held early run few party step answer after h call slot more is number message
    last at)
    ∙ get_or-append-add n.lanes.read message.words 3 0

-- at most one message begins at a step
at_most_one : (m : World) (place : ℕ) (c : Call) (at : Option PublisherLaneState)
    → (sent_by m place c at ≡ []) ⊎ ((message : MessageState) × (sent_by m place c at ≡ message ∷ []))
at_most_one m place c None = inl refl
at_most_one m place call.LoanUninit (Some lane) = inl refl
at_most_one m place (call.Write loan payload user_header) (Some lane) = inl refl
at_most_one m place (call.Send loan) (Some lane) = inr (message_of m.table m.moments place loan lane, refl)
at_most_one m place (call.DropLoan loan) (Some lane) = inl refl
at_most_one m place call.Receive (Some lane) = inl refl
at_most_one m place (call.Read sample) (Some lane) = inl refl
at_most_one m place (call.Release sample) (Some lane) = inl refl

begins_one : (m : World) (party : Party) (step : Move)
    → (begun_messages m party step ≡ []) ⊎ ((message : MessageState) × (begun_messages m party step ≡ message ∷ []))
begins_one m (Publisher place) (Begin c) = at_most_one m place c (slice_get m.publishers place)
begins_one m (Publisher place) GoOn = inl refl
begins_one m (Subscriber place) step = inl refl

-- a step leaves the message that a used slot has
module _ (r : RecordState) (came : CameTo r.lanes) (past : ArePast r.lanes r.messages) (few : r.lanes.moments ≤ 2 ^ 63) (slot : ℕ)
    (used : IsRemembered r.lanes slot ⊎ IsAtConnection r.lanes slot) (moment : ℕ) (late : r.lanes.moments ≤ moment) where
  abbrev was : Option ℕ
  was = last_number r.messages slot r.lanes.moments (length r.messages)

  stays : last_number r.messages slot moment (length r.messages) ≡ was
  stays = late_number r.messages slot r.lanes.moments moment (length r.messages) past late

  same_in : (ms : List MessageState) → ms ≡ r.messages → last_number ms slot moment (length ms) ≡ was
  same_in ms same = ap (λ (xs : List MessageState). last_number xs slot moment (length xs)) same ∙ stays

  stays_made : (party : Party) (step : Move) (ms : List MessageState) → fits r.lanes party step ≡ true
      → ms ≡ r.messages ++ begun_messages r.lanes party step → last_number ms slot moment (length ms) ≡ was
  stays_made party step ms fit are = elim (begins_one r.lanes party step) [
    | inl none ↦ same_in ms (are ∙ ap (λ (xs : List MessageState). r.messages ++ xs) none ∙ append-nil r.messages)
    | inr one ↦
        let other : one.0.slot ≡ slot → ⊥ = λ same. used_slots_send_nothing r.lanes came few slot used party step one.0 fit one.1 same in
        ap (λ (xs : List MessageState). last_number xs slot moment (length xs))
        (are ∙ ap (λ (xs : List MessageState). r.messages ++ xs) one.1)
        ∙ same_last r.messages one.0 slot moment (in_another one.0 slot moment other) ∙ stays
  ]

pub used_slots_keep_messages : UsedSlotsKeepMessages
used_slots_keep_messages r came past few slot used party step stepped.Went n h moment late
    = stays_made r came past few slot used moment late party step n.messages h.0.0 h.1
used_slots_keep_messages r came past few slot used party step stepped.Finished n h moment late
    = stays_made r came past few slot used moment late party step n.messages h.0.0 h.1
used_slots_keep_messages r came past few slot used party step stepped.Skipped n h moment late
    = same_in r came past few slot used moment late n.messages (ap (λ (x : RecordState). x.messages) h.1)
used_slots_keep_messages r came past few slot used party step stepped.NoMemory n h moment late
    = same_in r came past few slot used moment late n.messages (ap (λ (x : RecordState). x.messages) h.2)
