-- What a write leaves of user headers, and what a send and a read make of that.
use Rattle.std.proofs.Common.{ℕ, zero, suc, ◌≡◌, ◌+◌, ◌-◌, ◌==◌, ◌&&◌, Bool, true, if◌then◌else◌, List, [], ◌∷◌, ◌++◌, length}
use Rattle.std.proofs.Common.{get_or, set, slice_get, Option, Some, refl, sym, ◌∙◌, ap, subst, inr, arith}
use Rattle.std.specs.Global.{Vec}
use Rattle.std.proofs.lemmas.Bool.{eq-eqb}
use Rattle.std.proofs.lemmas.List.{get_or-set_same, get_or-set_other}
use Rattle.iox_lanes_machine.specs.LanesBase.Publishing.{publisher_is_idle}
use Rattle.iox_lanes_machine.specs.LanesParties.Parties.{PublisherLaneState, is_out, kept_head, publisher_may, publisher_begun}
use Rattle.iox_lanes_machine.specs.LanesParties.Parties.{with_user_header}
use Rattle.iox_lanes_machine.specs.LanesParties.PublisherKeeping.{loan_of}
use Rattle.iox_lanes_machine.specs.LanesParties.Sequences.{number_after, with_number}
use Rattle.iox_lanes_machine.specs.LanesParties.Within.{IsPublisher}
use Rattle.iox_lanes_machine.specs.LanesParties.declared.call.Call.{Call}
use Rattle.iox_lanes_machine.specs.LanesParties.declared.call.Call.TheVariants as call
use Rattle.iox_lanes_machine.specs.LanesParties.declared.call.Entry.{Entry}
use Rattle.iox_lanes_machine.specs.LanesParties.declared.call.Move.TheVariants.{Begin, GoOn}
use Rattle.iox_lanes_machine.specs.LanesParties.declared.call.Party.TheVariants.{Publisher}
use Rattle.iox_lanes_machine.proofs.LanesParties.Rings.{all_at, and_left, and_right}
use Rattle.iox_lanes_machine.specs.Held.{slot_held}
use Rattle.iox_lanes_machine.specs.Kept.{IsKept}
use Rattle.iox_lanes_machine.specs.World.{World, happens}
use Rattle.iox_lanes_machine.proofs.Alone.{loan_within}
use Rattle.iox_lanes_machine.proofs.Ends.{some_is}
use Rattle.iox_lanes_machine.proofs.Paces.{came_kept}
use Rattle.iox_lanes_machine.proofs.Within.{set_same}
use Rattle.iox_lanes_laws.specs.Messages.{MessageState, begun_messages, last_in, payload_held, sent_by}
use Rattle.iox_lanes_laws.specs.Turns.{GoesToEnd, IsInTurn}
use Rattle.iox_lanes_laws.specs.UserHeaders.{WritesKeepUserHeaders, written_words, SendsBeginAsWritten}
use Rattle.iox_lanes_laws.specs.UserHeaders.{ReadsGiveWhatWasWritten}
use Rattle.iox_lanes_laws.proofs.Ends.{calls_end_in_turn}
use Rattle.iox_lanes_laws.proofs.Payloads.{publishers_stay_in_turn, writes_hold_in_turn}
use Rattle.iox_lanes_laws.proofs.Publishers as publishers
use Rattle.iox_lanes_laws.proofs.Publishers.{next_lane}
use Rattle.iox_lanes_laws.proofs.Whole.{reads_give_what_was_sent}

-- inside a call a publisher keeps what it kept for its slots as the call began
record KeepsHeads (begun : PublisherLaneState) (lane : PublisherLaneState) : Type 0 where
  heads : lane.heads ≡ begun.heads
  last : lane.last ≡ begun.last

heads_at_end : (place more : ℕ) (k n : World) (begun lane after : PublisherLaneState) → slice_get k.publishers place ≡ Some lane
    → KeepsHeads begun lane → GoesToEnd (Publisher place) more k n → slice_get n.publishers place ≡ Some after → KeepsHeads begun after
heads_at_end place zero k n begun lane after found s h there =
    let is : next_lane k lane ≡ after
    = some_is (next_lane k lane) after
    (sym (ap (λ (w : World). slice_get w.publishers place) (h.2 ∙ publishers.goes_is k place lane found)
    ∙ set_same k.publishers place (next_lane k lane) lane found) ∙ there) in
    subst (KeepsHeads begun) is (record { heads = s.heads; last = s.last })
heads_at_end place (suc more) k n begun lane after found s h there =
    heads_at_end place more (happens k (Publisher place) GoOn) n begun (next_lane k lane) after
    (ap (λ (w : World). slice_get w.publishers place) (publishers.goes_is k place lane found)
    ∙ set_same k.publishers place (next_lane k lane) lane found)
    (record { heads = s.heads; last = s.last })
    (subst (λ (w : World). GoesToEnd (Publisher place) more w n) (h.1).2 h.2) there

-- a whole write
heads_behind : (m n : World) (place : ℕ) (c : Call) (before after : PublisherLaneState) → IsInTurn m (Publisher place) c n
    → slice_get m.publishers place ≡ Some before → slice_get n.publishers place ≡ Some after
    → KeepsHeads (publisher_begun m.moments c before) after
heads_behind m n place c before after t found there =
    heads_at_end place t.more (happens m (Publisher place) (Begin c)) n (publisher_begun m.moments c before)
    (publisher_begun m.moments c before) after
    (ap (λ (w : World). slice_get w.publishers place) (publishers.begins_is m place c before found)
    ∙ set_same m.publishers place (publisher_begun m.moments c before) before found)
    (record { heads = refl; last = refl })
    (subst (λ (w : World). GoesToEnd (Publisher place) t.more w n) t.begins.2 t.goes) there

-- the loan that a write names
loan_written : (m n : World) (place slot : ℕ) (payload user_header : Vec ℕ) (before : PublisherLaneState)
    → IsInTurn m (Publisher place) (call.Write slot payload user_header) n → slice_get m.publishers place ≡ Some before
    → is_out (loan_of slot before.port.book) ≡ true
loan_written m n place slot payload user_header before t found =
    and_left (is_out (loan_of slot before.port.book)) (length payload.items == length before.port.payload)
    (and_left (is_out (loan_of slot before.port.book) && (length payload.items == length before.port.payload))
    (3 + length user_header.items == length before.port.head)
    (and_right (publisher_is_idle before.port.call) (publisher_may before (call.Write slot payload user_header))
    (publishers.fits_is m place (call.Write slot payload user_header) before found t.begins.0)))

pub writes_keep_user_headers : WritesKeepUserHeaders
writes_keep_user_headers = λ m n place slot payload user_header before after t found there.
    let k : IsKept m = (came_kept m t.came).0 in
    let is : IsPublisher m.table.sizes before
    = all_at (IsPublisher m.table.sizes) m.publishers place before found k.within.publishers in
    let own = loan_within m place slot
    (record { lane = before; found = found; out = loan_written m n place slot payload user_header before t found }) in
    let s = heads_behind m n place (call.Write slot payload user_header) before after t found there in
    let stays = publishers_stay_in_turn m n place (call.Write slot payload user_header) before t found in
    let same : (stays.1).0 ≡ after = some_is (stays.1).0 after (sym (stays.1).1 ∙ there) in
    let first : after.port.book.first ≡ before.port.book.first
    = ap (λ (x : PublisherLaneState). x.port.book.first) (sym same) ∙ ((stays.1).2).first in
    let head : List ℕ = with_user_header (kept_head slot before) user_header.items in
    let at : (other : ℕ) → kept_head other after
    ≡ get_or (set before.heads (slot - before.port.book.first) head) (other - before.port.book.first) []
    = λ other. ap (λ (hs : List (List ℕ)). get_or hs (other - after.port.book.first) []) s.heads
    ∙ ap (λ (i : ℕ). get_or (set before.heads (slot - before.port.book.first) head) (other - i) []) first in
    record {
      own = at slot ∙ get_or-set_same before.heads (slot - before.port.book.first) head [] (omega (arith, own.0, own.1, is.heads));
      others = λ other mine apart. at other ∙ get_or-set_other before.heads (slot - before.port.book.first)
          (other - before.port.book.first) head [] (λ e. apart (omega (arith, e, own.0, mine.above)));
      last = s.last;
    }

abbrev message : World → ℕ → ℕ → List ℕ → MessageState
message n place slot words = record { publisher = place; slot = slot; moment = n.moments; words = words }

pub sends_begin_as_written : SendsBeginAsWritten
sends_begin_as_written = λ m n place slot payload user_header before t found.
    let there = publishers.ends_there m place (call.Write slot payload user_header) before n t found in
    let keeps = writes_keep_user_headers m n place slot payload user_header before there.0 t found there.1 in
    let head : with_number (number_after (there.0).last) (kept_head slot there.0)
    ≡ with_number (number_after before.last) (with_user_header (kept_head slot before) user_header.items)
    = ap (λ (o : Option ℕ). with_number (number_after o) (kept_head slot there.0)) keeps.last
    ∙ ap (with_number (number_after before.last)) keeps.own in
    let words : with_number (number_after (there.0).last) (kept_head slot there.0) ++ payload_held n.table slot
    ≡ written_words slot before user_header.items payload.items
    = ap (λ (xs : List ℕ). xs ++ payload_held n.table slot) head
    ∙ ap (λ (xs : List ℕ). with_number (number_after before.last) (with_user_header (kept_head slot before) user_header.items) ++ xs)
    (writes_hold_in_turn m n place slot payload user_header t) in
    ap (sent_by n place (call.Send slot)) there.1
    ∙ ap (λ (xs : List ℕ). message n place slot xs ∷ []) words

pub reads_give_what_was_written : ReadsGiveWhatWasWritten
reads_give_what_was_written = λ m n place slot payload user_header before t found fit entries sent after steps few party step read made
    more is.
    let rests = calls_end_in_turn m (Publisher place) (call.Write slot payload user_header) n t in
    let entry : Entry = record { party = Publisher place; step = Begin (call.Send slot) } in
    let begun : List MessageState = begun_messages n (Publisher place) (Begin (call.Send slot)) in
    let words : List ℕ = written_words slot before user_header.items payload.items in
    reads_give_what_was_sent n rests.0 rests.1 (entry ∷ entries) (begun ++ sent) after (inr (fit, (sent, refl, steps))) few party step read
    slot made more is
    ∙ ap (λ (ms : List MessageState). after.read ++ last_in (slot_held n.table slot) (ms ++ sent) slot)
    (sends_begin_as_written m n place slot payload user_header before t found)
    ∙ ap (λ (b : Bool). after.read ++ last_in (if b then words else slot_held n.table slot) sent slot) (eq-eqb slot slot refl)
