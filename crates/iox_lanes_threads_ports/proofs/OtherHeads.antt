-- Calls on other loans leave the user header that is kept for a loan: only its own write changes it.
use Rattle.std.proofs.Common.{ℕ, ◌≡◌, ◌+◌, ◌-◌, ◌==◌, ◌&&◌, Bool, true, false, List, [], length, get_or, Option, None, Some, refl, sym}
use Rattle.std.proofs.Common.{ap, subst, ◌∙◌, inl, inr, arith}
use Rattle.std.proofs.lemmas.List.{get_or-set_other}
use Rattle.iox_lanes_machine.specs.LanesBase.Publishing.{publisher_is_idle}
use Rattle.iox_lanes_machine.specs.LanesParties.Parties.{PublisherLaneState, is_out, kept_head, publisher_begun, publisher_fits}
use Rattle.iox_lanes_machine.specs.LanesParties.Parties.{with_user_header}
use Rattle.iox_lanes_machine.specs.LanesParties.PublisherKeeping.{loan_of}
use Rattle.iox_lanes_machine.specs.LanesParties.declared.call.Answer.{Answer}
use Rattle.iox_lanes_machine.specs.LanesParties.declared.call.Call.TheVariants as call
use Rattle.iox_lanes_machine.specs.LanesParties.declared.call.Move.TheVariants.{Begin}
use Rattle.iox_lanes_machine.proofs.LanesParties.Rings.{and_left, and_right}
use Rattle.iox_lanes_threads_ports.specs.OtherLoans.{KeepsHead, CallsKeepHeads}
use Rattle.iox_lanes_threads_ports.specs.Paces.{loan_steps, send_steps}
use Rattle.iox_lanes_threads_ports.specs.Values.{PublisherPort, Publishes, Drops, Writes, as_lent, as_sent, write_begins}
use Rattle.iox_lanes_threads_ports.proofs.KnownWrites.{KeepsHeads, heads_stay, heads_along}
use Rattle.iox_lanes_threads_ports.proofs.PublisherSteps as publishers

both_keep : (lane between now : PublisherLaneState) → KeepsHeads lane between → KeepsHeads between now → KeepsHeads lane now
both_keep lane between now one other = record { heads = other.heads ∙ one.heads; first = other.first ∙ one.first }

head_kept : (slot : ℕ) (lane now : PublisherLaneState) → KeepsHeads lane now → kept_head slot now ≡ kept_head slot lane
head_kept slot lane now h = λ i. get_or (h.heads i) (slot - h.first i) []

-- a call that begins with the user headers as they are leaves them, be it answered or not
publishes_keeps : (slot : ℕ) (old new : PublisherPort) (fits : Bool) (begun : PublisherLaneState) (most : ℕ) (given : Option Answer)
    → KeepsHeads old.lane begun → Publishes old new fits begun most given → KeepsHead slot old new
publishes_keeps slot old new fits begun most None begins does = elim does [
  | inl none ↦ ap (kept_head slot) none.1.2
  | inr inside ↦ head_kept slot old.lane new.lane
      (both_keep old.lane begun new.lane begins (heads_along old.port begun new.port new.lane inside.1.goes))
]
publishes_keeps slot old new fits begun most (Some a) begins does =
    let run = does.1 in
    head_kept slot old.lane new.lane (subst (KeepsHeads old.lane) (sym run.after)
    (heads_stay old.lane run.last 0
    (both_keep old.lane begun run.last begins (heads_along old.port begun new.port run.last run.goes))))

drop_keeps : (slot : ℕ) (old new : PublisherPort) (loan : ℕ) (done : Bool) → Drops old loan new done → KeepsHead slot old new
drop_keeps slot old new loan false drops = ap (kept_head slot) drops.1.2
drop_keeps slot old new loan true drops =
    let begun : PublisherLaneState = publisher_begun 0 (call.DropLoan loan) old.lane in
    let run = drops.3 in
    head_kept slot old.lane new.lane (subst (KeepsHeads old.lane) (sym run.after)
    (heads_stay old.lane run.last 0
    (both_keep old.lane begun run.last (record { heads = refl; first = refl })
    (heads_along old.port begun new.port run.last run.goes))))

-- a write changes the user header of its own loan alone
write_keeps : (slot : ℕ) (old new : PublisherPort) (loan : ℕ) (payload user_header : List ℕ) (done : Bool)
    → Writes old loan payload user_header new done → (loan ≡ slot → ⊥) → is_out (loan_of slot old.lane.port.book) ≡ true
    → KeepsHead slot old new
write_keeps slot old new loan payload user_header false h apart out = ap (kept_head slot) h.1.2
write_keeps slot old new loan payload user_header true h apart out =
    let run = h.1 in
    let begun : PublisherLaneState = write_begins old.lane loan payload user_header in
    let ended : KeepsHeads begun new.lane =
    subst (KeepsHeads begun) (sym run.after) (heads_stay begun run.last 0 (heads_along old.port begun new.port run.last run.goes)) in
    let may = and_right (publisher_is_idle old.lane.port.call)
    (is_out (loan_of loan old.lane.port.book) && (length payload == length old.lane.port.payload)
    && (3 + length user_header == length old.lane.port.head)) h.0 in
    let first = and_left (is_out (loan_of loan old.lane.port.book) && (length payload == length old.lane.port.payload))
    (3 + length user_header == length old.lane.port.head) may in
    let written = publishers.out_is_own old.lane.port.book loan
    (and_left (is_out (loan_of loan old.lane.port.book)) (length payload == length old.lane.port.payload) first) in
    let mine = publishers.out_is_own old.lane.port.book slot out in
    head_kept slot begun new.lane ended
    ∙ get_or-set_other old.lane.heads (loan - old.lane.port.book.first) (slot - old.lane.port.book.first)
    (with_user_header (kept_head loan old.lane) user_header) []
    (λ same. apart (omega (arith, same, written.0, mine.0)))

pub calls_keep_heads : CallsKeepHeads
calls_keep_heads slot old new = (
  λ given loans. publishes_keeps slot old new (publisher_fits old.lane (Begin call.LoanUninit))
      (publisher_begun 0 call.LoanUninit old.lane) (loan_steps old.port.service.sizes) (as_lent given)
      (record { heads = refl; first = refl }) loans,
  λ loan told sends. publishes_keeps slot old new (publisher_fits old.lane (Begin (call.Send loan)))
      (publisher_begun 0 (call.Send loan) old.lane) (send_steps old.port.service.sizes) (as_sent told)
      (record { heads = refl; first = refl }) sends,
  λ loan done drops. drop_keeps slot old new loan done drops,
  λ loan payload user_header done writes apart out. write_keeps slot old new loan payload user_header done writes apart out,
)
