-- A send goes from place to place.
use Rattle.std.proofs.Common.{arith, ◌≡◌, ◌+◌, ◌-◌, ◌<◌, ◌≤◌, ◌∙◌, ℕ, zero, suc, Bool, true, false, length, get_or, nat_lt, Option}
use Rattle.std.proofs.Common.{None, Some, if◌then◌else◌, refl, sym, ap, subst}
use Rattle.iox_domain_values.specs.declared.backpressure.BackpressureInfo.{BackpressureInfo}
use Rattle.iox_domain_values.specs.declared.backpressure.BackpressureDecision.{BackpressureDecision}
use Rattle.iox_domain_values.specs.declared.backpressure.BackpressureDecision.TheVariants as decided
use Rattle.iox_domain_ports.specs.Messages.{Message}
use Rattle.iox_domain_ports.specs.Ports.{is_live}
use Rattle.iox_domain_ports.specs.Progress.{ProgressState, passed, passed_all}
use Rattle.iox_domain_ports.specs.declared.meeting.Meeting.{Meeting}
use Rattle.iox_domain_ports.specs.declared.meeting.Meeting.TheVariants as meeting
use Rattle.iox_domain_ports.specs.declared.publisher_port.PublisherPort.{PublisherPort}
use Rattle.iox_domain_ports.specs.Sending.{Steps, Delivers, meeting_at, meeting_by, met, met_by, with_message, with_progress, goes_on_by}
use Rattle.iox_domain_ports.specs.Sending.{decided_by}

-- no place is passed over, or n are
pub none_passed : (count : ℕ) (progress : ProgressState) → count ≡ 0 → progress ≡ passed_all count progress
none_passed zero progress none = refl
none_passed (suc count) progress none = absurd (omega (arith, none))

pub some_passed : (count : ℕ) (progress : ProgressState) → 0 < count
    → record progress { place = progress.place + count; retries = 0; elapsed = 0 } ≡ passed_all count progress
some_passed zero progress some = absurd (omega (arith, some))
some_passed (suc count) progress some = refl

-- one place and then n are one more
one_more_passed : (count : ℕ) (progress : ProgressState) → passed_all count (passed progress) ≡ passed_all (suc count) progress
one_more_passed zero progress =
    let same : progress.place + 1 ≡ progress.place + suc zero = omega arith in
    ap (λ at. record progress { place = at; retries = 0; elapsed = 0 }) same
one_more_passed (suc count) progress =
    let same : progress.place + 1 + suc count ≡ progress.place + suc (suc count) = omega arith in
    ap (λ at. record progress { place = at; retries = 0; elapsed = 0 }) same

-- places that are tied to none are passed over
all_passed : {T U : Type 0} (may : BackpressureInfo → BackpressureDecision → Type 0) (count : ℕ) (port : PublisherPort T U)
    → port.progress.place + count ≤ length port.ties.items
    → ((place : ℕ) → port.progress.place ≤ place → get_or port.ties.items place None ≡ None)
    → Delivers may count port true (with_progress (passed_all count port.progress) port)
all_passed may zero port within none = (refl, refl)
all_passed {T} {U} may (suc count) port within none =
    let next : PublisherPort T U = with_progress (passed port.progress) port in
    let here : get_or port.ties.items port.progress.place None ≡ None = none port.progress.place (omega arith) in
    let inside : nat_lt port.progress.place (length port.ties.items) ≡ true = grind (arith, within) in
    let passes : meeting_at port.progress.place port ≡ meeting.Passed =
    ap (λ below. if below then meeting_by (get_or port.ties.items port.progress.place None) port else meeting.Over) inside
    ∙ ap (λ tie. meeting_by tie port) here in
    let stays : met port.progress.place port ≡ port = ap (λ tie. met_by tie port) here in
    let step : Steps may (meeting_at port.progress.place port) (met port.progress.place port) true next =
    subst (λ what. Steps may what (met port.progress.place port) true next) (sym passes)
    (subst (λ at. Steps may meeting.Passed at true next) (sym stays) (refl, refl)) in
    let further = all_passed may count next (omega (arith, within)) (λ place past. none place (omega (arith, past))) in
    let whole : Delivers may count next true (with_progress (passed_all (suc count) port.progress) port)
    = subst (λ progress. Delivers may count next true (with_progress progress port)) (one_more_passed count port.progress) further in
    (true, next, step, whole)

-- what a message at a place leaves of the progress and the ties
put_same : {T U : Type 0} (live : Bool) (index : ℕ) (sending : Option (Message T U)) (port : PublisherPort T U)
    → ((if live then with_message index sending port else port).progress ≡ port.progress)
    × ((if live then with_message index sending port else port).ties ≡ port.ties)
put_same false index sending port = (refl, refl)
put_same true index None port = (refl, refl)
put_same true index (Some message) port = (refl, refl)

met_same : {T U : Type 0} (tie : Option ℕ) (port : PublisherPort T U) → ((met_by tie port).progress ≡ port.progress)
    × ((met_by tie port).ties ≡ port.ties)
met_same None port = (refl, refl)
met_same (Some index) port = put_same (is_live index port) index port.sender.uses.sending port

-- a send that goes on is a place further
decided_on : {T U : Type 0} (decision : BackpressureDecision) (went : Bool) (port next : PublisherPort T U) → went ≡ true
    → went ≡ goes_on_by decision → next ≡ decided_by decision port
    → (next.progress.place ≡ port.progress.place + 1) × (next.ties ≡ port.ties)
decided_on decided.Retry went port next on is_went is = let no : true ≡ false = sym on ∙ is_went in absurd (cc)
decided_on decided.DiscardData went port next on is_went is = (ap (λ one. one.progress.place) is, ap (λ one. one.ties) is)
decided_on decided.DiscardDataAndFail went port next on is_went is = (ap (λ one. one.progress.place) is, ap (λ one. one.ties) is)

steps_on : {T U : Type 0} (may : BackpressureInfo → BackpressureDecision → Type 0) (what : Meeting) (went : Bool)
    (port next : PublisherPort T U) → went ≡ true → Steps may what port went next
    → (next.progress.place ≡ port.progress.place + 1) × (next.ties ≡ port.ties)
steps_on may meeting.Over went port next on step = let no : true ≡ false = sym on ∙ step.0 in absurd (cc)
steps_on may meeting.Passed went port next on step = (ap (λ one. one.progress.place) step.1, ap (λ one. one.ties) step.1)
steps_on may meeting.Delivered went port next on step = (ap (λ one. one.progress.place) step.1, ap (λ one. one.ties) step.1)
steps_on may (meeting.Full subscriber) went port next on (decision, allowed, is_went, is) = decided_on decision went port next on is_went is

-- The state of a send before it reaches a place: what the rest of the places results in is the result of all places.
pub record Going {T U : Type 0} (may : BackpressureInfo → BackpressureDecision → Type 0) (first now : PublisherPort T U) (place : ℕ) :
    Type 0 where
  pub rest : (arrived : Bool) (new : PublisherPort T U) → Delivers may (length first.ties.items - place) now arrived new
      → Delivers may (length first.ties.items - first.progress.place) first arrived new
  pub at : now.progress.place ≡ place
  pub ties : now.ties ≡ first.ties

-- one place more is gone over
pub going_on : {T U : Type 0} (may : BackpressureInfo → BackpressureDecision → Type 0) (first now next : PublisherPort T U) (place : ℕ)
    (went : Bool)
    → Going may first now place → place < length first.ties.items → went ≡ true
    → Steps may (meeting_at now.progress.place now) (met now.progress.place now) went next → Going may first next (place + 1)
going_on {T} {U} may first now next place went so_far within is step =
    let left : length first.ties.items - place ≡ suc (length first.ties.items - (place + 1)) = omega (arith, within) in
    let stepped : Steps may (meeting_at now.progress.place now) (met now.progress.place now) true next = rw (← is) step in
    let same = met_same (get_or now.ties.items now.progress.place None) now in
    let on = steps_on may (meeting_at now.progress.place now) true (met now.progress.place now) next refl stepped in
    record {
      rest = λ arrived new further. so_far.rest arrived new (rw left (true, next, stepped, further));
      at = on.0 ∙ ap (λ progress. progress.place + 1) same.0 ∙ ap (λ n. n + 1) so_far.at;
      ties = on.1 ∙ same.1 ∙ so_far.ties;
    }

-- the send is blocked at a place
pub waits : {T U : Type 0} (may : BackpressureInfo → BackpressureDecision → Type 0) (first now next : PublisherPort T U) (place : ℕ)
    (went : Bool)
    → Going may first now place → place < length first.ties.items → went ≡ false
    → Steps may (meeting_at now.progress.place now) (met now.progress.place now) went next
    → Delivers may (length first.ties.items - first.progress.place) first false next
waits {T} {U} may first now next place went so_far within is step =
    let left : length first.ties.items - place ≡ suc (length first.ties.items - (place + 1)) = omega (arith, within) in
    let stepped : Steps may (meeting_at now.progress.place now) (met now.progress.place now) false next = rw (← is) step in
    so_far.rest false next (rw left (false, next, stepped, (refl, refl)))

-- no place is left
pub arrives : {T U : Type 0} (may : BackpressureInfo → BackpressureDecision → Type 0) (first now : PublisherPort T U) (place : ℕ)
    → Going may first now place → length first.ties.items ≤ place
    → Delivers may (length first.ties.items - first.progress.place) first true now
arrives may first now place so_far over =
    let none : length first.ties.items - place ≡ zero = omega (arith, over) in
    so_far.rest true now (rw none (refl, refl))

-- the places that are left are tied to none
pub arrives_past : {T U : Type 0} (may : BackpressureInfo → BackpressureDecision → Type 0) (first now : PublisherPort T U) (place : ℕ)
    → Going may first now place → place ≤ length first.ties.items
    → ((other : ℕ) → place ≤ other → get_or now.ties.items other None ≡ None)
    → Delivers may (length first.ties.items - first.progress.place) first true
    (with_progress (passed_all (length first.ties.items - place) now.progress) now)
arrives_past may first now place so_far within none =
    let same : length now.ties.items ≡ length first.ties.items = ap (λ ties. length ties.items) so_far.ties in
    so_far.rest true _ (all_passed may (length first.ties.items - place) now (omega (arith, so_far.at, within, same))
    (λ other past. none other (omega (arith, past, so_far.at))))
